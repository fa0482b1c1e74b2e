-- What two editions have in common: a sheet is answered the same in both, but where the one with the fewer label numbers refuses a
-- label number, which the sheet then names. Assumes nothing.
use Rattle.std.proofs.Math.Path.{◌≡◌}
use Prim.Native.Nat.{ℕ, ◌+◌, ◌≤◌, ◌<◌}
use mathlib.Core.List.{List, [], ◌∷◌, ◌++◌}
use Rattle.layout.specs.Numbers.{u16_at, le16}
use Rattle.layout.specs.Answers.{Fault, BadField, Refusal, ReadingFault, Refused}
use Rattle.layout.specs.Tree.{Entry, entry, ActionOf, flat, branch, owner, Try, ActionListOf, empty, more, ActionsOf, Actions, body, CatchOf, no_catch, catch, FinallyOf, no_finally, finally}
use Rattle.layout.specs.Read.{Place, Stop, Read, got, bad}
use Rattle.layout.specs.Strings.{map_action, map_actions, map_body, map_catch, map_finally}
use Rattle.layout.specs.Judge.{Mode}
use Rattle.layout.specs.Cut.{Edition, First, edition_number, Cut, main, uncut, cut}
use Rattle.layout.specs.Pack.{pack, ReadsAs}

-- ---- the label numbers that a tree names, in its entries and its branches, are under a bound

module _ (n : ℕ) where
  abbrev pub EntriesUnder : List Entry → Type 0
  EntriesUnder [] = Unit {0}
  EntriesUnder (entry l i ∷ es) = (l < n) × EntriesUnder es

  abbrev mutual
    pub NamesUnder : {S : Type 0} → ActionOf S ℕ → Type 0
    NamesUnder (flat f) = Unit {0}
    NamesUnder (branch k l) = l < n
    NamesUnder (owner o b) = BodyNamesUnder b
    NamesUnder (Try b c f) = BodyNamesUnder b × CatchNamesUnder c × FinallyNamesUnder f

    pub ActionsNameUnder : {S : Type 0} → ActionListOf S ℕ → Type 0
    ActionsNameUnder empty = Unit {0}
    ActionsNameUnder (more a xs) = NamesUnder a × ActionsNameUnder xs

    pub BodyNamesUnder : {S : Type 0} → ActionsOf S ℕ → Type 0
    BodyNamesUnder (body es xs) = EntriesUnder es × ActionsNameUnder xs

    pub CatchNamesUnder : {S : Type 0} → CatchOf S ℕ → Type 0
    CatchNamesUnder no_catch = Unit {0}
    CatchNamesUnder (catch t b) = BodyNamesUnder b

    pub FinallyNamesUnder : {S : Type 0} → FinallyOf S ℕ → Type 0
    FinallyNamesUnder no_finally = Unit {0}
    FinallyNamesUnder (finally b) = BodyNamesUnder b

  -- a tree's strings do not matter
  module _ {S T : Type 0} (w : S → T) where
    mutual
      unfolding map_action

      action_named : (a : ActionOf S ℕ) → NamesUnder (map_action w a) → NamesUnder a
      action_named (flat f) h = tt
      action_named (branch k l) h = h
      action_named (owner o b) h = body_named b h
      action_named (Try b c f) h = (body_named b h.0, catch_named c h.1, finally_named f h.2)

      actions_named : (xs : ActionListOf S ℕ) → ActionsNameUnder (map_actions w xs) → ActionsNameUnder xs
      actions_named empty h = tt
      actions_named (more a xs) h = (action_named a h.0, actions_named xs h.1)

      pub body_named : (b : ActionsOf S ℕ) → BodyNamesUnder (map_body w b) → BodyNamesUnder b
      body_named (body es xs) h = (h.0, actions_named xs h.1)

      catch_named : (c : CatchOf S ℕ) → CatchNamesUnder (map_catch w c) → CatchNamesUnder c
      catch_named no_catch h = tt
      catch_named (catch t b) h = body_named b h

      finally_named : (f : FinallyOf S ℕ) → FinallyNamesUnder (map_finally w f) → FinallyNamesUnder f
      finally_named no_finally h = tt
      finally_named (finally b) h = body_named b h

-- ---- two readings of one thing

-- what a reading gives names a label number that is not under the bound, where it gives anything
pub data Big {A : Type 0} (under : A → Type 0) : Read A → Type 0 where
  told : {a : A} {q : Place} → (under a → ⊥) → Big under (got a q)
  faulty : {f : Fault} {q : Stop} → Big under (bad f q)

-- x is a reading of bytes b by fewer label numbers than y: they are the same, or x refuses the label number at a place, which is not
-- under its bound but under the wider one
pub data Alike (bound wider : ℕ) (b : List ℕ) {A : Type 0} (under : A → Type 0) : Read A → Read A → Type 0 where
  same : {x : Read A} → Alike bound wider b under x x
  over : {p : Stop} {y : Read A} → bound ≤ u16_at b p.at → u16_at b p.at < wider → Big under y → Alike bound wider b under (bad BadField p) y

-- ---- two sheets that differ only in the edition

-- the sheet with these bytes before its edition, the distance last, and these behind it
unfoldable pub sheet_in : Edition → List ℕ → List ℕ → List ℕ
sheet_in i front mark = front ++ (le16 (edition_number i) ++ mark)

-- they are cut alike
pub data CutAlike (i j : Edition) : Cut → Cut → Type 0 where
  mains : {start : ℕ} {b : List ℕ} → CutAlike i j (main i start b) (main j start b)
  uncuts : {r : Refusal} → CutAlike i j (uncut r) (uncut r)

-- ---- and their answers: editions 1 and 2

-- a label number from 1,024 on stands at place p of the main body b, where edition 1 refuses it; and no tree that edition 2 reads
-- there names only label numbers under 1,024
pub record LabelRefused (m : Mode) (s s' book book' : List ℕ) (room : ℕ) : Type 0 where
  pub start : ℕ
  pub bytes : List ℕ
  pub place : Stop
  pub is_cut : cut s ≡ main First start bytes
  pub is_refused : pack m s book room ≡ Refused (ReadingFault BadField (start + place.at) place.begun)
  pub is_over : 1024 ≤ u16_at bytes place.at
  pub is_named : (t : Actions) → ReadsAs s' book' t → BodyNamesUnder 1024 t → ⊥
