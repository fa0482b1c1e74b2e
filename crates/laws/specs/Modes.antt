-- The modes. A stricter mode answers what a weaker one does, or a refusal that it asks for and the weaker one does not. Where a
-- mode bars no branch, it answers what plain mode answers. Assumes nothing.
use Rattle.std.specs.Prelude.{◌≡◌, Bool, List}
use Prim.Native.Nat.{ℕ}
use Rattle.std.proofs.Math.Bool.{true, false}
use Rattle.std.proofs.Math.Option.{Option, none, some}
use Rattle.layout.specs.Answers.{Refusal, NeverRecorded, StrayBranch, Answer, Refused}
use Rattle.layout.specs.Tree.{Actions}
use Rattle.layout.specs.Write.{lookup, events}
use Rattle.layout.specs.Judge.{Mode, barred}
use Rattle.laws.specs.Branches.{EachBranch}

-- ---- the modes, and what they refuse besides

-- 14 and 15
pub data OfMode : Refusal → Type 0 where
  never_recorded : {p k : ℕ} → OfMode (NeverRecorded p k)
  stray_branch : {p k : ℕ} → OfMode (StrayBranch p k)

-- whether a mode asks for it
abbrev pub asks : {r : Refusal} → Mode → OfMode r → Bool
asks m never_recorded = m.strict
asks m stray_branch = m.contained

-- m asks for it and m' does not
pub record Added (m m' : Mode) (r : Refusal) : Type 0 where
  pub of_mode : OfMode r
  pub is_asked : asks m of_mode ≡ true
  pub is_unasked : asks m' of_mode ≡ false

-- m asks for all that m' asks for
pub record Stricter (m m' : Mode) : Type 0 where
  pub is_strict : m'.strict ≡ true → m.strict ≡ true
  pub is_contained : m'.contained ≡ true → m.contained ≡ true

-- ---- a stricter mode

-- an answer of the mode m, by that of m': the same, or a refusal that m adds
pub data AsWeaker (m m' : Mode) (weaker : Answer (List ℕ)) : Answer (List ℕ) → Type 0 where
  same : AsWeaker m m' weaker weaker
  besides : {r : Refusal} → Added m m' r → AsWeaker m m' weaker (Refused r)

-- what is found on the way, by the same
pub data Beside (m m' : Mode) (weaker : Option Refusal) : Option Refusal → Type 0 where
  same : Beside m m' weaker weaker
  besides : {r : Refusal} → Added m m' r → Beside m m' weaker (some r)

-- ---- no branch barred

-- a mode bars no branch of a tree
abbrev pub Unbarred : Mode → Actions → Type 0
Unbarred m t = EachBranch (λ l s. barred m (lookup l (events t)) s ≡ none) (events t)

-- ---- plain mode

-- an answer that is plain mode's, or a refusal of a mode's own
pub data AsPlain (plain : Answer (List ℕ)) : Answer (List ℕ) → Type 0 where
  same : AsPlain plain plain
  besides : {r : Refusal} → OfMode r → AsPlain plain (Refused r)
