-- The action that a refusal names: of a sheet that reads whole, the one whose payload, body or branch is wrong. A fault's number is
-- at most that of the bytes read, 18 is answered only where the book of an edition 3 sheet is ill formed, and an i64 holds the
-- number of every answer. Assumes nothing.
use Rattle.std.proofs.Math.Path.{◌≡◌}
use Rattle.std.specs.Prelude.{ℕ, ◌+◌, ◌<◌, ℤ}
use Rattle.std.proofs.Math.Bool.{true, false}
use Rattle.std.proofs.Math.Option.{Option, none, some}
use mathlib.Core.List.{List, ◌∷◌, ◌++◌}
use Rattle.layout.specs.Answers.{Fault, Refusal, SheetTooLong, BadTrailer, ActionLenOverflow, BlockLenOverflow, JumpOffsetOverflow, NeverRecorded, StrayBranch}
use Rattle.layout.specs.Tree.{Actions}
use Rattle.layout.specs.Read.{Terms, Stop, bad, deepest, read_main}
use Rattle.layout.specs.Write.{Position, Event, branch_at, lookup, events}
use Rattle.layout.specs.Judge.{distance, is_near, judged, Mode, barred}
use Rattle.layout.specs.Cut.{Edition, Third, Cut, main, uncut, cut}
use Rattle.layout.specs.Book.{book_of}
use Rattle.layout.specs.Pack.{edition_terms, fault_action}
use Rattle.laws.specs.Branches.{EachBranch}
use Rattle.laws.specs.Barred.{Stray}
use Rattle.action_numbers.specs.Numbered.{payload_size, BranchTo, OwnsBody, body_in_order, Names}

-- ---- what a refusal says of the action that it names

-- a branch's record lies at this distance from the position after its operand, "outside -32,768 to 32,767"
pub data Far (z : ℤ) : Option Position → Position → Type 0 where
  too_far : {r s : Position} → is_near r.at (s.at + 2) ≡ false → z ≡ distance (some r) (s.at + 2) → Far z (some r) s

-- the branch whose operand stands at p, action k, is wrong, and every branch before it is neither barred by the mode nor too far
pub record FirstWrong (Wrong : Option Position → Position → Type 0) (m : Mode) (t : Actions) (p k : ℕ) : Type 0 where
  pub before : List Event
  pub label : ℕ
  pub operand : Position
  pub later : List Event
  pub is_among : events t ≡ before ++ (branch_at label operand ∷ later)
  pub is_at : operand.at ≡ p
  pub is_action : operand.number ≡ k
  pub is_wrong : Wrong (lookup label (events t)) operand
  pub are_unbarred : EachBranch (λ l s. barred m (lookup l (events t)) s ≡ none) before
  pub are_near : EachBranch (λ l s. judged (lookup l (events t)) (s.at + 2) s.number ≡ none) before

-- the first branch that is wrong, whose operand stands at p, is action k of the tree: a branch to that label, three bytes before p
pub record WrongBranch (Wrong : Option Position → Position → Type 0) (m : Mode) (t : Actions) (p k : ℕ) : Type 0 where
  pub first : FirstWrong Wrong m t p k
  pub named : Names (body_in_order t) k (λ start a. BranchTo first.label a × (p ≡ start + 3))

-- 8 names the action with the payload, "9 give the action that owns the body; 10 and 14 give the branch", and so does 15
pub data Says (m : Mode) (t : Actions) : Refusal → Type 0 where
  a_long_payload : {n k : ℕ} → Names (body_in_order t) k (λ start a. (payload_size a ≡ n) × (65535 < n)) → Says m t (ActionLenOverflow n k)
  a_long_body : {n k : ℕ} → Names (body_in_order t) k (λ start a. OwnsBody n a × (65535 < n)) → Says m t (BlockLenOverflow n k)
  a_far_branch : {z : ℤ} {p k : ℕ} → WrongBranch (Far z) m t p k → Says m t (JumpOffsetOverflow z k)
  an_unrecorded_branch : {p k : ℕ} → m.strict ≡ true → WrongBranch (λ o s. o ≡ none) m t p k → Says m t (NeverRecorded p k)
  a_stray_branch : {p k : ℕ} → m.contained ≡ true → WrongBranch Stray m t p k → Says m t (StrayBranch p k)

-- ---- of a fault

-- what a sheet that is not cut is refused by: 1 and 2
pub data Uncut : Refusal → Type 0 where
  is_too_long : {n : ℕ} → Uncut (SheetTooLong n)
  bad_trailer : Uncut BadTrailer

abbrev pub UncutIf : Cut → Type 0
UncutIf (main i start b) = Unit {0}
UncutIf (uncut r) = Uncut r

-- reading the main body, with this book, met the fault f, which is told by place p and action k
pub record Meets (s book : List ℕ) (f : Fault) (p k : ℕ) : Type 0 where
  pub edition : Edition
  pub start : ℕ
  pub bytes : List ℕ
  pub terms : Terms
  pub met : Stop
  pub is_cut : cut s ≡ main edition start bytes
  pub is_lent : edition_terms edition (book_of book) ≡ some terms
  pub is_read : read_main terms bytes deepest ≡ bad f met
  pub is_place : start + met.at ≡ p
  pub is_action : fault_action f met.begun ≡ k

-- ---- of a book

-- the sheet is of edition 3, and its book is ill formed
pub record IllBook (s book : List ℕ) : Type 0 where
  pub start : ℕ
  pub bytes : List ℕ
  pub is_cut : cut s ≡ main Third start bytes
  pub is_ill : book_of book ≡ none
