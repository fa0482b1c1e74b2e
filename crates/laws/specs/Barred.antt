-- What a mode bars: what it asks of a branch, and what its Done says of a tree. Assumes nothing.
use Rattle.std.specs.Prelude.{◌≡◌}
use Rattle.std.proofs.Math.Bool.{true}
use Rattle.std.proofs.Math.Option.{Option, none, some}
use Rattle.layout.specs.Tree.{Actions}
use Rattle.layout.specs.Write.{Position, lookup, events}
use Rattle.layout.specs.Judge.{Mode}
use Rattle.laws.specs.Branches.{EachBranch}

-- ---- one branch, by its label's final record and its operand's position

-- it has a record
pub data HasRecord : Option Position → Type 0 where
  has_record : {r : Position} → HasRecord (some r)

-- its record, if it has one, is in the branch's own function body
pub data AtHome : Option Position → Position → Type 0 where
  nowhere : {s : Position} → AtHome none s
  at_home : {r s : Position} → r.home ≡ s.home → AtHome (some r) s

-- "in another function body"
pub data Stray : Option Position → Position → Type 0 where
  stray : {r s : Position} → (r.home ≡ s.home → ⊥) → Stray (some r) s

-- what a mode asks of a branch
pub record Allowed (m : Mode) (o : Option Position) (s : Position) : Type 0 where
  pub is_recorded : m.strict ≡ true → HasRecord o
  pub is_home : m.contained ≡ true → AtHome o s

-- ---- the branches of a tree

-- each one's label is recorded
abbrev pub TreeRecorded : Actions → Type 0
TreeRecorded t = EachBranch (λ l s. HasRecord (lookup l (events t))) (events t)

-- each one's label is recorded in the branch's own function body or nowhere
abbrev pub TreeContained : Actions → Type 0
TreeContained t = EachBranch (λ l s. AtHome (lookup l (events t)) s) (events t)
