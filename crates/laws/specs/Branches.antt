-- Judging in parts: the first of two refusals, the branches among events, the final record of a label, and the first branch that a
-- rule refuses. Assumes nothing.
use Rattle.std.specs.Prelude.{ℕ}
use Rattle.std.proofs.Math.Option.{Option, none, some}
use mathlib.Core.List.{List, [], ◌∷◌}
use Rattle.layout.specs.Write.{Position, Event, label_at, branch_at, payload_too_long, body_too_long}

-- ---- the branches among events

-- each is so, by its label and its operand's position
abbrev pub EachBranch : (ℕ → Position → Type 0) → List Event → Type 0
EachBranch P [] = Unit {0}
EachBranch P (label_at l s ∷ es) = EachBranch P es
EachBranch P (branch_at l s ∷ es) = P l s × EachBranch P es
EachBranch P (payload_too_long n s ∷ es) = EachBranch P es
EachBranch P (body_too_long n s ∷ es) = EachBranch P es

-- ---- the final record of a label

-- it is so, if there is one
abbrev pub IfRecorded : (Position → Type 0) → Option Position → Type 0
IfRecorded P none = Unit {0}
IfRecorded P (some s) = P s
