-- "Tie the steps to the sheet": "every Done block, in each mode and edition, is clean; .. its count is one more than all actions in all
-- bodies; and .. every branch, an unrecorded one included, lands where some step begins". Tying proves it. Assumes nothing.
use Rattle.std.specs.Prelude.{◌≡◌, ℕ, ◌+◌, ◌<◌, List, get_or}
use Rattle.std.proofs.Math.Option.{Option, none, some}
use Rattle.layout.specs.Answers.{Done}
use Rattle.layout.specs.Tree.{Actions, body_count}
use Rattle.layout.specs.Write.{Position, lookup, branch_bits, events}
use Rattle.layout.specs.Step.{step}
use Rattle.laws.specs.Branches.{EachBranch}
use Rattle.action_numbers.specs.Numbered.{body_in_order, Names}
use Rattle.tied_steps.specs.Places.{StepAt}
use Rattle.tied_steps.specs.Own.{own_bytes}
use Rattle.tied_steps.specs.Landing.{BranchOpcode, Lands, AllLand}

-- where a branch goes by its label's record, if there is one, from the place after its operand: "an unrecorded one" goes on there
unfoldable pub landing : Option Position → ℕ → ℕ
landing none after = after
landing (some r) after = r.at

-- a branch of the tree t, to label l and with its operand at o, is the step of its own number in the block q: the step begins three
-- bytes before the operand, with a branch's opcode, and lands by the label's final record
pub record BranchStep (t : Actions) (q : List ℕ) (l : ℕ) (o : Position) : Type 0 where
  pub place : ℕ
  pub x : List ℕ
  pub is_step : StepAt q o.number place x
  pub is_branch : BranchOpcode (get_or x 0 0)
  pub is_operand : o.at ≡ place + 3
  pub lands : Lands q place x (landing (lookup l (events t)) (o.at + 2))

-- the block q is tied to the tree t
pub record Tied (t : Actions) (q : List ℕ) : Type 0 where
  -- "is clean", and "its count is one more than all actions in all bodies"
  pub is_clean : step q ≡ Done (body_count t + 1)
  -- action k, in sheet order, is step k: its header and its payload
  pub are_steps : (k : ℕ) → k < body_count t → Names (body_in_order t) k (λ p a. StepAt q k p (own_bytes (branch_bits t) a p))
  -- "every branch .. lands where some step begins": by the bytes alone, whatever step has a branch's opcode
  pub all_land : AllLand q
  -- each branch of the tree, "an unrecorded one included", is such a step
  pub are_branches : EachBranch (BranchStep t q) (events t)
