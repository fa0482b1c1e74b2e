-- The refusal that a noted length is: 8 or 9. Assumes nothing.
use Rattle.std.specs.Prelude.{ℕ}
use Rattle.layout.specs.Answers.{Refusal, ActionLenOverflow, BlockLenOverflow}
use Rattle.measure.specs.declared.Limit.{Limit}
use Rattle.measure.specs.declared.Limit.TheVariants as limit
use Rattle.measure.specs.declared.Overflow.{Overflow}

-- by which length it is; one of another number, which no walk notes, counts as a body's
unfoldable pub refusal_by : Limit → ℕ → ℕ → Refusal
refusal_by limit.ActionLen n k = ActionLenOverflow n k
refusal_by limit.BlockLen n k = BlockLenOverflow n k
refusal_by (limit.Other number) n k = BlockLenOverflow n k

abbrev pub refusal_of : Overflow → Refusal
refusal_of o = refusal_by o.limit o.len o.action.0
