-- `header_at` meets its contract. Assumes nothing.
use Rattle.std.proofs.Common.{arith, rules}
use Rattle.layout.specs.Numbers.{le16}
use Rattle.writer.proofs.header_at.Goals as goal

pub append-requires : goal.append-requires
unfolding le16
append-requires c = rw (c.new.ensures.0, c.new.ensures.1) (omega arith)

-- The header is the opcode and, right behind it, the length.
pub returns-clause-appends : goal.returns-clause-appends
unfolding le16
returns-clause-appends c = rw (c.append.ensures, c.new.ensures.0, c.new.ensures.1) (search rules)
