-- `block_length_at` meets its contract. Assumes nothing.
use Rattle.std.proofs.Common.{arith}
use Rattle.layout.specs.Numbers.{le16}
use Rattle.writer.proofs.block_length_at.Goals as goal

pub patch-requires : goal.patch-requires
unfolding le16
patch-requires c = rw c.new.ensures.0 (omega arith)
