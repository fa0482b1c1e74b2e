-- `write_constant` meets its contract: a number under 256 has one byte. Assumes nothing.
use borrow.Author.Tests.{lt-ltb, le-ltb}
use Rattle.layout.specs.Numbers.{le16}
use Rattle.layout.specs.Lists.{pick}
use Rattle.layout.specs.Lengths.{push_length}
use Rattle.encode_values.proofs.Puts.{low_constant, high_constant}
use Rattle.encode_values.proofs.write_constant.Goals as goal

pub write_measured-requires : goal.write_measured-requires
unfolding push_length pick
write_measured-requires c =
    (rw (lt-ltb _ 256 c.if-n-lt256.true) at c.push_constant_len-len.ensures, rw (low_constant _ c.if-n-lt256.true) at c.requires)

pub write_measured-requires-else-n-lt256 : goal.write_measured-requires-else-n-lt256
unfolding push_length pick le16
write_measured-requires-else-n-lt256 c =
    (rw (le-ltb _ 256 c.if-n-lt256.false) at c.push_constant_len-len.ensures, rw (high_constant _ c.if-n-lt256.false) at c.requires)

pub returns-then-n-lt256 : goal.returns-then-n-lt256
returns-then-n-lt256 c = rw (low_constant _ c.if-n-lt256.true) c.write_measured.ensures

pub returns-else-n-lt256 : goal.returns-else-n-lt256
returns-else-n-lt256 c = rw (high_constant _ c.if-n-lt256.false) c.write_measured-else-n-lt256.ensures
