-- `write_push_value` meets its contract: each value is as long as its kind tells. Assumes nothing.
use Rattle.std.proofs.Common.{refl, arith}
use Rattle.layout.specs.Numbers.{le16, le32}
use Rattle.layout.specs.Payload.{double_bytes}
use Rattle.encode_values.proofs.Puts.{length_span}
use Rattle.encode_values.proofs.write_push_value.Goals as goal

pub string_len-requires : goal.string_len-requires
string_len-requires c =
    let r = rw c.in-String.is at c.requires in
    omega (arith, length_span c.args.m.now c.in-String.s r.0, r.1.room, r.1.sums)

pub write_measured-requires : goal.write_measured-requires
write_measured-requires c =
    let r = rw c.in-String.is at c.requires in
    rw c.string_of.ensures (omega (arith, length_span c.args.m.now c.in-String.s r.0, c.string_len.ensures), r.1)

pub write_measured-requires-in-Float : goal.write_measured-requires-in-Float
unfolding double_bytes le32 le16
write_measured-requires-in-Float c = let r = rw c.in-Float.is at c.requires.1 in (refl, r)

pub write_measured-requires-in-Integer : goal.write_measured-requires-in-Integer
unfolding le32 le16
write_measured-requires-in-Integer c = let r = rw c.in-Integer.is at c.requires.1 in (refl, r)
