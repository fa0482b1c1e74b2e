-- `write_string_action` meets its contract: the header holds the string's length. Assumes nothing.
use native.Mathlib.Omega.{arith}
use Rattle.encode_values.proofs.Puts.{length_span}
use Rattle.encode_strings.proofs.Wholes.{string_fits}
use Rattle.encode_strings.proofs.write_string_action.Goals as goal

pub string_len-len-requires : goal.string_len-len-requires
string_len-len-requires c = string_fits c.args.m.now c.args.op c.args.s c.requires.0 c.requires.1

pub write_measured_action-requires : goal.write_measured_action-requires
write_measured_action-requires c = rw c.string_of.ensures (omega (arith, length_span c.args.m.now c.args.s c.requires.0, c.string_len-len.ensures), c.requires.1)

pub returns : goal.returns
returns c = rw c.string_of.ensures at c.write_measured_action.ensures
