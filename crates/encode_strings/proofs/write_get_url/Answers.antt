-- `write_get_url` meets its contract: the header holds the length of the two strings behind it. Assumes nothing.
use native.Mathlib.Omega.{arith}
use Rattle.layout.specs.OpCode.{byte}
use Rattle.layout.specs.Payload.{opcode, payload, framed}
use Rattle.encode_strings.proofs.Wholes.{strings_fit, length_strings}
use Rattle.encode_strings.proofs.write_get_url.Goals as goal

pub get_url_len-len-requires : goal.get_url_len-len-requires
get_url_len-len-requires c = strings_fit c.args.m.now c.args.url c.args.target c.requires.0 c.requires.1 c.requires.2

pub write_measured_action-requires : goal.write_measured_action-requires
unfolding framed byte opcode payload
write_measured_action-requires c =
    rw (c.string_of.ensures, c.string_of-2.ensures) (omega (arith, length_strings c.args.m.now c.args.url c.args.target c.requires.0 c.requires.1, c.get_url_len-len.ensures), c.requires.2)

pub returns : goal.returns
unfolding framed byte opcode payload
returns c = rw (c.string_of.ensures, c.string_of-2.ensures) at c.write_measured_action.ensures
