-- The test lends enough room for its action. Assumes nothing.
use Rattle.std.proofs.Common.{arith}
use Rattle.layout.specs.Numbers.{le16}
use Rattle.layout.specs.Payload.{headed}
use Rattle.encode_values.proofs.tests.writes_an_action.Goals as goal

pub write_action-end-requires : goal.write_action-end-requires
write_action-end-requires g c = record { known = tt; room = unfold headed le16 in omega arith; sums = omega arith }
