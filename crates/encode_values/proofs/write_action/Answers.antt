-- `write_action` meets its contract: the fields are the payload of the header before them. Assumes nothing.
use Rattle.std.proofs.Common.{arith}
use Rattle.encode_values.proofs.Headers.{length_action, action_last}
use Rattle.encode_values.proofs.write_action.Goals as goal

pub overflow_add-start : goal.overflow_add-start
overflow_add-start g c = omega (arith, length_action c.args.op (g.T.Store.bytes c.args.fields), c.requires.room, c.requires.sums)

pub write_piece-end-requires : goal.write_piece-end-requires
write_piece-end-requires g c =
    record { known = tt; room = omega (arith, length_action c.args.op (g.T.Store.bytes c.args.fields), c.requires.room); sums = c.requires.sums }

pub write_action_header-requires : goal.write_action_header-requires
write_action_header-requires g c = omega (arith, length_action c.args.op (g.T.Store.bytes c.args.fields), c.requires.room, c.write_piece-end.auto.out)

pub returns : goal.returns
returns g c =
    let end = c.write_piece-end.ensures in
    let put = action_last c.args.op (g.T.Store.bytes c.args.fields) {next = c.args.next} _ (omega (arith, end.end)) end.wrote c.write_action_header.ensures.1 end.end in
    record { wrote = put.wrote; end = put.end; next = end.next }
