-- `write_measured_action` meets its contract: the fields are the payload of the header before them. Assumes nothing.
use Rattle.std.proofs.Common.{arith}
use Rattle.encode_values.proofs.Headers.{length_action, action_first}
use Rattle.encode_values.proofs.write_measured_action.Goals as goal

pub write_action_header-payload-requires : goal.write_action_header-payload-requires
write_action_header-payload-requires g c = omega (arith, length_action c.args.op (g.T.Store.bytes c.args.fields), c.requires.1.room)

pub write_piece-requires : goal.write_piece-requires
write_piece-requires g c =
    let l = c.write_action_header-payload.auto.out in
    record {
      known = tt;
      room = omega (arith, length_action c.args.op (g.T.Store.bytes c.args.fields), c.requires.1.room, c.write_action_header-payload.ensures.0, l);
      sums = omega (arith, c.requires.1.sums, l);
    }

pub returns : goal.returns
returns g c = action_first c.args.op (g.T.Store.bytes c.args.fields) _ c.requires.0 c.write_action_header-payload.ensures c.write_piece.ensures
