-- `write_push` meets its contract: the values and then the header before them are one run. Assumes nothing.
use native.Mathlib.Omega.{arith}
use Rattle.encode_strings.proofs.Wholes.{push_room, push_put}
use Rattle.encode_strings.proofs.write_push.Goals as goal

pub write_list-end-requires : goal.write_list-end-requires
write_list-end-requires c = push_room _ c.requires

pub write_action_header-requires : goal.write_action_header-requires
write_action_header-requires c = omega (arith, (push_room _ c.requires).room, c.write_list-end.auto.out)

pub returns : goal.returns
returns c = push_put _ c.requires c.write_list-end.ensures c.push_len-len.ensures c.write_action_header.ensures.1
