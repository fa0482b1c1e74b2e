-- The value that is shown is written as its case's bytes. Assumes nothing.
use Rattle.encode_values.proofs.Values.{value_reads, value_room, value_put}
use Rattle.encode_values.proofs.PushValuesElements.write_one.Goals as goal

pub push_value_at-v-requires : goal.push_value_at-v-requires
push_value_at-v-requires c = value_reads _ c.requires.known

pub write_push_value-requires : goal.write_push_value-requires
write_push_value-requires c = value_room _ c.push_value_at-v.ensures c.requires

pub returns : goal.returns
returns c = value_put _ c.push_value_at-v.ensures c.requires c.write_push_value.ensures
