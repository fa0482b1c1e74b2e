-- A tree worked by hand, with its block, the number of its steps and where its branches land. Assumes nothing.
use Rattle.std.specs.Prelude.{◌≡◌, refl}
use Rattle.std.proofs.Common.{subst, arith}
use Rattle.std.proofs.Math.Option.{none}
use Rattle.layout.specs.Lists.{each, pick, first_with}
use Rattle.layout.specs.Numbers.{le16}
use Rattle.layout.specs.Answers.{Done}
use Rattle.layout.specs.OpCode.{small_byte, byte, small_op_codes, opcodes, opcode_of}
use Rattle.layout.specs.Tree.{count}
use Rattle.layout.specs.Payload.{opcode, payload, owner_op_code, owner_fields, owner_payload, branch_op_code, headed, framed}
use Rattle.layout.specs.Write.{size, moved, home_in, event_if, payload_test, body_test, labels_at, trace, events, later, record_if, lookup, distance_bits, branch_bits, bytes, block_bytes}
use Rattle.layout.specs.Judge.{distance, is_near, far_unless, judged, or_else, first_refused, too_far}
use Rattle.layout.specs.Step.{step}
use Rattle.laws.specs.Fits.{BodyFits}
use Rattle.tied_steps.specs.Places.{Begins}
use Rattle.tied_steps.specs.Tied.{landing, Tied}
use Rattle.tied_steps.proofs.Tying.{tree_tied}
use Rattle.tied_steps.specs.Worked.{worked, worked_block}

-- its block, and that the tree can be written
written : (block_bytes worked ≡ worked_block) × BodyFits worked × (too_far (events worked) (events worked) ≡ none)
unfolding worked worked_block each pick first_with le16 small_byte byte small_op_codes opcodes opcode_of opcode payload owner_op_code owner_fields owner_payload branch_op_code headed framed size bytes moved home_in event_if payload_test body_test labels_at trace events later record_if lookup distance_bits branch_bits block_bytes is_near far_unless judged or_else distance first_refused
written = (refl, (tt, (tt, ((tt, omega arith, omega arith, ((refl, omega arith), tt)), (tt, tt)))), refl)

pub worked_tied : Tied worked worked_block
worked_tied = subst (Tied worked) written.0 (tree_tied worked written.1 written.2)

-- six steps: If, Jump, With, Play, Jump and End
pub worked_steps : step worked_block ≡ Done 6
unfolding worked count
worked_steps = worked_tied.is_clean

-- the If lands at the block's start, the first Jump, whose label has no record, right behind itself, and the other in With's body
pub worked_lands : Begins worked_block 0 × Begins worked_block 10 × Begins worked_block 15
unfolding worked small_byte byte opcode payload owner_fields headed framed size moved home_in event_if payload_test body_test labels_at trace events later record_if lookup landing
worked_lands = (
  worked_tied.are_branches.0.lands.begins,
  worked_tied.are_branches.1.0.lands.begins,
  worked_tied.are_branches.1.1.0.lands.begins,
)
