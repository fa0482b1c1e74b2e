-- Some texts, computed: document 01's sample, an input that fills, and a negative value. Assumes nothing.
use Rattle.std.specs.Prelude.{◌≡◌, refl, [], ◌∷◌, negsuc}
use Rattle.layout.specs.Lists.{each, pick, first_with}
use Rattle.layout.specs.Numbers.{le16, le32, bit}
use Rattle.layout.specs.OpCode.{small_byte, byte, small_op_codes, opcodes, opcode_of}
use Rattle.layout.specs.PushKind.{kind_byte, push_kinds, kind_of}
use Rattle.layout.specs.Read.{edition1, if_whole, if_within, tested, repeat, first_zero, if_no_zero, if_nothing_left, read_u8, read_u16, read_u32, read_u64, read_bytes, read_flag, read_spelling, read_counted, has_catch, has_finally, has_register, is_shape, read_string, read_value_of, read_value_if, read_value, read_param, read_label, read_entries, read_catch_target, read_catch, read_finally, read_try, read_fields, read_fields_if, read_action, read_actions, read_body_with, read_body, read_main}
use Rattle.layout.specs.Strings.{map_value, map_param, map_flat, map_owner, map_target, map_action}
use Rattle.layout.specs.Payload.{zero_ended, strings_bytes, constant_bytes, double_bytes, push_bytes, pushes_bytes, opcode, goto_frame2_bytes, get_url2_bits, payload, owner_op_code, params_bytes, owner_fields, owner_payload, branch_op_code, catch_shape, finally_shape, catch_name, try_payload, headed, framed}
use Rattle.layout.specs.Write.{moved, event_if, payload_test, body_test, labels_at, events, later, record_if, lookup, distance_bits, branch_bits, block_bytes, block_size, size, trace, bytes}
use Rattle.layout.specs.Tree.{count}
use Rattle.layout.specs.Judge.{too_long, distance, is_near, far_unless, judged, or_else, refusal_if, barred, judged_in, first_refused, judge}
use Rattle.layout.specs.Cut.{edition_number, editions, edition_of, trailer_distance, trailer_edition, is_marked, cut_if, cut_at, cut_if_trailer, cut_if_short, cut}
use Rattle.layout.specs.Pack.{unless, if_room, pack_tree, edition_terms, spelling, fault_action, pack_read, pack_by, pack_cut, pack, output}
use Rattle.layout.specs.Answers.{number, value, refusal_number, refusal_value, InputFull, Refused}
use Rattle.print_text.specs.Pieces.{last_digit, digits_within, decimal, signed, hex_digit, behind, hex_byte, hex_from, hex_lines}
use Rattle.print.specs.Text.{line, block_of, printed, answered, block_text}

-- document 01's sample: "0 6", and "99 02 00 FB FF 00"
pub sample : block_text (0x01 ∷ 0x00 ∷ 0x00 ∷ 0x00 ∷ 0x00 ∷ 0x00 ∷ 0x01 ∷ 0x00 ∷ 0x99 ∷ 0x00 ∷ 0x00 ∷ 0x0B ∷ 0x00 ∷ 0x00 ∷ 0x00 ∷ 0x01 ∷ 0x00 ∷ 0x41 ∷ 0x31 ∷ [])
    ≡ 48 ∷ 32 ∷ 54 ∷ 10 ∷ 57 ∷ 57 ∷ 32 ∷ 48 ∷ 50 ∷ 32 ∷ 48 ∷ 48 ∷ 32 ∷ 70 ∷ 66 ∷ 32 ∷ 70 ∷ 70 ∷ 32 ∷ 48 ∷ 48 ∷ 10 ∷ []
unfolding number value refusal_number refusal_value last_digit digits_within decimal signed line hex_digit behind hex_byte hex_from hex_lines block_of printed answered block_text each pick first_with le16 le32 bit small_byte byte small_op_codes opcodes opcode_of kind_byte push_kinds kind_of edition1 if_whole if_within tested repeat first_zero if_no_zero if_nothing_left read_u8 read_u16 read_u32 read_u64 read_bytes read_flag read_spelling read_counted has_catch has_finally has_register is_shape read_string read_value_of read_value_if read_value read_param read_label read_entries read_catch_target read_catch read_finally read_try read_fields read_fields_if read_action read_actions read_body_with read_body read_main map_value map_param map_flat map_owner map_target map_action zero_ended strings_bytes constant_bytes double_bytes push_bytes pushes_bytes opcode goto_frame2_bytes get_url2_bits payload owner_op_code params_bytes owner_fields owner_payload branch_op_code catch_shape finally_shape catch_name try_payload headed framed moved event_if payload_test body_test labels_at events later record_if lookup distance_bits branch_bits block_bytes block_size size count trace bytes too_long distance is_near far_unless judged or_else refusal_if barred judged_in first_refused judge edition_number editions edition_of trailer_distance trailer_edition is_marked cut_if cut_at cut_if_trailer cut_if_short cut unless if_room pack_tree edition_terms spelling fault_action pack_read pack_by pack_cut pack output
sample = refl

-- "12 65536"
pub full : printed (Refused InputFull) ≡ 49 ∷ 50 ∷ 32 ∷ 54 ∷ 53 ∷ 53 ∷ 51 ∷ 54 ∷ 10 ∷ []
unfolding number value refusal_number refusal_value last_digit digits_within decimal signed line block_of printed pick
full = refl

-- "10 -32769": a jump back over 32,764 Pops
pub negative : line 10 (negsuc 32768) ≡ 49 ∷ 48 ∷ 32 ∷ 45 ∷ 51 ∷ 50 ∷ 55 ∷ 54 ∷ 57 ∷ 10 ∷ []
unfolding last_digit digits_within decimal signed line pick
negative = refl
