-- The sums worked by hand: P1 to P12, each sheet, without note, and the block that it packs to; and answers by the mode, by the
-- edition, by the action that they name and by the book. Assumes nothing.
use Rattle.std.specs.Prelude.{◌≡◌, refl, pos}
use Rattle.std.proofs.Math.Option.{some}
use Rattle.layout.specs.Lists.{All, each, pick, first_with}
use Rattle.layout.specs.Numbers.{le16, le32, bit}
use Rattle.layout.specs.Answers.{NeverRecorded, StrayBranch, JumpOffsetOverflow, fault_number, refusal_number, refusal_value, refusal_action, number, value, action}
use Rattle.layout.specs.OpCode.{small_byte, byte, small_op_codes, opcodes, opcode_of}
use Rattle.layout.specs.PushKind.{kind_byte, push_kinds, kind_of}
use Rattle.layout.specs.Read.{edition1, edition2, edition3, read_plain, read_word, read_text, if_whole, if_within, tested, repeat, first_zero, if_no_zero, if_nothing_left, read_u8, read_u16, read_u32, read_u64, read_bytes, read_flag, read_spelling, read_counted, has_catch, has_finally, has_register, is_shape, read_string, read_value_of, read_value_if, read_value, read_param, read_label, read_entries, read_catch_target, read_catch, read_finally, read_try, read_fields, read_fields_if, read_action, read_actions, read_body_with, read_body, read_main}
use Rattle.layout.specs.Tree.{count}
use Rattle.layout.specs.Strings.{map_value, map_param, map_flat, map_owner, map_target, map_action}
use Rattle.layout.specs.Payload.{zero_ended, strings_bytes, constant_bytes, double_bytes, push_bytes, pushes_bytes, opcode, goto_frame2_bytes, get_url2_bits, payload, owner_op_code, params_bytes, owner_fields, owner_payload, branch_op_code, catch_shape, finally_shape, catch_name, try_payload, headed, framed}
use Rattle.layout.specs.Write.{home_in, moved, event_if, payload_test, body_test, labels_at, events, later, record_if, lookup, distance_bits, branch_bits, block_bytes, block_size, size, trace, bytes}
use Rattle.layout.specs.Judge.{too_long, distance, is_near, far_unless, judged, or_else, plain_mode, refusal_if, barred, judged_in, first_refused, bad_branch, judge}
use Rattle.layout.specs.Cut.{edition_number, editions, edition_of, trailer_distance, trailer_edition, is_marked, cut_if, cut_at, cut_if_trailer, cut_if_short, cut}
use Rattle.layout.specs.Book.{empty_book, read_entry, if_read, words_in, book_distance, book_count, is_book_marked, book_if, book_at, book_if_trailer, book_of}
use Rattle.layout.specs.Pack.{unless, if_room, pack_tree, edition_terms, spelling, fault_action, pack_read, pack_by, pack_cut, pack, output}
use Rattle.layout.specs.Sums.{Answers, AnswersBook, AnswersIn, Holds, HoldsWith, by_action, by_book, by_edition, by_hand, by_mode, by_words, contained_mode, far_first, sheet_of, stray_and_far, stray_first, stray_later, strict_mode, unrecorded_first}

-- the six tables, so that what is unfolded is listed once
all : All Holds by_hand × All Answers by_mode × All AnswersIn by_edition × All AnswersIn by_action × All HoldsWith by_words × All AnswersBook by_book
unfolding by_book by_words empty_book by_action by_edition by_mode by_hand sheet_of each pick first_with le16 le32 bit small_byte byte small_op_codes opcodes opcode_of kind_byte push_kinds kind_of edition1 edition2 edition3 read_plain read_word read_text read_entry if_read words_in book_distance book_count is_book_marked book_if book_at book_if_trailer book_of if_whole if_within tested repeat first_zero if_no_zero if_nothing_left read_u8 read_u16 read_u32 read_u64 read_bytes read_flag read_spelling read_counted has_catch has_finally has_register is_shape read_string read_value_of read_value_if read_value read_param read_label read_entries read_catch_target read_catch read_finally read_try read_fields read_fields_if read_action read_actions read_body_with read_body read_main map_value map_param map_flat map_owner map_target map_action zero_ended strings_bytes constant_bytes double_bytes push_bytes pushes_bytes opcode goto_frame2_bytes get_url2_bits payload owner_op_code params_bytes owner_fields owner_payload branch_op_code catch_shape finally_shape catch_name try_payload headed framed home_in moved event_if payload_test body_test labels_at events later record_if lookup distance_bits branch_bits block_bytes block_size size count trace bytes too_long distance is_near far_unless judged or_else refusal_if barred judged_in first_refused judge edition_number editions edition_of trailer_distance trailer_edition is_marked cut_if cut_at cut_if_trailer cut_if_short cut unless if_room pack_tree edition_terms spelling fault_action pack_read pack_by pack_cut pack output number value action refusal_number refusal_value refusal_action fault_number
all = ((refl, (refl, (refl, (refl, (refl, (refl, (refl, (refl, (refl, (refl, (refl, (refl, tt)))))))))))), ((refl, refl, refl), ((refl, refl, refl), ((refl, refl, refl), ((refl, refl, refl), ((refl, refl, refl), ((refl, refl, refl), ((refl, refl, refl), ((refl, refl, refl), ((refl, refl, refl), ((refl, refl, refl), ((refl, refl, refl), ((refl, refl, refl), ((refl, refl, refl), ((refl, refl, refl), ((refl, refl, refl), ((refl, refl, refl), ((refl, refl, refl), ((refl, refl, refl), ((refl, refl, refl), ((refl, refl, refl), ((refl, refl, refl), ((refl, refl, refl), ((refl, refl, refl), ((refl, refl, refl), tt)))))))))))))))))))))))), ((refl, refl, refl), ((refl, refl, refl), ((refl, refl, refl), ((refl, refl, refl), ((refl, refl, refl), ((refl, refl, refl), ((refl, refl, refl), ((refl, refl, refl), ((refl, refl, refl), ((refl, refl, refl), ((refl, refl, refl), ((refl, refl, refl), tt)))))))))))), ((refl, refl, refl), ((refl, refl, refl), ((refl, refl, refl), ((refl, refl, refl), ((refl, refl, refl), ((refl, refl, refl), ((refl, refl, refl), ((refl, refl, refl), ((refl, refl, refl), ((refl, refl, refl), ((refl, refl, refl), ((refl, refl, refl), tt)))))))))))), (refl, (refl, (refl, tt))), ((refl, refl, refl), ((refl, refl, refl), ((refl, refl, refl), ((refl, refl, refl), ((refl, refl, refl), ((refl, refl, refl), ((refl, refl, refl), ((refl, refl, refl), ((refl, refl, refl), ((refl, refl, refl), ((refl, refl, refl), ((refl, refl, refl), ((refl, refl, refl), ((refl, refl, refl), ((refl, refl, refl), ((refl, refl, refl), ((refl, refl, refl), ((refl, refl, refl), ((refl, refl, refl), ((refl, refl, refl), ((refl, refl, refl), tt))))))))))))))))))))))

pub sums_hold : All Holds by_hand
sums_hold = all.0

pub cases_answer : All Answers by_mode
cases_answer = all.1

pub editions_answer : All AnswersIn by_edition
editions_answer = all.2

pub actions_answer : All AnswersIn by_action
actions_answer = all.3

pub words_hold : All HoldsWith by_words
words_hold = all.4

pub books_answer : All AnswersBook by_book
books_answer = all.5

pub first_decides : (bad_branch strict_mode unrecorded_first unrecorded_first ≡ some (NeverRecorded 3 0))
    × (bad_branch strict_mode far_first far_first ≡ some (JumpOffsetOverflow (pos 39995) 0)) × (bad_branch plain_mode unrecorded_first unrecorded_first ≡ some (JumpOffsetOverflow (pos 39990) 1))
    × (bad_branch contained_mode stray_first stray_first ≡ some (StrayBranch 3 0)) × (bad_branch contained_mode stray_later stray_later ≡ some (JumpOffsetOverflow (pos 39995) 0))
    × (bad_branch contained_mode stray_and_far stray_and_far ≡ some (StrayBranch 3 0)) × (bad_branch plain_mode stray_and_far stray_and_far ≡ some (JumpOffsetOverflow (pos 39995) 0))
unfolding later record_if lookup distance is_near far_unless judged or_else refusal_if barred judged_in first_refused
first_decides = (refl, refl, refl, refl, refl, refl, refl)
