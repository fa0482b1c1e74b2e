-- A sheet worked by hand: the entries that it names, in its own actions, in a function's body, and as the name of a catch.
-- Assumes nothing.
use Rattle.std.specs.Prelude.{◌≡◌, refl, [], ◌∷◌}
use Rattle.layout.specs.Lists.{each, pick, first_with}
use Rattle.layout.specs.Numbers.{le16, le32}
use Rattle.layout.specs.OpCode.{small_byte, byte, small_op_codes, opcodes, opcode_of}
use Rattle.layout.specs.PushKind.{kind_byte, push_kinds, kind_of}
use Rattle.layout.specs.Tree.{count}
use Rattle.layout.specs.Read.{edition1, edition2, edition3, read_plain, read_word, read_text, if_whole, if_within, tested, repeat, first_zero, if_no_zero, if_nothing_left, read_u8, read_u16, read_bytes, read_spelling, read_counted, has_catch, has_finally, has_register, is_shape, read_string, read_value_of, read_value_if, read_value, read_entries, read_catch_target, read_catch, read_finally, read_try, read_fields, read_fields_if, read_action, read_actions, read_body_with, read_body, read_main}
use Rattle.layout.specs.Cut.{edition_number, editions, edition_of, trailer_distance, trailer_edition, is_marked, cut_if, cut_at, cut_if_trailer, cut_if_short, cut}
use Rattle.layout.specs.Pack.{edition_terms}
use Rattle.layout.specs.Sums.{sheet_of}
use Rattle.named_words.specs.Named.{joined, in_value, in_flat, in_owner, in_target, in_name, in_action, entry_numbers, named_read, named_by, named_cut, named}
use Rattle.named_words.specs.Worked.{naming}

-- with a book of five entries it names four, one of them twice; with three it does not read whole; and in edition 2 it names none
pub naming_names : (named (sheet_of 3 naming) ([] ∷ [] ∷ [] ∷ [] ∷ [] ∷ []) ≡ 2 ∷ 0 ∷ 2 ∷ 3 ∷ 1 ∷ []) × (named (sheet_of 3 naming) ([] ∷ [] ∷ [] ∷ []) ≡ [])
    × (named (sheet_of 2 naming) ([] ∷ [] ∷ [] ∷ [] ∷ [] ∷ []) ≡ [])
unfolding naming sheet_of each pick first_with le16 le32 small_byte byte small_op_codes opcodes opcode_of kind_byte push_kinds kind_of count edition1 edition2 edition3 read_plain read_word read_text if_whole if_within tested repeat first_zero if_no_zero if_nothing_left read_u8 read_u16 read_bytes read_spelling read_counted has_catch has_finally has_register is_shape read_string read_value_of read_value_if read_value read_entries read_catch_target read_catch read_finally read_try read_fields read_fields_if read_action read_actions read_body_with read_body read_main edition_number editions edition_of trailer_distance trailer_edition is_marked cut_if cut_at cut_if_trailer cut_if_short cut edition_terms joined in_value in_flat in_owner in_target in_name in_action entry_numbers named_read named_by named_cut named
naming_names = (refl, refl, refl)
