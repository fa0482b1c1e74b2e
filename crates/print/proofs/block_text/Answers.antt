use Rattle.std.proofs.Common.{sym, ◌∙◌}
use Rattle.std.proofs.Math.Seq.{length-take-le}
use Rattle.print_text.proofs.Puts.{put_as}
use Rattle.print.proofs.Texts.{line_of, full_text, full_output, packed_output, refusal_told, text_refused, text_done, filled, block_room, counts_line, counts_block}
use Rattle.print.proofs.block_text.Goals as goal

pub returns-then-input-eq-SPACE : goal.returns-then-input-eq-SPACE
returns-then-input-eq-SPACE c =
    record {
      text = put_as (full_text _ c.if-input-eq-SPACE.true) c.put_line.ensures.0;
      within = counts_line _ c.requires.2 c.put_line.auto.text c.put_line.ensures.1;
      output = full_output _ _ c.if-input-eq-SPACE.true;
    }

pub returns-in-Err : goal.returns-in-Err
returns-in-Err c =
    record {
      text = text_refused _ _ c.requires.1 c.requires.0 c.if-input-eq-SPACE.false c.pack_input-answer.ensures (refusal_told c.in-Err.is) (line_of _ c.number_of.ensures c.value_of.ensures.told c.put_line-end.ensures.0);
      within = counts_line _ c.requires.2 c.put_line-end.auto.text c.put_line-end.ensures.1;
      output = packed_output _ _ c.requires.1 c.requires.0 c.if-input-eq-SPACE.false c.pack_input-answer.ensures;
    }

pub slice_bounds-put_block-end : goal.slice_bounds-put_block-end
slice_bounds-put_block-end c = let f = filled _ _ _ _ c.in-Ok.ensures c.pack_input-answer.auto.out c.requires.1 in f.is_within

pub slice_bounds-put_block-end-in-Ok : goal.slice_bounds-put_block-end-in-Ok
slice_bounds-put_block-end-in-Ok c = let f = filled _ _ _ _ c.in-Ok.ensures c.pack_input-answer.auto.out c.requires.1 in sym (length-take-le _ _ f.is_within)

pub put_block-requires : goal.put_block-requires
put_block-requires c =
    block_room (filled _ _ _ _ c.in-Ok.ensures c.pack_input-answer.auto.out c.requires.1) c.requires.2 c.put_line-end.auto.text c.put_line-end.ensures.1

pub returns-in-Ok : goal.returns-in-Ok
returns-in-Ok c =
    let f = filled _ _ _ _ c.in-Ok.ensures c.pack_input-answer.auto.out c.requires.1 in
    record {
      text = text_done _ _ c.requires.1 c.requires.0 c.if-input-eq-SPACE.false c.pack_input-answer.ensures f (line_of _ c.number_of.ensures c.value_of.ensures.told c.put_line-end.ensures.0) c.put_block.ensures;
      within = counts_block _ c.requires.2 (c.put_block.auto.text ∙ c.put_line-end.auto.text) f c.put_line-end.ensures.1 c.put_block.ensures;
      output = packed_output _ _ c.requires.1 c.requires.0 c.if-input-eq-SPACE.false c.pack_input-answer.ensures;
    }
