-- A string is the span at its place, and its bytes with a zero byte are what is written of it. Assumes nothing.
use Rattle.encode_values.proofs.Texts.{string_is}
use Rattle.encode_values.proofs.StringsElements.write_one.Goals as goal

pub span_at-s-requires : goal.span_at-s-requires
span_at-s-requires c = (string_is c.args.m.now c.args.from.at c.requires.known).0.ends

pub string_of-requires : goal.string_of-requires
string_of-requires c = rw c.span_at-s.ensures (string_is c.args.m.now c.args.from.at c.requires.known).0.held

pub write_piece-requires : goal.write_piece-requires
write_piece-requires c = rw (c.string_of.ensures, c.span_at-s.ensures) (rw (string_is c.args.m.now c.args.from.at c.requires.known).1 at c.requires)

pub returns : goal.returns
returns c = rw (string_is c.args.m.now c.args.from.at c.requires.known).1 (rw (c.string_of.ensures, c.span_at-s.ensures) at c.write_piece.ensures)
