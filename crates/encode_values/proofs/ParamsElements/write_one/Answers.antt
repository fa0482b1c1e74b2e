-- A byte and then the span behind it are what is written of a parameter. Assumes nothing.
use Rattle.std.proofs.Common.{arith}
use Rattle.encode_values.proofs.Texts.{param_is}
use Rattle.encode_values.proofs.ParamsElements.write_one.Goals as goal

pub overflow_add-from : goal.overflow_add-from
overflow_add-from c = omega (arith, (param_is c.args.m.now c.args.from.at c.requires.known).0)

pub span_at-s-requires : goal.span_at-s-requires
span_at-s-requires c = (param_is c.args.m.now c.args.from.at c.requires.known).1.ends

pub bounds-m-from : goal.bounds-m-from
bounds-m-from c = omega (arith, (param_is c.args.m.now c.args.from.at c.requires.known).0)

pub string_of-requires : goal.string_of-requires
string_of-requires c = rw c.span_at-s.ensures (param_is c.args.m.now c.args.from.at c.requires.known).1.held

pub write_piece-requires : goal.write_piece-requires
write_piece-requires c = rw (c.string_of.ensures, c.span_at-s.ensures) (rw (param_is c.args.m.now c.args.from.at c.requires.known).2 at c.requires)

pub returns : goal.returns
returns c = rw (param_is c.args.m.now c.args.from.at c.requires.known).2 (rw (c.string_of.ensures, c.span_at-s.ensures) at c.write_piece.ensures)
