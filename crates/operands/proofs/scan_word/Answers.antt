use Rattle.std.proofs.Common.{arith, sym, ap, ◌∙◌, length}
use Rattle.editions.proofs.Listed.{length_words, word_listed}
use Rattle.operands.proofs.Reading as reading
use Rattle.operands.proofs.Scans.{cut}
use Rattle.operands.proofs.scan_word.Goals as goal

pub returns-in_err-i : goal.returns-in_err-i
returns-in_err-i c = cut _ _ _ _ _ c.from_residual.ensures.1 c.in_err-i.ensures.err (reading.word_out _ _ _)

pub returns-then-count-i : goal.returns-then-count-i
returns-then-count-i c =
    let m = c.args.m.now in
    let n = c.in_ok-i.ensures.ok in
    c.stops.ensures ∙ reading.scan_past _ _ _ _ _ 0 n.0 n.1 (omega (arith, length_words m.words.now m.index.now c.args.count))

pub returns : goal.returns
returns c =
    let m = c.args.m.now in
    let n = c.in_ok-i.ensures.ok in
    let listed = word_listed m.words.now m.index.now c.args.count c.in_ok-i.i (omega arith) in
    reading.scan_named _ _ _ _ _ _ n.0 n.1 (omega (arith, length_words m.words.now m.index.now c.args.count)) (c.word_at-word.ensures.is_long ∙ ap length (sym listed)) c.after.ensures.0 (omega arith)
