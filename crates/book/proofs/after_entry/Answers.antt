use Rattle.std.proofs.Common.{◌+◌, arith}
use Rattle.book.proofs.Entries.{nul_from, entry_out, entry_cut, entry_nul, entry_in}
use Rattle.book.proofs.after_entry.Goals as goal
use Rattle.book.proofs.after_entry.Goals.{then-words-end-via-then-words-end, then-words-end-via-else-words-end+then-first_nul-start}

pub overflow_sub-first_nul : goal.overflow_sub-first_nul
overflow_sub-first_nul c = omega (arith, c.first_nul.ensures, nul_from c.args.words.now (c.args.at + 2) c.u16_at-n.result)

pub returns-then-words-start : goal.returns-then-words-start
returns-then-words-start c = entry_out _ _ (omega arith)

pub returns-then-words-end : goal.returns-then-words-end
returns-then-words-end c =
    elim c.then-words-end.branch [
      | then-words-end-via-then-words-end w ↦ entry_cut _ _ _ (omega arith) c.u16_at-n.ensures.0 (omega arith)
      | then-words-end-via-else-words-end+then-first_nul-start w ↦ entry_nul _ _ _ (omega arith) c.u16_at-n.ensures.0 (omega arith) (omega (arith, w.first_nul.ensures))
    ]

pub returns : goal.returns
returns c =
    let from = nul_from c.args.words.now (c.args.at + 2) c.u16_at-n.result in
    entry_in _ _ _ (omega arith) c.u16_at-n.ensures.0 (omega arith) c.u16_at-n.ensures.1 (omega (arith, c.first_nul.ensures, from))
