-- `words::length_at` meets its contract. Assumes nothing.
use native.Mathlib.Omega.{arith}
use borrow.Author.Tests.{le-leb, lt-leb}
use Rattle.layout.specs.Lists.{pick}
use Rattle.editions.specs.Words.{length_at}
use Rattle.words.proofs.length_at.Goals as goal

pub returns-then-words-at : goal.returns-then-words-at
unfolding length_at pick
returns-then-words-at c = (rw (lt-leb _ _ c.if-words-at.true), omega arith)

pub returns : goal.returns
unfolding length_at pick
returns c = (rw (le-leb _ _ c.if-words-at.false) c.u16_at.ensures.0, c.u16_at.ensures.1)
