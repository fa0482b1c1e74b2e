-- The words before are read, and their places are in the index.
use Rattle.book.proofs.Indexes.{Indexing}
use Rattle.book.proofs.index_words.Given as goal

abbrev pub invariant-loop-i : goal.invariant-loop-i
invariant-loop-i l = Indexing l.words l.count l.i l.slot l.p l.index
