use Rattle.book.proofs.Books.{untrailed, ill_filled, well_filled}
use Rattle.book.proofs.check_book.Goals as goal

pub returns-in_err-t : goal.returns-in_err-t
returns-in_err-t c = rw c.from_residual.ensures (untrailed _ c.in_err-t.ensures)

pub returns-in_err-index_words : goal.returns-in_err-index_words
returns-in_err-index_words c = rw c.from_residual-in_err-index_words.ensures (ill_filled _ _ c.in_ok-t.ensures _ c.in_err-index_words.ensures)

pub returns : goal.returns
returns c = well_filled _ _ c.in_ok-t.ensures _ c.in_ok-index_words.ensures
