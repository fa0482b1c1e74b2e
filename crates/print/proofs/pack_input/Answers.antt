-- `print::pack_input` meets its contract: the book that it lends has no entry. Assumes nothing.
use Rattle.layout.specs.Book.{empty_book}
use Rattle.print.proofs.pack_input.Goals as goal

pub returns : goal.returns
unfolding empty_book
returns c = c.pack.ensures
