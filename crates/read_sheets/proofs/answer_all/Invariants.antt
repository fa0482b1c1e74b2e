-- Each sheet leaves less of the list. Assumes nothing.
use Rattle.std.proofs.Common.{length}
use Rattle.read_sheets.proofs.answer_all.Given as goal

abbrev pub decreases-loop-sheet : goal.decreases-loop-sheet
decreases-loop-sheet g l = length l.rest
