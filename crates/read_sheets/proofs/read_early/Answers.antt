-- No edition allows more than 4,096 label numbers. Assumes nothing.
use Rattle.read_sheets.proofs.Few.{few_labels}
use Rattle.read_sheets.proofs.read_early.Goals as goal

pub read_body-requires : goal.read_body-requires
read_body-requires c = (c.requires.0, c.requires.1, few_labels _ _ _ c.terms.ensures)
