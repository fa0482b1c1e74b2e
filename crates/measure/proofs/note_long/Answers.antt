-- `measure::note_long` meets its contract. Assumes nothing.
use mathlib.Core.Path.{◌∙◌}
use Rattle.measure.proofs.Runs.{noted_short, noted_long}
use Rattle.measure.proofs.note_long.Goals as goal

pub returns-then-found-gt65535 : goal.returns-then-found-gt65535
returns-then-found-gt65535 c = c.or.ensures ∙ noted_long _ _ c.if-found-gt65535.true

pub returns-else-found-gt65535 : goal.returns-else-found-gt65535
returns-else-found-gt65535 c = noted_short _ _ c.if-found-gt65535.false
