-- `labels::record_labels` meets its contract. Assumes nothing.
use mathlib.Core.Path.{◌∙◌}
use Rattle.labels.proofs.Recording.{start, none_due, later_due}
use Rattle.labels.proofs.record_labels.Goals as goal

pub returns-in_default-clause-recorded : goal.returns-in_default-clause-recorded
returns-in_default-clause-recorded c = rw (← c.in-Some.is) (later_due (start c.requires) c.in-Some.is (λ e. c.if-index-i.false (c.index.ensures ∙ e)))

pub returns-in_default-2-clause-recorded : goal.returns-in_default-2-clause-recorded
returns-in_default-2-clause-recorded c = none_due (start c.requires) c.in_default.is
