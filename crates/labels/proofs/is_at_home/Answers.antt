-- `labels::is_at_home` meets its contract. Assumes nothing.
use mathlib.Core.Path.{ap, sym, ◌∙◌}
use mathlib.Core.Bool.{not}
use Rattle.labels.proofs.Distances.{home_none, home_some}
use Rattle.labels.proofs.is_at_home.Goals as goal

pub returns-then-not-is_recorded : goal.returns-then-not-is_recorded
returns-then-not-is_recorded c = home_none _ _ _ (ap not (sym c.is_recorded.ensures ∙ c.if-not-is_recorded.true))

pub returns : goal.returns
returns c = home_some _ _ _ (ap not (sym c.is_recorded.ensures ∙ c.if-not-is_recorded.false))
