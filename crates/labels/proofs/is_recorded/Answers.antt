-- `labels::is_recorded` meets its contract: a slot without a record holds 0. Assumes nothing.
use Rattle.labels.proofs.Distances.{slot_recorded}
use Rattle.labels.proofs.is_recorded.Goals as goal

pub returns : goal.returns
returns c = slot_recorded _
