-- `labels::record_home` meets its contract: a label past the end of the slice changes nothing. Assumes nothing.
use Rattle.labels.proofs.Recording.{set_past}
use Rattle.labels.proofs.record_home.Goals as goal

pub returns-then-homes-label : goal.returns-then-homes-label
returns-then-homes-label c = set_past _ _ _ c.if-homes-label.true
