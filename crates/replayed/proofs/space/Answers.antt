-- A space has the length that was asked for. Assumes nothing.
use Rattle.replayed.proofs.space.Goals as goal

pub returns : goal.returns
returns c = c.vec.ensures.len
