-- The reader gives its bytes as far as the limit. Assumes nothing.
use mathlib.Core.Path.{ap}
use Rattle.print.proofs.Sent.{limited}
use Rattle.print.proofs.read_input.Goals as goal

pub returns-clause-bytes : goal.returns-clause-bytes
returns-clause-bytes g c = limited _ _ _ _ _ _ (ap g.R.Read.remaining c.take.ensures.inner) c.take.ensures.limit c.in_ok-input.ensures.items c.truncate.ensures.items c.in_ok-read_to_end.ensures.bytes
