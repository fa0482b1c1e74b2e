-- The runs that are put lie in the space.
use Rattle.std.proofs.Common.{◌≤◌, length}
use Rattle.patterns.proofs.unroll.Given as goal

abbrev pub invariant-loop-run : goal.invariant-loop-run
invariant-loop-run l = l.at ≤ length l.space
