-- The lines of the numbers so far are written.
use Rattle.std.specs.Fmt.{HasWritten, IsPlainFormatter}
use Rattle.tally.specs.Text.{number_lines}
use Rattle.tally.proofs.TallyDisplay.fmt.Given as goal

abbrev pub invariant-loop-number : goal.invariant-loop-number
invariant-loop-number g l =
    IsPlainFormatter l.initial.f → HasWritten g.W.Write.write_str_gives l.initial.f (number_lines l.self.numbers l.number-counter) l.f
