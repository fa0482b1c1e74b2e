-- What is left, from where it stands, is read as all are.
use Rattle.std.proofs.Common.{◌-◌}
use Rattle.book.proofs.Entries.{Going}
use Rattle.book.proofs.after_entries.Given as goal

abbrev pub invariant-loop : goal.invariant-loop
invariant-loop l = Going l.words l.at l.n (l.n - l.counter) l.p
