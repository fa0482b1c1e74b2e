-- The lesser of `least` and what is due among the entries left is what is due among all. Assumes nothing.
use Rattle.labels.proofs.Recording.{Counting}
use Rattle.labels.proofs.due_entry.Given as goal

abbrev pub invariant-loop-entry : goal.invariant-loop-entry
invariant-loop-entry l = Counting l.entries l.from l.least l.entry-iterator
