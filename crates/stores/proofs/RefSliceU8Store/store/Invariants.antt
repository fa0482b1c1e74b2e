-- `store` of a slice meets its contract. The loop's invariant: the bytes copied so far are one run of stores. Assumes nothing.
use Rattle.std.proofs.Common.{◌≡◌}
use lib.ListN.{take}
use lib.Seq.{sets}
use Rattle.stores.proofs.RefSliceU8Store.store.Given as goal

abbrev pub invariant-loop-i : goal.invariant-loop-i
invariant-loop-i l = l.out ≡ sets l.initial.out l.at (take l.i l.self)
