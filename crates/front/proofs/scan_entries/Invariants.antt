use mathlib.Core.Path.{◌≡◌}
use mathlib.Core.Option.{Option}
use Prim.Native.Nat.{◌-◌, ◌≤◌}
use lib.ListN.{length}
use Rattle.layout.specs.Read.{Words, placed, read_entries}
use Rattle.positions.specs.Scanned.{scanned}
use Rattle.editions.specs.Allowed.{bounded}
use Rattle.front.proofs.scan_entries.Given as goal

abbrev pub invariant-loop : goal.invariant-loop
invariant-loop l = ((o : Option Words) → scanned (λ _. 0) l.from.pos.0 (read_entries (bounded l.m.terms o) l.m.b.now (l.n - l.counter) l.least (placed l.at)) ≡ scanned (λ _. 0) l.from.pos.0 (read_entries (bounded l.m.terms o) l.m.b.now l.n 0 (placed l.from.at))) × (l.at ≤ length l.m.b.now)
