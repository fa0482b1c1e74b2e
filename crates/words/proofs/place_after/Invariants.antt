-- The words that are left, from where the walk stands, end where all do. Assumes nothing.
use mathlib.Core.Path.{◌≡◌}
use Prim.Native.Nat.{◌+◌, ◌-◌, ◌*◌, ◌≤◌}
use Rattle.editions.specs.Words.{place_after}
use Rattle.words.proofs.place_after.Given as goal

abbrev pub invariant-loop : goal.invariant-loop
invariant-loop l = (place_after l.words (l.n - l.counter) l.p ≡ place_after l.words l.n l.at) × (l.p + 65537 * (l.n - l.counter) ≤ l.at + 65537 * l.n)
