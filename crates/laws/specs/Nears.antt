-- Branches that do not go too far: one, and all among events. Assumes nothing.
use Rattle.std.specs.Prelude.{◌≡◌, ℕ, List}
use Rattle.std.proofs.Math.Option.{Option, none}
use Rattle.layout.specs.Write.{Position, Event}
use Rattle.layout.specs.Judge.{far_by}

-- ---- branches of which none goes too far

module _ (final : ℕ → Option Position) where
  abbrev pub NoneFar : List Event → Type 0
  NoneFar es = far_by final es ≡ none
