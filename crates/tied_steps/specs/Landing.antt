-- Where branches land, said of the bytes of a block alone, and blocks in which one does not. Assumes nothing.
use Rattle.std.specs.Prelude.{◌≡◌, ◌⊎◌, ℕ, ◌+◌, List, [], ◌∷◌, length, get_or, pos, ◌+ℤ◌}
use Rattle.layout.specs.Numbers.{u16_at}
use Rattle.laws.specs.Demands.{signed16}
use Rattle.tied_steps.specs.Places.{StepAt, Begins}

-- ---- the words of the promise

-- "99 Jump, 9D If"
abbrev pub BranchOpcode : ℕ → Type 0
BranchOpcode op = (op ≡ 0x99) ⊎ (op ≡ 0x9D)

-- the step x, which begins at place p of the block q, lands at place `to`: behind opcode and length it has an operand of two bytes and
-- no more; this, read as sixteen bits with a sign and added to the place after it, is `to`, "where some step begins"
pub record Lands (q : List ℕ) (p : ℕ) (x : List ℕ) (to : ℕ) : Type 0 where
  pub is_long : length x ≡ 5
  pub is_there : pos (p + 5) +ℤ signed16 (u16_at x 3) ≡ pos to
  pub begins : Begins q to

pub record LandsSomewhere (q : List ℕ) (p : ℕ) (x : List ℕ) : Type 0 where
  pub to : ℕ
  pub lands : Lands q p x to

-- "every branch .. lands where some step begins"
abbrev pub AllLand : List ℕ → Type 0
AllLand q = (k p : ℕ) (x : List ℕ) → StepAt q k p x → BranchOpcode (get_or x 0 0) → LandsSomewhere q p x

-- ---- blocks in which a branch does not land: a Jump with this operand, and the End

abbrev pub jump_by : ℕ → ℕ → List ℕ
jump_by low high = 0x99 ∷ 2 ∷ 0 ∷ low ∷ high ∷ []
