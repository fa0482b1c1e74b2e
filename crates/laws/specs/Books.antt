-- The words of a well_formed book have no zero byte, and so has every string that was read; what a string takes of the sheet.
-- Assumes nothing.
use Rattle.std.specs.Prelude.{List, length}
use Prim.Native.Nat.{ℕ, ◌<◌}
use Rattle.std.proofs.Math.Option.{Option, none, some}
use Rattle.layout.specs.Lists.{All}
use Rattle.layout.specs.Read.{Terms}
use Rattle.laws.specs.Fits.{Clean}

-- ---- the book

-- what holds of an option's value, if there is one
abbrev pub Of : {A : Type 0} → (A → Type 0) → Option A → Type 0
Of P none = Unit {0}
Of P (some a) = P a

-- at most 65,535 bytes: a u16 tells how many
abbrev pub Short : List ℕ → Type 0
Short s = length s < 65536

-- what a word is: no zero byte, and so short
abbrev pub Word : List ℕ → Type 0
Word s = Clean s × Short s

-- no word that the terms allow has a zero byte; and every one is short
abbrev pub WordsClean : Terms → Type 0
WordsClean k = Of (All Clean) k.words

abbrev pub WordsShort : Terms → Type 0
WordsShort k = Of (All Short) k.words
