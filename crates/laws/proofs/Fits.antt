-- What a tree is known to be: what reading makes sure of (`Well`), and with the tests for overflow (`Fits`). Assumes nothing.
use Rattle.std.specs.Prelude.{ℕ, suc, ◌<◌, List, [], ◌∷◌, length, get_or}
use Rattle.std.proofs.Common.{arith}
use Rattle.laws.specs.Fits.{Bytes}

-- by its elements
pub all_bytes : (b : List ℕ) → ((i : ℕ) → i < length b → get_or b i 0 < 256) → Bytes b
all_bytes [] h = tt
all_bytes (x ∷ b) h = (h 0 (omega arith), all_bytes b (λ i l. h (suc i) (omega arith)))
