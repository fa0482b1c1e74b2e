-- The first zero byte, as the library finds it. Assumes nothing.
use Rattle.std.proofs.Common.{◌≡◌, ℕ, zero, suc, ◌+◌, ◌<◌, ◌==◌, List, [], ◌∷◌, length, get_or, refl, arith, add-one, position, unwrap_or}
use Rattle.std.specs.List.{position_from}
use Rattle.std.proofs.Math.Dec.{eqb-suc-zero}
use Rattle.std.proofs.lemmas.Iterator.Adapters.{position_from-zero}
use Rattle.layout.specs.Read.{first_zero}
use Rattle.fields.specs.Runs.{nul_or}

-- In a list that is counted on from m.
found_from : (i n m : ℕ) (s : List ℕ) → i + unwrap_or (position_from (λ x. x == 0) m s) n ≡ nul_or i n (first_zero m s)
unfolding nul_or first_zero
found_from i n m [] = refl
found_from i n m (zero ∷ s) = refl
found_from i n m (suc x ∷ s) = rw (eqb-suc-zero x, add-one) (found_from i n (suc m) s)

pub zero_found : (i n : ℕ) (s : List ℕ) → i + unwrap_or (position (λ x. x == 0) s) n ≡ nul_or i n (first_zero 0 s)
zero_found i n s = rw (position_from-zero (λ x. x == 0) s) (found_from i n 0 s)

-- Where no byte is zero.
pub none_found : (i n m : ℕ) (s : List ℕ) → ((k : ℕ) → k < length s → get_or s k 0 ≡ 0 → ⊥) → i + n ≡ nul_or i n (first_zero m s)
unfolding nul_or first_zero
none_found i n m [] h = refl
none_found i n m (zero ∷ s) h = absurd (h 0 (omega arith) refl)
none_found i n m (suc x ∷ s) h = none_found i n (suc m) s (λ k b. h (suc k) (omega arith))
