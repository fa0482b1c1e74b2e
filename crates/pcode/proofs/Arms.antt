-- What the arms of a match on a number know of the number. Assumes nothing.
use mathlib.Core.Path.{◌≡◌, refl, sym, ◌∙◌}
use Prim.Native.Nat.{ℕ}
use native.Mathlib.Omega.{arith}
use mathlib.Core.Bool.{Bool, true, false}
use mathlib.Core.Option.{Option, some, some-injective}
use mathlib.Core.List.{List, [], ◌∷◌}
use lib.Dec.{eqb}
use borrow.Author.Tests.{eqb-true}
use Rattle.layout.specs.Lists.{pick}

-- a listed number stands for something
pub data Found {A : Type 0} (o : Option A) : Type 0 where
  found : (x : A) → o ≡ some x → Found o

-- and for nothing else
pub found_once : {A : Type 0} {o : Option A} {x y : A} → o ≡ some x → o ≡ some y → x ≡ y
found_once {x = x} {y = y} e h = some-injective x y (sym e ∙ h)

-- ---- the last arm

-- n is none of the other arms' numbers, of which the last comes first
abbrev pub NoneOf : List ℕ → ℕ → Type 0
NoneOf [] n = Unit {0}
NoneOf (k ∷ ks) n = NoneOf ks n × (n ≡ k → ⊥)

-- whether m is one of them
unfoldable pub is_one : List ℕ → ℕ → Bool
is_one [] m = false
is_one (k ∷ ks) m = pick (eqb m k) true (is_one ks m)

-- a number that is one of them is not n
pub barred : (ks : List ℕ) {m n : ℕ} → NoneOf ks n → m ≡ n → is_one ks m ≡ true → ⊥
unfolding is_one pick
barred [] h e t =
    let z : ◌≡◌ {A = ℕ} 0 1 = cc in
    omega arith
barred (k ∷ ks) {m} {n} h e t = go (eqb m k) refl (barred ks h.0 e) t
  where
    go : (s : Bool) → eqb m k ≡ s → (is_one ks m ≡ true → ⊥) → pick s true (is_one ks m) ≡ true → ⊥
    go true d f u = h.1 (sym e ∙ eqb-true m k d)
    go false d f u = f u
