-- Lists: a property of all elements, a function applied to each, the first element with a number. Assumes nothing.
use Rattle.std.specs.Prelude.{◌≡◌, refl, ℕ, zero, suc, Bool, true, false, List, [], ◌∷◌, ◌++◌, take, drop, eqb}
use Rattle.std.proofs.Common.{sym, ap, ◌∙◌, arith, eqb-true}
use Rattle.std.proofs.Math.Option.{some}
use Rattle.layout.specs.Lists.{All, first_with, pick}

-- what was found has the number
pub first_with_lem : {A : Type 0} (number : A → ℕ) (n : ℕ) (xs : List A) (x : A) → first_with number n xs ≡ some x → number x ≡ n
unfolding first_with pick
first_with_lem number n [] x e =
    let z : ◌≡◌ {A = ℕ} 0 1 = cc in
    absurd (omega arith)
first_with_lem number n (y ∷ ys) x e = go (eqb (number y) n) refl (λ k. first_with_lem number n ys x k) e
  where
    go : (t : Bool) → eqb (number y) n ≡ t → (first_with number n ys ≡ some x → number x ≡ n) → pick t (some y) (first_with number n ys) ≡ some x → number x ≡ n
    go true h later k =
        let same : y ≡ x = cc in
        sym (ap number same) ∙ eqb-true (number y) n h
    go false h later k = later k

pub all_take : {A : Type 0} (P : A → Type 0) (n : ℕ) (l : List A) → All P l → All P (take n l)
all_take P zero l h = tt
all_take P (suc n) [] h = tt
all_take P (suc n) (x ∷ l) h = (h.0, all_take P n l h.1)

pub all_drop : {A : Type 0} (P : A → Type 0) (n : ℕ) (l : List A) → All P l → All P (drop n l)
all_drop P zero l h = h
all_drop P (suc n) [] h = tt
all_drop P (suc n) (x ∷ l) h = all_drop P n l h.1

pub all_append : {A : Type 0} (P : A → Type 0) (xs ys : List A) → All P xs → All P ys → All P (xs ++ ys)
all_append P [] ys h k = k
all_append P (x ∷ xs) ys h k = (h.0, all_append P xs ys h.1 k)

pub all_left : {A : Type 0} (P : A → Type 0) (xs ys : List A) → All P (xs ++ ys) → All P xs
all_left P [] ys h = tt
all_left P (x ∷ xs) ys h = (h.0, all_left P xs ys h.1)

pub all_right : {A : Type 0} (P : A → Type 0) (xs ys : List A) → All P (xs ++ ys) → All P ys
all_right P [] ys h = h
all_right P (x ∷ xs) ys h = all_right P xs ys h.1
