-- Laws of runs of stores: a run before another, a run over another, and the length of a body that is patched in before it.
-- Assumes nothing.
use mathlib.Core.Path.{◌≡◌, refl, sym, ap, ◌∙◌}
use Prim.Native.Nat.{ℕ, suc, ◌+◌, ◌≤◌, ◌<◌}
use native.Mathlib.Omega.{arith}
use mathlib.Core.List.{List, [], ◌∷◌, ◌++◌, append_assoc}
use lib.ListN.{length, set}
use lib.Seq.{sets, set_comm, set-set}
use Rattle.stores.proofs.Stores.{sets-append}

-- A store before a run may come first.
set-sets : (vs l : List ℕ) (i j x : ℕ) → i < j → set (sets l j vs) i x ≡ sets (set l i x) j vs
set-sets [] l i j x h = refl
set-sets (v ∷ vs) l i j x h = set-sets vs (set l j v) i (suc j) x (omega arith) ∙ ap (λ (s : List ℕ). sets s (suc j) vs) (set_comm l j i v x (λ e. omega arith))

-- A run that ends before another may come first.
sets_before : (xs vs l : List ℕ) (i j : ℕ) → i + length xs ≤ j → sets (sets l j vs) i xs ≡ sets (sets l i xs) j vs
sets_before [] vs l i j h = refl
sets_before (x ∷ xs) vs l i j h = ap (λ (s : List ℕ). sets s (suc i) xs) (set-sets vs l i j x (omega arith)) ∙ sets_before xs vs (set l i x) (suc i) j (omega arith)

-- Of two runs of one length at one place the second stays.
sets_over : (u v l : List ℕ) (i : ℕ) → length u ≡ length v → sets (sets l i u) i v ≡ sets l i v
sets_over [] [] l i e = refl
sets_over [] (y ∷ v) l i e = absurd (omega arith)
sets_over (x ∷ u) [] l i e = absurd (omega arith)
sets_over (x ∷ u) (y ∷ v) l i e =
    ap (λ (s : List ℕ). sets s (suc i) v) (set-sets u (set l i x) i (suc i) y (omega arith) ∙ ap (λ (s : List ℕ). sets s (suc i) u) (set-set l i x y))
    ∙ sets_over u v (set l i y) (suc i) (omega arith)

-- A run inside another is written again, as long as it was: what stands before and behind it is kept.
sets_inside : (l a u v d : List ℕ) (i : ℕ) → length u ≡ length v → sets (sets l i (a ++ (u ++ d))) (i + length a) v ≡ sets l i (a ++ (v ++ d))
sets_inside l a u v d i e =
    let m : List ℕ = sets l i a in
    let j : ℕ = i + length a in
    ap (λ (s : List ℕ). sets s j v) (sym (sets-append l i a (u ++ d)) ∙ sym (sets-append m j u d))
    ∙ sets_before v d (sets m j u) j (j + length u) (omega arith)
    ∙ ap (λ (s : List ℕ). sets s (j + length u) d) (sets_over u v m j e)
    ∙ ap (λ (n : ℕ). sets (sets m j v) (j + n) d) e
    ∙ sets-append m j v d
    ∙ sets-append l i a (v ++ d)

-- A run u inside another is written again as v after x was written behind the whole.
pub patched : (l a u v c x : List ℕ) (i : ℕ) → length u ≡ length v
    → sets (sets (sets l i (a ++ (u ++ c))) (i + length (a ++ (u ++ c))) x) (i + length a) v ≡ sets l i (a ++ (v ++ (c ++ x)))
patched l a u v c x i e =
    ap (λ (s : List ℕ). sets s (i + length a) v) (sets-append l i (a ++ (u ++ c)) x ∙ ap (λ (r : List ℕ). sets l i r) (append_assoc a (u ++ c) x ∙ ap (λ (r : List ℕ). a ++ r) (append_assoc u c x)))
    ∙ sets_inside l a u v (c ++ x) i e
