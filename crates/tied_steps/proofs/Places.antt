-- Places among the steps of a byte string: where a step begins, that none begins within another, and that its bytes tell a step.
-- Assumes nothing.
use Rattle.std.specs.Prelude.{◌≡◌, refl, ℕ, ◌+◌, ◌≤◌, ◌<◌, List, ◌∷◌, ◌++◌, length, take, drop}
use Rattle.std.proofs.Common.{sym, ap, ◌∙◌, arith, append_assoc, length-append, take_at, drop_at}
use Rattle.layout.specs.Stepped.{IsStep, short, long, Steps, nothing, first}
use Rattle.tied_steps.specs.Places.{Same, StepAt}

cons_head : {x y : ℕ} {a b : List ℕ} → (x ∷ a) ≡ (y ∷ b) → x ≡ y
cons_head e = cc

cons_tail : {x y : ℕ} {a b : List ℕ} → (x ∷ a) ≡ (y ∷ b) → a ≡ b
cons_tail e = cc

-- fronts of one length
same_front : (x y a b : List ℕ) → length x ≡ length y → x ++ a ≡ y ++ b → Same x a y b
same_front x y a b l e =
    record {
      front = sym (take_at x a (length y) l) ∙ ap (take (length y)) e ∙ take_at y b (length y) refl;
      rest = sym (drop_at x a (length y) l) ∙ ap (drop (length y)) e ∙ drop_at y b (length y) refl;
    }

-- the bytes tell how long a step is, and so tell the first
pub same_step : {x y : List ℕ} (a b : List ℕ) → IsStep x → IsStep y → x ++ a ≡ y ++ b → Same x a y b
same_step {x} {y} a b h k e = same_front x y a b (same_length h k e) e
  where
    same_length : {x y : List ℕ} → IsStep x → IsStep y → x ++ a ≡ y ++ b → length x ≡ length y
    same_length (short h) (short k) e = refl
    same_length (short h) (long k m) e = absurd (omega (arith, h, k, cons_head e))
    same_length (long h l) (short k) e = absurd (omega (arith, h, k, cons_head e))
    same_length (long {low = low} {high} h l) (long {low = low'} {high = high'} k m) e =
        let i : low ≡ low' = cons_head (cons_tail e) in
        let j : high ≡ high' = cons_head (cons_tail (cons_tail e)) in
        omega (arith, l, m, i, j)

-- ---- none begins within another

-- a step that begins later than another begins where that one has ended, or later still: never in its payload
pub none_within : {q : List ℕ} {k k' p p' : ℕ} {x x' : List ℕ} → StepAt q k p x → StepAt q k' p' x' → p < p' → p + length x ≤ p'
none_within {q} {x = x} {x' = x'} s s' l =
    let h = go s.before s'.before s.are_before s'.are_before (sym s.is_whole ∙ s'.is_whole) (omega (arith, s.is_place, s'.is_place)) in
    omega (arith, s.is_place, s'.is_place, h)
  where
    go : {i j : ℕ} (a b : List ℕ) → Steps a i → Steps b j → a ++ (x ++ s.after) ≡ b ++ (x' ++ s'.after) → length a < length b → length a + length x ≤ length b
    go a b nothing nothing e m = absurd (omega (arith, m))
    go a b nothing (first {x = c} {r = d} g t f) e m =
        let v : Same x s.after c (d ++ (x' ++ s'.after)) =
        same_step s.after (d ++ (x' ++ s'.after)) s.is_step g (e ∙ ap (λ (u : List ℕ). u ++ (x' ++ s'.after)) f ∙ append_assoc c d (x' ++ s'.after)) in
        omega (arith, ap length v.front, ap length f, length-append c d)
    go a b (first g t f) nothing e m = absurd (omega (arith, m))
    go a b (first {x = c} {r = d} g t f) (first {x = c'} {r = d'} g' t' f') e m =
        let v : Same c (d ++ (x ++ s.after)) c' (d' ++ (x' ++ s'.after)) =
        same_step (d ++ (x ++ s.after)) (d' ++ (x' ++ s'.after)) g g'
        (sym (ap (λ (u : List ℕ). u ++ (x ++ s.after)) f ∙ append_assoc c d (x ++ s.after)) ∙ e ∙ ap (λ (u : List ℕ). u ++ (x' ++ s'.after)) f' ∙ append_assoc c' d' (x' ++ s'.after)) in
        let n : length d < length d' = omega (arith, m, ap length f, ap length f', ap length v.front, length-append c d, length-append c' d') in
        let again : length d + length x ≤ length d' = go d d' t t' v.rest n in
        omega (arith, again, ap length f, ap length f', ap length v.front, length-append c d, length-append c' d')
