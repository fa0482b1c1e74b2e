-- Stepping without an allowance: a byte string as a sequence of steps, and what the stepping check must answer for it. Stepping
-- proves that it answers just that. Assumes nothing.
use Rattle.std.specs.Prelude.{◌≡◌, ℕ, suc, ◌+◌, ◌≤◌, List, ◌++◌, length}
use Rattle.std.proofs.Common.{sym, ap, ◌∙◌, subst, arith, append_assoc, append-nil, length-append}
use Rattle.layout.specs.Stepped.{IsStep, Steps, end_step, first, long, nothing, short}

pub end_step_lem : IsStep end_step
end_step_lem = short {op = 0} (omega arith)

-- ---- sequences of steps

pub one_step : {x : List ℕ} → IsStep x → Steps x 1
one_step {x} h = first h nothing (sym (append-nil x))

pub steps_append : {a b : List ℕ} {i j : ℕ} → Steps a i → Steps b j → Steps (a ++ b) (i + j)
steps_append {a} {b} {i} {j} nothing k =
    let e : j ≡ 0 + j = omega arith in
    subst (λ (l : ℕ). Steps b l) e k
steps_append {a} {b} {i} {j} (first {x} {r} {n} h t e) k =
    let f : suc (n + j) ≡ suc n + j = omega arith in
    subst (λ (l : ℕ). Steps (a ++ b) l) f (first h (steps_append t k) (ap (λ (l : List ℕ). l ++ b) e ∙ append_assoc x r b))

pub step_length : {x : List ℕ} → IsStep x → 1 ≤ length x
step_length (short h) = omega arith
step_length (long h e) = omega arith

pub steps_length : {q : List ℕ} {n : ℕ} → Steps q n → n ≤ length q
steps_length nothing = omega arith
steps_length {q} (first {x} {r} h t e) = omega (arith, ap length e, length-append x r, step_length h, steps_length t)
