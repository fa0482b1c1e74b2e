-- The stepping check answers what `Stepped` says and nothing else; its allowance of steps is always enough; and it counts no
-- further than there are bytes. Assumes nothing.
use Rattle.std.specs.Prelude.{◌≡◌, Bool, length, get_or, take, drop, leb, ltb, eqb}
use Rattle.std.proofs.Math.Path.{refl, sym, subst}
use Rattle.std.proofs.Common.{ap, ◌∙◌, length-append, length-take, take-append-drop, get_or-append-add}
use Prim.Native.Nat.{ℕ, zero, suc, ◌+◌, ◌-◌, ◌*◌, ◌≤◌, ◌<◌}
use native.Mathlib.Omega.{arith}
use Rattle.std.proofs.Math.Bool.{true, false}
use Rattle.std.proofs.lemmas.Bool.{false≢true}
use mathlib.Core.List.{List, [], ◌∷◌, ◌++◌, append_assoc, append-nil}
use Rattle.std.proofs.lemmas.List.{get_or_at}
use borrow.Author.Tests.{lt-ltb, le-ltb, le-leb, lt-leb, ne_eqb, leb-true, leb-false, ltb-true, ltb-false, eqb-true}
use Rattle.layout.specs.Lists.{pick}
use Rattle.layout.specs.Numbers.{u16_at}
use Rattle.layout.specs.Answers.{Answer, Done, Refused, Unclean}
use Rattle.layout.specs.Step.{reach, onward, end_at, ended, walk, step_from, step}
use Rattle.layout.specs.Stepped.{IsStep, short, long, Steps, nothing, first, Passes, unsaid, beyond, end_step, Stepped, clean, passing, endless, vacant, IsClean}
use Rattle.layout.proofs.Stepped.{end_step_lem, one_step, steps_append, step_length, steps_length}
use Rattle.layout.specs.Stepping.{AtMost, Due, Front, cut, made, unclean, whole}

module _ (s : List ℕ) where
  -- a step takes at least one byte
  pub forward : (p : ℕ) → p < onward s p
  unfolding reach
  forward p = go (ltb (get_or s p 0) 128)
    where
      go : (t : Bool) → p < p + reach t s p
      go true = omega arith
      go false = omega arith

  -- ---- the allowance

  -- no byte is left: no step is made
  used_up : (left p k : ℕ) (end : Bool) → length s ≤ p → walk s left p k end ≡ ended end (length s) k
  unfolding walk pick
  used_up zero p k end h = refl
  used_up (suc left) p k end h = rw (le-ltb p (length s) h) refl

  -- any two allowances, each of at least as many steps as there are bytes left, answer the same
  pub any_allowance : (left left' p k : ℕ) (end : Bool) → length s ≤ p + left → length s ≤ p + left' → walk s left p k end ≡ walk s left' p k end
  unfolding walk
  any_allowance zero left' p k end h h' = sym (used_up left' p k end (omega arith))
  any_allowance (suc left) zero p k end h h' = used_up (suc left) p k end (omega arith)
  any_allowance (suc left) (suc left') p k end h h' =
      rw (any_allowance left left' (onward s p) (k + 1) (end_at s p) (omega (arith, forward p)) (omega (arith, forward p))) refl

  -- so each that has a step for every byte gives what the check answers
  pub any_step : (left : ℕ) → length s ≤ left → walk s left 0 0 false ≡ step s
  unfolding step step_from
  any_step left h = any_allowance left (length s - 0) 0 0 false (omega arith) (omega arith)

  -- ---- the check from a place on, by what stands there

  pub from_out : (p k : ℕ) (end : Bool) → length s ≤ p → step_from s p k end ≡ ended end (length s) k
  unfolding step_from
  from_out p k end h = used_up (length s - p) p k end h

  pub from_cut : (p k : ℕ) (end : Bool) → p < length s → length s < onward s p → step_from s p k end ≡ Refused (Unclean p)
  unfolding step_from walk pick
  from_cut p k end h g =
      any_allowance (length s - p) (suc (length s)) p k end (omega arith) (omega arith) ∙ rw (lt-ltb p (length s) h, lt-leb (onward s p) (length s) g) refl

  pub from_step : (p k : ℕ) (end : Bool) → p < length s → onward s p ≤ length s → step_from s p k end ≡ step_from s (onward s p) (k + 1) (end_at s p)
  unfolding step_from walk pick
  from_step p k end h g =
      any_allowance (length s - p) (suc (length s)) p k end (omega arith) (omega arith)
      ∙ rw (lt-ltb p (length s) h, le-leb (onward s p) (length s) g)
      (any_allowance (length s) (length s - onward s p) (onward s p) (k + 1) (end_at s p) (omega arith) (omega arith))

-- ---- a step, and where it stands in the whole

at_front : (s q : List ℕ) (op : ℕ) (r : List ℕ) → s ≡ q ++ (op ∷ r) → get_or s (length q) 0 ≡ op
at_front s q op r e = ap (λ (l : List ℕ). get_or l (length q) 0) e ∙ get_or_at q op r 0 (length q) refl

low_high : (s q : List ℕ) (op low high : ℕ) (r : List ℕ) → s ≡ q ++ (op ∷ low ∷ high ∷ r) → u16_at s (length q + 1) ≡ low + 256 * high
low_high s q op low high r e =
    let x : List ℕ = op ∷ low ∷ high ∷ r in
    let i : length q + 1 + 1 ≡ length q + 2 = omega arith in
    let a : get_or s (length q + 1) 0 ≡ low = ap (λ (l : List ℕ). get_or l (length q + 1) 0) e ∙ get_or-append-add q x 1 0 in
    let b : get_or s (length q + 1 + 1) 0 ≡ high = ap (λ (j : ℕ). get_or s j 0) i ∙ ap (λ (l : List ℕ). get_or l (length q + 2) 0) e ∙ get_or-append-add q x 2 0 in
    rw (a, b) refl

-- a step reaches as far as it is long
reach_step : (s q x r : List ℕ) → IsStep x → s ≡ q ++ (x ++ r) → onward s (length q) ≡ length q + length x
unfolding reach
reach_step s q x r (short {op} h) e = rw (at_front s q op r e, lt-ltb op 128 h) refl
reach_step s q x r (long {op} {low} {high} {rest} h l) e =
    rw (at_front s q op (low ∷ high ∷ (rest ++ r)) e, le-ltb op 128 h, low_high s q op low high (rest ++ r) e) (omega (arith, l))

reach_passes : (s q r : List ℕ) → Passes r → s ≡ q ++ r → (length q < length s) × (length s < onward s (length q))
unfolding reach
reach_passes s q r (unsaid {op} {rest} h l) e =
    let n : length s ≡ length q + suc (length rest) = ap length e ∙ length-append q (op ∷ rest) in
    (omega (arith, n), rw (at_front s q op rest e, le-ltb op 128 h) (omega (arith, n)))
reach_passes s q r (beyond {op} {low} {high} {rest} h l) e =
    let n : length s ≡ length q + suc (suc (suc (length rest))) = ap length e ∙ length-append q (op ∷ low ∷ high ∷ rest) in
    (omega (arith, n), rw (at_front s q op (low ∷ high ∷ rest) e, le-ltb op 128 h, low_high s q op low high rest e) (omega (arith, n, l)))

-- whether it is an End
end_front : (s q x r : List ℕ) → IsStep x → s ≡ q ++ (x ++ r) → end_at s (length q) ≡ end_at x 0
end_front s q x r (short {op} h) e = ap (λ (n : ℕ). eqb n 0) (at_front s q op r e)
end_front s q x r (long {op} {low} {high} {rest} h l) e = ap (λ (n : ℕ). eqb n 0) (at_front s q op (low ∷ high ∷ (rest ++ r)) e)

is_end : (x : List ℕ) → IsStep x → end_at x 0 ≡ true → x ≡ end_step
is_end x (short {op} h) e = ap (λ (n : ℕ). n ∷ []) (eqb-true op 0 e)
is_end x (long {op} h l) e = absurd (omega (arith, h, eqb-true op 0 e))

no_end : (x : List ℕ) → IsStep x → (x ≡ end_step → ⊥) → end_at x 0 ≡ false
no_end x (short {op} h) f = ne_eqb op 0 (λ e. f (ap (λ (n : ℕ). n ∷ []) e))
no_end x (long {op} h l) f = ne_eqb op 0 (λ e. absurd (omega (arith, h, e)))

-- ---- the check over a sequence of steps

module _ (s : List ℕ) where
  -- the n steps q are made, and the check answers what it answers from the place after them
  record Reached (q : List ℕ) (n : ℕ) : Type 0 where
    end : Bool
    same : step s ≡ step_from s (length q) n end

  on_step : (q x r : List ℕ) (n : ℕ) (end : Bool) → IsStep x → s ≡ q ++ (x ++ r) → step_from s (length q) n end ≡ step_from s (length (q ++ x)) (n + 1) (end_at x 0)
  on_step q x r n end h e =
      let l : length s ≡ length q + (length x + length r) = ap length e ∙ length-append q (x ++ r) ∙ ap (λ (i : ℕ). length q + i) (length-append x r) in
      let g : onward s (length q) ≡ length (q ++ x) = reach_step s q x r h e ∙ sym (length-append q x) in
      from_step s (length q) n end (omega (arith, l, step_length h)) (omega (arith, l, g, length-append q x))
      ∙ ap (λ (i : ℕ). step_from s i (n + 1) (end_at s (length q))) g
      ∙ ap (λ (t : Bool). step_from s (length (q ++ x)) (n + 1) t) (end_front s q x r h e)

  over : {q a : List ℕ} {n i : ℕ} (r : List ℕ) → Reached q n → Steps a i → s ≡ q ++ (a ++ r) → Reached (q ++ a) (n + i)
  over {q} {a} {n} r h nothing e =
      let z : n ≡ n + 0 = omega arith in
      record { end = h.end; same = h.same ∙ rw (append-nil q, ← z) refl }
  over {q} {a} {n} r h (first {x} {r = b} {n = i} g t f) e =
      let e₁ : s ≡ q ++ (x ++ (b ++ r)) = e ∙ ap (λ (u : List ℕ). q ++ u) (ap (λ (u : List ℕ). u ++ r) f ∙ append_assoc x b r) in
      let next : Reached (q ++ x) (n + 1) = record { end = end_at x 0; same = h.same ∙ on_step q x (b ++ r) n h.end g e₁ } in
      let last : Reached ((q ++ x) ++ b) (n + 1 + i) = over {q = q ++ x} {a = b} {n = n + 1} {i = i} r next t (e₁ ∙ sym (append_assoc q x (b ++ r))) in
      let u : (q ++ x) ++ b ≡ q ++ a = append_assoc q x b ∙ ap (λ (v : List ℕ). q ++ v) (sym f) in
      let v : n + 1 + i ≡ n + suc i = omega arith in
      subst (λ (j : ℕ). Reached (q ++ a) j) v (subst (λ (w : List ℕ). Reached w (n + 1 + i)) u last)

  reached : {q : List ℕ} {n : ℕ} (r : List ℕ) → Steps q n → s ≡ q ++ r → Reached q n
  unfolding step
  reached {q} {n} r t e =
      let z : 0 + n ≡ n = omega arith in
      subst (Reached q) z (over {q = []} r (record { end = false; same = refl }) t e)

  -- the last step
  on_last : {q : List ℕ} {n : ℕ} (x : List ℕ) → Steps q n → IsStep x → s ≡ q ++ x → step s ≡ ended (end_at x 0) (length s) (n + 1)
  on_last {q} {n} x t h e =
      let u : s ≡ q ++ (x ++ []) = e ∙ ap (λ (v : List ℕ). q ++ v) (sym (append-nil x)) in
      let w : Reached q n = reached x t e in
      w.same ∙ on_step q x [] n w.end h u ∙ from_out s (length (q ++ x)) (n + 1) (end_at x 0) (omega (arith, ap length e))

-- what is due is answered
pub stepped_step : {s : List ℕ} {a : Answer ℕ} → Stepped s a → step s ≡ a
unfolding ended
stepped_step {s} (clean t) = on_last s end_step t end_step_lem refl
stepped_step {s} (passing {q} {r} {n} t g) =
    let w : Reached s q n = reached s r t refl in
    let b = reach_passes s q r g refl in
    w.same ∙ from_cut s (length q) n w.end b.0 b.1
stepped_step {s} (endless {x} {n} t g h) = on_last s x t g refl ∙ ap (λ (e : Bool). ended e (length s) (n + 1)) (no_end x g h)
stepped_step vacant = unfold step in from_out [] 0 0 false (omega arith)

front : (op : ℕ) (r : List ℕ) → Front (op ∷ r)
front op r = small (ltb op 128) refl
  where
    measured : (low high : ℕ) (q : List ℕ) → 128 ≤ op → (t : Bool) → leb (low + 256 * high) (length q) ≡ t → Front (op ∷ low ∷ high ∷ q)
    measured low high q h true e =
        let n : ℕ = low + 256 * high in
        let l : length (take n q) ≡ low + 256 * high = length-take n q ∙ omega (arith, leb-true n (length q) e) in
        whole (drop n q) (long {rest = take n q} h l) (ap (λ (i : List ℕ). op ∷ low ∷ high ∷ i) (sym (take-append-drop n q)))
    measured low high q h false e = cut (beyond h (leb-false (low + 256 * high) (length q) e))

    large : (l : List ℕ) → 128 ≤ op → Front (op ∷ l)
    large [] h = cut (unsaid {rest = []} h (omega arith))
    large (a ∷ []) h = cut (unsaid {rest = a ∷ []} h (omega arith))
    large (low ∷ high ∷ q) h = measured low high q h (leb (low + 256 * high) (length q)) refl

    small : (t : Bool) → ltb op 128 ≡ t → Front (op ∷ r)
    small true e = whole r (short (ltb-true op 128 e)) refl
    small false e = large r (ltb-false op 128 e)

due_as : {s t : List ℕ} → s ≡ t → Due s → Due t
due_as e h = subst Due e h

-- the steps q, a step x, and what is left
due_from : (fuel : ℕ) (q x r : List ℕ) {n : ℕ} → Steps q n → IsStep x → length r < fuel → Due (q ++ (x ++ r))
due_from zero q x r t h l = absurd (omega (arith, l))
due_from (suc fuel) q x [] t h l = due_as (ap (λ (u : List ℕ). q ++ u) (sym (append-nil x))) (go (end_at x 0) refl)
  where
    go : (b : Bool) → end_at x 0 ≡ b → Due (q ++ x)
    go true e = due_as (ap (λ (u : List ℕ). q ++ u) (sym (is_end x h e))) (record { answer = _; is_stepped = clean t })
    go false e = record { answer = _; is_stepped = endless t h (λ f. absurd (false≢true (sym e ∙ ap (λ (u : List ℕ). end_at u 0) f ∙ refl))) }
due_from (suc fuel) q x (op ∷ r) {n} t h l =
    due_as (append_assoc q x (op ∷ r)) (go (front op r) (λ y b g k. due_from fuel (q ++ x) y b (steps_append t (one_step h)) g k))
  where
    go : Front (op ∷ r) → ((y b : List ℕ) → IsStep y → length b < fuel → Due ((q ++ x) ++ (y ++ b))) → Due ((q ++ x) ++ (op ∷ r))
    go (whole {x = y} b g e) again =
        due_as (ap (λ (u : List ℕ). (q ++ x) ++ u) (sym e)) (again y b g (omega (arith, l, ap length e, length-append y b, step_length g)))
    go (cut g) again = record { answer = _; is_stepped = passing (steps_append t (one_step h)) g }

due : (s : List ℕ) → Due s
due [] = record { answer = _; is_stepped = vacant }
due (op ∷ r) = go (front op r)
  where
    go : Front (op ∷ r) → Due (op ∷ r)
    go (whole {x = y} b g e) = due_as (sym e) (due_from (suc (length b)) [] y b nothing g (omega arith))
    go (cut g) = record { answer = _; is_stepped = passing nothing g }

-- ---- what the check answers

-- what it answers is due
pub step_stepped : (s : List ℕ) → Stepped s (step s)
step_stepped s = subst (Stepped s) (sym (stepped_step (due s).is_stepped)) (due s).is_stepped

-- "It is clean exactly when its last step is an End; the count is all steps"
pub clean_done : {s : List ℕ} {n : ℕ} → IsClean s n → step s ≡ Done n
clean_done h = ap step h.is_ended ∙ stepped_step (clean h.is_steps) ∙ ap Done (sym h.is_count)

pub done_clean : (s : List ℕ) (n : ℕ) → step s ≡ Done n → IsClean s n
done_clean s n e = go (step_stepped s) e
  where
    not : {X : Type 0} {p : ℕ} → Refused (Unclean p) ≡ Done n → X
    not k =
        let z : ◌≡◌ {A = ℕ} 0 1 = cc in
        absurd (omega arith)

    go : {u : List ℕ} {a : Answer ℕ} → Stepped u a → a ≡ Done n → IsClean u n
    go (clean {q} {n = m} t) k = record { before = q; made = m; is_steps = t; is_ended = refl; is_count = cc }
    go (passing t g) k = not k
    go (endless t g f) k = not k
    go vacant k = not k

-- the steps made, or the place told, are at most the number of bytes
pub step_most : (s : List ℕ) → AtMost (length s) (step s)
step_most s = go (step_stepped s)
  where
    go : {u : List ℕ} {a : Answer ℕ} → Stepped u a → AtMost (length u) a
    go (clean {q} {n} t) = made {k = n + 1} (omega (arith, steps_length t, length-append q end_step))
    go (passing {q} {r} t g) = unclean {p = length q} (omega (arith, length-append q r))
    go {u} (endless t g f) = unclean {p = length u} (omega arith)
    go vacant = unclean {p = 0} (omega arith)
