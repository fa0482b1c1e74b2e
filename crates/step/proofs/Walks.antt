-- Laws of the stepping check's definition, a turn of the loop at a time. Assumes nothing.
use mathlib.Core.Path.{◌≡◌, refl, sym, ap, ◌∙◌}
use Prim.Native.Nat.{ℕ, ◌+◌, ◌≤◌, ◌<◌}
use native.Mathlib.Omega.{arith}
use mathlib.Core.Bool.{Bool, true, false}
use mathlib.Core.List.{List}
use lib.ListN.{length}
use lib.Dec.{leb}
use borrow.Author.Tests.{leb-true, leb-false}
use Rattle.layout.specs.Lists.{pick}
use Rattle.layout.specs.Step.{onward, end_at, ended, step_from, step}
use Rattle.layout.proofs.Stepping.{forward, from_out, from_cut, from_step}
use Rattle.step.specs.Steps.{look_at, told}
use Rattle.std.specs.Prelude.{Option, Some, None, Ok, Err}

-- ---- how far a step goes

module _ (s : List ℕ) (p : ℕ) where
  pub next_is : (q : ℕ) → Some q ≡ look_at s p → (q ≡ onward s p) × (onward s p ≤ length s)
  unfolding look_at
  next_is q e = go (leb (onward s p) (length s)) refl e
    where
      go : (t : Bool) → leb (onward s p) (length s) ≡ t → Some q ≡ pick t (Some (onward s p)) None → (q ≡ onward s p) × (onward s p ≤ length s)
      go true h g = (unfold pick in cc, leb-true (onward s p) (length s) h)
      go false h g = unfold pick in cc

  pub cut_is : None ≡ look_at s p → length s < onward s p
  unfolding look_at
  cut_is e = go (leb (onward s p) (length s)) refl e
    where
      go : (t : Bool) → leb (onward s p) (length s) ≡ t → ◌≡◌ {A = Option ℕ} None (pick t (Some (onward s p)) None) → length s < onward s p
      go false h g = leb-false (onward s p) (length s) h
      go true h g = unfold pick in cc

-- ---- the loop

-- stepping from here answers what stepping from byte 0 does
pub record Going (s : List ℕ) (p k : ℕ) (end : Bool) : Type 0 where
  pub inside : p ≤ length s
  pub counted : k ≤ p
  pub same : step_from s p k end ≡ step s

pub going_start : (s : List ℕ) → Going s 0 0 false
unfolding step
going_start s = record { inside = omega arith; counted = omega arith; same = refl }

module _ (s : List ℕ) (p k : ℕ) (end : Bool) (g : Going s p k end) where
  pub going_clean : length s ≤ p → end ≡ true → told (Ok k) ≡ step s
  unfolding told ended
  going_clean h e = sym (from_out s p k end h ∙ ap (λ (t : Bool). ended t (length s) k) e) ∙ g.same

  pub going_endless : length s ≤ p → end ≡ false → told (Err (record { place = length s })) ≡ step s
  unfolding told ended
  going_endless h e = sym (from_out s p k end h ∙ ap (λ (t : Bool). ended t (length s) k) e) ∙ g.same

  module _ (h : p < length s) where
    pub going_cut : None ≡ look_at s p → told (Err (record { place = p })) ≡ step s
    unfolding told
    going_cut e = sym (from_cut s p k end h (cut_is s p e)) ∙ g.same

    module _ (q : ℕ) (e : Some q ≡ look_at s p) where
      pub going_forward : p < q
      going_forward = omega (arith, forward s p, (next_is s p q e).0)

      pub going_on : Going s q (k + 1) (end_at s p)
      going_on =
          let n = next_is s p q e in
          record {
            inside = omega (arith, n.0, n.1);
            counted = omega (arith, g.counted, going_forward);
            same = rw n.0 (sym (from_step s p k end h n.1) ∙ g.same);
          }
