-- What a caller is told, by the two cases of the length of its value slice. Assumes nothing.
use mathlib.Core.Path.{◌≡◌, refl, sym, ap, ap₂, ◌∙◌}
use Prim.Native.Nat.{ℕ, ◌<◌}
use native.Mathlib.Omega.{arith}
use mathlib.Core.List.{List, ◌++◌}
use lib.ListN.{length}
use lib.Seq.{sets}
use Rattle.stores.proofs.Stores.{filled}
use lib.IntN.{ℤ, pos}
use borrow.Author.Tests.{eq-eqb, ne_eqb}
use Rattle.layout.specs.Lists.{pick}
use Rattle.layout.specs.Numbers.{le16, le32, le64, bits64, i64_bytes}
use Rattle.layout.specs.Answers.{Answer, refusal_number, refusal_value, refusal_action, number, value, action, value_bytes}
use Rattle.layout.specs.Answers as answers
use Rattle.layout.specs.Step.{step}
use Rattle.answer.proofs.Values.{natural_bits}
use Rattle.merinovault.specs.Calls.{if_sixteen}

-- of a slice of sixteen
pub sixteen : {A : Type 0} (v : List ℕ) (a b : A) → length v ≡ 16 → if_sixteen v a b ≡ a
unfolding if_sixteen pick
sixteen v a b e = rw (eq-eqb (length v) 16 e)

-- and of any other
pub other : {A : Type 0} (v : List ℕ) (a b : A) → (length v ≡ 16 → ⊥) → if_sixteen v a b ≡ b
unfolding if_sixteen pick
other v a b e = rw (ne_eqb (length v) 16 e)

-- ---- what a caller is told

-- the bytes of a value and of an action number, from their bits
pub told_bytes : {A : Type 0} (done : A → ℤ) (a : Answer A) {bits k : ℕ} {v : ℤ} {l : List ℕ} → l ≡ le64 bits ++ le64 k → bits ≡ bits64 v → v ≡ value done a
    → k < 18446744073709551616 → k ≡ action a → l ≡ value_bytes done a
unfolding value_bytes i64_bytes
told_bytes done a {k = k} e f g h i = e ∙ ap₂ ◌++◌ (ap le64 (f ∙ ap bits64 g)) (ap le64 (natural_bits k h ∙ ap (λ (n : ℕ). bits64 (pos n)) i))

module _ (s v l : List ℕ) (sixteen-long : length v ≡ 16) where
  module _ (n : ℕ) (d : step s ≡ answers.Done n) where
    pub done_number : 0 ≡ if_sixteen v (number (step s)) 11
    unfolding number
    done_number = sym (sixteen v (number (step s)) 11 sixteen-long ∙ rw d)

    pub done_value : n < 18446744073709551616 → l ≡ le64 n ++ le64 0 → l ≡ if_sixteen v (value_bytes pos (step s)) v
    unfolding value action
    done_value h e = told_bytes pos (step s) e (natural_bits n h) (rw d) (omega arith) (rw d) ∙ sym (sixteen v (value_bytes pos (step s)) v sixteen-long)

  module _ (p : ℕ) (d : step s ≡ answers.Refused (answers.Unclean p)) where
    pub unclean_number : 13 ≡ if_sixteen v (number (step s)) 11
    unfolding number refusal_number
    unclean_number = sym (sixteen v (number (step s)) 11 sixteen-long ∙ rw d)

    pub unclean_value : p < 18446744073709551616 → l ≡ le64 p ++ le64 0 → l ≡ if_sixteen v (value_bytes pos (step s)) v
    unfolding value refusal_value action refusal_action
    unclean_value h e = told_bytes pos (step s) e (natural_bits p h) (rw d) (omega arith) (rw d) ∙ sym (sixteen v (value_bytes pos (step s)) v sixteen-long)

-- ---- the value slice

-- a value and an action number fill it
pub value_long : (bits k : ℕ) → length (le64 bits ++ le64 k) ≡ 16
unfolding le64 le32 le16
value_long bits k = refl

pub value_filled : (v new : List ℕ) (bits k : ℕ) → length v ≡ 16 → new ≡ sets v 0 (le64 bits ++ le64 k) → new ≡ le64 bits ++ le64 k
value_filled v new bits k h e = e ∙ filled v (le64 bits ++ le64 k) (value_long bits k ∙ sym h)
