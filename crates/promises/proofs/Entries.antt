-- What a C-callable entry promises, from its contract, `PackCalled` or `StepCalled`: its value and its action number are read back
-- from sixteen bytes, and so every theorem of Calls holds of the packer's entry. Assumes nothing.
use Rattle.std.specs.Prelude.{◌≡◌, refl, ℕ, List, length, ℤ, pos}
use Rattle.std.proofs.Common.{sym, ◌∙◌, subst, arith}
use Rattle.std.proofs.Math.Path.{ap}
use Rattle.layout.specs.Answers.{Answer, Done, refusal_number, number, value, action, length_of, Told, value_bytes}
use Rattle.layout.specs.Judge.{Mode}
use Rattle.layout.specs.Pack.{pack, Outcome}
use Rattle.layout.specs.Step.{step}
use Rattle.layout.specs.Stepped.{Stepped, IsClean}
use Rattle.layout.specs.Stepping.{AtMost, made, unclean}
use Rattle.layout.proofs.Stepping.{stepped_step, done_clean, step_most}
use Rattle.layout.specs.Order.{IsI64}
use Rattle.layout.proofs.Order.{told_back}
use Rattle.laws.proofs.Values.{pack_i64, step_i64}
use Rattle.merinovault.specs.Calls.{if_sixteen, PackCalled, StepCalled}
use Rattle.merinovault.proofs.Values.{sixteen, other}
use Rattle.action_numbers.proofs.Refusals.{action_i64, step_action, step_action_i64}
use Rattle.promises.specs.Entries.{action_in, value_in}

-- of a slice of sixteen, where an i64 holds the answer's value and its action number
read_back : {A : Type 0} (done : A → ℤ) (a : Answer A) (v v' : List ℕ) → length v ≡ 16 → IsI64 (value done a) → IsI64 (pos (action a)) → v' ≡ if_sixteen v (value_bytes done a) v
    → (value_in v' ≡ value done a) × (action_in v' ≡ pos (action a))
read_back done a v v' e i j h =
    let back : value_in (value_bytes done a) ≡ value done a = (told_back done a i j).0 in
    let named : action_in (value_bytes done a) ≡ pos (action a) = (told_back done a i j).1 in
    (ap value_in (h ∙ sixteen v (value_bytes done a) v e) ∙ back, ap action_in (h ∙ sixteen v (value_bytes done a) v e) ∙ named)

-- ---- merinovault_pack

module _ {m : Mode} {s book o v : List ℕ} {n : ℕ} {v' after : List ℕ} (h : PackCalled m s book o v n v' after) where
  -- with a value slice of sixteen bytes
  module _ (is-sixteen : length v ≡ 16) where
    -- the slice then tells the answer's value and its action number
    pub pack_in : (value_in v' ≡ value length_of (pack m s book (length o))) × (action_in v' ≡ pos (action (pack m s book (length o))))
    pack_in =
        read_back length_of (pack m s book (length o)) v v' is-sixteen (pack_i64 m s book (length o) h.is_lent.bytes h.is_book.bytes h.is_lent.short)
        (action_i64 m s book (length o) h.is_lent.bytes h.is_book.bytes) h.is_value

    -- and the call leaves what a call of the packer leaves, with the action number k that the slice tells
    pub pack_outcome : (k : ℕ) → action_in v' ≡ pos k → Outcome m s book o n (value_in v') k after
    pack_outcome k e =
        let same : pos k ≡ pos (action (pack m s book (length o))) = sym e ∙ pack_in.1 in
        record {
          told = record { is_number = h.is_number ∙ sixteen v _ _ is-sixteen; is_value = pack_in.0; is_action = cc };
          holds = h.is_output ∙ sixteen v _ _ is-sixteen;
        }

  -- with one of any other length: 11, and nothing is written
  pub pack_other : (length v ≡ 16 → ⊥) → (n ≡ 11) × (v' ≡ v) × (after ≡ o)
  pack_other e = (h.is_number ∙ other v _ _ e, h.is_value ∙ other v _ _ e, h.is_output ∙ other v _ _ e)

-- ---- merinovault_step

module _ {s v : List ℕ} {n : ℕ} {v' : List ℕ} (h : StepCalled s v n v') where
  module _ (is-sixteen : length v ≡ 16) where
    -- the slice then tells the answer's value, and 0 for an action number
    pub step_in : (value_in v' ≡ value pos (step s)) × (action_in v' ≡ pos 0)
    step_in =
        let back = read_back pos (step s) v v' is-sixteen (step_i64 s h.is_lent.short) (step_action_i64 s) h.is_value in
        (back.0, back.1 ∙ ap pos (step_action s))

    -- number, value and action number are those of the stepping check
    pub step_told : Told pos (step s) n (value_in v') 0
    step_told = record { is_number = h.is_number ∙ sixteen v _ _ is-sixteen; is_value = step_in.0; is_action = sym (step_action s) }

    -- and so those of the answer that is due
    pub step_due : {a : Answer ℕ} → Stepped s a → Told pos a n (value_in v') 0
    step_due g = subst (λ (a : Answer ℕ). Told pos a n (value_in v') 0) (stepped_step g) step_told

    -- 0 with k is told only of k steps of which the last is an End
    pub done_is_clean : (k : ℕ) → n ≡ 0 → value_in v' ≡ pos k → IsClean s k
    done_is_clean k e f = go (step_most s) refl (sym step_told.is_number ∙ e) (sym step_in.0 ∙ f)
      where
        go : {a : Answer ℕ} → AtMost (length s) a → step s ≡ a → number a ≡ 0 → value pos a ≡ pos k → IsClean s k
        go (made {k = j} l) g i x =
            unfold value in
            let same : j ≡ k = cc in
            done_clean s k (g ∙ ap Done same)
        go (unclean l) g i x = unfold number refusal_number in absurd (omega (arith, i))

  pub step_other : (length v ≡ 16 → ⊥) → (n ≡ 11) × (v' ≡ v)
  step_other e = (h.is_number ∙ other v _ _ e, h.is_value ∙ other v _ _ e)
