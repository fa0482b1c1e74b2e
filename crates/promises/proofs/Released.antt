-- What stepping answers for a block that the packer gave: "Stepping must never raise a false alarm on a release". Assumes nothing.
use Rattle.std.specs.Prelude.{◌≡◌, ℕ, ◌+◌, List, length, take, ℤ, pos}
use Rattle.std.proofs.Math.Path.{ap}
use Rattle.std.proofs.Common.{◌∙◌, subst}
use Rattle.layout.specs.Answers.{number, value, action}
use Rattle.layout.specs.Tree.{Actions, body_count}
use Rattle.layout.specs.Judge.{Mode}
use Rattle.layout.specs.Pack.{pack, Outcome, ReadsAs}
use Rattle.laws.specs.Fits.{Bytes}
use Rattle.laws.specs.Packed.{Packed}
use Rattle.merinovault.specs.Calls.{PackCalled, StepCalled}
use Rattle.tied_steps.specs.Tied.{Tied}
use Rattle.tied_steps.proofs.Tying.{done_tied}
use Rattle.promises.proofs.Calls.{filled, done_packed}
use Rattle.promises.specs.Entries.{value_in, action_in}
use Rattle.promises.proofs.Entries.{pack_in, pack_outcome, step_in, step_told}
use Rattle.promises.specs.Released.{Released}

-- ---- a call of the packer

-- in a call that answers 0 with value k, the first k bytes of the output are tied to whatever tree the sheet reads as
pub outcome_tied : (m : Mode) (s book o : List ℕ) (t : Actions) (k : ℕ) {i : ℕ} (after : List ℕ) → Bytes s → Bytes book → ReadsAs s book t → Outcome m s book o 0 (pos k) i after
    → Tied t (take k after)
outcome_tied m s book o t k after small lent r h = done_tied m s book (length o) (take k after) t small lent r (filled m s book o k after h).packed

-- so there is such a tree for every block
pub outcome_released : (m : Mode) (s book o : List ℕ) (k : ℕ) {i : ℕ} (after : List ℕ) → Bytes s → Bytes book → Outcome m s book o 0 (pos k) i after → Released s book (take k after)
outcome_released m s book o k after small lent h =
    let p : Packed s book (length o) (take k after) = done_packed m s book o k after h in
    record { tree = p.tree; reads = p.reads; tied = outcome_tied m s book o p.tree k after small lent p.reads h }

-- ---- the C-callable entries

-- merinovault_pack, where it returned 0 and its value slice tells k; that it then tells some length is `done_value`, in Calls
module _ {m : Mode} {s book o v : List ℕ} {v' after : List ℕ} (h : PackCalled m s book o v 0 v' after) (is-sixteen : length v ≡ 16) (k : ℕ) (is_value : value_in v' ≡ pos k) where
  -- it left what a call of the packer leaves that answers 0 with value k
  pack_done : Outcome m s book o 0 (pos k) (action (pack m s book (length o))) after
  pack_done =
      subst (λ (z : ℤ). Outcome m s book o 0 z (action (pack m s book (length o))) after) is_value
      (pack_outcome h is-sixteen (action (pack m s book (length o))) (pack_in h is-sixteen).1)

  pub pack_released : Released s book (take k after)
  pack_released = outcome_released m s book o k after h.is_lent.bytes h.is_book.bytes pack_done

  -- merinovault_step, given these k bytes, returns 0, and its value is one more than the number of actions of whatever tree the sheet
  -- reads as
  pub pack_then_step : {w : List ℕ} {n : ℕ} {w' : List ℕ} (t : Actions) → ReadsAs s book t → StepCalled (take k after) w n w' → length w ≡ 16
      → (n ≡ 0) × (value_in w' ≡ pos (body_count t + 1)) × (action_in w' ≡ pos 0)
  unfolding number value
  pack_then_step t r c eq =
      let tied : Tied t (take k after) = outcome_tied m s book o t k after h.is_lent.bytes h.is_book.bytes r pack_done in
      ((step_told c eq).is_number ∙ ap number tied.is_clean, (step_in c eq).0 ∙ ap (value pos) tied.is_clean, (step_in c eq).1)
