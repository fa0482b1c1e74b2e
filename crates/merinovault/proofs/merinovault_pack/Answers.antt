-- `merinovault_pack` meets its contract: it tells and leaves what `pack` does, or nothing with a value slice of another length.
-- Assumes nothing.
use mathlib.Core.Path.{sym, ◌∙◌}
use native.Mathlib.Omega.{arith}
use Rattle.layout.specs.Answers.{length_of}
use Rattle.laws.proofs.Fits.{all_bytes}
use Rattle.merinovault.proofs.Values.{sixteen, other, told_bytes}
use borrow.Author.Rules.{rules}
use Rattle.merinovault.proofs.merinovault_pack.Goals as goal

pub returns-then-value-ne16 : goal.returns-then-value-ne16
returns-then-value-ne16 c =
    let e = c.if-value-ne16.true in
    record { is_lent = record { bytes = all_bytes _ (λ i l. omega (arith, c.type_inv.sheet i)); short = search rules }; is_book = record { bytes = all_bytes _ (λ i l. omega (arith, c.type_inv.book i)); short = search rules }; is_number = sym (other _ _ _ e); is_value = sym (other _ _ _ e); is_output = sym (other _ _ _ e) }

pub returns : goal.returns
returns c =
    let e = c.if-value-ne16.false in
    let o = c.pack-answer.ensures in
    record {
      is_lent = record { bytes = all_bytes _ (λ i l. omega (arith, c.type_inv.sheet i)); short = search rules };
      is_book = record { bytes = all_bytes _ (λ i l. omega (arith, c.type_inv.book i)); short = search rules };
      is_number = c.number_of.ensures ∙ o.told.is_number ∙ sym (sixteen _ _ _ e);
      is_value = told_bytes length_of _ c.fill_value.ensures c.value_of.ensures.bits o.told.is_value (omega arith) (c.action_of.ensures ∙ o.told.is_action) ∙ sym (sixteen _ _ _ e);
      is_output = o.holds ∙ sym (sixteen _ _ _ e);
    }
