-- `merinovault_step` meets its contract: it tells what `step` does, or nothing with a value slice of another length. Assumes nothing.
use mathlib.Core.Path.{sym}
use mathlib.Core.List.{[]}
use native.Mathlib.Omega.{arith}
use Rattle.laws.proofs.Fits.{all_bytes}
use Rattle.step.specs.Steps.{told}
use Rattle.merinovault.proofs.Values.{other, done_number, done_value, unclean_number, unclean_value}
use borrow.Author.Rules.{rules}
use Rattle.merinovault.proofs.merinovault_step.Goals as goal

pub returns-then-value-ne16 : goal.returns-then-value-ne16
returns-then-value-ne16 c =
    let e = c.if-value-ne16.true in
    record { is_lent = record { bytes = all_bytes _ (λ i l. omega (arith, c.type_inv.block i)); short = search rules }; is_number = sym (other _ _ _ e); is_value = sym (other _ _ _ e) }

pub returns-in-Ok : goal.returns-in-Ok
unfolding told
returns-in-Ok c =
    let d = sym c.in-Ok.ensures in
    let e = c.if-value-ne16.false in
    record {
      is_lent = record { bytes = all_bytes _ (λ i l. omega (arith, c.type_inv.block i)); short = search rules };
      is_number = done_number _ _ [] e _ d;
      is_value = done_value _ _ _ e _ d (search rules) c.fill_value.ensures;
    }

pub returns-in-Err : goal.returns-in-Err
unfolding told
returns-in-Err c =
    let d = sym c.in-Err.ensures in
    let e = c.if-value-ne16.false in
    record {
      is_lent = record { bytes = all_bytes _ (λ i l. omega (arith, c.type_inv.block i)); short = search rules };
      is_number = unclean_number _ _ [] e _ d;
      is_value = unclean_value _ _ _ e _ d (search rules) c.fill_value-in-Err.ensures;
    }
