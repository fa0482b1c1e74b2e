use Rattle.std.proofs.Common.{◌≡◌}
use Rattle.answer.specs.declared.Refusal.TheVariants as refusal
use Rattle.std.proofs.lemmas.Result.{err_from_is_err_and}
use Rattle.pack.proofs.Packs.{ill_packed, third_bound, third_packed}
use Rattle.pack.proofs.pack_third.Goals as goal

pub returns-in_err-book : goal.returns-in_err-book
returns-in_err-book c =
    let p = err_from_is_err_and c.from_residual.result c.from_residual.ensures.1 in
    let none = c.in_err-book.ensures.ok_part in
    let is_bad : c.in_err-book.field-0.0 ≡ refusal.BadBook = cc (rw none at c.in_err-book.ensures.value) in
    rw (p.1, p.2, is_bad) (ill_packed _ _ _ _ _ (rw none at c.check_book.ensures))

pub pack_by-requires-clause-slots : goal.pack_by-requires-clause-slots
pack_by-requires-clause-slots c = third_bound _ _ _ c.requires.third c.terms.ensures

pub returns : goal.returns
returns c =
    let k = rw c.in_ok-book.ensures.ok_part at c.check_book.ensures in
    third_packed _ _ _ _ _ _ _ _ _ _ _ _ c.requires.third c.terms.ensures k.is_book c.pack_by.ensures
