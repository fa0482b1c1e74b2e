use Rattle.std.proofs.Common.{◌≡◌, arith}
use Rattle.std.proofs.lemmas.Result.{err_from_is_err_and}
use Rattle.cut.specs.Cuts.{refused, said}
use Rattle.cut.specs.declared.CutError.TheVariants as error
use Rattle.cut.proofs.Mains.{cut_long, cut_untrailed, cut_uncoded, cut_coded}
use Rattle.cut.proofs.cut_main.Goals as goal

pub returns-then-sheet-gt-SHEET_LIMIT-clause-is_cut : goal.returns-then-sheet-gt-SHEET_LIMIT-clause-is_cut
unfolding said refused
returns-then-sheet-gt-SHEET_LIMIT-clause-is_cut c = cut_long _ (omega arith)

pub returns-in_err-t-clause-is_cut : goal.returns-in_err-t-clause-is_cut
unfolding said refused
returns-in_err-t-clause-is_cut c =
    let p = err_from_is_err_and c.from_residual.result c.from_residual.ensures.1 in
    let none = c.in_err-t.ensures.ok_part in
    let is_bad : c.in_err-t.field-0.0 ≡ error.BadTrailer = cc (rw none at c.in_err-t.ensures.value) in
    rw (p.1, p.2, is_bad) (cut_untrailed _ (omega arith) (rw none at c.trailer_of.ensures))

pub returns-in_err-edition-clause-is_cut : goal.returns-in_err-edition-clause-is_cut
unfolding said refused
returns-in_err-edition-clause-is_cut c =
    let p = err_from_is_err_and c.from_residual-in_err-edition.result c.from_residual-in_err-edition.ensures.1 in
    let none = c.in_err-edition.ensures.ok_part in
    let is_bad : c.in_err-edition.field-0.0 ≡ error.BadTrailer = cc (rw none at c.in_err-edition.ensures.value) in
    rw (p.1, p.2, is_bad) (cut_uncoded _ (omega arith) _ (rw c.in_ok-t.ensures.ok_part at c.trailer_of.ensures) (rw none at c.edition_of.ensures))

pub returns-clause-is_cut : goal.returns-clause-is_cut
unfolding said
returns-clause-is_cut c =
    cut_coded _ (omega arith) _ (rw c.in_ok-t.ensures.ok_part at c.trailer_of.ensures) _ (rw c.in_ok-edition.ensures.ok_part at c.edition_of.ensures)
