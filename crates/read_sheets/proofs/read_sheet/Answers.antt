-- The main body that is cut out, and its start, are within the limit. Assumes nothing.
use Rattle.cut.proofs.Mains.{cut_limits}
use Rattle.read_sheets.proofs.read_sheet.Goals as goal

pub read_third-requires : goal.read_third-requires
read_third-requires c =
    let cut = c.in_ok-cut in
    cut_limits _ cut.cut cut.ensures.is_cut

pub read_early-requires : goal.read_early-requires
read_early-requires c =
    let cut = c.in_ok-cut in
    cut_limits _ cut.cut cut.ensures.is_cut
