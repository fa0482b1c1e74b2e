use Rattle.std.proofs.Common.{refl}
use Rattle.std.proofs.lemmas.Result.{err_from_is_err_and}
use Rattle.editions.specs.Allowed.{meant}
use Rattle.cut.proofs.Mains.{cut_limits}
use Rattle.pack.proofs.Packs.{cut_stops, cut_packed}
use Rattle.pack.proofs.pack.Goals as goal

pub returns-in_err-cut : goal.returns-in_err-cut
returns-in_err-cut c =
    let p = err_from_is_err_and c.from_residual.result c.from_residual.ensures.1 in
    rw p.1 (cut_stops _ _ _ _ _ c.in_err-cut.ensures.is_cut _ p.2)

pub pack_early-requires-clause-limited : goal.pack_early-requires-clause-limited
pack_early-requires-clause-limited c = cut_limits _ _ c.in_ok-cut.ensures.is_cut

pub pack_early-requires-in-Second-clause-limited : goal.pack_early-requires-in-Second-clause-limited
pack_early-requires-in-Second-clause-limited c = cut_limits _ _ c.in_ok-cut.ensures.is_cut

pub pack_third-requires-clause-limited : goal.pack_third-requires-clause-limited
pack_third-requires-clause-limited c = cut_limits _ _ c.in_ok-cut.ensures.is_cut

pub returns-in-First : goal.returns-in-First
returns-in-First c = cut_packed _ _ _ _ _ c.in_ok-cut.ensures.is_cut _ refl (c.pack_early.ensures _)

pub returns-in-Second : goal.returns-in-Second
returns-in-Second c = cut_packed _ _ _ _ _ c.in_ok-cut.ensures.is_cut _ refl (c.pack_early-in-Second.ensures _)

pub returns-in-Third : goal.returns-in-Third
unfolding meant
returns-in-Third c = cut_packed _ _ _ _ _ c.in_ok-cut.ensures.is_cut _ (rw c.in-Third.is) c.pack_third.ensures
