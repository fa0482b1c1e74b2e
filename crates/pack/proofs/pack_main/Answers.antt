use Rattle.std.proofs.Common.{arith}
use Rattle.std.proofs.lemmas.Result.{err_from_is_err_and}
use Rattle.pack.proofs.Packs.{read_stops, reads_whole, long_stops, judgeable, branch_stops, near, near_packed}
use Rattle.pack.proofs.pack_main.Goals as goal

pub returns-in_err-end : goal.returns-in_err-end
returns-in_err-end c =
    let p = err_from_is_err_and c.from_residual.result c.from_residual.ensures.1 in
    rw p.1 (read_stops _ _ _ c.in_err-end.ensures.read _ p.2)

pub returns-in-Some : goal.returns-in-Some
returns-in-Some c = long_stops _ _ _ (reads_whole c.in_ok-end.ensures.read) _ c.in-Some.is _ c.from.ensures

pub judge_noted-requires : goal.judge_noted-requires
judge_noted-requires c =
    judgeable (reads_whole c.in_ok-end.ensures.read) c.in_default.is _ (λ e. omega (arith, c.requires.lent e, c.in_ok-end.ensures.kept.homes))

pub returns-in_err-judge_noted : goal.returns-in_err-judge_noted
returns-in_err-judge_noted c =
    let p = err_from_is_err_and c.from_residual-in_err-judge_noted.result c.from_residual-in_err-judge_noted.ensures.1 in
    rw p.1 (branch_stops _ _ _ (reads_whole c.in_ok-end.ensures.read) c.in_default.is c.in_err-judge_noted.ensures _ p.2)

pub pack_noted-requires : goal.pack_noted-requires
pack_noted-requires c = near (reads_whole c.in_ok-end.ensures.read) c.in_default.is _ c.in_ok-judge_noted.ensures

pub returns : goal.returns
returns c = near_packed _ _ _ (reads_whole c.in_ok-end.ensures.read) c.in_default.is c.in_ok-judge_noted.ensures c.pack_noted.ensures
