-- `judge::judge_main` meets its contract. Assumes nothing.
use Rattle.editions.proofs.Listed.{terms_short}
use Rattle.judge.proofs.Mains.{main_clear, main_asks, main_passed, main_bad}
use Rattle.judge.proofs.judge_main.Goals as goal

pub returns-then-is_clear : goal.returns-then-is_clear
returns-then-is_clear c = main_clear _ _ _ (record { mode = c.args.mode; tab = c.args.tab; homes = c.args.homes }) c.requires _ c.is_clear.ensures c.if-is_clear.true

pub judge_body-requires : goal.judge_body-requires
judge_body-requires c = main_asks _ _ _ _ c.requires (terms_short c.args.m.now.terms _ _)

pub returns-in_err-judge_body : goal.returns-in_err-judge_body
returns-in_err-judge_body c = main_bad _ _ _ (record { mode = c.args.mode; tab = c.args.tab; homes = c.args.homes }) c.requires _ _ c.from_residual.ensures.1 c.in_err-judge_body.ensures

pub returns : goal.returns
returns c = main_passed _ _ _ (record { mode = c.args.mode; tab = c.args.tab; homes = c.args.homes }) c.requires _ c.in_ok-judge_body.ensures
