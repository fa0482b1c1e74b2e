use Rattle.std.proofs.Common.{arith, rules, refl}
use Rattle.std.proofs.lemmas.Iterator.{YieldsList-from_range}
use Rattle.editions.specs.Allowed.{read_by}
use Rattle.editions.proofs.Listed.{terms_short}
use Rattle.operands.proofs.Scans.{cut}
use Rattle.lists.proofs.Lists as lists
use Rattle.lists.proofs.scan_strings.Goals as goal

pub returns-in_err-n : goal.returns-in_err-n
returns-in_err-n c = cut _ _ _ _ _ c.from_residual.ensures.1 c.in_err-n.ensures.err (lists.counted_out _ (λ _. 0) _ _ (record { 0 = 0 }))

pub try_fold-requires-clause-callable : goal.try_fold-requires-clause-callable
try_fold-requires-clause-callable c =
    let grows = lists.named_grows (read_by c.args.m.now) _ c.requires.0.bytes (terms_short c.args.m.now.terms _ _) c.args.skip in
    lists.folding_callable _ _ _ _ _ grows _ _ (λ s x v h y k. search rules) (lists.counted_start _ _ _ _ _ c.in_ok-n.ensures.ok c.after.ensures c.requires.0) (λ t x y. search rules)

pub returns : goal.returns
returns c =
    let grows = lists.named_grows (read_by c.args.m.now) _ c.requires.0.bytes (terms_short c.args.m.now.terms _ _) c.args.skip in
    lists.folding_ends _ _ _ _ _ grows _ _ (λ s x v h y k. search rules) (lists.counted_start _ _ _ _ _ c.in_ok-n.ensures.ok c.after.ensures c.requires.0) (YieldsList-from_range 0 c.in_ok-n.n c.in_ok-n.n refl (omega arith)) c.try_fold.ensures.ran
