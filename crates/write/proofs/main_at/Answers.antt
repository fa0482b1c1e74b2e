-- `write::main_at` meets its contract: the main body's actions and one End are the block. Assumes nothing.
use mathlib.Core.Path.{ap}
use Rattle.write.proofs.Block.{end_fits, end_taken}
use Rattle.write.proofs.main_at.Goals as goal

pub append-requires : goal.append-requires
append-requires c =
    let m = c.requires in
    let w = c.new.ensures in
    end_fits _ _ _ _ m c.new.result c.append_main.result (ap (λ o. o.now) w.0) (ap (λ p. p.0) w.1) (c.append_main.ensures.appends.is m.tree m.reads)

pub returns-clause-appends : goal.returns-clause-appends
returns-clause-appends c =
    let m = c.requires in
    let w = c.new.ensures in
    end_taken _ _ _ _ m c.new.result c.append_main.result (ap (λ o. o.now) w.0) (ap (λ p. p.0) w.1) (c.append_main.ensures.appends.is m.tree m.reads) _ c.append.ensures
