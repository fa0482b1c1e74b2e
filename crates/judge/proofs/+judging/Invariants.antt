-- The loops judge the actions, or the bodies, that are left; each call has fewer levels or is a part of its caller.
-- Assumes nothing.
use Rattle.judge.proofs.Actions.{Acting, Inner}
use Rattle.judge.specs.Judging.{Judging}
use Rattle.laws.specs.Resolved.{body_length, body_events}
use Rattle.measure.specs.Walk.{standing, measured, in_turn, in_bodies}
use Rattle.layout.specs.Tree.{body_count}
use Rattle.editions.specs.Allowed.{read_by}
use Rattle.layout.specs.Read.{placed, read_body}
use Rattle.layout.specs.Lengths.{total}
use Prim.Native.Nat.{◌+◌, ◌-◌, ◌*◌}
use Rattle.judge.proofs.+judging.Given as goal

abbrev pub decreases-judge_action : goal.decreases-judge_action
decreases-judge_action l = l.depth * 4 + 3

abbrev pub decreases-judge_bodies : goal.decreases-judge_bodies
decreases-judge_bodies l = l.depth * 4 + 1

abbrev pub decreases-judge_body : goal.decreases-judge_body
decreases-judge_body l = l.depth * 4

abbrev pub decreases-judge_large : goal.decreases-judge_large
decreases-judge_large l = l.depth * 4 + 2

abbrev pub invariant-judge_bodies-loop : goal.invariant-judge_bodies-loop
invariant-judge_bodies-loop l = Inner (read_by l.m) l.m.b.now l.depth l.home l.rules (λ r. Judging l.rules (measured (total body_length) (total body_count) in_bodies (standing l.fn.from.pos l.home l.fn.from.number) (in_turn (read_body (read_by l.m) l.m.b.now l.depth) l.n (placed l.fn.from.at))) r) (l.n - l.counter) l.cursor

abbrev pub invariant-judge_body-loop : goal.invariant-judge_body-loop
invariant-judge_body-loop l = Acting (read_by l.m) l.m.b.now (l.depth - 1) l.home l.rules (λ r. Judging l.rules (measured body_length body_count body_events (standing l.fn.from.pos l.home l.fn.from.number) (read_body (read_by l.m) l.m.b.now l.depth (placed l.fn.from.at))) r) (l.count - l.counter) l.cursor
