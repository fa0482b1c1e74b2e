use Prim.Native.Nat.{◌+◌, ◌-◌, ◌*◌}
use Rattle.layout.specs.Tree.{body_count}
use Rattle.layout.specs.Read.{placed, read_body}
use Rattle.layout.specs.Lengths.{total}
use Rattle.laws.specs.Resolved.{body_length, body_events}
use Rattle.labels.specs.Table.{held, entries_in}
use Rattle.editions.specs.Allowed.{read_by}
use Rattle.measure.specs.Walk.{kept_in, SameNotes, standing, in_turn, outcome, bodies_events}
use Rattle.bodies.specs.Ready.{next_after}
use Rattle.bodies.proofs.Walks.{Going, Bodying}
use Rattle.bodies.proofs.+scanning.Given as goal

abbrev pub decreases-scan_action : goal.decreases-scan_action
decreases-scan_action l = l.depth * 5 + 3

abbrev pub decreases-scan_actions : goal.decreases-scan_actions
decreases-scan_actions l = l.depth * 5 + 4

abbrev pub decreases-scan_bodies : goal.decreases-scan_bodies
decreases-scan_bodies l = l.depth * 5 + 1

abbrev pub decreases-scan_body : goal.decreases-scan_body
decreases-scan_body l = l.depth * 5

abbrev pub decreases-scan_large : goal.decreases-scan_large
decreases-scan_large l = l.depth * 5 + 2

abbrev pub invariant-scan_actions-loop-i : goal.invariant-scan_actions-loop-i
invariant-scan_actions-loop-i l =
    Going (read_by l.m) l.m.b.now l.depth l.home (entries_in l.entries)
    (outcome body_length body_count body_events (standing l.fn.from.pos l.home l.fn.from.number) (kept_in l.initial.notes) (read_body (read_by l.m) l.m.b.now (l.depth + 1) (placed l.fn.from.at)))
    l.count (held l.initial.notes.labels.now) l.due l.i l.here (kept_in l.notes)
    × SameNotes l.initial.notes l.notes

abbrev pub invariant-scan_bodies-loop : goal.invariant-scan_bodies-loop
invariant-scan_bodies-loop l =
    Bodying (read_by l.m) l.m.b.now l.depth (standing l.fn.after.pos l.home l.owner)
    (outcome (total body_length) (total body_count) (bodies_events l.owner.0) (standing l.fn.after.pos l.home (next_after l.fn.after l.owner).number) (kept_in l.initial.notes) (in_turn (read_body (read_by l.m) l.m.b.now l.depth) l.n (placed l.fn.after.at)))
    (held l.initial.notes.labels.now) (l.n - l.counter) l.here l.long (kept_in l.notes)
    × SameNotes l.initial.notes l.notes
