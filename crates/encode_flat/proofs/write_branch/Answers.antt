-- `write_branch` meets its contract: the low sixteen bits of a distance that is not too far are those of the definitions. Assumes nothing.
use Rattle.std.proofs.Common.{◌+◌, refl, arith}
use Rattle.layout.specs.Numbers.{le16}
use Rattle.layout.specs.Payload.{headed}
use Rattle.encode_flat.proofs.Actions.{branch_bits}
use Rattle.encode_flat.proofs.write_branch.Goals as goal

pub write_measured_action-requires : goal.write_measured_action-requires
write_measured_action-requires c =
    let a = c.args in
    (unfold le16 in refl, rw (branch_bits a.tab.now a.label (a.pos.0 + 5) _ _ (omega arith) (unfold headed le16 in omega (arith, c.requires.2.room, c.requires.2.sums)) c.requires.1 c.distance-far.ensures) c.requires.2)

pub returns : goal.returns
returns c =
    let a = c.args in
    rw (← branch_bits a.tab.now a.label (a.pos.0 + 5) _ _ (omega arith) (unfold headed le16 in omega (arith, c.requires.2.room, c.requires.2.sums)) c.requires.1 c.distance-far.ensures) c.write_measured_action.ensures
