use Rattle.operands.proofs.Reading as reading
use Rattle.operands.proofs.Scans.{cut}
use Rattle.operands.proofs.scan_string.Goals as goal
use Rattle.operands.proofs.scan_string.Goals.{in_default-via-in-Some+else-n-eq65535, in_default-via-in_default}

pub returns-in_err-n : goal.returns-in_err-n
returns-in_err-n c = cut _ _ _ _ _ c.from_residual.ensures.1 c.in_err-n.ensures.err (reading.string_out _ _ _)

pub returns-in-Some : goal.returns-in-Some
returns-in-Some c =
    let n = c.in_ok-n.ensures.ok in
    reading.as_word _ _ _ _ _ _ _ _ n.0 n.1 c.after-p.ensures.0 c.after-p.ensures.1 _ c.in-Some.is c.if-n-eq65535.true c.scan_word.ensures

pub returns-in_default : goal.returns-in_default
returns-in_default c =
    let n = c.in_ok-n.ensures.ok in
    reading.as_plain _ _ _ _ _ _ _ _ n.0 n.1 c.after-p.ensures.0 c.after-p.ensures.1
    (λ e. elim c.in_default.branch [ in_default-via-in-Some+else-n-eq65535 w ↦ absurd (w.if-n-eq65535.false e) | in_default-via-in_default w ↦ w.in_default.is ])
    c.scan_plain.ensures
