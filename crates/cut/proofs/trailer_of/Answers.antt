use Rattle.std.proofs.Common.{refl, arith}
use Rattle.cut.proofs.Trailers.{no_room, no_first, no_second, too_far, trailed}
use Rattle.cut.proofs.trailer_of.Goals as goal
use Rattle.cut.proofs.trailer_of.Goals.{then-bytes-end-via-then-bytes-end, then-bytes-end-via-else-bytes-end+then-bytes-end-ne49}

pub returns-in_err-end : goal.returns-in_err-end
returns-in_err-end c = rw c.from_residual.ensures (no_room _ _ (omega (arith, c.in_err-end.ensures)))

pub returns-then-bytes-end : goal.returns-then-bytes-end
returns-then-bytes-end c =
    elim c.then-bytes-end.branch [
      | then-bytes-end-via-then-bytes-end w ↦ no_first _ _ _ c.in_ok-end.ensures.0 c.in_ok-end.ensures.1 w.if-bytes-end.true
      | then-bytes-end-via-else-bytes-end+then-bytes-end-ne49 w ↦ no_second _ _ _ c.in_ok-end.ensures.0 c.in_ok-end.ensures.1 w.if-bytes-end-ne49.true
    ]

pub returns-in_err-start : goal.returns-in_err-start
returns-in_err-start c =
    rw c.from_residual-in_err-start.ensures (too_far _ _ _ c.in_ok-end.ensures.0 c.in_ok-end.ensures.1 _ c.u32_at-distance.ensures (omega arith) (omega (arith, c.in_err-start.ensures)))

pub returns : goal.returns
returns c =
    trailed _ _ _ c.in_ok-end.ensures.0 c.in_ok-end.ensures.1 _ c.u32_at-distance.ensures (omega arith) _ c.if-bytes-end.false c.if-bytes-end-ne49.false c.in_ok-start.ensures.0 c.in_ok-start.ensures.1 refl c.u16_at.ensures.0 c.u16_at.ensures.1
