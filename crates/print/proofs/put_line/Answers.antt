use Rattle.std.proofs.Common.{arith}
use Rattle.print.proofs.Texts.{put_pieces}
use Rattle.print.proofs.put_line.Goals as goal

pub returns : goal.returns
returns c =
    let space = c.store-at.ensures in
    let feed = c.store.ensures in
    (put_pieces _ _ c.put_number-space.ensures.0 (record { wrote = space.wrote; end = space.end }) c.put_value-end.ensures.0 (record { wrote = feed.wrote; end = feed.end }), omega (arith, c.put_number-space.ensures.1, c.put_value-end.ensures.1))
