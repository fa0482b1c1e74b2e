-- The text stands at the front of its buffer, and all of it is written. Assumes nothing.
use mathlib.Core.Path.{subst}
use mathlib.Core.List.{List}
use Prim.Native.Nat.{ℕ, ◌≤◌}
use lib.ListN.{length}
use native.Mathlib.Omega.{arith}
use Rattle.std.specs.Prelude.{OnOk}
use Rattle.std.specs.Io.KnownBytes.{Appends}
use Rattle.print_text.specs.Pieces.{at_front}
use Rattle.print.proofs.write_text.Goals as goal

pub returns : goal.returns
returns g c =
    let t = c.block_text-end in
    let l : t.result ≤ length c.args.text.now = omega (arith, t.ensures.within.0, t.auto.text) in
    subst (λ (x : List ℕ). OnOk c.write_all.result (Appends (g.W.Write.contents c.args.writer.now) (g.W.Write.contents c.write_all.new.self) x)) (at_front t.ensures.text l) c.write_all.ensures.bytes
