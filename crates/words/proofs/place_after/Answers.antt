-- `words::place_after` meets its contract. Assumes nothing.
use mathlib.Core.Path.{◌≡◌, refl, sym, ◌∙◌}
use Prim.Native.Nat.{◌+◌, ◌-◌}
use native.Mathlib.Omega.{arith}
use Rattle.words.proofs.Places.{after_none, after_one}
use Rattle.words.proofs.place_after.Goals as goal

pub loop-preserved : goal.loop-preserved
loop-preserved c =
    let l = c.loop in
    let m : c.args.n - l.counter - 1 ≡ c.args.n - (l.counter + 1) = omega arith in
    let step = after_one c.args.words.now (c.args.n - l.counter) l.p _ _ (omega arith) c.length_at.ensures.0 refl in
    (rw (← m) step ∙ l.invariant.0, omega (arith, l.invariant.1, c.length_at.ensures.1))

pub returns : goal.returns
returns c = (sym (after_none _ _ _ (omega arith)) ∙ c.loop.invariant.0, omega (arith, c.loop.invariant.1))
