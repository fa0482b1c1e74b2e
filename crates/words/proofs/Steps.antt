-- The step of an index, by the count of the words. Assumes nothing.
use mathlib.Core.Path.{◌≡◌}
use Prim.Native.Nat.{ℕ, ◌≤◌, ◌<◌}
use native.Mathlib.Omega.{arith}
use borrow.Author.Tests.{le-leb, lt-leb}
use Rattle.layout.specs.Lists.{pick}
use Rattle.editions.specs.Words.{step_of}

module _ (count : ℕ) where
  pub every_word : count ≤ 4096 → step_of count ≡ 1
  unfolding step_of pick
  every_word h = rw (le-leb count 4096 h)

  pub every_second : 4096 < count → count ≤ 8192 → step_of count ≡ 2
  unfolding step_of pick
  every_second h l = rw (lt-leb count 4096 h, le-leb count 8192 l)

  pub every_fourth : 8192 < count → count ≤ 16384 → step_of count ≡ 4
  unfolding step_of pick
  every_fourth h l = rw (lt-leb count 4096 (omega (arith, h)), lt-leb count 8192 h, le-leb count 16384 l)

  pub every_eighth : 16384 < count → count ≤ 32768 → step_of count ≡ 8
  unfolding step_of pick
  every_eighth h l = rw (lt-leb count 4096 (omega (arith, h)), lt-leb count 8192 (omega (arith, h)), lt-leb count 16384 h, le-leb count 32768 l)

  pub every_sixteenth : 32768 < count → step_of count ≡ 16
  unfolding step_of pick
  every_sixteenth h = rw (lt-leb count 4096 (omega (arith, h)), lt-leb count 8192 (omega (arith, h)), lt-leb count 16384 (omega (arith, h)), lt-leb count 32768 h)
