-- No edition allows more than 4,096 label numbers. Assumes nothing.
use mathlib.Core.Path.{ap}
use mathlib.Core.List.{[]}
use Prim.Native.Nat.{ℕ, ◌≤◌}
use native.Mathlib.Omega.{arith}
use Rattle.layout.specs.Read as definition
use Rattle.layout.specs.Read.{edition1, edition2, edition3}
use Rattle.editions.specs.Allowed.{Allows}
use Rattle.editions.specs.declared.Edition.{Edition}
use Rattle.editions.specs.declared.Edition.TheVariants as edition
use Rattle.editions.specs.declared.Terms.{Terms}

pub few_labels : (e : Edition) (count : ℕ) (t : Terms) → Allows e count t → t.label_bound ≤ 4096
unfolding edition1 edition2 edition3
few_labels edition.First count t h = omega (arith, ap (λ (k : definition.Terms). k.label_bound) (h [] []))
few_labels edition.Second count t h = omega (arith, ap (λ (k : definition.Terms). k.label_bound) (h [] []))
few_labels edition.Third count t h = omega (arith, ap (λ (k : definition.Terms). k.label_bound) (h [] []))
