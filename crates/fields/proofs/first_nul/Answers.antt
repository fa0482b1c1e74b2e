-- `fields::first_nul` meets its contract. Assumes nothing.
use Rattle.std.proofs.Common.{arith}
use Rattle.std.proofs.Math.Nat.{add-sub_cancel_left}
use Rattle.fields.specs.Runs.{first_nul}
use Rattle.fields.proofs.Zeros.{zero_found, none_found}
use Rattle.fields.proofs.first_nul.Goals as goal

pub returns-then-least_byte-ne0 : goal.returns-then-least_byte-ne0
unfolding first_nul
returns-then-least_byte-ne0 c =
    let least = rw add-sub_cancel_left at c.least_byte.ensures in
    none_found c.args.at c.args.n 0 _ (λ k b z. omega (arith, least k b))

pub returns : goal.returns
unfolding first_nul
returns c = rw (c.unwrap_or.ensures, c.first_zero.ensures, add-sub_cancel_left) (zero_found c.args.at c.args.n _)
