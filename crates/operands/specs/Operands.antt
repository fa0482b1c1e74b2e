-- How many bytes an operand is written in, and a main body that ends too soon. Assumes nothing.
use Rattle.std.specs.Prelude.{◌≡◌, ℕ, ◌+◌, ◌<◌, List, length}
use Rattle.layout.specs.Read.{Text}
use Rattle.layout.specs.Lengths.{string_length}
use Rattle.layout.specs.Pack.{spelling}
use Rattle.positions.specs.declared.Fault.TheVariants as fault
use Rattle.positions.specs.declared.Stop.{Stop}

-- a string and its zero byte
unfoldable pub string_size : Text → ℕ
string_size s = string_length (spelling s)

-- fewer than n bytes stand at a place, and e says so
abbrev pub CutShort : List ℕ → ℕ → ℕ → Stop → Type 0
CutShort b at n e = (length b < at + n) × (e ≡ record { fault = fault.CutShort; place = at })
