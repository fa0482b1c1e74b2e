-- What a C-callable entry promises, from its contract, `PackCalled` or `StepCalled`: its value and its action number are read back
-- from sixteen bytes, and so every theorem of Calls holds of the packer's entry. Assumes nothing.
use Rattle.std.specs.Prelude.{ℕ, List, ℤ}
use Rattle.layout.specs.Numbers.{u64_at}
use Rattle.layout.specs.Order.{signed64}

-- ---- the value slice

-- what a caller reads there, "value, then action number, both i64", little-endian
abbrev pub value_in : List ℕ → ℤ
value_in v = signed64 (u64_at v 0)

abbrev pub action_in : List ℕ → ℤ
action_in v = signed64 (u64_at v 8)
