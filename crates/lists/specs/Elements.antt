-- The elements of a list: a string that stands after some bytes, and how many bytes an element is written in. Assumes nothing.
use Rattle.std.specs.Prelude.{ℕ, ◌+◌, List}
use Rattle.layout.specs.Tree.{PushValueOf, Constant}
use Rattle.layout.specs.Read.{Text, Terms, Reader, read_bytes, read_string, ◌>>=◌}
use Rattle.layout.specs.Strings.{map_value}
use Rattle.layout.specs.Lengths.{push_length}
use Rattle.layout.specs.Pack.{spelling}
use Rattle.operands.specs.Operands.{string_size}

-- a string after `skip` bytes, which are passed over: a parameter is one after its register
unfoldable pub read_named : Terms → List ℕ → ℕ → Reader Text
read_named terms b skip = do
  bytes ← read_bytes b skip
  read_string terms b

unfoldable pub named_size : ℕ → Text → ℕ
named_size skip s = skip + string_size s

-- a pushed constant's kind and number
unfoldable pub constant_size : ℕ → ℕ
constant_size i = push_length (Constant i)

unfoldable pub value_size : PushValueOf Text → ℕ
value_size v = push_length (map_value spelling v)
