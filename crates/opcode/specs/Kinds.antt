-- The kinds of a push value, as the code has them. Assumes nothing.
use Rattle.std.specs.Prelude.{◌≡◌, ℕ, Option, Some, None}
use Rattle.std.proofs.Math.Option.{none, some}
use Rattle.layout.specs.PushKind as layout
use Rattle.layout.specs.PushKind.{kind_of}
use Rattle.opcode.specs.declared.PushKind.{PushKind}
use Rattle.opcode.specs.declared.PushKind.TheVariants as kind

-- the definitions' kind
unfoldable pub meant : PushKind → layout.PushKind
meant kind.String = layout.String
meant kind.Null = layout.Null
meant kind.Undefined = layout.Undefined
meant kind.Register = layout.Register
meant kind.Boolean = layout.Boolean
meant kind.Float = layout.Float
meant kind.Integer = layout.Integer
meant kind.Constant = layout.Constant

-- the kind that a byte stands for, if it stands for one
abbrev pub IsKind : ℕ → Option PushKind → Type 0
IsKind n (Some k) = kind_of n ≡ some (meant k)
IsKind n None = kind_of n ≡ none
