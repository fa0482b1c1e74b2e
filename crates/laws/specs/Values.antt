-- An i64 holds the value of every answer: its lengths, distances and places are bounded by the bytes of the sheet, with the words of
-- the book by their share. Assumes nothing.
use Rattle.std.proofs.Math.Option.{Option, none, some}
use Rattle.layout.specs.Answers.{Refusal, refusal_value}
use Rattle.layout.specs.Cut.{Cut, main, uncut}
use Rattle.layout.specs.Order.{IsI64}

-- ---- the answer of a tree

-- an i64 holds the refusal's value, if there is one
abbrev pub Held : Option Refusal → Type 0
Held none = Unit {0}
Held (some r) = IsI64 (refusal_value r)

-- ---- the answer of a sheet

abbrev pub CutHeld : Cut → Type 0
CutHeld (main i start b) = Unit {0}
CutHeld (uncut r) = IsI64 (refusal_value r)
