-- Answers of the stepping check, worked by hand. Assumes nothing.
use Rattle.std.specs.Prelude.{◌≡◌, ℕ, List, [], ◌∷◌, pos}
use Rattle.layout.specs.Answers.{number, value}
use Rattle.layout.specs.Step.{step}

-- a byte string; the number and the value
pub data Case : Type 0 where
  case : (input : List ℕ) (number value : ℕ) → Case

unfoldable pub by_step : List Case
by_step =
    -- nothing, and one End
    case [] 13 0
    ∷ case (0x00 ∷ []) 0 1
    -- an End in the middle; the same with an If past it, to Play
    ∷ case (0x00 ∷ 0x00 ∷ []) 0 2
    ∷ case (0x9D ∷ 0x02 ∷ 0x00 ∷ 0x01 ∷ 0x00 ∷ 0x00 ∷ 0x06 ∷ 0x00 ∷ []) 0 4
    -- P12's block: straight into With's body
    ∷ case (0x99 ∷ 0x02 ∷ 0x00 ∷ 0x05 ∷ 0x00 ∷ 0x94 ∷ 0x02 ∷ 0x00 ∷ 0x01 ∷ 0x00 ∷ 0x06 ∷ 0x00 ∷ []) 0 4
    -- a last step that is no End: Pop, Pop after an End, and one whose payload is the byte 00
    ∷ case (0x17 ∷ []) 13 1
    ∷ case (0x00 ∷ 0x17 ∷ []) 13 2
    ∷ case (0x80 ∷ 0x01 ∷ 0x00 ∷ 0x00 ∷ []) 13 4
    -- a step that passes the end, and length bytes that are not all there
    ∷ case (0x96 ∷ 0x05 ∷ 0x00 ∷ 0x01 ∷ []) 13 0
    ∷ case (0x17 ∷ 0x9E ∷ 0x00 ∷ []) 13 1
    ∷ []

-- it is answered by its number and value
abbrev pub Answers : Case → Type 0
Answers (case s n v) = (number (step s) ≡ n) × (value pos (step s) ≡ pos v)
