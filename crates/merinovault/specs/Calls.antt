-- What a call of a C-callable entry leaves: the number that it returns, and what the lent slices then hold. Assumes nothing.
use Rattle.std.specs.Prelude.{◌≡◌, ℕ, ◌<◌, List, length, pos, eqb, Bool}
use Rattle.layout.specs.Lists.{pick}
use Rattle.layout.specs.Answers.{number, length_of, value_bytes}
use Rattle.layout.specs.Judge.{Mode}
use Rattle.layout.specs.Pack.{pack, output}
use Rattle.layout.specs.Step.{step}
use Rattle.laws.specs.Fits.{Bytes}

-- "any other length of that slice returns 11 with nothing written, tested before everything else": the first if it is 16
unfoldable pub if_sixteen : {A : Type 0} → List ℕ → A → A → A
if_sixteen value a b = pick (eqb (length value) 16) a b

-- what every lent slice is: bytes, and under 2 to the 63rd of them, since no object in memory has more
pub record Lent (s : List ℕ) : Type 0 where
  pub bytes : Bytes s
  pub short : length s < 9223372036854775808

-- the mode that the entry's flags tell
abbrev pub mode_by : Bool → Bool → Mode
mode_by strict contained = record { strict = strict; contained = contained }

-- merinovault_pack, in a mode, on a sheet s and a book, with an output that held o and a value slice that held v: it returns n, and
-- the value slice then holds v' and the output `after`
pub record PackCalled (mode : Mode) (s book o v : List ℕ) (n : ℕ) (v' after : List ℕ) : Type 0 where
  pub is_lent : Lent s
  pub is_book : Lent book
  pub is_number : n ≡ if_sixteen v (number (pack mode s book (length o))) 11
  pub is_value : v' ≡ if_sixteen v (value_bytes length_of (pack mode s book (length o))) v
  pub is_output : after ≡ if_sixteen v (output (pack mode s book (length o)) o) o

-- merinovault_step, on a byte string s, with a value slice that held v: it returns n, and the value slice then holds v'
pub record StepCalled (s v : List ℕ) (n : ℕ) (v' : List ℕ) : Type 0 where
  pub is_lent : Lent s
  pub is_number : n ≡ if_sixteen v (number (step s)) 11
  pub is_value : v' ≡ if_sixteen v (value_bytes pos (step s)) v
