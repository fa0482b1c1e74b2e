-- Pieces of text, byte by byte, in ASCII: 10 is a line feed, 32 a space, 45 a minus sign, 48 to 57 are the digits 0 to 9, 65 to 70
-- the letters A to F; and a text in a lent buffer. Assumes nothing.
use Rattle.std.specs.Prelude.{◌≡◌, ℕ, zero, suc, ◌+◌, ◌/◌, ◌%◌, ◌≤◌, List, [], ◌∷◌, ◌++◌, length, take, drop, ℤ, pos, negsuc, ltb, eqb}
use Rattle.std.proofs.Common.{sym, ◌∙◌, arith}
use Rattle.std.proofs.lemmas.List.Edits.{sets, sets-eq}
use Rattle.std.proofs.Math.Seq.{take-append_seam}
use Rattle.layout.specs.Lists.{pick}

-- ---- numbers

-- the last decimal digit of a number
unfoldable pub last_digit : ℕ → ℕ
last_digit n = 48 + n % 10

-- the digits of a number in at most `more` + 1 places: the last, behind those of the number's tenth where it has one
unfoldable pub digits_within : ℕ → ℕ → List ℕ
digits_within zero n = last_digit n ∷ []
digits_within (suc more) n = pick (ltb n 10) [] (digits_within more (n / 10)) ++ (last_digit n ∷ [])

-- the digits of a number, as few as possible; a number has no more than itself and one
unfoldable pub decimal : ℕ → List ℕ
decimal n = digits_within n n

-- a signed number: under zero, a minus sign and the digits of its magnitude
unfoldable pub signed : ℤ → List ℕ
signed (pos n) = decimal n
signed (negsuc n) = 45 ∷ decimal (n + 1)

-- ---- the block

-- the upper-case hex digit of a number under 16
unfoldable pub hex_digit : ℕ → ℕ
hex_digit d = pick (ltb d 10) (48 + d) (55 + d)

-- what stands behind the byte at index i of n: "16 bytes a line, each line ended by a line feed, the last too", otherwise a space
unfoldable pub behind : ℕ → ℕ → ℕ
behind i n = pick (eqb (i % 16) 15) 10 (pick (eqb (i + 1) n) 10 32)

-- the byte at index i of n: "two-digit upper-case hex", and what stands behind it
unfoldable pub hex_byte : ℕ → ℕ → ℕ → List ℕ
hex_byte i n b = hex_digit (b / 16) ∷ hex_digit (b % 16) ∷ behind i n ∷ []

-- the bytes from index i of n on
unfoldable pub hex_from : ℕ → ℕ → List ℕ → List ℕ
hex_from i n [] = []
hex_from i n (b ∷ q) = hex_byte i n b ++ hex_from (i + 1) n q

-- a whole block
unfoldable pub hex_lines : List ℕ → List ℕ
hex_lines q = hex_from 0 (length q) q

-- ---- a text in a lent buffer

-- a buffer has n bytes from `at` on, and places in it are small
pub record Room (n at : ℕ) (text : List ℕ) : Type 0 where
  pub room : at + n ≤ length text
  pub small : length text ≤ 1099511627776

-- a buffer that held `old` holds x from `at` on, and otherwise what it held; r is the place after x
pub record Put (x : List ℕ) (at : ℕ) (old new : List ℕ) (r : ℕ) : Type 0 where
  pub wrote : new ≡ sets old at x
  pub end : r ≡ at + length x

-- a text at the front is the first r bytes
pub at_front : {x old new : List ℕ} {r : ℕ} → Put x 0 old new r → r ≤ length old → take r new ≡ x
at_front {x} {old} {new} {r} h l =
    let e : r ≡ length x = omega (arith, h.end) in
    let f : new ≡ x ++ drop (0 + length x) old = h.wrote ∙ sets-eq x old 0 (omega (arith, e, l)) in
    rw (e, f) (take-append_seam x (drop (0 + length x) old))

-- one text for each input: any two outcomes are equal
pub same_put : {x : List ℕ} {at r r' : ℕ} {old new new' : List ℕ} → Put x at old new r → Put x at old new' r' → (new ≡ new') × (r ≡ r')
same_put h k = (h.wrote ∙ sym k.wrote, h.end ∙ sym k.end)
