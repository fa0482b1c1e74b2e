-- "A sheet is a note, a main body and an 8-byte trailer that points back": 1 and 2. Assumes nothing.
use Rattle.std.specs.Prelude.{ℕ, ◌-◌, Bool, true, false, ◌&&◌, List, [], ◌∷◌, length, get_or, take, drop, leb, eqb}
use Rattle.std.proofs.Math.Option.{Option, none, some}
use Rattle.layout.specs.Lists.{first_with}
use Rattle.layout.specs.Numbers.{u16_at, u32_at}
use Rattle.layout.specs.Answers.{Refusal, SheetTooLong, BadTrailer}

-- "sheet 1,048,576 bytes"
abbrev pub sheet_limit : ℕ
sheet_limit = 1048576

-- "u16 edition = 1"; "A sheet naming a number from 1,024 up carries edition 2 in its trailer"; in edition 3 strings may name the
-- entries of a book
pub data Edition : Type 0 where
  First Second Third : Edition

unfoldable pub edition_number : Edition → ℕ
edition_number First = 1
edition_number Second = 2
edition_number Third = 3

unfoldable pub editions : List Edition
editions = First ∷ Second ∷ Third ∷ []

-- the edition with a number, if there is one
unfoldable pub edition_of : ℕ → Option Edition
edition_of n = first_with edition_number n editions

-- the edition, the main body and the place where it starts, or a refusal
pub data Cut : Type 0 where
  main : (edition : Edition) (start : ℕ) (bytes : List ℕ) → Cut
  uncut : (refusal : Refusal) → Cut

-- "u32 distance D from the trailer's first byte to the main body's first byte"
unfoldable pub trailer_distance : List ℕ → ℕ
trailer_distance t = u32_at t 0

-- "u16 edition"
unfoldable pub trailer_edition : List ℕ → Option Edition
trailer_edition t = edition_of (u16_at t 4)

-- "then bytes 41 31"
unfoldable pub is_marked : List ℕ → Bool
is_marked t = eqb (get_or t 6 0) 0x41 && eqb (get_or t 7 0) 0x31

unfoldable pub cut_if : Bool → Option Edition → List ℕ → ℕ → ℕ → Cut
cut_if true (some edition) s n d = main edition (n - d) (take d (drop (n - d) s))
cut_if true none s n d = uncut BadTrailer
cut_if false o s n d = uncut BadTrailer

-- n bytes stand before the trailer: "wrong edition or mark, or D over length minus 8"
unfoldable pub cut_at : List ℕ → ℕ → Cut
cut_at s n = cut_if (is_marked (drop n s) && leb (trailer_distance (drop n s)) n) (trailer_edition (drop n s)) s n (trailer_distance (drop n s))

-- "under 8 bytes"
unfoldable pub cut_if_trailer : Bool → List ℕ → Cut
cut_if_trailer true s = cut_at s (length s - 8)
cut_if_trailer false s = uncut BadTrailer

-- "sheet length, over 1,048,576"
unfoldable pub cut_if_short : Bool → List ℕ → Cut
cut_if_short true s = cut_if_trailer (leb 8 (length s)) s
cut_if_short false s = uncut (SheetTooLong (length s))

unfoldable pub cut : List ℕ → Cut
cut s = cut_if_short (leb (length s) sheet_limit) s
