-- What the trailer of a sheet or of a book says: a distance back, a number, and two bytes, of which the first tells a sheet from a
-- book. Assumes nothing.
use Rattle.std.specs.Prelude.{◌≡◌, ℕ, ◌-◌, ◌<◌, Bool, true, ◌&&◌, List, length, get_or, take, drop, leb, eqb}
use Rattle.layout.specs.Numbers.{u16_at, u32_at}
use Rattle.cut.specs.declared.Trailer.{Trailer}

-- where the trailer stands
abbrev pub trailer_at : List ℕ → ℕ
trailer_at s = length s - 8

-- how far it points back
abbrev pub distance_back : List ℕ → ℕ
distance_back s = u32_at (drop (trailer_at s) s) 0

-- the place that it points back to, and what stands from there to the trailer
abbrev pub start_back : List ℕ → ℕ
start_back s = trailer_at s - distance_back s

abbrev pub part_back : List ℕ → List ℕ
part_back s = take (distance_back s) (drop (start_back s) s)

-- there is room for it, its two last bytes are this mark and 0x31, and it points to a place before it
unfoldable pub is_trailed : ℕ → List ℕ → Bool
is_trailed mark s =
    leb 8 (length s) && (eqb (get_or (drop (trailer_at s) s) 6 0) mark && eqb (get_or (drop (trailer_at s) s) 7 0) 0x31 && leb (distance_back s) (trailer_at s))

-- t is what it says
pub record Trailed (mark : ℕ) (s : List ℕ) (t : Trailer) : Type 0 where
  pub is_trailer : is_trailed mark s ≡ true
  pub is_start : t.start ≡ start_back s
  pub is_part : t.part.now ≡ part_back s
  pub is_code : t.code ≡ u16_at (drop (trailer_at s) s) 4
  pub part_fits : length t.part.now < 4294967296
  pub code_fits : t.code < 65536
