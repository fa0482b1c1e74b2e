-- A book, by its trailer. Assumes nothing.
use Rattle.std.proofs.Common.{◌≡◌, ℕ, Bool, true, false, List, length, leb, Some, None, refl, ◌∙◌}
use Rattle.std.proofs.Math.Option.{none}
use Rattle.std.proofs.lemmas.Bool.{and_parts}
use Rattle.layout.specs.Book.{words_in, book_distance, book_count, is_book_marked, book_if, book_at, book_if_trailer, book_of}
use Rattle.cut.specs.Trailers.{is_trailed, Trailed}
use Rattle.cut.specs.declared.Trailer.{Trailer}
use Rattle.book.specs.Checks.{Indexed, filled, unfilled, Checked}

module _ (s : List ℕ) where
  pub untrailed : is_trailed 0x42 s ≡ false → book_of s ≡ none
  unfolding is_trailed book_of book_if_trailer book_at book_if is_book_marked book_distance
  untrailed h = go (leb 8 (length s)) refl
    where
      go : (room : Bool) → leb 8 (length s) ≡ room → book_of s ≡ none
      go true e =
          let f = rw e at h in
          rw (e, f)
      go false e = rw e

  module _ (t : Trailer) (k : Trailed 0x42 s t) (index : List ℕ) where
    by_trailer : book_of s ≡ words_in t.part.now t.code
    unfolding is_trailed book_of book_if_trailer book_at book_if is_book_marked book_distance book_count
    by_trailer =
        let two = and_parts (leb 8 (length s)) _ k.is_trailer in
        rw (two.0, two.1, k.is_part, k.is_code)

    pub ill_filled : Indexed t.part.now t.code index None → book_of s ≡ none
    ill_filled (unfilled f) = by_trailer ∙ f

    pub well_filled : Indexed t.part.now t.code index (Some tt) → Checked s index (record { words = t.part; count = t.code })
    well_filled (filled f) = record { is_part = k.is_part; short = k.code_fits; is_book = by_trailer ∙ f }
