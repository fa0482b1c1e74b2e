-- Laws of the cut: what it comes to by the trailer, and what the code's answer says of it. Assumes nothing.
use Rattle.std.proofs.Common.{◌≡◌, ℕ, ◌<◌, ◌≤◌, Bool, true, false, List, length, leb, Ok, refl, sym, arith, le-leb}
use Rattle.std.proofs.Math.Option.{none, some}
use Rattle.std.proofs.lemmas.Bool.{and_parts, lt-leb}
use Rattle.layout.specs.Answers.{SheetTooLong, BadTrailer}
use Rattle.layout.specs.Cut.{edition_of, main, uncut, sheet_limit, cut, cut_if_short, cut_if_trailer, cut_at, cut_if, is_marked, trailer_distance, trailer_edition}
use Rattle.editions.specs.Allowed.{meant}
use Rattle.editions.specs.declared.Edition.{Edition}
use Rattle.laws.proofs.Packed.{is_main}
use Rattle.cut.specs.Trailers.{trailer_at, distance_back, is_trailed, Trailed}
use Rattle.cut.specs.Cuts.{said}
use Rattle.cut.specs.declared.Trailer.{Trailer}
use Rattle.cut.specs.declared.Cut.{Cut}

-- Of a sheet over the limit nothing else counts.
pub cut_long : (s : List ℕ) → sheet_limit < length s → uncut (SheetTooLong (length s)) ≡ cut s
unfolding cut cut_if_short
cut_long s h = rw (lt-leb (length s) sheet_limit h)

module _ (s : List ℕ) (short : length s ≤ sheet_limit) where
  cut_short : cut s ≡ cut_if_trailer (leb 8 (length s)) s
  unfolding cut cut_if_short
  cut_short = rw (le-leb (length s) sheet_limit short)

  -- Without a trailer it is refused.
  pub cut_untrailed : is_trailed 0x41 s ≡ false → uncut BadTrailer ≡ cut s
  unfolding cut_if_trailer cut_at cut_if is_trailed is_marked trailer_distance
  cut_untrailed h = go (leb 8 (length s)) refl
    where
      go : (room : Bool) → leb 8 (length s) ≡ room → uncut BadTrailer ≡ cut s
      go true e =
          let f = rw e at h in
          rw (cut_short, e, f)
      go false e = rw (cut_short, e)

  -- With one, by its edition.
  module _ (t : Trailer) (k : Trailed 0x41 s t) where
    pub cut_trailed : cut s ≡ cut_if true (edition_of t.code) s (trailer_at s) (distance_back s)
    unfolding cut_if_trailer cut_at is_trailed is_marked trailer_distance trailer_edition
    cut_trailed =
        let two = and_parts (leb 8 (length s)) _ k.is_trailer in
        rw (cut_short, two.0, two.1, k.is_code)

    -- Without an edition it is refused.
    pub cut_uncoded : edition_of t.code ≡ none → uncut BadTrailer ≡ cut s
    unfolding cut_if
    cut_uncoded h = rw (cut_trailed, h)

    -- With one, the trailer's part is its main body.
    pub cut_coded : (edition : Edition) → edition_of t.code ≡ some (meant edition) → main (meant edition) t.start t.part.now ≡ cut s
    unfolding cut_if
    cut_coded edition h = rw (cut_trailed, h, k.is_part, k.is_start)

-- What the code answers is the cut, and the main body and its start are within the limit.
module _ (s : List ℕ) (c : Cut) (e : said (Ok c) ≡ cut s) where
  pub is_cut : cut s ≡ main (meant c.edition) c.start c.main.now
  unfolding said
  is_cut = sym e

  pub cut_limits : (length c.main.now ≤ 1048576) × (c.start ≤ 1048576)
  cut_limits =
      let m = is_main s (meant c.edition) c.start c.main.now is_cut in
      (omega (arith, m.is_long, m.is_limited), omega (arith, m.is_long, m.is_limited))
