-- What stands at the end of a sheet or of a book, by the bytes at their places. Assumes nothing.
use Rattle.std.proofs.Common.{◌≡◌, ℕ, ◌+◌, ◌-◌, ◌<◌, ◌≤◌, false, ◌&&◌, List, length, get_or, take, drop, leb, eqb, sym, ap₂, ◌∙◌, arith, add-zero, add_assoc, length-take, get_or-drop, le-leb, eq-eqb, ne_eqb}
use Rattle.std.proofs.Math.Bool.{and-false}
use Rattle.std.proofs.lemmas.Bool.{lt-leb}
use Rattle.layout.specs.Numbers.{u16_at, u32_at}
use Rattle.cut.specs.Trailers.{trailer_at, distance_back, start_back, is_trailed, Trailed}
use Rattle.cut.specs.declared.Trailer.{Trailer}

-- The u16 at place i after the first n bytes stands at place n + i.
u16_after : (n : ℕ) (s : List ℕ) (i : ℕ) → u16_at (drop n s) i ≡ u16_at s (n + i)
u16_after n s i = rw (get_or-drop n s i 0, get_or-drop n s (i + 1) 0, add_assoc)

-- The u32 after the first n bytes stands at place n.
u32_after : (n : ℕ) (s : List ℕ) → u32_at (drop n s) 0 ≡ u32_at s n
u32_after n s = rw (u16_after n s 0, u16_after n s 2, add-zero)

-- Without room for it there is no trailer.
pub no_room : (mark : ℕ) (s : List ℕ) → length s < 8 → is_trailed mark s ≡ false
unfolding is_trailed
no_room mark s h = rw (lt-leb 8 (length s) h)

-- With room for it, by the place where it stands.
module _ (mark : ℕ) (s : List ℕ) (end : ℕ) (room : 8 ≤ length s) (e : end ≡ trailer_at s) where
  trailed_by : is_trailed mark s ≡ (eqb (get_or s (end + 6) 0) mark && eqb (get_or s (end + 7) 0) 0x31 && leb (u32_at s end) end)
  unfolding is_trailed
  trailed_by = rw (le-leb 8 (length s) room, get_or-drop (trailer_at s) s 6 0, get_or-drop (trailer_at s) s 7 0, u32_after (trailer_at s) s, e)

  -- It is none if one of its last two bytes is another, or if it points too far back.
  pub no_first : (get_or s (end + 6) 0 ≡ mark → ⊥) → is_trailed mark s ≡ false
  no_first h = rw (trailed_by, ne_eqb (get_or s (end + 6) 0) mark h)

  pub no_second : (get_or s (end + 7) 0 ≡ 0x31 → ⊥) → is_trailed mark s ≡ false
  no_second h = rw (trailed_by, ne_eqb (get_or s (end + 7) 0) 0x31 h, and-false)

  module _ (d : ℕ) (f : d ≡ u32_at s end) (fits : d < 4294967296) where
    pub too_far : end < d → is_trailed mark s ≡ false
    too_far h = rw (trailed_by, ← f, lt-leb d end h, and-false)

    -- Else it is one, and what stands before it from the place that it points to on is its part.
    pub trailed : (t : Trailer) → get_or s (end + 6) 0 ≡ mark → get_or s (end + 7) 0 ≡ 0x31 → d ≤ end → t.start ≡ end - d → t.part.now ≡ take (end - t.start) (drop t.start s)
        → t.code ≡ u16_at s (end + 4) → t.code < 65536 → Trailed mark s t
    trailed t first second h start is_part code code_fits =
        let back : distance_back s ≡ d = u32_after (trailer_at s) s ∙ rw (← e) (sym f) in
        let is_start : t.start ≡ start_back s = start ∙ rw (back, e) in
        let l : end - t.start ≡ distance_back s = rw back (omega arith) in
        record {
          is_trailer = rw (trailed_by, eq-eqb (get_or s (end + 6) 0) mark first, second, ← f, le-leb d end h);
          is_start = is_start;
          is_part = is_part ∙ ap₂ (λ (n m : ℕ). take n (drop m s)) l is_start;
          is_code = code ∙ rw e (sym (u16_after (trailer_at s) s 4));
          part_fits = rw is_part (simp length-take (omega arith));
          code_fits = code_fits;
        }
