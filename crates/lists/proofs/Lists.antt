-- Laws of a counted list scanned one element at a time: what is still to do from here gives what the whole gives. Assumes nothing.
use mathlib.Core.Path.{◌≡◌, refl, sym, ap, ◌∙◌}
use Prim.Native.Nat.{ℕ, zero, suc, ◌+◌, ◌-◌, ◌*◌, ◌≤◌, ◌<◌}
use native.Mathlib.Omega.{arith}
use mathlib.Core.List.{List, [], ◌∷◌}
use lib.ListN.{length}
use lib.Dec.{leb}
use borrow.Author.Tests.{leb-true}
use mathlib.Core.Bool.{Bool, true, false}
use Rattle.layout.specs.Numbers.{u16_at}
use Rattle.layout.specs.Answers.{CutShort}
use Rattle.layout.specs.Read.{Terms, Place, placed, stop, ahead, Read, got, bad, Reader, chain, if_whole, repeat, read_u16, read_string, read_counted, read_value}
use Rattle.layout.specs.Lengths.{total, string_length}
use Rattle.layout.specs.Pack.{spelling}
use Rattle.laws.specs.Fits.{Bytes}
use Rattle.laws.proofs.ReadFits.{good_got, good_then, good_as, bytes_good}
use Rattle.laws.specs.Books.{WordsShort}
use Rattle.laws.proofs.Shares.{text_most, value_most}
use Rattle.std.specs.Prelude.{Option, Some, None, Result, Ok, Err}
use Rattle.std.specs.Option.{MatchOption}
use Rattle.std.specs.Result.{IsErr, IsErrAnd}
use Rattle.std.specs.List.{range_with_len, FoldsTo}
use Rattle.std.specs.Fn.{Called, Takes, Mut}
use Rattle.std.specs.Iterator.{YieldsThen, CallableAtEachTurn}
use Rattle.std.proofs.Common.{◌++◌, add-one, length-append}
use Rattle.std.proofs.lemmas.Fn.{serves_by, chained_keeps}
use Rattle.std.proofs.lemmas.Iterator.{YieldsList}
use Rattle.std.proofs.lemmas.Iterator.Consumers.{YieldsList-turn, YieldsList-end}
use Rattle.std.proofs.lemmas.List.FromFn.{length-range_with_len}
use Rattle.positions.specs.declared.BytePosition.{BytePosition}
use Rattle.positions.specs.declared.Spot.{Spot}
use Rattle.positions.specs.declared.Stop.{Stop}
use Rattle.positions.specs.Scanned.{ends_at, scanned, Roomy}
use Rattle.operands.specs.Operands.{string_size}
use Rattle.lists.specs.Elements.{read_named, named_size, value_size}
use Rattle.operands.proofs.Scans.{ends_is, stops_then, from_spot}
use Rattle.operands.proofs.Reading as reading

-- what was read lies within b, and each of its bytes is written in at most 65,536
pub record Grows {A : Type 0} (b : List ℕ) (read : Reader A) (size : A → ℕ) : Type 0 where
  pub at : (p : ℕ) (a : A) (q : ℕ) → p ≤ length b → read (placed p) ≡ got a (placed q) → (size a + 65536 * p ≤ 65536 * q) × (q ≤ length b)

module _ {A : Type 0} (read : Reader A) (size : A → ℕ) where
  -- nothing is left
  none_left : (s : Spot) → scanned (total size) s.pos.0 (repeat read 0 (placed s.at)) ≡ Ok s
  unfolding repeat scanned total
  none_left s = ap (λ (x : ℕ). ends_at s.at (record { 0 = x })) (omega arith)

  one_more : (k p : ℕ) → repeat read (k + 1) (placed p) ≡ chain (read (placed p)) (λ a q. chain (repeat read k q) (λ xs r. got (a ∷ xs) r))
  unfolding repeat
  one_more k p = rw (add-one k)

  -- the rest after an element
  after_one : (w : ℕ) (a : A) (x : Read (List A)) → scanned (total size) w (chain x (λ xs r. got (a ∷ xs) r)) ≡ scanned (total size) (w + size a) x
  unfolding scanned total
  after_one w a (got xs r) = ap (λ (n : ℕ). ends_at r.at (record { 0 = n })) (omega arith)
  after_one w a (bad f r) = refl

  module _ (s : Spot) {r : Result Spot Stop} (e : r ≡ scanned size s.pos.0 (read (placed s.at))) (k : ℕ) where
    -- an element was scanned
    step_ends : {t : Spot} → r ≡ Ok t → scanned (total size) t.pos.0 (repeat read k (placed t.at)) ≡ scanned (total size) s.pos.0 (repeat read (k + 1) (placed s.at))
    step_ends {t} f =
        let i = ends_is size s.pos.0 (read (placed s.at)) e f in
        go i.0 i.1 t.pos.0 i.2
      where
        go : (a : A) → read (placed s.at) ≡ got a (placed t.at) → (v : ℕ) → v ≡ s.pos.0 + size a
            → scanned (total size) v (repeat read k (placed t.at)) ≡ scanned (total size) s.pos.0 (repeat read (k + 1) (placed s.at))
        go a g v l = rw (one_more k s.at, g, l) (sym (after_one s.pos.0 a (repeat read k (placed t.at))))

    -- an element met a fault
    step_stops : {x : Stop} {r' : Result Spot Stop} → r ≡ Err x → IsErrAnd r' (λ y. y ≡ x) → r' ≡ scanned (total size) s.pos.0 (repeat read (k + 1) (placed s.at))
    step_stops f g = rw (one_more k s.at) (stops_then (total size) s.pos.0 size s.pos.0 (read (placed s.at)) _ e f g)

  -- an element was scanned, and the next one may be
  step_roomy : (b : List ℕ) → Grows b read size → (s : Spot) → Roomy b s.at s.pos → {r : Result Spot Stop} → r ≡ scanned size s.pos.0 (read (placed s.at)) → {t : Spot} → r ≡ Ok t → Roomy b t.at t.pos
  step_roomy b grows s y e {t} f =
      let k = ends_is size s.pos.0 (read (placed s.at)) e f in
      let l = grows.at s.at k.0 t.at y.inside k.1 in
      record { bytes = y.bytes; inside = l.1; room = omega (arith, y.inside, y.room, l.0, l.1, k.2) }

  -- after some of n elements: what is left from a spot gives what the whole gives
  pub record Folding {F : Type 0} (b : List ℕ) (whole : Result Spot Stop) (n : ℕ) (f : F) (xs : List ℕ) (q : F × Spot) : Type 0 where
    pub same : q.0 ≡ f
    pub roomy : Roomy b q.1.at q.1.pos
    pub left : (k : ℕ) → length xs + k ≡ n → scanned (total size) q.1.pos.0 (repeat read k (placed q.1.at)) ≡ whole

  -- the count, and the first element
  module _ (b : List ℕ) (at : ℕ) (pos : BytePosition) where
    pub counted_out : length b < at + 2 → read_counted b read (placed at) ≡ bad CutShort (stop (placed at))
    unfolding read_counted
    counted_out h = rw (reading.u16_out b at h)

    pub counted_start : {F : Type 0} {f : F} {n : ℕ} {s : Spot} → (at + 2 ≤ length b) × (n ≡ u16_at b at) × (n < 65536) → (s.at ≡ at + 2) × (s.pos.0 ≡ pos.0 + 0) → Roomy b at pos
        → Folding b (scanned (total size) pos.0 (read_counted b read (placed at))) n f [] (f, s)
    unfolding read_counted
    counted_start {n = n} {s = s} h i y =
        record {
          same = refl;
          roomy = record { bytes = y.bytes; inside = omega (arith, h.0, i.0); room = omega (arith, y.room, y.inside, i.0, i.1, h.0) };
          left = λ k j.
              let e : k ≡ n = omega (arith, j) in
              rw (reading.u16_in b at h.0, ← h.1, e) (from_spot (total size) (repeat read n) i.0 (omega (arith, i.1)) refl);
        }

  -- ---- the elements, by `try_fold`, where each call scans one

  module _ {F : Type 0} (g : Mut F (Spot × (ℕ × Unit {0})) (Result Spot Stop)) (f : F) (b : List ℕ) (grows : Grows b read size) (whole : Result Spot Stop) (n : ℕ)
      (scans : (s : Spot) (x : ℕ) (v : Result Spot Stop) (h : F) → Roomy b s.at s.pos → Called g f (s, (x, tt)) v h → (h ≡ f) × (v ≡ scanned size s.pos.0 (read (placed s.at)))) where
    -- a call that goes on
    abbrev Turn : F × Spot → ℕ → F × Spot → Type 0
    Turn p x q = (v : Result Spot Stop) × Called g p.0 (p.1, (x, tt)) v q.0 × (v ≡ Ok q.1)

    keeps : (xs : List ℕ) (q : F × Spot) (x : ℕ) (u : F × Spot) → Folding b whole n f xs q → Turn q x u → Folding b whole n f (xs ++ (x ∷ [])) u
    keeps xs q x u j t =
        let called : Called g f (q.1, (x, tt)) t.0 u.0 = rw j.same at t.1 in
        let c = scans q.1 x t.0 u.0 j.roomy called in
        record {
          same = c.0;
          roomy = step_roomy b grows q.1 j.roomy c.1 t.2;
          left = λ k i. step_ends q.1 c.1 k t.2 ∙ j.left (k + 1) (omega (arith, i, length-append xs (x ∷ [])));
        }

    pub folding_callable : {S : Type 0} {steps : S → Option ℕ → S → Type 0} {s : S} {from : Spot} → Folding b whole n f [] (f, from) → ((t : Spot) (x : ℕ) → Roomy b t.at t.pos → Takes g f (t, (x, tt)))
        → CallableAtEachTurn {P = F × Spot} steps Turn (λ p x. Takes g p.0 (p.1, (x, tt))) s (f, from)
    folding_callable {steps = steps} {s = s} {from = from} j takes =
        serves_by Turn (Folding b whole n f) keeps steps (λ p x. Takes g p.0 (p.1, (x, tt))) s (f, from) j (λ xs t q x u y z k. rw k.same (takes q.1 x k.roomy))

    pub folding_ends : {S E : Type 0} {steps : S → Option ℕ → S → Type 0} {s u : S} {from : Spot} {r : Result Spot Stop} {stop : E → Stop} → Folding b whole n f [] (f, from) → YieldsList steps (λ x. x) s (range_with_len 0 n)
        → (xs : List ℕ) × (o : Option ℕ) × (f' : F) × (a : Spot) × YieldsThen steps s xs o u × FoldsTo {P = F × Spot} Turn (f, from) xs (f', a)
        × MatchOption o (r ≡ Ok a) (λ x. (v : Result Spot Stop) × (h : F) × (e : E) × Called g f' (a, (x, tt)) v h × (v ≡ Err (stop e)) × (IsErr r × IsErrAnd r (λ y. y ≡ stop e)))
        → r ≡ whole
    folding_ends {S} {E} {steps} {s} {u} {from} {r} {stop} j road (xs, o, f', a, (t, y, z), ran, last) = go o z last (chained_keeps Turn (Folding b whole n f) keeps xs (f, from) (f', a) j ran)
      where
        go : (o : Option ℕ) → steps t o u
            → MatchOption o (r ≡ Ok a) (λ x. (v : Result Spot Stop) × (h : F) × (e : E) × Called g f' (a, (x, tt)) v h × (v ≡ Err (stop e)) × (IsErr r × IsErrAnd r (λ y. y ≡ stop e)))
            → Folding b whole n f xs (f', a) → r ≡ whole
        go None z m k =
            let l = YieldsList-end road xs t y None u refl z in
            m ∙ sym (none_left a) ∙ k.left 0 (omega (arith, l.1, length-range_with_len 0 n))
        go (Some x) z m k =
            let l = YieldsList-turn road xs t y (Some x) u x refl z in
            let called : Called g f (a, (x, tt)) m.0 m.1 = rw k.same at m.3 in
            let c = scans a x m.0 m.1 k.roomy called in
            let i : length xs < n = omega (arith, l.0, length-range_with_len 0 n) in
            step_stops a c.1 (n - length xs - 1) m.4 m.5.1 ∙ k.left (n - length xs - 1 + 1) (omega arith)

-- a number lies within
u16_place : (b : List ℕ) (p n : ℕ) (q : Place) → read_u16 b (placed p) ≡ got n q → (q.at ≡ p + 2) × (q.at ≤ length b)
unfolding read_u16 if_whole
u16_place b p n q e = go (leb (p + 2) (length b)) refl e
  where
    go : (t : Bool) → leb (p + 2) (length b) ≡ t → if_whole t (placed p) (u16_at b p) (ahead 2 (placed p)) ≡ got n q → (q.at ≡ p + 2) × (q.at ≤ length b)
    go true h k =
        let f : placed (p + 2) ≡ q = cc in
        (sym (ap (λ (r : Place). r.at) f), omega (arith, leb-true (p + 2) (length b) h, ap (λ (r : Place). r.at) f))
    go false h k =
        let z : ◌≡◌ {A = ℕ} 0 1 = cc in
        absurd (omega arith)

-- what a chain of two readings that gave a value is made of
chain_got : {A B : Type 0} (x : Read B) (k : B → Reader A) (a : A) (q : Place) → chain x k ≡ got a q → (y : B) × (r : Place) × (x ≡ got y r) × (k y r ≡ got a q)
chain_got (got y r) k a q e = (y, r, refl, e)
chain_got (bad f r) k a q e =
    let z : ◌≡◌ {A = ℕ} 0 1 = cc in
    absurd (omega arith)

module _ {A : Type 0} (b : List ℕ) (read : Reader A) (size : A → ℕ) (grows : Grows b read size) where
  repeat_grows : (n p : ℕ) (xs : List A) (q : ℕ) → p ≤ length b → repeat read n (placed p) ≡ got xs (placed q) → (total size xs + 65536 * p ≤ 65536 * q) × (q ≤ length b)
  unfolding repeat total
  repeat_grows zero p xs q l e =
      let f : [] ≡ xs = cc in
      let g : placed p ≡ placed q = cc in
      (rw (← f) (omega (arith, ap (λ (r : Place). r.at) g)), omega (arith, ap (λ (r : Place). r.at) g))
  repeat_grows (suc n) p xs q l e =
      let c = chain_got (read (placed p)) _ xs (placed q) e in
      let d = chain_got (repeat read n c.1) _ xs (placed q) c.3 in
      let one = grows.at p c.0 c.1.at l c.2 in
      let f : d.1 ≡ placed q = cc d.3 in
      let rest = repeat_grows n c.1.at d.0 d.1.at one.1 d.2 in
      let g : c.0 ∷ d.0 ≡ xs = cc d.3 in
      (rw (← g) (omega (arith, one.0, rest.0, ap (λ (r : Place). r.at) f)), omega (arith, rest.1, ap (λ (r : Place). r.at) f))

  pub counted_grows : Grows b (read_counted b read) (λ xs. 2 + total size xs)
  unfolding read_counted
  counted_grows =
      record {
        at = λ p xs q l e.
            let c = chain_got (read_u16 b (placed p)) _ xs (placed q) e in
            let f = u16_place b p c.0 c.1 c.2 in
            let rest = repeat_grows c.0 c.1.at xs q f.1 c.3 in
            (omega (arith, rest.0, f.0), rest.1);
      }

-- ---- the two kinds of element

module _ (terms : Terms) (b : List ℕ) (small : Bytes b) (short : WordsShort terms) where
  pub named_grows : (skip : ℕ) → Grows b (read_named terms b skip) (named_size skip)
  unfolding read_named named_size string_size
  named_grows skip =
      record {
        at = λ p s q l e.
            let g =
            good_got {P = λ t r. skip + string_length (spelling t) + 65536 * p ≤ 65536 * r.at} s (placed q)
            (good_then (bytes_good b small skip (placed p) l)
            (λ x r h m. good_as (text_most terms b small short r m) (λ t u k. omega (arith, h.1, k.0)))) e in
            (omega (arith, g.0), g.1);
      }

  pub values_grow : Grows b (read_value terms b) value_size
  unfolding value_size
  values_grow =
      record {
        at = λ p v q l e.
            let g = good_got v (placed q) (value_most terms b small short (placed p) l) e in
            (omega (arith, g.0.0), g.1);
      }

  pub text_grows : Grows b (read_string terms b) string_size
  unfolding string_size
  text_grows =
      record {
        at = λ p s q l e.
            let g = good_got s (placed q) (text_most terms b small short (placed p) l) e in
            (omega (arith, g.0.0), g.1);
      }

-- the next scan may start where one ended, even some bytes further on in the block where something was written
module _ {A : Type 0} (b : List ℕ) (read : Reader A) (size : A → ℕ) (s : Spot) (h : Roomy b s.at s.pos) {r : Result Spot Stop} {t : Spot} where
  pub roomy_after : Grows b read size → ((a : A) → 1 ≤ size a) → r ≡ scanned size s.pos.0 (read (placed s.at)) → r ≡ Ok t
      → (extra : ℕ) → extra ≤ 65000 → (u : Spot) → (u.at ≡ t.at + 0) × (u.pos.0 ≡ t.pos.0 + extra) → Roomy b u.at u.pos
  roomy_after g some e f extra m u i =
      let k = ends_is size s.pos.0 (read (placed s.at)) e f in
      let n = g.at s.at k.0 t.at h.inside k.1 in
      record { bytes = h.bytes; inside = omega (arith, n.1, i.0); room = omega (arith, h.inside, h.room, n.0, n.1, k.2, some k.0, i.0, i.1) }

  -- the next scan may start where a counted list ended
  pub list_after : Grows b read size → r ≡ scanned (total size) s.pos.0 (read_counted b read (placed s.at)) → r ≡ Ok t → Roomy b t.at t.pos
  list_after g e f =
      let k = ends_is (total size) s.pos.0 (read_counted b read (placed s.at)) e f in
      let n = (counted_grows b read size g).at s.at k.0 t.at h.inside k.1 in
      record { bytes = h.bytes; inside = n.1; room = omega (arith, h.inside, h.room, n.0, n.1, k.2) }

module _ (terms : Terms) (b : List ℕ) (s : Spot) {r : Result Spot Stop} {t : Spot} (e : r ≡ scanned string_size s.pos.0 (read_string terms b (placed s.at))) (f : r ≡ Ok t) where
  module _ (short : WordsShort terms) (h : Roomy b s.at s.pos) where
    pub text_after : (extra : ℕ) → extra ≤ 65000 → (u : Spot) → (u.at ≡ t.at + 0) × (u.pos.0 ≡ t.pos.0 + extra) → Roomy b u.at u.pos
    text_after = roomy_after b (read_string terms b) string_size s h (text_grows terms b h.bytes short) (λ x. unfold string_size string_length in omega arith) e f

    -- some bytes more can be counted
    pub text_room : t.pos.0 + 65000 ≤ 1099511627776
    text_room =
        let y = text_after 65000 (omega arith) (record { at = t.at; pos = record { 0 = t.pos.0 + 65000 } }) (omega arith, refl) in
        omega (arith, y.room)
