-- Laws of an index while it is made, from slot to slot. Assumes nothing.
use Rattle.std.proofs.Common.{◌≡◌, ℕ, ◌+◌, ◌-◌, ◌*◌, ◌≤◌, ◌<◌, min, Bool, true, false, Option, Some, None, List, length, get_or, set, refl, ap, ◌∙◌, arith, add-mul, mul-le-mul_right, length-set, get_or-set_same, get_or-set_other, below_more, leb, eqb, leb-true, leb-false}
use Rattle.std.proofs.Math.Option.{none, some}
use Rattle.std.specs.Bool.{then_some}
use Rattle.layout.specs.Lists.{pick}
use Rattle.layout.specs.Read.{Words, placed, Read, got, bad, chain, repeat, if_nothing_left}
use Rattle.layout.specs.Book.{read_entry, if_read, words_in}
use Rattle.editions.specs.Words.{step_of, place_after}
use Rattle.book.specs.Checks.{Fails, fails, words_from, EnteredAll, entered, nothing, Indexed, filled, unfilled}
use Rattle.book.proofs.Entries.{after_more, all_more, fails_more, fails_longer, Right, words_right}

-- there is a place for every slot
few_slots : (slot count : ℕ) → slot * step_of count < count → count < 65536 → slot < 4096
unfolding step_of pick
few_slots slot count h k = one (leb count 4096) refl
  where
    four : (t : Bool) → leb count 32768 ≡ t → slot * pick t 8 16 < count → slot < 4096
    four true e l = omega (arith, leb-true count 32768 e, l)
    four false e l = omega (arith, l, k)

    three : (t : Bool) → leb count 16384 ≡ t → slot * pick t 4 (pick (leb count 32768) 8 16) < count → slot < 4096
    three true e l = omega (arith, leb-true count 16384 e, l)
    three false e l = four (leb count 32768) refl l

    two : (t : Bool) → leb count 8192 ≡ t → slot * pick t 2 (pick (leb count 16384) 4 (pick (leb count 32768) 8 16)) < count → slot < 4096
    two true e l = omega (arith, leb-true count 8192 e, l)
    two false e l = three (leb count 16384) refl l

    one : (t : Bool) → leb count 4096 ≡ t → slot < 4096
    one true e = omega (arith, leb-true count 4096 e, (rw e at h))
    one false e = two (leb count 8192) refl (rw e at h)

-- ---- what so many entries come to

none_in : (e : List ℕ) (n : ℕ) → Fails (repeat (read_entry e) n (placed 0)) → words_in e n ≡ none
unfolding words_in
none_in e n h = go (repeat (read_entry e) n (placed 0)) h
  where
    go : (x : Read Words) → Fails x → if_read (chain x (λ ws p. if_nothing_left (eqb p.at (length e)) ws p)) ≡ none
    go (bad f s) fails = unfold if_read in refl
    go (got a next) h = elim h [ ]

all_in : (e : List ℕ) (n p : ℕ) → repeat (read_entry e) n (placed 0) ≡ got (words_from e n 0) (placed p) → eqb p (length e) ≡ true → words_in e n ≡ some (words_from e n 0)
unfolding words_in if_nothing_left if_read
all_in e n p h k = rw (h, k)

left_in : (e : List ℕ) (n p : ℕ) → repeat (read_entry e) n (placed 0) ≡ got (words_from e n 0) (placed p) → eqb p (length e) ≡ false → words_in e n ≡ none
unfolding words_in if_nothing_left if_read
left_in e n p h k = rw (h, k)

-- i words are passed, and the places of those at the front of a slot are in the index
pub record Indexing (e : List ℕ) (count i slot p : ℕ) (index : List ℕ) : Type 0 where
  pub inside : p ≤ length e
  pub few : i ≤ count
  pub reach : i ≤ slot * step_of count
  pub exact : i < count → i ≡ slot * step_of count
  pub reads : repeat (read_entry e) i (placed 0) ≡ got (words_from e i 0) (placed p)
  pub place : p ≡ place_after e i 0
  pub places : (k : ℕ) → k < slot → get_or index k 0 ≡ place_after e (k * step_of count) 0
  pub wide : 4096 ≤ length index

module _ (e : List ℕ) (count : ℕ) where
  pub indexing_start : (slot : ℕ) (index : List ℕ) → slot ≡ 0 → 4096 ≤ length index → Indexing e count 0 slot 0 index
  indexing_start slot index z h =
      rw z (record {
        inside = omega arith;
        few = omega arith;
        reach = omega arith;
        exact = λ l. omega arith;
        reads = unfold repeat words_from in refl;
        place = unfold place_after in refl;
        places = λ k l. absurd (omega arith);
        wide = h;
      })

  module _ {i slot p : ℕ} {index : List ℕ} (g : Indexing e count i slot p index) (h : i < count) (small : count < 65536) where
    pub slot_within : slot < length index
    slot_within = omega (arith, few_slots slot count (omega (arith, g.exact h, h)) small, g.wide)

    -- n words more, which fill the slot or are the last
    module _ (n step : ℕ) (s : step ≡ step_of count) (least : n ≡ min step (count - i)) where
      places_next : (k : ℕ) → k < slot + 1 → get_or (set index slot p) k 0 ≡ place_after e (k * step_of count) 0
      places_next =
          below_more (λ k. get_or (set index slot p) k 0 ≡ place_after e (k * step_of count) 0) slot
          (λ k l. get_or-set_other index slot k p 0 (omega arith) ∙ g.places k l)
          (get_or-set_same index slot p 0 slot_within ∙ g.place ∙ ap (λ (x : ℕ). place_after e x 0) (g.exact h))

      pub indexing_next : {q : ℕ} (j t : ℕ) → j ≡ i + n → t ≡ slot + 1 → EnteredAll e p n (Some q) → Indexing e count j t q (set index slot p)
      indexing_next {q} j t a b (entered x y w f) =
          let m : (slot + 1) * step_of count ≡ slot * step_of count + 1 * step_of count = add-mul slot 1 (step_of count) in
          rw (a, b) (record {
            inside = y;
            few = omega (arith, h);
            reach = omega (arith, m, g.exact h, s);
            exact = λ l. omega (arith, m, g.exact h, s, l);
            reads = all_more e i n 0 p q g.reads g.place f;
            place = w ∙ ap (place_after e n) g.place ∙ after_more e i n 0;
            places = places_next;
            wide = simp length-set g.wide;
          })

      pub indexing_fails : (after : List ℕ) → EnteredAll e p n None → Indexed e count after None
      indexing_fails after (nothing f) =
          unfilled (none_in e count (all_fail (fails_longer e (i + n) (count - (i + n)) 0 (fails_more e i n 0 p g.reads f))))
        where
          all_fail : Fails (repeat (read_entry e) (i + n + (count - (i + n))) (placed 0)) → Fails (repeat (read_entry e) count (placed 0))
          all_fail v =
              let m : i + n + (count - (i + n)) ≡ count = omega (arith, h) in
              rw m at v

  -- all words are passed
  pub indexing_done : {i slot p : ℕ} {index : List ℕ} → Indexing e count i slot p index → count ≤ i → {r : Option (Unit {0})} → r ≡ then_some (eqb p (length e)) tt → Indexed e count index r
  indexing_done {i} {slot} {p} {index} g h {r} k = rw k (go (eqb p (length e)) refl)
    where
      all : i ≡ count
      all = omega (arith, g.few, h)

      right : Right e count index
      right k l = g.places k (part (leb slot k) refl)
        where
          part : (t : Bool) → leb slot k ≡ t → k < slot
          part true v =
              let m : slot * step_of count ≤ k * step_of count = mul-le-mul_right (step_of count) (leb-true slot k v) in
              absurd (omega (arith, m, l, g.reach, all))
          part false v = leb-false slot k v

      go : (t : Bool) → eqb p (length e) ≡ t → Indexed e count index (then_some t tt)
      go true v = filled (all_in e count p (rw all at g.reads) v ∙ ap some (words_right e count index right))
      go false v = unfilled (left_in e count p (rw all at g.reads) v)
