-- Laws of a body's front by cases, in the shape of the code's tests. Assumes nothing.
use mathlib.Core.Path.{◌≡◌, refl, sym, ap, ap₂, ◌∙◌}
use Prim.Native.Nat.{ℕ, zero, suc, ◌+◌, ◌-◌, ◌*◌, ◌≤◌, ◌<◌}
use native.Mathlib.Omega.{arith}
use native.Mathlib.Numerals.{sub-one, add-one}
use mathlib.Core.Bool.{Bool, true, false}
use mathlib.Core.List.{List, [], ◌∷◌}
use lib.ListN.{length}
use lib.Dec.{leb}
use borrow.Author.Tests.{leb-true, leb-false}
use Rattle.layout.specs.Numbers.{u16_at}
use Rattle.layout.specs.Answers.{CutShort, BadField}
use Rattle.layout.specs.Answers as answers
use Rattle.layout.specs.Tree.{Entry, entry}
use Rattle.layout.specs.Read.{Terms, Place, placed, Stop, stop, Read, got, bad, chain, read_u16, read_bytes, read_label, read_entries}
use Rattle.laws.specs.Begun.{OfFields, read}
use Rattle.laws.proofs.Begun.{fields_next, u16_fields, entries_fields}
use Rattle.labels.specs.Table.{entries_at, Rising}
use Rattle.labels.proofs.Labels.{EntriesRead, entries_read}
use Rattle.std.specs.Prelude.{Result, Ok, Err}
use Rattle.std.specs.Result.{IsErrAnd}
use Rattle.positions.specs.declared.Spot.{Spot}
use Rattle.positions.specs.declared.Stop as code
use Rattle.positions.specs.declared.Fault.TheVariants as fault
use Rattle.positions.specs.Scanned.{fault_of, stops_at, scanned}
use Rattle.operands.proofs.Scans.{ends, stops, scanned_as, ends_is, stops_then, number_as}
use Rattle.operands.proofs.Reading.{u16_in, u16_out, label_out, label_big, label_low, label_in}
use Rattle.front.specs.Front.{Front, read_front}

-- ---- the entries

module _ (terms : Terms) (b : List ℕ) (n least p pos : ℕ) where
  pub entries_end : {s : Spot} → n ≤ 0 → s.at ≡ p → s.pos.0 ≡ pos → Ok s ≡ scanned (λ _. 0) pos (read_entries terms b n least (placed p))
  entries_end h e f = ends (λ _. 0) pos (go n h) e (omega (arith, f))
    where
      go : (n : ℕ) → n ≤ 0 → read_entries terms b n least (placed p) ≡ got [] (placed p)
      go zero h = unfold read_entries in refl
      go (suc n) h = absurd (omega arith)

  entries_step : 0 < n
      → read_entries terms b n least (placed p)
      ≡ chain (read_label terms b least (placed p)) (λ l q. chain (read_u16 b q) (λ i r. chain (read_entries terms b (n - 1) (suc l) r) (λ es t. got (entry l (record { index = i }) ∷ es) t)))
  unfolding read_entries
  entries_step h = go n h
    where
      go : (n : ℕ) → 0 < n
          → read_entries terms b n least (placed p)
          ≡ chain (read_label terms b least (placed p)) (λ l q. chain (read_u16 b q) (λ i r. chain (read_entries terms b (n - 1) (suc l) r) (λ es t. got (entry l (record { index = i }) ∷ es) t)))
      go zero h = absurd (omega arith)
      go (suc n) h = simp sub-one

  module _ (h : 0 < n) where
    pub entries_cut : length b < p + 2 → read_entries terms b n least (placed p) ≡ bad CutShort (stop (placed p))
    entries_cut l = rw (entries_step h, label_out terms b p least l)

    module _ (m : ℕ) (i : (p + 2 ≤ length b) × (m ≡ u16_at b p) × (m < 65536)) where
      pub entries_big : terms.label_bound ≤ m → stops_at p fault.BadField ≡ scanned (λ _. 0) pos (read_entries terms b n least (placed p))
      unfolding fault_of
      entries_big l = stops (λ _. 0) pos {g = BadField} {q = p} (rw (entries_step h, label_big terms b p least i.0 (omega (arith, i.1))))

      pub entries_low : m < least → stops_at p fault.BadField ≡ scanned (λ _. 0) pos (read_entries terms b n least (placed p))
      unfolding fault_of
      entries_low k = go (leb terms.label_bound m) refl
        where
          go : (t : Bool) → leb terms.label_bound m ≡ t → stops_at p fault.BadField ≡ scanned (λ _. 0) pos (read_entries terms b n least (placed p))
          go true l = entries_big (leb-true _ _ l)
          go false l =
              let o = leb-false _ _ l in
              stops (λ _. 0) pos {g = BadField} {q = p} (rw (entries_step h, label_low terms b p least i.0 (omega (arith, i.1, o)) (omega (arith, i.1))))

      module _ (l : m < terms.label_bound) (k : least ≤ m) where
        pub entries_half : length b < p + 2 + 2 → read_entries terms b n least (placed p) ≡ bad CutShort (stop (placed (p + 2)))
        entries_half o = rw (entries_step h, label_in terms b p least i.0 (omega (arith, i.1)) (omega (arith, i.1)), u16_out b (p + 2) o)

        pub entries_more : (j q : ℕ) → p + 2 + 2 ≤ length b → j + 1 ≡ n → q ≡ p + 2 + 2
            → scanned (λ _. 0) pos (read_entries terms b j (m + 1) (placed q)) ≡ scanned (λ _. 0) pos (read_entries terms b n least (placed p))
        entries_more j q o e f =
            let s : m + 1 ≡ suc (u16_at b p) = ap (λ x. x + 1) i.1 ∙ add-one (u16_at b p) in
            let g : j ≡ n - 1 = omega arith in
            rw (s, f, g, entries_step h, label_in terms b p least i.0 (omega (arith, i.1)) (omega (arith, i.1)), u16_in b (p + 2) o)
            (scanned_as (λ _. 0) pos (λ es. entry (u16_at b p) (record { index = u16_at b (p + 2) }) ∷ es) (λ _. 0) pos (read_entries terms b (n - 1) (suc (u16_at b p)) (placed (p + 2 + 2))) (λ es. refl))

-- ---- the front

module _ (terms : Terms) (b : List ℕ) (at pos : ℕ) where
  pub front_cut : length b < at + 2 → read_front terms b (placed at) ≡ bad CutShort (stop (placed at))
  unfolding read_front
  front_cut h = rw (u16_out b at h)

  module _ (n : ℕ) (h : (at + 2 ≤ length b) × (n ≡ u16_at b at) × (n < 65536)) (p : Spot) (i : (p.at ≡ at + 2) × (p.pos.0 ≡ pos + 0)) {r : Result Spot code.Stop} (s : r ≡ scanned (λ _. 0) p.pos.0 (read_entries terms b n 0 (placed p.at))) where
    after : read_front terms b (placed at) ≡ chain (read_entries terms b n 0 (placed p.at)) (λ es q. chain (read_u16 b q) (λ m t. got (record { entries = es; count = m }) t))
    unfolding read_front
    after = rw (u16_in b at h.0, ← h.1, ← i.0)

    pub front_stops : {e : code.Stop} {r' : Result Spot code.Stop} → r ≡ Err e → IsErrAnd r' (λ x. x ≡ e) → r' ≡ scanned (λ _. 0) pos (read_front terms b (placed at))
    front_stops k g = rw after (stops_then (λ _. 0) pos (λ _. 0) p.pos.0 (read_entries terms b n 0 (placed p.at)) (λ es q. chain (read_u16 b q) (λ m t. got (record { entries = es; count = m }) t)) s k g)

    pub front_place : {q : Spot} → r ≡ Ok q → q.at ≤ length b
    front_place {q} k =
        let z = ends_is (λ _. 0) p.pos.0 (read_entries terms b n 0 (placed p.at)) s k in
        (entries_read terms b n (placed p.at) z.0 (placed q.at) (omega (arith, i.0, h.0)) z.1).1

    pub front_ends : {q : Spot} {r' : Result Spot code.Stop} → r ≡ Ok q → r' ≡ scanned (λ _. 0) q.pos.0 (read_bytes b 2 (placed q.at)) → r' ≡ scanned (λ _. 0) pos (read_front terms b (placed at))
    front_ends {q} {r'} k g = let z = ends_is (λ _. 0) p.pos.0 (read_entries terms b n 0 (placed p.at)) s k in go z.0 z.1 z.2
      where
        go : (es : List Entry) → read_entries terms b n 0 (placed p.at) ≡ got es (placed q.at) → q.pos.0 ≡ p.pos.0 + 0 → r' ≡ scanned (λ _. 0) pos (read_front terms b (placed at))
        go es x y =
            g ∙ count_as ∙ scanned_as (λ _. 0) pos (λ m. record { entries = es; count = m }) (λ _. 0) q.pos.0 (read_u16 b (placed q.at)) (λ m. omega (arith, i.1)) ∙ sym (ap (scanned (λ _. 0) pos) (after ∙ rw x))
          where
            count_as : scanned (λ _. 0) q.pos.0 (read_bytes b 2 (placed q.at)) ≡ scanned (λ _. 0) q.pos.0 (read_u16 b (placed q.at))
            count_as = unfold read_bytes read_u16 in number_as _ _ _ _ _ _

-- a fault in a front is met before any action of its body is begun
pub front_fields : (terms : Terms) (b : List ℕ) → OfFields (read_front terms b)
unfolding read_front
front_fields terms b p =
    fields_next (u16_fields b p) (λ m q. fields_next (entries_fields terms b m 0 q) (λ es r. fields_next (u16_fields b r) (λ n s. read {q = s} (omega arith))))

-- what stands in a front that was read
pub record FrontRead (terms : Terms) (b : List ℕ) (at end : ℕ) (f : Front) : Type 0 where
  pub inside : end ≤ length b
  pub place : end ≡ at + 4 + 4 * u16_at b at
  pub same : f.entries ≡ entries_at b (u16_at b at) (at + 2)
  pub rising : Rising terms.label_bound 0 (entries_at b (u16_at b at) (at + 2))
  pub counted : f.count ≡ u16_at b (end - 2)

pub front_read : (terms : Terms) (b : List ℕ) (at end : ℕ) (f : Front) → at ≤ length b → read_front terms b (placed at) ≡ got f (placed end) → FrontRead terms b at end f
unfolding read_front
front_read terms b at end f l e = first (read_u16 b (placed at)) refl
  where
    no : {A : Type 0} {g : answers.Fault} {p : Stop} → bad g p ≡ got f (placed end) → A
    no k =
        let z : ◌≡◌ {A = ℕ} 0 1 = cc in
        absurd (omega arith)

    number : (p : ℕ) (m : ℕ) (q : Place) → p ≤ length b → read_u16 b (placed p) ≡ got m q → (m ≡ u16_at b p) × (q.at ≡ p + 2) × (p + 2 ≤ length b)
    number p m q h k = go (leb (p + 2) (length b)) refl
      where
        go : (t : Bool) → leb (p + 2) (length b) ≡ t → (m ≡ u16_at b p) × (q.at ≡ p + 2) × (p + 2 ≤ length b)
        go true x =
            let i : p + 2 ≤ length b = leb-true _ _ x in
            let y : got m q ≡ got (u16_at b p) (placed (p + 2)) = sym k ∙ u16_in b p i in
            (cc, ap (λ (v : Place). v.at) (cc), i)
        go false x =
            let y : got m q ≡ bad CutShort (stop (placed p)) = sym k ∙ u16_out b p (leb-false _ _ x) in
            let z : ◌≡◌ {A = ℕ} 0 1 = cc in
            absurd (omega arith)

    third : (m : ℕ) (p : Place) (es : List Entry) (q : Place) → (m ≡ u16_at b at) × (p.at ≡ at + 2) × (at + 2 ≤ length b) → EntriesRead terms.label_bound b m 0 p es q × (q.at ≤ length b)
        → (n : ℕ) (r : Place) → read_u16 b q ≡ got n r → record { entries = es; count = n } ≡ f → r ≡ placed end → FrontRead terms b at end f
    third m p es q x y n r k g h =
        let c = number q.at n r y.1 k in
        let j : r.at ≡ end = ap (λ (v : Place). v.at) h in
        let i : end - 2 ≡ q.at = omega (arith, c.1) in
        record {
          inside = omega (arith, c.1, c.2);
          place = omega (arith, c.1, y.0.ends, x.1, x.0);
          same = ap (λ (v : Front). v.entries) (sym g) ∙ y.0.same ∙ ap₂ (entries_at b) x.0 x.1;
          rising = rw (← x.0, ← x.1, ← y.0.same) y.0.rising;
          counted = ap (λ (v : Front). v.count) (sym g) ∙ c.0 ∙ ap (u16_at b) (sym i);
        }

    second : (m : ℕ) (p : Place) → read_u16 b (placed at) ≡ got m p → (y : Read (List Entry)) → read_entries terms b m 0 p ≡ y
        → chain y (λ es q. chain {B = Front} (read_u16 b q) (λ n r. got (record { entries = es; count = n }) r)) ≡ got f (placed end) → FrontRead terms b at end f
    second m p k (bad g q) h j = no j
    second m p k (got es q) h j =
        let x = number at m p l k in
        let i : p.at ≤ length b = omega (arith, x.1, x.2) in
        count es q x (entries_read terms b m p es q i h) (read_u16 b q) refl j
      where
        count : (es : List Entry) (q : Place) → (m ≡ u16_at b at) × (p.at ≡ at + 2) × (at + 2 ≤ length b) → EntriesRead terms.label_bound b m 0 p es q × (q.at ≤ length b)
            → (z : Read ℕ) → read_u16 b q ≡ z → chain {B = Front} z (λ n r. got (record { entries = es; count = n }) r) ≡ got f (placed end) → FrontRead terms b at end f
        count es q x w (bad g r) h j = no j
        count es q x w (got n r) h j = third m p es q x w n r h (cc) (cc)

    first : (x : Read ℕ) → read_u16 b (placed at) ≡ x → FrontRead terms b at end f
    first (bad g p) k = no (rw k at e)
    first (got m p) k = second m p k (read_entries terms b m 0 p) refl (through m p k)
      where
        through : (m : ℕ) (p : Place) → read_u16 b (placed at) ≡ got m p
            → chain (read_entries terms b m 0 p) (λ es q. chain {B = Front} (read_u16 b q) (λ n r. got (record { entries = es; count = n }) r)) ≡ got f (placed end)
        through m p k = rw k at e
