-- What the label table holds, and what reading says of a body's entries. Assumes nothing.
use mathlib.Core.Path.{◌≡◌, refl, ap, ap₂, ◌∙◌}
use Prim.Native.Nat.{ℕ, zero, suc, ◌+◌, ◌*◌, ◌≤◌, ◌<◌}
use native.Mathlib.Numerals.{add-one}
use native.Mathlib.Omega.{arith}
use mathlib.Core.Bool.{Bool, true, false, ◌&&◌, not, not-not}
use mathlib.Core.Option.{Option, none, some}
use mathlib.Core.List.{List, [], ◌∷◌, ◌++◌}
use lib.ListN.{length, get_or, set, length-set}
use lib.Seq.{get_or-set_same, get_or-set_other}
use lib.Dec.{leb, ltb, eqb}
use borrow.Author.Tests.{ltb-true, leb-true, eqb-true, eqb-false}
use Rattle.layout.specs.Numbers.{u16_at, bits64}
use Rattle.layout.specs.Tree.{ActionIndex, Entry, entry}
use Rattle.layout.specs.Read.{Terms, Place, ahead, got, if_whole, if_within, tested, read_u16, read_label, read_entries}
use Rattle.layout.specs.Write.{Position, position, event_if, labels_at, Event, label_at, branch_at, payload_too_long, body_too_long, later, record_if, lookup, distance_bits}
use Rattle.layout.specs.Judge.{distance, is_near, far_unless, judged}
use Rattle.laws.specs.ReadFits.{Good, fine, refused}
use Rattle.laws.proofs.ReadFits.{good_then, good_got}
use Rattle.labels.specs.Table.{slot_of, record_of, record_at, home_of, homed, unnumbered, record_in, record_all, Tables, tables, recorded, Cleared, kept, Keeps, TableHolds, HomesHold, Slots, is_far, entries_at, Rising, end, next}
use Rattle.labels.proofs.Distances.{far_unless_near}

-- ---- the table

module _ (keep : Position → ℕ) where
  -- recording changes no length
  pub length-record_all : (es : List Event) (tab : List ℕ) → length (record_all keep es tab) ≡ length tab
  unfolding record_all
  length-record_all [] tab = refl
  length-record_all (label_at l s ∷ es) tab = length-record_all es (set tab l (keep s)) ∙ length-set tab l (keep s)
  length-record_all (branch_at l s ∷ es) tab = length-record_all es tab
  length-record_all (payload_too_long n s ∷ es) tab = length-record_all es tab
  length-record_all (body_too_long n s ∷ es) tab = length-record_all es tab

  -- events are recorded one after the other
  record_all-append : (xs ys : List Event) (tab : List ℕ) → record_all keep (xs ++ ys) tab ≡ record_all keep ys (record_all keep xs tab)
  unfolding record_all
  record_all-append [] ys tab = refl
  record_all-append (label_at l s ∷ xs) ys tab = record_all-append xs ys (set tab l (keep s))
  record_all-append (branch_at l s ∷ xs) ys tab = record_all-append xs ys tab
  record_all-append (payload_too_long n s ∷ xs) ys tab = record_all-append xs ys tab
  record_all-append (body_too_long n s ∷ xs) ys tab = record_all-append xs ys tab

  -- what a slot holds after a label's last record, if there was one
  unfoldable slot_after : ℕ → Option Position → ℕ
  slot_after old none = old
  slot_after old (some s) = keep s

  -- a label's slot, in a table that may hold records already
  slot_holds : (l : ℕ) (es : List Event) (tab : List ℕ) → l < length tab → get_or (record_all keep es tab) l 0 ≡ slot_after (get_or tab l 0) (lookup l es)
  unfolding record_all lookup later record_if slot_after
  slot_holds l [] tab h = refl
  slot_holds l (label_at k s ∷ es) tab h =
      slot_holds l es (set tab k (keep s)) (rw (length-set tab k (keep s)) h) ∙ go (lookup l es) (eqb l k) refl
    where
      go : (o : Option Position) (t : Bool) → eqb l k ≡ t → slot_after (get_or (set tab k (keep s)) l 0) o ≡ slot_after (get_or tab l 0) (later (record_if t s) o)
      go (some u) t e = refl
      go none true e = rw (← eqb-true l k e) (get_or-set_same tab l (keep s) 0 h)
      go none false e = get_or-set_other tab k l (keep s) 0 (eqb-false l k e)
  slot_holds l (branch_at k s ∷ es) tab h = slot_holds l es tab h
  slot_holds l (payload_too_long n s ∷ es) tab h = slot_holds l es tab h
  slot_holds l (body_too_long n s ∷ es) tab h = slot_holds l es tab h

-- so are they in both tables
pub recorded_append : (xs ys : List Event) (t : Tables) → recorded (xs ++ ys) t ≡ recorded ys (recorded xs t)
unfolding recorded
recorded_append xs ys t = ap₂ tables (record_all-append slot_of xs ys t.positions) (record_all-append home_of xs ys t.homes)

-- a table that held nothing holds what it keeps of each label's last record in the end
pub keeps : (keep : Position → ℕ) (es : List Event) (tab new : List ℕ) → Cleared tab → new ≡ record_all keep es tab → Keeps keep new es
unfolding kept slot_after
keeps keep es tab new z e = rw e (record { holds = λ l h. held l (rw (← length-record_all keep es tab) h) })
  where
    go : (o : Option Position) {n : ℕ} → n ≡ 0 → slot_after keep n o ≡ kept keep o
    go none h = h
    go (some s) h = refl

    held : (l : ℕ) → l < length tab → get_or (record_all keep es tab) l 0 ≡ kept keep (lookup l es)
    held l h = slot_holds keep l es tab h ∙ go (lookup l es) (z l h)

-- a table has a slot for each label as long as its length is kept
pub slots_kept : {terms : Terms} {tab new : List ℕ} → Slots terms tab → length new ≡ length tab → Slots terms new
slots_kept h e = record { few = h.few; enough = omega (arith, h.enough, e) }

-- a slot gives its record back, but for its home and its number
pub record_of_slot : (o : Option Position) → record_of (kept slot_of o) ≡ homed 0 o
unfolding record_of kept homed
record_of_slot none = refl
record_of_slot (some s) = rw add-one

-- and a table's record of a label is the events', but for its home
pub table_record : (tab : List ℕ) (es : List Event) → TableHolds tab es → (l : ℕ) → l < length tab → record_at tab l ≡ homed 0 (lookup l es)
table_record tab es h l k = ap record_of (h.holds l k) ∙ record_of_slot (lookup l es)

-- the tables do not keep a record's number
pub any_number : (es : List Entry) (i : ActionIndex) (at home k : ℕ) (t : Tables) → recorded (labels_at es i (position at home k)) t ≡ recorded (labels_at es i (position at home 0)) t
unfolding labels_at event_if recorded record_all
any_number [] i at home k t = refl
any_number (entry l j ∷ es) i at home k t = go (eqb i.index j.index) (λ t. any_number es i at home k t)
  where
    go : (z : Bool) → ((t : Tables) → recorded (labels_at es i (position at home k)) t ≡ recorded (labels_at es i (position at home 0)) t)
        → recorded (event_if z (label_at l (position at home k)) ++ labels_at es i (position at home k)) t ≡ recorded (event_if z (label_at l (position at home 0)) ++ labels_at es i (position at home 0)) t
    go true h = h (tables (set t.positions l (at + 1)) (set t.homes l home))
    go false h = h t

-- with the table of homes it is the events' record, but for its number
pub both_record : (tab homes : List ℕ) (es : List Event) → TableHolds tab es → HomesHold homes es → (l : ℕ) → l < length tab → l < length homes
    → record_in tab homes l ≡ unnumbered (lookup l es)
unfolding homed kept unnumbered
both_record tab homes es h g l k m = ap (homed (get_or homes l 0)) (table_record tab es h l k) ∙ go (lookup l es) refl
  where
    go : (o : Option Position) → lookup l es ≡ o → homed (get_or homes l 0) (homed 0 o) ≡ unnumbered o
    go none e = refl
    go (some s) e = rw (g.holds l m ∙ ap (kept home_of) e)

-- ---- what does not ask for a record's home

module _ (home : ℕ) where
  pub homed_judged : (o : Option Position) (after k : ℕ) → judged (homed home o) after k ≡ judged o after k
  unfolding homed judged distance
  homed_judged none after k = refl
  homed_judged (some s) after k = refl

  pub homed_bits : (o : Option Position) (after : ℕ) → distance_bits (homed home o) after ≡ distance_bits o after
  unfolding homed distance_bits
  homed_bits none after = refl
  homed_bits (some s) after = refl

-- a branch is judged by its slot, its distance's bits and what is said of them
pub judged_by : {bits : ℕ} {far : Bool} (slot after n : ℕ) → slot < 9223372036854775808 → after < 9223372036854775808 → far ≡ is_far bits
    → bits ≡ bits64 (distance (record_of slot) after)
    → judged (record_of slot) after n ≡ far_unless (not far) (distance (record_of slot) after) n
unfolding record_of distance judged far_unless is_near
judged_by zero after n h k f e = rw (f, e, far_unless_near 0 0 (omega arith) (omega arith))
judged_by (suc m) after n h k f e = rw (f, e, far_unless_near m after (omega arith) k, not-not (is_near m after))

-- ---- the entries

-- n entries at a place were read: they are what stands there, and their labels rise from `least` on
pub record EntriesRead (bound : ℕ) (b : List ℕ) (n least : ℕ) (p : Place) (es : List Entry) (q : Place) : Type 0 where
  pub same : es ≡ entries_at b n p.at
  pub ends : q.at ≡ p.at + 4 * n
  pub rising : Rising bound least es

module _ (k : Terms) (b : List ℕ) where
  -- the u16 at p, and the place after it
  abbrev pub Word : Place → ℕ → Place → Type 0
  Word p n q = (n ≡ u16_at b p.at) × (q.at ≡ p.at + 2)

  -- what read_u16 gives
  u16_is : (p : Place) → p.at ≤ length b → Good (length b) (Word p) (read_u16 b p)
  unfolding read_u16 if_whole
  u16_is p h = go (leb (p.at + 2) (length b)) refl
    where
      go : (t : Bool) → leb (p.at + 2) (length b) ≡ t → Good (length b) (Word p) (if_whole t p (u16_at b p.at) (ahead 2 p))
      go true e = fine (refl, refl) (leb-true _ _ e)
      go false e = refused h

  -- the label at p, in its range and order, and the place after it
  abbrev pub Label : ℕ → Place → ℕ → Place → Type 0
  Label least p l q = Word p l q × (least ≤ l) × (l < k.label_bound)

  -- what read_label gives
  pub label_is : (least : ℕ) (p : Place) → p.at ≤ length b → Good (length b) (Label least p) (read_label k b least p)
  unfolding read_label tested if_within
  label_is least p h = good_then (u16_is p h) (λ l q g m. go l q g m (ltb l k.label_bound) (leb least l) refl refl)
    where
      go : (l : ℕ) (q : Place) → Word p l q → q.at ≤ length b → (s t : Bool) → ltb l k.label_bound ≡ s → leb least l ≡ t
          → Good (length b) (Label least p) (if_within (s && t) p l q)
      go l q g m true true d e = fine (g, leb-true _ _ e, ltb-true _ _ d) m
      go l q g m true false d e = refused h
      go l q g m false t d e = refused h

  -- what read_entries gives, from any least label on
  entries_good : (n least : ℕ) (p : Place) → p.at ≤ length b → Good (length b) (EntriesRead k.label_bound b n least p) (read_entries k b n least p)
  unfolding read_entries entries_at
  entries_good zero least p h = fine {a = []} {p = p} (record { same = refl; ends = omega arith; rising = end }) h
  entries_good (suc n) least p h =
      good_then (label_is least p h) (λ l q c m. good_then (u16_is q m) (λ i o d t. good_then (entries_good n (suc l) o t)
      (λ es r e u. fine (record {
        same = both l i q o es c.0 d e.same;
        ends = omega (arith, c.0.1, d.1, e.ends);
        rising = next c.1 c.2 e.rising;
      }) u)))
    where
      both : (l i : ℕ) (q o : Place) (es : List Entry) → Word p l q → Word q i o → es ≡ entries_at b n o.at
          → entry l (record { index = i }) ∷ es ≡ entries_at b (suc n) p.at
      both l i q o es c d e =
          let f : o.at ≡ p.at + 4 = omega (arith, c.1, d.1) in
          rw (c.0, d.0, c.1, e, f)

  -- a body's entries that were read are what stands at p, and end within b
  pub entries_read : (n : ℕ) (p : Place) (es : List Entry) (q : Place) → p.at ≤ length b → read_entries k b n 0 p ≡ got es q
      → EntriesRead k.label_bound b n 0 p es q × (q.at ≤ length b)
  entries_read n p es q h e = good_got es q (entries_good n 0 p h) e
