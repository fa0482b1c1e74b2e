-- Laws of the entry that is due next, and of the loop that records. Assumes nothing.
use mathlib.Core.Path.{◌≡◌, refl, sym, ap, ◌∙◌}
use mathlib.Core.Bool.{Bool, true, false}
use mathlib.Core.List.{List, [], ◌∷◌, ◌++◌}
use mathlib.Core.Logic.{⊎_elim}
use Prim.Native.Nat.{ℕ, zero, suc, min, ◌+◌, ◌-◌, ◌*◌, ◌/◌, ◌%◌, ◌≤◌, ◌<◌}
use native.Mathlib.Nat.{eq-or-lt_of_le}
use native.Mathlib.Omega.{arith}
use borrow.Author.Tests.{le-ltb, lt-ltb, ltb-true, ltb-false, eq-eqb, ne_eqb, eqb-true, eqb-false}
use lib.Dec.{ltb, eqb}
use lib.ListN.{length, get_or, set, take, drop, get_or-append, length-append, length-set, length-take, length-drop}
use Rattle.std.proofs.lemmas.List.{get_or-take, get_or-drop, get_or-append-add}
use Rattle.std.specs.Prelude.{Option, Some, None}
use Rattle.std.specs.Borrow.{Bor}
use Rattle.std.specs.Slice.Iter.{chunks_exact_rest, chunks_exact_size, chunks_exact_steps}
use Rattle.std.specs.declared.slice.ChunksExact.{ChunksExact}
use Rattle.std.proofs.lemmas.Option.{none-some}
use Rattle.layout.specs.Lists.{pick}
use Rattle.layout.specs.Numbers.{u16_at, u32_at}
use Rattle.layout.specs.Tree.{ActionIndex, Entry, entry}
use Rattle.layout.specs.Write.{Position, Event, label_at, event_if, labels_at}
use Rattle.labels.specs.declared.EntryNumber.{EntryNumber}
use Rattle.labels.specs.Table.{record_all, Tables, tables, recorded, entries_at, entries_in, key, none_left, unless_under, due, entry_of, Rising, end, next, Recordable, Recorded}

-- ---- one entry more

-- the entries whose numbers are not under `from`
unfoldable pub rest : ℕ → List Entry → List Entry
rest from [] = []
rest from (e ∷ es) = pick (ltb (key e) from) (rest from es) (e ∷ rest from es)

-- the first of several entries is under `from` and counts for nothing, or it is one of the rest
data Turn (e : Entry) (es : List Entry) (from : ℕ) : Type 0 where
  under : key e < from → due (e ∷ es) from ≡ min none_left (due es from) → rest from (e ∷ es) ≡ rest from es → Turn e es from
  over : from ≤ key e → due (e ∷ es) from ≡ min (key e) (due es from) → rest from (e ∷ es) ≡ e ∷ rest from es → Turn e es from

turn : (e : Entry) (es : List Entry) (from : ℕ) → Turn e es from
unfolding due unless_under rest pick
turn e es from = go (ltb (key e) from) refl
  where
    go : (t : Bool) → ltb (key e) from ≡ t → Turn e es from
    go true h = under (ltb-true _ _ h) (rw h) (rw h)
    go false h = over (ltb-false _ _ h) (rw h) (rw h)

-- ---- the entry that is due

-- at most "no entry is left"
pub due_most : (es : List Entry) (from : ℕ) → due es from ≤ none_left
unfolding due
due_most [] from = omega arith
due_most (e ∷ es) from = omega (arith, due_most es from)

-- at least `from`
pub due_least : (es : List Entry) (from : ℕ) → from ≤ none_left → from ≤ due es from
unfolding due
due_least [] from h = h
due_least (e ∷ es) from h = go (turn e es from) (due_least es from h)
  where
    go : Turn e es from → from ≤ due es from → from ≤ due (e ∷ es) from
    go (under a d r) l = omega arith
    go (over a d r) l = omega arith

-- it does not fall as `from` rises
due_rises : (es : List Entry) (from g : ℕ) → from ≤ g → due es from ≤ due es g
unfolding due
due_rises [] from g h = omega arith
due_rises (e ∷ es) from g h = go (turn e es from) (turn e es g) (due_rises es from g h)
  where
    go : Turn e es from → Turn e es g → due es from ≤ due es g → due (e ∷ es) from ≤ due (e ∷ es) g
    go (under a d r) (under b f s) l = omega arith
    go (under a d r) (over b f s) l = omega arith
    go (over a d r) (under b f s) l = omega (arith, due_most es from)
    go (over a d r) (over b f s) l = omega arith

-- from any number up to it, it is the same
due_same : (es : List Entry) (from g : ℕ) → from ≤ g → g ≤ due es from → due es g ≡ due es from
unfolding due
due_same [] from g h k = refl
due_same (e ∷ es) from g h k = go (turn e es from) (turn e es g) (λ l. due_same es from g h l)
  where
    go : Turn e es from → Turn e es g → (g ≤ due es from → due es g ≡ due es from) → due (e ∷ es) g ≡ due (e ∷ es) from
    go (under a d r) (under b f s) again = omega (arith, again (omega arith))
    go (under a d r) (over b f s) again = absurd (omega arith)
    go (over a d r) (under b f s) again = absurd (omega arith)
    go (over a d r) (over b f s) again = omega (arith, again (omega arith))

-- ---- the labels with index i among the rest

module _ (l : ℕ) (j : ActionIndex) (es : List Entry) (i : ActionIndex) (s : Position) where
  -- an entry with index i is recorded first
  labels_hit : i.index ≡ j.index → labels_at (entry l j ∷ es) i s ≡ label_at l s ∷ labels_at es i s
  unfolding labels_at event_if
  labels_hit h = rw (eq-eqb i.index j.index h)

  -- an entry with another index is not recorded
  labels_other : (i.index ≡ j.index → ⊥) → labels_at (entry l j ∷ es) i s ≡ labels_at es i s
  unfolding labels_at event_if
  labels_other h = rw (ne_eqb i.index j.index h)

  -- an entry in front changes both alike
  labels_more : (fs : List Entry) → labels_at es i s ≡ labels_at fs i s → labels_at (entry l j ∷ es) i s ≡ labels_at (entry l j ∷ fs) i s
  unfolding labels_at
  labels_more fs h = rw h

-- what is left to record from `from` on
abbrev pub left : ActionIndex → Position → ℕ → List Entry → List Event
left i s from es = labels_at (rest from es) i s

-- label numbers are under a bound, and 65535 is none of them
module _ {bound : ℕ} (b : bound < 65536) where
  -- the label of what is due is one of theirs
  due_label : {a n : ℕ} (es : List Entry) (from : ℕ) → Rising bound a es → n ≡ due es from → n < none_left → (a ≤ n % 65536) × (n % 65536 < bound)
  unfolding due key
  due_label [] from end e h = absurd (omega arith)
  due_label {a} {n} (entry l j ∷ es) from (next u v r) e h = go (turn (entry l j) es from) (λ f. due_label es from r f h)
    where
      go : Turn (entry l j) es from → (n ≡ due es from → (l < n % 65536) × (n % 65536 < bound)) → (a ≤ n % 65536) × (n % 65536 < bound)
      go (under x d p) again = omega (arith, again (omega arith))
      go (over x d p) again =
          ⊎_elim (λ y. omega arith) (λ y. omega (arith, again (omega arith))) (eq-or-lt_of_le {n = n} {m = key (entry l j)} (omega arith))

  -- where none is due before n, and n is no entry's number, those not under `from` are those after n
  rest_after : {a n : ℕ} (es : List Entry) (from : ℕ) → Rising bound a es → n % 65536 < a → from ≤ n → n ≤ due es from → rest from es ≡ rest (n + 1) es
  unfolding rest key
  rest_after [] from end k f h = refl
  rest_after {a} {n} (entry l j ∷ es) from (next u v r) k f h =
      go (turn (entry l j) es from) (turn (entry l j) es (n + 1)) (λ g. rest_after es from r (omega arith) f g)
    where
      go : Turn (entry l j) es from → Turn (entry l j) es (n + 1) → (n ≤ due es from → rest from es ≡ rest (n + 1) es)
          → rest from (entry l j ∷ es) ≡ rest (n + 1) (entry l j ∷ es)
      go (under x d p) (under y e q) again = p ∙ again (omega arith) ∙ sym q
      go (under x d p) (over y e q) again = absurd (omega arith)
      go (over x d p) (under y e q) again = absurd (omega arith)
      go (over x d p) (over y e q) again = p ∙ ap (λ fs. entry l j ∷ fs) (again (omega arith)) ∙ sym q

  module _ (i : ActionIndex) (s : Position) where
    -- at first all labels with index i are left
    left_all : {a : ℕ} (es : List Entry) → Rising bound a es → left i s (65536 * i.index) es ≡ labels_at es i s
    unfolding rest key
    left_all [] end = refl
    left_all (entry l j ∷ es) (next u v r) = go (turn (entry l j) es (65536 * i.index)) (left_all es r)
      where
        go : Turn (entry l j) es (65536 * i.index) → left i s (65536 * i.index) es ≡ labels_at es i s
            → left i s (65536 * i.index) (entry l j ∷ es) ≡ labels_at (entry l j ∷ es) i s
        go (under x d p) again = rw p (again ∙ sym (labels_other l j es i s (λ y. omega arith)))
        go (over x d p) again = rw p (labels_more l j _ i s es again)

    -- none are left where what is due has a greater index
    left_none : {a : ℕ} (es : List Entry) (from : ℕ) → Rising bound a es → 65536 * (i.index + 1) ≤ due es from + 1 → left i s from es ≡ []
    unfolding rest labels_at key
    left_none [] from end h = refl
    left_none (entry l j ∷ es) from (next u v r) h = go (turn (entry l j) es from) (λ g. left_none es from r g)
      where
        go : Turn (entry l j) es from → (65536 * (i.index + 1) ≤ due es from + 1 → left i s from es ≡ []) → left i s from (entry l j ∷ es) ≡ []
        go (under x d p) again = ap (λ fs. labels_at fs i s) p ∙ again (omega arith)
        go (over x d p) again = ap (λ fs. labels_at fs i s) p ∙ labels_other l j (rest from es) i s (λ y. omega arith) ∙ again (omega arith)

    -- the first that is left is the one that is due, and the others come after it
    left_due : {a : ℕ} (es : List Entry) (from n : ℕ) → Rising bound a es → from ≤ none_left → n ≡ due es from → n < none_left → n / 65536 ≡ i.index
        → left i s from es ≡ label_at (n % 65536) s ∷ left i s (n + 1) es
    unfolding due key
    left_due [] from n end t e h m = absurd (omega arith)
    left_due (entry l j ∷ es) from n (next u v r) t e h m =
        go (turn (entry l j) es from) (turn (entry l j) es (n + 1)) (λ f. left_due es from n r t f h m)
      where
        go : Turn (entry l j) es from → Turn (entry l j) es (n + 1) → (n ≡ due es from → left i s from es ≡ label_at (n % 65536) s ∷ left i s (n + 1) es)
            → left i s from (entry l j ∷ es) ≡ label_at (n % 65536) s ∷ left i s (n + 1) (entry l j ∷ es)
        go (under x d p) (under y f q) again = rw (p, q) (again (omega arith))
        go (under x d p) (over y f q) again = absurd (omega (arith, due_least es from t))
        go (over x d p) (under y f q) again =
            let z : l ≡ n % 65536 = omega arith in
            let c : rest from es ≡ rest (n + 1) es = rest_after es from r (omega arith) (omega arith) (omega arith) in
            rw (p, q, ← c, ← z) (labels_hit l j (rest from es) i s (omega arith))
        go (over x d p) (over y f q) again =
            let c : n ≡ due es from = omega arith in
            let o : i.index ≡ j.index → ⊥ = λ z. omega (arith, due_label es from r c h) in
            rw (p, q, labels_other l j (rest from es) i s o, labels_other l j (rest (n + 1) es) i s o) (again c)

-- ---- the entries of a part of a list are those at its place

module _ (b : List ℕ) (at m : ℕ) where
  u16_part : (p q : ℕ) → q ≡ at + p → p + 2 ≤ m → u16_at (take m (drop at b)) p ≡ u16_at b q
  u16_part p q e h =
      let next : at + (p + 1) ≡ at + p + 1 = omega arith in
      rw (e, get_or-take m (drop at b) p 0 (omega arith), get_or-take m (drop at b) (p + 1) 0 (omega arith), get_or-drop at b p 0, get_or-drop at b (p + 1) 0, next) refl

  entries_from : (n p q : ℕ) → q ≡ at + p → p + 4 * n ≤ m → entries_at (take m (drop at b)) n p ≡ entries_at b n q
  unfolding entries_at
  entries_from zero p q e h = refl
  entries_from (suc n) p q e h =
      let label = u16_part p q e (omega arith) in
      let index = u16_part (p + 2) (q + 2) (omega arith) (omega arith) in
      rw (label, index, entries_from n (p + 4) (q + 4) (omega arith) (omega arith)) refl

pub entries_part : (b : List ℕ) (n at : ℕ) → at + 4 * n ≤ length b → entries_in (take (4 * n) (drop at b)) ≡ entries_at b n at
entries_part b n at h =
    let count : length (take (4 * n) (drop at b)) / 4 ≡ n = omega (arith, length-take (4 * n) (drop at b), length-drop at b) in
    rw count (entries_from b at (4 * n) n 0 at (omega arith) (omega arith))

-- ---- the loop that reads entries

-- four bytes are an entry
module _ (x r : List ℕ) (four : length x ≡ 4) where
  u16_first : (p : ℕ) → p + 2 ≤ 4 → u16_at (x ++ r) p ≡ u16_at x p
  u16_first p h = rw (get_or-append x r 0 p (omega arith), get_or-append x r 0 (p + 1) (omega arith)) refl

  at_rest : (p q : ℕ) → q ≡ 4 + p → get_or (x ++ r) q 0 ≡ get_or r p 0
  at_rest p q e =
      let behind : q ≡ length x + p = omega (arith, four, e) in
      rw behind (get_or-append-add x r p 0)

  entries_rest : (n p q : ℕ) → q ≡ 4 + p → entries_at (x ++ r) n q ≡ entries_at r n p
  unfolding entries_at
  entries_rest zero p q e = refl
  entries_rest (suc n) p q e = rw (at_rest p q e, at_rest (p + 1) (q + 1) (omega arith), at_rest (p + 2) (q + 2) (omega arith), at_rest (p + 2 + 1) (q + 2 + 1) (omega arith), entries_rest n (p + 4) (q + 4) (omega arith)) refl

  entries_next : entries_in (x ++ r) ≡ entry (u16_at x 0) (record { index = u16_at x 2 }) ∷ entries_in r
  entries_next =
      let count : length (x ++ r) / 4 ≡ suc (length r / 4) = omega (arith, length-append x r) in
      rw count (unfold entries_at in rw (u16_first 0 (omega arith), u16_first 2 (omega arith), entries_rest (length r / 4) 0 4 refl) refl)

  -- a turn: e is read, y is what counts of it, and `less` is the lesser of y and the least so far
  pub due_more : {e y less : ℕ} (from least : ℕ) → e ≡ u32_at x 0 → y ≡ unless_under from e → less ≡ min y least → min less (due (entries_in r) from) ≡ min least (due (entries_in (x ++ r)) from)
  due_more from least d f g =
      let counted = f ∙ ap (unless_under from) d in
      rw entries_next (omega (arith, counted, first))
    where
      first : due (entry (u16_at x 0) (record { index = u16_at x 2 }) ∷ entries_in r) from ≡ min (unless_under from (u32_at x 0)) (due (entries_in r) from)
      first = unfold due key in refl

-- fewer are none
pub due_end : (r : List ℕ) (from : ℕ) → length r < 4 → due (entries_in r) from ≡ none_left
unfolding due entries_at
due_end r from h =
    let none : length r / 4 ≡ 0 = omega arith in
    rw none refl

-- the lesser of `least` and what is due among the entries left is what is due among all
pub record Counting (entries : List ℕ) (from least : ℕ) (left : ChunksExact ℕ) : Type 0 where
  pub size : chunks_exact_size left ≡ 4
  pub both : min least (due (entries_in (chunks_exact_rest left)) from) ≡ due (entries_in entries) from
  pub most : least ≤ none_left

module _ {entries : List ℕ} {from least : ℕ} {left : ChunksExact ℕ} (at : Counting entries from least left) where
  pub counting : (x : Bor (List ℕ)) {e y less : ℕ} {left' : ChunksExact ℕ} → chunks_exact_steps left (Some x) left' → e ≡ u32_at x.now 0 → y ≡ unless_under from e → less ≡ min y least
      → Counting entries from less left'
  counting x {left' = left'} h d f g =
      record {
        size = h.0 ∙ at.size;
        both = due_more x.now (chunks_exact_rest left') (h.1.1 ∙ at.size) from least d f g ∙ ap (λ (r : List ℕ). min least (due (entries_in r) from)) (sym h.1.0) ∙ at.both;
        most = omega (arith, g, at.most);
      }

  pub counted : {left' : ChunksExact ℕ} → chunks_exact_steps left None left' → least ≡ due (entries_in entries) from
  counted h =
      let end = due_end (chunks_exact_rest left) from (omega (arith, h.1.0, at.size)) in
      omega (arith, end, at.both, at.most)

module _ (from k : ℕ) where
  -- what counts of a number under `from`, and of another
  pub unless_under_lem : k < from → none_left ≡ unless_under from k
  unfolding unless_under pick
  unless_under_lem h = rw (lt-ltb k from h)

  pub unless_over : from ≤ k → k ≡ unless_under from k
  unfolding unless_under pick
  unless_over h = rw (le-ltb k from h)

-- ---- a slot past the end of a table

pub set_past : (tab : List ℕ) (l n : ℕ) → length tab ≤ l → tab ≡ set tab l n
set_past [] l n h = refl
set_past (x ∷ tab) zero n h = absurd (omega arith)
set_past (x ∷ tab) (suc l) n h = ap (λ xs. x ∷ xs) (set_past tab l n (omega arith))

-- ---- an entry, or none

-- its number, or "no entry is left"
unfoldable pub number_of : Option EntryNumber → ℕ
number_of None = none_left
number_of (Some e) = e.0

pub none_is : (n : ℕ) → n ≡ none_left → None ≡ entry_of n
unfolding entry_of pick
none_is n h = rw (eq-eqb n none_left h)

pub some_is : (k n : ℕ) → k ≡ n → (k ≡ none_left → ⊥) → Some (record { 0 = k }) ≡ entry_of n
unfolding entry_of pick
some_is k n e h = rw (← e, ne_eqb k none_left h) refl

number_is : (n : ℕ) → number_of (entry_of n) ≡ n
unfolding entry_of pick number_of
number_is n = go (eqb n none_left) refl
  where
    go : (t : Bool) → eqb n none_left ≡ t → number_of (pick t None (Some (record { 0 = n }))) ≡ n
    go true h = sym (eqb-true n none_left h)
    go false h = refl

some_less : {e : EntryNumber} (n : ℕ) → n ≤ none_left → Some e ≡ entry_of n → n < none_left
unfolding entry_of pick
some_less {e} n m h = go (eqb n none_left) refl
  where
    go : (t : Bool) → eqb n none_left ≡ t → n < none_left
    go true f =
        let z : ◌≡◌ {A = Option EntryNumber} (Some e) None = h ∙ rw f in
        absurd (none-some e (sym z))
    go false f = omega (arith, eqb-false n none_left f)

-- ---- the loop that records

-- where it stands: `next` is due from `from` on, and what is left makes of the tables what all labels make of the old ones
pub record Standing (es : List Entry) (first : Option EntryNumber) (i : ActionIndex) (s : Position) (old now : Tables) (next : Option EntryNumber) : Type 0 where
  pub ready : Recordable es first i s old.positions
  pub from : ℕ
  pub low : 65536 * i.index ≤ from
  pub high : from ≤ 65536 * (i.index + 1)
  pub most : from ≤ none_left
  pub is_due : next ≡ entry_of (due es from)
  pub to_do : recorded (left i s from es) now ≡ recorded (labels_at es i s) old
  pub full : length now.positions ≡ length old.positions
  pub homes_full : length now.homes ≡ length old.homes

module _ {es : List Entry} {first : Option EntryNumber} {i : ActionIndex} {s : Position} {old : Tables} where
  -- before the first turn
  pub start : Recordable es first i s old.positions → Standing es first i s old old first
  start h =
      record {
        ready = h;
        from = 65536 * i.index;
        low = omega arith;
        high = omega arith;
        most = omega (arith, h.index_fits);
        is_due = h.is_due;
        to_do = ap (λ xs. recorded xs old) (left_all h.slots.few i s es h.rising);
        full = refl;
        homes_full = refl;
      }

  module _ {now : Tables} {next : Option EntryNumber} (at : Standing es first i s old now next) where
    -- the number of the entry that is due
    due_is : number_of next ≡ due es at.from
    due_is = ap number_of at.is_due ∙ number_is (due es at.from)

    -- where what is due has a greater index, the tables are done
    nothing_left : 65536 * (i.index + 1) ≤ number_of next + 1 → now ≡ recorded (labels_at es i s) old
    unfolding recorded record_all
    nothing_left h =
        let none_left = left_none at.ready.slots.few i s es at.from at.ready.rising (omega (arith, due_is)) in
        ap (λ xs. recorded xs now) (sym none_left) ∙ at.to_do

    -- the loop ends where no entry is left
    pub none_due : next ≡ None → Recorded es i s old now next
    unfolding number_of
    none_due h =
        let g : ℕ = 65536 * (i.index + 1) in
        let n : none_left ≡ due es at.from = sym (ap number_of h) ∙ due_is in
        let m : due es at.from ≡ due es g = omega (arith, due_most es g, due_rises es at.from g at.high) in
        record { table = nothing_left (omega (arith, at.ready.index_fits, n, due_is)); is_due = at.is_due ∙ ap entry_of m }

    module _ {e : EntryNumber} (is : next ≡ Some e) where
      entry_is : e.0 ≡ due es at.from
      unfolding number_of
      entry_is = sym (ap number_of is) ∙ due_is

      -- its number is less than "no entry is left"
      pub some_due : e.0 < none_left
      some_due = omega (arith, entry_is, some_less (due es at.from) (due_most es at.from) (sym is ∙ at.is_due))

      -- its label has a slot
      pub within : e.0 % 65536 < length now.positions
      within = omega (arith, at.full, at.ready.slots.enough, due_label at.ready.slots.few es at.from at.ready.rising entry_is some_due)

      -- what is due after it is greater
      pub rises : {later : Option EntryNumber} → later ≡ entry_of (due es (e.0 + 1)) → none_left - number_of later < none_left - number_of next
      unfolding number_of
      rises d = omega (arith, some_due, ap number_of is, ap number_of d, number_is (due es (e.0 + 1)), due_least es (e.0 + 1) (omega (arith, some_due)))

      -- a turn: it has index i, and is recorded
      pub more : {later : Option EntryNumber} → e.0 / 65536 ≡ i.index → later ≡ entry_of (due es (e.0 + 1))
          → Standing es first i s old (tables (set now.positions (e.0 % 65536) (s.at + 1)) (set now.homes (e.0 % 65536) s.home)) later
      unfolding recorded record_all
      more h d =
          let first-left = left_due at.ready.slots.few i s es at.from e.0 at.ready.rising at.most entry_is some_due h in
          record {
            ready = at.ready;
            from = e.0 + 1;
            low = omega arith;
            high = omega arith;
            most = omega (arith, some_due);
            is_due = d;
            to_do = ap (λ xs. recorded xs now) (sym first-left) ∙ at.to_do;
            full = length-set now.positions (e.0 % 65536) (s.at + 1) ∙ at.full;
            homes_full = length-set now.homes (e.0 % 65536) s.home ∙ at.homes_full;
          }

      -- the loop ends where it has another index, which is greater
      pub later_due : (e.0 / 65536 ≡ i.index → ⊥) → Recorded es i s old now next
      unfolding number_of
      later_due h =
          let g : ℕ = 65536 * (i.index + 1) in
          let l : g ≤ e.0 = omega (arith, at.low, entry_is, due_least es at.from at.most) in
          let m : due es g ≡ due es at.from = due_same es at.from g at.high (omega (arith, entry_is)) in
          record { table = nothing_left (omega (arith, l, ap number_of is)); is_due = at.is_due ∙ ap entry_of (sym m) }
