-- An i64 holds the value of every answer: its lengths, distances and places are bounded by the bytes of the sheet, with the words of
-- the book by their share. Assumes nothing.
use Rattle.std.specs.Prelude.{◌≡◌, refl, ℕ, suc, ◌+◌, ◌-◌, ◌*◌, ◌≤◌, ◌<◌, Bool, ◌&&◌, drop, pos, leb, ltb, eqb}
use Rattle.std.proofs.Common.{sym, subst, arith, ltb-true, ltb-false}
use Rattle.std.proofs.Math.Bool.{true, false, not}
use Rattle.std.proofs.Math.Option.{Option, none, some}
use mathlib.Core.List.{List, [], ◌∷◌}
use Rattle.std.proofs.Math.ListN.{length}
use Rattle.std.proofs.Math.IntN.{sub_ℕ}
use Rattle.layout.specs.Answers.{Refusal, NeverRecorded, StrayBranch, refusal_value, Answer, value, length_of}
use Rattle.layout.specs.Tree.{Actions, ActionsOf}
use Rattle.layout.specs.Read.{Text, Terms, deepest, Read}
use Rattle.layout.specs.Strings.{map_body}
use Rattle.layout.specs.Write.{body_size, Position, block_start, Event, label_at, branch_at, payload_too_long, body_too_long, events, lookup, block_bytes, block_size}
use Rattle.layout.specs.Judge.{too_long, distance, is_near, far_unless, judged, or_else, Mode, refusal_if, barred, judged_in, first_refused, bad_by, judge}
use Rattle.layout.specs.Cut.{Edition, Cut, main, uncut, sheet_limit, trailer_distance, trailer_edition, is_marked, cut_if, cut_at, cut_if_trailer, cut_if_short, cut}
use Rattle.layout.specs.Book.{book_of}
use Rattle.layout.specs.Pack.{unless, if_room, pack_tree, edition_terms, spelling, pack_read, pack_by, pack_cut, pack}
use Rattle.layout.specs.Step.{step}
use Rattle.layout.specs.Stepping.{AtMost, made, unclean}
use Rattle.layout.proofs.Stepping.{step_most}
use Rattle.layout.proofs.Lengths.{length_block}
use Rattle.layout.specs.Order.{IsI64, zero_up, below}
use Rattle.laws.specs.Fits.{Bytes}
use Rattle.laws.specs.ReadFits.{Good, fine, refused}
use Rattle.laws.proofs.Books.{words_short}
use Rattle.laws.proofs.Shares.{main_most}
use Rattle.laws.specs.Packed.{IsMain}
use Rattle.laws.proofs.Packed.{is_main, main_bytes}
use Rattle.laws.proofs.Within.{AllWithin, body_within, Recorded, lookup_within}
use Rattle.laws.proofs.Demands.{sub_up, sub_down}
use Rattle.laws.specs.Values.{CutHeld, Held}

or_held : (x y : Option Refusal) → Held x → Held y → Held (or_else x y)
unfolding or_else
or_held none y h k = k
or_held (some r) y h k = h

-- it holds the difference of two natural numbers that it holds
sub_held : (a b : ℕ) → a < 9223372036854775808 → b < 9223372036854775808 → IsI64 (sub_ℕ a b)
sub_held a b h k = go (ltb a b) refl
  where
    go : (t : Bool) → ltb a b ≡ t → IsI64 (sub_ℕ a b)
    go true e = subst IsI64 (sym (sub_down a b (ltb-true a b e))) (below {n = b - suc a} (omega arith))
    go false e = subst IsI64 (sym (sub_up a b (ltb-false a b e))) (zero_up {n = a - b} (omega arith))

module _ (end : ℕ) (small : end < 9223372036854775808) where
  long_held : (es : List Event) → AllWithin end es → Held (too_long es)
  unfolding too_long refusal_value
  long_held [] h = tt
  long_held (label_at l s ∷ es) h = long_held es h.1
  long_held (branch_at l s ∷ es) h = long_held es h.1
  long_held (payload_too_long n s ∷ es) h = zero_up {n = n} (omega (arith, h.0))
  long_held (body_too_long n s ∷ es) h = zero_up {n = n} (omega (arith, h.0))

  judged_held : (o : Option Position) (after k : ℕ) → Recorded end o → after ≤ end → Held (judged o after k)
  unfolding judged
  judged_held none after n h k = tt
  judged_held (some s) after n h k = go (is_near s.at after)
    where
      go : (t : Bool) → Held (far_unless t (distance (some s) after) n)
      go true = unfold far_unless in tt
      go false = unfold far_unless refusal_value distance in sub_held s.at after (omega arith) (omega arith)

  barred_held : (m : Mode) (o : Option Position) (s : Position) → s.at + 2 ≤ end → Held (barred m o s)
  unfolding barred refusal_if refusal_value
  barred_held m none s k = go m.strict
    where
      go : (t : Bool) → Held (refusal_if t (NeverRecorded s.at s.number))
      go true = zero_up {n = s.at} (omega arith)
      go false = tt
  barred_held m (some r) s k = go (m.contained && not (eqb r.home s.home))
    where
      go : (t : Bool) → Held (refusal_if t (StrayBranch s.at s.number))
      go true = zero_up {n = s.at} (omega arith)
      go false = tt

  bad_held : (m : Mode) (final : ℕ → Option Position) → ((l : ℕ) → Recorded end (final l)) → (es : List Event) → AllWithin end es → Held (bad_by m final es)
  unfolding first_refused judged_in
  bad_held m final f [] h = tt
  bad_held m final f (label_at l s ∷ es) h = bad_held m final f es h.1
  bad_held m final f (branch_at l s ∷ es) h =
      or_held (judged_in m (final l) s) (bad_by m final es)
      (or_held (barred m (final l) s) (judged (final l) (s.at + 2) s.number) (barred_held m (final l) s h.0) (judged_held (final l) (s.at + 2) s.number (f l) h.0))
      (bad_held m final f es h.1)
  bad_held m final f (payload_too_long n s ∷ es) h = bad_held m final f es h.1
  bad_held m final f (body_too_long n s ∷ es) h = bad_held m final f es h.1

-- whatever the room
tree_i64 : (m : Mode) (t : Actions) (room : ℕ) → body_size t + 1 < 9223372036854775808 → IsI64 (value length_of (pack_tree m t room))
unfolding pack_tree
tree_i64 m t room small = go (judge m t) (leb (block_size t) room) judge_held
  where
    all : AllWithin (body_size t) (events t)
    all = unfold events in body_within (body_size t) t block_start (omega arith)

    judge_held : Held (judge m t)
    judge_held =
        unfold judge in
        or_held (too_long (events t)) (bad_by m (λ l. lookup l (events t)) (events t)) (long_held (body_size t) (omega arith) (events t) all)
        (bad_held (body_size t) (omega arith) m (λ l. lookup l (events t)) (λ l. lookup_within (body_size t) l (events t) all) (events t) all)

    go : (o : Option Refusal) (z : Bool) → Held o → IsI64 (value length_of (unless o (if_room z (block_bytes t) (block_size t))))
    go (some r) z h = unfold unless value in h
    go none true h = unfold unless if_room value in zero_up {n = length (block_bytes t)} (unfold block_size in omega (arith, length_block t))
    go none false h = unfold unless if_room value refusal_value in zero_up {n = block_size t} (unfold block_size in omega arith)

cut_held : (s : List ℕ) → length s < 9223372036854775808 → CutHeld (cut s)
unfolding cut cut_if_short cut_if_trailer cut_at cut_if refusal_value
cut_held s h = short (leb (length s) sheet_limit)
  where
    marked : (z : Bool) (o : Option Edition) (n d : ℕ) → CutHeld (cut_if z o s n d)
    marked true (some i) n d = tt
    marked true none n d = zero_up {n = 0} (omega arith)
    marked false o n d = zero_up {n = 0} (omega arith)

    trailer : (y : Bool) → CutHeld (cut_if_trailer y s)
    trailer true = marked (is_marked (drop (length s - 8) s) && leb (trailer_distance (drop (length s - 8) s)) (length s - 8)) (trailer_edition (drop (length s - 8) s)) (length s - 8) (trailer_distance (drop (length s - 8) s))
    trailer false = zero_up {n = 0} (omega arith)

    short : (x : Bool) → CutHeld (cut_if_short x s)
    short true = trailer (leb 8 (length s))
    short false = zero_up {n = length s} h

-- what is read of a main body of at most 1,048,576 bytes
read_i64 : (m : Mode) (start n room : ℕ) {r : Read (ActionsOf Text ℕ)} → start + n ≤ sheet_limit
    → Good n (λ x q. body_size (map_body spelling x) ≤ 196608 * n) r → IsI64 (value length_of (pack_read m start r room))
unfolding pack_read value refusal_value
read_i64 m start n room l (fine {a} {p} h k) = tree_i64 m (map_body spelling a) room (omega (arith, h))
read_i64 m start n room l (refused {f} {s} k) = zero_up {n = start + s.at} (omega arith)

-- Every lent sheet is so short: a slice in Rust and an object in C have at most 2^63 - 1 bytes. Only answer 1 uses it, whose value is
-- the sheet's length
pub pack_i64 : (m : Mode) (s book : List ℕ) (room : ℕ) → Bytes s → Bytes book → length s < 9223372036854775808 → IsI64 (value length_of (pack m s book room))
unfolding pack pack_cut
pack_i64 m s book room small lent h = go (cut s) refl (cut_held s h)
  where
    by : (j : Edition) (start : ℕ) (b : List ℕ) (o : Option Terms) → cut s ≡ main j start b → edition_terms j (book_of book) ≡ o → IsI64 (value length_of (pack_by m o start b room))
    by j start b (some k) e f =
        let i : IsMain s j start b = is_main s j start b e in
        let bytes : Bytes b = main_bytes s j start b small e in
        unfold pack_by in read_i64 m start (length b) room (omega (arith, i.is_long, i.is_limited)) (main_most k b bytes (words_short j book k lent f) deepest)
    by j start b none e f = unfold pack_by value refusal_value in zero_up {n = 0} (omega arith)

    go : (c : Cut) → cut s ≡ c → CutHeld c → IsI64 (value length_of (pack_cut m c (book_of book) room))
    go (main j start b) e k = by j start b (edition_terms j (book_of book)) e refl
    go (uncut r) e k = unfold value in k

-- ---- the stepping check, of a byte string that is as short

pub step_i64 : (s : List ℕ) → length s < 9223372036854775808 → IsI64 (value pos (step s))
step_i64 s h = go (step_most s)
  where
    go : {a : Answer ℕ} → AtMost (length s) a → IsI64 (value pos a)
    go (made {k} l) = unfold value in zero_up {n = k} (omega arith)
    go (unclean {p} l) = unfold value refusal_value in zero_up {n = p} (omega arith)
