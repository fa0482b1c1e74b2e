-- What a call of the packer promises, over `Outcome m s book o n v i after`: a mode m, a sheet s, a book, an output that held o,
-- the number n, the value v, the action number i, and what the output holds afterwards. That any two calls on one m, s, book and o
-- tell and leave the same is `same_outcome`, in layout's Order. Assumes nothing.
use Rattle.std.specs.Prelude.{◌≡◌, true, false, ◌⊎◌, ℕ, ◌+◌, ◌≤◌, ◌<◌, List, ◌++◌, length, take, drop, ℤ, pos}
use Rattle.std.proofs.Math.Path.{refl, ap}
use Rattle.std.proofs.Common.{sym, ◌∙◌, subst, inl, inr, arith, length-append, length-drop, take-append-drop, take_at, drop_at}
use Rattle.std.proofs.Math.Option.{none}
use Rattle.std.proofs.Math.Logic.{⊎_elim}
use Rattle.layout.specs.Answers.{Fault, CutShort, UnknownCode, BadField, TooDeep, LeftOver, Refusal, SheetTooLong, BadTrailer, ReadingFault, ActionLenOverflow, BlockLenOverflow, JumpOffsetOverflow, NoRoom, InputFull, Unclean, NeverRecorded, StrayBranch, BadBook, Answer, Done, Refused, fault_number, refusal_number, refusal_value, refusal_action, number, value, action, length_of, Told}
use Rattle.layout.specs.Tree.{Actions, body_count}
use Rattle.layout.specs.Judge.{Mode, plain_mode}
use Rattle.layout.specs.Cut.{First, Second, Third, main, cut}
use Rattle.layout.specs.Book.{book_of}
use Rattle.layout.specs.Pack.{pack, output, Outcome, ReadsAs}
use Rattle.layout.proofs.Order.{bad_book_next, same_outcome}
use Rattle.layout.proofs.Lengths.{length_block}
use Rattle.laws.specs.Meaning.{meaning}
use Rattle.laws.specs.Fits.{Bytes}
use Rattle.laws.specs.Modes.{OfMode, never_recorded, stray_branch, asks, Stricter, AsWeaker, same, besides}
use Rattle.laws.proofs.Modes.{than_plain, as_weaker, done_plain}
use Rattle.laws.specs.Barred.{Stray, TreeRecorded, TreeContained}
use Rattle.laws.proofs.Barred.{recorded_plain, done_recorded, done_contained}
use Rattle.laws.specs.Packed.{Written, Packed}
use Rattle.laws.proofs.Packed.{refused_done, is_packed, is_main}
use Rattle.laws.specs.Demands.{note_length}
use Rattle.laws.proofs.Demands.{same_meaning, length_done, same_note, same_note_output}
use Rattle.named_words.specs.Entries.{SameFor}
use Rattle.named_words.proofs.Entries.{same_entries}
use Rattle.laws.specs.Editions.{sheet_in, LabelRefused}
use Rattle.laws.proofs.Editions.{other_edition}
use Rattle.action_numbers.specs.Numbered.{payload_size, OwnsBody, body_in_order, Names}
use Rattle.action_numbers.specs.Refusals.{Far, WrongBranch, Says, a_long_payload, a_long_body, a_far_branch, an_unrecorded_branch, a_stray_branch, Meets, IllBook}
use Rattle.action_numbers.proofs.Refusals.{says_under, whole_says, fault_meets, fault_within, book_refused}
use Rattle.agreement.specs.Source.{Result, ok, err, encode, panicked}
use Rattle.agreement.specs.SourceAgrees.{Agrees, in_room, no_room, overflowed, Alike}
use Rattle.agreement.proofs.SourceAgrees.{same_as_source, agrees_once}
use Rattle.agreement.specs.Published.{Block, as_written, as_published, BodyUndisputed}
use Rattle.agreement.proofs.PublishedFollows.{follows_published, no_other_difference}
use Rattle.promises.specs.Calls.{AddedNumber, DoneValue, Filled, MeetsFault, NamesAction, NoAction, RefusesBook, RefusesLabel, SourceWrites, at_10, at_14, at_15, at_8, at_9, is_14, is_15}

-- ---- 0 is Done's number alone

-- "3 to 7"
fault_number_lem : (f : Fault) → (3 ≤ fault_number f) × (fault_number f ≤ 7)
unfolding fault_number
fault_number_lem CutShort = (omega arith, omega arith)
fault_number_lem UnknownCode = (omega arith, omega arith)
fault_number_lem BadField = (omega arith, omega arith)
fault_number_lem TooDeep = (omega arith, omega arith)
fault_number_lem LeftOver = (omega arith, omega arith)

refusal_over : (r : Refusal) → 0 < refusal_number r
unfolding refusal_number
refusal_over (SheetTooLong n) = omega arith
refusal_over BadTrailer = omega arith
refusal_over (ReadingFault f p k) = omega (arith, (fault_number_lem f).0)
refusal_over (ActionLenOverflow n k) = omega arith
refusal_over (BlockLenOverflow n k) = omega arith
refusal_over (JumpOffsetOverflow z k) = omega arith
refusal_over (NoRoom n) = omega arith
refusal_over InputFull = omega arith
refusal_over (Unclean p) = omega arith
refusal_over (NeverRecorded p k) = omega arith
refusal_over (StrayBranch p k) = omega arith
refusal_over BadBook = omega arith

block_within : (m : Mode) (s book : List ℕ) (room : ℕ) (q : List ℕ) → pack m s book room ≡ Done q → length q ≤ room
block_within m s book room q e =
    let w : Written (is_packed m s book room q e).tree room q = (is_packed m s book room q e).written in
    omega (arith, w.has_room, length_block (is_packed m s book room q e).tree, ap length w.is_block)

filled_by : (m : Mode) (s book o : List ℕ) (k : ℕ) (after q : List ℕ) → pack m s book (length o) ≡ Done q → length q ≡ k → after ≡ q ++ drop (length q) o → Filled m s book o k after
filled_by m s book o k after q e l h =
    let t : take k after ≡ q = ap (take k) h ∙ take_at q (drop (length q) o) k l in
    let d : drop k after ≡ drop (length q) o = ap (drop k) h ∙ drop_at q (drop (length q) o) k l in
    record {
      packed = e ∙ ap Done (sym t);
      is_long = ap length t ∙ l;
      is_within = omega (arith, block_within m s book (length o) q e);
      is_rest = d ∙ ap (λ (i : ℕ). drop i o) l;
    }

pub filled : (m : Mode) (s book o : List ℕ) (k : ℕ) {i : ℕ} (after : List ℕ) → Outcome m s book o 0 (pos k) i after → Filled m s book o k after
unfolding number value output
filled m s book o k after h = go (pack m s book (length o)) refl h.told.is_number h.told.is_value h.holds
  where
    go : (a : Answer (List ℕ)) → pack m s book (length o) ≡ a → 0 ≡ number a → pos k ≡ value length_of a → after ≡ output a o → Filled m s book o k after
    go (Done q) e en ev eo =
        let l : length q ≡ k = cc in
        filled_by m s book o k after q e l eo
    go (Refused r) e en ev eo = absurd (omega (arith, refusal_over r, en))

-- its sheet reads whole, nothing in it is too long or too far, and the first k bytes of the output are its tree's block
pub done_packed : (m : Mode) (s book o : List ℕ) (k : ℕ) {i : ℕ} (after : List ℕ) → Outcome m s book o 0 (pos k) i after → Packed s book (length o) (take k after)
done_packed m s book o k after h = is_packed m s book (length o) (take k after) (filled m s book o k after h).packed

-- a call that answers 0 has a length for its value, in these editions within the bound
pub done_value : (m : Mode) (s book o : List ℕ) (n : ℕ) (v : ℤ) {i : ℕ} (after : List ℕ) → Bytes s → Bytes book → Outcome m s book o n v i after → n ≡ 0 → DoneValue s v
unfolding number value
done_value m s book o n v after small lent h z = go (pack m s book (length o)) refl h.told.is_number h.told.is_value
  where
    go : (a : Answer (List ℕ)) → pack m s book (length o) ≡ a → n ≡ number a → v ≡ value length_of a → DoneValue s v
    go (Done q) e en ev = record { k = length q; is_value = ev; is_bounded = λ early. length_done m s book (length o) q small lent early e }
    go (Refused r) e en ev = absurd (omega (arith, refusal_over r, en))

-- ---- the note

-- two calls on sheets of equal length that agree from the main body on, with one book and equal outputs: number, value, action
-- number and output are equal
pub same_but_note : (m : Mode) (s s' : List ℕ) → length s ≡ length s' → drop (note_length s) s ≡ drop (note_length s) s'
    → (book o : List ℕ) (n n' : ℕ) (v v' : ℤ) {i i' : ℕ} (after after' : List ℕ) → Outcome m s book o n v i after → Outcome m s' book o n' v' i' after'
    → (n ≡ n') × (v ≡ v') × (i ≡ i') × (after ≡ after')
same_but_note m s s' l r book o n n' v v' {i} {i'} after after' h h' =
    same_outcome h (record {
      told = subst (λ (a : Answer (List ℕ)). Told length_of a n' v' i') (sym (same_note s s' l r m book (length o))) h'.told;
      holds = h'.holds ∙ sym (same_note_output s s' l r m book o);
    })

-- ---- the book

-- "A packing answer depends only on .. whether the book is well formed, its entry count, and the entries that the sheet names": two
-- calls in one mode on one sheet, with books that are the same for it and outputs that held the same, tell and leave the same
pub same_but_book : (m : Mode) (s book book' : List ℕ) → SameFor s book book' → (o : List ℕ) (n n' : ℕ) (v v' : ℤ) {i i' : ℕ} (after after' : List ℕ)
    → Outcome m s book o n v i after → Outcome m s book' o n' v' i' after' → (n ≡ n') × (v ≡ v') × (i ≡ i') × (after ≡ after')
same_but_book m s book book' for o n n' v v' {i} {i'} after after' h h' =
    let e : pack m s book (length o) ≡ pack m s book' (length o) = same_entries m s book book' (length o) for in
    same_outcome h (record {
      told = subst (λ (a : Answer (List ℕ)). Told length_of a n' v' i') (sym e) h'.told;
      holds = h'.holds ∙ ap (λ (a : Answer (List ℕ)). output a o) (sym e);
    })

-- two calls on sheets that differ only in the edition, 1 or 2, with equal outputs and whatever books: number, value, action number
-- and output are equal; or the call on edition 1 answers 5, for a label number from 1,024 on, and leaves the output as it was
pub same_but_edition : (m : Mode) (front mark : List ℕ) → length mark ≡ 2 → (book book' o : List ℕ) (n n' : ℕ) (v v' : ℤ) {i i' : ℕ} (after after' : List ℕ)
    → Outcome m (sheet_in First front mark) book o n v i after → Outcome m (sheet_in Second front mark) book' o n' v' i' after'
    → ((n ≡ n') × (v ≡ v') × (i ≡ i') × (after ≡ after')) ⊎ RefusesLabel m front mark book book' o n v i after
unfolding number value action refusal_number refusal_value refusal_action fault_number output
same_but_edition m front mark two book book' o n n' v v' {i} {i'} after after' h h' = ⊎_elim (λ e. inl (equal e)) (λ r. inr (refused r)) (other_edition m front mark two book book' (length o))
  where
    equal : pack m (sheet_in First front mark) book (length o) ≡ pack m (sheet_in Second front mark) book' (length o) → (n ≡ n') × (v ≡ v') × (i ≡ i') × (after ≡ after')
    equal e = same_outcome h (record { told = rw e h'.told; holds = rw e h'.holds })

    refused : LabelRefused m (sheet_in First front mark) (sheet_in Second front mark) book book' (length o) → RefusesLabel m front mark book book' o n v i after
    refused r = record {
      label = r;
      is_number = h.told.is_number ∙ ap number r.is_refused;
      is_value = h.told.is_value ∙ ap (value length_of) r.is_refused;
      is_action = h.told.is_action ∙ ap action r.is_refused;
      is_left = h.holds ∙ ap (λ (a : Answer (List ℕ)). output a o) r.is_refused;
    }

-- ---- demand 3

-- two calls that answer 0 and leave equal blocks were given equal meanings, whatever their modes, editions and books were, their
-- outputs held and their rooms were
pub same_block_meaning : (m m' : Mode) (s s' book book' o o' : List ℕ) (k k' : ℕ) {i i' : ℕ} (after after' : List ℕ) (t t' : Actions) → Bytes s → Bytes s' → Bytes book → Bytes book'
    → ReadsAs s book t → ReadsAs s' book' t'
    → Outcome m s book o 0 (pos k) i after → Outcome m' s' book' o' 0 (pos k') i' after' → take k after ≡ take k' after' → meaning t ≡ meaning t'
same_block_meaning m m' s s' book book' o o' k k' after after' t t' small small' lent lent' r r' h h' e =
    same_meaning m m' s s' book book' (length o) (length o') (take k after) t t' small small' lent lent' r r' (filled m s book o k after h).packed
    ((filled m' s' book' o' k' after' h').packed ∙ ap Done (sym e))

-- a call in a mode answers such a number, or tells and leaves what a call in a weaker mode does on the same sheet, book and output
pub as_in_weaker : (m m' : Mode) → Stricter m m' → (s book o : List ℕ) (n n' : ℕ) (v v' : ℤ) {i i' : ℕ} (after after' : List ℕ) → Outcome m s book o n v i after → Outcome m' s book o n' v' i' after'
    → AddedNumber m m' n ⊎ ((n ≡ n') × (v ≡ v') × (i ≡ i') × (after ≡ after'))
unfolding number refusal_number
as_in_weaker m m' w s book o n n' v v' {i} {i'} after after' h h' = go (as_weaker m m' w s book (length o)) h.told h.holds
  where
    number_of : {r : Refusal} (k : OfMode r) → asks m k ≡ true → asks m' k ≡ false → n ≡ refusal_number r → AddedNumber m m' n
    number_of never_recorded e f j = rw j (is_14 e f)
    number_of stray_branch e f j = rw j (is_15 e f)

    go : {a : Answer (List ℕ)} → AsWeaker m m' (pack m' s book (length o)) a → Told length_of a n v i → after ≡ output a o → AddedNumber m m' n ⊎ ((n ≡ n') × (v ≡ v') × (i ≡ i') × (after ≡ after'))
    go same t e = inr (same_outcome (record { told = t; holds = e }) h')
    go (besides a) t e = inl (number_of a.of_mode a.is_asked a.is_unasked t.is_number)

-- "All else is as in plain mode, a Done's bytes too"
pub as_in_plain : (m : Mode) (s book o : List ℕ) (n n' : ℕ) (v v' : ℤ) {i i' : ℕ} (after after' : List ℕ) → Outcome m s book o n v i after → Outcome plain_mode s book o n' v' i' after'
    → AddedNumber m plain_mode n ⊎ ((n ≡ n') × (v ≡ v') × (i ≡ i') × (after ≡ after'))
as_in_plain m s book o n n' v v' after after' h h' = as_in_weaker m plain_mode (than_plain m) s book o n n' v v' after after' h h'

-- a call that answers 0 tells and leaves what a call in a weaker mode does: the same length and the same bytes
pub done_in_weaker : (m m' : Mode) → Stricter m m' → (s book o : List ℕ) (n' : ℕ) (v v' : ℤ) {i i' : ℕ} (after after' : List ℕ) → Outcome m s book o 0 v i after → Outcome m' s book o n' v' i' after'
    → (0 ≡ n') × (v ≡ v') × (i ≡ i') × (after ≡ after')
done_in_weaker m m' w s book o n' v v' {i} {i'} after after' h h' = go (as_in_weaker m m' w s book o 0 n' v v' after after' h h')
  where
    not_0 : {n : ℕ} → AddedNumber m m' n → n ≡ 0 → ⊥
    not_0 (is_14 a b) e = omega (arith, e)
    not_0 (is_15 a b) e = omega (arith, e)

    go : AddedNumber m m' 0 ⊎ ((0 ≡ n') × (v ≡ v') × (i ≡ i') × (after ≡ after')) → (0 ≡ n') × (v ≡ v') × (i ≡ i') × (after ≡ after')
    go (inl a) = absurd (not_0 a refl)
    go (inr e) = e

-- where the label of every branch is recorded, and in the branch's own function body, every mode tells and leaves what plain mode does
pub as_if_recorded : (m : Mode) (s book o : List ℕ) (t : Actions) (n n' : ℕ) (v v' : ℤ) {i i' : ℕ} (after after' : List ℕ) → ReadsAs s book t → TreeRecorded t → TreeContained t
    → Outcome m s book o n v i after → Outcome plain_mode s book o n' v' i' after' → (n ≡ n') × (v ≡ v') × (i ≡ i') × (after ≡ after')
as_if_recorded m s book o t n n' v v' {i} {i'} after after' r e c h h' =
    let p = recorded_plain m s book t (length o) r e c in
    same_outcome (record { told = subst (λ (a : Answer (List ℕ)). Told length_of a n v i) p h.told; holds = h.holds ∙ ap (λ (a : Answer (List ℕ)). output a o) p }) h'

-- a call in strict mode that answers 0 was given no branch to a label without a record
pub done_is_recorded : (m : Mode) → m.strict ≡ true → (s book o : List ℕ) (t : Actions) (k : ℕ) {i : ℕ} (after : List ℕ) → ReadsAs s book t → Outcome m s book o 0 (pos k) i after → TreeRecorded t
done_is_recorded m strict s book o t k after r h = done_recorded m strict s book t (length o) (take k after) r (filled m s book o k after h).packed

-- a call in a contained mode that answers 0 was given no branch to a label whose record is in another function body
pub done_is_contained : (m : Mode) → m.contained ≡ true → (s book o : List ℕ) (t : Actions) (k : ℕ) {i : ℕ} (after : List ℕ) → ReadsAs s book t → Outcome m s book o 0 (pos k) i after → TreeContained t
done_is_contained m contained s book o t k after r h = done_contained m contained s book t (length o) (take k after) r (filled m s book o k after h).packed

-- all others are from 3 on, not 11, and under 18
neither : {n : ℕ} → NoAction n → 3 ≤ n → (n ≡ 11 → ⊥) → n < 18 → ⊥
neither (inl h) l f u = omega arith
neither (inr (inl e)) l f u = f e
neither (inr (inr e)) l f u = omega (arith, e)

-- these have none
refusal_none : (r : Refusal) → NoAction (refusal_number r) → refusal_action r ≡ 0
unfolding refusal_number refusal_action
refusal_none (SheetTooLong n) h = refl
refusal_none BadTrailer h = refl
refusal_none (ReadingFault f p k) h = absurd (neither h (fault_number_lem f).0 (λ e. omega (arith, e, (fault_number_lem f).1)) (omega (arith, (fault_number_lem f).1)))
refusal_none (ActionLenOverflow n k) h = absurd (neither h (omega arith) (λ e. omega (arith, e)) (omega arith))
refusal_none (BlockLenOverflow n k) h = absurd (neither h (omega arith) (λ e. omega (arith, e)) (omega arith))
refusal_none (JumpOffsetOverflow z k) h = absurd (neither h (omega arith) (λ e. omega (arith, e)) (omega arith))
refusal_none (NoRoom n) h = refl
refusal_none InputFull h = refl
refusal_none (Unclean p) h = refl
refusal_none (NeverRecorded p k) h = absurd (neither h (omega arith) (λ e. omega (arith, e)) (omega arith))
refusal_none (StrayBranch p k) h = absurd (neither h (omega arith) (λ e. omega (arith, e)) (omega arith))
refusal_none BadBook h = refl

-- "Other answers give 0": a call that answers 0, 1, 2, 11 or 18
pub no_action : (m : Mode) (s book o : List ℕ) (n : ℕ) (v : ℤ) (i : ℕ) (after : List ℕ) → Outcome m s book o n v i after → NoAction n → i ≡ 0
unfolding number action
no_action m s book o n v i after h l = go (pack m s book (length o)) h.told.is_number h.told.is_action
  where
    go : (a : Answer (List ℕ)) → n ≡ number a → i ≡ action a → i ≡ 0
    go (Done q) en ei = ei
    go (Refused r) en ei = ei ∙ refusal_none r (subst NoAction en l)

-- so a call that answers 0 has action number 0
pub done_action : (m : Mode) (s book o : List ℕ) (v : ℤ) (i : ℕ) (after : List ℕ) → Outcome m s book o 0 v i after → i ≡ 0
done_action m s book o v i after h = no_action m s book o 0 v i after h (inl (omega arith))

-- ---- a call that answers 3 to 7

-- 3 to 7 are the faults of reading
refusal_fault : (r : Refusal) → 3 ≤ refusal_number r → refusal_number r ≤ 7 → (f : Fault) × (p : ℕ) × (k : ℕ) × (r ≡ ReadingFault f p k)
unfolding refusal_number
refusal_fault (ReadingFault f p k) l h = (f, p, k, refl)
refusal_fault (SheetTooLong n) l h = absurd (omega (arith, l))
refusal_fault BadTrailer l h = absurd (omega (arith, l))
refusal_fault (ActionLenOverflow n k) l h = absurd (omega (arith, h))
refusal_fault (BlockLenOverflow n k) l h = absurd (omega (arith, h))
refusal_fault (JumpOffsetOverflow z k) l h = absurd (omega (arith, h))
refusal_fault (NoRoom n) l h = absurd (omega (arith, h))
refusal_fault InputFull l h = absurd (omega (arith, h))
refusal_fault (Unclean p) l h = absurd (omega (arith, h))
refusal_fault (NeverRecorded p k) l h = absurd (omega (arith, h))
refusal_fault (StrayBranch p k) l h = absurd (omega (arith, h))
refusal_fault BadBook l h = absurd (omega (arith, h))

-- it met a fault of reading
pub answers_fault : (m : Mode) (s book o : List ℕ) (n : ℕ) (v : ℤ) (i : ℕ) (after : List ℕ) → Bytes s → Bytes book → Outcome m s book o n v i after → 3 ≤ n → n ≤ 7 → MeetsFault s book n v i
unfolding number value action refusal_number refusal_value refusal_action
answers_fault m s book o n v i after small lent h l u = go (pack m s book (length o)) refl h.told.is_number h.told.is_value h.told.is_action
  where
    by : (f : Fault) (p k : ℕ) → pack m s book (length o) ≡ Refused (ReadingFault f p k) → n ≡ fault_number f → v ≡ pos p → i ≡ k → MeetsFault s book n v i
    by f p k e en ev ei =
        let w : Meets s book f p i = subst (Meets s book f p) (sym ei) (fault_meets m s book (length o) f p k e) in
        record { fault = f; place = p; meets = w; is_number = en; is_value = ev; is_behind = (fault_within small lent w).0; is_within = (fault_within small lent w).1 }

    go : (a : Answer (List ℕ)) → pack m s book (length o) ≡ a → n ≡ number a → v ≡ value length_of a → i ≡ action a → MeetsFault s book n v i
    go (Done q) e en ev ei = absurd (omega (arith, en))
    go (Refused r) e en ev ei =
        let x = refusal_fault r (omega (arith, en)) (omega (arith, en)) in
        by x.0 x.1 x.2 (e ∙ ap Refused x.3) (en ∙ ap refusal_number x.3) (ev ∙ ap refusal_value x.3) (ei ∙ ap refusal_action x.3)

-- ---- a call that answers 18

-- 18 is the number of an ill_formed book
refusal_book : (r : Refusal) → refusal_number r ≡ 18 → r ≡ BadBook
unfolding refusal_number
refusal_book (SheetTooLong n) e = absurd (omega (arith, e))
refusal_book BadTrailer e = absurd (omega (arith, e))
refusal_book (ReadingFault f p k) e = absurd (omega (arith, e, (fault_number_lem f).1))
refusal_book (ActionLenOverflow n k) e = absurd (omega (arith, e))
refusal_book (BlockLenOverflow n k) e = absurd (omega (arith, e))
refusal_book (JumpOffsetOverflow z k) e = absurd (omega (arith, e))
refusal_book (NoRoom n) e = absurd (omega (arith, e))
refusal_book InputFull e = absurd (omega (arith, e))
refusal_book (Unclean p) e = absurd (omega (arith, e))
refusal_book (NeverRecorded p k) e = absurd (omega (arith, e))
refusal_book (StrayBranch p k) e = absurd (omega (arith, e))
refusal_book BadBook e = refl

-- "18 BadBook, value 0, after 2 and only for edition 3": a call that answers 18 was given such a sheet and such a book
pub answers_18 : (m : Mode) (s book o : List ℕ) (v : ℤ) (i : ℕ) (after : List ℕ) → Outcome m s book o 18 v i after → RefusesBook s book o v i after
unfolding number value action refusal_value refusal_action output
answers_18 m s book o v i after h = go (pack m s book (length o)) refl h.told.is_number h.told.is_value h.told.is_action h.holds
  where
    by : pack m s book (length o) ≡ Refused BadBook → v ≡ pos 0 → i ≡ 0 → after ≡ o → RefusesBook s book o v i after
    by e ev ei eo =
        let w : IllBook s book = book_refused m s book (length o) e in
        record { ill = w; is_third = (is_main s Third w.start w.bytes w.is_cut).is_edition; is_value = ev; is_action = ei; is_left = eo }

    go : (a : Answer (List ℕ)) → pack m s book (length o) ≡ a → 18 ≡ number a → v ≡ value length_of a → i ≡ action a → after ≡ output a o → RefusesBook s book o v i after
    go (Done q) e en ev ei eo = absurd (omega (arith, en))
    go (Refused r) e en ev ei eo =
        let x : r ≡ BadBook = refusal_book r (sym en) in
        by (e ∙ ap Refused x) (ev ∙ ap refusal_value x) (ei ∙ ap refusal_action x) eo

-- and every call on these answers 18, whatever stands in the main body
pub tells_18 : (m : Mode) (s book o : List ℕ) (start : ℕ) (b : List ℕ) (n : ℕ) (v : ℤ) (i : ℕ) (after : List ℕ) → cut s ≡ main Third start b → book_of book ≡ none
    → Outcome m s book o n v i after → (n ≡ 18) × (v ≡ pos 0) × (i ≡ 0) × (after ≡ o)
unfolding number value action refusal_number refusal_value refusal_action output
tells_18 m s book o start b n v i after c e h =
    let r : pack m s book (length o) ≡ Refused BadBook = bad_book_next m s book (length o) start b c e in (
      h.told.is_number ∙ ap number r,
      h.told.is_value ∙ ap (value length_of) r,
      h.told.is_action ∙ ap action r,
      h.holds ∙ ap (λ (a : Answer (List ℕ)). output a o) r,
    )

-- as the refusal says it
said : {m : Mode} {t : Actions} {x : Refusal} {n : ℕ} {v : ℤ} {i : ℕ} → Says m t x → n ≡ refusal_number x → v ≡ refusal_value x → i ≡ refusal_action x → NamesAction m t n v i
unfolding refusal_number refusal_value refusal_action
said (a_long_payload h) en ev ei = rw (en, ev, ei) (at_8 h)
said (a_long_body h) en ev ei = rw (en, ev, ei) (at_9 h)
said (a_far_branch h) en ev ei = rw (en, ev, ei) (at_10 h)
said (an_unrecorded_branch e h) en ev ei = rw (en, ev, ei) (at_14 e h)
said (a_stray_branch e h) en ev ei = rw (en, ev, ei) (at_15 e h)

module _ (m : Mode) (s book o : List ℕ) (t : Actions) (r : ReadsAs s book t) where
  -- if it answers neither 0 nor 11
  module _ (n : ℕ) (v : ℤ) (i : ℕ) (after : List ℕ) (h : Outcome m s book o n v i after) (done : n ≡ 0 → ⊥) (room : n ≡ 11 → ⊥) where
    -- it refuses by what is wrong with an action of the tree
    refused_by : (x : Refusal) × Says m t x × (n ≡ refusal_number x) × (v ≡ refusal_value x) × (i ≡ refusal_action x)
    unfolding number value action refusal_number
    refused_by = go (pack m s book (length o)) refl h.told.is_number h.told.is_value h.told.is_action
      where
        go : (a : Answer (List ℕ)) → pack m s book (length o) ≡ a → n ≡ number a → v ≡ value length_of a → i ≡ action a
            → (x : Refusal) × Says m t x × (n ≡ refusal_number x) × (v ≡ refusal_value x) × (i ≡ refusal_action x)
        go (Done q) e en ev ei = absurd (done en)
        go (Refused x) e en ev ei = ⊎_elim (λ k. absurd (room (en ∙ ap refusal_number k))) (λ (k : Says m t x). (x, k, en, ev, ei)) (whole_says m s book t (length o) r x e)

    -- and so names an action of the tree
    pub names_action : NamesAction m t n v i
    names_action = said refused_by.1 refused_by.2 refused_by.3 refused_by.4

    -- whose number is under the number of actions
    pub action_under : i < body_count t
    action_under = omega (arith, refused_by.4, says_under refused_by.1)

  -- by each number
  module _ (i : ℕ) (after : List ℕ) where
    pub answers_8 : (n : ℕ) → Outcome m s book o 8 (pos n) i after → Names (body_in_order t) i (λ start a. (payload_size a ≡ n) × (65535 < n))
    answers_8 n h = go (names_action 8 (pos n) i after h (λ e. omega (arith, e)) (λ e. omega (arith, e)))
      where
        go : NamesAction m t 8 (pos n) i → Names (body_in_order t) i (λ start a. (payload_size a ≡ n) × (65535 < n))
        go (at_8 w) = w

    pub answers_9 : (n : ℕ) → Outcome m s book o 9 (pos n) i after → Names (body_in_order t) i (λ start a. OwnsBody n a × (65535 < n))
    answers_9 n h = go (names_action 9 (pos n) i after h (λ e. omega (arith, e)) (λ e. omega (arith, e)))
      where
        go : NamesAction m t 9 (pos n) i → Names (body_in_order t) i (λ start a. OwnsBody n a × (65535 < n))
        go (at_9 w) = w

    pub answers_10 : (z : ℤ) → Outcome m s book o 10 z i after → (p : ℕ) × WrongBranch (Far z) m t p i
    answers_10 z h = go (names_action 10 z i after h (λ e. omega (arith, e)) (λ e. omega (arith, e)))
      where
        go : NamesAction m t 10 z i → (p : ℕ) × WrongBranch (Far z) m t p i
        go (at_10 {p = p} w) = (p, w)

    pub answers_14 : (p : ℕ) → Outcome m s book o 14 (pos p) i after → (m.strict ≡ true) × WrongBranch (λ o s. o ≡ none) m t p i
    answers_14 p h = go (names_action 14 (pos p) i after h (λ e. omega (arith, e)) (λ e. omega (arith, e)))
      where
        go : NamesAction m t 14 (pos p) i → (m.strict ≡ true) × WrongBranch (λ o s. o ≡ none) m t p i
        go (at_14 f w) = (f, w)

    pub answers_15 : (p : ℕ) → Outcome m s book o 15 (pos p) i after → (m.contained ≡ true) × WrongBranch Stray m t p i
    answers_15 p h = go (names_action 15 (pos p) i after h (λ e. omega (arith, e)) (λ e. omega (arith, e)))
      where
        go : NamesAction m t 15 (pos p) i → (m.contained ≡ true) × WrongBranch Stray m t p i
        go (at_15 f w) = (f, w)

-- ---- what a call leaves alone

-- a call that does not answer 0 leaves every byte of the output
pub refused_leaves : (m : Mode) (s book o : List ℕ) (n : ℕ) (v : ℤ) {i : ℕ} (after : List ℕ) → Outcome m s book o n v i after → (n ≡ 0 → ⊥) → after ≡ o
unfolding number output
refused_leaves m s book o n v after h z = go (pack m s book (length o)) h.told.is_number h.holds
  where
    go : (a : Answer (List ℕ)) → n ≡ number a → after ≡ output a o → after ≡ o
    go (Done q) en eo = absurd (z en)
    go (Refused r) en eo = eo

-- a call that answers 0 with value k leaves the bytes from k on, and the output's length
pub done_leaves : (m : Mode) (s book o : List ℕ) (k : ℕ) {i : ℕ} (after : List ℕ) → Outcome m s book o 0 (pos k) i after → (drop k after ≡ drop k o) × (length after ≡ length o) × (k ≤ length o)
done_leaves m s book o k after h =
    let f : Filled m s book o k after = filled m s book o k after h in
    let l : length after ≡ length (take k after) + length (drop k after) = ap length (sym (take-append-drop k after)) ∙ length-append (take k after) (drop k after) in
    (f.is_rest, omega (arith, f.is_within, f.is_long, l, ap length f.is_rest, length-drop k o), f.is_within)

-- for a sheet s of bytes that reads whole, with a book of bytes, as a tree t, and a call that answers 0 with value k
module _ (m : Mode) (s book o : List ℕ) (t : Actions) (k : ℕ) {i : ℕ} (after : List ℕ) (small : Bytes s) (lent : Bytes book) (r : ReadsAs s book t) (h : Outcome m s book o 0 (pos k) i after) where
  -- the first k bytes of the output are what the source's encoder writes for the tree
  pub done_source : SourceWrites t (take k after)
  done_source = go (encode t) (Done (take k after)) refl refl (subst (Agrees (length o) (encode t)) (done_plain m s book (length o) (take k after) (filled m s book o k after h).packed) (same_as_source s book t (length o) small lent r))
    where
      go : (x : Result) (a : Answer (List ℕ)) → encode t ≡ x → a ≡ Done (take k after) → Agrees (length o) x a → SourceWrites t (take k after)
      go (ok e) a i j (in_room w) = record { encoder = e; is_result = i; is_output = cc }
      go (ok e) a i j (no_room w) = refused_done j
      go (err x) a i j (overflowed c w) = refused_done j
      go panicked a i j h = elim h [ ]

  -- and they follow the published layouts, GetUrl2's bits, a double's words and an End among the actions apart
  pub done_published : Block as_written t (take k after)
  done_published = follows_published m s book t (length o) (take k after) small lent r (filled m s book o k after h).packed

  -- for a tree without GetUrl2, without a pushed double and without End, in these too
  pub done_undisputed : BodyUndisputed t → Block as_published t (take k after)
  done_undisputed u = no_other_difference m s book t (length o) (take k after) small lent r (filled m s book o k after h).packed u

-- any call in plain mode on such a sheet tells and leaves the number, the value and the output that agree with the source's result
-- at its room: an overflow's number and value too
pub as_source : (s book o : List ℕ) (t : Actions) (n : ℕ) (v : ℤ) {i : ℕ} (after : List ℕ) (a : Answer (List ℕ)) → Bytes s → Bytes book → ReadsAs s book t → Agrees (length o) (encode t) a
    → Outcome plain_mode s book o n v i after → (n ≡ number a) × (v ≡ value length_of a) × (after ≡ output a o)
as_source s book o t n v after a small lent r g h =
    let e : Alike (pack plain_mode s book (length o)) a = agrees_once (length o) (encode t) (pack plain_mode s book (length o)) a (same_as_source s book t (length o) small lent r) g in
    (h.told.is_number ∙ e.same_number, h.told.is_value ∙ e.same_value, h.holds ∙ e.same_output o)
