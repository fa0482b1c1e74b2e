-- Laws of packing: from what the steps leave to the answer by the definitions. Assumes nothing.
use Rattle.std.proofs.Common.{◌≡◌, ℕ, ◌≤◌, List, [], length, Ok, Err, Some, None, sym, ap, ◌∙◌, subst, arith}
use Rattle.std.proofs.Math.Option.{none, some}
use Rattle.layout.specs.Answers as answers
use Rattle.layout.specs.Answers.{ReadingFault, Refused}
use Rattle.layout.specs.Read.{Terms, edition1, edition2, edition3, deepest, read_main}
use Rattle.layout.specs.Write.{events, lookup}
use Rattle.layout.specs.Judge.{or_else, too_long, Mode, bad_branch, judge}
use Rattle.layout.specs.Cut as trailer
use Rattle.layout.specs.Cut.{Third, uncut, cut}
use Rattle.layout.specs.Book.{book_of}
use Rattle.layout.specs.Pack.{block_in, pack_tree, edition_terms, pack_read, pack_by, pack_cut, pack, Outcome}
use Rattle.layout.proofs.Order.{uncut_first, long_first, branch_next, room_last}
use Rattle.laws.proofs.Modes.{none_far}
use Rattle.positions.specs.declared.BytePosition.{BytePosition}
use Rattle.positions.specs.declared.Halt.{Halt}
use Rattle.positions.specs.Scanned.{meant as meant_fault}
use Rattle.editions.specs.Allowed.{meant as meant_edition, terms_of, Allows}
use Rattle.editions.specs.Words.{words_by}
use Rattle.editions.specs.declared.Edition.{Edition}
use Rattle.editions.specs.declared.Edition.TheVariants as edition
use Rattle.editions.specs.declared.Terms as code
use Rattle.cut.specs.Cuts as cuts
use Rattle.cut.proofs.Mains.{is_cut}
use Rattle.cut.specs.declared.Cut.{Cut}
use Rattle.cut.specs.declared.CutError.{CutError}
use Rattle.measure.specs.declared.Overflow.{Overflow}
use Rattle.measure.specs.Refusals.{refusal_of as overflow_refusal}
use Rattle.measure.specs.declared.Notes.{Notes}
use Rattle.scan.specs.Mains.{refusal_in, MainWhole}
use Rattle.scan.proofs.Mains.{held_refusal}
use Rattle.reading.specs.Readings.{said, MainRead, whole, refused as read_bad, read_refused}
use Rattle.judge.specs.Judging.{refusal_of, HomesLent, MainJudgeable, MainJudged}
use Rattle.judge.specs.declared.Refused as judged
use Rattle.answer.specs.Answered.{Answer, meant, number, value, action}
use Rattle.answer.specs.declared.Refusal.{Refusal}
use Rattle.answer.specs.declared.Refusal.TheVariants as refusal
use Rattle.answer.proofs.Told.{refused}
use Rattle.if_room.specs.Near.{MainNear, MainAnswered}
use Rattle.pack.specs.Steps.{ReadPacked, EditionPacked, EarlyPacked, EnoughEarly}

some_same : {x y : answers.Refusal} → some x ≡ some y → x ≡ y
some_same e = cc

-- ---- a main body that was read

pub reads_whole : {terms : Terms} {b : List ℕ} {start : ℕ} {notes : Notes} {w : BytePosition} → MainRead terms b start notes (Ok w) → MainWhole terms b w notes
unfolding said
reads_whole (whole m) = m
reads_whole (read_bad i j) = absurd (cc i)

-- Where no length is noted, none is too long.
module _ {terms : Terms} {b : List ℕ} {end : BytePosition} {notes : Notes} (m : MainWhole terms b end notes) (none_noted : notes.over ≡ None) (mode : Mode) where
  none_long : too_long (events m.measured.tree) ≡ none
  unfolding refusal_in
  none_long = sym (rw none_noted at (held_refusal m.long))

  pub judgeable : HomesLent terms mode notes.labels.now.homes.now → MainJudgeable terms b end mode notes.labels.now.tab.now notes.labels.now.homes.now
  judgeable lent = record { measured = m.measured; holds = m.homed; lent = lent }

  none_bad : {A : Type 0} {a : A} → MainJudged terms mode b (Ok a) → bad_branch mode (events m.measured.tree) (events m.measured.tree) ≡ none
  none_bad j = j.says m.measured.tree m.measured.reads

  -- Where no branch is refused, none goes too far.
  pub near : {A : Type 0} {a : A} → MainJudged terms mode b (Ok a) → MainNear terms b end notes.labels.now.tab.now
  near j = record { measured = m.measured; nearby = none_far mode (λ l. lookup l (events m.measured.tree)) (events m.measured.tree) (none_bad j) }

-- ---- the answer, whatever the room

module _ {terms : Terms} {b : List ℕ} (mode : Mode) (start : ℕ) (o : List ℕ) where
  -- What reading refuses: 3 to 7.
  pub read_stops : {notes : Notes} {h : Halt} → MainRead terms b start notes (Err h) → (r : Refusal) → meant r ≡ ReadingFault (meant_fault h.fault) h.place h.number.0
      → ReadPacked terms mode start b o (Err r) o
  unfolding said
  read_stops (read_bad i j) r k = refused o r (read_refused mode start (read_main terms b deepest) _ (length o) j ∙ ap Refused (sym (some_same i) ∙ sym k))

  by_tree : {end : BytePosition} {notes : Notes} (m : MainWhole terms b end notes) → pack_read mode start (read_main terms b deepest) (length o) ≡ pack_tree mode m.measured.tree (length o)
  unfolding pack_read
  by_tree m = rw (m.measured.reads.is_read, m.measured.reads.is_tree)

  module _ {end : BytePosition} {notes : Notes} (m : MainWhole terms b end notes) where
    -- The first length that is too long: 8 or 9.
    pub long_stops : (x : Overflow) → notes.over ≡ Some x → (r : Refusal) → meant r ≡ overflow_refusal x → ReadPacked terms mode start b o (Err r) o
    unfolding refusal_in
    long_stops x e r k =
        let t = m.measured.tree in
        let first : some (overflow_refusal x) ≡ too_long (events t) = rw e at (held_refusal m.long) in
        refused o r (by_tree m ∙ long_first mode t (length o) (overflow_refusal x) (sym first) ∙ ap Refused (sym k))

    module _ (none_noted : notes.over ≡ None) where
      -- The first branch that is refused: 10, 14 or 15.
      pub branch_stops : {A : Type 0} {e : judged.Refused} → MainJudged {A = A} terms mode b (Err e) → (r : Refusal) → meant r ≡ refusal_of e.bad e.action → ReadPacked terms mode start b o (Err r) o
      branch_stops j r k =
          let t = m.measured.tree in
          refused o r (by_tree m ∙ branch_next mode t (length o) _ (none_long m none_noted mode) (j.says t m.measured.reads) ∙ ap Refused (sym k))

      -- Else the block's, by the room.
      pub near_packed : {A : Type 0} {a : A} → MainJudged terms mode b (Ok a) → {r : Answer} {after : List ℕ} → MainAnswered terms block_in b o r after → ReadPacked terms mode start b o r after
      near_packed j h = rw (by_tree m, room_last mode m.measured.tree (length o) judge_none) (h.answered m.measured.tree m.measured.reads)
        where
          judge_none : judge mode m.measured.tree ≡ none
          judge_none = unfold judge or_else in rw (none_long m none_noted mode, none_bad m none_noted mode j)

-- ---- a main body, by its edition

module _ (mode : Mode) (start : ℕ) (b o after : List ℕ) (r : Answer) where
  -- Editions 1 and 2 have their terms, whatever the book.
  pub early_packed : (e : Edition) (n : ℕ) (t : code.Terms) (words index : List ℕ) → EnoughEarly e n → Allows e 0 t → ReadPacked (terms_of t words index) mode start b o r after → EarlyPacked e mode start b o r after
  unfolding meant_edition edition_terms pack_by
  early_packed edition.First n t words index k a h book = subst (λ (x : Terms). ReadPacked x mode start b o r after) (a words index) h
  early_packed edition.Second n t words index k a h book = subst (λ (x : Terms). ReadPacked x mode start b o r after) (a words index) h
  early_packed edition.Third n t words index k a h book = absurd k

  -- Edition 3 has the words of the book.
  pub third_packed : (e : Edition) (t : code.Terms) (book words index : List ℕ) (count : ℕ) → e ≡ edition.Third → Allows e count t → book_of book ≡ some (words_by words index count)
      → ReadPacked (terms_of t words index) mode start b o r after → EditionPacked Third book mode start b o r after
  unfolding edition_terms pack_by
  third_packed e t book words index count k a w h = rw w (subst (λ (x : Terms). ReadPacked x mode start b o r after) ((rw k at a) words index) h)

-- Where it is ill formed, 18 is the answer.
pub ill_packed : (mode : Mode) (start : ℕ) (b o book : List ℕ) → book_of book ≡ none → EditionPacked Third book mode start b o (Err refusal.BadBook) o
unfolding edition_terms pack_by meant
ill_packed mode start b o book e = refused o refusal.BadBook (rw e)

-- The bounds of their label numbers.
pub early_bound : (e : Edition) (n : ℕ) (t : code.Terms) → EnoughEarly e n → Allows e 0 t → t.label_bound ≤ n
unfolding edition1 edition2
early_bound edition.First n t k a = omega (arith, ap (λ (x : Terms). x.label_bound) (a [] []), k)
early_bound edition.Second n t k a = omega (arith, ap (λ (x : Terms). x.label_bound) (a [] []), k)
early_bound edition.Third n t k a = absurd k

pub third_bound : (e : Edition) (count : ℕ) (t : code.Terms) → e ≡ edition.Third → Allows e count t → t.label_bound ≤ 4096
unfolding edition3
third_bound e count t k a = omega (arith, ap (λ (x : Terms). x.label_bound) ((rw k at a) [] []))

-- ---- a sheet, by its cut

module _ (s book : List ℕ) (mode : Mode) (o : List ℕ) where
  -- What the cut refuses is the answer: 1 and 2.
  pub cut_stops : (e : CutError) → cuts.said (Err e) ≡ cut s → (r : Refusal) → uncut (meant r) ≡ cuts.refused e → Outcome mode s book o (number (Err r)) (value (Err r)) (action (Err r)) o
  unfolding cuts.said
  cut_stops e k r i =
      let a = refused o r (uncut_first mode s book (length o) (meant r) (sym k ∙ sym i)) in
      record { told = a.told; holds = a.holds }

  -- The answer to its main body is the answer to the sheet.
  pub cut_packed : (c : Cut) → cuts.said (Ok c) ≡ cut s → (e : trailer.Edition) → meant_edition c.edition ≡ e → {r : Answer} {after : List ℕ} → EditionPacked e book mode c.start c.main.now o r after
      → Outcome mode s book o (number r) (value r) (action r) after
  unfolding pack pack_cut
  cut_packed c k e i p =
      let j = is_cut s c k in
      record { told = rw (j, i) p.told; holds = rw (j, i) p.holds }
