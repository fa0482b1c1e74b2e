-- The action that a refusal names: of a sheet that reads whole, the one whose payload, body or branch is wrong. A fault's number is
-- at most that of the bytes read, 18 is answered only where the book of an edition 3 sheet is ill formed, and an i64 holds the
-- number of every answer. Assumes nothing.
use Rattle.std.proofs.Math.Path.{◌≡◌, refl}
use Rattle.std.proofs.Common.{sym, ap, ◌∙◌, subst, ⊎_elim, ne_eqb}
use Rattle.std.specs.Prelude.{◌⊎◌, ℕ, ◌+◌, ◌-◌, ◌≤◌, ◌<◌, Bool, ◌&&◌, not, length, drop, pos, leb, eqb}
use Rattle.std.proofs.Math.Logic.{inl, inr}
use native.Mathlib.Omega.{arith}
use Rattle.std.proofs.Math.Bool.{true, false, and-eq-true_iff}
use Rattle.std.proofs.Math.Option.{Option, none, some, none-ne-some}
use mathlib.Core.List.{List, [], ◌∷◌}
use Rattle.std.proofs.lemmas.Bool.{eqb-false, not-true}
use Rattle.layout.specs.Lists.{All}
use Rattle.layout.specs.Answers.{Fault, CutShort, UnknownCode, BadField, TooDeep, LeftOver, Refusal, ReadingFault, JumpOffsetOverflow, NoRoom, NeverRecorded, StrayBranch, BadBook, Answer, Done, Refused, refusal_action, action}
use Rattle.layout.specs.Tree.{ActionOf, flat, branch, owner, Try, ActionListOf, empty, more, Actions, ActionsOf, body, CatchOf, no_catch, catch, FinallyOf, no_finally, finally, count, counts, body_count, catch_count, finally_count}
use Rattle.layout.specs.Read.{Text, Words, Terms, edition1, edition2, edition3, Place, placed, Read, got, bad, if_nothing_left, deepest, read_body, read_main}
use Rattle.layout.specs.Strings.{map_action, map_actions, map_body, map_catch, map_finally}
use Rattle.layout.specs.Write.{Position, Event, label_at, branch_at, payload_too_long, body_too_long, lookup, events, block_bytes, block_size}
use Rattle.layout.specs.Judge.{too_long, distance, is_near, far_unless, judged, or_else, Mode, refusal_if, barred, judged_in, bad_branch, judge}
use Rattle.layout.specs.Cut.{Edition, First, Second, Third, Cut, main, uncut, sheet_limit, trailer_distance, trailer_edition, is_marked, cut_if, cut_at, cut_if_trailer, cut_if_short, cut}
use Rattle.layout.specs.Book.{book_of}
use Rattle.layout.specs.Pack.{unless, if_room, pack_tree, edition_terms, spelling, fault_action, pack_read, pack_by, pack_cut, pack, ReadsAs}
use Rattle.layout.specs.Step.{step}
use Rattle.layout.specs.Stepping.{AtMost, made, unclean}
use Rattle.layout.proofs.Stepping.{step_most}
use Rattle.layout.specs.Order.{IsI64, zero_up}
use Rattle.layout.proofs.Order.{fault_next, tree_next}
use Rattle.laws.specs.Fits.{Bytes}
use Rattle.laws.proofs.Begun.{begins_got, begins_bad, main_begins}
use Rattle.laws.proofs.ReadFits.{good_got, good_bad, main_good}
use Rattle.laws.proofs.Books.{words_clean, spells}
use Rattle.laws.specs.Packed.{IsMain}
use Rattle.laws.proofs.Packed.{is_main, main_bytes}
use Rattle.laws.proofs.Branches.{or_left, or_right, each_then, Decided, decided}
use Rattle.laws.specs.Barred.{Stray, stray}
use Rattle.action_numbers.specs.Numbered.{body_in_order, Named}
use Rattle.action_numbers.proofs.Numbered.{length_order, names_under, names_as, events_named, event_named}
use Rattle.action_numbers.specs.Refusals.{Far, IllBook, Meets, Says, Uncut, UncutIf, WrongBranch, a_far_branch, a_long_body, a_long_payload, a_stray_branch, an_unrecorded_branch, bad_trailer, is_too_long, too_far}

-- so its number is under the number of actions
pub says_under : {m : Mode} {t : Actions} {r : Refusal} → Says m t r → refusal_action r < body_count t
unfolding refusal_action
says_under {t = t} (a_long_payload h) = omega (arith, names_under h, length_order t)
says_under {t = t} (a_long_body h) = omega (arith, names_under h, length_order t)
says_under {t = t} (a_far_branch h) = omega (arith, names_under h.named, length_order t)
says_under {t = t} (an_unrecorded_branch e h) = omega (arith, names_under h.named, length_order t)
says_under {t = t} (a_stray_branch e h) = omega (arith, names_under h.named, length_order t)

-- ---- of a tree

module _ (m : Mode) (t : Actions) where
  abbrev final : ℕ → Option Position
  final l = lookup l (events t)

  -- what is said where there is a refusal
  abbrev SaysIf : Option Refusal → Type 0
  SaysIf none = Unit {0}
  SaysIf (some r) = Says m t r

  -- a length that is too long is the named action's
  long_says : (es : List Event) → All (Named (body_in_order t)) es → SaysIf (too_long es)
  unfolding too_long
  long_says [] h = tt
  long_says (label_at l s ∷ es) h = long_says es h.1
  long_says (branch_at l s ∷ es) h = long_says es h.1
  long_says (payload_too_long n s ∷ es) h = a_long_payload (names_as (λ p a i. (i.0, i.1)) h.0)
  long_says (body_too_long n s ∷ es) h = a_long_body (names_as (λ p a i. (i.0, i.1)) h.0)

  module _ {r : Refusal} (d : Decided (judged_in m) final (events t) r) where
    -- the branch that is refused is the first that is wrong
    wrong_branch : (Wrong : Option Position → Position → Type 0) → Wrong (final d.label) d.operand → WrongBranch Wrong m t d.operand.at d.operand.number
    unfolding judged_in
    wrong_branch Wrong w = record {
      first = record {
        before = d.before;
        label = d.label;
        operand = d.operand;
        later = d.later;
        is_among = d.is_among;
        is_at = refl;
        is_action = refl;
        is_wrong = w;
        are_unbarred = each_then _ _ (λ l s k. or_left (barred m (final l) s) _ k) d.before d.are_taken;
        are_near = each_then _ _ (λ l s k. or_right (barred m (final l) s) _ k) d.before d.are_taken;
      };
      named = event_named t d.before (branch_at d.label d.operand) d.later d.is_among;
    }

    -- and what is wrong with it is what the refusal says
    decided_says : Says m t r
    unfolding judged_in barred refusal_if judged far_unless or_else
    decided_says = go (final d.label) refl d.is_refused
      where
        s : Position
        s = d.operand

        none_says : (z : Bool) → m.strict ≡ z → final d.label ≡ none → or_else (refusal_if z (NeverRecorded s.at s.number)) none ≡ some r → Says m t r
        none_says true f i e =
            let same : NeverRecorded s.at s.number ≡ r = cc in
            subst (Says m t) same (an_unrecorded_branch f (wrong_branch (λ o s. o ≡ none) i))
        none_says false f i e = absurd (none-ne-some r e)

        near_says : (q : Position) (z : Bool) → is_near q.at (s.at + 2) ≡ z → final d.label ≡ some q → far_unless z (distance (some q) (s.at + 2)) s.number ≡ some r → Says m t r
        near_says q true n i e = absurd (none-ne-some r e)
        near_says q false n i e =
            let same : JumpOffsetOverflow (distance (some q) (s.at + 2)) s.number ≡ r = cc in
            subst (Says m t) same (a_far_branch (wrong_branch (Far (distance (some q) (s.at + 2))) (subst (λ o. Far (distance (some q) (s.at + 2)) o s) (sym i) (too_far n refl))))

        some_says : (q : Position) (z : Bool) → (m.contained && not (eqb q.home s.home)) ≡ z → final d.label ≡ some q
            → or_else (refusal_if z (StrayBranch s.at s.number)) (far_unless (is_near q.at (s.at + 2)) (distance (some q) (s.at + 2)) s.number) ≡ some r → Says m t r
        some_says q true f i e =
            let j = (and-eq-true_iff m.contained (not (eqb q.home s.home))).0 f in
            let same : StrayBranch s.at s.number ≡ r = cc in
            subst (Says m t) same (a_stray_branch j.0 (wrong_branch Stray (subst (λ o. Stray o s) (sym i) (stray (eqb-false q.home s.home (not-true _ j.1))))))
        some_says q false f i e = near_says q (is_near q.at (s.at + 2)) refl i e

        go : (o : Option Position) → final d.label ≡ o → or_else (barred m o s) (judged o (s.at + 2) s.number) ≡ some r → Says m t r
        go none i e = none_says m.strict refl i e
        go (some q) i e = some_says q (m.contained && not (eqb q.home s.home)) refl i e

  -- the first of two
  or_says : (x y : Option Refusal) → SaysIf x → SaysIf y → SaysIf (or_else x y)
  unfolding or_else
  or_says none y h k = k
  or_says (some r) y h k = h

  -- whatever is wrong with the tree
  judge_says : SaysIf (judge m t)
  unfolding judge
  judge_says = or_says (too_long (events t)) (bad_branch m (events t) (events t)) (long_says (events t) (events_named t)) (bad_says (bad_branch m (events t) (events t)) refl)
    where
      bad_says : (o : Option Refusal) → bad_branch m (events t) (events t) ≡ o → SaysIf o
      bad_says none e = tt
      bad_says (some r) e = decided_says (decided (judged_in m) final (events t) r e)

  -- a tree is refused for want of room, or else by one of its actions
  pub tree_says : (room : ℕ) (r : Refusal) → pack_tree m t room ≡ Refused r → (r ≡ NoRoom (block_size t)) ⊎ Says m t r
  unfolding pack_tree unless if_room
  tree_says room r e = go (judge m t) (leb (block_size t) room) judge_says e
    where
      go : (o : Option Refusal) (z : Bool) → SaysIf o → unless o (if_room z (block_bytes t) (block_size t)) ≡ Refused r → (r ≡ NoRoom (block_size t)) ⊎ Says m t r
      go (some x) z h k =
          let same : x ≡ r = cc in
          inr (subst (Says m t) same h)
      go none true h k =
          let z : ◌≡◌ {A = ℕ} 0 1 = cc in
          absurd (omega arith)
      go none false h k = inl cc

-- ---- of a sheet that reads whole

module _ (m : Mode) (s book : List ℕ) (t : Actions) (room : ℕ) (h : ReadsAs s book t) where
  -- it is refused for want of room, or else by an action of its tree, which the refusal names
  pub whole_says : (r : Refusal) → pack m s book room ≡ Refused r → (r ≡ NoRoom (block_size t)) ⊎ Says m t r
  whole_says r e = tree_says m t room r (sym (tree_next m s book room t h) ∙ e)

  -- NoRoom apart, "the number of the action" is under the number of actions in the sheet
  pub named_under : (r : Refusal) → pack m s book room ≡ Refused r → ((n : ℕ) → r ≡ NoRoom n → ⊥) → refusal_action r < body_count t
  named_under r e f = ⊎_elim (λ i. absurd (f (block_size t) i)) says_under (whole_says r e)

-- whatever the sheet
cut_uncut : (s : List ℕ) → UncutIf (cut s)
unfolding cut cut_if_short cut_if_trailer cut_at cut_if
cut_uncut s = short (leb (length s) sheet_limit)
  where
    marked : (z : Bool) (o : Option Edition) (n d : ℕ) → UncutIf (cut_if z o s n d)
    marked true (some i) n d = tt
    marked true none n d = bad_trailer
    marked false o n d = bad_trailer

    trailer : (y : Bool) → UncutIf (cut_if_trailer y s)
    trailer true = marked (is_marked (drop (length s - 8) s) && leb (trailer_distance (drop (length s - 8) s)) (length s - 8)) (trailer_edition (drop (length s - 8) s)) (length s - 8) (trailer_distance (drop (length s - 8) s))
    trailer false = bad_trailer

    short : (x : Bool) → UncutIf (cut_if_short x s)
    short true = trailer (leb 8 (length s))
    short false = is_too_long

-- 3 to 7 are answered where reading met that fault, and nowhere else
pub fault_meets : (m : Mode) (s book : List ℕ) (room : ℕ) (f : Fault) (p k : ℕ) → pack m s book room ≡ Refused (ReadingFault f p k) → Meets s book f p k
unfolding pack pack_cut pack_by pack_read
fault_meets m s book room f p k e = by_cut (cut s) refl (cut_uncut s) e
  where
    not_whole : {t : Actions} → (ReadingFault f p k ≡ NoRoom (block_size t)) ⊎ Says m t (ReadingFault f p k) → ⊥
    not_whole (inl i) =
        let z : ◌≡◌ {A = ℕ} 0 1 = cc in
        omega arith
    not_whole (inr h) = elim h [ ]

    by_reading : (i : Edition) (start : ℕ) (b : List ℕ) (j : Terms) → cut s ≡ main i start b → edition_terms i (book_of book) ≡ some j → (x : Read (ActionsOf Text ℕ)) → read_main j b deepest ≡ x
        → pack_read m start x room ≡ Refused (ReadingFault f p k) → Meets s book f p k
    by_reading i start b j c l (got t q) x h = absurd (not_whole (tree_says m (map_body spelling t) room (ReadingFault f p k) h))
    by_reading i start b j c l (bad g u) x h =
        let same : g ≡ f = cc in
        record { edition = i; start = start; bytes = b; terms = j; met = u; is_cut = c; is_lent = l; is_read = x ∙ ap (λ (y : Fault). bad y u) same; is_place = cc; is_action = cc }

    by_terms : (i : Edition) (start : ℕ) (b : List ℕ) → cut s ≡ main i start b → (o : Option Terms) → edition_terms i (book_of book) ≡ o → pack_by m o start b room ≡ Refused (ReadingFault f p k) → Meets s book f p k
    by_terms i start b c (some j) l h = by_reading i start b j c l (read_main j b deepest) refl h
    by_terms i start b c none l h =
        let z : ◌≡◌ {A = ℕ} 0 1 = cc in
        absurd (omega arith)

    by_cut : (c : Cut) → cut s ≡ c → UncutIf c → pack_cut m c (book_of book) room ≡ Refused (ReadingFault f p k) → Meets s book f p k
    by_cut (main i start b) c u h = by_terms i start b c (edition_terms i (book_of book)) refl h
    by_cut (uncut r) c u h =
        let same : r ≡ ReadingFault f p k = cc in
        elim (subst Uncut same u) [ ]

-- "TooDeep .. the action that owns the body" is the last begun; any other fault names the next
fault_most : (f : Fault) (n : ℕ) → fault_action f n ≤ n
unfolding fault_action
fault_most CutShort n = omega arith
fault_most UnknownCode n = omega arith
fault_most BadField n = omega arith
fault_most TooDeep n = omega arith
fault_most LeftOver n = omega arith

-- its number is at most that of the main body's bytes before the fault's place, and that lies in the main body or at its end
pub fault_within : {s book : List ℕ} {f : Fault} {p k : ℕ} → Bytes s → Bytes book → (h : Meets s book f p k) → (h.start + k ≤ p) × (p ≤ h.start + length h.bytes)
fault_within {s} {book} {f} {p} {k} small lent h =
    let bytes : Bytes h.bytes = main_bytes s h.edition h.start h.bytes small h.is_cut in
    let clean = words_clean h.edition book h.terms lent h.is_lent in
    let begun : h.met.begun + 0 ≤ h.met.at = begins_bad f h.met (main_begins h.terms h.bytes deepest) h.is_read in
    let within : h.met.at ≤ length h.bytes =
    good_bad f h.met (main_good h.terms h.bytes bytes spelling (h.terms.words ≡ none) (spells h.bytes bytes h.terms clean) deepest) h.is_read in
    (omega (arith, fault_most f h.met.begun, h.is_place, h.is_action), omega (arith, h.is_place))

-- "LeftOver gives the number of actions read": those of the body that was read
pub left_over : (m : Mode) (s book : List ℕ) (room : ℕ) (i : Edition) (start : ℕ) (b : List ℕ) (j : Terms) (t : ActionsOf Text ℕ) (p : Place) → cut s ≡ main i start b
    → edition_terms i (book_of book) ≡ some j → read_body j b deepest (placed 0) ≡ got t p → (p.at ≡ length b → ⊥) → pack m s book room ≡ Refused (ReadingFault LeftOver (start + p.at) (body_count t))
unfolding read_main if_nothing_left fault_action
left_over m s book room i start b j t p c l e f =
    let all : body_count t + 0 ≡ body_count t = omega arith in
    let r : read_main j b deepest ≡ bad LeftOver (record { at = p.at; begun = body_count t + 0 }) = rw (e, ne_eqb p.at (length b) f) in
    fault_next m s book room i start b j LeftOver (record { at = p.at; begun = body_count t + 0 }) c l r ∙ ap (λ (k : ℕ). Refused (ReadingFault LeftOver (start + p.at) k)) all

-- no terms are due to nothing else
no_terms : (i : Edition) (o : Option Words) → edition_terms i o ≡ none → (i ≡ Third) × (o ≡ none)
unfolding edition_terms
no_terms First o e = absurd (none-ne-some edition1 (sym e))
no_terms Second o e = absurd (none-ne-some edition2 (sym e))
no_terms Third (some ws) e = absurd (none-ne-some (edition3 ws) (sym e))
no_terms Third none e = (refl, refl)

-- "only for edition 3": 18 is answered there, where the book is ill formed, and nowhere else
pub book_refused : (m : Mode) (s book : List ℕ) (room : ℕ) → pack m s book room ≡ Refused BadBook → IllBook s book
unfolding pack pack_cut pack_by pack_read
book_refused m s book room e = by_cut (cut s) refl (cut_uncut s) e
  where
    not_whole : {t : Actions} → (BadBook ≡ NoRoom (block_size t)) ⊎ Says m t BadBook → ⊥
    not_whole (inl i) =
        let z : ◌≡◌ {A = ℕ} 0 1 = cc in
        omega arith
    not_whole (inr h) = elim h [ ]

    by_reading : (start : ℕ) (x : Read (ActionsOf Text ℕ)) → pack_read m start x room ≡ Refused BadBook → ⊥
    by_reading start (got t q) h = not_whole (tree_says m (map_body spelling t) room BadBook h)
    by_reading start (bad g u) h =
        let z : ◌≡◌ {A = ℕ} 0 1 = cc in
        omega arith

    by_terms : (i : Edition) (start : ℕ) (b : List ℕ) → cut s ≡ main i start b → (o : Option Terms) → edition_terms i (book_of book) ≡ o → pack_by m o start b room ≡ Refused BadBook → IllBook s book
    by_terms i start b c (some j) l h = absurd (by_reading start (read_main j b deepest) h)
    by_terms i start b c none l h =
        let w = no_terms i (book_of book) l in
        record { start = start; bytes = b; is_cut = c ∙ ap (λ (y : Edition). main y start b) w.0; is_ill = w.1 }

    by_cut : (c : Cut) → cut s ≡ c → UncutIf c → pack_cut m c (book_of book) room ≡ Refused BadBook → IllBook s book
    by_cut (main i start b) c u h = by_terms i start b c (edition_terms i (book_of book)) refl h
    by_cut (uncut r) c u h =
        let same : r ≡ BadBook = cc in
        elim (subst Uncut same u) [ ]

-- ---- how great it can be

-- strings put for others leave the count
module _ {S T L : Type 0} (w : S → T) where
  mutual
    unfolding map_action count

    same_count : (a : ActionOf S L) → count (map_action w a) ≡ count a
    same_count (flat f) = refl
    same_count (branch k l) = refl
    same_count (owner o b) = ap (λ n. 1 + n) (same_body_count b)
    same_count (Try b c f) = omega (arith, same_body_count b, same_catch_count c, same_finally_count f)

    same_counts : (xs : ActionListOf S L) → counts (map_actions w xs) ≡ counts xs
    same_counts empty = refl
    same_counts (more a xs) = omega (arith, same_count a, same_counts xs)

    same_body_count : (b : ActionsOf S L) → body_count (map_body w b) ≡ body_count b
    same_body_count (body es xs) = same_counts xs

    same_catch_count : (c : CatchOf S L) → catch_count (map_catch w c) ≡ catch_count c
    same_catch_count no_catch = refl
    same_catch_count (catch t b) = same_body_count b

    same_finally_count : (f : FinallyOf S L) → finally_count (map_finally w f) ≡ finally_count f
    same_finally_count no_finally = refl
    same_finally_count (finally b) = same_body_count b

-- of a tree, no more than it has actions
tree_most : (m : Mode) (t : Actions) (room : ℕ) → action (pack_tree m t room) ≤ body_count t
unfolding action refusal_action
tree_most m t room = go (pack_tree m t room) (tree_says m t room)
  where
    go : (a : Answer (List ℕ)) → ((r : Refusal) → a ≡ Refused r → (r ≡ NoRoom (block_size t)) ⊎ Says m t r) → action a ≤ body_count t
    go (Done q) f = omega arith
    go (Refused r) f = ⊎_elim (λ e. omega (arith, ap refusal_action e)) (λ h. omega (arith, says_under h)) (f r refl)

-- of any sheet of bytes, with any book of bytes, at most 1,048,576: a main body has no more actions than bytes, and 18 names
-- none
pub action_most : (m : Mode) (s book : List ℕ) (room : ℕ) → Bytes s → Bytes book → action (pack m s book room) ≤ sheet_limit
unfolding pack pack_cut pack_by pack_read action
action_most m s book room small lent = by_cut (cut s) refl (cut_uncut s)
  where
    no_action : {r : Refusal} → Uncut r → refusal_action r ≡ 0
    no_action is_too_long = unfold refusal_action in refl
    no_action bad_trailer = unfold refusal_action in refl

    by_reading : (i : Edition) (start : ℕ) (b : List ℕ) (j : Terms) → cut s ≡ main i start b → edition_terms i (book_of book) ≡ some j → (x : Read (ActionsOf Text ℕ)) → read_main j b deepest ≡ x
        → action (pack_read m start x room) ≤ sheet_limit
    by_reading i start b j c k (got t q) x =
        let l : IsMain s i start b = is_main s i start b c in
        let bytes : Bytes b = main_bytes s i start b small c in
        let within = good_got t q (main_good j b bytes spelling (j.words ≡ none) (spells b bytes j (words_clean i book j lent k)) deepest) x in
        omega (arith, tree_most m (map_body spelling t) room, same_body_count spelling t, begins_got t q (main_begins j b deepest) x, within.1, l.is_long, l.is_limited)
    by_reading i start b j c k (bad f u) x =
        unfold refusal_action in
        let l : IsMain s i start b = is_main s i start b c in
        let w = fault_within small lent (record { edition = i; start = start; bytes = b; terms = j; met = u; is_cut = c; is_lent = k; is_read = x; is_place = refl; is_action = refl }) in
        omega (arith, w.0, w.1, l.is_long, l.is_limited)

    by_terms : (i : Edition) (start : ℕ) (b : List ℕ) → cut s ≡ main i start b → (o : Option Terms) → edition_terms i (book_of book) ≡ o → action (pack_by m o start b room) ≤ sheet_limit
    by_terms i start b c (some j) k = by_reading i start b j c k (read_main j b deepest) refl
    by_terms i start b c none k = unfold refusal_action in omega arith

    by_cut : (c : Cut) → cut s ≡ c → UncutIf c → action (pack_cut m c (book_of book) room) ≤ sheet_limit
    by_cut (main i start b) c u = by_terms i start b c (edition_terms i (book_of book)) refl
    by_cut (uncut r) c u = omega (arith, no_action u)

-- so an i64 holds it
pub action_i64 : (m : Mode) (s book : List ℕ) (room : ℕ) → Bytes s → Bytes book → IsI64 (pos (action (pack m s book room)))
action_i64 m s book room small lent = zero_up {n = action (pack m s book room)} (omega (arith, action_most m s book room small lent))

-- "Other answers give 0": all of the stepping check's
pub step_action : (s : List ℕ) → action (step s) ≡ 0
step_action s = go (step_most s)
  where
    go : {a : Answer ℕ} → AtMost (length s) a → action a ≡ 0
    go (made l) = unfold action in refl
    go (unclean l) = unfold action refusal_action in refl

pub step_action_i64 : (s : List ℕ) → IsI64 (pos (action (step s)))
step_action_i64 s = zero_up {n = action (step s)} (omega (arith, step_action s))
