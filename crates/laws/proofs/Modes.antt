-- The modes. A stricter mode answers what a weaker one does, or a refusal that it asks for and the weaker one does not. Where a
-- mode bars no branch, it answers what plain mode answers. Assumes nothing.
use Rattle.std.specs.Prelude.{◌≡◌, refl, Bool, ◌&&◌, List, eqb}
use Rattle.std.proofs.Common.{sym, ap₂, ◌∙◌, subst, arith}
use Prim.Native.Nat.{ℕ, ◌+◌}
use Rattle.std.proofs.Math.Bool.{true, false, not}
use Rattle.std.proofs.lemmas.Bool.{false≢true}
use Rattle.std.proofs.Math.Option.{Option, none, some, none-ne-some}
use Rattle.layout.specs.Answers.{Refusal, NeverRecorded, StrayBranch, Answer, Done, Refused}
use Rattle.layout.specs.Tree.{Actions, ActionsOf}
use Rattle.layout.specs.Read.{Text, Words, Terms, Read, got, bad, deepest, read_main}
use Rattle.layout.specs.Strings.{map_body}
use Rattle.layout.specs.Write.{Position, Event, lookup, events}
use Rattle.layout.specs.Judge.{judged, or_else, too_long, Mode, plain_mode, refusal_if, barred, judged_in, far_by, bad_by, judge}
use Rattle.layout.specs.Cut.{Cut, main, uncut, cut}
use Rattle.layout.specs.Book.{book_of}
use Rattle.layout.specs.Pack.{unless, block_in, pack_tree, edition_terms, spelling, pack_read, pack_by, pack_cut, pack, ReadsAs}
use Rattle.layout.proofs.Order.{tree_next}
use Rattle.laws.specs.Branches.{EachBranch}
use Rattle.laws.proofs.Branches.{or_left, or_right, each_of, each_then, each_refused, refused_same, none_refused}
use Rattle.laws.specs.Modes.{Added, AsPlain, AsWeaker, Beside, OfMode, Stricter, Unbarred, besides, never_recorded, same, stray_branch}

-- every mode asks for all that plain mode asks for, and for all that it asks for itself
pub than_plain : (m : Mode) → Stricter m plain_mode
than_plain m = record { is_strict = λ e. absurd (false≢true e); is_contained = λ e. absurd (false≢true e) }

pub than_itself : (m : Mode) → Stricter m m
than_itself m = record { is_strict = λ e. e; is_contained = λ e. e }

-- a mode that asks for nothing is plain mode
pub plain_if : (m : Mode) → m.strict ≡ false → m.contained ≡ false → m ≡ plain_mode
plain_if m e f = ap₂ (λ (t u : Bool). record { strict = t; contained = u }) e f

module _ (m m' : Mode) where
  beside_none : {x y : Option Refusal} → Beside m m' x y → y ≡ none → x ≡ none
  beside_none same e = e
  beside_none (besides {r = r} h) e = absurd (none-ne-some r (sym e))

  or_beside : {x x' y y' : Option Refusal} → Beside m m' x x' → Beside m m' y y' → Beside m m' (or_else x y) (or_else x' y')
  unfolding or_else
  or_beside {x = none} same h = h
  or_beside {x = some r} same h = same
  or_beside (besides h) k = besides h

  if_beside : (t : Bool) {r : Refusal} → Added m m' r → Beside m m' none (refusal_if t r)
  unfolding refusal_if
  if_beside true h = besides h
  if_beside false h = same

  -- by one flag of the two modes
  flag_beside : (found : Bool → Option Refusal) (t u : Bool) → (u ≡ true → t ≡ true) → (t ≡ true → u ≡ false → Beside m m' (found false) (found true))
      → Beside m m' (found u) (found t)
  flag_beside found true true h k = same
  flag_beside found true false h k = k refl refl
  flag_beside found false true h k = absurd (false≢true (h refl))
  flag_beside found false false h k = same

  module _ (stricter : Stricter m m') where
    barred_beside : (o : Option Position) (s : Position) → Beside m m' (barred m' o s) (barred m o s)
    unfolding barred refusal_if
    barred_beside none s =
        flag_beside (λ t. refusal_if t (NeverRecorded s.at s.number)) m.strict m'.strict stricter.is_strict
        (λ e f. besides (record { of_mode = never_recorded; is_asked = e; is_unasked = f }))
    barred_beside (some r) s =
        flag_beside (λ t. refusal_if (t && not (eqb r.home s.home)) (StrayBranch s.at s.number)) m.contained m'.contained stricter.is_contained
        (λ e f. if_beside (not (eqb r.home s.home)) (record { of_mode = stray_branch; is_asked = e; is_unasked = f }))

    branch_beside : (o : Option Position) (s : Position) → Beside m m' (judged_in m' o s) (judged_in m o s)
    unfolding judged_in
    branch_beside o s = or_beside (barred_beside o s) same

    branches_beside : (final : ℕ → Option Position) (es : List Event) → Beside m m' (bad_by m' final es) (bad_by m final es)
    branches_beside final es =
        each_refused (Beside m m') same (λ x x' y y' h k. or_beside h k) (judged_in m') (judged_in m) final final es (each_of _ (λ l s. branch_beside (final l) s) es)

    tree_weaker : (t : Actions) (room : ℕ) → AsWeaker m m' (pack_tree m' t room) (pack_tree m t room)
    unfolding pack_tree unless judge
    tree_weaker t room = go (or_beside {x = too_long (events t)} same (branches_beside (λ l. lookup l (events t)) (events t)))
      where
        go : {x y : Option Refusal} → Beside m m' x y → AsWeaker m m' (unless x (block_in t room)) (unless y (block_in t room))
        go same = same
        go (besides h) = besides h

    read_weaker : (start : ℕ) (x : Read (ActionsOf Text ℕ)) (room : ℕ) → AsWeaker m m' (pack_read m' start x room) (pack_read m start x room)
    unfolding pack_read
    read_weaker start (got t p) room = tree_weaker (map_body spelling t) room
    read_weaker start (bad f p) room = same

    by_weaker : (o : Option Terms) (start : ℕ) (b : List ℕ) (room : ℕ) → AsWeaker m m' (pack_by m' o start b room) (pack_by m o start b room)
    unfolding pack_by
    by_weaker (some k) start b room = read_weaker start (read_main k b deepest) room
    by_weaker none start b room = same

    cut_weaker : (c : Cut) (o : Option Words) (room : ℕ) → AsWeaker m m' (pack_cut m' c o room) (pack_cut m c o room)
    unfolding pack_cut
    cut_weaker (main i start b) o room = by_weaker (edition_terms i o) start b room
    cut_weaker (uncut r) o room = same

    -- "usable with or without strict": a mode that asks for more refuses more, and answers the same otherwise
    pub as_weaker : (s book : List ℕ) (room : ℕ) → AsWeaker m m' (pack m' s book room) (pack m s book room)
    unfolding pack
    as_weaker s book room = cut_weaker (cut s) (book_of book) room

    -- so a Done is the weaker mode's, with the same bytes
    pub done_weaker : (s book : List ℕ) (room : ℕ) (q : List ℕ) → pack m s book room ≡ Done q → pack m' s book room ≡ Done q
    done_weaker s book room q e = go (as_weaker s book room) e
      where
        go : {a b : Answer (List ℕ)} → AsWeaker m m' a b → b ≡ Done q → a ≡ Done q
        go same k = k
        go (besides h) k =
            let z : ◌≡◌ {A = ℕ} 0 1 = cc in
            absurd (omega arith)

module _ (m : Mode) where
  unbarred_judged : (o : Option Position) (s : Position) → barred m o s ≡ none → judged_in m o s ≡ judged o (s.at + 2) s.number
  unfolding judged_in or_else
  unbarred_judged o s e = rw e

  unbarred_far : (final : ℕ → Option Position) (es : List Event) → EachBranch (λ l s. barred m (final l) s ≡ none) es → bad_by m final es ≡ far_by final es
  unbarred_far final es h = refused_same (judged_in m) _ final final es (each_then _ _ (λ l s k. unbarred_judged (final l) s k) es h)

plain_barred : (o : Option Position) (s : Position) → barred plain_mode o s ≡ none
unfolding barred refusal_if
plain_barred none s = refl
plain_barred (some r) s = refl

-- plain mode's rule is the plain rule
pub plain_far : (final : ℕ → Option Position) (es : List Event) → bad_by plain_mode final es ≡ far_by final es
plain_far final es = unbarred_far plain_mode final es (each_of _ (λ l s. plain_barred (final l) s) es)

module _ (m : Mode) where
  -- where the mode refuses no branch, none goes too far
  pub none_far : (final : ℕ → Option Position) (es : List Event) → bad_by m final es ≡ none → far_by final es ≡ none
  none_far final es e = sym (plain_far final es) ∙ beside_none m plain_mode (branches_beside m plain_mode (than_plain m) final es) e

  tree_unbarred : (t : Actions) (room : ℕ) → Unbarred m t → pack_tree m t room ≡ pack_tree plain_mode t room
  unfolding pack_tree judge
  tree_unbarred t room h = rw (unbarred_far m (λ l. lookup l (events t)) (events t) h, plain_far (λ l. lookup l (events t)) (events t))

  -- where it bars none, it answers what plain mode answers
  pub unbarred_plain : (s book : List ℕ) (t : Actions) (room : ℕ) → ReadsAs s book t → Unbarred m t → pack m s book room ≡ pack plain_mode s book room
  unbarred_plain s book t room h u = tree_next m s book room t h ∙ tree_unbarred t room u ∙ sym (tree_next plain_mode s book room t h)

  tree_done_unbarred : (t : Actions) (room : ℕ) (q : List ℕ) → pack_tree m t room ≡ Done q → Unbarred m t
  unfolding pack_tree unless judge judged_in
  tree_done_unbarred t room q e =
      each_then _ _ (λ l s k. or_left (barred m (final l) s) _ k) (events t) (none_refused (judged_in m) final (events t) (or_right (too_long (events t)) _ (go (judge m t) e)))
    where
      final : ℕ → Option Position
      final l = lookup l (events t)

      go : (x : Option Refusal) → unless x (block_in t room) ≡ Done q → x ≡ none
      go none k = refl
      go (some r) k =
          let z : ◌≡◌ {A = ℕ} 0 1 = cc in
          absurd (omega arith)

  -- and a Done has none barred
  pub done_unbarred : (s book : List ℕ) (t : Actions) (room : ℕ) (q : List ℕ) → ReadsAs s book t → pack m s book room ≡ Done q → Unbarred m t
  done_unbarred s book t room q h e = tree_done_unbarred t room q (sym (tree_next m s book room t h) ∙ e)

module _ (m : Mode) where
  -- "All else is as in plain mode, a Done's bytes too"
  pub as_plain : (s book : List ℕ) (room : ℕ) → AsPlain (pack plain_mode s book room) (pack m s book room)
  as_plain s book room = go (as_weaker m plain_mode (than_plain m) s book room)
    where
      go : {a b : Answer (List ℕ)} → AsWeaker m plain_mode a b → AsPlain a b
      go same = same
      go (besides h) = besides h.of_mode

  -- "A contained Done gives plain bytes", and so does any other
  pub done_plain : (s book : List ℕ) (room : ℕ) (q : List ℕ) → pack m s book room ≡ Done q → pack plain_mode s book room ≡ Done q
  done_plain s book room q e = done_weaker m plain_mode (than_plain m) s book room q e

  -- and any refusal that is not of the mode's own is plain mode's
  pub other_plain : (s book : List ℕ) (room : ℕ) (r : Refusal) → (OfMode r → ⊥) → pack m s book room ≡ Refused r → pack plain_mode s book room ≡ Refused r
  other_plain s book room r n e = go (as_plain s book room) e
    where
      go : {a b : Answer (List ℕ)} → AsPlain a b → b ≡ Refused r → a ≡ Refused r
      go same k = k
      go (besides {r = x} h) k =
          let i : x ≡ r = cc in
          absurd (n (subst OfMode i h))
