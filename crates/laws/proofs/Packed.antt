-- What a Done answer says: the sheet reads whole, nothing in its tree is too long or too far, there is room, and the block
-- is the tree's. Assumes nothing.
use Rattle.std.specs.Prelude.{◌≡◌, Bool, ◌&&◌, List, [], ◌∷◌, ◌++◌, drop, ltb}
use Rattle.std.proofs.Math.Path.{refl, sym, ap, ap₂}
use Rattle.std.proofs.Common.{◌∙◌, subst, arith, length-take, length-drop}
use Prim.Native.Nat.{ℕ, ◌+◌, ◌-◌, ◌*◌, ◌≤◌, ◌<◌}
use Rattle.std.proofs.Math.Bool.{true, false}
use Rattle.std.proofs.Math.Option.{Option, none, some, none-ne-some}
use Rattle.std.proofs.Math.ListN.{length, take}
use Rattle.std.proofs.Math.Dec.{leb}
use borrow.Author.Tests.{ltb-false, leb-true}
use Rattle.layout.proofs.Lists.{all_take, all_drop}
use Rattle.layout.specs.Answers.{Refusal, ActionLenOverflow, BlockLenOverflow, Done, Refused}
use Rattle.layout.specs.Tree.{Actions, ActionsOf, ActionIndex, first_action, next_action, Entry, Action, flat, branch, owner, Try, ActionList, empty, more, body, Catch, no_catch, catch, Finally, no_finally, finally}
use Rattle.layout.specs.Read.{Text, Terms, deepest, Place, Read, got, bad, read_main}
use Rattle.layout.specs.Strings.{map_body}
use Rattle.layout.specs.Payload.{payload, owner_fields, catch_name}
use Rattle.layout.specs.Write.{body_size, catch_size, finally_size, Position, Event, label_at, branch_at, payload_too_long, body_too_long, block_start, to_body, to_try, to_catch, to_finally, past, event_if, payload_test, body_test, labels_at, trace, traces, trace_body, trace_catch, trace_finally, events, lookup, block_bytes, block_size}
use Rattle.layout.specs.Judge.{too_long, or_else, Mode, bad_branch, judge}
use Rattle.layout.specs.Cut.{Edition, Cut, main, uncut, sheet_limit, trailer_distance, trailer_edition, is_marked, cut_if, cut_at, cut_if_trailer, cut_if_short, cut}
use Rattle.layout.specs.Book.{book_of}
use Rattle.layout.specs.Pack.{unless, if_room, pack_tree, edition_terms, spelling, pack_read, pack_by, pack_cut, pack, ReadsAs}
use Rattle.layout.proofs.Order.{tree_next}
use Rattle.laws.specs.Fits.{Bytes, Well, WellActions, WellBody, WellCatch, WellFinally, Fits, ActionsFit, BodyFits, CatchFits, FinallyFits}
use Rattle.laws.proofs.Modes.{none_far}
use Rattle.laws.proofs.ReadFits.{good_got, main_good}
use Rattle.laws.proofs.Books.{words_clean, spells}
use Rattle.laws.specs.Packed.{IsMain, Packed, ReadsMain, Short, Written, sheet_distance, sheet_edition}

-- a refusal is no Done
pub refused_done : {X A : Type 0} {r : Refusal} {a : A} → Refused r ≡ Done a → X
refused_done k =
    let z : ◌≡◌ {A = ℕ} 0 1 = cc in
    absurd (omega arith)

pub tree_written : (m : Mode) (t : Actions) (room : ℕ) (q : List ℕ) → pack_tree m t room ≡ Done q → Written t room q
unfolding pack_tree unless judge or_else if_room
tree_written m t room q e = go (too_long (events t)) (bad_branch m (events t) (events t)) (leb (block_size t) room) refl refl refl e
  where
    go : (x y : Option Refusal) (z : Bool) → too_long (events t) ≡ x → bad_branch m (events t) (events t) ≡ y → leb (block_size t) room ≡ z
        → unless (or_else x y) (if_room z (block_bytes t) (block_size t)) ≡ Done q → Written t room q
    go (some r) y z ex ey ez k = refused_done k
    go none (some r) z ex ey ez k = refused_done k
    go none none false ex ey ez k = refused_done k
    go none none true ex ey ez k = record { is_short = ex; nearby = none_far m (λ l. lookup l (events t)) (events t) ey; has_room = leb-true (block_size t) room ez; is_block = cc }

-- a main body reads as one tree
pub same_tree : (k : Terms) (b : List ℕ) (t u : Actions) → ReadsMain k b t → ReadsMain k b u → t ≡ u
same_tree k b t u h g = go h.read h.next h.is_read h.is_tree g.read g.next g.is_read g.is_tree
  where
    go : (x : ActionsOf Text ℕ) (p : Place) → read_main k b deepest ≡ got x p → map_body spelling x ≡ t
        → (y : ActionsOf Text ℕ) (q : Place) → read_main k b deepest ≡ got y q → map_body spelling y ≡ u → t ≡ u
    go x p d i y q f j = cc

module _ (m : Mode) (s book : List ℕ) (room : ℕ) (q : List ℕ) where
  read_packed : (i : Edition) (start : ℕ) (b : List ℕ) (k : Terms) (r : Read (ActionsOf Text ℕ)) → cut s ≡ main i start b → edition_terms i (book_of book) ≡ some k
      → read_main k b deepest ≡ r → pack_read m start r room ≡ Done q → Packed s book room q
  unfolding pack_read
  read_packed i start b k (got t p) c l e d =
      record {
        tree = map_body spelling t;
        reads = record { edition = i; start = start; bytes = b; terms = k; read = t; next = p; is_cut = c; is_lent = l; is_read = e; is_tree = refl };
        written = tree_written m (map_body spelling t) room q d;
      }
  read_packed i start b k (bad f p) c l e d = refused_done d

  by_packed : (i : Edition) (start : ℕ) (b : List ℕ) (o : Option Terms) → cut s ≡ main i start b → edition_terms i (book_of book) ≡ o → pack_by m o start b room ≡ Done q
      → Packed s book room q
  unfolding pack_by
  by_packed i start b (some k) c l d = read_packed i start b k (read_main k b deepest) c l refl d
  by_packed i start b none c l d = refused_done d

  cut_packed : (c : Cut) → cut s ≡ c → pack_cut m c (book_of book) room ≡ Done q → Packed s book room q
  unfolding pack_cut
  cut_packed (main i start b) e d = by_packed i start b (edition_terms i (book_of book)) e refl d
  cut_packed (uncut r) e d = refused_done d

  pub is_packed : pack m s book room ≡ Done q → Packed s book room q
  unfolding pack
  is_packed e = cut_packed (cut s) refl e

  -- whatever tree it is found to read as
  pub is_written : (t : Actions) → ReadsAs s book t → pack m s book room ≡ Done q → Written t room q
  is_written t h e = tree_written m t room q (sym (tree_next m s book room t h) ∙ e)

uncut_main : {X : Type 0} {r : Refusal} {i : Edition} {n : ℕ} {b : List ℕ} → uncut r ≡ main i n b → X
uncut_main k =
    let z : ◌≡◌ {A = ℕ} 0 1 = cc in
    absurd (omega arith)

and_right : (x y : Bool) → (x && y) ≡ true → y ≡ true
and_right true y e = e
and_right false y e = cc

module _ (s : List ℕ) (i : Edition) (start : ℕ) (b : List ℕ) where
  main_if : (z : Bool) (o : Option Edition) (n d : ℕ) → (z ≡ true → d ≤ n) → o ≡ sheet_edition s → d ≡ sheet_distance s → length s ≡ n + 8 → length s ≤ sheet_limit → cut_if z o s n d ≡ main i start b → IsMain s i start b
  unfolding cut_if
  main_if true (some j) n d h f g l m e =
      let ei : j ≡ i = cc in
      let k : d ≤ n = h refl in
      let es : n - d ≡ start = cc in
      let eb : take d (drop (n - d) s) ≡ b = cc in
      let el : length b ≡ d = ap length (sym eb) ∙ simp (length-take, length-drop) (omega arith) in
      record { is_edition = sym f ∙ ap some ei; is_distance = el ∙ g; is_long = omega arith; is_part = sym eb ∙ ap₂ (λ (i j : ℕ). take i (drop j s)) (sym el) es; is_limited = m }
  main_if true none n d h f g l m e = uncut_main e
  main_if false o n d h f g l m e = uncut_main e

  main_trailer : (y : Bool) → leb 8 (length s) ≡ y → length s ≤ sheet_limit → cut_if_trailer y s ≡ main i start b → IsMain s i start b
  unfolding cut_if_trailer cut_at
  main_trailer true h m e =
      let n : ℕ = length s - 8 in
      let d : ℕ = trailer_distance (drop n s) in
      main_if (is_marked (drop n s) && leb d n) (trailer_edition (drop n s)) n d (λ z. leb-true d n (and_right (is_marked (drop n s)) (leb d n) z)) (unfold sheet_edition in refl) (unfold sheet_distance in refl)
      (omega (arith, leb-true 8 (length s) h)) m e
  main_trailer false h m e = uncut_main e

  main_short : (x : Bool) → leb (length s) sheet_limit ≡ x → cut_if_short x s ≡ main i start b → IsMain s i start b
  unfolding cut_if_short
  main_short true h e = main_trailer (leb 8 (length s)) refl (leb-true (length s) sheet_limit h) e
  main_short false h e = uncut_main e

  pub is_main : cut s ≡ main i start b → IsMain s i start b
  unfolding cut
  is_main e = main_short (leb (length s) sheet_limit) refl e

  pub main_bytes : Bytes s → cut s ≡ main i start b → Bytes b
  main_bytes h e = subst Bytes (sym (is_main e).is_part) (all_take _ (length b) (drop start s) (all_drop _ start s h))

short_left : (xs ys : List Event) → Short (xs ++ ys) → Short xs
unfolding too_long
short_left [] ys e = refl
short_left (label_at l s ∷ xs) ys e = short_left xs ys e
short_left (branch_at l s ∷ xs) ys e = short_left xs ys e
short_left (payload_too_long n s ∷ xs) ys e = e
short_left (body_too_long n s ∷ xs) ys e = e

short_right : (xs ys : List Event) → Short (xs ++ ys) → Short ys
unfolding too_long
short_right [] ys e = e
short_right (label_at l s ∷ xs) ys e = short_right xs ys e
short_right (branch_at l s ∷ xs) ys e = short_right xs ys e
short_right (payload_too_long n s ∷ xs) ys e = cc
short_right (body_too_long n s ∷ xs) ys e = cc

payload_short : (n : ℕ) (s : Position) → Short (payload_test n s) → n < 65536
unfolding payload_test event_if too_long
payload_short n s e = go (ltb 65535 n) refl e
  where
    go : (t : Bool) → ltb 65535 n ≡ t → Short (event_if t (payload_too_long n s)) → n < 65536
    go true h k = absurd (none-ne-some (ActionLenOverflow n s.number) (sym k))
    go false h k = omega (arith, ltb-false 65535 n h)

body_short : (n : ℕ) (s : Position) → Short (body_test n s) → n < 65536
unfolding body_test event_if too_long
body_short n s e = go (ltb 65535 n) refl e
  where
    go : (t : Bool) → ltb 65535 n ≡ t → Short (event_if t (body_too_long n s)) → n < 65536
    go true h k = absurd (none-ne-some (BlockLenOverflow n s.number) (sym k))
    go false h k = omega (arith, ltb-false 65535 n h)

-- a tree whose fields fit, and in which nothing is too long, can be written
mutual
  unfolding trace

  fits : (a : Action) (s : Position) → Well a → Short (trace a s) → Fits a
  fits (flat f) s h e = (h, payload_short (length (payload f)) s e)
  fits (branch k l) s h e = tt
  fits (owner o b) s h e =
      let x : List Event = payload_test (length (owner_fields o) + 2) s in
      let u : Position = to_body o s in
      let y : List Event = trace_body b u in
      let z : List Event = body_test (body_size b) s in
      let r : Short (y ++ z) = short_right x (y ++ z) e in
      (h.0, payload_short (length (owner_fields o) + 2) s (short_left x (y ++ z) e), body_short (body_size b) s (short_right y z r), fits_body b u h.1 (short_left y z r))
  fits (Try b c f) s h e =
      let t : Position = to_try c s in
      let t₁ : Position = to_catch b c s in
      let t₂ : Position = to_finally b c s in
      let x₀ : List Event = payload_test (7 + length (catch_name c)) s in
      let x₁ : List Event = trace_body b t in
      let x₂ : List Event = trace_catch c t₁ in
      let x₃ : List Event = trace_finally f t₂ in
      let x₄ : List Event = body_test (body_size b) s in
      let x₅ : List Event = body_test (catch_size c) s in
      let x₆ : List Event = body_test (finally_size f) s in
      let e₁ : Short (x₁ ++ (x₂ ++ (x₃ ++ (x₄ ++ (x₅ ++ x₆))))) = short_right x₀ (x₁ ++ (x₂ ++ (x₃ ++ (x₄ ++ (x₅ ++ x₆))))) e in
      let e₂ : Short (x₂ ++ (x₃ ++ (x₄ ++ (x₅ ++ x₆)))) = short_right x₁ (x₂ ++ (x₃ ++ (x₄ ++ (x₅ ++ x₆)))) e₁ in
      let e₃ : Short (x₃ ++ (x₄ ++ (x₅ ++ x₆))) = short_right x₂ (x₃ ++ (x₄ ++ (x₅ ++ x₆))) e₂ in
      let e₄ : Short (x₄ ++ (x₅ ++ x₆)) = short_right x₃ (x₄ ++ (x₅ ++ x₆)) e₃ in
      let e₅ : Short (x₅ ++ x₆) = short_right x₄ (x₅ ++ x₆) e₄ in (
        h.0,
        payload_short (7 + length (catch_name c)) s (short_left x₀ (x₁ ++ (x₂ ++ (x₃ ++ (x₄ ++ (x₅ ++ x₆))))) e),
        body_short (body_size b) s (short_left x₄ (x₅ ++ x₆) e₄),
        body_short (catch_size c) s (short_left x₅ x₆ e₅),
        body_short (finally_size f) s (short_right x₅ x₆ e₅),
        fits_body b t h.1 (short_left x₁ (x₂ ++ (x₃ ++ (x₄ ++ (x₅ ++ x₆)))) e₁),
        fits_catch c t₁ h.2 (short_left x₂ (x₃ ++ (x₄ ++ (x₅ ++ x₆))) e₂),
        fits_finally f t₂ h.3 (short_left x₃ (x₄ ++ (x₅ ++ x₆)) e₃),
      )

  fits_actions : (xs : ActionList) (es : List Entry) (i : ActionIndex) (s : Position) → WellActions xs → Short (traces xs es i s) → ActionsFit xs
  fits_actions empty es i s h e = tt
  fits_actions (more a xs) es i s h e =
      let y : List Event = traces xs es (next_action i) (past a s) in
      let r : Short (trace a s ++ y) = short_right (labels_at es i s) (trace a s ++ y) e in
      (fits a s h.0 (short_left (trace a s) y r), fits_actions xs es (next_action i) (past a s) h.1 (short_right (trace a s) y r))

  fits_body : (b : Actions) (s : Position) → WellBody b → Short (trace_body b s) → BodyFits b
  fits_body (body es xs) s h e = fits_actions xs es first_action s h e

  fits_catch : (c : Catch) (s : Position) → WellCatch c → Short (trace_catch c s) → CatchFits c
  fits_catch no_catch s h e = tt
  fits_catch (catch t b) s h e = fits_body b s h e

  fits_finally : (f : Finally) (s : Position) → WellFinally f → Short (trace_finally f s) → FinallyFits f
  fits_finally no_finally s h e = tt
  fits_finally (finally b) s h e = fits_body b s h e

-- ---- the tree of a sheet

module _ (s book : List ℕ) (t : Actions) (small : Bytes s) (lent : Bytes book) (h : ReadsAs s book t) where
  -- its fields fit; and where no word may be named, it is written in at most three bytes for each byte of the main body, less twelve
  pub tree_good : WellBody t × (h.terms.words ≡ none → body_size t + 12 ≤ 3 * length h.bytes)
  tree_good =
      let b : Bytes h.bytes = main_bytes s h.edition h.start h.bytes small h.is_cut in
      let w = words_clean h.edition book h.terms lent h.is_lent in
      let g = (good_got h.read h.next (main_good h.terms h.bytes b spelling (h.terms.words ≡ none) (spells h.bytes b h.terms w) deepest) h.is_read).0 in
      subst (λ (x : Actions). WellBody x × (h.terms.words ≡ none → body_size x + 12 ≤ 3 * length h.bytes)) h.is_tree (g.0, g.1)

  -- and where nothing is too long, its lengths fit too
  pub tree_fits : too_long (events t) ≡ none → BodyFits t
  unfolding events
  tree_fits e = fits_body t (block_start) tree_good.0 e
