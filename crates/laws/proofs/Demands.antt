-- Demand 3, the bound on a block's length, and the note, over `pack`. Assumes nothing.
use Rattle.std.specs.Prelude.{◌≡◌, Bool, ◌&&◌, take, ℤ, pos, negsuc}
use Rattle.std.proofs.Math.Path.{refl, sym, ap}
use Rattle.std.proofs.Common.{ap₂, ◌∙◌, length-append, take_at}
use Prim.Native.Nat.{ℕ, suc, ◌+◌, ◌-◌, ◌*◌, ◌%◌, ◌≤◌, ◌<◌}
use native.Mathlib.Omega.{arith}
use Rattle.std.proofs.Math.Bool.{true, false}
use Rattle.std.proofs.Math.Option.{Option, none, some}
use mathlib.Core.List.{List, [], ◌∷◌, ◌++◌}
use Rattle.std.proofs.Math.ListN.{length, drop}
use Rattle.std.proofs.Math.Seq.{drop-drop}
use Rattle.std.proofs.Math.IntN.{sub_ℕ}
use Rattle.std.proofs.Math.Dec.{leb, ltb}
use borrow.Author.Tests.{ltb-true, ltb-false, lt-ltb, le-ltb}
use Rattle.layout.specs.Lists.{pick}
use Rattle.layout.specs.Answers.{SheetTooLong, Answer, Done}
use Rattle.layout.specs.Tree.{ActionsOf, CatchOf, FinallyOf, ActionIndex, first_action, next_action, Entry, Action, flat, branch, owner, Try, ActionList, empty, more, Actions, body, Catch, no_catch, catch, Finally, no_finally, finally}
use Rattle.layout.specs.Payload.{owner_fields, catch_name}
use Rattle.layout.specs.Write.{body_size, catch_size, finally_size, Position, block_start, Event, moved, to_body, to_try, to_catch, to_finally, past, payload_test, body_test, labels_at, trace, traces, trace_body, trace_catch, trace_finally, events, lookup, distance_bits, branch_bits, body_bytes, block_bytes, block_size}
use Rattle.layout.specs.Judge.{distance, is_near, judged, too_far, Mode}
use Rattle.layout.specs.Read.{Words, Terms, edition1, edition2}
use Rattle.layout.specs.Cut.{Edition, First, Second, Third, Cut, main, uncut, sheet_limit, trailer_distance, trailer_edition, is_marked, cut_if, cut_at, cut_if_trailer, cut_if_short, cut}
use Rattle.layout.specs.Book.{book_of}
use Rattle.layout.specs.Pack.{edition_terms, pack_cut, pack, output, ReadsAs}
use Rattle.layout.proofs.Lengths.{length_block}
use Rattle.laws.specs.Meaning.{told, told_actions, told_body, told_catch, told_finally, branch_distance, meaning}
use Rattle.laws.specs.Fits.{Bytes}
use Rattle.laws.specs.Nears.{NoneFar}
use Rattle.laws.proofs.Nears.{near_both, near_of_lem, bits_small, near_left, near_right, branch_near}
use Rattle.laws.proofs.RoundTrip.{same_told}
use Rattle.laws.specs.Packed.{Written, Packed, sheet_distance, sheet_edition, IsMain}
use Rattle.laws.proofs.Packed.{is_packed, is_written, is_main, tree_good, tree_fits}
use Rattle.laws.specs.Demands.{map_branch, map_branch_list, map_branches, map_branches_catch, map_branches_finally, note_length, signed16, words_of}

module _ (a b : ℕ) where
  pub sub_up : b ≤ a → sub_ℕ a b ≡ pos (a - b)
  sub_up h = rw (le-ltb a b h)

  pub sub_down : a < b → sub_ℕ a b ≡ negsuc (b - suc a)
  sub_down h = rw (lt-ltb a b h)

  near_signed : is_near a b ≡ true → signed16 ((a + 65536 - b) % 65536) ≡ sub_ℕ a b
  unfolding signed16 pick
  near_signed n = go (ltb a b) refl
    where
      go : (t : Bool) → ltb a b ≡ t → signed16 ((a + 65536 - b) % 65536) ≡ sub_ℕ a b
      go true h =
          let l : a < b = ltb-true a b h in
          let w : (a + 65536 - b) % 65536 ≡ 65536 - (b - a) = omega (arith, (near_both a b n).0, (near_both a b n).1) in
          let big : 32768 ≤ 65536 - (b - a) = omega (arith, (near_both a b n).0, (near_both a b n).1) in
          let e : 65535 - (65536 - (b - a)) ≡ b - suc a = omega (arith, (near_both a b n).1) in
          rw (w, le-ltb (65536 - (b - a)) 32768 big, e) (sym (sub_down l))
      go false h =
          let l : b ≤ a = ltb-false a b h in
          let w : (a + 65536 - b) % 65536 ≡ a - b = omega (arith, (near_both a b n).0) in
          let small : a - b < 32768 = omega (arith, (near_both a b n).0) in
          rw (w, lt-ltb (a - b) 32768 small) (sym (sub_up l))

pub judged_signed : (o : Option Position) (after k : ℕ) → judged o after k ≡ none → signed16 (distance_bits o after) ≡ distance o after
unfolding distance_bits distance
judged_signed none after k e = unfold signed16 pick in refl
judged_signed (some s) after k e = near_signed s.at after (near_of_lem s after k e)

try_same : {S L : Type 0} {b b' : ActionsOf S L} {c c' : CatchOf S L} {f f' : FinallyOf S L} → b ≡ b' → c ≡ c' → f ≡ f' → Try b c f ≡ Try b' c' f'
try_same x y z = rw (x, y, z)

-- ---- where no branch goes too far, the distances are told by the bits

module _ (all : List Event) where
  abbrev final : ℕ → Option Position
  final l = lookup l all

  abbrev bits_of : ℕ → ℕ → ℕ
  bits_of l after = distance_bits (lookup l all) after

  abbrev distance_of : ℕ → ℕ → ℤ
  distance_of l after = distance (lookup l all) after

  mutual
    unfolding trace told map_branch moved

    signed : (a : Action) (s : Position) → NoneFar final (trace a s) → map_branch signed16 (told bits_of a s.at) ≡ told distance_of a s.at
    signed (flat f) s e = refl
    signed (branch k l) s e = ap (branch k) (judged_signed (lookup l all) (s.at + 5) (s.number + 0) (branch_near final l s e))
    signed (owner o b) s e =
        let u : Position = to_body o s in
        let y : List Event = trace_body b u in
        let z : List Event = body_test (body_size b) s in
        ap (owner o) (signed_body b u (near_left final y z (near_right final (payload_test (length (owner_fields o) + 2) s) (y ++ z) e)))
    signed (Try b c f) s e =
        let t : Position = to_try c s in
        let t₁ : Position = to_catch b c s in
        let t₂ : Position = to_finally b c s in
        let x₁ : List Event = trace_body b t in
        let x₂ : List Event = trace_catch c t₁ in
        let x₃ : List Event = trace_finally f t₂ in
        let z : List Event = body_test (body_size b) s ++ (body_test (catch_size c) s ++ body_test (finally_size f) s) in
        let e₁ : NoneFar final (x₁ ++ (x₂ ++ (x₃ ++ z))) = near_right final (payload_test (7 + length (catch_name c)) s) (x₁ ++ (x₂ ++ (x₃ ++ z))) e in
        let e₂ : NoneFar final (x₂ ++ (x₃ ++ z)) = near_right final x₁ (x₂ ++ (x₃ ++ z)) e₁ in
        let e₃ : NoneFar final (x₃ ++ z) = near_right final x₂ (x₃ ++ z) e₂ in
        try_same (signed_body b t (near_left final x₁ (x₂ ++ (x₃ ++ z)) e₁)) (signed_catch c t₁ (near_left final x₂ (x₃ ++ z) e₂)) (signed_finally f t₂ (near_left final x₃ z e₃))

    signed_actions : (xs : ActionList) (es : List Entry) (i : ActionIndex) (s : Position) → NoneFar final (traces xs es i s)
        → map_branch_list signed16 (told_actions bits_of xs s.at) ≡ told_actions distance_of xs s.at
    signed_actions empty es i s e = refl
    signed_actions (more a xs) es i s e =
        let y : List Event = traces xs es (next_action i) (past a s) in
        let r : NoneFar final (trace a s ++ y) = near_right final (labels_at es i s) (trace a s ++ y) e in
        ap₂ more (signed a s (near_left final (trace a s) y r)) (signed_actions xs es (next_action i) (past a s) (near_right final (trace a s) y r))

    signed_body : (b : Actions) (s : Position) → NoneFar final (trace_body b s) → map_branches signed16 (told_body bits_of b s.at) ≡ told_body distance_of b s.at
    signed_body (body es xs) s e = ap (body []) (signed_actions xs es first_action s e)

    signed_catch : (c : Catch) (s : Position) → NoneFar final (trace_catch c s) → map_branches_catch signed16 (told_catch bits_of c s.at) ≡ told_catch distance_of c s.at
    signed_catch no_catch s e = refl
    signed_catch (catch t b) s e = ap (catch t) (signed_body b s e)

    signed_finally : (f : Finally) (s : Position) → NoneFar final (trace_finally f s) → map_branches_finally signed16 (told_finally bits_of f s.at) ≡ told_finally distance_of f s.at
    signed_finally no_finally s e = refl
    signed_finally (finally b) s e = ap finally (signed_body b s e)

-- ---- demand 3

branch_small : (t : Actions) (l p : ℕ) → branch_bits t l p < 65536
unfolding branch_bits
branch_small t l p = bits_small (lookup l (events t)) p

-- the meaning is what the block's bits tell
meaning_told : (t : Actions) → too_far (events t) (events t) ≡ none → meaning t ≡ map_branches signed16 (told_body (branch_bits t) t 0)
unfolding meaning branch_distance branch_bits
meaning_told t e = sym (signed_body (events t) t block_start (unfold events in e))

snoc_same : (x y : List ℕ) (a : ℕ) → x ++ a ∷ [] ≡ y ++ a ∷ [] → x ≡ y
snoc_same x y a e =
    let l : length x ≡ length y = omega (arith, ap length e, length-append x (a ∷ []), length-append y (a ∷ [])) in
    sym (take_at x (a ∷ []) (length x) refl) ∙ ap (take (length x)) e ∙ take_at y (a ∷ []) (length x) (sym l)

body_same : (t t' : Actions) → block_bytes t ≡ block_bytes t' → body_bytes (branch_bits t) t 0 ≡ body_bytes (branch_bits t') t' 0
unfolding block_bytes
body_same t t' e = snoc_same (body_bytes (branch_bits t) t 0) (body_bytes (branch_bits t') t' 0) 0 e

-- Demand 3: two accepted sheets that give the same bytes hold the same actions, order, nesting and operands, floats by their
-- bits, each branch with the same distance. Only label numbers, label entries, notes and the upper six bits of a GetUrl2
-- method may differ, and the mode, and "the edition, the book and a string's form"
pub same_meaning : (m m' : Mode) (s s' book book' : List ℕ) (room room' : ℕ) (q : List ℕ) (t t' : Actions) → Bytes s → Bytes s' → Bytes book → Bytes book'
    → ReadsAs s book t → ReadsAs s' book' t' → pack m s book room ≡ Done q → pack m' s' book' room' ≡ Done q → meaning t ≡ meaning t'
same_meaning m m' s s' book book' room room' q t t' small small' lent lent' h h' e e' =
    let k : Written t room q = is_written m s book room q t h e in
    let k' : Written t' room' q = is_written m' s' book' room' q t' h' e' in
    meaning_told t k.nearby
    ∙ ap (map_branches signed16) (same_told (branch_bits t) (branch_bits t') (branch_small t) (branch_small t') t t'
    (tree_fits s book t small lent h k.is_short) (tree_fits s' book' t' small' lent' h' k'.is_short) (body_same t t' (k.is_block ∙ sym k'.is_block)))
    ∙ sym (meaning_told t' k'.nearby)

no_words : (i : Edition) (o : Option Words) (k : Terms) → (i ≡ Third → ⊥) → edition_terms i o ≡ some k → k.words ≡ none
unfolding edition_terms edition1 edition2
no_words First o k h e = ap (λ x. words_of x) (sym e)
no_words Second o k h e = ap (λ x. words_of x) (sym e)
no_words Third o k h e = absurd (h refl)

pub length_done : (m : Mode) (s book : List ℕ) (room : ℕ) (q : List ℕ) → Bytes s → Bytes book → (sheet_edition s ≡ some Third → ⊥) → pack m s book room ≡ Done q
    → length q + 11 ≤ 3 * sheet_distance s
unfolding block_size
length_done m s book room q small lent early e =
    let k : Packed s book room q = is_packed m s book room q e in
    let h : ReadsAs s book k.tree = k.reads in
    let i : IsMain s h.edition h.start h.bytes = is_main s h.edition h.start h.bytes h.is_cut in
    omega (
      arith,
      ap length (sym k.written.is_block),
      length_block k.tree,
      (tree_good s book k.tree small lent h).1 (no_words h.edition (book_of book) h.terms (λ z. early (i.is_edition ∙ ap some z)) h.is_lent),
      i.is_distance,
    )

module _ (s s' : List ℕ) (same_length : length s ≡ length s') (same_rest : drop (note_length s) s ≡ drop (note_length s) s') where
  same_at : cut_at s (length s - 8) ≡ cut_at s' (length s - 8)
  unfolding cut_at note_length sheet_distance
  same_at =
      let n : ℕ = length s - 8 in
      let d : ℕ = trailer_distance (drop n s) in
      let m : n - d + (n - (n - d)) ≡ n = omega arith in
      let e : drop n s ≡ drop n s' =
      ap (λ (i : ℕ). drop i s) (sym m) ∙ sym (drop-drop (n - (n - d)) (n - d) s) ∙ ap (drop (n - (n - d))) same_rest ∙ drop-drop (n - (n - d)) (n - d) s' ∙ ap (λ (i : ℕ). drop i s') m in
      by (is_marked (drop n s) && leb d n) (trailer_edition (drop n s)) ∙ ap (λ (t : List ℕ). cut_if (is_marked t && leb (trailer_distance t) n) (trailer_edition t) s' n (trailer_distance t)) e
    where
      by : (z : Bool) (o : Option Edition) → cut_if z o s (length s - 8) (trailer_distance (drop (length s - 8) s)) ≡ cut_if z o s' (length s - 8) (trailer_distance (drop (length s - 8) s))
      by true (some i) = unfold cut_if in ap (λ (l : List ℕ). main i (length s - 8 - trailer_distance (drop (length s - 8) s)) (take (trailer_distance (drop (length s - 8) s)) l)) same_rest
      by true none = unfold cut_if in refl
      by false o = unfold cut_if in refl

  same_cut : cut s ≡ cut s'
  unfolding cut
  same_cut = shorts (leb (length s) sheet_limit) ∙ ap (λ (n : ℕ). cut_if_short (leb n sheet_limit) s') same_length
    where
      trailers : (y : Bool) → cut_if_trailer y s ≡ cut_if_trailer y s'
      trailers true = unfold cut_if_trailer in (same_at ∙ ap (λ (n : ℕ). cut_at s' (n - 8)) same_length)
      trailers false = unfold cut_if_trailer in refl

      shorts : (x : Bool) → cut_if_short x s ≡ cut_if_short x s'
      shorts true = unfold cut_if_short in (trailers (leb 8 (length s)) ∙ ap (λ (n : ℕ). cut_if_trailer (leb 8 n) s') same_length)
      shorts false = unfold cut_if_short in ap (λ (n : ℕ). uncut (SheetTooLong n)) same_length

  pub same_note : (m : Mode) (book : List ℕ) (room : ℕ) → pack m s book room ≡ pack m s' book room
  unfolding pack
  same_note m book room = ap (λ (c : Cut). pack_cut m c (book_of book) room) same_cut

  pub same_note_output : (m : Mode) (book o : List ℕ) → output (pack m s book (length o)) o ≡ output (pack m s' book (length o)) o
  same_note_output m book o = ap (λ (a : Answer (List ℕ)). output a o) (same_note m book (length o))
