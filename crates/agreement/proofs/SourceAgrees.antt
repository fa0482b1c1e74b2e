-- What source 000's ActionEncoder gives for the tree of a sheet agrees with what `pack` answers: `same_as_source`,
-- `never_panics` and `agrees_once`, at the end. Assumes nothing.
use Rattle.std.specs.Prelude.{◌≡◌, ℕ, ◌+◌, Bool, length}
use Rattle.std.proofs.Math.Path.{refl, ap}
use Rattle.std.proofs.Common.{sym, ◌∙◌, subst, arith}
use Rattle.std.proofs.Math.Bool.{true, false}
use Rattle.std.proofs.Math.Option.{Option, none, some}
use mathlib.Core.List.{List, [], ◌∷◌, ◌++◌, append-nil}
use Rattle.std.proofs.Math.IntN.{sub_ℕ}
use Rattle.std.proofs.Math.Dec.{leb}
use borrow.Author.Tests.{leb-true, leb-false}
use Rattle.layout.specs.OpCode.{OpCode, SmallOpCode, small_byte, byte}
use Rattle.layout.specs.Answers.{Refusal, Answer, refusal_number, refusal_value, number, value}
use Rattle.layout.specs.Tree.{Actions}
use Rattle.layout.specs.Payload.{headed, framed}
use Rattle.layout.specs.Write.{Position, block_start, Event, label_at, branch_at, payload_too_long, body_too_long, trace_body, events, lookup, branch_bits, body_bytes, block_bytes, block_size}
use Rattle.layout.specs.Judge.{too_long, distance, is_near, far_unless, judged, or_else, first_refused, too_far, judge, plain_mode}
use Rattle.layout.specs.Pack.{unless, if_room, pack_tree, pack, ReadsAs, output}
use Rattle.layout.proofs.Order.{tree_next}
use Rattle.layout.proofs.Lengths.{length_block}
use Rattle.laws.specs.Fits.{Bytes, WellBody}
use Rattle.laws.proofs.Modes.{plain_far}
use Rattle.laws.proofs.Packed.{tree_good}
use Rattle.agreement.specs.Source.{PendingLabelWrite, ActionEncoder, EncoderError, Result, ok, panicked, after, for_each, new, patch_label, patch_labels, write_small_action, write_actions, encoding, encode}
use Rattle.agreement.specs.SourceSteps.{first_overflow, pending_of, recorded, first_of, result_of, encoder}
use Rattle.agreement.specs.SourceWrites.{blank}
use Rattle.agreement.proofs.SourceWrites.{after_by, perform_is, does_small, does_body}
use Rattle.agreement.specs.SourcePatches.{far_if, far_branch, or_err}
use Rattle.agreement.proofs.SourcePatches.{bits, first_far, Turns, turns_as, turns_body}
use Rattle.agreement.specs.SourceAgrees.{Agrees, Alike, Matches, Returned, both, error_number, error_value, in_room, neither, no_room, overflowed}

first_matches : {o o' : Option EncoderError} {r r' : Option Refusal} → Matches o r → Matches o' r' → Matches (first_of o o') (or_else r r')
unfolding first_of or_else
first_matches neither m = m
first_matches (both n v) m = both n v

-- what the definitions find too long is what the source's tests find
long_matches : (es : List Event) → Matches (first_overflow es) (too_long es)
unfolding too_long first_overflow refusal_number error_number refusal_value error_value
long_matches [] = neither
long_matches (label_at l s ∷ es) = long_matches es
long_matches (branch_at l s ∷ es) = long_matches es
long_matches (payload_too_long n s ∷ es) = both refl refl
long_matches (body_too_long n s ∷ es) = both refl refl

judged_matches : (o : Option Position) (p k : ℕ) → Matches (far_branch o p) (judged o p k)
unfolding judged far_branch distance
judged_matches none p k = neither
judged_matches (some s) p k = go (is_near s.at p)
  where
    go : (t : Bool) → Matches (far_if t (sub_ℕ s.at p)) (far_unless t (sub_ℕ s.at p) k)
    go true = unfold far_unless far_if in neither
    go false = unfold far_unless far_if refusal_number error_number refusal_value error_value in both refl refl

-- and so for what is too far
far_matches : (all es : List Event) → Matches (first_far all es) (too_far all es)
unfolding first_refused first_far
far_matches all [] = neither
far_matches all (label_at l s ∷ es) = far_matches all es
far_matches all (branch_at l s ∷ es) = first_matches (judged_matches (lookup l all) (s.at + 2) s.number) (far_matches all es)
far_matches all (payload_too_long n s ∷ es) = far_matches all es
far_matches all (body_too_long n s ∷ es) = far_matches all es

-- ---- the whole encoding of a tree whose fields fit

module _ (t : Actions) (well : WellBody t) where
  abbrev seen : List Event
  seen = events t

  -- the encoder after write_actions, after the End, and after patch_labels
  abbrev drafted : ActionEncoder
  drafted = encoder (body_bytes blank t 0) (pending_of seen) (recorded seen [])

  abbrev ended : ActionEncoder
  ended = encoder (body_bytes blank t 0 ++ 0 ∷ []) (pending_of seen) (recorded seen [])

  abbrev patched : ActionEncoder
  patched = encoder (block_bytes t) (pending_of seen) (recorded seen [])

  drafted_is : write_actions t new ≡ result_of (first_overflow seen) drafted
  unfolding new events
  drafted_is = (does_body t well block_start).does new refl ∙ perform_is (trace_body t block_start) (body_bytes blank t 0) new

  ended_is : write_small_action SmallOpCode.End drafted ≡ result_of none ended
  ended_is =
      (does_small SmallOpCode.End (length (body_bytes blank t 0)) block_start).does drafted refl
      ∙ perform_is [] (framed (OpCode.Small SmallOpCode.End) []) drafted
      ∙ (unfold first_overflow pending_of recorded framed headed byte small_byte in
      ap (λ (w : List PendingLabelWrite). result_of none (encoder (body_bytes blank t 0 ++ 0 ∷ []) w (recorded (events t) []))) (append-nil (pending_of seen)))

  or_err_result : (o : Option EncoderError) (e : ActionEncoder) → or_err o (ok e) ≡ result_of o e
  unfolding or_err result_of
  or_err_result none e = refl
  or_err_result (some x) e = refl

  block_is : body_bytes (bits seen) t 0 ++ 0 ∷ [] ≡ block_bytes t
  unfolding block_bytes branch_bits
  block_is = refl

  patched_is : patch_labels ended ≡ result_of (first_far seen seen) patched
  unfolding patch_labels
  patched_is =
      let d : Turns seen seen (body_bytes blank t 0 ++ 0 ∷ []) (block_bytes t) =
      (unfold events in turns_as (events t) (turns_body seen t block_start [] (0 ∷ []) refl) refl refl block_is) in
      ap (λ (ws : List PendingLabelWrite). for_each patch_label ws ended) (sym (append-nil (pending_of seen)))
      ∙ d.turns (pending_of seen) []
      ∙ (unfold for_each in or_err_result (first_far seen seen) patched)

  -- the first overflow of the writing, or else of the labels, or else the block
  encoded_is : encode t ≡ result_of (first_of (first_overflow seen) (first_far seen seen)) patched
  unfolding encode encoding
  encoded_is =
      after_by (write_actions t new) (first_overflow seen) (first_far seen seen) drafted patched (λ e. after (write_small_action SmallOpCode.End e) patch_labels) drafted_is
      (after_by (write_small_action SmallOpCode.End drafted) none (first_far seen seen) ended patched patch_labels ended_is patched_is ∙ (unfold first_of in refl))

  tree_same : (room : ℕ) → Agrees room (encode t) (pack_tree plain_mode t room)
  unfolding pack_tree judge
  tree_same room =
      rw (encoded_is, plain_far (λ l. lookup l seen) seen)
      (go (first_of (first_overflow seen) (first_far seen seen)) (or_else (too_long seen) (too_far seen seen)) (first_matches (long_matches seen) (far_matches seen seen)))
    where
      fit : (z : Bool) → leb (block_size t) room ≡ z → Agrees room (ok patched) (if_room z (block_bytes t) (block_size t))
      fit true h = unfold if_room in in_room {e = patched} (omega (arith, length_block t, leb-true (block_size t) room h))
      fit false h = unfold if_room in rw (← (length_block t)) (no_room {e = patched} (omega (arith, length_block t, leb-false (block_size t) room h)))

      go : (o : Option EncoderError) (r : Option Refusal) → Matches o r
          → Agrees room (result_of o patched) (unless r (if_room (leb (block_size t) room) (block_bytes t) (block_size t)))
      go o r neither = unfold result_of unless in fit (leb (block_size t) room) refl
      go o r (both n v) = unfold result_of unless in overflowed n v

returned : {room : ℕ} {r : Result} {a : Answer (List ℕ)} → Agrees room r a → Returned r
returned (in_room h) = tt
returned (no_room h) = tt
returned (overflowed n v) = tt

-- ---- the theorems, for a sheet s of bytes that reads whole, with a book of bytes, as a tree t, in any edition

-- Demand 2, its first half, which "speaks of plain mode": at any room, the answer agrees with what the source gives for the tree.
-- Done has the source's bytes; an overflow has its number and value; NoRoom is answered only where the source's output is longer
-- than the room
pub same_as_source : (s book : List ℕ) (t : Actions) (room : ℕ) → Bytes s → Bytes book → ReadsAs s book t → Agrees room (encode t) (pack plain_mode s book room)
same_as_source s book t room small lent h = rw (tree_next plain_mode s book room t h) (tree_same t (tree_good s book t small lent h).0 room)

-- the source's asserts hold, and its slice indexes and differences are in range
pub never_panics : (s book : List ℕ) (t : Actions) → Bytes s → Bytes book → ReadsAs s book t → encode t ≡ panicked → ⊥
never_panics s book t small lent h e = subst Returned e (returned (same_as_source s book t 0 small lent h))

-- and only one such answer agrees with a result of the source, at one room
pub agrees_once : (room : ℕ) (r : Result) (a a' : Answer (List ℕ)) → Agrees room r a → Agrees room r a' → Alike a a'
unfolding number value output
agrees_once room r a a' (in_room h) (in_room h') = record { same_number = refl; same_value = refl; same_output = λ o. refl }
agrees_once room r a a' (in_room h) (no_room h') = absurd (omega arith)
agrees_once room r a a' (no_room h) (in_room h') = absurd (omega arith)
agrees_once room r a a' (no_room h) (no_room h') = record { same_number = refl; same_value = refl; same_output = λ o. refl }
agrees_once room r a a' (overflowed n v) (overflowed n' v') = record { same_number = n ∙ sym n'; same_value = v ∙ sym v'; same_output = λ o. refl }
