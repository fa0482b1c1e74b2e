-- What source 000's patch_labels does: it puts every branch's bits in place, or ends at the first branch that goes too far.
-- Assumes nothing.
use Rattle.std.specs.Prelude.{◌≡◌, Bool, ◌&&◌, length, leb, ltb, eqb}
use Rattle.std.proofs.Math.Path.{refl, sym, ap, ap₂}
use Rattle.std.proofs.Common.{◌∙◌, length-append}
use Prim.Native.Nat.{ℕ, suc, ◌+◌, ◌-◌, ◌%◌, ◌≤◌, ◌<◌}
use native.Mathlib.Omega.{arith}
use Rattle.std.proofs.Math.Bool.{true, false}
use Rattle.std.proofs.Math.Option.{Option, none, some}
use mathlib.Core.List.{List, [], ◌∷◌, ◌++◌, append_assoc}
use Rattle.std.proofs.Math.IntN.{sub_ℕ}
use borrow.Author.Tests.{ltb-true, ltb-false, leb-true, leb-false, le-leb, lt-leb}
use Rattle.layout.specs.Numbers.{le16}
use Rattle.layout.specs.OpCode.{OpCode, byte}
use Rattle.layout.specs.Tree.{Owner, Branch, ActionIndex, first_action, next_action, Entry, entry, Action, flat, branch, owner, Try, ActionList, empty, more, Actions, body, Catch, no_catch, catch, Finally, no_finally, finally}
use Rattle.layout.specs.Payload.{opcode, payload, owner_op_code, owner_fields, owner_payload, branch_op_code, catch_shape, finally_shape, catch_name, try_payload, framed}
use Rattle.layout.specs.Write.{body_size, catch_size, finally_size, Position, moved, to_operand, to_body, to_try, to_catch, to_finally, past, Event, label_at, branch_at, payload_too_long, body_too_long, event_if, payload_test, body_test, labels_at, trace, traces, trace_body, trace_catch, trace_finally, later, record_if, lookup, distance_bits, bytes, actions_bytes, body_bytes, catch_bytes, finally_bytes}
use Rattle.layout.specs.Judge.{is_near}
use Rattle.layout.proofs.Lengths.{length-owner_fields, length-owner_payload, length-try_payload, framed_long, length_framed, branch_long, owner_long, try_long, length_bytes, length_body, length_catch}
use Rattle.laws.proofs.Demands.{sub_up, sub_down}
use Rattle.laws.proofs.Nears.{near_both}
use Rattle.agreement.specs.Source.{PendingLabelWrite, Map, ActionEncoder, EncoderError, Result, ok, Writing, after, for_each, gotten, get, insert, two_le_bytes, fits_i16, bits_i16, offset_to, patch_offset, patch_position, patch_label}
use Rattle.agreement.specs.SourceSteps.{pending_of, recorded, first_of, encoder}
use Rattle.agreement.proofs.SourceSteps.{pending_append}
use Rattle.agreement.specs.SourceWrites.{blank}
use Rattle.agreement.proofs.SourceWrites.{copy_at}
use Rattle.agreement.specs.SourcePatches.{far_branch, far_if, or_err, position_of}

-- the table has each label's last record
get_recorded : (es : List Event) (m : Map ℕ) (l : ℕ) → get l (recorded es m) ≡ position_of (get l m) (lookup l es)
unfolding recorded lookup
get_recorded [] m l = refl
get_recorded (label_at k s ∷ es) m l = get_recorded es (insert k s.at m) l ∙ go (eqb l k) refl (lookup l es)
  where
    go : (t : Bool) → eqb l k ≡ t → (o : Option Position)
        → position_of (get l (insert k s.at m)) o ≡ position_of (get l m) (later (record_if (eqb l k) s) o)
    go true z none = unfold get insert gotten later record_if in rw z
    go false z none = unfold get insert gotten later record_if in rw z
    go t z (some x) = unfold get insert gotten later record_if in refl
get_recorded (branch_at k s ∷ es) m l = get_recorded es m l
get_recorded (payload_too_long n s ∷ es) m l = get_recorded es m l
get_recorded (body_too_long n s ∷ es) m l = get_recorded es m l

first_assoc : (a b c : Option EncoderError) → first_of (first_of a b) c ≡ first_of a (first_of b c)
unfolding first_of
first_assoc none b c = refl
first_assoc (some x) b c = refl

-- from b to a
module _ (a b : ℕ) where
  near_is : (x y : Bool) → leb a (b + 32767) ≡ x → leb b (a + 32768) ≡ y → is_near a b ≡ (x && y)
  unfolding is_near
  near_is x y hx hy = rw (hx, hy)

  -- the i16 test on signed numbers is the definitions' test of the two positions
  fits_near : fits_i16 (sub_ℕ a b) ≡ is_near a b
  fits_near = go (ltb a b) refl
    where
      down : (t : Bool) → leb (b - suc a) 32767 ≡ t → a < b → leb (b - suc a) 32767 ≡ is_near a b
      down true z h =
          z ∙ sym (near_is true true (le-leb a (b + 32767) (omega arith)) (le-leb b (a + 32768) (omega (arith, leb-true (b - suc a) 32767 z))))
      down false z h =
          z ∙ sym (near_is true false (le-leb a (b + 32767) (omega arith)) (lt-leb b (a + 32768) (omega (arith, leb-false (b - suc a) 32767 z))))

      up : (t : Bool) → leb (a - b) 32767 ≡ t → b ≤ a → leb (a - b) 32767 ≡ is_near a b
      up true z h =
          z ∙ sym (near_is true true (le-leb a (b + 32767) (omega (arith, leb-true (a - b) 32767 z))) (le-leb b (a + 32768) (omega arith)))
      up false z h =
          z ∙ sym (near_is false true (lt-leb a (b + 32767) (omega (arith, leb-false (a - b) 32767 z))) (le-leb b (a + 32768) (omega arith)))

      go : (t : Bool) → ltb a b ≡ t → fits_i16 (sub_ℕ a b) ≡ is_near a b
      go true h = ap fits_i16 (sub_down a b (ltb-true a b h)) ∙ (unfold fits_i16 in down (leb (b - suc a) 32767) refl (ltb-true a b h))
      go false h = ap fits_i16 (sub_up a b (ltb-false a b h)) ∙ (unfold fits_i16 in up (leb (a - b) 32767) refl (ltb-false a b h))

  -- and where it holds, the sixteen bits are the definitions'
  bits_are : is_near a b ≡ true → bits_i16 (sub_ℕ a b) ≡ (a + 65536 - b) % 65536
  bits_are n = go (ltb a b) refl
    where
      go : (t : Bool) → ltb a b ≡ t → bits_i16 (sub_ℕ a b) ≡ (a + 65536 - b) % 65536
      go true h =
          ap bits_i16 (sub_down a b (ltb-true a b h))
          ∙ (unfold bits_i16 in omega (arith, (near_both a b n).0, (near_both a b n).1, ltb-true a b h))
      go false h =
          ap bits_i16 (sub_up a b (ltb-false a b h))
          ∙ (unfold bits_i16 in omega (arith, (near_both a b n).0, (near_both a b n).1, ltb-false a b h))

regroup : (pre q x post : List ℕ) → (pre ++ q) ++ (x ++ post) ≡ pre ++ ((q ++ x) ++ post)
regroup pre q x post = simp append_assoc

length_owner : (o : Owner) (n : ℕ) → length (framed (owner_op_code o) (owner_payload o n)) ≡ 5 + length (owner_fields o)
length_owner o n = length_framed (owner_op_code o) (owner_payload o n) (owner_long o) ∙ omega (arith, length-owner_payload o n, length-owner_fields o)

-- ---- all offsets; `all` has every record of a label

module _ (all : List Event) where
  -- a branch's bits after patch_labels
  abbrev pub bits : ℕ → ℕ → ℕ
  bits l p = distance_bits (lookup l all) p

  -- label_positions
  abbrev table : Map ℕ
  table = recorded all []

  -- the first branch that goes too far
  unfoldable pub first_far : List Event → Option EncoderError
  first_far [] = none
  first_far (label_at l s ∷ es) = first_far es
  first_far (branch_at l s ∷ es) = first_of (far_branch (lookup l all) (s.at + 2)) (first_far es)
  first_far (payload_too_long n s ∷ es) = first_far es
  first_far (body_too_long n s ∷ es) = first_far es

  far_append : (xs ys : List Event) → first_far (xs ++ ys) ≡ first_of (first_far xs) (first_far ys)
  unfolding first_far
  far_append [] ys = unfold first_of in refl
  far_append (label_at l s ∷ xs) ys = far_append xs ys
  far_append (branch_at l s ∷ xs) ys =
      ap (first_of (far_branch (lookup l all) (s.at + 2))) (far_append xs ys)
      ∙ sym (first_assoc (far_branch (lookup l all) (s.at + 2)) (first_far xs) (first_far ys))
  far_append (payload_too_long n s ∷ xs) ys = far_append xs ys
  far_append (body_too_long n s ∷ xs) ys = far_append xs ys

  -- the branches of es turn one output into another, or the first that is too far ends it
  pub record Turns (es : List Event) (out out' : List ℕ) : Type 0 where
    pub turns : (w rest : List PendingLabelWrite)
        → for_each patch_label (pending_of es ++ rest) (encoder out w table) ≡ or_err (first_far es) (for_each patch_label rest (encoder out' w table))

  -- where no branch is
  turns_quiet : (es : List Event) (out : List ℕ) → pending_of es ≡ [] → first_far es ≡ none → Turns es out out
  unfolding or_err
  turns_quiet es out hl hf = record { turns = λ w rest. rw (hl, hf) }

  or_err_first : (o o' : Option EncoderError) (r : Result) → or_err o (or_err o' r) ≡ or_err (first_of o o') r
  unfolding or_err first_of
  or_err_first none o' r = refl
  or_err_first (some x) o' r = refl

  turns_then : {xs ys : List Event} {o₁ o₂ o₃ : List ℕ} → Turns xs o₁ o₂ → Turns ys o₂ o₃ → Turns (xs ++ ys) o₁ o₃
  turns_then {xs} {ys} {o₁} {o₂} {o₃} a b = record { turns = λ w rest. go w rest }
    where
      go : (w rest : List PendingLabelWrite)
          → for_each patch_label (pending_of (xs ++ ys) ++ rest) (encoder o₁ w table)
          ≡ or_err (first_far (xs ++ ys)) (for_each patch_label rest (encoder o₃ w table))
      go w rest =
          rw (pending_append xs ys, append_assoc (pending_of xs) (pending_of ys) rest, far_append xs ys)
          (a.turns w (pending_of ys ++ rest) ∙ ap (or_err (first_far xs)) (b.turns w rest) ∙ or_err_first (first_far xs) (first_far ys) _)

  pub turns_as : {xs xs' : List Event} {o₁ o₁' o₂ o₂' : List ℕ} → Turns xs o₁ o₂ → xs ≡ xs' → o₁ ≡ o₁' → o₂ ≡ o₂' → Turns xs' o₁' o₂'
  turns_as a e₀ e₁ e₂ = rw (← e₀, ← e₁, ← e₂) a

  label_is : (l : ℕ) → get l table ≡ position_of none (lookup l all)
  label_is l = get_recorded all [] l ∙ (unfold get in refl)

  module _ (l q : ℕ) (pre post : List ℕ) (hq : length pre ≡ q) (w : List PendingLabelWrite) where
    abbrev pending : PendingLabelWrite
    pending = record { label = l; offset_pos = q }

    -- the offset is counted from the end of the operand
    offset_is : (a : ℕ) → offset_to a pending ≡ sub_ℕ a (q + 2)
    unfolding offset_to
    offset_is a = refl

    -- of a label that was recorded
    near_patch : (s : Position) (t : Bool) → is_near s.at (q + 2) ≡ t
        → patch_position (some s.at) pending (encoder (pre ++ (le16 0 ++ post)) w table)
        ≡ or_err (far_if t (sub_ℕ s.at (q + 2))) (ok (encoder (pre ++ (le16 ((s.at + 65536 - (q + 2)) % 65536) ++ post)) w table))
    unfolding patch_position patch_offset or_err far_if
    near_patch s true h =
        rw (offset_is s.at, fits_near s.at (q + 2), h, bits_are s.at (q + 2) h)
        (unfold two_le_bytes le16 in copy_at pre post (le16 ((s.at + 65536 - (q + 2)) % 65536)) q w table (sym hq))
    near_patch s false h = rw (offset_is s.at, fits_near s.at (q + 2), h)

    position_patch : (o : Option Position)
        → patch_position (position_of none o) pending (encoder (pre ++ (le16 0 ++ post)) w table)
        ≡ or_err (far_branch o (q + 2)) (ok (encoder (pre ++ (le16 (distance_bits o (q + 2)) ++ post)) w table))
    position_patch none = unfold patch_position far_branch distance_bits or_err in refl
    position_patch (some s) = unfold far_branch distance_bits in near_patch s (is_near s.at (q + 2)) refl

    -- the loop's body: the label is looked up, and its offset put in place
    label_patch : patch_label pending (encoder (pre ++ (le16 0 ++ post)) w table)
        ≡ or_err (far_branch (lookup l all) (q + 2)) (ok (encoder (pre ++ (le16 (bits l (q + 2)) ++ post)) w table))
    unfolding patch_label
    label_patch =
        ap (λ (o : Option ℕ). patch_position o pending (encoder (pre ++ (le16 0 ++ post)) w table)) (label_is l) ∙ position_patch (lookup l all)

  after_or_err : (o : Option EncoderError) (e : ActionEncoder) (k : Writing) → after (or_err o (ok e)) k ≡ or_err (first_of o none) (k e)
  unfolding after or_err first_of
  after_or_err none e k = refl
  after_or_err (some x) e k = refl

  turns_operand : (l : ℕ) (s : Position) (pre post : List ℕ) → length pre ≡ s.at
      → Turns (branch_at l s ∷ []) (pre ++ (le16 0 ++ post)) (pre ++ (le16 (bits l (s.at + 2)) ++ post))
  unfolding pending_of first_far for_each
  turns_operand l s pre post hq =
      record {
        turns = λ w rest. ap (λ (r : Result). after r (for_each patch_label rest)) (label_patch l s.at pre post hq w)
            ∙ after_or_err (far_branch (lookup l all) (s.at + 2)) _ (for_each patch_label rest);
      }

  branch_parts : (op : OpCode) (n : ℕ) (pre post : List ℕ) → ltb (byte op) 128 ≡ false
      → (pre ++ (byte op ∷ le16 2)) ++ (le16 n ++ post) ≡ pre ++ (framed op (le16 n) ++ post)
  unfolding le16
  branch_parts op n pre post h =
      append_assoc pre (byte op ∷ le16 2) (le16 n ++ post) ∙ ap (λ (t : List ℕ). pre ++ (t ++ post)) (sym (framed_long op (le16 n) h))

  turns_branch : (k : Branch) (l : ℕ) (s : Position) (pre post : List ℕ) → length pre ≡ s.at
      → Turns (branch_at l (to_operand s) ∷ []) (pre ++ (framed (branch_op_code k) (le16 0) ++ post))
      (pre ++ (framed (branch_op_code k) (le16 (bits l (s.at + 5))) ++ post))
  unfolding moved
  turns_branch k l s pre post h =
      let hd : List ℕ = byte (branch_op_code k) ∷ le16 2 in
      let e : s.at + 3 + 2 ≡ s.at + 5 = omega arith in
      turns_as (turns_operand l (to_operand s) (pre ++ hd) post
      (length-append pre hd ∙ ap₂ (λ (x y : ℕ). x + y) h (unfold le16 in refl))) refl
      (branch_parts (branch_op_code k) 0 pre post (branch_long k))
      (branch_parts (branch_op_code k) (bits l (s.at + 3 + 2)) pre post (branch_long k)
      ∙ ap (λ (n : ℕ). pre ++ (framed (branch_op_code k) (le16 (bits l n)) ++ post)) e)

  -- ---- what is no branch

  event_quiet_if : (t : Bool) (e : Event) → pending_of (e ∷ []) ≡ [] → first_far (e ∷ []) ≡ none → (out : List ℕ) → Turns (event_if t e) out out
  unfolding event_if
  event_quiet_if true e hl hf out = turns_quiet (e ∷ []) out hl hf
  event_quiet_if false e hl hf out = turns_quiet [] out (unfold pending_of in refl) (unfold first_far in refl)

  payload_quiet : (n : ℕ) (s : Position) (out : List ℕ) → Turns (payload_test n s) out out
  unfolding payload_test pending_of first_far
  payload_quiet n s out = event_quiet_if (ltb 65535 n) (payload_too_long n s) refl refl out

  event_quiet : (n : ℕ) (s : Position) (out : List ℕ) → Turns (body_test n s) out out
  unfolding body_test pending_of first_far
  event_quiet n s out = event_quiet_if (ltb 65535 n) (body_too_long n s) refl refl out

  labels_quiet : (es : List Entry) (i : ActionIndex) (s : Position) (out : List ℕ) → Turns (labels_at es i s) out out
  unfolding labels_at
  labels_quiet [] i s out = turns_quiet [] out (unfold pending_of in refl) (unfold first_far in refl)
  labels_quiet (entry l j ∷ es) i s out =
      turns_then
      (event_quiet_if (eqb i.index j.index) (label_at l s) (unfold pending_of in refl) (unfold first_far in refl) out) (labels_quiet es i s out)

  none_quiet : (out : List ℕ) → Turns [] out out
  unfolding pending_of first_far
  none_quiet out = turns_quiet [] out refl refl

  -- ---- trees: with every branch at 0, and with its bits

  mutual
    unfolding trace bytes moved try_payload

    turns_action : (a : Action) (s : Position) (pre post : List ℕ) → length pre ≡ s.at
        → Turns (trace a s) (pre ++ (bytes blank a s.at ++ post)) (pre ++ (bytes bits a s.at ++ post))
    turns_action (flat f) s pre post h = payload_quiet (length (payload f)) s (pre ++ (framed (opcode f) (payload f) ++ post))
    turns_action (branch k l) s pre post h = turns_branch k l s pre post h
    turns_action (owner d b) s pre post h =
        let n : ℕ = (to_body d s).at in
        let q : List ℕ = framed (owner_op_code d) (owner_payload d (body_size b)) in
        let l : length q ≡ 5 + length (owner_fields d) = length_owner d (body_size b) in
        turns_as
        (turns_then (payload_quiet (length (owner_fields d) + 2) s ((pre ++ q) ++ (body_bytes blank b n ++ post)))
        (turns_then (turns_body b (to_body d s) (pre ++ q) post (omega (arith, length-append pre q))) (event_quiet (body_size b) s ((pre ++ q) ++ (body_bytes bits b n ++ post)))))
        refl (regroup pre q (body_bytes blank b n) post) (regroup pre q (body_bytes bits b n) post)
    turns_action (Try b c f) s pre post h =
        let m : ℕ = 10 + length (catch_name c) in
        let n : ℕ = (to_try c s).at in
        let n₁ : ℕ = (to_catch b c s).at in
        let n₂ : ℕ = (to_finally b c s).at in
        let q : List ℕ = framed OpCode.Try (try_payload (catch_shape c + finally_shape f) (body_size b) (catch_size c) (finally_size f) (catch_name c)) in
        let l : length q ≡ m = length_framed OpCode.Try _ try_long ∙ ap (λ (k : ℕ). 3 + k) (length-try_payload (catch_shape c + finally_shape f) (body_size b) (catch_size c) (finally_size f) (catch_name c)) ∙ omega arith in
        let x : List ℕ = body_bytes blank b n in
        let y : List ℕ = catch_bytes blank c n₁ in
        let z : List ℕ = finally_bytes blank f n₂ in
        let x' : List ℕ = body_bytes bits b n in
        let y' : List ℕ = catch_bytes bits c n₁ in
        let z' : List ℕ = finally_bytes bits f n₂ in
        let lq : length (pre ++ q) ≡ n = omega (arith, length-append pre q) in
        let l₁ : length ((pre ++ q) ++ x') ≡ n₁ = omega (arith, length-append (pre ++ q) x', length_body bits b n) in
        let l₂ : length (((pre ++ q) ++ x') ++ y') ≡ n₂ = omega (arith, length-append ((pre ++ q) ++ x') y', length_catch bits c n₁) in
        let d₁ : Turns (trace_body b (to_try c s)) (pre ++ ((q ++ (x ++ (y ++ z))) ++ post)) (pre ++ ((q ++ (x' ++ (y ++ z))) ++ post)) =
        turns_as (turns_body b (to_try c s) (pre ++ q) (y ++ (z ++ post)) lq) refl (simp append_assoc) (simp append_assoc) in
        let d₂ : Turns (trace_catch c (to_catch b c s)) (pre ++ ((q ++ (x' ++ (y ++ z))) ++ post)) (pre ++ ((q ++ (x' ++ (y' ++ z))) ++ post)) =
        turns_as (turns_catch c (to_catch b c s) ((pre ++ q) ++ x') (z ++ post) l₁) refl (simp append_assoc) (simp append_assoc) in
        let d₃ : Turns (trace_finally f (to_finally b c s)) (pre ++ ((q ++ (x' ++ (y' ++ z))) ++ post)) (pre ++ ((q ++ (x' ++ (y' ++ z'))) ++ post)) =
        turns_as (turns_finally f (to_finally b c s) (((pre ++ q) ++ x') ++ y') post l₂) refl (simp append_assoc) (simp append_assoc) in
        let o : List ℕ = pre ++ ((q ++ (x' ++ (y' ++ z'))) ++ post) in
        turns_then (payload_quiet (7 + length (catch_name c)) s _)
        (turns_then d₁
        (turns_then d₂
        (turns_then d₃
        (turns_then (event_quiet (body_size b) s o) (turns_then (event_quiet (catch_size c) s o) (event_quiet (finally_size f) s o))))))

    turns_actions : (xs : ActionList) (es : List Entry) (i : ActionIndex) (s : Position) (pre post : List ℕ) → length pre ≡ s.at
        → Turns (traces xs es i s) (pre ++ (actions_bytes blank xs s.at ++ post)) (pre ++ (actions_bytes bits xs s.at ++ post))
    turns_actions empty es i s pre post h = labels_quiet es i s (pre ++ post)
    turns_actions (more a xs) es i s pre post h =
        let n : ℕ = (past a s).at in
        let x : List ℕ = bytes bits a s.at in
        turns_then (labels_quiet es i s _)
        (turns_then
        (turns_as (turns_action a s pre (actions_bytes blank xs n ++ post) h) refl (ap (λ (t : List ℕ). pre ++ t) (sym (append_assoc (bytes blank a s.at) (actions_bytes blank xs n) post))) refl)
        (turns_as (turns_actions xs es (next_action i) (past a s) (pre ++ x) post (omega (arith, length-append pre x, length_bytes bits a s.at))) refl (append_assoc pre x (actions_bytes blank xs n ++ post)) (regroup pre x (actions_bytes bits xs n) post)))

    pub turns_body : (b : Actions) (s : Position) (pre post : List ℕ) → length pre ≡ s.at
        → Turns (trace_body b s) (pre ++ (body_bytes blank b s.at ++ post)) (pre ++ (body_bytes bits b s.at ++ post))
    turns_body (body es xs) s pre post h = turns_actions xs es first_action s pre post h

    turns_catch : (c : Catch) (s : Position) (pre post : List ℕ) → length pre ≡ s.at
        → Turns (trace_catch c s) (pre ++ (catch_bytes blank c s.at ++ post)) (pre ++ (catch_bytes bits c s.at ++ post))
    turns_catch no_catch s pre post h = none_quiet (pre ++ post)
    turns_catch (catch t b) s pre post h = turns_body b s pre post h

    turns_finally : (f : Finally) (s : Position) (pre post : List ℕ) → length pre ≡ s.at
        → Turns (trace_finally f s) (pre ++ (finally_bytes blank f s.at ++ post)) (pre ++ (finally_bytes bits f s.at ++ post))
    turns_finally no_finally s pre post h = none_quiet (pre ++ post)
    turns_finally (finally b) s pre post h = turns_body b s pre post h
