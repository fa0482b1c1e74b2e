-- What a step of source 000's ActionEncoder does: it follows a list of the definitions' events and appends bytes. Then the
-- first steps: labels recorded, and an action's header. Assumes nothing.
use Rattle.std.specs.Prelude.{◌≡◌, ℕ, ◌+◌, ◌/◌, ◌%◌, Bool, length, leb, ltb, eqb}
use Rattle.std.proofs.Math.Path.{refl, sym, ap}
use Rattle.std.proofs.Common.{ap₂, ◌∙◌, arith, length-append}
use Rattle.std.proofs.Math.Bool.{true, false}
use Rattle.std.proofs.Math.Option.{Option, none, some}
use mathlib.Core.List.{List, [], ◌∷◌, ◌++◌, append_assoc, append-nil}
use borrow.Author.Tests.{ltb-true, ltb-false, leb-true, leb-false, le-leb, lt-leb, lt-ltb, le-ltb, eqb-true, eqb-false, eq-eqb, ne_eqb}
use Rattle.layout.specs.Numbers.{le16}
use Rattle.layout.specs.OpCode.{OpCode, byte}
use Rattle.layout.specs.Tree.{ActionIndex, Entry, entry}
use Rattle.layout.specs.Payload.{framed}
use Rattle.layout.specs.Write.{Position, Event, label_at, branch_at, payload_too_long, body_too_long, event_if, payload_test, labels_at}
use Rattle.layout.proofs.Lengths.{framed_long}
use Rattle.agreement.specs.Source.{PendingLabelWrite, Map, ActionEncoder, EncoderError, Result, ok, Writing, after, ◌>>◌, pass, for_each, if_then, assert, gotten, get, insert, push_here, push_at, put, write_u8, two_le_bytes, write_u16, insert_label, insert_labels, labels_into, labels_per_pos, write_length, write_opcode_and_length, write_action_header}
use Rattle.agreement.specs.SourceSteps.{Does, encoder, first_of, first_overflow, label_all, labels_if, labels_of, list_of, pending_of, perform, recorded, result_of}

pub overflow_append : (xs ys : List Event) → first_overflow (xs ++ ys) ≡ first_of (first_overflow xs) (first_overflow ys)
unfolding first_overflow first_of
overflow_append [] ys = refl
overflow_append (label_at l s ∷ xs) ys = overflow_append xs ys
overflow_append (branch_at l s ∷ xs) ys = overflow_append xs ys
overflow_append (payload_too_long n s ∷ xs) ys = refl
overflow_append (body_too_long n s ∷ xs) ys = refl

pub pending_append : (xs ys : List Event) → pending_of (xs ++ ys) ≡ pending_of xs ++ pending_of ys
unfolding pending_of
pending_append [] ys = refl
pending_append (label_at l s ∷ xs) ys = pending_append xs ys
pending_append (branch_at l s ∷ xs) ys = ap (λ (zs : List PendingLabelWrite). record { label = l; offset_pos = s.at } ∷ zs) (pending_append xs ys)
pending_append (payload_too_long n s ∷ xs) ys = pending_append xs ys
pending_append (body_too_long n s ∷ xs) ys = pending_append xs ys

pub recorded_append : (xs ys : List Event) (m : Map ℕ) → recorded (xs ++ ys) m ≡ recorded ys (recorded xs m)
unfolding recorded
recorded_append [] ys m = refl
recorded_append (label_at l s ∷ xs) ys m = recorded_append xs ys (insert l s.at m)
recorded_append (branch_at l s ∷ xs) ys m = recorded_append xs ys m
recorded_append (payload_too_long n s ∷ xs) ys m = recorded_append xs ys m
recorded_append (body_too_long n s ∷ xs) ys m = recorded_append xs ys m

pub does_pass : {p : ℕ} → Does pass p [] []
unfolding perform result_of first_overflow pending_of recorded
does_pass =
    record {
      does = λ e h. ap₂ (λ (o : List ℕ) (w : List PendingLabelWrite). ok (encoder o w e.label_positions))
          (sym (append-nil e.output)) (sym (append-nil e.pending_label_writes));
    }

pub does_put : {p : ℕ} (q : List ℕ) → Does (put q) p [] q
unfolding put perform result_of first_overflow pending_of recorded
does_put q =
    record {
      does = λ e h. ap (λ (w : List PendingLabelWrite). ok (encoder (e.output ++ q) w e.label_positions))
          (sym (append-nil e.pending_label_writes));
    }

module _ (xs ys : List Event) (q r : List ℕ) (e : ActionEncoder) where
  -- the encoder between two functions, and after both
  abbrev between : ActionEncoder
  between = encoder (e.output ++ q) (e.pending_label_writes ++ pending_of xs) (recorded xs e.label_positions)

  abbrev after_both : ActionEncoder
  after_both = encoder ((e.output ++ q) ++ r) ((e.pending_label_writes ++ pending_of xs) ++ pending_of ys) (recorded ys (recorded xs e.label_positions))

  perform_append : perform (xs ++ ys) (q ++ r) e ≡ result_of (first_of (first_overflow xs) (first_overflow ys)) after_both
  unfolding perform
  perform_append =
      rw (
        overflow_append xs ys,
        pending_append xs ys,
        recorded_append xs ys e.label_positions,
        append_assoc e.output q r,
        append_assoc e.pending_label_writes (pending_of xs) (pending_of ys),
      )

  then_by : (k : Writing) → k between ≡ perform ys r between → after (perform xs q e) k ≡ perform (xs ++ ys) (q ++ r) e
  then_by k h = go (first_overflow xs) refl ∙ sym perform_append
    where
      go : (o : Option EncoderError) → first_overflow xs ≡ o
          → after (perform xs q e) k ≡ result_of (first_of (first_overflow xs) (first_overflow ys)) after_both
      go none z = unfold perform result_of first_of after in rw z h
      go (some x) z = unfold perform result_of first_of after in rw z

-- one function after another
pub does_then : {m k : Writing} {p : ℕ} {xs ys : List Event} {q r : List ℕ} → Does m p xs q → Does k (p + length q) ys r
    → Does (m >> k) p (xs ++ ys) (q ++ r)
does_then {m} {k} {p} {xs} {ys} {q} {r} a b =
    record {
      does = λ e h. ap (λ (x : Result). after x k) (a.does e h)
          ∙ then_by xs ys q r e k (b.does (between xs ys q r e) (omega (arith, length-append e.output q)));
    }

-- the same events and bytes, or the same position, said otherwise
pub does_as : {m : Writing} {p : ℕ} {xs xs' : List Event} {q q' : List ℕ} → Does m p xs q → xs ≡ xs' → q ≡ q' → Does m p xs' q'
does_as {m} {p} a ex eq = record { does = λ e h. a.does e h ∙ ap₂ (λ (x : List Event) (y : List ℕ). perform x y e) ex eq }

pub does_at : {m : Writing} {p p' : ℕ} {xs : List Event} {q : List ℕ} → Does m p xs q → p' ≡ p → Does m p' xs q
does_at a h = record { does = λ e k. a.does e (k ∙ h) }

label_append : (s : Position) (ks ls : List ℕ) → label_all s (ks ++ ls) ≡ label_all s ks ++ label_all s ls
unfolding label_all
label_append s [] ls = refl
label_append s (k ∷ ks) ls = ap (λ (es : List Event). label_at k s ∷ es) (label_append s ks ls)

labels_are : (es : List Entry) (i : ActionIndex) (s : Position) → label_all s (labels_of i.index es) ≡ labels_at es i s
unfolding label_all labels_of labels_at
labels_are [] i s = refl
labels_are (entry l j ∷ es) i s =
    label_append s (labels_if (eqb i.index j.index) l) (labels_of i.index es)
    ∙ ap₂ (λ (x y : List Event). x ++ y) (go (eqb i.index j.index)) (labels_are es i s)
  where
    go : (t : Bool) → label_all s (labels_if t l) ≡ event_if t (label_at l s)
    go true = unfold label_all labels_if event_if in refl
    go false = unfold label_all labels_if event_if in refl

get_push : (i j l : ℕ) (m : Map (List ℕ)) → list_of (get i (push_at j l m)) ≡ list_of (get i m) ++ labels_if (eqb i j) l
unfolding get push_at list_of
get_push i j l [] = go (eqb i j)
  where
    go : (t : Bool) → list_of (gotten t (l ∷ []) none) ≡ labels_if t l
    go true = unfold list_of gotten labels_if in refl
    go false = unfold list_of gotten labels_if in refl
get_push i j l (x ∷ m) = go (eqb j x.0) refl (eqb i x.0) refl (get_push i j l m)
  where
    go : (t : Bool) → eqb j x.0 ≡ t → (u : Bool) → eqb i x.0 ≡ u
        → list_of (get i (push_at j l m)) ≡ list_of (get i m) ++ labels_if (eqb i j) l
        → list_of (get i (push_here t l x m (push_at j l m))) ≡ list_of (gotten (eqb i x.0) x.1 (get i m)) ++ labels_if (eqb i j) l
    go true ht true hu ih = unfold get push_here gotten list_of labels_if in
        (rw (hu, eq-eqb i j (omega (arith, eqb-true j x.0 ht, eqb-true i x.0 hu))))
    go true ht false hu ih = unfold get push_here gotten list_of labels_if in
        (rw (hu, ne_eqb i j (λ k. eqb-false i x.0 hu (k ∙ eqb-true j x.0 ht)), append-nil (list_of (get i m))))
    go false ht true hu ih = unfold get push_here gotten list_of labels_if in
        (rw (hu, ne_eqb i j (λ k. eqb-false j x.0 ht (sym k ∙ eqb-true i x.0 hu)), append-nil x.1))
    go false ht false hu ih = unfold get push_here gotten in (rw hu ih)

get_labels : (es : List Entry) (m : Map (List ℕ)) (i : ℕ) → list_of (get i (labels_into m es)) ≡ list_of (get i m) ++ labels_of i es
unfolding labels_into labels_of
get_labels [] m i = sym (append-nil (list_of (get i m)))
get_labels (entry l j ∷ es) m i =
    get_labels es (push_at j.index l m) i
    ∙ ap (λ (x : List ℕ). x ++ labels_of i es) (get_push i j.index l m)
    ∙ append_assoc (list_of (get i m)) (labels_if (eqb i j.index) l) (labels_of i es)

does_label : (l : ℕ) (s : Position) → Does (insert_label l) s.at (label_at l s ∷ []) []
unfolding insert_label perform result_of first_overflow pending_of recorded insert
does_label l s =
    record { does = λ e h. rw (h, append-nil e.output, append-nil e.pending_label_writes) }

does_labels : (ls : List ℕ) (s : Position) → Does (for_each insert_label ls) s.at (label_all s ls) []
unfolding for_each label_all
does_labels [] s = does_pass
does_labels (l ∷ ls) s = does_then (does_label l s) (does_at (does_labels ls s) (omega arith))

-- the labels of an index are recorded
pub does_entries : (es : List Entry) (i : ActionIndex) (s : Position)
    → Does (insert_labels (get i.index (labels_per_pos es))) s.at (labels_at es i s) []
unfolding labels_per_pos
does_entries es i s = go (get i.index (labels_into [] es)) (get_labels es [] i.index)
  where
    go : (o : Option (List ℕ)) → list_of o ≡ list_of (get i.index []) ++ labels_of i.index es
        → Does (insert_labels o) s.at (labels_at es i s) []
    go none h =
        unfold insert_labels list_of get label_all in
        does_as does_pass (ap (label_all s) h ∙ labels_are es i s) refl
    go (some ls) h =
        unfold insert_labels list_of get in
        does_as (does_labels ls s) (ap (label_all s) h ∙ labels_are es i s) refl

-- ---- headers

-- an opcode from 80 on, and a length that is tested
pub does_header : (op : OpCode) (n p : ℕ) (s : Position) → ltb (byte op) 128 ≡ false
    → Does (write_action_header op n) p (payload_test n s) (byte op ∷ le16 n)
does_header op n p s h = record { does = λ e k. go (leb n 65535) refl e }
  where
    go : (t : Bool) → leb n 65535 ≡ t → (e : ActionEncoder) → write_action_header op n e ≡ perform (payload_test n s) (byte op ∷ le16 n) e
    go true z e =
        unfold write_action_header write_opcode_and_length write_u8 put after assert if_then write_length write_u16 perform result_of payload_test event_if first_overflow pending_of recorded two_le_bytes le16 in
        (rw (
          le-leb 128 (byte op) (ltb-false (byte op) 128 h),
          z,
          le-ltb 65535 n (leb-true n 65535 z),
          append-nil e.pending_label_writes,
          append_assoc e.output (byte op ∷ []) (n % 256 ∷ n / 256 % 256 ∷ []),
        ))
    go false z e =
        unfold write_action_header write_opcode_and_length write_u8 put after assert if_then write_length write_u16 perform result_of payload_test event_if first_overflow in
        (rw (le-leb 128 (byte op) (ltb-false (byte op) 128 h), z, lt-ltb 65535 n (leb-false n 65535 z)))

-- an opcode under 80 stands alone
pub does_short : (op : OpCode) (p : ℕ) → ltb (byte op) 128 ≡ true → Does (write_action_header op 0) p [] (byte op ∷ [])
unfolding write_action_header write_opcode_and_length write_u8 put after assert if_then perform result_of first_overflow pending_of recorded
does_short op p h =
    record { does = λ e k. rw (lt-leb 128 (byte op) (ltb-true (byte op) 128 h), append-nil e.pending_label_writes) }

-- a header and a payload
pub does_framed : {k : Writing} (op : OpCode) (n p : ℕ) (s : Position) (q : List ℕ) → ltb (byte op) 128 ≡ false → n ≡ length q
    → Does k (p + 3) [] q
    → Does (write_action_header op n >> k) p (payload_test (length q) s) (framed op q)
does_framed op n p s q h e a =
    does_as (does_then (does_header op n p s h) (does_at a (unfold le16 in refl)))
    (append-nil (payload_test n s) ∙ ap (λ (m : ℕ). payload_test m s) e)
    (ap (λ (m : ℕ). byte op ∷ (le16 m ++ q)) e ∙ sym (framed_long op q h))
