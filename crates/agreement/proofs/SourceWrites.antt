-- What each function of source 000's ActionEncoder writes before patch_labels: the definitions' events, and their bytes with
-- every branch still 0. Assumes nothing.
use Rattle.std.specs.Prelude.{◌≡◌, Bool, drop, leb, ltb, eqb}
use Rattle.std.proofs.Math.Path.{refl, sym, ap}
use Rattle.std.proofs.Common.{ap₂, ◌∙◌, subst, take_at}
use Prim.Native.Nat.{ℕ, zero, suc, ◌+◌, ◌-◌, ◌*◌, ◌/◌, ◌%◌, ◌<◌}
use native.Mathlib.Omega.{arith}
use Rattle.std.proofs.Math.Bool.{true, false}
use Rattle.std.proofs.Math.Option.{Option, none, some}
use mathlib.Core.List.{List, [], ◌∷◌, ◌++◌, append_assoc, append-nil}
use Rattle.std.proofs.Math.ListN.{length, length-append}
use Rattle.std.proofs.Math.Seq.{drop_at}
use borrow.Author.Tests.{leb-true, leb-false, le-leb, lt-ltb, le-ltb, eqb-true, eqb-false}
use Rattle.layout.specs.Numbers.{le16, le32, bit}
use Rattle.layout.specs.OpCode.{OpCode, SmallOpCode, byte}
use Rattle.layout.specs.Tree.{PushValue, String, Null, Undefined, Register, Boolean, Float, Integer, Constant, FunctionParam, function_param, Flat, Small, GotoFrame, GetUrl, StoreRegister, ConstantPool, WaitForFrame, SetTarget, GotoLabel, WaitForFrame2, Push, GetUrl2, GotoFrame2, Owner, With, DefineFunction, DefineFunction2, Branch, Jump, If, Variable, ActionIndex, first_action, next_action, Entry, Action, flat, branch, owner, Try, ActionList, empty, more, Actions, body, Catch, no_catch, catch, Finally, no_finally, finally}
use Rattle.layout.specs.Payload.{zero_ended, strings_bytes, constant_bytes, double_bytes, push_bytes, pushes_bytes, opcode, goto_frame2_bytes, get_url2_bits, payload, params_bytes, owner_op_code, owner_fields, owner_payload, branch_op_code, catch_shape, finally_shape, catch_name, try_payload, headed, framed}
use Rattle.layout.specs.Write.{size, body_size, catch_size, finally_size, Position, moved, to_operand, to_body, to_try, to_catch, to_finally, past, Event, branch_at, body_too_long, event_if, payload_test, body_test, labels_at, trace, traces, trace_body, trace_catch, trace_finally, bytes, actions_bytes, body_bytes, catch_bytes, finally_bytes}
use Rattle.layout.proofs.Lengths.{length_le16, length-zero_ended, length-try_payload, framed_long, try_long, framed_short, length_bytes, length_body, length_catch, length_finally}
use Rattle.laws.specs.Fits.{OwnerFits, Well, WellActions, WellBody, WellCatch, WellFinally}
use Rattle.agreement.specs.Source.{PendingLabelWrite, Map, ActionEncoder, EncoderError, Result, ok, err, panicked, Writing, after, ◌>>◌, for_each, fold, if_else, assert, get, put, write_u8, two_le_bytes, write_u16, write_i16, write_i32, write_u64, write_string, copied, copy_from_slice, rotate_left_32, write_f64_me, insert_labels, labels_per_pos, write_action_header, write_small_action, write_goto_frame, write_goto_frame_2, write_goto_label, write_constant_pool, write_block_length, write_block_length_at, flag_bit, function_flags, write_param, param_name, is_some_catch, is_register, is_some_finally, try_flags, target_len, write_target, push_label_write, write_if, write_jump, value_len, write_constant, write_push_value, write_push, write_set_target, write_store_register, write_get_url, write_get_url_2, write_wait_for_frame, write_wait_for_frame_2, write_flat, write_define_function, write_define_function_2, write_with, patch_sizes, write_try, count, write_labelled, write_actions, write_each, write_action, write_catch, write_finally}
use Rattle.agreement.specs.SourceSteps.{first_overflow, pending_of, recorded, first_of, result_of, encoder, perform, Does}
use Rattle.agreement.proofs.SourceSteps.{overflow_append, pending_append, recorded_append, does_pass, does_put, does_then, does_as, does_at, does_entries, does_header, does_short, does_framed}
use Rattle.agreement.specs.SourceWrites.{blank, block_tail, try_tail}

-- ---- the lengths that the source adds up are those of the bytes

fold_strings : (n : ℕ) (ss : List (List ℕ)) → fold (λ sum c. sum + (length c + 1)) n ss ≡ n + length (strings_bytes ss)
unfolding fold strings_bytes zero_ended
fold_strings n [] = omega arith
fold_strings n (s ∷ ss) =
    fold_strings (n + (length s + 1)) ss ∙ omega (arith, length-append (s ++ 0 ∷ []) (strings_bytes ss), length-append s (0 ∷ []))

fold_params : (n : ℕ) (ps : List FunctionParam) → fold (λ sum p. sum + (length (param_name p) + 2)) n ps ≡ n + length (params_bytes ps)
unfolding fold params_bytes zero_ended param_name
fold_params n [] = omega arith
fold_params n (function_param r s ∷ ps) =
    fold_params (n + (length s + 2)) ps ∙ omega (arith, length-append (s ++ 0 ∷ []) (params_bytes ps), length-append s (0 ∷ []))

value_length : (v : PushValue) → value_len v ≡ length (push_bytes v)
unfolding value_len push_bytes double_bytes zero_ended le32 le16
value_length (String s) = omega (arith, length-append s (0 ∷ []))
value_length Null = refl
value_length Undefined = refl
value_length (Register r) = refl
value_length (Boolean b) = refl
value_length (Float w) = refl
value_length (Integer w) = refl
value_length (Constant n) = go (ltb n 256)
  where
    go : (t : Bool) → if_else t 2 3 ≡ length (constant_bytes t n)
    go true = unfold if_else constant_bytes in refl
    go false = unfold if_else constant_bytes le16 in refl

fold_values : (n : ℕ) (vs : List PushValue) → fold (λ sum v. sum + value_len v) n vs ≡ n + length (pushes_bytes vs)
unfolding fold pushes_bytes
fold_values n [] = omega arith
fold_values n (v ∷ vs) = fold_values (n + value_len v) vs ∙ omega (arith, length-append (push_bytes v) (pushes_bytes vs), value_length v)

-- ---- strings, numbers and push values

does_string : (s : List ℕ) (p : ℕ) → Does (write_string s) p [] (zero_ended s)
unfolding write_string zero_ended
does_string s p = does_put (s ++ 0 ∷ [])

does_u8 : (n p : ℕ) → Does (write_u8 n) p [] (n ∷ [])
unfolding write_u8
does_u8 n p = does_put (n ∷ [])

does_u16 : (n p : ℕ) → Does (write_u16 n) p [] (le16 n)
unfolding write_u16 two_le_bytes le16
does_u16 n p = does_put (n % 256 ∷ n / 256 % 256 ∷ [])

does_i16 : (n p : ℕ) → Does (write_i16 n) p [] (le16 n)
unfolding write_i16 two_le_bytes le16
does_i16 n p = does_put (n % 256 ∷ n / 256 % 256 ∷ [])

does_strings : (ss : List (List ℕ)) (p : ℕ) → Does (for_each write_string ss) p [] (strings_bytes ss)
unfolding for_each strings_bytes
does_strings [] p = does_pass
does_strings (s ∷ ss) p = does_then (does_string s p) (does_strings ss (p + length (zero_ended s)))

does_param : (r : ℕ) (s : List ℕ) (p : ℕ) → Does (write_param (function_param r s)) p [] (r ∷ zero_ended s)
unfolding write_param
does_param r s p = does_then (does_u8 r p) (does_string s (p + 1))

does_params : (ps : List FunctionParam) (p : ℕ) → Does (for_each write_param ps) p [] (params_bytes ps)
unfolding for_each params_bytes
does_params [] p = does_pass
does_params (function_param r s ∷ ps) p = does_then (does_param r s p) (does_params ps (p + length (r ∷ zero_ended s)))

-- a multiple of 256 changes no lowest byte, and one of the 32nd power of two none of the lowest four
lowest : (n a x : ℕ) → n ≡ 256 * a + x → n % 256 ≡ x % 256
lowest n a x h = rw h (omega arith)

lowest_four : (n a x : ℕ) → n ≡ 4294967296 * a + x
    → (n % 256 ≡ x % 256) × (n / 256 % 256 ≡ x / 256 % 256) × (n / 65536 % 256 ≡ x / 65536 % 256) × (n / 16777216 % 256 ≡ x / 16777216 % 256)
lowest_four n a x h = (
  lowest n (16777216 * a) x (omega arith),
  lowest (n / 256) (65536 * a) (x / 256) (omega arith),
  lowest (n / 65536) (256 * a) (x / 65536) (omega arith),
  lowest (n / 16777216) a (x / 16777216) (omega arith),
)

-- the four bytes of a u32, taken out one by one
le32_bytes : (n : ℕ) → le32 n ≡ n % 256 ∷ n / 256 % 256 ∷ n / 65536 % 256 ∷ n / 16777216 % 256 ∷ []
unfolding le32 le16
le32_bytes n =
    let a : n % 65536 % 256 ≡ n % 256 = omega arith in
    let b : n / 256 % 256 ≡ n % 65536 / 256 % 256 = lowest (n / 256) (n / 65536) (n % 65536 / 256) (omega arith) in
    let c : n / 65536 % 65536 % 256 ≡ n / 65536 % 256 = omega arith in
    let d : n / 16777216 % 256 ≡ n / 65536 % 65536 / 256 % 256 =
    lowest (n / 16777216) (n / 65536 / 65536) (n / 65536 % 65536 / 256) (omega arith) in
    rw (a, b, c, d)

-- a rotation by 32 puts the low word in the high one's place, and the high word in the low one's
words_rotated : (w : ℕ) → rotate_left_32 w ≡ 4294967296 * (w % 4294967296) + w / 4294967296 % 4294967296
unfolding rotate_left_32
words_rotated w = omega arith

-- so that the high word is written first
double_bytes_lem : (w : ℕ) → put (double_bytes w) ≡ write_u64 (rotate_left_32 w)
unfolding write_u64 double_bytes
double_bytes_lem w =
    let hi : ℕ = w / 4294967296 in
    let lo : ℕ = w % 4294967296 in
    let n : ℕ = rotate_left_32 w in
    let r : n ≡ 4294967296 * lo + hi % 4294967296 = words_rotated w in
    let h = lowest_four n lo (hi % 4294967296) r in
    let k = lowest_four hi (hi / 4294967296) (hi % 4294967296) (omega arith) in
    let e : n / 4294967296 ≡ lo = omega arith in
    let a : n / 1099511627776 ≡ lo / 256 = omega arith in
    let b : n / 281474976710656 ≡ lo / 65536 = omega arith in
    let c : n / 72057594037927936 ≡ lo / 16777216 = omega arith in
    ap put (rw (le32_bytes hi, le32_bytes lo, h.0, h.1, h.2, h.3, k.0, k.1, k.2, k.3, e, a, b, c))

does_f64 : (w p : ℕ) → Does (write_f64_me w) p [] (double_bytes w)
unfolding write_f64_me
does_f64 w p = subst (λ (m : Writing). Does m p [] (double_bytes w)) (double_bytes_lem w) (does_put (double_bytes w))

does_i32 : (w p : ℕ) → Does (write_i32 w) p [] (le32 w)
unfolding write_i32
does_i32 w p = does_as (does_put (w % 256 ∷ w / 256 % 256 ∷ w / 65536 % 256 ∷ w / 16777216 % 256 ∷ [])) refl (sym (le32_bytes w))

does_value : (v : PushValue) (p : ℕ) → Does (write_push_value v) p [] (push_bytes v)
unfolding write_push_value push_bytes bit
does_value (String s) p = does_then (does_u8 0 p) (does_string s (p + 1))
does_value Null p = does_u8 2 p
does_value Undefined p = does_u8 3 p
does_value (Register r) p = does_then (does_u8 4 p) (does_u8 r (p + 1))
does_value (Boolean true) p = does_then (does_u8 5 p) (does_u8 1 (p + 1))
does_value (Boolean false) p = does_then (does_u8 5 p) (does_u8 0 (p + 1))
does_value (Float w) p = does_then (does_u8 6 p) (does_f64 w (p + 1))
does_value (Integer w) p = does_then (does_u8 7 p) (does_i32 w (p + 1))
does_value (Constant n) p = go (ltb n 256)
  where
    go : (t : Bool) → Does (write_constant t n) p [] (constant_bytes t n)
    go true = unfold write_constant constant_bytes in does_then (does_u8 8 p) (does_u8 n (p + 1))
    go false = unfold write_constant constant_bytes in does_then (does_u8 9 p) (does_u16 n (p + 1))

does_values : (vs : List PushValue) (p : ℕ) → Does (for_each write_push_value vs) p [] (pushes_bytes vs)
unfolding for_each pushes_bytes
does_values [] p = does_pass
does_values (v ∷ vs) p = does_then (does_value v p) (does_values vs (p + length (push_bytes v)))

-- ---- actions with no body and no label

-- a flag of a weight
flag_if : (b : Bool) (n : ℕ) → if_else b n 0 ≡ n * bit b
unfolding if_else bit
flag_if true n = omega arith
flag_if false n = omega arith

-- an action without a field
pub does_small : (op : SmallOpCode) (p : ℕ) (s : Position) → Does (write_small_action op) p [] (framed (OpCode.Small op) [])
unfolding write_small_action
does_small op p s = go (ltb (byte (OpCode.Small op)) 128) refl
  where
    go : (t : Bool) → ltb (byte (OpCode.Small op)) 128 ≡ t
        → Does (write_action_header (OpCode.Small op) 0) p [] (framed (OpCode.Small op) [])
    go true h = does_as (does_short (OpCode.Small op) p h) refl (sym (framed_short (OpCode.Small op) [] h))
    go false h =
        unfold payload_test event_if in
        does_as (does_header (OpCode.Small op) 0 p s h) refl (unfold le16 in sym (framed_long (OpCode.Small op) [] h))

-- write_action, at each of them
does_flat : (f : Flat) (p : ℕ) (s : Position) → Does (write_flat f) p (payload_test (length (payload f)) s) (framed (opcode f) (payload f))
unfolding write_flat opcode payload byte
does_flat (Small op) p s = unfold payload_test event_if in does_small op p s
does_flat (GotoFrame n) p s =
    unfold write_goto_frame in
    does_framed OpCode.GotoFrame 2 p s (le16 n) refl (sym (length_le16 n)) (does_u16 n (p + 3))
does_flat (GetUrl u t) p s =
    unfold write_get_url in
    does_framed OpCode.GetUrl (length u + length t + 2) p s (zero_ended u ++ zero_ended t) refl
    (omega (arith, length-append (zero_ended u) (zero_ended t), length-zero_ended u, length-zero_ended t))
    (does_then (does_string u (p + 3)) (does_string t (p + 3 + length (zero_ended u))))
does_flat (StoreRegister r) p s =
    unfold write_store_register in
    does_framed OpCode.StoreRegister 1 p s (r ∷ []) refl refl (does_u8 r (p + 3))
does_flat (ConstantPool ss) p s =
    unfold write_constant_pool in
    does_framed OpCode.ConstantPool (fold (λ sum c. sum + (length c + 1)) 2 ss) p s (le16 (length ss) ++ strings_bytes ss) refl
    (fold_strings 2 ss ∙ (unfold le16 in omega arith))
    (does_then (does_u16 (length ss) (p + 3)) (does_strings ss (p + 3 + length (le16 (length ss)))))
does_flat (WaitForFrame n k) p s =
    unfold write_wait_for_frame in
    does_framed OpCode.WaitForFrame 3 p s (le16 n ++ k ∷ []) refl (unfold le16 in refl)
    (does_then (does_u16 n (p + 3)) (does_u8 k (p + 3 + length (le16 n))))
does_flat (SetTarget t) p s =
    unfold write_set_target in
    does_framed OpCode.SetTarget (length t + 1) p s (zero_ended t) refl (sym (length-zero_ended t)) (does_string t (p + 3))
does_flat (GotoLabel t) p s =
    unfold write_goto_label in
    does_framed OpCode.GotoLabel (length t + 1) p s (zero_ended t) refl (sym (length-zero_ended t)) (does_string t (p + 3))
does_flat (WaitForFrame2 k) p s =
    unfold write_wait_for_frame_2 in
    does_framed OpCode.WaitForFrame2 1 p s (k ∷ []) refl refl (does_u8 k (p + 3))
does_flat (Push vs) p s =
    unfold write_push in
    does_framed OpCode.Push (fold (λ sum v. sum + value_len v) 0 vs) p s (pushes_bytes vs) refl
    (fold_values 0 vs ∙ omega arith) (does_values vs (p + 3))
does_flat (GetUrl2 v t m) p s =
    unfold write_get_url_2 get_url2_bits in
    does_framed OpCode.GetUrl2 1 p s (get_url2_bits v t m ∷ []) refl refl
    (does_as (does_u8 _ (p + 3)) refl (ap (λ (n : ℕ). n ∷ []) (ap₂ (λ (x y : ℕ). m % 4 + x + y) (flag_if t 64) (flag_if v 128))))
does_flat (GotoFrame2 zero true) p s =
    unfold write_goto_frame_2 goto_frame2_bytes bit if_else in
    does_framed OpCode.GotoFrame2 1 p s (1 ∷ []) refl refl (does_u8 1 (p + 3))
does_flat (GotoFrame2 zero false) p s =
    unfold write_goto_frame_2 goto_frame2_bytes bit if_else in
    does_framed OpCode.GotoFrame2 1 p s (0 ∷ []) refl refl (does_u8 0 (p + 3))
does_flat (GotoFrame2 (suc n) true) p s =
    unfold write_goto_frame_2 goto_frame2_bytes bit if_else in
    does_framed OpCode.GotoFrame2 3 p s (3 ∷ le16 (suc n)) refl (unfold le16 in refl)
    (does_then (does_u8 3 (p + 3)) (does_u16 (suc n) (p + 3 + 1)))
does_flat (GotoFrame2 (suc n) false) p s =
    unfold write_goto_frame_2 goto_frame2_bytes bit if_else in
    does_framed OpCode.GotoFrame2 3 p s (2 ∷ le16 (suc n)) refl (unfold le16 in refl)
    (does_then (does_u8 2 (p + 3)) (does_u16 (suc n) (p + 3 + 1)))

-- ---- a length put in place and tested

-- a test leaves no branch and no label
test_pending : (n : ℕ) (s : Position) → pending_of (body_test n s) ≡ []
unfolding body_test
test_pending n s = go (ltb 65535 n)
  where
    go : (t : Bool) → pending_of (event_if t (body_too_long n s)) ≡ []
    go true = unfold event_if pending_of in refl
    go false = unfold event_if pending_of in refl

test_recorded : (n : ℕ) (s : Position) (m : Map ℕ) → recorded (body_test n s) m ≡ m
unfolding body_test
test_recorded n s m = go (ltb 65535 n)
  where
    go : (t : Bool) → recorded (event_if t (body_too_long n s)) m ≡ m
    go true = unfold event_if recorded in refl
    go false = unfold event_if recorded in refl

-- two bytes put in place of zeros that were written before
pub copy_at : (pre post : List ℕ) (q : List ℕ) (at : ℕ) (w : List PendingLabelWrite) (m : Map ℕ) → at ≡ length pre
    → copy_from_slice at q (encoder (pre ++ (le16 0 ++ post)) w m) ≡ ok (encoder (pre ++ (q ++ post)) w m)
unfolding copy_from_slice
copy_at pre post q at w m h =
    ap (λ (t : Bool). copied t at q (encoder (pre ++ (le16 0 ++ post)) w m))
    (le-leb (at + 2) (length (pre ++ (le16 0 ++ post))) (unfold le16 in omega (arith, length-append pre (le16 0 ++ post))))
    ∙ go
  where
    go : copied true at q (encoder (pre ++ (le16 0 ++ post)) w m) ≡ ok (encoder (pre ++ (q ++ post)) w m)
    go =
        unfold copied in
        (ap₂ (λ (x y : List ℕ). ok (encoder (x ++ (q ++ y)) w m)) (take_at pre (le16 0 ++ post) at (sym h))
        (ap (drop (at + 2)) (sym (append_assoc pre (le16 0) post))
        ∙ drop_at (pre ++ le16 0) post (at + 2) (unfold le16 in omega (arith, length-append pre (le16 0)))))

-- write_block_length_at, of a block of n bytes
patch_at : {out out' : List ℕ} (pre post : List ℕ) (at n start end : ℕ) (w : List PendingLabelWrite) (m : Map ℕ) (s : Position)
    → out ≡ pre ++ (le16 0 ++ post) → pre ++ (le16 n ++ post) ≡ out' → at ≡ length pre → end ≡ start + n
    → write_block_length_at at start end (encoder out w m) ≡ result_of (first_overflow (body_test n s)) (encoder out' w m)
unfolding write_block_length_at assert after
patch_at {out} {out'} pre post at n start end w m s ho ho' ha he =
    let hn : end - start ≡ n = omega arith in
    ap (λ (t : Bool). after (assert t (encoder out w m)) (write_block_length (leb (end - start) 65535) at (end - start))) (le-leb start end (omega arith))
    ∙ ap₂ (λ (x : List ℕ) (k : ℕ). write_block_length (leb k 65535) at k (encoder x w m)) ho hn
    ∙ go (leb n 65535) refl
    ∙ ap (λ (x : List ℕ). result_of (first_overflow (body_test n s)) (encoder x w m)) ho'
  where
    go : (t : Bool) → leb n 65535 ≡ t
        → write_block_length (leb n 65535) at n (encoder (pre ++ (le16 0 ++ post)) w m)
        ≡ result_of (first_overflow (body_test n s)) (encoder (pre ++ (le16 n ++ post)) w m)
    go true z =
        unfold body_test event_if first_overflow result_of write_block_length in
        (rw (z, le-ltb 65535 n (leb-true n 65535 z)) (unfold two_le_bytes le16 in copy_at pre post (le16 n) at w m ha))
    go false z = unfold body_test event_if first_overflow result_of write_block_length in rw (z, lt-ltb 65535 n (leb-false n 65535 z))

-- two results in a row
pub after_by : (r : Result) (o o' : Option EncoderError) (e₁ e₂ : ActionEncoder) (k : Writing) → r ≡ result_of o e₁ → k e₁ ≡ result_of o' e₂
    → after r k ≡ result_of (first_of o o') e₂
after_by r none o' e₁ e₂ k h g = ap (λ (x : Result). after x k) h ∙ (unfold result_of after first_of in g)
after_by r (some x) o' e₁ e₂ k h g = ap (λ (x : Result). after x k) h ∙ (unfold result_of after first_of in refl)

u16_is : (e : ActionEncoder) → write_u16 0 e ≡ ok (encoder (e.output ++ le16 0) e.pending_label_writes e.label_positions)
unfolding write_u16 put two_le_bytes le16
u16_is e = refl

pub perform_is : (xs : List Event) (q : List ℕ) (e : ActionEncoder)
    → perform xs q e ≡ result_of (first_overflow xs) (encoder (e.output ++ q) (e.pending_label_writes ++ pending_of xs) (recorded xs e.label_positions))
unfolding perform
perform_is xs q e = refl

-- events, then tests
perform_quiet : (xs ev : List Event) (q : List ℕ) (e : ActionEncoder) → pending_of ev ≡ [] → ((m : Map ℕ) → recorded ev m ≡ m)
    → result_of (first_of (first_overflow xs) (first_overflow ev)) (encoder (e.output ++ q) (e.pending_label_writes ++ pending_of xs) (recorded xs e.label_positions))
    ≡ perform (xs ++ ev) q e
unfolding perform
perform_quiet xs ev q e hl hi =
    rw (overflow_append xs ev, pending_append xs ev, recorded_append xs ev e.label_positions, hl, hi (recorded xs e.label_positions), append-nil (pending_of xs))

module _ {w : Writing} {xs : List Event} {b : List ℕ} (p n : ℕ) (s : Position) (a : Does w (p + 2) xs b) (hb : length b ≡ n) where
  -- the body's length is tested when it closes
  tail_is : (e : ActionEncoder) → length e.output ≡ p → block_tail w e ≡ perform (xs ++ body_test n s) (le16 n ++ b) e
  unfolding after
  tail_is e h =
      let o : List ℕ = e.output in
      let e₂ : ActionEncoder = encoder (o ++ le16 0) e.pending_label_writes e.label_positions in
      let w₃ : List PendingLabelWrite = e.pending_label_writes ++ pending_of xs in
      let m₃ : Map ℕ = recorded xs e.label_positions in
      ap (λ (r : Result). after r (λ f. after (w f) (λ g. write_block_length_at (length o) (length f.output) (length g.output) g))) (u16_is e)
      ∙ after_by (w e₂) (first_overflow xs) (first_overflow (body_test n s)) (encoder ((o ++ le16 0) ++ b) w₃ m₃) (encoder (o ++ (le16 n ++ b)) w₃ m₃)
      (λ g. write_block_length_at (length o) (length (o ++ le16 0)) (length g.output) g)
      (a.does e₂ (omega (arith, length-append o (le16 0), length_le16 0)) ∙ perform_is xs b e₂)
      (patch_at o b (length o) n (length (o ++ le16 0)) (length ((o ++ le16 0) ++ b)) w₃ m₃ s (append_assoc o (le16 0) b) refl refl
      (omega (arith, length-append (o ++ le16 0) b)))
      ∙ perform_quiet xs (body_test n s) (le16 n ++ b) e (test_pending n s) (test_recorded n s)

  does_tail : Does (block_tail w) p (xs ++ body_test n s) (le16 n ++ b)
  does_tail = record { does = tail_is }

module _ {target w₁ w₂ w₃ : Writing} {xs ys zs : List Event} {v b c f : List ℕ} (p i j k : ℕ) (s : Position)
    (at_Target : Does target (p + 6) [] v) (hi : length b ≡ i) (hj : length c ≡ j) (hk : length f ≡ k)
    (at₁ : Does w₁ (p + 6 + length v) xs b)
    (at₂ : Does w₂ (p + 6 + length v + i) ys c) (at₃ : Does w₃ (p + 6 + length v + i + j) zs f) where
  module _ (e : ActionEncoder) (h : length e.output ≡ p) where
    -- the output at the start, and after the three lengths
    abbrev out₀ : List ℕ
    out₀ = e.output

    abbrev out₃ : List ℕ
    out₃ = ((out₀ ++ le16 0) ++ le16 0) ++ le16 0

    -- the branches and the labels in the end
    abbrev ws : List PendingLabelWrite
    ws = ((e.pending_label_writes ++ pending_of xs) ++ pending_of ys) ++ pending_of zs

    abbrev ms : Map ℕ
    ms = recorded zs (recorded ys (recorded xs e.label_positions))

    -- what stands after the lengths, and the output before they are patched
    abbrev rest : List ℕ
    rest = v ++ (b ++ (c ++ f))

    abbrev written : List ℕ
    written = (((out₃ ++ v) ++ b) ++ c) ++ f

    -- the three lengths are patched and tested in the order try, catch, finally
    sizes_patched : patch_sizes (length out₀) (length (out₀ ++ le16 0)) (length ((out₀ ++ le16 0) ++ le16 0)) (length (out₃ ++ v)) (length ((out₃ ++ v) ++ b))
        (length (((out₃ ++ v) ++ b) ++ c)) (length written) (encoder written ws ms)
        ≡ result_of (first_of (first_overflow (body_test i s)) (first_of (first_overflow (body_test j s)) (first_overflow (body_test k s))))
        (encoder (out₀ ++ (le16 i ++ (le16 j ++ (le16 k ++ rest)))) ws ms)
    unfolding patch_sizes
    sizes_patched =
        after_by _ (first_overflow (body_test i s)) (first_of (first_overflow (body_test j s)) (first_overflow (body_test k s)))
        (encoder (out₀ ++ (le16 i ++ (le16 0 ++ (le16 0 ++ rest)))) ws ms) (encoder (out₀ ++ (le16 i ++ (le16 j ++ (le16 k ++ rest)))) ws ms) _
        (patch_at out₀ (le16 0 ++ (le16 0 ++ rest)) (length out₀) i (length (out₃ ++ v)) (length ((out₃ ++ v) ++ b)) ws ms s
        (simp append_assoc) refl refl (omega (arith, length-append (out₃ ++ v) b)))
        (after_by _ (first_overflow (body_test j s)) (first_overflow (body_test k s))
        (encoder (out₀ ++ (le16 i ++ (le16 j ++ (le16 0 ++ rest)))) ws ms) (encoder (out₀ ++ (le16 i ++ (le16 j ++ (le16 k ++ rest)))) ws ms) _
        (patch_at (out₀ ++ le16 i) (le16 0 ++ rest) (length (out₀ ++ le16 0)) j (length ((out₃ ++ v) ++ b)) (length (((out₃ ++ v) ++ b) ++ c)) ws ms s
        (simp append_assoc) (simp append_assoc) (simp (length-append, length_le16)) (omega (arith, length-append ((out₃ ++ v) ++ b) c)))
        (patch_at ((out₀ ++ le16 i) ++ le16 j) rest (length ((out₀ ++ le16 0) ++ le16 0)) k (length (((out₃ ++ v) ++ b) ++ c)) (length written) ws ms s
        (simp append_assoc) (simp append_assoc) (simp (length-append, length_le16)) (omega (arith, length-append (((out₃ ++ v) ++ b) ++ c) f))))

    abbrev tests : List Event
    tests = body_test i s ++ (body_test j s ++ body_test k s)

    tests_pending : pending_of tests ≡ []
    tests_pending =
        pending_append (body_test i s) (body_test j s ++ body_test k s)
        ∙ ap₂ (λ (x y : List PendingLabelWrite). x ++ y) (test_pending i s)
        (pending_append (body_test j s) (body_test k s) ∙ ap₂ (λ (x y : List PendingLabelWrite). x ++ y) (test_pending j s) (test_pending k s))

    tests_recorded : (m : Map ℕ) → recorded tests m ≡ m
    tests_recorded m =
        recorded_append (body_test i s) (body_test j s ++ body_test k s) m
        ∙ recorded_append (body_test j s) (body_test k s) (recorded (body_test i s) m)
        ∙ test_recorded k s _ ∙ test_recorded j s _ ∙ test_recorded i s m

    tests_overflow : first_overflow tests ≡ first_of (first_overflow (body_test i s)) (first_of (first_overflow (body_test j s)) (first_overflow (body_test k s)))
    tests_overflow = overflow_append (body_test i s) (body_test j s ++ body_test k s) ∙ ap (first_of (first_overflow (body_test i s))) (overflow_append (body_test j s) (body_test k s))

    try_end : result_of (first_of (first_overflow xs) (first_of (first_overflow ys) (first_of (first_overflow zs) (first_overflow tests)))) (encoder (out₀ ++ (le16 i ++ (le16 j ++ (le16 k ++ rest)))) ws ms)
        ≡ perform (xs ++ (ys ++ (zs ++ tests))) (le16 i ++ (le16 j ++ (le16 k ++ rest))) e
    unfolding perform
    try_end =
        rw (
          overflow_append xs (ys ++ (zs ++ tests)),
          overflow_append ys (zs ++ tests),
          overflow_append zs tests,
          pending_append xs (ys ++ (zs ++ tests)),
          pending_append ys (zs ++ tests),
          pending_append zs tests,
          tests_pending,
          append-nil (pending_of zs),
          recorded_append xs (ys ++ (zs ++ tests)) e.label_positions,
          recorded_append ys (zs ++ tests) (recorded xs e.label_positions),
          recorded_append zs tests (recorded ys (recorded xs e.label_positions)),
          tests_recorded ms,
          append_assoc (e.pending_label_writes ++ pending_of xs) (pending_of ys) (pending_of zs),
          append_assoc e.pending_label_writes (pending_of xs) (pending_of ys ++ pending_of zs),
        )

    -- the encoder after the lengths, after the target, and after the first two bodies
    abbrev e₃ : ActionEncoder
    e₃ = encoder out₃ e.pending_label_writes e.label_positions

    abbrev e₄ : ActionEncoder
    e₄ = encoder (out₃ ++ v) e.pending_label_writes e.label_positions

    abbrev e₅ : ActionEncoder
    e₅ = encoder ((out₃ ++ v) ++ b) (e.pending_label_writes ++ pending_of xs) (recorded xs e.label_positions)

    abbrev e₆ : ActionEncoder
    e₆ = encoder (((out₃ ++ v) ++ b) ++ c) ((e.pending_label_writes ++ pending_of xs) ++ pending_of ys) (recorded ys (recorded xs e.label_positions))

    length₃ : length out₃ ≡ p + 6
    length₃ = simp (length-append, length_le16) (omega arith)

    target_is : target e₃ ≡ result_of none e₄
    target_is =
        at_Target.does e₃ length₃
        ∙ perform_is [] v e₃
        ∙ (unfold first_overflow pending_of recorded in ap (λ (w : List PendingLabelWrite). result_of none (encoder (out₃ ++ v) w e.label_positions)) (append-nil e.pending_label_writes))

    first_is : w₁ e₄ ≡ result_of (first_overflow xs) e₅
    first_is = at₁.does e₄ (omega (arith, length-append out₃ v, length₃)) ∙ perform_is xs b e₄

    second_is : w₂ e₅ ≡ result_of (first_overflow ys) e₆
    second_is = at₂.does e₅ (omega (arith, length-append (out₃ ++ v) b, length-append out₃ v, length₃)) ∙ perform_is ys c e₅

    third_is : w₃ e₆ ≡ result_of (first_overflow zs) (encoder written ws ms)
    third_is = at₃.does e₆ (omega (arith, length-append ((out₃ ++ v) ++ b) c, length-append (out₃ ++ v) b, length-append out₃ v, length₃)) ∙ perform_is zs f e₆

    try_is : try_tail target w₁ w₂ w₃ e ≡ perform (xs ++ (ys ++ (zs ++ tests))) (le16 i ++ (le16 j ++ (le16 k ++ rest))) e
    unfolding write_u16 put after two_le_bytes le16 first_of
    try_is =
        after_by (target e₃) none (first_of (first_overflow xs) (first_of (first_overflow ys) (first_of (first_overflow zs) (first_overflow tests)))) e₄ _ _ target_is
        (after_by (w₁ e₄) (first_overflow xs) (first_of (first_overflow ys) (first_of (first_overflow zs) (first_overflow tests))) e₅ _ _ first_is
        (after_by (w₂ e₅) (first_overflow ys) (first_of (first_overflow zs) (first_overflow tests)) e₆ _ _ second_is
        (after_by (w₃ e₆) (first_overflow zs) (first_overflow tests) (encoder written ws ms) _ _ third_is
        (sizes_patched ∙ ap (λ (o : Option EncoderError). result_of o (encoder (out₀ ++ (le16 i ++ (le16 j ++ (le16 k ++ rest)))) ws ms)) (sym tests_overflow)))))
        ∙ try_end

  does_tail_try : Does (try_tail target w₁ w₂ w₃) p (xs ++ (ys ++ (zs ++ (body_test i s ++ (body_test j s ++ body_test k s)))))
      (le16 i ++ (le16 j ++ (le16 k ++ (v ++ (b ++ (c ++ f))))))
  does_tail_try = record { does = try_is }

-- ---- actions that own a body

-- header, fields, the body's length and the body
owner_bytes : (op : OpCode) (m n : ℕ) (fields q : List ℕ) → ltb (byte op) 128 ≡ false → m ≡ length fields + 2
    → (byte op ∷ le16 m) ++ (fields ++ (le16 n ++ q)) ≡ framed op (fields ++ le16 n) ++ q
owner_bytes op m n fields q h e =
    let l : m ≡ length (fields ++ le16 n) = omega (arith, length-append fields (le16 n), length_le16 n) in
    rw (
      framed_long op (fields ++ le16 n) h,
      l,
      append_assoc (le16 (length (fields ++ le16 n))) (fields ++ le16 n) q,
      append_assoc fields (le16 n) q,
    )

-- a bit by its weight
bit_weight : (x w : ℕ) → x < 2 → if_else (eqb x 1) w 0 ≡ w * x
bit_weight x w h = go (eqb x 1) refl
  where
    go : (t : Bool) → eqb x 1 ≡ t → if_else t w 0 ≡ w * x
    go true e = unfold if_else in (rw (eqb-true x 1 e) (omega arith))
    go false e = unfold if_else in
        (let z : x ≡ 0 = zero_of x h (eqb-false x 1 e) in
        rw z (omega arith))
      where
        zero_of : (y : ℕ) → y < 2 → (y ≡ 1 → ⊥) → y ≡ 0
        zero_of zero k g = refl
        zero_of (suc zero) k g = absurd (g refl)
        zero_of (suc (suc y)) k g = absurd (omega arith)

-- the nine bits of a number under 512 are the number
nine_bits : (f f₁ f₂ f₃ f₄ f₅ f₆ f₇ f₈ b₀ b₁ b₂ b₃ b₄ b₅ b₆ b₇ b₈ : ℕ)
    → f ≡ b₀ + 2 * f₁ → f₁ ≡ b₁ + 2 * f₂ → f₂ ≡ b₂ + 2 * f₃ → f₃ ≡ b₃ + 2 * f₄ → f₄ ≡ b₄ + 2 * f₅
    → f₅ ≡ b₅ + 2 * f₆ → f₆ ≡ b₆ + 2 * f₇ → f₇ ≡ b₇ + 2 * f₈ → f₈ ≡ b₈
    → 1 * b₀ + 2 * b₁ + 4 * b₂ + 8 * b₃ + 16 * b₄ + 32 * b₅ + 64 * b₆ + 128 * b₇ + 256 * b₈ ≡ f
nine_bits f f₁ f₂ f₃ f₄ f₅ f₆ f₇ f₈ b₀ b₁ b₂ b₃ b₄ b₅ b₆ b₇ b₈ h₀ h₁ h₂ h₃ h₄ h₅ h₆ h₇ h₈ = omega arith

-- the source puts a function's nine flags together again
flags_are : (f : ℕ) → f < 512
    → function_flags (flag_bit f 1) (flag_bit f 2) (flag_bit f 4) (flag_bit f 8) (flag_bit f 16) (flag_bit f 32) (flag_bit f 64)
    (flag_bit f 128) (flag_bit f 256) ≡ f
unfolding function_flags flag_bit
flags_are f h =
    rw (
      bit_weight (f / 1 % 2) 1 (omega arith),
      bit_weight (f / 2 % 2) 2 (omega arith),
      bit_weight (f / 4 % 2) 4 (omega arith),
      bit_weight (f / 8 % 2) 8 (omega arith),
      bit_weight (f / 16 % 2) 16 (omega arith),
      bit_weight (f / 32 % 2) 32 (omega arith),
      bit_weight (f / 64 % 2) 64 (omega arith),
      bit_weight (f / 128 % 2) 128 (omega arith),
      bit_weight (f / 256 % 2) 256 (omega arith),
    )
    (nine_bits f (f / 2) (f / 4) (f / 8) (f / 16) (f / 32) (f / 64) (f / 128) (f / 256)
    (f / 1 % 2) (f / 2 % 2) (f / 4 % 2) (f / 8 % 2) (f / 16 % 2) (f / 32 % 2) (f / 64 % 2) (f / 128 % 2) (f / 256 % 2)
    (omega arith) (omega arith) (omega arith) (omega arith) (omega arith) (omega arith) (omega arith) (omega arith) (omega arith))

-- write_with, write_define_function and write_define_function_2, where their body is written as q
module _ (b : Actions) (p n : ℕ) (s : Position) {xs : List Event} {q : List ℕ} (hn : length q ≡ n) where
  does_owner : (o : Owner) → OwnerFits o → Does (write_actions b) (p + (5 + length (owner_fields o))) xs q
      → Does (write_action (owner o b)) p (payload_test (length (owner_fields o) + 2) s ++ (xs ++ body_test n s))
      (framed (owner_op_code o) (owner_payload o n) ++ q)
  unfolding write_action write_with write_define_function write_define_function_2 owner_fields owner_op_code owner_payload byte
  does_owner With g a =
      does_as
      (does_then (does_header OpCode.With 2 p s refl) (does_tail (p + length (byte OpCode.With ∷ le16 2)) n s (does_at a (omega (arith, length_le16 2))) hn))
      refl (owner_bytes OpCode.With 2 n [] q refl refl)
  does_owner (DefineFunction name ps) g a =
      let m : ℕ = fold (λ sum c. sum + (length c + 1)) (length name + 1 + 2 + 2) ps in
      let fields : List ℕ = zero_ended name ++ (le16 (length ps) ++ strings_bytes ps) in
      let l : length fields ≡ length name + 1 + 2 + length (strings_bytes ps) =
      length-append (zero_ended name) (le16 (length ps) ++ strings_bytes ps)
      ∙ omega (arith, length-append (le16 (length ps)) (strings_bytes ps), length_le16 (length ps), length-zero_ended name) in
      let e : m ≡ length fields + 2 = fold_strings (length name + 1 + 2 + 2) ps ∙ omega arith in
      let p₁ : ℕ = p + length (byte OpCode.DefineFunction ∷ le16 m) in
      let p₂ : ℕ = p₁ + length (zero_ended name) in
      let p₃ : ℕ = p₂ + length (le16 (length ps)) in
      let p₄ : ℕ = p₃ + length (strings_bytes ps) in
      let e₄ : p₄ + 2 ≡ p + (5 + length fields) = omega (arith, length_le16 (length ps), length_le16 m, length-zero_ended name) in
      does_as
      (does_then (does_header OpCode.DefineFunction m p s refl) (does_then (does_string name p₁)
      (does_then (does_u16 (length ps) p₂) (does_then (does_strings ps p₃) (does_tail p₄ n s (does_at a e₄) hn)))))
      (ap (λ (k : ℕ). payload_test k s ++ (xs ++ body_test n s)) e)
      (ap (λ (t : List ℕ). (byte OpCode.DefineFunction ∷ le16 m) ++ t) (simp append_assoc) ∙ owner_bytes OpCode.DefineFunction m n fields q refl e)
  does_owner (DefineFunction2 name ps r f) g a =
      let m : ℕ = fold (λ sum c. sum + (length (param_name c) + 2)) (length name + 1 + 3 + 4) ps in
      let fields : List ℕ = zero_ended name ++ (le16 (length ps) ++ (r ∷ (le16 f ++ params_bytes ps))) in
      let l : length fields ≡ length name + 1 + 5 + length (params_bytes ps) =
      length-append (zero_ended name) (le16 (length ps) ++ (r ∷ (le16 f ++ params_bytes ps)))
      ∙ omega (
        arith,
        length-append (le16 (length ps)) (r ∷ (le16 f ++ params_bytes ps)),
        length-append (le16 f) (params_bytes ps),
        length_le16 (length ps),
        length_le16 f,
        length-zero_ended name,
      ) in
      let e : m ≡ length fields + 2 = fold_params (length name + 1 + 3 + 4) ps ∙ omega arith in
      let p₁ : ℕ = p + length (byte OpCode.DefineFunction2 ∷ le16 m) in
      let p₂ : ℕ = p₁ + length (zero_ended name) in
      let p₃ : ℕ = p₂ + length (le16 (length ps)) in
      let p₄ : ℕ = p₃ + length (r ∷ []) in
      let p₅ : ℕ = p₄ + length (le16 f) in
      let p₆ : ℕ = p₅ + length (params_bytes ps) in
      let e₆ : p₆ + 2 ≡ p + (5 + length fields) = omega (arith, length_le16 (length ps), length_le16 m, length_le16 f, length-zero_ended name) in
      let d : Does (write_u16 (function_flags (flag_bit f 1) (flag_bit f 2) (flag_bit f 4) (flag_bit f 8) (flag_bit f 16) (flag_bit f 32)
      (flag_bit f 64) (flag_bit f 128) (flag_bit f 256))) p₄ [] (le16 f) =
      rw (flags_are f g.3) (does_u16 f p₄) in
      does_as
      (does_then (does_header OpCode.DefineFunction2 m p s refl) (does_then (does_string name p₁) (does_then (does_u16 (length ps) p₂)
      (does_then (does_u8 r p₃) (does_then d (does_then (does_params ps p₅) (does_tail p₆ n s (does_at a e₆) hn)))))))
      (ap (λ (k : ℕ). payload_test k s ++ (xs ++ body_test n s)) e)
      (ap (λ (t : List ℕ). (byte OpCode.DefineFunction2 ∷ le16 m) ++ t) (simp append_assoc) ∙ owner_bytes OpCode.DefineFunction2 m n fields q refl e)

-- a branch waits where its operand stands
does_operand : (l : ℕ) (s : Position) → Does (push_label_write l) s.at (branch_at l s ∷ []) []
unfolding push_label_write perform result_of first_overflow pending_of recorded
does_operand l s = record { does = λ e h. rw (h, append-nil e.output) }

-- write_jump and write_if
does_branch : (k : Branch) (l : ℕ) (s : Position)
    → Does (write_action (branch k l)) s.at (branch_at l (to_operand s) ∷ []) (framed (branch_op_code k) (le16 0))
unfolding write_action write_jump write_if branch_op_code byte framed headed le16 payload_test event_if moved
does_branch Jump l s = does_then (does_header OpCode.Jump 2 s.at s refl) (does_then (does_operand l (to_operand s)) (does_i16 0 (s.at + 3 + 0)))
does_branch If l s = does_then (does_header OpCode.If 2 s.at s refl) (does_then (does_operand l (to_operand s)) (does_i16 0 (s.at + 3 + 0)))

-- ---- Try

does_target : (c : Catch) (p : ℕ) → Does (write_target c) p [] (catch_name c)
unfolding write_target catch_name
does_target no_catch p = does_u8 0 p
does_target (catch (Variable s) b) p = does_string s p
does_target (catch (Register r) b) p = does_u8 r p

target_long : (c : Catch) → target_len c ≡ length (catch_name c)
unfolding target_len catch_name
target_long no_catch = refl
target_long (catch (Variable s) b) = sym (length-zero_ended s)
target_long (catch (Register r) b) = refl

-- the flags that the source sets are the shape
shape_is : (c : Catch) (f : Finally) → try_flags c f ≡ catch_shape c + finally_shape f
unfolding try_flags if_else is_some_catch is_register is_some_finally catch_shape finally_shape
shape_is no_catch no_finally = refl
shape_is no_catch (finally b) = refl
shape_is (catch (Variable s) x) no_finally = refl
shape_is (catch (Variable s) x) (finally b) = refl
shape_is (catch (Register r) x) no_finally = refl
shape_is (catch (Register r) x) (finally b) = refl

try_bytes : (m k i j l : ℕ) (v r : List ℕ) → m ≡ 7 + length v
    → (byte OpCode.Try ∷ le16 m) ++ ((k ∷ []) ++ (le16 i ++ (le16 j ++ (le16 l ++ (v ++ r)))))
    ≡ framed OpCode.Try (try_payload k i j l v) ++ r
unfolding try_payload
try_bytes m k i j l v r h =
    let q : List ℕ = k ∷ (le16 i ++ (le16 j ++ (le16 l ++ v))) in
    let e : m ≡ length q = h ∙ sym (length-try_payload k i j l v) in
    rw (framed_long OpCode.Try q try_long, e) (simp append_assoc)

-- write_try, where its bodies are written as x, y and z: their lengths are tested after all three
module _ (b : Actions) (c : Catch) (f : Finally) (p i j k : ℕ) (s : Position) {xs ys zs : List Event} {x y z : List ℕ}
    (hx : length x ≡ i) (hy : length y ≡ j) (hz : length z ≡ k) where
  does_try : Does (write_actions b) (p + (10 + length (catch_name c))) xs x → Does (write_catch c) (p + (10 + length (catch_name c)) + i) ys y
      → Does (write_finally f) (p + (10 + length (catch_name c)) + (i + j)) zs z
      → Does (write_action (Try b c f)) p
      (payload_test (7 + length (catch_name c)) s ++ (xs ++ (ys ++ (zs ++ (body_test i s ++ (body_test j s ++ body_test k s))))))
      (framed OpCode.Try (try_payload (catch_shape c + finally_shape f) i j k (catch_name c)) ++ (x ++ (y ++ z)))
  unfolding write_action write_try
  does_try d₁ d₂ d₃ =
      let m : ℕ = 7 + target_len c in
      let e : m ≡ 7 + length (catch_name c) = ap (λ (n : ℕ). 7 + n) (target_long c) in
      let o : ℕ = try_flags c f in
      let p₁ : ℕ = p + length (byte OpCode.Try ∷ le16 m) in
      let p₂ : ℕ = p₁ + length (o ∷ []) in
      let e₂ : p₂ + 6 + length (catch_name c) ≡ p + (10 + length (catch_name c)) = omega (arith, length_le16 m) in
      does_as
      (does_then (does_header OpCode.Try m p s try_long) (does_then (does_u8 o p₁)
      (does_tail_try p₂ i j k s (does_target c (p₂ + 6)) hx hy hz (does_at d₁ e₂) (does_at d₂ (omega arith)) (does_at d₃ (omega arith)))))
      (ap (λ (n : ℕ). payload_test n s ++ (xs ++ (ys ++ (zs ++ (body_test i s ++ (body_test j s ++ body_test k s)))))) e)
      (try_bytes m o i j k (catch_name c) (x ++ (y ++ z)) e
      ∙ ap (λ (n : ℕ). framed OpCode.Try (try_payload n i j k (catch_name c)) ++ (x ++ (y ++ z))) (shape_is c f))

-- ---- write_actions and write_action

-- the same function said otherwise
does_same : {m m' : Writing} {p : ℕ} {xs : List Event} {q : List ℕ} → ((e : ActionEncoder) → m e ≡ m' e) → Does m' p xs q → Does m p xs q
does_same h d = record { does = λ e k. h e ∙ d.does e k }

after_assoc : (r : Result) (k l : Writing) → after (after r k) l ≡ after r (k >> l)
unfolding after
after_assoc (ok e) k l = refl
after_assoc (err x) k l = refl
after_assoc panicked k l = refl

-- the labels of an action's index are recorded before it
does_labelled : {w : Writing} {xs : List Event} {q : List ℕ} (es : List Entry) (i : ActionIndex) (s : Position) → Does w s.at xs q
    → Does (write_labelled (labels_per_pos es) i.index w) s.at (labels_at es i s ++ xs) q
unfolding write_labelled
does_labelled es i s d = does_then (does_entries es i s) (does_at d (omega arith))

mutual
  unfolding trace bytes moved write_action try_payload after count

  -- write_action does what the definitions trace, and writes their bytes
  does_action : (a : Action) → Well a → (s : Position) → Does (write_action a) s.at (trace a s) (bytes blank a s.at)
  does_action (flat f) h s = does_flat f s.at s
  does_action (branch k l) h s = does_branch k l s
  does_action (owner d b) h s =
      let t : Position = to_body d s in
      does_owner b s.at (body_size b) s (length_body blank b t.at) d h.0
      (does_body b h.1 t)
  does_action (Try b c f) h s =
      let t : Position = to_try c s in
      let t₁ : Position = to_catch b c s in
      let t₂ : Position = to_finally b c s in
      does_try b c f s.at (body_size b) (catch_size c) (finally_size f) s
      (length_body blank b t.at) (length_catch blank c t₁.at) (length_finally blank f t₂.at)
      (does_body b h.1 t) (does_catch c h.2 t₁) (does_finally f h.3 t₂)

  -- write_actions, from index i on; j is the index after the last
  does_each : (xs : ActionList) → WellActions xs → (es : List Entry) (i : ActionIndex) (j : ℕ) (s : Position) → j ≡ i.index + count xs
      → Does (write_each (labels_per_pos es) i.index xs >> insert_labels (get j (labels_per_pos es))) s.at
      (traces xs es i s) (actions_bytes blank xs s.at)
  does_each empty h es i j s e =
      let e' : j ≡ i.index = omega arith in
      rw e' (does_entries es i s)
  does_each (more a xs) h es i j s e =
      let en : s.at + length (bytes blank a s.at) ≡ s.at + size a = ap (λ (m : ℕ). s.at + m) (length_bytes blank a s.at) in
      let e' : j ≡ i.index + 1 + count xs = omega arith in
      let first : Writing = write_labelled (labels_per_pos es) i.index (write_action a) in
      let last : Writing = insert_labels (get j (labels_per_pos es)) in
      does_as
      (does_same (λ u. after_assoc (first u) (write_each (labels_per_pos es) (i.index + 1) xs) last)
      (does_then (does_labelled es i s (does_action a h.0 s)) (does_at (does_each xs h.1 es (next_action i) j (past a s) e') en)))
      (append_assoc (labels_at es i s) (trace a s) (traces xs es (next_action i) (past a s))) refl

  pub does_body : (b : Actions) → WellBody b → (s : Position) → Does (write_actions b) s.at (trace_body b s) (body_bytes blank b s.at)
  does_body (body es xs) h s = does_each xs h es first_action (count xs) s (omega arith)

  does_catch : (c : Catch) → WellCatch c → (s : Position) → Does (write_catch c) s.at (trace_catch c s) (catch_bytes blank c s.at)
  does_catch no_catch h s = does_pass
  does_catch (catch t b) h s = does_body b h s

  does_finally : (f : Finally) → WellFinally f → (s : Position) → Does (write_finally f) s.at (trace_finally f s) (finally_bytes blank f s.at)
  does_finally no_finally h s = does_pass
  does_finally (finally b) h s = does_body b h s
