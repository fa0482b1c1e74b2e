-- Every block that the packer gives follows the published layouts, the three differences apart that Published names:
-- `follows_published`, `no_other_difference` and `label_starts`, at the end. Assumes nothing.
use Rattle.std.specs.Prelude.{◌≡◌, Bool, ℤ, pos, negsuc, eqb}
use Rattle.std.proofs.Math.Path.{refl, sym, ap}
use Rattle.std.proofs.Common.{ap₂, ◌∙◌, subst, ltb-true, ltb-false, le-ltb, eqb-true}
use Prim.Native.Nat.{ℕ, zero, suc, ◌+◌, ◌-◌, ◌*◌, ◌/◌, ◌%◌, ◌≤◌, ◌<◌}
use native.Mathlib.Omega.{arith}
use Rattle.std.proofs.Math.Bool.{true, false}
use Rattle.std.proofs.Math.Option.{Option, none, some, none-ne-some}
use mathlib.Core.List.{List, [], ◌∷◌, ◌++◌, append-nil}
use Rattle.std.proofs.Math.ListN.{length, length-append}
use Rattle.std.proofs.Math.IntN.{sub_ℕ}
use Rattle.std.proofs.Math.Dec.{ltb}
use Rattle.std.proofs.lemmas.Bool.{eqb-false}
use Rattle.layout.specs.Lists.{All, each, pick, first_with}
use Rattle.layout.specs.Numbers.{le16, le32, bit}
use Rattle.layout.specs.OpCode.{OpCode, SmallOpCode, small_byte, byte, small_op_codes, opcodes, opcode_of}
use Rattle.layout.specs.Answers.{Done}
use Rattle.layout.specs.Tree.{PushValue, String, Null, Undefined, Register, Boolean, Float, Integer, Constant, FunctionParam, function_param, Flat, Small, GotoFrame, GetUrl, StoreRegister, ConstantPool, WaitForFrame, SetTarget, GotoLabel, WaitForFrame2, Push, GetUrl2, GotoFrame2, Owner, With, DefineFunction, DefineFunction2, Branch, Jump, If, Variable, ActionIndex, first_action, next_action, Entry, entry, Action, flat, branch, owner, Try, ActionList, empty, more, Actions, body, Catch, no_catch, catch, Finally, no_finally, finally}
use Rattle.layout.specs.Payload.{zero_ended, strings_bytes, constant_bytes, double_bytes, push_bytes, pushes_bytes, opcode, goto_frame2_bytes, get_url2_bits, payload, params_bytes, owner_op_code, owner_fields, owner_payload, branch_op_code, catch_shape, finally_shape, catch_name, try_payload, framed}
use Rattle.layout.specs.Write.{body_size, catch_size, finally_size, Position, block_start, moved, to_operand, to_body, to_try, to_catch, to_finally, past, Event, label_at, branch_at, payload_too_long, body_too_long, event_if, payload_test, body_test, labels_at, trace, traces, trace_body, trace_catch, trace_finally, events, later, record_if, lookup, distance_bits, branch_bits, bytes, actions_bytes, body_bytes, catch_bytes, finally_bytes, block_bytes}
use Rattle.layout.specs.Judge.{judged, too_far, Mode}
use Rattle.layout.specs.Pack.{pack, ReadsAs}
use Rattle.layout.proofs.Lengths.{length_le16, length-try_payload, framed_long, framed_short, length_framed, owner_long, length_bytes, length_body, length_catch, length_finally}
use Rattle.laws.specs.Fits.{Bytes, Clean, ValueFits, ParamFits, Listed, FlatFits, OwnerFits, NameFits, Fits, ActionsFit, BodyFits, CatchFits, FinallyFits}
use Rattle.laws.specs.Packed.{Written}
use Rattle.laws.proofs.Packed.{is_written, tree_fits}
use Rattle.laws.specs.Nears.{NoneFar}
use Rattle.laws.proofs.Nears.{near_both, near_of_lem, bits_small, near_left, near_right, branch_near}
use Rattle.agreement.specs.Published.{Order, as_published, as_written, ui8, UI16, ui16, UI32, ui32, SI16, positive, negative, DOUBLE, little_endian, high_word_first, NonZero, STRING, string, bit_of, BITS, eight_bits, Each, nil, cons, code_alone, code_and_length, Fields, header_and_fields, simple, simples, Member, here, there, PushData, PushString, PushNull, PushUndefined, PushRegister, PushBoolean, PushDouble, PushInteger, PushConstant8, PushConstant16, GetURL2Flags, from_most, from_least, byte_zero, FlatRecord, ActionSimple, EndAmongActions, ActionGotoFrame, ActionGetURL, ActionStoreRegister, ActionConstantPool, ActionWaitForFrame, ActionSetTarget, ActionGoToLabel, ActionWaitForFrame2, ActionPush, ActionGetURL2, ActionGotoFrame2, ActionGotoFrame2Bias, Lands, reaches, unlabelled, REGISTERPARAM, register_param, FunctionFlags, function_flags, OwnerFields, ActionWith, ActionDefineFunction, ActionDefineFunction2, CatchFields, NoCatch, CatchName, CatchRegister, FinallyFlag, NoFinally, FinallyBlock, Places, placed, labels_here, ActionRecord, ActionFlat, ActionJump, ActionIf, ActionBlock, ActionTry, ActionRecords, end, next, BodyRecords, code, CatchRecords, no_catch_body, CatchBody, FinallyRecords, no_finally_body, FinallyBody, place_if, last_place, Block, action_starts, actions_starts, body_starts, catch_starts, finally_starts, ValueUndisputed, FlatUndisputed, Undisputed, ActionsUndisputed, BodyUndisputed, CatchUndisputed, FinallyUndisputed}
use Rattle.agreement.specs.PublishedFollows.{Placed, at_of, byte_of, code_of, places_of, simple_of}

-- ---- the definitions' numbers, strings and bits are of the published types

is_ui16 : (n : ℕ) → n < 65536 → UI16 n (le16 n)
unfolding le16
is_ui16 n h = ui16 {n = n} {lo = n % 256} {hi = n / 256 % 256} (omega arith) (omega arith) (omega arith)

is_ui32 : (n : ℕ) → n < 4294967296 → UI32 n (le32 n)
unfolding le32
is_ui32 n h =
    ui32 {n = n} {lo = n % 65536} {hi = n / 65536 % 65536}
    (is_ui16 (n % 65536) (omega arith)) (is_ui16 (n / 65536 % 65536) (omega arith)) (omega arith)

ui16_under : {n : ℕ} {bs : List ℕ} → UI16 n bs → n < 65536
ui16_under (ui16 a b e) = omega arith

ui32_under : {n : ℕ} {bs : List ℕ} → UI32 n bs → n < 4294967296
ui32_under (ui32 a b e) = omega (arith, ui16_under a, ui16_under b)

nonzero : (s : List ℕ) → Clean s → NonZero s
nonzero [] h = tt
nonzero (x ∷ s) h = (h.0, nonzero s h.1)

is_string : (s : List ℕ) → Clean s → STRING s (zero_ended s)
unfolding zero_ended
is_string s h = string (nonzero s h)

each_string : (ss : List (List ℕ)) → All Clean ss → Each STRING ss (strings_bytes ss)
unfolding strings_bytes
each_string [] h = nil
each_string (s ∷ ss) h = cons (is_string s h.0) (each_string ss h.1)

bit_is : (b : Bool) → bit b ≡ bit_of b
unfolding bit bit_of
bit_is true = refl
bit_is false = refl

bit_false : bit_of false ≡ 0
unfolding bit_of
bit_false = refl

bit_under : (b : Bool) → bit_of b < 2
unfolding bit_of
bit_under true = omega arith
bit_under false = omega arith

-- eight bits by the number they make
bits_as : (a b c d e f g h : Bool) (n : ℕ)
    → 128 * bit_of a + 64 * bit_of b + 32 * bit_of c + 16 * bit_of d + 8 * bit_of e + 4 * bit_of f + 2 * bit_of g + bit_of h ≡ n
    → BITS a b c d e f g h (n ∷ [])
bits_as a b c d e f g h n e' = subst (λ (m : ℕ). BITS a b c d e f g h (m ∷ [])) e' eight_bits

-- ---- headers

-- a header's length is that of the payload
is_fields : (op : OpCode) (q : List ℕ) → ltb (byte op) 128 ≡ false → ltb (byte op) 256 ≡ true → length q < 65536
    → Fields (byte op) q (framed op q)
is_fields op q h k l =
    rw (framed_long op q h) (header_and_fields (code_and_length (ltb-false (byte op) 128 h) (ltb-true (byte op) 256 k) (is_ui16 (length q) l)))

-- every opcode's byte, looked up among the published codes, gives that opcode
codes_published : each (λ op. first_with code_of (byte op) simples) opcodes ≡ each simple_of opcodes
unfolding each first_with pick code_of simple_of small_byte byte simples small_op_codes opcodes
codes_published = refl

codes_under : each (λ op. ltb (byte op) 256) opcodes ≡ each (λ op. true) opcodes
unfolding each small_byte byte small_op_codes opcodes
codes_under = refl

cons_same : {A : Type 0} {x y : A} {xs ys : List A} → x ∷ xs ≡ y ∷ ys → (x ≡ y) × (xs ≡ ys)
cons_same e = (cc, cc)

-- two functions that have the same values over a list agree on each element
each_same : {A B : Type 0} (f g : A → B) (xs : List A) → each f xs ≡ each g xs → All (λ x. f x ≡ g x) xs
unfolding each
each_same f g [] e = tt
each_same f g (x ∷ xs) e = ((cons_same e).0, each_same f g xs (cons_same e).1)

-- what is found has what all have
all_first : {A : Type 0} (P : A → Type 0) (number : A → ℕ) (n : ℕ) (xs : List A) (x : A) → All P xs → first_with number n xs ≡ some x → P x
unfolding first_with pick
all_first P number n [] x h e = absurd (none-ne-some x e)
all_first P number n (y ∷ ys) x h e = go (eqb (number y) n) (λ k. all_first P number n ys x h.1 k) e
  where
    go : (t : Bool) → (first_with number n ys ≡ some x → P x) → pick t (some y) (first_with number n ys) ≡ some x → P x
    go true later k =
        let same : y ≡ x = cc in
        subst P same h.0
    go false later k = later k

-- and is an element
first_member : {A : Type 0} (number : A → ℕ) (n : ℕ) (xs : List A) (x : A) → first_with number n xs ≡ some x → Member x xs
unfolding first_with pick
first_member number n [] x e = absurd (none-ne-some x e)
first_member number n (y ∷ ys) x e = go (eqb (number y) n) (λ k. first_member number n ys x k) e
  where
    go : (t : Bool) → (first_with number n ys ≡ some x → Member x ys) → pick t (some y) (first_with number n ys) ≡ some x → Member x (y ∷ ys)
    go true later k =
        let same : y ≡ x = cc in
        rw same here
    go false later k = there (later k)

zero_listed : opcode_of 0 ≡ some (OpCode.Small SmallOpCode.End)
unfolding each first_with pick small_byte byte small_op_codes opcodes opcode_of
zero_listed = refl

end_framed : FlatRecord as_written (Small SmallOpCode.End) (framed (OpCode.Small SmallOpCode.End) [])
unfolding byte small_byte
end_framed = rw (framed_short (OpCode.Small SmallOpCode.End) [] refl) (EndAmongActions byte_zero)

module _ (op : SmallOpCode) (listed : Listed (OpCode.Small op)) where
  -- an opcode that is not 0 has its published name and code
  is_member : eqb (small_byte op) 0 ≡ false → Member (simple op (small_byte op)) simples
  unfolding opcode_of
  is_member e =
      first_member code_of (small_byte op) simples (simple op (small_byte op))
      (unfold byte simple_of pick in all_first (λ x. first_with code_of (byte x) simples ≡ simple_of x) byte (byte (OpCode.Small op)) opcodes (OpCode.Small op)
      (each_same (λ x. first_with code_of (byte x) simples) simple_of opcodes codes_published) listed
      ∙ ap (λ (t : Bool). pick t none (some (simple op (small_byte op)))) e)

  -- the one that is 0 is End
  is_end : small_byte op ≡ 0 → SmallOpCode.End ≡ op
  unfolding byte
  is_end e =
      let k : some (OpCode.Small SmallOpCode.End) ≡ some (OpCode.Small op) = sym zero_listed ∙ ap opcode_of (sym e) ∙ listed in
      cc

  code_under : ltb (byte (OpCode.Small op)) 256 ≡ true
  unfolding opcode_of
  code_under =
      all_first (λ x. ltb (byte x) 256 ≡ true) byte (byte (OpCode.Small op)) opcodes (OpCode.Small op)
      (each_same (λ x. ltb (byte x) 256) (λ x. true) opcodes codes_under) listed

  is_simple : Fields (small_byte op) [] (framed (OpCode.Small op) [])
  is_simple = go (ltb (byte (OpCode.Small op)) 128) refl
    where
      go : (t : Bool) → ltb (byte (OpCode.Small op)) 128 ≡ t → Fields (small_byte op) [] (framed (OpCode.Small op) [])
      go true h = unfold byte in rw (framed_short (OpCode.Small op) [] h) (header_and_fields (code_alone (ltb-true (small_byte op) 128 h)))
      go false h = unfold byte in is_fields (OpCode.Small op) [] h code_under (omega arith)

  -- so each has a published record, or is End and has the source's
  is_small : FlatRecord as_written (Small op) (framed (OpCode.Small op) [])
  is_small = go (eqb (small_byte op) 0) refl
    where
      go : (t : Bool) → eqb (small_byte op) 0 ≡ t → FlatRecord as_written (Small op) (framed (OpCode.Small op) [])
      go true e = subst (λ (x : SmallOpCode). FlatRecord as_written (Small x) (framed (OpCode.Small x) [])) (is_end (eqb-true (small_byte op) 0 e)) end_framed
      go false e = ActionSimple (is_member e) is_simple

-- ---- records of actions with no body and no branch

is_double : (w : ℕ) → w < 18446744073709551616 → DOUBLE as_written w (double_bytes w)
unfolding double_bytes
is_double w h =
    high_word_first {n = w} {lo = w % 4294967296} {hi = w / 4294967296}
    (is_ui32 (w % 4294967296) (omega arith)) (is_ui32 (w / 4294967296) (omega arith)) (omega arith)

is_constant : (n : ℕ) (t : Bool) → ltb n 256 ≡ t → n < 65536 → PushData as_written (Constant n) (constant_bytes t n)
unfolding constant_bytes
is_constant n true e h = PushConstant8 (ui8 (ltb-true n 256 e))
is_constant n false e h = PushConstant16 (is_ui16 n h)

is_value : (v : PushValue) → ValueFits v → PushData as_written v (push_bytes v)
unfolding push_bytes
is_value (String s) h = PushString (is_string s h)
is_value Null h = PushNull
is_value Undefined h = PushUndefined
is_value (Register r) h = PushRegister (ui8 h)
is_value (Boolean b) h = rw (bit_is b) (PushBoolean (ui8 {n = bit_of b} (omega (arith, bit_under b))))
is_value (Float w) h = PushDouble (is_double w h)
is_value (Integer w) h = PushInteger (is_ui32 w h)
is_value (Constant n) h = is_constant n (ltb n 256) refl h

each_value : (vs : List PushValue) → All ValueFits vs → Each (PushData as_written) vs (pushes_bytes vs)
unfolding pushes_bytes
each_value [] h = nil
each_value (v ∷ vs) h = cons (is_value v h.0) (each_value vs h.1)

-- a number under 2 is a bit
bit_of_lem : (x : ℕ) → x < 2 → bit_of (eqb x 1) ≡ x
bit_of_lem x h = go (eqb x 1) refl
  where
    zero_of : (y : ℕ) → y < 2 → (y ≡ 1 → ⊥) → 0 ≡ y
    zero_of zero k g = refl
    zero_of (suc zero) k g = absurd (g refl)
    zero_of (suc (suc y)) k g = absurd (omega arith)

    go : (t : Bool) → eqb x 1 ≡ t → bit_of t ≡ x
    go true e = unfold bit_of in sym (eqb-true x 1 e)
    go false e = unfold bit_of in zero_of x h (eqb-false x 1 e)

is_url2 : (v t : Bool) (m : ℕ) → GetURL2Flags as_written v t m (get_url2_bits v t m ∷ [])
unfolding get_url2_bits
is_url2 v t m =
    let x : Bool = eqb (m % 4 / 2) 1 in
    let y : Bool = eqb (m % 2) 1 in
    let ex : bit_of x ≡ m % 4 / 2 = bit_of_lem (m % 4 / 2) (omega arith) in
    let ey : bit_of y ≡ m % 2 = bit_of_lem (m % 2) (omega arith) in
    from_least {x = x} {y = y} {method = m} (omega arith)
    (bits_as v t false false false false x y (m % 4 + 64 * bit t + 128 * bit v) (omega (arith, bit_is v, bit_is t, bit_false)))

is_frame2 : (n : ℕ) (p : Bool) → n < 65536 → length (goto_frame2_bytes n (bit p)) < 65536
    → FlatRecord as_written (GotoFrame2 n p) (framed OpCode.GotoFrame2 (goto_frame2_bytes n (bit p)))
unfolding goto_frame2_bytes byte
is_frame2 zero p h l =
    ActionGotoFrame2 (bits_as false false false false false false false p (bit p) (unfold bit_of in omega (arith, bit_is p)))
    (is_fields OpCode.GotoFrame2 (bit p ∷ []) refl refl l)
is_frame2 (suc n) p h l =
    ActionGotoFrame2Bias {SceneBias = suc n} (bits_as false false false false false false true p (bit p + 2) (unfold bit_of in omega (arith, bit_is p)))
    (is_ui16 (suc n) h) (is_fields OpCode.GotoFrame2 ((bit p + 2) ∷ le16 (suc n)) refl refl l)

-- each has the record of its table
is_flat : (f : Flat) → FlatFits f → length (payload f) < 65536 → FlatRecord as_written f (framed (opcode f) (payload f))
unfolding opcode payload byte
is_flat (Small op) h l = is_small op h
is_flat (GotoFrame n) h l = ActionGotoFrame (is_ui16 n h) (is_fields OpCode.GotoFrame (le16 n) refl refl l)
is_flat (GetUrl u t) h l = ActionGetURL (is_string u h.0) (is_string t h.1) (is_fields OpCode.GetUrl (zero_ended u ++ zero_ended t) refl refl l)
is_flat (StoreRegister r) h l = ActionStoreRegister (ui8 h) (is_fields OpCode.StoreRegister (r ∷ []) refl refl l)
is_flat (ConstantPool ss) h l =
    ActionConstantPool (is_ui16 (length ss) h.0) (each_string ss h.1)
    (is_fields OpCode.ConstantPool (le16 (length ss) ++ strings_bytes ss) refl refl l)
is_flat (WaitForFrame n k) h l = ActionWaitForFrame (is_ui16 n h.0) (ui8 h.1) (is_fields OpCode.WaitForFrame (le16 n ++ k ∷ []) refl refl l)
is_flat (SetTarget s) h l = ActionSetTarget (is_string s h) (is_fields OpCode.SetTarget (zero_ended s) refl refl l)
is_flat (GotoLabel s) h l = ActionGoToLabel (is_string s h) (is_fields OpCode.GotoLabel (zero_ended s) refl refl l)
is_flat (WaitForFrame2 k) h l = ActionWaitForFrame2 (ui8 h) (is_fields OpCode.WaitForFrame2 (k ∷ []) refl refl l)
is_flat (Push vs) h l = ActionPush (each_value vs h) (is_fields OpCode.Push (pushes_bytes vs) refl refl l)
is_flat (GetUrl2 v t m) h l = ActionGetURL2 (is_url2 v t m) (is_fields OpCode.GetUrl2 (get_url2_bits v t m ∷ []) refl refl l)
is_flat (GotoFrame2 n p) h l = is_frame2 n p h l

-- ---- the fields of actions that own a body

each_param : (ps : List FunctionParam) → All ParamFits ps → Each REGISTERPARAM ps (params_bytes ps)
unfolding params_bytes
each_param [] h = nil
each_param (function_param r s ∷ ps) h = cons (register_param (ui8 h.0.0) (is_string s h.0.1)) (each_param ps h.1)

-- the low eight bits of a number, and the rest
low_byte : (f f₁ f₂ f₃ f₄ f₅ f₆ f₇ f₈ b₀ b₁ b₂ b₃ b₄ b₅ b₆ b₇ : ℕ)
    → f ≡ b₀ + 2 * f₁ → f₁ ≡ b₁ + 2 * f₂ → f₂ ≡ b₂ + 2 * f₃ → f₃ ≡ b₃ + 2 * f₄ → f₄ ≡ b₄ + 2 * f₅
    → f₅ ≡ b₅ + 2 * f₆ → f₆ ≡ b₆ + 2 * f₇ → f₇ ≡ b₇ + 2 * f₈
    → f ≡ b₀ + 2 * b₁ + 4 * b₂ + 8 * b₃ + 16 * b₄ + 32 * b₅ + 64 * b₆ + 128 * b₇ + 256 * f₈
low_byte f f₁ f₂ f₃ f₄ f₅ f₆ f₇ f₈ b₀ b₁ b₂ b₃ b₄ b₅ b₆ b₇ h₀ h₁ h₂ h₃ h₄ h₅ h₆ h₇ = omega arith

one_bit : (b : Bool) (n : ℕ) → bit_of b ≡ n
    → 128 * bit_of false + 64 * bit_of false + 32 * bit_of false + 16 * bit_of false + 8 * bit_of false + 4 * bit_of false + 2 * bit_of false + bit_of b ≡ n
one_bit b n h = let z : bit_of false ≡ 0 = (unfold bit_of in refl) in omega arith

module _ (f : ℕ) (h : f < 512) where
  -- the flag of a weight
  abbrev flag : ℕ → Bool
  flag w = eqb (f / w % 2) 1

  flag_is : (w : ℕ) → bit_of (flag w) ≡ f / w % 2
  flag_is w = bit_of_lem (f / w % 2) (omega arith)

  whole_flags : f ≡ bit_of (flag 1) + 2 * bit_of (flag 2) + 4 * bit_of (flag 4) + 8 * bit_of (flag 8) + 16 * bit_of (flag 16) + 32 * bit_of (flag 32)
      + 64 * bit_of (flag 64) + 128 * bit_of (flag 128) + 256 * bit_of (flag 256)
  whole_flags =
      rw (flag_is 1, flag_is 2, flag_is 4, flag_is 8, flag_is 16, flag_is 32, flag_is 64, flag_is 128, flag_is 256)
      (low_byte f (f / 2) (f / 4) (f / 8) (f / 16) (f / 32) (f / 64) (f / 128) (f / 256 % 2)
      (f / 1 % 2) (f / 2 % 2) (f / 4 % 2) (f / 8 % 2) (f / 16 % 2) (f / 32 % 2) (f / 64 % 2) (f / 128 % 2)
      (omega arith) (omega arith) (omega arith) (omega arith) (omega arith) (omega arith) (omega arith) (omega arith))

  -- from the most significant bit on, as published
  is_flags : FunctionFlags f (le16 f)
  unfolding le16
  is_flags =
      function_flags {PreloadParent = flag 128} {PreloadRoot = flag 64} {SuppressSuper = flag 32} {PreloadSuper = flag 16} {SuppressArguments = flag 8}
      {PreloadArguments = flag 4} {SuppressThis = flag 2} {PreloadThis = flag 1} {PreloadGlobal = flag 256} {a = f % 256 ∷ []} {b = f / 256 % 256 ∷ []}
      (bits_as (flag 128) (flag 64) (flag 32) (flag 16) (flag 8) (flag 4) (flag 2) (flag 1) (f % 256)
      (lows f _ _ _ _ _ _ _ _ _ whole_flags (bit_under (flag 1)) (bit_under (flag 2)) (bit_under (flag 4)) (bit_under (flag 8)) (bit_under (flag 16)) (bit_under (flag 32)) (bit_under (flag 64)) (bit_under (flag 128))))
      (bits_as false false false false false false false (flag 256) (f / 256 % 256) (one_bit (flag 256) (f / 256 % 256) (flag_is 256 ∙ omega arith)))
      whole_flags
    where
      lows : (n a b c d e i j k l : ℕ) → n ≡ a + 2 * b + 4 * c + 8 * d + 16 * e + 32 * i + 64 * j + 128 * k + 256 * l
          → a < 2 → b < 2 → c < 2 → d < 2 → e < 2 → i < 2 → j < 2 → k < 2
          → 128 * k + 64 * j + 32 * i + 16 * e + 8 * d + 4 * c + 2 * b + a ≡ n % 256
      lows n a b c d e i j k l m h₁ h₂ h₃ h₄ h₅ h₆ h₇ h₈ = omega arith

owner_byte : (o : Owner) → ltb (byte (owner_op_code o)) 256 ≡ true
unfolding owner_op_code byte
owner_byte With = refl
owner_byte (DefineFunction s ps) = refl
owner_byte (DefineFunction2 s ps r f) = refl

is_owner : (o : Owner) → OwnerFits o → OwnerFields o (byte (owner_op_code o)) (owner_fields o)
unfolding owner_op_code byte owner_fields
is_owner With h = ActionWith
is_owner (DefineFunction s ps) h = ActionDefineFunction (is_string s h.0) (is_ui16 (length ps) h.1) (each_string ps h.2)
is_owner (DefineFunction2 s ps r f) h =
    ActionDefineFunction2 (is_string s h.0) (is_ui16 (length ps) h.1) (ui8 {n = r} h.4) (is_flags f h.3) (each_param ps h.2)

-- ---- branches

module _ (a b : ℕ) (h : a ≤ b + 32767) (k : b ≤ a + 32768) where
  sub_is : a < b → sub_ℕ b (suc (b - suc a)) ≡ pos a
  sub_is l =
      let g : suc (b - suc a) ≤ b = omega arith in
      let e : b - suc (b - suc a) ≡ a = omega arith in
      rw (le-ltb b (suc (b - suc a)) g) (ap pos e)

  -- the offset of a near branch to a, whose record ends at b
  near_lands : (t : Bool) → ltb a b ≡ t → (bs : List ℕ) → UI16 ((a + 65536 - b) % 65536) bs
      → (z : ℤ) × SI16 z bs × Lands (some a) b z
  near_lands true l bs u =
      let w : ℕ = (a + 65536 - b) % 65536 in
      let g : a < b = ltb-true a b l in
      let e : 65535 - w ≡ b - suc a = omega arith in
      (negsuc (65535 - w), negative u (omega arith), reaches (ap (λ (n : ℕ). sub_ℕ b (suc n)) e ∙ sub_is g))
  near_lands false l bs u =
      let w : ℕ = (a + 65536 - b) % 65536 in
      let g : b ≤ a = ltb-false a b l in
      let e : b + w ≡ a = omega arith in
      (pos w, positive u (omega arith), reaches (ap pos e))

places_append : (xs ys : List Event) → places_of (xs ++ ys) ≡ places_of xs ++ places_of ys
unfolding places_of
places_append [] ys = refl
places_append (label_at l s ∷ xs) ys = ap (λ (ls : Places). (l, s.at) ∷ ls) (places_append xs ys)
places_append (branch_at l s ∷ xs) ys = places_append xs ys
places_append (payload_too_long n s ∷ xs) ys = places_append xs ys
places_append (body_too_long n s ∷ xs) ys = places_append xs ys

places_payload : (n : ℕ) (s : Position) → places_of (payload_test n s) ≡ []
unfolding payload_test
places_payload n s = go (ltb 65535 n)
  where
    go : (t : Bool) → places_of (event_if t (payload_too_long n s)) ≡ []
    go true = unfold event_if places_of in refl
    go false = unfold event_if places_of in refl

places_test : (n : ℕ) (s : Position) → places_of (body_test n s) ≡ []
unfolding body_test
places_test n s = go (ltb 65535 n)
  where
    go : (t : Bool) → places_of (event_if t (body_too_long n s)) ≡ []
    go true = unfold event_if places_of in refl
    go false = unfold event_if places_of in refl

places_labels : (es : List Entry) (i : ActionIndex) (s : Position) → places_of (labels_at es i s) ≡ labels_here es i s.at
unfolding labels_at labels_here
places_labels [] i s = unfold places_of in refl
places_labels (entry l j ∷ es) i s =
    places_append (event_if (eqb i.index j.index) (label_at l s)) (labels_at es i s)
    ∙ ap₂ (λ (x y : Places). x ++ y) (go (eqb i.index j.index)) (places_labels es i s)
  where
    go : (t : Bool) → places_of (event_if t (label_at l s)) ≡ placed t l s.at
    go true = unfold event_if places_of placed in refl
    go false = unfold event_if places_of placed in refl

-- the record that wins is the last place
last_is : (es : List Event) (l : ℕ) → last_place (places_of es) l ≡ at_of (lookup l es)
unfolding places_of lookup last_place
last_is [] l = unfold at_of in refl
last_is (label_at k s ∷ es) l = ap (place_if (eqb l k) s.at) (last_is es l) ∙ go (eqb l k) (lookup l es)
  where
    go : (t : Bool) (o : Option Position) → place_if t s.at (at_of o) ≡ at_of (later (record_if t s) o)
    go true none = unfold place_if at_of later record_if in refl
    go false none = unfold place_if at_of later record_if in refl
    go t (some x) = unfold place_if at_of later record_if in refl
last_is (branch_at k s ∷ es) l = last_is es l
last_is (payload_too_long n s ∷ es) l = last_is es l
last_is (body_too_long n s ∷ es) l = last_is es l

branch_offset : (o : Option Position) (q k : ℕ) → judged o q k ≡ none → (bs : List ℕ) → UI16 (distance_bits o q) bs → (z : ℤ) × SI16 z bs × Lands (at_of o) q z
unfolding distance_bits at_of
branch_offset none q k h bs u = (pos 0, positive u (omega arith), unlabelled)
branch_offset (some s) q k h bs u =
    let n : (s.at ≤ q + 32767) × (q ≤ s.at + 32768) = near_both s.at q (near_of_lem s q k h) in
    near_lands s.at q n.0 n.1 (ltb s.at q) refl bs u

is_shape : (c : Catch) (f : Finally) → NameFits c
    → (x : Bool) × (y : Bool) × (z : Bool) × BITS false false false false false x y z ((catch_shape c + finally_shape f) ∷ []) × CatchFields c x z (catch_name c) × FinallyFlag f y
unfolding catch_shape finally_shape catch_name bit_of
is_shape no_catch no_finally h = (false, false, false, eight_bits, NoCatch (string {s = []} tt), NoFinally)
is_shape no_catch (finally b) h = (false, true, false, eight_bits, NoCatch (string {s = []} tt), FinallyBlock)
is_shape (catch (Variable s) x) no_finally h = (false, false, true, eight_bits, CatchName (is_string s h), NoFinally)
is_shape (catch (Variable s) x) (finally b) h = (false, true, true, eight_bits, CatchName (is_string s h), FinallyBlock)
is_shape (catch (Register r) x) no_finally h = (true, false, true, eight_bits, CatchRegister (ui8 h), NoFinally)
is_shape (catch (Register r) x) (finally b) h = (true, true, true, eight_bits, CatchRegister (ui8 h), FinallyBlock)

-- ---- trees; `all` has every record of a label

module _ (all : List Event) where
  abbrev offset_bits : ℕ → ℕ → ℕ
  offset_bits l p = distance_bits (lookup l all) p

  abbrev final : ℕ → Option ℕ
  final = last_place (places_of all)

  abbrev record_of : ℕ → Option Position
  record_of l = lookup l all

  -- a near branch's bits are its offset
  offset_is : (l : ℕ) (s : Position) → NoneFar record_of (branch_at l (to_operand s) ∷ [])
      → (z : ℤ) × SI16 z (le16 (offset_bits l (s.at + 5))) × Lands (final l) (s.at + 5) z
  offset_is l s h =
      let p : ℕ = s.at in
      let j : judged (lookup l all) (p + 5) (s.number + 0) ≡ none = branch_near record_of l s h in
      let (z, y, d) = branch_offset (lookup l all) (p + 5) (s.number + 0) j (le16 (offset_bits l (p + 5)))
      (is_ui16 (offset_bits l (p + 5)) (bits_small (lookup l all) (p + 5))) in
      (z, y, subst (λ (o : Option ℕ). Lands o (p + 5) z) (sym (last_is all l)) d)

  is_branch : (k : Branch) (l : ℕ) (s : Position) → NoneFar record_of (branch_at l (to_operand s) ∷ [])
      → ActionRecord as_written final s.at (branch k l) (framed (branch_op_code k) (le16 (offset_bits l (s.at + 5)))) []
  unfolding branch_op_code byte
  is_branch Jump l s h =
      let p : ℕ = s.at in
      let w : ℕ = offset_bits l (p + 5) in
      let (z, y, d) = offset_is l s h in
      let e : p + 5 ≡ p + length (framed OpCode.Jump (le16 w)) =
      ap (λ (n : ℕ). p + n) (sym (length_framed OpCode.Jump (le16 w) refl ∙ ap (λ (n : ℕ). 3 + n) (length_le16 w))) in
      ActionJump y (is_fields OpCode.Jump (le16 w) refl refl (omega (arith, length_le16 w))) (subst (λ (n : ℕ). Lands (final l) n z) e d)
  is_branch If l s h =
      let p : ℕ = s.at in
      let w : ℕ = offset_bits l (p + 5) in
      let (z, y, d) = offset_is l s h in
      let e : p + 5 ≡ p + length (framed OpCode.If (le16 w)) =
      ap (λ (n : ℕ). p + n) (sym (length_framed OpCode.If (le16 w) refl ∙ ap (λ (n : ℕ). 3 + n) (length_le16 w))) in
      ActionIf y (is_fields OpCode.If (le16 w) refl refl (omega (arith, length_le16 w))) (subst (λ (n : ℕ). Lands (final l) n z) e d)

  -- with a body of m bytes: Length counts the fields, and the size counts the body
  is_owned : (d : Owner) (b : Actions) (p m : ℕ) {q : List ℕ} {ls : Places} → OwnerFits d → length (owner_fields d) + 2 < 65536 → m < 65536 → length q ≡ m
      → BodyRecords as_written final (p + (5 + length (owner_fields d))) b q ls
      → ActionRecord as_written final p (owner d b) (framed (owner_op_code d) (owner_payload d m) ++ q) ls
  unfolding owner_payload
  is_owned d b p m {q} {ls} h l k e r =
      let fs : List ℕ = owner_fields d ++ le16 m in
      let lf : length fs ≡ length (owner_fields d) + 2 =
      length-append (owner_fields d) (le16 m) ∙ ap (λ (n : ℕ). length (owner_fields d) + n) (length_le16 m) in
      let at : p + (5 + length (owner_fields d)) ≡ p + length (framed (owner_op_code d) fs) = omega (arith, length_framed (owner_op_code d) fs (owner_long d)) in
      ActionBlock (is_owner d h) (subst (λ (n : ℕ). UI16 n (le16 m)) (sym e) (is_ui16 m k))
      (is_fields (owner_op_code d) fs (owner_long d) (owner_byte d) (omega arith))
      (subst (λ (n : ℕ). BodyRecords as_written final n b q ls) at r) refl

  owned_places : (n m : ℕ) (s : Position) (xs : List Event) → places_of xs ≡ places_of (payload_test n s ++ (xs ++ body_test m s))
  owned_places n m s xs =
      sym (places_append (payload_test n s) (xs ++ body_test m s)
      ∙ ap₂ (λ (x y : Places). x ++ y) (places_payload n s)
      (places_append xs (body_test m s) ∙ ap (λ (y : Places). places_of xs ++ y) (places_test m s) ∙ append-nil (places_of xs)))

  -- with three bodies of i, j and k bytes
  is_try : (b : Actions) (c : Catch) (f : Finally) (p i j k : ℕ) {x y z : List ℕ} {ls ms ns : Places} → NameFits c → 7 + length (catch_name c) < 65536
      → i < 65536 → j < 65536 → k < 65536 → length x ≡ i → length y ≡ j → length z ≡ k
      → BodyRecords as_written final (p + (10 + length (catch_name c))) b x ls → CatchRecords as_written final (p + (10 + length (catch_name c)) + i) c y ms
      → FinallyRecords as_written final (p + (10 + length (catch_name c)) + (i + j)) f z ns
      → ActionRecord as_written final p (Try b c f) (framed OpCode.Try (try_payload (catch_shape c + finally_shape f) i j k (catch_name c)) ++ (x ++ (y ++ z))) (ls ++ (ms ++ ns))
  unfolding try_payload byte
  is_try b c f p i j k {x} {y} {z} {ls} {ms} {ns} h l hi hj hk ex ey ez rx ry rz =
      let o : ℕ = catch_shape c + finally_shape f in
      let q : List ℕ = o ∷ (le16 i ++ (le16 j ++ (le16 k ++ catch_name c))) in
      let lq : length q ≡ 7 + length (catch_name c) = length-try_payload o i j k (catch_name c) in
      let lr : length (framed OpCode.Try q) ≡ 10 + length (catch_name c) = length_framed OpCode.Try q refl ∙ omega arith in
      let e₀ : p + (10 + length (catch_name c)) ≡ p + length (framed OpCode.Try q) = omega arith in
      let e₁ : p + (10 + length (catch_name c)) + i ≡ p + length (framed OpCode.Try q) + length x = omega arith in
      let e₂ : p + (10 + length (catch_name c)) + (i + j) ≡ p + length (framed OpCode.Try q) + length x + length y = omega arith in
      let (u, v, w, bs, cf, ff) = is_shape c f h in
      ActionTry {flags = o ∷ []} bs (subst (λ (n : ℕ). UI16 n (le16 i)) (sym ex) (is_ui16 i hi))
      (subst (λ (n : ℕ). UI16 n (le16 j)) (sym ey) (is_ui16 j hj)) (subst (λ (n : ℕ). UI16 n (le16 k)) (sym ez) (is_ui16 k hk))
      cf ff (is_fields OpCode.Try q refl refl (omega arith))
      (subst (λ (n : ℕ). BodyRecords as_written final n b x ls) e₀ rx)
      (subst (λ (n : ℕ). CatchRecords as_written final n c y ms) e₁ ry)
      (subst (λ (n : ℕ). FinallyRecords as_written final n f z ns) e₂ rz) refl refl

  try_places : (n i j k : ℕ) (s : Position) (xs ys zs : List Event)
      → places_of xs ++ (places_of ys ++ places_of zs) ≡ places_of (payload_test n s ++ (xs ++ (ys ++ (zs ++ (body_test i s ++ (body_test j s ++ body_test k s))))))
  try_places n i j k s xs ys zs =
      let t : List Event = body_test i s ++ (body_test j s ++ body_test k s) in
      sym (rw (
        places_append (payload_test n s) (xs ++ (ys ++ (zs ++ t))),
        places_payload n s,
        places_append xs (ys ++ (zs ++ t)),
        places_append ys (zs ++ t),
        places_append zs t,
        places_append (body_test i s) (body_test j s ++ body_test k s),
        places_append (body_test j s) (body_test k s),
        places_test i s,
        places_test j s,
        places_test k s,
        append-nil (places_of zs),
      ))

  mutual
    unfolding trace bytes moved try_payload places_of

    -- what is written follows the layouts, and meets the labels that the definitions record
    is_action : (a : Action) (s : Position) → Fits a → NoneFar record_of (trace a s)
        → ActionRecord as_written final s.at a (bytes offset_bits a s.at) (places_of (trace a s))
    is_action (flat f) s h r =
        subst (λ (ls : Places). ActionRecord as_written final s.at (flat f) (framed (opcode f) (payload f)) ls)
        (sym (places_payload (length (payload f)) s)) (ActionFlat (is_flat f h.0 h.1))
    is_action (branch k l) s h r = is_branch k l s r
    is_action (owner d b) s h r =
        let n : ℕ = (to_body d s).at in
        let x : List Event = payload_test (length (owner_fields d) + 2) s in
        let y : List Event = trace_body b (to_body d s) in
        let z : List Event = body_test (body_size b) s in
        let g : NoneFar record_of y = near_left record_of y z (near_right record_of x (y ++ z) r) in
        subst (λ (ls : Places). ActionRecord as_written final s.at (owner d b) (framed (owner_op_code d) (owner_payload d (body_size b)) ++ body_bytes offset_bits b n) ls)
        (owned_places (length (owner_fields d) + 2) (body_size b) s y)
        (is_owned d b s.at (body_size b) h.0 h.1 h.2 (length_body offset_bits b n) (is_body b (to_body d s) h.3 g))
    is_action (Try b c f) s h r =
        let n : ℕ = (to_try c s).at in
        let n₁ : ℕ = (to_catch b c s).at in
        let n₂ : ℕ = (to_finally b c s).at in
        let x₀ : List Event = payload_test (7 + length (catch_name c)) s in
        let x₁ : List Event = trace_body b (to_try c s) in
        let x₂ : List Event = trace_catch c (to_catch b c s) in
        let x₃ : List Event = trace_finally f (to_finally b c s) in
        let x₄ : List Event = body_test (body_size b) s ++ (body_test (catch_size c) s ++ body_test (finally_size f) s) in
        let r₁ : NoneFar record_of (x₁ ++ (x₂ ++ (x₃ ++ x₄))) = near_right record_of x₀ (x₁ ++ (x₂ ++ (x₃ ++ x₄))) r in
        let r₂ : NoneFar record_of (x₂ ++ (x₃ ++ x₄)) = near_right record_of x₁ (x₂ ++ (x₃ ++ x₄)) r₁ in
        let r₃ : NoneFar record_of (x₃ ++ x₄) = near_right record_of x₂ (x₃ ++ x₄) r₂ in
        let t₁ : BodyRecords as_written final n b (body_bytes offset_bits b n) (places_of x₁) = is_body b (to_try c s) h.5 (near_left record_of x₁ (x₂ ++ (x₃ ++ x₄)) r₁) in
        let t₂ : CatchRecords as_written final n₁ c (catch_bytes offset_bits c n₁) (places_of x₂) = is_catch c (to_catch b c s) h.6 (near_left record_of x₂ (x₃ ++ x₄) r₂) in
        let t₃ : FinallyRecords as_written final n₂ f (finally_bytes offset_bits f n₂) (places_of x₃) = is_finally f (to_finally b c s) h.7 (near_left record_of x₃ x₄ r₃) in
        subst (λ (ls : Places). ActionRecord as_written final s.at (Try b c f)
        (framed OpCode.Try (try_payload (catch_shape c + finally_shape f) (body_size b) (catch_size c) (finally_size f) (catch_name c))
        ++ (body_bytes offset_bits b n ++ (catch_bytes offset_bits c n₁ ++ finally_bytes offset_bits f n₂))) ls)
        (try_places (7 + length (catch_name c)) (body_size b) (catch_size c) (finally_size f) s x₁ x₂ x₃)
        (is_try b c f s.at (body_size b) (catch_size c) (finally_size f) h.0 h.1 h.2 h.3 h.4
        (length_body offset_bits b n) (length_catch offset_bits c n₁) (length_finally offset_bits f n₂) t₁ t₂ t₃)

    is_actions : (xs : ActionList) (es : List Entry) (i : ActionIndex) (s : Position) → ActionsFit xs → NoneFar record_of (traces xs es i s)
        → ActionRecords as_written final s.at xs es i (actions_bytes offset_bits xs s.at) (places_of (traces xs es i s))
    is_actions empty es i s h r = end (places_labels es i s)
    is_actions (more a xs) es i s h r =
        let n : ℕ = (past a s).at in
        let x : List Event = labels_at es i s in
        let y : List Event = trace a s in
        let z : List Event = traces xs es (next_action i) (past a s) in
        let g : NoneFar record_of (y ++ z) = near_right record_of x (y ++ z) r in
        let e : n ≡ s.at + length (bytes offset_bits a s.at) = ap (λ (m : ℕ). s.at + m) (sym (length_bytes offset_bits a s.at)) in
        next (is_action a s h.0 (near_left record_of y z g))
        (subst (λ (m : ℕ). ActionRecords as_written final m xs es (next_action i) (actions_bytes offset_bits xs n) (places_of z)) e
        (is_actions xs es (next_action i) (past a s) h.1 (near_right record_of y z g))) refl
        (places_append x (y ++ z) ∙ ap₂ (λ (u v : Places). u ++ v) (places_labels es i s) (places_append y z))

    is_body : (b : Actions) (s : Position) → BodyFits b → NoneFar record_of (trace_body b s)
        → BodyRecords as_written final s.at b (body_bytes offset_bits b s.at) (places_of (trace_body b s))
    is_body (body es xs) s h r = code (is_actions xs es first_action s h r)

    is_catch : (c : Catch) (s : Position) → CatchFits c → NoneFar record_of (trace_catch c s)
        → CatchRecords as_written final s.at c (catch_bytes offset_bits c s.at) (places_of (trace_catch c s))
    is_catch no_catch s h r = no_catch_body
    is_catch (catch t b) s h r = CatchBody (is_body b s h r)

    is_finally : (f : Finally) (s : Position) → FinallyFits f → NoneFar record_of (trace_finally f s)
        → FinallyRecords as_written final s.at f (finally_bytes offset_bits f s.at) (places_of (trace_finally f s))
    is_finally no_finally s h r = no_finally_body
    is_finally (finally b) s h r = FinallyBody (is_body b s h r)

-- a tree whose lengths fit, and in which nothing is too far
tree_follows : (t : Actions) → BodyFits t → too_far (events t) (events t) ≡ none → Block as_written t (block_bytes t)
unfolding block_bytes branch_bits events
tree_follows t h n =
    record {
      actions = body_bytes (branch_bits t) t 0;
      labels = places_of (events t);
      records = is_body (trace_body t block_start) t block_start h n;
      is_ended = refl;
    }

-- ---- there is no other difference

value_published : {v : PushValue} {bs : List ℕ} → PushData as_written v bs → ValueUndisputed v → PushData as_published v bs
value_published (PushString a) h = PushString a
value_published PushNull h = PushNull
value_published PushUndefined h = PushUndefined
value_published (PushRegister a) h = PushRegister a
value_published (PushBoolean a) h = PushBoolean a
value_published (PushDouble a) h = absurd h
value_published (PushInteger a) h = PushInteger a
value_published (PushConstant8 a) h = PushConstant8 a
value_published (PushConstant16 a) h = PushConstant16 a

values_published : {vs : List PushValue} {bs : List ℕ} → Each (PushData as_written) vs bs → All ValueUndisputed vs → Each (PushData as_published) vs bs
values_published nil h = nil
values_published (cons a r) h = cons (value_published a h.0) (values_published r h.1)

flat_published : {f : Flat} {r : List ℕ} → FlatRecord as_written f r → FlatUndisputed f → FlatRecord as_published f r
flat_published (ActionSimple m a) h = ActionSimple m a
flat_published (EndAmongActions a) h = absurd (h refl)
flat_published (ActionGotoFrame a r) h = ActionGotoFrame a r
flat_published (ActionGetURL a b r) h = ActionGetURL a b r
flat_published (ActionStoreRegister a r) h = ActionStoreRegister a r
flat_published (ActionConstantPool a b r) h = ActionConstantPool a b r
flat_published (ActionWaitForFrame a b r) h = ActionWaitForFrame a b r
flat_published (ActionSetTarget a r) h = ActionSetTarget a r
flat_published (ActionGoToLabel a r) h = ActionGoToLabel a r
flat_published (ActionWaitForFrame2 a r) h = ActionWaitForFrame2 a r
flat_published (ActionPush a r) h = ActionPush (values_published a h) r
flat_published (ActionGetURL2 a r) h = absurd h
flat_published (ActionGotoFrame2 a r) h = ActionGotoFrame2 a r
flat_published (ActionGotoFrame2Bias a b r) h = ActionGotoFrame2Bias a b r

module _ (final : ℕ → Option ℕ) where
  mutual
    action_published : {p : ℕ} {a : Action} {r : List ℕ} {ls : Places} → ActionRecord as_written final p a r ls → Undisputed a
        → ActionRecord as_published final p a r ls
    action_published (ActionFlat f) h = ActionFlat (flat_published f h)
    action_published (ActionJump s r d) h = ActionJump s r d
    action_published (ActionIf s r d) h = ActionIf s r d
    action_published (ActionBlock d s r b e) h = ActionBlock d s r (body_published b h) e
    action_published (ActionTry g s t u c f r x y z e k) h = ActionTry g s t u c f r (body_published x h.0) (catch_published y h.1) (finally_published z h.2) e k

    actions_published : {p : ℕ} {i : ActionIndex} {xs : ActionList} {es : List Entry} {r : List ℕ} {ls : Places}
        → ActionRecords as_written final p xs es i r ls → ActionsUndisputed xs
        → ActionRecords as_published final p xs es i r ls
    actions_published (end k) h = end k
    actions_published (next a r e k) h = next (action_published a h.0) (actions_published r h.1) e k

    body_published : {p : ℕ} {b : Actions} {r : List ℕ} {ls : Places} → BodyRecords as_written final p b r ls → BodyUndisputed b
        → BodyRecords as_published final p b r ls
    body_published (code r) h = code (actions_published r h)

    catch_published : {p : ℕ} {c : Catch} {r : List ℕ} {ls : Places} → CatchRecords as_written final p c r ls → CatchUndisputed c
        → CatchRecords as_published final p c r ls
    catch_published no_catch_body h = no_catch_body
    catch_published (CatchBody r) h = CatchBody (body_published r h)

    finally_published : {p : ℕ} {f : Finally} {r : List ℕ} {ls : Places} → FinallyRecords as_written final p f r ls → FinallyUndisputed f
        → FinallyRecords as_published final p f r ls
    finally_published no_finally_body h = no_finally_body
    finally_published (FinallyBody r) h = FinallyBody (body_published r h)

block_published : {t : Actions} {q : List ℕ} → Block as_written t q → BodyUndisputed t → Block as_published t q
block_published b h =
    record {
      actions = b.actions;
      labels = b.labels;
      records = body_published (last_place b.labels) b.records h;
      is_ended = b.is_ended;
    }

-- ---- labels are placed where a record starts or a body ends

member_left : (x : ℕ) (xs ys : List ℕ) → Member x xs → Member x (xs ++ ys)
member_left x [] ys m = elim m [ ]
member_left x (y ∷ xs) ys here = here
member_left x (y ∷ xs) ys (there m) = there (member_left x xs ys m)

member_right : (x : ℕ) (xs ys : List ℕ) → Member x ys → Member x (xs ++ ys)
member_right x [] ys m = m
member_right x (y ∷ xs) ys m = there (member_right x xs ys m)

placed_as : (ps qs : List ℕ) (ls : Places) → ((x : ℕ) → Member x ps → Member x qs) → All (Placed ps) ls → All (Placed qs) ls
placed_as ps qs [] f h = tt
placed_as ps qs (x ∷ ls) f h = (f x.1 h.0, placed_as ps qs ls f h.1)

placed_append : (ps : List ℕ) (ls ms : Places) → All (Placed ps) ls → All (Placed ps) ms → All (Placed ps) (ls ++ ms)
placed_append ps [] ms h k = k
placed_append ps (x ∷ ls) ms h k = (h.0, placed_append ps ls ms h.1 k)

placed_here : (es : List Entry) (i : ActionIndex) (p : ℕ) (ps : List ℕ) → All (Placed (p ∷ ps)) (labels_here es i p)
unfolding labels_here
placed_here [] i p ps = tt
placed_here (entry l j ∷ es) i p ps =
    placed_append (p ∷ ps) (placed (eqb i.index j.index) l p) (labels_here es i p) (go (eqb i.index j.index)) (placed_here es i p ps)
  where
    go : (t : Bool) → All (Placed (p ∷ ps)) (placed t l p)
    go true = unfold placed in (here, tt)
    go false = unfold placed in tt

module _ (o : Order) (final : ℕ → Option ℕ) where
  mutual
    unfolding action_starts

    starts_action : {p : ℕ} {a : Action} {r : List ℕ} {ls : Places} → (d : ActionRecord o final p a r ls) → All (Placed (action_starts o final d)) ls
    starts_action (ActionFlat f) = tt
    starts_action (ActionJump s r d) = tt
    starts_action (ActionIf s r d) = tt
    starts_action (ActionBlock d u f b e) = starts_body b
    starts_action (ActionTry {ls = ls} {ms = ms} {ns = ns} g s t u c f r x y z e k) =
        let ps : List ℕ = body_starts o final x in
        let qs : List ℕ = catch_starts o final y in
        let rs : List ℕ = finally_starts o final z in
        rw k (placed_append (ps ++ (qs ++ rs)) ls (ms ++ ns) (placed_as ps (ps ++ (qs ++ rs)) ls (λ w m. member_left w ps (qs ++ rs) m) (starts_body x))
        (placed_append (ps ++ (qs ++ rs)) ms ns (placed_as qs (ps ++ (qs ++ rs)) ms (λ w m. member_right w ps (qs ++ rs) (member_left w qs rs m)) (starts_catch y))
        (placed_as rs (ps ++ (qs ++ rs)) ns (λ w m. member_right w ps (qs ++ rs) (member_right w qs rs m)) (starts_finally z))))

    starts_actions : {p : ℕ} {i : ActionIndex} {xs : ActionList} {es : List Entry} {r : List ℕ} {ls : Places}
        → (d : ActionRecords o final p xs es i r ls) → All (Placed (actions_starts o final d)) ls
    starts_actions (end {p = p} {i = i} {es = es} k) = rw k (placed_here es i p [])
    starts_actions (next {p = p} {i = i} {es = es} {ls = ls} {ms = ms} a b e k) =
        let ps : List ℕ = action_starts o final a in
        let qs : List ℕ = actions_starts o final b in
        rw k (placed_append (p ∷ (ps ++ qs)) (labels_here es i p) (ls ++ ms) (placed_here es i p (ps ++ qs))
        (placed_append (p ∷ (ps ++ qs)) ls ms (placed_as ps (p ∷ (ps ++ qs)) ls (λ w m. there (member_left w ps qs m)) (starts_action a))
        (placed_as qs (p ∷ (ps ++ qs)) ms (λ w m. there (member_right w ps qs m)) (starts_actions b))))

    starts_body : {p : ℕ} {b : Actions} {r : List ℕ} {ls : Places} → (d : BodyRecords o final p b r ls) → All (Placed (body_starts o final d)) ls
    starts_body (code r) = starts_actions r

    starts_catch : {p : ℕ} {c : Catch} {r : List ℕ} {ls : Places} → (d : CatchRecords o final p c r ls) → All (Placed (catch_starts o final d)) ls
    starts_catch no_catch_body = tt
    starts_catch (CatchBody r) = starts_body r

    starts_finally : {p : ℕ} {f : Finally} {r : List ℕ} {ls : Places} → (d : FinallyRecords o final p f r ls) → All (Placed (finally_starts o final d)) ls
    starts_finally no_finally_body = tt
    starts_finally (FinallyBody r) = starts_body r

last_placed : (ps : List ℕ) (ls : Places) (l x : ℕ) → All (Placed ps) ls → last_place ls l ≡ some x → Member x ps
unfolding last_place
last_placed ps [] l x h e = absurd (none-ne-some x e)
last_placed ps (y ∷ ls) l x h e = go (eqb l y.0) (last_place ls l) refl e (λ k. last_placed ps ls l x h.1 k)
  where
    go : (t : Bool) (o : Option ℕ) → last_place ls l ≡ o → place_if t y.1 o ≡ some x → (last_place ls l ≡ some x → Member x ps) → Member x ps
    go t (some q) z k f = f (z ∙ (unfold place_if in k))
    go true none z k f = let g : y.1 ≡ x = (unfold place_if in cc) in rw g at h.0
    go false none z k f = absurd (none-ne-some x (unfold place_if in k))

-- ---- the three differences, by name

-- eight bits are the one byte of the number they make
bits_byte : (a b c d e f g h : Bool) (bs : List ℕ) → BITS a b c d e f g h bs
    → bs ≡ (128 * bit_of a + 64 * bit_of b + 32 * bit_of c + 16 * bit_of d + 8 * bit_of e + 4 * bit_of f + 2 * bit_of g + bit_of h) ∷ []
bits_byte a b c d e f g h bs eight_bits = refl

-- GetUrl2: the byte that the specification's table gives, and the byte that the source writes
pub get_url2_published : (v t : Bool) (m : ℕ) (bs : List ℕ) → GetURL2Flags as_published v t m bs
    → bs ≡ (64 * (m % 4) + 2 * bit_of t + bit_of v) ∷ []
get_url2_published v t m bs (from_most {x = x} {y = y} e b) =
    bits_byte x y false false false false t v bs b ∙ ap (λ (n : ℕ). n ∷ []) (omega (arith, bit_false))

pub get_url2_written : (v t : Bool) (m : ℕ) (bs : List ℕ) → GetURL2Flags as_written v t m bs
    → bs ≡ (128 * bit_of v + 64 * bit_of t + m % 4) ∷ []
get_url2_written v t m bs (from_least {x = x} {y = y} e b) =
    bits_byte v t false false false false x y bs b ∙ ap (λ (n : ℕ). n ∷ []) (omega (arith, bit_false))

low_word : (w lo hi : ℕ) → w ≡ lo + 4294967296 * hi → lo < 4294967296 → w % 4294967296 ≡ lo
low_word w lo hi e h = rw e (omega arith)

high_word : (w lo hi : ℕ) → w ≡ lo + 4294967296 * hi → lo < 4294967296 → w / 4294967296 ≡ hi
high_word w lo hi e h = rw e (omega arith)

-- a double as the source writes it is what the specification gives for the double with its words changed over
pub double_written : (w : ℕ) (bs : List ℕ) → DOUBLE as_written w bs
    → DOUBLE as_published (w % 4294967296 * 4294967296 + w / 4294967296) bs
double_written w bs (high_word_first {lo = lo} {hi = hi} l u e) =
    let bl : lo < 4294967296 = ui32_under l in
    let e₁ : w % 4294967296 ≡ lo = low_word w lo hi e bl in
    let e₂ : w / 4294967296 ≡ hi = high_word w lo hi e bl in
    let e' : w % 4294967296 * 4294967296 + w / 4294967296 ≡ hi + 4294967296 * lo = rw (e₁, e₂) (omega arith) in
    little_endian {n = w % 4294967296 * 4294967296 + w / 4294967296} {lo = hi} {hi = lo} u l e'

-- what all have, an element has
all_member : {A : Type 0} (P : A → Type 0) (x : A) (xs : List A) → All P xs → Member x xs → P x
all_member P x [] h m = elim m [ ]
all_member P x (y ∷ xs) h here = h.0
all_member P x (y ∷ xs) h (there m) = all_member P x xs h.1 m

-- none of them has End's byte, so none is End
no_zero : each (λ x. eqb (byte_of x) 0) simples ≡ each (λ x. false) simples
unfolding each byte_of small_byte simples
no_zero = refl

end_not_simple : (n : ℕ) → Member (simple SmallOpCode.End n) simples → ⊥
unfolding byte_of small_byte
end_not_simple n m =
    eqb-false 0 0 (all_member (λ x. eqb (byte_of x) 0 ≡ false) (simple SmallOpCode.End n) simples
    (each_same (λ x. eqb (byte_of x) 0) (λ x. false) simples no_zero) m) refl

-- End: no record of the specification has it as its contents, and the source writes the byte 0
pub end_unpublished : (r : List ℕ) → FlatRecord as_published (Small SmallOpCode.End) r → ⊥
end_unpublished r (ActionSimple {ActionCode = n} m a) = end_not_simple n m
end_unpublished r (EndAmongActions z) = elim z [ ]

pub end_written : (r : List ℕ) → FlatRecord as_written (Small SmallOpCode.End) r → r ≡ 0 ∷ []
end_written r (ActionSimple {ActionCode = n} m a) = absurd (end_not_simple n m)
end_written r (EndAmongActions byte_zero) = refl

-- ---- the theorems, for a sheet s of bytes that reads whole, with a book of bytes, as a tree t, in any edition, and is packed, in
-- whatever mode, to a block q

-- Demand 2, its second half: the block is a sequence of published records with the contents of the tree, then ActionEndFlag.
-- Each Length is the length of the record's fields, each code size that of the body that follows, each branch offset the
-- signed distance from the end of its record to the last place of its label, or 0 without one. GetUrl2's bits, a double's
-- words and an End among the actions are as `as_written` says
pub follows_published : (m : Mode) (s book : List ℕ) (t : Actions) (room : ℕ) (q : List ℕ) → Bytes s → Bytes book → ReadsAs s book t → pack m s book room ≡ Done q → Block as_written t q
follows_published m s book t room q small lent h e =
    let k : Written t room q = is_written m s book room q t h e in
    subst (λ (b : List ℕ). Block as_written t b) k.is_block (tree_follows t (tree_fits s book t small lent h k.is_short) k.nearby)

-- for a tree without GetUrl2, without a pushed double and without End it is as published, so there is no other difference
pub no_other_difference : (m : Mode) (s book : List ℕ) (t : Actions) (room : ℕ) (q : List ℕ) → Bytes s → Bytes book → ReadsAs s book t → pack m s book room ≡ Done q → BodyUndisputed t
    → Block as_published t q
no_other_difference m s book t room q small lent h e u = block_published (follows_published m s book t room q small lent h e) u

-- and in any such block a label stands only where a record starts or a body ends
pub label_starts : (order : Order) (t : Actions) (q : List ℕ) (b : Block order t q) (l at : ℕ) → last_place b.labels l ≡ some at
    → Member at (body_starts order (last_place b.labels) b.records)
label_starts order t q b l at e =
    last_placed (body_starts order (last_place b.labels) b.records) b.labels l at (starts_body order (last_place b.labels) b.records) e
