-- `unpack` gives back what `bytes` wrote, as far as a block can tell; so equal bytes tell the same. Assumes nothing.
use Rattle.std.specs.Prelude.{◌≡◌, ℕ, zero, suc, ◌+◌, ◌*◌, ◌/◌, ◌%◌, ◌≤◌, ◌<◌, Bool, true, false, length, ltb, eqb}
use Rattle.std.proofs.Math.Path.{refl, ap}
use Rattle.std.proofs.Common.{sym, ap₂, ◌∙◌, not-suc-le-zero, arith, length-append}
use Rattle.std.proofs.lemmas.Bool.{false≢true}
use mathlib.Core.List.{List, [], ◌∷◌, ◌++◌, append_assoc, append-nil}
use Rattle.std.proofs.Math.Seq.{take_at, drop_at}
use Rattle.layout.specs.Lists.{All, each, pick, first_with}
use Rattle.layout.specs.Numbers.{le16, le32, bit}
use Rattle.layout.specs.OpCode.{OpCode, small_byte, byte, small_op_codes, opcodes, opcode_of}
use Rattle.layout.specs.Tree.{PushValue, String, Null, Undefined, Register, Boolean, Float, Integer, Constant, FunctionParam, function_param, Flat, Small, GotoFrame, GetUrl, StoreRegister, ConstantPool, WaitForFrame, SetTarget, GotoLabel, WaitForFrame2, Push, GetUrl2, GotoFrame2, Owner, With, DefineFunction, DefineFunction2, Branch, Jump, If, Variable, Action, flat, branch, owner, Try, ActionList, empty, more, Actions, body, Catch, no_catch, catch, Finally, no_finally, finally}
use Rattle.layout.specs.Read.{has_catch, has_finally, has_register}
use Rattle.layout.specs.Payload.{zero_ended, strings_bytes, constant_bytes, double_bytes, push_bytes, pushes_bytes, opcode, goto_frame2_bytes, get_url2_bits, payload, params_bytes, owner_op_code, owner_fields, owner_payload, branch_op_code, catch_shape, finally_shape, catch_name, try_payload, framed}
use Rattle.layout.specs.Write.{size, sizes, body_size, catch_size, finally_size, bytes, actions_bytes, body_bytes, catch_bytes, finally_bytes}
use Rattle.layout.proofs.Lengths.{length_le16, length-owner_fields, length-owner_payload, length-try_payload, framed_long, framed_short, branch_long, owner_long, try_long, length_body, length_catch, length_finally}
use Rattle.laws.specs.Meaning.{told_flat, told, told_actions, told_body, told_catch, told_finally}
use Rattle.laws.specs.Unpack.{take_u8, take_u16, take_u32, take_string, take_strings, take_params, take_value_of, take_values, take_payload, get_url2_of, goto_frame2_of, take_function, take_function2, catch_of, finally_of, owner_of, try_of, action_of, action_if, unpack_one, unpack}
use Rattle.laws.specs.Fits.{Clean, ValueFits, ParamFits, Listed, FlatFits, OwnerFits, NameFits, Fits, ActionsFit, BodyFits, CatchFits, FinallyFits}
use Rattle.laws.specs.RoundTrip.{recaught, refinally, take_owner}

-- ---- fields

pub u16_back : (n : ℕ) (r : List ℕ) → n < 65536 → take_u16 (le16 n ++ r) ≡ (n, r)
unfolding take_u16 le16
u16_back n r h = ap (λ (m : ℕ). (m, r)) (omega arith)

u32_back : (n : ℕ) (r : List ℕ) → n < 4294967296 → take_u32 (le32 n ++ r) ≡ (n, r)
unfolding take_u32 take_u16 le32 le16
u32_back n r h = ap (λ (m : ℕ). (m, r)) (omega arith)

string_back : (s r : List ℕ) → Clean s → take_string (zero_ended s ++ r) ≡ (s, r)
unfolding take_string zero_ended
string_back [] r h = refl
string_back (zero ∷ s) r h = absurd (not-suc-le-zero h.0.0)
string_back (suc x ∷ s) r h = ap (λ (q : List ℕ × List ℕ). (suc x ∷ q.0, q.1)) (string_back s r h.1)

strings_back : (ss : List (List ℕ)) (r : List ℕ) → All Clean ss → take_strings (length ss) (strings_bytes ss ++ r) ≡ (ss, r)
unfolding take_strings strings_bytes
strings_back [] r h = refl
strings_back (s ∷ ss) r h = rw (append_assoc, string_back s (strings_bytes ss ++ r) h.0, strings_back ss r h.1)

params_back : (ps : List FunctionParam) (r : List ℕ) → All ParamFits ps → take_params (length ps) (params_bytes ps ++ r) ≡ (ps, r)
unfolding take_params params_bytes take_u8
params_back [] r h = refl
params_back (function_param k s ∷ ps) r h = rw (append_assoc, string_back s (params_bytes ps ++ r) h.0.1, params_back ps r h.1)

-- ---- push values

val_constant : (b : Bool) (n m : ℕ) (r : List ℕ) → ltb n 256 ≡ b → n < 65536
    → take_values (suc m) (constant_bytes b n ++ r) ≡ Constant n ∷ take_values m r
unfolding take_values take_value_of constant_bytes take_u8
val_constant true n m r e h = refl
val_constant false n m r e h = rw (u16_back n r h)

value_back : (v : PushValue) (m : ℕ) (r : List ℕ) → ValueFits v → take_values (suc m) (push_bytes v ++ r) ≡ v ∷ take_values m r
unfolding take_values take_value_of push_bytes double_bytes take_u8 bit
value_back (String s) m r h = rw (string_back s r h)
value_back Null m r h = refl
value_back Undefined m r h = refl
value_back (Register k) m r h = refl
value_back (Boolean true) m r h = refl
value_back (Boolean false) m r h = refl
value_back (Float w) m r h =
    rw (append_assoc (le32 (w / 4294967296)) (le32 (w % 4294967296)) r, u32_back (w / 4294967296) (le32 (w % 4294967296) ++ r) (omega arith), u32_back (w % 4294967296) r (omega arith))
    (ap (λ (x : ℕ). Float x ∷ take_values m r) (omega arith))
value_back (Integer w) m r h = rw (u32_back w r h)
value_back (Constant n) m r h = val_constant (ltb n 256) n m r refl h

pub value_some : (v : PushValue) → 1 ≤ length (push_bytes v)
unfolding push_bytes constant_bytes
value_some (String s) = omega arith
value_some Null = omega arith
value_some Undefined = omega arith
value_some (Register k) = omega arith
value_some (Boolean b) = omega arith
value_some (Float w) = omega arith
value_some (Integer w) = omega arith
value_some (Constant n) = go (ltb n 256)
  where
    go : (b : Bool) → 1 ≤ length (constant_bytes b n)
    go true = omega arith
    go false = omega arith

values_back : (vs : List PushValue) (m : ℕ) → length (pushes_bytes vs) ≤ m → All ValueFits vs → take_values m (pushes_bytes vs) ≡ vs
unfolding pushes_bytes
values_back [] zero l h = unfold take_values in refl
values_back [] (suc m) l h = unfold take_values in refl
values_back (v ∷ vs) zero l h = absurd (omega (arith, length-append (push_bytes v) (pushes_bytes vs), value_some v))
values_back (v ∷ vs) (suc m) l h =
    value_back v m (pushes_bytes vs) h.0
    ∙ ap (λ (xs : List PushValue). v ∷ xs) (values_back vs m (omega (arith, length-append (push_bytes v) (pushes_bytes vs), value_some v)) h.1)

-- ---- flat actions

u16_end : (n : ℕ) → n < 65536 → take_u16 (le16 n) ≡ (n, [])
unfolding le16
u16_end n h = u16_back n [] h

string_end : (s : List ℕ) → Clean s → take_string (zero_ended s) ≡ (s, [])
string_end s h = ap take_string (sym (append-nil (zero_ended s))) ∙ string_back s [] h

strings_end : (ss : List (List ℕ)) → All Clean ss → take_strings (length ss) (strings_bytes ss) ≡ (ss, [])
strings_end ss h = ap (take_strings (length ss)) (sym (append-nil (strings_bytes ss))) ∙ strings_back ss [] h

bit_back : (b : Bool) → eqb (bit b) 1 ≡ b
unfolding bit
bit_back true = refl
bit_back false = refl

bit_small : (b : Bool) → bit b < 2
unfolding bit
bit_small true = omega arith
bit_small false = omega arith

url2_back : (v t : Bool) (m : ℕ) → get_url2_of (get_url2_bits v t m) ≡ GetUrl2 v t (m % 4)
unfolding get_url2_of get_url2_bits
url2_back v t m =
    let n : ℕ = m % 4 + 64 * bit t + 128 * bit v in
    let hv : bit v < 2 = bit_small v in
    let ht : bit t < 2 = bit_small t in
    let ev : n / 128 % 2 ≡ bit v = omega arith in
    let et : n / 64 % 2 ≡ bit t = omega arith in
    let em : n % 4 ≡ m % 4 = omega arith in
    rw (ev, et, em, bit_back v, bit_back t)

frame2_back : (n : ℕ) (p : Bool) → n < 65536 → goto_frame2_of (take_u8 (goto_frame2_bytes n (bit p))).0 (take_u8 (goto_frame2_bytes n (bit p))).1 ≡ GotoFrame2 n p
unfolding take_u8 goto_frame2_of goto_frame2_bytes bit
frame2_back zero true h = refl
frame2_back zero false h = refl
frame2_back (suc n) true h = rw (u16_end (suc n) h)
frame2_back (suc n) false h = rw (u16_end (suc n) h)

-- one action without a body: its payload q is taken apart, whatever follows
module _ (rest : List ℕ → ActionList) where
  flat_back : (f : Flat) (r : List ℕ) → FlatFits f → action_of rest (opcode f) (payload f) r ≡ more (flat (told_flat f)) (rest r)
  unfolding action_of opcode payload told_flat take_u8
  flat_back (Small op) r h = refl
  flat_back (GotoFrame n) r h = rw (u16_end n h)
  flat_back (GetUrl u t) r h = rw (string_back u (zero_ended t) h.0, string_end t h.1)
  flat_back (StoreRegister k) r h = refl
  flat_back (ConstantPool ss) r h = rw (u16_back (length ss) (strings_bytes ss) h.0, strings_end ss h.1)
  flat_back (WaitForFrame n k) r h = rw (u16_back n (k ∷ []) h.0)
  flat_back (SetTarget s) r h = rw (string_end s h)
  flat_back (GotoLabel s) r h = rw (string_end s h)
  flat_back (WaitForFrame2 k) r h = refl
  flat_back (Push vs) r h = ap (λ (xs : List PushValue). more (flat (Push xs)) (rest r)) (values_back vs (length (pushes_bytes vs)) (omega arith) h)
  flat_back (GetUrl2 v t m) r h = ap (λ (f : Flat). more (flat f) (rest r)) (url2_back v t m)
  flat_back (GotoFrame2 n p) r h = ap (λ (f : Flat). more (flat f) (rest r)) (frame2_back n p h)

owner_back : (h : Owner) (t : List ℕ) → OwnerFits h → take_owner h (owner_fields h ++ t) ≡ (h, t)
unfolding owner_fields take_function take_function2 take_u8
owner_back With t h = refl
owner_back (DefineFunction s ps) t h =
    rw (
      append_assoc (zero_ended s) (le16 (length ps) ++ strings_bytes ps) t,
      append_assoc (le16 (length ps)) (strings_bytes ps) t,
      string_back s (le16 (length ps) ++ (strings_bytes ps ++ t)) h.0,
      u16_back (length ps) (strings_bytes ps ++ t) h.1,
      strings_back ps t h.2,
    )
owner_back (DefineFunction2 s ps r f) t h =
    rw (
      append_assoc (zero_ended s) (le16 (length ps) ++ (r ∷ (le16 f ++ params_bytes ps))) t,
      append_assoc (le16 (length ps)) (r ∷ (le16 f ++ params_bytes ps)) t,
      append_assoc (le16 f) (params_bytes ps) t,
      string_back s (le16 (length ps) ++ (r ∷ (le16 f ++ (params_bytes ps ++ t)))) h.0,
      u16_back (length ps) (r ∷ (le16 f ++ (params_bytes ps ++ t))) h.1,
      u16_back f (params_bytes ps ++ t) (omega (arith, h.3)),
      params_back ps t h.2,
    )

payload_back : (o : Owner) (m : ℕ) → OwnerFits o → take_owner o (owner_payload o m) ≡ (o, le16 m)
unfolding owner_payload
payload_back o m h = owner_back o (le16 m) h

-- ---- headers

-- an opcode with a field is listed
listed_flat : (f : Flat) → FlatFits f → Listed (opcode f)
unfolding opcode opcode_of opcodes small_op_codes byte small_byte first_with each pick
listed_flat (Small op) h = h
listed_flat (GotoFrame n) h = refl
listed_flat (GetUrl u t) h = refl
listed_flat (StoreRegister k) h = refl
listed_flat (ConstantPool ss) h = refl
listed_flat (WaitForFrame n k) h = refl
listed_flat (SetTarget s) h = refl
listed_flat (GotoLabel s) h = refl
listed_flat (WaitForFrame2 k) h = refl
listed_flat (Push vs) h = refl
listed_flat (GetUrl2 v t m) h = refl
listed_flat (GotoFrame2 n p) h = refl

listed_branch : (k : Branch) → Listed (branch_op_code k)
unfolding branch_op_code opcode_of opcodes small_op_codes byte small_byte first_with each pick
listed_branch Jump = refl
listed_branch If = refl

listed_owner : (o : Owner) → Listed (owner_op_code o)
unfolding owner_op_code opcode_of opcodes small_op_codes byte small_byte first_with each pick
listed_owner With = refl
listed_owner (DefineFunction s ps) = refl
listed_owner (DefineFunction2 s ps r f) = refl

listed_try : Listed OpCode.Try
unfolding opcode_of opcodes small_op_codes byte small_byte first_with each pick
listed_try = refl

-- an opcode under 80 has no payload
flat_short : (f : Flat) → ltb (byte (opcode f)) 128 ≡ true → payload f ≡ []
unfolding opcode byte payload
flat_short (Small op) e = refl
flat_short (GotoFrame n) e = absurd (false≢true e)
flat_short (GetUrl u t) e = absurd (false≢true e)
flat_short (StoreRegister k) e = absurd (false≢true e)
flat_short (ConstantPool ss) e = absurd (false≢true e)
flat_short (WaitForFrame n k) e = absurd (false≢true e)
flat_short (SetTarget s) e = absurd (false≢true e)
flat_short (GotoLabel s) e = absurd (false≢true e)
flat_short (WaitForFrame2 k) e = absurd (false≢true e)
flat_short (Push vs) e = absurd (false≢true e)
flat_short (GetUrl2 v t m) e = absurd (false≢true e)
flat_short (GotoFrame2 n p) e = absurd (false≢true e)

-- a header is taken apart into its opcode and its payload
module _ (n : ℕ) (op : OpCode) (q r : List ℕ) (listed : Listed op) where
  unframe_long : ltb (byte op) 128 ≡ false → length q < 65536 → unpack (suc n) (framed op q ++ r) ≡ action_of (unpack n) op q r
  unfolding unpack unpack_one take_payload action_if
  unframe_long e h =
      rw (
        framed_long op q e,
        append_assoc (le16 (length q)) q r,
        listed,
        e,
        u16_back (length q) (q ++ r) h,
        take_at q r (length q) refl,
        drop_at q r (length q) refl,
      )

  unframe_short : ltb (byte op) 128 ≡ true → unpack (suc n) (framed op q ++ r) ≡ action_of (unpack n) op [] r
  unfolding unpack unpack_one take_payload action_if
  unframe_short e = rw (framed_short op q e, listed, e)

unpack_flat : (f : Flat) (n : ℕ) (r : List ℕ) → FlatFits f → length (payload f) < 65536
    → unpack (suc n) (framed (opcode f) (payload f) ++ r) ≡ more (flat (told_flat f)) (unpack n r)
unpack_flat f n r h l = go (ltb (byte (opcode f)) 128) refl
  where
    go : (b : Bool) → ltb (byte (opcode f)) 128 ≡ b → unpack (suc n) (framed (opcode f) (payload f) ++ r) ≡ more (flat (told_flat f)) (unpack n r)
    go true e =
        unframe_short n (opcode f) (payload f) r (listed_flat f h) e
        ∙ ap (λ (q : List ℕ). action_of (unpack n) (opcode f) q r) (sym (flat_short f e))
        ∙ flat_back (unpack n) f r h
    go false e = unframe_long n (opcode f) (payload f) r (listed_flat f h) e l ∙ flat_back (unpack n) f r h

branch_action : (rest : List ℕ → ActionList) (k : Branch) (w : ℕ) (r : List ℕ) → w < 65536
    → action_of rest (branch_op_code k) (le16 w) r ≡ more (branch k w) (rest r)
unfolding branch_op_code action_of
branch_action rest Jump w r h = rw (u16_end w h)
branch_action rest If w r h = rw (u16_end w h)

unpack_branch : (k : Branch) (w n : ℕ) (r : List ℕ) → w < 65536
    → unpack (suc n) (framed (branch_op_code k) (le16 w) ++ r) ≡ more (branch k w) (unpack n r)
unpack_branch k w n r h =
    unframe_long n (branch_op_code k) (le16 w) r (listed_branch k) (branch_long k) (omega (arith, length_le16 w)) ∙ branch_action (unpack n) k w r h

-- ---- actions with bodies

owner_action : (rest : List ℕ → ActionList) (o : Owner) (q r : List ℕ) → action_of rest (owner_op_code o) q r ≡ owner_of rest (take_owner o q) r
unfolding owner_op_code action_of
owner_action rest With q r = refl
owner_action rest (DefineFunction s ps) q r = refl
owner_action rest (DefineFunction2 s ps k f) q r = refl

owned_back : (rest : List ℕ → ActionList) (o : Owner) (x r : List ℕ) → length x < 65536
    → owner_of rest (o, le16 (length x)) (x ++ r) ≡ more (owner o (body [] (rest x))) (rest r)
unfolding owner_of
owned_back rest o x r l = rw (u16_end (length x) l, take_at x r (length x) refl, drop_at x r (length x) refl)

-- x is the body's bytes
unpack_owner : (o : Owner) (n m : ℕ) (x r : List ℕ) → OwnerFits o → length (owner_fields o) + 2 < 65536 → m < 65536 → length x ≡ m
    → unpack (suc n) ((framed (owner_op_code o) (owner_payload o m) ++ x) ++ r) ≡ more (owner o (body [] (unpack n x))) (unpack n r)
unpack_owner o n m x r hf hl ml e =
    rw (append_assoc, ← e)
    (unframe_long n (owner_op_code o) (owner_payload o (length x)) (x ++ r) (listed_owner o) (owner_long o)
    (omega (arith, length-owner_payload o (length x), length-owner_fields o))
    ∙ owner_action (unpack n) o (owner_payload o (length x)) (x ++ r)
    ∙ ap (λ (y : Owner × List ℕ). owner_of (unpack n) y (x ++ r)) (payload_back o (length x) hf)
    ∙ owned_back (unpack n) o x r (omega arith))

catch_back : (c : Catch) (f : Finally) (b : Actions) → NameFits c → catch_of (catch_shape c + finally_shape f) (catch_name c) b ≡ recaught c b
unfolding catch_of has_catch has_register catch_shape finally_shape catch_name take_u8
catch_back no_catch no_finally b h = refl
catch_back no_catch (finally x) b h = refl
catch_back (catch (Variable s) y) no_finally b h = rw (string_end s h)
catch_back (catch (Variable s) y) (finally x) b h = rw (string_end s h)
catch_back (catch (Register r) y) no_finally b h = refl
catch_back (catch (Register r) y) (finally x) b h = refl

finally_back : (c : Catch) (f : Finally) (b : Actions) → finally_of (catch_shape c + finally_shape f) b ≡ refinally f b
unfolding finally_of has_finally catch_shape finally_shape
finally_back no_catch no_finally b = refl
finally_back no_catch (finally x) b = refl
finally_back (catch (Variable s) y) no_finally b = refl
finally_back (catch (Variable s) y) (finally x) b = refl
finally_back (catch (Register r) y) no_finally b = refl
finally_back (catch (Register r) y) (finally x) b = refl

try_back : (rest : List ℕ → ActionList) (k : ℕ) (v x y z r : List ℕ) → length x < 65536 → length y < 65536 → length z < 65536
    → try_of rest (try_payload k (length x) (length y) (length z) v) (x ++ (y ++ (z ++ r)))
    ≡ more (Try (body [] (rest x)) (catch_of k v (body [] (rest y))) (finally_of k (body [] (rest z)))) (rest r)
unfolding try_of try_payload take_u8
try_back rest k v x y z r hx hy hz =
    rw (
      u16_back (length x) (le16 (length y) ++ (le16 (length z) ++ v)) hx,
      u16_back (length y) (le16 (length z) ++ v) hy,
      u16_back (length z) v hz,
      take_at x (y ++ (z ++ r)) (length x) refl,
      drop_at x (y ++ (z ++ r)) (length x) refl,
      take_at y (z ++ r) (length y) refl,
      drop_at y (z ++ r) (length y) refl,
      take_at z r (length z) refl,
      drop_at z r (length z) refl,
    )

try_action : (rest : List ℕ → ActionList) (q r : List ℕ) → action_of rest OpCode.Try q r ≡ try_of rest q r
unfolding action_of
try_action rest q r = refl

unpack_try : (c : Catch) (f : Finally) (n : ℕ) (x y z r : List ℕ) {i j k : ℕ} → NameFits c → 7 + length (catch_name c) < 65536
    → i < 65536 → j < 65536 → k < 65536 → length x ≡ i → length y ≡ j → length z ≡ k
    → unpack (suc n) ((framed OpCode.Try (try_payload (catch_shape c + finally_shape f) i j k (catch_name c)) ++ (x ++ (y ++ z))) ++ r)
    ≡ more (Try (body [] (unpack n x)) (recaught c (body [] (unpack n y))) (refinally f (body [] (unpack n z)))) (unpack n r)
unpack_try c f n x y z r hn hl hi hj hk ei ej ek =
    let o : ℕ = catch_shape c + finally_shape f in
    let q : List ℕ = try_payload o (length x) (length y) (length z) (catch_name c) in
    rw (← ei, ← ej, ← ek, append_assoc (framed OpCode.Try q) (x ++ (y ++ z)) r, append_assoc x (y ++ z) r, append_assoc y z r)
    (unframe_long n OpCode.Try q (x ++ (y ++ (z ++ r))) listed_try try_long (omega (arith, length-try_payload o (length x) (length y) (length z) (catch_name c)))
    ∙ try_action (unpack n) q (x ++ (y ++ (z ++ r)))
    ∙ try_back (unpack n) o (catch_name c) x y z r (omega arith) (omega arith) (omega arith)
    ∙ ap₂ (λ (c' : Catch) (f' : Finally). more (Try (body [] (unpack n x)) c' f') (unpack n r)) (catch_back c f _ hn) (finally_back c f _))

-- ---- the way back

framed_some : (op : OpCode) (q : List ℕ) → 1 ≤ length (framed op q)
framed_some op q = go (ltb (byte op) 128) refl
  where
    go : (b : Bool) → ltb (byte op) 128 ≡ b → 1 ≤ length (framed op q)
    go true e = rw (framed_short op q e) (omega arith)
    go false e = rw (framed_long op q e) (omega arith)

pub size_some : (a : Action) → 1 ≤ size a
unfolding size
size_some (flat f) = framed_some (opcode f) (payload f)
size_some (branch k l) = omega arith
size_some (owner h b) = omega arith
size_some (Try b c f) = omega arith

unpack_nil : (n : ℕ) → unpack n [] ≡ empty
unfolding unpack
unpack_nil zero = refl
unpack_nil (suc n) = refl

-- an action and then the others: the count is at least one
unpack_more : (x : List ℕ) (k m : ℕ) (a : Action) (xs : ActionList) (y : List ℕ) → 1 ≤ k
    → ((n : ℕ) → k ≤ suc n → unpack (suc n) (x ++ y) ≡ more a (unpack n y)) → ((n : ℕ) → m ≤ n → unpack n y ≡ xs)
    → (n : ℕ) → k + m ≤ n → unpack n (x ++ y) ≡ more a xs
unpack_more x k m a xs y pos one rest zero h = absurd (omega arith)
unpack_more x k m a xs y pos one rest (suc n) h = one n (omega arith) ∙ ap (more a) (rest n (omega arith))

module _ (bits : ℕ → ℕ → ℕ) (small : (l p : ℕ) → bits l p < 65536) where
  mutual
    unfolding bytes size told

    pub unpack_action : (a : Action) (p n : ℕ) (r : List ℕ) → Fits a → size a ≤ suc n
        → unpack (suc n) (bytes bits a p ++ r) ≡ more (told bits a p) (unpack n r)
    unpack_action (flat f) p n r h l = unpack_flat f n r h.0 h.1
    unpack_action (branch k t) p n r h l = unpack_branch k (bits t (p + 5)) n r (small t (p + 5))
    unpack_action (owner d b) p n r h l =
        let q : ℕ = p + (5 + length (owner_fields d)) in
        unpack_owner d n (body_size b) (body_bytes bits b q) r h.0 h.1 h.2 (length_body bits b q)
        ∙ ap (λ (x : Actions). more (owner d x) (unpack n r)) (unpack_body b q n h.3 (omega arith))
    unpack_action (Try b c f) p n r h l =
        let q : ℕ = p + (10 + length (catch_name c)) in
        let u : ℕ = q + body_size b in
        let v : ℕ = q + (body_size b + catch_size c) in
        unpack_try c f n (body_bytes bits b q) (catch_bytes bits c u) (finally_bytes bits f v) r h.0 h.1 h.2 h.3 h.4
        (length_body bits b q) (length_catch bits c u) (length_finally bits f v)
        ∙ ap (λ (x : Actions). more (Try x (recaught c (body [] (unpack n (catch_bytes bits c u)))) (refinally f (body [] (unpack n (finally_bytes bits f v))))) (unpack n r)) (unpack_body b q n h.5 (omega arith))
        ∙ ap₂ (λ (y : Catch) (z : Finally). more (Try (told_body bits b q) y z) (unpack n r)) (unpack_catch c u n h.6 (omega arith)) (unpack_finally f v n h.7 (omega arith))

    pub unpack_actions : (xs : ActionList) (p n : ℕ) → ActionsFit xs → sizes xs ≤ n → unpack n (actions_bytes bits xs p) ≡ told_actions bits xs p
    unpack_actions empty p n h l = unpack_nil n
    unpack_actions (more a xs) p n h l =
        unpack_more (bytes bits a p) (size a) (sizes xs) (told bits a p) (told_actions bits xs (p + size a)) (actions_bytes bits xs (p + size a)) (size_some a)
        (λ m k. unpack_action a p m (actions_bytes bits xs (p + size a)) h.0 k) (λ m k. unpack_actions xs (p + size a) m h.1 k) n l

    pub unpack_body : (b : Actions) (p n : ℕ) → BodyFits b → body_size b ≤ n → body [] (unpack n (body_bytes bits b p)) ≡ told_body bits b p
    unpack_body (body es xs) p n h l = ap (body []) (unpack_actions xs p n h l)

    pub unpack_catch : (c : Catch) (p n : ℕ) → CatchFits c → catch_size c ≤ n → recaught c (body [] (unpack n (catch_bytes bits c p))) ≡ told_catch bits c p
    unpack_catch no_catch p n h l = refl
    unpack_catch (catch t b) p n h l = ap (catch t) (unpack_body b p n h l)

    pub unpack_finally : (f : Finally) (p n : ℕ) → FinallyFits f → finally_size f ≤ n → refinally f (body [] (unpack n (finally_bytes bits f p))) ≡ told_finally bits f p
    unpack_finally no_finally p n h l = refl
    unpack_finally (finally b) p n h l = ap finally (unpack_body b p n h l)

  -- the whole block but its End: as many steps as bytes are enough
  pub unpack_back : (t : Actions) → BodyFits t → body [] (unpack (length (body_bytes bits t 0)) (body_bytes bits t 0)) ≡ told_body bits t 0
  unpack_back t h = unpack_body t 0 (length (body_bytes bits t 0)) h (omega (arith, length_body bits t 0))

-- of blocks: equal bytes tell the same tree (layout has a same_told of its own, which is about what is told of an answer)
pub same_told : (w w' : ℕ → ℕ → ℕ) → ((l p : ℕ) → w l p < 65536) → ((l p : ℕ) → w' l p < 65536) → (t t' : Actions) → BodyFits t → BodyFits t'
    → body_bytes w t 0 ≡ body_bytes w' t' 0 → told_body w t 0 ≡ told_body w' t' 0
same_told w w' hw hw' t t' h h' e =
    sym (unpack_back w hw t h) ∙ ap (λ (s : List ℕ). body [] (unpack (length s) s)) e ∙ unpack_back w' hw' t' h'
