-- "Payload lengths exclude bodies": document 01's formulas hold of the payload lists, and every size is the length of the
-- bytes. Assumes nothing.
use Rattle.std.specs.Prelude.{◌≡◌, refl, ℕ, zero, suc, ◌+◌, Bool, true, false, List, [], ◌∷◌, ◌++◌, length, ltb}
use Rattle.std.proofs.Common.{ap, ap₂, ◌∙◌, arith, length-append}
use Rattle.layout.specs.Lists.{pick}
use Rattle.layout.specs.Numbers.{le16, le32, bit}
use Rattle.layout.specs.OpCode.{OpCode, byte}
use Rattle.layout.specs.Tree.{PushValue, String, Null, Undefined, Register, Boolean, Float, Integer, Constant, FunctionParam, function_param, Flat, Small, GotoFrame, GetUrl, StoreRegister, ConstantPool, WaitForFrame, SetTarget, GotoLabel, WaitForFrame2, Push, GetUrl2, GotoFrame2, Owner, With, DefineFunction, DefineFunction2, Branch, Jump, If, Variable, Action, flat, branch, owner, Try, ActionList, empty, more, Actions, body, Catch, no_catch, catch, Finally, no_finally, finally}
use Rattle.layout.specs.Payload.{zero_ended, strings_bytes, constant_bytes, double_bytes, push_bytes, pushes_bytes, goto_frame2_bytes, payload, owner_op_code, params_bytes, owner_fields, owner_payload, branch_op_code, catch_shape, finally_shape, catch_name, try_payload, headed, framed}
use Rattle.layout.specs.Write.{size, sizes, body_size, catch_size, finally_size, bytes, actions_bytes, body_bytes, catch_bytes, finally_bytes, block_bytes, block_size, branch_bits}
use Rattle.layout.specs.Lengths.{goto_frame2_length, name_length, owner_length, param_length, payload_length, push_length, string_length, total}

-- ---- they hold

pub length_le16 : (n : ℕ) → length (le16 n) ≡ 2
unfolding le16
length_le16 n = refl

pub length-zero_ended : (s : List ℕ) → length (zero_ended s) ≡ length s + 1
unfolding zero_ended
length-zero_ended s = length-append s (0 ∷ [])

pub length_strings : (ss : List (List ℕ)) → length (strings_bytes ss) ≡ total string_length ss
unfolding strings_bytes total string_length
length_strings [] = refl
length_strings (s ∷ ss) = omega (arith, length-append (zero_ended s) (strings_bytes ss), length-zero_ended s, length_strings ss)

pub length_params : (ps : List FunctionParam) → length (params_bytes ps) ≡ total param_length ps
unfolding params_bytes total param_length
length_params [] = refl
length_params (function_param r s ∷ ps) = omega (arith, length-append (zero_ended s) (params_bytes ps), length-zero_ended s, length_params ps)

length_constant : (t : Bool) (i : ℕ) → length (constant_bytes t i) ≡ pick t 2 3
unfolding constant_bytes pick le16
length_constant true i = refl
length_constant false i = refl

pub length_push : (v : PushValue) → length (push_bytes v) ≡ push_length v
unfolding push_bytes push_length double_bytes le32 le16
length_push (String s) = omega (arith, length-zero_ended s)
length_push Null = refl
length_push Undefined = refl
length_push (Register r) = refl
length_push (Boolean t) = refl
length_push (Float w) = refl
length_push (Integer w) = refl
length_push (Constant i) = length_constant (ltb i 256) i

pub length_pushes : (vs : List PushValue) → length (pushes_bytes vs) ≡ total push_length vs
unfolding pushes_bytes total
length_pushes [] = refl
length_pushes (v ∷ vs) = omega (arith, length-append (push_bytes v) (pushes_bytes vs), length_push v, length_pushes vs)

length_goto_frame2 : (n play : ℕ) → length (goto_frame2_bytes n play) ≡ goto_frame2_length n
unfolding goto_frame2_bytes goto_frame2_length le16
length_goto_frame2 zero play = refl
length_goto_frame2 (suc n) play = refl

-- every formula for an action without a body
pub length_payload : (f : Flat) → length (payload f) ≡ payload_length f
unfolding payload payload_length le16
length_payload (Small op) = refl
length_payload (GotoFrame n) = refl
length_payload (GetUrl u t) = omega (arith, length-append (zero_ended u) (zero_ended t), length-zero_ended u, length-zero_ended t)
length_payload (StoreRegister r) = refl
length_payload (ConstantPool ss) = omega (arith, length_strings ss)
length_payload (WaitForFrame n k) = refl
length_payload (SetTarget s) = length-zero_ended s
length_payload (GotoLabel s) = length-zero_ended s
length_payload (WaitForFrame2 k) = refl
length_payload (Push vs) = length_pushes vs
length_payload (GetUrl2 v t m) = refl
length_payload (GotoFrame2 n p) = length_goto_frame2 n (bit p)

-- the fields before a body's length
pub length-owner_fields : (o : Owner) → length (owner_fields o) + 2 ≡ owner_length o
unfolding owner_fields owner_length le16
length-owner_fields With = refl
length-owner_fields (DefineFunction s ps) =
    omega (arith, length-append (zero_ended s) (le16 (length ps) ++ strings_bytes ps), length-zero_ended s, length_strings ps)
length-owner_fields (DefineFunction2 s ps r f) =
    omega (arith, length-append (zero_ended s) (le16 (length ps) ++ (r ∷ (le16 f ++ params_bytes ps))), length-zero_ended s, length_params ps)

-- every formula for an action that owns a body: whatever the body's length, it is not added
pub length-owner_payload : (o : Owner) (body_length : ℕ) → length (owner_payload o body_length) ≡ owner_length o
unfolding owner_payload
length-owner_payload o n = length-append (owner_fields o) (le16 n) ∙ ap (λ (k : ℕ). length (owner_fields o) + k) (length_le16 n) ∙ length-owner_fields o

pub length-catch_name : (c : Catch) → length (catch_name c) ≡ name_length c
unfolding catch_name name_length
length-catch_name no_catch = refl
length-catch_name (catch (Variable s) b) = length-zero_ended s
length-catch_name (catch (Register r) b) = refl

-- the formula for Try, its bodies not added either
pub length-try_payload : (shape i j k : ℕ) (name : List ℕ) → length (try_payload shape i j k name) ≡ 7 + length name
unfolding try_payload le16
length-try_payload shape i j k name = omega arith

-- ---- an action's header

pub framed_long : (op : OpCode) (q : List ℕ) → ltb (byte op) 128 ≡ false → framed op q ≡ byte op ∷ (le16 (length q) ++ q)
unfolding framed headed
framed_long op q e = ap (λ (t : Bool). headed t (byte op) q) e

pub framed_short : (op : OpCode) (q : List ℕ) → ltb (byte op) 128 ≡ true → framed op q ≡ byte op ∷ []
unfolding framed headed
framed_short op q e = ap (λ (t : Bool). headed t (byte op) q) e

pub length_framed : (op : OpCode) (q : List ℕ) → ltb (byte op) 128 ≡ false → length (framed op q) ≡ 3 + length q
length_framed op q e = rw (framed_long op q e) (omega (arith, length-append (le16 (length q)) q, length_le16 (length q)))

-- only an opcode without a field is under 80
pub branch_long : (k : Branch) → ltb (byte (branch_op_code k)) 128 ≡ false
unfolding branch_op_code byte
branch_long Jump = refl
branch_long If = refl

pub owner_long : (o : Owner) → ltb (byte (owner_op_code o)) 128 ≡ false
unfolding owner_op_code byte
owner_long With = refl
owner_long (DefineFunction s ps) = refl
owner_long (DefineFunction2 s ps r f) = refl

pub try_long : ltb (byte OpCode.Try) 128 ≡ false
unfolding byte
try_long = refl

-- ---- the sizes are the lengths of the bytes

module _ (bits : ℕ → ℕ → ℕ) where
  mutual
    unfolding bytes size

    pub length_bytes : (a : Action) (p : ℕ) → length (bytes bits a p) ≡ size a
    length_bytes (flat f) p = refl
    length_bytes (branch k l) p =
        length_framed (branch_op_code k) (le16 (bits l (p + 5))) (branch_long k) ∙ ap (λ (n : ℕ). 3 + n) (length_le16 (bits l (p + 5)))
    length_bytes (owner o b) p =
        let q : ℕ = p + (5 + length (owner_fields o)) in
        omega (
          arith,
          length-append (framed (owner_op_code o) (owner_payload o (body_size b))) (body_bytes bits b q),
          length_framed (owner_op_code o) (owner_payload o (body_size b)) (owner_long o),
          length-owner_payload o (body_size b),
          length-owner_fields o,
          length_body b q,
        )
    length_bytes (Try b c f) p =
        let q : ℕ = p + (10 + length (catch_name c)) in
        let t : List ℕ = try_payload (catch_shape c + finally_shape f) (body_size b) (catch_size c) (finally_size f) (catch_name c) in
        let x : List ℕ = body_bytes bits b q in
        let y : List ℕ = catch_bytes bits c (q + body_size b) in
        let z : List ℕ = finally_bytes bits f (q + (body_size b + catch_size c)) in
        length-append (framed OpCode.Try t) (x ++ (y ++ z))
        ∙ omega (
          arith,
          length-append x (y ++ z),
          length-append y z,
          length_framed OpCode.Try t try_long,
          length-try_payload (catch_shape c + finally_shape f) (body_size b) (catch_size c) (finally_size f) (catch_name c),
          length_body b q,
          length_catch c (q + body_size b),
          length_finally f (q + (body_size b + catch_size c)),
        )

    pub length_actions : (xs : ActionList) (p : ℕ) → length (actions_bytes bits xs p) ≡ sizes xs
    length_actions empty p = refl
    length_actions (more a xs) p =
        length-append (bytes bits a p) (actions_bytes bits xs (p + size a))
        ∙ ap₂ (λ (m n : ℕ). m + n) (length_bytes a p) (length_actions xs (p + size a))

    -- a body's written length is the length of its bytes
    pub length_body : (b : Actions) (p : ℕ) → length (body_bytes bits b p) ≡ body_size b
    length_body (body es xs) p = length_actions xs p

    pub length_catch : (c : Catch) (p : ℕ) → length (catch_bytes bits c p) ≡ catch_size c
    length_catch no_catch p = refl
    length_catch (catch t b) p = length_body b p

    pub length_finally : (f : Finally) (p : ℕ) → length (finally_bytes bits f p) ≡ finally_size f
    length_finally no_finally p = refl
    length_finally (finally b) p = length_body b p

-- what NoRoom asks for is the length of the block
pub length_block : (t : Actions) → length (block_bytes t) ≡ block_size t
unfolding block_bytes block_size
length_block t = length-append (body_bytes (branch_bits t) t 0) (0 ∷ []) ∙ ap (λ (n : ℕ). n + 1) (length_body (branch_bits t) t 0)
