-- Document 01's formulas, which the length functions of `OpCode` give, are the lengths of the definitions' payloads: from the
-- lengths of what a payload holds. Assumes nothing.
use Rattle.std.specs.Prelude.{◌≡◌, ℕ, zero, suc, ◌+◌, ◌≤◌, Bool, true, false, List, length, ltb}
use Rattle.std.proofs.Common.{arith}
use Rattle.layout.specs.Lists.{pick}
use Rattle.layout.specs.Tree.{PushValue, Constant, FunctionParam, GetUrl, ConstantPool, SetTarget, GotoLabel, Push, GotoFrame2, DefineFunction, DefineFunction2}
use Rattle.layout.specs.Payload.{push_bytes, payload, owner_payload, try_payload}
use Rattle.layout.specs.Lengths.{total, string_length, param_length, push_length, goto_frame2_length, payload_length, owner_length}
use Rattle.layout.proofs.Lengths.{length_push, length_payload, length-owner_payload, length-try_payload}

-- "GetUrl |u|+|t|+2"
pub get_url_payload : {url target : ℕ} (u t : List ℕ) → length u ≡ url → length t ≡ target → length (payload (GetUrl u t)) ≡ url + target + 2
unfolding payload_length
get_url_payload u t h k = omega (arith, length_payload (GetUrl u t))

-- "SetTarget and GotoLabel |s|+1"
pub set_target_payload : {string : ℕ} (s : List ℕ) → length s ≡ string → length (payload (SetTarget s)) ≡ string + 1
unfolding payload_length
set_target_payload s h = omega (arith, length_payload (SetTarget s))

pub goto_label_payload : {string : ℕ} (s : List ℕ) → length s ≡ string → length (payload (GotoLabel s)) ≡ string + 1
unfolding payload_length
goto_label_payload s h = omega (arith, length_payload (GotoLabel s))

-- "ConstantPool 2 + sum(|s|+1)"
pub constant_pool_payload : {sum : ℕ} (ss : List (List ℕ)) → total string_length ss ≡ sum → length (payload (ConstantPool ss)) ≡ 2 + sum
unfolding payload_length
constant_pool_payload ss h = omega (arith, length_payload (ConstantPool ss))

-- "DefineFunction |name|+5+sum(|p|+1)", whatever the body's length
pub define_function_payload : {name sum : ℕ} (s : List ℕ) (ps : List (List ℕ)) (body : ℕ) → length s ≡ name → total string_length ps ≡ sum
    → length (owner_payload (DefineFunction s ps) body) ≡ name + 5 + sum
unfolding owner_length
define_function_payload s ps body h k = omega (arith, length-owner_payload (DefineFunction s ps) body)

-- "DefineFunction2 |name|+8+sum(|p|+2)"
pub define_function_2_payload : {name sum : ℕ} (s : List ℕ) (ps : List FunctionParam) (registers flags body : ℕ) → length s ≡ name → total param_length ps ≡ sum
    → length (owner_payload (DefineFunction2 s ps registers flags) body) ≡ name + 8 + sum
unfolding owner_length
define_function_2_payload s ps registers flags body h k = omega (arith, length-owner_payload (DefineFunction2 s ps registers flags) body)

-- "Try 7 + (|name|+1 for a variable, else 1)": what is added to 7 are the bytes of the catch target, layout's `catch_name`
pub try_payload_lem : {n : ℕ} (shape i j k : ℕ) (name : List ℕ) → length name ≡ n → length (try_payload shape i j k name) ≡ 7 + n
try_payload_lem shape i j k name h = omega (arith, length-try_payload shape i j k name)

-- "GotoFrame2 3, or 1 when bias is 0"
pub goto_frame_2_payload : (bias : ℕ) (play : Bool) → length (payload (GotoFrame2 bias play)) ≡ goto_frame2_length bias
unfolding payload_length
goto_frame_2_payload bias play = length_payload (GotoFrame2 bias play)

-- a Push has its values and no count
pub push_payload : {sum : ℕ} (vs : List PushValue) → total push_length vs ≡ sum → length (payload (Push vs)) ≡ sum
unfolding payload_length
push_payload vs h = omega (arith, length_payload (Push vs))

-- "constant under 256 kind 8 and u8, else kind 9 and u16"
pub push_constant_payload : (n : ℕ) → length (push_bytes (Constant n)) ≡ push_length (Constant n)
push_constant_payload n = length_push (Constant n)

-- the two lengths that are not sums are at most 3
pub push_constant_short : (n : ℕ) → push_length (Constant n) ≤ 3
unfolding push_length pick
push_constant_short n = go (ltb n 256)
  where
    go : (t : Bool) → pick t 2 3 ≤ 3
    go true = omega arith
    go false = omega arith

pub goto_frame_2_short : (bias : ℕ) → goto_frame2_length bias ≤ 3
unfolding goto_frame2_length
goto_frame_2_short zero = omega arith
goto_frame_2_short (suc bias) = omega arith
