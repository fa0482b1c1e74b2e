-- Where strings may name words, four bytes of a sheet can stand for 65,535 of the book. What is written is at most 65,536 times what
-- would be with its strings left out, and so at most 196,608 bytes for each byte read. Assumes nothing.
use Rattle.std.specs.Prelude.{◌≡◌, ℕ, zero, suc, ◌+◌, ◌*◌, ◌≤◌, ◌<◌, Bool, length, get_or, eqb}
use Rattle.std.proofs.Math.Path.{refl}
use native.Mathlib.Omega.{arith}
use Rattle.std.proofs.Math.Bool.{true, false}
use Rattle.std.proofs.Math.Option.{Option, none, some}
use mathlib.Core.List.{List, [], ◌∷◌}
use Rattle.std.proofs.Math.Dec.{ltb}
use Rattle.std.proofs.Common.{ltb-true, lt-ltb}
use Rattle.layout.specs.Lists.{All, each, pick}
use Rattle.layout.specs.OpCode.{OpCode, byte}
use Rattle.layout.specs.Tree.{PushValueOf, String, Null, Undefined, Register, Boolean, Float, Integer, Constant, FunctionParamOf, function_param, FlatOf, Small, GotoFrame, GetUrl, StoreRegister, ConstantPool, WaitForFrame, SetTarget, GotoLabel, WaitForFrame2, Push, GetUrl2, GotoFrame2, OwnerOf, With, DefineFunction, DefineFunction2, Variable, ActionOf, flat, branch, owner, Try, ActionListOf, empty, more, ActionsOf, body, CatchOf, no_catch, catch, FinallyOf, no_finally, finally}
use Rattle.layout.specs.Read.{Text, plain, in_book, Words, Terms, Place, read_u16, read_plain, read_word, read_text, read_string, read_value, read_param, read_counted, read_body, read_action, behind, read_main}
use Rattle.layout.specs.Strings.{map_value, map_param, map_flat, map_owner, map_target, map_action, map_actions, map_body, map_catch, map_finally}
use Rattle.layout.specs.Payload.{opcode, payload, framed}
use Rattle.layout.specs.Write.{size, sizes, body_size, catch_size, finally_size}
use Rattle.layout.specs.Lengths.{total, string_length, param_length, push_length, payload_length, owner_length, name_length}
use Rattle.layout.proofs.Lengths.{length_payload, length-owner_fields, length-catch_name, framed_short, length_framed}
use Rattle.layout.specs.Pack.{spelling}
use Rattle.laws.specs.Fits.{Bytes, Clean, ValueFits, ParamFits, FlatFits, OwnerFits, NameFits, Well, WellActions, WellBody, WellCatch, WellFinally}
use Rattle.laws.specs.ReadFits.{Good, fine, Spells}
use Rattle.laws.proofs.ReadFits.{good_then, good_as, good_behind, u16_good, tested_good, spelling_good, text_good, value_good, param_good, counted_good, body_good, action_good, main_good, total_each, all_each}
use Rattle.laws.specs.Books.{Of, Short, WordsShort}
use Rattle.laws.specs.Shares.{left_out}

-- ---- a tree with its strings put in by v, against the same with its strings put in by w

module _ {S : Type 0} (v w : S → List ℕ) (share : (s : S) → Clean (w s) → length (v s) + 1 ≤ 65536 * (length (w s) + 1)) where
  strings_share : (ss : List S) → All Clean (each w ss) → total string_length (each v ss) ≤ 65536 * total string_length (each w ss)
  unfolding each total string_length
  strings_share [] h = omega arith
  strings_share (s ∷ ss) h = omega (arith, share s h.0, strings_share ss h.1)

  params_share : (ps : List (FunctionParamOf S)) → All ParamFits (each (map_param w) ps) → total param_length (each (map_param v) ps) ≤ 65536 * total param_length (each (map_param w) ps)
  unfolding each total map_param param_length
  params_share [] h = omega arith
  params_share (function_param r s ∷ ps) h = omega (arith, share s h.0.1, params_share ps h.1)

  value_share : (x : PushValueOf S) → ValueFits (map_value w x) → push_length (map_value v x) ≤ 65536 * push_length (map_value w x)
  unfolding map_value push_length
  value_share (String s) h = omega (arith, share s h)
  value_share Null h = omega arith
  value_share Undefined h = omega arith
  value_share (Register r) h = omega arith
  value_share (Boolean t) h = omega arith
  value_share (Float n) h = omega arith
  value_share (Integer n) h = omega arith
  value_share (Constant i) h = omega arith

  values_share : (xs : List (PushValueOf S)) → All ValueFits (each (map_value w) xs) → total push_length (each (map_value v) xs) ≤ 65536 * total push_length (each (map_value w) xs)
  unfolding each total
  values_share [] h = omega arith
  values_share (x ∷ xs) h = omega (arith, value_share x h.0, values_share xs h.1)

  flat_share : (f : FlatOf S) → FlatFits (map_flat w f) → payload_length (map_flat v f) ≤ 65536 * payload_length (map_flat w f)
  unfolding map_flat payload_length
  flat_share (Small op) h = omega arith
  flat_share (GotoFrame n) h = omega arith
  flat_share (GetUrl u t) h = omega (arith, share u h.0, share t h.1)
  flat_share (StoreRegister r) h = omega arith
  flat_share (ConstantPool ss) h = omega (arith, strings_share ss h.1)
  flat_share (WaitForFrame n k) h = omega arith
  flat_share (SetTarget s) h = omega (arith, share s h)
  flat_share (GotoLabel s) h = omega (arith, share s h)
  flat_share (WaitForFrame2 k) h = omega arith
  flat_share (Push xs) h = values_share xs h
  flat_share (GetUrl2 a t m) h = omega arith
  flat_share (GotoFrame2 n p) h = omega arith

  same_opcode : (f : FlatOf S) → opcode (map_flat v f) ≡ opcode (map_flat w f)
  unfolding map_flat opcode
  same_opcode (Small op) = refl
  same_opcode (GotoFrame n) = refl
  same_opcode (GetUrl u t) = refl
  same_opcode (StoreRegister r) = refl
  same_opcode (ConstantPool ss) = refl
  same_opcode (WaitForFrame n k) = refl
  same_opcode (SetTarget s) = refl
  same_opcode (GotoLabel s) = refl
  same_opcode (WaitForFrame2 k) = refl
  same_opcode (Push xs) = refl
  same_opcode (GetUrl2 a t m) = refl
  same_opcode (GotoFrame2 n p) = refl

  framed_share : (op : OpCode) (q q' : List ℕ) → length q ≤ 65536 * length q' → length (framed op q) ≤ 65536 * length (framed op q')
  framed_share op q q' h = go (ltb (byte op) 128) refl
    where
      go : (t : Bool) → ltb (byte op) 128 ≡ t → length (framed op q) ≤ 65536 * length (framed op q')
      go true e = rw (framed_short op q e, framed_short op q' e) (omega arith)
      go false e = omega (arith, length_framed op q e, length_framed op q' e, h)

  owner_share : (o : OwnerOf S) → OwnerFits (map_owner w o) → owner_length (map_owner v o) ≤ 65536 * owner_length (map_owner w o)
  unfolding map_owner owner_length
  owner_share With h = omega arith
  owner_share (DefineFunction s ps) h = omega (arith, share s h.0, strings_share ps h.2)
  owner_share (DefineFunction2 s ps r f) h = omega (arith, share s h.0, params_share ps h.2)

  name_share : (c : CatchOf S ℕ) → NameFits (map_catch w c) → name_length (map_catch v c) ≤ 65536 * name_length (map_catch w c)
  unfolding map_catch map_target name_length
  name_share no_catch h = omega arith
  name_share (catch (Variable s) b) h = omega (arith, share s h)
  name_share (catch (Register r) b) h = omega arith

  mutual
    unfolding map_action size

    pub action_share : (a : ActionOf S ℕ) → Well (map_action w a) → size (map_action v a) ≤ 65536 * size (map_action w a)
    action_share (flat f) h =
        rw (same_opcode f) (framed_share (opcode (map_flat w f)) (payload (map_flat v f)) (payload (map_flat w f))
        (omega (arith, length_payload (map_flat v f), length_payload (map_flat w f), flat_share f h)))
    action_share (branch k l) h = omega arith
    action_share (owner o b) h =
        omega (arith, length-owner_fields (map_owner v o), length-owner_fields (map_owner w o), owner_share o h.0, body_share b h.1)
    action_share (Try b c f) h =
        omega (
          arith,
          length-catch_name (map_catch v c),
          length-catch_name (map_catch w c),
          name_share c h.0,
          body_share b h.1,
          catch_share c h.2,
          finally_share f h.3,
        )

    actions_share : (xs : ActionListOf S ℕ) → WellActions (map_actions w xs) → sizes (map_actions v xs) ≤ 65536 * sizes (map_actions w xs)
    actions_share empty h = omega arith
    actions_share (more a xs) h = omega (arith, action_share a h.0, actions_share xs h.1)

    pub body_share : (b : ActionsOf S ℕ) → WellBody (map_body w b) → body_size (map_body v b) ≤ 65536 * body_size (map_body w b)
    body_share (body es xs) h = actions_share xs h

    catch_share : (c : CatchOf S ℕ) → WellCatch (map_catch w c) → catch_size (map_catch v c) ≤ 65536 * catch_size (map_catch w c)
    catch_share no_catch h = omega arith
    catch_share (catch t b) h = body_share b h

    finally_share : (f : FinallyOf S ℕ) → WellFinally (map_finally w f) → finally_size (map_finally v f) ≤ 65536 * finally_size (map_finally w f)
    finally_share no_finally h = omega arith
    finally_share (finally b) h = body_share b h

out_share : (t : Text) → Clean (left_out t) → length (spelling t) + 1 ≤ 65536 * (length (left_out t) + 1)
unfolding left_out pick
out_share t h = go (ltb (length (spelling t)) 65536) refl h
  where
    go : (z : Bool) → ltb (length (spelling t)) 65536 ≡ z → Clean (pick z [] (0 ∷ [])) → length (spelling t) + 1 ≤ 65536 * (length {A = ℕ} (pick z [] (0 ∷ [])) + 1)
    go true e c = omega (arith, ltb-true (length (spelling t)) 65536 e)
    go false e c = absurd (omega (arith, c.0.0))

out_short : (t : Text) → Short (spelling t) → left_out t ≡ []
unfolding left_out pick
out_short t h = rw (lt-ltb (length (spelling t)) 65536 h)

word_short : (ws : Words) (i : ℕ) → All Short ws → Short (get_or ws i [])
word_short [] i h = omega arith
word_short (w ∷ ws) zero h = h.0
word_short (w ∷ ws) (suc i) h = word_short ws i h.1

-- ---- what is read

module _ (k : Terms) (b : List ℕ) (small : Bytes b) (short : WordsShort k) where
  text_short : (o : Option Words) (t : Bool) (n : ℕ) (p : Place) → Of (All Short) o → n < 65536 → p.at ≤ length b
      → Good (length b) (λ s q. Short (spelling s) × (p.at ≤ q.at)) (read_text b o t n p)
  unfolding read_text read_word read_plain spelling
  text_short (some ws) true n p h m l =
      good_then (tested_good b small (λ i. ltb i (length ws)) (read_u16 b) p l (u16_good b small p l))
      (λ i q g j. fine {a = in_book i (get_or ws i [])} {p = q} (word_short ws i h, omega (arith, g.0.1)) j)
  text_short (some ws) false n p h m l = good_then (spelling_good b small n p l) (λ s q g j. fine {a = plain s} {p = q} (omega (arith, g.2, m), omega (arith, g.1)) j)
  text_short none t n p h m l = good_then (spelling_good b small n p l) (λ s q g j. fine {a = plain s} {p = q} (omega (arith, g.2, m), omega (arith, g.1)) j)

  outs : Spells k b left_out (Unit {0})
  unfolding read_string
  outs p l =
      good_then (u16_good b small p l) (λ n q h m. good_as (text_short k.words (eqb n 65535) n q short h.0 m)
      (λ s r g. rw (out_short s g.0) (tt, (λ κ. omega (arith, h.1, g.1)), omega (arith, h.1, g.1))))

  -- a string, a parameter, a push value: at most 65,536 bytes for each byte read
  pub text_most : (p : Place) → p.at ≤ length b → Good (length b) (λ s q. (string_length (spelling s) + 65536 * p.at ≤ 65536 * q.at) × (p.at ≤ q.at)) (read_string k b p)
  unfolding string_length
  text_most p l = good_as (text_good k b small left_out (Unit {0}) outs p l) (λ s q h. (omega (arith, out_share s h.0, h.1 tt), h.2))

  pub param_most : (p : Place) → p.at ≤ length b → Good (length b) (λ x q. (param_length (map_param spelling x) + 65536 * p.at ≤ 65536 * q.at) × (p.at ≤ q.at)) (read_param k b p)
  unfolding param_length map_param
  param_most p l = good_as (param_good k b small left_out (Unit {0}) outs p l) (λ x q h. (go x q h.0 (h.1 tt), h.2))
    where
      go : (x : FunctionParamOf Text) (q : Place) → ParamFits (map_param left_out x) → param_length (map_param left_out x) + p.at ≤ q.at
          → param_length (map_param spelling x) + 65536 * p.at ≤ 65536 * q.at
      go (function_param r s) q h m = omega (arith, out_share s h.1, m)

  pub value_most : (p : Place) → p.at ≤ length b → Good (length b) (λ x q. (push_length (map_value spelling x) + 65536 * p.at ≤ 65536 * q.at) × (p.at ≤ q.at)) (read_value k b p)
  value_most p l = good_as (value_good k b small left_out (Unit {0}) outs p l) (λ x q h. (omega (arith, value_share spelling left_out out_share x h.0, h.1 tt), h.2))

  -- a list of strings, of parameters, after its count
  pub strings_most : (p : Place) → p.at ≤ length b
      → Good (length b) (λ ss q. (total string_length (each spelling ss) + 65536 * p.at ≤ 65536 * q.at) × (p.at ≤ q.at)) (read_counted b (read_string k b) p)
  strings_most p l =
      good_as (counted_good k b small left_out (Unit {0}) outs (λ s. Clean (left_out s)) (λ s. string_length (left_out s)) (read_string k b) (text_good k b small left_out (Unit {0}) outs) p l)
      (λ ss q h. (omega (arith, strings_share spelling left_out out_share ss (all_each Clean left_out ss h.1), total_each left_out string_length ss, h.2 tt), h.3))

  pub params_most : (p : Place) → p.at ≤ length b
      → Good (length b) (λ ps q. (total param_length (each (map_param spelling) ps) + 65536 * p.at ≤ 65536 * q.at) × (p.at ≤ q.at)) (read_counted b (read_param k b) p)
  params_most p l =
      good_as (counted_good k b small left_out (Unit {0}) outs (λ x. ParamFits (map_param left_out x)) (λ x. param_length (map_param left_out x)) (read_param k b) (param_good k b small left_out (Unit {0}) outs) p l)
      (λ ps q h. (omega (arith, params_share spelling left_out out_share ps (all_each ParamFits (map_param left_out) ps h.1), total_each (map_param left_out) param_length ps, h.2 tt), h.3))

  -- an action, a body, a main body: at most 196,608
  pub action_most : (d : ℕ) (p : Place) → p.at ≤ length b
      → Good (length b) (λ a q. (size (map_action spelling a) + 196608 * p.at ≤ 196608 * q.at) × (p.at ≤ q.at)) (read_action k b (behind 1 (read_body k b d)) p)
  action_most d p l =
      good_as (action_good k b small left_out (Unit {0}) outs (behind 1 (read_body k b d)) (λ q m. good_behind 1 (body_good k b small left_out (Unit {0}) outs d q m)) p l)
      (λ a q h. (omega (arith, action_share spelling left_out out_share a h.0, h.1 tt), h.2))

  pub body_most : (depth : ℕ) (p : Place) → p.at ≤ length b
      → Good (length b) (λ x q. (body_size (map_body spelling x) + 196608 * p.at ≤ 196608 * q.at) × (p.at ≤ q.at)) (read_body k b depth p)
  body_most depth p l =
      good_as (body_good k b small left_out (Unit {0}) outs depth p l) (λ x q h. (omega (arith, body_share spelling left_out out_share x h.0, h.1 tt), h.2))

  pub main_most : (depth : ℕ) → Good (length b) (λ x q. body_size (map_body spelling x) ≤ 196608 * length b) (read_main k b depth)
  main_most depth = good_as (main_good k b small left_out (Unit {0}) outs depth) (λ x q h. omega (arith, body_share spelling left_out out_share x h.0, h.1 tt))
