-- What each arm of the match on the opcode says of its action. Assumes nothing.
use mathlib.Core.Path.{◌≡◌, refl, sym, ap, ap₂, ◌∙◌, subst}
use Prim.Native.Nat.{ℕ, zero, suc, ◌+◌, ◌*◌, ◌≤◌, ◌<◌}
use native.Mathlib.Omega.{arith}
use native.Mathlib.Nat.{add-zero, eq-or-lt_of_le}
use mathlib.Core.Bool.{Bool, true, false, false≢true, ◌||◌, ◌&&◌}
use mathlib.Core.Option.{Option, none, some}
use mathlib.Core.Logic.{◌⊎◌, inl, inr, ⊎_elim}
use mathlib.Core.List.{List, [], ◌∷◌}
use lib.ListN.{length, get_or}
use lib.Dec.{ltb, eqb}
use borrow.Author.Tests.{eqb-true, eqb-false, ne_eqb, le-ltb}
use Rattle.layout.specs.Lists.{each, pick, first_with}
use Rattle.layout.specs.OpCode.{OpCode, SmallOpCode, small_byte, byte, small_op_codes, opcodes, opcode_of}
use Rattle.layout.specs.Tree.{FlatOf, GotoFrame, GetUrl, StoreRegister, ConstantPool, WaitForFrame, SetTarget, GotoLabel, WaitForFrame2, Push, GetUrl2, GotoFrame2, OwnerOf, With, DefineFunction, DefineFunction2, Jump, If, PushValueOf, FunctionParamOf, ActionOf, flat, owner, ActionsOf, count}
use Rattle.layout.specs.Read.{Text, Terms, Place, placed, Read, got, bad, Reader, chain, tested, read_u8, read_u16, read_bytes, read_flag, read_string, read_counted, read_value, read_param, read_label, read_fields, read_fields_if}
use Rattle.layout.specs.Strings.{map_flat, map_value, map_owner, map_action}
use Rattle.layout.specs.Payload.{opcode, payload, headed, framed}
use Rattle.layout.specs.Numbers.{le16}
use Rattle.layout.specs.Write.{size, position, home_in, trace, payload_test, event_if}
use Rattle.layout.specs.Lengths.{total, string_length, push_length, payload_length, owner_length, goto_frame2_length}
use Rattle.layout.specs.Pack.{spelling}
use Rattle.laws.specs.Fits.{Bytes}
use Rattle.laws.specs.ReadFits.{Good, fine}
use Rattle.laws.proofs.ReadFits.{good_then, good_got, u8_good, u16_good, tested_good}
use Rattle.laws.specs.Books.{WordsShort}
use Rattle.laws.proofs.Shares.{text_most, strings_most, params_most}
use Rattle.laws.specs.Begun.{Fields, OfFields}
use Rattle.laws.proofs.Begun.{fields_next, tested_fields, u8_fields, u16_fields, flag_fields, counted_fields, string_fields, value_fields, param_fields, label_fields}
use Rattle.positions.specs.Scanned.{fault_of, scanned}
use Rattle.operands.specs.Operands.{string_size}
use Rattle.lists.specs.Elements.{read_named, named_size, value_size}
use Rattle.std.specs.Prelude.{Option as Answer, Result, Ok, Err}
use Rattle.positions.specs.declared.Spot.{Spot}
use Rattle.positions.specs.declared.Stop as code
use Rattle.measure.specs.declared.Limit.TheVariants.{ActionLen}
use Rattle.measure.specs.declared.Overflow.{Overflow}
use Rattle.operands.proofs.Scans.{number_as}
use Rattle.measure.specs.declared.Laid.{Laid}
use Rattle.measure.specs.declared.Laid.TheVariants as laid
use Rattle.action_fields.specs.Fields.{read_wait_for_frame, read_goto_frame2, read_get_url2, read_get_url, flat_size, read_function, read_function2, owner_size, read_caught, caught_size, bodies_after}
use Rattle.laws.specs.Resolved.{action_size, action_trace}
use Rattle.measure.specs.Walk.{state, overflow, noted_if, note_all, run, outcome, branches, Onward, Laying, laid_by, branch_laid, noted_from, Tried}
use Rattle.measure.proofs.Runs.{noted_short, outcome_got, measured_got}
use Rattle.labels.specs.Table.{record_all, recorded}
use Rattle.positions.specs.declared.Fault.TheVariants as fault
use Rattle.action_fields.proofs.Steps.{strings_total, scanned_list, named_plain}
use Rattle.payload.proofs.Branches.{label_here}
use Rattle.measure.proofs.Tries.{lay_try}
use Rattle.measure.proofs.Layings.{Long, lay_long, lay_flat, lay_branch, owning, IsFunction, lay_function}

-- two chains in a row are one
regroup : {A B C : Type 0} (x : Read A) (k : A → B) (g : B → C) → chain x (λ a q. got (g (k a)) q) ≡ chain (chain x (λ a q. got (k a) q)) (λ y r. got (g y) r)
regroup (got a q) k g = refl
regroup (bad f q) k g = refl

-- what a chain ends with has a property that its last step gives
ends_with : {A B : Type 0} (P : B → Type 0) (x : Read A) (k : A → Reader B) → ((a : A) (q : Place) (y : B) (z : Place) → k a q ≡ got y z → P y) → (y : B) (z : Place) → chain x k ≡ got y z → P y
ends_with P (got a q) k h y z e = h a q y z e
ends_with P (bad f q) k h y z e =
    let o : ◌≡◌ {A = ℕ} 0 1 = cc in
    absurd (omega arith)

gives : {A B : Type 0} (P : B → Type 0) (x : Read A) (g : A → B) → ((a : A) → P (g a)) → (y : B) (z : Place) → chain x (λ a q. got (g a) q) ≡ got y z → P y
gives P (got a q) g h y z e =
    let f : g a ≡ y = cc in
    subst P f (h a)
gives P (bad f q) g h y z e =
    let o : ◌≡◌ {A = ℕ} 0 1 = cc in
    absurd (omega arith)

-- an opcode from 80 on with a payload of a few bytes
abbrev Fixed : FlatOf Text → Type 0
Fixed f = Long f × (flat_size f ≤ 65535)

-- ---- the payloads of more than one field

-- they are fields: no action is begun in them
module _ (b : List ℕ) where
  wait_own : OfFields (read_wait_for_frame b)
  unfolding read_wait_for_frame
  wait_own p = fields_next (u16_fields b p) (λ n q. fields_next (u8_fields b q) (λ k r. Fields.read {q = r} (omega arith)))

  goto_own : OfFields (read_goto_frame2 b)
  unfolding read_goto_frame2
  goto_own p = fields_next (u16_fields b p) (λ n q. fields_next (flag_fields b q) (λ k r. Fields.read {q = r} (omega arith)))

  url2_own : OfFields (read_get_url2 b)
  unfolding read_get_url2
  url2_own p = fields_next (flag_fields b p) (λ v q. fields_next (flag_fields b q) (λ t r. fields_next (u8_fields b r) (λ m z. Fields.read {q = z} (omega arith))))

module _ (terms : Terms) (b : List ℕ) where
  url_own : OfFields (read_get_url terms b)
  unfolding read_get_url
  url_own p = fields_next (string_fields terms b p) (λ u q. fields_next (string_fields terms b q) (λ t r. Fields.read {q = r} (omega arith)))

  function_own : OfFields (read_function terms b)
  unfolding read_function
  function_own p = fields_next (string_fields terms b p) (λ s q. fields_next (counted_fields b (read_string terms b) (string_fields terms b) q) (λ ps r. Fields.read {q = r} (omega arith)))

  function2_own : OfFields (read_function2 terms b)
  unfolding read_function2
  function2_own p =
      fields_next (string_fields terms b p) (λ s q. fields_next (counted_fields b (read_param terms b) (param_fields terms b) q) (λ ps r. fields_next (u8_fields b r)
      (λ k u. fields_next (tested_fields _ (read_u16 b) (u16_fields b) u) (λ f v. Fields.read {q = v} (omega arith)))))

module _ (terms : Terms) (b : List ℕ) (p : Place) where
  url_fields : (inner : Reader (ActionsOf Text ℕ)) → read_fields terms b inner OpCode.GetUrl p ≡ chain (read_get_url terms b p) (λ f q. got (flat f) q)
  unfolding read_fields read_get_url
  url_fields inner = go (read_string terms b p)
    where
      go : (x : Read Text) → chain {B = ActionOf Text ℕ} x (λ u q. chain (read_string terms b q) (λ t z. got (flat (GetUrl u t)) z)) ≡ chain (chain x (λ u q. chain (read_string terms b q) (λ t z. got (GetUrl u t) z))) (λ f z. got (flat f) z)
      go (got u q) = regroup (read_string terms b q) (λ t. GetUrl u t) (λ f. flat f)
      go (bad f q) = refl

  url_long : (f : FlatOf Text) (q : Place) → read_get_url terms b p ≡ got f q → Long f
  unfolding read_get_url map_flat opcode byte
  url_long f q e = ends_with Long (read_string terms b p) _ (λ u q y z. gives Long (read_string terms b q) (GetUrl u) (λ t. refl) y z) f q e

  wait_fields : (inner : Reader (ActionsOf Text ℕ)) → read_fields terms b inner OpCode.WaitForFrame p ≡ chain (read_wait_for_frame b p) (λ f q. got (flat f) q)
  unfolding read_fields read_wait_for_frame
  wait_fields inner = go (read_u16 b p)
    where
      go : (x : Read ℕ) → chain {B = ActionOf Text ℕ} x (λ n q. chain (read_u8 b q) (λ k z. got (flat (WaitForFrame n k)) z)) ≡ chain (chain x (λ n q. chain (read_u8 b q) (λ k z. got (WaitForFrame n k) z))) (λ f z. got (flat f) z)
      go (got n q) = regroup (read_u8 b q) (λ k. WaitForFrame n k) (λ f. flat f)
      go (bad f q) = refl

  wait_fixed : (f : FlatOf Text) (q : Place) → read_wait_for_frame b p ≡ got f q → Fixed f
  unfolding read_wait_for_frame map_flat opcode byte flat_size payload_length
  wait_fixed f q e = ends_with Fixed (read_u16 b p) _ (λ n q y z. gives Fixed (read_u8 b q) (WaitForFrame n) (λ k. (refl, omega arith)) y z) f q e

  goto_fields : (inner : Reader (ActionsOf Text ℕ)) → read_fields terms b inner OpCode.GotoFrame2 p ≡ chain (read_goto_frame2 b p) (λ f q. got (flat f) q)
  unfolding read_fields read_goto_frame2
  goto_fields inner = go (read_u16 b p)
    where
      go : (x : Read ℕ) → chain {B = ActionOf Text ℕ} x (λ n q. chain (read_flag b q) (λ k z. got (flat (GotoFrame2 n k)) z)) ≡ chain (chain x (λ n q. chain (read_flag b q) (λ k z. got (GotoFrame2 n k) z))) (λ f z. got (flat f) z)
      go (got n q) = regroup (read_flag b q) (λ k. GotoFrame2 n k) (λ f. flat f)
      go (bad f q) = refl

  bias_most : (n : ℕ) → goto_frame2_length n ≤ 65535
  unfolding goto_frame2_length
  bias_most zero = omega arith
  bias_most (suc n) = omega arith

  goto_fixed : (f : FlatOf Text) (q : Place) → read_goto_frame2 b p ≡ got f q → Fixed f
  unfolding read_goto_frame2 map_flat opcode byte flat_size payload_length
  goto_fixed f q e = ends_with Fixed (read_u16 b p) _ (λ n q y z. gives Fixed (read_flag b q) (GotoFrame2 n) (λ k. (refl, bias_most n)) y z) f q e

  url2_fields : (inner : Reader (ActionsOf Text ℕ)) → read_fields terms b inner OpCode.GetUrl2 p ≡ chain (read_get_url2 b p) (λ f q. got (flat f) q)
  unfolding read_fields read_get_url2
  url2_fields inner = go (read_flag b p)
    where
      rest : (v : Bool) (x : Read Bool) → chain {B = ActionOf Text ℕ} x (λ t q. chain (read_u8 b q) (λ m z. got (flat (GetUrl2 v t m)) z)) ≡ chain (chain x (λ t q. chain (read_u8 b q) (λ m z. got (GetUrl2 v t m) z))) (λ f z. got (flat f) z)
      rest v (got t q) = regroup (read_u8 b q) (λ m. GetUrl2 v t m) (λ f. flat f)
      rest v (bad f q) = refl

      go : (x : Read Bool) → chain {B = ActionOf Text ℕ} x (λ v q. chain (read_flag b q) (λ t u. chain (read_u8 b u) (λ m z. got (flat (GetUrl2 v t m)) z)))
          ≡ chain (chain x (λ v q. chain (read_flag b q) (λ t u. chain (read_u8 b u) (λ m z. got (GetUrl2 v t m) z)))) (λ f z. got (flat f) z)
      go (got v q) = rest v (read_flag b q)
      go (bad f q) = refl

  url2_fixed : (f : FlatOf Text) (q : Place) → read_get_url2 b p ≡ got f q → Fixed f
  unfolding read_get_url2 map_flat opcode byte flat_size payload_length
  url2_fixed f q e =
      ends_with Fixed (read_flag b p) _ (λ v q y z. ends_with Fixed (read_flag b q) _ (λ t u y z. gives Fixed (read_u8 b u) (GetUrl2 v t) (λ m. (refl, omega arith)) y z) y z) f q e

  function_fields : (inner : Reader (ActionsOf Text ℕ)) → read_fields terms b inner OpCode.DefineFunction p ≡ chain (read_function terms b p) (λ o q. chain (inner q) (λ y r. got (owner o y) r))
  unfolding read_fields read_function
  function_fields inner = go (read_string terms b p)
    where
      rest : (s : Text) (x : Read (List Text)) → chain x (λ ps q. chain (inner q) (λ y r. got (owner (DefineFunction s ps) y) r)) ≡ chain (chain x (λ ps q. got (DefineFunction s ps) q)) (λ o q. chain (inner q) (λ y r. got (owner o y) r))
      rest s (got ps q) = refl
      rest s (bad f q) = refl

      go : (x : Read Text) → chain x (λ s q. chain (read_counted b (read_string terms b) q) (λ ps q. chain (inner q) (λ y r. got (owner (DefineFunction s ps) y) r)))
          ≡ chain (chain x (λ s q. chain (read_counted b (read_string terms b) q) (λ ps q. got (DefineFunction s ps) q))) (λ o q. chain (inner q) (λ y r. got (owner o y) r))
      go (got s q) = rest s (read_counted b (read_string terms b) q)
      go (bad f q) = refl

  function2_fields : (inner : Reader (ActionsOf Text ℕ)) → read_fields terms b inner OpCode.DefineFunction2 p ≡ chain (read_function2 terms b p) (λ o q. chain (inner q) (λ y r. got (owner o y) r))
  unfolding read_fields read_function2
  function2_fields inner = go (read_string terms b p)
    where
      fourth : (s : Text) (ps : List (FunctionParamOf Text)) (k : ℕ) (x : Read ℕ) → chain x (λ f q. chain (inner q) (λ y r. got (owner (DefineFunction2 s ps k f) y) r))
          ≡ chain (chain x (λ f q. got (DefineFunction2 s ps k f) q)) (λ o q. chain (inner q) (λ y r. got (owner o y) r))
      fourth s ps k (got f q) = refl
      fourth s ps k (bad f q) = refl

      third : (s : Text) (ps : List (FunctionParamOf Text)) (x : Read ℕ) → chain x (λ k q. chain (tested (λ f. ltb f 512) (read_u16 b) q) (λ f q. chain (inner q) (λ y r. got (owner (DefineFunction2 s ps k f) y) r)))
          ≡ chain (chain x (λ k q. chain (tested (λ f. ltb f 512) (read_u16 b) q) (λ f q. got (DefineFunction2 s ps k f) q))) (λ o q. chain (inner q) (λ y r. got (owner o y) r))
      third s ps (got k q) = fourth s ps k (tested (λ f. ltb f 512) (read_u16 b) q)
      third s ps (bad f q) = refl

      second : (s : Text) (x : Read (List (FunctionParamOf Text))) → chain x (λ ps q. chain (read_u8 b q) (λ k q. chain (tested (λ f. ltb f 512) (read_u16 b) q) (λ f q. chain (inner q) (λ y r. got (owner (DefineFunction2 s ps k f) y) r))))
          ≡ chain (chain x (λ ps q. chain (read_u8 b q) (λ k q. chain (tested (λ f. ltb f 512) (read_u16 b) q) (λ f q. got (DefineFunction2 s ps k f) q)))) (λ o q. chain (inner q) (λ y r. got (owner o y) r))
      second s (got ps q) = third s ps (read_u8 b q)
      second s (bad f q) = refl

      go : (x : Read Text) → chain x (λ s q. chain (read_counted b (read_param terms b) q) (λ ps q. chain (read_u8 b q) (λ k q. chain (tested (λ f. ltb f 512) (read_u16 b) q) (λ f q. chain (inner q) (λ y r. got (owner (DefineFunction2 s ps k f) y) r)))))
          ≡ chain (chain x (λ s q. chain (read_counted b (read_param terms b) q) (λ ps q. chain (read_u8 b q) (λ k q. chain (tested (λ f. ltb f 512) (read_u16 b) q) (λ f q. got (DefineFunction2 s ps k f) q))))) (λ o q. chain (inner q) (λ y r. got (owner o y) r))
      go (got s q) = second s (read_counted b (read_param terms b) q)
      go (bad f q) = refl

  -- both read a function
  function_is : (o : OwnerOf Text) (q : Place) → read_function terms b p ≡ got o q → IsFunction o
  unfolding read_function
  function_is o q e =
      ends_with IsFunction (read_string terms b p) _ (λ s q y z. gives IsFunction (read_counted b (read_string terms b) q) (DefineFunction s) (λ ps. tt) y z) o q e

  function2_is : (o : OwnerOf Text) (q : Place) → read_function2 terms b p ≡ got o q → IsFunction o
  unfolding read_function2
  function2_is o q e =
      ends_with IsFunction (read_string terms b p) _ (λ s q y z. ends_with IsFunction (read_counted b (read_param terms b) q) _ (λ ps q y z.
      ends_with IsFunction (read_u8 b q) _ (λ k q y z. gives IsFunction (tested (λ f. ltb f 512) (read_u16 b) q) (DefineFunction2 s ps k) (λ f. tt) y z) y z) y z) o q e

  -- their places lie within
  function_good : (small : Bytes b) → WordsShort terms → p.at ≤ length b → Good (length b) (λ o q. (owner_size o + 65536 * p.at ≤ 65536 * q.at + 4) × (p.at ≤ q.at)) (read_function terms b p)
  unfolding read_function owner_size map_owner owner_length string_length
  function_good small short l =
      good_then (text_most terms b small short p l)
      (λ s q h m. good_then (strings_most terms b small short q m)
      (λ ps r g j. fine {a = DefineFunction s ps} {p = r} (omega (arith, h.0, g.0), omega (arith, h.1, g.1)) j))

  function2_good : (small : Bytes b) → WordsShort terms → p.at ≤ length b → Good (length b) (λ o q. (owner_size o + 65536 * p.at ≤ 65536 * q.at + 4) × (p.at ≤ q.at)) (read_function2 terms b p)
  unfolding read_function2 owner_size map_owner owner_length string_length
  function2_good small short l =
      good_then (text_most terms b small short p l)
      (λ s p₁ h₁ l₁. good_then (params_most terms b small short p₁ l₁)
      (λ ps p₂ h₂ l₂. good_then (u8_good b small p₂ l₂) (λ k p₃ h₃ l₃. good_then (tested_good b small (λ f. ltb f 512) (read_u16 b) p₃ l₃ (u16_good b small p₃ l₃))
      (λ f p₄ h₄ l₄. fine {a = DefineFunction2 s ps k f} {p = p₄} (omega (arith, h₁.0, h₂.0, h₃.1, h₄.0.1), omega (arith, h₁.1, h₂.1, h₃.1, h₄.0.1)) l₄))))

  -- so that a body after them lies onward
  owner_onward : (at : ℕ) (o : OwnerOf Text) (q : Place) → ((owner_size o + 65536 * p.at ≤ 65536 * q.at + 4) × (p.at ≤ q.at)) × (q.at ≤ length b) → p.at ≡ at + 1
      → (pos : ℕ) → Onward at (length b) pos q.at (pos + 3 + owner_size o)
  owner_onward at o q g e pos = record { beyond = omega (arith, g.0.1, e); within = g.1; written = omega (arith, g.0.0, g.0.1, e) }

-- the opcodes of the match, by their bytes
codes : (opcode_of 0x81 ≡ some OpCode.GotoFrame)
    × (opcode_of 0x83 ≡ some OpCode.GetUrl)
    × (opcode_of 0x87 ≡ some OpCode.StoreRegister)
    × (opcode_of 0x88 ≡ some OpCode.ConstantPool)
    × (opcode_of 0x8A ≡ some OpCode.WaitForFrame)
    × (opcode_of 0x8B ≡ some OpCode.SetTarget)
    × (opcode_of 0x8C ≡ some OpCode.GotoLabel)
    × (opcode_of 0x8D ≡ some OpCode.WaitForFrame2)
    × (opcode_of 0x8E ≡ some OpCode.DefineFunction2)
    × (opcode_of 0x8F ≡ some OpCode.Try)
    × (opcode_of 0x94 ≡ some OpCode.With)
    × (opcode_of 0x96 ≡ some OpCode.Push)
    × (opcode_of 0x99 ≡ some OpCode.Jump)
    × (opcode_of 0x9A ≡ some OpCode.GetUrl2)
    × (opcode_of 0x9B ≡ some OpCode.DefineFunction)
    × (opcode_of 0x9D ≡ some OpCode.If)
    × (opcode_of 0x9E ≡ some (OpCode.Small SmallOpCode.Call))
    × (opcode_of 0x9F ≡ some OpCode.GotoFrame2)
unfolding opcode_of opcodes small_op_codes first_with each pick byte small_byte
codes = (refl, refl, refl, refl, refl, refl, refl, refl, refl, refl, refl, refl, refl, refl, refl, refl, refl, refl)

-- ---- the arms

module _ (terms : Terms) (b : List ℕ) (op at pos number : ℕ) (over : Answer Overflow) (r : Result Spot code.Stop) (l : Result Laid code.Stop) where
  -- the fields of the opcode at a place
  abbrev Here : Answer Overflow → Type 0
  Here o = Laying terms.label_bound (λ inner. read_fields_if terms b inner (opcode_of op) (placed at) (placed (at + 1))) at (length b) pos number over o l

  abbrev fields_of : OpCode → Reader (ActionsOf Text ℕ) → Read (ActionOf Text ℕ)
  fields_of o inner = read_fields terms b inner o (placed (at + 1))

  -- with the opcode's name
  abbrev Of : OpCode → Answer Overflow → Type 0
  Of o v = Laying terms.label_bound (λ inner. read_fields terms b inner o (placed (at + 1))) at (length b) pos number over v l

  named : (n : ℕ) (o : OpCode) (v : Answer Overflow) → opcode_of n ≡ some o → op ≡ n → Of o v → Here v
  unfolding read_fields_if
  named n o v k e h = rw (e, k) h

  pub arm_goto_frame : op ≡ 0x81 → r ≡ scanned (λ _. 0) (pos + 3 + 2) (read_bytes b 2 (placed (at + 1))) → l ≡ laid_by laid.Flat r → Here over
  unfolding read_fields read_bytes read_u16 flat_size map_flat payload_length opcode byte
  arm_goto_frame o e m =
      named 0x81 OpCode.GotoFrame over codes.0 o (lay_flat _ GotoFrame at (length b) pos number over (λ _. 0) (pos + 3 + 2) (λ a. omega arith) (read_u16 b (placed (at + 1))) (u16_fields b (placed (at + 1))) (λ inner. refl) (λ a q g. (refl, omega arith)) r l (e ∙ number_as _ _ _ _ _ _) m)

  pub arm_get_url : {over' : Answer Overflow} {r' : Result Spot code.Stop} → op ≡ 0x83 → r ≡ scanned flat_size (pos + 3) (read_get_url terms b (placed (at + 1))) → (r' ≡ r) × (over' ≡ noted_from (pos + 3) number r over) → l ≡ laid_by laid.Flat r' → Here over'
  arm_get_url {over'} o e n m =
      named 0x83 OpCode.GetUrl over' codes.1 o (lay_long (fields_of OpCode.GetUrl) (λ f. f) at (length b) pos number over flat_size (pos + 3) (λ a. refl) (read_get_url terms b (placed (at + 1))) (url_own terms b (placed (at + 1))) (url_fields terms b (placed (at + 1))) (url_long terms b (placed (at + 1))) over' r l e (m ∙ ap (laid_by laid.Flat) n.0) n.1)

  -- StoreRegister and WaitForFrame2: a byte
  pub arm_byte : (op ≡ 0x87) ⊎ (op ≡ 0x8D) → r ≡ scanned (λ _. 0) (pos + 3 + 1) (read_bytes b 1 (placed (at + 1))) → l ≡ laid_by laid.Flat r → Here over
  unfolding read_fields read_bytes read_u8 flat_size map_flat payload_length opcode byte
  arm_byte (inl o) e m =
      named 0x87 OpCode.StoreRegister over codes.2 o (lay_flat _ StoreRegister at (length b) pos number over (λ _. 0) (pos + 3 + 1) (λ a. omega arith) (read_u8 b (placed (at + 1))) (u8_fields b (placed (at + 1))) (λ inner. refl) (λ a q g. (refl, omega arith)) r l (e ∙ number_as _ _ _ _ _ _) m)
  arm_byte (inr o) e m =
      named 0x8D OpCode.WaitForFrame2 over codes.7 o (lay_flat _ WaitForFrame2 at (length b) pos number over (λ _. 0) (pos + 3 + 1) (λ a. omega arith) (read_u8 b (placed (at + 1))) (u8_fields b (placed (at + 1))) (λ inner. refl) (λ a q g. (refl, omega arith)) r l (e ∙ number_as _ _ _ _ _ _) m)

  pub arm_wait_for_frame : op ≡ 0x8A → r ≡ scanned flat_size (pos + 3) (read_wait_for_frame b (placed (at + 1))) → l ≡ laid_by laid.Flat r → Here over
  arm_wait_for_frame o e m =
      named 0x8A OpCode.WaitForFrame over codes.4 o (lay_flat (fields_of OpCode.WaitForFrame) (λ f. f) at (length b) pos number over flat_size (pos + 3) (λ a. refl) (read_wait_for_frame b (placed (at + 1))) (wait_own b (placed (at + 1))) (wait_fields terms b (placed (at + 1))) (wait_fixed terms b (placed (at + 1))) r l e m)

  pub arm_goto_frame_2 : op ≡ 0x9F → r ≡ scanned flat_size (pos + 3) (read_goto_frame2 b (placed (at + 1))) → l ≡ laid_by laid.Flat r → Here over
  arm_goto_frame_2 o e m =
      named 0x9F OpCode.GotoFrame2 over codes.17 o (lay_flat (fields_of OpCode.GotoFrame2) (λ f. f) at (length b) pos number over flat_size (pos + 3) (λ a. refl) (read_goto_frame2 b (placed (at + 1))) (goto_own b (placed (at + 1))) (goto_fields terms b (placed (at + 1))) (goto_fixed terms b (placed (at + 1))) r l e m)

  pub arm_get_url_2 : op ≡ 0x9A → r ≡ scanned flat_size (pos + 3) (read_get_url2 b (placed (at + 1))) → l ≡ laid_by laid.Flat r → Here over
  arm_get_url_2 o e m =
      named 0x9A OpCode.GetUrl2 over codes.13 o (lay_flat (fields_of OpCode.GetUrl2) (λ f. f) at (length b) pos number over flat_size (pos + 3) (λ a. refl) (read_get_url2 b (placed (at + 1))) (url2_own b (placed (at + 1))) (url2_fields terms b (placed (at + 1))) (url2_fixed terms b (placed (at + 1))) r l e m)

  -- SetTarget and GotoLabel: a string
  pub arm_string : {over' : Answer Overflow} {r' : Result Spot code.Stop} → (op ≡ 0x8B) ⊎ (op ≡ 0x8C) → r ≡ scanned string_size (pos + 3) (read_string terms b (placed (at + 1))) → (r' ≡ r) × (over' ≡ noted_from (pos + 3) number r over) → l ≡ laid_by laid.Flat r' → Here over'
  unfolding read_fields flat_size map_flat payload_length opcode byte string_size string_length
  arm_string {over'} (inl o) e n m =
      named 0x8B OpCode.SetTarget over' codes.5 o (lay_long (fields_of OpCode.SetTarget) SetTarget at (length b) pos number over string_size (pos + 3) (λ a. omega arith) (read_string terms b (placed (at + 1))) (string_fields terms b (placed (at + 1))) (λ inner. refl) (λ a q g. refl) over' r l e (m ∙ ap (laid_by laid.Flat) n.0) n.1)
  arm_string {over'} (inr o) e n m =
      named 0x8C OpCode.GotoLabel over' codes.6 o (lay_long (fields_of OpCode.GotoLabel) GotoLabel at (length b) pos number over string_size (pos + 3) (λ a. omega arith) (read_string terms b (placed (at + 1))) (string_fields terms b (placed (at + 1))) (λ inner. refl) (λ a q g. refl) over' r l e (m ∙ ap (laid_by laid.Flat) n.0) n.1)

  -- a list is measured from a position w on: that of an action whose list is empty
  pub arm_constant_pool : {over' : Answer Overflow} {r' : Result Spot code.Stop} (w : ℕ) → op ≡ 0x88 → w ≡ pos + 3 + 2 → r ≡ scanned (total (named_size 0)) w (read_counted b (read_named terms b 0) (placed (at + 1))) → (r' ≡ r) × (over' ≡ noted_from (pos + 3) number r over) → l ≡ laid_by laid.Flat r'
      → Here over'
  unfolding read_fields flat_size map_flat payload_length opcode byte
  arm_constant_pool {over'} w o h e n m =
      named 0x88 OpCode.ConstantPool over' codes.3 o (lay_long (fields_of OpCode.ConstantPool) ConstantPool at (length b) pos number over (total (λ s. named_size 0 s)) w (λ ss. omega (arith, h, strings_total ss)) (read_counted b (read_string terms b) (placed (at + 1))) (counted_fields b (read_string terms b) (string_fields terms b) (placed (at + 1))) (λ inner. refl) (λ a q g. refl) over' r l
      (e ∙ scanned_list (λ s. s) (read_string terms b) (read_named terms b 0) (named_plain terms b) b (named_size 0) w (placed (at + 1))) (m ∙ ap (laid_by laid.Flat) n.0) n.1)

  values_total : (vs : List (PushValueOf Text)) → total value_size vs ≡ total push_length (each (map_value spelling) vs)
  unfolding total each value_size
  values_total [] = refl
  values_total (v ∷ vs) = omega (arith, values_total vs)

  pub arm_push : {over' : Answer Overflow} {r' : Result Spot code.Stop} (w : ℕ) → op ≡ 0x96 → w ≡ pos + 3 + 0 → r ≡ scanned (total value_size) w (read_counted b (read_value terms b) (placed (at + 1))) → (r' ≡ r) × (over' ≡ noted_from (pos + 3) number r over) → l ≡ laid_by laid.Flat r' → Here over'
  unfolding read_fields flat_size map_flat payload_length opcode byte
  arm_push {over'} w o h e n m =
      named 0x96 OpCode.Push over' codes.11 o (lay_long (fields_of OpCode.Push) Push at (length b) pos number over (total value_size) w (λ vs. omega (arith, h, values_total vs)) (read_counted b (read_value terms b) (placed (at + 1))) (counted_fields b (read_value terms b) (value_fields terms b) (placed (at + 1))) (λ inner. refl) (λ a q g. refl) over' r l e (m ∙ ap (laid_by laid.Flat) n.0) n.1)

  module _ (small : Bytes b) (short : WordsShort terms) (inside : at + 1 ≤ length b) where
    pub arm_define_function : {over' : Answer Overflow} {r' : Result Spot code.Stop} → op ≡ 0x9B → r ≡ scanned owner_size (pos + 3) (read_function terms b (placed (at + 1))) → (r' ≡ r) × (over' ≡ noted_from (pos + 3) number r over) → l ≡ laid_by laid.Function r' → Here over'
    arm_define_function {over'} o e n m =
        named 0x9B OpCode.DefineFunction over' codes.14 o (lay_function (fields_of OpCode.DefineFunction) (read_function terms b (placed (at + 1))) (function_fields terms b (placed (at + 1))) at (length b) pos number (λ x q g. (function_is terms b (placed (at + 1)) x q g, owner_onward terms b (placed (at + 1)) at x q (good_got x q (function_good terms b (placed (at + 1)) small short inside) g) refl pos)) (function_own terms b (placed (at + 1))) over over' r l e (m ∙ ap (laid_by laid.Function) n.0) n.1)

    pub arm_define_function_2 : {over' : Answer Overflow} {r' : Result Spot code.Stop} → op ≡ 0x8E → r ≡ scanned owner_size (pos + 3) (read_function2 terms b (placed (at + 1))) → (r' ≡ r) × (over' ≡ noted_from (pos + 3) number r over) → l ≡ laid_by laid.Function r' → Here over'
    arm_define_function_2 {over'} o e n m =
        named 0x8E OpCode.DefineFunction2 over' codes.8 o (lay_function (fields_of OpCode.DefineFunction2) (read_function2 terms b (placed (at + 1))) (function2_fields terms b (placed (at + 1))) at (length b) pos number (λ x q g. (function2_is terms b (placed (at + 1)) x q g, owner_onward terms b (placed (at + 1)) at x q (good_got x q (function2_good terms b (placed (at + 1)) small short inside) g) refl pos)) (function2_own terms b (placed (at + 1))) over over' r l e (m ∙ ap (laid_by laid.Function) n.0) n.1)

-- ---- branches

module _ (terms : Terms) (b : List ℕ) (op at pos number : ℕ) (over : Answer Overflow) (l : Result Laid code.Stop) (inside : at + 1 ≤ length b) where
  abbrev Led : Type 0
  Led = Laying terms.label_bound (λ inner. read_fields_if terms b inner (opcode_of op) (placed at) (placed (at + 1))) at (length b) pos number over over l

  -- Jump and If: a label
  pub arm_branch : (op ≡ 0x99) ⊎ (op ≡ 0x9D) → l ≡ branch_laid (pos + 3) (read_label terms b 0 (placed (at + 1))) → Led
  unfolding read_fields_if read_fields
  arm_branch (inl o) m =
      rw (o, codes.12) (lay_branch (λ inner. read_fields terms b inner OpCode.Jump (placed (at + 1))) Jump (read_label terms b 0 (placed (at + 1))) (λ inner. refl) (λ n q e. (label_here terms b (at + 1) inside n q e).1) (label_fields terms b 0 (placed (at + 1))) at (length b) pos number (pos + 3) over l refl m)
  arm_branch (inr o) m =
      rw (o, codes.15) (lay_branch (λ inner. read_fields terms b inner OpCode.If (placed (at + 1))) If (read_label terms b 0 (placed (at + 1))) (λ inner. refl) (λ n q e. (label_here terms b (at + 1) inside n q e).1) (label_fields terms b 0 (placed (at + 1))) at (length b) pos number (pos + 3) over l refl m)

-- ---- opcodes whose bodies follow at once, or that have no field

spot_is : {s : Spot} {q w : ℕ} → s.at ≡ q → s.pos.0 ≡ w → s ≡ record { at = q; pos = record { 0 = w } }
spot_is e f = ap₂ (λ (q w : ℕ). record { at = q; pos = record { 0 = w } }) e f

module _ (terms : Terms) (b : List ℕ) (op at pos number : ℕ) (over : Answer Overflow) where
  pub arm_try : Bytes b → WordsShort terms → at + 1 ≤ length b → (l : Result Laid code.Stop) (over' : Answer Overflow) → op ≡ 0x8F
      → Tried (scanned caught_size (pos + 3) (read_caught terms b (placed (at + 1)))) (bodies_after (get_or b (at + 1) 0)) (pos + 3) number l over over'
      → Laying terms.label_bound (λ inner. read_fields_if terms b inner (opcode_of op) (placed at) (placed (at + 1))) at (length b) pos number over over' l
  unfolding read_fields_if
  arm_try small short inside l over' o h = rw (o, codes.9) (lay_try terms b small short at (at + 1) pos number refl inside over over' l h)

  module _ {end : Spot} (is-next : end.at ≡ at + 1) where
    pub arm_with : op ≡ 0x94 → at + 1 ≤ length b → end.pos.0 ≡ pos + 3 + 2
        → Laying terms.label_bound (λ inner. read_fields_if terms b inner (opcode_of op) (placed at) (placed (at + 1))) at (length b) pos number over over (Ok (laid.Bodies end 1))
    unfolding read_fields_if
    arm_with o h w =
        rw (spot_is is-next w, o, codes.10) (Laying.bodies {after = record { at = at + 1; pos = record { 0 = pos + 3 + 2 } }} {n = 1} (omega arith)
        (owning (λ inner. read_fields terms b inner OpCode.With (placed (at + 1))) With (placed (at + 1)) (λ inner. unfold read_fields in refl) at (length b) pos number (record { 0 = pos + 3 + 2 }) (ap (λ (n : ℕ). pos + 3 + n) (sym with_size))
        (record { beyond = omega arith; within = h; written = omega arith }) (λ home. home) (λ home. unfold home_in map_owner in refl) over over
        (noted_short (overflow ActionLen 2 number) over (omega arith) ∙ ap (λ (n : ℕ). noted_if (overflow ActionLen n number) over) (sym with_size))))
      where
        with_size : owner_size With ≡ 2
        with_size = unfold owner_size map_owner owner_length in refl

    pub arm_call : op ≡ 0x9E → end.pos.0 ≡ pos + 3
        → Laying terms.label_bound (λ inner. read_fields_if terms b inner (opcode_of op) (placed at) (placed (at + 1))) at (length b) pos number over over (Ok (laid.Flat end))
    unfolding read_fields_if read_fields
    arm_call o w =
        rw (spot_is is-next w, o, codes.16) (Laying.flat {after = record { at = at + 1; pos = record { 0 = pos + 3 } }} (λ inner tab home. outcome_got action_size count action_trace (position pos home number) (state tab over) refl
        (unfold size map_action map_flat opcode payload framed headed byte small_byte le16 in refl) (unfold count in refl) (unfold trace map_action map_flat payload payload_test event_if run recorded record_all note_all in refl))
        (λ inner home. measured_got action_size count action_trace (position pos home number) refl (unfold size map_action map_flat opcode payload framed headed byte small_byte le16 in refl) (unfold count in refl) (unfold trace map_action map_flat payload payload_test event_if branches in refl)))

  pub arm_unknown : opcode_of op ≡ none
      → Laying terms.label_bound (λ inner. read_fields_if terms b inner (opcode_of op) (placed at) (placed (at + 1))) at (length b) pos number over over (Err (record { fault = fault.UnknownCode; place = at }))
  unfolding read_fields_if outcome fault_of
  arm_unknown o = rw o (Laying.stops {s = record { fault = fault.UnknownCode; place = at }} (λ inner t home. rw (add-zero number)))

-- ---- which opcodes from 80 on are listed

-- one of two that stand side by side
pub beside : {n : ℕ} (k : ℕ) → k ≤ n → n < k + 2 → (n ≡ k) ⊎ (n ≡ k + 1)
beside k h l = ⊎_elim (λ e. inl (sym e)) (λ m. inr (omega arith)) (eq-or-lt_of_le h)

-- the keys of the match
abbrev pub keys : List ℕ
keys = 0x81 ∷ 0x83 ∷ 0x87 ∷ 0x88 ∷ 0x8A ∷ 0x8B ∷ 0x8C ∷ 0x8D ∷ 0x8E ∷ 0x8F ∷ 0x94 ∷ 0x96 ∷ 0x99 ∷ 0x9A ∷ 0x9B ∷ 0x9D ∷ 0x9E ∷ 0x9F ∷ []

unfoldable among : ℕ → List ℕ → Bool
among n [] = false
among n (k ∷ ks) = eqb n k || among n ks

is_none : {A : Type 0} → Option A → Bool
is_none none = true
is_none (some a) = false

-- none of these
abbrev pub Others : ℕ → List ℕ → Type 0
Others n [] = Unit {0}
Others n (k ∷ ks) = (n ≡ k → ⊥) × Others n ks

-- it is under 80, or one of the keys, or not listed
unfoldable covered : ℕ → Bool
covered n = ltb n 128 || (among n keys || is_none (opcode_of n))

-- of every number under n
unfoldable below : (ℕ → Bool) → ℕ → Bool
below f zero = true
below f (suc n) = f n && below f n

all_covered : below covered 256 ≡ true
unfolding below covered among is_none opcode_of first_with opcodes small_op_codes each pick byte small_byte
all_covered = refl

and_left : (x y : Bool) → (x && y) ≡ true → x ≡ true
and_left true y e = refl
and_left false y e = e

and_right : (x y : Bool) → (x && y) ≡ true → y ≡ true
and_right true y e = e
and_right false y e = absurd (false≢true e)

below_at : (f : ℕ → Bool) (n k : ℕ) → below f n ≡ true → k < n → f k ≡ true
unfolding below
below_at f zero k h l = absurd (omega (arith, l))
below_at f (suc n) k h l = go (eqb k n) refl (λ m. below_at f n k (and_right (f n) (below f n) h) m)
  where
    go : (t : Bool) → eqb k n ≡ t → (k < n → f k ≡ true) → f k ≡ true
    go true e rest = ap f (eqb-true k n e) ∙ and_left (f n) (below f n) h
    go false e rest =
        let z = eqb-false k n e in
        rest (omega (arith, z, l))

not_among : (n : ℕ) (ks : List ℕ) → Others n ks → among n ks ≡ false
unfolding among
not_among n [] h = refl
not_among n (k ∷ ks) h = rw (ne_eqb n k h.0, not_among n ks h.1)

none_is : {A : Type 0} (o : Option A) → is_none o ≡ true → o ≡ none
unfolding is_none
none_is none e = refl
none_is (some a) e = absurd (false≢true e)

or_last : (x y z : Bool) → x ≡ false → y ≡ false → (x || (y || z)) ≡ true → z ≡ true
or_last x y z e f h = rw (e, f) at h

-- an opcode from 80 on that is none of the keys is not listed
pub unlisted : (n : ℕ) → 128 ≤ n → n < 256 → Others n keys → opcode_of n ≡ none
unfolding covered
unlisted n h l k = none_is (opcode_of n) (or_last (ltb n 128) (among n keys) (is_none (opcode_of n)) (le-ltb n 128 h) (not_among n keys k) (below_at covered 256 n all_covered l))
