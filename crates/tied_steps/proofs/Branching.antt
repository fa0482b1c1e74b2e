-- Of the actions in sheet order: those whose own bytes begin with a branch's opcode are branches, and no branch among them goes too
-- far, where none does among the events. Assumes nothing.
use Rattle.std.specs.Prelude.{◌≡◌, ◌⊎◌, ℕ, ◌+◌, Bool, true, false, length, get_or, ltb, eqb}
use Rattle.std.proofs.Math.Path.{refl, subst}
use Rattle.std.proofs.Common.{sym, ap, ◌∙◌, inl, inr, ⊎_elim}
use native.Mathlib.Omega.{arith}
use Rattle.std.proofs.Math.Option.{Option, none, some}
use mathlib.Core.List.{List, [], ◌∷◌, ◌++◌}
use Rattle.std.proofs.lemmas.Bool.{eqb-false}
use Rattle.layout.specs.Lists.{each, pick, first_with}
use Rattle.layout.specs.OpCode.{SmallOpCode, OpCode, small_byte, byte, opcodes, small_op_codes, opcode_of}
use Rattle.layout.specs.Tree.{Flat, Small, GotoFrame, GetUrl, StoreRegister, ConstantPool, WaitForFrame, SetTarget, GotoLabel, WaitForFrame2, Push, GetUrl2, GotoFrame2, Owner, With, DefineFunction, DefineFunction2, Branch, Jump, If, ActionIndex, first_action, next_action, Entry, Action, flat, branch, owner, Try, ActionList, empty, more, Actions, body, Catch, no_catch, catch, Finally, no_finally, finally}
use Rattle.layout.specs.Payload.{opcode, payload, owner_op_code, owner_fields, owner_payload, branch_op_code, catch_shape, finally_shape, catch_name, try_payload, framed}
use Rattle.layout.specs.Write.{size, body_size, catch_size, finally_size, Position, moved, to_body, to_try, to_catch, to_finally, past, Event, payload_test, body_test, labels_at, trace, traces, trace_body, trace_catch, trace_finally}
use Rattle.layout.specs.Judge.{judged}
use Rattle.layout.specs.Lengths.{total}
use Rattle.layout.proofs.Lengths.{framed_long, framed_short}
use Rattle.laws.specs.Fits.{Listed, FlatFits, Fits}
use Rattle.laws.specs.Nears.{NoneFar}
use Rattle.laws.proofs.Nears.{near_left, near_right, branch_near}
use Rattle.action_numbers.specs.Numbered.{in_order, list_in_order, body_in_order, catch_in_order, finally_in_order, own_size}
use Rattle.action_numbers.proofs.Numbered.{total_action, total_catch, total_order}
use Rattle.tied_steps.specs.Own.{own_bytes}
use Rattle.tied_steps.specs.Landing.{BranchOpcode}
use Rattle.tied_steps.specs.Branching.{EachFrom, IsBranch, a_branch}

-- ---- a branch's opcode

-- an action's own bytes begin with its opcode
framed_opcode : (op : OpCode) (q : List ℕ) → get_or (framed op q) 0 0 ≡ byte op
framed_opcode op q = go (ltb (byte op) 128) refl
  where
    go : (t : Bool) → ltb (byte op) 128 ≡ t → get_or (framed op q) 0 0 ≡ byte op
    go true e = ap (λ (l : List ℕ). get_or l 0 0) (framed_short op q e)
    go false e = ap (λ (l : List ℕ). get_or l 0 0) (framed_long op q e)

-- a byte that is neither of the two
pub other : {X : Type 0} {n : ℕ} → eqb n 0x99 ≡ false → eqb n 0x9D ≡ false → BranchOpcode n → X
other {n = n} h k b = ⊎_elim (λ e. absurd (eqb-false n 0x99 h e)) (λ e. absurd (eqb-false n 0x9D k e)) b

-- the bytes stand for the two branches, and so for no opcode without a field
jump_listed : opcode_of 0x99 ≡ some OpCode.Jump
unfolding opcode_of opcodes small_op_codes byte small_byte first_with each pick
jump_listed = refl

if_listed : opcode_of 0x9D ≡ some OpCode.If
unfolding opcode_of opcodes small_op_codes byte small_byte first_with each pick
if_listed = refl

small_other : {X : Type 0} (op : SmallOpCode) → Listed (OpCode.Small op) → BranchOpcode (byte (OpCode.Small op)) → X
small_other {X} op h b = ⊎_elim (λ e. no_jump (sym h ∙ ap opcode_of e ∙ jump_listed)) (λ e. no_if (sym h ∙ ap opcode_of e ∙ if_listed)) b
  where
    no_jump : some (OpCode.Small op) ≡ some OpCode.Jump → X
    no_jump e =
        let z : ◌≡◌ {A = ℕ} 0 1 = cc in
        absurd (omega (arith, z))

    no_if : some (OpCode.Small op) ≡ some OpCode.If → X
    no_if e =
        let z : ◌≡◌ {A = ℕ} 0 1 = cc in
        absurd (omega (arith, z))

-- no action without a body and without a label has one of the two, and no owner of bodies
flat_other : {X : Type 0} (f : Flat) → FlatFits f → BranchOpcode (byte (opcode f)) → X
unfolding opcode byte
flat_other (Small op) h b = small_other op h b
flat_other (GotoFrame n) h b = other refl refl b
flat_other (GetUrl u t) h b = other refl refl b
flat_other (StoreRegister r) h b = other refl refl b
flat_other (ConstantPool ss) h b = other refl refl b
flat_other (WaitForFrame n k) h b = other refl refl b
flat_other (SetTarget s) h b = other refl refl b
flat_other (GotoLabel s) h b = other refl refl b
flat_other (WaitForFrame2 k) h b = other refl refl b
flat_other (Push vs) h b = other refl refl b
flat_other (GetUrl2 v t m) h b = other refl refl b
flat_other (GotoFrame2 n p) h b = other refl refl b

owner_other : {X : Type 0} (o : Owner) → BranchOpcode (byte (owner_op_code o)) → X
unfolding owner_op_code byte
owner_other With b = other refl refl b
owner_other (DefineFunction s ps) b = other refl refl b
owner_other (DefineFunction2 s ps r f) b = other refl refl b

try_other : {X : Type 0} → BranchOpcode (byte OpCode.Try) → X
unfolding byte
try_other b = other refl refl b

-- it begins with a branch's opcode, so it is a branch
pub own_branch : (bits : ℕ → ℕ → ℕ) (a : Action) (p : ℕ) → Fits a → BranchOpcode (get_or (own_bytes bits a p) 0 0) → IsBranch a
unfolding own_bytes
own_branch bits (flat f) p h b = flat_other f h.0 (subst BranchOpcode (framed_opcode (opcode f) (payload f)) b)
own_branch bits (branch k l) p h b = a_branch k l
own_branch bits (owner o x) p h b = owner_other o (subst BranchOpcode (framed_opcode (owner_op_code o) (owner_payload o (body_size x))) b)
own_branch bits (Try x c f) p h b =
    try_other (subst BranchOpcode (framed_opcode OpCode.Try (try_payload (catch_shape c + finally_shape f) (body_size x) (catch_size c) (finally_size f) (catch_name c))) b)

-- and a branch begins with one
pub branch_opcode : (k : Branch) (q : List ℕ) → BranchOpcode (get_or (framed (branch_op_code k) q) 0 0)
unfolding branch_op_code byte
branch_opcode Jump q = inl (framed_opcode OpCode.Jump q)
branch_opcode If q = inr (framed_opcode OpCode.If q)

module _ (P : ℕ → Action → Type 0) where
  from_append : (xs ys : List Action) (p n : ℕ) → total own_size xs ≡ n → EachFrom P xs p → EachFrom P ys (p + n) → EachFrom P (xs ++ ys) p
  unfolding total
  from_append [] ys p n e h k =
      let i : p + n ≡ p = omega (arith, e) in
      subst (EachFrom P ys) i k
  from_append (a ∷ xs) ys p n e h k =
      let i : p + n ≡ p + own_size a + total own_size xs = omega (arith, e) in
      (h.0, from_append xs ys (p + own_size a) (total own_size xs) refl h.1 (subst (EachFrom P ys) i k))

  -- so is one among them
  pub from_at : (before : List Action) (a : Action) (later : List Action) (p : ℕ) → EachFrom P (before ++ (a ∷ later)) p → P (p + total own_size before) a
  unfolding total
  from_at [] a later p h =
      let i : p ≡ p + 0 = omega arith in
      subst (λ (n : ℕ). P n a) i h.0
  from_at (b ∷ before) a later p h =
      let i : p + own_size b + total own_size before ≡ p + (own_size b + total own_size before) = omega arith in
      subst (λ (n : ℕ). P n a) i (from_at before a later (p + own_size b) h.1)

module _ (final : ℕ → Option Position) where
  -- a branch to label l that starts at p is not refused, whatever its number
  pub record Near (p l : ℕ) : Type 0 where
    pub number : ℕ
    pub nearby : judged (final l) (p + 5) number ≡ none

  abbrev pub NearIf : ℕ → Action → Type 0
  NearIf p (flat f) = Unit {0}
  NearIf p (branch k l) = Near p l
  NearIf p (owner o b) = Unit {0}
  NearIf p (Try b c f) = Unit {0}

  mutual
    unfolding trace in_order own_size moved

    near_in_order : (a : Action) (s : Position) → NoneFar final (trace a s) → EachFrom NearIf (in_order a) s.at
    near_in_order (flat f) s e = (tt, tt)
    near_in_order (branch k l) s e = (record { number = s.number + 0; nearby = branch_near final l s e }, tt)
    near_in_order (owner o b) s e =
        let y : List Event = trace_body b (to_body o s) in
        let z : List Event = body_test (body_size b) s in
        (tt, body_near_in_order b (to_body o s) (near_left final y z (near_right final (payload_test (length (owner_fields o) + 2) s) (y ++ z) e)))
    near_in_order (Try b c f) s e =
        let x₁ : List Event = trace_body b (to_try c s) in
        let x₂ : List Event = trace_catch c (to_catch b c s) in
        let x₃ : List Event = trace_finally f (to_finally b c s) in
        let z : List Event = body_test (body_size b) s ++ (body_test (catch_size c) s ++ body_test (finally_size f) s) in
        let e₁ : NoneFar final (x₁ ++ (x₂ ++ (x₃ ++ z))) = near_right final (payload_test (7 + length (catch_name c)) s) (x₁ ++ (x₂ ++ (x₃ ++ z))) e in
        let e₂ : NoneFar final (x₂ ++ (x₃ ++ z)) = near_right final x₁ (x₂ ++ (x₃ ++ z)) e₁ in
        let e₃ : NoneFar final (x₃ ++ z) = near_right final x₂ (x₃ ++ z) e₂ in
        let q : ℕ = s.at + (10 + length (catch_name c)) in
        let i : q + (body_size b + catch_size c) ≡ q + body_size b + catch_size c = omega arith in (
          tt,
          from_append NearIf (body_in_order b) (catch_in_order c ++ finally_in_order f) q (body_size b) (total_order b) (body_near_in_order b (to_try c s) (near_left final x₁ (x₂ ++ (x₃ ++ z)) e₁))
              (from_append NearIf (catch_in_order c) (finally_in_order f) (q + body_size b) (catch_size c) (total_catch c) (catch_near_in_order c (to_catch b c s) (near_left final x₂ (x₃ ++ z) e₂))
              (subst (EachFrom NearIf (finally_in_order f)) i (finally_near_in_order f (to_finally b c s) (near_left final x₃ z e₃)))),
        )

    list_near_in_order : (xs : ActionList) (es : List Entry) (i : ActionIndex) (s : Position) → NoneFar final (traces xs es i s) → EachFrom NearIf (list_in_order xs) s.at
    list_near_in_order empty es i s e = tt
    list_near_in_order (more a xs) es i s e =
        let y : List Event = traces xs es (next_action i) (past a s) in
        let r : NoneFar final (trace a s ++ y) = near_right final (labels_at es i s) (trace a s ++ y) e in
        from_append NearIf (in_order a) (list_in_order xs) s.at (size a) (total_action a) (near_in_order a s (near_left final (trace a s) y r))
        (list_near_in_order xs es (next_action i) (past a s) (near_right final (trace a s) y r))

    pub body_near_in_order : (b : Actions) (s : Position) → NoneFar final (trace_body b s) → EachFrom NearIf (body_in_order b) s.at
    body_near_in_order (body es xs) s e = list_near_in_order xs es first_action s e

    catch_near_in_order : (c : Catch) (s : Position) → NoneFar final (trace_catch c s) → EachFrom NearIf (catch_in_order c) s.at
    catch_near_in_order no_catch s e = tt
    catch_near_in_order (catch t b) s e = body_near_in_order b s e

    finally_near_in_order : (f : Finally) (s : Position) → NoneFar final (trace_finally f s) → EachFrom NearIf (finally_in_order f) s.at
    finally_near_in_order no_finally s e = tt
    finally_near_in_order (finally b) s e = body_near_in_order b s e
