-- The code's cases, and what is written of the action that each shows. Assumes nothing.
use mathlib.Core.Path.{◌≡◌, refl, sym, ap, ap₂, ◌∙◌}
use Prim.Native.Nat.{ℕ, zero, suc, ◌+◌, ◌*◌, ◌/◌, ◌%◌, ◌≤◌, ◌<◌}
use native.Mathlib.Omega.{arith}
use mathlib.Core.Bool.{Bool, true, false, not, ◌&&◌, ◌||◌}
use mathlib.Core.Option.{none}
use mathlib.Core.List.{List, [], ◌∷◌, ◌++◌}
use lib.ListN.{length}
use lib.Seq.{sets}
use lib.Dec.{ltb, eqb}
use borrow.Author.Tests.{ltb-true, eqb-true, eqb-false}
use Rattle.layout.specs.Lists.{each}
use Rattle.layout.specs.Numbers.{le16, bit}
use Rattle.layout.specs.OpCode.{byte}
use Rattle.layout.specs.Tree.{PushValueOf, FunctionParamOf, function_param, GetUrl, WaitForFrame, GetUrl2, GotoFrame2, CatchTargetOf, Variable, Register, ActionOf, ActionsOf, CatchOf, no_catch, catch, FinallyOf, no_finally, finally}
use Rattle.layout.specs.Read.{Text, Place, placed, Read, got, bad, Reader, chain, repeat, has_catch, has_finally, has_register, is_shape, read_string, read_param, read_catch, read_finally}
use Rattle.layout.specs.Payload.{zero_ended, strings_bytes, pushes_bytes, opcode, payload, owner_op_code, params_bytes, owner_fields, owner_payload, branch_op_code, catch_shape, finally_shape, catch_name, try_payload, headed, framed}
use Rattle.layout.specs.Strings.{map_value, map_param, map_flat, map_owner, map_target, map_action, map_catch, map_finally}
use Rattle.layout.specs.Pack.{spelling}
use Rattle.layout.specs.Judge.{judged}
use Rattle.laws.proofs.ReadFits.{length_each}
use Rattle.labels.specs.Table.{record_at}
use Rattle.pcode.specs.declared.CatchTarget.{CatchTarget}
use Rattle.pcode.specs.declared.Action.{Action}
use Rattle.pcode.specs.declared.Action.TheVariants as code
use Rattle.pcode.specs.Shown.{span_of, Held, ShownTarget, nothing, variable, register, Shown, small, goto_frame, get_url, store_register, constant_pool, wait_for_frame, set_target, goto_label, wait_for_frame2, define_function2, try, with, push, jump, get_url2, define_function, if, goto_frame2}
use Rattle.editions.specs.Allowed.{read_by}
use Rattle.editions.specs.declared.MainBody.{MainBody}
use Rattle.positions.specs.declared.Spot.{Spot}
use Rattle.std.specs.Prelude as prelude
use Rattle.encode.specs.Heads.{head_bytes, head_of, CatchFrom, FinallyFrom, BodiesFrom, NotFar, Writable, WroteHead}
use Rattle.encode_values.specs.Pieces.{Piece, piece, action, written, next_of, string_bytes, param_bytes, value_bytes, joined, strings_at, values_at, Room, Put}
use Rattle.encode_values.specs.Pieces.{flat_piece}
use Rattle.encode_flat.specs.Branches.{table_bits}
use Rattle.encode_owners.specs.Payloads.{target_bytes, TargetWithin, function_payload, function2_payload, function, function2}

-- ---- lists

-- what a chain of two readings that gave a value is made of
parts : {A B : Type 0} (x : Read B) (k : B → Reader A) (a : A) (q : Place) → chain x k ≡ got a q → (y : B) × (r : Place) × (x ≡ got y r) × (k y r ≡ got a q)
parts (got y r) k a q e = (y, r, refl, e)
parts (bad f s) k a q e =
    let z : ◌≡◌ {A = ℕ} 0 1 = cc in
    absurd (omega arith)

-- as many elements as were counted
count_is : {A : Type 0} (read : Reader A) (n : ℕ) (p q : Place) (xs : List A) → repeat read n p ≡ got xs q → length xs ≡ n
unfolding repeat
count_is read zero p q xs e =
    let f : [] ≡ xs = cc in
    sym (ap length f)
count_is {A} read (suc n) p q xs e =
    let c = parts (read p) (λ a r. chain (repeat read n r) (λ ys s. got (a ∷ ys) s)) xs q e in
    let d = parts (repeat read n c.1) (λ ys s. got (c.0 ∷ ys) s) xs q c.3 in
    let f : c.0 ∷ d.0 ≡ xs = cc d.3 in
    sym (ap length f) ∙ ap suc (count_is read n c.1 d.1 d.0 d.2)

-- the elements' bytes are those of the definitions
strings_joined : (xs : List Text) → joined string_bytes xs ≡ strings_bytes (each spelling xs)
unfolding joined string_bytes strings_bytes each
strings_joined [] = refl
strings_joined (x ∷ xs) = ap (λ (s : List ℕ). zero_ended (spelling x) ++ s) (strings_joined xs)

-- the same of parameters
params_joined : (xs : List (FunctionParamOf Text)) → joined param_bytes xs ≡ params_bytes (each (map_param spelling) xs)
unfolding joined param_bytes params_bytes each map_param
params_joined [] = refl
params_joined (function_param r x ∷ xs) = ap (λ (s : List ℕ). r ∷ (zero_ended (spelling x) ++ s)) (params_joined xs)

-- and of push values
values_joined : (xs : List (PushValueOf Text)) → joined value_bytes xs ≡ pushes_bytes (each (map_value spelling) xs)
unfolding joined value_bytes pushes_bytes each
values_joined [] = refl
values_joined (x ∷ xs) = ap (λ (s : List ℕ). value_bytes x ++ s) (values_joined xs)

-- ---- a Try

-- what the bits of a shape say
shape_bits : (shape : ℕ) → is_shape shape ≡ true → (shape < 8) × (has_catch shape ≡ false → has_register shape ≡ false)
unfolding is_shape
shape_bits shape e = go (ltb shape 8) (has_register shape) (has_catch shape) refl e
  where
    go : (t u v : Bool) → ltb shape 8 ≡ t → (t && (not u || v)) ≡ true → (shape < 8) × (v ≡ false → u ≡ false)
    go true false v h k = (ltb-true shape 8 h, λ m. refl)
    go true true v h k = (ltb-true shape 8 h, λ m. sym k ∙ m)
    go false u v h k =
        let z : ◌≡◌ {A = ℕ} 0 1 = cc in
        absurd (omega arith)

-- its three bits make it up
shape_sum : (shape : ℕ) → shape < 8 → shape ≡ shape % 2 + 4 * (shape / 4 % 2) + 2 * (shape / 2 % 2)
shape_sum shape h =
    let e : shape / 4 ≡ shape / 2 / 2 = omega arith in
    let f : shape / 4 % 2 ≡ shape / 4 = omega arith in
    let g : shape / 2 ≡ 2 * (shape / 2 / 2) + shape / 2 % 2 = omega arith in
    omega arith

-- the bits for a catch and for a register
catch_bit : (shape : ℕ) (t : Bool) → has_catch shape ≡ t → shape % 2 ≡ bit t
unfolding has_catch bit
catch_bit shape true h = eqb-true (shape % 2) 1 h
catch_bit shape false h = omega (arith, eqb-false (shape % 2) 1 h)

register_bit : (shape : ℕ) (t : Bool) → has_register shape ≡ t → shape / 4 % 2 ≡ bit t
unfolding has_register bit
register_bit shape true h = eqb-true (shape / 4 % 2) 1 h
register_bit shape false h = omega (arith, eqb-false (shape / 4 % 2) 1 h)

module _ (m : MainBody) (inner : Reader (ActionsOf Text ℕ)) where
  -- a catch that was read, and none
  caught : (x : CatchTargetOf Text) (r s : Place) (c : CatchOf Text ℕ) → read_catch (read_by m) m.b.now inner true x r ≡ got c s → (a : ActionsOf Text ℕ) × (inner r ≡ got a s) × (c ≡ catch x a)
  unfolding read_catch
  caught x r s c e =
      let d = parts (inner r) (λ a q. got (catch x a) q) c s e in
      let f : c ≡ catch x d.0 = cc d.3 in
      let g : d.1 ≡ s = cc d.3 in
      (d.0, rw g at d.2, f)

  -- and none
  uncaught : (x : CatchTargetOf Text) (r s : Place) (c : CatchOf Text ℕ) → read_catch (read_by m) m.b.now inner false x r ≡ got c s → (s ≡ r) × (c ≡ no_catch)
  unfolding read_catch
  uncaught x r s c e = (cc, cc)

  -- the catch's body, its name and its bits
  catch_shown : {shape : ℕ} {t : prelude.Option CatchTarget} {x : CatchTargetOf Text} (r s : Place) (c : CatchOf Text ℕ) → is_shape shape ≡ true → ShownTarget m shape t x
      → read_catch (read_by m) m.b.now inner (has_catch shape) x r ≡ got c s
      → CatchFrom inner r c s × (catch_name (map_catch spelling c) ≡ target_bytes m t) × (catch_shape (map_catch spelling c) ≡ shape % 2 + 4 * (shape / 4 % 2))
  unfolding catch_name catch_shape map_catch map_target target_bytes bit
  catch_shown {shape} r s c i (nothing {t} h) g =
      let k = uncaught t r s c (rw h at g) in
      let o = catch_bit shape false h in
      let n = register_bit shape false ((shape_bits shape i).1 h) in
      rw k.1 (k.0, refl, omega arith)
  catch_shown {shape} r s c i (variable {t = t} h j l) g =
      let k = caught (Variable t) r s c (rw h at g) in
      let o = catch_bit shape true h in
      let n = register_bit shape false j in
      rw k.2 (k.1, ap (λ (x : List ℕ). zero_ended x) l.is, omega arith)
  catch_shown {shape} r s c i (register {r = p} h j) g =
      let k = caught (Register p) r s c (rw h at g) in
      let o = catch_bit shape true h in
      let n = register_bit shape true j in
      rw k.2 (k.1, refl, omega arith)

  -- the finally's body and its bit
  finally_shown : (shape : ℕ) (s q : Place) (f : FinallyOf Text ℕ) → read_finally (read_by m) m.b.now inner (has_finally shape) s ≡ got f q
      → FinallyFrom inner s f q × (finally_shape (map_finally spelling f) ≡ 2 * (shape / 2 % 2))
  unfolding has_finally read_finally finally_shape map_finally
  finally_shown shape s q f e = go (eqb (shape / 2 % 2) 1) refl e
    where
      go : (t : Bool) → eqb (shape / 2 % 2) 1 ≡ t → read_finally (read_by m) m.b.now inner t s ≡ got f q → FinallyFrom inner s f q × (finally_shape (map_finally spelling f) ≡ 2 * (shape / 2 % 2))
      go true h e =
          let d = parts (inner s) (λ a q. got (finally a) q) f q e in
          let g : f ≡ finally d.0 = cc d.3 in
          let i : d.1 ≡ q = cc d.3 in
          rw g (rw i at d.2, omega (arith, eqb-true (shape / 2 % 2) 1 h))
      go false h e =
          let g : f ≡ no_finally = cc in
          let i : q ≡ s = cc in
          rw g (i, omega (arith, eqb-false (shape / 2 % 2) 1 h))

-- ---- the cases

module _ (m : MainBody) (tab : List ℕ) (at pos : ℕ) where
  -- what the code writes for a case, and where it reads on
  abbrev coded : Action → Piece
  coded (code.Small n) = piece (headed (ltb n 128) n []) (at + 1)
  coded (code.GotoFrame n) = action 0x81 (le16 n) (at + 1 + 2)
  coded (code.GetUrl u t) = flat_piece (GetUrl (span_of m u) (span_of m t)) t.next
  coded (code.StoreRegister r) = action 0x87 (r ∷ []) (at + 1 + 1)
  coded (code.ConstantPool n i) = written (λ q. headed false 0x88 (le16 n ++ q)) (strings_at m n i)
  coded (code.WaitForFrame n k) = flat_piece (WaitForFrame n k) (at + 1 + 3)
  coded (code.SetTarget s) = action 0x8B (zero_ended (span_of m s)) s.next
  coded (code.GotoLabel s) = action 0x8C (zero_ended (span_of m s)) s.next
  coded (code.WaitForFrame2 k) = action 0x8D (k ∷ []) (at + 1 + 1)
  coded (code.DefineFunction2 f) = function2 m f
  coded (code.Try shape t i) = action 0x8F (try_payload shape 0 0 0 (target_bytes m t)) i
  coded (code.With i) = action 0x94 (le16 0) i
  coded (code.Push n i) = written (λ q. headed false 0x96 q) (values_at m n i)
  coded (code.Jump l) = action 0x99 (le16 (table_bits tab l (pos + 5))) (at + 1 + 2)
  coded (code.GetUrl2 v t n) = flat_piece (GetUrl2 (eqb v 1) (eqb t 1) n) (at + 1 + 3)
  coded (code.DefineFunction f) = function m f
  coded (code.If l) = action 0x9D (le16 (table_bits tab l (pos + 5))) (at + 1 + 2)
  coded (code.GotoFrame2 n k) = flat_piece (GotoFrame2 n (eqb k 1)) (at + 1 + 3)

  -- a branch to label l has a slot, and does not go too far
  abbrev Reaches : ℕ → Type 0
  Reaches l = (l < length tab) × (judged (record_at tab l) (pos + 5) 0 ≡ none)

  -- what is asked of a case besides the room
  abbrev Within : Action → Type 0
  Within (code.Small n) = Unit {0}
  Within (code.GotoFrame n) = Unit {0}
  Within (code.GetUrl u t) = Held m u × Held m t
  Within (code.StoreRegister r) = Unit {0}
  Within (code.ConstantPool n i) = Unit {0}
  Within (code.WaitForFrame n k) = Unit {0}
  Within (code.SetTarget s) = Held m s
  Within (code.GotoLabel s) = Held m s
  Within (code.WaitForFrame2 k) = Unit {0}
  Within (code.DefineFunction2 f) = Held m f.name × (next_of (function2 m f) ≤ length m.b.now)
  Within (code.Try shape t i) = TargetWithin m t
  Within (code.With i) = Unit {0}
  Within (code.Push n i) = Unit {0}
  Within (code.Jump l) = Reaches l
  Within (code.GetUrl2 v t n) = (v < 2) × (t < 2)
  Within (code.DefineFunction f) = Held m f.name
  Within (code.If l) = Reaches l
  Within (code.GotoFrame2 n k) = k < 2

  -- it holds of a case that shows an action
  is_within : {inner : Reader (ActionsOf Text ℕ)} {a : Action} {x : ActionOf Text ℕ} {q : Place} → Shown m inner (at + 1) a x q → m.terms.label_bound ≤ length tab → NotFar tab x pos → Within a
  unfolding TargetWithin
  is_within (small e) k n = tt
  is_within goto_frame k n = tt
  is_within (get_url h i) k n = (h.within, i.within)
  is_within store_register k n = tt
  is_within (constant_pool e) k n = tt
  is_within wait_for_frame k n = tt
  is_within (set_target h) k n = h.within
  is_within (goto_label h) k n = h.within
  is_within wait_for_frame2 k n = tt
  is_within (define_function2 h g i j f) k n = (h.within, rw g i)
  is_within (try i (nothing h) e f g) k n = tt
  is_within (try i (variable h j l) e f g) k n = l.within
  is_within (try i (register h j) e f g) k n = tt
  is_within (with e) k n = tt
  is_within (push e) k n = tt
  is_within (jump h) k n = (omega arith, n)
  is_within (get_url2 h i) k n = (h, i)
  is_within (define_function h g f) k n = h.within
  is_within (if h) k n = (omega arith, n)
  is_within (goto_frame2 h) k n = h

  -- a case is written as the action that it shows, and reads on where that action's bodies stand
  abbrev Heads : Reader (ActionsOf Text ℕ) → Action → ActionOf Text ℕ → Place → Type 0
  Heads inner a x q = (n : ℕ) × (coded a ≡ got (head_of tab x pos) (placed n)) × BodiesFrom inner n x q

  -- it holds of a case that shows an action
  is_head : {inner : Reader (ActionsOf Text ℕ)} {a : Action} {x : ActionOf Text ℕ} {q : Place} → Shown m inner (at + 1) a x q → Heads inner a x q
  unfolding head_of head_bytes map_action map_flat map_owner opcode payload framed byte branch_op_code owner_op_code owner_fields owner_payload function_payload function2_payload
  is_head (small g) = (at + 1, ap (λ (k : ℕ). piece (headed (ltb k 128) k []) (at + 1)) (sym g), refl)
  is_head goto_frame = (at + 1 + 2, refl, refl)
  is_head (get_url {t = t} h i) = (t.next, rw (h.is, i.is), refl)
  is_head store_register = (at + 1 + 1, refl, refl)
  is_head (constant_pool {n} {i} {xs} {q} g) =
      (q.at, rw (g, strings_joined xs, length_each spelling xs, count_is (read_string (read_by m) m.b.now) n (placed i) q xs g), refl)
  is_head wait_for_frame = (at + 1 + 3, refl, refl)
  is_head (set_target {s} h) = (s.next, rw h.is, refl)
  is_head (goto_label {s} h) = (s.next, rw h.is, refl)
  is_head wait_for_frame2 = (at + 1 + 1, refl, refl)
  is_head (define_function2 {f} {ps = ps} {r = r} h d i j g) =
      (r.at + 3, rw (d, params_joined ps, length_each (map_param spelling) ps, count_is (read_param (read_by m) m.b.now) f.count (placed f.at) r ps d, h.is), g)
  is_head {inner} (try {shape} {i} {t} {c = c} {f = f} {r = r} {s = s} {q = q} h target d g k) =
      let l = catch_shown m inner r s c h target g in
      let o = finally_shown m inner shape s q f k in
      let n : shape ≡ catch_shape (map_catch spelling c) + finally_shape (map_finally spelling f) = shape_sum shape (shape_bits shape h).0 ∙ ap₂ (λ (i j : ℕ). i + j) (sym l.2) (sym o.1) in
      (i, rw (← n, l.1), (r, s, d, l.0, o.0))
  is_head (with {i} g) = (i, refl, g)
  is_head (push {n} {i} {xs} {q} g) = (q.at, rw (g, values_joined xs), refl)
  is_head (jump h) = (at + 1 + 2, refl, refl)
  is_head (get_url2 h i) = (at + 1 + 3, refl, refl)
  is_head (define_function {f} {ps = ps} {r = r} h d g) =
      (r.at, rw (d, strings_joined ps, length_each spelling ps, count_is (read_string (read_by m) m.b.now) f.count (placed f.at) r ps d, h.is), g)
  is_head (if h) = (at + 1 + 2, refl, refl)
  is_head (goto_frame2 h) = (at + 1 + 3, refl, refl)

  module _ {a a' : Action} {out : List ℕ} where
    -- what a case asks, where the action may be written
    pub case_room : Writable m at a pos tab out → a ≡ a' → Within a' × Room (coded a') pos out
    case_room w g =
        let h = is_head w.shown in
        let r : Room (coded a) pos out = rw h.1 (record { known = tt; room = w.room; sums = w.sums }) in
        (rw g at (is_within w.shown w.slots w.near), rw g at r)

    -- what it leaves
    pub case_put : {out' : List ℕ} {r : Spot} → a ≡ a' → Put (coded a') pos out out' r → WroteHead m at a pos tab out out' r
    case_put {out'} {r} d p = record { wrote = λ inner x q s. go inner x q (is_head s) (rw (← d) at p) }
      where
        go : (inner : Reader (ActionsOf Text ℕ)) (x : ActionOf Text ℕ) (q : Place) → Heads inner a x q → Put (coded a) pos out out' r
            → (out' ≡ sets out pos (head_of tab x pos)) × (r.pos.0 ≡ pos + length (head_of tab x pos)) × BodiesFrom inner r.at x q
        go inner x q (n, f, g) p = (rw f at p.wrote, rw f at p.end, rw (rw f at p.next) g)
