-- Actions: what the code takes for each opcode shows what the definitions read. Assumes nothing.
use mathlib.Core.Path.{◌≡◌, refl, sym, ap, ◌∙◌}
use Prim.Native.Nat.{ℕ, ◌+◌, ◌≤◌, ◌<◌}
use native.Mathlib.Omega.{arith}
use mathlib.Core.Bool.{Bool, true, false, ◌&&◌}
use mathlib.Core.Option.{Option, none, some}
use mathlib.Core.List.{List, [], ◌∷◌}
use lib.ListN.{length, get_or}
use lib.Dec.{ltb, leb}
use borrow.Author.Tests.{ltb-true}
use Rattle.layout.specs.Lists.{first_with, pick, each}
use Rattle.layout.proofs.Lists.{first_with_lem}
use Rattle.layout.specs.Numbers.{u16_at}
use Rattle.layout.specs.OpCode.{OpCode, SmallOpCode, small_byte, byte, small_op_codes, opcodes, opcode_of}
use Rattle.layout.specs.Tree.{ActionOf, ActionsOf, body_count, catch_count}
use Rattle.layout.specs.Read.{Text, Terms, Place, placed, Reader, is_shape, has_catch, has_register, has_finally, read_u8, read_u16, read_string, read_param, read_value, read_label, read_catch_target, read_catch, read_finally, read_try, read_fields, read_fields_if, read_action}
use Rattle.editions.specs.Allowed.{read_by}
use Rattle.editions.specs.declared.MainBody.{MainBody}
use Rattle.pcode.specs.declared.Action.{Action}
use Rattle.pcode.specs.declared.Action.TheVariants as code
use Rattle.pcode.specs.Shown.{span_at, function_at, catch_at, after_catch, after_try, try_at, action_at, ShownTarget, nothing, variable, register, Shown, small, goto_frame, get_url, store_register, constant_pool, wait_for_frame, set_target, goto_label, wait_for_frame2, define_function2, try, with, push, jump, get_url2, define_function, if, goto_frame2, ActionReads, TakesAction}
use Rattle.pcode.proofs.Arms.{Found, found, found_once, NoneOf, is_one, barred}
use Rattle.pcode.proofs.Readings.{Gives, gives, refuses, Exactly, given, next, next_text, then, itself, anyway, weaker, first, u8, u16, passed, flag, counted, string, also_behind}

-- places, one after the other
two : (p : ℕ) → p + 1 + 1 ≡ p + 2
two p = omega arith

three : (p : ℕ) → p + 2 + 1 ≡ p + 3
three p = omega arith

three' : (p : ℕ) → p + 1 + 2 ≡ p + 3
three' p = omega arith

module _ (m : MainBody) where
  -- the place behind the bytes that the code looks at for an opcode
  abbrev pub taken : OpCode → ℕ → ℕ
  taken (OpCode.Small op) p = p
  taken OpCode.GotoFrame p = p + 2
  taken OpCode.GetUrl p = (span_at m (span_at m p).next).next
  taken OpCode.StoreRegister p = p + 1
  taken OpCode.ConstantPool p = p + 2
  taken OpCode.WaitForFrame p = p + 3
  taken OpCode.SetTarget p = (span_at m p).next
  taken OpCode.GotoLabel p = (span_at m p).next
  taken OpCode.WaitForFrame2 p = p + 1
  taken OpCode.DefineFunction2 p = (function_at m p).at
  taken OpCode.Try p = after_try m p
  taken OpCode.With p = p
  taken OpCode.Push p = p + 2
  taken OpCode.Jump p = p + 2
  taken OpCode.GetUrl2 p = p + 3
  taken OpCode.DefineFunction p = (function_at m p).at
  taken OpCode.If p = p + 2
  taken OpCode.GotoFrame2 p = p + 3

module _ (m : MainBody) (p : ℕ) (l : p ≤ length m.b.now) where
  -- the target that the code takes for a shape's bits shows the one that the definitions read
  target_shown : (shape : ℕ) (c r : Bool) → has_catch shape ≡ c → has_register shape ≡ r
      → Gives (λ x q. ShownTarget m shape (catch_at m c r p) x × (q ≡ placed (after_catch m c r p)) × (after_catch m c r p ≤ length m.b.now)) (read_catch_target (read_by m) m.b.now c r (placed p))
  unfolding read_catch_target
  target_shown shape true true g f = next _ (u8 m.b.now p) (λ h. gives (register g f, refl, h))
  target_shown shape true false g f = next_text _ (string m p) (λ x h. gives (variable g f h, refl, h.ends))
  target_shown shape false r g f = gives (nothing g, refl, l)

-- the first of two tests that pass
and_left : (s t : Bool) → (s && t) ≡ true → s ≡ true
and_left true t e = refl
and_left false t e = e

module _ (m : MainBody) (inner : Reader (ActionsOf Text ℕ)) (p : ℕ) (l : p ≤ length m.b.now) where
  -- r shows the action and the place behind it, and what is taken ends within the bytes
  abbrev Taken : Action → ℕ → ActionOf Text ℕ → Place → Type 0
  Taken r end a q = Shown m inner p r a q × (end ≤ length m.b.now)

  -- a label number
  label : Gives (Exactly ((p + 2 ≤ length m.b.now) × (u16_at m.b.now p < m.terms.label_bound)) (u16_at m.b.now p) (placed (p + 2))) (read_label (read_by m) m.b.now 0 (placed p))
  unfolding read_label
  label = weaker (passed m.b.now p (λ n. ltb n m.terms.label_bound && leb 0 n) (read_u16 m.b.now) (u16 m.b.now p)) (λ h. (h.0, ltb-true _ _ (and_left _ _ h.1)))

  -- a Try, whose shape was read
  try_shown : (shape : ℕ) → get_or m.b.now p 0 ≡ shape → p + 1 ≤ length m.b.now → is_shape shape ≡ true
      → Gives (Taken (try_at m p) (taken m OpCode.Try p)) (read_try (read_by m) m.b.now inner shape (placed (p + 1)))
  unfolding read_try
  try_shown shape s k g =
      then (target_shown m (p + 1) k shape (has_catch shape) (has_register shape) refl refl)
      (λ x q h. then (itself (inner q)) (λ a r i. then (also_behind (body_count a) (itself (read_catch (read_by m) m.b.now inner (has_catch shape) x r)))
      (λ c o j. then (also_behind (body_count a + catch_count c) (itself (read_finally (read_by m) m.b.now inner (has_finally shape) o)))
      (λ f u k. gives (rw s (try g h.0 (ap inner (sym h.1) ∙ i) j k, h.2))))))

  -- what the code takes for an opcode shows the action that the definitions read
  fields_shown : (op : OpCode) → Gives (Taken (action_at m op p) (taken m op p)) (read_fields (read_by m) m.b.now inner op (placed p))
  unfolding read_fields
  fields_shown (OpCode.Small op) = gives (small refl, l)
  fields_shown OpCode.GotoFrame = next _ (u16 m.b.now p) (λ h. gives (goto_frame, h))
  fields_shown OpCode.GetUrl = next_text _ (string m p) (λ x h. next_text _ (string m (span_at m p).next) (λ y i. gives (get_url h i, i.ends)))
  fields_shown OpCode.StoreRegister = next _ (u8 m.b.now p) (λ h. gives (store_register, h))
  fields_shown OpCode.ConstantPool = then (counted m.b.now p (read_string (read_by m) m.b.now)) (λ xs q h. gives (constant_pool h.1, h.0))
  fields_shown OpCode.WaitForFrame = next _ (u16 m.b.now p) (λ h. next _ (u8 m.b.now (p + 2)) (λ i. gives (rw (three p) (wait_for_frame, omega arith))))
  fields_shown OpCode.SetTarget = next_text _ (string m p) (λ x h. gives (set_target h, h.ends))
  fields_shown OpCode.GotoLabel = next_text _ (string m p) (λ x h. gives (goto_label h, h.ends))
  fields_shown OpCode.WaitForFrame2 = next _ (u8 m.b.now p) (λ h. gives (wait_for_frame2, h))
  fields_shown OpCode.DefineFunction2 =
      next_text _ (string m p) (λ x h. then (counted m.b.now (span_at m p).next (read_param (read_by m) m.b.now)) (λ ps r i. next _ (u8 m.b.now r.at)
      (λ o. next _ (passed m.b.now (r.at + 1) (λ f. ltb f 512) (read_u16 m.b.now) (u16 m.b.now (r.at + 1))) (λ j. then (itself (inner (placed (r.at + 1 + 2))))
      (λ a q g. gives (define_function2 h i.1 (omega (arith, j.0)) (ltb-true _ _ j.1) (rw (three' r.at) at g), i.0))))))
  fields_shown OpCode.Try = next _ (passed m.b.now p is_shape (read_u8 m.b.now) (u8 m.b.now p)) (λ h. try_shown (get_or m.b.now p 0) refl h.0 h.1)
  fields_shown OpCode.With = then (itself (inner (placed p))) (λ x q e. gives (with e, l))
  fields_shown OpCode.Push = then (counted m.b.now p (read_value (read_by m) m.b.now)) (λ xs q h. gives (push h.1, h.0))
  fields_shown OpCode.Jump = next _ label (λ h. gives (jump h.1, h.0))
  fields_shown OpCode.GetUrl2 =
      next _ (flag m.b.now p) (λ h. next _ (flag m.b.now (p + 1)) (λ i. next _ (u8 m.b.now (p + 1 + 1)) (λ j. gives (rw (two p, three p) (get_url2 h.1 i.1, omega arith)))))
  fields_shown OpCode.DefineFunction =
      next_text _ (string m p) (λ x h. then (counted m.b.now (span_at m p).next (read_string (read_by m) m.b.now)) (λ ps r i. then (itself (inner r))
      (λ a q g. gives (define_function h i.1 g, i.0))))
  fields_shown OpCode.If = next _ label (λ h. gives (if h.1, h.0))
  fields_shown OpCode.GotoFrame2 = next _ (u16 m.b.now p) (λ h. next _ (flag m.b.now (p + 2)) (λ i. gives (rw (three p) (goto_frame2 i.1, omega (arith, i.0)))))

-- ---- by the opcode's byte

-- the opcodes with fields, each by its byte, as a match on the byte has them
pub data Arm : ℕ → OpCode → Type 0 where
  is_goto_frame : Arm 0x81 OpCode.GotoFrame
  is_get_url : Arm 0x83 OpCode.GetUrl
  is_store_register : Arm 0x87 OpCode.StoreRegister
  is_constant_pool : Arm 0x88 OpCode.ConstantPool
  is_wait_for_frame : Arm 0x8A OpCode.WaitForFrame
  is_set_target : Arm 0x8B OpCode.SetTarget
  is_goto_label : Arm 0x8C OpCode.GotoLabel
  is_wait_for_frame2 : Arm 0x8D OpCode.WaitForFrame2
  is_define_function2 : Arm 0x8E OpCode.DefineFunction2
  is_try : Arm 0x8F OpCode.Try
  is_with : Arm 0x94 OpCode.With
  is_push : Arm 0x96 OpCode.Push
  is_jump : Arm 0x99 OpCode.Jump
  is_get_url2 : Arm 0x9A OpCode.GetUrl2
  is_define_function : Arm 0x9B OpCode.DefineFunction
  is_if : Arm 0x9D OpCode.If
  is_goto_frame2 : Arm 0x9F OpCode.GotoFrame2

-- each byte stands for its opcode
arm_listed : {n : ℕ} {op : OpCode} → Arm n op → opcode_of n ≡ some op
unfolding opcode_of opcodes small_op_codes byte small_byte first_with each pick
arm_listed is_goto_frame = refl
arm_listed is_get_url = refl
arm_listed is_store_register = refl
arm_listed is_constant_pool = refl
arm_listed is_wait_for_frame = refl
arm_listed is_set_target = refl
arm_listed is_goto_label = refl
arm_listed is_wait_for_frame2 = refl
arm_listed is_define_function2 = refl
arm_listed is_try = refl
arm_listed is_with = refl
arm_listed is_push = refl
arm_listed is_jump = refl
arm_listed is_get_url2 = refl
arm_listed is_define_function = refl
arm_listed is_if = refl
arm_listed is_goto_frame2 = refl

-- the same by the byte that stands at p
action_taken : (m : MainBody) (p : ℕ) {n : ℕ} {op : OpCode} → Arm n op → get_or m.b.now p 0 ≡ n → (inner : Reader (ActionsOf Text ℕ))
    → Gives (λ a q. Shown m inner (p + 1) (action_at m op (p + 1)) a q × (taken m op (p + 1) ≤ length m.b.now)) (read_action (read_by m) m.b.now inner (placed p))
unfolding read_action read_fields_if
action_taken m p {op = op} arm h inner = next _ (u8 m.b.now p) (λ l. rw (h, arm_listed arm) (fields_shown m inner (p + 1) l op))

module _ {m : MainBody} {p n : ℕ} {op : OpCode} where
  pub action_shown : Arm n op → get_or m.b.now p 0 ≡ n → TakesAction m p (action_at m op (p + 1))
  action_shown arm h = record {
    is = λ o g. ap (λ x. action_at m x (p + 1)) (found_once (ap opcode_of h ∙ arm_listed arm) g);
    shows = record { shows = λ inner a q r. (given (action_taken m p arm h inner) r).0 };
  }

  -- what it takes lies within the main body
  pub action_room : Arm n op → get_or m.b.now p 0 ≡ n → ActionReads m p → taken m op (p + 1) ≤ length m.b.now
  action_room arm h reads = (given (action_taken m p arm h reads.inner) reads.reads).1

-- there is an opcode at p
pub opcode_room : {m : MainBody} {p : ℕ} → ActionReads m p → p + 1 ≤ length m.b.now
unfolding read_action
opcode_room {m} {p} reads = given (first _ (u8 m.b.now p)) reads.reads

-- it is listed
opcode_if : (terms : Terms) (b : List ℕ) (inner : Reader (ActionsOf Text ℕ)) (o : Option OpCode) (q r : Place)
    → Gives (λ a s. Found o) (read_fields_if terms b inner o q r)
unfolding read_fields_if
opcode_if terms b inner (some op) q r = anyway _ (found op refl)
opcode_if terms b inner none q r = refuses

-- so there is just one result that shows the action at p
pub same_action : {m : MainBody} {p : ℕ} {r s : Action} → ActionReads m p → TakesAction m p r → TakesAction m p s → r ≡ s
unfolding read_action
same_action {m} {p} {r} {s} reads h j =
    go (given (next _ (u8 m.b.now p) (λ l. opcode_if (read_by m) m.b.now reads.inner (opcode_of (get_or m.b.now p 0)) _ _)) reads.reads)
  where
    go : Found (opcode_of (get_or m.b.now p 0)) → r ≡ s
    go (found op g) = h.is op g ∙ sym (j.is op g)

-- ---- every other opcode

-- the bytes of the opcodes with fields, the last first
abbrev pub field_bytes : List ℕ
field_bytes = 0x9F ∷ 0x9D ∷ 0x9B ∷ 0x9A ∷ 0x99 ∷ 0x96 ∷ 0x94 ∷ 0x8F ∷ 0x8E ∷ 0x8D ∷ 0x8C ∷ 0x8B ∷ 0x8A ∷ 0x88 ∷ 0x87 ∷ 0x83 ∷ 0x81 ∷ []

-- an opcode of byte n that has no fields
data IsSmall (n : ℕ) : OpCode → Type 0 where
  is_small : {op : SmallOpCode} → small_byte op ≡ n → IsSmall n (OpCode.Small op)

-- every opcode whose byte is none of these is such
small_byte_lem : {n : ℕ} → NoneOf field_bytes n → (op : OpCode) → byte op ≡ n → IsSmall n op
unfolding byte is_one pick
small_byte_lem h (OpCode.Small op) e = is_small e
small_byte_lem h OpCode.GotoFrame e = absurd (barred field_bytes h e refl)
small_byte_lem h OpCode.GetUrl e = absurd (barred field_bytes h e refl)
small_byte_lem h OpCode.StoreRegister e = absurd (barred field_bytes h e refl)
small_byte_lem h OpCode.ConstantPool e = absurd (barred field_bytes h e refl)
small_byte_lem h OpCode.WaitForFrame e = absurd (barred field_bytes h e refl)
small_byte_lem h OpCode.SetTarget e = absurd (barred field_bytes h e refl)
small_byte_lem h OpCode.GotoLabel e = absurd (barred field_bytes h e refl)
small_byte_lem h OpCode.WaitForFrame2 e = absurd (barred field_bytes h e refl)
small_byte_lem h OpCode.DefineFunction2 e = absurd (barred field_bytes h e refl)
small_byte_lem h OpCode.Try e = absurd (barred field_bytes h e refl)
small_byte_lem h OpCode.With e = absurd (barred field_bytes h e refl)
small_byte_lem h OpCode.Push e = absurd (barred field_bytes h e refl)
small_byte_lem h OpCode.Jump e = absurd (barred field_bytes h e refl)
small_byte_lem h OpCode.GetUrl2 e = absurd (barred field_bytes h e refl)
small_byte_lem h OpCode.DefineFunction e = absurd (barred field_bytes h e refl)
small_byte_lem h OpCode.If e = absurd (barred field_bytes h e refl)
small_byte_lem h OpCode.GotoFrame2 e = absurd (barred field_bytes h e refl)

small_op : {n : ℕ} → NoneOf field_bytes n → (op : OpCode) → opcode_of n ≡ some op → IsSmall n op
small_op {n} h op e = small_byte_lem h op (unfold opcode_of in first_with_lem byte n opcodes op e)

-- it is all that the code takes
small_is : (m : MainBody) (p : ℕ) {n : ℕ} {op : OpCode} → IsSmall n op → code.Small n ≡ action_at m op p
small_is m p (is_small g) = ap (λ n. code.Small n) (sym g)

small_shown : (m : MainBody) (inner : Reader (ActionsOf Text ℕ)) (p n : ℕ) (o : Option OpCode) (q : Place) → ((op : OpCode) → o ≡ some op → IsSmall n op)
    → Gives (Shown m inner p (code.Small n)) (read_fields_if (read_by m) m.b.now inner o q (placed p))
unfolding read_fields_if read_fields
small_shown m inner p n (some op) q h = go (h op refl)
  where
    go : {o : OpCode} → IsSmall n o → Gives (Shown m inner p (code.Small n)) (read_fields (read_by m) m.b.now inner o (placed p))
    go (is_small s) = gives (small s)
small_shown m inner p n none q h = refuses

-- the same by the byte that stands at p
pub other_shown : {m : MainBody} {p : ℕ} → NoneOf field_bytes (get_or m.b.now p 0) → TakesAction m p (code.Small (get_or m.b.now p 0))
unfolding read_action
other_shown {m} {p} h = record {
  is = λ op g. small_is m (p + 1) (small_op h op g);
  shows = record { shows = λ inner a q r. given (next _ (u8 m.b.now p) (λ l. small_shown m inner (p + 1) (get_or m.b.now p 0) (opcode_of (get_or m.b.now p 0)) _ (small_op h))) r };
}
