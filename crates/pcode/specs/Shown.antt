-- What the code's cases show of the action and the push value that the definitions read at a place of a main body. Assumes nothing.
use Rattle.std.specs.Prelude.{◌≡◌, ℕ, ◌+◌, ◌≤◌, ◌<◌, Bool, true, false, cond, List, length, get_or, eqb, Option, Some, None}
use Rattle.std.proofs.Math.Option.{some}
use Rattle.layout.specs.Numbers.{u16_at, u32_at, u64_at}
use Rattle.layout.specs.OpCode.{OpCode, SmallOpCode, small_byte, opcode_of}
use Rattle.layout.specs.PushKind.{PushKind, kind_of}
use Rattle.layout.specs.Tree.{PushValueOf, String, Null, Undefined, Register, Boolean, Float, Integer, Constant, FunctionParamOf, Small, GotoFrame, GetUrl, StoreRegister, ConstantPool, WaitForFrame, SetTarget, GotoLabel, WaitForFrame2, Push, GetUrl2, GotoFrame2, With, DefineFunction, DefineFunction2, Jump, If, CatchTargetOf, Variable, ActionOf, flat, branch, owner, Try, ActionsOf, CatchOf, FinallyOf}
use Rattle.layout.specs.Read.{Text, Place, placed, got, Reader, repeat, has_catch, has_finally, has_register, is_shape, read_string, read_value, read_param, read_catch, read_finally, read_action}
use Rattle.layout.specs.Pack.{spelling}
use Rattle.fields.specs.Runs.{part}
use Rattle.editions.specs.Allowed.{read_by}
use Rattle.editions.specs.declared.MainBody.{MainBody}
use Rattle.words.specs.declared.Word.{Word}
use Rattle.words.specs.Found.{found_at}
use Rattle.pcode.specs.declared.Span.{Span}
use Rattle.pcode.specs.declared.CatchTarget.{CatchTarget}
use Rattle.pcode.specs.declared.CatchTarget.TheVariants as target
use Rattle.pcode.specs.declared.PushValue.{PushValue}
use Rattle.pcode.specs.declared.PushValue.TheVariants as value
use Rattle.pcode.specs.declared.PushAt.{PushAt}
use Rattle.pcode.specs.declared.Function.{Function}
use Rattle.pcode.specs.declared.Action.{Action}
use Rattle.pcode.specs.declared.Action.TheVariants as code

-- ---- strings and functions

-- a span lies within the bytes that it is a part of: those of the main body, or of the words
abbrev pub Held : MainBody → Span → Type 0
Held m s = s.at + s.len ≤ length (cond s.from_book m.words.now m.b.now)

-- its bytes
abbrev pub span_of : MainBody → Span → List ℕ
span_of m s = part (cond s.from_book m.words.now m.b.now) s.at s.len

-- a word that is found, for a string that ends at q
abbrev pub book_span : Word → ℕ → Span
book_span w q = record { from_book = true; at = w.at; len = w.len; next = q }

-- the n bytes at p
abbrev pub plain_span : ℕ → ℕ → Span
plain_span p n = record { from_book = false; at = p; len = n; next = p + n }

module _ (m : MainBody) where
  -- a string's span behind its length n, where there may be so many words: behind the length 65,535 a word's number stands at p, and
  -- else so many bytes
  abbrev pub span_behind : Option ℕ → Bool → ℕ → ℕ → Span
  span_behind (Some count) true p n = book_span (found_at m.words.now m.index.now count (u16_at m.b.now p)) (p + 2)
  span_behind (Some count) false p n = plain_span p n
  span_behind None word p n = plain_span p n

  -- the string at p: a word, by its number behind the length 65,535, or the bytes behind its length
  unfoldable pub span_at : ℕ → Span
  span_at p = span_behind m.terms.word_count (eqb (u16_at m.b.now p) 65535) (p + 2) (u16_at m.b.now p)

  -- a name at p, the count of parameters behind it, and the first one's place
  abbrev pub function_at : ℕ → Function
  function_at p = record { name = span_at p; count = u16_at m.b.now (span_at p).next; at = (span_at p).next + 2 }

-- a span shows the string of its bytes, all of which are there, and ends within the main body
pub record IsText (m : MainBody) (s : Span) (t : Text) : Type 0 where
  pub within : Held m s
  pub is : spelling t ≡ span_of m s
  pub ends : s.next ≤ length m.b.now

-- ---- push values

-- a value and the place after it
abbrev pub push_at : PushValue → ℕ → PushAt
push_at x q = record { value = x; next = q }

module _ (m : MainBody) where
  -- what stands at p behind a kind, and the place after it
  abbrev pub value_at : PushKind → ℕ → PushAt
  value_at PushKind.String p = push_at (value.String (span_at m p)) (span_at m p).next
  value_at PushKind.Null p = push_at value.Null p
  value_at PushKind.Undefined p = push_at value.Undefined p
  value_at PushKind.Register p = push_at (value.Register (get_or m.b.now p 0)) (p + 1)
  value_at PushKind.Boolean p = push_at (value.Boolean (get_or m.b.now p 0)) (p + 1)
  value_at PushKind.Float p = push_at (value.Float (u64_at m.b.now p)) (p + 8)
  value_at PushKind.Integer p = push_at (value.Integer (u32_at m.b.now p)) (p + 4)
  value_at PushKind.Constant p = push_at (value.Constant (u16_at m.b.now p)) (p + 2)

-- a case of the code, and the push value that it shows
pub data ShownValue (m : MainBody) : PushValue → PushValueOf Text → Type 0 where
  -- the string behind the kind
  string : {s : Span} {t : Text} → IsText m s t → ShownValue m (value.String s) (String t)
  -- the kind alone
  null : ShownValue m value.Null Null
  -- the kind alone
  undefined : ShownValue m value.Undefined Undefined
  -- the byte behind the kind
  register : {r : ℕ} → ShownValue m (value.Register r) (Register r)
  -- the byte behind the kind, 0 or 1
  boolean : {n : ℕ} → n < 2 → ShownValue m (value.Boolean n) (Boolean (eqb n 1))
  -- the u64 behind the kind, a double's bits
  float : {w : ℕ} → ShownValue m (value.Float w) (Float w)
  -- the u32 behind the kind
  integer : {w : ℕ} → ShownValue m (value.Integer w) (Integer w)
  -- the u16 behind the kind
  constant : {i : ℕ} → ShownValue m (value.Constant i) (Constant i)

-- the definitions read a push value at p
pub record ValueReads (m : MainBody) (p : ℕ) : Type 0 where
  pub value : PushValueOf Text
  pub next : Place
  pub reads : read_value (read_by m) m.b.now (placed p) ≡ got value next

-- r shows the push value that the definitions read at p, and holds the place after it
pub record ShowsValue (m : MainBody) (p : ℕ) (r : PushAt) : Type 0 where
  pub shows : (x : PushValueOf Text) (q : Place) → read_value (read_by m) m.b.now (placed p) ≡ got x q → ShownValue m r.value x × (q ≡ placed r.next)

-- r is what stands behind the kind at p, and shows what is read there by the code's terms
pub record TakesValue (m : MainBody) (p : ℕ) (r : PushAt) : Type 0 where
  pub is : (kind : PushKind) → kind_of (get_or m.b.now p 0) ≡ some kind → r ≡ value_at m kind (p + 1)
  pub shows : ShowsValue m p r

-- ---- actions

module _ (m : MainBody) where
  -- a Try's catch target at p, for a Try that has a catch or not, and a register or not
  abbrev pub catch_at : Bool → Bool → ℕ → Option CatchTarget
  catch_at true true p = Some (target.Register (get_or m.b.now p 0))
  catch_at true false p = Some (target.Variable (span_at m p))
  catch_at false r p = None

  -- the place after it
  abbrev pub after_catch : Bool → Bool → ℕ → ℕ
  after_catch true true p = p + 1
  after_catch true false p = (span_at m p).next
  after_catch false r p = p

  -- the place after a Try's shape at p and its target
  abbrev pub after_try : ℕ → ℕ
  after_try p = after_catch (has_catch (get_or m.b.now p 0)) (has_register (get_or m.b.now p 0)) (p + 1)

  -- a Try's shape at p, its target and its first body's place
  abbrev pub try_at : ℕ → Action
  try_at p = code.Try (get_or m.b.now p 0) (catch_at (has_catch (get_or m.b.now p 0)) (has_register (get_or m.b.now p 0)) (p + 1)) (after_try p)

  -- the two strings of a GetUrl
  abbrev pub get_url_at : ℕ → Action
  get_url_at p = code.GetUrl (span_at m p) (span_at m (span_at m p).next)

  -- what stands at p behind an opcode
  abbrev pub action_at : OpCode → ℕ → Action
  action_at (OpCode.Small op) p = code.Small (small_byte op)
  action_at OpCode.GotoFrame p = code.GotoFrame (u16_at m.b.now p)
  action_at OpCode.GetUrl p = get_url_at p
  action_at OpCode.StoreRegister p = code.StoreRegister (get_or m.b.now p 0)
  action_at OpCode.ConstantPool p = code.ConstantPool (u16_at m.b.now p) (p + 2)
  action_at OpCode.WaitForFrame p = code.WaitForFrame (u16_at m.b.now p) (get_or m.b.now (p + 2) 0)
  action_at OpCode.SetTarget p = code.SetTarget (span_at m p)
  action_at OpCode.GotoLabel p = code.GotoLabel (span_at m p)
  action_at OpCode.WaitForFrame2 p = code.WaitForFrame2 (get_or m.b.now p 0)
  action_at OpCode.DefineFunction2 p = code.DefineFunction2 (function_at m p)
  action_at OpCode.Try p = try_at p
  action_at OpCode.With p = code.With p
  action_at OpCode.Push p = code.Push (u16_at m.b.now p) (p + 2)
  action_at OpCode.Jump p = code.Jump (u16_at m.b.now p)
  action_at OpCode.GetUrl2 p = code.GetUrl2 (get_or m.b.now p 0) (get_or m.b.now (p + 1) 0) (get_or m.b.now (p + 2) 0)
  action_at OpCode.DefineFunction p = code.DefineFunction (function_at m p)
  action_at OpCode.If p = code.If (u16_at m.b.now p)
  action_at OpCode.GotoFrame2 p = code.GotoFrame2 (u16_at m.b.now p) (get_or m.b.now (p + 2) 0)

-- a case of the code, and the catch target that it shows in a Try of this shape
pub data ShownTarget (m : MainBody) (shape : ℕ) : Option CatchTarget → CatchTargetOf Text → Type 0 where
  -- no bytes: without a catch the target is not used
  nothing : {t : CatchTargetOf Text} → has_catch shape ≡ false → ShownTarget m shape None t
  -- the string behind the shape
  variable : {s : Span} {t : Text} → has_catch shape ≡ true → has_register shape ≡ false → IsText m s t → ShownTarget m shape (Some (target.Variable s)) (Variable t)
  -- the byte behind the shape
  register : {r : ℕ} → has_catch shape ≡ true → has_register shape ≡ true → ShownTarget m shape (Some (target.Register r)) (Register r)

-- A case of the code, and the action that it shows, with the place after that action. Its fields start at p, behind its
-- opcode. A list is read from its first element's place on, and a body by `inner` from its place on
pub data Shown (m : MainBody) (inner : Reader (ActionsOf Text ℕ)) (p : ℕ) : Action → ActionOf Text ℕ → Place → Type 0 where
  -- the opcode's byte
  small : {n : ℕ} {op : SmallOpCode} → small_byte op ≡ n → Shown m inner p (code.Small n) (flat (Small op)) (placed p)
  -- the u16 at p
  goto_frame : {n : ℕ} → Shown m inner p (code.GotoFrame n) (flat (GotoFrame n)) (placed (p + 2))
  -- the string at p, and the one behind it
  get_url : {u t : Span} {x y : Text} → IsText m u x → IsText m t y → Shown m inner p (code.GetUrl u t) (flat (GetUrl x y)) (placed t.next)
  -- the byte at p
  store_register : {r : ℕ} → Shown m inner p (code.StoreRegister r) (flat (StoreRegister r)) (placed (p + 1))
  -- n strings from i on
  constant_pool : {n i : ℕ} {xs : List Text} {q : Place} → repeat (read_string (read_by m) m.b.now) n (placed i) ≡ got xs q
      → Shown m inner p (code.ConstantPool n i) (flat (ConstantPool xs)) q
  -- the u16 at p and the byte behind it
  wait_for_frame : {n k : ℕ} → Shown m inner p (code.WaitForFrame n k) (flat (WaitForFrame n k)) (placed (p + 3))
  -- the string at p
  set_target : {s : Span} {x : Text} → IsText m s x → Shown m inner p (code.SetTarget s) (flat (SetTarget x)) (placed s.next)
  -- the string at p
  goto_label : {s : Span} {x : Text} → IsText m s x → Shown m inner p (code.GotoLabel s) (flat (GotoLabel x)) (placed s.next)
  -- the byte at p
  wait_for_frame2 : {k : ℕ} → Shown m inner p (code.WaitForFrame2 k) (flat (WaitForFrame2 k)) (placed (p + 1))
  -- the name at p and the parameters from their place on; behind them, at r, a byte, a u16 under 512 and the body
  define_function2 : {f : Function} {x : Text} {ps : List (FunctionParamOf Text)} {r : Place} {a : ActionsOf Text ℕ} {q : Place} → IsText m f.name x
      → repeat (read_param (read_by m) m.b.now) f.count (placed f.at) ≡ got ps r → r.at + 3 ≤ length m.b.now → u16_at m.b.now (r.at + 1) < 512
      → inner (placed (r.at + 3)) ≡ got a q
      → Shown m inner p (code.DefineFunction2 f) (owner (DefineFunction2 x ps (get_or m.b.now r.at 0) (u16_at m.b.now (r.at + 1))) a) q
  -- the byte at p, the target that it asks for, and from i on the bodies
  try : {shape i : ℕ} {t : Option CatchTarget} {x : CatchTargetOf Text} {a : ActionsOf Text ℕ} {c : CatchOf Text ℕ} {f : FinallyOf Text ℕ} {r s q : Place}
      → is_shape shape ≡ true → ShownTarget m shape t x → inner (placed i) ≡ got a r → read_catch (read_by m) m.b.now inner (has_catch shape) x r ≡ got c s
      → read_finally (read_by m) m.b.now inner (has_finally shape) s ≡ got f q → Shown m inner p (code.Try shape t i) (Try a c f) q
  -- the body at i
  with : {i : ℕ} {a : ActionsOf Text ℕ} {q : Place} → inner (placed i) ≡ got a q → Shown m inner p (code.With i) (owner With a) q
  -- n values from i on
  push : {n i : ℕ} {xs : List (PushValueOf Text)} {q : Place} → repeat (read_value (read_by m) m.b.now) n (placed i) ≡ got xs q
      → Shown m inner p (code.Push n i) (flat (Push xs)) q
  -- the u16 at p, a label number
  jump : {l : ℕ} → l < m.terms.label_bound → Shown m inner p (code.Jump l) (branch Jump l) (placed (p + 2))
  -- three bytes from p on, of which the first two are 0 or 1
  get_url2 : {v t k : ℕ} → v < 2 → t < 2 → Shown m inner p (code.GetUrl2 v t k) (flat (GetUrl2 (eqb v 1) (eqb t 1) k)) (placed (p + 3))
  -- the name at p and the parameters from their place on; behind them the body
  define_function : {f : Function} {x : Text} {ps : List Text} {r : Place} {a : ActionsOf Text ℕ} {q : Place} → IsText m f.name x
      → repeat (read_string (read_by m) m.b.now) f.count (placed f.at) ≡ got ps r → inner r ≡ got a q
      → Shown m inner p (code.DefineFunction f) (owner (DefineFunction x ps) a) q
  -- the u16 at p, a label number
  if : {l : ℕ} → l < m.terms.label_bound → Shown m inner p (code.If l) (branch If l) (placed (p + 2))
  -- the u16 at p, and the byte behind it, which is 0 or 1
  goto_frame2 : {n k : ℕ} → k < 2 → Shown m inner p (code.GotoFrame2 n k) (flat (GotoFrame2 n (eqb k 1))) (placed (p + 3))

-- the definitions read an action at p, by some reader of bodies
pub record ActionReads (m : MainBody) (p : ℕ) : Type 0 where
  pub inner : Reader (ActionsOf Text ℕ)
  pub action : ActionOf Text ℕ
  pub next : Place
  pub reads : read_action (read_by m) m.b.now inner (placed p) ≡ got action next

-- r shows the action that the definitions read at p, whatever the reader of bodies
pub record ShowsAction (m : MainBody) (p : ℕ) (r : Action) : Type 0 where
  pub shows : (inner : Reader (ActionsOf Text ℕ)) (a : ActionOf Text ℕ) (q : Place) → read_action (read_by m) m.b.now inner (placed p) ≡ got a q → Shown m inner (p + 1) r a q

-- r is what stands behind the opcode at p, and shows what is read there by the code's terms
pub record TakesAction (m : MainBody) (p : ℕ) (r : Action) : Type 0 where
  pub is : (op : OpCode) → opcode_of (get_or m.b.now p 0) ≡ some op → r ≡ action_at m op (p + 1)
  pub shows : ShowsAction m p r
