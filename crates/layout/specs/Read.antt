-- The reading of a sheet's main body, a list b of bytes, from its place 0: 3 to 7, "the first met reading front to back".
-- Places are counted in b here; `Pack` counts them from the sheet's byte 0. Assumes nothing.
use Rattle.std.specs.Prelude.{ℕ, zero, suc, ◌+◌, ◌/◌, ◌%◌, Bool, true, false, ◌&&◌, ◌||◌, not, List, [], ◌∷◌, length, get_or, take, drop, leb, ltb, eqb}
use Rattle.std.proofs.Math.Option.{Option, none, some}
use Rattle.layout.specs.Numbers.{u16_at, u32_at, u64_at}
use Rattle.layout.specs.Answers.{Fault, CutShort, UnknownCode, BadField, TooDeep, LeftOver}
use Rattle.layout.specs.OpCode.{OpCode, opcode_of}
use Rattle.layout.specs.PushKind.{PushKind, kind_of}
use Rattle.layout.specs.Tree.{PushValueOf, String, Null, Undefined, Register, Boolean, Float, Integer, Constant, FunctionParamOf, function_param, Small, GotoFrame, GetUrl, StoreRegister, ConstantPool, WaitForFrame, SetTarget, GotoLabel, WaitForFrame2, Push, GetUrl2, GotoFrame2, With, DefineFunction, DefineFunction2, Jump, If, CatchTargetOf, Variable, Entry, entry, ActionOf, flat, branch, owner, Try, ActionListOf, empty, more, ActionsOf, body, CatchOf, no_catch, catch, FinallyOf, no_finally, finally, count, body_count, catch_count}

-- ---- readers

-- what a sheet says where a string is due: its bytes, or the number of an entry of the book, whose bytes are these
pub data Text : Type 0 where
  plain : (bytes : List ℕ) → Text
  in_book : (entry : ℕ) (bytes : List ℕ) → Text

-- the entries of a word book, which are called words here: an entry elsewhere is a label's
abbrev pub Words : Type 0
Words = List (List ℕ)

-- what a sheet is read by: a bound of its label numbers, and the words that its strings may name, if they may
pub record Terms : Type 0 where
  pub label_bound : ℕ
  pub words : Option Words

-- "label numbers 0 to 1,023"
unfoldable pub edition1 : Terms
edition1 = record { label_bound = 1024; words = none }

-- "Raise label numbers to 4,095"
unfoldable pub edition2 : Terms
edition2 = record { label_bound = 4096; words = none }

-- "label bounds are those of edition 2"
unfoldable pub edition3 : Words → Terms
edition3 ws = record { label_bound = 4096; words = some ws }

-- "the main body has depth 1 and the deepest body 16"
abbrev pub deepest : ℕ
deepest = 16

-- where a reader stands: the place of the next byte
pub record Place : Type 0 where
  pub at : ℕ

-- the place at a number
abbrev pub placed : ℕ → Place
placed n = record { at = n }

-- n bytes on
abbrev pub ahead : ℕ → Place → Place
ahead n p = record { at = p.at + n }

-- where a reader met a fault: the place, and how many actions it had begun by then. An action is begun when its fields are read,
-- before its bodies are
pub record Stop : Type 0 where
  pub at : ℕ
  pub begun : ℕ

-- at a place, no action begun
abbrev pub stop : Place → Stop
stop p = record { at = p.at; begun = 0 }

-- what reading gives: a value and the next place, or a fault and where it was met
pub data Read (A : Type 0) : Type 0 where
  got : (a : A) (next : Place) → Read A
  bad : (fault : Fault) (met : Stop) → Read A

-- a reader starts at a place
abbrev pub Reader : Type 0 → Type 0
Reader A = Place → Read A

-- the first fault ends the reading
abbrev pub chain : {A B : Type 0} → Read A → (A → Reader B) → Read B
chain (got a p) k = k a p
chain (bad f p) k = bad f p

abbrev pub ◌>>=◌ : {A B : Type 0} → Reader A → (A → Reader B) → Reader B
◌>>=◌ m k = λ p. chain (m p) k

-- reads nothing
abbrev pub give : {A : Type 0} → A → Reader A
give a p = got a p

abbrev pub refuse : {A : Type 0} → Fault → Place → Reader A
refuse f p = λ q. bad f (stop p)

-- a fault met with n more actions begun
abbrev pub more_begun : {A : Type 0} → ℕ → Read A → Read A
more_begun n (got a p) = got a p
more_begun n (bad f s) = bad f (record { at = s.at; begun = n + s.begun })

-- reads what stands behind n actions that are begun
abbrev pub behind : {A : Type 0} → ℕ → Reader A → Reader A
behind n read p = more_begun n (read p)

-- the place where the reader stands
abbrev pub here : Reader Place
here p = got p p

-- CutShort: "place of a field that would reach into the trailer", here the end of b. The field at p, if it is whole
unfoldable pub if_whole : {A : Type 0} → Bool → Place → A → Place → Read A
if_whole true p a next = got a next
if_whole false p a next = bad CutShort (stop p)

-- BadField: "place of a field outside its range or order". The field at p, if it is within
unfoldable pub if_within : {A : Type 0} → Bool → Place → A → Reader A
if_within true p a = give a
if_within false p a = refuse BadField p

-- "a field is tested for 3 before its value"
unfoldable pub tested : {A : Type 0} → (A → Bool) → Reader A → Reader A
tested within read = do
  p ← here
  a ← read
  if_within (within a) p a

-- n of the same, one after the other
unfoldable pub repeat : {A : Type 0} → Reader A → ℕ → Reader (List A)
repeat read zero = give []
repeat read (suc n) = do
  a ← read
  rest ← repeat read n
  give (a ∷ rest)

-- how many bytes of s stand before its first zero byte, counted on from n
unfoldable pub first_zero : ℕ → List ℕ → Option ℕ
first_zero n [] = none
first_zero n (zero ∷ s) = some n
first_zero n (suc x ∷ s) = first_zero (suc n) s

-- "for NUL, of the first NUL": the bytes s, which stand at p, if they have no zero byte
unfoldable pub if_no_zero : Place → List ℕ → Option ℕ → Reader (List ℕ)
if_no_zero p s none = give s
if_no_zero p s (some z) = refuse BadField (ahead z p)

-- LeftOver: "place of the first byte between main body and trailer"
unfoldable pub if_nothing_left : {A : Type 0} → Bool → A → Reader A
if_nothing_left true a p = got a p
if_nothing_left false a p = bad LeftOver (stop p)

-- ---- fields

module _ (b : List ℕ) where
  unfoldable pub read_u8 : Reader ℕ
  read_u8 p = if_whole (leb (p.at + 1) (length b)) p (get_or b p.at 0) (ahead 1 p)

  unfoldable pub read_u16 : Reader ℕ
  read_u16 p = if_whole (leb (p.at + 2) (length b)) p (u16_at b p.at) (ahead 2 p)

  unfoldable pub read_u32 : Reader ℕ
  read_u32 p = if_whole (leb (p.at + 4) (length b)) p (u32_at b p.at) (ahead 4 p)

  unfoldable pub read_u64 : Reader ℕ
  read_u64 p = if_whole (leb (p.at + 8) (length b)) p (u64_at b p.at) (ahead 8 p)

  -- n bytes
  unfoldable pub read_bytes : ℕ → Reader (List ℕ)
  read_bytes n p = if_whole (leb (p.at + n) (length b)) p (take n (drop p.at b)) (ahead n p)

  -- "each 0 or 1"
  unfoldable pub read_flag : Reader Bool
  read_flag = do
    n ← tested (λ n. ltb n 2) read_u8
    give (eqb n 1)

  -- "that many bytes, none zero"
  unfoldable pub read_spelling : ℕ → Reader (List ℕ)
  read_spelling n = do
    p ← here
    s ← read_bytes n
    if_no_zero p s (first_zero 0 s)

  -- a string by its bytes, of which there are n
  unfoldable pub read_plain : ℕ → Reader Text
  read_plain n = do
    s ← read_spelling n
    give (plain s)

  -- a string by the number of a word: "at or past the count is 5 at that number"
  unfoldable pub read_word : Words → Reader Text
  read_word ws = do
    i ← tested (λ i. ltb i (length ws)) read_u16
    give (in_book i (get_or ws i []))

  -- what follows a string's length n, by the words that may be named: is the length 65,535?
  unfoldable pub read_text : Option Words → Bool → ℕ → Reader Text
  read_text (some ws) true n = read_word ws
  read_text (some ws) false n = read_plain n
  read_text none test n = read_plain n

  -- "u16 count", then as many
  unfoldable pub read_counted : {A : Type 0} → Reader A → Reader (List A)
  read_counted read = do
    n ← read_u16
    repeat read n

-- a Try's shape: "bit 0 catch, bit 1 finally, bit 2 register"
unfoldable pub has_catch : ℕ → Bool
has_catch shape = eqb (shape % 2) 1

unfoldable pub has_finally : ℕ → Bool
has_finally shape = eqb (shape / 2 % 2) 1

unfoldable pub has_register : ℕ → Bool
has_register shape = eqb (shape / 4 % 2) 1

-- "bit 2 register, which needs bit 0; others zero"
unfoldable pub is_shape : ℕ → Bool
is_shape shape = ltb shape 8 && (not (has_register shape) || has_catch shape)

-- ---- what stands in a body, by the terms of the sheet's edition

module _ (terms : Terms) (b : List ℕ) where
  -- "A string: u16 length, then that many bytes, none zero"; where words may be named, "a string length of 65,535 is followed by a
  -- u16 entry number in place of bytes"
  unfoldable pub read_string : Reader Text
  read_string = do
    n ← read_u16 b
    read_text b terms.words (eqb n 65535) n

  -- a push value of a kind
  unfoldable pub read_value_of : PushKind → Reader (PushValueOf Text)
  read_value_of PushKind.String = do
    s ← read_string
    give (String s)
  read_value_of PushKind.Null = give Null
  read_value_of PushKind.Undefined = give Undefined
  read_value_of PushKind.Register = do
    r ← read_u8 b
    give (Register r)
  read_value_of PushKind.Boolean = do
    t ← read_flag b
    give (Boolean t)
  read_value_of PushKind.Float = do
    w ← read_u64 b
    give (Float w)
  read_value_of PushKind.Integer = do
    w ← read_u32 b
    give (Integer w)
  read_value_of PushKind.Constant = do
    i ← read_u16 b
    give (Constant i)

  -- UnknownCode: "place of an opcode or kind not listed", here of the kind at p
  unfoldable pub read_value_if : Option PushKind → Place → Reader (PushValueOf Text)
  read_value_if (some kind) p = read_value_of kind
  read_value_if none p = refuse UnknownCode p

  -- "each value a kind byte", then what the kind says
  unfoldable pub read_value : Reader (PushValueOf Text)
  read_value = do
    p ← here
    n ← read_u8 b
    read_value_if (kind_of n) p

  -- "per parameter u8 register and string"
  unfoldable pub read_param : Reader (FunctionParamOf Text)
  read_param = do
    r ← read_u8 b
    s ← read_string
    give (function_param r s)

  -- a label number under the bound, and not under `least`
  unfoldable pub read_label : ℕ → Reader ℕ
  read_label least = tested (λ l. ltb l terms.label_bound && leb least l) (read_u16 b)

  -- "each entry u16 label number, u16 action index, label numbers strictly rising": `least` is the least that may follow
  unfoldable pub read_entries : ℕ → ℕ → Reader (List Entry)
  read_entries zero least = give []
  read_entries (suc n) least = do
    l ← read_label least
    i ← read_u16 b
    rest ← read_entries n (suc l)
    give (entry l (record { index = i }) ∷ rest)

  -- "with catch, a string or a u8 register": is there a catch, and is it a register's?
  -- Without a catch there is no target: the empty name stands in, and `read_catch` drops it
  unfoldable pub read_catch_target : Bool → Bool → Reader (CatchTargetOf Text)
  read_catch_target true true = do
    r ← read_u8 b
    give (Register r)
  read_catch_target true false = do
    s ← read_string
    give (Variable s)
  read_catch_target false register = give (Variable (plain []))

  -- ---- actions; `read_inner` reads a body inside this one

  module _ (read_inner : Reader (ActionsOf Text ℕ)) where
    -- "catch and finally bodies .. only if present"
    unfoldable pub read_catch : Bool → CatchTargetOf Text → Reader (CatchOf Text ℕ)
    read_catch true target = do
      c ← read_inner
      give (catch target c)
    read_catch false target = give no_catch

    unfoldable pub read_finally : Bool → Reader (FinallyOf Text ℕ)
    read_finally true = do
      f ← read_inner
      give (finally f)
    read_finally false = give no_finally

    -- a Try of this shape: "then try, catch and finally bodies", each behind those before it
    unfoldable pub read_try : ℕ → Reader (ActionOf Text ℕ)
    read_try shape = do
      target ← read_catch_target (has_catch shape) (has_register shape)
      t ← read_inner
      c ← behind (body_count t) (read_catch (has_catch shape) target)
      f ← behind (body_count t + catch_count c) (read_finally (has_finally shape))
      give (Try t c f)

    -- "An action is its opcode byte, then": the fields of each opcode, in the order of the bytes
    unfoldable pub read_fields : OpCode → Reader (ActionOf Text ℕ)
    read_fields (OpCode.Small op) = give (flat (Small op))
    read_fields OpCode.GotoFrame = do
      frame ← read_u16 b
      give (flat (GotoFrame frame))
    read_fields OpCode.GetUrl = do
      url ← read_string
      target ← read_string
      give (flat (GetUrl url target))
    read_fields OpCode.StoreRegister = do
      r ← read_u8 b
      give (flat (StoreRegister r))
    read_fields OpCode.ConstantPool = do
      strings ← read_counted b read_string
      give (flat (ConstantPool strings))
    read_fields OpCode.WaitForFrame = do
      frame ← read_u16 b
      skip ← read_u8 b
      give (flat (WaitForFrame frame skip))
    read_fields OpCode.SetTarget = do
      target ← read_string
      give (flat (SetTarget target))
    read_fields OpCode.GotoLabel = do
      label ← read_string
      give (flat (GotoLabel label))
    read_fields OpCode.WaitForFrame2 = do
      skip ← read_u8 b
      give (flat (WaitForFrame2 skip))
    -- "u16 flags (bits 9 to 15 zero)"
    read_fields OpCode.DefineFunction2 = do
      name ← read_string
      params ← read_counted b read_param
      registers ← read_u8 b
      flags ← tested (λ flags. ltb flags 512) (read_u16 b)
      x ← read_inner
      give (owner (DefineFunction2 name params registers flags) x)
    read_fields OpCode.Try = do
      shape ← tested is_shape (read_u8 b)
      read_try shape
    read_fields OpCode.With = do
      x ← read_inner
      give (owner With x)
    read_fields OpCode.Push = do
      values ← read_counted b read_value
      give (flat (Push values))
    read_fields OpCode.Jump = do
      l ← read_label 0
      give (branch Jump l)
    -- "load variables and load target, each 0 or 1, then u8 method"
    read_fields OpCode.GetUrl2 = do
      variables ← read_flag b
      target ← read_flag b
      method ← read_u8 b
      give (flat (GetUrl2 variables target method))
    read_fields OpCode.DefineFunction = do
      name ← read_string
      params ← read_counted b read_string
      x ← read_inner
      give (owner (DefineFunction name params) x)
    read_fields OpCode.If = do
      l ← read_label 0
      give (branch If l)
    read_fields OpCode.GotoFrame2 = do
      bias ← read_u16 b
      play ← read_flag b
      give (flat (GotoFrame2 bias play))

    -- UnknownCode: "place of an opcode or kind not listed", here of the opcode at p
    unfoldable pub read_fields_if : Option OpCode → Place → Reader (ActionOf Text ℕ)
    read_fields_if (some op) p = read_fields op
    read_fields_if none p = refuse UnknownCode p

    unfoldable pub read_action : Reader (ActionOf Text ℕ)
    read_action = do
      p ← here
      n ← read_u8 b
      read_fields_if (opcode_of n) p

    -- n actions, each behind those before it
    unfoldable pub read_actions : ℕ → Reader (ActionListOf Text ℕ)
    read_actions zero = give empty
    read_actions (suc n) = do
      a ← read_action
      rest ← behind (count a) (read_actions n)
      give (more a rest)

    -- "A body: u16 label entry count; each entry ..; u16 action count; the actions"
    unfoldable pub read_body_with : Reader (ActionsOf Text ℕ)
    read_body_with = do
      m ← read_u16 b
      entries ← read_entries m 0
      n ← read_u16 b
      actions ← read_actions n
      give (body entries actions)

  -- a body, where as many as `depth` may stand one in another; "TooDeep is met before the body's first field". A body in it stands
  -- behind the action that owns it
  unfoldable pub read_body : ℕ → Reader (ActionsOf Text ℕ)
  read_body zero p = bad TooDeep (stop p)
  read_body (suc depth) p = read_body_with (behind 1 (read_body depth)) p

  -- the main body takes all of b
  unfoldable pub read_main : ℕ → Read (ActionsOf Text ℕ)
  read_main depth = chain (read_body depth (placed 0)) λ t p. more_begun (body_count t) (if_nothing_left (eqb p.at (length b)) t p)
