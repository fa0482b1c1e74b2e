-- How many actions reading begins: a field begins none, so that a fault in it is met at the action being read; and no reading
-- begins more than one for each byte it passes. Assumes nothing.
use Rattle.std.specs.Prelude.{◌≡◌, Bool, length, get_or, leb, eqb}
use Rattle.std.proofs.Common.{subst, arith}
use Prim.Native.Nat.{ℕ, zero, suc, ◌+◌, ◌≤◌}
use Rattle.std.proofs.Math.Bool.{true, false}
use Rattle.std.proofs.Math.Option.{Option, none, some}
use mathlib.Core.List.{List, [], ◌∷◌}
use Rattle.layout.specs.Answers.{Fault}
use Rattle.layout.specs.OpCode.{OpCode, opcode_of}
use Rattle.layout.specs.PushKind.{PushKind, kind_of}
use Rattle.layout.specs.Tree.{FlatOf, With, DefineFunction, DefineFunction2, Branch, CatchTargetOf, ActionOf, flat, branch, owner, Try, ActionListOf, empty, more, ActionsOf, body, no_catch, catch, no_finally, finally, count, counts, body_count, catch_count, finally_count}
use Rattle.layout.specs.Read.{Text, Words, Terms, read_plain, read_word, read_text, Place, placed, Stop, stop, Read, got, bad, Reader, chain, more_begun, behind, if_whole, if_within, tested, repeat, first_zero, if_no_zero, if_nothing_left, read_u8, read_u16, read_u32, read_u64, read_bytes, read_flag, read_spelling, read_counted, has_catch, has_finally, has_register, is_shape, read_string, read_value_of, read_value_if, read_value, read_param, read_label, read_entries, read_catch_target, read_catch, read_finally, read_try, read_fields, read_fields_if, read_action, read_actions, read_body_with, read_body, read_main}
use Rattle.laws.specs.Begun.{Begins, Fields, OfFields, met, read}

-- the same from a place before
pub fields_from : {A : Type 0} {p q : Place} {x : Read A} → p.at ≤ q.at → Fields q x → Fields p x
fields_from l (read {q = r} h) = read {q = r} (omega arith)
fields_from l (met {n = n} h) = met {n = n} (omega arith)

-- one after another
pub fields_then : {A B : Type 0} {p : Place} {x : Read A} {k : A → Reader B} → Fields p x → ((a : A) (q : Place) → p.at ≤ q.at → Fields p (k a q)) → Fields p (chain x k)
fields_then (read h) f = f _ _ h
fields_then (met h) f = met h

pub fields_next : {A B : Type 0} {p : Place} {x : Read A} {k : A → Reader B} → Fields p x → ((a : A) → OfFields (k a)) → Fields p (chain x k)
fields_next h f = fields_then h (λ a q l. fields_from l (f a q))

fields_here : {A : Type 0} (a : A) (p : Place) → Fields p (got a p)
fields_here a p = read {q = p} (omega arith)

whole_fields : {A : Type 0} (t : Bool) (p : Place) (a : A) (n : ℕ) → Fields p (if_whole t p a (record { at = p.at + n }))
unfolding if_whole
whole_fields true p a n = read {q = record { at = p.at + n }} (omega arith)
whole_fields false p a n = met {n = p.at} (omega arith)

pub tested_fields : {A : Type 0} (within : A → Bool) (r : Reader A) → OfFields r → OfFields (tested within r)
unfolding tested if_within
tested_fields {A} within r h p = fields_then (h p) (λ a q l. go (within a) a q l)
  where
    go : (t : Bool) (a : A) (q : Place) → p.at ≤ q.at → Fields p (if_within t p a q)
    go true a q l = read l
    go false a q l = met {n = p.at} (omega arith)

pub repeat_fields : {A : Type 0} (r : Reader A) → OfFields r → (n : ℕ) → OfFields (repeat r n)
unfolding repeat
repeat_fields r h zero p = fields_here [] p
repeat_fields r h (suc n) p = fields_next (h p) (λ a q. fields_next (repeat_fields r h n q) (λ xs o. fields_here (a ∷ xs) o))

module _ (b : List ℕ) where
  pub u8_fields : OfFields (read_u8 b)
  unfolding read_u8
  u8_fields p = whole_fields (leb (p.at + 1) (length b)) p _ 1

  pub u16_fields : OfFields (read_u16 b)
  unfolding read_u16
  u16_fields p = whole_fields (leb (p.at + 2) (length b)) p _ 2

  u32_fields : OfFields (read_u32 b)
  unfolding read_u32
  u32_fields p = whole_fields (leb (p.at + 4) (length b)) p _ 4

  u64_fields : OfFields (read_u64 b)
  unfolding read_u64
  u64_fields p = whole_fields (leb (p.at + 8) (length b)) p _ 8

  pub bytes_fields : (n : ℕ) → OfFields (read_bytes b n)
  unfolding read_bytes
  bytes_fields n p = whole_fields (leb (p.at + n) (length b)) p _ n

  pub flag_fields : OfFields (read_flag b)
  unfolding read_flag
  flag_fields p = fields_next (tested_fields _ (read_u8 b) u8_fields p) (λ n q. fields_here (eqb n 1) q)

  spelling_fields : (n : ℕ) → OfFields (read_spelling b n)
  unfolding read_spelling if_no_zero
  spelling_fields n p = fields_then (bytes_fields n p) (λ s q l. go (first_zero 0 s) s q l)
    where
      go : (o : Option ℕ) (s : List ℕ) (q : Place) → p.at ≤ q.at → Fields p (if_no_zero p s o q)
      go none s q l = read l
      go (some z) s q l = met {n = p.at + z} (omega arith)

  pub counted_fields : {A : Type 0} (r : Reader A) → OfFields r → OfFields (read_counted b r)
  unfolding read_counted
  counted_fields r h p = fields_next (u16_fields p) (λ n q. repeat_fields r h n q)

module _ (k : Terms) (b : List ℕ) where
  pub string_fields : OfFields (read_string k b)
  unfolding read_string
  string_fields p = fields_next (u16_fields b p) (λ n q. go k.words (eqb n 65535) n q)
    where
      plainly : (n : ℕ) (q : Place) → Fields q (read_plain b n q)
      plainly n q = unfold read_plain in fields_next (spelling_fields b n q) (λ s o. fields_here _ o)

      go : (o : Option Words) (t : Bool) (n : ℕ) (q : Place) → Fields q (read_text b o t n q)
      go (some ws) true n q = unfold read_text read_word in fields_next (tested_fields _ (read_u16 b) (u16_fields b) q) (λ i o. fields_here _ o)
      go (some ws) false n q = unfold read_text in plainly n q
      go none t n q = unfold read_text in plainly n q

  value_of_fields : (j : PushKind) → OfFields (read_value_of k b j)
  unfolding read_value_of
  value_of_fields PushKind.String p = fields_next (string_fields p) (λ s q. fields_here _ q)
  value_of_fields PushKind.Null p = fields_here _ p
  value_of_fields PushKind.Undefined p = fields_here _ p
  value_of_fields PushKind.Register p = fields_next (u8_fields b p) (λ s q. fields_here _ q)
  value_of_fields PushKind.Boolean p = fields_next (flag_fields b p) (λ s q. fields_here _ q)
  value_of_fields PushKind.Float p = fields_next (u64_fields b p) (λ s q. fields_here _ q)
  value_of_fields PushKind.Integer p = fields_next (u32_fields b p) (λ s q. fields_here _ q)
  value_of_fields PushKind.Constant p = fields_next (u16_fields b p) (λ s q. fields_here _ q)

  pub value_fields : OfFields (read_value k b)
  unfolding read_value read_value_if
  value_fields p = fields_then (u8_fields b p) (λ n q l. go (kind_of n) q l)
    where
      go : (o : Option PushKind) (q : Place) → p.at ≤ q.at → Fields p (read_value_if k b o p q)
      go (some j) q l = fields_from l (value_of_fields j q)
      go none q l = met {n = p.at} (omega arith)

  pub param_fields : OfFields (read_param k b)
  unfolding read_param
  param_fields p = fields_next (u8_fields b p) (λ r q. fields_next (string_fields q) (λ s o. fields_here _ o))

  pub label_fields : (least : ℕ) → OfFields (read_label k b least)
  unfolding read_label
  label_fields least p = tested_fields _ (read_u16 b) (u16_fields b) p

  pub entries_fields : (n least : ℕ) → OfFields (read_entries k b n least)
  unfolding read_entries
  entries_fields zero least p = fields_here _ p
  entries_fields (suc n) least p =
      fields_next (label_fields least p) (λ l q. fields_next (u16_fields b q) (λ i o. fields_next (entries_fields n (suc l) o) (λ es r. fields_here _ r)))

  pub target_fields : (c r : Bool) → OfFields (read_catch_target k b c r)
  unfolding read_catch_target
  target_fields true true p = fields_next (u8_fields b p) (λ r q. fields_here _ q)
  target_fields true false p = fields_next (string_fields p) (λ s q. fields_here _ q)
  target_fields false r p = fields_here _ p

module _ {A : Type 0} {count : A → ℕ} {n : ℕ} where
  begins_field : {B : Type 0} {p : Place} {x : Read B} {k : B → Reader A} → Fields p x → n ≤ p.at → ((b : B) (q : Place) → p.at ≤ q.at → Begins count n (k b q)) → Begins count n (chain x k)
  begins_field (read h) l f = f _ _ h
  begins_field (met {n = i} h) l f = met {s = stop (placed i)} (omega arith)

  begins_then : {B : Type 0} {count' : B → ℕ} {x : Read B} {k : B → Reader A} → Begins count' n x → ((b : B) (q : Place) → count' b + n ≤ q.at → Begins count n (k b q)) → Begins count n (chain x k)
  begins_then (read h) f = f _ _ h
  begins_then (met h) f = met h

  -- behind k actions, from as many bytes before
  begins_behind : (k : ℕ) {x : Read A} → Begins count (n + k) x → Begins (λ a. k + count a) n (more_begun k x)
  begins_behind k (read {a = a} {q = q} h) = read {a = a} {q = q} (omega arith)
  begins_behind k (met {s = s} h) = met {s = record { at = s.at; begun = k + s.begun }} (omega arith)

  pub begins_got : {x : Read A} (a : A) (q : Place) → Begins count n x → x ≡ got a q → count a + n ≤ q.at
  begins_got {x} a q h e = go (subst (Begins count n) e h)
    where
      go : Begins count n (got a q) → count a + n ≤ q.at
      go (read l) = l

  pub begins_bad : {x : Read A} (f : Fault) (s : Stop) → Begins count n x → x ≡ bad f s → s.begun + n ≤ s.at
  begins_bad {x} f s h e = go (subst (Begins count n) e h)
    where
      go : Begins count n (bad f s) → s.begun + n ≤ s.at
      go (met l) = l

module _ (k : Terms) (b : List ℕ) where
  module _ (inner : Reader (ActionsOf Text ℕ)) (h : (n : ℕ) (p : Place) → n + 1 ≤ p.at → Begins (λ x. 1 + body_count x) n (inner p)) where
    catch_begins : (c : Bool) (t : CatchTargetOf Text) (n : ℕ) (p : Place) → n + 1 ≤ p.at → Begins (λ x. 1 + catch_count x) n (read_catch k b inner c t p)
    unfolding read_catch catch_count
    catch_begins true t n p l = begins_then (h n p l) (λ x q e. read {a = catch t x} {q = q} e)
    catch_begins false t n p l = read {a = no_catch} {q = p} (omega arith)

    finally_begins : (f : Bool) (n : ℕ) (p : Place) → n + 1 ≤ p.at → Begins (λ x. 1 + finally_count x) n (read_finally k b inner f p)
    unfolding read_finally finally_count
    finally_begins true n p l = begins_then (h n p l) (λ x q e. read {a = finally x} {q = q} e)
    finally_begins false n p l = read {a = no_finally} {q = p} (omega arith)

    try_begins : (shape n : ℕ) (p : Place) → n + 1 ≤ p.at → Begins count n (read_try k b inner shape p)
    unfolding read_try count
    try_begins shape n p l =
        begins_field (target_fields k b (has_catch shape) (has_register shape) p) (omega arith) (λ target p₁ l₁. begins_then (h n p₁ (omega arith)) (λ t p₂ l₂.
        begins_then (begins_behind (body_count t) (catch_begins (has_catch shape) target (n + body_count t) p₂ (omega arith))) (λ c p₃ l₃.
        begins_then (begins_behind (body_count t + catch_count c) (finally_begins (has_finally shape) (n + (body_count t + catch_count c)) p₃ (omega arith)))
        (λ f p₄ l₄. read {a = Try t c f} {q = p₄} (omega arith)))))

    flat_read : {n : ℕ} {f : FlatOf Text} (q : Place) → n + 1 ≤ q.at → Begins {A = ActionOf Text ℕ} count n (got (flat f) q)
    unfolding count
    flat_read {f = f} q l = read {a = flat f} {q = q} (omega arith)

    branch_read : {n l : ℕ} {k : Branch} (q : Place) → n + 1 ≤ q.at → Begins {A = ActionOf Text ℕ} count n (got (branch k l) q)
    unfolding count
    branch_read {l = l} {k = k} q h = read {a = branch k l} {q = q} (omega arith)

    -- the fields of an action stand behind its opcode
    fields_begins : (op : OpCode) (n : ℕ) (p : Place) → n + 1 ≤ p.at → Begins count n (read_fields k b inner op p)
    unfolding read_fields count
    fields_begins (OpCode.Small op) n p l = flat_read p (omega arith)
    fields_begins OpCode.GotoFrame n p l = begins_field (u16_fields b p) (omega arith) (λ x q m. flat_read q (omega arith))
    fields_begins OpCode.GetUrl n p l = begins_field (string_fields k b p) (omega arith) (λ x q m. begins_field (string_fields k b q) (omega arith) (λ y r i. flat_read r (omega arith)))
    fields_begins OpCode.StoreRegister n p l = begins_field (u8_fields b p) (omega arith) (λ x q m. flat_read q (omega arith))
    fields_begins OpCode.ConstantPool n p l = begins_field (counted_fields b _ (string_fields k b) p) (omega arith) (λ x q m. flat_read q (omega arith))
    fields_begins OpCode.WaitForFrame n p l = begins_field (u16_fields b p) (omega arith) (λ x q m. begins_field (u8_fields b q) (omega arith) (λ y r i. flat_read r (omega arith)))
    fields_begins OpCode.SetTarget n p l = begins_field (string_fields k b p) (omega arith) (λ x q m. flat_read q (omega arith))
    fields_begins OpCode.GotoLabel n p l = begins_field (string_fields k b p) (omega arith) (λ x q m. flat_read q (omega arith))
    fields_begins OpCode.WaitForFrame2 n p l = begins_field (u8_fields b p) (omega arith) (λ x q m. flat_read q (omega arith))
    fields_begins OpCode.DefineFunction2 n p l =
        begins_field (string_fields k b p) (omega arith) (λ s q m. begins_field (counted_fields b _ (param_fields k b) q) (omega arith) (λ ps r i. begins_field (u8_fields b r) (omega arith) (λ g u j.
        begins_field (tested_fields _ (read_u16 b) (u16_fields b) u) (omega arith) (λ f v e. begins_then (h n v (omega arith)) (λ x w y. read {a = owner (DefineFunction2 s ps g f) x} {q = w} y)))))
    fields_begins OpCode.Try n p l = begins_field (tested_fields is_shape (read_u8 b) (u8_fields b) p) (omega arith) (λ shape q m. try_begins shape n q (omega arith))
    fields_begins OpCode.With n p l = begins_then (h n p l) (λ x q m. read {a = owner With x} {q = q} m)
    fields_begins OpCode.Push n p l = begins_field (counted_fields b _ (value_fields k b) p) (omega arith) (λ x q m. flat_read q (omega arith))
    fields_begins OpCode.Jump n p l = begins_field (label_fields k b 0 p) (omega arith) (λ x q m. branch_read q (omega arith))
    fields_begins OpCode.GetUrl2 n p l =
        begins_field (flag_fields b p) (omega arith) (λ x q m. begins_field (flag_fields b q) (omega arith) (λ y r i. begins_field (u8_fields b r) (omega arith) (λ z u j. flat_read u (omega arith))))
    fields_begins OpCode.DefineFunction n p l =
        begins_field (string_fields k b p) (omega arith) (λ s q m. begins_field (counted_fields b _ (string_fields k b) q) (omega arith) (λ ps r i.
        begins_then (h n r (omega arith)) (λ x w y. read {a = owner (DefineFunction s ps) x} {q = w} y)))
    fields_begins OpCode.If n p l = begins_field (label_fields k b 0 p) (omega arith) (λ x q m. branch_read q (omega arith))
    fields_begins OpCode.GotoFrame2 n p l = begins_field (u16_fields b p) (omega arith) (λ x q m. begins_field (flag_fields b q) (omega arith) (λ y r i. flat_read r (omega arith)))

    action_begins : (p : Place) → Begins count p.at (read_action k b inner p)
    unfolding read_action read_fields_if read_u8 if_whole
    action_begins p = opcode (leb (p.at + 1) (length b)) (get_or b p.at 0)
      where
        listed : (o : Option OpCode) → Begins count p.at (read_fields_if k b inner o p (placed (p.at + 1)))
        listed (some op) = fields_begins op p.at (placed (p.at + 1)) (omega arith)
        listed none = met {s = stop p} (omega arith)

        opcode : (t : Bool) (n : ℕ) → Begins count p.at (chain (if_whole t p n (placed (p.at + 1))) (λ n q. read_fields_if k b inner (opcode_of n) p q))
        opcode true n = listed (opcode_of n)
        opcode false n = met {s = stop p} (omega arith)

    actions_begins : (n : ℕ) (p : Place) → Begins counts p.at (read_actions k b inner n p)
    unfolding read_actions counts
    actions_begins zero p = read {a = empty} {q = p} (omega arith)
    actions_begins (suc n) p = begins_then (action_begins p) (λ a q l. begins_then (begins_behind (count a) (from a q l (actions_begins n q))) (λ xs r m. read {a = more a xs} {q = r} (omega arith)))
      where
        from : (a : ActionOf Text ℕ) (q : Place) {x : Read (ActionListOf Text ℕ)} → count a + p.at ≤ q.at → Begins counts q.at x → Begins counts (p.at + count a) x
        from a q l (read {a = xs} {q = r} h) = read {a = xs} {q = r} (omega arith)
        from a q l (met {s = s} h) = met {s = s} (omega arith)

    with_begins : (p : Place) → Begins body_count p.at (read_body_with k b inner p)
    unfolding read_body_with body_count
    with_begins p =
        begins_field (u16_fields b p) (omega arith) (λ m q l. begins_field (entries_fields k b m 0 q) (omega arith) (λ es r i. begins_field (u16_fields b r) (omega arith) (λ n s j.
        begins_then (from s (omega arith) (actions_begins n s)) (λ xs u e. read {a = body es xs} {q = u} (omega arith)))))
      where
        from : (s : Place) {x : Read (ActionListOf Text ℕ)} → p.at ≤ s.at → Begins counts s.at x → Begins counts p.at x
        from s l (read {a = xs} {q = r} h) = read {a = xs} {q = r} (omega arith)
        from s l (met {s = u} h) = met {s = u} (omega arith)

  -- behind the action that owns it
  inside : (n : ℕ) (q : Place) {x : Read (ActionsOf Text ℕ)} → n + 1 ≤ q.at → Begins body_count q.at x → Begins (λ x. 1 + body_count x) n (more_begun 1 x)
  inside n q l (read {a = x} {q = r} h) = read {a = x} {q = r} (omega arith)
  inside n q l (met {s = s} h) = met {s = record { at = s.at; begun = 1 + s.begun }} (omega arith)

  pub body_begins : (depth : ℕ) (p : Place) → Begins body_count p.at (read_body k b depth p)
  unfolding read_body
  body_begins zero p = met {s = stop p} (omega arith)
  body_begins (suc depth) p = with_begins (behind 1 (read_body k b depth)) (λ n q l. inside n q l (body_begins depth q)) p

  -- an action whose bodies are read so
  pub owner_begins : (depth : ℕ) (p : Place) → Begins count p.at (read_action k b (behind 1 (read_body k b depth)) p)
  owner_begins depth p = action_begins (behind 1 (read_body k b depth)) (λ n q l. inside n q l (body_begins depth q)) p

  -- a main body has no more actions than bytes
  pub main_begins : (depth : ℕ) → Begins body_count 0 (read_main k b depth)
  unfolding read_main if_nothing_left
  main_begins depth = begins_then (body_begins depth (placed 0)) (λ t p l. left t p l (eqb p.at (length b)))
    where
      left : (t : ActionsOf Text ℕ) (p : Place) → body_count t + 0 ≤ p.at → (z : Bool) → Begins body_count 0 (more_begun (body_count t) (if_nothing_left z t p))
      left t p l true = read {q = p} l
      left t p l false = met {s = record { at = p.at; begun = body_count t + 0 }} (omega arith)
