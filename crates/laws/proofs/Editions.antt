-- What two editions have in common: a sheet is answered the same in both, but where the one with the fewer label numbers refuses a
-- label number, which the sheet then names. Assumes nothing.
use Rattle.std.proofs.Math.Path.{◌≡◌, refl, sym, ap, subst}
use Rattle.std.proofs.Common.{◌∙◌, arith, ⊎_elim, length-append}
use Prim.Native.Nat.{ℕ, zero, suc, ◌+◌, ◌-◌, ◌/◌, ◌%◌, ◌≤◌, ◌<◌}
use Rattle.std.specs.Prelude.{Bool, ◌&&◌, ◌⊎◌, length, drop, eqb}
use Rattle.std.proofs.Math.Bool.{true, false}
use Rattle.std.proofs.Math.Logic.{inl, inr}
use Rattle.std.proofs.Math.Option.{Option, none, some}
use mathlib.Core.List.{List, [], ◌∷◌, ◌++◌}
use Rattle.std.proofs.Math.ListN.{take, length-drop}
use Rattle.std.proofs.Math.Seq.{take-append-le}
use Rattle.std.proofs.lemmas.List.{drop-append-le}
use Rattle.std.proofs.Math.Dec.{leb, ltb}
use borrow.Author.Tests.{leb-true, ltb-true, ltb-false}
use Rattle.layout.specs.Lists.{pick, first_with}
use Rattle.layout.specs.Numbers.{u16_at, u32_at, le16}
use Rattle.layout.specs.Answers.{BadField, Done}
use Rattle.layout.specs.OpCode.{OpCode, opcode_of}
use Rattle.layout.specs.PushKind.{PushKind, kind_of}
use Rattle.layout.specs.Tree.{String, function_param, CatchTargetOf, Variable, Entry, entry, ActionOf, branch, owner, Try, ActionListOf, more, ActionsOf, Actions, body, CatchOf, catch, FinallyOf, finally, count, body_count, catch_count}
use Rattle.layout.specs.Read.{Text, Words, Terms, edition1, edition2, deepest, Place, placed, Read, got, bad, ahead, Reader, chain, more_begun, behind, if_whole, if_within, if_nothing_left, tested, repeat, is_shape, has_catch, has_finally, has_register, read_u8, read_u16, read_counted, read_string, read_value_of, read_value_if, read_value, read_param, read_label, read_entries, read_catch_target, read_catch, read_finally, read_try, read_fields, read_fields_if, read_action, read_actions, read_body_with, read_body, read_main}
use Rattle.layout.specs.Strings.{map_body}
use Rattle.layout.specs.Judge.{Mode}
use Rattle.layout.specs.Cut.{Edition, First, Second, Third, edition_number, editions, edition_of, Cut, main, sheet_limit, trailer_distance, trailer_edition, is_marked, cut_if, cut_at, cut_if_trailer, cut_if_short, cut}
use Rattle.layout.specs.Book.{book_of}
use Rattle.layout.specs.Pack.{edition_terms, spelling, fault_action, pack_read, pack, ReadsAs}
use Rattle.layout.proofs.Order.{uncut_first, read_next, fault_next}
use Rattle.laws.proofs.Packed.{refused_done}
use Rattle.laws.specs.Editions.{ActionsNameUnder, Alike, Big, BodyNamesUnder, CatchNamesUnder, CutAlike, EntriesUnder, FinallyNamesUnder, LabelRefused, NamesUnder, body_named, faulty, mains, over, same, sheet_in, told, uncuts}

-- a chain of readings gives what its last gives
comes : {A B : Type 0} (x : Read A) (f : A → Reader B) {c : B} {r : Place} → chain x f ≡ got c r → (a : A) × (q : Place) × (f a q ≡ got c r)
comes (got a q) f e = (a, q, e)
comes (bad g q) f e =
    let z : ◌≡◌ {A = ℕ} 0 1 = cc in
    absurd (omega arith)

big_not : {A : Type 0} {under : A → Type 0} {a : A} {q : Place} → Big under (got a q) → under a → ⊥
big_not (told n) u = n u

got_same : {A : Type 0} {a c : A} {q r : Place} → got a q ≡ got c r → a ≡ c
got_same e = cc

-- what follows a reading that is big is big, where it tells of what was read
big_then : {A B : Type 0} {under : A → Type 0} {under' : B → Type 0} {y : Read A} (g : A → Reader B)
    → ((a : A) (q : Place) (c : B) (r : Place) → g a q ≡ got c r → under' c → under a) → Big under y → Big under' (chain y g)
big_then {under' = under'} g tells (told {a} {q} n) = go (g a q) refl
  where
    go : (z : Read _) → g a q ≡ z → Big under' z
    go (got c r) e = told (λ u. n (tells a q c r e u))
    go (bad f r) e = faulty
big_then g tells faulty = faulty

big_behind : {A : Type 0} {under : A → Type 0} {y : Read A} (n : ℕ) → Big under y → Big under (more_begun n y)
big_behind n (told h) = told h
big_behind n faulty = faulty

module _ {bound wider : ℕ} {b : List ℕ} where
  -- behind n actions
  alike_behind : {A : Type 0} {under : A → Type 0} {x y : Read A} (n : ℕ) → Alike bound wider b under x y → Alike bound wider b under (more_begun n x) (more_begun n y)
  alike_behind n same = same
  alike_behind n (over l u h) = over l u (big_behind n h)

  -- equal readings are
  alike_eq : {A : Type 0} {under : A → Type 0} {x y : Read A} → x ≡ y → Alike bound wider b under x y
  alike_eq {under = under} {x = x} e = subst (λ y. Alike bound wider b under x y) e same

  -- after the same reading
  alike_after : {A B : Type 0} {under' : B → Type 0} (x : Read A) {f g : A → Reader B} → ((a : A) (q : Place) → Alike bound wider b under' (f a q) (g a q)) → Alike bound wider b under' (chain x f) (chain x g)
  alike_after (got a q) h = h a q
  alike_after (bad e q) h = same

  -- after readings that are alike
  alike_then : {A B : Type 0} {under : A → Type 0} {under' : B → Type 0} {x y : Read A} {f g : A → Reader B} → Alike bound wider b under x y
      → ((a : A) (q : Place) → Alike bound wider b under' (f a q) (g a q)) → ((a : A) (q : Place) (c : B) (r : Place) → g a q ≡ got c r → under' c → under a)
      → Alike bound wider b under' (chain x f) (chain y g)
  alike_then {x = x} same h tells = alike_after x h
  alike_then {g = g} (over l u n) h tells = over l u (big_then g tells n)

  -- made into something that tells of it
  alike_made : {A B : Type 0} {under : A → Type 0} {under' : B → Type 0} {x y : Read A} (f : A → B) → ((a : A) → under' (f a) → under a) → Alike bound wider b under x y
      → Alike bound wider b under' (chain x (λ a q. got (f a) q)) (chain y (λ a q. got (f a) q))
  alike_made {under = under} {under' = under'} f tells h = alike_then h (λ a q. same) (λ a q c r e u. is a c (cc) u)
    where
      is : (a : _) (c : _) → f a ≡ c → under' c → under a
      is a c e u = tells a (rw e u)

-- ---- where two terms read each string alike, they read alike what has no label

repeat_same : {A : Type 0} (one other : Reader A) → ((p : Place) → one p ≡ other p) → (n : ℕ) (p : Place) → repeat one n p ≡ repeat other n p
unfolding repeat
repeat_same one other h zero p = refl
repeat_same one other h (suc n) p = rw (h p) (go (other p) (λ q. repeat_same one other h n q))
  where
    go : (x : Read _) → ((q : Place) → repeat one n q ≡ repeat other n q)
        → chain x (λ a q. chain (repeat one n q) (λ xs r. got (a ∷ xs) r)) ≡ chain x (λ a q. chain (repeat other n q) (λ xs r. got (a ∷ xs) r))
    go (got a q) again = ap (λ x. chain x (λ xs r. got (a ∷ xs) r)) (again q)
    go (bad f q) again = refl

module _ (k k' : Terms) (b : List ℕ) (string-same : (p : Place) → read_string k b p ≡ read_string k' b p) where
  counted_same : {A : Type 0} (one other : Reader A) → ((p : Place) → one p ≡ other p) → (p : Place) → read_counted b one p ≡ read_counted b other p
  unfolding read_counted
  counted_same one other h p = go (read_u16 b p)
    where
      go : (x : Read ℕ) → chain x (λ n q. repeat one n q) ≡ chain x (λ n q. repeat other n q)
      go (got n q) = repeat_same one other h n q
      go (bad f q) = refl

  param_same : (p : Place) → read_param k b p ≡ read_param k' b p
  unfolding read_param
  param_same p = go (read_u8 b p)
    where
      go : (x : Read ℕ) → chain x (λ r q. chain (read_string k b q) (λ s o. got (function_param r s) o)) ≡ chain x (λ r q. chain (read_string k' b q) (λ s o. got (function_param r s) o))
      go (got r q) = ap (λ y. chain y (λ s o. got (function_param r s) o)) (string-same q)
      go (bad f q) = refl

  value_same : (p : Place) → read_value k b p ≡ read_value k' b p
  unfolding read_value read_value_if read_value_of
  value_same p = go (read_u8 b p)
    where
      of : (o : Option PushKind) (q : Place) → read_value_if k b o p q ≡ read_value_if k' b o p q
      of none q = refl
      of (some PushKind.String) q = ap (λ y. chain y (λ s o. got (String s) o)) (string-same q)
      of (some PushKind.Null) q = refl
      of (some PushKind.Undefined) q = refl
      of (some PushKind.Register) q = refl
      of (some PushKind.Boolean) q = refl
      of (some PushKind.Float) q = refl
      of (some PushKind.Integer) q = refl
      of (some PushKind.Constant) q = refl

      go : (x : Read ℕ) → chain x (λ n q. read_value_if k b (kind_of n) p q) ≡ chain x (λ n q. read_value_if k' b (kind_of n) p q)
      go (got n q) = of (kind_of n) q
      go (bad f q) = refl

  target_same : (c r : Bool) (p : Place) → read_catch_target k b c r p ≡ read_catch_target k' b c r p
  unfolding read_catch_target
  target_same true true p = refl
  target_same true false p = ap (λ y. chain y (λ s o. got (Variable s) o)) (string-same p)
  target_same false r p = refl

-- ---- a whole main body, by fewer label numbers and by more

module _ (k k' : Terms) (wider : k.label_bound ≤ k'.label_bound) (b : List ℕ) (string-same : (p : Place) → read_string k b p ≡ read_string k' b p) where
  abbrev Like : {A : Type 0} → (A → Type 0) → Read A → Read A → Type 0
  Like under x y = Alike k.label_bound k'.label_bound b under x y

  -- after equal readings
  after_equal : {A B : Type 0} {under' : B → Type 0} {x y : Read A} {f g : A → Reader B} → x ≡ y → ((a : A) (q : Place) → Like under' (f a q) (g a q)) → Like under' (chain x f) (chain y g)
  after_equal e h = alike_then {under = λ _. Unit {0}} (alike_eq e) h (λ a q c r i u. tt)

  label_alike : (least : ℕ) (p : Place) → Like (λ l. l < k.label_bound) (read_label k b least p) (read_label k' b least p)
  unfolding read_label tested read_u16 if_whole if_within
  label_alike least p = whole (leb (p.at + 2) (length b))
    where
      l : ℕ
      l = u16_at b p.at

      big : (t : Bool) (q : Place) → k.label_bound ≤ l → Big (λ l. l < k.label_bound) (if_within t p l q)
      big true q h = told {a = l} (λ u. omega (arith, u, h))
      big false q h = faulty

      within : (s s' m : Bool) (q : Place) → ltb l k.label_bound ≡ s → ltb l k'.label_bound ≡ s' → Like (λ l. l < k.label_bound) (if_within (s && m) p l q) (if_within (s' && m) p l q)
      within true true m q e f = same
      within true false m q e f = absurd (omega (arith, wider, ltb-true l k.label_bound e, ltb-false l k'.label_bound f))
      within false true m q e f = over (ltb-false l k.label_bound e) (ltb-true l k'.label_bound f) (big m q (ltb-false l k.label_bound e))
      within false false m q e f = same

      whole : (t : Bool) → Like (λ l. l < k.label_bound) (chain (if_whole t p l (ahead 2 p)) (λ a q. if_within (ltb a k.label_bound && leb least a) p a q))
          (chain (if_whole t p l (ahead 2 p)) (λ a q. if_within (ltb a k'.label_bound && leb least a) p a q))
      whole true = within (ltb l k.label_bound) (ltb l k'.label_bound) (leb least l) (ahead 2 p) refl refl
      whole false = same

  entries_alike : (n least : ℕ) (p : Place) → Like (EntriesUnder k.label_bound) (read_entries k b n least p) (read_entries k' b n least p)
  unfolding read_entries
  entries_alike zero least p = same
  entries_alike (suc n) least p =
      alike_then (label_alike least p) (λ l q. alike_after (read_u16 b q) (λ i r. alike_made (λ es. entry l (record { index = i }) ∷ es) (λ es u. u.1) (entries_alike n (suc l) r)))
      (λ l q c r e u. let x = comes (read_u16 b q) _ e in let y = comes (read_entries k' b n (suc l) x.1) _ x.2 in first l (record { index = x.0 }) y.0 c (got_same y.2) u)
    where
      first : (l : ℕ) (i : _) (es c : List Entry) → entry l i ∷ es ≡ c → EntriesUnder k.label_bound c → l < k.label_bound
      first l i es c e u = (rw (← e) at u).0

  -- what stands behind an opcode, with the bodies that follow it
  module _ (inner inner' : Reader (ActionsOf Text ℕ)) (inner-alike : (p : Place) → Like (BodyNamesUnder k.label_bound) (inner p) (inner' p)) where
    catch_alike : (c : Bool) (t : CatchTargetOf Text) (p : Place) → Like (CatchNamesUnder k.label_bound) (read_catch k b inner c t p) (read_catch k' b inner' c t p)
    unfolding read_catch
    catch_alike true t p = alike_made (λ x. catch t x) (λ x u. u) (inner-alike p)
    catch_alike false t p = same

    finally_alike : (f : Bool) (p : Place) → Like (FinallyNamesUnder k.label_bound) (read_finally k b inner f p) (read_finally k' b inner' f p)
    unfolding read_finally
    finally_alike true p = alike_made (λ x. finally x) (λ x u. u) (inner-alike p)
    finally_alike false p = same

    try_alike : (shape : ℕ) (p : Place) → Like (NamesUnder k.label_bound) (read_try k b inner shape p) (read_try k' b inner' shape p)
    unfolding read_try
    try_alike shape p =
        after_equal (target_same k k' b string-same (has_catch shape) (has_register shape) p) (λ target q. alike_then (inner-alike q) (λ t r. alike_then (alike_behind (body_count t) (catch_alike (has_catch shape) target r))
        (λ c s. alike_made (λ f. Try t c f) (λ f u. u.2) (alike_behind (body_count t + catch_count c) (finally_alike (has_finally shape) s)))
        (λ c s x v e u. let z = comes (more_begun (body_count t + catch_count c) (read_finally k' b inner' (has_finally shape) s)) _ e in (is t c z.0 x (got_same z.2) u).1))
        (λ t r x v e u. let y = comes (more_begun (body_count t) (read_catch k' b inner' (has_catch shape) target r)) _ e in let z = comes (more_begun (body_count t + catch_count y.0) (read_finally k' b inner' (has_finally shape) y.1)) _ y.2 in (is t y.0 z.0 x (got_same z.2) u).0))
      where
        is : (t : ActionsOf Text ℕ) (c : CatchOf Text ℕ) (f : FinallyOf Text ℕ) (x : ActionOf Text ℕ) → Try t c f ≡ x → NamesUnder k.label_bound x → NamesUnder k.label_bound (Try t c f)
        is t c f x e u = rw (← e) at u

    fields_alike : (op : OpCode) (p : Place) → Like (NamesUnder k.label_bound) (read_fields k b inner op p) (read_fields k' b inner' op p)
    unfolding read_fields
    fields_alike (OpCode.Small op) p = same
    fields_alike OpCode.GotoFrame p = same
    fields_alike OpCode.GetUrl p = after_equal (string-same p) (λ u q. after_equal (string-same q) (λ t r. same))
    fields_alike OpCode.StoreRegister p = same
    fields_alike OpCode.ConstantPool p = after_equal (counted_same k k' b string-same (read_string k b) (read_string k' b) string-same p) (λ ss q. same)
    fields_alike OpCode.WaitForFrame p = same
    fields_alike OpCode.SetTarget p = after_equal (string-same p) (λ s q. same)
    fields_alike OpCode.GotoLabel p = after_equal (string-same p) (λ s q. same)
    fields_alike OpCode.WaitForFrame2 p = same
    fields_alike OpCode.DefineFunction2 p =
        after_equal (string-same p) (λ name q. after_equal (counted_same k k' b string-same (read_param k b) (read_param k' b) (param_same k k' b string-same) q) (λ ps r. alike_after (read_u8 b r)
        (λ n s. alike_after (tested (λ flags. ltb flags 512) (read_u16 b) s) (λ flags u. alike_made (λ x. owner _ x) (λ x v. v) (inner-alike u)))))
    fields_alike OpCode.Try p = alike_after (tested is_shape (read_u8 b) p) (λ shape q. try_alike shape q)
    fields_alike OpCode.With p = alike_made (λ x. owner _ x) (λ x u. u) (inner-alike p)
    fields_alike OpCode.Push p = after_equal (counted_same k k' b string-same (read_value k b) (read_value k' b) (value_same k k' b string-same) p) (λ vs q. same)
    fields_alike OpCode.Jump p = alike_made (λ l. branch _ l) (λ l u. u) (label_alike 0 p)
    fields_alike OpCode.GetUrl2 p = same
    fields_alike OpCode.DefineFunction p =
        after_equal (string-same p) (λ name q. after_equal (counted_same k k' b string-same (read_string k b) (read_string k' b) string-same q) (λ ps r. alike_made (λ x. owner _ x) (λ x u. u) (inner-alike r)))
    fields_alike OpCode.If p = alike_made (λ l. branch _ l) (λ l u. u) (label_alike 0 p)
    fields_alike OpCode.GotoFrame2 p = same

    action_alike : (p : Place) → Like (NamesUnder k.label_bound) (read_action k b inner p) (read_action k' b inner' p)
    unfolding read_action read_fields_if
    action_alike p = alike_after (read_u8 b p) (λ n q. go (opcode_of n) q)
      where
        go : (o : Option OpCode) (q : Place) → Like (NamesUnder k.label_bound) (read_fields_if k b inner o p q) (read_fields_if k' b inner' o p q)
        go (some op) q = fields_alike op q
        go none q = same

    actions_alike : (n : ℕ) (p : Place) → Like (ActionsNameUnder k.label_bound) (read_actions k b inner n p) (read_actions k' b inner' n p)
    unfolding read_actions
    actions_alike zero p = same
    actions_alike (suc n) p =
        alike_then (action_alike p) (λ a q. alike_made (λ xs. more a xs) (λ xs u. u.1) (alike_behind (count a) (actions_alike n q)))
        (λ a q c r e u. let y = comes (more_begun (count a) (read_actions k' b inner' n q)) _ e in first a y.0 c (got_same y.2) u)
      where
        first : (a : ActionOf Text ℕ) (xs c : ActionListOf Text ℕ) → more a xs ≡ c → ActionsNameUnder k.label_bound c → NamesUnder k.label_bound a
        first a xs c e u = (rw (← e) at u).0

    with_alike : (p : Place) → Like (BodyNamesUnder k.label_bound) (read_body_with k b inner p) (read_body_with k' b inner' p)
    unfolding read_body_with
    with_alike p =
        alike_after (read_u16 b p) (λ m q. alike_then (entries_alike m 0 q) (λ es r. alike_after (read_u16 b r) (λ n s. alike_made (λ xs. body es xs) (λ xs u. u.1) (actions_alike n s)))
        (λ es r c s e u. let x = comes (read_u16 b r) _ e in let y = comes (read_actions k' b inner' x.0 x.1) _ x.2 in first es y.0 c (got_same y.2) u))
      where
        first : (es : List Entry) (xs : ActionListOf Text ℕ) (c : ActionsOf Text ℕ) → body es xs ≡ c → BodyNamesUnder k.label_bound c → EntriesUnder k.label_bound es
        first es xs c e u = (rw (← e) at u).0

  body_alike : (depth : ℕ) (p : Place) → Like (BodyNamesUnder k.label_bound) (read_body k b depth p) (read_body k' b depth p)
  unfolding read_body
  body_alike zero p = same
  body_alike (suc depth) p = with_alike (behind 1 (read_body k b depth)) (behind 1 (read_body k' b depth)) (λ q. alike_behind 1 (body_alike depth q)) p

  -- so are the two readings of a main body
  pub main_alike : Like (BodyNamesUnder k.label_bound) (read_main k b deepest) (read_main k' b deepest)
  unfolding read_main
  main_alike = alike_then (body_alike deepest (placed 0)) (λ t p. same) (λ t p c r e u. left (eqb p.at (length b)) t p c r e u)
    where
      left : (z : Bool) (t : ActionsOf Text ℕ) (p : Place) (c : ActionsOf Text ℕ) (r : Place) → more_begun (body_count t) (if_nothing_left z t p) ≡ got c r → BodyNamesUnder k.label_bound c → BodyNamesUnder k.label_bound t
      left true t p c r e u =
          let i : t ≡ c = unfold if_nothing_left in got_same e in
          rw i u
      left false t p c r e u =
          let z : ◌≡◌ {A = ℕ} 0 1 = unfold if_nothing_left in cc in
          absurd (omega arith)

length_in : (i : Edition) (front mark : List ℕ) → length mark ≡ 2 → length (sheet_in i front mark) ≡ length front + 4
unfolding sheet_in le16
length_in i front mark h = length-append front (edition_number i % 256 ∷ edition_number i / 256 % 256 ∷ mark) ∙ omega (arith, h)

two_bytes : (l : List ℕ) → length l ≡ 2 → (x : ℕ) × (y : ℕ) × (l ≡ x ∷ y ∷ [])
two_bytes [] h = absurd (omega arith)
two_bytes (x ∷ []) h = absurd (omega arith)
two_bytes (x ∷ y ∷ []) h = (x, y, refl)
two_bytes (x ∷ y ∷ z ∷ l) h = absurd (omega arith)

four_bytes : (l : List ℕ) → length l ≡ 4 → (a : ℕ) × (b : ℕ) × (c : ℕ) × (d : ℕ) × (l ≡ a ∷ b ∷ c ∷ d ∷ [])
four_bytes [] h = absurd (omega arith)
four_bytes (a ∷ []) h = absurd (omega arith)
four_bytes (a ∷ b ∷ []) h = absurd (omega arith)
four_bytes (a ∷ b ∷ c ∷ []) h = absurd (omega arith)
four_bytes (a ∷ b ∷ c ∷ d ∷ []) h = (a, b, c, d, refl)
four_bytes (a ∷ b ∷ c ∷ d ∷ e ∷ l) h = absurd (omega arith)

module _ (i j : Edition) (front mark : List ℕ) (two : length mark ≡ 2) where
  part_same : (n d : ℕ) → n ≤ length front → d ≤ n → take d (drop (n - d) (sheet_in i front mark)) ≡ take d (drop (n - d) (sheet_in j front mark))
  unfolding sheet_in
  part_same n d h k = part i ∙ sym (part j)
    where
      part : (l : Edition) → take d (drop (n - d) (front ++ (le16 (edition_number l) ++ mark))) ≡ take d (drop (n - d) front)
      part l =
          ap (take d) (drop-append-le (n - d) front (le16 (edition_number l) ++ mark) (omega arith))
          ∙ take-append-le d (drop (n - d) front) (le16 (edition_number l) ++ mark) (simp length-drop (omega arith))

  if_alike : (z : Bool) (n d : ℕ) → n ≤ length front → (z ≡ true → d ≤ n) → CutAlike i j (cut_if z (some i) (sheet_in i front mark) n d) (cut_if z (some j) (sheet_in j front mark) n d)
  unfolding cut_if
  if_alike true n d h k = subst (λ (l : List ℕ). CutAlike i j (main i (n - d) l) (main j (n - d) (take d (drop (n - d) (sheet_in j front mark))))) (sym (part_same n d h (k refl))) mains
  if_alike false n d h k = uncuts

  -- the trailer, whose first byte stands behind n others
  at_alike : (n : ℕ) → n + 4 ≡ length front → CutAlike i j (cut_at (sheet_in i front mark) n) (cut_at (sheet_in j front mark) n)
  at_alike n h =
      let q = four_bytes (drop n front) (simp length-drop (omega arith)) in
      let m = two_bytes mark two in
      go q.0 q.1 q.2 q.3 q.4 m.0 m.1 m.2
    where
      go : (a b c d : ℕ) → drop n front ≡ a ∷ b ∷ c ∷ d ∷ [] → (x y : ℕ) → mark ≡ x ∷ y ∷ [] → CutAlike i j (cut_at (sheet_in i front mark) n) (cut_at (sheet_in j front mark) n)
      go a b c d e x y f = rw (at i, at j) (if_alike (marked && leb far n) n far (omega arith) (λ z. leb-true far n (right marked (leb far n) z)))
        where
          far : ℕ
          far = u32_at (a ∷ b ∷ c ∷ d ∷ []) 0

          marked : Bool
          marked = eqb x 0x41 && eqb y 0x31

          right : (s t : Bool) → (s && t) ≡ true → t ≡ true
          right true t e = e
          right false t e = cc

          is : (l : Edition) → drop n (sheet_in l front mark) ≡ a ∷ b ∷ c ∷ d ∷ (le16 (edition_number l) ++ (x ∷ y ∷ []))
          is l = unfold sheet_in in (drop-append-le n front (le16 (edition_number l) ++ mark) (omega arith) ∙ rw (e, f))

          at : (l : Edition) → cut_at (sheet_in l front mark) n ≡ cut_if (marked && leb far n) (some l) (sheet_in l front mark) n far
          at First = unfold cut_at is_marked trailer_distance trailer_edition edition_of editions edition_number first_with pick le16 in rw (is First)
          at Second = unfold cut_at is_marked trailer_distance trailer_edition edition_of editions edition_number first_with pick le16 in rw (is Second)
          at Third = unfold cut_at is_marked trailer_distance trailer_edition edition_of editions edition_number first_with pick le16 in rw (is Third)

  pub cut_alike : CutAlike i j (cut (sheet_in i front mark)) (cut (sheet_in j front mark))
  unfolding cut cut_if_short cut_if_trailer
  cut_alike = rw (length_in i front mark two, length_in j front mark two) (short (leb (length front + 4) sheet_limit))
    where
      trailer : (z : Bool) → leb 8 (length front + 4) ≡ z → CutAlike i j (cut_if_trailer z (sheet_in i front mark)) (cut_if_trailer z (sheet_in j front mark))
      trailer true e =
          rw (length_in i front mark two, length_in j front mark two) (at_alike (length front + 4 - 8) (omega (arith, leb-true 8 (length front + 4) e)))
      trailer false e = uncuts

      short : (z : Bool) → CutAlike i j (cut_if_short z (sheet_in i front mark)) (cut_if_short z (sheet_in j front mark))
      short true = rw (length_in i front mark two, length_in j front mark two) (trailer (leb 8 (length front + 4)) refl)
      short false = rw (length_in i front mark two, length_in j front mark two) uncuts

second_terms : (i : Edition) (o : Option Words) (k : Terms) → Second ≡ i → edition_terms i o ≡ some k → edition2 ≡ k
unfolding edition_terms
second_terms First o k e l =
    let z : ◌≡◌ {A = ℕ} 0 1 = cc in
    absurd (omega arith)
second_terms Second o k e l = cc
second_terms Third o k e l =
    let z : ◌≡◌ {A = ℕ} 0 1 = cc in
    absurd (omega arith)

module _ (m : Mode) (s s' book book' : List ℕ) (room start : ℕ) (b : List ℕ) (c : cut s ≡ main First start b) (c' : cut s' ≡ main Second start b) where
  none_under : {y : Read (ActionsOf Text ℕ)} → Big (BodyNamesUnder 1024) y → read_main edition2 b deepest ≡ y → (t : Actions) → ReadsAs s' book' t → BodyNamesUnder 1024 t → ⊥
  none_under {y} n f t h u = go h.edition h.start h.bytes h.terms h.read h.next h.is_cut h.is_lent h.is_read h.is_tree n
    where
      go : (i : Edition) (start' : ℕ) (b' : List ℕ) (k : Terms) (x : ActionsOf Text ℕ) (q : Place) → cut s' ≡ main i start' b' → edition_terms i (book_of book') ≡ some k
          → read_main k b' deepest ≡ got x q → map_body spelling x ≡ t → Big (BodyNamesUnder 1024) y → ⊥
      go i start' b' k x q d l r e n =
          let j : Second ≡ i = cc in
          let p : b ≡ b' = cc in
          let z : y ≡ got x q = sym f ∙ rw (second_terms i (book_of book') k j l, p) r in
          big_not (subst (Big (BodyNamesUnder 1024)) z n) (body_named 1024 spelling x (rw e u))

  by_reading : {x y : Read (ActionsOf Text ℕ)} → Alike 1024 4096 b (BodyNamesUnder 1024) x y → read_main edition1 b deepest ≡ x → read_main edition2 b deepest ≡ y
      → (pack m s book room ≡ pack m s' book' room) ⊎ LabelRefused m s s' book book' room
  unfolding edition_terms
  by_reading same e f = inl (read_next m s book room First start b edition1 c refl ∙ ap (λ x. pack_read m start x room) (e ∙ sym f) ∙ sym (read_next m s' book' room Second start b edition2 c' refl))
  by_reading (over {p} {y} l h n) e f =
      inr (record { start = start; bytes = b; place = p; is_cut = c; is_refused = unfold fault_action in fault_next m s book room First start b edition1 BadField p c (unfold edition_terms in refl) e; is_over = l; is_named = none_under n f })

-- neither edition looks at its book
module _ (m : Mode) (front mark : List ℕ) (two : length mark ≡ 2) (book book' : List ℕ) (room : ℕ) where
  abbrev s : List ℕ
  s = sheet_in First front mark

  abbrev s' : List ℕ
  s' = sheet_in Second front mark

  -- two sheets that differ only in the edition get the same answer and bytes, or edition 1 refuses a label number
  pub other_edition : (pack m s book room ≡ pack m s' book' room) ⊎ LabelRefused m s s' book book' room
  other_edition = by_cut (cut s) (cut s') refl refl (cut_alike First Second front mark two)
    where
      reading : (b : List ℕ) → Alike 1024 4096 b (BodyNamesUnder 1024) (read_main edition1 b deepest) (read_main edition2 b deepest)
      reading b = unfold edition1 edition2 in main_alike edition1 edition2 (omega arith) b (λ p. unfold read_string in refl)

      by_cut : (x y : Cut) → cut s ≡ x → cut s' ≡ y → CutAlike First Second x y → (pack m s book room ≡ pack m s' book' room) ⊎ LabelRefused m s s' book book' room
      by_cut x y e f (mains {start} {b}) = by_reading m s s' book book' room start b e f (reading b) refl refl
      by_cut x y e f (uncuts {r}) = inl (uncut_first m s book room r e ∙ sym (uncut_first m s' book' room r f))

  -- where edition 2 reads a tree that names no label from 1,024 on, they do
  pub same_under : (t : Actions) → ReadsAs s' book' t → BodyNamesUnder 1024 t → pack m s book room ≡ pack m s' book' room
  same_under t h u = ⊎_elim (λ e. e) (λ r. absurd (r.is_named t h u)) other_edition

  -- what edition 1 packs, edition 2 packs to the same bytes
  pub done_again : (q : List ℕ) → pack m s book room ≡ Done q → pack m s' book' room ≡ Done q
  done_again q e = ⊎_elim (λ k. sym k ∙ e) (λ r. refused_done (sym r.is_refused ∙ e)) other_edition
