-- One scan after another: laws by which a payload's scan is put together from its fields'. Assumes nothing.
use mathlib.Core.Path.{◌≡◌, refl, sym, ap, ◌∙◌}
use Prim.Native.Nat.{ℕ, zero, suc, ◌+◌, ◌/◌, ◌%◌, ◌≤◌, ◌<◌}
use native.Mathlib.Omega.{arith}
use mathlib.Core.Logic.{◌⊎◌, inl, inr}
use mathlib.Core.Bool.{Bool, true, false, ◌&&◌, ◌||◌, not}
use mathlib.Core.List.{List, [], ◌∷◌}
use lib.ListN.{length, get_or, take, drop}
use lib.Dec.{leb, ltb, eqb}
use borrow.Author.Tests.{lt-ltb, le-ltb, ltb-true, leb-false}
use native.Mathlib.Nat.{add-zero}
use Rattle.layout.specs.Lists.{each}
use Rattle.layout.specs.Numbers.{u16_at}
use Rattle.layout.specs.Answers as answers
use Rattle.layout.specs.Tree.{GotoFrame2, GetUrl, GetUrl2, WaitForFrame, DefineFunction, DefineFunction2, FunctionParamOf, function_param, CatchTargetOf, Variable, Register}
use Rattle.layout.specs.Read.{Text, Terms, Place, placed, stop, ahead, Read, got, bad, Reader, chain, if_whole, if_within, tested, repeat, read_u8, read_u16, read_bytes, read_flag, read_string, read_param, read_counted, is_shape, has_catch, has_register, read_catch_target}
use Rattle.layout.specs.Strings.{map_flat, map_owner, map_param}
use Rattle.layout.specs.Lengths.{total, payload_length, owner_length, string_length, param_length, goto_frame2_length}
use Rattle.layout.specs.Pack.{spelling}
use Rattle.laws.proofs.ReadFits.{good_got, flag_good}
use Rattle.positions.specs.declared.Fault.TheVariants as fault
use Rattle.std.specs.Prelude.{Result, Ok}
use Rattle.positions.specs.declared.Spot.{Spot}
use Rattle.positions.specs.declared.Stop.{Stop}
use Rattle.positions.specs.Scanned.{fault_of, stops_at, scanned, Roomy}
use Rattle.operands.specs.Operands.{string_size}
use Rattle.lists.specs.Elements.{read_named, named_size}
use Rattle.operands.proofs.Scans.{ends_is, ends, stops, from_spot, scanned_as, number_as}
use Rattle.operands.proofs.Reading as reading
use Rattle.action_fields.specs.Fields.{read_wait_for_frame, read_goto_frame2, flat_size, read_registers, owner_size, read_caught, target_size, caught_size}

-- the scan of a first part ended at a spot: what follows decides
pub then_ends : {A B : Type 0} (size : A → ℕ) (pos : ℕ) (t : B → ℕ) (p : ℕ) (x : Read B) (k : B → Reader A) {r : Result Spot Stop} {s : Spot} {r' : Result Spot Stop} → r ≡ scanned t p x → r ≡ Ok s
    → ((y : B) → x ≡ got y (placed s.at) → s.pos.0 ≡ p + t y → r' ≡ scanned size pos (k y (placed s.at))) → r' ≡ scanned size pos (chain x k)
then_ends size pos t p x k {s = s} {r' = r'} e f h =
    let i = ends_is t p x e f in
    go i.0 i.1 (h i.0 i.1 i.2)
  where
    go : (y : _) → x ≡ got y (placed s.at) → r' ≡ scanned size pos (k y (placed s.at)) → r' ≡ scanned size pos (chain x k)
    go y g m = m ∙ ap (λ z. scanned size pos (chain z k)) (sym g)

-- a string that was scanned is written in a byte or more
pub text_some : {r : Result Spot Stop} {t : Spot} (terms : Terms) (b : List ℕ) (p w : ℕ) → r ≡ scanned string_size w (read_string terms b (placed p)) → r ≡ Ok t → w + 1 ≤ t.pos.0
unfolding string_size string_length
text_some terms b p w e f = omega (arith, (ends_is string_size w (read_string terms b (placed p)) e f).2)

-- ---- payloads without a body

module _ (b : List ℕ) (at pos : ℕ) where
  pub wait_out : length b < at + 2 → read_wait_for_frame b (placed at) ≡ bad answers.CutShort (stop (placed at))
  unfolding read_wait_for_frame
  wait_out h = ap (λ z. chain z (λ n q. chain (read_u8 b q) (λ k r. got (WaitForFrame n k) r))) (reading.u16_out b at h)

  pub wait_in : {r : Result Spot Stop} {p : Spot} → at + 2 ≤ length b → (p.at ≡ at + 2) × (p.pos.0 ≡ pos + 3) → r ≡ scanned (λ _. 0) p.pos.0 (read_bytes b 1 (placed p.at))
      → r ≡ scanned flat_size pos (read_wait_for_frame b (placed at))
  unfolding read_wait_for_frame read_bytes read_u8 flat_size map_flat payload_length
  wait_in {p = p} h i e =
      from_spot (λ _. 0) (read_bytes b 1) i.0 refl e
      ∙ number_as _ _ _ _ _ _
      ∙ scanned_as flat_size pos (WaitForFrame (u16_at b at)) (λ _. 0) p.pos.0 (read_u8 b (placed (at + 2))) (λ k. omega (arith, i.1))
      ∙ ap (λ z. scanned flat_size pos (chain z (λ n q. chain (read_u8 b q) (λ k r. got (WaitForFrame n k) r)))) (sym (reading.u16_in b at h))

  pub goto_out : length b < at + 2 → read_goto_frame2 b (placed at) ≡ bad answers.CutShort (stop (placed at))
  unfolding read_goto_frame2
  goto_out h = ap (λ z. chain z (λ n q. chain (read_flag b q) (λ k r. got (GotoFrame2 n k) r))) (reading.u16_out b at h)

  pub goto_in : {r : Result Spot Stop} {p : Spot} (n m : ℕ) → (at + 2 ≤ length b) × (n ≡ u16_at b at) × (n < 65536) → m ≡ goto_frame2_length n → (p.at ≡ at + 2) × (p.pos.0 ≡ pos + m)
      → r ≡ scanned (λ _. 0) p.pos.0 (read_flag b (placed p.at)) → r ≡ scanned flat_size pos (read_goto_frame2 b (placed at))
  unfolding read_goto_frame2 flat_size map_flat payload_length
  goto_in {p = p} n m h f i e =
      from_spot (λ _. 0) (read_flag b) i.0 refl e
      ∙ scanned_as flat_size pos (GotoFrame2 (u16_at b at)) (λ _. 0) p.pos.0 (read_flag b (placed (at + 2))) (λ k. omega (arith, f, i.1, ap goto_frame2_length h.1))
      ∙ ap (λ z. scanned flat_size pos (chain z (λ n q. chain (read_flag b q) (λ k r. got (GotoFrame2 n k) r)))) (sym (reading.u16_in b at h.0))

module _ (b : List ℕ) (pos : ℕ) where
  -- GetUrl2: after the two flags, the method is measured as the whole
  pub url_2_in : {r : Result Spot Stop} {p : Spot} (v t : Bool) (w q : ℕ) → w ≡ pos → (p.at ≡ q + 0) × (p.pos.0 ≡ w + 1) → r ≡ scanned (λ _. 0) p.pos.0 (read_bytes b 1 (placed p.at))
      → r ≡ scanned flat_size pos (chain (read_u8 b (placed q)) (λ m u. got (GetUrl2 v t m) u))
  unfolding read_bytes read_u8 flat_size map_flat payload_length
  url_2_in {p = p} v t w q f i e =
      from_spot (λ _. 0) (read_bytes b 1) (omega (arith, i.0)) refl e
      ∙ number_as _ _ _ _ _ _
      ∙ scanned_as flat_size pos (GetUrl2 v t) (λ _. 0) p.pos.0 (read_u8 b (placed q)) (λ m. omega (arith, i.1))

  -- GetUrl: after the first string
  pub url_in : {r : Result Spot Stop} (terms : Terms) (s : Text) (w q : ℕ) → w ≡ pos + string_size s → r ≡ scanned string_size w (read_string terms b (placed q))
      → r ≡ scanned flat_size pos (chain (read_string terms b (placed q)) (λ t u. got (GetUrl s t) u))
  unfolding flat_size map_flat payload_length string_size string_length
  url_in terms s w q f e = e ∙ scanned_as flat_size pos (GetUrl s) string_size w (read_string terms b (placed q)) (λ t. omega (arith, f))

-- ---- lists of strings and of parameters, as the code scans them

pub total_each : {A B : Type 0} (g : A → B) (v : B → ℕ) (l : List A) → total v (each g l) ≡ total (λ x. v (g x)) l
unfolding each total
total_each g v [] = refl
total_each g v (x ∷ l) = ap (λ n. v (g x) + n) (total_each g v l)

-- a reader r' that gives g of what r gives, repeated
module _ {A B : Type 0} (g : A → B) (r : Reader A) (r' : Reader B) (alike : (p : Place) → r' p ≡ chain (r p) (λ a q. got (g a) q)) where
  repeat_as : (n : ℕ) (p : Place) → repeat r' n p ≡ chain (repeat r n p) (λ xs q. got (each g xs) q)
  unfolding repeat each
  repeat_as zero p = refl
  repeat_as (suc n) p = rw (alike p) (go (r p) (λ q. repeat_as n q))
    where
      rest : (a : A) (x : Read (List A)) → chain (chain x (λ xs q. got (each g xs) q)) (λ ys u. got (g a ∷ ys) u) ≡ chain (chain x (λ xs u. got (a ∷ xs) u)) (λ xs q. got (each g xs) q)
      rest a (got xs q) = unfold each in refl
      rest a (bad f q) = refl

      go : (x : Read A) → ((q : Place) → repeat r' n q ≡ chain (repeat r n q) (λ xs q. got (each g xs) q))
          → chain (chain x (λ a q. got (g a) q)) (λ y q. chain (repeat r' n q) (λ ys u. got (y ∷ ys) u))
          ≡ chain (chain x (λ a q. chain (repeat r n q) (λ xs u. got (a ∷ xs) u))) (λ xs q. got (each g xs) q)
      go (got a q) h = rw (h q) (rest a (repeat r n q))
      go (bad f q) h = refl

  counted_as : (b : List ℕ) (p : Place) → read_counted b r' p ≡ chain (read_counted b r p) (λ xs q. got (each g xs) q)
  unfolding read_counted
  counted_as b p = go (read_u16 b p)
    where
      go : (x : Read ℕ) → chain x (λ n q. repeat r' n q) ≡ chain (chain x (λ n q. repeat r n q)) (λ xs q. got (each g xs) q)
      go (got n q) = repeat_as n q
      go (bad f q) = refl

  -- measured as the code measures it
  pub scanned_list : (b : List ℕ) (v : B → ℕ) (w : ℕ) (p : Place) → scanned (total v) w (read_counted b r' p) ≡ scanned (total (λ x. v (g x))) w (read_counted b r p)
  scanned_list b v w p =
      ap (scanned (total v) w) (counted_as b p)
      ∙ sym (scanned_as (total v) w (each g) (total (λ x. v (g x))) w (read_counted b r p) (λ xs. ap (λ n. w + n) (total_each g v xs)))

same_text : (x : Read Text) → x ≡ chain x (λ s q. got s q)
same_text (got s q) = refl
same_text (bad f q) = refl

abbrev name_of : FunctionParamOf Text → Text
name_of (function_param r s) = s

-- a string after no byte is a string
module _ (terms : Terms) (b : List ℕ) where
  plain_if : (p : Place) (t : Bool) → leb (p.at + 0) (length b) ≡ t
      → chain (if_whole t p (take 0 (drop p.at b)) (ahead 0 p)) (λ s q. read_string terms b q) ≡ chain (read_string terms b p) (λ s q. got s q)
  unfolding if_whole
  plain_if p true h = ap (λ (n : ℕ). read_string terms b (placed n)) (add-zero p.at) ∙ same_text (read_string terms b p)
  plain_if p false h = sym (ap (λ x. chain x (λ s q. got s q)) (reading.string_out terms b p.at (omega (arith, leb-false (p.at + 0) (length b) h))))

  pub named_plain : (p : Place) → read_named terms b 0 p ≡ chain (read_string terms b p) (λ s q. got s q)
  unfolding read_named read_bytes
  named_plain p = plain_if p (leb (p.at + 0) (length b)) refl

  -- and after one byte, a parameter's name
  named_param : (p : Place) → read_named terms b 1 p ≡ chain (read_param terms b p) (λ x q. got (name_of x) q)
  unfolding read_named read_bytes read_param read_u8
  named_param p = go (leb (p.at + 1) (length b))
    where
      last : (r : ℕ) (x : Read Text) → x ≡ chain (chain x (λ s q. got (function_param r s) q)) (λ x q. got (name_of x) q)
      last r (got s q) = refl
      last r (bad f q) = refl

      go : (t : Bool) → chain (if_whole t p (take 1 (drop p.at b)) (ahead 1 p)) (λ s q. read_string terms b q)
          ≡ chain (chain (if_whole t p (get_or b p.at 0) (ahead 1 p)) (λ r q. chain (read_string terms b q) (λ s u. got (function_param r s) u))) (λ x q. got (name_of x) q)
      go true = unfold if_whole in last (get_or b p.at 0) (read_string terms b (ahead 1 p))
      go false = unfold if_whole in refl

-- ---- functions

pub strings_total : (ss : List Text) → total (λ s. named_size 0 s) ss ≡ total string_length (each spelling ss)
unfolding total each named_size string_size
strings_total [] = refl
strings_total (s ∷ ss) = omega (arith, strings_total ss)

params_total : (ps : List (FunctionParamOf Text)) → total (λ x. named_size 1 (name_of x)) ps ≡ total param_length (each (map_param spelling) ps)
unfolding total each named_size string_size string_length map_param param_length
params_total [] = refl
params_total (function_param r s ∷ ps) = omega (arith, params_total ps)

-- the code scans the parameters from a position w on: that of a function without any
module _ (terms : Terms) (b : List ℕ) (pos : ℕ) (s : Text) (w q : ℕ) where
  pub function_in : {r : Result Spot Stop} (p : Spot) → w ≡ pos + string_size s → (p.at ≡ q + 0) × (p.pos.0 ≡ w + 4) → r ≡ scanned (total (named_size 0)) p.pos.0 (read_counted b (read_named terms b 0) (placed p.at))
      → r ≡ scanned owner_size pos (chain (read_counted b (read_string terms b) (placed q)) (λ ps u. got (DefineFunction s ps) u))
  unfolding owner_size map_owner owner_length string_size string_length
  function_in p f i e =
      from_spot (total (named_size 0)) (read_counted b (read_named terms b 0)) (omega (arith, i.0)) refl e
      ∙ scanned_list (λ s. s) (read_string terms b) (read_named terms b 0) (named_plain terms b) b (named_size 0) p.pos.0 (placed q)
      ∙ scanned_as owner_size pos (DefineFunction s) (total (λ s. named_size 0 s)) p.pos.0 (read_counted b (read_string terms b) (placed q)) (λ ps. omega (arith, strings_total ps, f, i.1))

  -- the parameters, as the code scans them
  pub params_scan : {r : Result Spot Stop} (p : Spot) → p.at ≡ q + 0 → r ≡ scanned (total (named_size 1)) p.pos.0 (read_counted b (read_named terms b 1) (placed p.at))
      → r ≡ scanned (total (λ x. named_size 1 (name_of x))) p.pos.0 (read_counted b (read_param terms b) (placed q))
  params_scan p i e =
      from_spot (total (named_size 1)) (read_counted b (read_named terms b 1)) (omega (arith, i)) refl e
      ∙ scanned_list name_of (read_param terms b) (read_named terms b 1) (named_param terms b) b (named_size 1) p.pos.0 (placed q)

module _ (b : List ℕ) (pos : ℕ) (s : Text) (w : ℕ) where
  -- DefineFunction2's registers and flags come after its parameters
  pub function_2_in : (ps : List (FunctionParamOf Text)) (x u : ℕ) {r : Result Spot Stop} → w ≡ pos + string_size s → x ≡ w + 7 + total (λ x. named_size 1 (name_of x)) ps
      → r ≡ scanned (λ _. 0) x (read_registers b (placed u))
      → r ≡ scanned owner_size pos (chain (read_u8 b (placed u)) (λ k v. chain (tested (λ f. ltb f 512) (read_u16 b) v) (λ f z. got (DefineFunction2 s ps k f) z)))
  unfolding owner_size map_owner owner_length string_size string_length read_registers
  function_2_in ps x u f g e =
      e
      ∙ scanned_as owner_size pos (λ (y : ℕ × ℕ). DefineFunction2 s ps y.0 y.1) (λ _. 0) x (read_registers b (placed u)) (λ y. omega (arith, params_total ps, f, g))
      ∙ ap (scanned owner_size pos) (regroup (read_u8 b (placed u)))
    where
      inner : (k : ℕ) (x : Read ℕ) → chain (chain {B = ℕ × ℕ} x (λ f z. got (k, f) z)) (λ y z. got (DefineFunction2 s ps y.0 y.1) z) ≡ chain x (λ f z. got (DefineFunction2 s ps k f) z)
      inner k (got f z) = refl
      inner k (bad f z) = refl

      regroup : (x : Read ℕ) → chain (chain {B = ℕ × ℕ} x (λ k v. chain (tested (λ f. ltb f 512) (read_u16 b) v) (λ f z. got (k, f) z))) (λ y z. got (DefineFunction2 s ps y.0 y.1) z)
          ≡ chain x (λ k v. chain (tested (λ f. ltb f 512) (read_u16 b) v) (λ f z. got (DefineFunction2 s ps k f) z))
      regroup (got k v) = inner k (tested (λ f. ltb f 512) (read_u16 b) v)
      regroup (bad f v) = refl

-- ---- registers and flags

module _ (b : List ℕ) (at pos : ℕ) where
  pub registers_out : length b < at + 1 → read_registers b (placed at) ≡ bad answers.CutShort (stop (placed at))
  unfolding read_registers
  registers_out h = ap (λ z. chain {B = ℕ × ℕ} z (λ k v. chain (tested (λ f. ltb f 512) (read_u16 b) v) (λ f z. got (k, f) z))) (reading.u8_out b at h)

  module _ (h : at + 1 ≤ length b) where
    registers_if : (x : Read ℕ) → tested (λ f. ltb f 512) (read_u16 b) (placed (at + 1)) ≡ x → read_registers b (placed at) ≡ chain x (λ f z. got (get_or b at 0, f) z)
    unfolding read_registers
    registers_if x e = rw (reading.u8_in b at h, e)

    pub flags_out : length b < at + 1 + 2 → read_registers b (placed at) ≡ bad answers.CutShort (stop (placed (at + 1)))
    unfolding tested
    flags_out l = registers_if (bad answers.CutShort (stop (placed (at + 1)))) (rw (reading.u16_out b (at + 1) l))

    module _ (n : ℕ) (l : (at + 1 + 2 ≤ length b) × (n ≡ u16_at b (at + 1)) × (n < 65536)) where
      pub flags_big : 511 < n → stops_at (at + 1) fault.BadField ≡ scanned (λ _. 0) pos (read_registers b (placed at))
      unfolding fault_of tested if_within
      flags_big k =
          let m : 512 ≤ u16_at b (at + 1) = omega (arith, l.1) in
          stops _ pos (registers_if (bad answers.BadField (stop (placed (at + 1)))) (rw (reading.u16_in b (at + 1) l.0, le-ltb (u16_at b (at + 1)) 512 m)))

      pub flags_in : {s : Spot} → n ≤ 511 → (s.at ≡ at + 3) × (s.pos.0 ≡ pos + 0) → Ok s ≡ scanned (λ _. 0) pos (read_registers b (placed at))
      unfolding tested if_within
      flags_in k i =
          let m : u16_at b (at + 1) < 512 = omega (arith, l.1) in
          ends _ pos (registers_if (got (u16_at b (at + 1)) (placed (at + 1 + 2))) (rw (reading.u16_in b (at + 1) l.0, lt-ltb (u16_at b (at + 1)) 512 m))) (omega (arith, i.0)) i.1

-- ---- a Try's shape and target

module _ (terms : Terms) (b : List ℕ) (at pos : ℕ) where
  pub caught_out : length b < at + 1 → read_caught terms b (placed at) ≡ bad answers.CutShort (stop (placed at))
  unfolding read_caught tested
  caught_out h = rw (reading.u8_out b at h)

  -- the code holds the shape in m
  module _ (m : ℕ) (h : (at + 1 ≤ length b) × (m ≡ get_or b at 0)) where
    caught_if : (n : ℕ) (c r : Bool) → m ≡ n → is_shape n ≡ true → has_catch n ≡ c → has_register n ≡ r
        → read_caught terms b (placed at) ≡ chain (read_catch_target terms b c r (placed (at + 1))) (λ t q. got (n, t) q)
    unfolding read_caught tested if_within
    caught_if n c r e s i j =
        let f : get_or b at 0 ≡ n = sym h.1 ∙ e in
        rw (reading.u8_in b at h.0, f, s, i, j)

    -- no catch: one zero byte
    pub caught_none : {s : Spot} → (m ≡ 0) ⊎ (m ≡ 2) → (s.at ≡ at + 1) × (s.pos.0 ≡ pos + 8) → Ok s ≡ scanned caught_size pos (read_caught terms b (placed at))
    unfolding read_catch_target caught_size target_size string_size string_length spelling is_shape has_catch has_register
    caught_none (inl e) i = ends caught_size pos (caught_if 0 false _ e refl refl refl) i.0 i.1
    caught_none (inr e) i = ends caught_size pos (caught_if 2 false _ e refl refl refl) i.0 i.1

    -- a name
    pub caught_name : {r : Result Spot Stop} {p : Spot} → (m ≡ 1) ⊎ (m ≡ 3) → (p.at ≡ at + 1) × (p.pos.0 ≡ pos + 7)
        → r ≡ scanned string_size p.pos.0 (read_string terms b (placed p.at)) → r ≡ scanned caught_size pos (read_caught terms b (placed at))
    unfolding read_catch_target caught_size target_size is_shape has_catch has_register
    caught_name {r} {p} o i f = go o
      where
        regroup : (n : ℕ) (x : Read Text) → chain {B = ℕ × CatchTargetOf Text} (chain {B = CatchTargetOf Text} x (λ t q. got (Variable t) q)) (λ t q. got (n, t) q) ≡ chain x (λ t q. got (n, Variable t) q)
        regroup n (got t q) = refl
        regroup n (bad f q) = refl

        shaped : (n : ℕ) → read_caught terms b (placed at) ≡ chain (read_catch_target terms b true false (placed (at + 1))) (λ t q. got (n, t) q) → r ≡ scanned caught_size pos (read_caught terms b (placed at))
        shaped n e =
            from_spot string_size (read_string terms b) i.0 refl f
            ∙ scanned_as caught_size pos (λ t. (n, Variable t)) string_size p.pos.0 (read_string terms b (placed (at + 1))) (λ t. omega (arith, i.1))
            ∙ ap (scanned caught_size pos) (sym (e ∙ regroup n (read_string terms b (placed (at + 1)))))

        go : (m ≡ 1) ⊎ (m ≡ 3) → r ≡ scanned caught_size pos (read_caught terms b (placed at))
        go (inl e) = shaped 1 (caught_if 1 true false e refl refl refl)
        go (inr e) = shaped 3 (caught_if 3 true false e refl refl refl)

    -- a register
    pub caught_register : {r : Result Spot Stop} {p : Spot} → (m ≡ 5) ⊎ (m ≡ 7) → (p.at ≡ at + 1) × (p.pos.0 ≡ pos + 8)
        → r ≡ scanned (λ _. 0) p.pos.0 (read_bytes b 1 (placed p.at)) → r ≡ scanned caught_size pos (read_caught terms b (placed at))
    unfolding read_catch_target caught_size target_size read_bytes read_u8 is_shape has_catch has_register
    caught_register {r} {p} o i f = go o
      where
        regroup : (n : ℕ) (x : Read ℕ) → chain {B = ℕ × CatchTargetOf Text} (chain {B = CatchTargetOf Text} x (λ t q. got (Register t) q)) (λ t q. got (n, t) q) ≡ chain x (λ t q. got (n, Register t) q)
        regroup n (got t q) = refl
        regroup n (bad f q) = refl

        shaped : (n : ℕ) → read_caught terms b (placed at) ≡ chain (read_catch_target terms b true true (placed (at + 1))) (λ t q. got (n, t) q) → r ≡ scanned caught_size pos (read_caught terms b (placed at))
        shaped n e =
            from_spot (λ _. 0) (read_bytes b 1) i.0 refl f
            ∙ number_as _ _ _ _ _ _
            ∙ scanned_as caught_size pos (λ t. (n, Register t)) (λ _. 0) p.pos.0 (read_u8 b (placed (at + 1))) (λ t. omega (arith, i.1))
            ∙ ap (scanned caught_size pos) (sym (e ∙ regroup n (read_u8 b (placed (at + 1)))))

        go : (m ≡ 5) ⊎ (m ≡ 7) → r ≡ scanned caught_size pos (read_caught terms b (placed at))
        go (inl e) = shaped 5 (caught_if 5 true true e refl refl refl)
        go (inr e) = shaped 7 (caught_if 7 true true e refl refl refl)

    pub caught_bad : is_shape m ≡ false → stops_at at fault.BadField ≡ scanned caught_size pos (read_caught terms b (placed at))
    unfolding read_caught tested if_within fault_of
    caught_bad s =
        let f : is_shape (get_or b at 0) ≡ false = rw (← h.1) s in
        stops caught_size pos {g = answers.BadField} {q = at} (rw (reading.u8_in b at h.0, f))

-- ---- where the next field starts after a flag

pub flag_after : (b : List ℕ) (s : Spot) {r : Result Spot Stop} {t : Spot} → Roomy b s.at s.pos → r ≡ scanned (λ _. 0) s.pos.0 (read_flag b (placed s.at)) → r ≡ Ok t
    → Roomy b t.at t.pos × (t.pos.0 ≡ s.pos.0)
flag_after b s {t = t} h e f =
    let k = ends_is (λ _. 0) s.pos.0 (read_flag b (placed s.at)) e f in
    let g = good_got k.0 (placed t.at) (flag_good b h.bytes (placed s.at) h.inside) k.1 in
    (record { bytes = h.bytes; inside = g.1; room = omega (arith, h.room, h.inside, g.0, g.1, k.2) }, omega (arith, k.2))

-- a number that is none of the six shapes
pub no_shape : (n : ℕ) → ((n ≡ 0) ⊎ (n ≡ 2) → ⊥) → ((n ≡ 1) ⊎ (n ≡ 3) → ⊥) → ((n ≡ 5) ⊎ (n ≡ 7) → ⊥) → is_shape n ≡ false
unfolding is_shape has_catch has_register
no_shape n none name register = go (ltb n 8) refl
  where
    eight : (n : ℕ) → n < 8 → ((n ≡ 0) ⊎ (n ≡ 2) → ⊥) → ((n ≡ 1) ⊎ (n ≡ 3) → ⊥) → ((n ≡ 5) ⊎ (n ≡ 7) → ⊥) → (not (eqb (n / 4 % 2) 1) || eqb (n % 2) 1) ≡ false
    eight zero h none name register = absurd (none (inl refl))
    eight (suc zero) h none name register = absurd (name (inl refl))
    eight (suc (suc zero)) h none name register = absurd (none (inr refl))
    eight (suc (suc (suc zero))) h none name register = absurd (name (inr refl))
    eight (suc (suc (suc (suc zero)))) h none name register = refl
    eight (suc (suc (suc (suc (suc zero))))) h none name register = absurd (register (inl refl))
    eight (suc (suc (suc (suc (suc (suc zero)))))) h none name register = refl
    eight (suc (suc (suc (suc (suc (suc (suc zero))))))) h none name register = absurd (register (inr refl))
    eight (suc (suc (suc (suc (suc (suc (suc (suc n)))))))) h none name register = absurd (omega (arith, h))

    go : (t : Bool) → ltb n 8 ≡ t → (t && (not (eqb (n / 4 % 2) 1) || eqb (n % 2) 1)) ≡ false
    go true h = eight n (ltb-true n 8 h) none name register
    go false h = refl
