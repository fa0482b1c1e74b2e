-- What reading makes sure of: its places lie within what is read, the fields of a tree that was read fit, and it is written
-- in at most three bytes for each byte read. Assumes nothing.
use Rattle.std.specs.Prelude.{◌≡◌, Bool, get_or, drop, leb, eqb}
use Rattle.std.proofs.Math.Path.{refl, ap}
use Rattle.std.proofs.Common.{sym, ◌∙◌, subst, length-take, length-drop}
use Prim.Native.Nat.{ℕ, zero, suc, ◌+◌, ◌*◌, ◌≤◌, ◌<◌}
use native.Mathlib.Omega.{arith}
use Rattle.std.proofs.Math.Bool.{true, false}
use Rattle.std.proofs.Math.Option.{Option, none, some, none-ne-some}
use mathlib.Core.List.{List, [], ◌∷◌}
use Rattle.std.proofs.Math.ListN.{length}
use Rattle.std.proofs.Math.Dec.{ltb}
use borrow.Author.Tests.{ltb-true, leb-true, eqb-true}
use Rattle.layout.specs.Lists.{All, each, pick}
use Rattle.layout.proofs.Lists.{first_with_lem, all_take, all_drop}
use Rattle.layout.specs.Numbers.{le16}
use Rattle.layout.specs.Answers.{Fault}
use Rattle.layout.specs.OpCode.{OpCode, byte, opcodes, opcode_of}
use Rattle.layout.specs.PushKind.{PushKind, kind_of}
use Rattle.layout.specs.Tree.{PushValueOf, String, Null, Undefined, Register, Boolean, Float, Integer, Constant, FlatOf, Small, GotoFrame, GetUrl, StoreRegister, ConstantPool, WaitForFrame, SetTarget, GotoLabel, WaitForFrame2, Push, GetUrl2, GotoFrame2, With, DefineFunction, DefineFunction2, Jump, If, CatchTarget, CatchTargetOf, Variable, ActionOf, flat, branch, owner, Try, empty, Actions, ActionsOf, no_catch, catch, no_finally, count, body_count, catch_count}
use Rattle.layout.specs.Read.{Text, plain, Terms, Place, ahead, Stop, stop, Read, got, bad, Reader, chain, more_begun, behind, if_whole, if_within, tested, repeat, first_zero, if_no_zero, if_nothing_left, read_u8, read_u16, read_u32, read_u64, read_bytes, read_flag, read_spelling, read_counted, is_shape, read_string, read_value_of, read_value_if, read_value, read_param, read_label, read_entries, read_catch_target, read_catch, read_finally, read_try, read_fields, read_fields_if, read_action, read_actions, read_body_with, read_body, read_main}
use Rattle.layout.specs.Strings.{map_value, map_param, map_flat, map_owner, map_target, map_action, map_actions, map_body, map_catch, map_finally}
use Rattle.layout.specs.Payload.{opcode, payload, headed, framed}
use Rattle.layout.specs.Write.{size, sizes, body_size, catch_size, finally_size}
use Rattle.layout.specs.Lengths.{total, string_length, param_length, push_length, goto_frame2_length, payload_length, owner_length, name_length}
use Rattle.layout.proofs.Lengths.{length_payload, length-owner_fields, length-catch_name}
use Rattle.laws.specs.Fits.{Bytes, Clean, ValueFits, ParamFits, Listed, FlatFits, TargetFits, NameFits, Well, WellActions, WellBody, WellCatch, WellFinally}
use Rattle.laws.specs.ReadFits.{Good, Spells, fine, refused}

module _ {n : ℕ} {A : Type 0} {P : A → Place → Type 0} where
  good_whole : (t : Bool) (p : Place) (a : A) (q : Place) → p.at ≤ n → (t ≡ true → P a q × (q.at ≤ n)) → Good n P (if_whole t p a q)
  unfolding if_whole
  good_whole true p a q l h = fine (h refl).0 (h refl).1
  good_whole false p a q l h = refused l

  good_within : (t : Bool) (o : Place) (a : A) (q : Place) → o.at ≤ n → q.at ≤ n → (t ≡ true → P a q) → Good n P (if_within t o a q)
  unfolding if_within
  good_within true o a q k l h = fine (h refl) l
  good_within false o a q k l h = refused k

  pub good_then : {B : Type 0} {Q : B → Place → Type 0} {m : Read B} {k : B → Reader A} → Good n Q m
      → ((b : B) (q : Place) → Q b q → q.at ≤ n → Good n P (k b q)) → Good n P (chain m k)
  good_then (fine h l) f = f _ _ h l
  good_then (refused l) f = refused l

  -- the same behind k actions
  pub good_behind : {m : Read A} (k : ℕ) → Good n P m → Good n P (more_begun k m)
  good_behind k (fine h l) = fine h l
  good_behind k (refused l) = refused l

  -- a weaker property
  pub good_as : {Q : A → Place → Type 0} {m : Read A} → Good n Q m → ((a : A) (q : Place) → Q a q → P a q) → Good n P m
  good_as (fine h l) f = fine (f _ _ h) l
  good_as (refused l) f = refused l

  -- what is known of a reading that gave a value
  pub good_got : {r : Read A} (a : A) (p : Place) → Good n P r → r ≡ got a p → P a p × (p.at ≤ n)
  good_got {r} a p h e = go (subst (Good n P) e h)
    where
      go : Good n P (got a p) → P a p × (p.at ≤ n)
      go (fine k l) = (k, l)

  -- and of one that met a fault
  pub good_bad : {r : Read A} (f : Fault) (p : Stop) → Good n P r → r ≡ bad f p → p.at ≤ n
  good_bad {r} f p h e = go (subst (Good n P) e h)
    where
      go : Good n P (bad f p) → p.at ≤ n
      go (refused l) = l

-- ---- lists

pub length_each : {A B : Type 0} (f : A → B) (l : List A) → length (each f l) ≡ length l
unfolding each
length_each f [] = refl
length_each f (x ∷ l) = ap suc (length_each f l)

pub total_each : {A B : Type 0} (f : A → B) (v : B → ℕ) (l : List A) → total v (each f l) ≡ total (λ x. v (f x)) l
unfolding each total
total_each f v [] = refl
total_each f v (x ∷ l) = ap (λ n. v (f x) + n) (total_each f v l)

pub all_each : {A B : Type 0} (P : B → Type 0) (f : A → B) (l : List A) → All (λ x. P (f x)) l → All P (each f l)
unfolding each
all_each P f [] h = tt
all_each P f (x ∷ l) h = (h.0, all_each P f l h.1)

pub byte_small : (l : List ℕ) (i : ℕ) → Bytes l → get_or l i 0 < 256
byte_small [] i h = omega arith
byte_small (x ∷ l) zero h = h.0
byte_small (x ∷ l) (suc i) h = byte_small l i h.1

-- ---- fields

module _ (b : List ℕ) (small : Bytes b) where
  pub u8_good : (p : Place) → p.at ≤ length b → Good (length b) (λ n q. (n < 256) × (q.at ≡ p.at + 1)) (read_u8 b p)
  unfolding read_u8
  u8_good p l = good_whole (leb (p.at + 1) (length b)) _ _ _ l (λ e. ((byte_small b p.at small, refl), leb-true _ _ e))

  two_small : (p : ℕ) → get_or b p 0 + 256 * get_or b (p + 1) 0 < 65536
  two_small p = omega (arith, byte_small b p small, byte_small b (p + 1) small)

  pub u16_good : (p : Place) → p.at ≤ length b → Good (length b) (λ n q. (n < 65536) × (q.at ≡ p.at + 2)) (read_u16 b p)
  unfolding read_u16
  u16_good p l = good_whole (leb (p.at + 2) (length b)) _ _ _ l (λ e. ((two_small p.at, refl), leb-true _ _ e))

  u32_good : (p : Place) → p.at ≤ length b → Good (length b) (λ n q. (n < 4294967296) × (q.at ≡ p.at + 4)) (read_u32 b p)
  unfolding read_u32
  u32_good p l = good_whole (leb (p.at + 4) (length b)) _ _ _ l (λ e. ((omega (arith, two_small p.at, two_small (p.at + 2)), refl), leb-true _ _ e))

  u64_good : (p : Place) → p.at ≤ length b → Good (length b) (λ n q. (n < 18446744073709551616) × (q.at ≡ p.at + 8)) (read_u64 b p)
  unfolding read_u64
  u64_good p l =
      good_whole (leb (p.at + 8) (length b)) _ _ _ l
      (λ e. ((omega (arith, two_small p.at, two_small (p.at + 2), two_small (p.at + 4), two_small (p.at + 4 + 2)), refl), leb-true _ _ e))

  pub tested_good : {A : Type 0} {P : A → Place → Type 0} (within : A → Bool) (r : Reader A) (p : Place) → p.at ≤ length b → Good (length b) P (r p)
      → Good (length b) (λ a q. P a q × (within a ≡ true)) (tested within r p)
  unfolding tested
  tested_good within r p k h = good_then h (λ a q g l. good_within (within a) p a q k l (λ e. (g, e)))

  pub flag_good : (p : Place) → p.at ≤ length b → Good (length b) (λ t q. q.at ≡ p.at + 1) (read_flag b p)
  unfolding read_flag
  flag_good p l = good_then (tested_good (λ n. ltb n 2) (read_u8 b) p l (u8_good p l)) (λ n q h k. fine h.0.1 k)

  -- ---- strings

  pub bytes_good : (n : ℕ) (p : Place) → p.at ≤ length b → Good (length b) (λ s q. (length s ≡ n) × (q.at ≡ p.at + n) × Bytes s) (read_bytes b n p)
  unfolding read_bytes
  bytes_good n p l =
      good_whole (leb (p.at + n) (length b)) _ _ _ l
      (λ e. (
        (simp (length-take, length-drop) (omega (arith, leb-true (p.at + n) (length b) e)), refl, all_take _ n (drop p.at b) (all_drop _ p.at b small)),
        leb-true _ _ e,
      ))

  clean : (n : ℕ) (s : List ℕ) → Bytes s → first_zero n s ≡ none → Clean s
  unfolding first_zero
  clean n [] h e = tt
  clean n (zero ∷ s) h e = absurd (none-ne-some n (sym e))
  clean n (suc x ∷ s) h e = ((omega arith, h.0), clean (suc n) s h.1 e)

  -- the first zero byte stands within
  zero_within : (n : ℕ) (s : List ℕ) (z : ℕ) → first_zero n s ≡ some z → z < n + length s
  unfolding first_zero
  zero_within n [] z e = absurd (none-ne-some z e)
  zero_within n (zero ∷ s) z e =
      let same : n ≡ z = cc in
      omega arith
  zero_within n (suc x ∷ s) z e = omega (arith, zero_within (suc n) s z e)

  no_zero_good : (o : Option ℕ) (i p : Place) (s : List ℕ) → Bytes s → first_zero 0 s ≡ o → i.at + length s ≤ length b → p.at ≤ length b
      → Good (length b) (λ t q. Clean t × (t ≡ s) × (q ≡ p)) (if_no_zero i s o p)
  unfolding if_no_zero
  no_zero_good none i p s h e k l = fine (clean 0 s h e, refl, refl) l
  no_zero_good (some z) i p s h e k l = refused {s = stop (ahead z i)} (omega (arith, zero_within 0 s z e))

  pub spelling_good : (n : ℕ) (p : Place) → p.at ≤ length b → Good (length b) (λ s q. Clean s × (q.at ≡ p.at + length s) × (length s ≡ n)) (read_spelling b n p)
  unfolding read_spelling
  spelling_good n p l =
      good_then (bytes_good n p l)
      (λ s r g k. good_as (no_zero_good (first_zero 0 s) p r s g.2 refl (omega (arith, g.0, g.1)) k)
      (λ t u j. (j.0, omega (arith, g.0, g.1, ap length j.1, ap (λ (o : Place). o.at) j.2), ap length j.1 ∙ g.0)))

module _ (k : Terms) (b : List ℕ) (small : Bytes b) (w : Text → List ℕ) (K : Type 0) (string-good : Spells k b w K) where
  -- ---- lists

  repeat_good : {A : Type 0} (P : A → Type 0) (v : A → ℕ) (r : Reader A)
      → ((p : Place) → p.at ≤ length b → Good (length b) (λ a q. P a × (K → v a + p.at ≤ q.at) × (p.at ≤ q.at)) (r p))
      → (n : ℕ) (p : Place) → p.at ≤ length b → Good (length b) (λ l q. (length l ≡ n) × All P l × (K → total v l + p.at ≤ q.at) × (p.at ≤ q.at)) (repeat r n p)
  unfolding repeat total
  repeat_good P v r h zero p l = fine {a = []} {p = p} (refl, tt, (λ κ. omega arith), omega arith) l
  repeat_good P v r h (suc n) p l =
      good_then (h p l) (λ a q g m. good_then (repeat_good P v r h n q m)
      (λ xs o i j. fine (ap suc i.0, (g.0, i.1), (λ κ. omega (arith, i.2 κ, g.1 κ)), omega (arith, g.2, i.3)) j))

  pub counted_good : {A : Type 0} (P : A → Type 0) (v : A → ℕ) (r : Reader A)
      → ((p : Place) → p.at ≤ length b → Good (length b) (λ a q. P a × (K → v a + p.at ≤ q.at) × (p.at ≤ q.at)) (r p))
      → (p : Place) → p.at ≤ length b → Good (length b) (λ l q. (length l < 65536) × All P l × (K → total v l + p.at + 2 ≤ q.at) × (p.at ≤ q.at)) (read_counted b r p)
  unfolding read_counted
  counted_good P v r h p l =
      good_then (u16_good b small p l) (λ n q g m. good_as (repeat_good P v r h n q m)
      (λ xs o i. (omega (arith, i.0, g.0), i.1, (λ κ. omega (arith, i.2 κ, g.1)), omega (arith, g.1, i.3))))

  -- ---- push values: as long when written, at the most

  constant_most : (t : Bool) → pick t 2 3 ≤ 3
  unfolding pick
  constant_most true = omega arith
  constant_most false = omega arith

  abbrev pub value_length : PushValueOf Text → ℕ
  value_length x = push_length (map_value w x)

  value_of_good : (j : PushKind) (p : Place) → p.at ≤ length b
      → Good (length b) (λ x q. ValueFits (map_value w x) × (K → value_length x + p.at ≤ q.at + 1) × (p.at ≤ q.at)) (read_value_of k b j p)
  unfolding read_value_of push_length map_value
  value_of_good PushKind.String p l = good_then (string-good p l) (λ s q h m. fine (h.0, (λ κ. omega (arith, h.1 κ)), h.2) m)
  value_of_good PushKind.Null p l = fine {a = Null} {p = p} (tt, (λ κ. omega arith), omega arith) l
  value_of_good PushKind.Undefined p l = fine {a = Undefined} {p = p} (tt, (λ κ. omega arith), omega arith) l
  value_of_good PushKind.Register p l = good_then (u8_good b small p l) (λ n q h m. fine (h.0, (λ κ. omega (arith, h.1)), omega (arith, h.1)) m)
  value_of_good PushKind.Boolean p l = good_then (flag_good b small p l) (λ t q h m. fine (tt, (λ κ. omega arith), omega arith) m)
  value_of_good PushKind.Float p l = good_then (u64_good b small p l) (λ n q h m. fine (h.0, (λ κ. omega (arith, h.1)), omega (arith, h.1)) m)
  value_of_good PushKind.Integer p l = good_then (u32_good b small p l) (λ n q h m. fine (h.0, (λ κ. omega (arith, h.1)), omega (arith, h.1)) m)
  value_of_good PushKind.Constant p l =
      good_then (u16_good b small p l) (λ n q h m. fine (h.0, (λ κ. omega (arith, h.1, constant_most (ltb n 256))), omega (arith, h.1)) m)

  value_if_good : (o : Option PushKind) (i p : Place) → i.at ≤ length b → p.at ≤ length b
      → Good (length b) (λ x q. ValueFits (map_value w x) × (K → value_length x + p.at ≤ q.at + 1) × (p.at ≤ q.at)) (read_value_if k b o i p)
  unfolding read_value_if
  value_if_good (some j) i p m l = value_of_good j p l
  value_if_good none i p m l = refused m

  pub value_good : (p : Place) → p.at ≤ length b → Good (length b) (λ x q. ValueFits (map_value w x) × (K → value_length x + p.at ≤ q.at) × (p.at ≤ q.at)) (read_value k b p)
  unfolding read_value
  value_good p l =
      good_then (u8_good b small p l) (λ j q h m. good_as (value_if_good (kind_of j) p q l m) (λ x o g. (g.0, (λ κ. omega (arith, g.1 κ, h.1)), omega (arith, g.2, h.1))))

  pub param_good : (p : Place) → p.at ≤ length b → Good (length b) (λ x q. ParamFits (map_param w x) × (K → param_length (map_param w x) + p.at ≤ q.at) × (p.at ≤ q.at)) (read_param k b p)
  unfolding read_param param_length map_param
  param_good p l =
      good_then (u8_good b small p l) (λ r q h m. good_then (string-good q m)
      (λ s o g j. fine ((h.0, g.0), (λ κ. omega (arith, h.1, g.1 κ)), omega (arith, h.1, g.2)) j))

  pub text_good : (p : Place) → p.at ≤ length b → Good (length b) (λ s q. Clean (w s) × (K → string_length (w s) + p.at ≤ q.at) × (p.at ≤ q.at)) (read_string k b p)
  unfolding string_length
  text_good p l = good_as (string-good p l) (λ s q h. (h.0, (λ κ. omega (arith, h.1 κ)), h.2))

  -- ---- labels

  pub label_good : (least : ℕ) (p : Place) → p.at ≤ length b → Good (length b) (λ n q. q.at ≡ p.at + 2) (read_label k b least p)
  unfolding read_label
  label_good least p l = good_as (tested_good b small _ (read_u16 b) p l (u16_good b small p l)) (λ n q h. h.0.1)

  pub entries_good : (n least : ℕ) (p : Place) → p.at ≤ length b → Good (length b) (λ es q. p.at ≤ q.at) (read_entries k b n least p)
  unfolding read_entries
  entries_good zero least p l = fine {p = p} (omega arith) l
  entries_good (suc n) least p l =
      good_then (label_good least p l) (λ a q h m. good_then (u16_good b small q m)
      (λ i o g j. good_then (entries_good n (suc a) o j) (λ es r x y. fine (omega (arith, g.1)) y)))

  -- ---- actions: written in at most three bytes for each byte read, and twelve less for a body

  -- the target of a Try without a catch is not used
  abbrev Aimed : Bool → CatchTargetOf Text → Type 0
  Aimed true t = TargetFits (map_target w t)
  Aimed false t = Unit {0}

  target_length : CatchTarget → ℕ
  target_length (Variable s) = length s + 1
  target_length (Register r) = 1

  target_most : Bool → CatchTargetOf Text → ℕ
  target_most true t = target_length (map_target w t)
  target_most false t = 0

  target_good : (c r : Bool) (p : Place) → p.at ≤ length b
      → Good (length b) (λ t q. Aimed c t × (K → target_most c t + p.at ≤ q.at + 1) × (p.at ≤ q.at)) (read_catch_target k b c r p)
  unfolding read_catch_target target_length map_target target_most
  target_good true true p l = good_then (u8_good b small p l) (λ n q h m. fine (h.0, (λ κ. omega (arith, h.1)), omega (arith, h.1)) m)
  target_good true false p l = good_then (string-good p l) (λ s q h m. fine (h.0, (λ κ. omega (arith, h.1 κ)), h.2) m)
  target_good false x p l = fine {a = Variable (plain [])} {p = p} (tt, (λ κ. omega arith), omega arith) l

  name_target : (t : CatchTarget) (x : Actions) → name_length (catch t x) ≡ target_length t
  unfolding name_length target_length
  name_target (Variable s) x = refl
  name_target (Register r) x = refl

  -- what the reading of a body makes sure of
  abbrev pub BodyGood : Reader (ActionsOf Text ℕ) → Type 0
  BodyGood r =
      (p : Place) → p.at ≤ length b
      → Good (length b) (λ x q. WellBody (map_body w x) × (K → body_size (map_body w x) + 12 + 3 * p.at ≤ 3 * q.at) × (p.at ≤ q.at)) (r p)

  -- and of an action
  abbrev pub ActionGood : Place → ActionOf Text ℕ → Place → Type 0
  ActionGood p a q = Well (map_action w a) × (K → size (map_action w a) + 3 * p.at ≤ 3 * q.at) × (p.at ≤ q.at)

  module _ (inner : Reader (ActionsOf Text ℕ)) (inner-good : BodyGood inner) where
    catch_good : (c : Bool) (t : CatchTargetOf Text) (p : Place) → p.at ≤ length b → Aimed c t
        → Good (length b) (λ x q. NameFits (map_catch w x) × WellCatch (map_catch w x) × (name_length (map_catch w x) ≤ 1 + target_most c t)
        × (K → catch_size (map_catch w x) + 3 * p.at ≤ 3 * q.at) × (p.at ≤ q.at)) (read_catch k b inner c t p)
    unfolding read_catch catch_size map_catch target_most
    catch_good true t p l h =
        good_then (inner-good p l)
        (λ x q g m. fine (h, g.0, omega (arith, name_target (map_target w t) (map_body w x)), (λ κ. omega (arith, g.1 κ)), g.2) m)
    catch_good false t p l h = fine {a = no_catch} {p = p} (tt, tt, (unfold name_length in omega arith), (λ κ. omega arith), omega arith) l

    finally_good : (f : Bool) (p : Place) → p.at ≤ length b
        → Good (length b) (λ x q. WellFinally (map_finally w x) × (K → finally_size (map_finally w x) + 3 * p.at ≤ 3 * q.at) × (p.at ≤ q.at)) (read_finally k b inner f p)
    unfolding read_finally finally_size map_finally
    finally_good true p l = good_then (inner-good p l) (λ x q g m. fine (g.0, (λ κ. omega (arith, g.1 κ)), g.2) m)
    finally_good false p l = fine {a = no_finally} {p = p} (tt, (λ κ. omega arith), omega arith) l

    try_good : (n : ℕ) (p : Place) → p.at ≤ length b → Good (length b) (ActionGood p) (read_try k b inner n p)
    unfolding read_try size map_action
    try_good n p l =
        good_then (target_good _ _ p l) (λ t p₁ h₁ l₁. good_then (inner-good p₁ l₁) (λ x p₂ h₂ l₂. good_then (good_behind (body_count x) (catch_good _ t p₂ l₂ h₁.0))
        (λ c p₃ h₃ l₃. good_then (good_behind (body_count x + catch_count c) (finally_good _ p₃ l₃)) (λ f p₄ h₄ l₄. fine (
          (h₃.0, h₂.0, h₃.1, h₄.0),
          (λ κ. omega (arith, h₁.1 κ, h₁.2, h₂.1 κ, h₃.2, h₃.3 κ, h₄.1 κ, length-catch_name (map_catch w c))),
          omega (arith, h₁.2, h₂.2, h₃.4, h₄.2),
        ) l₄))))

    -- the fields of an action, whose opcode is one byte before p
    abbrev FieldsGood : Place → ActionOf Text ℕ → Place → Type 0
    FieldsGood p a q = Well (map_action w a) × (K → size (map_action w a) + 3 * p.at ≤ 3 * q.at + 3) × (p.at ≤ q.at)

    headed_most : (t : Bool) (op : ℕ) (q : List ℕ) → length (headed t op q) ≤ 3 + length q
    unfolding headed le16
    headed_most true op q = omega arith
    headed_most false op q = omega arith

    framed_most : (op : OpCode) (q : List ℕ) → length (framed op q) ≤ 3 + length q
    unfolding framed
    framed_most op q = headed_most (ltb (byte op) 128) (byte op) q

    flat_good : (f : FlatOf Text) (p q : Place) → FlatFits (map_flat w f) → (K → payload_length (map_flat w f) + 3 * p.at ≤ 3 * q.at) → p.at ≤ q.at → FieldsGood p (flat f) q
    unfolding size map_action
    flat_good f p q h g m = (h, (λ κ. omega (arith, g κ, framed_most (opcode (map_flat w f)) (payload (map_flat w f)), length_payload (map_flat w f))), m)

    bias_most : (n : ℕ) → goto_frame2_length n ≤ 3
    unfolding goto_frame2_length
    bias_most zero = omega arith
    bias_most (suc n) = omega arith

    fields_good : (op : OpCode) (p : Place) → p.at ≤ length b → Listed op → Good (length b) (FieldsGood p) (read_fields k b inner op p)
    unfolding read_fields map_action map_flat map_owner
    fields_good (OpCode.Small op) p l e = fine {a = flat (Small op)} {p = p} (flat_good (Small op) p p e (λ κ. unfold payload_length in omega arith) (omega arith)) l
    fields_good OpCode.GotoFrame p l e =
        good_then (u16_good b small p l) (λ n q h m. fine (flat_good (GotoFrame n) p q h.0 (λ κ. unfold payload_length in omega (arith, h.1)) (omega (arith, h.1))) m)
    fields_good OpCode.GetUrl p l e =
        good_then (text_good p l) (λ u q h m. good_then (text_good q m)
        (λ t r g j. fine (flat_good (GetUrl u t) p r (h.0, g.0) (λ κ. unfold payload_length string_length in omega (arith, h.1 κ, g.1 κ)) (omega (arith, h.2, g.2))) j))
    fields_good OpCode.StoreRegister p l e =
        good_then (u8_good b small p l) (λ n q h m. fine (flat_good (StoreRegister n) p q h.0 (λ κ. unfold payload_length in omega (arith, h.1)) (omega (arith, h.1))) m)
    fields_good OpCode.ConstantPool p l e =
        good_then (counted_good (λ s. Clean (w s)) _ _ text_good p l)
        (λ ss q h m. fine (flat_good (ConstantPool ss) p q (omega (arith, length_each w ss, h.0), all_each Clean w ss h.1)
        (λ κ. unfold payload_length in omega (arith, total_each w string_length ss, h.2 κ)) h.3) m)
    fields_good OpCode.WaitForFrame p l e =
        good_then (u16_good b small p l) (λ n q h m. good_then (u8_good b small q m)
        (λ i r g j. fine (flat_good (WaitForFrame n i) p r (h.0, g.0) (λ κ. unfold payload_length in omega (arith, h.1, g.1)) (omega (arith, h.1, g.1))) j))
    fields_good OpCode.SetTarget p l e =
        good_then (text_good p l) (λ s q h m. fine (flat_good (SetTarget s) p q h.0 (λ κ. unfold payload_length string_length in omega (arith, h.1 κ)) h.2) m)
    fields_good OpCode.GotoLabel p l e =
        good_then (text_good p l) (λ s q h m. fine (flat_good (GotoLabel s) p q h.0 (λ κ. unfold payload_length string_length in omega (arith, h.1 κ)) h.2) m)
    fields_good OpCode.WaitForFrame2 p l e =
        good_then (u8_good b small p l) (λ n q h m. fine (flat_good (WaitForFrame2 n) p q h.0 (λ κ. unfold payload_length in omega (arith, h.1)) (omega (arith, h.1))) m)
    fields_good OpCode.DefineFunction2 p l e =
        good_then (text_good p l) (λ s p₁ h₁ l₁. good_then (counted_good (λ x. ParamFits (map_param w x)) _ _ param_good p₁ l₁)
        (λ ps p₂ h₂ l₂. good_then (u8_good b small p₂ l₂) (λ r p₃ h₃ l₃. good_then (tested_good b small _ (read_u16 b) p₃ l₃ (u16_good b small p₃ l₃))
        (λ f p₄ h₄ l₄. good_then (inner-good p₄ l₄) (λ x p₅ h₅ l₅. fine {a = owner (DefineFunction2 s ps r f) x} {p = p₅} (
          ((h₁.0, omega (arith, length_each (map_param w) ps, h₂.0), all_each ParamFits (map_param w) ps h₂.1, ltb-true f 512 h₄.1, h₃.0), h₅.0),
          (λ κ. unfold size owner_length string_length in
              omega (arith, length-owner_fields (DefineFunction2 (w s) (each (map_param w) ps) r f), total_each (map_param w) param_length ps, h₁.1 κ, h₂.2 κ, h₃.1, h₄.0.1, h₅.1 κ)),
          omega (arith, h₁.2, h₂.3, h₃.1, h₄.0.1, h₅.2),
        ) l₅)))))
    fields_good OpCode.Try p l e =
        good_then (tested_good b small is_shape (read_u8 b) p l (u8_good b small p l))
        (λ n q h m. good_as (try_good n q m) (λ a r g. (g.0, (λ κ. omega (arith, g.1 κ, h.0.1)), omega (arith, g.2, h.0.1))))
    fields_good OpCode.With p l e =
        good_then (inner-good p l) (λ x q h m. fine {a = owner With x} {p = q} ((tt, h.0), (λ κ. unfold size owner_length in omega (arith, length-owner_fields With, h.1 κ)), h.2) m)
    fields_good OpCode.Push p l e =
        good_then (counted_good (λ x. ValueFits (map_value w x)) value_length _ value_good p l)
        (λ vs q h m. fine (flat_good (Push vs) p q (all_each ValueFits (map_value w) vs h.1)
        (λ κ. unfold payload_length in omega (arith, total_each (map_value w) push_length vs, h.2 κ)) h.3) m)
    fields_good OpCode.Jump p l e = good_then (label_good 0 p l) (λ n q h m. fine {a = branch Jump n} {p = q} (tt, (λ κ. unfold size in omega (arith, h)), omega arith) m)
    fields_good OpCode.GetUrl2 p l e =
        good_then (flag_good b small p l) (λ v q h m. good_then (flag_good b small q m) (λ t r g i. good_then (u8_good b small r i)
        (λ n u j x. fine (flat_good (GetUrl2 v t n) p u tt (λ κ. unfold payload_length in omega (arith, h, g, j.1)) (omega (arith, h, g, j.1))) x)))
    fields_good OpCode.DefineFunction p l e =
        good_then (text_good p l) (λ s p₁ h₁ l₁. good_then (counted_good (λ s. Clean (w s)) _ _ text_good p₁ l₁) (λ ps p₂ h₂ l₂. good_then (inner-good p₂ l₂)
        (λ x p₃ h₃ l₃. fine {a = owner (DefineFunction s ps) x} {p = p₃} (
          ((h₁.0, omega (arith, length_each w ps, h₂.0), all_each Clean w ps h₂.1), h₃.0),
          (λ κ. unfold size owner_length string_length in
              omega (arith, length-owner_fields (DefineFunction (w s) (each w ps)), total_each w string_length ps, h₁.1 κ, h₂.2 κ, h₃.1 κ)),
          omega (arith, h₁.2, h₂.3, h₃.2),
        ) l₃)))
    fields_good OpCode.If p l e = good_then (label_good 0 p l) (λ n q h m. fine {a = branch If n} {p = q} (tt, (λ κ. unfold size in omega (arith, h)), omega arith) m)
    fields_good OpCode.GotoFrame2 p l e =
        good_then (u16_good b small p l) (λ n q h m. good_then (flag_good b small q m)
        (λ t r g j. fine (flat_good (GotoFrame2 n t) p r h.0 (λ κ. unfold payload_length in omega (arith, bias_most n, h.1, g)) (omega (arith, h.1, g))) j))

    fields_if_good : (o : Option OpCode) (n : ℕ) (i p : Place) → opcode_of n ≡ o → i.at ≤ length b → p.at ≤ length b → Good (length b) (FieldsGood p) (read_fields_if k b inner o i p)
    unfolding read_fields_if
    fields_if_good (some op) n i p e m l = fields_good op p l (ap opcode_of (listed op e) ∙ e)
      where
        listed : (op : OpCode) → opcode_of n ≡ some op → byte op ≡ n
        listed op e = unfold opcode_of in first_with_lem byte n opcodes op e
    fields_if_good none n i p e m l = refused m

    pub action_good : (p : Place) → p.at ≤ length b → Good (length b) (ActionGood p) (read_action k b inner p)
    unfolding read_action
    action_good p l =
        good_then (u8_good b small p l) (λ n q h m. good_as (fields_if_good (opcode_of n) n p q refl l m)
        (λ a r g. (g.0, (λ κ. omega (arith, g.1 κ, h.1)), omega (arith, g.2, h.1))))

    actions_good : (n : ℕ) (p : Place) → p.at ≤ length b
        → Good (length b) (λ xs q. WellActions (map_actions w xs) × (K → sizes (map_actions w xs) + 3 * p.at ≤ 3 * q.at) × (p.at ≤ q.at)) (read_actions k b inner n p)
    unfolding read_actions sizes map_actions
    actions_good zero p l = fine {a = empty} {p = p} (tt, (λ κ. omega arith), omega arith) l
    actions_good (suc n) p l =
        good_then (action_good p l) (λ a q h m. good_then (good_behind (count a) (actions_good n q m))
        (λ xs r g j. fine ((h.0, g.0), (λ κ. omega (arith, h.1 κ, g.1 κ)), omega (arith, h.2, g.2)) j))

    body_with_good : BodyGood (read_body_with k b inner)
    unfolding read_body_with body_size map_body
    body_with_good p l =
        good_then (u16_good b small p l) (λ m p₁ h₁ l₁. good_then (entries_good m 0 p₁ l₁) (λ es p₂ h₂ l₂. good_then (u16_good b small p₂ l₂)
        (λ n p₃ h₃ l₃. good_then (actions_good n p₃ l₃)
        (λ xs p₄ h₄ l₄. fine (h₄.0, (λ κ. omega (arith, h₁.1, h₃.1, h₄.1 κ)), omega (arith, h₁.1, h₃.1, h₄.2)) l₄))))

  pub body_good : (depth : ℕ) → BodyGood (read_body k b depth)
  unfolding read_body
  body_good zero p l = refused l
  body_good (suc d) p l = body_with_good (behind 1 (read_body k b d)) (λ q m. good_behind 1 (body_good d q m)) p l

  left_good : (t : Bool) (x : ActionsOf Text ℕ) (p : Place) → p.at ≤ length b → eqb p.at (length b) ≡ t → WellBody (map_body w x)
      → (K → body_size (map_body w x) + 12 ≤ 3 * p.at)
      → Good (length b) (λ y q. WellBody (map_body w y) × (K → body_size (map_body w y) + 12 ≤ 3 * length b)) (if_nothing_left t x p)
  unfolding if_nothing_left
  left_good true x p l e h m = fine {a = x} {p = p} (h, λ κ. omega (arith, m κ, eqb-true p.at (length b) e)) l
  left_good false x p l e h m = refused l

  -- a main body that was read fits; if K, it is written in at most three bytes for each of its own, less twelve
  pub main_good : (depth : ℕ) → Good (length b) (λ x q. WellBody (map_body w x) × (K → body_size (map_body w x) + 12 ≤ 3 * length b)) (read_main k b depth)
  unfolding read_main
  main_good d = good_then (body_good d (record { at = 0 }) (omega arith)) (λ x p h l. good_behind (body_count x) (left_good (eqb p.at (length b)) x p l refl h.0 (λ κ. omega (arith, h.1 κ))))
