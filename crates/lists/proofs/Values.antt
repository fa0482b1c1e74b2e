-- Laws of parameters, constants and push values, in the shape of the code's tests. Assumes nothing.
use mathlib.Core.Path.{◌≡◌, refl, sym, ap, ◌∙◌}
use Prim.Native.Nat.{ℕ, ◌+◌, ◌≤◌, ◌<◌}
use native.Mathlib.Omega.{arith}
use mathlib.Core.Option.{Option, none, some}
use mathlib.Core.List.{List}
use lib.ListN.{length, get_or}
use Rattle.layout.specs.Numbers.{u16_at}
use Rattle.layout.specs.Answers.{CutShort, UnknownCode}
use Rattle.layout.specs.PushKind.{PushKind, kind_of}
use Rattle.opcode.specs.declared.PushKind as code
use Rattle.opcode.specs.Kinds.{meant}
use Rattle.layout.specs.Tree.{PushValueOf, Constant}
use Rattle.layout.specs.Read.{Text, Terms, placed, stop, got, bad, Reader, chain, read_u16, read_string, read_value_of, read_value_if, read_value}
use Rattle.layout.specs.Lengths.{push_length}
use Rattle.std.specs.Prelude.{Result, Ok}
use Rattle.positions.specs.declared.Spot.{Spot}
use Rattle.positions.specs.declared.Stop.{Stop}
use Rattle.positions.specs.declared.Fault.TheVariants as fault
use Rattle.positions.specs.Scanned.{fault_of, stops_at, scanned}
use Rattle.operands.specs.Operands.{string_size}
use Rattle.lists.specs.Elements.{read_named, named_size, constant_size, value_size}
use Rattle.operands.proofs.Scans.{ends, stops, from_spot, scanned_as, scanned_from}
use Rattle.operands.proofs.Reading as reading

-- ---- a string after some bytes

module _ (terms : Terms) (b : List ℕ) (at skip pos : ℕ) where
  pub named_out : length b < at + skip → read_named terms b skip (placed at) ≡ bad CutShort (stop (placed at))
  unfolding read_named
  named_out h = ap (λ x. chain x (λ s q. read_string terms b q)) (reading.bytes_out b at skip h)

  pub named_in : {r : Result Spot Stop} {p : Spot} → at + skip ≤ length b → (p.at ≡ at + skip) × (p.pos.0 ≡ pos + skip) → r ≡ scanned string_size p.pos.0 (read_string terms b (placed p.at))
      → r ≡ scanned (named_size skip) pos (read_named terms b skip (placed at))
  unfolding read_named named_size
  named_in {p = p} h i e =
      from_spot string_size (read_string terms b) i.0 refl e
      ∙ scanned_from (named_size skip) pos string_size p.pos.0 (read_string terms b (placed (at + skip))) (λ s. omega (arith, i.1))
      ∙ ap (λ x. scanned (named_size skip) pos (chain x (λ s q. read_string terms b q))) (sym (reading.bytes_in b at skip h))

-- ---- a pushed constant

-- the code holds the number in n and the length of kind and number in l
pub constant_in : (b : List ℕ) (at pos n l : ℕ) {s : Spot} → (at + 2 ≤ length b) × (n ≡ u16_at b at) × (n < 65536) → l ≡ push_length (Constant n) → (s.at ≡ at + 2) × (s.pos.0 ≡ pos + l)
    → Ok s ≡ scanned constant_size pos (read_u16 b (placed at))
unfolding constant_size
constant_in b at pos n l h f i = ends constant_size pos (reading.u16_in b at h.0) i.0 (i.1 ∙ rw (f, h.1))

-- ---- push values, by their kind

module _ (terms : Terms) (b : List ℕ) (at pos : ℕ) where
  pub value_out : length b < at + 1 → read_value terms b (placed at) ≡ bad CutShort (stop (placed at))
  unfolding read_value
  value_out h = ap (λ x. chain x (λ n q. read_value_if terms b (kind_of n) (placed at) q)) (reading.u8_out b at h)

  -- the code holds the kind's byte in n
  module _ (n : ℕ) (h : (at + 1 ≤ length b) × (n ≡ get_or b at 0)) where
    -- the kind decides
    value_if : (o : Option PushKind) → kind_of n ≡ o → read_value terms b (placed at) ≡ read_value_if terms b o (placed at) (placed (at + 1))
    unfolding read_value
    value_if o k =
        let i : kind_of (get_or b at 0) ≡ o = ap kind_of (sym h.1) ∙ k in
        rw (reading.u8_in b at h.0, i)

    pub value_unknown : kind_of n ≡ none → stops_at at fault.UnknownCode ≡ scanned value_size pos (read_value terms b (placed at))
    unfolding read_value_if fault_of
    value_unknown k = stops value_size pos {g = UnknownCode} {q = at} (value_if none k)

    -- the code found kind k, and matched it as j
    module _ {k j : code.PushKind} (e : kind_of n ≡ some (meant k)) (f : k ≡ j) where
      is_kind : read_value terms b (placed at) ≡ read_value_of terms b (meant j) (placed (at + 1))
      is_kind = value_if (some (meant j)) (e ∙ ap (λ x. some (meant x)) f) ∙ (unfold read_value_if in refl)

      -- a value without a field
      pub value_alone : {s : Spot} {v : PushValueOf Text} → read_value_of terms b (meant j) (placed (at + 1)) ≡ got v (placed (at + 1)) → value_size v ≡ 1
          → (s.at ≡ at + 1) × (s.pos.0 ≡ pos + 1) → Ok s ≡ scanned value_size pos (read_value terms b (placed at))
      value_alone g l i = ends value_size pos (is_kind ∙ g) i.0 (i.1 ∙ ap (λ x. pos + x) (sym l))

      -- a value of one field, which the code measures from the spot p on
      pub value_field : {A : Type 0} {r : Result Spot Stop} {p : Spot} (length : ℕ) (g : A → PushValueOf Text) (s : A → ℕ) (x : Reader A)
          → read_value_of terms b (meant j) (placed (at + 1)) ≡ chain (x (placed (at + 1))) (λ a q. got (g a) q) → ((a : A) → value_size (g a) ≡ length + s a)
          → (p.at ≡ at + 1) × (p.pos.0 ≡ pos + length) → r ≡ scanned s p.pos.0 (x (placed p.at)) → r ≡ scanned value_size pos (read_value terms b (placed at))
      value_field {p = p} length g s x o l i t =
          from_spot s x i.0 refl t
          ∙ scanned_as value_size pos g s p.pos.0 (x (placed (at + 1))) (λ a. omega (arith, l a, i.1))
          ∙ ap (scanned value_size pos) (sym (is_kind ∙ o))
