-- Push values: what the code takes for each kind shows what the definitions read. Assumes nothing.
use mathlib.Core.Path.{◌≡◌, refl, sym, ap, ◌∙◌}
use Prim.Native.Nat.{ℕ, ◌+◌, ◌≤◌}
use mathlib.Core.Option.{Option, none, some, none-ne-some}
use mathlib.Core.List.{List}
use lib.ListN.{length, get_or}
use Rattle.layout.specs.PushKind.{PushKind, kind_of}
use Rattle.opcode.specs.declared.PushKind as code
use Rattle.opcode.specs.Kinds.{meant}
use Rattle.layout.specs.Tree.{PushValueOf}
use Rattle.layout.specs.Read.{Text, Terms, Place, placed, read_value_of, read_value_if, read_value}
use Rattle.editions.specs.Allowed.{read_by}
use Rattle.editions.specs.declared.MainBody.{MainBody}
use Rattle.pcode.specs.declared.PushAt.{PushAt}
use Rattle.pcode.specs.Shown.{value_at, ShownValue, string, null, undefined, register, boolean, float, integer, constant, ValueReads, TakesValue}
use Rattle.pcode.proofs.Readings as reading
use Rattle.pcode.proofs.Arms.{Found, found, found_once}
use Rattle.pcode.proofs.Readings.{Gives, gives, refuses, given, next, next_text, anyway, first, u8}

-- a value and the place after it are those that r shows, and the place lies within the main body
abbrev Pushed : MainBody → PushAt → PushValueOf Text → Place → Type 0
Pushed m r x q = ShownValue m r.value x × (q ≡ placed r.next) × (r.next ≤ length m.b.now)

module _ (m : MainBody) (p : ℕ) (l : p ≤ length m.b.now) where
  -- what the code takes for a kind shows the value that the definitions read
  kind_shown : (k : PushKind) → Gives (Pushed m (value_at m k p)) (read_value_of (read_by m) m.b.now k (placed p))
  unfolding read_value_of
  kind_shown PushKind.String = next_text _ (reading.string m p) (λ x h. gives (string h, refl, h.ends))
  kind_shown PushKind.Null = gives (null, refl, l)
  kind_shown PushKind.Undefined = gives (undefined, refl, l)
  kind_shown PushKind.Register = next _ (u8 m.b.now p) (λ h. gives (register, refl, h))
  kind_shown PushKind.Boolean = next _ (reading.flag m.b.now p) (λ h. gives (boolean h.1, refl, h.0))
  kind_shown PushKind.Float = next _ (reading.u64 m.b.now p) (λ h. gives (float, refl, h))
  kind_shown PushKind.Integer = next _ (reading.u32 m.b.now p) (λ h. gives (integer, refl, h))
  kind_shown PushKind.Constant = next _ (reading.u16 m.b.now p) (λ h. gives (constant, refl, h))

-- what the code takes for the kind that stands at p shows the value there, and the place after it
pushed : (m : MainBody) (p : ℕ) (k : PushKind) → kind_of (get_or m.b.now p 0) ≡ some k
    → Gives (Pushed m (value_at m k (p + 1))) (read_value (read_by m) m.b.now (placed p))
unfolding read_value read_value_if
pushed m p k h = next _ (u8 m.b.now p) (λ l. rw h (kind_shown m (p + 1) l k))

-- a kind that the code found, and matched as j
stands : (n : ℕ) {k j : code.PushKind} → kind_of n ≡ some (meant k) → k ≡ j → kind_of n ≡ some (meant j)
stands n h i = h ∙ ap (λ x. some (meant x)) i

module _ {m : MainBody} {p : ℕ} {k j : code.PushKind} (h : kind_of (get_or m.b.now p 0) ≡ some (meant k)) (i : k ≡ j) where
  pub value_shown : TakesValue m p (value_at m (meant j) (p + 1))
  value_shown = record {
    is = λ kind g. ap (λ k. value_at m k (p + 1)) (found_once (stands _ h i) g);
    shows = record { shows = λ x q r. let g = given (pushed m p (meant j) (stands _ h i)) r in (g.0, g.1) };
  }

  -- it ends within the main body
  pub value_room : ValueReads m p → (value_at m (meant j) (p + 1)).next ≤ length m.b.now
  value_room reads = (given (pushed m p (meant j) (stands _ h i)) reads.reads).2

-- there is a kind at p
pub kind_room : {m : MainBody} {p : ℕ} → ValueReads m p → p + 1 ≤ length m.b.now
unfolding read_value
kind_room {m} {p} reads = given (first _ (u8 m.b.now p)) reads.reads

-- where a value reads, a kind stands
kind_if : (terms : Terms) (b : List ℕ) (o : Option PushKind) (q r : Place) → Gives (λ a s. Found o) (read_value_if terms b o q r)
unfolding read_value_if
kind_if terms b (some kind) q r = anyway _ (found kind refl)
kind_if terms b none q r = refuses

kind_at : {m : MainBody} {p : ℕ} → ValueReads m p → Found (kind_of (get_or m.b.now p 0))
unfolding read_value
kind_at {m} {p} reads = given (next _ (u8 m.b.now p) (λ l. kind_if (read_by m) m.b.now (kind_of (get_or m.b.now p 0)) _ _)) reads.reads

-- so there is just one result that shows it
pub same_value : {m : MainBody} {p : ℕ} {r s : PushAt} → ValueReads m p → TakesValue m p r → TakesValue m p s → r ≡ s
same_value {m} {p} {r} {s} reads h j = go (kind_at reads)
  where
    go : Found (kind_of (get_or m.b.now p 0)) → r ≡ s
    go (found kind e) = h.is kind e ∙ sym (j.is kind e)

-- one is listed there
pub kind_stands : {m : MainBody} {p : ℕ} → ValueReads m p → kind_of (get_or m.b.now p 0) ≡ none → ⊥
kind_stands {m} {p} reads h = go (kind_at reads)
  where
    go : Found (kind_of (get_or m.b.now p 0)) → ⊥
    go (found kind e) = none-ne-some kind (sym h ∙ e)
