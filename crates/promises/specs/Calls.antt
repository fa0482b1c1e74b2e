-- What a call of the packer promises, over `Outcome m s book o n v i after`: a mode m, a sheet s, a book, an output that held o,
-- the number n, the value v, the action number i, and what the output holds afterwards. That any two calls on one m, s, book and o
-- tell and leave the same is `same_outcome`, in layout's Order. Assumes nothing.
use Rattle.std.specs.Prelude.{◌≡◌, true, false, ◌⊎◌, ℕ, ◌+◌, ◌*◌, ◌≤◌, ◌<◌, List, length, take, drop, ℤ, pos}
use Rattle.std.proofs.Math.Option.{none, some}
use Rattle.layout.specs.Answers.{Fault, Done, fault_number}
use Rattle.layout.specs.Tree.{Actions}
use Rattle.layout.specs.Judge.{Mode}
use Rattle.layout.specs.Cut.{First, Second, Third}
use Rattle.layout.specs.Pack.{pack, output}
use Rattle.laws.specs.Barred.{Stray}
use Rattle.laws.specs.Packed.{sheet_distance, sheet_edition}
use Rattle.laws.specs.Editions.{sheet_in, LabelRefused}
use Rattle.action_numbers.specs.Numbered.{payload_size, OwnsBody, body_in_order, Names}
use Rattle.action_numbers.specs.Refusals.{Far, WrongBranch, Meets, IllBook}
use Rattle.agreement.specs.Source.{ActionEncoder, ok, encode}

-- ---- a call that answers 0 with value k, which is `Outcome m s book o 0 (pos k) i after`

-- the first k bytes of its output are the block that `pack` makes, and the others are as they were
pub record Filled (m : Mode) (s book o : List ℕ) (k : ℕ) (after : List ℕ) : Type 0 where
  pub packed : pack m s book (length o) ≡ Done (take k after)
  pub is_long : length (take k after) ≡ k
  pub is_within : k ≤ length o
  pub is_rest : drop k after ≡ drop k o

-- ---- the value

-- the value of a Done: a length k, "at most 3 x D - 11", which "holds for editions 1 and 2 only"
pub record DoneValue (s : List ℕ) (v : ℤ) : Type 0 where
  pub k : ℕ
  pub is_value : v ≡ pos k
  pub is_bounded : (sheet_edition s ≡ some Third → ⊥) → k + 11 ≤ 3 * sheet_distance s

-- ---- the edition

-- a call that answers 5, for a label number from 1,024 on in a sheet of edition 1, at the label's place and for the action there
pub record RefusesLabel (m : Mode) (front mark : List ℕ) (book book' o : List ℕ) (n : ℕ) (v : ℤ) (i : ℕ) (after : List ℕ) : Type 0 where
  pub label : LabelRefused m (sheet_in First front mark) (sheet_in Second front mark) book book' (length o)
  pub is_number : n ≡ 5
  pub is_value : v ≡ pos (label.start + label.place.at)
  pub is_action : i ≡ label.place.begun
  pub is_left : after ≡ o

-- ---- the mode

-- 14 or 15, where the mode m asks for it and m' does not
pub data AddedNumber (m m' : Mode) : ℕ → Type 0 where
  is_14 : m.strict ≡ true → m'.strict ≡ false → AddedNumber m m' 14
  is_15 : m.contained ≡ true → m'.contained ≡ false → AddedNumber m m' 15

-- ---- the action number

-- the numbers of the answers that name no action
abbrev pub NoAction : ℕ → Type 0
NoAction n = (n < 3) ⊎ (n ≡ 11) ⊎ (n ≡ 18)

-- the fault that was met, and its place: as many bytes of the main body stand before it as its action number says, or more
pub record MeetsFault (s book : List ℕ) (n : ℕ) (v : ℤ) (i : ℕ) : Type 0 where
  pub fault : Fault
  pub place : ℕ
  pub meets : Meets s book fault place i
  pub is_number : n ≡ fault_number fault
  pub is_value : v ≡ pos place
  pub is_behind : meets.start + i ≤ place
  pub is_within : place ≤ meets.start + length meets.bytes

-- the sheet is of edition 3 and the book is ill formed; the value and the action number are 0, and the output is as it was
pub record RefusesBook (s book o : List ℕ) (v : ℤ) (i : ℕ) (after : List ℕ) : Type 0 where
  pub ill : IllBook s book
  pub is_third : sheet_edition s ≡ some Third
  pub is_value : v ≡ pos 0
  pub is_action : i ≡ 0
  pub is_left : after ≡ o

-- ---- a call on a sheet that reads whole as a tree t

-- the action of the tree that an answer names, by its number, value and action number i. 8: action i has a payload of n bytes.
-- 9: it owns a body of n bytes. 10: it is the first branch that goes too far, with its distance z. 14 and 15: it is the first branch
-- to a label that has no record, or whose record is in another function body; p is the position of its operand, and the mode asks
-- for that
pub data NamesAction (m : Mode) (t : Actions) : ℕ → ℤ → ℕ → Type 0 where
  at_8 : {n i : ℕ} → Names (body_in_order t) i (λ start a. (payload_size a ≡ n) × (65535 < n)) → NamesAction m t 8 (pos n) i
  at_9 : {n i : ℕ} → Names (body_in_order t) i (λ start a. OwnsBody n a × (65535 < n)) → NamesAction m t 9 (pos n) i
  at_10 : {z : ℤ} {p i : ℕ} → WrongBranch (Far z) m t p i → NamesAction m t 10 z i
  at_14 : {p i : ℕ} → m.strict ≡ true → WrongBranch (λ o s. o ≡ none) m t p i → NamesAction m t 14 (pos p) i
  at_15 : {p i : ℕ} → m.contained ≡ true → WrongBranch Stray m t p i → NamesAction m t 15 (pos p) i

-- ---- demand 2

-- what the source's encoder writes for a tree: it ends well, with this output
pub record SourceWrites (t : Actions) (q : List ℕ) : Type 0 where
  pub encoder : ActionEncoder
  pub is_result : encode t ≡ ok encoder
  pub is_output : encoder.output ≡ q
