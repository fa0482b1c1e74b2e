-- What reading makes sure of: its places lie within what is read, the fields of a tree that was read fit, and it is written
-- in at most three bytes for each byte read. Assumes nothing.
use Prim.Native.Nat.{ℕ, ◌+◌, ◌≤◌}
use mathlib.Core.List.{List}
use Rattle.std.proofs.Math.ListN.{length}
use Rattle.layout.specs.Answers.{Fault}
use Rattle.layout.specs.Read.{Text, Terms, Place, Stop, Read, got, bad, read_string}
use Rattle.laws.specs.Fits.{Clean}

-- ---- a reading of n bytes: the value and the next place have a property, and every place lies within

pub data Good (n : ℕ) {A : Type 0} (P : A → Place → Type 0) : Read A → Type 0 where
  fine : {a : A} {p : Place} → P a p → p.at ≤ n → Good n P (got a p)
  refused : {f : Fault} {s : Stop} → s.at ≤ n → Good n P (bad f s)

-- ---- what stands in a body: w gives a string's bytes; and if K, they are no more than what was read for it

-- what the reading of a string makes sure of
abbrev pub Spells : Terms → List ℕ → (Text → List ℕ) → Type 0 → Type 0
Spells k b w K = (p : Place) → p.at ≤ length b → Good (length b) (λ s q. Clean (w s) × (K → length (w s) + p.at + 2 ≤ q.at) × (p.at ≤ q.at)) (read_string k b p)
