-- How many actions reading begins: a field begins none, so that a fault in it is met at the action being read; and no reading
-- begins more than one for each byte it passes. Assumes nothing.
use Prim.Native.Nat.{ℕ, ◌+◌, ◌≤◌}
use Rattle.layout.specs.Answers.{Fault}
use Rattle.layout.specs.Tree.{count}
use Rattle.layout.specs.Read.{Place, placed, Stop, stop, Read, got, bad, Reader}

-- ---- fields

-- a reading from place p that goes on from there, and begins no action
pub data Fields (p : Place) {A : Type 0} : Read A → Type 0 where
  read : {a : A} {q : Place} → p.at ≤ q.at → Fields p (got a q)
  met : {f : Fault} {n : ℕ} → p.at ≤ n → Fields p (bad f (stop (placed n)))

abbrev pub OfFields : {A : Type 0} → Reader A → Type 0
OfFields r = (p : Place) → Fields p (r p)

-- ---- actions

-- a reading that, from n on, passes at least as many bytes as there are actions in what it gives, or as it has begun
pub data Begins {A : Type 0} (count : A → ℕ) (n : ℕ) : Read A → Type 0 where
  read : {a : A} {q : Place} → count a + n ≤ q.at → Begins count n (got a q)
  met : {f : Fault} {s : Stop} → s.begun + n ≤ s.at → Begins count n (bad f s)
