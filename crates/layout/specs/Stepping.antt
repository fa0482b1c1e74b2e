-- The stepping check answers what `Stepped` says and nothing else; its allowance of steps is always enough; and it counts no
-- further than there are bytes. Assumes nothing.
use Rattle.std.specs.Prelude.{◌≡◌}
use Prim.Native.Nat.{ℕ, ◌+◌, ◌≤◌}
use mathlib.Core.List.{List, ◌++◌}
use Rattle.layout.specs.Answers.{Answer, Done, Refused, Unclean}
use Rattle.layout.specs.Stepped.{IsStep, Passes, Stepped}

-- ---- and something is due for every byte string

-- what stands at the front of one
pub data Front : List ℕ → Type 0 where
  whole : {s x : List ℕ} (r : List ℕ) → IsStep x → s ≡ x ++ r → Front s
  cut : {s : List ℕ} → Passes s → Front s

pub record Due (s : List ℕ) : Type 0 where
  pub answer : Answer ℕ
  pub is_stepped : Stepped s answer

-- Done with at most n steps, or Unclean at a place that is at most n
pub data AtMost (n : ℕ) : Answer ℕ → Type 0 where
  made : {k : ℕ} → k ≤ n → AtMost n (Done k)
  unclean : {p : ℕ} → p ≤ n → AtMost n (Refused (Unclean p))
