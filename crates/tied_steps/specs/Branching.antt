-- Of the actions in sheet order: those whose own bytes begin with a branch's opcode are branches, and no branch among them goes too
-- far, where none does among the events. Assumes nothing.
use Rattle.std.specs.Prelude.{ℕ, ◌+◌}
use mathlib.Core.List.{List, [], ◌∷◌}
use Rattle.layout.specs.Tree.{Branch, Action, branch}
use Rattle.action_numbers.specs.Numbered.{own_size}

-- what is left
pub data IsBranch : Action → Type 0 where
  a_branch : (k : Branch) (l : ℕ) → IsBranch (branch k l)

-- ---- no branch goes too far

-- each action is so, by the position where it starts
abbrev pub EachFrom : (ℕ → Action → Type 0) → List Action → ℕ → Type 0
EachFrom P [] p = Unit {0}
EachFrom P (a ∷ xs) p = P p a × EachFrom P xs (p + own_size a)
