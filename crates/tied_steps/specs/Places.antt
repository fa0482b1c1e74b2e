-- Places among the steps of a byte string: where a step begins, that none begins within another, and that its bytes tell a step.
-- Assumes nothing.
use Rattle.std.specs.Prelude.{◌≡◌, ℕ, ◌+◌, List, ◌++◌, length}
use Rattle.layout.specs.Stepped.{IsStep, Steps}

-- ---- where a step begins

-- step k of a byte string q is x, and begins at place p: k steps stand before it, and nothing but steps behind it
pub record StepAt (q : List ℕ) (k p : ℕ) (x : List ℕ) : Type 0 where
  pub before : List ℕ
  pub after : List ℕ
  pub left : ℕ
  pub are_before : Steps before k
  pub is_step : IsStep x
  pub are_after : Steps after left
  pub is_whole : q ≡ before ++ (x ++ after)
  pub is_place : length before ≡ p

-- "where some step begins"
pub record Begins (q : List ℕ) (p : ℕ) : Type 0 where
  pub k : ℕ
  pub x : List ℕ
  pub stands : StepAt q k p x

-- ---- one byte string is one sequence of steps

-- x and y are the same, and so is what follows each
pub record Same (x a y b : List ℕ) : Type 0 where
  pub front : x ≡ y
  pub rest : a ≡ b
