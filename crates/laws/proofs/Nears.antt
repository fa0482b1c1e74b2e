-- Branches that do not go too far: one, and all among events. Assumes nothing.
use Rattle.std.specs.Prelude.{◌≡◌, refl, ℕ, ◌+◌, ◌≤◌, ◌<◌, Bool, true, false, ◌&&◌, List, [], ◌∷◌, ◌++◌, leb}
use Rattle.std.proofs.Common.{sym, ◌∙◌, leb-true}
use Rattle.std.proofs.lemmas.Bool.{false≢true}
use Rattle.std.proofs.Math.Option.{Option, none, some, none-ne-some}
use Rattle.std.proofs.Math.IntN.{sub_ℕ}
use native.Mathlib.Omega.{arith}
use Rattle.layout.specs.Answers.{JumpOffsetOverflow}
use Rattle.layout.specs.Write.{Position, Event, branch_at, moved, to_operand, distance_bits}
use Rattle.layout.specs.Judge.{distance, is_near, far_unless, judged, first_refused, far_by}
use Rattle.laws.proofs.Branches.{or_left, or_right, refused_append}
use Rattle.laws.specs.Nears.{NoneFar}

-- ---- one branch that does not go too far

pub near_both : (to after : ℕ) → is_near to after ≡ true → (to ≤ after + 32767) × (after ≤ to + 32768)
unfolding is_near
near_both to after h = go (leb to (after + 32767)) refl (leb after (to + 32768)) refl h
  where
    go : (x : Bool) → leb to (after + 32767) ≡ x → (y : Bool) → leb after (to + 32768) ≡ y → (x && y) ≡ true → (to ≤ after + 32767) × (after ≤ to + 32768)
    go true hx true hy k = (leb-true to (after + 32767) hx, leb-true after (to + 32768) hy)
    go true hx false hy k = absurd (false≢true k)
    go false hx y hy k = absurd (false≢true k)

pub near_of_lem : (s : Position) (after k : ℕ) → judged (some s) after k ≡ none → is_near s.at after ≡ true
unfolding judged distance
near_of_lem s after n e = go (is_near s.at after) e
  where
    go : (t : Bool) → far_unless t (sub_ℕ s.at after) n ≡ none → t ≡ true
    go true k = refl
    go false k = absurd (none-ne-some (JumpOffsetOverflow (sub_ℕ s.at after) n) (sym (unfold far_unless in k)))

-- sixteen bits are written for any branch
pub bits_small : (o : Option Position) (after : ℕ) → distance_bits o after < 65536
unfolding distance_bits
bits_small none after = omega arith
bits_small (some s) after = omega arith

module _ (final : ℕ → Option Position) where
  -- none in two parts is none in each
  pub near_left : (xs ys : List Event) → NoneFar final (xs ++ ys) → NoneFar final xs
  near_left xs ys e = or_left (far_by final xs) (far_by final ys) (sym (refused_append _ final xs ys) ∙ e)

  pub near_right : (xs ys : List Event) → NoneFar final (xs ++ ys) → NoneFar final ys
  near_right xs ys e = or_right (far_by final xs) (far_by final ys) (sym (refused_append _ final xs ys) ∙ e)

  -- a branch at a position, whose operand ends five bytes after it
  pub branch_near : (l : ℕ) (s : Position) → NoneFar final (branch_at l (to_operand s) ∷ []) → judged (final l) (s.at + 5) (s.number + 0) ≡ none
  unfolding first_refused moved
  branch_near l s e =
      let same : s.at + 5 ≡ s.at + 3 + 2 = omega arith in
      rw same (or_left (judged (final l) (s.at + 3 + 2) (s.number + 0)) none e)
