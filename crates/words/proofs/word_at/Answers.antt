-- `words::word_at` meets its contract. Assumes nothing.
use native.Mathlib.Omega.{arith}
use Rattle.words.proofs.Places.{found_whole, found_nothing}
use Rattle.words.proofs.word_at.Goals as goal

pub returns-then-m-start : goal.returns-then-m-start
returns-then-m-start c = found_nothing _ _ _ c.length_at-n.ensures.0 c.length_at-n.ensures.1 _ _ _ c.place_of-p.ensures.0 (omega arith)

pub returns : goal.returns
returns c = found_whole _ _ _ c.length_at-n.ensures.0 c.length_at-n.ensures.1 _ _ _ c.place_of-p.ensures.0 (omega arith)
