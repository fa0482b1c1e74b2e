-- `words::place_of` meets its contract: each branch has the step of its counts. Assumes nothing.
use mathlib.Core.Path.{◌∙◌}
use native.Mathlib.Omega.{arith}
use Rattle.editions.specs.Words.{place_of}
use Rattle.words.proofs.Steps.{every_word, every_second, every_fourth, every_eighth, every_sixteenth}
use Rattle.words.proofs.place_of.Goals as goal

pub place_by-requires : goal.place_by-requires
place_by-requires c = (omega arith, omega arith)

pub returns-then-count-le4096 : goal.returns-then-count-le4096
unfolding place_of
returns-then-count-le4096 c = (c.place_by.ensures.0 ∙ rw (every_word c.args.count (omega arith)), c.place_by.ensures.1)

pub place_by-requires-then-count-le8192 : goal.place_by-requires-then-count-le8192
place_by-requires-then-count-le8192 c = (omega arith, omega arith)

pub returns-then-count-le8192 : goal.returns-then-count-le8192
unfolding place_of
returns-then-count-le8192 c = (c.place_by-then-count-le8192.ensures.0 ∙ rw (every_second c.args.count (omega arith) (omega arith)), c.place_by-then-count-le8192.ensures.1)

pub place_by-requires-then-count-le16384 : goal.place_by-requires-then-count-le16384
place_by-requires-then-count-le16384 c = (omega arith, omega arith)

pub returns-then-count-le16384 : goal.returns-then-count-le16384
unfolding place_of
returns-then-count-le16384 c = (c.place_by-then-count-le16384.ensures.0 ∙ rw (every_fourth c.args.count (omega arith) (omega arith)), c.place_by-then-count-le16384.ensures.1)

pub place_by-requires-then-count-le32768 : goal.place_by-requires-then-count-le32768
place_by-requires-then-count-le32768 c = (omega arith, omega arith)

pub returns-then-count-le32768 : goal.returns-then-count-le32768
unfolding place_of
returns-then-count-le32768 c = (c.place_by-then-count-le32768.ensures.0 ∙ rw (every_eighth c.args.count (omega arith) (omega arith)), c.place_by-then-count-le32768.ensures.1)

pub place_by-requires-2 : goal.place_by-requires-2
place_by-requires-2 c = (omega arith, omega arith)

pub returns : goal.returns
unfolding place_of
returns c = (c.place_by-2.ensures.0 ∙ rw (every_sixteenth c.args.count (omega arith)), c.place_by-2.ensures.1)
