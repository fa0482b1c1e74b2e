-- `words::step_of` meets its contract. Assumes nothing.
use mathlib.Core.Path.{sym}
use native.Mathlib.Omega.{arith}
use Rattle.words.proofs.Steps.{every_word, every_second, every_fourth, every_eighth, every_sixteenth}
use Rattle.words.proofs.step_of.Goals as goal

pub returns-then-count-le4096 : goal.returns-then-count-le4096
returns-then-count-le4096 c = (sym (every_word _ (omega arith)), omega arith, omega arith)

pub returns-then-count-le8192 : goal.returns-then-count-le8192
returns-then-count-le8192 c = (sym (every_second _ (omega arith) (omega arith)), omega arith, omega arith)

pub returns-then-count-le16384 : goal.returns-then-count-le16384
returns-then-count-le16384 c = (sym (every_fourth _ (omega arith) (omega arith)), omega arith, omega arith)

pub returns-then-count-le32768 : goal.returns-then-count-le32768
returns-then-count-le32768 c = (sym (every_eighth _ (omega arith) (omega arith)), omega arith, omega arith)

pub returns : goal.returns
returns c = (sym (every_sixteenth _ (omega arith)), omega arith, omega arith)
