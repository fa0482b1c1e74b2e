-- `print_text::put_block` meets its contract: the lines that are left give with those put what all give. Assumes nothing.
use Rattle.print_text.proofs.Hexes.{going_start, going_on, going_end}
use Rattle.print_text.proofs.put_block.Goals as goal

pub loop-i-init : goal.loop-i-init
loop-i-init c = going_start _ _ _

pub loop-i-preserved : goal.loop-i-preserved
loop-i-preserved c = going_on c.loop-i.invariant c.loop-i-test.true c.separator.ensures c.put_byte-place.ensures

pub returns : goal.returns
returns c = going_end c.loop-i.invariant c.loop-i-test.false
