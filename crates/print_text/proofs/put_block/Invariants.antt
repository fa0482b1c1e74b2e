-- `print_text::put_block` meets its contract: the lines that are left give with those put what all give. Assumes nothing.
use Rattle.print_text.proofs.Hexes.{Going}
use Rattle.print_text.proofs.put_block.Given as goal

abbrev pub invariant-loop-i : goal.invariant-loop-i
invariant-loop-i l = Going l.block l.at l.initial.text l.text l.i l.place
