-- What the code's answer says, in the terms of the definitions: its number, its value and the action that it names. Assumes nothing.
use Rattle.std.specs.Prelude.{◌≡◌, ℕ, List, ℤ, pos, eqb, Result, Ok, Err}
use Rattle.layout.specs.Lists.{pick}
use Rattle.layout.specs.Answers.{Told, length_of, refusal_number, refusal_value, refusal_action}
use Rattle.layout.specs.Answers as answers
use Rattle.layout.specs.Order.{signed64}
use Rattle.layout.specs.Pack.{output}
use Rattle.answer.specs.declared.Refusal.{Refusal}
use Rattle.answer.specs.declared.Refusal.TheVariants as refusal

-- the code's answer: the length of the block, or why there is none
abbrev pub Answer : Type 0
Answer = Result ℕ Refusal

-- the refusal that the code's one names: 10 carries the 64 bits of a signed distance
unfoldable pub meant : Refusal → answers.Refusal
meant (refusal.SheetTooLong n) = answers.SheetTooLong n
meant refusal.BadTrailer = answers.BadTrailer
meant (refusal.CutShort p k) = answers.ReadingFault answers.CutShort p k.0
meant (refusal.UnknownCode p k) = answers.ReadingFault answers.UnknownCode p k.0
meant (refusal.BadField p k) = answers.ReadingFault answers.BadField p k.0
meant (refusal.TooDeep p k) = answers.ReadingFault answers.TooDeep p k.0
meant (refusal.LeftOver p k) = answers.ReadingFault answers.LeftOver p k.0
meant (refusal.ActionLenOverflow n k) = answers.ActionLenOverflow n k.0
meant (refusal.BlockLenOverflow n k) = answers.BlockLenOverflow n k.0
meant (refusal.JumpOffsetOverflow bits k) = answers.JumpOffsetOverflow (signed64 bits) k.0
meant (refusal.NoRoom n) = answers.NoRoom n
meant (refusal.NeverRecorded p k) = answers.NeverRecorded p.0 k.0
meant (refusal.StrayBranch p k) = answers.StrayBranch p.0 k.0
meant refusal.BadBook = answers.BadBook

-- the column "No." of document 01's table, and document 02's 14, 15 and 18
unfoldable pub number : Answer → ℕ
number (Ok n) = 0
number (Err r) = refusal_number (meant r)

-- the column "Value, and when"
unfoldable pub value : Answer → ℤ
value (Ok n) = pos n
value (Err r) = refusal_value (meant r)

-- "Other answers give 0"
unfoldable pub action : Answer → ℕ
action (Ok n) = 0
action (Err r) = refusal_action (meant r)

-- the value that an answer's number and 64 bits tell: only the bits of 10 are signed
unfoldable pub value_by : ℕ → ℕ → ℤ
value_by n bits = pick (eqb n 10) (signed64 bits) (pos bits)

-- r tells the answer a, and an output that held o holds what a leaves there
pub record Answered (a : answers.Answer (List ℕ)) (o : List ℕ) (r : Answer) (after : List ℕ) : Type 0 where
  pub told : Told length_of a (number r) (value r) (action r)
  pub holds : after ≡ output a o
