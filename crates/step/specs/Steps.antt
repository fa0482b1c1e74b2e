-- How far a step goes, and what the code's answer is in the definitions' words. Assumes nothing.
use Rattle.std.specs.Prelude.{ℕ, List, length, leb, Option, Some, None, Result, Ok, Err}
use Rattle.layout.specs.Lists.{pick}
use Rattle.layout.specs.Answers as answers
use Rattle.layout.specs.Step.{onward}
use Rattle.step.specs.declared.Unclean.{Unclean}

-- to the place after the opcode and its payload, or past the end
unfoldable pub look_at : List ℕ → ℕ → Option ℕ
look_at s p = pick (leb (onward s p) (length s)) (Some (onward s p)) None

-- Done with the number of steps, or Unclean with a place
unfoldable pub told : Result ℕ Unclean → answers.Answer ℕ
told (Ok n) = answers.Done n
told (Err u) = answers.Refused (answers.Unclean u.place)
