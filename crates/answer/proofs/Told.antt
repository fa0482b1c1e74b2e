-- What an answer tells, by the refusal that it names. Assumes nothing.
use Rattle.std.specs.Prelude.{◌≡◌, refl, List, ℕ, Err}
use Rattle.layout.specs.Answers as answers
use Rattle.layout.specs.Answers.{Refused}
use Rattle.layout.specs.Pack.{output}
use Rattle.answer.specs.Answered.{meant, number, value, action, Answered}
use Rattle.answer.specs.declared.Refusal.{Refusal}

-- A refusal leaves the output as it was.
pub refused : {a : answers.Answer (List ℕ)} (o : List ℕ) (r : Refusal) → a ≡ Refused (meant r) → Answered a o (Err r) o
unfolding output number value action answers.number answers.value answers.action
refused o r e = rw e (record { told = record { is_number = refl; is_value = refl; is_action = refl }; holds = refl })
