-- Answers of the stepping check, worked by hand. Assumes nothing.
use Rattle.std.specs.Prelude.{refl}
use Rattle.layout.specs.Lists.{All, pick}
use Rattle.layout.specs.Answers.{refusal_number, refusal_value, number, value}
use Rattle.layout.specs.Step.{reach, ended, walk, step_from, step}
use Rattle.layout.specs.StepSums.{Answers, by_step}

pub steps_answer : All Answers by_step
unfolding by_step pick reach ended walk step_from step number value refusal_number refusal_value
steps_answer = ((refl, refl), ((refl, refl), ((refl, refl), ((refl, refl), ((refl, refl), ((refl, refl), ((refl, refl), ((refl, refl), ((refl, refl), ((refl, refl), tt))))))))))
