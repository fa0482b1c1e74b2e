use Rattle.std.proofs.Common.{refl}
use Rattle.layout.specs.Read.{edition1, edition2, edition3}
use Rattle.editions.specs.Words.{words_if}
use Rattle.editions.proofs.Edition.terms.Goals as goal

pub returns-in-First : goal.returns-in-First
unfolding edition1 words_if
returns-in-First c = rw (c.in-First.is, c.reading_by.ensures) (λ e index. refl)

pub returns-in-Second : goal.returns-in-Second
unfolding edition2 words_if
returns-in-Second c = rw (c.in-Second.is, c.reading_by-in-Second.ensures) (λ e index. refl)

pub returns-in-Third : goal.returns-in-Third
unfolding edition3 words_if
returns-in-Third c = rw (c.in-Third.is, c.reading_by-in-Third.ensures) (λ e index. refl)
