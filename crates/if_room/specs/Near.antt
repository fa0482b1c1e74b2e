-- What the last step asks and leaves: a main body that only room can be wanting for. Assumes nothing.
use Rattle.std.specs.Prelude.{◌≡◌, ℕ, List, length}
use Rattle.std.proofs.Math.Option.{none}
use Rattle.layout.specs.Answers as answers
use Rattle.layout.specs.Tree.{Actions}
use Rattle.layout.specs.Read.{Terms}
use Rattle.layout.specs.Write.{events}
use Rattle.layout.specs.Judge.{too_far}
use Rattle.laws.specs.Packed.{ReadsMain}
use Rattle.labels.specs.Mains.{MainMeasured}
use Rattle.positions.specs.declared.BytePosition.{BytePosition}
use Rattle.answer.specs.Answered.{Answer, Answered}

-- no branch in it goes too far
pub record MainNear (terms : Terms) (b : List ℕ) (end : BytePosition) (tab : List ℕ) : Type 0 where
  pub measured : MainMeasured terms b end tab
  pub nearby : too_far (events measured.tree) (events measured.tree) ≡ none

-- what is left of a main body: a definition's answer, by the room, to whatever tree it is found to read as
pub record MainAnswered (terms : Terms) (answer : Actions → ℕ → answers.Answer (List ℕ)) (b old : List ℕ) (r : Answer) (new : List ℕ) : Type 0 where
  pub answered : (t : Actions) → ReadsMain terms b t → Answered (answer t (length old)) old r new
