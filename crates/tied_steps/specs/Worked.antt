-- A tree worked by hand, with its block, the number of its steps and where its branches land. Assumes nothing.
use Rattle.std.specs.Prelude.{ℕ, List, [], ◌∷◌}
use Rattle.layout.specs.OpCode.{SmallOpCode}
use Rattle.layout.specs.Tree.{If, Jump, Small, With, entry, flat, branch, owner, empty, more, Actions, body}

-- label 0; If to label 0; Jump to label 7, which is never recorded; With of Play, which has label 1 before it; Jump to label 1
unfoldable pub worked : Actions
worked =
    body (entry 0 (record { index = 0 }) ∷ [])
    (more (branch If 0)
    (more (branch Jump 7)
    (more (owner With (body (entry 1 (record { index = 0 }) ∷ []) (more (flat (Small SmallOpCode.Play)) empty)))
    (more (branch Jump 1) empty))))

unfoldable pub worked_block : List ℕ
worked_block =
    0x9D ∷ 0x02 ∷ 0x00 ∷ 0xFB ∷ 0xFF
    ∷ 0x99 ∷ 0x02 ∷ 0x00 ∷ 0x00 ∷ 0x00
    ∷ 0x94 ∷ 0x02 ∷ 0x00 ∷ 0x01 ∷ 0x00 ∷ 0x06
    ∷ 0x99 ∷ 0x02 ∷ 0x00 ∷ 0xFA ∷ 0xFF
    ∷ 0x00 ∷ []
