-- Some blocks, computed: lines at their ends. Assumes nothing.
use Rattle.std.specs.Prelude.{◌≡◌, refl, [], ◌∷◌}
use Rattle.layout.specs.Lists.{pick}
use Rattle.print_text.specs.Pieces.{hex_digit, behind, hex_byte, hex_from, hex_lines}

-- sixteen bytes stand on one line, and a seventeenth on the next
pub sixteen : hex_lines (0xA0 ∷ 0xA1 ∷ 0xA2 ∷ 0xA3 ∷ 0xA4 ∷ 0xA5 ∷ 0xA6 ∷ 0xA7 ∷ 0xA8 ∷ 0xA9 ∷ 0xAA ∷ 0xAB ∷ 0xAC ∷ 0xAD ∷ 0xAE ∷ 0xAF ∷ [])
    ≡ 65 ∷ 48 ∷ 32 ∷ 65 ∷ 49 ∷ 32 ∷ 65 ∷ 50 ∷ 32 ∷ 65 ∷ 51 ∷ 32 ∷ 65 ∷ 52 ∷ 32 ∷ 65 ∷ 53 ∷ 32 ∷ 65 ∷ 54 ∷ 32 ∷ 65 ∷ 55 ∷ 32 ∷ 65 ∷ 56 ∷ 32 ∷ 65 ∷ 57 ∷ 32 ∷ 65 ∷ 65 ∷ 32 ∷ 65 ∷ 66 ∷ 32 ∷ 65 ∷ 67 ∷ 32 ∷ 65 ∷ 68 ∷ 32 ∷ 65 ∷ 69 ∷ 32 ∷ 65 ∷ 70 ∷ 10 ∷ []
unfolding hex_digit behind hex_byte hex_from hex_lines pick
sixteen = refl

pub seventeen : hex_lines (0xA0 ∷ 0xA1 ∷ 0xA2 ∷ 0xA3 ∷ 0xA4 ∷ 0xA5 ∷ 0xA6 ∷ 0xA7 ∷ 0xA8 ∷ 0xA9 ∷ 0xAA ∷ 0xAB ∷ 0xAC ∷ 0xAD ∷ 0xAE ∷ 0xAF ∷ 0xB0 ∷ [])
    ≡ 65 ∷ 48 ∷ 32 ∷ 65 ∷ 49 ∷ 32 ∷ 65 ∷ 50 ∷ 32 ∷ 65 ∷ 51 ∷ 32 ∷ 65 ∷ 52 ∷ 32 ∷ 65 ∷ 53 ∷ 32 ∷ 65 ∷ 54 ∷ 32 ∷ 65 ∷ 55 ∷ 32 ∷ 65 ∷ 56 ∷ 32 ∷ 65 ∷ 57 ∷ 32 ∷ 65 ∷ 65 ∷ 32 ∷ 65 ∷ 66 ∷ 32 ∷ 65 ∷ 67 ∷ 32 ∷ 65 ∷ 68 ∷ 32 ∷ 65 ∷ 69 ∷ 32 ∷ 65 ∷ 70 ∷ 10 ∷ 66 ∷ 48 ∷ 10 ∷ []
unfolding hex_digit behind hex_byte hex_from hex_lines pick
seventeen = refl
