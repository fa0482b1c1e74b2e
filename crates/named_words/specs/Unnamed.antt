-- What editions 2 and 3 have in common: a sheet that reads whole and names no entry is answered the same in both; and so is any
-- sheet that does not come to an entry number. Assumes nothing.
use Rattle.std.specs.Prelude.{◌≡◌, ℕ, ◌+◌, ◌≤◌, List, [], length}
use Rattle.layout.specs.Numbers.{u16_at}
use Rattle.layout.specs.Read.{edition3, deepest, read_main}
use Rattle.layout.specs.Cut.{Third, main, cut}
use Rattle.named_words.specs.Follows.{Ends}
use Rattle.named_words.specs.Respelt.{Numbered}

-- in edition 3, with a book of no entries, the sheet s is refused right behind 65,535. So it is where reading comes to an entry
-- number; it may be so too where another field that is 65,535 stands before a fault
pub record NumberRefused (s : List ℕ) : Type 0 where
  pub start : ℕ
  pub bytes : List ℕ
  pub is_cut : cut s ≡ main Third start bytes
  pub is_refused : Ends (Numbered bytes) (read_main (edition3 []) bytes deepest)

-- no two bytes of b, one behind the other, are 65,535
abbrev pub No65535 : List ℕ → Type 0
No65535 b = (p : ℕ) → p + 2 ≤ length b → u16_at b p ≡ 65535 → ⊥
