-- Demand 3, the bound on a block's length, and the note, over `pack`. Assumes nothing.
use Rattle.std.specs.Prelude.{ℤ, pos, negsuc}
use Prim.Native.Nat.{ℕ, ◌-◌}
use Rattle.std.proofs.Math.Option.{Option, none, some}
use mathlib.Core.List.{List}
use Rattle.std.proofs.Math.ListN.{length}
use Rattle.std.proofs.Math.Dec.{ltb}
use Rattle.layout.specs.Lists.{pick}
use Rattle.layout.specs.Tree.{ActionOf, ActionListOf, ActionsOf, CatchOf, FinallyOf, flat, branch, owner, Try, empty, more, body, no_catch, catch, no_finally, finally}
use Rattle.layout.specs.Read.{Words, Terms}
use Rattle.laws.specs.Packed.{sheet_distance}

-- ---- the sixteen bits of a near branch say its distance

-- the signed number that sixteen bits stand for
unfoldable pub signed16 : ℕ → ℤ
signed16 w = pick (ltb w 32768) (pos w) (negsuc (65535 - w))

-- ---- each branch of a tree given something else

module _ {S L M : Type 0} (f : L → M) where
  unfoldable mutual
    pub map_branch : ActionOf S L → ActionOf S M
    map_branch (flat x) = flat x
    map_branch (branch k l) = branch k (f l)
    map_branch (owner o b) = owner o (map_branches b)
    map_branch (Try b c y) = Try (map_branches b) (map_branches_catch c) (map_branches_finally y)

    pub map_branch_list : ActionListOf S L → ActionListOf S M
    map_branch_list empty = empty
    map_branch_list (more a xs) = more (map_branch a) (map_branch_list xs)

    pub map_branches : ActionsOf S L → ActionsOf S M
    map_branches (body es xs) = body es (map_branch_list xs)

    pub map_branches_catch : CatchOf S L → CatchOf S M
    map_branches_catch no_catch = no_catch
    map_branches_catch (catch t b) = catch t (map_branches b)

    pub map_branches_finally : FinallyOf S L → FinallyOf S M
    map_branches_finally no_finally = no_finally
    map_branches_finally (finally b) = finally (map_branches b)

-- ---- the bound, in document 01's words: "A Done length is at most 3 x D - 11"; it "holds for editions 1 and 2 only"

-- the words of terms, if there are any
abbrev pub words_of : Option Terms → Option Words
words_of none = none
words_of (some k) = k.words

-- ---- the note, in document 01's words: "the bytes of the note change nothing, so two sheets that differ only there, at equal
-- length, get equal answers and output"

-- how many bytes stand before the main body, by the trailer
unfoldable pub note_length : List ℕ → ℕ
note_length s = length s - 8 - sheet_distance s
