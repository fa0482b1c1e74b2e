-- The packer: from a mode, a sheet, a book and the room in the output to an answer and what the output then holds. "The order is 1,
-- 2; then 3 to 7 ..; then 8 and 9 ..; then 10 ..; then 11"; 18 comes after 2, and 14 and 15 are judged with 10. Assumes nothing.
use Rattle.std.specs.Prelude.{◌≡◌, ℕ, ◌+◌, ◌-◌, Bool, true, false, List, ◌++◌, length, drop, ℤ, leb}
use Rattle.std.proofs.Math.Option.{Option, none, some}
use Rattle.layout.specs.Answers.{Fault, CutShort, UnknownCode, BadField, TooDeep, LeftOver, Refusal, ReadingFault, NoRoom, BadBook, Answer, Done, Refused, Told, length_of}
use Rattle.layout.specs.Tree.{Actions, ActionsOf}
use Rattle.layout.specs.Read.{Text, plain, in_book, Words, Terms, edition1, edition2, edition3, deepest, Place, Read, got, bad, read_main}
use Rattle.layout.specs.Strings.{map_body}
use Rattle.layout.specs.Write.{block_bytes, block_size}
use Rattle.layout.specs.Judge.{Mode, judge}
use Rattle.layout.specs.Cut.{Edition, First, Second, Third, Cut, main, uncut, cut}
use Rattle.layout.specs.Book.{book_of}

-- ---- a tree that was read

unfoldable pub unless : {A : Type 0} → Option Refusal → Answer A → Answer A
unless (some r) a = Refused r
unless none a = a

-- NoRoom: "length needed, when more than the output has"
unfoldable pub if_room : Bool → List ℕ → ℕ → Answer (List ℕ)
if_room true block needed = Done block
if_room false block needed = Refused (NoRoom needed)

-- a tree's block, in this room
abbrev pub block_in : Actions → ℕ → Answer (List ℕ)
block_in t room = if_room (leb (block_size t) room) (block_bytes t) (block_size t)

unfoldable pub pack_tree : Mode → Actions → ℕ → Answer (List ℕ)
pack_tree mode t room = unless (judge mode t) (block_in t room)

-- ---- a sheet

-- what a sheet of an edition is read by, where a book has these words, if it is well formed: "In editions 1 and 2 .. the book is not
-- looked at"
unfoldable pub edition_terms : Edition → Option Words → Option Terms
edition_terms First o = some edition1
edition_terms Second o = some edition2
edition_terms Third (some ws) = some (edition3 ws)
edition_terms Third none = none

-- the bytes of a string, in whichever form
unfoldable pub spelling : Text → List ℕ
spelling (plain s) = s
spelling (in_book i s) = s

-- the number of the action that a fault names, where so many were begun: the next one's; but "TooDeep .. the action that owns the
-- body", which is the last begun, since it is met at an owner's first body
unfoldable pub fault_action : Fault → ℕ → ℕ
fault_action CutShort begun = begun
fault_action UnknownCode begun = begun
fault_action BadField begun = begun
fault_action TooDeep begun = begun - 1
fault_action LeftOver begun = begun

-- "A place counts from the input's byte 0": the main body starts at `start`
unfoldable pub pack_read : Mode → ℕ → Read (ActionsOf Text ℕ) → ℕ → Answer (List ℕ)
pack_read mode start (got t p) room = pack_tree mode (map_body spelling t) room
pack_read mode start (bad f s) room = Refused (ReadingFault f (start + s.at) (fault_action f s.begun))

-- "18 BadBook, value 0": there are no terms to read by
unfoldable pub pack_by : Mode → Option Terms → ℕ → List ℕ → ℕ → Answer (List ℕ)
pack_by mode (some terms) start b room = pack_read mode start (read_main terms b deepest) room
pack_by mode none start b room = Refused BadBook

unfoldable pub pack_cut : Mode → Cut → Option Words → ℕ → Answer (List ℕ)
pack_cut mode (main edition start b) o room = pack_by mode (edition_terms edition o) start b room
pack_cut mode (uncut r) o room = Refused r

-- the whole, with a sheet s and a book: the block, or the refusal
unfoldable pub pack : Mode → List ℕ → List ℕ → ℕ → Answer (List ℕ)
pack mode s book room = pack_cut mode (cut s) (book_of book) room

-- the sheet reads whole with this book, as this tree, whose strings are resolved
pub record ReadsAs (s book : List ℕ) (t : Actions) : Type 0 where
  pub edition : Edition
  pub start : ℕ
  pub bytes : List ℕ
  pub terms : Terms
  pub read : ActionsOf Text ℕ
  pub next : Place
  pub is_cut : cut s ≡ main edition start bytes
  pub is_lent : edition_terms edition (book_of book) ≡ some terms
  pub is_read : read_main terms bytes deepest ≡ got read next
  pub is_tree : map_body spelling read ≡ t

-- ---- the output

-- "Bytes of the output past a Done length keep their values; on any other answer all do"
unfoldable pub output : Answer (List ℕ) → List ℕ → List ℕ
output (Done q) o = q ++ drop (length q) o
output (Refused r) o = o

-- what a call may leave, given a mode, a sheet s, a book and an output that held o: number n, value v, action number k, and what the
-- output holds afterwards
pub record Outcome (mode : Mode) (s book o : List ℕ) (n : ℕ) (v : ℤ) (k : ℕ) (after : List ℕ) : Type 0 where
  pub told : Told length_of (pack mode s book (length o)) n v k
  pub holds : after ≡ output (pack mode s book (length o)) o
