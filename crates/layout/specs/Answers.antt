-- Document 01's answer numbers: every answer by its name there, its number, its value, and the number of the action that it names.
-- Assumes nothing.
use Rattle.std.specs.Prelude.{◌≡◌, ℕ, List, ◌++◌, length, ℤ, pos}
use Rattle.layout.specs.Numbers.{i64_bytes}

-- what reading can meet: numbers 3 to 7, each at a place
pub data Fault : Type 0 where
  CutShort UnknownCode BadField TooDeep LeftOver : Fault

-- numbers 1 to 15 and 18, each with what its value is made of; and 3 to 10, 14 and 15 with "the number of the action being read or
-- written, counted from 0 in sheet order through all bodies"
pub data Refusal : Type 0 where
  SheetTooLong : (sheet-length : ℕ) → Refusal
  BadTrailer : Refusal
  ReadingFault : (fault : Fault) (place action : ℕ) → Refusal
  ActionLenOverflow : (payload-length action : ℕ) → Refusal
  BlockLenOverflow : (body-length action : ℕ) → Refusal
  JumpOffsetOverflow : (distance : ℤ) (action : ℕ) → Refusal
  NoRoom : (length-needed : ℕ) → Refusal
  InputFull : Refusal
  Unclean : (place : ℕ) → Refusal
  NeverRecorded : (operand action : ℕ) → Refusal
  StrayBranch : (operand action : ℕ) → Refusal
  BadBook : Refusal

-- number 0 with what was made, or a refusal
pub data Answer (A : Type 0) : Type 0 where
  Done : (made : A) → Answer A
  Refused : (refusal : Refusal) → Answer A

unfoldable pub fault_number : Fault → ℕ
fault_number CutShort = 3
fault_number UnknownCode = 4
fault_number BadField = 5
fault_number TooDeep = 6
fault_number LeftOver = 7

-- the column "No." of document 01's table
unfoldable pub refusal_number : Refusal → ℕ
refusal_number (SheetTooLong n) = 1
refusal_number BadTrailer = 2
refusal_number (ReadingFault f p k) = fault_number f
refusal_number (ActionLenOverflow n k) = 8
refusal_number (BlockLenOverflow n k) = 9
refusal_number (JumpOffsetOverflow z k) = 10
refusal_number (NoRoom n) = 11
refusal_number InputFull = 12
refusal_number (Unclean p) = 13
refusal_number (NeverRecorded p k) = 14
refusal_number (StrayBranch p k) = 15
refusal_number BadBook = 18

-- the column "Value, and when"; only 10's can be negative
unfoldable pub refusal_value : Refusal → ℤ
refusal_value (SheetTooLong n) = pos n
refusal_value BadTrailer = pos 0
refusal_value (ReadingFault f p k) = pos p
refusal_value (ActionLenOverflow n k) = pos n
refusal_value (BlockLenOverflow n k) = pos n
refusal_value (JumpOffsetOverflow z k) = z
refusal_value (NoRoom n) = pos n
refusal_value InputFull = pos 65536
refusal_value (Unclean p) = pos p
refusal_value (NeverRecorded p k) = pos p
refusal_value (StrayBranch p k) = pos p
refusal_value BadBook = pos 0

-- "Other answers give 0"
unfoldable pub refusal_action : Refusal → ℕ
refusal_action (SheetTooLong n) = 0
refusal_action BadTrailer = 0
refusal_action (ReadingFault f p k) = k
refusal_action (ActionLenOverflow n k) = k
refusal_action (BlockLenOverflow n k) = k
refusal_action (JumpOffsetOverflow z k) = k
refusal_action (NoRoom n) = 0
refusal_action InputFull = 0
refusal_action (Unclean p) = 0
refusal_action (NeverRecorded p k) = k
refusal_action (StrayBranch p k) = k
refusal_action BadBook = 0

unfoldable pub number : {A : Type 0} → Answer A → ℕ
number (Done a) = 0
number (Refused r) = refusal_number r

-- `done` gives the value of what was made
unfoldable pub value : {A : Type 0} → (A → ℤ) → Answer A → ℤ
value done (Done a) = done a
value done (Refused r) = refusal_value r

unfoldable pub action : {A : Type 0} → Answer A → ℕ
action (Done a) = 0
action (Refused r) = refusal_action r

-- "length of the block": the value of a Done whose bytes were made
abbrev pub length_of : List ℕ → ℤ
length_of q = pos (length q)

-- what a caller is told of an answer: its number n, its value v and its action number k
pub record Told {A : Type 0} (done : A → ℤ) (a : Answer A) (n : ℕ) (v : ℤ) (k : ℕ) : Type 0 where
  pub is_number : n ≡ number a
  pub is_value : v ≡ value done a
  pub is_action : k ≡ action a

-- "a 16-byte slice in place of 8: value, then action number, both i64"
unfoldable pub value_bytes : {A : Type 0} → (A → ℤ) → Answer A → List ℕ
value_bytes done a = i64_bytes (value done a) ++ i64_bytes (pos (action a))
