-- Two readings of one main body, by terms that differ only in how strings are read: where the one's strings follow the other's, so
-- does the whole. Assumes nothing.
use Rattle.std.specs.Prelude.{List}
use Prim.Native.Nat.{ℕ}
use Rattle.layout.specs.Lists.{All}
use Rattle.layout.specs.Answers.{Fault}
use Rattle.layout.specs.Read.{Text, plain, in_book, Place, Stop, Read, got, bad}

-- ---- one reading follows another

-- a text by its bytes, and not by an entry's number
abbrev pub IsPlain : Text → Type 0
IsPlain (plain s) = Unit {0}
IsPlain (in_book i s) = ⊥

-- a reading that gives nothing with the property
pub data Without {A : Type 0} (P : A → Type 0) : Read A → Type 0 where
  other : {a : A} {q : Place} → (P a → ⊥) → Without P (got a q)
  fault : {f : Fault} {s : Stop} → Without P (bad f s)

-- y follows x: it gives what x gives, made over by f, or meets what x meets. Two exceptions are allowed: x meets a fault at a place
-- that is an End; and, if Loose holds, x gives nothing with the property P
pub data Follows (Loose : Type 0) (End : ℕ → Type 0) {A : Type 0} (P : A → Type 0) (f : A → A) : Read A → Read A → Type 0 where
  gives : {a : A} {q : Place} → Follows Loose End P f (got a q) (got (f a) q)
  meets : {e : Fault} {s : Stop} → Follows Loose End P f (bad e s) (bad e s)
  ends : {e : Fault} {s : Stop} {y : Read A} → End s.at → Follows Loose End P f (bad e s) y
  unasked : {x y : Read A} → Loose → Without P x → Follows Loose End P f x y

-- the texts of a list are plain
abbrev pub Plain : List Text → Type 0
Plain l = All IsPlain l

-- ---- what a reading that follows another is

-- what was read, made over by f
unfoldable pub map_read : {A B : Type 0} → (A → B) → Read A → Read B
map_read f (got a q) = got (f a) q
map_read f (bad e s) = bad e s

-- no place
abbrev pub Nowhere : ℕ → Type 0
Nowhere n = ⊥

-- x meets a fault at an End
pub data Ends (End : ℕ → Type 0) {A : Type 0} : Read A → Type 0 where
  ends_at : {e : Fault} {s : Stop} → End s.at → Ends End (bad e s)
