-- What the code's answer to a cut says, in the terms of the definitions. Assumes nothing.
use Rattle.std.specs.Prelude.{◌≡◌, ℕ, ◌+◌, ◌≤◌, List, length, Option, Some, None, Result, Ok, Err}
use Rattle.std.proofs.Math.Option.{none, some}
use Rattle.layout.specs.Answers.{SheetTooLong, BadTrailer}
use Rattle.layout.specs.Cut as trailer
use Rattle.layout.specs.Cut.{main, uncut}
use Rattle.editions.specs.Allowed.{meant}
use Rattle.editions.specs.declared.Edition.{Edition}
use Rattle.cut.specs.declared.Cut.{Cut}
use Rattle.cut.specs.declared.CutError.{CutError}
use Rattle.cut.specs.declared.CutError.TheVariants as error

-- the edition that has this number, if there is one
abbrev pub Coded : ℕ → Option Edition → Type 0
Coded code (Some edition) = trailer.edition_of code ≡ some (meant edition)
Coded code None = trailer.edition_of code ≡ none

-- the refusal that the code's error names
unfoldable pub refused : CutError → trailer.Cut
refused (error.SheetTooLong n) = uncut (SheetTooLong n)
refused error.BadTrailer = uncut BadTrailer

-- the main body, of this edition, starts at this place of the sheet
unfoldable pub said : Result Cut CutError → trailer.Cut
said (Ok c) = main (meant c.edition) c.start c.main.now
said (Err e) = refused e

-- and lies within it
abbrev pub Within : List ℕ → Result Cut CutError → Type 0
Within s (Ok c) = c.start + length c.main.now ≤ length s
Within s (Err e) = Unit {0}
