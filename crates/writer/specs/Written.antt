-- What a writer is after its operations. Assumes nothing.
use Rattle.std.specs.Prelude.{ℕ, ◌+◌, List, length}
use Rattle.std.proofs.lemmas.List.Edits.{sets}
use denote.Ref.{at_last}
use Rattle.positions.specs.declared.BytePosition.{BytePosition}
use Rattle.writer.specs.declared.Writer.{Writer}

-- A writer once a run of bytes is appended: the run stands at the position reached, and the position is after it.
abbrev pub appended : Writer → List ℕ → Writer
appended w bs = record { out = at_last w.out (sets w.out.now w.at.0 bs); at = record { 0 = w.at.0 + length bs } }

-- A writer once a run of bytes is written at another position: the one reached stays.
abbrev pub patched : Writer → BytePosition → List ℕ → Writer
patched w earlier bs = record { out = at_last w.out (sets w.out.now earlier.0 bs); at = w.at }
