-- What the 30 bytes at the head of a record say of its room and its mode. Assumes nothing.
use Rattle.std.specs.Prelude.{◌≡◌, ℕ, ◌+◌, ◌*◌, ◌<◌, List, Option, MatchOption, cond, get_or}
use Rattle.judge.specs.declared.Mode.{Mode}

-- a byte from 0 to 3 is a mode's: 1 more if it is strict, 2 more if it is contained
abbrev pub TellsMode : ℕ → Option Mode → Type 0
TellsMode byte mode = MatchOption mode (3 < byte) (λ m. byte ≡ cond m.strict 1 0 + cond m.contained 2 0)

-- the room stands in bytes 12 to 15, the lowest first
abbrev pub room_in : List ℕ → ℕ
room_in head = get_or head 12 0 + 256 * get_or head 13 0 + 65536 * (get_or head 14 0 + 256 * get_or head 15 0)

-- and the mode in byte 16
abbrev pub TellsHead : List ℕ → ℕ → Option Mode → Type 0
TellsHead head room mode = (room ≡ room_in head) × TellsMode (get_or head 16 0) mode
