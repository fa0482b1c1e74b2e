-- The label table and a body's label entries, as the code holds them. Assumes nothing.
use Rattle.std.specs.Prelude.{◌≡◌, ℕ, zero, suc, min, ◌+◌, ◌*◌, ◌/◌, ◌≤◌, ◌<◌, Bool, true, false, ◌&&◌, List, [], ◌∷◌, length, get_or, set, ltb, eqb, Some, None}
use Rattle.std.specs.Prelude as code
use Rattle.std.proofs.Math.Option.{Option, none, some}
use Rattle.layout.specs.Lists.{pick}
use Rattle.layout.specs.Numbers.{u16_at}
use Rattle.layout.specs.Tree.{ActionIndex, Entry, entry}
use Rattle.layout.specs.Read.{Terms}
use Rattle.layout.specs.Write.{Position, position, Event, label_at, branch_at, payload_too_long, body_too_long, labels_at, lookup}
use Rattle.positions.specs.declared.ActionIndex as index
use Rattle.positions.specs.declared.BytePosition.{BytePosition}
use Rattle.labels.specs.declared.Tables as lent
use Rattle.labels.specs.declared.EntryNumber.{EntryNumber}

-- ---- the table of positions

-- what it keeps of a label's record: its position + 1, since 0 stands for none
abbrev pub slot_of : Position → ℕ
slot_of s = s.at + 1

-- the record that a slot holds, but for its home and its action number, which this table does not keep: 0 stands there
unfoldable pub record_of : ℕ → Option Position
record_of zero = none
record_of (suc n) = some (position n 0 0)

-- the record that a table holds for a label
abbrev pub record_at : List ℕ → ℕ → Option Position
record_at tab l = record_of (get_or tab l 0)

-- whether there is a record
unfoldable pub is_recorded : Option Position → Bool
is_recorded none = false
is_recorded (some s) = true

-- ---- the table of homes: lent where the mode is contained, else empty

-- what it keeps of a label's record
abbrev pub home_of : Position → ℕ
home_of s = s.home

-- a record with this home; its number is not kept
unfoldable pub homed : ℕ → Option Position → Option Position
homed home none = none
homed home (some s) = some (position s.at home 0)

-- a record without its number
unfoldable pub unnumbered : Option Position → Option Position
unnumbered none = none
unnumbered (some s) = some (position s.at s.home 0)

-- the record that both tables hold for a label
abbrev pub record_in : List ℕ → List ℕ → ℕ → Option Position
record_in tab homes l = homed (get_or homes l 0) (record_at tab l)

-- whether a record, if there is one, was made in the function body that starts at `home`
unfoldable pub is_at_home : ℕ → Option Position → Bool
is_at_home home none = true
is_at_home home (some s) = eqb s.home home

-- ---- recording

-- what the label records among these events make of a table, by what it keeps of each; a label past its end changes nothing
unfoldable pub record_all : (Position → ℕ) → List Event → List ℕ → List ℕ
record_all keep [] tab = tab
record_all keep (label_at l s ∷ es) tab = record_all keep es (set tab l (keep s))
record_all keep (branch_at l s ∷ es) tab = record_all keep es tab
record_all keep (payload_too_long n s ∷ es) tab = record_all keep es tab
record_all keep (body_too_long n s ∷ es) tab = record_all keep es tab

-- both tables
pub record Tables : Type 0 where
  pub positions : List ℕ
  pub homes : List ℕ

abbrev pub tables : List ℕ → List ℕ → Tables
tables tab homes = record { positions = tab; homes = homes }

-- those that the code's struct lends
abbrev pub held : lent.Tables → Tables
held t = tables t.tab.now t.homes.now

-- the struct still lends the same two slices, so that one who lent them learns what they hold
pub record SameTables (old new : lent.Tables) : Type 0 where
  pub tab : new.tab.ghost_name ≡ old.tab.ghost_name
  pub homes : new.homes.ghost_name ≡ old.homes.ghost_name

-- what the label records make of both
unfoldable pub recorded : List Event → Tables → Tables
recorded es t = tables (record_all slot_of es t.positions) (record_all home_of es t.homes)

-- a table that holds nothing yet
abbrev pub Cleared : List ℕ → Type 0
Cleared tab = (l : ℕ) → l < length tab → get_or tab l 0 ≡ 0

-- what a slot holds of a label's final record: what the table keeps of it, 0 without one
unfoldable pub kept : (Position → ℕ) → Option Position → ℕ
kept keep none = 0
kept keep (some s) = keep s

-- a table holds this of each label's final record among these events, for as many labels as it has slots
pub record Keeps (keep : Position → ℕ) (tab : List ℕ) (es : List Event) : Type 0 where
  pub holds : (l : ℕ) → l < length tab → get_or tab l 0 ≡ kept keep (lookup l es)

-- the table of positions does
abbrev pub TableHolds : List ℕ → List Event → Type 0
TableHolds tab es = Keeps slot_of tab es

-- and that of homes
abbrev pub HomesHold : List ℕ → List Event → Type 0
HomesHold homes es = Keeps home_of homes es

-- a slot for each label number that the terms allow; 65,535 is none of these numbers
pub record Slots (terms : Terms) (tab : List ℕ) : Type 0 where
  pub few : terms.label_bound < 65536
  pub enough : terms.label_bound ≤ length tab

-- ---- the entries

-- the n entries that stand at a place, four bytes each
unfoldable pub entries_at : List ℕ → ℕ → ℕ → List Entry
entries_at b zero at = []
entries_at b (suc n) at = entry (u16_at b at) (record { index = u16_at b (at + 2) }) ∷ entries_at b n (at + 4)

-- all that these bytes hold
abbrev pub entries_in : List ℕ → List Entry
entries_in e = entries_at e (length e / 4) 0

-- an entry as one number, by which the entries of a body are in the order of their recording
unfoldable pub key : Entry → ℕ
key (entry l i) = l + 65536 * i.index

-- "no entry is left"
abbrev pub none_left : ℕ
none_left = 4294967295

-- a number, or "no entry is left" for one under `from`
unfoldable pub unless_under : ℕ → ℕ → ℕ
unless_under from k = pick (ltb k from) none_left k

-- the least of the entries' numbers that are not under `from`
unfoldable pub due : List Entry → ℕ → ℕ
due [] from = none_left
due (e ∷ es) from = min (unless_under from (key e)) (due es from)

-- the entry with a number, unless it is "no entry is left"
unfoldable pub entry_of : ℕ → code.Option EntryNumber
entry_of n = pick (eqb n none_left) None (Some (record { 0 = n }))

-- label numbers under a bound, strictly rising from `least` on
pub data Rising (bound : ℕ) : ℕ → List Entry → Type 0 where
  end : {least : ℕ} → Rising bound least []
  next : {least l : ℕ} {i : ActionIndex} {es : List Entry} → least ≤ l → l < bound → Rising bound (suc l) es → Rising bound least (entry l i ∷ es)

-- ---- what the code's two kinds of number stand for

abbrev pub index_of : index.ActionIndex → ActionIndex
index_of i = record { index = i.0 }

-- a position, and where the function body that it lies in starts; of a label, whose number is not kept
abbrev pub position_of : BytePosition → BytePosition → Position
position_of p home = position p.0 home.0 0

-- ---- the recording of the entries es with index i, at position s

-- what it asks: `first` is the first entry due, and the table has a slot for each label that the terms allow
pub record Recordable (es : List Entry) (first : code.Option EntryNumber) (i : ActionIndex) (s : Position) (tab : List ℕ) : Type 0 where
  pub terms : Terms
  pub is_due : first ≡ entry_of (due es (65536 * i.index))
  pub rising : Rising terms.label_bound 0 es
  pub slots : Slots terms tab
  pub index_fits : i.index < 65536
  pub position_fits : s.at < 9223372036854775808

-- what it leaves in the tables, and `later`, the first entry due at the next action
pub record Recorded (es : List Entry) (i : ActionIndex) (s : Position) (old new : Tables) (later : code.Option EntryNumber) : Type 0 where
  pub table : new ≡ recorded (labels_at es i s) old
  pub is_due : later ≡ entry_of (due es (65536 * (i.index + 1)))

-- ---- a branch's distance

-- whether the signed number of these 64 bits is outside -32,768 to 32,767; 18446744073709518848 are the bits of -32,768
unfoldable pub is_far : ℕ → Bool
is_far bits = ltb 32767 bits && ltb bits 18446744073709518848
