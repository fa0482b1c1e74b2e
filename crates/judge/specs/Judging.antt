-- What judging asks and what it finds: the first branch in writing order that is refused, by the mode and the label tables.
-- Assumes nothing.
use Rattle.std.specs.Prelude.{◌≡◌, ℕ, ◌≤◌, true, List, length, get_or, Result}
use Rattle.std.specs.Result.{MatchResult, IfOk}
use Rattle.std.proofs.Math.Option.{Option, none, some}
use Rattle.layout.specs.Answers.{Refusal, JumpOffsetOverflow, NeverRecorded, StrayBranch}
use Rattle.layout.specs.Order.{signed64}
use Rattle.layout.specs.Tree.{Actions}
use Rattle.layout.specs.Read.{Terms, Place, Read, got, bad}
use Rattle.layout.specs.Write.{Position, Event, events}
use Rattle.layout.specs.Judge.{Mode, bad_by, bad_branch}
use Rattle.laws.specs.Packed.{ReadsMain}
use Rattle.labels.specs.Table.{record_in, HomesHold}
use Rattle.labels.specs.Mains.{MainMeasured}
use Rattle.positions.specs.declared.ActionNumber.{ActionNumber}
use Rattle.positions.specs.declared.BytePosition.{BytePosition}
use Rattle.positions.specs.declared.Cursor.{Cursor}
use Rattle.positions.specs.Scanned.{Roomy}
use Rattle.measure.specs.Walk.{Measure}
use Rattle.judge.specs.declared.Mode as code-mode
use Rattle.judge.specs.declared.BadBranch.{BadBranch}
use Rattle.judge.specs.declared.BadBranch.TheVariants as branch
use Rattle.judge.specs.declared.Refused.{Refused}
use Rattle.judge.specs.declared.Rules.{Rules}

-- ---- the mode and a refusal, as the code holds them

abbrev pub mode_of : code-mode.Mode → Mode
mode_of m = record { strict = m.strict; contained = m.contained }

-- 10, 14 or 15, each with its value and the branch's number
unfoldable pub refusal_of : BadBranch → ActionNumber → Refusal
refusal_of (branch.Far bits) k = JumpOffsetOverflow (signed64 bits) k.0
refusal_of (branch.NeverRecorded w) k = NeverRecorded w.0 k.0
refusal_of (branch.StrayBranch w) k = StrayBranch w.0 k.0

-- what an answer says: that no branch is refused, or the refusal
abbrev pub Says : {A : Type 0} → Option Refusal → Result A Refused → Type 0
Says o r = MatchResult r (λ _. o ≡ none) (λ e. o ≡ some (refusal_of e.bad e.action))

-- ---- by the tables

-- every position in a table is far from overflow
abbrev pub Small : List ℕ → Type 0
Small tab = (l : ℕ) → get_or tab l 0 ≤ 1099511627777

-- where the mode is contained, a home for each label that the terms allow
abbrev pub HomesLent : Terms → Mode → List ℕ → Type 0
HomesLent terms mode homes = mode.contained ≡ true → terms.label_bound ≤ length homes

-- the record that the tables hold for a label
abbrev pub record_by : Rules → ℕ → Option Position
record_by rules l = record_in rules.tab.now rules.homes.now l

-- the first of these branches that is refused
abbrev pub refused_by : Rules → List Event → Option Refusal
refused_by rules es = bad_by (mode_of rules.mode) (record_by rules) es

-- what is asked of the rules: a slot for each label that the terms allow
pub record Fitting (terms : Terms) (rules : Rules) : Type 0 where
  pub slots : terms.label_bound ≤ length rules.tab.now
  pub small : Small rules.tab.now
  pub lent : HomesLent terms (mode_of rules.mode) rules.homes.now

-- and of where the walk stands: that something reads there, with no more actions before than bytes
pub record Judgeable {A : Type 0} (terms : Terms) (read : Read A) (b : List ℕ) (from : Cursor) (rules : Rules) : Type 0 where
  pub roomy : Roomy b from.at from.pos
  pub before : from.number.0 ≤ from.at
  pub fitting : Fitting terms rules
  pub value : A
  pub next : Place
  pub reads : read ≡ got value next

-- where the walk stands after what was read and measured
pub record Reached (m : Measure) (q : Place) (c : Cursor) : Type 0 where
  pub place : c.at ≡ q.at
  pub end : c.pos.0 ≡ m.end
  pub number : c.number.0 ≡ m.number

-- what is found there: where it ends, or the first branch that is refused
abbrev pub Judging : Rules → Read Measure → Result Cursor Refused → Type 0
Judging rules (got m q) r = Says (refused_by rules m.branching) r × IfOk r (Reached m q)
Judging rules (bad f s) r = ⊥

-- ---- a whole main body

-- what is asked of it: its label tables
pub record MainJudgeable (terms : Terms) (b : List ℕ) (end : BytePosition) (mode : Mode) (tab homes : List ℕ) : Type 0 where
  pub measured : MainMeasured terms b end tab
  pub holds : HomesHold homes (events measured.tree)
  pub lent : HomesLent terms mode homes

-- what is said of it, for whatever tree it is found to read as
pub record MainJudged {A : Type 0} (terms : Terms) (mode : Mode) (b : List ℕ) (r : Result A Refused) : Type 0 where
  pub says : (t : Actions) → ReadsMain terms b t → Says (bad_branch mode (events t) (events t)) r
