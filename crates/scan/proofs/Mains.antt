-- Laws of a whole main body: from what the walk leaves to the final table and the first overflow. Assumes nothing.
use mathlib.Core.Path.{◌≡◌, refl, ap, ◌∙◌}
use Prim.Native.Nat.{ℕ, ◌+◌, ◌≤◌, ◌<◌}
use native.Mathlib.Omega.{arith}
use mathlib.Core.List.{List, [], ◌∷◌}
use lib.ListN.{length, replicate, get_or-replicate, length-replicate}
use borrow.Author.Tests.{eq-eqb, ne_eqb}
use Rattle.std.specs.Prelude.{Result, Ok, Err, Some, None}
use Rattle.std.specs.Prelude as code
use Rattle.std.proofs.Math.Option.{Option}
use Rattle.layout.specs.Answers.{Refusal, LeftOver}
use Rattle.layout.specs.Answers as answers
use Rattle.layout.specs.Tree.{ActionsOf, body_count}
use Rattle.layout.specs.Read.{Text, Terms, deepest, placed, Stop, Read, got, bad, if_nothing_left, read_body, read_main}
use Rattle.layout.specs.Write.{block_start, Event, label_at, branch_at, payload_too_long, body_too_long, events}
use Rattle.layout.specs.Judge.{too_long}
use Rattle.laws.specs.Fits.{Bytes}
use Rattle.laws.proofs.ReadFits.{good_got, good_bad}
use Rattle.laws.specs.Books.{WordsShort}
use Rattle.laws.proofs.Shares.{body_most, main_most}
use Rattle.laws.proofs.Begun.{begins_bad, main_begins}
use Rattle.laws.specs.Resolved.{body_length, body_events}
use Rattle.labels.specs.Table.{slot_of, home_of, record_all, recorded, Cleared, Slots}
use Rattle.labels.proofs.Labels.{keeps}
use Rattle.positions.specs.declared.Cursor.{Cursor}
use Rattle.positions.specs.declared.Halt.{Halt}
use Rattle.positions.specs.Scanned.{fault_of, halts_at}
use Rattle.positions.proofs.Answers.{err_same, ok_not_err}
use Rattle.measure.specs.declared.Limit.TheVariants.{ActionLen, BlockLen}
use Rattle.measure.specs.declared.Overflow.{Overflow}
use Rattle.measure.specs.declared.Notes.{Notes}
use Rattle.measure.specs.Refusals.{refusal_by}
use Rattle.measure.specs.Walk.{State, kept_in, overflow, note_all, run, fault, outcome, Ran}
use Rattle.bodies.proofs.Walks.{ran_is, ran_bad, outcome_is}
use Rattle.scan.specs.Mains.{Empty, Holds, nothing_long, payload_long, body_long, refusal_in, MainScanned, whole, stopped}

-- ---- the first overflow is kept

all_kept : (es : List Event) (o : Overflow) → note_all es (Some o) ≡ Some o
unfolding note_all
all_kept [] o = refl
all_kept (label_at l s ∷ es) o = all_kept es o
all_kept (branch_at l s ∷ es) o = all_kept es o
all_kept (payload_too_long n s ∷ es) o = all_kept es o
all_kept (body_too_long n s ∷ es) o = all_kept es o

first_held : (es : List Event) → Holds (too_long es) (note_all es None)
unfolding note_all too_long
first_held [] = nothing_long
first_held (label_at l s ∷ es) = first_held es
first_held (branch_at l s ∷ es) = first_held es
first_held (payload_too_long n s ∷ es) = rw (all_kept es (overflow ActionLen n s.number)) payload_long
first_held (body_too_long n s ∷ es) = rw (all_kept es (overflow BlockLen n s.number)) body_long

-- what it is as a refusal
pub held_refusal : {x : Option Refusal} {over : code.Option Overflow} → Holds x over → refusal_in over ≡ x
unfolding refusal_by refusal_in
held_refusal nothing_long = refl
held_refusal payload_long = refl
held_refusal body_long = refl

-- ---- what a caller lends: zeros

pub zeros_cleared : (n : ℕ) → Cleared (replicate n 0)
zeros_cleared n l h = get_or-replicate {A = ℕ} n l 0 0 (omega (arith, length-replicate {A = ℕ} n 0))

-- n of them are slots enough for n label numbers
pub zeros_slots : (terms : Terms) (n : ℕ) → terms.label_bound ≤ n → n < 65536 → Slots terms (replicate n 0)
zeros_slots terms n h k = record { few = omega (arith, h, k); enough = omega (arith, h, length-replicate {A = ℕ} n 0) }

-- ---- what scan_main answers

module _ (terms : Terms) (b : List ℕ) (notes notes' : Notes) (small : Bytes b) (e : Empty terms notes) (r : Result Cursor Halt)
    (o : Ran (outcome body_length body_count body_events block_start (kept_in notes) (read_body terms b 16 (placed 0))) r (kept_in notes')) where
  pub main_stops : (x : Halt) → r ≡ Err x → MainScanned notes' (read_main terms b deepest) (Err x)
  unfolding read_main outcome
  main_stops h k = go (read_body terms b 16 (placed 0)) refl (ran_bad o k)
    where
      fault_is : (g : answers.Fault) (q : Stop) → fault (fault_of g) q.at (0 + q.begun) ≡ fault h.fault h.place h.number.0 → read_body terms b 16 (placed 0) ≡ bad g q → MainScanned notes' (read_main terms b deepest) (Err h)
      fault_is g q z x =
          let f : fault_of g ≡ h.fault = cc in
          let p : q.at ≡ h.place = cc in
          let j : 0 + q.begun ≡ h.number.0 = cc in
          rw (x, ← f, ← p) (stopped {s = q} {k = h.number} (omega (arith, j)))

      go : (x : Read (ActionsOf Text ℕ)) → read_body terms b 16 (placed 0) ≡ x → outcome body_length body_count body_events block_start (kept_in notes) x ≡ fault h.fault h.place h.number.0 → MainScanned notes' (read_main terms b deepest) (Err h)
      go (got t q) x z =
          let y : ◌≡◌ {A = ℕ} 0 1 = cc in
          absurd (omega arith)
      go (bad g q) x z = fault_is g q z x

  module _ (end : Cursor) (k : r ≡ Ok end) where
    pub main_left : end.at < length b → MainScanned notes' (read_main terms b deepest) (halts_at (fault_of LeftOver) end.at end.number)
    unfolding read_main if_nothing_left
    main_left h = let z = outcome_is body_length body_count body_events block_start _ (read_body terms b 16 (placed 0)) (ran_is o k) in go z.0 z.1 z.3
      where
        go : (t : ActionsOf Text ℕ) → read_body terms b 16 (placed 0) ≡ got t (placed end.at) → end.number.0 ≡ 0 + body_count t → MainScanned notes' (read_main terms b deepest) (halts_at (fault_of LeftOver) end.at end.number)
        go t x y = rw (x, ne_eqb end.at (length b) (λ z. omega arith)) (stopped {s = record { at = end.at; begun = body_count t + 0 }} {k = end.number} (omega (arith, y)))

    pub main_whole : WordsShort terms → length b ≤ end.at → MainScanned notes' (read_main terms b deepest) (Ok end)
    unfolding read_main if_nothing_left run recorded events
    main_whole short h = let z = outcome_is body_length body_count body_events block_start _ (read_body terms b 16 (placed 0)) (ran_is o k) in go z.0 z.1 z.2 z.4
      where
        go : (t : ActionsOf Text ℕ) → read_body terms b 16 (placed 0) ≡ got t (placed end.at) → end.pos.0 ≡ 0 + body_length t → kept_in notes' ≡ run (body_events t block_start) (kept_in notes)
            → MainScanned notes' (read_main terms b deepest) (Ok end)
        go t x y s =
            let g = good_got t (placed end.at) (body_most terms b small short 16 (placed 0) (omega arith)) x in
            let a : notes'.labels.now.tab.now ≡ record_all slot_of (body_events t block_start) notes.labels.now.tab.now = ap (λ (v : State). v.labels.positions) s in
            let d : notes'.labels.now.homes.now ≡ record_all home_of (body_events t block_start) notes.labels.now.homes.now = ap (λ (v : State). v.labels.homes) s in
            let c : notes'.over ≡ note_all (body_events t block_start) None = ap (λ (v : State). v.over) s ∙ ap (note_all (body_events t block_start)) e.nothing in
            rw (x, eq-eqb end.at (length b) (omega (arith, g.1))) (whole {x = t} {p = placed end.at} {w = end.pos} {k = end.number} (omega arith)
            (keeps slot_of (body_events t block_start) notes.labels.now.tab.now notes'.labels.now.tab.now e.no_records a)
            (keeps home_of (body_events t block_start) notes.labels.now.homes.now notes'.labels.now.homes.now e.no_homes d)
            (rw c (first_held (body_events t block_start))))

-- the place of a fault lies in the main body, which has no more actions than bytes
pub main_place : (terms : Terms) (b : List ℕ) (notes : Notes) (r : Result Cursor Halt) → Bytes b → WordsShort terms → MainScanned notes (read_main terms b deepest) r → (x : Halt) → r ≡ Err x → (x.place ≤ length b) × (x.number.0 ≤ length b)
main_place terms b notes r small short m h e = go (read_main terms b deepest) refl m e
  where
    go : (x : Read (ActionsOf Text ℕ)) {r : Result Cursor Halt} → read_main terms b deepest ≡ x → MainScanned notes x r → r ≡ Err h → (h.place ≤ length b) × (h.number.0 ≤ length b)
    go (got t q) i (whole u v h w) e = ok_not_err e
    go (bad g q) i (stopped {k = j} k) e =
        let l : q.at ≤ length b = good_bad g q (main_most terms b small short deepest) i in
        let n : q.begun + 0 ≤ q.at = begins_bad g q (main_begins terms b deepest) i in
        let a = err_same e in
        (omega (arith, ap (λ (v : Halt). v.place) a, l), omega (arith, ap (λ (v : Halt). v.number.0) a, k, n, l))
