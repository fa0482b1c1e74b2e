-- Laws of the reading of a main body: from what the walk leaves to the answer. Assumes nothing.
use mathlib.Core.Path.{◌≡◌, refl, sym, ap, ◌∙◌}
use Prim.Native.Nat.{ℕ, ◌+◌, ◌≤◌}
use mathlib.Core.Option.{some}
use mathlib.Core.List.{List}
use lib.ListN.{length}
use Rattle.std.specs.Prelude.{Result, Ok, Err}
use Rattle.layout.specs.Answers.{ReadingFault}
use Rattle.layout.specs.Tree.{ActionsOf}
use Rattle.layout.specs.Read.{Text, Terms, deepest, Read, got, bad, read_main}
use Rattle.layout.specs.Strings.{map_body}
use Rattle.layout.specs.Pack.{spelling, fault_action}
use Rattle.laws.specs.Fits.{Bytes}
use Rattle.positions.specs.declared.ActionNumber.{ActionNumber}
use Rattle.positions.specs.declared.Cursor.{Cursor}
use Rattle.positions.specs.declared.Halt.{Halt}
use Rattle.positions.specs.Scanned.{meant}
use Rattle.positions.proofs.Answers.{ok_same, err_same, ok_not_err}
use Rattle.operands.proofs.Scans.{meant_back}
use Rattle.measure.specs.declared.Notes.{Notes}
use Rattle.scan.specs.Mains.{MainScanned, whole, stopped}
use Rattle.reading.specs.Readings.{fault_in, said, MainRead}

module _ (terms : Terms) (b : List ℕ) (notes : Notes) (s : Result Cursor Halt) (m : MainScanned notes (read_main terms b deepest) s) (start : ℕ) where
  -- What the walk leaves of one that reads whole.
  pub main_whole : (end : Cursor) → s ≡ Ok end → Bytes b → length b ≤ 1048576 → terms.label_bound ≤ length notes.labels.now.tab.now → MainRead terms b start notes (Ok end.pos)
  main_whole end e small limited slots = go (read_main terms b deepest) refl m e
    where
      go : (x : Read (ActionsOf Text ℕ)) {r : Result Cursor Halt} → read_main terms b deepest ≡ x → MainScanned notes x r → r ≡ Ok end → MainRead terms b start notes (Ok end.pos)
      go (got t p) k (whole {w = v} i h d l) e =
          let j = ap (λ (x : Cursor). x.pos.0) (sym (ok_same e)) in
          MainRead.whole (record {
            measured = record {
              bytes = small;
              tree = map_body spelling t;
              reads = record { read = t; next = p; is_read = k; is_tree = refl };
              is_end = j ∙ i;
              holds = h;
              slots = slots;
              limited = limited;
            };
            homed = d;
            long = l;
          })
      go (bad f p) k (stopped i) e = ok_not_err (sym e)

  -- And of one that does not: the fault, at its place in the sheet.
  pub main_stops : (h : Halt) (a : ActionNumber) → s ≡ Err h → a.0 ≡ fault_action (meant h.fault) h.number.0
      → MainRead terms b start notes (Err (record { fault = h.fault; place = start + h.place; number = a }))
  unfolding said fault_in
  main_stops h a e n = MainRead.refused {x = ReadingFault (meant h.fault) (start + h.place) a.0} refl (go m e)
    where
      go : {x : Read (ActionsOf Text ℕ)} {r : Result Cursor Halt} → MainScanned notes x r → r ≡ Err h → fault_in start x ≡ some (ReadingFault (meant h.fault) (start + h.place) a.0)
      go (whole i h d l) e = ok_not_err e
      go (stopped {f = g} {s = q} {k = o} i) e =
          let same = err_same e in
          let f = ap (λ (x : Halt). x.fault) same in
          let p = ap (λ (x : Halt). x.place) same in
          let k = ap (λ (x : Halt). x.number.0) same in
          rw (n, ← f, ← p, ← k, i, meant_back g)
