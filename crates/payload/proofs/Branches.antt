-- A branch's label, scanned: laws by which its payload is put together. Assumes nothing.
use mathlib.Core.Path.{◌≡◌, sym, ap, ◌∙◌}
use Prim.Native.Nat.{ℕ, ◌+◌, ◌≤◌, ◌<◌}
use native.Mathlib.Omega.{arith}
use mathlib.Core.List.{List}
use lib.ListN.{length}
use Rattle.layout.specs.Numbers.{u16_at}
use Rattle.layout.specs.Read.{Terms, Place, placed, Read, got, bad, read_label}
use Rattle.laws.proofs.ReadFits.{good_got}
use Rattle.labels.proofs.Labels.{label_is}
use Rattle.std.specs.Prelude.{Result, Ok, Err}
use Rattle.std.specs.Result.{IsErrAnd}
use Rattle.positions.specs.declared.Spot.{Spot}
use Rattle.positions.specs.declared.Stop as code
use Rattle.positions.proofs.Answers.{err_same, ok_not_err}
use Rattle.positions.specs.Scanned.{scanned}
use Rattle.operands.proofs.Scans.{passed, ends_is}
use Rattle.measure.specs.declared.Laid.{Laid}
use Rattle.measure.specs.declared.Laid.TheVariants as laid
use Rattle.measure.specs.Walk.{branch_laid}

-- the label that was read is the number there, and in range
pub label_here : (terms : Terms) (b : List ℕ) (at : ℕ) → at ≤ length b → (l : ℕ) (q : Place) → read_label terms b 0 (placed at) ≡ got l q → (l ≡ u16_at b at) × (l < terms.label_bound) × (at + 2 ≤ length b)
label_here terms b at h l q e =
    let g = good_got l q (label_is terms b 0 (placed at) h) e in
    (g.0.0.0, g.0.2, omega (arith, g.0.0.1, g.1))

-- the scan of a label, and what is made of it
module _ (terms : Terms) (b : List ℕ) (at pos : ℕ) {r : Result Spot code.Stop} (e : r ≡ scanned (λ _. 0) (pos + 2) (read_label terms b 0 (placed at))) where
  pub branch_stops : {r' : Result Laid code.Stop} {s : code.Stop} → r ≡ Err s → IsErrAnd r' (λ y. y ≡ s) → r' ≡ branch_laid pos (read_label terms b 0 (placed at))
  unfolding branch_laid scanned
  branch_stops {r'} {s} f g = passed r' g ∙ go (read_label terms b 0 (placed at)) (sym f ∙ e)
    where
      go : (x : Read ℕ) → Err s ≡ scanned (λ _. 0) (pos + 2) x → Err s ≡ branch_laid pos x
      go (got l q) h = ok_not_err (sym h)
      go (bad g q) h = ap Err (err_same h)

  module _ (inside : at ≤ length b) {end : Spot} (f : r ≡ Ok end) where
    -- its label stands there
    pub branch_inside : at + 2 ≤ length b
    branch_inside =
        let m = ends_is (λ _. 0) (pos + 2) (read_label terms b 0 (placed at)) e f in
        (label_here terms b at inside m.0 (placed end.at) m.1).2

    pub branch_ends : (n : ℕ) → n ≡ u16_at b at → Ok (laid.Branch end n) ≡ branch_laid pos (read_label terms b 0 (placed at))
    unfolding branch_laid
    branch_ends n k =
        let m = ends_is (λ _. 0) (pos + 2) (read_label terms b 0 (placed at)) e f in
        let l : n ≡ m.0 = k ∙ sym (label_here terms b at inside m.0 (placed end.at) m.1).0 in
        let w : end.pos.0 ≡ pos + 2 = omega (arith, m.2) in
        rw (m.1, l) (ap (λ (v : ℕ). Ok (laid.Branch (record { at = end.at; pos = record { 0 = v } }) m.0)) w)
