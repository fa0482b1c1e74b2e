-- What the code's cases of a push value are written as. Assumes nothing.
use mathlib.Core.Path.{◌≡◌, refl, ap}
use Prim.Native.Nat.{ℕ}
use mathlib.Core.List.{List, [], ◌∷◌}
use Rattle.layout.specs.Tree.{PushValueOf}
use Rattle.layout.specs.Read.{Text, placed, Read, got, bad, read_value}
use Rattle.layout.specs.Payload.{zero_ended, push_bytes}
use Rattle.layout.specs.Strings.{map_value}
use Rattle.editions.specs.Allowed.{read_by}
use Rattle.editions.specs.declared.MainBody.{MainBody}
use Rattle.pcode.specs.declared.PushAt.{PushAt}
use Rattle.pcode.specs.declared.PushValue.{PushValue}
use Rattle.pcode.specs.Shown.{ShownValue, string, null, undefined, register, boolean, float, integer, constant, ValueReads, TakesValue}
use Rattle.positions.specs.declared.Spot.{Spot}
use Rattle.encode_values.specs.Pieces.{piece, written, Reads, value_bytes, value_at, Room, Put}
use Rattle.encode_values.specs.Cases.{case_bytes, CaseHeld}
use Rattle.encode_values.proofs.Puts.{bit_is}

module _ (m : MainBody) where
  -- the push value that a case shows is written as the case's bytes
  shown_bytes : {v : PushValue} {x : PushValueOf Text} → ShownValue m v x → CaseHeld m v × (value_bytes x ≡ case_bytes m v)
  unfolding value_bytes push_bytes map_value
  shown_bytes (string h) = (h.within, ap (λ (s : List ℕ). 0 ∷ zero_ended s) h.is)
  shown_bytes null = (tt, refl)
  shown_bytes undefined = (tt, refl)
  shown_bytes register = (tt, refl)
  shown_bytes (boolean {n} h) = (tt, ap (λ (k : ℕ). 5 ∷ k ∷ []) (bit_is n h))
  shown_bytes float = (tt, refl)
  shown_bytes integer = (tt, refl)
  shown_bytes constant = (tt, refl)

  -- the piece at a place where a value reads
  is_piece : (p : ℕ) (r : PushAt) → TakesValue m p r → Reads (value_at m p) → CaseHeld m r.value × (value_at m p ≡ piece (case_bytes m r.value) r.next)
  is_piece p r t k = go (read_value (read_by m) m.b.now (placed p)) refl k
    where
      go : (x : Read (PushValueOf Text)) → read_value (read_by m) m.b.now (placed p) ≡ x → Reads (written value_bytes x)
          → CaseHeld m r.value × (written value_bytes x ≡ piece (case_bytes m r.value) r.next)
      go (got v q) g k =
          let h = t.shows.shows v q g in
          let c = shown_bytes h.0 in
          (c.0, rw (c.1, h.1))
      go (bad f q) g k = absurd k

  -- a value reads there
  pub value_reads : {p : ℕ} → Reads (value_at m p) → ValueReads m p
  value_reads {p} k = go (read_value (read_by m) m.b.now (placed p)) refl k
    where
      go : (x : Read (PushValueOf Text)) → read_value (read_by m) m.b.now (placed p) ≡ x → Reads (written value_bytes x) → ValueReads m p
      go (got v q) e k = record { value = v; next = q; reads = e }
      go (bad f q) e k = absurd k

module _ (m : MainBody) {p : ℕ} {pos : ℕ} {out : List ℕ} {r : PushAt} (t : TakesValue m p r) (h : Room (value_at m p) pos out) where
  -- what the writing of a case asks
  pub value_room : CaseHeld m r.value × Room (piece (case_bytes m r.value) r.next) pos out
  value_room =
      let k = is_piece m p r t h.known in
      (k.0, rw k.1 at h)

  -- and what it leaves
  pub value_put : {out' : List ℕ} {x : Spot} → Put (piece (case_bytes m r.value) r.next) pos out out' x → Put (value_at m p) pos out out' x
  value_put x = rw (is_piece m p r t h.known).1 x
