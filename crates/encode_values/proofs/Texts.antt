-- What the strings and parameters at a place are written as. Assumes nothing.
use mathlib.Core.Path.{◌≡◌, ap}
use Prim.Native.Nat.{ℕ, ◌+◌, ◌≤◌}
use mathlib.Core.List.{◌∷◌}
use lib.ListN.{length, get_or}
use Rattle.layout.specs.Tree.{function_param}
use Rattle.layout.specs.Read.{Text, placed, Read, got, bad, chain, read_u8, read_string, read_param}
use Rattle.layout.specs.Payload.{zero_ended}
use Rattle.editions.specs.Allowed.{read_by}
use Rattle.editions.specs.declared.MainBody.{MainBody}
use Rattle.pcode.specs.Shown.{span_at, span_of, Held, IsText}
use Rattle.pcode.proofs.Readings as reading
use Rattle.pcode.proofs.Readings.{Gives, gives, Exactly, exactly, Behind, behind_it}
use Rattle.encode_values.specs.Pieces.{piece, written, Reads, string_bytes, param_bytes, string_at, param_at}

module _ (m : MainBody) where
  -- the span at p lies within its bytes, and ends within the main body
  pub record Stands (p : ℕ) : Type 0 where
    pub held : Held m (span_at m p)
    pub ends : (span_at m p).next ≤ length m.b.now

  -- a string that reads is the span at p
  pub string_is : (p : ℕ) → Reads (string_at m p) → Stands p × (string_at m p ≡ piece (zero_ended (span_of m (span_at m p))) (span_at m p).next)
  unfolding string_bytes
  string_is p k = go (read_string (read_by m) m.b.now (placed p)) (reading.string m p) k
    where
      go : (x : Read Text) → Gives (Behind (IsText m (span_at m p)) (placed (span_at m p).next)) x → Reads (written string_bytes x)
          → Stands p × (written string_bytes x ≡ piece (zero_ended (span_of m (span_at m p))) (span_at m p).next)
      go (got a q) (gives (behind_it h)) k = (record { held = h.within; ends = h.ends }, ap (λ x. piece (zero_ended x) (span_at m p).next) h.is)
      go (bad f q) h k = absurd k

  -- a parameter that reads is a byte and the span behind it
  pub param_is : (p : ℕ) → Reads (param_at m p)
      → (p + 1 ≤ length m.b.now) × Stands (p + 1) × (param_at m p ≡ piece (get_or m.b.now p 0 ∷ zero_ended (span_of m (span_at m (p + 1)))) (span_at m (p + 1)).next)
  unfolding read_param param_bytes
  param_is p k = go (read_u8 m.b.now (placed p)) (reading.u8 m.b.now p) k
    where
      r : ℕ
      r = get_or m.b.now p 0

      name : (x : Read Text) → Gives (Behind (IsText m (span_at m (p + 1))) (placed (span_at m (p + 1)).next)) x → Reads (written param_bytes (chain x (λ s q. got (function_param r s) q)))
          → Stands (p + 1) × (written param_bytes (chain x (λ s q. got (function_param r s) q)) ≡ piece (r ∷ zero_ended (span_of m (span_at m (p + 1)))) (span_at m (p + 1)).next)
      name (got a q) (gives (behind_it h)) k = (record { held = h.within; ends = h.ends }, ap (λ x. piece (r ∷ zero_ended x) (span_at m (p + 1)).next) h.is)
      name (bad f q) h k = absurd k

      go : (x : Read ℕ) → Gives (Exactly (p + 1 ≤ length m.b.now) r (placed (p + 1))) x
          → Reads (written param_bytes (chain x (λ r q. chain (read_string (read_by m) m.b.now q) (λ s q. got (function_param r s) q))))
          → (p + 1 ≤ length m.b.now) × Stands (p + 1)
          × (written param_bytes (chain x (λ r q. chain (read_string (read_by m) m.b.now q) (λ s q. got (function_param r s) q))) ≡ piece (r ∷ zero_ended (span_of m (span_at m (p + 1)))) (span_at m (p + 1)).next)
      go (got x q) (gives (exactly h)) k = let n = name (read_string (read_by m) m.b.now (placed (p + 1))) (reading.string m (p + 1)) k in (h, n.0, n.1)
      go (bad f q) h k = absurd k
