-- Laws of the actions of a few bytes: their bytes by what the code tests. Assumes nothing.
use mathlib.Core.Path.{◌≡◌, refl, sym, ap, ◌∙◌}
use Prim.Native.Nat.{ℕ, zero, suc, ◌+◌, ◌-◌, ◌*◌, ◌%◌, ◌≤◌, ◌<◌}
use native.Mathlib.Omega.{arith}
use mathlib.Core.Bool.{Bool, true, false, ◌&&◌}
use mathlib.Core.Option.{none, some}
use mathlib.Core.List.{List, [], ◌∷◌}
use lib.ListN.{get_or}
use lib.Dec.{leb, ltb, eqb}
use borrow.Author.Tests.{lt-ltb, le-ltb, leb-true}
use Rattle.layout.specs.Numbers.{le16, bits64}
use Rattle.layout.specs.Tree.{GetUrl2, GotoFrame2}
use Rattle.layout.specs.Payload.{payload, get_url2_bits, goto_frame2_bytes, headed}
use Rattle.layout.specs.Lengths.{goto_frame2_length}
use Rattle.layout.specs.Write.{position, distance_bits}
use Rattle.layout.specs.Judge.{judged, distance, is_near, far_unless}
use Rattle.labels.specs.Table.{record_of, record_at}
use Rattle.encode_flat.specs.Branches.{table_bits}
use Rattle.stores.proofs.Stores.{le16_low}
use Rattle.labels.proofs.Distances.{distance_some}
use Rattle.encode_values.proofs.Puts.{bit_is}

-- ---- by a test

-- an opcode under 80 without a field, and another
pub short_action : (op : ℕ) → op < 128 → headed (ltb op 128) op [] ≡ op ∷ []
unfolding headed
short_action op h = rw (lt-ltb op 128 h)

pub long_action : (op : ℕ) → 128 ≤ op → headed (ltb op 128) op [] ≡ op ∷ le16 0
unfolding headed le16
long_action op h = rw (le-ltb op 128 h)

-- ---- a branch

-- the low sixteen bits of a distance that is not too far, from a position that fits
near_bits : (slot end bits : ℕ) → end ≤ 1099511627776 → judged (record_of slot) end 0 ≡ none → bits ≡ bits64 (distance (record_of slot) end)
    → bits % 65536 ≡ distance_bits (record_of slot) end
unfolding record_of distance_bits
near_bits zero end bits h j e = unfold distance bits64 in rw e
near_bits (suc n) end bits h j e = go (leb n (end + 32767)) (leb end (n + 32768)) refl refl (unfold judged is_near in j)
  where
    go : (t u : Bool) → leb n (end + 32767) ≡ t → leb end (n + 32768) ≡ u → far_unless (t && u) (distance (some (position n 0 0)) end) 0 ≡ none
        → bits % 65536 ≡ (n + 65536 - end) % 65536
    go true true k l f =
        let i = leb-true n (end + 32767) k in
        let m = leb-true end (n + 32768) l in
        omega (arith, i, m, distance_some (suc n) end (λ z. omega arith) (omega arith) (omega arith))
    go true false k l f =
        let z : ◌≡◌ {A = ℕ} 0 1 = unfold far_unless in cc in
        absurd (omega arith)
    go false u k l f =
        let z : ◌≡◌ {A = ℕ} 0 1 = unfold far_unless in cc in
        absurd (omega arith)

-- the same as they are written, by the label table, where the code has this position as `after`
pub branch_bits : (tab : List ℕ) (label end after bits : ℕ) → after ≡ end → end ≤ 1099511627776 → judged (record_at tab label) end 0 ≡ none → bits ≡ bits64 (distance (record_at tab label) after)
    → le16 bits ≡ le16 (table_bits tab label end)
unfolding table_bits
branch_bits tab label end after bits k h j e = sym (le16_low bits) ∙ ap le16 (near_bits (get_or tab label 0) end bits h j (rw k at e))

-- ---- flags

-- the byte of a GetUrl2
pub get_url_2_bits : (v t m : ℕ) → v < 2 → t < 2 → payload (GetUrl2 (eqb v 1) (eqb t 1) m) ≡ (m % 4 + 64 * t + 128 * v) ∷ []
unfolding payload get_url2_bits
get_url_2_bits v t m h k = rw (bit_is v h, bit_is t k)

-- a GotoFrame2 without a bias, and with one
pub no_bias : (n k : ℕ) → k < 2 → n ≡ 0 → payload (GotoFrame2 n (eqb k 1)) ≡ k ∷ []
unfolding payload goto_frame2_bytes
no_bias n k h e = rw (e, bit_is k h)

pub some_bias : (n k : ℕ) → k < 2 → (n ≡ 0 → ⊥) → payload (GotoFrame2 n (eqb k 1)) ≡ (k + 2) ∷ le16 n
unfolding payload goto_frame2_bytes
some_bias zero k h e = absurd (e refl)
some_bias (suc n) k h e = rw (bit_is k h)

-- and its length
pub no_bias_long : (n : ℕ) → n ≡ 0 → goto_frame2_length n ≡ 1
unfolding goto_frame2_length
no_bias_long n e = rw e

pub some_bias_long : (n : ℕ) → (n ≡ 0 → ⊥) → goto_frame2_length n ≡ 3
unfolding goto_frame2_length
some_bias_long zero e = absurd (e refl)
some_bias_long (suc n) e = refl
