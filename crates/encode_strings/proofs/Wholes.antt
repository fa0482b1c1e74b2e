-- Laws of actions with strings or with a list: the payload made of its runs, its length, and its room. Assumes nothing.
use mathlib.Core.Path.{◌≡◌}
use Prim.Native.Nat.{ℕ, ◌+◌, ◌-◌, ◌≤◌}
use native.Mathlib.Omega.{arith}
use mathlib.Core.Bool.{false}
use mathlib.Core.List.{List, ◌∷◌, ◌++◌}
use lib.ListN.{length, length-append}
use lib.Seq.{sets}
use Rattle.layout.specs.Numbers.{le16}
use Rattle.layout.specs.OpCode.{byte}
use Rattle.layout.specs.Tree.{GetUrl}
use Rattle.layout.specs.Payload.{zero_ended, opcode, payload, headed, framed}
use Rattle.editions.specs.declared.MainBody.{MainBody}
use Rattle.pcode.specs.declared.Span.{Span}
use Rattle.pcode.specs.Shown.{span_of, Held}
use Rattle.positions.specs.declared.Spot.{Spot}
use Rattle.encode_values.specs.Pieces.{Piece, action, flat_piece, written, bytes_of, Room, Put}
use Rattle.encode_values.proofs.Puts.{length_span}
use Rattle.encode_values.proofs.Headers.{run_then, length_action, list_known, list_space, list_put, list_room}

-- ---- a string, and two

module _ (m : MainBody) {next pos : ℕ} {out : List ℕ} where
  -- a string that has room is no longer than the output
  pub string_fits : (op : ℕ) (s : Span) → Held m s → Room (action op (zero_ended (span_of m s)) next) pos out → s.len ≤ 1099511627776
  string_fits op s h r = omega (arith, length_action op (zero_ended (span_of m s)), length_span m s h, r.room, r.sums)

  -- nor are the two of a GetUrl
  pub strings_fit : (u t : Span) → Held m u → Held m t → Room (flat_piece (GetUrl (span_of m u) (span_of m t)) next) pos out → (u.len ≤ 1099511627776) × (t.len ≤ 1099511627776)
  unfolding framed byte opcode payload
  strings_fit u t h k r =
      let l = length_action 0x83 (zero_ended (span_of m u) ++ zero_ended (span_of m t)) in
      let a = length-append (zero_ended (span_of m u)) (zero_ended (span_of m t)) in
      let i = length_span m u h in
      let j = length_span m t k in
      (omega (arith, r.room, r.sums), omega (arith, r.room, r.sums))

-- the payload of a GetUrl is as long as both, each with its zero byte
pub length_strings : (m : MainBody) (u t : Span) → Held m u → Held m t → length (zero_ended (span_of m u) ++ zero_ended (span_of m t)) ≡ u.len + t.len + 2
length_strings m u t h k = omega (arith, length-append (zero_ended (span_of m u)) (zero_ended (span_of m t)), length_span m u h, length_span m t k)

-- ---- a Push

module _ (x : Piece) {pos : ℕ} {out : List ℕ} (h : Room (written (λ q. headed false 0x96 q) x) pos out) where
  -- the values have room behind the header
  pub push_room : Room x (pos + 3) out
  push_room = list_room x (pos + 3) out (list_known 0x96 (λ q. q) x h) (list_space 0x96 (λ q. q) x h) h.sums

  -- the values, and then the header
  pub push_put : {m out' : List ℕ} {r : Spot} {len : ℕ} → Put x (pos + 3) out m r → len ≡ r.pos.0 - (pos + 3) → out' ≡ sets m pos (0x96 ∷ le16 len)
      → Put (written (λ q. headed false 0x96 q) x) pos out out' r
  push_put {len = len} e k f = list_put 0x96 (λ q. q) x h len (omega (arith, e.end)) e.wrote f e.end e.next

-- ---- a ConstantPool

module _ (n : ℕ) (x : Piece) {pos : ℕ} {out : List ℕ} (h : Room (written (λ q. headed false 0x88 (le16 n ++ q)) x) pos out) where
  -- the count and the strings have room behind the header
  pub pool_space : pos + 3 + length (le16 n) + length (bytes_of x) ≤ length out
  pool_space = omega (arith, list_space 0x88 (λ q. le16 n ++ q) x h, length-append (le16 n) (bytes_of x))

  -- so the strings may be written, from the position w behind the count on
  pub pool_room : {w : ℕ} {m : List ℕ} → w ≡ pos + 3 + length (le16 n) → length m ≡ length out → Room x w m
  pool_room {w} {m} i e = list_room x w m (list_known 0x88 (λ q. le16 n ++ q) x h) (omega (arith, pool_space)) (omega (arith, h.sums))

  -- the count, the strings, and then the header
  pub pool_put : {w len : ℕ} {m o out' : List ℕ} {r : Spot} → w ≡ pos + 3 + length (le16 n) → m ≡ sets out (pos + 3) (le16 n) → Put x w m o r → len ≡ r.pos.0 - (pos + 3) → out' ≡ sets o pos (0x88 ∷ le16 len)
      → Put (written (λ q. headed false 0x88 (le16 n ++ q)) x) pos out out' r
  pool_put {w} {len} i e f j g =
      let k = length-append (le16 n) (bytes_of x) in
      list_put 0x88 (λ q. le16 n ++ q) x h len (omega (arith, f.end))
      (run_then out (pos + 3) (le16 n) (bytes_of x) w i e f.wrote) g (omega (arith, f.end)) f.next
