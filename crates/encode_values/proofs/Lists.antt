-- Laws of a list written one element at a time: what is still to do from here gives what the whole gives. Assumes nothing.
use mathlib.Core.Path.{◌≡◌, refl, sym, ap, ◌∙◌}
use Prim.Native.Nat.{ℕ, suc, ◌+◌}
use native.Mathlib.Omega.{arith}
use mathlib.Core.List.{List, ◌++◌}
use lib.ListN.{length, length-append}
use lib.Seq.{sets, length-sets}
use Rattle.layout.specs.Read.{got, bad, chain}
use Rattle.stores.proofs.Stores.{sets-append}
use Rattle.positions.specs.declared.Spot.{Spot}
use Rattle.encode_values.specs.Joins.{Joins}
use Rattle.encode_values.specs.Pieces.{Piece, written, bytes_of, next_of, Reads, Room, Put}

module _ {one : ℕ → Piece} {list : ℕ → ℕ → Piece} (joins : Joins one list) where
  -- the first element of a list that reads, and the rest
  record First (n p : ℕ) : Type 0 where
    pub bytes : List ℕ
    pub at : ℕ
    pub reads : one p ≡ got bytes (record { at = at })
    pub rest : Reads (list n at)
    pub whole : bytes_of (list (suc n) p) ≡ bytes ++ bytes_of (list n at)
    pub next : next_of (list (suc n) p) ≡ next_of (list n at)

  first : (n p : ℕ) → Reads (list (suc n) p) → First n p
  first n p k = go (one p) refl (rw (joins.more n p) at k)
    where
      behind : (s : List ℕ) (x : Piece) → Reads (written (λ t. s ++ t) x) → Reads x × (bytes_of (written (λ t. s ++ t) x) ≡ s ++ bytes_of x) × (next_of (written (λ t. s ++ t) x) ≡ next_of x)
      behind s (got t q) k = (tt, refl, refl)
      behind s (bad f q) k = absurd k

      go : (x : Piece) → one p ≡ x → Reads (chain x (λ s q. written (λ t. s ++ t) (list n q.at))) → First n p
      go (got s q) e k =
          let b = behind s (list n q.at) k in
          let w : list (suc n) p ≡ written (λ t. s ++ t) (list n q.at) = joins.more n p ∙ ap (λ x. chain x (λ s q. written (λ t. s ++ t) (list n q.at))) e in
          record { bytes = s; at = q.at; reads = e; rest = b.0; whole = ap bytes_of w ∙ b.1; next = ap next_of w ∙ b.2 }
      go (bad f q) e k = absurd k

  -- the loop, with n elements left from place p and position w on, and the output as it is there
  pub record Going (whole : Piece) (pos : ℕ) (old : List ℕ) (n p w : ℕ) (out : List ℕ) : Type 0 where
    pub room : Room (list n p) w out
    pub wrote : sets out w (bytes_of (list n p)) ≡ sets old pos (bytes_of whole)
    pub end : w + length (bytes_of (list n p)) ≡ pos + length (bytes_of whole)
    pub next : next_of (list n p) ≡ next_of whole

  -- before the loop
  pub going_start : {n k p w : ℕ} {out : List ℕ} → k ≡ n → Room (list n p) w out → Going (list n p) w out k p w out
  going_start e h = rw e (record { room = h; wrote = refl; end = refl; next = refl })

  module _ {whole : Piece} {pos : ℕ} {old : List ℕ} {n p w : ℕ} {out : List ℕ} (g : Going whole pos old n p w out) where
    -- nothing is left
    pub going_end : n ≡ 0 → Put whole pos old out (record { at = p; pos = record { 0 = w } })
    going_end z =
        record { wrote = rw (z, joins.none p) at g.wrote; end = omega (arith, rw (z, joins.none p) at g.end); next = rw (z, joins.none p) at g.next }

    -- the next element may be written
    pub going_element : (k : ℕ) → n ≡ suc k → Room (one p) w out
    going_element k e =
        let f = first k p (rw e at g.room.known) in
        let r = rw (e, f.whole) at g.room.room in
        rw f.reads (record { known = tt; room = omega (arith, length-append f.bytes (bytes_of (list k f.at)), r); sums = g.room.sums })

    -- it was written
    pub going_on : (k : ℕ) → n ≡ suc k → {out' : List ℕ} {r : Spot} → Put (one p) w out out' r → Going whole pos old k r.at r.pos.0 out'
    going_on k e {out'} {r} x =
        let f = first k p (rw e at g.room.known) in
        let rest : List ℕ = bytes_of (list k f.at) in
        let l = length-append f.bytes rest in
        let i : r.at ≡ f.at = rw f.reads at x.next in
        let j : r.pos.0 ≡ w + length f.bytes = rw f.reads at x.end in
        let o : out' ≡ sets out w f.bytes = rw f.reads at x.wrote in
        let c : length out' ≡ length out = ap length o ∙ length-sets out w f.bytes in
        rw (i, j)
        (record {
          room = record { known = f.rest; room = omega (arith, rw (e, f.whole) at g.room.room); sums = omega (arith, g.room.sums) };
          wrote = rw o (sets-append out w f.bytes rest) ∙ rw (e, f.whole) at g.wrote;
          end = omega (arith, rw (e, f.whole) at g.end);
          next = sym f.next ∙ rw e at g.next;
        })
