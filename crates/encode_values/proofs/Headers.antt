-- Laws of an action's header, stored before its payload or after it: the runs that make up the action, and its room. Assumes nothing.
use mathlib.Core.Path.{◌≡◌, refl, sym, ap, ◌∙◌}
use Prim.Native.Nat.{ℕ, suc, ◌+◌, ◌≤◌, ◌<◌}
use native.Mathlib.Nat.{add-zero, suc-add, add-suc}
use native.Mathlib.Omega.{arith}
use mathlib.Core.Bool.{false}
use mathlib.Core.List.{List, [], ◌∷◌, ◌++◌}
use lib.ListN.{length, set}
use lib.Seq.{sets, set_comm}
use Rattle.layout.specs.Numbers.{le16}
use Rattle.layout.specs.Read.{got, bad}
use Rattle.layout.specs.Payload.{headed}
use Rattle.stores.proofs.Stores.{sets-append}
use Rattle.positions.specs.declared.Spot.{Spot}
use Rattle.encode_values.specs.Pieces.{Piece, piece, action, written, bytes_of, next_of, Reads, Room, Put}

-- ---- runs of stores

-- a store before a run may be made after it
set_after : (l b : List ℕ) (i j x : ℕ) → i < j → set (sets l j b) i x ≡ sets (set l i x) j b
set_after l [] i j x h = refl
set_after l (y ∷ b) i j x h = set_after (set l j y) b i (suc j) x (omega arith) ∙ ap (λ (m : List ℕ). sets m (suc j) b) (set_comm l j i y x (λ e. omega arith))

-- a run may be stored after the one behind it
sets_before : (l a b : List ℕ) (i : ℕ) → sets (sets l (i + length a) b) i a ≡ sets l i (a ++ b)
sets_before l [] b i = rw add-zero
sets_before l (x ∷ a) b i =
    ap (λ (m : List ℕ). sets m (suc i) a) (set_after l b i (i + suc (length a)) x (omega arith))
    ∙ rw (add-suc, ← suc-add) (sets_before (set l i x) a b (suc i))

-- the same where the run behind gives the list m, and the one before it, of w bytes, gives n
pub before_then : {m n : List ℕ} (l : List ℕ) (i : ℕ) (a b : List ℕ) (w : ℕ) → length a ≡ w → m ≡ sets l (i + w) b → n ≡ sets m i a → n ≡ sets l i (a ++ b)
before_then l i a b w k e f = f ∙ rw (e, ← k) (sets_before l a b i)

-- one run after another, stored from place `at` on
pub run_then : {m n : List ℕ} (l : List ℕ) (i : ℕ) (a b : List ℕ) (at : ℕ) → at ≡ i + length a → m ≡ sets l i a → n ≡ sets m at b → n ≡ sets l i (a ++ b)
run_then l i a b at h e f = f ∙ rw (e, h) (sets-append l i a b)

-- ---- lengths

-- a header has three bytes
pub length_action : (op : ℕ) (q : List ℕ) → length (headed false op q) ≡ 3 + length q
unfolding headed le16
length_action op q = omega arith

-- ---- what a piece gives that is made of another

module _ (f : List ℕ → List ℕ) where
  -- the other is known
  written_known : (x : Piece) → Reads (written f x) → Reads x
  written_known (got s q) k = tt
  written_known (bad e q) k = absurd k

  -- the bytes are made of its bytes
  written_bytes : (x : Piece) → Reads (written f x) → bytes_of (written f x) ≡ f (bytes_of x)
  written_bytes (got s q) k = refl
  written_bytes (bad e q) k = absurd k

  -- and reading goes on where it does behind the other
  written_next : (x : Piece) → next_of (written f x) ≡ next_of x
  written_next (got s q) = refl
  written_next (bad e q) = refl

-- ---- a header and then its payload

module _ (op : ℕ) (q : List ℕ) {next pos : ℕ} {out : List ℕ} where
  -- the payload goes behind the header that is stored
  pub action_first : {m out' : List ℕ} {w : ℕ} {r : Spot} (len : ℕ) → len ≡ length q → (w ≡ pos + 3) × (m ≡ sets out pos (op ∷ le16 len)) → Put (piece q next) w m out' r
      → Put (action op q next) pos out out' r
  unfolding headed
  action_first {w = w} len k e f =
      record { wrote = run_then out pos (op ∷ le16 (length q)) q w (unfold le16 in e.0) (rw k at e.1) f.wrote; end = omega (arith, length_action op q, e.0, f.end); next = f.next }

-- ---- a payload and then its header

module _ (op : ℕ) (q : List ℕ) {next pos : ℕ} {out : List ℕ} where
  -- the header goes before the payload that is stored
  pub action_last : {m out' : List ℕ} {end : ℕ} (len : ℕ) → len ≡ length q → m ≡ sets out (pos + 3) q → out' ≡ sets m pos (op ∷ le16 len) → end ≡ pos + 3 + length q
      → Put (action op q next) pos out out' (record { at = next; pos = record { 0 = end } })
  unfolding headed
  action_last len k e f g =
      record { wrote = before_then out pos (op ∷ le16 (length q)) q 3 (unfold le16 in refl) e (rw k at f); end = omega (arith, length_action op q); next = refl }

-- ---- an action whose payload is g of a list's bytes

module _ (op : ℕ) (g : List ℕ → List ℕ) (x : Piece) {pos : ℕ} {out : List ℕ} (h : Room (written (λ q. headed false op (g q)) x) pos out) where
  -- the list reads
  pub list_known : Reads x
  list_known = written_known (λ q. headed false op (g q)) x h.known

  -- there is room for the payload behind the header
  pub list_space : pos + 3 + length (g (bytes_of x)) ≤ length out
  list_space = omega (arith, rw (written_bytes (λ q. headed false op (g q)) x h.known) at h.room, length_action op (g (bytes_of x)))

  -- its header stored after the payload
  pub list_put : {m out' : List ℕ} {next end : ℕ} (len : ℕ) → len ≡ length (g (bytes_of x)) → m ≡ sets out (pos + 3) (g (bytes_of x)) → out' ≡ sets m pos (op ∷ le16 len)
      → end ≡ pos + 3 + length (g (bytes_of x)) → next ≡ next_of x → Put (written (λ q. headed false op (g q)) x) pos out out' (record { at = next; pos = record { 0 = end } })
  list_put {next = next} len k e f i j =
      let b = written_bytes (λ q. headed false op (g q)) x h.known in
      let p = action_last op (g (bytes_of x)) {next = next} len k e f i in
      record { wrote = rw b p.wrote; end = rw b p.end; next = j ∙ sym (written_next (λ q. headed false op (g q)) x) }

-- a list from a position on, in an output that is as long
pub list_room : (x : Piece) (pos : ℕ) (m : List ℕ) → Reads x → pos + length (bytes_of x) ≤ length m → length m ≤ 1099511627776 → Room x pos m
list_room x pos m k h s = record { known = k; room = h; sums = s }
