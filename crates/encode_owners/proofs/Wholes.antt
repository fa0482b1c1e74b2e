-- Laws of a function and a Try: the payload made of its runs, and its room. Assumes nothing.
use mathlib.Core.Path.{◌≡◌, refl}
use Prim.Native.Nat.{ℕ, ◌+◌, ◌-◌, ◌≤◌}
use native.Mathlib.Omega.{arith}
use mathlib.Core.Bool.{false}
use mathlib.Core.List.{List, ◌∷◌, ◌++◌, append_assoc}
use lib.ListN.{length, get_or, length-append}
use lib.Seq.{sets}
use Rattle.layout.specs.Numbers.{u16_at, le16}
use Rattle.layout.specs.Read.{got, bad}
use Rattle.layout.specs.Payload.{zero_ended, try_payload, headed}
use Rattle.layout.proofs.Lengths.{length_le16, length-try_payload}
use Rattle.editions.specs.declared.MainBody.{MainBody}
use Rattle.pcode.specs.declared.Function.{Function}
use Rattle.pcode.specs.declared.Span.{Span}
use Rattle.pcode.specs.Shown.{span_of, Held}
use Rattle.positions.specs.declared.Spot.{Spot}
use Rattle.encode_values.specs.Pieces.{Piece, piece, action, bytes_of, next_of, Reads, strings_at, params_at, Room, Put}
use Rattle.encode_values.proofs.Puts.{length_span}
use Rattle.encode_values.proofs.Headers.{run_then, before_then, length_action, action_last, list_known, list_space, list_put, list_room}
use Rattle.encode_owners.specs.Payloads.{function_payload, function2_payload, function, function2, function2_of}

-- ---- the payloads in their runs

-- what stands before the parameters: the name x and their count
abbrev pub front : List ℕ → ℕ → List ℕ
front x count = zero_ended x ++ le16 count

-- it has three bytes more than the name
pub length_front : (m : MainBody) (s : Span) (count : ℕ) → Held m s → length (front (span_of m s) count) ≡ s.len + 3
length_front m s count h = omega (arith, length-append (zero_ended (span_of m s)) (le16 count), length_span m s h, length_le16 count)

-- a function's payload has two bytes more than its front and its parameters
length_function : (x : List ℕ) (count : ℕ) (q : List ℕ) → length (function_payload x count q) ≡ length (front x count) + length q + 2
unfolding function_payload le16
length_function x count q =
    omega (arith, length-append (zero_ended x ++ (le16 count ++ q)) (le16 0), length-append (zero_ended x) (le16 count ++ q), length-append (zero_ended x) (le16 count))

-- or five
length_function2 : (x : List ℕ) (count r f : ℕ) (q : List ℕ) → length (function2_payload x count r f q) ≡ length (front x count) + length q + 5
unfolding function2_payload le16
length_function2 x count r f q =
    omega (arith, length-append (zero_ended x ++ (le16 count ++ (r ∷ (le16 f ++ q)))) (le16 0), length-append (zero_ended x) (le16 count ++ (r ∷ (le16 f ++ q))), length-append (zero_ended x) (le16 count))

module _ (l : List ℕ) (i w : ℕ) (x : List ℕ) (count : ℕ) (h : w ≡ i + length (front x count)) {n : List ℕ} (f : n ≡ sets l i (front x count)) where
  -- the front, what follows it, and the body's length
  runs : {o p : List ℕ} (q : List ℕ) (e : ℕ) → o ≡ sets n w q → e ≡ w + length q → p ≡ sets o e (le16 0) → p ≡ sets l i ((zero_ended x ++ (le16 count ++ q)) ++ le16 0)
  runs q e a k b = rw (← append_assoc (zero_ended x) (le16 count) q) (run_then l i (front x count ++ q) (le16 0) e (omega (arith, length-append (front x count) q)) (run_then l i (front x count) q w h f a) b)

  -- so a DefineFunction
  function_runs : {o p : List ℕ} (q : List ℕ) (e : ℕ) → o ≡ sets n w q → e ≡ w + length q → p ≡ sets o e (le16 0) → p ≡ sets l i (function_payload x count q)
  unfolding function_payload
  function_runs q e a k b = runs q e a k b

  -- the parameters stored before the register count r and the flags
  function2_runs : {o p s : List ℕ} (q : List ℕ) (r flags e : ℕ) → o ≡ sets n (w + 3) q → p ≡ sets o w (r ∷ le16 flags) → e ≡ w + 3 + length q → s ≡ sets p e (le16 0)
      → s ≡ sets l i (function2_payload x count r flags q)
  unfolding function2_payload
  function2_runs q r flags e a b k d =
      runs (r ∷ (le16 flags ++ q)) e (before_then n w (r ∷ le16 flags) q 3 (unfold le16 in refl) a b) (unfold le16 in omega arith) d

-- ---- a DefineFunction

module _ (m : MainBody) (f : Function) {pos : ℕ} {out : List ℕ} (h : Room (function m f) pos out) where
  -- the front, the parameters and the body's length have room
  pub function_space : pos + 3 + length (front (span_of m f.name) f.count) + length (bytes_of (strings_at m f.count f.at)) + 2 ≤ length out
  function_space =
      let y : Piece = strings_at m f.count f.at in
      omega (arith, list_space 0x9B (λ q. function_payload (span_of m f.name) f.count q) y h, length_function (span_of m f.name) f.count (bytes_of y))

  -- so the parameters may be written behind the front
  pub function_room : {w : ℕ} {o : List ℕ} → w ≡ pos + 3 + length (front (span_of m f.name) f.count) → length o ≡ length out → Room (strings_at m f.count f.at) w o
  function_room {w} {o} i g =
      let y : Piece = strings_at m f.count f.at in
      list_room y w o (list_known 0x9B (λ q. function_payload (span_of m f.name) f.count q) y h) (omega (arith, function_space)) (omega (arith, h.sums))

  -- the front, the parameters, the body's length, and then the header
  pub function_put : {w len end : ℕ} {o p s out' : List ℕ} {r : Spot} → w ≡ pos + 3 + length (front (span_of m f.name) f.count) → o ≡ sets out (pos + 3) (front (span_of m f.name) f.count)
      → Put (strings_at m f.count f.at) w o p r → s ≡ sets p r.pos.0 (le16 0) → end ≡ r.pos.0 + 2
      → len ≡ end - (pos + 3) → out' ≡ sets s pos (0x9B ∷ le16 len)
      → Put (function m f) pos out out' (record { at = r.at; pos = record { 0 = end } })
  function_put {len = len} {r = r} d g y j e i z =
      let q : List ℕ = bytes_of (strings_at m f.count f.at) in
      let l = length_function (span_of m f.name) f.count q in
      list_put 0x9B (λ q. function_payload (span_of m f.name) f.count q) (strings_at m f.count f.at) h len (omega (arith, y.end))
      (function_runs out (pos + 3) _ (span_of m f.name) f.count d g q r.pos.0 y.wrote y.end j)
      z (omega (arith, y.end)) y.next

-- ---- a DefineFunction2

module _ (m : MainBody) (f : Function) where
  -- its payload where its parameters read
  abbrev fields2 : Piece → List ℕ
  fields2 x = function2_payload (span_of m f.name) f.count (get_or m.b.now (next_of x) 0) (u16_at m.b.now (next_of x + 1)) (bytes_of x)

  -- its bytes and the place where reading goes on
  made : (x : Piece) → Reads (function2_of m f x) → Reads x × (bytes_of (function2_of m f x) ≡ headed false 0x8E (fields2 x)) × (next_of (function2_of m f x) ≡ next_of x + 3)
  made (got q r) k = (tt, refl, refl)
  made (bad g r) k = absurd k

module _ (m : MainBody) (f : Function) {pos : ℕ} {out : List ℕ} (h : Room (function2 m f) pos out) where
  -- the front, three bytes, the parameters and the body's length have room
  pub function2_space : pos + 3 + length (front (span_of m f.name) f.count) + 3 + length (bytes_of (params_at m f.count f.at)) + 2 ≤ length out
  function2_space =
      let x : Piece = params_at m f.count f.at in
      omega (
        arith,
        rw (made m f x h.known).1 at h.room,
        length_action 0x8E (fields2 m f x),
        length_function2 (span_of m f.name) f.count (get_or m.b.now (next_of x) 0) (u16_at m.b.now (next_of x + 1)) (bytes_of x),
      )

  -- so the parameters may be written behind the fields, the first of which stands at w
  pub function2_room : {w : ℕ} {o : List ℕ} → w ≡ pos + 3 + length (front (span_of m f.name) f.count) → length o ≡ length out → Room (params_at m f.count f.at) (w + 3) o
  function2_room {w} {o} i g =
      let x : Piece = params_at m f.count f.at in
      list_room x (w + 3) o (made m f x h.known).0 (omega (arith, function2_space)) (omega (arith, h.sums))

  -- the front, the parameters, the fields before them, the body's length, and then the header
  pub function2_put : {w len end flags : ℕ} {o p s t out' : List ℕ} {r : Spot} → w ≡ pos + 3 + length (front (span_of m f.name) f.count) → o ≡ sets out (pos + 3) (front (span_of m f.name) f.count)
      → Put (params_at m f.count f.at) (w + 3) o p r → flags ≡ u16_at m.b.now (r.at + 1) → s ≡ sets p w (get_or m.b.now r.at 0 ∷ le16 flags)
      → t ≡ sets s r.pos.0 (le16 0) → end ≡ r.pos.0 + 2 → len ≡ end - (pos + 3) → out' ≡ sets t pos (0x8E ∷ le16 len)
      → Put (function2 m f) pos out out' (record { at = r.at + 3; pos = record { 0 = end } })
  function2_put {w} {len} {end} {out' = out'} {r = r} d g x k y v e j o =
      let a : Piece = params_at m f.count f.at in
      let i = made m f a h.known in
      let l = length_function2 (span_of m f.name) f.count (get_or m.b.now (next_of a) 0) (u16_at m.b.now (next_of a + 1)) (bytes_of a) in
      let q : Put (action 0x8E (fields2 m f a) (r.at + 3)) pos out out' (record { at = r.at + 3; pos = record { 0 = end } }) =
      action_last 0x8E (fields2 m f a) len (omega (arith, x.end))
      (function2_runs out (pos + 3) w (span_of m f.name) f.count d g (bytes_of a) (get_or m.b.now (next_of a) 0) (u16_at m.b.now (next_of a + 1)) r.pos.0
      x.wrote (rw (k, x.next) at y) x.end v) o (omega (arith, x.end)) in
      record { wrote = rw i.1 q.wrote; end = rw i.1 q.end; next = omega (arith, i.2, x.next) }

-- ---- a Try

-- a Try's payload before its target: the shape and three lengths
abbrev pub try_front : ℕ → List ℕ
try_front shape = shape ∷ (le16 0 ++ (le16 0 ++ le16 0))

module _ (shape : ℕ) (t : List ℕ) {next pos : ℕ} {out : List ℕ} where
  -- the target has room
  pub try_space : Room (action 0x8F (try_payload shape 0 0 0 t) next) pos out → pos + 10 + length t ≤ length out
  try_space h = omega (arith, length_action 0x8F (try_payload shape 0 0 0 t), length-try_payload shape 0 0 0 t, h.room)

  -- what stands before it, the target, and then the header
  pub try_put : {o p out' : List ℕ} {w len : ℕ} {r : Spot} → w ≡ pos + 10 → o ≡ sets out (pos + 3) (try_front shape) → Put (piece t next) w o p r → len ≡ r.pos.0 - (pos + 3) → out' ≡ sets p pos (0x8F ∷ le16 len)
      → Put (action 0x8F (try_payload shape 0 0 0 t) next) pos out out' r
  unfolding try_payload le16
  try_put {out' = out'} {len = len} {r = r} d e x k y =
      let l = length-try_payload shape 0 0 0 t in
      let q : Put (action 0x8F (try_payload shape 0 0 0 t) next) pos out out' (record { at = next; pos = r.pos }) =
      action_last 0x8F (try_payload shape 0 0 0 t) len (omega (arith, x.end)) (run_then out (pos + 3) (try_front shape) t _ (omega arith) e x.wrote) y (omega (arith, x.end)) in
      record { wrote = q.wrote; end = q.end; next = x.next }
