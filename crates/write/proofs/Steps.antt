-- What each function of the cycle is asked and leaves, from what it asks of the next one and learns from it. Assumes nothing.
use mathlib.Core.Path.{◌≡◌, refl, sym, ap, ◌∙◌, subst}
use Prim.Native.Nat.{ℕ, ◌+◌, ◌-◌, ◌≤◌}
use native.Mathlib.Omega.{arith}
use mathlib.Core.Bool.{Bool, true, false, not}
use mathlib.Core.Option.{Option, none, some}
use mathlib.Core.List.{List}
use lib.ListN.{length}
use lib.Seq.{sets}
use Rattle.layout.specs.Numbers.{le16}
use Rattle.layout.specs.Tree.{ActionsOf}
use Rattle.layout.specs.Read.{Text, Place, placed, Reader, got, has_catch, has_finally}
use Rattle.pcode.proofs.Readings.{gives, given, then, itself}
use Rattle.laws.specs.Resolved.{body_length}
use Rattle.write.specs.Bodies.{read_if, Tried, read_tried, length_if, length_tried, near_of, near_if, near_tried, body_of, closed, closed_if, closed_tried, Room, Ended, Wrote}
use Rattle.editions.specs.declared.MainBody.{MainBody}
use Rattle.positions.specs.declared.Spot.{Spot}

-- ---- a body and its length

-- The length's place lies within an output of n bytes, and the body ends behind its start.
pub block_room : {m : MainBody} {inner : Reader (ActionsOf Text ℕ)} {tab out : List ℕ} {at pos n : ℕ} (from : ℕ) {e : Spot}
    → Room m inner body_length near_of at pos tab out × (from + 2 ≤ pos) → Ended inner body_length at pos e → n ≡ length out
    → (from + 2 ≤ n) × (pos ≤ e.pos.0)
block_room from r w l =
    let k = (w.ended r.0.value r.0.next r.0.reads).0 in
    (omega (arith, r.0.room, r.1, l), omega (arith, k))

module _ (inner : Reader (ActionsOf Text ℕ)) (tab out mid : List ℕ) (at pos from : ℕ) (e : Spot) where
  -- The body was written, then its length.
  pub block_wrote : (new : List ℕ) → Wrote inner body_length (λ x. sets out pos (body_of tab x pos)) at pos mid e → new ≡ sets mid from (le16 (e.pos.0 - pos))
      → Wrote inner body_length (closed tab out pos from) at pos new e
  unfolding closed
  block_wrote new w n = record { wrote = λ x q r. go x (w.wrote x q r) (w.ends.ended x q r).0; ends = w.ends }
    where
      go : (x : ActionsOf Text ℕ) → mid ≡ sets out pos (body_of tab x pos) → e.pos.0 ≡ pos + body_length x → new ≡ sets (sets out pos (body_of tab x pos)) from (le16 (body_length x))
      go x m k =
          let d : e.pos.0 - pos ≡ body_length x = omega (arith, k) in
          n ∙ rw (d, m) refl

-- ---- a body that may be absent

-- What is read of a body that is present.
record Present (inner : Reader (ActionsOf Text ℕ)) (p : Place) (y : Option (ActionsOf Text ℕ)) (q : Place) : Type 0 where
  pub value : ActionsOf Text ℕ
  pub is : y ≡ some value
  pub reads : inner p ≡ got value q

-- Of a body that is present that is what is read.
present : (inner : Reader (ActionsOf Text ℕ)) (p : Place) {y : Option (ActionsOf Text ℕ)} {q : Place} (t : Bool) → not t ≡ false → read_if t inner p ≡ got y q → Present inner p y q
unfolding read_if
present inner p true e r = given {P = Present inner p} (then (itself (inner p)) (λ x q f. gives (record { value = x; is = refl; reads = f }))) r
present inner p false e r =
    let z : ◌≡◌ {A = ℕ} 0 1 = cc in
    absurd (omega arith)

module _ (inner : Reader (ActionsOf Text ℕ)) (tab out : List ℕ) (at pos : ℕ) where
  -- A present body has room.
  pub if_room : {m : MainBody} (t : Bool) → not t ≡ false → Room m (read_if t inner) length_if near_if at pos tab out → Room m inner body_length near_of at pos tab out
  unfolding length_if
  if_room t e r =
      let x = present inner (placed at) t e r.reads in
      record {
        bytes = r.bytes;
        value = x.value;
        next = r.next;
        reads = x.reads;
        slots = r.slots;
        nearby = subst (λ (y : Option (ActionsOf Text ℕ)). near_if tab y pos) x.is r.nearby;
        room = omega (arith, r.room, ap length_if x.is);
        sums = r.sums;
        places = r.places;
      }

  module _ (from : ℕ) where
    -- It was written with its length.
    pub if_wrote : (t : Bool) {new : List ℕ} {e : Spot} → not t ≡ false → Wrote inner body_length (closed tab out pos from) at pos new e → Wrote (read_if t inner) length_if (closed_if tab out pos from) at pos new e
    unfolding length_if closed_if
    if_wrote t {new} {e} h w =
        record {
          wrote = λ y q r. let x = present inner (placed at) t h r in w.wrote x.value q x.reads ∙ ap (λ (o : Option (ActionsOf Text ℕ)). closed_if tab out pos from o) (sym x.is);
          ends = record { ended = λ y q r. let x = present inner (placed at) t h r in go y x.value x.is (w.ends.ended x.value q x.reads) };
        }
      where
        go : (y : Option (ActionsOf Text ℕ)) (x : ActionsOf Text ℕ) {q : ℕ} → y ≡ some x → (e.pos.0 ≡ pos + body_length x) × (e.at ≡ q) → (e.pos.0 ≡ pos + length_if y) × (e.at ≡ q)
        go y x i k = rw i k

    -- An absent body leaves everything as it is.
    pub if_absent : (t : Bool) → not t ≡ true → Wrote (read_if t inner) length_if (closed_if tab out pos from) at pos out (record { at = at; pos = record { 0 = pos } })
    unfolding read_if length_if closed_if
    if_absent true e =
        let z : ◌≡◌ {A = ℕ} 0 1 = cc in
        absurd (omega arith)
    if_absent false e = record { wrote = λ y q r. ap (λ (o : Option (ActionsOf Text ℕ)). closed_if tab out pos from o) (go y q r).0; ends = record { ended = λ y q r. (omega (arith, ap length_if (go y q r).0), ap (λ (o : Place). o.at) (go y q r).1) } }
      where
        go : (y : Option (ActionsOf Text ℕ)) (q : Place) → got none (placed at) ≡ got y q → (none ≡ y) × (placed at ≡ q)
        go y q r = (cc, cc)

-- ---- the bodies of a Try

-- The three readings, one after the other.
record Parts (shape : ℕ) (inner : Reader (ActionsOf Text ℕ)) (p : Place) (t : Tried) (q : Place) : Type 0 where
  pub second_at : Place
  pub third_at : Place
  pub reads_first : inner p ≡ got t.first second_at
  pub reads_second : read_if (has_catch shape) inner second_at ≡ got t.second third_at
  pub reads_third : read_if (has_finally shape) inner third_at ≡ got t.third q

-- The bodies of a Try that were read were read so.
parts : (shape : ℕ) (inner : Reader (ActionsOf Text ℕ)) (p : Place) {t : Tried} {q : Place} → read_tried shape inner p ≡ got t q → Parts shape inner p t q
unfolding read_tried
parts shape inner p r =
    given {P = Parts shape inner p} (then (itself (inner p)) (λ x s e. then (itself (read_if (has_catch shape) inner s)) (λ y u f. then (itself (read_if (has_finally shape) inner u))
    (λ z v g. gives (record { second_at = s; third_at = u; reads_first = e; reads_second = f; reads_third = g }))))) r

module _ {m : MainBody} (inner : Reader (ActionsOf Text ℕ)) (tab out : List ℕ) (at pos shape : ℕ) (r : Room m (read_tried shape inner) length_tried near_tried at pos tab out) where
  -- The first body has room.
  pub try_first : Room m inner body_length near_of at pos tab out
  unfolding length_tried
  try_first =
      let k = parts shape inner (placed at) r.reads in
      record {
        bytes = r.bytes;
        value = r.value.first;
        next = k.second_at;
        reads = k.reads_first;
        slots = r.slots;
        nearby = r.nearby.0;
        room = omega (arith, r.room);
        sums = r.sums;
        places = r.places;
      }

  module _ {t : Spot} (w : Ended inner body_length at pos t) where
    -- The second has, behind the first.
    pub try_second : (one : List ℕ) → length one ≡ length out → Room m (read_if (has_catch shape) inner) length_if near_if t.at t.pos.0 tab one
    unfolding length_tried
    try_second one l =
        let k = parts shape inner (placed at) r.reads in
        let v = w.ended r.value.first k.second_at k.reads_first in
        record {
          bytes = r.bytes;
          value = r.value.second;
          next = k.third_at;
          reads = ap (λ (n : ℕ). read_if (has_catch shape) inner (placed n)) v.1 ∙ k.reads_second;
          slots = r.slots;
          nearby = rw v.0 r.nearby.1;
          room = omega (arith, r.room, v.0, l);
          sums = omega (arith, r.sums, l);
          places = r.places;
        }

    -- The first ends behind its start.
    pub try_after : pos ≤ t.pos.0
    try_after =
        let k = parts shape inner (placed at) r.reads in
        omega (arith, (w.ended r.value.first k.second_at k.reads_first).0)

    module _ {c : Spot} (x : Ended (read_if (has_catch shape) inner) length_if t.at t.pos.0 c) where
      -- The third has, behind both.
      pub try_third : (two : List ℕ) → length two ≡ length out → Room m (read_if (has_finally shape) inner) length_if near_if c.at c.pos.0 tab two
      unfolding length_tried
      try_third two l =
          let k = parts shape inner (placed at) r.reads in
          let v = w.ended r.value.first k.second_at k.reads_first in
          let u = x.ended r.value.second k.third_at (ap (λ (n : ℕ). read_if (has_catch shape) inner (placed n)) v.1 ∙ k.reads_second) in
          record {
            bytes = r.bytes;
            value = r.value.third;
            next = r.next;
            reads = ap (λ (n : ℕ). read_if (has_finally shape) inner (placed n)) u.1 ∙ k.reads_third;
            slots = r.slots;
            nearby = rw (u.0, v.0) r.nearby.2;
            room = omega (arith, r.room, v.0, u.0, l);
            sums = omega (arith, r.sums, l);
            places = r.places;
          }

      -- The second ends behind its start.
      pub try_after_both : t.pos.0 ≤ c.pos.0
      try_after_both =
          let k = parts shape inner (placed at) r.reads in
          let v = w.ended r.value.first k.second_at k.reads_first in
          omega (arith, (x.ended r.value.second k.third_at (ap (λ (n : ℕ). read_if (has_catch shape) inner (placed n)) v.1 ∙ k.reads_second)).0)

module _ (inner : Reader (ActionsOf Text ℕ)) (tab out : List ℕ) (at pos shape from : ℕ) {one two three : List ℕ} {t c f : Spot} where
  -- All three were written with their lengths.
  pub try_wrote : Wrote inner body_length (closed tab out pos from) at pos one t
      → Wrote (read_if (has_catch shape) inner) length_if (closed_if tab one t.pos.0 (from + 2)) t.at t.pos.0 two c
      → Wrote (read_if (has_finally shape) inner) length_if (closed_if tab two c.pos.0 (from + 4)) c.at c.pos.0 three f
      → Wrote (read_tried shape inner) length_tried (closed_tried tab out pos from) at pos three f
  unfolding length_tried closed_tried
  try_wrote w x y = record { wrote = λ z q e. (go z q (parts shape inner (placed at) e)).0; ends = record { ended = λ z q e. (go z q (parts shape inner (placed at) e)).1 } }
    where
      go : (z : Tried) (q : Place) → Parts shape inner (placed at) z q → (three ≡ closed_tried tab out pos from z) × ((f.pos.0 ≡ pos + length_tried z) × (f.at ≡ q.at))
      go z q k =
          let v = w.ends.ended z.first k.second_at k.reads_first in
          let second = ap (λ (n : ℕ). read_if (has_catch shape) inner (placed n)) v.1 ∙ k.reads_second in
          let u = x.ends.ended z.second k.third_at second in
          let third = ap (λ (n : ℕ). read_if (has_finally shape) inner (placed n)) u.1 ∙ k.reads_third in
          let s = y.ends.ended z.third q third in
          let one-is = w.wrote z.first k.second_at k.reads_first in
          (y.wrote z.third q third ∙ rw (u.0, x.wrote z.second k.third_at second, v.0, one-is) refl, (omega (arith, v.0, u.0, s.0), s.1))
