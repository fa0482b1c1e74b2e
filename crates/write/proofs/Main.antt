-- The main body's actions by the table are the block without its End. Assumes nothing.
use mathlib.Core.Path.{◌≡◌, sym, ap, ◌∙◌, subst}
use Prim.Native.Nat.{ℕ, ◌+◌, ◌≤◌, ◌<◌}
use native.Mathlib.Omega.{arith}
use mathlib.Core.Option.{Option, none}
use mathlib.Core.List.{List}
use lib.ListN.{length}
use lib.Seq.{sets}
use Rattle.layout.specs.Tree.{Actions, ActionsOf}
use Rattle.layout.specs.Read.{Text, deepest, Place, placed, got, read_main}
use Rattle.layout.specs.Strings.{map_body}
use Rattle.layout.specs.Write.{body_bytes, body_size, Position, events, distance_bits, branch_bits, block_size, block_start, lookup}
use Rattle.layout.proofs.Lengths.{length_body}
use Rattle.layout.specs.Pack.{spelling}
use Rattle.layout.specs.Judge.{judged, far_by, too_far}
use Rattle.labels.specs.Table.{TableHolds, record_at}
use Rattle.labels.proofs.Labels.{table_record, homed_bits, homed_judged}
use Rattle.pcode.proofs.Readings.{given}
use Rattle.encode_flat.specs.Branches.{table_bits}
use Rattle.laws.proofs.Branches.{each_then, refused_same}
use Rattle.laws.specs.Resolved.{body_length}
use Rattle.write.specs.Bodies.{body_by, near_of, body_of, Room, Wrote, main_bytes, MainWritable, PutMain}
use Rattle.editions.specs.Allowed.{read_by}
use Rattle.editions.specs.declared.MainBody.{MainBody}
use Rattle.positions.specs.declared.Spot.{Spot}
use Rattle.pcode.proofs.Trees.{UnderBody, main_body, body_under}
use Rattle.pcode.proofs.Labels as labels
use Rattle.write.proofs.Labels.{agree_body}

-- ---- the main body

-- The bits of a branch to a label with a slot are the tree's.
table_bits_lem : (tab : List ℕ) (t : Actions) → TableHolds tab (events t) → (l after : ℕ) → l < length tab → table_bits tab l after ≡ branch_bits t l after
unfolding table_bits branch_bits
table_bits_lem tab t h l after k =
    ap (λ (o : Option Position). distance_bits o after) (table_record tab (events t) h l k) ∙ homed_bits 0 (lookup l (events t)) after

-- The first branch that goes too far by the table is the tree's.
table_far : (bound : ℕ) (tab : List ℕ) (t : Actions) → TableHolds tab (events t) → bound ≤ length tab → UnderBody bound t → far_by (record_at tab) (events t) ≡ too_far (events t) (events t)
table_far bound tab t h m u = refused_same _ _ (record_at tab) (λ l. lookup l (events t)) (events t) (each_then (λ l s. l < bound) _ same (events t) (unfold events in labels.body_under bound t block_start u))
  where
    same : (l : ℕ) (s : Position) → l < bound → judged (record_at tab l) (s.at + 2) s.number ≡ judged (lookup l (events t)) (s.at + 2) s.number
    same l s k =
        ap (λ (o : Option Position). judged o (s.at + 2) s.number) (table_record tab (events t) h l (omega (arith, k, m))) ∙ homed_judged 0 (lookup l (events t)) (s.at + 2) s.number

-- ---- the block

module _ (m : MainBody) (tab out : List ℕ) (w : MainWritable (read_by m) m.b.now tab out) where
  -- There is room for the main body's actions, from the start on.
  from_start : Room m (body_by m deepest) body_length near_of 0 0 tab out
  unfolding block_size
  from_start =
      let r = w.reads in
      record {
        bytes = w.bytes;
        value = r.read;
        next = r.next;
        reads = main_body (read_by m) m.b.now r.read r.next r.is_read;
        slots = w.slots;
        nearby = near_main r.read w.tree r.is_tree (given (body_under (read_by m) m.b.now deepest (placed 0)) (main_body (read_by m) m.b.now r.read r.next r.is_read)) w.holds w.nearby;
        room = omega (arith, w.room, ap body_size r.is_tree);
        sums = w.sums;
        places = w.places;
      }
    where
      near_main : (x : ActionsOf Text ℕ) (t : Actions) → map_body spelling x ≡ t → UnderBody m.terms.label_bound (map_body spelling x) → TableHolds tab (events t)
          → too_far (events t) (events t) ≡ none → near_of tab x 0
      near_main x t i u h k = record { home = 0; number = 0; none_far = rw i (unfold events in (table_far m.terms.label_bound tab t h w.slots (subst (UnderBody m.terms.label_bound) i u) ∙ k)) }

  -- The same where the position is held in a number.
  pub main_room : {p : ℕ} → p ≡ 0 → Room m (body_by m deepest) body_length near_of 0 p tab out
  main_room z = subst (λ (n : ℕ). Room m (body_by m deepest) body_length near_of 0 n tab out) (sym z) from_start

  module _ (mid : List ℕ) (e : Spot) {p : ℕ} (z : p ≡ 0) (wrote : Wrote (body_by m deepest) body_length (λ x. sets out p (body_of tab x p)) 0 p mid e) where
    from_zero : Wrote (body_by m deepest) body_length (λ x. sets out 0 (body_of tab x 0)) 0 0 mid e
    from_zero = subst (λ (n : ℕ). Wrote (body_by m deepest) body_length (λ x. sets out n (body_of tab x n)) 0 n mid e) z wrote

    -- The actions are the block without its End.
    pub main_put : PutMain (read_by m) m.b.now out mid e.pos
    unfolding main_bytes
    main_put = record { put = λ t r. go t r.read r.next r.is_read r.is_tree w.reads.read w.reads.next w.reads.is_read w.reads.is_tree }
      where
        go : (t : Actions) (x : ActionsOf Text ℕ) (q : Place) → read_main (read_by m) m.b.now deepest ≡ got x q → map_body spelling x ≡ t
            → (y : ActionsOf Text ℕ) (s : Place) → read_main (read_by m) m.b.now deepest ≡ got y s → map_body spelling y ≡ w.tree → (mid ≡ sets out 0 (main_bytes t)) × (e.pos.0 ≡ length (main_bytes t))
        go t x q d i y s f j =
            let same : w.tree ≡ t = cc in
            let h = subst (λ (u : Actions). TableHolds tab (events u)) same w.holds in
            let under = subst (UnderBody m.terms.label_bound) i (given (body_under (read_by m) m.b.now deepest (placed 0)) (main_body (read_by m) m.b.now x q d)) in
            let v = main_body (read_by m) m.b.now x q d in (
              from_zero.wrote x q v ∙ ap (λ (l : List ℕ). sets out 0 l) (shown x t i ∙ agree_body (table_bits tab) (branch_bits t) m.terms.label_bound (λ l after k. table_bits_lem tab t h l after (omega (arith, k, w.slots))) t 0 under),
              omega (arith, (from_zero.ends.ended x q v).0, long x t i, length_body (branch_bits t) t 0),
            )
          where
            shown : (x : ActionsOf Text ℕ) (t : Actions) → map_body spelling x ≡ t → body_of tab x 0 ≡ body_bytes (table_bits tab) t 0
            shown x t i = unfold body_of in ap (λ (u : Actions). body_bytes (table_bits tab) u 0) i

            long : (x : ActionsOf Text ℕ) (t : Actions) → map_body spelling x ≡ t → body_length x ≡ body_size t
            long x t i = ap body_size i
