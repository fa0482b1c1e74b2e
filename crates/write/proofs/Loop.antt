-- The loop over a body's actions: what is still to be written completes what the whole body asks. Assumes nothing.
use mathlib.Core.Path.{◌≡◌, refl, sym, ap, ◌∙◌}
use Prim.Native.Nat.{ℕ, zero, suc, ◌+◌, ◌-◌, ◌*◌, ◌≤◌, ◌<◌}
use native.Mathlib.Omega.{arith}
use mathlib.Core.List.{List, ◌++◌}
use lib.ListN.{length}
use lib.Seq.{sets, length-sets}
use Rattle.stores.proofs.Stores.{sets-append}
use Rattle.layout.specs.Numbers.{u16_at}
use Rattle.layout.specs.Tree.{Entry, ActionOf, ActionListOf, empty, more, ActionsOf, body, ActionIndex, first_action, next_action, count}
use Rattle.layout.specs.Read.{Text, Terms, Place, placed, got, Reader, behind, read_entries, read_action, read_actions, read_body_with, read_body}
use Rattle.layout.specs.Strings.{map_action, map_actions, map_body}
use Rattle.layout.specs.Write.{actions_bytes, body_bytes, sizes, body_size, Position, position, moved, past, Event, labels_at, traces, trace_body}
use Rattle.layout.proofs.Lengths.{length_bytes}
use Rattle.layout.specs.Pack.{spelling}
use Rattle.labels.proofs.Labels.{entries_read}
use Rattle.pcode.proofs.Readings.{Gives, gives, refuses, given, also_behind, next, then, itself, u16}
use Rattle.encode_flat.specs.Branches.{table_bits}
use Rattle.laws.specs.Resolved.{body_length, action_size, action_trace}
use Rattle.write.specs.Bodies.{body_by, action_by, NearFrom, near_of, near_action, body_of, action_of, Room, Wrote}
use Rattle.editions.specs.Allowed.{read_by}
use Rattle.editions.specs.declared.MainBody.{MainBody}
use Rattle.positions.specs.declared.Spot.{Spot}
use Rattle.laws.specs.Nears.{NoneFar}
use Rattle.laws.proofs.Nears.{near_left, near_right}
use Rattle.labels.specs.Table.{record_at}

-- ---- a body's front

-- The place of a body's action count, behind its label entries.
abbrev pub count_at : List ℕ → ℕ → ℕ
count_at b at = at + 2 + 4 * u16_at b at

-- A body that was read: its two counts lie within b, and its actions are read behind the second.
pub record Fronted (terms : Terms) (b : List ℕ) (depth at : ℕ) (x : ActionsOf Text ℕ) (q : Place) : Type 0 where
  pub first : at + 2 ≤ length b
  pub second : count_at b at + 2 ≤ length b
  pub deep : 0 < depth
  pub entries : List Entry
  pub actions : ActionListOf Text ℕ
  pub is : x ≡ body entries actions
  pub reads : read_actions terms b (behind 1 (read_body terms b (depth - 1))) (u16_at b (count_at b at)) (placed (count_at b at + 2)) ≡ got actions q

module _ (terms : Terms) (b : List ℕ) (at : ℕ) where
  -- Of a body whose inner bodies have one level less.
  fronted_with : (depth : ℕ) → Gives (Fronted terms b (suc depth) at) (read_body_with terms b (behind 1 (read_body terms b depth)) (placed at))
  unfolding read_body_with
  fronted_with depth =
      next _ (u16 b at) (λ l. then (itself (read_entries terms b (u16_at b at) 0 (placed (at + 2)))) (λ es r e.
      let f : r ≡ placed (count_at b at) = ap placed (entries_read terms b (u16_at b at) (placed (at + 2)) es r l e).0.ends in
      rw f (next _ (u16 b (count_at b at)) (λ m. then (itself (read_actions terms b (behind 1 (read_body terms b depth)) (u16_at b (count_at b at)) (placed (count_at b at + 2))))
      (λ xs s g. gives (record { first = l; second = m; deep = omega arith; entries = es; actions = xs; is = refl; reads = less xs s g }))))))
    where
      less : (xs : ActionListOf Text ℕ) (s : Place) → read_actions terms b (behind 1 (read_body terms b depth)) (u16_at b (count_at b at)) (placed (count_at b at + 2)) ≡ got xs s
          → read_actions terms b (behind 1 (read_body terms b (suc depth - 1))) (u16_at b (count_at b at)) (placed (count_at b at + 2)) ≡ got xs s
      less xs s g =
          let k : suc depth - 1 ≡ depth = omega arith in
          rw k g

  -- Of a body with any number of levels.
  fronted_body : (depth : ℕ) → Gives (Fronted terms b depth at) (read_body terms b depth (placed at))
  unfolding read_body
  fronted_body zero = refuses
  fronted_body (suc depth) = fronted_with depth

  -- What reading a body makes sure of.
  pub fronted : (depth : ℕ) (x : ActionsOf Text ℕ) (q : Place) → read_body terms b depth (placed at) ≡ got x q → Fronted terms b depth at x q
  fronted depth x q e = given (fronted_body depth) e

-- ---- the first of several actions

-- n actions that were read: the first, and the others.
record FirstOf (terms : Terms) (b : List ℕ) (inner : Reader (ActionsOf Text ℕ)) (n p : ℕ) (xs : ActionListOf Text ℕ) (q : Place) : Type 0 where
  pub first : ActionOf Text ℕ
  pub others : ActionListOf Text ℕ
  pub then_at : Place
  pub is : xs ≡ more first others
  pub reads_first : read_action terms b inner (placed p) ≡ got first then_at
  pub reads_others : read_actions terms b inner (n - 1) then_at ≡ got others q

module _ (terms : Terms) (b : List ℕ) (inner : Reader (ActionsOf Text ℕ)) where
  -- Of several actions there is a first.
  first_gives : (n p : ℕ) → 0 < n → Gives (FirstOf terms b inner n p) (read_actions terms b inner n (placed p))
  unfolding read_actions
  first_gives zero p h = absurd (omega arith)
  first_gives (suc n) p h =
      then (itself (read_action terms b inner (placed p))) (λ a r e. then (also_behind (count a) (itself (read_actions terms b inner n r)))
      (λ xs q f. gives (record { first = a; others = xs; then_at = r; is = refl; reads_first = e; reads_others = less xs r q f })))
    where
      less : (xs : ActionListOf Text ℕ) (r q : Place) → read_actions terms b inner n r ≡ got xs q → read_actions terms b inner (suc n - 1) r ≡ got xs q
      less xs r q f =
          let k : suc n - 1 ≡ n = omega arith in
          rw k f

  -- The same of actions that were read.
  first_of : (n p : ℕ) (xs : ActionListOf Text ℕ) (q : Place) → 0 < n → read_actions terms b inner n (placed p) ≡ got xs q → FirstOf terms b inner n p xs q
  first_of n p xs q h e = given (first_gives n p h) e

  -- No action was read.
  none_of : (n p : ℕ) (xs : ActionListOf Text ℕ) (q : Place) → n ≤ 0 → read_actions terms b inner n (placed p) ≡ got xs q → (xs ≡ empty) × (q ≡ placed p)
  unfolding read_actions
  none_of zero p xs q h e = (cc, cc)
  none_of (suc n) p xs q h e = absurd (omega arith)

-- ---- the loop

-- The length of actions that were read.
pub length_list : ActionListOf Text ℕ → ℕ
length_list xs = sizes (map_actions spelling xs)

-- The bytes of actions that were read.
pub list_of : List ℕ → ActionListOf Text ℕ → ℕ → List ℕ
list_of tab xs p = actions_bytes (table_bits tab) (map_actions spelling xs) p

-- None of their branches goes too far; the first has an index, and the body has these entries.
abbrev pub near_list : List ℕ → List Entry → ActionIndex → ActionListOf Text ℕ → ℕ → Type 0
near_list tab es i xs p = NearFrom tab (traces (map_actions spelling xs) es i) p

-- The length of actions, one after the other.
more_length : (a : ActionOf Text ℕ) (xs : ActionListOf Text ℕ) → length_list (more a xs) ≡ action_size a + length_list xs
unfolding length_list map_actions sizes
more_length a xs = refl

-- Nor does one of the first, and of the others.
more_near : (tab : List ℕ) (es : List Entry) (i : ActionIndex) (xs : ActionListOf Text ℕ) (a : ActionOf Text ℕ) (ys : ActionListOf Text ℕ) (w : ℕ) → xs ≡ more a ys
    → near_list tab es i xs w → near_action tab a w × near_list tab es (next_action i) ys (w + action_size a)
unfolding map_actions traces moved
more_near tab es i xs a ys w e h =
    let s : Position = position w h.home h.number in
    let x : List Event = action_trace a s in
    let y : List Event = traces (map_actions spelling ys) es (next_action i) (past (map_action spelling a) s) in
    let k : NoneFar (record_at tab) (x ++ y) = near_right (record_at tab) (labels_at es i s) (x ++ y) (rw e at h.none_far) in
    (record { home = h.home; number = h.number; none_far = near_left (record_at tab) x y k }, record { home = h.home; number = (past (map_action spelling a) s).number; none_far = near_right (record_at tab) x y k })

-- An action is written, and then the others: all of them are.
more_bytes : (tab l : List ℕ) (a : ActionOf Text ℕ) (xs : ActionListOf Text ℕ) (w : ℕ)
    → sets (sets l w (action_of tab a w)) (w + action_size a) (list_of tab xs (w + action_size a)) ≡ sets l w (list_of tab (more a xs) w)
unfolding list_of map_actions actions_bytes action_of
more_bytes tab l a xs w =
    ap (λ (n : ℕ). sets (sets l w (action_of tab a w)) (w + n) (list_of tab xs (w + action_size a))) (sym (length_bytes (table_bits tab) (map_action spelling a) w))
    ∙ sets-append l w (action_of tab a w) (list_of tab xs (w + action_size a))

-- `left` actions are still to be read at p and to be written at w: with them the output is what the whole body asks.
pub record Writing (m : MainBody) (at depth pos : ℕ) (tab old : List ℕ) (left p w : ℕ) (out : List ℕ) : Type 0 where
  pub whole : ActionsOf Text ℕ
  pub end : Place
  pub rest : ActionListOf Text ℕ
  pub deep : 0 < depth
  pub is_read : body_by m depth (placed at) ≡ got whole end
  pub goes_on : read_actions (read_by m) m.b.now (behind 1 (body_by m (depth - 1))) left (placed p) ≡ got rest end
  pub entries : List Entry
  pub index : ActionIndex
  pub nearby : near_list tab entries index rest w
  pub completes : sets out w (list_of tab rest w) ≡ sets old pos (body_of tab whole pos)
  pub reach : w + length_list rest ≡ pos + body_length whole
  pub long : length out ≡ length old

module _ (m : MainBody) (at depth pos : ℕ) (tab old : List ℕ) where
  -- Before the first action.
  writing_start : Room m (body_by m depth) body_length near_of at pos tab old → (left p : ℕ) → left ≡ u16_at m.b.now (count_at m.b.now at) → p ≡ count_at m.b.now at + 2
      → Writing m at depth pos tab old left p pos old
  writing_start r left p e f =
      let g = fronted (read_by m) m.b.now at depth r.value r.next r.reads in
      record {
        whole = r.value;
        end = r.next;
        rest = g.actions;
        deep = g.deep;
        is_read = r.reads;
        goes_on = rw (e, f) g.reads;
        entries = g.entries;
        index = first_action;
        nearby = near r.value g.entries g.actions g.is r.nearby;
        completes = ap (λ (s : List ℕ). sets old pos s) (same r.value g.entries g.actions g.is);
        reach = ap (λ (n : ℕ). pos + n) (as_long r.value g.entries g.actions g.is);
        long = refl;
      }
    where
      near : (x : ActionsOf Text ℕ) (es : List Entry) (xs : ActionListOf Text ℕ) → x ≡ body es xs → near_of tab x pos → near_list tab es first_action xs pos
      near x es xs h k =
          let g = rw h at k.none_far in
          record { home = k.home; number = k.number; none_far = unfold map_body trace_body in g }

      same : (x : ActionsOf Text ℕ) (es : List Entry) (xs : ActionListOf Text ℕ) → x ≡ body es xs → list_of tab xs pos ≡ body_of tab x pos
      same x es xs h = rw h (unfold body_of list_of map_body body_bytes in refl)

      as_long : (x : ActionsOf Text ℕ) (es : List Entry) (xs : ActionListOf Text ℕ) → x ≡ body es xs → length_list xs ≡ body_length x
      as_long x es xs h = rw h (unfold length_list map_body body_size in refl)

  module _ (left p w : ℕ) (out : List ℕ) where
    -- The next action has room.
    pub writing_room : 0 < left → Writing m at depth pos tab old left p w out → Room m (body_by m depth) body_length near_of at pos tab old
        → Room m (action_by m (depth - 1)) action_size near_action p w tab out
    writing_room h g r =
        let f = first_of (read_by m) m.b.now (behind 1 (body_by m (depth - 1))) left p g.rest g.end h g.goes_on in
        let same : g.whole ≡ r.value = as_read g.whole g.end r.value r.next g.is_read r.reads in
        record {
          bytes = r.bytes;
          value = f.first;
          next = f.then_at;
          reads = f.reads_first;
          slots = r.slots;
          nearby = (more_near tab g.entries g.index g.rest f.first f.others w f.is g.nearby).0;
          room = omega (arith, g.reach, g.long, r.room, ap body_length same, ap length_list f.is, more_length f.first f.others);
          sums = omega (arith, g.long, r.sums);
          places = r.places;
        }
      where
        as_read : (x : ActionsOf Text ℕ) (o : Place) (y : ActionsOf Text ℕ) (q : Place) → body_by m depth (placed at) ≡ got x o → body_by m depth (placed at) ≡ got y q → x ≡ y
        as_read x o y q e f = cc

    -- It was written, and the others are still to be.
    writing_more_left : (new : List ℕ) (e : Spot) → 0 < left → Writing m at depth pos tab old left p w out
        → Wrote (action_by m (depth - 1)) action_size (λ x. sets out w (action_of tab x w)) p w new e
        → Writing m at depth pos tab old (left - 1) e.at e.pos.0 new
    writing_more_left new e h g k =
        let f = first_of (read_by m) m.b.now (behind 1 (body_by m (depth - 1))) left p g.rest g.end h g.goes_on in
        go f.first f.others f.then_at e.at e.pos.0 f.is f.reads_others (k.wrote f.first f.then_at f.reads_first) (k.ends.ended f.first f.then_at f.reads_first)
      where
        go : (a : ActionOf Text ℕ) (xs : ActionListOf Text ℕ) (q : Place) (p' w' : ℕ) → g.rest ≡ more a xs
            → read_actions (read_by m) m.b.now (behind 1 (body_by m (depth - 1))) (left - 1) q ≡ got xs g.end
            → new ≡ sets out w (action_of tab a w) → (w' ≡ w + action_size a) × (p' ≡ q.at) → Writing m at depth pos tab old (left - 1) p' w' new
        go a xs q p' w' is r o t =
            record {
              whole = g.whole;
              end = g.end;
              rest = xs;
              deep = g.deep;
              is_read = g.is_read;
              goes_on = rw t.1 r;
              entries = g.entries;
              index = next_action g.index;
              nearby = rw t.0 (more_near tab g.entries g.index g.rest a xs w is g.nearby).1;
              completes = rw (o, t.0) (more_bytes tab out a xs w ∙ ap (λ (ys : ActionListOf Text ℕ). sets out w (list_of tab ys w)) (sym is) ∙ g.completes);
              reach = omega (arith, t.0, ap length_list is, more_length a xs, g.reach);
              long = ap length o ∙ length-sets out w (action_of tab a w) ∙ g.long;
            }

    -- All are written.
    pub writing_end : left ≤ 0 → Writing m at depth pos tab old left p w out
        → Wrote (body_by m depth) body_length (λ x. sets old pos (body_of tab x pos)) at pos out (record { at = p; pos = record { 0 = w } })
    writing_end h g = record { wrote = λ x q e. same_bytes x q e; ends = record { ended = λ x q e. (same_end x q e, same_place x q e) } }
      where
        rest_none : (g.rest ≡ empty) × (g.end ≡ placed p)
        rest_none = none_of (read_by m) m.b.now (behind 1 (body_by m (depth - 1))) left p g.rest g.end h g.goes_on

        same_whole : (x : ActionsOf Text ℕ) (q : Place) → body_by m depth (placed at) ≡ got x q → (g.whole ≡ x) × (g.end ≡ q)
        same_whole x q e =
            let i = g.is_read in
            (cc, cc)

        nothing_bytes : (xs : ActionListOf Text ℕ) → xs ≡ empty → out ≡ sets out w (list_of tab xs w)
        nothing_bytes xs k = rw k (unfold list_of map_actions actions_bytes in refl)

        nothing_long : (xs : ActionListOf Text ℕ) → xs ≡ empty → length_list xs ≡ 0
        nothing_long xs k = rw k (unfold length_list map_actions sizes in refl)

        same_bytes : (x : ActionsOf Text ℕ) (q : Place) → body_by m depth (placed at) ≡ got x q → out ≡ sets old pos (body_of tab x pos)
        same_bytes x q e = nothing_bytes g.rest rest_none.0 ∙ g.completes ∙ ap (λ (y : ActionsOf Text ℕ). sets old pos (body_of tab y pos)) (same_whole x q e).0

        same_end : (x : ActionsOf Text ℕ) (q : Place) → body_by m depth (placed at) ≡ got x q → w ≡ pos + body_length x
        same_end x q e = omega (arith, nothing_long g.rest rest_none.0, g.reach, ap body_length (same_whole x q e).0)

        same_place : (x : ActionsOf Text ℕ) (q : Place) → body_by m depth (placed at) ≡ got x q → p ≡ q.at
        same_place x q e = ap (λ (o : Place). o.at) (sym rest_none.1 ∙ (same_whole x q e).1)

  -- Before the first of n, and once one more than i are written.
  pub writing_first : Room m (body_by m depth) body_length near_of at pos tab old → (n p : ℕ) → n ≡ u16_at m.b.now (count_at m.b.now at) → p ≡ count_at m.b.now at + 2
      → Writing m at depth pos tab old (n - 0) p pos old
  writing_first r n p e f =
      let z : n - 0 ≡ n = omega arith in
      rw z (writing_start r n p e f)

  pub writing_more : (n i : ℕ) (s : Spot) (out new : List ℕ) (e : Spot) → i < n → Writing m at depth pos tab old (n - i) s.at s.pos.0 out
      → Wrote (action_by m (depth - 1)) action_size (λ x. sets out s.pos.0 (action_of tab x s.pos.0)) s.at s.pos.0 new e
      → Writing m at depth pos tab old (n - (i + 1)) e.at e.pos.0 new
  writing_more n i s out new e h g k =
      let d : n - (i + 1) ≡ n - i - 1 = omega arith in
      rw d (writing_more_left (n - i) s.at s.pos.0 out new e (omega arith) g k)
