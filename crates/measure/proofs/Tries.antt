-- What the scan of a Try's payload says of it: its bodies follow, their lengths tested after all of them. Assumes nothing.
use mathlib.Core.Path.{◌≡◌, refl, sym, ap, ap₂, ◌∙◌}
use Prim.Native.Nat.{ℕ, ◌+◌, ◌-◌, ◌*◌, ◌/◌, ◌%◌, ◌≤◌, ◌<◌}
use native.Mathlib.Omega.{arith}
use native.Mathlib.Nat.{add-zero}
use mathlib.Core.Bool.{Bool, true, false, false≢true}
use mathlib.Core.List.{List, [], ◌∷◌, ◌++◌, append-nil}
use lib.ListN.{length, get_or}
use lib.Dec.{leb, eqb}
use borrow.Author.Tests.{eqb-true, eqb-false, leb-true}
use Rattle.layout.specs.Lists.{pick}
use Rattle.layout.specs.Numbers.{bit}
use Rattle.layout.specs.OpCode.{OpCode}
use Rattle.layout.specs.Answers as answers
use Rattle.layout.specs.Tree.{CatchTargetOf, Variable, Register, ActionOf, Try, ActionsOf, CatchOf, no_catch, catch, FinallyOf, no_finally, finally, count, body_count, catch_count, finally_count}
use Rattle.layout.specs.Read.{Text, plain, Terms, Place, placed, ahead, stop, Read, got, bad, Reader, chain, more_begun, behind, if_whole, tested, is_shape, read_u8, has_catch, has_finally, has_register, read_catch_target, read_catch, read_finally, read_try, read_fields}
use Rattle.layout.specs.Strings.{map_target, map_action, map_body, map_catch, map_finally}
use Rattle.layout.specs.Payload.{catch_name}
use Rattle.layout.specs.Write.{size, catch_size, finally_size, Position, position, moved, to_try, payload_test, body_test, trace, trace_body, trace_catch, trace_finally}
use Rattle.layout.specs.Lengths.{total, name_length, string_length}
use Rattle.layout.proofs.Lengths.{length-catch_name}
use Rattle.layout.specs.Pack.{spelling}
use Rattle.laws.specs.Fits.{Bytes}
use Rattle.laws.specs.ReadFits.{Good, fine, refused}
use Rattle.laws.proofs.ReadFits.{good_then, good_got, u8_good, tested_good}
use Rattle.laws.specs.Books.{WordsShort}
use Rattle.laws.proofs.Shares.{text_most}
use Rattle.laws.specs.Begun.{Fields, OfFields}
use Rattle.laws.proofs.Begun.{fields_next, tested_fields, u8_fields, target_fields}
use Rattle.labels.specs.Table.{Tables}
use Rattle.positions.specs.Scanned.{fault_of, scanned}
use Rattle.operands.specs.Operands.{string_size}
use Rattle.std.specs.Prelude.{Option, Result}
use Rattle.positions.specs.declared.Stop as code
use Rattle.measure.specs.declared.Limit.TheVariants.{ActionLen, BlockLen}
use Rattle.measure.specs.declared.Overflow.{Overflow}
use Rattle.measure.specs.declared.Laid.{Laid}
use Rattle.measure.specs.declared.Laid.TheVariants as laid
use Rattle.action_fields.specs.Fields.{read_caught, target_size, caught_size, bodies_after}
use Rattle.laws.specs.Resolved.{action_size, action_trace, body_length}
use Rattle.laws.proofs.Resolved.{body_same}
use Rattle.measure.specs.Walk.{State, state, overflow, noted_if, run, fault, outcome, branches, uncounted, measured, in_turn, in_bodies, body_tests, bodies_events, Onward, Laying, laid_by, noted_from, Tried}
use Rattle.measure.proofs.Runs.{run_append, run_none, run_payload, run_body, branches_append, branches_none, branches_after, branches_body}

-- ---- a body's test, as a change of the state

unfoldable closed : ℕ → ℕ → State → State
closed k n s = state s.labels (noted_if (overflow BlockLen n k) s.over)

run_closed : (n : ℕ) (p : Position) (s : State) → run (body_test n p) s ≡ closed p.number n s
unfolding closed
run_closed n p s = run_body n p s.labels s.over

-- an absent body's length is 0
closed_none : (k : ℕ) (s : State) → closed k 0 s ≡ s
unfolding closed noted_if pick
closed_none k s = refl

-- ---- the bodies of a Try as a list

abbrev catch_bodies : CatchOf Text ℕ → List (ActionsOf Text ℕ)
catch_bodies no_catch = []
catch_bodies (catch t x) = x ∷ []

abbrev finally_bodies : FinallyOf Text ℕ → List (ActionsOf Text ℕ)
finally_bodies no_finally = []
finally_bodies (finally x) = x ∷ []

abbrev try_bodies : ActionsOf Text ℕ → CatchOf Text ℕ → FinallyOf Text ℕ → List (ActionsOf Text ℕ)
try_bodies t c f = t ∷ (catch_bodies c ++ finally_bodies f)

-- their events and tests, from the action numbered i on; the tests name the action at p
module _ (t : ActionsOf Text ℕ) (w home i : ℕ) (p : Position) (s : State) where
  bodies_run : (c : CatchOf Text ℕ) (f : FinallyOf Text ℕ) →
      run (trace_body (map_body spelling t) (position w home i) ++ (trace_catch (map_catch spelling c) (moved (body_length t) (body_count (map_body spelling t)) (position w home i))
      ++ (trace_finally (map_finally spelling f) (moved (body_length t + catch_size (map_catch spelling c)) (body_count (map_body spelling t) + catch_count (map_catch spelling c)) (position w home i))
      ++ (body_test (body_length t) p ++ (body_test (catch_size (map_catch spelling c)) p ++ body_test (finally_size (map_finally spelling f)) p))))) s
      ≡ run (bodies_events p.number (try_bodies t c f) (position w home i)) s
  unfolding trace_catch catch_size catch_count map_catch moved bodies_events in_bodies body_tests
  bodies_run no_catch no_finally = simp (run_append, run_none, run_closed, closed_none)
  bodies_run (catch u x) no_finally = rw (body_same spelling t) (simp (run_append, run_none, run_closed, closed_none))
  bodies_run no_catch (finally y) =
      let e : w + (body_length t + 0) ≡ w + body_length t = omega arith in
      let g : i + (body_count t + 0) ≡ i + body_count t = omega arith in
      rw (body_same spelling t, e, g) (simp (run_append, run_none, run_closed, closed_none))
  bodies_run (catch u x) (finally y) =
      let e : w + (body_length t + body_length x) ≡ w + body_length t + body_length x = omega arith in
      let g : i + (body_count t + body_count x) ≡ i + body_count t + body_count x = omega arith in
      rw (body_same spelling t, body_same spelling x, e, g) (simp (run_append, run_none, run_closed))

-- their branches
module _ (t : ActionsOf Text ℕ) (w home i : ℕ) (p : Position) where
  bodies_branches : (c : CatchOf Text ℕ) (f : FinallyOf Text ℕ) →
      branches (trace_body (map_body spelling t) (position w home i) ++ (trace_catch (map_catch spelling c) (moved (body_length t) (body_count (map_body spelling t)) (position w home i))
      ++ (trace_finally (map_finally spelling f) (moved (body_length t + catch_size (map_catch spelling c)) (body_count (map_body spelling t) + catch_count (map_catch spelling c)) (position w home i))
      ++ (body_test (body_length t) p ++ (body_test (catch_size (map_catch spelling c)) p ++ body_test (finally_size (map_finally spelling f)) p)))))
      ≡ branches (in_bodies (try_bodies t c f) (position w home i))
  unfolding trace_catch catch_size catch_count map_catch moved in_bodies
  bodies_branches no_catch no_finally = simp (branches_append, branches_none, branches_body, append-nil)
  bodies_branches (catch u x) no_finally = rw (body_same spelling t) (simp (branches_append, branches_none, branches_body, append-nil))
  bodies_branches no_catch (finally y) =
      let e : w + (body_length t + 0) ≡ w + body_length t = omega arith in
      let g : i + (body_count t + 0) ≡ i + body_count t = omega arith in
      rw (body_same spelling t, e, g) (simp (branches_append, branches_body, append-nil))
  bodies_branches (catch u x) (finally y) =
      let e : w + (body_length t + body_length x) ≡ w + body_length t + body_length x = omega arith in
      let g : i + (body_count t + body_count x) ≡ i + body_count t + body_count x = omega arith in
      rw (body_same spelling t, body_same spelling x, e, g) (simp (branches_append, branches_body, append-nil))

-- ---- a Try that was read

name_size : (u : CatchTargetOf Text) (x : ActionsOf Text ℕ) → name_length (map_catch spelling (catch u x)) ≡ target_size u
unfolding name_length map_catch map_target target_size string_size string_length
name_size (Variable s) x = refl
name_size (Register r) x = refl

-- m bytes stand for the name
module _ (t : ActionsOf Text ℕ) (c : CatchOf Text ℕ) (f : FinallyOf Text ℕ) (m pos w home number : ℕ) (is_name : name_length (map_catch spelling c) ≡ m) (is-size : w ≡ pos + 3 + (7 + m)) where
  body_at : pos + (10 + length (catch_name (map_catch spelling c))) ≡ w
  body_at = omega (arith, is_name, is-size, length-catch_name (map_catch spelling c))

  bodies_total : total body_length (try_bodies t c f) ≡ body_length t + catch_size (map_catch spelling c) + finally_size (map_finally spelling f)
  bodies_total = go c f
    where
      go : (c : CatchOf Text ℕ) (f : FinallyOf Text ℕ) → total body_length (t ∷ (catch_bodies c ++ finally_bodies f)) ≡ body_length t + catch_size (map_catch spelling c) + finally_size (map_finally spelling f)
      go no_catch no_finally = unfold total catch_size map_catch in omega arith
      go (catch u x) no_finally = unfold total catch_size map_catch in omega arith
      go no_catch (finally y) = unfold total catch_size map_catch in omega arith
      go (catch u x) (finally y) = unfold total catch_size map_catch in omega arith

  try_size : action_size (Try t c f) ≡ 3 + (7 + m) + total body_length (try_bodies t c f)
  unfolding size map_action
  try_size = omega (arith, is_name, length-catch_name (map_catch spelling c), bodies_total)

  moved_is : to_try (map_catch spelling c) (position pos home number) ≡ position w home (number + 1)
  moved_is = unfold moved in ap (λ (v : ℕ). position v home (number + 1)) body_at

  try_run : (tab : Tables) (over : Option Overflow)
      → run (action_trace (Try t c f) (position pos home number)) (state tab over) ≡ run (bodies_events number (try_bodies t c f) (position w home (number + 1))) (state tab (noted_if (overflow ActionLen (7 + m) number) over))
  unfolding trace map_action
  try_run tab over =
      let n : ℕ = length (catch_name (map_catch spelling c)) in
      let p : Position = position pos home number in
      let e : 7 + n ≡ 7 + m = omega (arith, is_name, length-catch_name (map_catch spelling c)) in
      run_append (payload_test (7 + n) p) _ (state tab over)
      ∙ ap (run _) (run_payload (7 + n) p tab over ∙ ap (λ (k : ℕ). state tab (noted_if (overflow ActionLen k number) over)) e)
      ∙ ap (λ (v : Position). run (trace_body (map_body spelling t) v ++ (trace_catch (map_catch spelling c) (moved (body_length t) (body_count (map_body spelling t)) v)
      ++ (trace_finally (map_finally spelling f) (moved (body_length t + catch_size (map_catch spelling c)) (body_count (map_body spelling t) + catch_count (map_catch spelling c)) v)
      ++ (body_test (body_length t) p ++ (body_test (catch_size (map_catch spelling c)) p ++ body_test (finally_size (map_finally spelling f)) p))))) (state tab (noted_if (overflow ActionLen (7 + m) number) over))) moved_is
      ∙ bodies_run t w home (number + 1) p (state tab (noted_if (overflow ActionLen (7 + m) number) over)) c f

  try_branches : branches (action_trace (Try t c f) (position pos home number)) ≡ branches (in_bodies (try_bodies t c f) (position w home (number + 1)))
  unfolding trace map_action
  try_branches =
      let n : ℕ = length (catch_name (map_catch spelling c)) in
      let p : Position = position pos home number in
      branches_after (7 + n) p _
      ∙ ap (λ (v : Position). branches (trace_body (map_body spelling t) v ++ (trace_catch (map_catch spelling c) (moved (body_length t) (body_count (map_body spelling t)) v)
      ++ (trace_finally (map_finally spelling f) (moved (body_length t + catch_size (map_catch spelling c)) (body_count (map_body spelling t) + catch_count (map_catch spelling c)) v)
      ++ (body_test (body_length t) p ++ (body_test (catch_size (map_catch spelling c)) p ++ body_test (finally_size (map_finally spelling f)) p)))))) moved_is
      ∙ bodies_branches t w home (number + 1) p c f

  try_count : number + count (Try t c f) ≡ number + 1 + total body_count (try_bodies t c f)
  unfolding count
  try_count = go c f
    where
      go : (c : CatchOf Text ℕ) (f : FinallyOf Text ℕ) → number + (1 + (body_count t + catch_count c + finally_count f)) ≡ number + 1 + total body_count (try_bodies t c f)
      go no_catch no_finally = unfold total catch_count in omega arith
      go (catch u x) no_finally = unfold total catch_count in omega arith
      go no_catch (finally y) = unfold total catch_count in omega arith
      go (catch u x) (finally y) = unfold total catch_count in omega arith

  try_long : pos + action_size (Try t c f) ≡ w + total body_length (try_bodies t c f)
  try_long = omega (arith, try_size, is-size)

  try_done : (tab : Tables) (over : Option Overflow) (r : Place) → outcome action_size count action_trace (position pos home number) (state tab over) (got (Try t c f) r)
      ≡ outcome (total body_length) (total body_count) (bodies_events number) (position w home (number + 1)) (state tab (noted_if (overflow ActionLen (7 + m) number) over)) (got (try_bodies t c f) r)
  unfolding outcome
  try_done tab over r = rw (try_long, try_count, try_run tab over)

  try_measured : (r : Place) → measured action_size count action_trace (position pos home number) (got (Try t c f) r)
      ≡ measured (total body_length) (total body_count) in_bodies (position w home (number + 1)) (got (try_bodies t c f) r)
  unfolding measured uncounted
  try_measured r = rw (try_long, try_count, try_branches)

-- ---- its bodies, read one after the other

abbrev bodies_in : Bool → Bool → ℕ
bodies_in true true = 3
bodies_in true false = 2
bodies_in false true = 2
bodies_in false false = 1

-- the shape says how many
bit_of_lem : (n : ℕ) → n < 2 → (t : Bool) → eqb n 1 ≡ t → n ≡ bit t
unfolding bit
bit_of_lem n h true e = eqb-true n 1 e
bit_of_lem n h false e =
    let z = eqb-false n 1 e in
    omega (arith, h, z)

bodies_bits : (c f : Bool) → bodies_in c f ≡ 1 + bit c + bit f
unfolding bit
bodies_bits true true = refl
bodies_bits true false = refl
bodies_bits false true = refl
bodies_bits false false = refl

bodies_is : (n : ℕ) → bodies_in (has_catch n) (has_finally n) ≡ bodies_after n
unfolding has_catch has_finally bodies_after
bodies_is n =
    let c = bit_of_lem (n % 2) (omega arith) (eqb (n % 2) 1) refl in
    let f = bit_of_lem (n / 2 % 2) (omega arith) (eqb (n / 2 % 2) 1) refl in
    omega (arith, bodies_bits (eqb (n % 2) 1) (eqb (n / 2 % 2) 1), c, f)

-- whatever is told of a whole Try and of its bodies alike, its name m bytes long; its bodies stand behind it
module _ {O : Type 0} (terms : Terms) (b : List ℕ) (inner : Reader (ActionsOf Text ℕ)) (target : CatchTargetOf Text) (m : ℕ) (whole : Read (ActionOf Text ℕ) → O) (parts : Read (List (ActionsOf Text ℕ)) → O)
    (try_alike : (t : ActionsOf Text ℕ) (c : CatchOf Text ℕ) (f : FinallyOf Text ℕ) → name_length (map_catch spelling c) ≡ m → (r : Place) → whole (got (Try t c f) r) ≡ parts (got (try_bodies t c f) r))
    (no_fault : (f : answers.Fault) (at n k : ℕ) → n ≡ 1 + k → whole (bad f (record { at = at; begun = n })) ≡ parts (bad f (record { at = at; begun = k }))) where
  abbrev after_try : Bool → Bool → ActionsOf Text ℕ → Reader (ActionOf Text ℕ)
  after_try c f t r =
      chain (more_begun (body_count t) (read_catch terms b (behind 1 inner) c target r))
      (λ x u. chain (more_begun (body_count t + catch_count x) (read_finally terms b (behind 1 inner) f u)) (λ y v. got (Try t x y) v))

  -- what is read of the bodies after the first
  abbrev after_first : ℕ → ActionsOf Text ℕ → Reader (List (ActionsOf Text ℕ))
  after_first n t r = chain (more_begun (body_count t) (in_turn inner n r)) (λ xs v. got (t ∷ xs) v)

  one : name_length (map_catch spelling no_catch) ≡ m → (t : ActionsOf Text ℕ) (r : Place) → whole (after_try false false t r) ≡ parts (after_first 0 t r)
  unfolding read_catch read_finally in_turn
  one h t r = try_alike t no_catch no_finally h r

  only_catch : ((x : ActionsOf Text ℕ) → name_length (map_catch spelling (catch target x)) ≡ m) → (t : ActionsOf Text ℕ) (y : Read (ActionsOf Text ℕ)) (r : Place) → inner r ≡ y
      → whole (after_try true false t r) ≡ parts (after_first 1 t r)
  unfolding read_catch read_finally in_turn
  only_catch h t (got x u) r e = rw e (try_alike t (catch target x) no_finally (h x) u)
  only_catch h t (bad f u) r e = rw e (no_fault f u.at _ _ (omega arith))

  only_finally : name_length (map_catch spelling no_catch) ≡ m → (t : ActionsOf Text ℕ) (y : Read (ActionsOf Text ℕ)) (r : Place) → inner r ≡ y
      → whole (after_try false true t r) ≡ parts (after_first 1 t r)
  unfolding read_catch read_finally in_turn catch_count
  only_finally h t (got x u) r e = rw e (try_alike t no_catch (finally x) h u)
  only_finally h t (bad f u) r e = rw e (no_fault f u.at _ _ (omega arith))

  both : ((x : ActionsOf Text ℕ) → name_length (map_catch spelling (catch target x)) ≡ m) → (t : ActionsOf Text ℕ) (y : Read (ActionsOf Text ℕ)) (r : Place) → inner r ≡ y
      → whole (after_try true true t r) ≡ parts (after_first 2 t r)
  unfolding read_catch read_finally in_turn catch_count
  both h t (got x u) r e = rw e (last (inner u) refl)
    where
      last : (z : Read (ActionsOf Text ℕ)) → inner u ≡ z
          → whole (chain (more_begun (body_count t + body_count x) (chain (more_begun 1 (inner u)) (λ y v. got (finally y) v))) (λ y v. got (Try t (catch target x) y) v))
          ≡ parts (chain (more_begun (body_count t) (chain (more_begun (body_count x) (chain (inner u) (λ z v. chain (more_begun (body_count z) (got [] v)) (λ xs o. got (z ∷ xs) o)))) (λ xs v. got (x ∷ xs) v))) (λ xs v. got (t ∷ xs) v))
      last (got z v) g = rw g (try_alike t (catch target x) (finally z) (h x) v)
      last (bad f v) g = rw g (no_fault f v.at _ _ (omega arith))
  both h t (bad f u) r e = rw e (no_fault f u.at _ _ (omega arith))

  -- the first body, and those after it
  from_first : (c f : Bool) (n : ℕ) (q : Place) → ((t : ActionsOf Text ℕ) (r : Place) → whole (after_try c f t r) ≡ parts (after_first n t r)) → (y : Read (ActionsOf Text ℕ))
      → whole (chain (more_begun 1 y) (λ t r. after_try c f t r)) ≡ parts (chain y (λ t r. after_first n t r))
  from_first c f n q h (got t r) = h t r
  from_first c f n q h (bad g r) = no_fault g r.at _ _ refl

  try_bodies_lem : (c f : Bool) (q : Place) → (c ≡ true → (x : ActionsOf Text ℕ) → name_length (map_catch spelling (catch target x)) ≡ m) → (c ≡ false → name_length (map_catch spelling no_catch) ≡ m)
      → whole (chain (more_begun 1 (inner q)) (λ t r. after_try c f t r)) ≡ parts (in_turn inner (bodies_in c f) q)
  try_bodies_lem true true q h k = unfold in_turn in from_first true true 2 q (λ t r. both (h refl) t (inner r) r refl) (inner q)
  try_bodies_lem true false q h k = unfold in_turn in from_first true false 1 q (λ t r. only_catch (h refl) t (inner r) r refl) (inner q)
  try_bodies_lem false true q h k = unfold in_turn in from_first false true 1 q (λ t r. only_finally (k refl) t (inner r) r refl) (inner q)
  try_bodies_lem false false q h k = unfold in_turn in from_first false false 0 q (λ t r. one (k refl) t r) (inner q)

-- ---- what the payload says

-- a Try's shape and target are fields
caught_fields : (terms : Terms) (b : List ℕ) → OfFields (read_caught terms b)
unfolding read_caught
caught_fields terms b p =
    fields_next (tested_fields is_shape (read_u8 b) (u8_fields b) p) (λ n q. fields_next (target_fields terms b (has_catch n) (has_register n) q) (λ t r. Fields.read {a = (n, t)} {q = r} (omega arith)))

module _ (terms : Terms) (b : List ℕ) (small : Bytes b) (short : WordsShort terms) where
  -- the byte that was read
  byte_read : (p : Place) → p.at ≤ length b → Good (length b) (λ n q. (n ≡ get_or b p.at 0) × (q.at ≡ p.at + 1)) (read_u8 b p)
  unfolding read_u8 if_whole
  byte_read p l = go (leb (p.at + 1) (length b)) refl
    where
      go : (t : Bool) → leb (p.at + 1) (length b) ≡ t → Good (length b) (λ n q. (n ≡ get_or b p.at 0) × (q.at ≡ p.at + 1)) (if_whole t p (get_or b p.at 0) (ahead 1 p))
      go true h = unfold if_whole in fine {p = ahead 1 p} (refl, refl) (leb-true (p.at + 1) (length b) h)
      go false h = unfold if_whole in refused l

  -- without a catch one zero byte stands for the name
  one_byte : (c r : Bool) (p : Place) → p.at ≤ length b → Good (length b) (λ t q. (c ≡ false → target_size t ≡ 1) × (target_size t + 65536 * p.at ≤ 65536 * q.at + 2) × (p.at ≤ q.at)) (read_catch_target terms b c r p)
  unfolding read_catch_target target_size string_size string_length spelling
  one_byte true true p l = good_then (u8_good b small p l) (λ n q h m. fine ((λ e. absurd (false≢true (sym e))), omega (arith, h.1), omega (arith, h.1)) m)
  one_byte true false p l = good_then (text_most terms b small short p l) (λ s q h m. fine ((λ e. absurd (false≢true (sym e))), omega (arith, h.0), h.1) m)
  one_byte false r p l = fine {a = Variable (plain [])} {p = p} ((λ e. refl), omega arith, omega arith) l

  pub caught_good : (p : Place) → p.at ≤ length b
      → Good (length b) (λ x q. (x.0 ≡ get_or b p.at 0) × (has_catch x.0 ≡ false → target_size x.1 ≡ 1) × (target_size x.1 + 65536 * p.at ≤ 65536 * q.at) × (p.at ≤ q.at)) (read_caught terms b p)
  unfolding read_caught
  caught_good p l =
      good_then (tested_good b small is_shape (read_u8 b) p l (byte_read p l))
      (λ n q h m. good_then (one_byte (has_catch n) (has_register n) q m) (λ t r k o. fine {a = (n, t)} {p = r} (h.0.0, k.0, omega (arith, h.0.1, k.1), omega (arith, h.0.1, k.2)) o))

-- a Try's fields are its shape, its target and its bodies
abbrev try_rest : Terms → List ℕ → Reader (ActionsOf Text ℕ) → ℕ × CatchTargetOf Text → Reader (ActionOf Text ℕ)
try_rest terms b inner x q =
    chain (inner q) (λ t r. chain (more_begun (body_count t) (read_catch terms b inner (has_catch x.0) x.1 r))
    (λ c u. chain (more_begun (body_count t + catch_count c) (read_finally terms b inner (has_finally x.0) u)) (λ f v. got (Try t c f) v)))

try_fields : (terms : Terms) (b : List ℕ) (inner : Reader (ActionsOf Text ℕ)) (p : Place) → read_fields terms b inner OpCode.Try p ≡ chain (read_caught terms b p) (try_rest terms b inner)
unfolding read_fields read_caught read_try
try_fields terms b inner p = go (tested is_shape (read_u8 b) p)
  where
    rest : (n : ℕ) (y : Read (CatchTargetOf Text)) → chain y (λ t q. try_rest terms b inner (n, t) q) ≡ chain (chain {B = ℕ × CatchTargetOf Text} y (λ t q. got (n, t) q)) (try_rest terms b inner)
    rest n (got t q) = refl
    rest n (bad f q) = refl

    go : (y : Read ℕ) → chain y (λ n q. chain (read_catch_target terms b (has_catch n) (has_register n) q) (λ t q. try_rest terms b inner (n, t) q))
        ≡ chain (chain {B = ℕ × CatchTargetOf Text} y (λ n q. chain (read_catch_target terms b (has_catch n) (has_register n) q) (λ t q. got (n, t) q))) (try_rest terms b inner)
    go (got n q) = rest n (read_catch_target terms b (has_catch n) (has_register n) q)
    go (bad f q) = refl

after_some : (n : ℕ) → 1 ≤ bodies_after n
unfolding bodies_after
after_some n = omega arith

-- a Try whose shape and target were read is told of as its bodies are
module _ (terms : Terms) (b : List ℕ) (p pos home number : ℕ) (x : ℕ × CatchTargetOf Text) (q : Place) (is_read : read_caught terms b (placed p) ≡ got x q) (inner : Reader (ActionsOf Text ℕ)) (one_byte : has_catch x.0 ≡ false → 1 ≡ target_size x.1) where
  abbrev named : ℕ
  named = target_size x.1

  alike : {O : Type 0} (whole : Read (ActionOf Text ℕ) → O) (parts : Read (List (ActionsOf Text ℕ)) → O)
      → ((t : ActionsOf Text ℕ) (c : CatchOf Text ℕ) (f : FinallyOf Text ℕ) → name_length (map_catch spelling c) ≡ named → (r : Place) → whole (got (Try t c f) r) ≡ parts (got (try_bodies t c f) r))
      → ((f : answers.Fault) (at n k : ℕ) → n ≡ 1 + k → whole (bad f (record { at = at; begun = n })) ≡ parts (bad f (record { at = at; begun = k })))
      → whole (read_fields terms b (behind 1 inner) OpCode.Try (placed p)) ≡ parts (in_turn inner (bodies_in (has_catch x.0) (has_finally x.0)) q)
  alike whole parts h k =
      rw (try_fields terms b (behind 1 inner) (placed p), is_read) (try_bodies_lem terms b inner x.1 named whole parts h k (has_catch x.0) (has_finally x.0) q (λ c y. name_size x.1 y) (λ c. no_name ∙ one_byte c))
    where
      no_name : name_length (map_catch spelling no_catch) ≡ 1
      no_name = unfold name_length map_catch in refl

  try_outcome : (over : Option Overflow) (tab : Tables)
      → outcome action_size count action_trace (position pos home number) (state tab over) (read_fields terms b (behind 1 inner) OpCode.Try (placed p))
      ≡ outcome (total body_length) (total body_count) (bodies_events number) (position (pos + 3 + (7 + named)) home (number + 1)) (state tab (noted_if (overflow ActionLen (7 + named) number) over)) (in_turn inner (bodies_in (has_catch x.0) (has_finally x.0)) q)
  try_outcome over tab =
      alike (outcome action_size count action_trace (position pos home number) (state tab over))
      (outcome (total body_length) (total body_count) (bodies_events number) (position (pos + 3 + (7 + named)) home (number + 1)) (state tab (noted_if (overflow ActionLen (7 + named) number) over)))
      (λ t c f h r. try_done t c f named pos (pos + 3 + (7 + named)) home number h refl tab over r) (λ f i n k e. unfold outcome in ap (fault (fault_of f) i) (omega (arith, e)))

  pub try_measure : measured action_size count action_trace (position pos home number) (read_fields terms b (behind 1 inner) OpCode.Try (placed p))
      ≡ measured (total body_length) (total body_count) in_bodies (position (pos + 3 + (7 + named)) home (number + 1)) (in_turn inner (bodies_in (has_catch x.0) (has_finally x.0)) q)
  try_measure =
      alike (measured action_size count action_trace (position pos home number))
      (measured (total body_length) (total body_count) in_bodies (position (pos + 3 + (7 + named)) home (number + 1)))
      (λ t c f h r. try_measured t c f named pos (pos + 3 + (7 + named)) home number h refl r) (λ f i n k e. unfold measured uncounted in refl)

module _ (terms : Terms) (b : List ℕ) (small : Bytes b) (short : WordsShort terms) (at p pos number : ℕ) (is_next : p ≡ at + 1) (inside : p ≤ length b) (over over' : Option Overflow) (l : Result Laid code.Stop) where
  onward : (x : ℕ × CatchTargetOf Text) (q : Place) → (x.0 ≡ get_or b p 0) × (has_catch x.0 ≡ false → target_size x.1 ≡ 1) × (target_size x.1 + 65536 * p ≤ 65536 * q.at) × (p ≤ q.at) → q.at ≤ length b
      → Onward at (length b) pos q.at (pos + 3 + caught_size x)
  unfolding caught_size
  onward x q g o = record { beyond = omega (arith, is_next, g.3); within = o; written = omega (arith, is_next, g.2, g.3) }

  lay_caught : (x : ℕ × CatchTargetOf Text) (q : Place) → read_caught terms b (placed p) ≡ got x q
      → (x.0 ≡ get_or b p 0) × (has_catch x.0 ≡ false → target_size x.1 ≡ 1) × (target_size x.1 + 65536 * p ≤ 65536 * q.at) × (p ≤ q.at) → q.at ≤ length b
      → Laying terms.label_bound (λ inner. read_fields terms b inner OpCode.Try (placed p)) at (length b) pos number over (noted_from (pos + 3) number (scanned caught_size (pos + 3) (got x q)) over)
      (laid_by (λ end. laid.Bodies end (bodies_after (get_or b p 0))) (scanned caught_size (pos + 3) (got x q)))
  unfolding scanned caught_size
  lay_caught x q e g o =
      let k : bodies_in (has_catch x.0) (has_finally x.0) ≡ bodies_after (get_or b p 0) = bodies_is x.0 ∙ ap bodies_after g.0 in
      let m : 7 + target_size x.1 ≡ pos + 3 + (7 + target_size x.1) - (pos + 3) = omega arith in
      Laying.bodies {after = record { at = q.at; pos = record { 0 = pos + 3 + caught_size x } }} {n = bodies_after (get_or b p 0)} (after_some (get_or b p 0)) (record {
        onward = onward x q g o;
        runs = λ inner tab home. try_outcome terms b p pos home number x q e inner (λ c. sym (g.1 c)) over tab
            ∙ ap₂ (λ (i j : ℕ). outcome (total body_length) (total body_count) (bodies_events number) (position (pos + 3 + caught_size x) home (number + 1)) (state tab (noted_if (overflow ActionLen i number) over)) (in_turn inner j q)) m k;
        measures = λ inner home. try_measure terms b p pos home number x q e inner (λ c. sym (g.1 c))
            ∙ ap (λ (j : ℕ). measured (total body_length) (total body_count) in_bodies (position (pos + 3 + caught_size x) home (number + 1)) (in_turn inner j q)) k;
      })

  lay_uncaught : (f : answers.Fault) (q : ℕ) → read_caught terms b (placed p) ≡ bad f (stop (placed q))
      → Laying terms.label_bound (λ inner. read_fields terms b inner OpCode.Try (placed p)) at (length b) pos number over (noted_from (pos + 3) number (scanned caught_size (pos + 3) (bad f (stop (placed q)))) over)
      (laid_by (λ end. laid.Bodies end (bodies_after (get_or b p 0))) (scanned caught_size (pos + 3) (bad f (stop (placed q)))))
  unfolding scanned outcome
  lay_uncaught f q e = Laying.stops {s = record { fault = fault_of f; place = q }} (λ inner t home. rw (try_fields terms b inner (placed p), e, add-zero number))

  pub lay_try : Tried (scanned caught_size (pos + 3) (read_caught terms b (placed p))) (bodies_after (get_or b p 0)) (pos + 3) number l over over'
      → Laying terms.label_bound (λ inner. read_fields terms b inner OpCode.Try (placed p)) at (length b) pos number over over' l
  lay_try h = rw (h.is_laid, h.is_noted) (go (caught_fields terms b (placed p)) refl)
    where
      go : {x : Read (ℕ × CatchTargetOf Text)} → Fields (placed p) x → read_caught terms b (placed p) ≡ x
          → Laying terms.label_bound (λ inner. read_fields terms b inner OpCode.Try (placed p)) at (length b) pos number over (noted_from (pos + 3) number (scanned caught_size (pos + 3) x) over) (laid_by (λ end. laid.Bodies end (bodies_after (get_or b p 0))) (scanned caught_size (pos + 3) x))
      go (Fields.read {a = x} {q = q} i) e =
          let g = good_got x q (caught_good terms b small short (placed p) inside) e in
          lay_caught x q e g.0 g.1
      go (Fields.met {f = f} {n = q} i) e = lay_uncaught f q e
