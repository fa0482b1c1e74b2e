-- The labels of a tree that was read are under the bound. Assumes nothing.
use mathlib.Core.Path.{◌≡◌, refl}
use Prim.Native.Nat.{ℕ, zero, suc, ◌+◌, ◌<◌}
use mathlib.Core.Bool.{Bool, true, false, ◌&&◌}
use mathlib.Core.Option.{Option, none, some}
use mathlib.Core.List.{List}
use lib.ListN.{length}
use lib.Dec.{ltb, leb, eqb}
use borrow.Author.Tests.{ltb-true}
use Rattle.layout.specs.OpCode.{OpCode, opcode_of}
use Rattle.layout.specs.Tree.{Action, ActionOf, flat, branch, owner, Try, ActionList, empty, more, Actions, ActionsOf, body, Catch, CatchTargetOf, no_catch, catch, Finally, no_finally, finally, count, body_count, catch_count}
use Rattle.layout.specs.Read.{Text, Terms, deepest, Place, placed, Read, got, Reader, behind, if_nothing_left, is_shape, has_catch, has_finally, has_register, tested, read_u8, read_u16, read_flag, read_counted, read_string, read_value, read_param, read_label, read_entries, read_catch_target, read_catch, read_finally, read_try, read_fields, read_fields_if, read_action, read_actions, read_body_with, read_body, read_main}
use Rattle.layout.specs.Strings.{map_action, map_actions, map_body, map_catch, map_finally}
use Rattle.layout.specs.Pack.{spelling}
use Rattle.pcode.proofs.Readings.{Gives, gives, refuses, given, Exactly, exactly, also_behind, then, itself, u16, passed}

-- ---- labels under a bound

abbrev mutual
  -- Every branch of an action is to a label under the bound.
  pub Under : ℕ → Action → Type 0
  Under n (flat f) = Unit {0}
  Under n (branch k l) = l < n
  Under n (owner o b) = UnderBody n b
  Under n (Try b c f) = UnderBody n b × UnderCatch n c × UnderFinally n f

  -- Every branch of several actions is.
  pub UnderActions : ℕ → ActionList → Type 0
  UnderActions n empty = Unit {0}
  UnderActions n (more a xs) = Under n a × UnderActions n xs

  -- Every branch of a body is.
  pub UnderBody : ℕ → Actions → Type 0
  UnderBody n (body es xs) = UnderActions n xs

  -- Every branch of a catch is.
  pub UnderCatch : ℕ → Catch → Type 0
  UnderCatch n no_catch = Unit {0}
  UnderCatch n (catch t b) = UnderBody n b

  -- Every branch of a finally is.
  pub UnderFinally : ℕ → Finally → Type 0
  UnderFinally n no_finally = Unit {0}
  UnderFinally n (finally b) = UnderBody n b

-- ---- what was read

-- The first of two tests that pass.
and_left : (s t : Bool) → (s && t) ≡ true → s ≡ true
and_left true t e = refl
and_left false t e = e

module _ (terms : Terms) (b : List ℕ) where
  -- A label that was read is under the bound.
  label_under : (p : Place) → Gives (λ l q. l < terms.label_bound) (read_label terms b 0 p)
  unfolding read_label
  label_under p = go (passed b p.at (λ l. ltb l terms.label_bound && leb 0 l) (read_u16 b) (u16 b p.at))
    where
      go : {m : Read ℕ} {X : Type 0} {x : ℕ} {q : Place} → Gives (Exactly (X × ((ltb x terms.label_bound && leb 0 x) ≡ true)) x q) m → Gives (λ l r. l < terms.label_bound) m
      go (gives (exactly h)) = gives (ltb-true _ _ (and_left _ _ h.1))
      go refuses = refuses

  -- The labels of a body that was read are.
  abbrev pub BodyUnder : Reader (ActionsOf Text ℕ) → Type 0
  BodyUnder r = (p : Place) → Gives (λ x q. UnderBody terms.label_bound (map_body spelling x)) (r p)

  module _ (inner : Reader (ActionsOf Text ℕ)) (inner-under : BodyUnder inner) where
    -- Those of a catch.
    catch_under : (t : Bool) (x : CatchTargetOf Text) (p : Place) → Gives (λ c q. UnderCatch terms.label_bound (map_catch spelling c)) (read_catch terms b inner t x p)
    unfolding read_catch map_catch
    catch_under true x p = then (inner-under p) (λ a q h. gives h)
    catch_under false x p = gives tt

    -- Those of a finally.
    finally_under : (t : Bool) (p : Place) → Gives (λ f q. UnderFinally terms.label_bound (map_finally spelling f)) (read_finally terms b inner t p)
    unfolding read_finally map_finally
    finally_under true p = then (inner-under p) (λ a q h. gives h)
    finally_under false p = gives tt

    -- The labels of an action that was read are.
    abbrev ActionUnder : ActionOf Text ℕ → Place → Type 0
    ActionUnder a q = Under terms.label_bound (map_action spelling a)

    -- Those of a Try.
    try_under : (shape : ℕ) (p : Place) → Gives ActionUnder (read_try terms b inner shape p)
    unfolding read_try map_action
    try_under shape p =
        then (itself (read_catch_target terms b (has_catch shape) (has_register shape) p)) (λ t r e. then (inner-under r) (λ x s h. then (also_behind (body_count x) (catch_under (has_catch shape) t s))
        (λ c u i. then (also_behind (body_count x + catch_count c) (finally_under (has_finally shape) u)) (λ f v j. gives (h, i, j)))))

    -- Those of any opcode's action.
    fields_under : (op : OpCode) (p : Place) → Gives ActionUnder (read_fields terms b inner op p)
    unfolding read_fields map_action
    fields_under (OpCode.Small op) p = gives tt
    fields_under OpCode.GotoFrame p = then (itself (read_u16 b p)) (λ x q e. gives tt)
    fields_under OpCode.GetUrl p = then (itself (read_string terms b p)) (λ x q e. then (itself (read_string terms b q)) (λ y r f. gives tt))
    fields_under OpCode.StoreRegister p = then (itself (read_u8 b p)) (λ x q e. gives tt)
    fields_under OpCode.ConstantPool p = then (itself (read_counted b (read_string terms b) p)) (λ x q e. gives tt)
    fields_under OpCode.WaitForFrame p = then (itself (read_u16 b p)) (λ x q e. then (itself (read_u8 b q)) (λ y r f. gives tt))
    fields_under OpCode.SetTarget p = then (itself (read_string terms b p)) (λ x q e. gives tt)
    fields_under OpCode.GotoLabel p = then (itself (read_string terms b p)) (λ x q e. gives tt)
    fields_under OpCode.WaitForFrame2 p = then (itself (read_u8 b p)) (λ x q e. gives tt)
    fields_under OpCode.DefineFunction2 p =
        then (itself (read_string terms b p)) (λ x q e. then (itself (read_counted b (read_param terms b) q)) (λ y r f. then (itself (read_u8 b r))
        (λ z s g. then (itself (tested (λ flags. ltb flags 512) (read_u16 b) s)) (λ w u i. then (inner-under u) (λ a v h. gives h)))))
    fields_under OpCode.Try p = then (itself (tested is_shape (read_u8 b) p)) (λ shape q e. try_under shape q)
    fields_under OpCode.With p = then (inner-under p) (λ a q h. gives h)
    fields_under OpCode.Push p = then (itself (read_counted b (read_value terms b) p)) (λ x q e. gives tt)
    fields_under OpCode.Jump p = then (label_under p) (λ l q h. gives h)
    fields_under OpCode.GetUrl2 p = then (itself (read_flag b p)) (λ x q e. then (itself (read_flag b q)) (λ y r f. then (itself (read_u8 b r)) (λ z s g. gives tt)))
    fields_under OpCode.DefineFunction p =
        then (itself (read_string terms b p)) (λ x q e. then (itself (read_counted b (read_string terms b) q)) (λ y r f. then (inner-under r) (λ a v h. gives h)))
    fields_under OpCode.If p = then (label_under p) (λ l q h. gives h)
    fields_under OpCode.GotoFrame2 p = then (itself (read_u16 b p)) (λ x q e. then (itself (read_flag b q)) (λ y r f. gives tt))

    -- Those of a listed opcode's action.
    fields_if : (o : Option OpCode) (i p : Place) → Gives ActionUnder (read_fields_if terms b inner o i p)
    unfolding read_fields_if
    fields_if (some op) i p = fields_under op p
    fields_if none i p = refuses

    -- Those of an action.
    action_under : (p : Place) → Gives ActionUnder (read_action terms b inner p)
    unfolding read_action
    action_under p = then (itself (read_u8 b p)) (λ n q e. fields_if (opcode_of n) p q)

    -- Those of several actions.
    actions_under : (n : ℕ) (p : Place) → Gives (λ xs q. UnderActions terms.label_bound (map_actions spelling xs)) (read_actions terms b inner n p)
    unfolding read_actions map_actions
    actions_under zero p = gives tt
    actions_under (suc n) p = then (action_under p) (λ a q h. then (also_behind (count a) (actions_under n q)) (λ xs r i. gives (h, i)))

    -- Those of a body whose inner bodies are read so.
    with_under : BodyUnder (read_body_with terms b inner)
    unfolding read_body_with map_body
    with_under p =
        then (itself (read_u16 b p)) (λ m q e. then (itself (read_entries terms b m 0 q)) (λ es r f. then (itself (read_u16 b r)) (λ n s g. then (actions_under n s) (λ xs u h. gives h))))

  -- Those of a body with any number of levels.
  pub body_under : (depth : ℕ) → BodyUnder (read_body terms b depth)
  unfolding read_body
  body_under zero p = refuses
  body_under (suc d) p = with_under (behind 1 (read_body terms b d)) (λ q. also_behind 1 (body_under d q)) p

-- ---- the main body

-- A main body that reads whole is read as a body, with nothing left.
pub main_body : (terms : Terms) (b : List ℕ) (x : ActionsOf Text ℕ) (q : Place) → read_main terms b deepest ≡ got x q → read_body terms b deepest (placed 0) ≡ got x q
unfolding read_main
main_body terms b x q e = given {P = λ y r. read_body terms b deepest (placed 0) ≡ got y r} (then (itself (read_body terms b deepest (placed 0))) (λ y r f. also_behind (body_count y) (left (eqb r.at (length b)) y r f))) e
  where
    left : (t : Bool) (y : ActionsOf Text ℕ) (r : Place) → read_body terms b deepest (placed 0) ≡ got y r → Gives (λ z s. read_body terms b deepest (placed 0) ≡ got z s) (if_nothing_left t y r)
    left true y r f = unfold if_nothing_left in gives f
    left false y r f = unfold if_nothing_left in refuses
