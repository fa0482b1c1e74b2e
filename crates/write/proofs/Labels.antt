-- On its labels alone the bytes of a tree depend. Assumes nothing.
use mathlib.Core.Path.{◌≡◌, refl, ap, ap₂}
use Prim.Native.Nat.{ℕ, ◌+◌, ◌<◌}
use mathlib.Core.List.{List, ◌++◌}
use lib.ListN.{length}
use Rattle.layout.specs.Numbers.{le16}
use Rattle.layout.specs.OpCode.{OpCode}
use Rattle.layout.specs.Tree.{Action, flat, branch, owner, Try, ActionList, empty, more, Actions, body, Catch, no_catch, catch, Finally, no_finally, finally}
use Rattle.layout.specs.Payload.{owner_op_code, owner_fields, owner_payload, branch_op_code, catch_shape, finally_shape, catch_name, try_payload, framed}
use Rattle.layout.specs.Write.{bytes, actions_bytes, body_bytes, catch_bytes, finally_bytes, size, body_size, catch_size, finally_size}
use Rattle.pcode.proofs.Trees.{Under, UnderActions, UnderBody, UnderCatch, UnderFinally}

-- Two ways to find a branch's bits that agree on the labels under the bound give the same bytes.
module _ (f g : ℕ → ℕ → ℕ) (n : ℕ) (same : (l after : ℕ) → l < n → f l after ≡ g l after) where
  mutual
    unfolding bytes

    -- For an action.
    agree : (a : Action) (p : ℕ) → Under n a → bytes f a p ≡ bytes g a p
    agree (flat x) p h = refl
    agree (branch k l) p h = ap (λ (m : ℕ). framed (branch_op_code k) (le16 m)) (same l (p + 5) h)
    agree (owner o b) p h =
        ap (λ (s : List ℕ). framed (owner_op_code o) (owner_payload o (body_size b)) ++ s) (agree_body b (p + (5 + length (owner_fields o))) h)
    agree (Try b c z) p h =
        let q : ℕ = p + (10 + length (catch_name c)) in
        ap (λ (s : List ℕ). framed OpCode.Try (try_payload (catch_shape c + finally_shape z) (body_size b) (catch_size c) (finally_size z) (catch_name c)) ++ s)
        (ap₂ (λ (s t : List ℕ). s ++ t) (agree_body b q h.0)
        (ap₂ (λ (s t : List ℕ). s ++ t) (agree_catch c (q + body_size b) h.1) (agree_finally z (q + (body_size b + catch_size c)) h.2)))

    -- For several actions.
    agree_actions : (xs : ActionList) (p : ℕ) → UnderActions n xs → actions_bytes f xs p ≡ actions_bytes g xs p
    agree_actions empty p h = refl
    agree_actions (more a xs) p h = ap₂ (λ (s t : List ℕ). s ++ t) (agree a p h.0) (agree_actions xs (p + size a) h.1)

    -- For a body.
    pub agree_body : (b : Actions) (p : ℕ) → UnderBody n b → body_bytes f b p ≡ body_bytes g b p
    agree_body (body es xs) p h = agree_actions xs p h

    -- For a catch.
    agree_catch : (c : Catch) (p : ℕ) → UnderCatch n c → catch_bytes f c p ≡ catch_bytes g c p
    agree_catch no_catch p h = refl
    agree_catch (catch t b) p h = agree_body b p h

    -- For a finally.
    agree_finally : (z : Finally) (p : ℕ) → UnderFinally n z → finally_bytes f z p ≡ finally_bytes g z p
    agree_finally no_finally p h = refl
    agree_finally (finally b) p h = agree_body b p h
