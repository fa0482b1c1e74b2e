-- The strings of a tree, front to back, and the entries of a book that a sheet names. Assumes nothing.
use Rattle.std.specs.Prelude.{◌≡◌}
use Rattle.std.proofs.Math.Path.{refl, ap, ap₂}
use Rattle.std.proofs.Common.{sym, ◌∙◌}
use mathlib.Core.List.{List, [], ◌∷◌, ◌++◌}
use Rattle.layout.specs.Lists.{All, each}
use Rattle.layout.proofs.Lists.{all_left, all_right}
use Rattle.layout.specs.Tree.{PushValueOf, String, Null, Undefined, Register, Boolean, Float, Integer, Constant, FunctionParamOf, function_param, FlatOf, Small, GotoFrame, GetUrl, StoreRegister, ConstantPool, WaitForFrame, SetTarget, GotoLabel, WaitForFrame2, Push, GetUrl2, GotoFrame2, OwnerOf, With, DefineFunction, DefineFunction2, CatchTargetOf, Variable, ActionOf, flat, branch, owner, Try, ActionListOf, empty, more, ActionsOf, body, CatchOf, no_catch, catch, FinallyOf, no_finally, finally}
use Rattle.layout.specs.Strings.{map_value, map_param, map_flat, map_owner, map_target, map_action, map_actions, map_body, map_catch, map_finally}
use Rattle.named_words.specs.Named.{in_action, in_actions, in_body, in_catch, in_finally, in_flat, in_name, in_owner, in_param, in_target, in_value, joined}

-- what holds of each string of a Try holds of those of the catch's name and of the bodies
pub all_try : {S L : Type 0} (P : S → Type 0) (b : ActionsOf S L) (c : CatchOf S L) (f : FinallyOf S L) → All P (in_action (Try b c f))
    → All P (in_name c) × All P (in_body b) × All P (in_catch c) × All P (in_finally f)
unfolding in_action
all_try P b c f h =
    let u : All P (in_body b ++ (in_catch c ++ in_finally f)) = all_right P (in_name c) (in_body b ++ (in_catch c ++ in_finally f)) h in
    let v : All P (in_catch c ++ in_finally f) = all_right P (in_body b) (in_catch c ++ in_finally f) u in
    (all_left P (in_name c) (in_body b ++ (in_catch c ++ in_finally f)) h, all_left P (in_body b) (in_catch c ++ in_finally f) u, all_left P (in_catch c) (in_finally f) v, all_right P (in_catch c) (in_finally f) v)

-- ---- where two maps agree on the strings of a tree, they make one tree of it

module _ {S T : Type 0} (v w : S → T) where
  -- they agree on each of these strings
  abbrev pub Same : List S → Type 0
  Same l = All (λ s. v s ≡ w s) l

  same_each : (l : List S) → Same l → each v l ≡ each w l
  unfolding each
  same_each [] h = refl
  same_each (s ∷ l) h = ap₂ ◌∷◌ h.0 (same_each l h.1)

  same_joined : {A B : Type 0} (f g : A → B) (i : A → List S) → ((x : A) → Same (i x) → f x ≡ g x) → (xs : List A) → Same (joined i xs) → each f xs ≡ each g xs
  unfolding joined each
  same_joined f g i k [] h = refl
  same_joined f g i k (x ∷ xs) h = ap₂ ◌∷◌ (k x (all_left _ (i x) (joined i xs) h)) (same_joined f g i k xs (all_right _ (i x) (joined i xs) h))

  same_value : (x : PushValueOf S) → Same (in_value x) → map_value v x ≡ map_value w x
  unfolding map_value in_value
  same_value (String s) h = ap String h.0
  same_value Null h = refl
  same_value Undefined h = refl
  same_value (Register r) h = refl
  same_value (Boolean t) h = refl
  same_value (Float n) h = refl
  same_value (Integer n) h = refl
  same_value (Constant i) h = refl

  same_param : (x : FunctionParamOf S) → Same (in_param x) → map_param v x ≡ map_param w x
  unfolding map_param in_param
  same_param (function_param r s) h = ap (function_param r) h.0

  same_flat : (f : FlatOf S) → Same (in_flat f) → map_flat v f ≡ map_flat w f
  unfolding map_flat in_flat
  same_flat (Small op) h = refl
  same_flat (GotoFrame n) h = refl
  same_flat (GetUrl u t) h = ap₂ GetUrl h.0 h.1.0
  same_flat (StoreRegister r) h = refl
  same_flat (ConstantPool ss) h = ap ConstantPool (same_each ss h)
  same_flat (WaitForFrame n k) h = refl
  same_flat (SetTarget s) h = ap SetTarget h.0
  same_flat (GotoLabel s) h = ap GotoLabel h.0
  same_flat (WaitForFrame2 k) h = refl
  same_flat (Push vs) h = ap Push (same_joined (map_value v) (map_value w) in_value same_value vs h)
  same_flat (GetUrl2 a t m) h = refl
  same_flat (GotoFrame2 n p) h = refl

  same_owner : (o : OwnerOf S) → Same (in_owner o) → map_owner v o ≡ map_owner w o
  unfolding map_owner in_owner
  same_owner With h = refl
  same_owner (DefineFunction s ps) h = ap₂ DefineFunction h.0 (same_each ps h.1)
  same_owner (DefineFunction2 s ps r f) h = ap₂ (λ x xs. DefineFunction2 x xs r f) h.0 (same_joined (map_param v) (map_param w) in_param same_param ps h.1)

  same_target : (t : CatchTargetOf S) → Same (in_target t) → map_target v t ≡ map_target w t
  unfolding map_target in_target
  same_target (Variable s) h = ap Variable h.0
  same_target (Register r) h = refl

  module _ {L : Type 0} where
    mutual
      unfolding map_action in_action in_name

      same_action : (a : ActionOf S L) → Same (in_action a) → map_action v a ≡ map_action w a
      same_action (flat f) h = ap flat (same_flat f h)
      same_action (branch k l) h = refl
      same_action (owner o b) h = ap₂ owner (same_owner o (all_left _ (in_owner o) (in_body b) h)) (same_body b (all_right _ (in_owner o) (in_body b) h))
      same_action (Try b c f) h =
          let u = all_try _ b c f h in
          ap₂ (λ x (y : CatchOf T L × FinallyOf T L). Try x y.0 y.1) (same_body b u.1) (ap₂ (λ x y. (x, y)) (same_catch c u.0 u.2) (same_finally f u.3))

      same_actions : (xs : ActionListOf S L) → Same (in_actions xs) → map_actions v xs ≡ map_actions w xs
      same_actions empty h = refl
      same_actions (more a xs) h = ap₂ more (same_action a (all_left _ (in_action a) (in_actions xs) h)) (same_actions xs (all_right _ (in_action a) (in_actions xs) h))

      pub same_body : (b : ActionsOf S L) → Same (in_body b) → map_body v b ≡ map_body w b
      same_body (body es xs) h = ap (body es) (same_actions xs h)

      same_catch : (c : CatchOf S L) → Same (in_name c) → Same (in_catch c) → map_catch v c ≡ map_catch w c
      same_catch no_catch n h = refl
      same_catch (catch t b) n h = ap₂ catch (same_target t n) (same_body b h)

      same_finally : (f : FinallyOf S L) → Same (in_finally f) → map_finally v f ≡ map_finally w f
      same_finally no_finally h = refl
      same_finally (finally b) h = ap finally (same_body b h)

-- ---- the strings of a tree whose strings are made over

module _ {S T : Type 0} (w : S → T) where
  each_append : (xs ys : List S) → each w (xs ++ ys) ≡ each w xs ++ each w ys
  unfolding each
  each_append [] ys = refl
  each_append (x ∷ xs) ys = ap (λ l. w x ∷ l) (each_append xs ys)

  -- of two lists of strings, one behind the other
  made_two : {l r : List T} (xs ys : List S) → l ≡ each w xs → r ≡ each w ys → l ++ r ≡ each w (xs ++ ys)
  made_two xs ys e f = ap₂ ◌++◌ e f ∙ sym (each_append xs ys)

  made_joined : {A B : Type 0} (f : A → B) (i : A → List S) (j : B → List T) → ((x : A) → j (f x) ≡ each w (i x)) → (xs : List A) → joined j (each f xs) ≡ each w (joined i xs)
  unfolding joined each
  made_joined f i j h [] = refl
  made_joined f i j h (x ∷ xs) = made_two (i x) (joined i xs) (h x) (made_joined f i j h xs)

  made_value : (x : PushValueOf S) → in_value (map_value w x) ≡ each w (in_value x)
  unfolding map_value in_value each
  made_value (String s) = refl
  made_value Null = refl
  made_value Undefined = refl
  made_value (Register r) = refl
  made_value (Boolean t) = refl
  made_value (Float n) = refl
  made_value (Integer n) = refl
  made_value (Constant i) = refl

  made_param : (x : FunctionParamOf S) → in_param (map_param w x) ≡ each w (in_param x)
  unfolding map_param in_param each
  made_param (function_param r s) = refl

  made_flat : (f : FlatOf S) → in_flat (map_flat w f) ≡ each w (in_flat f)
  unfolding map_flat in_flat each
  made_flat (Small op) = refl
  made_flat (GotoFrame n) = refl
  made_flat (GetUrl u t) = refl
  made_flat (StoreRegister r) = refl
  made_flat (ConstantPool ss) = refl
  made_flat (WaitForFrame n k) = refl
  made_flat (SetTarget s) = refl
  made_flat (GotoLabel s) = refl
  made_flat (WaitForFrame2 k) = refl
  made_flat (Push vs) = made_joined (map_value w) in_value in_value made_value vs
  made_flat (GetUrl2 v t m) = refl
  made_flat (GotoFrame2 n p) = refl

  made_owner : (o : OwnerOf S) → in_owner (map_owner w o) ≡ each w (in_owner o)
  unfolding map_owner in_owner each
  made_owner With = refl
  made_owner (DefineFunction s ps) = refl
  made_owner (DefineFunction2 s ps r f) = ap (λ l. w s ∷ l) (made_joined (map_param w) in_param in_param made_param ps)

  made_target : (t : CatchTargetOf S) → in_target (map_target w t) ≡ each w (in_target t)
  unfolding map_target in_target each
  made_target (Variable s) = refl
  made_target (Register r) = refl

  module _ {L : Type 0} where
    made_name : (c : CatchOf S L) → in_name (map_catch w c) ≡ each w (in_name c)
    unfolding map_catch in_name each
    made_name no_catch = refl
    made_name (catch t b) = made_target t

    mutual
      unfolding map_action in_action each

      made_action : (a : ActionOf S L) → in_action (map_action w a) ≡ each w (in_action a)
      made_action (flat f) = made_flat f
      made_action (branch k l) = refl
      made_action (owner o b) = made_two (in_owner o) (in_body b) (made_owner o) (made_body b)
      made_action (Try b c f) =
          made_two (in_name c) (in_body b ++ (in_catch c ++ in_finally f)) (made_name c)
          (made_two (in_body b) (in_catch c ++ in_finally f) (made_body b) (made_two (in_catch c) (in_finally f) (made_catch c) (made_finally f)))

      made_actions : (xs : ActionListOf S L) → in_actions (map_actions w xs) ≡ each w (in_actions xs)
      made_actions empty = refl
      made_actions (more a xs) = made_two (in_action a) (in_actions xs) (made_action a) (made_actions xs)

      pub made_body : (b : ActionsOf S L) → in_body (map_body w b) ≡ each w (in_body b)
      made_body (body es xs) = made_actions xs

      made_catch : (c : CatchOf S L) → in_catch (map_catch w c) ≡ each w (in_catch c)
      made_catch no_catch = refl
      made_catch (catch t b) = made_body b

      made_finally : (f : FinallyOf S L) → in_finally (map_finally w f) ≡ each w (in_finally f)
      made_finally no_finally = refl
      made_finally (finally b) = made_body b
