-- Two readings of one main body, by terms that differ only in how strings are read: where the one's strings follow the other's, so
-- does the whole. Assumes nothing.
use Rattle.std.specs.Prelude.{◌≡◌, ◌⊎◌, Bool, ◌&&◌, List, [], ◌∷◌, length, eqb}
use Rattle.std.proofs.Math.Path.{refl, ap}
use Rattle.std.proofs.Common.{subst, inl, inr}
use Prim.Native.Nat.{ℕ, zero, suc, ◌+◌}
use Rattle.std.proofs.Math.Bool.{true, false}
use Rattle.std.proofs.Math.Option.{Option, none, some}
use Rattle.std.proofs.Math.Dec.{leb, ltb}
use Rattle.layout.specs.Lists.{All, each}
use Rattle.layout.proofs.Lists.{all_left, all_right}
use Rattle.layout.specs.OpCode.{OpCode, opcode_of}
use Rattle.layout.specs.PushKind.{PushKind, kind_of}
use Rattle.layout.specs.Tree.{CatchTargetOf, entry, ActionOf, Try, ActionsOf, CatchOf, count, body_count, catch_count}
use Rattle.layout.specs.Read.{Text, Terms, deepest, Place, placed, Read, got, bad, Reader, chain, give, more_begun, behind, if_nothing_left, tested, repeat, is_shape, has_catch, has_finally, has_register, read_u8, read_u16, read_u32, read_u64, read_flag, read_counted, read_string, read_value_of, read_value_if, read_value, read_param, read_label, read_entries, read_catch_target, read_catch, read_finally, read_try, read_fields, read_fields_if, read_action, read_actions, read_body_with, read_body, read_main, ◌>>=◌}
use Rattle.layout.specs.Strings.{map_value, map_param, map_flat, map_owner, map_target, map_action, map_actions, map_body, map_catch, map_finally}
use Rattle.laws.proofs.Resolved.{count_same, body_same, catch_same}
use Rattle.named_words.specs.Named.{joined, in_value, in_param, in_flat, in_owner, in_target, in_action, in_actions, in_name, in_body, in_catch, in_finally}
use Rattle.named_words.proofs.Named.{all_try}
use Rattle.named_words.specs.Follows.{Ends, Follows, IsPlain, Nowhere, Plain, Without, ends, ends_at, fault, gives, map_read, meets, other, unasked}

-- after any reading
pub without_after : {A B : Type 0} {P : B → Type 0} {k : A → Reader B} (x : Read A) → ((a : A) (q : Place) → Without P (k a q)) → Without P (chain x k)
without_after (got a q) h = h a q
without_after (bad f s) h = fault

-- after a reading without P, of which it tells
without_then : {A B : Type 0} {P : A → Type 0} {P' : B → Type 0} {k : A → Reader B} {x : Read A} → Without P x → ((a : A) (q : Place) → (P a → ⊥) → Without P' (k a q)) → Without P' (chain x k)
without_then (other h) n = n _ _ h
without_then fault n = fault

-- behind n actions
without_behind : {A : Type 0} {P : A → Type 0} {x : Read A} (n : ℕ) → Without P x → Without P (more_begun n x)
without_behind n (other h) = other h
without_behind n fault = fault

module _ {Loose : Type 0} {End : ℕ → Type 0} where
  -- behind n actions
  follows_behind : {A : Type 0} {P : A → Type 0} {f : A → A} {x y : Read A} (n : ℕ) → Follows Loose End P f x y → Follows Loose End P f (more_begun n x) (more_begun n y)
  follows_behind n gives = gives
  follows_behind n meets = meets
  follows_behind n (ends h) = ends h
  follows_behind n (unasked l h) = unasked l (without_behind n h)

  -- after the same reading
  pub follows_after : {A B : Type 0} {P : B → Type 0} {f : B → B} (x : Read A) {k k' : A → Reader B} → ((a : A) (q : Place) → Follows Loose End P f (k a q) (k' a q))
      → Follows Loose End P f (chain x k) (chain x k')
  follows_after (got a q) h = h a q
  follows_after (bad e s) h = meets

  -- after readings of which one follows the other, where what comes of a value without P is without P'
  follows_then : {A B : Type 0} {P : A → Type 0} {f : A → A} {P' : B → Type 0} {f' : B → B} {x y : Read A} {k : A → Reader B} (k' : A → Reader B) → Follows Loose End P f x y
      → ((a : A) (q : Place) → Follows Loose End P' f' (k a q) (k' (f a) q)) → ((a : A) (q : Place) → (P a → ⊥) → Without P' (k a q))
      → Follows Loose End P' f' (chain x k) (chain y k')
  follows_then k' gives h n = h _ _
  follows_then k' meets h n = meets
  follows_then k' (ends e) h n = ends e
  follows_then k' (unasked l (other i)) h n = unasked l (n _ _ i)
  follows_then k' (unasked l fault) h n = unasked l fault

-- ---- a whole main body

-- after one reading, equal readings are equal
chain_same : {A B : Type 0} (x : Read A) {f g : A → Reader B} → ((a : A) (q : Place) → f a q ≡ g a q) → chain x f ≡ chain x g
chain_same (got a q) h = h a q
chain_same (bad e s) h = refl

-- so are the texts that each element holds
plain_joined : {A : Type 0} (i : A → List Text) (l : List A) → Plain (joined i l) → All (λ a. Plain (i a)) l
unfolding joined
plain_joined i [] h = tt
plain_joined i (a ∷ l) h = (all_left _ (i a) (joined i l) h, plain_joined i l (all_right _ (i a) (joined i l) h))

module _ (Loose : Type 0) (End : ℕ → Type 0) (b : List ℕ) where
  repeat_follows : {A : Type 0} (P : A → Type 0) (f : A → A) (r r' : Reader A) → ((p : Place) → Follows Loose End P f (r p) (r' p)) → (n : ℕ) (p : Place)
      → Follows Loose End (λ l. All P l) (each f) (repeat r n p) (repeat r' n p)
  unfolding repeat each
  repeat_follows P f r r' h zero p = gives
  repeat_follows P f r r' h (suc n) p =
      follows_then _ (h p) (λ a q. follows_then _ (repeat_follows P f r r' h n q) (λ l o. gives) (λ l o z. other (λ u. z u.1)))
      (λ a q z. without_after (repeat r n q) (λ l o. other (λ u. z u.0)))

  counted_follows : {A : Type 0} (P : A → Type 0) (f : A → A) (r r' : Reader A) → ((p : Place) → Follows Loose End P f (r p) (r' p)) → (p : Place)
      → Follows Loose End (λ l. All P l) (each f) (read_counted b r p) (read_counted b r' p)
  unfolding read_counted
  counted_follows P f r r' h p = follows_after (read_u16 b p) (λ n q. repeat_follows P f r r' h n q)

module _ (k k' : Terms) (bound-same : k.label_bound ≡ k'.label_bound) (b : List ℕ) where
  label_same : (least : ℕ) (p : Place) → read_label k b least p ≡ read_label k' b least p
  unfolding read_label
  label_same least p = ap (λ n. tested (λ l. ltb l n && leb least l) (read_u16 b) p) bound-same

  entries_same : (n least : ℕ) (p : Place) → read_entries k b n least p ≡ read_entries k' b n least p
  unfolding read_entries
  entries_same zero least p = refl
  entries_same (suc n) least p =
      rw (label_same least p) (chain_same (read_label k' b least p) (λ l q. chain_same (read_u16 b q) (λ i r. ap (λ x. chain x (λ es o. got (entry l (record { index = i }) ∷ es) o)) (entries_same n (suc l) r))))

-- where each string that is read by k' follows the one that is read by k, made over by w, with P for plain, so does a whole main
-- body, with P for plain in all its texts
module _ (Loose : Type 0) (End : ℕ → Type 0) (w : Text → Text) (k k' : Terms) (bound-same : k.label_bound ≡ k'.label_bound) (b : List ℕ)
    (string-follows : (p : Place) → Follows Loose End IsPlain w (read_string k b p) (read_string k' b p)) where
  strings_follow : (p : Place) → Follows Loose End Plain (each w) (read_counted b (read_string k b) p) (read_counted b (read_string k' b) p)
  strings_follow p = counted_follows Loose End b IsPlain w (read_string k b) (read_string k' b) string-follows p

  param_follows : (p : Place) → Follows Loose End (λ x. Plain (in_param x)) (map_param w) (read_param k b p) (read_param k' b p)
  unfolding read_param map_param in_param
  param_follows p = follows_after (read_u8 b p) (λ r q. follows_then _ (string-follows q) (λ s o. gives) (λ s o z. other (λ u. z u.0)))

  params_follow : (p : Place) → Follows Loose End (λ l. All (λ x. Plain (in_param x)) l) (each (map_param w)) (read_counted b (read_param k b) p) (read_counted b (read_param k' b) p)
  params_follow p = counted_follows Loose End b (λ x. Plain (in_param x)) (map_param w) (read_param k b) (read_param k' b) param_follows p

  value_of_follows : (j : PushKind) (p : Place) → Follows Loose End (λ x. Plain (in_value x)) (map_value w) (read_value_of k b j p) (read_value_of k' b j p)
  unfolding read_value_of map_value in_value
  value_of_follows PushKind.String p = follows_then _ (string-follows p) (λ s q. gives) (λ s q z. other (λ u. z u.0))
  value_of_follows PushKind.Null p = gives
  value_of_follows PushKind.Undefined p = gives
  value_of_follows PushKind.Register p = follows_after (read_u8 b p) (λ r q. gives)
  value_of_follows PushKind.Boolean p = follows_after (read_flag b p) (λ t q. gives)
  value_of_follows PushKind.Float p = follows_after (read_u64 b p) (λ n q. gives)
  value_of_follows PushKind.Integer p = follows_after (read_u32 b p) (λ n q. gives)
  value_of_follows PushKind.Constant p = follows_after (read_u16 b p) (λ i q. gives)

  value_follows : (p : Place) → Follows Loose End (λ x. Plain (in_value x)) (map_value w) (read_value k b p) (read_value k' b p)
  unfolding read_value read_value_if
  value_follows p = follows_after (read_u8 b p) (λ n q. go (kind_of n) q)
    where
      go : (o : Option PushKind) (q : Place) → Follows Loose End (λ x. Plain (in_value x)) (map_value w) (read_value_if k b o p q) (read_value_if k' b o p q)
      go (some j) q = value_of_follows j q
      go none q = meets

  values_follow : (p : Place) → Follows Loose End (λ l. All (λ x. Plain (in_value x)) l) (each (map_value w)) (read_counted b (read_value k b) p) (read_counted b (read_value k' b) p)
  values_follow p = counted_follows Loose End b (λ x. Plain (in_value x)) (map_value w) (read_value k b) (read_value k' b) value_follows p

  -- the target of a catch that is there
  target_follows : (r : Bool) (p : Place) → Follows Loose End (λ t. Plain (in_target t)) (map_target w) (read_catch_target k b true r p) (read_catch_target k' b true r p)
  unfolding read_catch_target map_target in_target
  target_follows true p = follows_after (read_u8 b p) (λ r q. gives)
  target_follows false p = follows_then _ (string-follows p) (λ s q. gives) (λ s q z. other (λ u. z u.0))

  -- what stands behind an opcode, with the bodies that follow it
  module _ (inner inner' : Reader (ActionsOf Text ℕ)) (inner-follows : (p : Place) → Follows Loose End (λ x. Plain (in_body x)) (map_body w) (inner p) (inner' p)) where
    -- of actions, and of catches with their names
    abbrev Acts : Read (ActionOf Text ℕ) → Read (ActionOf Text ℕ) → Type 0
    Acts x y = Follows Loose End (λ a. Plain (in_action a)) (map_action w) x y

    abbrev Catches : Read (CatchOf Text ℕ) → Read (CatchOf Text ℕ) → Type 0
    Catches x y = Follows Loose End (λ c. Plain (in_name c) × Plain (in_catch c)) (map_catch w) x y

    catch_follows : (t : CatchTargetOf Text) (p : Place) → Catches (read_catch k b inner true t p) (read_catch k' b inner' true (map_target w t) p)
    unfolding read_catch map_catch in_name in_catch
    catch_follows t p = follows_then _ (inner-follows p) (λ x q. gives) (λ x q z. other (λ u. z u.1))

    no_catch : (t t' : CatchTargetOf Text) (p : Place) → Catches (read_catch k b inner false t p) (read_catch k' b inner' false t' p)
    unfolding read_catch map_catch
    no_catch t t' p = gives

    finally_follows : (f : Bool) (p : Place) → Follows Loose End (λ x. Plain (in_finally x)) (map_finally w) (read_finally k b inner f p) (read_finally k' b inner' f p)
    unfolding read_finally map_finally in_finally
    finally_follows true p = follows_then _ (inner-follows p) (λ x q. gives) (λ x q z. other (λ u. z u))
    finally_follows false p = gives

    -- a Try's bodies, behind the catch's target
    abbrev try_bodies : Terms → Reader (ActionsOf Text ℕ) → Bool → Bool → CatchTargetOf Text → Reader (ActionOf Text ℕ)
    try_bodies k inner c f target = do
      x ← inner
      y ← behind (body_count x) (read_catch k b inner c target)
      z ← behind (body_count x + catch_count y) (read_finally k b inner f)
      give (Try x y z)

    bodies_follow : (c f : Bool) (t t' : CatchTargetOf Text) → ((p : Place) → Catches (read_catch k b inner c t p) (read_catch k' b inner' c t' p)) → (p : Place)
        → Acts (try_bodies k inner c f t p) (try_bodies k' inner' c f t' p)
    unfolding map_action in_action
    bodies_follow c f t t' h p =
        follows_then _ (inner-follows p) (λ x q. rw (body_same w x) (follows_then _ (follows_behind (body_count x) (h q))
        (λ y r. rw (catch_same w y) (follows_then _ (follows_behind (body_count x + catch_count y) (finally_follows f r)) (λ z o. gives) (λ z o n. other (λ u. n (all_try _ x y z u).3))))
        (λ y r n. without_after (more_begun (body_count x + catch_count y) (read_finally k b inner f r)) (λ z o. other (λ u. n ((all_try _ x y z u).0, (all_try _ x y z u).2))))))
        (λ x q n. without_after (more_begun (body_count x) (read_catch k b inner c t q)) (λ y r.
        without_after (more_begun (body_count x + catch_count y) (read_finally k b inner f r)) (λ z o. other (λ u. n (all_try _ x y z u).1))))

    -- a catch with a name by an entry's number is a Try with one
    target_told : (f : Bool) (t : CatchTargetOf Text) (p : Place) → (Plain (in_target t) → ⊥) → Without (λ a. Plain (in_action a)) (try_bodies k inner true f t p)
    target_told f t p n =
        without_after (inner p) (λ x q. without_then (without_behind (body_count x) (caught q)) (λ y r m.
        without_after (more_begun (body_count x + catch_count y) (read_finally k b inner f r)) (λ z o. other (λ u. m ((all_try _ x y z u).0, (all_try _ x y z u).2)))))
      where
        caught : (q : Place) → Without (λ c. Plain (in_name c) × Plain (in_catch c)) (read_catch k b inner true t q)
        caught q = unfold read_catch in_name in without_after (inner q) (λ x r. other (λ u. n u.0))

    try_follows : (shape : ℕ) (p : Place) → Acts (read_try k b inner shape p) (read_try k' b inner' shape p)
    unfolding read_try
    try_follows shape p = go (has_catch shape) (has_register shape) (has_finally shape)
      where
        go : (c r f : Bool) → Acts (chain (read_catch_target k b c r p) (try_bodies k inner c f)) (chain (read_catch_target k' b c r p) (try_bodies k' inner' c f))
        go true r f = follows_then _ (target_follows r p) (λ t q. bodies_follow true f t (map_target w t) (catch_follows t) q) (λ t q n. target_told f t q n)
        go false r f = unfold read_catch_target in bodies_follow false f _ _ (no_catch _ _) p

    fields_follow : (op : OpCode) (p : Place) → Acts (read_fields k b inner op p) (read_fields k' b inner' op p)
    unfolding read_fields map_action map_flat map_owner in_action in_flat in_owner
    fields_follow (OpCode.Small op) p = gives
    fields_follow OpCode.GotoFrame p = follows_after (read_u16 b p) (λ n q. gives)
    fields_follow OpCode.GetUrl p =
        follows_then _ (string-follows p) (λ x q. follows_then _ (string-follows q) (λ y r. gives) (λ y r z. other (λ u. z u.1.0)))
        (λ x q z. without_after (read_string k b q) (λ y r. other (λ u. z u.0)))
    fields_follow OpCode.StoreRegister p = follows_after (read_u8 b p) (λ n q. gives)
    fields_follow OpCode.ConstantPool p = follows_then _ (strings_follow p) (λ l q. gives) (λ l q z. other (λ u. z u))
    fields_follow OpCode.WaitForFrame p = follows_after (read_u16 b p) (λ n q. follows_after (read_u8 b q) (λ i r. gives))
    fields_follow OpCode.SetTarget p = follows_then _ (string-follows p) (λ x q. gives) (λ x q z. other (λ u. z u.0))
    fields_follow OpCode.GotoLabel p = follows_then _ (string-follows p) (λ x q. gives) (λ x q z. other (λ u. z u.0))
    fields_follow OpCode.WaitForFrame2 p = follows_after (read_u8 b p) (λ n q. gives)
    fields_follow OpCode.DefineFunction2 p =
        follows_then _ (string-follows p) (λ s q. follows_then _ (params_follow q) (λ l r. follows_after (read_u8 b r) (λ n o. follows_after (tested (λ flags. ltb flags 512) (read_u16 b) o) (λ f v.
        follows_then _ (inner-follows v) (λ x e. gives) (λ x e z. other (λ u. z (all_right _ (joined in_param l) (in_body x) u.1))))))
        (λ l r z. without_after (read_u8 b r) (λ n o. without_after (tested (λ flags. ltb flags 512) (read_u16 b) o) (λ f v.
        without_after (inner v) (λ x e. other (λ u. z (plain_joined in_param l (all_left _ (joined in_param l) (in_body x) u.1))))))))
        (λ s q z. without_after (read_counted b (read_param k b) q) (λ l r. without_after (read_u8 b r) (λ n o. without_after (tested (λ flags. ltb flags 512) (read_u16 b) o) (λ f v.
        without_after (inner v) (λ x e. other (λ u. z u.0))))))
    fields_follow OpCode.Try p = follows_after (tested is_shape (read_u8 b) p) (λ shape q. try_follows shape q)
    fields_follow OpCode.With p = follows_then _ (inner-follows p) (λ x q. gives) (λ x q z. other (λ u. z u))
    fields_follow OpCode.Push p = follows_then _ (values_follow p) (λ l q. gives) (λ l q z. other (λ u. z (plain_joined in_value l u)))
    fields_follow OpCode.Jump p = rw (label_same k k' bound-same b 0 p) (follows_after (read_label k' b 0 p) (λ l q. gives))
    fields_follow OpCode.GetUrl2 p = follows_after (read_flag b p) (λ v q. follows_after (read_flag b q) (λ t r. follows_after (read_u8 b r) (λ m o. gives)))
    fields_follow OpCode.DefineFunction p =
        follows_then _ (string-follows p) (λ s q. follows_then _ (strings_follow q) (λ l r. follows_then _ (inner-follows r) (λ x o. gives) (λ x o z. other (λ u. z (all_right _ l (in_body x) u.1))))
        (λ l r z. without_after (inner r) (λ x o. other (λ u. z (all_left _ l (in_body x) u.1)))))
        (λ s q z. without_after (read_counted b (read_string k b) q) (λ l r. without_after (inner r) (λ x o. other (λ u. z u.0))))
    fields_follow OpCode.If p = rw (label_same k k' bound-same b 0 p) (follows_after (read_label k' b 0 p) (λ l q. gives))
    fields_follow OpCode.GotoFrame2 p = follows_after (read_u16 b p) (λ n q. follows_after (read_flag b q) (λ t r. gives))

    action_follows : (p : Place) → Acts (read_action k b inner p) (read_action k' b inner' p)
    unfolding read_action read_fields_if
    action_follows p = follows_after (read_u8 b p) (λ n q. go (opcode_of n) q)
      where
        go : (o : Option OpCode) (q : Place) → Acts (read_fields_if k b inner o p q) (read_fields_if k' b inner' o p q)
        go (some op) q = fields_follow op q
        go none q = meets

    actions_follow : (n : ℕ) (p : Place) → Follows Loose End (λ l. Plain (in_actions l)) (map_actions w) (read_actions k b inner n p) (read_actions k' b inner' n p)
    unfolding read_actions map_actions in_actions
    actions_follow zero p = gives
    actions_follow (suc n) p =
        follows_then _ (action_follows p) (λ a q. rw (count_same w a) (follows_then _ (follows_behind (count a) (actions_follow n q)) (λ l r. gives)
        (λ l r z. other (λ u. z (all_right _ (in_action a) (in_actions l) u)))))
        (λ a q z. without_after (more_begun (count a) (read_actions k b inner n q)) (λ l r. other (λ u. z (all_left _ (in_action a) (in_actions l) u))))

    with_follows : (p : Place) → Follows Loose End (λ x. Plain (in_body x)) (map_body w) (read_body_with k b inner p) (read_body_with k' b inner' p)
    unfolding read_body_with map_body in_body
    with_follows p =
        follows_after (read_u16 b p) (λ m q. rw (entries_same k k' bound-same b m 0 q) (follows_after (read_entries k' b m 0 q) (λ es r. follows_after (read_u16 b r) (λ n o.
        follows_then _ (actions_follow n o) (λ l v. gives) (λ l v z. other (λ u. z u))))))

  body_follows : (depth : ℕ) (p : Place) → Follows Loose End (λ x. Plain (in_body x)) (map_body w) (read_body k b depth p) (read_body k' b depth p)
  unfolding read_body
  body_follows zero p = meets
  body_follows (suc depth) p = with_follows (behind 1 (read_body k b depth)) (behind 1 (read_body k' b depth)) (λ q. follows_behind 1 (body_follows depth q)) p

  -- the main body takes all of b
  pub main_follows : Follows Loose End (λ x. Plain (in_body x)) (map_body w) (read_main k b deepest) (read_main k' b deepest)
  unfolding read_main
  main_follows = follows_then _ (body_follows deepest (placed 0)) (λ t p. rw (body_same w t) (left t p (eqb p.at (length b)))) (λ t p n. told t p n (eqb p.at (length b)))
    where
      left : (t : ActionsOf Text ℕ) (p : Place) (z : Bool)
          → Follows Loose End (λ x. Plain (in_body x)) (map_body w) (more_begun (body_count t) (if_nothing_left z t p)) (more_begun (body_count t) (if_nothing_left z (map_body w t) p))
      left t p true = unfold if_nothing_left in gives
      left t p false = unfold if_nothing_left in meets

      told : (t : ActionsOf Text ℕ) (p : Place) → (Plain (in_body t) → ⊥) → (z : Bool) → Without (λ x. Plain (in_body x)) (more_begun (body_count t) (if_nothing_left z t p))
      told t p n true = unfold if_nothing_left in other n
      told t p n false = unfold if_nothing_left in fault

-- without exceptions, y is what x is, made over
pub follows_all : {A : Type 0} {P : A → Type 0} {f : A → A} {x y : Read A} → Follows ⊥ Nowhere P f x y → y ≡ map_read f x
unfolding map_read
follows_all gives = refl
follows_all meets = refl
follows_all (ends h) = absurd h
follows_all (unasked l h) = absurd l

-- with the first exception, y is what x is, made over, or x meets a fault at an End
pub follows_or : {End : ℕ → Type 0} {A : Type 0} {P : A → Type 0} {f : A → A} {x y : Read A} → Follows ⊥ End P f x y → (y ≡ map_read f x) ⊎ Ends End x
unfolding map_read
follows_or gives = inl refl
follows_or meets = inl refl
follows_or (ends h) = inr (ends_at h)
follows_or (unasked l h) = absurd l

-- with the second, y is what x gives, made over, where that has the property
pub follows_got : {Loose A : Type 0} {P : A → Type 0} {f : A → A} {x y : Read A} {a : A} {q : Place} → Follows Loose Nowhere P f x y → x ≡ got a q → P a → y ≡ got (f a) q
follows_got {Loose} {A} {P} {f} {x} {y} {a} {q} h e u = go (subst (λ z. Follows Loose Nowhere P f z y) e h)
  where
    go : {y : Read A} → Follows Loose Nowhere P f (got a q) y → y ≡ got (f a) q
    go gives = refl
    go (unasked l (other n)) = absurd (n u)
