-- The own bytes of an action: its header and its payload, without the bodies that follow. A tree is written as those of its actions
-- in sheet order, each action's are one step, and with an End behind them there are no other steps. Assumes nothing.
use Rattle.std.specs.Prelude.{◌≡◌, Bool, true, false, ◌⊎◌, ltb}
use Rattle.std.proofs.Math.Path.{refl, sym, ap, ap₂}
use Rattle.std.proofs.Common.{◌∙◌, subst, ltb-true, ltb-false}
use Prim.Native.Nat.{ℕ, suc, ◌+◌, ◌<◌}
use native.Mathlib.Omega.{arith}
use Rattle.std.proofs.Math.Logic.{inl, inr, ⊎_elim}
use mathlib.Core.List.{List, [], ◌∷◌, ◌++◌, append_assoc, append-nil}
use Rattle.std.proofs.Math.ListN.{length, length-append}
use Rattle.layout.specs.Lists.{All}
use Rattle.layout.proofs.Lists.{all_append, all_left, all_right}
use Rattle.layout.specs.Numbers.{le16}
use Rattle.layout.specs.OpCode.{OpCode, byte}
use Rattle.layout.specs.Tree.{Action, flat, branch, owner, Try, ActionList, empty, more, Actions, body, Catch, no_catch, catch, Finally, no_finally, finally}
use Rattle.layout.specs.Payload.{opcode, payload, owner_op_code, owner_payload, branch_op_code, catch_shape, finally_shape, catch_name, try_payload, framed}
use Rattle.layout.specs.Write.{size, body_size, catch_size, finally_size, bytes, actions_bytes, body_bytes, catch_bytes, finally_bytes}
use Rattle.layout.specs.Lengths.{total}
use Rattle.layout.proofs.Lengths.{length_le16, length-owner_fields, length-owner_payload, length-try_payload, framed_long, framed_short, length_framed, branch_long, owner_long, try_long}
use Rattle.layout.proofs.Order.{two_back}
use Rattle.layout.specs.Stepped.{IsStep, short, long, Steps, nothing, first, end_step}
use Rattle.layout.proofs.Stepped.{end_step_lem, one_step, steps_append, step_length}
use Rattle.laws.specs.Fits.{Fits, ActionsFit, BodyFits, CatchFits, FinallyFits}
use Rattle.action_numbers.specs.Numbered.{in_order, list_in_order, body_in_order, catch_in_order, finally_in_order, own_size, Names}
use Rattle.action_numbers.proofs.Numbered.{total_action, total_catch, total_order}
use Rattle.tied_steps.specs.Places.{StepAt, Begins, Same}
use Rattle.tied_steps.proofs.Places.{same_step}
use Rattle.tied_steps.specs.Own.{all_bytes, own_bytes}

-- ---- a header and its payload are one step

-- a header with a payload that it can tell the length of
framed_step : (op : OpCode) (q : List ℕ) → length q < 65536 → IsStep (framed op q)
framed_step op q h = go (ltb (byte op) 128) refl
  where
    go : (t : Bool) → ltb (byte op) 128 ≡ t → IsStep (framed op q)
    go true e = subst IsStep (sym (framed_short op q e)) (short (ltb-true (byte op) 128 e))
    go false e = subst IsStep (sym (framed_long op q e)) (unfold le16 in long (ltb-false (byte op) 128 e) (sym (two_back (length q) h)))

-- ---- how long it is, and that it is what is written

module _ (bits : ℕ → ℕ → ℕ) where
  -- as many as an action takes without its bodies
  pub length_own : (a : Action) (p : ℕ) → length (own_bytes bits a p) ≡ own_size a
  unfolding own_bytes own_size
  length_own (flat f) p = refl
  length_own (branch k l) p = length_framed (branch_op_code k) (le16 (bits l (p + 5))) (branch_long k) ∙ omega (arith, length_le16 (bits l (p + 5)))
  length_own (owner o b) p = length_framed (owner_op_code o) (owner_payload o (body_size b)) (owner_long o) ∙ omega (arith, length-owner_payload o (body_size b), length-owner_fields o)
  length_own (Try b c f) p =
      length_framed OpCode.Try (try_payload (catch_shape c + finally_shape f) (body_size b) (catch_size c) (finally_size f) (catch_name c)) try_long
      ∙ omega (arith, length-try_payload (catch_shape c + finally_shape f) (body_size b) (catch_size c) (finally_size f) (catch_name c))

  pub length_all : (xs : List Action) (p : ℕ) → length (all_bytes bits xs p) ≡ total own_size xs
  unfolding all_bytes total
  length_all [] p = refl
  length_all (a ∷ xs) p = length-append (own_bytes bits a p) (all_bytes bits xs (p + own_size a)) ∙ ap₂ ◌+◌ (length_own a p) (length_all xs (p + own_size a))

  pub all_bytes_append : (xs ys : List Action) (p : ℕ) → all_bytes bits (xs ++ ys) p ≡ all_bytes bits xs p ++ all_bytes bits ys (p + total own_size xs)
  unfolding all_bytes total
  all_bytes_append [] ys p =
      let e : p + 0 ≡ p = omega arith in
      rw e refl
  all_bytes_append (a ∷ xs) ys p =
      let e : p + own_size a + total own_size xs ≡ p + (own_size a + total own_size xs) = omega arith in
      ap (λ (u : List ℕ). own_bytes bits a p ++ u) (all_bytes_append xs ys (p + own_size a) ∙ ap (λ (n : ℕ). all_bytes bits xs (p + own_size a) ++ all_bytes bits ys n) e)
      ∙ sym (append_assoc (own_bytes bits a p) (all_bytes bits xs (p + own_size a)) (all_bytes bits ys (p + (own_size a + total own_size xs))))

  -- the same with what the first are known to take
  both_bytes : (xs ys : List Action) (p n : ℕ) {a b : List ℕ} → total own_size xs ≡ n → a ≡ all_bytes bits xs p → b ≡ all_bytes bits ys (p + n) → a ++ b ≡ all_bytes bits (xs ++ ys) p
  both_bytes xs ys p n t e f = ap₂ ◌++◌ e (f ∙ ap (λ (i : ℕ). all_bytes bits ys (p + i)) (sym t)) ∙ sym (all_bytes_append xs ys p)

  -- what is written is the own bytes of the actions in sheet order
  mutual
    unfolding bytes in_order own_bytes own_size all_bytes

    bytes_in_order : (a : Action) (p : ℕ) → bytes bits a p ≡ all_bytes bits (in_order a) p
    bytes_in_order (flat f) p = sym (append-nil (own_bytes bits (flat f) p))
    bytes_in_order (branch k l) p = sym (append-nil (own_bytes bits (branch k l) p))
    bytes_in_order (owner o b) p = ap (λ (u : List ℕ). own_bytes bits (owner o b) p ++ u) (body_in_order_lem b (p + own_size (owner o b)))
    bytes_in_order (Try b c f) p =
        let q : ℕ = p + own_size (Try b c f) in
        let e : q + (body_size b + catch_size c) ≡ q + body_size b + catch_size c = omega arith in
        ap (λ (u : List ℕ). own_bytes bits (Try b c f) p ++ u)
        (both_bytes (body_in_order b) (catch_in_order c ++ finally_in_order f) q (body_size b) (total_order b) (body_in_order_lem b q)
        (both_bytes (catch_in_order c) (finally_in_order f) (q + body_size b) (catch_size c) (total_catch c) (catch_in_order_lem c (q + body_size b))
        (ap (finally_bytes bits f) e ∙ finally_in_order_lem f (q + body_size b + catch_size c))))

    list_in_order_lem : (xs : ActionList) (p : ℕ) → actions_bytes bits xs p ≡ all_bytes bits (list_in_order xs) p
    list_in_order_lem empty p = refl
    list_in_order_lem (more a xs) p = both_bytes (in_order a) (list_in_order xs) p (size a) (total_action a) (bytes_in_order a p) (list_in_order_lem xs (p + size a))

    pub body_in_order_lem : (b : Actions) (p : ℕ) → body_bytes bits b p ≡ all_bytes bits (body_in_order b) p
    body_in_order_lem (body es xs) p = list_in_order_lem xs p

    catch_in_order_lem : (c : Catch) (p : ℕ) → catch_bytes bits c p ≡ all_bytes bits (catch_in_order c) p
    catch_in_order_lem no_catch p = refl
    catch_in_order_lem (catch t b) p = body_in_order_lem b p

    finally_in_order_lem : (f : Finally) (p : ℕ) → finally_bytes bits f p ≡ all_bytes bits (finally_in_order f) p
    finally_in_order_lem no_finally p = refl
    finally_in_order_lem (finally b) p = body_in_order_lem b p

  -- each action is one step
  pub own_step : (a : Action) (p : ℕ) → Fits a → IsStep (own_bytes bits a p)
  unfolding own_bytes
  own_step (flat f) p h = framed_step (opcode f) (payload f) h.1
  own_step (branch k l) p h = framed_step (branch_op_code k) (le16 (bits l (p + 5))) (omega (arith, length_le16 (bits l (p + 5))))
  own_step (owner o b) p h = framed_step (owner_op_code o) (owner_payload o (body_size b)) (omega (arith, length-owner_payload o (body_size b), length-owner_fields o, h.1))
  own_step (Try b c f) p h =
      framed_step OpCode.Try (try_payload (catch_shape c + finally_shape f) (body_size b) (catch_size c) (finally_size f) (catch_name c))
      (omega (arith, length-try_payload (catch_shape c + finally_shape f) (body_size b) (catch_size c) (finally_size f) (catch_name c), h.1))

  -- so many actions are so many steps
  pub all_steps : (xs : List Action) (p : ℕ) → All Fits xs → Steps (all_bytes bits xs p) (length xs)
  unfolding all_bytes
  all_steps [] p h = nothing
  all_steps (a ∷ xs) p h = first (own_step a p h.0) (all_steps xs (p + own_size a) h.1) refl

-- the actions in the bodies of a tree that fits do
mutual
  unfolding in_order

  fits_in_order : (a : Action) → Fits a → All Fits (in_order a)
  fits_in_order (flat f) h = (h, tt)
  fits_in_order (branch k l) h = (h, tt)
  fits_in_order (owner o b) h = (h, body_fits_in_order b h.3)
  fits_in_order (Try b c f) h = (
    h,
    all_append Fits (body_in_order b) (catch_in_order c ++ finally_in_order f) (body_fits_in_order b h.5)
        (all_append Fits (catch_in_order c) (finally_in_order f) (catch_fits_in_order c h.6) (finally_fits_in_order f h.7)),
  )

  list_fits_in_order : (xs : ActionList) → ActionsFit xs → All Fits (list_in_order xs)
  list_fits_in_order empty h = tt
  list_fits_in_order (more a xs) h = all_append Fits (in_order a) (list_in_order xs) (fits_in_order a h.0) (list_fits_in_order xs h.1)

  pub body_fits_in_order : (b : Actions) → BodyFits b → All Fits (body_in_order b)
  body_fits_in_order (body es xs) h = list_fits_in_order xs h

  catch_fits_in_order : (c : Catch) → CatchFits c → All Fits (catch_in_order c)
  catch_fits_in_order no_catch h = tt
  catch_fits_in_order (catch t b) h = body_fits_in_order b h

  finally_fits_in_order : (f : Finally) → FinallyFits f → All Fits (finally_in_order f)
  finally_fits_in_order no_finally h = tt
  finally_fits_in_order (finally b) h = body_fits_in_order b h

-- ---- the steps of a list of actions and an End

module _ (bits : ℕ → ℕ → ℕ) where
  -- the block of these actions
  abbrev pub ended : List Action → List ℕ
  ended xs = all_bytes bits xs 0 ++ end_step

  -- each action is one
  pub action_at : (before : List Action) (a : Action) (after : List Action) → All Fits (before ++ (a ∷ after))
      → StepAt (ended (before ++ (a ∷ after))) (length before) (total own_size before) (own_bytes bits a (total own_size before))
  unfolding all_bytes
  action_at before a after h =
      let n : ℕ = total own_size before in
      let z : 0 + n ≡ n = omega arith in
      let x : List ℕ = own_bytes bits a n in
      let r : List ℕ = all_bytes bits after (n + own_size a) in
      let k : All Fits (a ∷ after) = all_right Fits before (a ∷ after) h in
      record {
        before = all_bytes bits before 0;
        after = r ++ end_step;
        left = length after + 1;
        are_before = all_steps bits before 0 (all_left Fits before (a ∷ after) h);
        is_step = own_step bits a n k.0;
        are_after = steps_append (all_steps bits after (n + own_size a) k.1) (one_step end_step_lem);
        is_whole =
            ap (λ (u : List ℕ). u ++ end_step) (all_bytes_append bits before (a ∷ after) 0 ∙ ap (λ (i : ℕ). all_bytes bits before 0 ++ all_bytes bits (a ∷ after) i) z)
            ∙ append_assoc (all_bytes bits before 0) (x ++ r) end_step ∙ ap (λ (u : List ℕ). all_bytes bits before 0 ++ u) (append_assoc x r end_step);
        is_place = length_all bits before 0;
      }

  -- and the End is the last
  end_at : (xs : List Action) → All Fits xs → StepAt (ended xs) (length xs) (total own_size xs) end_step
  end_at xs h =
      record { before = all_bytes bits xs 0; after = []; left = 0; are_before = all_steps bits xs 0 h; is_step = end_step_lem; are_after = nothing; is_whole = refl; is_place = length_all bits xs 0 }

  -- so a step begins before each action, and behind the last
  pub begins_at : (before after : List Action) → All Fits (before ++ after) → Begins (ended (before ++ after)) (total own_size before)
  begins_at before [] h = subst (λ (xs : List Action). Begins (ended xs) (total own_size before)) (sym (append-nil before)) (record { k = length before; x = end_step; stands = end_at before (all_left Fits before [] h) })
  begins_at before (a ∷ after) h = record { k = length before; x = own_bytes bits a (total own_size before); stands = action_at before a after h }

  -- and there is no other: step k is action k, or else the End
  pub step_is : (xs : List Action) (p : ℕ) {k : ℕ} (b x r : List ℕ) → All Fits xs → Steps b k → IsStep x → all_bytes bits xs p ++ end_step ≡ b ++ (x ++ r)
      → Names xs k (λ n a. (length b ≡ n) × (x ≡ own_bytes bits a (p + n))) ⊎ (x ≡ end_step)
  unfolding all_bytes total
  step_is [] p b x r h nothing g e = inr (sym (same_step [] r end_step_lem g e).front)
  step_is [] p b x r h (first {x = c} {r = d} i t f) g e =
      absurd (omega (arith, ap length e, length-append b (x ++ r), length-append x r, ap length f, length-append c d, step_length i, step_length g))
  step_is (a ∷ xs) p b x r h nothing g e =
      let v = same_step (all_bytes bits xs (p + own_size a) ++ end_step) r (own_step bits a p h.0) g (sym (append_assoc (own_bytes bits a p) (all_bytes bits xs (p + own_size a)) end_step) ∙ e) in
      let z : p ≡ p + 0 = omega arith in
      inl (record { before = []; action = a; later = xs; is_among = refl; is_number = refl; is_so = (refl, sym v.front ∙ ap (own_bytes bits a) z) })
  step_is (a ∷ xs) p b x r h (first {x = c} {r = d} i t f) g e =
      let v : Same (own_bytes bits a p) (all_bytes bits xs (p + own_size a) ++ end_step) c (d ++ (x ++ r)) =
      same_step (all_bytes bits xs (p + own_size a) ++ end_step) (d ++ (x ++ r)) (own_step bits a p h.0) i
      (sym (append_assoc (own_bytes bits a p) (all_bytes bits xs (p + own_size a)) end_step) ∙ e ∙ ap (λ (u : List ℕ). u ++ (x ++ r)) f ∙ append_assoc c d (x ++ r)) in
      ⊎_elim (λ n. inl (behind n (length_own bits a p) (ap length v.front) (ap length f) (length-append c d))) (λ j. inr j) (step_is xs (p + own_size a) d x r h.1 t g v.rest)
    where
      behind : {j m : ℕ} → Names xs j (λ n a'. (length d ≡ n) × (x ≡ own_bytes bits a' (p + own_size a + n))) → length (own_bytes bits a p) ≡ own_size a → length (own_bytes bits a p) ≡ m
          → length b ≡ length (c ++ d) → length (c ++ d) ≡ m + length d
          → Names (a ∷ xs) (suc j) (λ n a'. (length b ≡ n) × (x ≡ own_bytes bits a' (p + n)))
      behind y l l' e₁ e₂ =
          let z : p + own_size a + total own_size y.before ≡ p + (own_size a + total own_size y.before) = omega arith in
          record {
            before = a ∷ y.before;
            action = y.action;
            later = y.later;
            is_among = ap (λ (u : List Action). a ∷ u) y.is_among;
            is_number = omega (arith, y.is_number);
            is_so = (omega (arith, y.is_so.0, l, l', e₁, e₂), y.is_so.1 ∙ ap (own_bytes bits y.action) z);
          }
