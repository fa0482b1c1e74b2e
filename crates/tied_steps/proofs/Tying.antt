-- Every Done block is tied to the actions of its sheet. Assumes nothing.
use Rattle.std.specs.Prelude.{◌≡◌, refl, Bool, true, false, ◌⊎◌, length, get_or, ℤ, ◌+ℤ◌, ltb}
use Rattle.std.proofs.Math.Path.{sym, ap, subst}
use Rattle.std.proofs.Common.{◌∙◌, ⊎_elim, ltb-true, ltb-false}
use Prim.Native.Nat.{ℕ, suc, ◌+◌, ◌-◌, ◌≤◌, ◌<◌}
use native.Mathlib.Omega.{arith}
use Rattle.std.proofs.Math.Option.{Option, none, some}
use mathlib.Core.List.{List, [], ◌∷◌, ◌++◌, append_assoc}
use Rattle.std.proofs.Math.IntN.{pos, sub_ℕ}
use Rattle.layout.specs.Lists.{All}
use Rattle.layout.proofs.Lists.{all_right}
use Rattle.layout.specs.Numbers.{le16, u16_at}
use Rattle.layout.specs.Answers.{Done}
use Rattle.layout.specs.Tree.{Branch, Action, flat, branch, owner, Try, Actions, body_count}
use Rattle.layout.specs.Payload.{branch_op_code, framed}
use Rattle.layout.specs.Write.{Position, block_start, Event, label_at, branch_at, payload_too_long, body_too_long, lookup, distance_bits, branch_bits, block_bytes, events}
use Rattle.layout.specs.Judge.{distance, too_far, Mode}
use Rattle.layout.specs.Pack.{pack, ReadsAs}
use Rattle.layout.specs.Lengths.{total}
use Rattle.layout.proofs.Lengths.{framed_long, branch_long}
use Rattle.layout.proofs.Order.{two_back}
use Rattle.layout.specs.Step.{step}
use Rattle.layout.specs.Stepped.{end_step, clean}
use Rattle.layout.proofs.Stepping.{stepped_step}
use Rattle.laws.specs.Fits.{Bytes, Fits, BodyFits}
use Rattle.laws.proofs.Nears.{bits_small}
use Rattle.laws.specs.Branches.{EachBranch, IfRecorded}
use Rattle.laws.proofs.Branches.{lookup_is}
use Rattle.laws.specs.Demands.{signed16}
use Rattle.laws.proofs.Demands.{sub_up, sub_down, judged_signed}
use Rattle.laws.specs.Packed.{Written}
use Rattle.laws.proofs.Packed.{is_written, tree_fits}
use Rattle.action_numbers.specs.Numbered.{body_in_order, own_size, BranchTo, branch_to, Names, Between, Named, Placed}
use Rattle.action_numbers.proofs.Measured.{total_append}
use Rattle.action_numbers.proofs.Numbered.{length_order, names_each, events_named, events_placed}
use Rattle.tied_steps.specs.Places.{StepAt, Begins}
use Rattle.tied_steps.specs.Own.{own_bytes}
use Rattle.tied_steps.proofs.Own.{length_own, body_in_order_lem, all_steps, body_fits_in_order, ended, action_at, begins_at, step_is}
use Rattle.tied_steps.specs.Landing.{BranchOpcode, Lands, LandsSomewhere, AllLand}
use Rattle.tied_steps.specs.Tied.{landing, BranchStep, Tied}
use Rattle.tied_steps.specs.Branching.{IsBranch, a_branch, EachFrom}
use Rattle.tied_steps.proofs.Branching.{other, own_branch, branch_opcode, from_at, Near, NearIf, body_near_in_order}

-- ---- the operand of a branch

-- the distance, added to the place after it, is where the branch goes
distance_added : (o : Option Position) (after : ℕ) → pos after +ℤ distance o after ≡ pos (landing o after)
unfolding distance landing
distance_added none after =
    let e : after + 0 ≡ after = omega arith in
    ap pos e
distance_added (some r) after = go (ltb r.at after) refl
  where
    go : (t : Bool) → ltb r.at after ≡ t → pos after +ℤ sub_ℕ r.at after ≡ pos r.at
    go true h =
        let l : r.at < after = ltb-true r.at after h in
        let m : ℕ = suc (after - suc r.at) in
        let e : after - suc (after - suc r.at) ≡ r.at = omega (arith, l) in
        ap (λ (z : ℤ). pos after +ℤ z) (sub_down r.at after l) ∙ sub_up after m (omega (arith, l)) ∙ ap pos e
    go false h =
        let l : after ≤ r.at = ltb-false r.at after h in
        let e : after + (r.at - after) ≡ r.at = omega (arith, l) in
        ap (λ (z : ℤ). pos after +ℤ z) (sub_up r.at after l) ∙ ap pos e

-- its sixteen bits stand behind opcode and length
operand_bits : (k : Branch) (w : ℕ) → w < 65536 → u16_at (framed (branch_op_code k) (le16 w)) 3 ≡ w
operand_bits k w h = ap (λ (l : List ℕ). u16_at l 3) (framed_long (branch_op_code k) (le16 w) (branch_long k)) ∙ (unfold le16 in two_back w h)

-- ---- the block of a tree

module _ (t : Actions) (fits : BodyFits t) (near : too_far (events t) (events t) ≡ none) where
  abbrev bits : ℕ → ℕ → ℕ
  bits = branch_bits t

  abbrev xs : List Action
  xs = body_in_order t

  abbrev final : ℕ → Option Position
  final l = lookup l (events t)

  -- the block is the actions' own bytes, in sheet order, and an End
  is_ended : block_bytes t ≡ ended bits xs
  unfolding block_bytes
  is_ended = ap (λ (u : List ℕ). u ++ end_step) (body_in_order_lem bits t 0)

  all_fit : All Fits xs
  all_fit = body_fits_in_order t fits

  -- each action is a step
  action_step : (before : List Action) (a : Action) (after : List Action) → xs ≡ before ++ (a ∷ after)
      → StepAt (block_bytes t) (length before) (total own_size before) (own_bytes bits a (total own_size before))
  action_step before a after e =
      subst (λ (q : List ℕ). StepAt q (length before) (total own_size before) (own_bytes bits a (total own_size before))) (sym (is_ended ∙ ap (ended bits) e))
      (action_at bits before a after (subst (All Fits) e all_fit))

  -- and where actions can be parted, one begins
  begins : (before after : List Action) → xs ≡ before ++ after → Begins (block_bytes t) (total own_size before)
  begins before after e = subst (λ (q : List ℕ). Begins q (total own_size before)) (sym (is_ended ∙ ap (ended bits) e)) (begins_at bits before after (subst (All Fits) e all_fit))

  -- so one begins where a label is recorded
  record_begins : (l : ℕ) (r : Position) → final l ≡ some r → Begins (block_bytes t) r.at
  record_begins l r e =
      let b : Between xs r = subst (IfRecorded (Between xs)) e (lookup_is (Placed xs) (Between xs) (λ k s h. h) l (events t) (events_placed t)) in
      subst (Begins (block_bytes t)) b.is_at (begins b.before b.later b.is_among)

  -- a branch among the actions lands by its label's record
  branch_lands : (before : List Action) (k : Branch) (l : ℕ) (after : List Action) → xs ≡ before ++ (branch k l ∷ after)
      → Lands (block_bytes t) (total own_size before) (own_bytes bits (branch k l) (total own_size before)) (landing (final l) (total own_size before + 5))
  unfolding own_bytes own_size branch_bits events
  branch_lands before k l after e =
      let p : ℕ = total own_size before in
      let w : ℕ = distance_bits (final l) (p + 5) in
      let z : 0 + p ≡ p = omega arith in
      let n : Near final p l = subst (λ (i : ℕ). Near final i l) z (from_at (NearIf final) before (branch k l) after 0 (subst (λ (u : List Action). EachFrom (NearIf final) u 0) e (body_near_in_order final t block_start near))) in
      record {
        is_long = length_own bits (branch k l) p;
        is_there =
            ap (λ (u : ℕ). pos (p + 5) +ℤ signed16 u) (operand_bits k w (bits_small (final l) (p + 5)))
            ∙ ap (λ (u : ℤ). pos (p + 5) +ℤ u) (judged_signed (final l) (p + 5) n.number n.nearby) ∙ distance_added (final l) (p + 5);
        begins = go (final l) refl;
      }
    where
      behind : total own_size (before ++ (branch k l ∷ [])) ≡ total own_size before + 5
      behind = total_append own_size before (branch k l ∷ []) ∙ (unfold total in refl)

      go : (o : Option Position) → final l ≡ o → Begins (block_bytes t) (landing o (total own_size before + 5))
      go none f = unfold landing in subst (Begins (block_bytes t)) behind (begins (before ++ (branch k l ∷ [])) after (e ∙ sym (append_assoc before (branch k l ∷ []) after)))
      go (some r) f = unfold landing in record_begins l r f

  -- whatever step has a branch's opcode is a branch among the actions
  all_lands : AllLand (block_bytes t)
  all_lands k p x s b = ⊎_elim (λ n. action n.before n.action n.later n.is_among n.is_so.0 n.is_so.1) (λ e. end e) (step_is bits xs 0 s.before x s.after all_fit s.are_before s.is_step (sym is_ended ∙ s.is_whole))
    where
      end : x ≡ end_step → LandsSomewhere (block_bytes t) p x
      end e = other refl refl (subst (λ (u : List ℕ). BranchOpcode (get_or u 0 0)) e b)

      lands : (before : List Action) (a : Action) (after : List Action) → IsBranch a → xs ≡ before ++ (a ∷ after) → total own_size before ≡ p → own_bytes bits a (total own_size before) ≡ x
          → LandsSomewhere (block_bytes t) p x
      lands before a after (a_branch j l) e f g =
          record {
            to = landing (final l) (total own_size before + 5);
            lands = subst (λ (u : List ℕ). Lands (block_bytes t) p u (landing (final l) (total own_size before + 5))) g
                (subst (λ (i : ℕ). Lands (block_bytes t) i (own_bytes bits (branch j l) (total own_size before)) (landing (final l) (total own_size before + 5))) f (branch_lands before j l after e));
          }

      action : (before : List Action) (a : Action) (after : List Action) → xs ≡ before ++ (a ∷ after) → length s.before ≡ total own_size before → x ≡ own_bytes bits a (0 + total own_size before)
          → LandsSomewhere (block_bytes t) p x
      action before a after e f g =
          let n : ℕ = total own_size before in
          let z : 0 + n ≡ n = omega arith in
          let is : x ≡ own_bytes bits a n = g ∙ ap (own_bytes bits a) z in
          let fit : Fits a = (all_right Fits before (a ∷ after) (subst (All Fits) e all_fit)).0 in
          lands before a after (own_branch bits a n fit (subst (λ (u : List ℕ). BranchOpcode (get_or u 0 0)) is b)) e (sym f ∙ s.is_place) (sym is)

  -- each branch of the tree is the step of its number
  branch_steps : (es : List Event) → All (Named xs) es → EachBranch (BranchStep t (block_bytes t)) es
  branch_steps [] h = tt
  branch_steps (label_at l s ∷ es) h = branch_steps es h.1
  branch_steps (branch_at l s ∷ es) h = (is h.0.before h.0.action h.0.later h.0.is_among h.0.is_number h.0.is_so.0 h.0.is_so.1, branch_steps es h.1)
    where
      is : (before : List Action) (a : Action) (after : List Action) → xs ≡ before ++ (a ∷ after) → length before ≡ s.number → BranchTo l a → s.at ≡ total own_size before + 3 → BranchStep t (block_bytes t) l s
      is before (flat f) after e n b i = elim b [ ]
      is before (owner o b) after e n c i = elim c [ ]
      is before (Try b c f) after e n g i = elim g [ ]
      is before (branch k l) after e n branch_to i =
          let p : ℕ = total own_size before in
          let j : p + 5 ≡ s.at + 2 = omega (arith, i) in
          record {
            place = p;
            x = own_bytes bits (branch k l) p;
            is_step = subst (λ (m : ℕ). StepAt (block_bytes t) m p (own_bytes bits (branch k l) p)) n (action_step before (branch k l) after e);
            is_branch = unfold own_bytes in branch_opcode k (le16 (bits l (p + 5)));
            is_operand = i;
            lands = subst (λ (m : ℕ). Lands (block_bytes t) p (own_bytes bits (branch k l) p) (landing (final l) m)) j (branch_lands before k l after e);
          }
  branch_steps (payload_too_long n s ∷ es) h = branch_steps es h.1
  branch_steps (body_too_long n s ∷ es) h = branch_steps es h.1

  pub tree_tied : Tied t (block_bytes t)
  tree_tied =
      record {
        is_clean = ap step is_ended ∙ stepped_step (clean (all_steps bits xs 0 all_fit)) ∙ ap (λ (n : ℕ). Done (n + 1)) (length_order t);
        are_steps = numbered;
        all_land = all_lands;
        are_branches = branch_steps (events t) (events_named t);
      }
    where
      numbered : (k : ℕ) → k < body_count t → Names xs k (λ p a. StepAt (block_bytes t) k p (own_bytes bits a p))
      numbered k l =
          let n = names_each xs k (omega (arith, l, length_order t)) in
          record {
            before = n.before;
            action = n.action;
            later = n.later;
            is_among = n.is_among;
            is_number = n.is_number;
            is_so = subst (λ (m : ℕ). StepAt (block_bytes t) m (total own_size n.before) (own_bytes bits n.action (total own_size n.before))) n.is_number (action_step n.before n.action n.later n.is_among);
          }

-- ---- a packed sheet

-- "every Done block, in each mode and edition", with every book, is tied to whatever tree its sheet reads as
pub done_tied : (m : Mode) (s book : List ℕ) (room : ℕ) (q : List ℕ) (t : Actions) → Bytes s → Bytes book → ReadsAs s book t → pack m s book room ≡ Done q → Tied t q
done_tied m s book room q t small lent r e =
    let w : Written t room q = is_written m s book room q t r e in
    subst (Tied t) w.is_block (tree_tied t (tree_fits s book t small lent r w.is_short) w.nearby)
