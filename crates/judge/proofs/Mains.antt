-- From the label tables to the definition of 10, 14 and 15: every position lies within the block, and in a short block no branch is
-- far. Assumes nothing.
use mathlib.Core.Path.{◌≡◌, refl, sym, ap, ◌∙◌, subst}
use Prim.Native.Nat.{ℕ, ◌+◌, ◌≤◌, ◌<◌}
use native.Mathlib.Omega.{arith}
use mathlib.Core.Bool.{Bool, true, false, not, ◌&&◌, and-eq-true_iff}
use mathlib.Core.Option.{Option, none, some}
use mathlib.Core.List.{List, [], ◌∷◌}
use Rattle.std.specs.Prelude.{Result, Ok, Err}
use Rattle.std.specs.Result.{IsErrAnd}
use lib.ListN.{length, get_or, get_or-eq_default}
use lib.Dec.{leb, ltb}
use borrow.Author.Tests.{ltb-true, ltb-false, leb-true, le-leb, not-true}
use Rattle.layout.specs.Tree.{Actions, body_count}
use Rattle.layout.specs.Read.{Terms, placed, got, read_body}
use Rattle.layout.specs.Write.{body_size, Position, block_start, Event, label_at, branch_at, payload_too_long, body_too_long, trace_body, events, lookup}
use Rattle.layout.specs.Judge.{distance, is_near, far_unless, judged, or_else, Mode, plain_mode, refusal_if, barred, judged_in, first_refused, too_far, bad_branch}
use Rattle.layout.specs.Answers.{Refusal}
use Rattle.laws.proofs.Branches.{each_then, refused_same}
use Rattle.laws.proofs.Modes.{plain_if, plain_far}
use Rattle.laws.proofs.ReadFits.{good_got}
use Rattle.laws.specs.Books.{WordsShort}
use Rattle.laws.proofs.Shares.{body_most}
use Rattle.laws.proofs.Packed.{same_tree}
use Rattle.laws.proofs.Within.{AllWithin, body_within, Recorded, lookup_within}
use Rattle.labels.specs.Table.{slot_of, kept, homed, unnumbered, TableHolds}
use Rattle.positions.specs.declared.BytePosition.{BytePosition}
use Rattle.positions.specs.declared.Cursor.{Cursor}
use Rattle.labels.proofs.Labels.{table_record, both_record}
use Rattle.laws.specs.Resolved.{body_length, body_events}
use Rattle.measure.specs.Walk.{measure, branches, uncounted, measured}
use Rattle.pcode.proofs.Readings.{given}
use Rattle.pcode.proofs.Trees.{UnderBody, main_body, body_under}
use Rattle.pcode.proofs.Labels as labels
use Rattle.pcode.proofs.Labels.{BranchesUnder}
use Rattle.judge.specs.declared.Refused.{Refused}
use Rattle.judge.specs.declared.Rules.{Rules}
use Rattle.labels.specs.Mains.{MainMeasured}
use Rattle.judge.specs.Judging.{mode_of, record_by, refused_by, Judgeable, Judging, MainJudgeable, Says, MainJudged}

-- ---- a short block

module _ (end : ℕ) where
  near_short : (o : Option Position) (p k : ℕ) → Recorded end o → p + 2 ≤ end → end ≤ 32768 → judged o (p + 2) k ≡ none
  unfolding judged far_unless is_near
  near_short none p n h k l = refl
  near_short (some s) p n h k l =
      let i : s.at ≤ p + 2 + 32767 = omega (arith, h, l) in
      let j : p + 2 ≤ s.at + 32768 = omega (arith, k, l) in
      rw (le-leb s.at (p + 2 + 32767) i, le-leb (p + 2) (s.at + 32768) j)

  none_far_short : (all es : List Event) → AllWithin end all → AllWithin end es → end ≤ 32768 → too_far all es ≡ none
  unfolding first_refused or_else
  none_far_short all [] h k l = refl
  none_far_short all (label_at m s ∷ es) h k l = none_far_short all es h k.1 l
  none_far_short all (branch_at m s ∷ es) h k l = rw (near_short (lookup m all) s.at s.number (lookup_within end m all h) k.0 l) (none_far_short all es h k.1 l)
  none_far_short all (payload_too_long m s ∷ es) h k l = none_far_short all es h k.1 l
  none_far_short all (body_too_long m s ∷ es) h k l = none_far_short all es h k.1 l

-- ---- by the tables as by the events

only_branches : (rule : Option Position → Position → Option Refusal) (final : ℕ → Option Position) (es : List Event) → first_refused rule final (branches es) ≡ first_refused rule final es
unfolding first_refused branches
only_branches rule final [] = refl
only_branches rule final (label_at l s ∷ es) = only_branches rule final es
only_branches rule final (branch_at l s ∷ es) = ap (or_else (rule (final l) s)) (only_branches rule final es)
only_branches rule final (payload_too_long n s ∷ es) = only_branches rule final es
only_branches rule final (body_too_long n s ∷ es) = only_branches rule final es

-- every slot of a table that holds such events is small
slots_small : (end : ℕ) (tab : List ℕ) (es : List Event) → end ≤ 1099511627776 → TableHolds tab es → AllWithin end es → (l : ℕ) → get_or tab l 0 ≤ 1099511627777
slots_small end tab es m h k l = go (ltb l (length tab)) refl
  where
    slot_within : (o : Option Position) → Recorded end o → kept slot_of o ≤ end + 1
    slot_within none h = unfold kept in omega arith
    slot_within (some s) h = unfold kept in omega (arith, h)

    go : (t : Bool) → ltb l (length tab) ≡ t → get_or tab l 0 ≤ 1099511627777
    go true e = omega (arith, m, h.holds l (ltb-true l (length tab) e), slot_within (lookup l es) (lookup_within end l es k))
    go false e =
        let z : get_or tab l 0 ≡ 0 = get_or-eq_default tab 0 (ltb-false l (length tab) e) in
        omega (arith, z)

-- no mode asks for a record's number
unnumbered_judged : (mode : Mode) (o : Option Position) (s : Position) → judged_in mode (unnumbered o) s ≡ judged_in mode o s
unfolding judged_in barred judged distance unnumbered
unnumbered_judged mode none s = refl
unnumbered_judged mode (some r) s = refl

-- a mode that is not contained does not ask for a record's home
unhomed : (mode : Mode) → mode.contained ≡ false → (home : ℕ) (o : Option Position) (s : Position) → judged_in mode (homed home (homed 0 o)) s ≡ judged_in mode o s
unfolding judged_in barred judged distance homed refusal_if
unhomed mode e home none s = refl
unhomed mode e home (some r) s = rw e

-- ---- a main body

module _ (terms : Terms) (b : List ℕ) (end : BytePosition) (rules : Rules) (g : MainJudgeable terms b end (mode_of rules.mode) rules.tab.now rules.homes.now) where
  abbrev mode : Mode
  mode = mode_of rules.mode

  abbrev tab : List ℕ
  tab = rules.tab.now

  abbrev homes : List ℕ
  homes = rules.homes.now

  abbrev m : MainMeasured terms b end tab
  m = g.measured

  abbrev all : List Event
  all = events m.tree

  is_body : read_body terms b 16 (placed 0) ≡ got m.reads.read m.reads.next
  is_body = main_body terms b m.reads.read m.reads.next m.reads.is_read

  within : AllWithin end.0 all
  unfolding events
  within = body_within end.0 m.tree block_start (omega (arith, m.is_end))

  under : BranchesUnder terms.label_bound all
  unfolding events
  under = labels.body_under terms.label_bound m.tree block_start (subst (UnderBody terms.label_bound) m.reads.is_tree (given (body_under terms b 16 (placed 0)) is_body))

  -- it is written in at most 196,608 bytes for each byte read
  end_small : WordsShort terms → end.0 ≤ 1099511627776
  end_small short =
      let g = good_got m.reads.read m.reads.next (body_most terms b m.bytes short 16 (placed 0) (omega arith)) is_body in
      omega (arith, m.is_end, ap body_size m.reads.is_tree, g.0.0, g.1, m.limited)

  pub main_asks : WordsShort terms → Judgeable terms (read_body terms b 16 (placed 0)) b (record { at = 0; pos = record { 0 = 0 }; number = record { 0 = 0 } }) rules
  main_asks short = record {
    roomy = record { bytes = m.bytes; inside = omega arith; room = omega (arith, m.limited) };
    before = omega arith;
    fitting = record { slots = m.slots; small = slots_small end.0 tab all (end_small short) m.holds within; lent = g.lent };
    value = m.reads.read;
    next = m.reads.next;
    reads = is_body;
  }

  judged_main : (r : Result (Unit {0}) Refused) → Says (bad_branch mode all all) r → MainJudged terms mode b r
  judged_main r s = record { says = λ t h. subst (λ (u : Actions). Says (bad_branch mode (events u) (events u)) r) (same_tree terms b m.tree t m.reads h) s }

  -- In plain mode only a distance is refused.
  pub main_clear : (clear : Bool) → clear ≡ (not mode.strict && (not mode.contained && leb end.0 32768)) → clear ≡ true → MainJudged terms mode b (Ok (tt {0}))
  main_clear clear e f =
      let k = (and-eq-true_iff (not mode.strict) (not mode.contained && leb end.0 32768)).0 (sym e ∙ f) in
      let i = (and-eq-true_iff (not mode.contained) (leb end.0 32768)).0 k.1 in
      let p : mode ≡ plain_mode = plain_if mode (not-true _ k.0) (not-true _ i.0) in
      let n = none_far_short end.0 all all within within (leb-true end.0 32768 i.1) in
      judged_main (Ok (tt {0})) (ap (λ (x : Mode). bad_branch x all all) p ∙ plain_far (λ l. lookup l all) all ∙ n)

  branch_same : (l : ℕ) (s : Position) → l < terms.label_bound → judged_in mode (record_by rules l) s ≡ judged_in mode (lookup l all) s
  branch_same l s h = go mode.contained refl
    where
      go : (t : Bool) → mode.contained ≡ t → judged_in mode (record_by rules l) s ≡ judged_in mode (lookup l all) s
      go true e = ap (λ o. judged_in mode o s) (both_record tab homes all m.holds g.holds l (omega (arith, h, m.slots)) (omega (arith, h, g.lent e))) ∙ unnumbered_judged mode (lookup l all) s
      go false e = ap (λ o. judged_in mode (homed (get_or homes l 0) o) s) (table_record tab all m.holds l (omega (arith, h, m.slots))) ∙ unhomed mode e (get_or homes l 0) (lookup l all) s

  by_tables : refused_by rules (branches (body_events m.reads.read block_start)) ≡ bad_branch mode all all
  by_tables =
      only_branches (judged_in mode) (record_by rules) (body_events m.reads.read block_start)
      ∙ ap (λ (t : Actions). refused_by rules (trace_body t block_start)) m.reads.is_tree
      ∙ (unfold events in refused_same (judged_in mode) (judged_in mode) (record_by rules) (λ l. lookup l all) all (each_then (λ l s. l < terms.label_bound) _ branch_same all under))

  here : (r : Result Cursor Refused) → Judging rules (measured body_length body_count body_events block_start (read_body terms b 16 (placed 0))) r
      → Judging rules (got (measure (0 + body_length m.reads.read) (0 + body_count m.reads.read) (branches (body_events m.reads.read block_start))) m.reads.next) r
  unfolding measured uncounted
  here r j = rw is_body at j

  pub main_passed : (c : Cursor) → Judging rules (measured body_length body_count body_events block_start (read_body terms b 16 (placed 0))) (Ok c) → MainJudged terms mode b (Ok (tt {0}))
  main_passed c j = judged_main (Ok (tt {0})) (sym by_tables ∙ (here (Ok c) j).0)

  pub main_bad : (x : Refused) (r : Result (Unit {0}) Refused) → IsErrAnd r (λ y. y ≡ x) → Judging rules (measured body_length body_count body_events block_start (read_body terms b 16 (placed 0))) (Err x) → MainJudged terms mode b r
  main_bad x (Ok u) p j = absurd p
  main_bad x (Err y) p j = judged_main (Err y) (rw p (sym by_tables ∙ (here (Err x) j).0))
