-- Judging in parts: the first of two refusals, the branches among events, the final record of a label, and the first branch that a
-- rule refuses. Assumes nothing.
use Rattle.std.specs.Prelude.{◌≡◌, ℕ, Bool, eqb}
use Rattle.std.proofs.Math.Path.{refl, sym, ap}
use Rattle.std.proofs.Common.{ap₂, ◌∙◌}
use Rattle.std.proofs.Math.Bool.{true, false}
use Rattle.std.proofs.Math.Option.{Option, none, some, none-ne-some}
use mathlib.Core.List.{List, [], ◌∷◌, ◌++◌}
use Rattle.layout.specs.Lists.{All}
use Rattle.layout.specs.Answers.{Refusal}
use Rattle.layout.specs.Write.{Position, Event, label_at, branch_at, payload_too_long, body_too_long, later, record_if, lookup}
use Rattle.layout.specs.Judge.{or_else, first_refused}
use Rattle.laws.specs.Branches.{EachBranch, IfRecorded}

-- ---- the first of two refusals

pub or_left : (x y : Option Refusal) → or_else x y ≡ none → x ≡ none
unfolding or_else
or_left none y e = refl
or_left (some r) y e = e

pub or_right : (x y : Option Refusal) → or_else x y ≡ none → y ≡ none
unfolding or_else
or_right none y e = e
or_right (some r) y e = absurd (none-ne-some r (sym e))

pub or_assoc : (x y z : Option Refusal) → or_else (or_else x y) z ≡ or_else x (or_else y z)
unfolding or_else
or_assoc none y z = refl
or_assoc (some r) y z = refl

module _ (P : ℕ → Position → Type 0) where
  pub each_of : ((l : ℕ) (s : Position) → P l s) → (es : List Event) → EachBranch P es
  each_of h [] = tt
  each_of h (label_at l s ∷ es) = each_of h es
  each_of h (branch_at l s ∷ es) = (h l s, each_of h es)
  each_of h (payload_too_long n s ∷ es) = each_of h es
  each_of h (body_too_long n s ∷ es) = each_of h es

  pub each_append : (xs ys : List Event) → EachBranch P xs → EachBranch P ys → EachBranch P (xs ++ ys)
  each_append [] ys h k = k
  each_append (label_at l s ∷ xs) ys h k = each_append xs ys h k
  each_append (branch_at l s ∷ xs) ys h k = (h.0, each_append xs ys h.1 k)
  each_append (payload_too_long n s ∷ xs) ys h k = each_append xs ys h k
  each_append (body_too_long n s ∷ xs) ys h k = each_append xs ys h k

  module _ (Q : ℕ → Position → Type 0) where
    pub each_then : ((l : ℕ) (s : Position) → P l s → Q l s) → (es : List Event) → EachBranch P es → EachBranch Q es
    each_then f [] h = tt
    each_then f (label_at l s ∷ es) h = each_then f es h
    each_then f (branch_at l s ∷ es) h = (f l s h.0, each_then f es h.1)
    each_then f (payload_too_long n s ∷ es) h = each_then f es h
    each_then f (body_too_long n s ∷ es) h = each_then f es h

    pub each_both : (es : List Event) → EachBranch P es → EachBranch Q es → EachBranch (λ l s. P l s × Q l s) es
    each_both [] h k = tt
    each_both (label_at l s ∷ es) h k = each_both es h k
    each_both (branch_at l s ∷ es) h k = ((h.0, k.0), each_both es h.1 k.1)
    each_both (payload_too_long n s ∷ es) h k = each_both es h k
    each_both (body_too_long n s ∷ es) h k = each_both es h k

-- it is one of those that were made, and so is as they are
module _ (Q : Event → Type 0) (P : Position → Type 0) (of-label : (l : ℕ) (s : Position) → Q (label_at l s) → P s) where
  later_is : (o p : Option Position) → IfRecorded P o → IfRecorded P p → IfRecorded P (later o p)
  unfolding later
  later_is o none h k = h
  later_is o (some s) h k = k

  record_is : (t : Bool) (s : Position) → P s → IfRecorded P (record_if t s)
  unfolding record_if
  record_is true s h = h
  record_is false s h = tt

  pub lookup_is : (l : ℕ) (es : List Event) → All Q es → IfRecorded P (lookup l es)
  unfolding lookup
  lookup_is l [] h = tt
  lookup_is l (label_at k s ∷ es) h = later_is (record_if (eqb l k) s) (lookup l es) (record_is (eqb l k) s (of-label k s h.0)) (lookup_is l es h.1)
  lookup_is l (branch_at k s ∷ es) h = lookup_is l es h.1
  lookup_is l (payload_too_long n s ∷ es) h = lookup_is l es h.1
  lookup_is l (body_too_long n s ∷ es) h = lookup_is l es h.1

-- ---- the first that a rule refuses, by the final records

-- what is so for one branch after the other, by two rules or by two records of each label
module _ (R : Option Refusal → Option Refusal → Type 0) (nothing : R none none)
    (then : (x x' y y' : Option Refusal) → R x x' → R y y' → R (or_else x y) (or_else x' y'))
    (rule rule' : Option Position → Position → Option Refusal) (final final' : ℕ → Option Position) where
  pub each_refused : (es : List Event) → EachBranch (λ l s. R (rule (final l) s) (rule' (final' l) s)) es → R (first_refused rule final es) (first_refused rule' final' es)
  unfolding first_refused
  each_refused [] h = nothing
  each_refused (label_at l s ∷ es) h = each_refused es h
  each_refused (branch_at l s ∷ es) h = then _ _ _ _ h.0 (each_refused es h.1)
  each_refused (payload_too_long n s ∷ es) h = each_refused es h
  each_refused (body_too_long n s ∷ es) h = each_refused es h

module _ (rule rule' : Option Position → Position → Option Refusal) (final final' : ℕ → Option Position) where
  -- the same, where each branch is judged the same
  pub refused_same : (es : List Event) → EachBranch (λ l s. rule (final l) s ≡ rule' (final' l) s) es → first_refused rule final es ≡ first_refused rule' final' es
  refused_same es h = each_refused (λ x y. x ≡ y) refl (λ x x' y y' e f. ap₂ or_else e f) rule rule' final final' es h

module _ (rule : Option Position → Position → Option Refusal) (final : ℕ → Option Position) where
  -- of two parts, the first part's, or else the second's
  pub refused_append : (xs ys : List Event) → first_refused rule final (xs ++ ys) ≡ or_else (first_refused rule final xs) (first_refused rule final ys)
  unfolding first_refused
  refused_append [] ys = unfold or_else in refl
  refused_append (label_at l s ∷ xs) ys = refused_append xs ys
  refused_append (branch_at l s ∷ xs) ys =
      ap (or_else (rule (final l) s)) (refused_append xs ys)
      ∙ sym (or_assoc (rule (final l) s) (first_refused rule final xs) (first_refused rule final ys))
  refused_append (payload_too_long n s ∷ xs) ys = refused_append xs ys
  refused_append (body_too_long n s ∷ xs) ys = refused_append xs ys

  -- where it refuses none, it takes each
  pub none_refused : (es : List Event) → first_refused rule final es ≡ none → EachBranch (λ l s. rule (final l) s ≡ none) es
  unfolding first_refused
  none_refused [] e = tt
  none_refused (label_at l s ∷ es) e = none_refused es e
  none_refused (branch_at l s ∷ es) e =
      (or_left (rule (final l) s) (first_refused rule final es) e, none_refused es (or_right (rule (final l) s) (first_refused rule final es) e))
  none_refused (payload_too_long n s ∷ es) e = none_refused es e
  none_refused (body_too_long n s ∷ es) e = none_refused es e

  -- "first branch in writing order": what it refuses is one branch, and it takes each before that
  pub record Decided (es : List Event) (r : Refusal) : Type 0 where
    pub before : List Event
    pub label : ℕ
    pub operand : Position
    pub later : List Event
    pub is_among : es ≡ before ++ (branch_at label operand ∷ later)
    pub is_refused : rule (final label) operand ≡ some r
    pub are_taken : EachBranch (λ l s. rule (final l) s ≡ none) before

  -- one more event in front that is taken
  one_more : {es : List Event} {r : Refusal} (e : Event) → EachBranch (λ l s. rule (final l) s ≡ none) (e ∷ []) → Decided es r → Decided (e ∷ es) r
  one_more e h d = record {
    before = e ∷ d.before;
    label = d.label;
    operand = d.operand;
    later = d.later;
    is_among = ap (λ xs. e ∷ xs) d.is_among;
    is_refused = d.is_refused;
    are_taken = each_append (λ l s. rule (final l) s ≡ none) (e ∷ []) d.before h d.are_taken;
  }

  pub decided : (es : List Event) (r : Refusal) → first_refused rule final es ≡ some r → Decided es r
  unfolding first_refused
  decided [] r e = absurd (none-ne-some r e)
  decided (label_at l s ∷ es) r e = one_more (label_at l s) tt (decided es r e)
  decided (branch_at l s ∷ es) r e = go (rule (final l) s) refl e (decided es r)
    where
      go : (x : Option Refusal) → rule (final l) s ≡ x → or_else x (first_refused rule final es) ≡ some r → (first_refused rule final es ≡ some r → Decided es r) → Decided (branch_at l s ∷ es) r
      go none i k next = one_more (branch_at l s) (i, tt) (next (unfold or_else in k))
      go (some q) i k next = record { before = []; label = l; operand = s; later = es; is_among = refl; is_refused = i ∙ (unfold or_else in k); are_taken = tt }
  decided (payload_too_long n s ∷ es) r e = one_more (payload_too_long n s) tt (decided es r e)
  decided (body_too_long n s ∷ es) r e = one_more (body_too_long n s) tt (decided es r e)
