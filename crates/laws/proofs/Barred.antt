-- What a mode bars: what it asks of a branch, and what its Done says of a tree. Assumes nothing.
use Rattle.std.specs.Prelude.{◌≡◌, ℕ, Bool, ◌&&◌, not, List}
use Rattle.std.proofs.Math.Path.{refl}
use Rattle.std.proofs.Common.{sym, ◌∙◌}
use Rattle.std.proofs.Math.Bool.{true, false}
use Rattle.std.proofs.lemmas.Bool.{false≢true}
use Rattle.std.proofs.Math.Option.{Option, none, some, none-ne-some}
use Rattle.std.proofs.Math.Dec.{eqb}
use borrow.Author.Tests.{eqb-true, eq-eqb}
use Rattle.layout.specs.Answers.{NeverRecorded, StrayBranch, Done}
use Rattle.layout.specs.Tree.{Actions}
use Rattle.layout.specs.Write.{Position, lookup, events}
use Rattle.layout.specs.Judge.{Mode, plain_mode, refusal_if, barred}
use Rattle.layout.specs.Pack.{pack, ReadsAs}
use Rattle.laws.specs.Branches.{EachBranch}
use Rattle.laws.proofs.Branches.{each_then, each_both}
use Rattle.laws.proofs.Modes.{unbarred_plain, done_unbarred}
use Rattle.laws.specs.Barred.{Allowed, AtHome, HasRecord, TreeContained, TreeRecorded, at_home, has_record, nowhere}

module _ (m : Mode) where
  -- where it bars nothing, the branch is as it asks
  pub unbarred_allowed : (o : Option Position) (s : Position) → barred m o s ≡ none → Allowed m o s
  unfolding barred refusal_if
  unbarred_allowed none s e = record { is_recorded = λ k. absurd (none-ne-some (NeverRecorded s.at s.number) (sym (rw k at e))); is_home = λ k. nowhere }
  unbarred_allowed (some r) s e = record { is_recorded = λ k. has_record; is_home = λ k. at_home {r = r} {s = s} (go (eqb r.home s.home) refl (rw k at e)) }
    where
      go : (t : Bool) → eqb r.home s.home ≡ t → refusal_if (not t) (StrayBranch s.at s.number) ≡ none → r.home ≡ s.home
      go true i k = eqb-true r.home s.home i
      go false i k = absurd (none-ne-some (StrayBranch s.at s.number) (sym k))

  -- and where the branch is so, it bars nothing
  pub allowed_unbarred : (o : Option Position) (s : Position) → Allowed m o s → barred m o s ≡ none
  unfolding barred refusal_if
  allowed_unbarred none s h = go m.strict h.is_recorded
    where
      go : (t : Bool) → (t ≡ true → HasRecord none) → refusal_if t (NeverRecorded s.at s.number) ≡ none
      go true k = elim (k refl) [ ]
      go false k = refl
  allowed_unbarred (some r) s h = go m.contained h.is_home
    where
      same : AtHome (some r) s → r.home ≡ s.home
      same (at_home e) = e

      go : (t : Bool) → (t ≡ true → AtHome (some r) s) → refusal_if (t && not (eqb r.home s.home)) (StrayBranch s.at s.number) ≡ none
      go true k = rw (eq-eqb r.home s.home (same (k refl)))
      go false k = refl

module _ (m : Mode) where
  -- where both are so, every mode answers as plain mode
  pub recorded_plain : (s book : List ℕ) (t : Actions) (room : ℕ) → ReadsAs s book t → TreeRecorded t → TreeContained t → pack m s book room ≡ pack plain_mode s book room
  recorded_plain s book t room h r c =
      unbarred_plain m s book t room h
      (each_then _ _ (λ l s k. allowed_unbarred m (lookup l (events t)) s (record { is_recorded = λ e. k.0; is_home = λ e. k.1 })) (events t) (each_both _ _ (events t) r c))

  -- a mode that is not contained asks for the first alone
  pub recorded_uncontained : m.contained ≡ false → (s book : List ℕ) (t : Actions) (room : ℕ) → ReadsAs s book t → TreeRecorded t → pack m s book room ≡ pack plain_mode s book room
  recorded_uncontained off s book t room h r =
      unbarred_plain m s book t room h
      (each_then _ _ (λ l s k. allowed_unbarred m (lookup l (events t)) s (record { is_recorded = λ e. k; is_home = λ e. absurd (false≢true (sym off ∙ e)) })) (events t) r)

  done_allowed : (s book : List ℕ) (t : Actions) (room : ℕ) (q : List ℕ) → ReadsAs s book t → pack m s book room ≡ Done q
      → EachBranch (λ l s. Allowed m (lookup l (events t)) s) (events t)
  done_allowed s book t room q h e = each_then _ _ (λ l s k. unbarred_allowed m (lookup l (events t)) s k) (events t) (done_unbarred m s book t room q h e)

  -- "a branch whose label has no record stops the build": a strict Done has none
  pub done_recorded : m.strict ≡ true → (s book : List ℕ) (t : Actions) (room : ℕ) (q : List ℕ) → ReadsAs s book t → pack m s book room ≡ Done q → TreeRecorded t
  done_recorded strict s book t room q h e = each_then _ _ (λ l s k. k.is_recorded strict) (events t) (done_allowed s book t room q h e)

  -- "refuses a branch whose final label record is in another function body": a contained Done has none
  pub done_contained : m.contained ≡ true → (s book : List ℕ) (t : Actions) (room : ℕ) (q : List ℕ) → ReadsAs s book t → pack m s book room ≡ Done q → TreeContained t
  done_contained contained s book t room q h e = each_then _ _ (λ l s k. k.is_home contained) (events t) (done_allowed s book t room q h e)
