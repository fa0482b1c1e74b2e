-- Laws of `scanned`: from the code's answer to the reading and back, and one scan after another. Assumes nothing.
use mathlib.Core.Path.{◌≡◌, refl, sym, ap, ap₂, ◌∙◌}
use Prim.Native.Nat.{ℕ, ◌+◌, ◌<◌}
use mathlib.Core.Bool.{Bool, true, false}
use lib.ListN.{length}
use mathlib.Core.List.{List}
use Rattle.std.specs.Prelude.{Result, Ok, Err}
use Rattle.std.specs.Result.{IsErrAnd}
use Rattle.layout.specs.Answers as answers
use Rattle.layout.specs.Read.{Place, placed, stop, Read, got, bad, Reader, chain, if_whole}
use Rattle.laws.specs.Begun.{Fields, read, met}
use Rattle.positions.specs.declared.Spot.{Spot}
use Rattle.positions.specs.declared.Stop as code
use Rattle.positions.specs.Scanned.{fault_of, meant, ends_at, stops_at, scanned}
use Rattle.positions.proofs.Answers.{ok_same, err_same, ok_not_err}
use Rattle.operands.specs.Operands.{CutShort}

-- a `?` that passes an error on returns it
pub passed : {T E : Type 0} {e : E} (r : Result T E) → IsErrAnd r (λ y. y ≡ e) → r ≡ Err e
passed (Ok x) h = absurd h
passed (Err y) h = ap Err h

module _ {A : Type 0} (size : A → ℕ) (pos : ℕ) where
  -- an answer that ends says what was read
  pub ends_is : {r : Result Spot code.Stop} {s : Spot} (x : Read A) → r ≡ scanned size pos x → r ≡ Ok s
      → (a : A) × (x ≡ got a (placed s.at)) × (s.pos.0 ≡ pos + size a)
  unfolding scanned
  ends_is (got a p) e f =
      let k = ok_same (sym e ∙ f) in
      (a, ap (λ (t : Spot). got a (placed t.at)) k, ap (λ (t : Spot). t.pos.0) (sym k))
  ends_is (bad g p) e f = ok_not_err (sym f ∙ e)

  -- one that stops in a field says which fault was met
  pub stops_is : {r : Result Spot code.Stop} {s : code.Stop} {p : Place} {x : Read A} → Fields p x → r ≡ scanned size pos x → r ≡ Err s
      → (g : answers.Fault) × (x ≡ bad g (stop (placed s.place))) × (s.fault ≡ fault_of g)
  unfolding scanned
  stops_is (read h) e f = ok_not_err (sym e ∙ f)
  stops_is (met {f = g} {n = n} h) e f =
      let k = err_same (sym e ∙ f) in
      (g, ap (λ (t : code.Stop). bad g (stop (placed t.place))) k, ap (λ (t : code.Stop). t.fault) (sym k))

  -- and back
  pub ends : {a : A} {q : ℕ} {s : Spot} {x : Read A} → x ≡ got a (placed q) → s.at ≡ q → s.pos.0 ≡ pos + size a → Ok s ≡ scanned size pos x
  unfolding scanned
  ends {a} {q} {s} e f g = rw e (ap (λ (n : ℕ). ends_at n s.pos) f ∙ ap (λ (n : ℕ). ends_at q (record { 0 = n })) g)

  pub stops : {g : answers.Fault} {q : ℕ} {x : Read A} → x ≡ bad g (stop (placed q)) → stops_at q (fault_of g) ≡ scanned size pos x
  unfolding scanned
  stops e = rw e

  -- a field is cut short where fewer than n bytes stand
  pub cut : {r : Result Spot code.Stop} {s : code.Stop} {x : Read A} (b : List ℕ) (at n : ℕ) → IsErrAnd r (λ e. e ≡ s) → CutShort b at n s
      → (length b < at + n → x ≡ bad answers.CutShort (stop (placed at))) → r ≡ scanned size pos x
  unfolding scanned fault_of
  cut {r} b at n g h e = passed r g ∙ rw (e h.0) (ap Err h.1)

  -- a fault goes past what would have followed
  pub stops_then : {B : Type 0} {r r' : Result Spot code.Stop} {s : code.Stop} (t : B → ℕ) (p : ℕ) (x : Read B) (k : B → Reader A) → r ≡ scanned t p x → r ≡ Err s
      → IsErrAnd r' (λ e. e ≡ s) → r' ≡ scanned size pos (chain x k)
  unfolding scanned
  stops_then t p (got b q) k e h g = ok_not_err (sym e ∙ h)
  stops_then {r' = r'} t p (bad f q) k e h g = passed r' g ∙ sym h ∙ e

  -- what is read is made into something else, and measured as that
  pub scanned_as : {B : Type 0} (g : B → A) (s : B → ℕ) (w : ℕ) (x : Read B) → ((b : B) → pos + size (g b) ≡ w + s b)
      → scanned s w x ≡ scanned size pos (chain x (λ b q. got (g b) q))
  unfolding scanned
  scanned_as g s w (got b q) h = ap (λ (n : ℕ). ends_at q.at (record { 0 = n })) (sym (h b))
  scanned_as g s w (bad f p) h = refl

  -- the same reading, measured from another position
  pub scanned_from : (s : A → ℕ) (w : ℕ) (x : Read A) → ((a : A) → pos + size a ≡ w + s a) → scanned s w x ≡ scanned size pos x
  unfolding scanned
  scanned_from s w (got a q) h = ap (λ (n : ℕ). ends_at q.at (record { 0 = n })) (sym (h a))
  scanned_from s w (bad f p) h = refl

-- a scan that goes on from a spot
pub from_spot : {A : Type 0} {r : Result Spot code.Stop} {s : Spot} {q w : ℕ} (size : A → ℕ) (f : Reader A) → s.at ≡ q → s.pos.0 ≡ w
    → r ≡ scanned size s.pos.0 (f (placed s.at)) → r ≡ scanned size w (f (placed q))
from_spot size f e g h = h ∙ ap₂ (λ (n m : ℕ). scanned size n (f (placed m))) g e

-- a number's reader tests what a run of its bytes tests
pub number_as : {A B : Type 0} (t : Bool) (p q : Place) (a : A) (c : B) (w : ℕ) → scanned (λ _. 0) w (if_whole t p c q) ≡ scanned (λ _. 0) w (if_whole t p a q)
unfolding if_whole scanned
number_as true p q a c w = refl
number_as false p q a c w = refl

-- a fault's name and back
pub meant_back : (f : answers.Fault) → meant (fault_of f) ≡ f
unfolding meant fault_of
meant_back answers.CutShort = refl
meant_back answers.UnknownCode = refl
meant_back answers.BadField = refl
meant_back answers.TooDeep = refl
meant_back answers.LeftOver = refl
