-- What two answers of a scan, or of a walk, that are the same agree in. Assumes nothing.
use Rattle.std.proofs.Common.{◌≡◌, ℕ, arith, Ok, Err, Result, ap}
use Rattle.positions.specs.declared.BytePosition.{BytePosition}
use Rattle.positions.specs.declared.ActionNumber.{ActionNumber}
use Rattle.positions.specs.declared.Fault.{Fault}
use Rattle.positions.specs.declared.Spot.{Spot}
use Rattle.positions.specs.declared.Stop.{Stop}
use Rattle.positions.specs.declared.Cursor.{Cursor}
use Rattle.positions.specs.declared.Halt.{Halt}
use Rattle.positions.specs.Scanned.{ends_at, stops_at, walks_to, halts_at}

pub ok_same : {A B : Type 0} {x y : A} → ◌≡◌ {A = Result A B} (Ok x) (Ok y) → x ≡ y
ok_same e = cc

pub err_same : {A B : Type 0} {x y : B} → ◌≡◌ {A = Result A B} (Err x) (Err y) → x ≡ y
err_same e = cc

pub ok_not_err : {A B C : Type 0} {x : A} {y : B} → ◌≡◌ {A = Result A B} (Ok x) (Err y) → C
ok_not_err e =
    let z : ◌≡◌ {A = ℕ} 0 1 = cc in
    absurd (omega arith)

pub same_ends : {p q : ℕ} {v w : BytePosition} → ends_at p v ≡ ends_at q w → (p ≡ q) × (v ≡ w)
same_ends e = (ap (λ (s : Spot). s.at) (ok_same e), ap (λ (s : Spot). s.pos) (ok_same e))

pub same_stops : {p q : ℕ} {f g : Fault} → stops_at p f ≡ stops_at q g → (p ≡ q) × (f ≡ g)
same_stops e = (ap (λ (s : Stop). s.place) (err_same e), ap (λ (s : Stop). s.fault) (err_same e))

pub same_walks : {p q : ℕ} {v w : BytePosition} {k l : ActionNumber} → walks_to p v k ≡ walks_to q w l → (p ≡ q) × (v ≡ w) × (k ≡ l)
same_walks e = (ap (λ (s : Cursor). s.at) (ok_same e), ap (λ (s : Cursor). s.pos) (ok_same e), ap (λ (s : Cursor). s.number) (ok_same e))

pub same_halts : {f g : Fault} {p q : ℕ} {k l : ActionNumber} → halts_at f p k ≡ halts_at g q l → (f ≡ g) × (p ≡ q) × (k ≡ l)
same_halts e = (ap (λ (s : Halt). s.fault) (err_same e), ap (λ (s : Halt). s.place) (err_same e), ap (λ (s : Halt). s.number) (err_same e))
