-- What was read, and what is written of it, where the bytes of the reader are known. Assumes nothing.
use mathlib.Core.Path.{◌≡◌, ap, subst, ◌∙◌}
use mathlib.Core.List.{List, [], ◌++◌}
use Prim.Native.Nat.{ℕ}
use native.Mathlib.Omega.{arith}
use lib.ListN.{take}
use lib.Seq.{take-take}
use Rattle.std.specs.Prelude.{Result, Option, Ok, Err, Some, None, OnOk, IfSome}
use Rattle.std.specs.Option.{option_map}
use Rattle.std.specs.Io.KnownBytes.{Appends}
use Rattle.print.specs.Text.{block_text}

-- of a reader with a limit, no more than the limit was read
limited_by : (known : Option (List ℕ)) (filled cut : List ℕ) → cut ≡ take 65536 filled → IfSome (option_map (take 65536) known) (λ xs. filled ≡ [] ++ xs)
    → IfSome known (λ xs. cut ≡ take 65536 xs)
limited_by None filled cut e h = tt
limited_by (Some xs) filled cut e h = e ∙ ap (λ (l : List ℕ). take 65536 l) h ∙ take-take 65536 65536 xs (omega arith)

pub limited : (known inner : Option (List ℕ)) (limit : ℕ) (front filled cut : List ℕ) → inner ≡ known → limit ≡ 65536 → front ≡ [] → cut ≡ take 65536 filled
    → IfSome (option_map (take limit) inner) (λ xs. filled ≡ front ++ xs) → IfSome known (λ xs. cut ≡ take 65536 xs)
limited known inner limit front filled cut e f g h k =
    limited_by known filled cut h
    (subst (λ (o : Option (List ℕ)). IfSome (option_map (take 65536) o) (λ xs. filled ≡ [] ++ xs)) e
    (subst (λ (n : ℕ). IfSome (option_map (take n) inner) (λ xs. filled ≡ [] ++ xs)) f
    (subst (λ (l : List ℕ). IfSome (option_map (take limit) inner) (λ xs. filled ≡ l ++ xs)) g k)))

-- the text of what was read is the text of the reader's bytes, as far as they were read
pub sent : {U E : Type 0} (r : Result U E) (known a b : Option (List ℕ)) (items input : List ℕ) → OnOk r (Appends a b (block_text input)) → input ≡ items
    → IfSome known (λ xs. items ≡ take 65536 xs) → OnOk r (IfSome known (λ xs. Appends a b (block_text (take 65536 xs))))
sent (Ok u) None a b items input h e k = tt
sent (Ok u) (Some xs) a b items input h e k = subst (λ (i : List ℕ). Appends a b (block_text i)) (e ∙ k) h
sent (Err e) known a b items input h f k = tt
