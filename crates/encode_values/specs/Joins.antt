-- Lists by their elements: what is written of a list is what is written of its first element, and then of the rest. Assumes nothing.
use Rattle.std.specs.Prelude.{◌≡◌, ℕ, suc, List, [], ◌∷◌, ◌++◌, refl}
use Rattle.layout.specs.Read.{placed, Read, got, bad, Reader, chain, repeat, read_string, read_param, read_value}
use Rattle.editions.specs.Allowed.{read_by}
use Rattle.editions.specs.declared.MainBody.{MainBody}
use Rattle.encode_values.specs.Pieces.{Piece, piece, written, joined, string_bytes, param_bytes, value_bytes, string_at, strings_at, param_at, params_at, value_at, values_at}

-- a list is nothing, or its first element and then the rest
pub record Joins (one : ℕ → Piece) (list : ℕ → ℕ → Piece) : Type 0 where
  pub none : (p : ℕ) → list 0 p ≡ piece [] p
  pub more : (n p : ℕ) → list (suc n) p ≡ chain (one p) (λ s q. written (λ t. s ++ t) (list n q.at))

module _ {A : Type 0} (read : Reader A) (bytes : A → List ℕ) where
  list_joins : Joins (λ p. written bytes (read (placed p))) (λ n p. written (joined bytes) (repeat read n (placed p)))
  unfolding repeat joined
  list_joins = record { none = λ p. refl; more = λ n p. more n (read (placed p)) }
    where
      rest : (a : A) (x : Read (List A)) → written (joined bytes) (chain x (λ xs r. got (a ∷ xs) r)) ≡ written (λ t. bytes a ++ t) (written (joined bytes) x)
      rest a (got xs r) = refl
      rest a (bad f r) = refl

      more : (n : ℕ) (x : Read A) → written (joined bytes) (chain x (λ a q. chain (repeat read n q) (λ xs r. got (a ∷ xs) r)))
          ≡ chain (written bytes x) (λ s q. written (λ t. s ++ t) (written (joined bytes) (repeat read n (placed q.at))))
      more n (got a q) = rest a (repeat read n q)
      more n (bad f q) = refl

pub strings_join : (m : MainBody) → Joins (string_at m) (strings_at m)
strings_join m = list_joins (read_string (read_by m) m.b.now) string_bytes

pub params_join : (m : MainBody) → Joins (param_at m) (params_at m)
params_join m = list_joins (read_param (read_by m) m.b.now) param_bytes

pub values_join : (m : MainBody) → Joins (value_at m) (values_at m)
values_join m = list_joins (read_value (read_by m) m.b.now) value_bytes
