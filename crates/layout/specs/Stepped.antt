-- Stepping without an allowance: a byte string as a sequence of steps, and what the stepping check must answer for it. Stepping
-- proves that it answers just that. Assumes nothing.
use Rattle.std.specs.Prelude.{◌≡◌, ℕ, suc, ◌+◌, ◌*◌, ◌≤◌, ◌<◌, List, [], ◌∷◌, ◌++◌, length}
use Rattle.layout.specs.Answers.{Answer, Done, Refused, Unclean}

-- the bytes of one step: "one byte for an opcode under 80, else 3 plus the declared length"
pub data IsStep : List ℕ → Type 0 where
  short : {op : ℕ} → op < 128 → IsStep (op ∷ [])
  long : {op low high : ℕ} {rest : List ℕ} → 128 ≤ op → length rest ≡ low + 256 * high → IsStep (op ∷ low ∷ high ∷ rest)

-- a byte string that is a sequence of so many steps
pub data Steps : List ℕ → ℕ → Type 0 where
  nothing : Steps [] 0
  first : {s x r : List ℕ} {n : ℕ} → IsStep x → Steps r n → s ≡ x ++ r → Steps s (suc n)

-- an opcode, and what follows it to the end: its "step passes the end", or its "two length bytes aren't all there"
pub data Passes : List ℕ → Type 0 where
  unsaid : {op : ℕ} {rest : List ℕ} → 128 ≤ op → length rest < 2 → Passes (op ∷ rest)
  beyond : {op low high : ℕ} {rest : List ℕ} → 128 ≤ op → length rest < low + 256 * high → Passes (op ∷ low ∷ high ∷ rest)

-- the End is a step of one byte
abbrev pub end_step : List ℕ
end_step = 0 ∷ []

-- what the stepping check must answer for a byte string
pub data Stepped : List ℕ → Answer ℕ → Type 0 where
  -- "It is clean exactly when its last step is an End; the count is all steps"
  clean : {q : List ℕ} {n : ℕ} → Steps q n → Stepped (q ++ end_step) (Done (n + 1))
  -- "Unclean stays for a step that passes the end", at its opcode's own place
  passing : {q r : List ℕ} {n : ℕ} → Steps q n → Passes r → Stepped (q ++ r) (Refused (Unclean (length q)))
  -- "and for a last step that isn't an End, with the input's length"
  endless : {q x : List ℕ} {n : ℕ} → Steps q n → IsStep x → (x ≡ end_step → ⊥) → Stepped (q ++ x) (Refused (Unclean (length (q ++ x))))
  -- "The empty string is Unclean 0"
  vacant : Stepped [] (Refused (Unclean 0))

-- a sequence of n steps of which the last is an End
pub record IsClean (s : List ℕ) (n : ℕ) : Type 0 where
  pub before : List ℕ
  pub made : ℕ
  pub is_steps : Steps before made
  pub is_ended : s ≡ before ++ end_step
  pub is_count : n ≡ made + 1
