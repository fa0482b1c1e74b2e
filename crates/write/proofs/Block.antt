-- What `append_main` and `main_at` cite: the actions and one End are the block. Assumes nothing.
use mathlib.Core.Path.{◌≡◌, sym, ap, ◌∙◌, subst}
use Prim.Native.Nat.{ℕ, ◌+◌, ◌≤◌}
use native.Mathlib.Omega.{arith}
use mathlib.Core.List.{List, [], ◌∷◌}
use lib.ListN.{length, length-append}
use lib.Seq.{sets, length-sets}
use Rattle.layout.specs.Tree.{Actions}
use Rattle.layout.specs.Read.{Terms}
use Rattle.layout.specs.Write.{branch_bits, block_bytes, block_size}
use Rattle.layout.proofs.Lengths.{length_body}
use Rattle.laws.proofs.Packed.{same_tree}
use Rattle.stores.proofs.Stores.{sets-append}
use Rattle.writer.specs.declared.Writer.{Writer}
use Rattle.writer.specs.Written.{appended}
use Rattle.write.specs.Bodies.{MainWritable, main_bytes, PutMain, AppendedMain, WroteBlock}

-- What was put into a writer's output, from its start on, is appended to the writer.
pub put_appended : (terms : Terms) (b zs : List ℕ) (w : Writer) (r : ℕ) → w.at.0 ≡ 0 → PutMain terms b w.out.now zs (record { 0 = r })
    → AppendedMain terms b w (record { out = record { ref_ptr = w.out.ref_ptr; ghost_name = w.out.ghost_name; now = zs }; at = record { 0 = r } })
put_appended terms b zs w r z p = record {
  is = λ t k i. record {
    out = record { ref_ptr = w.out.ref_ptr; ghost_name = w.out.ghost_name; now = ((p.put t k).0 ∙ ap (λ (m : ℕ). sets w.out.now m (main_bytes t)) (sym z)) i };
    at = record { 0 = ((p.put t k).1 ∙ from_start (length (main_bytes t))) i };
  };
}
  where
    from_start : (m : ℕ) → m ≡ w.at.0 + m
    from_start m = omega (arith, z)

-- The End.
abbrev pub end : List ℕ
end = 0 ∷ []

module _ (terms : Terms) (b tab out : List ℕ) (m : MainWritable terms b tab out) where
  -- The main body's actions, as bytes.
  abbrev pub actions : List ℕ
  actions = main_bytes m.tree

  -- The output once they are written.
  abbrev pub mid : List ℕ
  mid = sets out 0 actions

  -- The output once the End is written.
  abbrev pub last : List ℕ
  last = sets mid (0 + length actions) end

  -- There is room for the End behind the actions.
  pub end_room : 0 + length actions + 1 ≤ length mid
  unfolding main_bytes block_size
  end_room = subst (λ (l : ℕ). 0 + length actions + 1 ≤ l) (sym (length-sets out 0 actions)) (omega (arith, m.room, length_body (branch_bits m.tree) m.tree 0))

  -- The actions and the End are the block, and the position after them is its length.
  pub main_wrote : (new : List ℕ) (r : ℕ) → new ≡ last → r ≡ 0 + length actions + length end → WroteBlock terms b out new (record { 0 = r })
  unfolding main_bytes block_bytes
  main_wrote new r e l = record {
    wrote = λ t k. e ∙ sets-append out 0 actions end ∙ ap (λ (u : Actions). sets out 0 (block_bytes u)) (same_tree terms b m.tree t m.reads k);
    long = λ t k. l ∙ whole ∙ ap (λ (u : Actions). length (block_bytes u)) (same_tree terms b m.tree t m.reads k);
  }
    where
      whole : 0 + length actions + length end ≡ length (block_bytes m.tree)
      whole = omega (arith, length-append actions end)

  -- A writer that stood at the output's start has taken the actions.
  module _ (w₀ w₁ : Writer) (whole : w₀.out.now ≡ out) (start : w₀.at.0 ≡ 0) (taken : w₁ ≡ appended w₀ actions) where
    taken_out : w₁.out.now ≡ mid
    taken_out = ap (λ (w : Writer). w.out.now) taken ∙ ap (λ (l : List ℕ). sets l w₀.at.0 actions) whole ∙ ap (λ (n : ℕ). sets out n actions) start

    taken_at : w₁.at.0 ≡ 0 + length actions
    taken_at = ap (λ (w : Writer). w.at.0) taken ∙ ap (λ (n : ℕ). n + length actions) start

    -- It has room for the End.
    pub end_fits : w₁.at.0 + 1 ≤ length w₁.out.now
    end_fits = omega (arith, end_room, taken_at, ap length taken_out)

    -- With the End, the block is written.
    pub end_taken : (w₂ : Writer) → w₂ ≡ appended w₁ end → WroteBlock terms b out w₂.out.now w₂.at
    end_taken w₂ e =
        main_wrote w₂.out.now w₂.at.0
        (ap (λ (w : Writer). w.out.now) e ∙ ap (λ (l : List ℕ). sets l w₁.at.0 end) taken_out ∙ ap (λ (n : ℕ). sets mid n end) taken_at)
        (ap (λ (w : Writer). w.at.0) e ∙ ap (λ (n : ℕ). n + length end) taken_at)
