-- Laws of 11 and 0: from the room and what the writer leaves to the answer by the definitions. Assumes nothing.
use mathlib.Core.Path.{◌≡◌, refl, sym, ap, ◌∙◌, subst}
use Prim.Native.Nat.{ℕ, ◌+◌, ◌*◌, ◌≤◌, ◌<◌}
use native.Mathlib.Omega.{arith}
use mathlib.Core.List.{List, ◌++◌}
use Rattle.std.specs.Prelude.{Ok, Err}
use lib.ListN.{length, take, drop, length-take}
use Rattle.layout.specs.Answers.{NoRoom, Refused}
use Rattle.layout.specs.Answers as answers
use Rattle.layout.specs.Tree.{Actions}
use Rattle.layout.specs.Read.{Terms, deepest}
use Rattle.layout.specs.Write.{body_size, block_bytes, block_size}
use Rattle.layout.proofs.Lengths.{length_block}
use Rattle.layout.specs.Pack.{block_in, output}
use Rattle.layout.proofs.Order.{no_room, has_room}
use Rattle.laws.specs.Fits.{Bytes}
use Rattle.laws.proofs.ReadFits.{good_got}
use Rattle.laws.specs.Books.{WordsShort}
use Rattle.laws.proofs.Shares.{main_most}
use Rattle.laws.specs.Packed.{ReadsMain}
use Rattle.laws.proofs.Packed.{same_tree}
use Rattle.positions.specs.declared.BytePosition.{BytePosition}
use Rattle.stores.proofs.Stores.{filled}
use Rattle.write.specs.Bodies.{MainWritable, WroteBlock}
use Rattle.answer.specs.Answered.{Answer, meant, number, value, action, Answered}
use Rattle.answer.specs.declared.Refusal.TheVariants as refusal
use Rattle.answer.proofs.Told.{refused}
use Rattle.if_room.specs.Near.{MainNear, MainAnswered}

-- ---- an answer

-- What is left for its tree is left for whatever tree it is found to read as.
pub answered_by : {terms : Terms} {answer : Actions → ℕ → answers.Answer (List ℕ)} {b old new : List ℕ} {r : Answer} (t : Actions) → ReadsMain terms b t → Answered (answer t (length old)) old r new
    → MainAnswered terms answer b old r new
answered_by {terms} {answer} {b} {old} {new} {r} t h a =
    record { answered = λ u k. subst (λ (v : Actions). Answered (answer v (length old)) old r new) (same_tree terms b t u h k) a }

-- ---- a main body that reads whole

-- What it is written in, for each of its own bytes: a word of the book may stand for four.
tree_small : (terms : Terms) (b : List ℕ) (t : Actions) → Bytes b → WordsShort terms → ReadsMain terms b t → body_size t ≤ 196608 * length b
tree_small terms b t small short r = subst (λ (x : Actions). body_size x ≤ 196608 * length b) r.is_tree (good_got r.read r.next (main_most terms b small short deepest) r.is_read).0

module _ (terms : Terms) (b tab : List ℕ) (end : BytePosition) (m : MainNear terms b end tab) where
  abbrev t : Actions
  t = m.measured.tree

  -- The length of its block.
  len_is : end.0 + 1 ≡ block_size t
  unfolding block_size
  len_is = omega (arith, m.measured.is_end)

  pub block_long : end.0 + 1 ≡ length (block_bytes t)
  block_long = len_is ∙ sym (length_block t)

  -- It is short of every limit.
  pub len_small : WordsShort terms → end.0 + 1 ≤ 206158430209
  len_small short = omega (arith, m.measured.is_end, m.measured.limited, tree_small terms b t m.measured.bytes short m.measured.reads)

  module _ (o : List ℕ) where
    -- An output that is shorter is left as it was.
    pub near_no_room : length o < end.0 + 1 → MainAnswered terms block_in b o (Err (refusal.NoRoom (end.0 + 1))) o
    unfolding meant
    near_no_room l =
        answered_by t m.measured.reads (refused o (refusal.NoRoom (end.0 + 1)) (no_room t (length o) (omega (arith, len_is)) ∙ ap (λ (n : ℕ). Refused (NoRoom n)) (sym len_is)))

    module _ (l : end.0 + 1 ≤ length o) where
      -- The front that is lent to the writer.
      pub front_long : length (take (end.0 + 1) o) ≡ end.0 + 1
      front_long = simp length-take (omega arith)

      pub near_writable : WordsShort terms → MainWritable terms b tab (take (end.0 + 1) o)
      near_writable short =
          let j = m.measured in
          record {
            bytes = j.bytes;
            tree = t;
            reads = j.reads;
            holds = j.holds;
            slots = j.slots;
            nearby = m.nearby;
            room = omega (arith, front_long, len_is);
            sums = omega (arith, front_long, len_small short);
            places = omega (arith, j.limited);
          }

      -- The block fills that front, and the rest keeps its values. The writer has reached the block's length.
      pub near_done : (front : List ℕ) (reached : BytePosition) → WroteBlock terms b (take (end.0 + 1) o) front reached
          → MainAnswered terms block_in b o (Ok reached.0) (front ++ drop (end.0 + 1) o)
      unfolding output number value action answers.number answers.value answers.action
      near_done front reached w =
          let f : front ≡ block_bytes t = w.wrote t m.measured.reads ∙ filled (take (end.0 + 1) o) (block_bytes t) (sym block_long ∙ sym front_long) in
          answered_by t m.measured.reads (done (has_room t (length o) (omega (arith, len_is))) block_long (w.long t m.measured.reads) f)
        where
          done : block_in t (length o) ≡ answers.Done (block_bytes t) → end.0 + 1 ≡ length (block_bytes t) → reached.0 ≡ length (block_bytes t) → front ≡ block_bytes t
              → Answered (block_in t (length o)) o (Ok reached.0) (front ++ drop (end.0 + 1) o)
          done e k l f = rw (e, k, l, f) (record { told = record { is_number = refl; is_value = refl; is_action = refl }; holds = refl })
