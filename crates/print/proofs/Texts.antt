-- Laws of the answer's line and of the whole text. Assumes nothing.
use mathlib.Core.Path.{◌≡◌, refl, sym, ap, ap₂, ◌∙◌}
use Prim.Native.Nat.{ℕ, ◌+◌, ◌*◌, ◌≤◌, ◌<◌}
use native.Mathlib.Omega.{arith}
use mathlib.Core.List.{List, [], ◌∷◌, append-nil}
use lib.ListN.{length, take, drop, length-append}
use lib.Seq.{take-append_seam, length-take-le}
use lib.IntN.{ℤ, pos}
use borrow.Author.Tests.{lt-ltb, le-ltb, eq-eqb, ne_eqb}
use Rattle.io.specs.Counts.{IsPrefixLen}
use Rattle.layout.specs.Lists.{pick}
use Rattle.layout.specs.Order.{signed64}
use Rattle.layout.specs.Answers.{CutShort, UnknownCode, BadField, TooDeep, LeftOver, Refusal, SheetTooLong, BadTrailer, ReadingFault, ActionLenOverflow, BlockLenOverflow, JumpOffsetOverflow, NoRoom, InputFull, Unclean, NeverRecorded, StrayBranch, BadBook, Answer, Done, Refused, Told, number, value, length_of, fault_number, refusal_number, refusal_value}
use Rattle.layout.specs.Judge.{plain_mode}
use Rattle.layout.specs.Book.{empty_book}
use Rattle.layout.specs.Pack.{pack, output, Outcome}
use Rattle.std.specs.Prelude.{Result, Ok, Err}
use Rattle.answer.specs.Answered.{meant, value_by, number as told_number, value as told_value}
use Rattle.answer.specs.declared.Refusal as code
use Rattle.print_text.specs.Pieces.{decimal, signed, hex_lines, Room, Put}
use Rattle.print_text.proofs.Hexes.{length-hex_lines}
use Rattle.print_text.proofs.Puts.{put_then, put_as}
use Rattle.print.specs.Text.{line, block_of, printed, answered, block_text}

-- ---- the line

-- the bits of 10 are put as a signed number, and those of another number as they are
pub put_distance : {n at r : ℕ} {old new : List ℕ} (bits : ℕ) → n ≡ 10 → Put (signed (signed64 bits)) at old new r → Put (signed (value_by n bits)) at old new r
unfolding value_by pick
put_distance {n} bits e h = rw (eq-eqb n 10 e) h

pub put_natural : {n at r : ℕ} {old new : List ℕ} (bits : ℕ) → (n ≡ 10 → ⊥) → Put (decimal bits) at old new r → Put (signed (value_by n bits)) at old new r
unfolding signed value_by pick
put_natural {n} bits e h = rw (ne_eqb n 10 e) h

-- number, space, value, line feed
pub put_pieces : {at p o q r : ℕ} {a b c d e : List ℕ} (n : ℕ) (v : ℤ) → Put (decimal n) at a b p → Put (32 ∷ []) p b c o → Put (signed v) o c d q → Put (10 ∷ []) q d e r
    → Put (line n v) at a e r
unfolding line
put_pieces n v h i j k = put_then h (put_then i (put_then j k))

-- the line of an answer whose number and bits were put
pub line_of : {n m at r : ℕ} {v : ℤ} {old new : List ℕ} (bits : ℕ) → n ≡ m → v ≡ value_by m bits → Put (line n (value_by n bits)) at old new r → Put (line m v) at old new r
line_of bits e f h = put_as (ap₂ line e (ap (λ (k : ℕ). value_by k bits) e ∙ sym f)) h

-- ---- the text

-- no refusal has the number 0
refused_number : (r : Refusal) → refusal_number r ≡ 0 → ⊥
unfolding refusal_number fault_number
refused_number (SheetTooLong n) e = omega (arith, e)
refused_number BadTrailer e = omega (arith, e)
refused_number (ReadingFault CutShort p k) e = omega (arith, e)
refused_number (ReadingFault UnknownCode p k) e = omega (arith, e)
refused_number (ReadingFault BadField p k) e = omega (arith, e)
refused_number (ReadingFault TooDeep p k) e = omega (arith, e)
refused_number (ReadingFault LeftOver p k) e = omega (arith, e)
refused_number (ActionLenOverflow n k) e = omega (arith, e)
refused_number (BlockLenOverflow n k) e = omega (arith, e)
refused_number (JumpOffsetOverflow z k) e = omega (arith, e)
refused_number (NoRoom n) e = omega (arith, e)
refused_number InputFull e = omega (arith, e)
refused_number (Unclean p) e = omega (arith, e)
refused_number (NeverRecorded p k) e = omega (arith, e)
refused_number (StrayBranch p k) e = omega (arith, e)
refused_number BadBook e = omega (arith, e)

pub refusal_told : {a : Result ℕ code.Refusal} {r : code.Refusal} → a ≡ Err r → told_number a ≡ 0 → ⊥
unfolding told_number
refusal_told {r = r} e h = refused_number (meant r) (rw e at h)

-- an input that fills, and one that does not
answered_full : (input : List ℕ) → length input ≡ 65536 → Refused InputFull ≡ answered input
unfolding answered pick
answered_full input e = rw (le-ltb (length input) 65536 (omega (arith, e))) refl

answered_packed : (input : List ℕ) → length input ≤ 65536 → (length input ≡ 65536 → ⊥) → pack plain_mode input empty_book 65536 ≡ answered input
unfolding answered pick
answered_packed input l e = rw (lt-ltb (length input) 65536 (less (length input) l e)) refl
  where
    less : (n : ℕ) → n ≤ 65536 → (n ≡ 65536 → ⊥) → n < 65536
    less n l e = omega (arith, l, e)

-- the text of the first
pub full_text : (input : List ℕ) → length input ≡ 65536 → line 12 (value_by 12 65536) ≡ block_text input
unfolding block_text printed block_of number value refusal_number refusal_value value_by pick
full_text input e = sym (append-nil (line 12 (pos 65536))) ∙ ap printed (answered_full input e)

-- and its output, which keeps its bytes
pub full_output : (input out : List ℕ) → length input ≡ 65536 → out ≡ output (answered input) out
unfolding output
full_output input out e = rw (sym (answered_full input e)) refl

-- the line of a refusal is its whole text
pub refused_text : {n at r i : ℕ} {v : ℤ} {old new : List ℕ} (a : Answer (List ℕ)) → Told length_of a n v i → (n ≡ 0 → ⊥) → Put (line n v) at old new r → Put (printed a) at old new r
unfolding printed block_of number
refused_text (Done q) t h k = absurd (h t.is_number)
refused_text (Refused r) t h k = put_as (ap₂ line t.is_number t.is_value ∙ sym (append-nil _)) k

-- that of a Done is followed by its block
pub done_text : {n at p r i : ℕ} {v : ℤ} {old mid new : List ℕ} (a : Answer (List ℕ)) (q : List ℕ) → Told length_of a n v i → a ≡ Done q → Put (line n v) at old mid p → Put (hex_lines q) p mid new r
    → Put (printed a) at old new r
unfolding printed block_of
done_text a q t e h k =
    let l : block_of a ≡ hex_lines q = rw e refl in
    put_then (put_as (ap₂ line t.is_number t.is_value) h) (put_as (sym l) k)

-- what the output holds after a Done: the block fills its front
pub record Filled (s o : List ℕ) (k : ℕ) (after : List ℕ) : Type 0 where
  pub is_within : k ≤ length after
  pub is_small : k ≤ 65536
  pub is_block : pack plain_mode s empty_book (length o) ≡ Done (take k after)

pub filled : (s o after : List ℕ) (k : ℕ) {i : ℕ} → Outcome plain_mode s empty_book o (told_number (Ok k)) (told_value (Ok k)) i after → length after ≡ length o → length o ≡ 65536 → Filled s o k after
unfolding output value number told_number told_value
filled s o after k {i} h e l = go (pack plain_mode s empty_book (length o)) refl h.told h.holds
  where
    go : (a : Answer (List ℕ)) → pack plain_mode s empty_book (length o) ≡ a → Told length_of a 0 (pos k) i → after ≡ output a o → Filled s o k after
    go (Done q) p t f =
        let g : length after ≡ length q + length (drop (length q) o) = ap length f ∙ length-append q (drop (length q) o) in
        let j : length q ≤ length after = omega (arith, g) in
        let i : k ≡ length q = cc t.is_value in
        let x : take (length q) after ≡ q = rw f (take-append_seam q (drop (length q) o)) in
        record { is_within = omega (arith, i, j); is_small = omega (arith, i, j, e, l); is_block = p ∙ ap Done (sym (ap (λ (m : ℕ). take m after) i ∙ x)) }
    go (Refused r) p t f = absurd (refused_number r (sym t.is_number))

-- its lines have room behind the answer's
pub block_room : {s o after old text : List ℕ} {k p : ℕ} → Filled s o k after → Room 196651 0 old → length text ≡ length old → p ≤ 43 → Room (3 * length (take k after)) p text
block_room {after = after} {k = k} f h e l =
    let n : length (take k after) ≡ k = length-take-le k after f.is_within in
    record { room = omega (arith, n, f.is_small, h.room, e, l); small = omega (arith, h.small, e) }

-- ---- the text lies in the buffer

module _ {old : List ℕ} (text : List ℕ) {r : ℕ} (room : Room 196651 0 old) (same : length text ≡ length old) where
  counts : r ≤ 196651 → IsPrefixLen r text
  counts h =
      let l : r ≤ length text = omega (arith, h, room.room, same) in
      (l, sym (length-take-le r text l))

  -- that of a line alone, and a Done's
  pub counts_line : r ≤ 43 → IsPrefixLen r text
  counts_line h = counts (omega (arith, h))

  pub counts_block : {s o after at new : List ℕ} {k p : ℕ} → Filled s o k after → p ≤ 43 → Put (hex_lines (take k after)) p at new r → IsPrefixLen r text
  counts_block {after = after} {k = k} f l h = counts (omega (arith, h.end, length-hex_lines (take k after), length-take-le k after f.is_within, f.is_small, l))

-- ---- an input that does not fill

module _ (input out : List ℕ) (room : length out ≡ 65536) (short : length input ≤ 65536) (unfilled : length input ≡ 65536 → ⊥) where
  -- its answer, and the text of it
  packs : pack plain_mode input empty_book (length out) ≡ answered input
  packs = ap (pack plain_mode input empty_book) room ∙ answered_packed input short unfilled

  text_is : printed (pack plain_mode input empty_book (length out)) ≡ block_text input
  unfolding block_text
  text_is = ap printed packs

  -- and what the output holds
  pub packed_output : {n i : ℕ} {v : ℤ} {after : List ℕ} → Outcome plain_mode input empty_book out n v i after → after ≡ output (answered input) out
  packed_output h = h.holds ∙ ap (λ (a : Answer (List ℕ)). output a out) packs

  pub text_refused : {n r i : ℕ} {v : ℤ} {old new after : List ℕ} → Outcome plain_mode input empty_book out n v i after → (n ≡ 0 → ⊥) → Put (line n v) 0 old new r → Put (block_text input) 0 old new r
  text_refused h z k = put_as text_is (refused_text _ h.told z k)

  pub text_done : {n k p r i : ℕ} {v : ℤ} {old mid new after : List ℕ} → Outcome plain_mode input empty_book out n v i after → Filled input out k after
      → Put (line n v) 0 old mid p → Put (hex_lines (take k after)) p mid new r → Put (block_text input) 0 old new r
  text_done {k = k} {after = after} h f i j = put_as text_is (done_text _ (take k after) h.told f.is_block i j)
