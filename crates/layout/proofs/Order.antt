-- The order of the answers, one allowed outcome for each input, and what the lent slice of 16 bytes says read back from it.
-- Assumes nothing.
use Rattle.std.specs.Prelude.{◌≡◌, refl, ℕ, ◌+◌, ◌-◌, ◌*◌, ◌/◌, ◌%◌, ◌≤◌, ◌<◌, List, ◌++◌, ℤ, pos, negsuc}
use Rattle.std.proofs.Common.{sym, ◌∙◌, arith, le-leb, lt-ltb, le-ltb}
use Rattle.std.proofs.Math.Path.{ap}
use Rattle.std.proofs.Math.Option.{none, some}
use Rattle.std.proofs.lemmas.Bool.{lt-leb}
use Rattle.layout.specs.Lists.{pick}
use Rattle.layout.specs.Numbers.{le16, le32, le64, bits64, i64_bytes, u64_at}
use Rattle.layout.specs.Answers.{Fault, Refusal, ReadingFault, NoRoom, BadBook, Answer, Done, Refused, value, action, Told, value_bytes}
use Rattle.layout.specs.Tree.{Actions}
use Rattle.layout.specs.Read.{Terms, deepest, Stop, bad, read_main}
use Rattle.layout.specs.Write.{events, block_bytes, block_size}
use Rattle.layout.specs.Judge.{too_long, or_else, Mode, bad_branch, judge}
use Rattle.layout.specs.Cut.{Edition, Third, main, uncut, cut}
use Rattle.layout.specs.Book.{book_of}
use Rattle.layout.specs.Pack.{unless, if_room, block_in, pack_tree, edition_terms, fault_action, pack_read, pack_by, pack_cut, pack, Outcome, ReadsAs}
use Rattle.layout.specs.Order.{IsI64, below, signed64, zero_up}

-- ---- 1, 2; then 18; then 3 to 7; then 8 and 9; then 10, 14 and 15; then 11

-- 1 and 2 come first, whatever the book and the room
pub uncut_first : (m : Mode) (s book : List ℕ) (room : ℕ) (r : Refusal) → cut s ≡ uncut r → pack m s book room ≡ Refused r
unfolding pack pack_cut
uncut_first m s book room r e = ap (λ c. pack_cut m c (book_of book) room) e

-- "after 2 and only for edition 3, even if no string names the book"
pub bad_book_next : (m : Mode) (s book : List ℕ) (room start : ℕ) (b : List ℕ) → cut s ≡ main Third start b → book_of book ≡ none → pack m s book room ≡ Refused BadBook
unfolding pack pack_cut pack_by edition_terms
bad_book_next m s book room start b c e = ap (λ x. pack_cut m x (book_of book) room) c ∙ ap (λ o. pack_by m (edition_terms Third o) start b room) e

-- an edition with terms is answered by what is read by them
pub read_next : (m : Mode) (s book : List ℕ) (room : ℕ) (i : Edition) (start : ℕ) (b : List ℕ) (k : Terms) → cut s ≡ main i start b → edition_terms i (book_of book) ≡ some k
    → pack m s book room ≡ pack_read m start (read_main k b deepest) room
unfolding pack pack_cut pack_by
read_next m s book room i start b k c h = ap (λ x. pack_cut m x (book_of book) room) c ∙ ap (λ o. pack_by m o start b room) h

-- then what reading meets, whatever the room
pub fault_next : (m : Mode) (s book : List ℕ) (room : ℕ) (i : Edition) (start : ℕ) (b : List ℕ) (k : Terms) (f : Fault) (p : Stop) → cut s ≡ main i start b
    → edition_terms i (book_of book) ≡ some k → read_main k b deepest ≡ bad f p
    → pack m s book room ≡ Refused (ReadingFault f (start + p.at) (fault_action f p.begun))
unfolding pack_read
fault_next m s book room i start b k f p c h e = read_next m s book room i start b k c h ∙ ap (λ x. pack_read m start x room) e

-- and a sheet that reads whole is answered by its tree alone
pub tree_next : (m : Mode) (s book : List ℕ) (room : ℕ) (t : Actions) → ReadsAs s book t → pack m s book room ≡ pack_tree m t room
unfolding pack_read
tree_next m s book room t h =
    read_next m s book room h.edition h.start h.bytes h.terms h.is_cut h.is_lent
    ∙ ap (λ x. pack_read m h.start x room) h.is_read ∙ ap (λ x. pack_tree m x room) h.is_tree

module _ (m : Mode) (t : Actions) (room : ℕ) where
  -- 8 and 9 come before 10, 14, 15 and 11
  pub long_first : (r : Refusal) → too_long (events t) ≡ some r → pack_tree m t room ≡ Refused r
  unfolding pack_tree unless judge or_else
  long_first r e = rw e

  -- 10, 14 and 15 come before 11
  pub branch_next : (r : Refusal) → too_long (events t) ≡ none → bad_branch m (events t) (events t) ≡ some r → pack_tree m t room ≡ Refused r
  unfolding pack_tree unless judge or_else
  branch_next r e f = rw (e, f)

  -- 11 and 0 come last: only where nothing else is wrong
  pub room_last : judge m t ≡ none → pack_tree m t room ≡ block_in t room
  unfolding pack_tree unless
  room_last e = rw e

module _ (t : Actions) (room : ℕ) where
  -- 11 with the length needed
  pub no_room : room < block_size t → block_in t room ≡ Refused (NoRoom (block_size t))
  unfolding if_room
  no_room h = rw (lt-leb (block_size t) room h)

  pub has_room : block_size t ≤ room → block_in t room ≡ Done (block_bytes t)
  unfolding if_room
  has_room h = rw (le-leb (block_size t) room h)

-- ---- any two outcomes allowed for one input are equal

-- of an answer: one number, one value and one action number are told of it (laws has a same_told of its own, which is about equal
-- bytes)
pub same_told : {A : Type 0} {done : A → ℤ} {a : Answer A} {n n' : ℕ} {v v' : ℤ} {k k' : ℕ} → Told done a n v k → Told done a n' v' k' → (n ≡ n') × (v ≡ v') × (k ≡ k')
same_told h h' = (h.is_number ∙ sym h'.is_number, h.is_value ∙ sym h'.is_value, h.is_action ∙ sym h'.is_action)

-- of a call: number, value, action number and every byte of the output
pub same_outcome : {m : Mode} {s book o : List ℕ} {n n' : ℕ} {v v' : ℤ} {k k' : ℕ} {after after' : List ℕ} → Outcome m s book o n v k after → Outcome m s book o n' v' k' after'
    → (n ≡ n') × (v ≡ v') × (k ≡ k') × (after ≡ after')
same_outcome h h' =
    let t = same_told h.told h'.told in
    (t.0, t.1, t.2, h.holds ∙ sym h'.holds)

pub two_back : (n : ℕ) → n < 65536 → n % 256 + 256 * (n / 256 % 256) ≡ n
two_back n h = omega arith

four_back : (n : ℕ) → n < 4294967296 → n % 65536 + 65536 * (n / 65536 % 65536) ≡ n
four_back n h = omega arith

eight_back : (n : ℕ) → n < 18446744073709551616 → n % 4294967296 + 4294967296 * (n / 4294967296 % 4294967296) ≡ n
eight_back n h = omega arith

le32_back : (n : ℕ) → n < 4294967296
    → n % 65536 % 256 + 256 * (n % 65536 / 256 % 256) + 65536 * (n / 65536 % 65536 % 256 + 256 * (n / 65536 % 65536 / 256 % 256)) ≡ n
le32_back n h = rw (two_back (n % 65536) (omega arith), two_back (n / 65536 % 65536) (omega arith)) (four_back n h)

-- the eight bytes hold the 64 bits
le64_back : (n : ℕ) → n < 18446744073709551616 → u64_at (le64 n) 0 ≡ n
unfolding le64 le32 le16
le64_back n h =
    let lo : n % 4294967296 < 4294967296 = omega arith in
    let hi : n / 4294967296 % 4294967296 < 4294967296 = omega arith in
    rw (le32_back (n % 4294967296) lo, le32_back (n / 4294967296 % 4294967296) hi) (eight_back n h)

bits_small : (z : ℤ) → bits64 z < 18446744073709551616
unfolding bits64
bits_small (pos n) = omega arith
bits_small (negsuc n) = omega arith

-- the bits of what an i64 can hold give it back
pub bits_back : (z : ℤ) → IsI64 z → signed64 (bits64 z) ≡ z
unfolding bits64 signed64 pick
bits_back (pos n) (zero_up h) =
    let e : n % 18446744073709551616 ≡ n = omega arith in
    rw (e, lt-ltb n 9223372036854775808 h)
bits_back (negsuc n) (below h) =
    let e : n % 18446744073709551616 ≡ n = omega arith in
    let l : 9223372036854775808 ≤ 18446744073709551615 - n = omega arith in
    let f : 18446744073709551615 - (18446744073709551615 - n) ≡ n = omega arith in
    rw (e, le-ltb (18446744073709551615 - n) 9223372036854775808 l, f)

-- little-endian, in two's complement: what an i64 can hold is read back from the bytes
pub value_back : (z : ℤ) → IsI64 z → signed64 (u64_at (i64_bytes z) 0) ≡ z
unfolding i64_bytes
value_back z h = ap signed64 (le64_back (bits64 z) (bits_small z)) ∙ bits_back z h

-- ---- sixteen bytes say the value and the action number

first_eight : (m n : ℕ) → u64_at (le64 m ++ le64 n) 0 ≡ u64_at (le64 m) 0
unfolding le64 le32 le16
first_eight m n = refl

last_eight : (m n : ℕ) → u64_at (le64 m ++ le64 n) 8 ≡ u64_at (le64 n) 0
unfolding le64 le32 le16
last_eight m n = refl

-- both are read back from what the slice holds, the value first
pub told_back : {A : Type 0} (done : A → ℤ) (a : Answer A) → IsI64 (value done a) → IsI64 (pos (action a))
    → (signed64 (u64_at (value_bytes done a) 0) ≡ value done a) × (signed64 (u64_at (value_bytes done a) 8) ≡ pos (action a))
unfolding value_bytes i64_bytes
told_back done a h k = (
  ap signed64 (first_eight (bits64 (value done a)) (bits64 (pos (action a)))) ∙ (unfold i64_bytes in value_back (value done a) h),
  ap signed64 (last_eight (bits64 (value done a)) (bits64 (pos (action a)))) ∙ (unfold i64_bytes in value_back (pos (action a)) k),
)
