-- What a reading that gives a value gives: the laws of the definitions' readers, each at a place p of the bytes b.
-- Assumes nothing.
use mathlib.Core.Path.{◌≡◌, refl, sym, subst, ◌∙◌}
use Prim.Native.Nat.{ℕ, ◌+◌, ◌≤◌, ◌<◌}
use native.Mathlib.Omega.{arith}
use mathlib.Core.Bool.{Bool, true, false}
use mathlib.Core.Option.{Option, none, some}
use mathlib.Core.List.{List}
use lib.ListN.{length, get_or}
use lib.Dec.{leb, ltb, eqb}
use borrow.Author.Tests.{leb-true, ltb-true}
use Rattle.layout.specs.Numbers.{u16_at, u32_at, u64_at}
use Rattle.layout.specs.Answers.{Fault}
use Rattle.layout.specs.Pack as definition
use Rattle.layout.specs.Read.{Place, placed, Stop, Read, got, bad, Reader, chain, more_begun, if_whole, if_within, tested, repeat, first_zero, if_no_zero, read_u8, read_u16, read_u32, read_u64, read_bytes, read_flag, read_spelling, read_plain, read_word, read_text, read_counted, read_string}
use Rattle.fields.specs.Runs.{part}
use Rattle.editions.specs.Words.{words_by, words_if}
use Rattle.editions.specs.Allowed.{read_by}
use Rattle.editions.specs.declared.MainBody.{MainBody}
use Rattle.editions.proofs.Listed.{length_words, word_listed}
use Rattle.words.specs.Found.{found_at}
use Rattle.words.proofs.Places.{found_at_lem}
use Rattle.std.specs.Prelude as code
use Rattle.pcode.specs.Shown.{book_span, plain_span, span_behind, span_at, IsText}

-- a reading refuses, or what it gives has the property
pub data Gives {A : Type 0} (P : A → Place → Type 0) : Read A → Type 0 where
  gives : {a : A} {q : Place} → P a q → Gives P (got a q)
  refuses : {f : Fault} {s : Stop} → Gives P (bad f s)

-- the property of being the value x with the next place q, while X holds
pub data Exactly (X : Type 0) {A : Type 0} (x : A) (q : Place) : A → Place → Type 0 where
  exactly : X → Exactly X x q x q

-- the property of a value that has X, with the next place q
pub data Behind {A : Type 0} (X : A → Type 0) (q : Place) : A → Place → Type 0 where
  behind_it : {x : A} → X x → Behind X q x q

module _ {A : Type 0} {P : A → Place → Type 0} where
  -- what was given has the property
  pub given : {m : Read A} {a : A} {q : Place} → Gives P m → m ≡ got a q → P a q
  given {m} {a} {q} h e = go (subst (Gives P) e h)
    where
      go : Gives P (got a q) → P a q
      go (gives k) = k

  -- behind n actions the same is given
  pub also_behind : {m : Read A} (n : ℕ) → Gives P m → Gives P (more_begun n m)
  also_behind n (gives k) = gives k
  also_behind n refuses = refuses

  -- a reading that gives just this, and then another
  pub next : {B X : Type 0} {x : B} {q : Place} {m : Read B} (k : B → Reader A) → Gives (Exactly X x q) m → (X → Gives P (k x q)) → Gives P (chain m k)
  next k (gives (exactly h)) f = f h
  next k refuses f = refuses

  -- a reading that ends just here, and then another
  pub next_text : {B : Type 0} {X : B → Type 0} {q : Place} {m : Read B} (k : B → Reader A) → Gives (Behind X q) m → ((x : B) → X x → Gives P (k x q)) → Gives P (chain m k)
  next_text k (gives (behind_it {x} h)) f = f x h
  next_text k refuses f = refuses

  -- a reading whose value has a property, and then another
  pub then : {B : Type 0} {Q : B → Place → Type 0} {m : Read B} {k : B → Reader A} → Gives Q m → ((x : B) (q : Place) → Q x q → Gives P (k x q)) → Gives P (chain m k)
  then (gives h) f = f _ _ h
  then refuses f = refuses

-- a reading gives what it gives
pub itself : {A : Type 0} (m : Read A) → Gives (λ a q. m ≡ got a q) m
itself (got a q) = gives refl
itself (bad f q) = refuses

-- what holds besides may be added
also : {A X : Type 0} {P : A → Place → Type 0} {m : Read A} → X → Gives P m → Gives (λ a q. X × P a q) m
also h (gives k) = gives (h, k)
also h refuses = refuses

-- what holds anyway holds then
pub anyway : {A X : Type 0} (m : Read A) → X → Gives (λ a q. X) m
anyway (got a q) h = gives h
anyway (bad f q) h = refuses

-- what the first reading tells, whatever follows
pub first : {A B X : Type 0} {x : B} {q : Place} {m : Read B} (k : B → Reader A) → Gives (Exactly X x q) m → Gives (λ a r. X) (chain m k)
first k h = next k h (λ l. anyway _ l)

-- less may be said
pub weaker : {A X Y : Type 0} {x : A} {q : Place} {m : Read A} → Gives (Exactly X x q) m → (X → Y) → Gives (Exactly Y x q) m
weaker (gives (exactly h)) f = gives (exactly (f h))
weaker refuses f = refuses

-- ---- fields

-- a field that is there, one that is within its range, and bytes of which none is zero
whole : {A X : Type 0} (t : Bool) (o : Place) {q : Place} {x : A} → (t ≡ true → X) → Gives (Exactly X x q) (if_whole t o x q)
unfolding if_whole
whole true o h = gives (exactly (h refl))
whole false o h = refuses

within : {A X : Type 0} (t : Bool) (o : Place) {q : Place} {x : A} → (t ≡ true → X) → Gives (Exactly X x q) (if_within t o x q)
unfolding if_within
within true o h = gives (exactly (h refl))
within false o h = refuses

no_zero : {s : List ℕ} {q : Place} {X : Type 0} (o : Place) (z : Option ℕ) → X → Gives (Exactly X s q) (if_no_zero o s z q)
unfolding if_no_zero
no_zero o none h = gives (exactly h)
no_zero o (some z) h = refuses

module _ (b : List ℕ) (p : ℕ) where
  -- numbers
  pub u8 : Gives (Exactly (p + 1 ≤ length b) (get_or b p 0) (placed (p + 1))) (read_u8 b (placed p))
  unfolding read_u8
  u8 = whole (leb (p + 1) (length b)) _ (leb-true _ _)

  pub u16 : Gives (Exactly (p + 2 ≤ length b) (u16_at b p) (placed (p + 2))) (read_u16 b (placed p))
  unfolding read_u16
  u16 = whole (leb (p + 2) (length b)) _ (leb-true _ _)

  pub u32 : Gives (Exactly (p + 4 ≤ length b) (u32_at b p) (placed (p + 4))) (read_u32 b (placed p))
  unfolding read_u32
  u32 = whole (leb (p + 4) (length b)) _ (leb-true _ _)

  pub u64 : Gives (Exactly (p + 8 ≤ length b) (u64_at b p) (placed (p + 8))) (read_u64 b (placed p))
  unfolding read_u64
  u64 = whole (leb (p + 8) (length b)) _ (leb-true _ _)

  -- a field that passes a test
  pub passed : {A X : Type 0} {x : A} {q : Place} (test : A → Bool) (read : Reader A) → Gives (Exactly X x q) (read (placed p)) → Gives (Exactly (X × (test x ≡ true)) x q) (tested test read (placed p))
  unfolding tested
  passed {x = x} test read h = next _ h (λ l. within (test x) _ (λ e. (l, e)))

  -- a byte that is 0 or 1
  pub flag : Gives (Exactly ((p + 1 ≤ length b) × (get_or b p 0 < 2)) (eqb (get_or b p 0) 1) (placed (p + 1))) (read_flag b (placed p))
  unfolding read_flag
  flag = next _ (passed (λ n. ltb n 2) (read_u8 b) u8) (λ l. gives (exactly (l.0, ltb-true _ _ l.1)))

  -- a count, and as many of the same
  pub counted : {A : Type 0} (read : Reader A) → Gives (λ xs q. (p + 2 ≤ length b) × (repeat read (u16_at b p) (placed (p + 2)) ≡ got xs q)) (read_counted b read (placed p))
  unfolding read_counted
  counted read = next _ u16 (λ l. also l (itself (repeat read (u16_at b p) (placed (p + 2)))))

  -- n bytes, none zero
  spelling : (n : ℕ) → Gives (Exactly (p + n ≤ length b) (part b p n) (placed (p + n))) (read_spelling b n (placed p))
  unfolding read_spelling read_bytes
  spelling n = next _ (whole (leb (p + n) (length b)) _ (leb-true _ _)) (λ l. no_zero _ (first_zero 0 (part b p n)) l)

module _ (m : MainBody) (p : ℕ) where
  -- a word's bytes stand where it is found
  word : (count : ℕ) → Gives (Behind (IsText m (book_span (found_at m.words.now m.index.now count (u16_at m.b.now p)) (p + 2))) (placed (p + 2))) (read_word m.b.now (words_by m.words.now m.index.now count) (placed p))
  unfolding read_word definition.spelling
  word count =
      next _ (passed m.b.now p (λ i. ltb i (length (words_by m.words.now m.index.now count))) (read_u16 m.b.now) (u16 m.b.now p)) (λ l.
      let f = found_at_lem m.words.now m.index.now count (u16_at m.b.now p) in
      let n : u16_at m.b.now p < count = rw (length_words m.words.now m.index.now count) at (ltb-true (u16_at m.b.now p) (length (words_by m.words.now m.index.now count)) l.1) in
      gives (behind_it (record { within = f.0; is = word_listed m.words.now m.index.now count (u16_at m.b.now p) n ∙ sym f.1; ends = l.0 })))

  -- a plain string's behind its length
  bytes : (n : ℕ) → Gives (Behind (IsText m (plain_span p n)) (placed (p + n))) (read_plain m.b.now n (placed p))
  unfolding read_plain definition.spelling
  bytes n = next _ (spelling m.b.now p n) (λ h. gives (behind_it (record { within = h; is = refl; ends = h })))

  -- the span behind a length is the string read there
  behind_length : (count : code.Option ℕ) (t : Bool) (n : ℕ)
      → Gives (Behind (IsText m (span_behind m count t p n)) (placed (span_behind m count t p n).next)) (read_text m.b.now (words_if count m.words.now m.index.now) t n (placed p))
  unfolding read_text words_if
  behind_length (code.Some count) true n = word count
  behind_length (code.Some count) false n = bytes n
  behind_length code.None t n = bytes n

module _ (m : MainBody) (p : ℕ) where
  -- a string, whose bytes are those of the span at p
  pub string : Gives (Behind (IsText m (span_at m p)) (placed (span_at m p).next)) (read_string (read_by m) m.b.now (placed p))
  unfolding read_string span_at
  string = next _ (u16 m.b.now p) (λ l. behind_length m (p + 2) m.terms.word_count (eqb (u16_at m.b.now p) 65535) (u16_at m.b.now p))

  -- the length stands before the end
  pub span_least : p + 2 ≤ (span_at m p).next
  unfolding span_at
  span_least = go m.terms.word_count (eqb (u16_at m.b.now p) 65535)
    where
      go : (count : code.Option ℕ) (t : Bool) → p + 2 ≤ (span_behind m count t (p + 2) (u16_at m.b.now p)).next
      go (code.Some count) true = omega arith
      go (code.Some count) false = omega arith
      go code.None t = omega arith

-- what is given behind n actions is given
pub got_behind : {A : Type 0} {m : Read A} {a : A} {q : Place} (n : ℕ) → more_begun n m ≡ got a q → m ≡ got a q
got_behind {m = m} n e = given (also_behind n (itself m)) e
