-- One main body, read in two ways: by the words of two books of one count, where only the bytes of named entries differ; and by
-- edition 3 and by edition 2, where no entry is named, or up to the first entry number. Assumes nothing.
use Rattle.std.specs.Prelude.{◌≡◌, ◌⊎◌, ℕ, ◌+◌, ◌≤◌, Bool, length, get_or, leb, eqb}
use Rattle.std.proofs.Math.Path.{refl, sym, ap}
use Rattle.std.proofs.Common.{◌∙◌, subst, inl, ⊎_elim, arith, leb-true, eqb-true, le-ltb}
use Rattle.std.proofs.Math.Logic.{inr}
use Rattle.std.proofs.Math.Bool.{true, false}
use Rattle.std.proofs.Math.Option.{Option, none, some}
use mathlib.Core.List.{List, []}
use Rattle.std.proofs.Math.Dec.{ltb}
use Rattle.layout.specs.Numbers.{u16_at}
use Rattle.layout.specs.Tree.{ActionsOf}
use Rattle.layout.specs.Read.{Text, plain, in_book, Words, Terms, edition2, edition3, deepest, Place, placed, ahead, stop, Read, got, chain, if_whole, if_within, tested, read_u16, read_spelling, read_plain, read_word, read_text, read_string, read_main}
use Rattle.layout.specs.Strings.{map_body}
use Rattle.layout.specs.Pack.{spelling}
use Rattle.named_words.specs.Named.{in_body}
use Rattle.named_words.specs.Follows.{IsPlain, Plain, other, Follows, gives, meets, ends, unasked, map_read, Nowhere, Ends}
use Rattle.named_words.proofs.Follows.{without_after, follows_after, main_follows, follows_all, follows_or, follows_got}
use Rattle.named_words.specs.Respelt.{Numbered, numbered, plainly, respell}

-- a string by its bytes is read so whatever the words
plain_follows : {Loose : Type 0} {End : ℕ → Type 0} (w : Text → Text) → ((s : List ℕ) → w (plain s) ≡ plain s) → (b : List ℕ) (n : ℕ) (p : Place)
    → Follows Loose End IsPlain w (read_plain b n p) (read_plain b n p)
unfolding read_plain
plain_follows {Loose} {End} w kept b n p = follows_after (read_spelling b n p) (λ s q. subst (λ t. Follows Loose End IsPlain w (got (plain s) q) (got t q)) (kept s) gives)

respell_plain : (words : Words) (s : List ℕ) → respell words (plain s) ≡ plain s
unfolding respell
respell_plain words s = refl

module _ (words words' : Words) (l : length words' ≡ length words) (b : List ℕ) where
  word_respelt : (p : Place) → Follows ⊥ Nowhere IsPlain (respell words') (read_word b words p) (read_word b words' p)
  unfolding read_word respell
  word_respelt p = rw l (follows_after (tested (λ i. ltb i (length words)) (read_u16 b) p) (λ i q. gives))

  string_respelt : (p : Place) → Follows ⊥ Nowhere IsPlain (respell words') (read_string (edition3 words) b p) (read_string (edition3 words') b p)
  unfolding read_string edition3
  string_respelt p = follows_after (read_u16 b p) (λ n q. go (eqb n 65535) n q)
    where
      go : (t : Bool) (n : ℕ) (q : Place) → Follows ⊥ Nowhere IsPlain (respell words') (read_text b (some words) t n q) (read_text b (some words') t n q)
      go true n q = unfold read_text in word_respelt q
      go false n q = unfold read_text in plain_follows (respell words') (respell_plain words') b n q

  -- a main body is read by both to the same, but for the bytes of the entries that it names
  pub main_respelt : read_main (edition3 words') b deepest ≡ map_read (map_body (respell words')) (read_main (edition3 words) b deepest)
  main_respelt = follows_all (main_follows ⊥ Nowhere (respell words') (edition3 words) (edition3 words') (unfold edition3 in refl) b string_respelt)

plainly_plain : (s : List ℕ) → plainly (plain s) ≡ plain s
unfolding plainly spelling
plainly_plain s = refl

module _ (k : Terms) (no_words : k.words ≡ none) (b : List ℕ) where
  string_plain : (p : Place) → Follows ⊥ Nowhere IsPlain plainly (read_string k b p) (read_string k b p)
  unfolding read_string read_text
  string_plain p = rw no_words (follows_after (read_u16 b p) (λ n q. plain_follows plainly plainly_plain b n q))

  -- every text that is read is plain
  pub main_plain : read_main k b deepest ≡ map_read (map_body plainly) (read_main k b deepest)
  main_plain = follows_all (main_follows ⊥ Nowhere plainly k k refl b string_plain)

-- ---- by edition 3 and by edition 2

module _ (words : Words) (b : List ℕ) where
  string_unnamed : (p : Place) → Follows Unit Nowhere IsPlain (respell words) (read_string (edition3 words) b p) (read_string edition2 b p)
  unfolding read_string edition3 edition2
  string_unnamed p = follows_after (read_u16 b p) (λ n q. go (eqb n 65535) n q)
    where
      go : (t : Bool) (n : ℕ) (q : Place) → Follows Unit Nowhere IsPlain (respell words) (read_text b (some words) t n q) (read_text b none t n q)
      go true n q = unfold read_text read_word in unasked tt (without_after (tested (λ i. ltb i (length words)) (read_u16 b) q) (λ i r. other (λ u. u)))
      go false n q = unfold read_text in plain_follows (respell words) (respell_plain words) b n q

  main_unnamed : Follows Unit Nowhere (λ x. Plain (in_body x)) (map_body (respell words)) (read_main (edition3 words) b deepest) (read_main edition2 b deepest)
  main_unnamed = main_follows Unit Nowhere (respell words) (edition3 words) edition2 (unfold edition3 edition2 in refl) b string_unnamed

  -- what edition 3 reads to a tree that names no entry, edition 2 reads to the same
  pub same_unnamed : (t : ActionsOf Text ℕ) (q : Place) → read_main (edition3 words) b deepest ≡ got t q → Plain (in_body t) → read_main edition2 b deepest ≡ got t q
  same_unnamed t q e u = follows_got main_unnamed e u ∙ sym (unfold map_read in (sym e ∙ main_respelt words words refl b ∙ ap (map_read (map_body (respell words))) e))

module _ (b : List ℕ) where
  -- by no words, every entry number is refused, where it stands
  word_refused : {y : Read Text} (p : ℕ) → Numbered b p → Follows ⊥ (Numbered b) IsPlain plainly (read_word b [] (placed p)) y
  unfolding read_word tested read_u16 if_whole if_within
  word_refused {y} p h = go (leb (p + 2) (length b))
    where
      go : (t : Bool) → Follows ⊥ (Numbered b) IsPlain plainly (chain (chain (if_whole t (placed p) (u16_at b p) (placed (p + 2))) (λ i q. if_within (ltb i 0) (placed p) i q)) (λ i q. got (in_book i (get_or [] i [])) q)) y
      go true = rw (le-ltb (u16_at b p) 0 (omega arith)) (ends {s = stop (placed p)} h)
      go false = ends {s = stop (placed p)} h

  -- by no words and by any terms, a string is read to the same, or an entry number is due
  string_numbered : (k : Terms) (p : Place) → Follows ⊥ (Numbered b) IsPlain plainly (read_string (edition3 []) b p) (read_string k b p)
  unfolding read_string edition3 read_u16 if_whole
  string_numbered k p = whole (leb (p.at + 2) (length b)) refl
    where
      plainer : (o : Option Words) (q : Place) → Follows ⊥ (Numbered b) IsPlain plainly (read_text b (some []) false (u16_at b p.at) q) (read_text b o false (u16_at b p.at) q)
      plainer (some words) q = unfold read_text in plain_follows plainly plainly_plain b (u16_at b p.at) q
      plainer none q = unfold read_text in plain_follows plainly plainly_plain b (u16_at b p.at) q

      by : (t : Bool) → eqb (u16_at b p.at) 65535 ≡ t → p.at + 2 ≤ length b
          → Follows ⊥ (Numbered b) IsPlain plainly (read_text b (some []) t (u16_at b p.at) (ahead 2 p)) (read_text b k.words t (u16_at b p.at) (ahead 2 p))
      by true e h = unfold read_text in word_refused (p.at + 2) (numbered p.at h (eqb-true (u16_at b p.at) 65535 e))
      by false e h = plainer k.words (ahead 2 p)

      whole : (t : Bool) → leb (p.at + 2) (length b) ≡ t → Follows ⊥ (Numbered b) IsPlain plainly (chain (if_whole t p (u16_at b p.at) (ahead 2 p)) (λ n q. read_text b (some []) (eqb n 65535) n q))
          (chain (if_whole t p (u16_at b p.at) (ahead 2 p)) (λ n q. read_text b k.words (eqb n 65535) n q))
      whole true e = by (eqb (u16_at b p.at) 65535) refl (leb-true (p.at + 2) (length b) e)
      whole false e = meets

  main_numbered : (k : Terms) → k.label_bound ≡ 4096 → (read_main k b deepest ≡ map_read (map_body plainly) (read_main (edition3 []) b deepest)) ⊎ Ends (Numbered b) (read_main (edition3 []) b deepest)
  main_numbered k e = follows_or (main_follows ⊥ (Numbered b) plainly (edition3 []) k (unfold edition3 in sym e) b (string_numbered k))

  -- a main body is read by edition 3 and by edition 2 to the same, or edition 3 comes to an entry number: by no words it is refused
  -- there
  pub same_or_numbered : (words : Words) → (read_main (edition3 words) b deepest ≡ read_main edition2 b deepest) ⊎ Ends (Numbered b) (read_main (edition3 []) b deepest)
  same_or_numbered words =
      ⊎_elim (λ e. ⊎_elim (λ f. inl (e ∙ sym f)) (λ h. inr h) (main_numbered edition2 (unfold edition2 in refl))) (λ h. inr h)
      (main_numbered (edition3 words) (unfold edition3 in refl))
