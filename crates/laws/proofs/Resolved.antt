-- What was read, as it is written: sizes and events with its strings resolved; it has as many actions. Assumes nothing.
use Rattle.std.specs.Prelude.{◌≡◌, refl, ℕ, ◌+◌}
use Rattle.std.proofs.Common.{ap, ap₂}
use Rattle.layout.specs.Tree.{ActionOf, flat, branch, owner, Try, ActionListOf, empty, more, ActionsOf, body, CatchOf, no_catch, catch, FinallyOf, no_finally, finally, count, counts, body_count, catch_count, finally_count}
use Rattle.layout.specs.Strings.{map_action, map_actions, map_body, map_catch, map_finally}

-- its strings do not count
module _ {S T L : Type 0} (w : S → T) where
  mutual
    unfolding count map_action

    pub count_same : (a : ActionOf S L) → count (map_action w a) ≡ count a
    count_same (flat f) = refl
    count_same (branch k l) = refl
    count_same (owner o b) = ap (λ (n : ℕ). 1 + n) (body_same b)
    count_same (Try b c f) = ap₂ (λ (m n : ℕ). 1 + (m + n)) (ap₂ ◌+◌ (body_same b) (catch_same c)) (finally_same f)

    pub counts_same : (xs : ActionListOf S L) → counts (map_actions w xs) ≡ counts xs
    counts_same empty = refl
    counts_same (more a xs) = ap₂ ◌+◌ (count_same a) (counts_same xs)

    pub body_same : (b : ActionsOf S L) → body_count (map_body w b) ≡ body_count b
    body_same (body es xs) = counts_same xs

    pub catch_same : (c : CatchOf S L) → catch_count (map_catch w c) ≡ catch_count c
    catch_same no_catch = refl
    catch_same (catch t b) = body_same b

    pub finally_same : (f : FinallyOf S L) → finally_count (map_finally w f) ≡ finally_count f
    finally_same no_finally = refl
    finally_same (finally b) = body_same b
