-- Titles that are borrowed, and those that were seen with one more.
use Rattle.std.proofs.Common.{◌≡◌, ℕ, Bool, true, false, not, ◌||◌, List, [], ◌∷◌, ◌++◌, Bor, bytes_eq, if◌then◌else◌, refl, ap, ◌∙◌}
use Rattle.std.proofs.lemmas.List.{map_push}
use Rattle.std.specs.List.{list_any}
use Rattle.pec_top.specs.Seen.{titles_in, with_title}

pub not_not : (b : Bool) → not (not b) ≡ b
not_not true = refl
not_not false = refl

-- a title that a borrowed title equals
pub title_among : (title : List ℕ) (titles : List (Bor (List ℕ))) → list_any (λ x. bytes_eq title x.now) titles ≡ list_any (bytes_eq title) (titles_in titles)
title_among title [] = refl
title_among title (x ∷ titles) = λ j. bytes_eq title x.now || title_among title titles j

seen_by_test : (b : Bool) (keys : List (Bor (List ℕ))) (title : Bor (List ℕ))
    → titles_in (if b then keys else keys ++ title ∷ []) ≡ (if b then titles_in keys else titles_in keys ++ title.now ∷ [])
seen_by_test true keys title = refl
seen_by_test false keys title = map_push (λ (x : Bor (List ℕ)). x.now) keys title

pub seen_titles : (keys : List (Bor (List ℕ))) (title : Bor (List ℕ))
    → titles_in (if list_any (λ (x : Bor (List ℕ)). bytes_eq title.now x.now) keys then keys else keys ++ title ∷ []) ≡ with_title (titles_in keys) title.now
seen_titles keys title =
    seen_by_test (list_any (λ (x : Bor (List ℕ)). bytes_eq title.now x.now) keys) keys title
    ∙ ap (λ b. if b then titles_in keys else titles_in keys ++ title.now ∷ []) (title_among title.now keys)
