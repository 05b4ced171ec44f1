-- One more step of the loops that build lists.
use Rattle.std.specs.Prelude.{◌≡◌, ℕ, ◌+◌, ◌<◌, Bool, List, [], ◌++◌, length, map}
use Rattle.std.proofs.Common.{sym, ◌∙◌, ap, get_or, drop}
use Rattle.std.proofs.lemmas.List.{drop_more, append-nil}
use Rattle.std.specs.List.{flat_map}
use Rattle.rule_terms.specs.Added.{added_all}
use Rattle.term_universe.proofs.Listings.{added_append}

-- one more item of a list, by which something is added to another list
pub add_step : {A B C : Type 0} (same : B → B → Bool) (v : A → C) (f : C → List B) (items : List A) (i : ℕ) (x : A) (got next whole : List B)
    → i < length items → x ≡ get_or items i x → next ≡ added_all same got (f (v x))
    → added_all same got (flat_map f (map v (drop i items))) ≡ whole
    → added_all same next (flat_map f (map v (drop (i + 1) items))) ≡ whole
add_step same v f items i x got next whole h is now before =
    ap (λ g. added_all same g (flat_map f (map v (drop (i + 1) items)))) now
    ∙ sym (added_append same got (f (v x)) (flat_map f (map v (drop (i + 1) items))))
    ∙ ap (λ y. added_all same got (f (v y) ++ flat_map f (map v (drop (i + 1) items)))) is
    ∙ sym (ap (λ ys. added_all same got (flat_map f (map v ys))) (drop_more items i x h))
    ∙ before

pub add_flat_step : {A B : Type 0} (same : B → B → Bool) (f : A → List B) (items : List A) (i : ℕ) (x : A) (got next whole : List B)
    → i < length items → x ≡ get_or items i x → next ≡ added_all same got (f x)
    → added_all same got (flat_map f (drop i items)) ≡ whole
    → added_all same next (flat_map f (drop (i + 1) items)) ≡ whole
add_flat_step same f items i x got next whole h is now before =
    ap (λ g. added_all same g (flat_map f (drop (i + 1) items))) now
    ∙ sym (added_append same got (f x) (flat_map f (drop (i + 1) items)))
    ∙ ap (λ y. added_all same got (f y ++ flat_map f (drop (i + 1) items))) is
    ∙ sym (ap (λ ys. added_all same got (flat_map f ys)) (drop_more items i x h))
    ∙ before

pub nothing_more : {A : Type 0} (xs : List A) → xs ≡ xs ++ []
nothing_more xs = sym (append-nil xs)
