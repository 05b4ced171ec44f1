-- One more item of a list is walked over, in the search for the least part above a mark.
use Rattle.std.specs.Prelude.{◌≡◌, ℕ, ◌+◌, ◌<◌, List, [], ◌∷◌, ◌++◌, length, Option, refl}
use Rattle.std.proofs.Common.{sym, ◌∙◌, ap, get_or, drop}
use Rattle.std.proofs.lemmas.List.{drop_more}
use Rattle.std.specs.List.{flat_map}
use Rattle.rule_terms.specs.Term.{ValueTerm}
use Rattle.rule_terms.specs.TermView.{terms_of}
use Rattle.rule_terms.specs.Parts.{Part, value_parts, terms_parts}
use Rattle.rule_terms.specs.Order.{part_cmp}
use Rattle.term_universe.specs.Least.{least_above, least_append}

pub item_step : {A : Type 0} (f : A → List Part) (items : List A) (i : ℕ) (x : A) (low best next whole : Option Part)
    → i < length items → x ≡ get_or items i x → next ≡ least_above part_cmp low best (f x)
    → least_above part_cmp low best (flat_map f (drop i items)) ≡ whole
    → least_above part_cmp low next (flat_map f (drop (i + 1) items)) ≡ whole
item_step f items i x low best next whole h is found before =
    ap (λ b. least_above part_cmp low b (flat_map f (drop (i + 1) items))) found
    ∙ sym (least_append part_cmp low best (f x) (flat_map f (drop (i + 1) items)))
    ∙ ap (λ y. least_above part_cmp low best (f y ++ flat_map f (drop (i + 1) items))) is
    ∙ sym (ap (λ ys. least_above part_cmp low best (flat_map f ys)) (drop_more items i x h))
    ∙ before

terms_flat : (vs : List ValueTerm) → terms_parts (terms_of vs) ≡ flat_map value_parts vs
unfolding terms_parts
terms_flat [] = refl
terms_flat (v ∷ vs) = ap (λ ps. value_parts v ++ ps) (terms_flat vs)

pub value_step : (items : List ValueTerm) (i : ℕ) (x : ValueTerm) (low best next whole : Option Part)
    → i < length items → x ≡ get_or items i x → next ≡ least_above part_cmp low best (value_parts x)
    → least_above part_cmp low best (terms_parts (terms_of (drop i items))) ≡ whole
    → least_above part_cmp low next (terms_parts (terms_of (drop (i + 1) items))) ≡ whole
value_step items i x low best next whole h is found before =
    ap (least_above part_cmp low next) (terms_flat (drop (i + 1) items))
    ∙ item_step value_parts items i x low best next whole h is found (sym (ap (least_above part_cmp low best) (terms_flat (drop i items))) ∙ before)
