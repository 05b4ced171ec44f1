-- Marks of numbers: which are set after more numbers are marked.
use Rattle.std.specs.Prelude.{◌≡◌, ℕ, zero, suc, ◌<◌, Bool, true, false, List, [], ◌∷◌, ◌++◌, length, replicate, Some, slice_get, slice_set, refl}
use Rattle.std.specs.List.{flat_map}
use Rattle.std.proofs.Common.{sym, ◌∙◌, ap, subst, arith, ◌⊎◌, inl, inr, true≢false, get_or, drop, ◌+◌}
use Rattle.std.proofs.lemmas.List.{drop_more}
use Rattle.std.proofs.lemmas.Option.{none-some, same_Some}
use Rattle.rule_terms.proofs.Members.{In}
use Rattle.pool_universe.specs.PooledParts.{marked_all}

abbrev pub IsMarked : List Bool → ℕ → Type 0
IsMarked ms k = slice_get ms k ≡ Some true

length_set : (ms : List Bool) (n : ℕ) → length (slice_set ms n true) ≡ length ms
length_set [] n = refl
length_set (m ∷ ms) zero = refl
length_set (m ∷ ms) (suc n) = ap suc (length_set ms n)

set_here : (ms : List Bool) (n : ℕ) → n < length ms → IsMarked (slice_set ms n true) n
set_here [] n h = absurd (omega arith)
set_here (m ∷ ms) zero h = refl
set_here (m ∷ ms) (suc n) h = set_here ms n (omega arith)

set_keeps : (ms : List Bool) (n k : ℕ) → IsMarked ms k → IsMarked (slice_set ms n true) k
set_keeps [] n k h = absurd (none-some true h)
set_keeps (m ∷ ms) zero zero h = refl
set_keeps (m ∷ ms) zero (suc k) h = h
set_keeps (m ∷ ms) (suc n) zero h = h
set_keeps (m ∷ ms) (suc n) (suc k) h = set_keeps ms n k h

set_either : (ms : List Bool) (n k : ℕ) → IsMarked (slice_set ms n true) k → (n ≡ k) ⊎ IsMarked ms k
set_either [] n k h = absurd (none-some true h)
set_either (m ∷ ms) zero zero h = inl refl
set_either (m ∷ ms) zero (suc k) h = inr h
set_either (m ∷ ms) (suc n) zero h = inr h
set_either (m ∷ ms) (suc n) (suc k) h = elim (set_either ms n k h) [ inl e ↦ inl (ap suc e) | inr m ↦ inr m ]

pub marked_length : (ms : List Bool) (ns : List ℕ) → length (marked_all ms ns) ≡ length ms
unfolding marked_all
marked_length ms [] = refl
marked_length ms (n ∷ ns) = marked_length (slice_set ms n true) ns ∙ length_set ms n

pub marked_keeps : (ms : List Bool) (ns : List ℕ) (k : ℕ) → IsMarked ms k → IsMarked (marked_all ms ns) k
unfolding marked_all
marked_keeps ms [] k h = h
marked_keeps ms (n ∷ ns) k h = marked_keeps (slice_set ms n true) ns k (set_keeps ms n k h)

pub marked_here : (ms : List Bool) (ns : List ℕ) (k : ℕ) → In k ns → k < length ms → IsMarked (marked_all ms ns) k
unfolding marked_all
marked_here ms [] k h l = elim h [ ]
marked_here ms (n ∷ ns) k (inl e) l = marked_keeps (slice_set ms n true) ns k (subst (λ x. IsMarked (slice_set ms x true) k) (sym e) (set_here ms k l))
marked_here ms (n ∷ ns) k (inr h) l = marked_here (slice_set ms n true) ns k h (omega (arith, l, length_set ms n))

pub marked_either : (ms : List Bool) (ns : List ℕ) (k : ℕ) → IsMarked (marked_all ms ns) k → In k ns ⊎ IsMarked ms k
unfolding marked_all
marked_either ms [] k h = inr h
marked_either ms (n ∷ ns) k h = elim (marked_either (slice_set ms n true) ns k h) [
  | inl i ↦ inl (inr i)
  | inr m ↦ elim (set_either ms n k m) [ inl e ↦ inl (inl e) | inr p ↦ inr p ]
]

pub marked_append : (ms : List Bool) (ns ks : List ℕ) → marked_all ms (ns ++ ks) ≡ marked_all (marked_all ms ns) ks
unfolding marked_all
marked_append ms [] ks = refl
marked_append ms (n ∷ ns) ks = marked_append (slice_set ms n true) ns ks

pub none_marked : (n k : ℕ) → IsMarked (replicate n false) k → ⊥
none_marked zero k h = none-some true h
none_marked (suc n) zero h = true≢false (sym (same_Some false true h))
none_marked (suc n) (suc k) h = none_marked n k h

-- one more item of a list, whose numbers are marked
pub mark_step : {A : Type 0} (f : A → List ℕ) (items : List A) (i : ℕ) (x : A) (got next whole : List Bool) → i < length items → x ≡ get_or items i x → next ≡ marked_all got (f x)
    → marked_all got (flat_map f (drop i items)) ≡ whole → marked_all next (flat_map f (drop (i + 1) items)) ≡ whole
mark_step f items i x got next whole h is now before =
    ap (λ g. marked_all g (flat_map f (drop (i + 1) items))) now
    ∙ sym (marked_append got (f x) (flat_map f (drop (i + 1) items)))
    ∙ ap (λ y. marked_all got (f y ++ flat_map f (drop (i + 1) items))) is
    ∙ sym (ap (λ ys. marked_all got (flat_map f ys)) (drop_more items i x h))
    ∙ before
