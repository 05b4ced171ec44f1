-- A list with multiples of another added to it, place by place, as the loop makes it.
use Rattle.std.specs.Prelude.{◌≡◌, ◌≤◌, ◌<◌, ◌+◌, ◌^◌, ℕ, zero, suc, ℤ, pos, ◌+ℤ◌, ◌*ℤ◌, List, [], ◌∷◌, length, take, slice_index_or, slice_set, FitsSigned, refl}
use Rattle.std.proofs.Common.{◌∙◌, ap, ap₂, sym, arith, add-one, to_z, of_z, w64, lit<}
use Rattle.std.proofs.lemmas.Int.{fits_signed_from_abs}
use Rattle.std.proofs.lemmas.List.{take_all}
use Rattle.affine_forms.specs.Form.{plus_multiples, IsAtMost, IsProductAtMost}
use Rattle.affine_forms.proofs.Magnitudes.{sum_at_most, kept}

-- ---- places
none_added : (ns : List ℤ) (t : ℤ) → plus_multiples ns t [] ≡ ns
unfolding plus_multiples
none_added [] t = refl
none_added (n ∷ ns) t = refl

pub begun : (ns os : List ℤ) (t : ℤ) → ns ≡ plus_multiples ns t (take 0 os)
begun ns os t = sym (none_added ns t)

-- the place that comes next is as it was
not_yet : (ns os : List ℤ) (t d : ℤ) (k : ℕ) → slice_index_or (plus_multiples ns t (take k os)) k d ≡ slice_index_or ns k d
unfolding plus_multiples
not_yet [] os t d k = refl
not_yet (n ∷ ns) [] t d zero = refl
not_yet (n ∷ ns) [] t d (suc k) = refl
not_yet (n ∷ ns) (o ∷ os) t d zero = refl
not_yet (n ∷ ns) (o ∷ os) t d (suc k) = not_yet ns os t d k

one_more : (ns os : List ℤ) (t d : ℤ) (k : ℕ) → k < length ns → length ns ≡ length os →
    slice_set (plus_multiples ns t (take k os)) k (slice_index_or ns k d +ℤ (t *ℤ slice_index_or os k d)) ≡ plus_multiples ns t (take (suc k) os)
unfolding plus_multiples
one_more [] os t d k lt same = absurd (omega arith)
one_more (n ∷ ns) [] t d k lt same = absurd (omega arith)
one_more (n ∷ ns) (o ∷ os) t d zero lt same = ap (λ l. (n +ℤ (t *ℤ o)) ∷ l) (sym (none_added ns t))
one_more (n ∷ ns) (o ∷ os) t d (suc k) lt same = ap (λ l. (n +ℤ (t *ℤ o)) ∷ l) (one_more ns os t d k (omega arith) (omega arith))

-- ---- the loop's step, with the sums in 64 bits
abbrev pub code_sum : List ℤ → ℤ → List ℤ → ℕ → ℤ
code_sum sums t os k =
    to_z w64 (of_z w64 (slice_index_or sums k (pos 0))) +ℤ to_z w64 (of_z w64 (t *ℤ to_z w64 (of_z w64 (slice_index_or os k (pos 0)))))

pub record Next (ns os : List ℤ) (t : ℤ) (k : ℕ) (sums : List ℤ) : Type 0 where
  pub fits : FitsSigned w64 (code_sum sums t os k)
  pub is : slice_set sums k (to_z w64 (of_z w64 (code_sum sums t os k))) ≡ plus_multiples ns t (take (k + 1) os)

pub next : (ns os : List ℤ) (given t : ℤ) (k : ℕ) (sums : List ℤ) → t ≡ given → sums ≡ plus_multiples ns t (take k os) →
    k < length ns → length ns ≡ length os →
    IsAtMost (2 ^ 61) (slice_index_or ns k (pos 0)) → IsAtMost (2 ^ 62) (slice_index_or os k (pos 0)) →
    IsProductAtMost (2 ^ 62) given (slice_index_or os k (pos 0)) → Next ns os t k sums
next ns os given t k sums is_given is_sums lt same n_small o_small p_small =
    let n = slice_index_or ns k (pos 0) in
    let o = slice_index_or os k (pos 0) in
    let n_is : slice_index_or sums k (pos 0) ≡ n = ap (λ s. slice_index_or s k (pos 0)) is_sums ∙ not_yet ns os t (pos 0) k in
    let n_kept : to_z w64 (of_z w64 (slice_index_or sums k (pos 0))) ≡ n = ap (λ z. to_z w64 (of_z w64 z)) n_is ∙ kept (2 ^ 61) n n_small (lit< tt) in
    let o_kept : to_z w64 (of_z w64 o) ≡ o = kept (2 ^ 62) o o_small (lit< tt) in
    let product : IsAtMost (2 ^ 62) (t *ℤ o) = rw is_given p_small in
    let p_kept : to_z w64 (of_z w64 (t *ℤ to_z w64 (of_z w64 o))) ≡ t *ℤ o =
    ap (λ z. to_z w64 (of_z w64 (t *ℤ z))) o_kept ∙ kept (2 ^ 62) (t *ℤ o) product (lit< tt) in
    let sum_is : code_sum sums t os k ≡ n +ℤ (t *ℤ o) = ap₂ (λ x y. x +ℤ y) n_kept p_kept in
    let small : IsAtMost (2 ^ 61 + 2 ^ 62) (n +ℤ (t *ℤ o)) = sum_at_most (2 ^ 61) (2 ^ 62) n (t *ℤ o) n_small product in
    let sum_kept : to_z w64 (of_z w64 (code_sum sums t os k)) ≡ n +ℤ (t *ℤ o) =
    ap (λ z. to_z w64 (of_z w64 z)) sum_is ∙ kept (2 ^ 61 + 2 ^ 62) (n +ℤ (t *ℤ o)) small (lit< tt) in
    record {
      fits = rw sum_is (fits_signed_from_abs w64 (n +ℤ (t *ℤ o)) (omega arith));
      is = ap₂ (λ s z. slice_set s k z) is_sums sum_kept ∙ rw add-one (one_more ns os t (pos 0) k lt same);
    }

pub ended : (ns os : List ℤ) (given t : ℤ) (k : ℕ) (sums : List ℤ) → t ≡ given → sums ≡ plus_multiples ns t (take k os) →
    length os ≤ k → sums ≡ plus_multiples ns given os
ended ns os given t k sums is_given is_sums le = is_sums ∙ ap₂ (λ u l. plus_multiples ns u l) is_given (take_all k os le)
