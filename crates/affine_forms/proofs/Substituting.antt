-- Forms put for counters one after another, as the loop does it.
use Rattle.std.specs.Prelude.{◌≡◌, ◌≤◌, ◌<◌, ◌+◌, ◌*◌, ◌^◌, ℕ, zero, suc, ℤ, List, [], ◌∷◌, length, drop, slice_index_or, All, refl}
use Rattle.std.proofs.Common.{◌∙◌, ap, sym, arith, add-one, lit<, to_z, of_z, w64}
use Rattle.std.proofs.lemmas.List.{drop_all}
use Rattle.affine_forms.specs.declared.form.Form.{Form}
use Rattle.affine_forms.specs.Form.{IsWithin, AreProductsWithin, HasUnitCounters, plus_multiple, without_counters, with_terms, substitute}
use Rattle.affine_forms.proofs.Magnitudes.{products_within, sum_within, without_within, wider, kept}

next_term : (f : Form) (cs : List ℤ) (gs : List Form) (k : ℕ) (d : ℤ) (e : Form) → k < length cs → length cs ≡ length gs →
    with_terms f (drop k cs) (drop k gs) ≡ with_terms (plus_multiple f (slice_index_or cs k d) (slice_index_or gs k e)) (drop (suc k) cs) (drop (suc k) gs)
unfolding with_terms
next_term f [] gs k d e lt same = absurd (omega arith)
next_term f (c ∷ cs) [] k d e lt same = absurd (omega arith)
next_term f (c ∷ cs) (g ∷ gs) zero d e lt same = refl
next_term f (c ∷ cs) (g ∷ gs) (suc k) d e lt same = next_term f cs gs k d e (omega arith) (omega arith)

nothing_added : (f : Form) (gs : List Form) → with_terms f [] gs ≡ f
unfolding with_terms
nothing_added f gs = refl

no_more : (f : Form) (cs : List ℤ) (gs : List Form) (k : ℕ) → length cs ≤ k → with_terms f (drop k cs) (drop k gs) ≡ f
no_more f cs gs k le = ap (λ l. with_terms f l (drop k gs)) (drop_all k cs le) ∙ nothing_added f (drop k gs)

-- what is added after k counters, and how large it is at most
pub record SoFar (f : Form) (by : List Form) (k : ℕ) (sum : Form) : Type 0 where
  pub within : IsWithin ((k + 1) * 2 ^ 40) sum
  pub rest : with_terms sum (drop k f.counters) (drop k by) ≡ substitute f by

pub started : (f : Form) (by : List Form) → IsWithin (2 ^ 40) f → SoFar f by 0 (without_counters f)
started f by is = record { within = without_within (2 ^ 40) f is; rest = refl }

pub goes_on : (f : Form) (by : List Form) (k : ℕ) (sum : Form) (d : ℤ) (e : Form) → SoFar f by k sum → k < length f.counters →
    length f.counters ≡ length by → HasUnitCounters f → All (IsWithin (2 ^ 40)) by →
    SoFar f by (k + 1) (plus_multiple sum (slice_index_or f.counters k d) (slice_index_or by k e))
goes_on f by k sum d e so_far lt same unit are =
    let t = slice_index_or f.counters k d in
    let g = slice_index_or by k e in
    let products : AreProductsWithin (2 ^ 40) t g = products_within 1 (2 ^ 40) (2 ^ 40) t g (unit k d lt) (are k e (omega (arith, lt, same))) (omega arith) in
    record {
      within = wider ((k + 1) * 2 ^ 40 + 2 ^ 40) ((k + 1 + 1) * 2 ^ 40) (plus_multiple sum t g) (omega arith) (sum_within ((k + 1) * 2 ^ 40) (2 ^ 40) sum g t so_far.within products);
      rest = rw add-one (sym (next_term sum f.counters by k d e lt same)) ∙ so_far.rest;
    }

pub ended : (f : Form) (by : List Form) (k : ℕ) (sum : Form) → SoFar f by k sum → length f.counters ≤ k → sum ≡ substitute f by
ended f by k sum so_far le = sym (no_more sum f.counters by k le) ∙ so_far.rest

pub room : (f : Form) (by : List Form) (k : ℕ) (sum : Form) → SoFar f by k sum → k < 4 → IsWithin (2 ^ 61) sum
room f by k sum so_far lt = wider ((k + 1) * 2 ^ 40) (2 ^ 61) sum (omega arith) so_far.within

pub products_room : (f : Form) (by : List Form) (k : ℕ) (d : ℤ) (e : Form) → k < length f.counters → length f.counters ≡ length by →
    HasUnitCounters f → All (IsWithin (2 ^ 40)) by → AreProductsWithin (2 ^ 62) (slice_index_or f.counters k d) (slice_index_or by k e)
products_room f by k d e lt same unit are =
    products_within 1 (2 ^ 40) (2 ^ 62) (slice_index_or f.counters k d) (slice_index_or by k e) (unit k d lt) (are k e (omega (arith, lt, same))) (omega arith)

pub unit_kept : (f : Form) (k : ℕ) (d : ℤ) → k < length f.counters → HasUnitCounters f →
    to_z w64 (of_z w64 (slice_index_or f.counters k d)) ≡ slice_index_or f.counters k d
unit_kept f k d lt unit = kept 1 (slice_index_or f.counters k d) (unit k d lt) (lit< tt)
