-- The values of forms: of those of one term, of sums and multiples, and where counters are replaced by forms.
use Rattle.std.specs.Prelude.{◌≡◌, ◌<◌, ℕ, zero, suc, ℤ, pos, ◌+ℤ◌, ◌*ℤ◌, List, [], ◌∷◌, length, replicate, slice_index_or, slice_set, All, refl}
use Rattle.std.proofs.Common.{◌∙◌, ap, sym, arith}
use Rattle.std.proofs.lemmas.Int.{ints}
use lib.IntN.{zero-*ℤ, *ℤ_comm}
use Rattle.affine_forms.specs.declared.form.Form.{Form}
use Rattle.affine_forms.specs.Form.{weighted_sum, form_value, IsForm, plus_multiples, plus_multiple, without_counters, with_terms}
use Rattle.affine_forms.specs.Maps.{image}
use Rattle.affine_forms.specs.Laws.{ConstantIsItself, CounterIsItsValue, SymbolIsItsValue, MultipleIsAdded, SubstitutedIsAtImage, UndoneIsBack}
use Rattle.affine_forms.proofs.Products.{sum_times, product_of_sum, product_associates}

-- ---- weighted sums
no_values : (cs : List ℤ) → weighted_sum cs [] ≡ pos 0
unfolding weighted_sum
no_values [] = refl
no_values (c ∷ cs) = refl

zeros : (n : ℕ) (vs : List ℤ) → weighted_sum (replicate n (pos 0)) vs ≡ pos 0
unfolding weighted_sum
zeros zero vs = refl
zeros (suc n) [] = refl
zeros (suc n) (v ∷ vs) =
    let none = zero-*ℤ v in
    let rest = zeros n vs in
    omega (arith, ints)

one_place : (n k : ℕ) (vs : List ℤ) → k < n → weighted_sum (slice_set (replicate n (pos 0)) k (pos 1)) vs ≡ slice_index_or vs k (pos 0)
unfolding weighted_sum
one_place zero k vs lt = absurd (omega arith)
one_place (suc n) zero [] lt = refl
one_place (suc n) (suc k) [] lt = refl
one_place (suc n) zero (v ∷ vs) lt =
    let rest = zeros n vs in
    omega (arith, ints)
one_place (suc n) (suc k) (v ∷ vs) lt =
    let none = zero-*ℤ v in
    let rest = one_place n k vs (omega arith) in
    omega (arith, ints)

none_times : (t : ℤ) → t *ℤ pos 0 ≡ pos 0
none_times t = *ℤ_comm t (pos 0) ∙ zero-*ℤ t

sum_of_multiples : (ns os : List ℤ) (t : ℤ) (vs : List ℤ) → length ns ≡ length os →
    weighted_sum (plus_multiples ns t os) vs ≡ weighted_sum ns vs +ℤ (t *ℤ weighted_sum os vs)
unfolding weighted_sum plus_multiples
sum_of_multiples [] [] t vs same = let none = none_times t in omega (arith, ints)
sum_of_multiples [] (o ∷ os) t vs same = absurd (omega arith)
sum_of_multiples (n ∷ ns) [] t vs same = absurd (omega arith)
sum_of_multiples (n ∷ ns) (o ∷ os) t [] same = let none = none_times t in omega (arith, ints)
sum_of_multiples (n ∷ ns) (o ∷ os) t (v ∷ vs) same =
    let first = sum_times n (t *ℤ o) v in
    let second = product_associates t o v in
    let third = product_of_sum t (o *ℤ v) (weighted_sum os vs) in
    let rest = sum_of_multiples ns os t vs (omega arith) in
    omega (arith, ints)

as_many : (ns os : List ℤ) (t : ℤ) → length (plus_multiples ns t os) ≡ length ns
unfolding plus_multiples
as_many [] os t = refl
as_many (n ∷ ns) [] t = refl
as_many (n ∷ ns) (o ∷ os) t = ap suc (as_many ns os t)

-- ---- forms
pub constant_is_itself : ConstantIsItself
constant_is_itself z xs cs =
    let counters = zeros 4 xs in
    let symbols = zeros 8 cs in
    omega (arith, ints)

pub counter_is_its_value : CounterIsItsValue
counter_is_its_value k xs cs lt =
    let counters = one_place 4 k xs lt in
    let symbols = zeros 8 cs in
    omega (arith, ints)

pub symbol_is_its_value : SymbolIsItsValue
symbol_is_its_value k xs cs lt =
    let counters = zeros 4 xs in
    let symbols = one_place 8 k cs lt in
    omega (arith, ints)

pub multiple_is_added : MultipleIsAdded
multiple_is_added f g t xs cs f_form g_form =
    let counters = sum_of_multiples f.counters g.counters t xs (f_form.counters ∙ sym g_form.counters) in
    let symbols = sum_of_multiples f.symbols g.symbols t cs (f_form.symbols ∙ sym g_form.symbols) in
    let outer = product_of_sum t (weighted_sum g.counters xs +ℤ weighted_sum g.symbols cs) g.constant in
    let inner = product_of_sum t (weighted_sum g.counters xs) (weighted_sum g.symbols cs) in
    omega (arith, ints)

multiple_is_form : (f g : Form) (t : ℤ) → IsForm f → IsForm (plus_multiple f t g)
multiple_is_form f g t is = record {
  counters = as_many f.counters g.counters t ∙ is.counters;
  symbols = as_many f.symbols g.symbols t ∙ is.symbols;
}

with_terms_value : (f : Form) (ts : List ℤ) (gs : List Form) (xs cs : List ℤ) → IsForm f → All IsForm gs →
    form_value (with_terms f ts gs) xs cs ≡ form_value f xs cs +ℤ weighted_sum ts (image gs xs cs)
unfolding with_terms weighted_sum
with_terms_value f [] gs xs cs is are = omega (arith, ints)
with_terms_value f (t ∷ ts) [] xs cs is are = omega (arith, ints)
with_terms_value f (t ∷ ts) (g ∷ gs) xs cs is are =
    let first = multiple_is_added f g t xs cs is (are zero g (omega arith)) in
    let rest = with_terms_value (plus_multiple f t g) ts gs xs cs (multiple_is_form f g t is) (λ k d lt. are (suc k) d (omega arith)) in
    omega (arith, ints)

pub substituted_is_at_image : SubstitutedIsAtImage
substituted_is_at_image f by xs cs is are =
    let all = with_terms_value (without_counters f) f.counters by xs cs (record { counters = refl; symbols = is.symbols }) are in
    let none = zeros 4 xs in
    omega (arith, ints)

pub undone_is_back : UndoneIsBack
undone_is_back n back there xs cs back_are there_are few long undoes k d lt =
    sym (substituted_is_at_image (slice_index_or back k d) there xs cs (back_are k d (omega arith)) there_are)
    ∙ ap (λ f. form_value f xs cs) (undoes k d lt)
    ∙ counter_is_its_value k xs cs (omega arith)
