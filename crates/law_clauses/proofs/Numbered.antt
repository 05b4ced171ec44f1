-- Arguments of terms by their numbers.
use Rattle.std.specs.Prelude.{◌≡◌, ◌≢◌, ◌<◌, ◌-◌, ℕ, zero, suc, List, [], ◌∷◌, length, get_or, Some, None, slice_get, refl}
use Rattle.std.proofs.Common.{ap, arith}
use Rattle.rule_terms.specs.Term.{StoreTerm, put, ValueTerm, get, ValueTerms}
use Rattle.rule_terms.specs.TermView.{terms_of}
use Rattle.law_clauses.specs.Arguments.{Argument, of_store, of_value, index_arguments, store_arguments, value_arguments}

pub past_one : (a : Argument) (n : ℕ) → n ≢ 0 → slice_get (a ∷ []) n ≡ None
past_one a zero apart = absurd (apart refl)
past_one a (suc n) apart = refl

pub past_two : (a b : Argument) (n : ℕ) → n ≢ 0 → n ≢ 1 → slice_get (a ∷ b ∷ []) n ≡ None
past_two a b zero apart apart_too = absurd (apart refl)
past_two a b (suc zero) apart apart_too = absurd (apart_too refl)
past_two a b (suc (suc n)) apart apart_too = refl

-- indices, and what stands behind them
pub index_inside : (vs : List ValueTerm) (more : List Argument) (n : ℕ) (d : ValueTerm) → n < length vs → slice_get (index_arguments (terms_of vs) more) n ≡ Some (of_value (get_or vs n d))
index_inside [] more n d h = absurd (omega arith)
index_inside (v ∷ vs) more zero d h = refl
index_inside (v ∷ vs) more (suc n) d h = let less : n < length vs = omega arith in index_inside vs more n d less

pub index_behind : (vs : List ValueTerm) (a : Argument) (n : ℕ) → n ≡ length vs → slice_get (index_arguments (terms_of vs) (a ∷ [])) n ≡ Some a
index_behind [] a zero e = refl
index_behind [] a (suc n) e = absurd (omega arith)
index_behind (v ∷ vs) a zero e = absurd (omega arith)
index_behind (v ∷ vs) a (suc n) e = let h : n ≡ length vs = omega arith in index_behind vs a n h

pub index_past : (vs : List ValueTerm) (a : Argument) (n : ℕ) → length vs < n → slice_get (index_arguments (terms_of vs) (a ∷ [])) n ≡ None
index_past [] a zero h = absurd (omega arith)
index_past [] a (suc n) h = refl
index_past (v ∷ vs) a zero h = absurd (omega arith)
index_past (v ∷ vs) a (suc n) h = let more : length vs < n = omega arith in index_past vs a n more

-- a write and a read, behind what stands before the indices
pub write_rest : (s : StoreTerm) (x : ℕ) (is : ValueTerms) (v : ValueTerm) (n : ℕ) → n ≢ 0 → n ≢ 1 → slice_get (store_arguments (put s x is v)) n ≡ slice_get (index_arguments is (of_value v ∷ [])) (n - 2)
write_rest s x is v zero apart apart_too = absurd (apart refl)
write_rest s x is v (suc zero) apart apart_too = absurd (apart_too refl)
write_rest s x is v (suc (suc n)) apart apart_too = let e : n ≡ suc (suc n) - 2 = omega arith in ap (slice_get (index_arguments is (of_value v ∷ []))) e

pub read_rest : (x : ℕ) (is : ValueTerms) (s : StoreTerm) (n : ℕ) → n ≢ 0 → slice_get (value_arguments (get x is s)) n ≡ slice_get (index_arguments is (of_store s ∷ [])) (n - 1)
read_rest x is s zero apart = absurd (apart refl)
read_rest x is s (suc n) apart = let e : n ≡ suc n - 1 = omega arith in ap (slice_get (index_arguments is (of_store s ∷ []))) e
