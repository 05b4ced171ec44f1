-- Names that are put into an index one after another, and what is found there.
use Rattle.std.proofs.Common.{◌≡◌, ℕ, suc, ◌+◌, List, [], ◌∷◌, ◌++◌, length, Bool, true, false, cond, Option, None, Some, is_some, unwrap_or, arith, refl, sym, ap, ◌∙◌, true≢false}
use Rattle.std.specs.Prelude.{bytes_eq, slice_get}
use Rattle.std.specs.declared.vec.Vec.{Vec}
use Rattle.std.specs.declared.alloc.Global.{Global}
use Rattle.std.specs.Map.{lookup}
use Rattle.std.specs.Option.{option_map, option_or}
use Rattle.std.proofs.lemmas.Cmp.{nat_list_eq_equiv}
use Rattle.toy_imp.specs.declared.param.Param.{Param}
use Rattle.toy_imp.specs.Parameters.{number_of, kind_of}
use Rattle.program_reader.specs.NameIndex.{number_at, first_from, IsIndexOf, AddsNumber}

-- a look-up in entries of which one more stands last
lookup_push : {K X : Type 0} (test : K → Bool) (es : List (K × X)) (e : K × X) →
    lookup test (es ++ e ∷ []) ≡ option_or (lookup test es) (cond (test e.0) (Some e.1) None)
lookup_push test [] e = refl
lookup_push {K} {X} test (a ∷ es) e = by (test a.0) (lookup_push test es e)
  where
    by : (b : Bool) → lookup test (es ++ e ∷ []) ≡ option_or (lookup test es) (cond (test e.0) (Some e.1) None) →
        cond b (Some a.1) (lookup test (es ++ e ∷ [])) ≡ option_or (cond b (Some a.1) (lookup test es)) (cond (test e.0) (Some e.1) None)
    by true rest = refl
    by false rest = rest

-- a name without a number is no key
pub no_number : (es : List (Vec ℕ Global × ℕ)) (key : Vec ℕ Global) (name : List ℕ) → key.items ≡ name → is_some (number_at es name) ≡ false → number_at es key.items ≡ None
no_number es key name key_is absent = ap (number_at es) key_is ∙ by (number_at es name) absent
  where
    by : (o : Option ℕ) → is_some o ≡ false → o ≡ None
    by None absent = refl
    by (Some n) absent = absurd (true≢false absent)

-- a new name goes last
pub added_new : (es new : List (Vec ℕ Global × ℕ)) (key : Vec ℕ Global) (name : List ℕ) (number : ℕ) → key.items ≡ name → new ≡ es ++ (key, number) ∷ [] →
    AddsNumber es name number new
added_new es new key name number key_is new_is x =
    ap (λ all. number_at all x) new_is
    ∙ lookup_push (λ k. bytes_eq x k.items) es (key, number)
    ∙ ap (λ b. option_or (number_at es x) (cond b (Some number) None)) (ap (λ k. bytes_eq x k) key_is ∙ nat_list_eq_equiv.symm x name)

-- the number of the first parameter of a name, and how many there are where none has it
found_from : (i : ℕ) (ps : List Param) (x : List ℕ) → unwrap_or (first_from i ps x) (i + length ps) ≡ i + number_of ps x
found_from i [] x = refl
found_from i (p ∷ ps) x = by (bytes_eq p.name x) (found_from (i + 1) ps x)
  where
    by : (b : Bool) → unwrap_or (first_from (i + 1) ps x) ((i + 1) + length ps) ≡ (i + 1) + number_of ps x →
        unwrap_or (cond b (Some i) (first_from (i + 1) ps x)) (i + suc (length ps)) ≡ i + cond b 0 (suc (number_of ps x))
    by true rest = omega arith
    by false rest =
        let count : i + suc (length ps) ≡ (i + 1) + length ps = omega arith in
        let number : (i + 1) + number_of ps x ≡ i + suc (number_of ps x) = omega arith in
        ap (unwrap_or (first_from (i + 1) ps x)) count ∙ rest ∙ number

number_found : (es : List (Vec ℕ Global × ℕ)) (ps : List Param) (x : List ℕ) → IsIndexOf es ps → unwrap_or (number_at es x) (length ps) ≡ number_of ps x
number_found es ps x is =
    let start : 0 + length ps ≡ length ps = omega arith in
    let end : 0 + number_of ps x ≡ number_of ps x = omega arith in
    ap (λ o. unwrap_or o (length ps)) (is x) ∙ ap (unwrap_or (first_from 0 ps x)) (sym start) ∙ found_from 0 ps x ∙ end

pub number_some : (es : List (Vec ℕ Global × ℕ)) (ps : List Param) (x : List ℕ) (n : ℕ) → IsIndexOf es ps → number_at es x ≡ Some n → n ≡ number_of ps x
number_some es ps x n is found = ap (λ o. unwrap_or o (length ps)) (sym found) ∙ number_found es ps x is

pub number_none : (es : List (Vec ℕ Global × ℕ)) (ps : List Param) (x : List ℕ) → IsIndexOf es ps → number_at es x ≡ None → length ps ≡ number_of ps x
number_none es ps x is none = ap (λ o. unwrap_or o (length ps)) (sym none) ∙ number_found es ps x is

-- the kind of a name is that of the parameter with its number
pub kind_at : (ps : List Param) (x : List ℕ) → option_map (λ p. p.kind) (slice_get ps (number_of ps x)) ≡ kind_of ps x
kind_at [] x = refl
kind_at (p ∷ ps) x = by (bytes_eq p.name x) (kind_at ps x)
  where
    by : (b : Bool) → option_map (λ q. q.kind) (slice_get ps (number_of ps x)) ≡ kind_of ps x →
        option_map (λ q. q.kind) (slice_get (p ∷ ps) (cond b 0 (suc (number_of ps x)))) ≡ cond b (Some p.kind) (kind_of ps x)
    by true rest = refl
    by false rest = rest
