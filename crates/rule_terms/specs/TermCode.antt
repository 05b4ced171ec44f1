-- Terms and places as trees of numbers, from which they can be read back.
-- So different terms have different codes.
use Rattle.std.specs.Prelude.{◌≡◌, ℕ, zero, suc, refl}
use Rattle.std.proofs.Common.{sym, ◌∙◌, ap}
use Rattle.std.specs.Coded.{Coded, code_by, coded×, coded_ℕ}
use base.Stored.{Gv, gnil, gnum, gcons}
use Rattle.toy_imp.specs.NameCode.{number, int_code, int_read, int_read-code}
use Rattle.rule_terms.specs.Term.{StoreTerm, left_store, right_store, put, run, ValueTerm, num, get, ev, add, sub, mul, ValueTerms, no_terms, term, Place}

abbrev mutual
  pub store_code_of : StoreTerm → Gv
  store_code_of left_store = gcons (gnum 0) gnil
  store_code_of right_store = gcons (gnum 1) gnil
  store_code_of (put s x is v) = gcons (gnum 2) (gcons (store_code_of s) (gcons (gnum x) (gcons (terms_code_of is) (value_code_of v))))
  store_code_of (run k s) = gcons (gnum 3) (gcons (gnum k) (store_code_of s))

  pub value_code_of : ValueTerm → Gv
  value_code_of (num z) = gcons (gnum 0) (int_code z)
  value_code_of (get x is s) = gcons (gnum 1) (gcons (gnum x) (gcons (terms_code_of is) (store_code_of s)))
  value_code_of (ev k s) = gcons (gnum 2) (gcons (gnum k) (store_code_of s))
  value_code_of (add a b) = gcons (gnum 3) (gcons (value_code_of a) (value_code_of b))
  value_code_of (sub a b) = gcons (gnum 4) (gcons (value_code_of a) (value_code_of b))
  value_code_of (mul a b) = gcons (gnum 5) (gcons (value_code_of a) (value_code_of b))

  pub terms_code_of : ValueTerms → Gv
  terms_code_of no_terms = gnil
  terms_code_of (term v vs) = gcons (value_code_of v) (terms_code_of vs)

-- what a code can be read as, at each of its nodes
pub data Read : Type 0 where
  leaf : Gv → Read
  node : Gv → StoreTerm → ValueTerm → ValueTerms → Read → Read → Read

abbrev raw : Read → Gv
raw (leaf g) = g
raw (node g s v vs a b) = g

abbrev as_store : Read → StoreTerm
as_store (leaf g) = left_store
as_store (node g s v vs a b) = s

abbrev as_value : Read → ValueTerm
as_value (leaf g) = ev 0 left_store
as_value (node g s v vs a b) = v

abbrev as_terms : Read → ValueTerms
as_terms (leaf g) = no_terms
as_terms (node g s v vs a b) = vs

abbrev first : Read → Read
first (leaf g) = leaf g
first (node g s v vs a b) = a

abbrev second : Read → Read
second (leaf g) = leaf g
second (node g s v vs a b) = b

abbrev store_by : ℕ → Read → StoreTerm
store_by zero r = left_store
store_by (suc zero) r = right_store
store_by (suc (suc zero)) r = put (as_store (first r)) (number (raw (first (second r)))) (as_terms (first (second (second r)))) (as_value (second (second (second r))))
store_by (suc (suc (suc n))) r = run (number (raw (first r))) (as_store (second r))

abbrev value_by : ℕ → Read → ValueTerm
value_by zero r = num (int_read (raw r))
value_by (suc zero) r = get (number (raw (first r))) (as_terms (first (second r))) (as_store (second (second r)))
value_by (suc (suc zero)) r = ev (number (raw (first r))) (as_store (second r))
value_by (suc (suc (suc zero))) r = add (as_value (first r)) (as_value (second r))
value_by (suc (suc (suc (suc zero)))) r = sub (as_value (first r)) (as_value (second r))
value_by (suc (suc (suc (suc (suc n))))) r = mul (as_value (first r)) (as_value (second r))

abbrev read : Gv → Read
read gnil = leaf gnil
read (gnum n) = leaf (gnum n)
read (gcons a b) = node (gcons a b) (store_by (number a) (read b)) (value_by (number a) (read b)) (term (as_value (read a)) (as_terms (read b))) (read a) (read b)

-- the raw code stands at the top of what it is read as
raw-read : (g : Gv) → raw (read g) ≡ g
raw-read gnil = refl
raw-read (gnum n) = refl
raw-read (gcons a b) = refl

mutual
  store_back : (s : StoreTerm) → as_store (read (store_code_of s)) ≡ s
  store_back left_store = refl
  store_back right_store = refl
  store_back (put s x is v) = λ i. put (store_back s i) x (terms_back is i) (value_back v i)
  store_back (run k s) = λ i. run k (store_back s i)

  value_back : (v : ValueTerm) → as_value (read (value_code_of v)) ≡ v
  value_back (num z) = λ i. num ((ap int_read (raw-read (int_code z)) ∙ int_read-code z) i)
  value_back (get x is s) = λ i. get x (terms_back is i) (store_back s i)
  value_back (ev k s) = λ i. ev k (store_back s i)
  value_back (add a b) = λ i. add (value_back a i) (value_back b i)
  value_back (sub a b) = λ i. sub (value_back a i) (value_back b i)
  value_back (mul a b) = λ i. mul (value_back a i) (value_back b i)

  terms_back : (vs : ValueTerms) → as_terms (read (terms_code_of vs)) ≡ vs
  terms_back no_terms = refl
  terms_back (term v vs) = λ i. term (value_back v i) (terms_back vs i)

pub store_inj : (x y : StoreTerm) → store_code_of x ≡ store_code_of y → x ≡ y
store_inj x y p = sym (store_back x) ∙ ap (λ g. as_store (read g)) p ∙ store_back y

pub value_inj : (x y : ValueTerm) → value_code_of x ≡ value_code_of y → x ≡ y
value_inj x y p = sym (value_back x) ∙ ap (λ g. as_value (read g)) p ∙ value_back y

pub terms_inj : (x y : ValueTerms) → terms_code_of x ≡ terms_code_of y → x ≡ y
terms_inj x y p = sym (terms_back x) ∙ ap (λ g. as_terms (read g)) p ∙ terms_back y

abbrev pub store_code : Coded StoreTerm
store_code = record { code = store_code_of; inj = store_inj }

abbrev pub value_code : Coded ValueTerm
value_code = record { code = value_code_of; inj = value_inj }

abbrev pub terms_code : Coded ValueTerms
terms_code = record { code = terms_code_of; inj = terms_inj }

abbrev parts_of : Place → ℕ × ValueTerms
parts_of p = (p.name, p.indices)

abbrev place_from : ℕ × ValueTerms → Place
place_from p = record { name = p.0; indices = p.1 }

abbrev pub place_code : Coded Place
place_code = code_by (ℕ × ValueTerms) (coded× coded_ℕ terms_code) parts_of place_from (λ _. refl)
