-- The tests of equality of terms, atoms, literals and lists of literals answer whether they are equal.
use Rattle.std.specs.Prelude.{◌≡◌, ℕ, ℤ, Bool, true, false, not, ◌==◌, ◌||◌, ◌⊎◌, List, [], ◌∷◌, refl}
use Rattle.std.proofs.Common.{sym, ap, inl, inr, eqb-true, true≢false}
use Rattle.std.proofs.lemmas.Bool.{and_parts}
use Rattle.std.specs.Ordering.{int_eq, is_eq}
use Rattle.std.specs.declared.cmp.Ordering.{Ordering}
use Rattle.std.specs.declared.cmp.Ordering.TheVariants.{Less, Equal, Greater}
use Rattle.rule_terms.specs.Term.{StoreTerm, run, ValueTerm, num, get, ev, add, sub, mul, ValueTerms, Place}
use Rattle.rule_terms.specs.Order.{value_cmp, store_same, value_same, place_same}
use Rattle.rule_terms.specs.declared.obligation.Atom.{Atom}
use Rattle.rule_terms.specs.declared.obligation.Atom.TheVariants.{SameName, SameStore, SameValue, AtMost, Ends, Holds}
use Rattle.rule_terms.proofs.Orders.{store_equal, value_equal, place_equal}
use Rattle.term_meaning.proofs.Truths.{int_equal}
use Rattle.law_clauses.specs.Shapes.{place, is_run, is_num, is_get, is_ev, is_add, is_mul}
use Rattle.law_clauses.specs.Signed.{Signed, plus, minus, atom_same, signed_same, all_same}

-- ---- tests
pub or_cases : (x y : Bool) → (x || y) ≡ true → (x ≡ true) ⊎ (y ≡ true)
or_cases true y e = inl refl
or_cases false y e = inr e

pub not_false : (b : Bool) → not b ≡ false → b ≡ true
not_false true e = refl
not_false false e = absurd (true≢false e)

pub not_true : (b : Bool) → not b ≡ true → b ≡ false
not_true true e = absurd (true≢false (sym e))
not_true false e = refl

pub same_truth : (p q : Bool) → (p ≡ true → q ≡ true) → (q ≡ true → p ≡ true) → p ≡ q
same_truth true q to from = sym (to refl)
same_truth false true to from = from refl
same_truth false false to from = refl

pub or_false : (b : Bool) → (b || false) ≡ b
or_false true = refl
or_false false = refl

pub or_more : (a b c : Bool) → (a || (b || c)) ≡ ((a || b) || c)
or_more true b c = refl
or_more false b c = refl

-- ---- equality
tied : (r : Ordering) → is_eq r ≡ true → r ≡ Equal
tied Less e = cc
tied Equal e = refl
tied Greater e = cc

pub store_is : (a b : StoreTerm) → store_same a b ≡ true → a ≡ b
store_is a b e = store_equal a b (tied _ e)

pub value_is : (a b : ValueTerm) → value_same a b ≡ true → a ≡ b
value_is a b e = value_equal a b (tied _ e)

pub place_is : (a b : Place) → place_same a b ≡ true → a ≡ b
place_is a b e = place_equal a b (tied _ e)

pub number_is : (x y : ℕ) → (x == y) ≡ true → x ≡ y
number_is x y e = eqb-true x y e

pub integer_is : (x y : ℤ) → int_eq x y ≡ true → x ≡ y
integer_is x y e = int_equal x y e

pub atom_is : (a b : Atom) → atom_same a b ≡ true → a ≡ b
unfolding atom_same
atom_is (SameName x y) (SameName z w) e = let p = and_parts _ _ e in λ j. SameName (number_is x z p.0 j) (number_is y w p.1 j)
atom_is (SameStore a b) (SameStore c d) e = let p = and_parts _ _ e in λ j. SameStore (store_is a c p.0 j) (store_is b d p.1 j)
atom_is (SameValue a b) (SameValue c d) e = let p = and_parts _ _ e in λ j. SameValue (value_is a c p.0 j) (value_is b d p.1 j)
atom_is (AtMost a b x) (AtMost c d y) e =
    let p = and_parts _ _ e in
    let q = and_parts _ _ p.1 in
    λ j. AtMost (value_is a c q.0 j) (value_is b d q.1 j) (integer_is x y p.0 j)
atom_is (Ends s) (Ends t) e = λ j. Ends (store_is s t e j)
atom_is (Holds x s) (Holds y t) e = let p = and_parts _ _ e in λ j. Holds (number_is x y p.0 j) (store_is s t p.1 j)
atom_is _ _ e = absurd (true≢false (sym e))

pub signed_is : (x y : Signed) → signed_same x y ≡ true → x ≡ y
unfolding signed_same
signed_is (plus a) (plus b) e = ap plus (atom_is a b e)
signed_is (plus a) (minus b) e = absurd (true≢false (sym e))
signed_is (minus a) (plus b) e = absurd (true≢false (sym e))
signed_is (minus a) (minus b) e = ap minus (atom_is a b e)

pub all_is : (xs ys : List Signed) → all_same xs ys ≡ true → xs ≡ ys
unfolding all_same
all_is [] [] e = refl
all_is [] (y ∷ ys) e = absurd (true≢false (sym e))
all_is (x ∷ xs) [] e = absurd (true≢false (sym e))
all_is (x ∷ xs) (y ∷ ys) e = let p = and_parts _ _ e in λ j. signed_is x y p.0 j ∷ all_is xs ys p.1 j

-- ---- terms by their shapes
pub run_is : (t : StoreTerm) (k : ℕ) (s : StoreTerm) → is_run t k s ≡ true → t ≡ run k s
unfolding is_run
run_is (run j t) k s e = let p = and_parts (j == k) _ e in λ m. run (number_is j k p.0 m) (store_is t s p.1 m)
run_is _ k s e = absurd (true≢false (sym e))

pub num_is : (w : ValueTerm) (z : ℤ) → is_num w z ≡ true → w ≡ num z
unfolding is_num
num_is (num y) z e = ap num (integer_is y z e)
num_is _ z e = absurd (true≢false (sym e))

pub get_is : (w : ValueTerm) (x : ℕ) (is : ValueTerms) (s : StoreTerm) → is_get w x is s ≡ true → w ≡ get x is s
unfolding is_get
get_is (get y js t) x is s e =
    let p = and_parts (place_same (place y js) (place x is)) _ e in
    let at = place_is (place y js) (place x is) p.0 in
    λ j. get ((at j).name) ((at j).indices) (store_is t s p.1 j)
get_is _ x is s e = absurd (true≢false (sym e))

pub ev_is : (w : ValueTerm) (k : ℕ) (s : StoreTerm) → is_ev w k s ≡ true → w ≡ ev k s
unfolding is_ev
ev_is (ev j t) k s e = let p = and_parts (j == k) _ e in λ m. ev (number_is j k p.0 m) (store_is t s p.1 m)
ev_is _ k s e = absurd (true≢false (sym e))

pub add_is : (w a b : ValueTerm) → is_add w a b ≡ true → w ≡ add a b
unfolding is_add
add_is (add c d) a b e = let p = and_parts (value_same c a) _ e in λ j. add (value_is c a p.0 j) (value_is d b p.1 j)
add_is _ a b e = absurd (true≢false (sym e))

pub mul_is : (w a b : ValueTerm) → is_mul w a b ≡ true → w ≡ mul a b
unfolding is_mul
mul_is (mul c d) a b e = let p = and_parts (value_same c a) _ e in λ j. mul (value_is c a p.0 j) (value_is d b p.1 j)
mul_is _ a b e = absurd (true≢false (sym e))

-- a term is a constant exactly where it is the same as that
pub num_same : (w : ValueTerm) (z : ℤ) → value_same w (num z) ≡ is_num w z
unfolding value_cmp is_num
num_same (num y) z = refl
num_same (get x is s) z = refl
num_same (ev k s) z = refl
num_same (add a b) z = refl
num_same (sub a b) z = refl
num_same (mul a b) z = refl
