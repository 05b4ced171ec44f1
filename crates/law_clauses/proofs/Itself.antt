-- A term, an atom or a literal is the same as itself by the tests, and a term has its own shape.
use Rattle.std.specs.Prelude.{◌≡◌, ℕ, ℤ, true, ◌==◌, List, [], ◌∷◌, refl}
use Rattle.std.proofs.Common.{ap}
use Rattle.std.specs.Ordering.{int_eq, is_eq}
use Rattle.std.proofs.lemmas.Bool.{eq-eqb, and_from}
use Rattle.rule_terms.specs.Term.{StoreTerm, put, run, ValueTerm, num, get, ev, add, sub, mul, ValueTerms, Place}
use Rattle.rule_terms.specs.Order.{store_same, value_same, place_same}
use Rattle.rule_terms.specs.declared.obligation.Atom.{Atom}
use Rattle.rule_terms.specs.declared.obligation.Atom.TheVariants.{SameName, SameStore, SameValue, AtMost, Ends, Holds}
use Rattle.rule_terms.proofs.Orders.{store_decides, value_decides, place_decides}
use Rattle.term_meaning.proofs.Truths.{int_from}
use Rattle.law_clauses.specs.Signed.{Signed, plus, minus, atom_same, signed_same, all_same}
use Rattle.law_clauses.specs.Shapes.{place, is_run, is_put, is_num, is_get, is_ev, is_add, is_sub, is_mul}

pub number_itself : (x : ℕ) → (x == x) ≡ true
number_itself x = eq-eqb x x refl

pub integer_itself : (z : ℤ) → int_eq z z ≡ true
integer_itself z = int_from z z refl

pub store_itself : (s : StoreTerm) → store_same s s ≡ true
store_itself s = ap is_eq ((store_decides s s).1 refl)

pub value_itself : (v : ValueTerm) → value_same v v ≡ true
value_itself v = ap is_eq ((value_decides v v).1 refl)

pub place_itself : (p : Place) → place_same p p ≡ true
place_itself p = ap is_eq ((place_decides p p).1 refl)

pub atom_itself : (a : Atom) → atom_same a a ≡ true
unfolding atom_same
atom_itself (SameName x y) = and_from _ _ (number_itself x) (number_itself y)
atom_itself (SameStore a b) = and_from _ _ (store_itself a) (store_itself b)
atom_itself (SameValue a b) = and_from _ _ (value_itself a) (value_itself b)
atom_itself (AtMost a b c) = and_from _ _ (integer_itself c) (and_from _ _ (value_itself a) (value_itself b))
atom_itself (Ends s) = store_itself s
atom_itself (Holds k s) = and_from _ _ (number_itself k) (store_itself s)

pub signed_itself : (x : Signed) → signed_same x x ≡ true
unfolding signed_same
signed_itself (plus a) = atom_itself a
signed_itself (minus a) = atom_itself a

pub all_itself : (xs : List Signed) → all_same xs xs ≡ true
unfolding all_same
all_itself [] = refl
all_itself (x ∷ xs) = and_from _ _ (signed_itself x) (all_itself xs)

-- ---- by the shapes of terms
pub run_itself : (k : ℕ) (s : StoreTerm) → is_run (run k s) k s ≡ true
unfolding is_run
run_itself k s = and_from _ _ (number_itself k) (store_itself s)

pub put_itself : (s : StoreTerm) (x : ℕ) (is : ValueTerms) (v : ValueTerm) → is_put (put s x is v) s x is v ≡ true
unfolding is_put
put_itself s x is v = and_from _ _ (store_itself s) (and_from _ _ (place_itself (place x is)) (value_itself v))

pub num_itself : (z : ℤ) → is_num (num z) z ≡ true
unfolding is_num
num_itself z = integer_itself z

pub get_itself : (x : ℕ) (is : ValueTerms) (s : StoreTerm) → is_get (get x is s) x is s ≡ true
unfolding is_get
get_itself x is s = and_from _ _ (place_itself (place x is)) (store_itself s)

pub ev_itself : (k : ℕ) (s : StoreTerm) → is_ev (ev k s) k s ≡ true
unfolding is_ev
ev_itself k s = and_from _ _ (number_itself k) (store_itself s)

pub add_itself : (a b : ValueTerm) → is_add (add a b) a b ≡ true
unfolding is_add
add_itself a b = and_from _ _ (value_itself a) (value_itself b)

pub sub_itself : (a b : ValueTerm) → is_sub (sub a b) a b ≡ true
unfolding is_sub
sub_itself a b = and_from _ _ (value_itself a) (value_itself b)

pub mul_itself : (a b : ValueTerm) → is_mul (mul a b) a b ≡ true
unfolding is_mul
mul_itself a b = and_from _ _ (value_itself a) (value_itself b)
