-- Some part of two lists, and a term as the first of its parts.
use Rattle.std.proofs.Common.{◌≡◌, Bool, true, ◌||◌, List, ◌++◌, ap}
use Rattle.std.specs.List.{list_any}
use Rattle.std.proofs.lemmas.List.Folds.{list_any-append}
use Rattle.rule_terms.specs.Term.{StoreTerm, left_store, right_store, put, run, ValueTerm, num, get, ev, add, sub, mul}
use Rattle.rule_terms.specs.Parts.{Part, a_store, a_value, store_parts, value_parts}

pub any_append : {X : Type 0} (p : X → Bool) (xs ys : List X) → list_any p (xs ++ ys) ≡ (list_any p xs || list_any p ys)
any_append p xs ys = list_any-append p xs ys

or_first : (a b : Bool) → a ≡ true → (a || b) ≡ true
or_first a b h = ap (λ c. c || b) h

pub first_store : (q : Part → Bool) (s : StoreTerm) → q (a_store s) ≡ true → list_any q (store_parts s) ≡ true
unfolding store_parts
first_store q left_store h = or_first (q (a_store left_store)) _ h
first_store q right_store h = or_first (q (a_store right_store)) _ h
first_store q (put s x is v) h = or_first (q (a_store (put s x is v))) _ h
first_store q (run k s) h = or_first (q (a_store (run k s))) _ h

pub first_value : (q : Part → Bool) (v : ValueTerm) → q (a_value v) ≡ true → list_any q (value_parts v) ≡ true
unfolding store_parts
first_value q (num z) h = or_first (q (a_value (num z))) _ h
first_value q (get x is s) h = or_first (q (a_value (get x is s))) _ h
first_value q (ev k s) h = or_first (q (a_value (ev k s))) _ h
first_value q (add a b) h = or_first (q (a_value (add a b))) _ h
first_value q (sub a b) h = or_first (q (a_value (sub a b))) _ h
first_value q (mul a b) h = or_first (q (a_value (mul a b))) _ h
