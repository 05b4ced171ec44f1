-- The number of outcomes of a test is the length of their list, and there is one at least.
use Rattle.std.specs.Prelude.{◌≡◌, ℕ, zero, suc, ◌+◌, ◌*◌, ◌≤◌, Bool, true, false, not, List, [], ◌∷◌, ◌++◌, length, map, refl}
use Rattle.std.proofs.Common.{sym, ◌∙◌, ap, arith}
use Rattle.std.proofs.Math.Nat.{suc-mul}
use Rattle.std.proofs.lemmas.List.{length-append, length-map}
use Rattle.toy_imp.specs.Test.{Test, less, less_eq, equal, not_of, and_of, or_of, par_test}
use Rattle.rule_terms.specs.Term.{StoreTerm}
use Rattle.rule_terms.specs.declared.obligation.Literal.{Literal}
use Rattle.path_pairs.specs.Outcomes.{both, outcomes}
use Rattle.path_pairs.specs.OutcomeCounts.{outcome_count}

both_length : (firsts seconds : List (List Literal)) → length (both firsts seconds) ≡ length firsts * length seconds
both_length [] seconds = omega arith
both_length (first ∷ firsts) seconds =
    length-append (map (λ second. first ++ second) seconds) (both firsts seconds)
    ∙ ap (λ n. n + length (both firsts seconds)) (length-map seconds (λ (second : List Literal). first ++ second))
    ∙ ap (λ n. length seconds + n) (both_length firsts seconds)
    ∙ (omega arith ∙ sym (suc-mul (length firsts) (length seconds)))

both_count : (firsts seconds : List (List Literal)) (m n : ℕ) → length firsts ≡ m → length seconds ≡ n → length (both firsts seconds) ≡ m * n
both_count firsts seconds m n e d = both_length firsts seconds ∙ (λ i. e i * d i)

one_way_count : (firsts seconds : List (List Literal)) (m n : ℕ) → length firsts ≡ m → length seconds ≡ n → length (firsts ++ seconds) ≡ m + n
one_way_count firsts seconds m n e d = length-append firsts seconds ∙ (λ i. e i + d i)

pub as_many_outcomes : (t : Test) (way : Bool) (s : StoreTerm) → length (outcomes t way s) ≡ outcome_count t way
unfolding outcomes outcome_count
as_many_outcomes (less a b) way s = refl
as_many_outcomes (less_eq a b) way s = refl
as_many_outcomes (equal a b) way s = refl
as_many_outcomes (not_of t) way s = as_many_outcomes t (not way) s
as_many_outcomes (and_of t u) true s = both_count (outcomes t true s) (outcomes u true s) _ _ (as_many_outcomes t true s) (as_many_outcomes u true s)
as_many_outcomes (and_of t u) false s =
    one_way_count (outcomes t false s) (both (outcomes t true s) (outcomes u false s)) _ _ (as_many_outcomes t false s)
    (both_count (outcomes t true s) (outcomes u false s) _ _ (as_many_outcomes t true s) (as_many_outcomes u false s))
as_many_outcomes (or_of t u) true s =
    one_way_count (outcomes t true s) (both (outcomes t false s) (outcomes u true s)) _ _ (as_many_outcomes t true s)
    (both_count (outcomes t false s) (outcomes u true s) _ _ (as_many_outcomes t false s) (as_many_outcomes u true s))
as_many_outcomes (or_of t u) false s = both_count (outcomes t false s) (outcomes u false s) _ _ (as_many_outcomes t false s) (as_many_outcomes u false s)
as_many_outcomes (par_test k) way s = refl

one_of_both : (m n : ℕ) → 1 ≤ m → 1 ≤ n → 1 ≤ m * n
one_of_both zero n h k = absurd (omega (arith, h))
one_of_both (suc m) n h k = omega (arith, suc-mul m n, k)

pub some_outcome : (t : Test) (way : Bool) → 1 ≤ outcome_count t way
unfolding outcome_count
some_outcome (less a b) way = omega arith
some_outcome (less_eq a b) way = omega arith
some_outcome (equal a b) way = omega arith
some_outcome (not_of t) way = some_outcome t (not way)
some_outcome (and_of t u) true = one_of_both (outcome_count t true) (outcome_count u true) (some_outcome t true) (some_outcome u true)
some_outcome (and_of t u) false = omega (arith, some_outcome t false)
some_outcome (or_of t u) true = omega (arith, some_outcome t true)
some_outcome (or_of t u) false = one_of_both (outcome_count t false) (outcome_count u false) (some_outcome t false) (some_outcome u false)
some_outcome (par_test k) way = omega arith
