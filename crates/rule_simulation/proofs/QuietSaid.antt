-- What stands for a parameter that is quiet in a rule halts from no store, where the conditions of the rule are met.
use Rattle.std.specs.Prelude.{◌≡◌, ◌||◌, ◌==◌, ℕ, suc, Bool, true, false, List, [], ◌∷◌, refl}
use Rattle.std.specs.List.{list_any}
use Rattle.std.proofs.Common.{subst, eqb-true, arith}
use Rattle.toy_imp.specs.declared.condition.Condition.{Condition}
use Rattle.toy_imp.specs.declared.condition.Condition.TheVariants as condition
use Rattle.toy_imp.specs.declared.instance.Instance.{Instance}
use Rattle.toy_imp.specs.Ends.{IsQuiet}
use Rattle.toy_imp.specs.Fill.{block_at}
use Rattle.toy_imp.specs.Meets.{Meets, MeetsAll}
use Rattle.term_meaning.proofs.Conditions.{runs_commute, statement_is_quiet, statements_swap}
use Rattle.spot_obligations.specs.Owed.{says_quiet, is_quiet}

by_either : {A : Type 0} (x y : Bool) → (x || y) ≡ true → (x ≡ true → A) → (y ≡ true → A) → A
by_either true y h first second = first refl
by_either false y h first second = second h

module _ (i : Instance) (k : ℕ) where
  is_that : (s : ℕ) → IsQuiet (block_at i s) → (s == k) ≡ true → IsQuiet (block_at i k)
  is_that s quiet e = subst (λ n. IsQuiet (block_at i n)) (eqb-true s k e) quiet

  one_says : (c : Condition) → says_quiet k c ≡ true → Meets i c → IsQuiet (block_at i k)
  one_says (condition.Quiet s) h meets = is_that s (statement_is_quiet i s meets) h
  one_says (condition.Commutes s t) h meets =
      let both = runs_commute i s t meets in
      by_either (s == k) (t == k) h (λ e. is_that s both.first_quiet e) (λ e. is_that t both.second_quiet e)
  one_says (condition.Swaps s t names region) h meets =
      let both = statements_swap i s t names region meets in
      by_either (s == k) (t == k) h (λ e. is_that s both.first_quiet e) (λ e. is_that t both.second_quiet e)
  one_says (condition.Keeps s x) h meets = cc
  one_says (condition.Ignores s x) h meets = cc
  one_says (condition.Positive e) h meets = cc
  one_says (condition.Constant e) h meets = cc
  one_says (condition.Distinct x y) h meets = cc

  some_says : (conditions : List Condition) → list_any (says_quiet k) conditions ≡ true → MeetsAll i conditions → IsQuiet (block_at i k)
  some_says [] h meets = cc
  some_says (c ∷ more) h meets =
      by_either (says_quiet k c) (list_any (says_quiet k) more) h
      (λ e. one_says c e (meets 0 c (omega arith)))
      (λ e. some_says more e (λ n d lt. meets (suc n) d (omega (arith, lt))))

  pub quiet_said : (conditions : List Condition) → is_quiet conditions k ≡ true → MeetsAll i conditions → IsQuiet (block_at i k)
  unfolding is_quiet
  quiet_said conditions h meets = some_says conditions h meets
