use Rattle.std.proofs.Common.{◌≡◌, ◌∙◌, sym, ◌≤◌, ◌<◌, [], ◌∷◌, length, arith, refl, true≢false}
use Rattle.iteration_order.specs.RunningOrder.{turns_between, pairs_between, AreMany}
use Rattle.iteration_order.proofs.Refusals.{not_many}
use Rattle.iteration_order.proofs.Steps.{few_turns, one_loop, two_loops, order_one, order_two, few_one, few_two, many_two}
use Rattle.iteration_order.proofs.running.tuples.Goals as goal
use Rattle.iteration_order.proofs.running.tuples.Goals.{In-None, In-Some, Else-has_many}

-- ---- a nest of one loop
one : (c : In-None) → c.args.nest.now ≡ c.index-nest-0.result ∷ []
one c = one_loop _ _ c.requires.some_loop c.in-None.ensures.lookup.3 c.index-nest-0.is

few : (c : In-None) → AreMany c.args.nest.now c.args.symbols.now → ⊥
few c =
    let short : length (turns_between c.of-outer.result.low c.of-outer.result.high) ≤ 65536 = few_turns _ _ c.count.ensures.count c.count.ensures.small c.if-count-gt-MOST.false in
    few_one _ _ _ _ _ c.of-outer.ensures.low c.of-outer.ensures.high (one c) short

pub returns-in_err-singles-in-None-clause-many : goal.returns-in_err-singles-in-None-clause-many
returns-in_err-singles-in-None-clause-many c =
    (λ e. absurd (not_many _ c.from_residual.ensures.1 e), λ many. absurd (few (goal.at.returns-in_err-singles-in-None-clause-many c).In-None many))

pub returns-in_ok-singles-in-None-clause-order : goal.returns-in_ok-singles-in-None-clause-order
returns-in_ok-singles-in-None-clause-order c =
    c.in_ok-singles-in-None.ensures ∙ sym (order_one _ _ _ _ _ c.of-outer.ensures.low c.of-outer.ensures.high (one (goal.at.returns-in_ok-singles-in-None-clause-order c).In-None))

pub returns-in_ok-singles-in-None-clause-many : goal.returns-in_ok-singles-in-None-clause-many
returns-in_ok-singles-in-None-clause-many c =
    (λ e. absurd (cc), λ many. absurd (few (goal.at.returns-in_ok-singles-in-None-clause-many c).In-None many))

-- ---- a nest of two
two : (c : In-Some) → c.args.nest.now ≡ c.index-nest-0.result ∷ c.in-Some.inner.now ∷ []
two c =
    let most = c.requires.two_loops in
    let least = c.in-Some.ensures.lookup.3.0 in
    two_loops _ _ _ (omega arith) c.index-nest-0.is c.in-Some.ensures.lookup.1

few_pairs : (c : Else-has_many) → c.args.nest.now ≡ c.index-nest-0.result ∷ c.in-Some.inner.now ∷ [] → AreMany c.args.nest.now c.args.symbols.now → ⊥
few_pairs c is =
    let short : length (turns_between c.of-outer.result.low c.of-outer.result.high) ≤ 65536 = few_turns _ _ c.count.ensures.count c.count.ensures.small c.if-count-gt-MOST.false in
    let no : 65536 < length (pairs_between c.in-Some.inner.now c.args.symbols.now c.of-outer.result.low c.of-outer.result.high) → ⊥ =
    λ more. true≢false (sym (c.has_many.ensures.1 more) ∙ c.if-has_many.false) in
    let few : length (pairs_between c.in-Some.inner.now c.args.symbols.now c.of-outer.result.low c.of-outer.result.high) ≤ 65536 = omega arith in
    few_two _ _ _ _ _ c.of-outer.ensures.low c.of-outer.ensures.high _ is short few

pub returns-then-has_many-clause-many : goal.returns-then-has_many-clause-many
returns-then-has_many-clause-many c =
    (λ _. many_two _ _ _ _ _ c.of-outer.ensures.low c.of-outer.ensures.high _ (two (goal.at.returns-then-has_many-clause-many c).In-Some) (c.has_many.ensures.0 c.if-has_many.true), λ _. refl)

pub returns-in_err-pairs-in-Some-clause-many : goal.returns-in_err-pairs-in-Some-clause-many
returns-in_err-pairs-in-Some-clause-many c =
    (λ e. absurd (not_many _ c.from_residual-in_err-pairs-in-Some.ensures.1 e), λ many. absurd (few_pairs (goal.at.returns-in_err-pairs-in-Some-clause-many c).Else-has_many (two (goal.at.returns-in_err-pairs-in-Some-clause-many c).In-Some) many))

pub returns-in_ok-pairs-in-Some-clause-order : goal.returns-in_ok-pairs-in-Some-clause-order
returns-in_ok-pairs-in-Some-clause-order c =
    c.in_ok-pairs-in-Some.ensures ∙ sym (order_two _ _ _ _ _ c.of-outer.ensures.low c.of-outer.ensures.high _ (two (goal.at.returns-in_ok-pairs-in-Some-clause-order c).In-Some))

pub returns-in_ok-pairs-in-Some-clause-many : goal.returns-in_ok-pairs-in-Some-clause-many
returns-in_ok-pairs-in-Some-clause-many c =
    (λ e. absurd (cc), λ many. absurd (few_pairs (goal.at.returns-in_ok-pairs-in-Some-clause-many c).Else-has_many (two (goal.at.returns-in_ok-pairs-in-Some-clause-many c).In-Some) many))
