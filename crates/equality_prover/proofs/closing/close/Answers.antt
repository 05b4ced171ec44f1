use Rattle.std.proofs.Common.{◌∙◌, ◌-◌, length, map, ap, subst, arith}
use Rattle.law_clauses.specs.Signed.{all_signed}
use Rattle.law_clauses.specs.ArgumentView.{argument_of}
use Rattle.equality_prover.specs.Terms.{all_terms}
use Rattle.equality_prover.specs.Closure.{AreClasses}
use Rattle.equality_prover.proofs.Splitting.{is_closure_at}
use Rattle.equality_prover.proofs.closing.close.Goals as goal

pub returns : goal.returns
returns c =
    let stores = ap length c.as_slice-stores.ensures in
    let values = ap length c.as_slice-values.ensures in
    is_closure_at c.in_ok-terms.terms c.args.params.now c.args.universe.now c.args.literals.now c.in_ok-classes.classes.items c.deref.result.now
    (c.len.result - length c.as_slice-stores.result.now - length c.as_slice-values.result.now) (length c.as_slice-stores.result.now) c.in_ok-answer.answer
    (c.in_ok-terms.ensures ∙ (λ j. all_terms c.args.params.now (c.as_slice-stores.ensures j) (c.as_slice-values.ensures j)))
    (subst (λ terms. AreClasses (map argument_of terms) (all_signed c.args.literals.now) c.in_ok-classes.classes.items) c.as_slice.ensures c.in_ok-classes.ensures) c.deref.ensures.value (omega (arith, stores, values, c.len.ensures)) (omega (arith, stores)) c.in_ok-answer.ensures
