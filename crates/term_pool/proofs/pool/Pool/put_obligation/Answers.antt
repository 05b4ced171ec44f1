use Rattle.std.proofs.Common.{◌≡◌, true, subst}
use Rattle.term_pool.specs.Pooled.{LiteralsOf, ConjunctsOf, obligation_in, obligation_numbered}
use Rattle.term_pool.proofs.PutItems.{obligation_of, mapped}
use Rattle.term_pool.proofs.pool.Pool.put_obligation.Goals as goal

pub returns-clause-stands : goal.returns-clause-stands
returns-clause-stands c =
    mapped _ (λ p. obligation_numbered c.put_conjunct.new.self p ≡ c.args.ob.now) c.with_rule.result (λ p e. (obligation_of c.args.ob.now c.in_ok-known.known c.in_ok-path.path c.in_ok-goal.goal p
    (subst (ConjunctsOf c.put_conjuncts.new.self c.in_ok-known.known) c.as_slice.ensures c.in_ok-known.ensures.stands) c.in_ok-path.ensures.added
    (subst (LiteralsOf c.put_literals.new.self c.in_ok-path.path) c.as_slice-2.ensures c.in_ok-path.ensures.stands) c.in_ok-goal.ensures.added
    c.in_ok-goal.ensures.stands e).1) c.with_rule.ensures

pub returns-clause-numbers : goal.returns-clause-numbers
returns-clause-numbers c =
    mapped _ (λ p. obligation_in c.put_conjunct.new.self p ≡ true) c.with_rule.result (λ p e. (obligation_of c.args.ob.now c.in_ok-known.known c.in_ok-path.path c.in_ok-goal.goal p
    (subst (ConjunctsOf c.put_conjuncts.new.self c.in_ok-known.known) c.as_slice.ensures c.in_ok-known.ensures.stands) c.in_ok-path.ensures.added
    (subst (LiteralsOf c.put_literals.new.self c.in_ok-path.path) c.as_slice-2.ensures c.in_ok-path.ensures.stands) c.in_ok-goal.ensures.added
    c.in_ok-goal.ensures.stands e).0) c.with_rule.ensures
