use Rattle.std.proofs.Common.{◌+◌, sym, subst, take}
use Rattle.term_pool.specs.Pooled.{ConjunctsOf}
use Rattle.term_pool.proofs.PutItems.{next_conjuncts, next_conjuncts_terms}
use Rattle.term_pool.proofs.pool.Pool.put_conjuncts.Goals as goal

pub loop-c-preserved : goal.loop-c-preserved
loop-c-preserved c =
    let items = c.args.items.now in
    let i = c.loop-c.c-index in
    record {
      stands = subst (λ xs. ConjunctsOf c.put_conjunct.new.self xs (take (i + 1) items)) (sym c.in_ok-push.ensures.ok)
          (next_conjuncts items i c.c-item.result c.loop-c.all c.in_ok-x.x c.loop-c.invariant.stands c.in_ok-x.ensures.added c.in_ok-x.ensures.stands c.loop-c-test.true c.c-item.is);
      added = next_conjuncts_terms items i c.c-item.result c.loop-c.invariant.added c.in_ok-x.ensures.added c.loop-c-test.true c.c-item.is;
    }
