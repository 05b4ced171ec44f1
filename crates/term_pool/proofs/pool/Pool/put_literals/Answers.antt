use Rattle.std.proofs.Common.{◌+◌, sym, subst, take}
use Rattle.term_pool.specs.Pooled.{LiteralsOf}
use Rattle.term_pool.proofs.PutItems.{next_literals, next_literals_terms}
use Rattle.term_pool.proofs.pool.Pool.put_literals.Goals as goal

pub loop-l-preserved : goal.loop-l-preserved
loop-l-preserved c =
    let items = c.args.items.now in
    let i = c.loop-l.l-index in
    record {
      stands = subst (λ xs. LiteralsOf c.put_literal.new.self xs (take (i + 1) items)) (sym c.in_ok-push.ensures.ok)
          (next_literals items i c.l-item.result c.loop-l.all c.in_ok-x.x c.loop-l.invariant.stands c.in_ok-x.ensures.added c.in_ok-x.ensures.stands c.loop-l-test.true c.l-item.is);
      added = next_literals_terms items i c.l-item.result c.loop-l.invariant.added c.in_ok-x.ensures.added c.loop-l-test.true c.l-item.is;
    }
