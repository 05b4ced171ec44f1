use Rattle.std.proofs.Common.{◌+◌, [], sym, subst, take, arith}
use Rattle.std.proofs.lemmas.List.{take_all}
use Rattle.term_pool.proofs.Growing.{extends_none, extends_both}
use Rattle.pool_goals.specs.Replaced.{ConjunctsAt}
use Rattle.pool_goals.proofs.ItemSteps.{shaped, conjuncts_next, conjuncts_none}
use Rattle.pool_goals.proofs.precondition.conjuncts_at.Goals as goal

pub loop-c-init : goal.loop-c-init
loop-c-init c = record {
  replaced = subst (λ l. ConjunctsAt c.args.pool.now c.args.pool.now c.args.left c.args.right [] l) (sym c.new-all.ensures) (conjuncts_none c.args.pool.now c.args.left c.args.right);
  sound = c.requires;
  kept = extends_none c.args.pool.now;
}

pub loop-c-preserved : goal.loop-c-preserved
loop-c-preserved c =
    let items = c.args.items.now in
    let i = c.loop-c.c-index in
    record {
      replaced = subst (λ l. ConjunctsAt c.args.pool.now c.put_conjunct_at.new.pool c.args.left c.args.right (take (i + 1) items) l) (sym c.in_ok-push.ensures.ok)
          (conjuncts_next items i c.c-item.result c.loop-c.all c.in_ok-y.y c.loop-c.invariant.replaced c.loop-c.invariant.kept (shaped (sym c.c-item.is) c.in_ok-y.ensures.replaced) c.in_ok-y.ensures.kept c.loop-c-test.true);
      sound = c.in_ok-y.ensures.sound;
      kept = extends_both _ _ _ c.loop-c.invariant.kept c.in_ok-y.ensures.kept;
    }

pub returns-clause-replaced : goal.returns-clause-replaced
returns-clause-replaced c =
    subst (λ l. ConjunctsAt c.args.pool.now c.loop-c.pool c.args.left c.args.right l c.loop-c.all) (take_all c.loop-c.c-index c.args.items.now (omega arith)) c.loop-c.invariant.replaced
