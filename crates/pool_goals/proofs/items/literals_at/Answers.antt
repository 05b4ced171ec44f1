use Rattle.std.proofs.Common.{◌+◌, [], sym, subst, take, arith}
use Rattle.std.proofs.lemmas.List.{take_all}
use Rattle.term_pool.proofs.Growing.{extends_none, extends_both}
use Rattle.pool_goals.specs.Replaced.{LiteralsAt}
use Rattle.pool_goals.proofs.ItemSteps.{literals_next, literals_none}
use Rattle.pool_goals.proofs.items.literals_at.Goals as goal

pub loop-x-init : goal.loop-x-init
loop-x-init c = record {
  replaced = subst (λ l. LiteralsAt c.args.pool.now c.args.pool.now c.args.left c.args.right [] l) (sym c.new-all.ensures) (literals_none c.args.pool.now c.args.left c.args.right);
  sound = c.requires;
  kept = extends_none c.args.pool.now;
}

pub loop-x-preserved : goal.loop-x-preserved
loop-x-preserved c =
    let items = c.args.items.now in
    let i = c.loop-x.x-index in
    record {
      replaced = subst (λ l. LiteralsAt c.args.pool.now c.literal_at.new.pool c.args.left c.args.right (take (i + 1) items) l) (sym c.in_ok-push.ensures.ok)
          (literals_next items i _ c.loop-x.all c.in_ok-y.y c.loop-x.invariant.replaced c.loop-x.invariant.kept c.in_ok-y.ensures.replaced c.in_ok-y.ensures.kept c.loop-x-test.true);
      sound = c.in_ok-y.ensures.sound;
      kept = extends_both _ _ _ c.loop-x.invariant.kept c.in_ok-y.ensures.kept;
    }

pub returns-clause-replaced : goal.returns-clause-replaced
returns-clause-replaced c =
    subst (λ l. LiteralsAt c.args.pool.now c.loop-x.pool c.args.left c.args.right l c.loop-x.all) (take_all c.loop-x.x-index c.args.items.now (omega arith)) c.loop-x.invariant.replaced
