use Rattle.std.proofs.Common.{◌∙◌, ap, [], ◌∷◌}
use Rattle.toy_imp.specs.Block.{empty, stmt, append}
use Rattle.toy_imp.specs.BlockView.{block_of}
use Rattle.toy_imp.proofs.Views.{block_of-append}
use Rattle.toy_imp.proofs.block.Block.push.Goals as goal

pub returns-clause-ok : goal.returns-clause-ok
returns-clause-ok c =
    ap block_of c.in_ok-push.ensures.ok
    ∙ block_of-append c.self.inside.stmts (c.args.s ∷ [])
    ∙ ap (λ b. append b (stmt c.args.s empty)) c.self.view_is
