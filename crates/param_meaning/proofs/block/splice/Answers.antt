use Rattle.std.proofs.Common.{◌∙◌, ap}
use Rattle.toy_imp.specs.Block.{append}
use Rattle.toy_imp.specs.BlockView.{block_of}
use Rattle.toy_imp.proofs.Views.{block_of-append}
use Rattle.param_meaning.proofs.block.splice.Goals as goal

pub returns : goal.returns
returns c =
    ap block_of c.in_ok-append.ensures
    ∙ block_of-append c.all.inside.stmts c.more.inside.stmts
    ∙ ap (λ b. append b (block_of c.more.inside.stmts)) c.all.view_is
    ∙ ap (append c.args.all.now) c.more.view_is
