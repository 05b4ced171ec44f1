use Rattle.std.proofs.Common.{sym, subst, List}
use Rattle.toy_imp.specs.Block.{Block}
use Rattle.pec_text.specs.declared.token.Token.{Token}
use Rattle.program_reader.specs.Read.{ReadStmt}
use Rattle.program_reader.specs.BlockReading.{stmts_read}
use Rattle.program_reader.specs.Unread.{Gives}
use Rattle.program_reader.proofs.BlockTurns.{assert_some}
use Rattle.program_reader.proofs.block_reading.asserted.Goals as goal

pub returns : goal.returns
returns c =
    let ps = c.args.names.now in
    let inner : List Token → ReadStmt Block = λ rest. stmts_read ps c.args.levels rest in
    subst (Gives (λ p. (p.0, p.1.now)) c.assertion.result)
    (sym (assert_some ps c.args.levels inner c.in_ok-condition.condition c.args.tokens.now c.in_ok-condition.rest.now c.in_ok-condition.ensures))
    c.assertion.ensures
