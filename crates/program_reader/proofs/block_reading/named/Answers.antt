use Rattle.std.proofs.Common.{rules, ◌≡◌, sym, subst, List, ◌∷◌, None}
use Rattle.toy_imp.specs.Block.{Block}
use Rattle.pec_text.specs.declared.token.Token.{Token}
use Rattle.pec_text.specs.declared.token.Token.TheVariants as t
use Rattle.program_reader.specs.Read.{ReadStmt}
use Rattle.program_reader.specs.BlockReading.{stmt_read, stmts_read}
use Rattle.program_reader.specs.Unread.{Gives}
use Rattle.program_reader.specs.declared.refusal.Unread.TheVariants.{NotGrammar}
use Rattle.program_reader.proofs.BlockTurns.{place_some, place_none}
use Rattle.program_reader.proofs.block_reading.named.Goals as goal

pub returns-in_err-indices : goal.returns-in_err-indices
returns-in_err-indices c =
    let ps = c.args.names.now in
    let inner : List Token → ReadStmt Block = λ rest. stmts_read ps c.args.levels rest in
    let none : c.in_err-indices.field-0.0 ≡ NotGrammar → stmt_read ps c.args.levels inner (t.Name c.args.name.now ∷ c.args.tokens.now) ≡ None =
    λ e. place_none ps c.args.levels inner c.args.name.now c.args.tokens.now c.in_default.ensures (c.in_err-indices.ensures e) in
    search rules

pub returns : goal.returns
returns c =
    let ps = c.args.names.now in
    let inner : List Token → ReadStmt Block = λ rest. stmts_read ps c.args.levels rest in
    subst (Gives (λ p. (p.0, p.1.now)) c.assigned.result)
    (sym (place_some ps c.args.levels inner c.args.name.now c.in_ok-indices.indices _ c.args.tokens.now c.in_ok-indices.rest.now c.in_default.ensures c.in_ok-indices.ensures))
    c.assigned.ensures
