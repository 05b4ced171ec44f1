use Rattle.std.proofs.Common.{◌≡◌, ◌<◌, length, arith}
use Rattle.std.proofs.lemmas.Bool.Decides.{nat_tests}
use Rattle.std.proofs.lemmas.Result.{err_from_is_err_and}
use Rattle.pec_text.specs.declared.lexer.LexRefusal.TheVariants.{NotTokens}
use Rattle.pec_text.proofs.Readings.{read_none, read_more, read_all, read_all_only, read_refused, read_shortens}
use Rattle.pec_text.proofs.lexer.tokens.Goals as goal

pub loop-rest-init : goal.loop-rest-init
loop-rest-init c = rw (c.new-found.ensures.items, c.after_gap-rest.ensures.value) (read_none c.args.bytes.now)

pub loop-rest-smaller : goal.loop-rest-smaller
loop-rest-smaller c =
    let shorter = read_shortens c.loop-rest.rest.now c.in_ok-token.more.now c.in_ok-token.token c.in_ok-token.ensures in
    omega (arith, c.after_gap-rest-in-loop-rest.ensures.shorter)

pub loop-rest-preserved : goal.loop-rest-preserved
loop-rest-preserved c =
    rw (c.in_ok-push.ensures.items, c.after_gap-rest-in-loop-rest.ensures.value)
    (read_more c.args.bytes.now c.loop-rest.rest.now c.in_ok-token.more.now c.loop-rest.found.items c.in_ok-token.token c.loop-rest.invariant c.in_ok-token.ensures)

pub returns-in_err-token-clause-refused : goal.returns-in_err-token-clause-refused
returns-in_err-token-clause-refused c =
    let p = err_from_is_err_and c.from_residual.result c.from_residual.ensures.1 in
    λ refused tokens spelled.
    let is : c.in_err-token.field-0.0 ≡ NotTokens = cc (p.1, p.2) in
    let some : 0 < length c.loop-rest.rest.now = grind (arith, nat_tests) in
    read_refused c.args.bytes.now c.loop-rest.rest.now c.loop-rest.found.items c.loop-rest.invariant some (c.in_err-token.ensures is) tokens spelled

pub returns-clause-ok : goal.returns-clause-ok
returns-clause-ok c =
    let end : length c.loop-rest.rest.now ≡ 0 = grind (arith, nat_tests) in
    rw c.from_vec.ensures (read_all c.args.bytes.now c.loop-rest.rest.now c.loop-rest.found.items c.loop-rest.invariant end)

pub returns-clause-only : goal.returns-clause-only
returns-clause-only c = λ others spelled.
    let end : length c.loop-rest.rest.now ≡ 0 = grind (arith, nat_tests) in
    rw c.from_vec.ensures (read_all_only c.args.bytes.now c.loop-rest.rest.now c.loop-rest.found.items others c.loop-rest.invariant end spelled)
