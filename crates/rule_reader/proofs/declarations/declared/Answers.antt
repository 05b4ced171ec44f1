use Rattle.std.proofs.Common.{◌≡◌, ◌∙◌, ap, sym, subst, [], ◌∷◌, ◌++◌}
use Rattle.program_reader.specs.Unread.{Gives}
use Rattle.rule_reader.specs.DeclarationReading.{param_of}
use Rattle.rule_reader.proofs.DeclarationTurns.{declared_first}
use Rattle.rule_reader.proofs.declarations.declared.Goals as goal

pub returns : goal.returns
returns c =
    let made : c.push.new.self ≡ c.args.found ++ (param_of c.args.kind c.in_ok-first.first.now ∷ []) = c.in_ok-push.ensures.ok ∙ ap (λ z. c.args.found ++ (z ∷ [])) c.in_ok-made.ensures in
    subst (Gives (λ p. (p.0, p.1.now)) c.names.result)
    (sym (declared_first c.args.kind c.args.found c.push.new.self c.in_ok-first.first.now c.args.tokens.now c.in_ok-first.rest.now c.in_ok-first.ensures made)) c.names.ensures
