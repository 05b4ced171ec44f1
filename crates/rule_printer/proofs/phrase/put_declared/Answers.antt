use Rattle.std.proofs.Common.{◌≤◌, ◌++◌, length, sym, ap, ◌∙◌}
use Rattle.std.proofs.lemmas.Bool.{ltb-false}
use Rattle.std.proofs.lemmas.List.{append-nil}
use Rattle.rule_printer.proofs.Phrases.{declared_beyond}
use Rattle.rule_printer.proofs.phrase.put_declared.Goals as goal

pub returns-in-None : goal.returns-in-None
returns-in-None c =
    let beyond : length c.args.params.now ≤ c.args.k = ltb-false c.args.k (length c.args.params.now) (sym c.in-None.ensures.lookup.0) in
    sym (append-nil c.args.out.now.items) ∙ ap (λ z. c.args.out.now.items ++ z) (sym (declared_beyond c.args.params.now c.args.k beyond))
