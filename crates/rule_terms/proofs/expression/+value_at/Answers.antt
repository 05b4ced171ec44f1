use Rattle.std.proofs.Common.{◌≡◌, ◌∙◌, true, arith, subst, sym, ap, map}
use Rattle.std.proofs.lemmas.List.{take_all}
use Rattle.toy_imp.specs.ExprFalls.{expr_item}
use Rattle.rule_terms.specs.TermView.{terms_of}
use Rattle.rule_terms.specs.ValueAt.{names_are_open, value_at}
use Rattle.rule_terms.proofs.Opens.{open_item, terms_map}
use Rattle.rule_terms.proofs.expression.+value_at.Goals as goal

pub values_at-value_at-requires : goal.values_at-value_at-requires
values_at-value_at-requires t c =
    let named : names_are_open c.e-item.result ≡ true =
    subst (λ e. names_are_open e ≡ true) (sym c.e-item.is) (open_item c.args.items.now c.loop-e.e-index c.e-item.result c.loop-e-test.true c.loop-e.invariant.are_open) in
    (grind (arith, expr_item), named)

pub values_at-returns : goal.values_at-returns
values_at-returns t c =
    ap terms_of (c.loop-e.invariant.before ∙ ap (map (λ e. value_at e c.args.s.now)) (take_all c.loop-e.e-index c.args.items.now c.loop-e-test.false))
    ∙ terms_map c.args.items.now c.args.s.now
