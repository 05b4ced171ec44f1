use Rattle.std.proofs.Common.{length, sym, ◌∙◌, ap, subst, arith}
use Rattle.std.proofs.lemmas.Map.Entries.{length-keys_of}
use Rattle.rule_terms.specs.Counts.{saturated}
use Rattle.term_pool.specs.Numbered.{names_earlier, terms_of_nodes}
use Rattle.term_pool.specs.Kept.{parts_nodes, parts_depth, IsMissing}
use Rattle.term_pool.proofs.Keeping.{kept_put}
use Rattle.term_pool.proofs.pool.Pool.push.Goals as goal

pub invariant_of-self-2 : goal.invariant_of-self-2
invariant_of-self-2 c =
    let m = c.args.node in
    let es = c.self.inside.sizes.entries in
    kept_put c.self.inside.sizes m c.node_size-size.result c.insert.new.self.entries c.self.invariant
    (ap (λ ns. names_earlier (terms_of_nodes ns) m) c.self.view_is ∙ c.requires.names)
    (subst (λ ns. IsMissing ns m) (sym c.self.view_is) c.requires.missing)
    (c.node_size-size.ensures.nodes ∙ ap (λ ns. saturated (parts_nodes (terms_of_nodes ns) m)) (sym c.self.view_is))
    (c.node_size-size.ensures.depth ∙ ap (λ ns. saturated (parts_depth (terms_of_nodes ns) m)) (sym c.self.view_is))
    (grind (arith, c.self.invariant.small, c.len-at.ensures.len ∙ ap length (sym c.self.view_is) ∙ length-keys_of es, c.if-at.false))
    c.in_ok-insert.ensures.entries
