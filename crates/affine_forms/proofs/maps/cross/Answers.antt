use Rattle.std.proofs.Common.{◌∙◌, ◌^◌, ◌+◌, ap, arith, lit<, neg_ℤ}
use Rattle.affine_forms.specs.Form.{plus_multiple, scaled}
use Rattle.affine_forms.proofs.Magnitudes.{wider, scaled_within, sum_within, products_within, kept, kept_negative, negative_at_most}
use Rattle.affine_forms.proofs.maps.cross.Goals as goal

-- src/maps.rt:112:12
pub plus_multiple-requires-clause-numbers : goal.plus_multiple-requires-clause-numbers
plus_multiple-requires-clause-numbers c =
    rw (c.turned.ensures ∙ ap (λ t. scaled t c.args.p) (kept 1 c.args.a c.requires.a (lit< tt))) (wider (2 ^ 32) (2 ^ 61) _ (omega arith) (scaled_within (2 ^ 32) c.args.a c.args.p c.requires.a c.requires.p))

-- src/maps.rt:112:12
pub plus_multiple-requires-clause-products : goal.plus_multiple-requires-clause-products
plus_multiple-requires-clause-products c =
    rw (kept_negative c.args.b c.requires.b)
    (products_within 1 (2 ^ 32) (2 ^ 62) (neg_ℤ c.args.b) c.args.q (negative_at_most c.args.b c.requires.b) c.requires.q (omega arith))

-- src/maps.rt:112:5
pub turned-requires-2-clause-form : goal.turned-requires-2-clause-form
turned-requires-2-clause-form c =
    let products = products_within 1 (2 ^ 32) (2 ^ 32) (neg_ℤ c.args.b) c.args.q (negative_at_most c.args.b c.requires.b) c.requires.q (omega arith) in
    let first = scaled_within (2 ^ 32) c.args.a c.args.p c.requires.a c.requires.p in
    rw (c.plus_multiple.ensures ∙ ap (λ t. plus_multiple c.turned.result t c.args.q) (kept_negative c.args.b c.requires.b))
    (rw (c.turned.ensures ∙ ap (λ t. scaled t c.args.p) (kept 1 c.args.a c.requires.a (lit< tt))) (wider (2 ^ 32 + 2 ^ 32) (2 ^ 40) _ (omega arith) (sum_within (2 ^ 32) (2 ^ 32) (scaled c.args.a c.args.p) c.args.q (neg_ℤ c.args.b) first products)))

-- src/maps.rt:104:1
pub returns : goal.returns
returns c =
    c.turned-2.ensures
    ∙ ap (λ t. scaled t c.plus_multiple.result) (kept 1 c.args.sign c.requires.sign (lit< tt))
    ∙ ap (λ f. scaled c.args.sign f)
    (c.plus_multiple.ensures
    ∙ ap (λ t. plus_multiple c.turned.result t c.args.q) (kept_negative c.args.b c.requires.b)
    ∙ ap (λ f. plus_multiple f (neg_ℤ c.args.b) c.args.q) (c.turned.ensures ∙ ap (λ t. scaled t c.args.p) (kept 1 c.args.a c.requires.a (lit< tt))))
