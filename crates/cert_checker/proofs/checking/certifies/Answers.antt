-- A relation's entries may be walked, and it certifies where all proofs are taken.
use Rattle.std.proofs.Common.{rules, ◌≡◌, subst}
use Rattle.cert_checker.specs.Certificates.{IsRelation}
use Rattle.cert_checker.proofs.Certified.{relation_is_inside}
use Rattle.cert_checker.proofs.Certifying.{certifies_by}
use Rattle.cert_checker.proofs.checking.certifies.Goals as goal

pub takes_all-requires-clause-inside : goal.takes_all-requires-clause-inside
takes_all-requires-clause-inside c =
    let same : c.as_slice.result.now ≡ c.args.cert.now.entries = search rules in
    relation_is_inside c.args.rule.now c.args.points.now c.args.cert.now.entries
    (subst (λ entries. IsRelation c.args.rule.now c.args.points.now entries) same (c.in_ok-is_relation.ensures.0 c.if-branch.true))

pub returns-then-branch : goal.returns-then-branch
returns-then-branch c =
    let same : c.as_slice.result.now ≡ c.args.cert.now.entries = search rules in
    certifies_by c.args.rule.now c.args.points.now c.args.cert.now
    (subst (λ entries. IsRelation c.args.rule.now c.args.points.now entries) same (c.in_ok-is_relation.ensures.0 c.if-branch.true))
    c.takes_all.result c.takes_all.ensures
