use Rattle.std.proofs.Common.{◌∙◌, sym}
use Rattle.rule_terms.specs.Parts.{obligation_parts}
use Rattle.term_pool.specs.Pooled.{obligation_numbered}
use Rattle.pool_universe.proofs.WholeSweep.{begins, goes_on, passes, ends}
use Rattle.pool_universe.proofs.sweep.occurring.Goals as goal

pub loop-at-init : goal.loop-at-init
loop-at-init c =
    begins c.args.pool.now c.args.ob.now c.as_slice.result.now c.new-parts.result.keys c.mark_roots.new.parts.keys c.in_ok-marks.marks c.mark_roots.new.marks c.len.result c.len-at.result
    c.requires (c.as_slice.ensures ∙ c.in_ok-roots.ensures) c.new-parts.ensures.empty c.in_ok-marks.ensures c.len.ensures.len c.len-at.ensures.len
    c.in_ok-mark_roots.ensures.parts c.in_ok-mark_roots.ensures.marks

pub loop-at-preserved-in-Continue-branch-4 : goal.loop-at-preserved-in-Continue-branch-4
loop-at-preserved-in-Continue-branch-4 c =
    goes_on c.args.pool.now (obligation_parts (obligation_numbered c.args.pool.now c.args.ob.now)) c.loop-at.parts.keys c.gather.new.parts.keys c.loop-at.marks c.gather.new.marks c.loop-at.at
    c.len.ensures.pool c.loop-at-test.true (sym c.is_marked.ensures ∙ c.if-is_marked.true) c.in_ok-gather.ensures.parts c.in_ok-gather.ensures.marks c.loop-at.invariant

pub loop-at-preserved : goal.loop-at-preserved
loop-at-preserved c =
    passes c.args.pool.now (obligation_parts (obligation_numbered c.args.pool.now c.args.ob.now)) c.loop-at.parts.keys c.loop-at.marks c.loop-at.at
    c.loop-at-test.true (sym c.is_marked.ensures ∙ c.if-is_marked.false) c.loop-at.invariant

pub returns-clause-inside : goal.returns-clause-inside
returns-clause-inside c =
    (ends c.args.pool.now (obligation_parts (obligation_numbered c.args.pool.now c.args.ob.now)) c.loop-at.parts.keys c.loop-at.marks c.loop-at.at c.len.ensures.pool c.loop-at-test.false c.loop-at.invariant).0

pub returns-clause-once : goal.returns-clause-once
returns-clause-once c =
    (ends c.args.pool.now (obligation_parts (obligation_numbered c.args.pool.now c.args.ob.now)) c.loop-at.parts.keys c.loop-at.marks c.loop-at.at c.len.ensures.pool c.loop-at-test.false c.loop-at.invariant).1
