use Rattle.std.proofs.Common.{◌≡◌, None, Some, [], ◌∷◌, ◌++◌, length, ap, ◌∙◌, ◌+◌, arith}
use Rattle.std.proofs.lemmas.List.{length_push}
use Rattle.pec_text.specs.Line.{kept_lines}
use Rattle.pec_text.specs.SectionsOf.{sections_of, sections_from}
use Rattle.pec_text.specs.declared.section_data.TextRefusal.TheVariants.{Unended, Stray}
use Rattle.pec_text.proofs.SectionLemmas.{text_from, titles_from, stops_at_end, stops_stray, stops_unended, goes_on}
use Rattle.pec_text.proofs.section_text.sections.Goals as goal

pub loop-line-init : goal.loop-line-init
unfolding sections_of
loop-line-init c = (ap (λ w. sections_from w (kept_lines c.args.bytes.now)) c.new-whole.ensures, omega (arith, ap length c.new-whole.ensures))

-- ---- a line that is no header
stray : (c : goal.In_default-header_of) → record { whole = c.loop-line.whole; rest = Some (Stray (c.len.result + 1)) } ≡ sections_of c.args.bytes.now
stray c = stops_stray c.args.bytes.now c.loop-line.whole (kept_lines c.loop-line.rest.now) c.loop-line.invariant.0 c.in-Some.line.now (kept_lines c.in-Some.after.now) c.len.result c.in-Some.ensures.found c.in_default-header_of.ensures c.len.ensures

pub returns-in_default-header_of-clause-text : goal.returns-in_default-header_of-clause-text
returns-in_default-header_of-clause-text c = text_from c.args.bytes.now _ (stray c)

pub returns-in_default-header_of-clause-titles : goal.returns-in_default-header_of-clause-titles
returns-in_default-header_of-clause-titles c = titles_from c.args.bytes.now _ (stray c)

-- ---- a section without its end
unended : (c : goal.In_default-2) → record { whole = c.loop-line.whole; rest = Some (Unended (c.len.result + 1)) } ≡ sections_of c.args.bytes.now
unended c = stops_unended c.args.bytes.now c.loop-line.whole (kept_lines c.loop-line.rest.now) c.loop-line.invariant.0 c.in-Some.line.now (kept_lines c.in-Some.after.now) c.in-Some-header_of.kind c.in-Some-header_of.title.now c.len.result c.in-Some.ensures.found c.in-Some-header_of.ensures (rw c.in_default-2.is at c.in_ok-body.ensures.body) c.len.ensures

pub returns-in_default-2-clause-text : goal.returns-in_default-2-clause-text
returns-in_default-2-clause-text c = text_from c.args.bytes.now _ (unended c)

pub returns-in_default-2-clause-exact : goal.returns-in_default-2-clause-exact
returns-in_default-2-clause-exact c = unended c

pub returns-in_default-2-clause-titles : goal.returns-in_default-2-clause-titles
returns-in_default-2-clause-titles c = titles_from c.args.bytes.now _ (unended c)

-- ---- one more whole section
pub loop-line-preserved : goal.loop-line-preserved
loop-line-preserved c =
    let whole = c.loop-line.whole in
    let kind = c.in-Some-header_of.kind in
    let title = c.in-Some-header_of.title.now in
    let body = c.in-Some-2.body in
    let after = c.in-Some-2.after.now in
    let found = rw c.in-Some-2.is at c.in_ok-body.ensures.body in
    let shorter = rw c.in-Some-2.is at c.in_ok-body.ensures.shorter in
    let first_shorter = c.in-Some.ensures.shorter in
    let longer : length c.push.new.self ≡ length whole + 1 = ap length c.in_ok-push.ensures.ok ∙ length_push whole _ in (
      ap (λ w. sections_from w (kept_lines after)) c.in_ok-push.ensures.ok
          ∙ ap (λ t. sections_from (whole ++ (record { kind = kind; title = t; body = body }) ∷ []) (kept_lines after)) c.in_ok-title.ensures
          ∙ goes_on c.args.bytes.now whole (kept_lines c.loop-line.rest.now) c.loop-line.invariant.0 c.in-Some.line.now (kept_lines c.in-Some.after.now) kind title body (kept_lines after) c.in-Some.ensures.found c.in-Some-header_of.ensures found,
      omega arith,
    )

-- ---- the end of the text
ended : (c : goal.In_default) → record { whole = c.loop-line.whole; rest = None } ≡ sections_of c.args.bytes.now
ended c = stops_at_end c.args.bytes.now c.loop-line.whole (kept_lines c.loop-line.rest.now) c.loop-line.invariant.0 c.in_default.ensures.none

pub returns-clause-text : goal.returns-clause-text
returns-clause-text c = text_from c.args.bytes.now _ (ended c)

pub returns-clause-titles : goal.returns-clause-titles
returns-clause-titles c = titles_from c.args.bytes.now _ (ended c)
