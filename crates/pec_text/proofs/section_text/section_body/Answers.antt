use Rattle.std.proofs.Common.{◌≡◌, true, false, Some, [], ◌∷◌, ◌++◌, sym, ap, ◌∙◌, append_assoc, arith}
use Rattle.pec_text.specs.Line.{kept_lines}
use Rattle.pec_text.specs.SectionHeader.{is_end}
use Rattle.pec_text.specs.SectionsOf.{body_from}
use Rattle.pec_text.proofs.SectionLemmas.{body_more, body_end, body_none}
use Rattle.pec_text.proofs.section_text.section_body.Goals as goal

pub returns-then-is_end-clause-body : goal.returns-then-is_end-clause-body
returns-then-is_end-clause-body c =
    let body = c.loop-line.body.items in
    let line = c.in-Some.line.now in
    let after = kept_lines c.in-Some.after.now in
    let last : is_end line ≡ true = sym c.is_end.ensures ∙ c.if-is_end.true in
    ap (λ b. Some (b, after)) c.from_vec.ensures ∙ sym (body_end body line after last) ∙ ap (body_from body) (sym c.in-Some.ensures.found) ∙ c.loop-line.invariant.0

pub loop-line-preserved : goal.loop-line-preserved
loop-line-preserved c =
    let body = c.loop-line.body.items in
    let line = c.in-Some.line.now in
    let after = kept_lines c.in-Some.after.now in
    let other : is_end line ≡ false = sym c.is_end.ensures ∙ c.if-is_end.false in
    let longer : c.push.new.self.items ≡ body ++ (line ++ 10 ∷ []) = c.in_ok-push.ensures.items ∙ ap (λ b. b ++ 10 ∷ []) c.in_ok-extend_from_slice.ensures.items ∙ append_assoc body line (10 ∷ []) in
    let shorter = c.in-Some.ensures.shorter in
    (ap (λ b. body_from b after) longer ∙ sym (body_more body line after other) ∙ ap (body_from body) (sym c.in-Some.ensures.found) ∙ c.loop-line.invariant.0, omega arith)

pub returns-clause-body : goal.returns-clause-body
returns-clause-body c =
    let body = c.loop-line.body.items in
    sym (body_none body) ∙ ap (body_from body) (sym c.in_default.ensures.none) ∙ c.loop-line.invariant.0
