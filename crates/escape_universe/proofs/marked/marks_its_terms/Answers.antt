-- By the tests, part by part and mark by mark.
use Rattle.std.proofs.Common.{sym, ◌∙◌}
use Rattle.escape_universe.proofs.UniverseMarks.{terms_of_match, match_of_terms}
use Rattle.escape_universe.proofs.marked.marks_its_terms.Goals as goal

pub returns : goal.returns
returns c = (λ h. terms_of_match c.args.ob.now c.args.e.now (sym c.marks_match.ensures ∙ h), λ h. c.marks_match.ensures ∙ match_of_terms c.args.ob.now c.args.e.now h)
