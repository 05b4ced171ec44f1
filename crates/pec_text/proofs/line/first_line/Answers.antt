use Rattle.std.proofs.Common.{◌≡◌, ◌≤◌, ◌<◌, length, eqb, rules, tests}
use Rattle.std.proofs.lemmas.Iterator.{YieldsList-from_slice}
use Rattle.std.proofs.lemmas.Iterator.Search.{position_from_yields_List}
use Rattle.std.proofs.lemmas.Option.{MatchOption-at_some, MatchOption-at_none}
use Rattle.pec_text.proofs.LineLemmas.{position_cases, feed, lines_at, lines_without}
use Rattle.pec_text.proofs.line.first_line.Goals as goal

pub returns-in-Some-clause-line : goal.returns-in-Some-clause-line
returns-in-Some-clause-line c =
    let bytes = c.args.bytes.now in
    let found = position_from_yields_List (λ b. eqb b 10) _ _ c.position.result c.position.ensures.ran (YieldsList-from_slice bytes c.iter.ensures.rest) (λ x b q k. search (rules, tests)) in
    let at : (c.in-Some.end ≡ feed bytes) × (feed bytes < length bytes) = MatchOption-at_some (length bytes ≤ feed bytes) (λ i. (i ≡ feed bytes) × (feed bytes < length bytes)) _ c.in-Some.is (position_cases _ (feed bytes) (length bytes) found) in
    lines_at bytes c.in-Some.end at

pub returns-in-None-clause-line : goal.returns-in-None-clause-line
returns-in-None-clause-line c =
    let bytes = c.args.bytes.now in
    let found = position_from_yields_List (λ b. eqb b 10) _ _ c.position.result c.position.ensures.ran (YieldsList-from_slice bytes c.iter.ensures.rest) (λ x b q k. search (rules, tests)) in
    lines_without bytes c.requires (MatchOption-at_none (length bytes ≤ feed bytes) (λ i. (i ≡ feed bytes) × (feed bytes < length bytes)) c.in-None.is (position_cases _ (feed bytes) (length bytes) found))
