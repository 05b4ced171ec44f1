use Rattle.std.proofs.Common.{◌≡◌, ℕ, ◌-◌, List, ◌≤◌, ◌<◌, not, length, take, drop, ap, ◌∙◌, rules, tests}
use Rattle.std.proofs.lemmas.Iterator.{YieldsList-from_slice}
use Rattle.std.proofs.lemmas.Iterator.Search.{position_from_yields_List}
use Rattle.std.proofs.lemmas.List.{take_rest}
use Rattle.std.proofs.lemmas.Option.{MatchOption-at_some, MatchOption-at_none}
use Rattle.pec_text.specs.Byte.{is_blank}
use Rattle.pec_text.proofs.LineLemmas.{position_cases, start, stop, no_words, words_at, or_length}
use Rattle.pec_text.proofs.line.first_word.Goals as goal

pub returns-in_err-start-clause-none : goal.returns-in_err-start-clause-none
returns-in_err-start-clause-none c =
    let line = c.args.line.now in
    let found = position_from_yields_List (λ b. not (is_blank b)) _ _ c.position.result c.position.ensures.ran (YieldsList-from_slice line c.iter.ensures.rest) (λ x b q k. search (rules, tests)) in
    let past : length line ≤ start line = MatchOption-at_none (length line ≤ start line) (λ i. (i ≡ start line) × (start line < length line)) c.in_err-start.was (position_cases _ (start line) (length line) found) in
    rw c.from_residual.ensures (no_words line past)

pub returns-clause-found : goal.returns-clause-found
returns-clause-found c =
    let line = c.args.line.now in
    let found = position_from_yields_List (λ b. not (is_blank b)) _ _ c.position.result c.position.ensures.ran (YieldsList-from_slice line c.iter.ensures.rest) (λ x b q k. search (rules, tests)) in
    let at : (c.in_ok-start.start ≡ start line) × (start line < length line) = MatchOption-at_some (length line ≤ start line) (λ i. (i ≡ start line) × (start line < length line)) _ c.in_ok-start.was (position_cases _ (start line) (length line) found) in
    let rest : List ℕ = take (length line - c.in_ok-start.start) (drop c.in_ok-start.start line) in
    let same : rest ≡ drop (start line) line = take_rest line c.in_ok-start.start ∙ ap (λ k. drop k line) at.0 in
    let stops = position_from_yields_List is_blank _ _ c.position-2.result c.position-2.ensures.ran (YieldsList-from_slice rest c.iter-2.ensures.rest) (λ x b q k. search (rules, tests)) in
    let end : c.unwrap_or-end.result ≡ stop rest = c.unwrap_or-end.ensures ∙ or_length _ rest stops in
    rw (c.split_at.ensures.front, c.split_at.ensures.back, end) (words_at line rest at.1 same)
