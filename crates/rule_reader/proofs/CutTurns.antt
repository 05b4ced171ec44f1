-- The turns of the loop that reads pairs of cuts, and how a line of pairs is read.
use Rattle.std.proofs.Common.{◌≡◌, ℕ, ◌+◌, ◌-◌, ◌<◌, false, List, [], ◌∷◌, ◌++◌, map, None, Some, option_map, sym, ◌∙◌, ap, refl}
use Rattle.std.specs.List.{list_any}
use Rattle.std.proofs.lemmas.Option.{none-some, same_Some}
use Rattle.toy_imp.specs.declared.rule.CutList.TheVariants as cuts
use Rattle.toy_imp.specs.RuleGrammar.{cut_value, cuts_at}
use Rattle.pec_text.specs.declared.token.Sign.TheVariants as s
use Rattle.pec_text.specs.declared.token.Token.{Token}
use Rattle.pec_text.specs.declared.token.Token.TheVariants as t
use Rattle.program_reader.specs.Read.{ReadStmt, and_next}
use Rattle.rule_reader.specs.Front.{valued, with_found, semicolon_read, at_semicolon, items_read}
use Rattle.rule_reader.specs.CutReading.{pair_read, is_comma, next_pair_read, pairs_read, first_pair_read, is_beyond, cut_line}
use Rattle.rule_reader.specs.declared.cut_lines.CutLine.{CutLine}
use Rattle.rule_reader.proofs.ItemTurns.{items_more, items_unread}

-- ---- the loop
pub not_comma : (tokens : List Token) → ((rest : List Token) → ¬ (tokens ≡ t.Sign s.Comma ∷ rest)) → is_comma tokens ≡ false
not_comma (t.Sign s.Comma ∷ rest) other = absurd (other rest refl)
not_comma _ other = refl

behind_comma : (rest after : List Token) → rest ≡ t.Sign s.Comma ∷ after → next_pair_read rest ≡ valued (λ a. a ∷ []) (pair_read after)
unfolding next_pair_read
behind_comma rest after is = ap next_pair_read is

module _ (found : List (ℕ × ℕ)) (n at : ℕ) (rest after : List Token) (whole : ReadStmt (List (ℕ × ℕ))) (below : at < n) (comma : rest ≡ t.Sign s.Comma ∷ after)
    (inv : with_found found (items_read is_comma next_pair_read (n - at) rest) ≡ whole) where
  pub pairs_more : (all : List (ℕ × ℕ)) (a : ℕ × ℕ) (behind : List Token) → pair_read after ≡ Some (a, behind) → all ≡ found ++ (a ∷ [])
      → with_found all (items_read is_comma next_pair_read (n - (at + 1)) behind) ≡ whole
  pairs_more all a behind read made =
      items_more is_comma next_pair_read found all (a ∷ []) n at rest behind whole below (ap is_comma comma) inv
      (behind_comma rest after comma ∙ ap (valued (λ a. a ∷ [])) read) made

  pub pairs_unread : pair_read after ≡ None → whole ≡ None
  pairs_unread read =
      items_unread is_comma next_pair_read found n at rest whole below (ap is_comma comma) inv
      (ap (with_found found) (behind_comma rest after comma ∙ ap (valued (λ a. a ∷ [])) read))

-- ---- a line of pairs
-- what a line of these pairs says
abbrev pub line_of : List (ℕ × ℕ) → CutLine
line_of pairs = record { cuts = cuts.Listed (map cut_value pairs); is_beyond = list_any is_beyond pairs }

lined : (a : ℕ × ℕ) (more : List (ℕ × ℕ)) (rest : List Token) → valued cut_line (at_semicolon (cuts_at a more) rest) ≡ at_semicolon (line_of (a ∷ more)) rest
lined a more (t.Sign s.Semicolon ∷ rest) = refl
lined a more _ = refl

module _ (tokens rest : List Token) (a : ℕ × ℕ) (first : pair_read tokens ≡ Some (a, rest)) where
  behind_first : valued cut_line (first_pair_read tokens) ≡ valued cut_line (and_next (pairs_read rest) (λ more rest. at_semicolon (cuts_at a more) rest))
  behind_first = ap (λ r. valued cut_line (and_next r (λ a rest. and_next (pairs_read rest) (λ more rest. at_semicolon (cuts_at a more) rest)))) first

  all_lined : (all : List (ℕ × ℕ)) (more : List Token) (r : ReadStmt (List (ℕ × ℕ))) → with_found (a ∷ []) r ≡ Some (all, more)
      → valued cut_line (and_next r (λ more rest. at_semicolon (cuts_at a more) rest)) ≡ at_semicolon (line_of all) more
  all_lined all more None h = absurd (none-some _ h)
  all_lined all more (Some p) h = lined a p.0 p.1 ∙ ap (λ q. at_semicolon (line_of q.0) q.1) (same_Some (a ∷ p.0, p.1) (all, more) h)

  none_lined : (r : ReadStmt (List (ℕ × ℕ))) → with_found (a ∷ []) r ≡ None → valued cut_line (and_next r (λ more rest. at_semicolon (cuts_at a more) rest)) ≡ None
  none_lined None h = refl
  none_lined (Some p) h = absurd (none-some _ (sym h))

  pub line_unread : with_found (a ∷ []) (pairs_read rest) ≡ None → valued cut_line (first_pair_read tokens) ≡ None
  line_unread read = behind_first ∙ none_lined (pairs_read rest) read

  pub line_none : (all : List (ℕ × ℕ)) (more : List Token) → with_found (a ∷ []) (pairs_read rest) ≡ Some (all, more) → semicolon_read more ≡ None
      → valued cut_line (first_pair_read tokens) ≡ None
  line_none all more read ends = behind_first ∙ all_lined all more (pairs_read rest) read ∙ ap (option_map (λ z. (line_of all, z))) ends

  pub line_some : (all : List (ℕ × ℕ)) (more behind : List Token) → with_found (a ∷ []) (pairs_read rest) ≡ Some (all, more) → semicolon_read more ≡ Some behind
      → valued cut_line (first_pair_read tokens) ≡ Some (line_of all, behind)
  line_some all more behind read ends = behind_first ∙ all_lined all more (pairs_read rest) read ∙ ap (option_map (λ z. (line_of all, z))) ends
