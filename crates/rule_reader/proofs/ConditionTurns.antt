-- The turns of the loop that reads side conditions, and how one with its semicolon and a `swaps` are read.
use Rattle.std.proofs.Common.{◌≡◌, ℕ, ◌+◌, ◌-◌, ◌<◌, false, List, [], ◌∷◌, ◌++◌, None, Some, option_map, ◌∙◌, ap, refl}
use Rattle.toy_imp.specs.declared.condition.Condition.{Condition}
use Rattle.toy_imp.specs.declared.param.Param.{Param}
use Rattle.toy_imp.specs.RuleGrammar.{condition_value}
use Rattle.pec_text.specs.declared.token.Sign.TheVariants as s
use Rattle.pec_text.specs.declared.token.Token.{Token}
use Rattle.pec_text.specs.declared.token.Token.TheVariants as t
use Rattle.pec_text.specs.declared.token.Word.TheVariants as w
use Rattle.program_reader.specs.Read.{ReadStmt, and_next}
use Rattle.rule_reader.specs.Front.{valued, with_found, two_names_read, semicolon_read, items_read}
use Rattle.rule_reader.specs.ConditionReading.{over_read, one_over_read, two_over_read, listed_read, swaps_read, condition_read, is_given, behind_given, given_read}
use Rattle.rule_reader.proofs.ItemTurns.{items_more, items_unread, ended_some, ended_none, alone_some, alone_none}

-- ---- one condition and its semicolon
pub given_some : (ps : List Param) (tokens rest more : List Token) (c : Condition) → valued (condition_value ps) (condition_read tokens) ≡ Some (c, rest) → semicolon_read rest ≡ Some more
    → valued (condition_value ps) (behind_given tokens) ≡ Some (c, more)
given_some ps tokens rest more c read ends = ended_some (condition_value ps) (condition_read tokens) c rest read ∙ ap (option_map (λ z. (c, z))) ends

pub given_none : (ps : List Param) (tokens rest : List Token) (c : Condition) → valued (condition_value ps) (condition_read tokens) ≡ Some (c, rest) → semicolon_read rest ≡ None
    → valued (condition_value ps) (behind_given tokens) ≡ None
given_none ps tokens rest c read ends = ended_some (condition_value ps) (condition_read tokens) c rest read ∙ ap (option_map (λ z. (c, z))) ends

pub given_unread : (ps : List Param) (tokens : List Token) → valued (condition_value ps) (condition_read tokens) ≡ None → valued (condition_value ps) (behind_given tokens) ≡ None
given_unread ps tokens read = ended_none (condition_value ps) (condition_read tokens) read

-- ---- a `swaps`
listed_is : (tokens rest more : List Token) (p : List ℕ × List ℕ) (k : List ℕ) → two_names_read tokens ≡ Some (p, rest) → over_read rest ≡ Some (k, more)
    → swaps_read tokens ≡ listed_read p k more
unfolding swaps_read
listed_is tokens rest more p k read over =
    ap (λ r. and_next r (λ p rest. and_next (over_read rest) (λ k rest. listed_read p k rest))) read ∙ ap (λ r. and_next r (λ k rest. listed_read p k rest)) over

no_comma : (p : List ℕ × List ℕ) (k : List ℕ) (tokens : List Token) → ((rest : List Token) → ¬ (tokens ≡ t.Sign s.Comma ∷ rest)) → listed_read p k tokens ≡ one_over_read p k tokens
unfolding listed_read
no_comma p k (t.Sign s.Comma ∷ rest) other = absurd (other rest refl)
no_comma p k _ other = refl

a_comma : (p : List ℕ × List ℕ) (k : List ℕ) (tokens rest : List Token) → tokens ≡ t.Sign s.Comma ∷ rest → listed_read p k tokens ≡ two_over_read p k rest
unfolding listed_read
a_comma p k tokens rest is = ap (listed_read p k) is

pub swaps_of_one : (tokens rest more : List Token) (p : List ℕ × List ℕ) (k : List ℕ) → two_names_read tokens ≡ Some (p, rest) → over_read rest ≡ Some (k, more)
    → ((after : List Token) → ¬ (more ≡ t.Sign s.Comma ∷ after)) → swaps_read tokens ≡ one_over_read p k more
swaps_of_one tokens rest more p k read over other = listed_is tokens rest more p k read over ∙ no_comma p k more other

pub swaps_of_two : (tokens rest more after : List Token) (p : List ℕ × List ℕ) (k : List ℕ) → two_names_read tokens ≡ Some (p, rest) → over_read rest ≡ Some (k, more)
    → more ≡ t.Sign s.Comma ∷ after → swaps_read tokens ≡ two_over_read p k after
swaps_of_two tokens rest more after p k read over is = listed_is tokens rest more p k read over ∙ a_comma p k more after is

-- ---- the loop
pub not_given : (tokens : List Token) → ((rest : List Token) → ¬ (tokens ≡ t.Word w.Given ∷ rest)) → is_given tokens ≡ false
not_given (t.Word w.Given ∷ rest) other = absurd (other rest refl)
not_given _ other = refl

-- the value of one condition, alone in a list
abbrev alone : List Param → List Token → ReadStmt (List Condition)
alone ps rest = valued (λ c. condition_value ps c ∷ []) (given_read rest)

alone_behind : (ps : List Param) (rest after : List Token) → rest ≡ t.Word w.Given ∷ after → alone ps rest ≡ valued (λ c. condition_value ps c ∷ []) (behind_given after)
unfolding given_read
alone_behind ps rest after is = ap (alone ps) is

module _ (ps : List Param) (found : List Condition) (n at : ℕ) (rest after : List Token) (whole : ReadStmt (List Condition)) (below : at < n) (word : rest ≡ t.Word w.Given ∷ after)
    (inv : with_found found (items_read is_given (λ rest. valued (λ c. condition_value ps c ∷ []) (given_read rest)) (n - at) rest) ≡ whole) where
  pub conditions_more : (all : List Condition) (c : Condition) (behind : List Token) → valued (condition_value ps) (behind_given after) ≡ Some (c, behind) → all ≡ found ++ (c ∷ [])
      → with_found all (items_read is_given (λ rest. valued (λ c. condition_value ps c ∷ []) (given_read rest)) (n - (at + 1)) behind) ≡ whole
  conditions_more all c behind read made =
      items_more is_given (alone ps) found all (c ∷ []) n at rest behind whole below (ap is_given word) inv
      (alone_behind ps rest after word ∙ alone_some (condition_value ps) (behind_given after) c behind read) made

  pub conditions_unread : valued (condition_value ps) (behind_given after) ≡ None → whole ≡ None
  conditions_unread read =
      items_unread is_given (alone ps) found n at rest whole below (ap is_given word) inv
      (ap (with_found found) (alone_behind ps rest after word ∙ alone_none (condition_value ps) (behind_given after) read))
