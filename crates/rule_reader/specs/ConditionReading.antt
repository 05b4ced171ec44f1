-- How side conditions are read from the front of tokens, each behind the word `given` and up to its semicolon.
use Rattle.std.specs.Prelude.{ℕ, Bool, true, false, List, [], ◌∷◌, length, codes, bytes_eq, Option, None, Some, if◌then◌else◌}
use Rattle.toy_imp.specs.declared.condition.Condition.{Condition}
use Rattle.toy_imp.specs.declared.condition.Region.{Region}
use Rattle.toy_imp.specs.declared.condition.Region.TheVariants as region
use Rattle.toy_imp.specs.declared.param.Param.{Param}
use Rattle.toy_imp.specs.RuleGrammar.{ConditionTree, keeps, ignores, commutes, positive, constant, distinct, quiet, swaps_over_1, swaps_over_2, condition_value}
use Rattle.pec_text.specs.declared.token.Sign.TheVariants as s
use Rattle.pec_text.specs.declared.token.Token.{Token}
use Rattle.pec_text.specs.declared.token.Token.TheVariants as t
use Rattle.pec_text.specs.declared.token.Word.TheVariants as w
use Rattle.program_reader.specs.Read.{ReadStmt, and_next}
use Rattle.rule_reader.specs.declared.condition_words.Form.{Form}
use Rattle.rule_reader.specs.declared.condition_words.Form.TheVariants as form
use Rattle.rule_reader.specs.declared.condition_words.OfOne.{OfOne}
use Rattle.rule_reader.specs.declared.condition_words.OfOne.TheVariants as one
use Rattle.rule_reader.specs.declared.condition_words.OfTwo.{OfTwo}
use Rattle.rule_reader.specs.declared.condition_words.OfTwo.TheVariants as two
use Rattle.rule_reader.specs.Front.{valued, name_read, two_names_read, at_semicolon, items_read}

-- the word of a form, and the form of a word
abbrev pub form_word : Form → List ℕ
form_word (form.Two two.Keeps) = codes "keeps"
form_word (form.Two two.Ignores) = codes "ignores"
form_word (form.Two two.Commutes) = codes "commutes"
form_word (form.Two two.Distinct) = codes "distinct"
form_word (form.One one.Positive) = codes "positive"
form_word (form.One one.Constant) = codes "constant"
form_word (form.One one.Quiet) = codes "quiet"
form_word form.Swaps = codes "swaps"

abbrev pub form_of : List ℕ → Option Form
form_of word =
    if bytes_eq word (codes "keeps") then Some (form.Two two.Keeps)
    else if bytes_eq word (codes "ignores") then Some (form.Two two.Ignores)
    else if bytes_eq word (codes "commutes") then Some (form.Two two.Commutes)
    else if bytes_eq word (codes "distinct") then Some (form.Two two.Distinct)
    else if bytes_eq word (codes "positive") then Some (form.One one.Positive)
    else if bytes_eq word (codes "constant") then Some (form.One one.Constant)
    else if bytes_eq word (codes "quiet") then Some (form.One one.Quiet)
    else if bytes_eq word (codes "swaps") then Some form.Swaps
    else None

abbrev pub region_of : List ℕ → Option Region
region_of word =
    if bytes_eq word (codes "distinct") then Some region.Distinct
    else if bytes_eq word (codes "earlier") then Some region.Earlier
    else if bytes_eq word (codes "crossing") then Some region.Crossing
    else None

-- the conditions of one name and of two
abbrev pub of_one : OfOne → List ℕ → ConditionTree
of_one one.Positive x = positive x
of_one one.Constant x = constant x
of_one one.Quiet x = quiet x

abbrev pub of_two : OfTwo → List ℕ × List ℕ → ConditionTree
of_two two.Keeps p = keeps p.0 p.1
of_two two.Ignores p = ignores p.0 p.1
of_two two.Commutes p = commutes p.0 p.1
of_two two.Distinct p = distinct p.0 p.1

-- ---- what follows `swaps`
abbrev pub where_some : {A : Type 0} → Option A → List Token → ReadStmt A
where_some None rest = None
where_some (Some a) rest = Some (a, rest)

abbrev pub region_read : List Token → ReadStmt Region
region_read tokens = and_next (name_read tokens) (λ x rest. where_some (region_of x) rest)

-- the word `over` and the name behind it
abbrev pub over_read : List Token → ReadStmt (List ℕ)
over_read tokens = and_next (name_read tokens) (λ x rest. if bytes_eq x (codes "over") then name_read rest else None)

-- what follows the first name behind `over`: the region, or a comma, a second name and the region
abbrev pub one_over_read : List ℕ × List ℕ → List ℕ → List Token → ReadStmt ConditionTree
one_over_read p k rest = and_next (region_read rest) (λ r rest. Some (swaps_over_1 p.0 p.1 k r, rest))

abbrev pub two_over_read : List ℕ × List ℕ → List ℕ → List Token → ReadStmt ConditionTree
two_over_read p k rest = and_next (name_read rest) (λ l rest. and_next (region_read rest) (λ r rest. Some (swaps_over_2 p.0 p.1 k l r, rest)))

unfoldable pub listed_read : List ℕ × List ℕ → List ℕ → List Token → ReadStmt ConditionTree
listed_read p k (t.Sign s.Comma ∷ rest) = two_over_read p k rest
listed_read p k rest = one_over_read p k rest

unfoldable pub swaps_read : List Token → ReadStmt ConditionTree
swaps_read tokens = and_next (two_names_read tokens) (λ p rest. and_next (over_read rest) (λ k rest. listed_read p k rest))

-- ---- conditions
-- what follows the word of a form
abbrev pub formed_read : Option Form → List Token → ReadStmt ConditionTree
formed_read (Some (form.Two f)) rest = valued (of_two f) (two_names_read rest)
formed_read (Some (form.One f)) rest = valued (of_one f) (name_read rest)
formed_read (Some form.Swaps) rest = swaps_read rest
formed_read None rest = None

unfoldable pub condition_read : List Token → ReadStmt ConditionTree
condition_read tokens = and_next (name_read tokens) (λ x rest. formed_read (form_of x) rest)

abbrev pub is_given : List Token → Bool
is_given (t.Word w.Given ∷ rest) = true
is_given _ = false

-- what follows the word `given`
abbrev pub behind_given : List Token → ReadStmt ConditionTree
behind_given tokens = and_next (condition_read tokens) (λ c rest. at_semicolon c rest)

unfoldable pub given_read : List Token → ReadStmt ConditionTree
given_read (t.Word w.Given ∷ rest) = behind_given rest
given_read _ = None

unfoldable pub conditions_read : List Param → List Token → ReadStmt (List Condition)
conditions_read ps tokens = items_read is_given (λ rest. valued (λ c. condition_value ps c ∷ []) (given_read rest)) (length tokens) tokens
