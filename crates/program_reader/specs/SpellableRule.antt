-- When a rule can be written down, so that it is read again; and that what is read can be.
use Rattle.std.specs.Prelude.{◌≡◌, ℕ, ◌≤◌, ◌^◌, Bool, true, false, ◌&&◌, nat_lt, List, [], ◌∷◌, None}
use Rattle.std.specs.List.{AllByRecursion, list_all}
use Rattle.toy_imp.specs.declared.condition.Condition.{Condition}
use Rattle.toy_imp.specs.declared.condition.Condition.TheVariants as condition
use Rattle.toy_imp.specs.declared.param.Param.{Param}
use Rattle.toy_imp.specs.declared.rule.CutList.{CutList}
use Rattle.toy_imp.specs.declared.rule.CutList.TheVariants as cuts
use Rattle.toy_imp.specs.declared.rule.Rule.{Rule}
use Rattle.toy_imp.specs.Faults.{condition_numbers, first_fault}
use Rattle.toy_imp.specs.RuleGrammar.{rule_nesting}
use Rattle.toy_imp.specs.Spellable.{is_first, is_spellable_block}
use Rattle.pec_text.specs.Id.{is_id}
use Rattle.pec_text.specs.Spelling.{IsName}
use Rattle.program_reader.specs.OwnNames.{BlockNamesAre}
use Rattle.program_reader.specs.RuleCanonical.{canonical_rule}
use Rattle.program_reader.specs.RuleText.{SpellsRule}

-- one name or two
abbrev pub is_short : List ℕ → Bool
is_short (k ∷ []) = true
is_short (k ∷ l ∷ []) = true
is_short _ = false

-- a `swaps` condition lists one name or two
abbrev pub lists_names : Condition → Bool
lists_names (condition.Swaps s t names region) = is_short names
lists_names _ = true

-- each number of a condition is that of a parameter, the first of its name
abbrev pub is_spellable_condition : List Param → Condition → Bool
is_spellable_condition ps c = list_all (is_first ps) (condition_numbers c) && lists_names c

-- each listed number is below 2^32
abbrev pub is_narrow_pair : ℕ × ℕ → Bool
is_narrow_pair a = nat_lt a.0 (2 ^ 32) && nat_lt a.1 (2 ^ 32)

abbrev pub are_narrow_cuts : CutList → Bool
are_narrow_cuts cuts.Default = true
are_narrow_cuts (cuts.Listed pairs) = list_all is_narrow_pair pairs

-- The title is an ID, and the rule is the value of a text: the names of its parameters are IDs and no reserved words, each
-- condition and each side is spellable under them, own names are IDs and no reserved words, and its canonical text nests at
-- most 64 deep.
pub record IsSpellableRule (rule : Rule) : Type 0 where
  pub title_is_id : is_id rule.title ≡ true
  pub declared : AllByRecursion (λ p. IsName p.name) rule.params
  pub conditions : list_all (is_spellable_condition rule.params) rule.conditions ≡ true
  pub cuts : are_narrow_cuts rule.cuts ≡ true
  pub left : is_spellable_block rule.params rule.left ≡ true
  pub right : is_spellable_block rule.params rule.right ≡ true
  pub left_names : BlockNamesAre IsName rule.left
  pub right_names : BlockNamesAre IsName rule.right
  pub shallow : rule_nesting (canonical_rule rule) ≤ 64

-- what a title that is an ID and bytes spell is spellable, where no item is wrong with it
abbrev pub ReadRuleIsSpellable : Type 0
ReadRuleIsSpellable = (title bytes : List ℕ) (rule : Rule) → is_id title ≡ true → SpellsRule title bytes rule → first_fault rule ≡ None → IsSpellableRule rule
