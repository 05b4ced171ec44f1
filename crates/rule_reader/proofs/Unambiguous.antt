-- One text spells at most one rule under a title, and a text that spells one has no number that is too wide, whichever tokens
-- and tree it is said to have.
use Rattle.std.proofs.Common.{◌≡◌, inl, inr, ℕ, List, Some, sym, ◌∙◌, ap, subst}
use Rattle.std.proofs.lemmas.Option.{same_Some}
use Rattle.std.specs.List.{list_any}
use Rattle.toy_imp.specs.declared.rule.Rule.{Rule}
use Rattle.pec_text.proofs.Readings.{one_reading}
use Rattle.toy_imp.specs.RuleGrammar.{RuleTree, cut_pairs}
use Rattle.pec_text.specs.declared.token.Token.{Token}
use Rattle.program_reader.specs.Grammar.{HasWide}
use Rattle.program_reader.specs.RuleText.{IsRuleText, IsTooWide, SpellsRule}
use Rattle.rule_reader.specs.CutReading.{is_beyond}
use Rattle.rule_reader.specs.RuleReading.{rule_read}
use Rattle.rule_reader.proofs.RuleAnswers.{some_beyond, told_some}
use Rattle.rule_reader.proofs.RuleSound.{tree_written}
use Rattle.rule_reader.proofs.RuleComplete.{rule_is_read}

-- the rule of a text is what is read of its tokens
is_read : (title bytes : List ℕ) (rule : Rule) → (x : SpellsRule title bytes rule) → rule_read title x.tokens ≡ Some (tree_written title x.tree)
is_read title bytes rule x = ap (rule_read title) (sym x.text.tokens_are) ∙ rule_is_read title x.tree x.text.shallow

pub one_rule : (title bytes : List ℕ) (a b : Rule) → SpellsRule title bytes a → SpellsRule title bytes b → b ≡ a
one_rule title bytes a b x y =
    let tokens : y.tokens ≡ x.tokens = one_reading bytes y.tokens x.tokens y.text.spelled x.text.spelled in
    let same : tree_written title y.tree ≡ tree_written title x.tree = same_Some _ _ (sym (is_read title bytes b y) ∙ ap (rule_read title) tokens ∙ is_read title bytes a x) in
    sym y.value ∙ ap (λ z. z.rule) same ∙ x.value

-- a text that spells a rule is not too wide
module _ (title bytes : List ℕ) (rule : Rule) (x : SpellsRule title bytes rule) (tokens : List Token) (tree : RuleTree) (text : IsRuleText bytes tokens tree) where
  same_tokens : tokens ≡ x.tokens
  same_tokens = one_reading bytes tokens x.tokens text.spelled x.text.spelled

  same_written : tree_written title tree ≡ tree_written title x.tree
  same_written = same_Some _ _ (sym (ap (rule_read title) (sym text.tokens_are) ∙ rule_is_read title tree text.shallow) ∙ ap (rule_read title) same_tokens ∙ is_read title bytes rule x)

  pub never_wide : IsTooWide tokens tree → ⊥
  never_wide (inl wide) = x.narrow (inl (subst HasWide same_tokens wide))
  never_wide (inr great) =
      let same : list_any is_beyond (cut_pairs tree.cuts) ≡ list_any is_beyond (cut_pairs x.tree.cuts) = ap (λ z. z.is_beyond) same_written in
      x.narrow (inr (some_beyond (cut_pairs x.tree.cuts) (sym same ∙ told_some (cut_pairs tree.cuts) great)))
