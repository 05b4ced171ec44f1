-- What is answered on the tokens of a text is what is owed on the text, whose bytes spell them and no others.
use Rattle.std.proofs.Common.{◌≡◌, ◌⊎◌, ℕ, ◌^◌, ◌≤◌, Bool, true, false, ◌||◌, nat_le, List, Any, Some, Result, Ok, Err, inl, inr, sym, ◌∙◌, ap, rules}
use Rattle.std.specs.List.{list_any}
use Rattle.std.proofs.lemmas.List.Folds.{Any-from_list_any, list_any-from_Any}
use Rattle.std.proofs.lemmas.Option.{none-some, same_Some}
use Rattle.toy_imp.specs.declared.rule.Rule.{Rule}
use Rattle.toy_imp.specs.RuleGrammar.{RuleTree, cut_pairs}
use Rattle.pec_text.specs.Spelling.{Spells}
use Rattle.pec_text.specs.declared.token.Token.{Token}
use Rattle.program_reader.specs.Grammar.{HasWide}
use Rattle.program_reader.specs.RuleText.{IsRuleText, IsTooWide, SpellsRule, RuleAnswer}
use Rattle.program_reader.specs.declared.refusal.ReadRule.{ReadRule}
use Rattle.program_reader.specs.declared.refusal.ReadRule.TheVariants.{NotGrammar, Wide, IllFormed, NoMemory}
use Rattle.program_reader.proofs.ProgramAnswers.{SpellsOnly}
use Rattle.rule_reader.specs.CutReading.{is_beyond}
use Rattle.rule_reader.specs.RuleReading.{rule_read}
use Rattle.rule_reader.specs.RuleAnswering.{IsRead, TokensAnswer}
use Rattle.rule_reader.specs.declared.rule_parts.WrittenRule.{WrittenRule}
use Rattle.rule_reader.proofs.RuleSound.{tree_written, HasRule, rule_has}
use Rattle.rule_reader.proofs.RuleComplete.{rule_is_read}

-- ---- numbers in cuts
abbrev pub IsBeyond : ℕ × ℕ → Type 0
IsBeyond a = (2 ^ 32 ≤ a.0) ⊎ (2 ^ 32 ≤ a.1)

at_least : (v : ℕ) → nat_le (2 ^ 32) v ≡ true → 2 ^ 32 ≤ v
at_least v h = search rules

reaches : (v : ℕ) → 2 ^ 32 ≤ v → nat_le (2 ^ 32) v ≡ true
reaches v h = search rules

one_of : (b c : Bool) → (b || c) ≡ true → (b ≡ true) ⊎ (c ≡ true)
one_of true c h = inl h
one_of false c h = inr h

second : (b c : Bool) → c ≡ true → (b || c) ≡ true
second true c h = cc
second false c h = h

beyond_by : (a : ℕ × ℕ) → (nat_le (2 ^ 32) a.0 ≡ true) ⊎ (nat_le (2 ^ 32) a.1 ≡ true) → IsBeyond a
beyond_by a (inl h) = inl (at_least a.0 h)
beyond_by a (inr h) = inr (at_least a.1 h)

beyond : (a : ℕ × ℕ) → is_beyond a ≡ true → IsBeyond a
beyond a h = beyond_by a (one_of (nat_le (2 ^ 32) a.0) (nat_le (2 ^ 32) a.1) h)

told_beyond : (a : ℕ × ℕ) → IsBeyond a → is_beyond a ≡ true
told_beyond a (inl h) = ap (λ b. b || nat_le (2 ^ 32) a.1) (reaches a.0 h)
told_beyond a (inr h) = second (nat_le (2 ^ 32) a.0) (nat_le (2 ^ 32) a.1) (reaches a.1 h)

pub some_beyond : (pairs : List (ℕ × ℕ)) → list_any is_beyond pairs ≡ true → Any IsBeyond pairs
some_beyond pairs h = let found = Any-from_list_any is_beyond pairs h in (found.0, found.1, found.2, found.3, beyond found.1 found.4)

pub told_some : (pairs : List (ℕ × ℕ)) → Any IsBeyond pairs → list_any is_beyond pairs ≡ true
told_some pairs found = list_any-from_Any is_beyond pairs (found.0, found.1, found.2, found.3, told_beyond found.1 found.4)

-- ---- trees and what is read
text_of : (title bytes : List ℕ) (tokens : List Token) (found : WrittenRule) → Spells bytes tokens → (has : HasRule title tokens found) → IsRuleText bytes tokens has.tree
text_of title bytes tokens found spelled has = record { spelled = spelled; tokens_are = has.tokens_are; shallow = has.shallow }

-- what a text is read as, whichever tokens and tree it is said to have
text_read : (title bytes : List ℕ) (tokens others : List Token) (tree : RuleTree) → SpellsOnly bytes tokens → IsRuleText bytes others tree
    → rule_read title tokens ≡ Some (tree_written title tree)
text_read title bytes tokens others tree only text =
    ap (rule_read title) (sym (text.tokens_are ∙ only others text.spelled)) ∙ rule_is_read title tree text.shallow

narrow_cuts : (title : List ℕ) (tokens : List Token) (rule : Rule) (has : HasRule title tokens (record { rule = rule; is_beyond = false })) → ¬ (HasWide tokens)
    → IsTooWide tokens has.tree → ⊥
narrow_cuts title tokens rule has narrow (inl wide) = narrow wide
narrow_cuts title tokens rule has narrow (inr great) =
    let one : list_any is_beyond (cut_pairs has.tree.cuts) ≡ false = ap (λ z. z.is_beyond) has.value_is in
    let other : list_any is_beyond (cut_pairs has.tree.cuts) ≡ true = told_some (cut_pairs has.tree.cuts) great in
    cc

-- the bytes spell a rule that is read
spelled_rule : (title bytes : List ℕ) (tokens : List Token) (rule : Rule) → Spells bytes tokens → IsRead (rule_read title tokens) tokens rule → SpellsRule title bytes rule
spelled_rule title bytes tokens rule spelled is =
    let found : WrittenRule = record { rule = rule; is_beyond = false } in
    let has : HasRule title tokens found = rule_has title tokens found is.found in
    record {
      tokens = tokens;
      tree = has.tree;
      text = text_of title bytes tokens found spelled has;
      narrow = narrow_cuts title tokens rule has is.narrow;
      value = ap (λ z. z.rule) has.value_is;
    }

-- and no other
only_rule : (title bytes : List ℕ) (tokens : List Token) (rule other : Rule) → SpellsOnly bytes tokens → IsRead (rule_read title tokens) tokens rule → SpellsRule title bytes other → other ≡ rule
only_rule title bytes tokens rule other only is spells =
    let same : tree_written title spells.tree ≡ record { rule = rule; is_beyond = false } =
    same_Some _ _ (sym (text_read title bytes tokens spells.tokens spells.tree only spells.text) ∙ is.found) in
    sym spells.value ∙ ap (λ z. z.rule) same

too_wide : (title : List ℕ) (tokens : List Token) (found : WrittenRule) (has : HasRule title tokens found) → (HasWide tokens) ⊎ (found.is_beyond ≡ true) → IsTooWide tokens has.tree
too_wide title tokens found has (inl wide) = inl wide
too_wide title tokens found has (inr great) = inr (some_beyond (cut_pairs has.tree.cuts) (ap (λ z. z.is_beyond) has.value_is ∙ great))

-- ---- the answers of a reader of rules
answer_wide : (title bytes : List ℕ) (tokens : List Token) (found : WrittenRule) → Spells bytes tokens → rule_read title tokens ≡ Some found
    → (HasWide tokens) ⊎ (found.is_beyond ≡ true) → RuleAnswer title bytes (Err Wide)
answer_wide title bytes tokens found spelled read wide =
    let has : HasRule title tokens found = rule_has title tokens found read in
    (tokens, has.tree, text_of title bytes tokens found spelled has, too_wide title tokens found has wide)

pub answered : (title bytes : List ℕ) (tokens : List Token) (r : Result Rule ReadRule) → Spells bytes tokens → SpellsOnly bytes tokens → TokensAnswer (rule_read title tokens) tokens r → RuleAnswer title bytes r
answered title bytes tokens (Ok rule) spelled only h =
    (spelled_rule title bytes tokens rule spelled h.0, h.1, λ other spells. only_rule title bytes tokens rule other only h.0 spells)
answered title bytes tokens (Err NotGrammar) spelled only h =
    λ others tree text. none-some _ (sym h ∙ text_read title bytes tokens others tree only text)
answered title bytes tokens (Err Wide) spelled only h = answer_wide title bytes tokens h.0 spelled h.1 h.2
answered title bytes tokens (Err (IllFormed f)) spelled only h = (h.0, spelled_rule title bytes tokens h.0 spelled h.1, h.2)
answered title bytes tokens (Err NoMemory) spelled only h = tt
