-- The canonical text of a spellable rule is one section that spells it.
use Rattle.std.proofs.Common.{◌≡◌, ◌⊎◌, ℕ, ◌<◌, ◌≤◌, ◌^◌, min, Bool, true, false, cond, nat_lt, List, [], ◌∷◌, map, codes, inl, inr, refl, sym, ap, ◌∙◌, subst, arith, zero, suc}
use Rattle.std.specs.List.{Any, list_all}
use Rattle.std.proofs.lemmas.Bool.{and_parts, ltb-true, false≢true}
use Rattle.toy_imp.specs.declared.condition.Condition.{Condition}
use Rattle.toy_imp.specs.declared.condition.Condition.TheVariants as condition
use Rattle.toy_imp.specs.declared.param.Kind.{Kind}
use Rattle.toy_imp.specs.declared.param.Kind.TheVariants as kind
use Rattle.toy_imp.specs.declared.param.Param.{Param}
use Rattle.toy_imp.specs.declared.rule.CutList.{CutList}
use Rattle.toy_imp.specs.declared.rule.CutList.TheVariants as cuts
use Rattle.toy_imp.specs.declared.rule.Method.{Method}
use Rattle.toy_imp.specs.declared.rule.Method.TheVariants as method
use Rattle.toy_imp.specs.declared.rule.Rule.{Rule}
use Rattle.toy_imp.specs.BlockCanonical.{canonical_block}
use Rattle.toy_imp.specs.BlockGrammar.{stmts_value}
use Rattle.toy_imp.specs.ExprCanonical.{declared_name}
use Rattle.toy_imp.specs.Faults.{kind_is}
use Rattle.toy_imp.specs.RuleGrammar.{Declaration, params_value, condition_value, method_value, cut_value, greatest_cut, cuts_value, cut_pairs, rule_value}
use Rattle.toy_imp.specs.Spellable.{is_first}
use Rattle.toy_imp.proofs.CanonicalValues.{block-value, number_of-first}
use Rattle.toy_imp.specs.Parameters.{number_of}
use Rattle.pec_text.specs.Section.{IsText}
use Rattle.pec_text.specs.declared.token.Token.{Token}
use Rattle.pec_text.specs.declared.section_data.SectionKind.TheVariants.{Rule as RuleKind}
use Rattle.program_reader.specs.RuleText.{IsTooWide, SpellsRule}
use Rattle.program_reader.specs.RuleTokens.{rule_tokens}
use Rattle.rule_printer.specs.ProgramText.{one_section}
use Rattle.program_reader.specs.RuleCanonical.{declared_before, declarations, canonical_condition, canonical_method, canonical_cuts, canonical_rule}
use Rattle.program_reader.specs.SpellableRule.{is_spellable_condition, is_narrow_pair, are_narrow_cuts, IsSpellableRule}
use Rattle.rule_printer.specs.PrintedRule.{rule_body, rule_text, IsTextOfRule}
use Rattle.rule_printer.proofs.Laying.{Lines}
use Rattle.rule_printer.proofs.OneSection.{Heads, is_one_section}
use Rattle.rule_printer.proofs.ProgramPrinted.{not_wide, lines_spell, lines_whole}
use Rattle.rule_printer.proofs.RuleLaid.{rule_laid}

-- ---- declarations
pub kinds_equal : (j k : Kind) → kind_is j k ≡ true → j ≡ k
kinds_equal kind.Name kind.Name h = refl
kinds_equal kind.Expr kind.Expr h = refl
kinds_equal kind.Test kind.Test h = refl
kinds_equal kind.Stmt kind.Stmt h = refl
kinds_equal j k h = absurd (false≢true h)

before_value : (p : Param) (ds : List Declaration) → params_value (declared_before p ds) ≡ p ∷ params_value ds
before_value p [] = refl
before_value p (d ∷ ds) = at_kind (kind_is p.kind d.kind) refl
  where
    at_kind : (v : Bool) → kind_is p.kind d.kind ≡ v
        → params_value (cond v (record { kind = d.kind; first = p.name; others = d.first ∷ d.others } ∷ ds) (record { kind = p.kind; first = p.name; others = [] } ∷ d ∷ ds)) ≡ p ∷ params_value (d ∷ ds)
    at_kind true e = let same : p.kind ≡ d.kind = kinds_equal p.kind d.kind e in λ i. record { kind = sym same i; name = p.name } ∷ params_value (d ∷ ds)
    at_kind false e = refl

declarations_value : (ps : List Param) → params_value (declarations ps) ≡ ps
declarations_value [] = refl
declarations_value (p ∷ ps) = before_value p (declarations ps) ∙ ap (λ qs. p ∷ qs) (declarations_value ps)

-- ---- conditions
first_back : (ps : List Param) (k : ℕ) (more : List ℕ) → list_all (is_first ps) (k ∷ more) ≡ true → number_of ps (declared_name ps k) ≡ k
first_back ps k more h = number_of-first ps k ((and_parts _ _ h).0)

second_back : (ps : List Param) (j k : ℕ) (more : List ℕ) → list_all (is_first ps) (j ∷ k ∷ more) ≡ true → number_of ps (declared_name ps k) ≡ k
second_back ps j k more h = first_back ps k more ((and_parts _ _ h).1)

condition_back : (ps : List Param) (c : Condition) → is_spellable_condition ps c ≡ true → condition_value ps (canonical_condition ps c) ≡ c
condition_back ps (condition.Keeps x y) h = let n : list_all (is_first ps) (x ∷ y ∷ []) ≡ true = (and_parts _ _ h).0 in λ i. condition.Keeps (first_back ps x (y ∷ []) n i) (second_back ps x y [] n i)
condition_back ps (condition.Ignores x y) h = let n : list_all (is_first ps) (x ∷ y ∷ []) ≡ true = (and_parts _ _ h).0 in λ i. condition.Ignores (first_back ps x (y ∷ []) n i) (second_back ps x y [] n i)
condition_back ps (condition.Commutes x y) h = let n : list_all (is_first ps) (x ∷ y ∷ []) ≡ true = (and_parts _ _ h).0 in λ i. condition.Commutes (first_back ps x (y ∷ []) n i) (second_back ps x y [] n i)
condition_back ps (condition.Positive x) h = let n : list_all (is_first ps) (x ∷ []) ≡ true = (and_parts _ _ h).0 in λ i. condition.Positive (first_back ps x [] n i)
condition_back ps (condition.Constant x) h = let n : list_all (is_first ps) (x ∷ []) ≡ true = (and_parts _ _ h).0 in λ i. condition.Constant (first_back ps x [] n i)
condition_back ps (condition.Distinct x y) h = let n : list_all (is_first ps) (x ∷ y ∷ []) ≡ true = (and_parts _ _ h).0 in λ i. condition.Distinct (first_back ps x (y ∷ []) n i) (second_back ps x y [] n i)
condition_back ps (condition.Quiet x) h = let n : list_all (is_first ps) (x ∷ []) ≡ true = (and_parts _ _ h).0 in λ i. condition.Quiet (first_back ps x [] n i)
condition_back ps (condition.Swaps x y [] r) h = let none : false ≡ true = (and_parts (list_all (is_first ps) (x ∷ y ∷ [])) false h).1 in cc
condition_back ps (condition.Swaps x y (k ∷ []) r) h =
    let n : list_all (is_first ps) (x ∷ y ∷ k ∷ []) ≡ true = (and_parts (list_all (is_first ps) (x ∷ y ∷ k ∷ [])) true h).0 in
    let m : list_all (is_first ps) (y ∷ k ∷ []) ≡ true = (and_parts _ _ n).1 in
    λ i. condition.Swaps (first_back ps x (y ∷ k ∷ []) n i) (second_back ps x y (k ∷ []) n i) (second_back ps y k [] m i ∷ []) r
condition_back ps (condition.Swaps x y (k ∷ l ∷ []) r) h =
    let n : list_all (is_first ps) (x ∷ y ∷ k ∷ l ∷ []) ≡ true = (and_parts (list_all (is_first ps) (x ∷ y ∷ k ∷ l ∷ [])) true h).0 in
    let m : list_all (is_first ps) (y ∷ k ∷ l ∷ []) ≡ true = (and_parts _ _ n).1 in
    let o : list_all (is_first ps) (k ∷ l ∷ []) ≡ true = (and_parts _ _ m).1 in
    λ i. condition.Swaps (first_back ps x (y ∷ k ∷ l ∷ []) n i) (second_back ps x y (k ∷ l ∷ []) n i) (second_back ps y k (l ∷ []) m i ∷ second_back ps k l [] o i ∷ []) r
condition_back ps (condition.Swaps x y (k ∷ l ∷ m ∷ more) r) h = let none : false ≡ true = (and_parts (list_all (is_first ps) (x ∷ y ∷ k ∷ l ∷ m ∷ more)) false h).1 in cc

conditions_back : (ps : List Param) (cs : List Condition) → list_all (is_spellable_condition ps) cs ≡ true → map (condition_value ps) (map (canonical_condition ps) cs) ≡ cs
conditions_back ps [] h = refl
conditions_back ps (c ∷ cs) h = λ i. condition_back ps c ((and_parts _ _ h).0) i ∷ conditions_back ps cs ((and_parts _ _ h).1) i

-- ---- the method and the cuts
method_back : (m : Method) → method_value (canonical_method m) ≡ m
method_back method.Simulate = refl
method_back method.Permute = refl
method_back method.Chain = refl
method_back method.Tile = refl

narrow_back : (k : ℕ) → nat_lt k (2 ^ 32) ≡ true → min k greatest_cut ≡ k
narrow_back k h = omega (arith, ltb-true k (2 ^ 32) h)

pair_back : (a : ℕ × ℕ) → is_narrow_pair a ≡ true → cut_value a ≡ a
pair_back a h = λ i. (narrow_back a.0 ((and_parts _ _ h).0) i, narrow_back a.1 ((and_parts _ _ h).1) i)

pairs_back : (pairs : List (ℕ × ℕ)) → list_all is_narrow_pair pairs ≡ true → map cut_value pairs ≡ pairs
pairs_back [] h = refl
pairs_back (a ∷ pairs) h = λ i. pair_back a ((and_parts _ _ h).0) i ∷ pairs_back pairs ((and_parts _ _ h).1) i

cuts_back : (c : CutList) → are_narrow_cuts c ≡ true → cuts_value (canonical_cuts c) ≡ c
cuts_back cuts.Default h = refl
cuts_back (cuts.Listed []) h = refl
cuts_back (cuts.Listed (a ∷ more)) h = ap cuts.Listed (pairs_back (a ∷ more) h)

-- no listed number is too wide
pairs_narrow : (pairs : List (ℕ × ℕ)) → list_all is_narrow_pair pairs ≡ true → ¬ (Any (λ a. (2 ^ 32 ≤ a.0) ⊎ (2 ^ 32 ≤ a.1)) pairs)
pairs_narrow [] h any = omega (arith, any.2)
pairs_narrow (a ∷ pairs) h (zero, b, low, is, wide) =
    let first : is_narrow_pair b ≡ true = ap is_narrow_pair (sym is) ∙ (and_parts _ _ h).0 in
    let left : b.0 < 2 ^ 32 = ltb-true b.0 (2 ^ 32) ((and_parts _ _ first).0) in
    let right : b.1 < 2 ^ 32 = ltb-true b.1 (2 ^ 32) ((and_parts _ _ first).1) in
    elim wide [ inl w ↦ omega (arith, w, left) | inr w ↦ omega (arith, w, right) ]
pairs_narrow (a ∷ pairs) h (suc k, b, low, is, wide) = pairs_narrow pairs ((and_parts _ _ h).1) (k, b, omega arith, is, wide)

cuts_narrow : (c : CutList) → are_narrow_cuts c ≡ true → ¬ (Any (λ a. (2 ^ 32 ≤ a.0) ⊎ (2 ^ 32 ≤ a.1)) (cut_pairs (canonical_cuts c)))
cuts_narrow cuts.Default h = pairs_narrow [] refl
cuts_narrow (cuts.Listed []) h = pairs_narrow [] refl
cuts_narrow (cuts.Listed (a ∷ more)) h = pairs_narrow (a ∷ more) h

-- ---- rules
-- the rule with these parameters whose parts are read from its canonical tree
read_under : List Param → Rule → Rule
read_under ps rule = record {
  title = rule.title;
  params = ps;
  conditions = map (condition_value ps) (map (canonical_condition rule.params) rule.conditions);
  method = method_value (canonical_method rule.method);
  cuts = cuts_value (canonical_cuts rule.cuts);
  left = stmts_value ps (canonical_block rule.params rule.left);
  right = stmts_value ps (canonical_block rule.params rule.right);
}

rule_back : (rule : Rule) → IsSpellableRule rule → rule_value rule.title (canonical_rule rule) ≡ rule
unfolding read_under
rule_back rule h =
    let ps : List Param = rule.params in
    let parts : read_under ps rule ≡ rule = λ i. record {
      title = rule.title;
      params = ps;
      conditions = conditions_back ps rule.conditions h.conditions i;
      method = method_back rule.method i;
      cuts = cuts_back rule.cuts h.cuts i;
      left = block-value ps rule.left h.left i;
      right = block-value ps rule.right h.right i;
    } in
    ap (λ qs. read_under qs rule) (declarations_value ps) ∙ parts

pub body_spells : (rule : Rule) → IsSpellableRule rule → SpellsRule rule.title (rule_body rule) rule
body_spells rule h =
    let tokens : List Token = rule_tokens (canonical_rule rule) in
    let lines : Lines (rule_body rule) tokens = rule_laid rule h in
    let narrow : ¬ (IsTooWide tokens (canonical_rule rule)) = λ wide. elim wide [ inl w ↦ not_wide tokens lines.lays.narrow w | inr w ↦ cuts_narrow rule.cuts h.cuts w ] in
    record {
      tokens = tokens;
      tree = canonical_rule rule;
      text = record { spelled = lines_spell (rule_body rule) tokens lines; tokens_are = refl; shallow = h.shallow };
      narrow = narrow;
      value = rule_back rule h;
    }

rule_heads : Heads RuleKind (codes "rule ")
rule_heads = record { words_are = λ title. refl; kept = λ title. refl; no_feed = refl }

pub rule_section : (rule : Rule) → IsSpellableRule rule → IsText (rule_text rule) (one_section RuleKind rule.title (rule_body rule))
rule_section rule h = is_one_section RuleKind (codes "rule ") rule.title (rule_body rule) rule_heads h.title_is_id (lines_whole (rule_body rule) (rule_tokens (canonical_rule rule)) (rule_laid rule h))

rule_reads_back : (rule : Rule) → IsSpellableRule rule → IsTextOfRule (rule_text rule) rule
rule_reads_back rule h = record { body = rule_body rule; section = rule_section rule h; spelled = body_spells rule h }

pub printed_rule_reads_back : (text : List ℕ) (rule : Rule) → IsSpellableRule rule → text ≡ rule_text rule → IsTextOfRule text rule
printed_rule_reads_back text rule h is = subst (λ z. IsTextOfRule z rule) (sym is) (rule_reads_back rule h)
