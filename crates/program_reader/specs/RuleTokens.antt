-- The tokens of the tree of a rule. Words of the grammar that are not reserved are names, and words only in their places.
use Rattle.std.specs.Prelude.{ℕ, List, [], ◌∷◌, ◌++◌, map, flat_map, codes}
use Rattle.toy_imp.specs.declared.condition.Region.{Region}
use Rattle.toy_imp.specs.declared.condition.Region.TheVariants as region
use Rattle.toy_imp.specs.declared.param.Kind.{Kind}
use Rattle.toy_imp.specs.declared.param.Kind.TheVariants as kind
use Rattle.toy_imp.specs.RuleGrammar.{Declaration, ConditionTree, keeps, ignores, commutes, positive, constant, distinct, quiet, swaps_over_1, swaps_over_2, MethodTree, no_method, simulated, permuted, chained, tiled, CutsTree, no_cuts, cuts_none, cuts_at, RuleTree}
use Rattle.pec_text.specs.Spelling.{numeral_of}
use Rattle.pec_text.specs.declared.token.Sign.TheVariants as s
use Rattle.pec_text.specs.declared.token.Token.{Token}
use Rattle.pec_text.specs.declared.token.Token.TheVariants as t
use Rattle.pec_text.specs.declared.token.Word.{Word}
use Rattle.pec_text.specs.declared.token.Word.TheVariants as w
use Rattle.program_reader.specs.TreeTokens.{in_braces, stmts_tokens}

abbrev pub kind_word : Kind → Word
kind_word kind.Name = w.Name
kind_word kind.Expr = w.Expr
kind_word kind.Test = w.Test
kind_word kind.Stmt = w.Stmt

abbrev pub declaration_tokens : Declaration → List Token
declaration_tokens d = t.Word (kind_word d.kind) ∷ t.Name d.first ∷ (map t.Name d.others ++ (t.Sign s.Semicolon ∷ []))

abbrev pub region_word : Region → List ℕ
region_word region.Distinct = codes "distinct"
region_word region.Earlier = codes "earlier"
region_word region.Crossing = codes "crossing"

abbrev pub condition_tokens : ConditionTree → List Token
condition_tokens (keeps x y) = t.Name (codes "keeps") ∷ t.Name x ∷ t.Name y ∷ []
condition_tokens (ignores x y) = t.Name (codes "ignores") ∷ t.Name x ∷ t.Name y ∷ []
condition_tokens (commutes x y) = t.Name (codes "commutes") ∷ t.Name x ∷ t.Name y ∷ []
condition_tokens (positive x) = t.Name (codes "positive") ∷ t.Name x ∷ []
condition_tokens (constant x) = t.Name (codes "constant") ∷ t.Name x ∷ []
condition_tokens (distinct x y) = t.Name (codes "distinct") ∷ t.Name x ∷ t.Name y ∷ []
condition_tokens (quiet x) = t.Name (codes "quiet") ∷ t.Name x ∷ []
condition_tokens (swaps_over_1 x y k region) = t.Name (codes "swaps") ∷ t.Name x ∷ t.Name y ∷ t.Name (codes "over") ∷ t.Name k ∷ t.Name (region_word region) ∷ []
condition_tokens (swaps_over_2 x y k l region) = t.Name (codes "swaps") ∷ t.Name x ∷ t.Name y ∷ t.Name (codes "over") ∷ t.Name k ∷ t.Sign s.Comma ∷ t.Name l ∷ t.Name (region_word region) ∷ []

abbrev pub given_tokens : ConditionTree → List Token
given_tokens c = t.Word w.Given ∷ (condition_tokens c ++ (t.Sign s.Semicolon ∷ []))

abbrev pub method_tokens : MethodTree → List Token
method_tokens no_method = []
method_tokens simulated = t.Word w.Method ∷ t.Name (codes "simulate") ∷ t.Sign s.Semicolon ∷ []
method_tokens permuted = t.Word w.Method ∷ t.Name (codes "permute") ∷ t.Sign s.Semicolon ∷ []
method_tokens chained = t.Word w.Method ∷ t.Name (codes "chain") ∷ t.Sign s.Semicolon ∷ []
method_tokens tiled = t.Word w.Method ∷ t.Name (codes "tile") ∷ t.Sign s.Semicolon ∷ []

abbrev pub pair_tokens : ℕ × ℕ → List Token
pair_tokens a = t.Number (numeral_of a.0) ∷ t.Number (numeral_of a.1) ∷ []

abbrev pub cuts_tokens : CutsTree → List Token
cuts_tokens no_cuts = []
cuts_tokens cuts_none = t.Word w.Cuts ∷ t.Word w.None ∷ t.Sign s.Semicolon ∷ []
cuts_tokens (cuts_at a more) = t.Word w.Cuts ∷ (pair_tokens a ++ (flat_map (λ b. t.Sign s.Comma ∷ pair_tokens b) more ++ (t.Sign s.Semicolon ∷ [])))

abbrev pub rule_tokens : RuleTree → List Token
rule_tokens tree =
    flat_map declaration_tokens tree.declarations
    ++ (flat_map given_tokens tree.conditions
    ++ (method_tokens tree.method
    ++ (cuts_tokens tree.cuts
    ++ (t.Word w.Left ∷ (in_braces (stmts_tokens tree.left)
    ++ (t.Word w.Right ∷ in_braces (stmts_tokens tree.right)))))))
