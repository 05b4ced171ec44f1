-- The canonical text of the tree of a rule, one line for each alternative of the grammar: a line for each declaration, each
-- condition, the method and the cuts, and the two sides in braces.
use Rattle.std.specs.Prelude.{ℕ, List, [], ◌++◌, codes, decimal, flat_map}
use Rattle.toy_imp.specs.BlockGrammar.{StmtsTree}
use Rattle.toy_imp.specs.RuleGrammar.{Declaration, ConditionTree, keeps, ignores, commutes, positive, constant, distinct, quiet, swaps_over_1, swaps_over_2, MethodTree, no_method, simulated, permuted, chained, tiled, CutsTree, no_cuts, cuts_none, cuts_at, RuleTree}
use Rattle.pec_text.specs.Spelling.{word_text}
use Rattle.program_reader.specs.RuleTokens.{kind_word, region_word}
use Rattle.rule_printer.specs.CanonicalText.{in_block, stmts_bytes}

-- names, each behind a space
abbrev pub spaced : List (List ℕ) → List ℕ
spaced names = flat_map (λ x. codes " " ++ x) names

abbrev pub declaration_bytes : Declaration → List ℕ
declaration_bytes d = word_text (kind_word d.kind) ++ (codes " " ++ (d.first ++ (spaced d.others ++ codes ";\n")))

abbrev pub condition_bytes : ConditionTree → List ℕ
condition_bytes (keeps x y) = codes "keeps " ++ (x ++ (codes " " ++ y))
condition_bytes (ignores x y) = codes "ignores " ++ (x ++ (codes " " ++ y))
condition_bytes (commutes x y) = codes "commutes " ++ (x ++ (codes " " ++ y))
condition_bytes (positive x) = codes "positive " ++ x
condition_bytes (constant x) = codes "constant " ++ x
condition_bytes (distinct x y) = codes "distinct " ++ (x ++ (codes " " ++ y))
condition_bytes (quiet x) = codes "quiet " ++ x
condition_bytes (swaps_over_1 x y k region) = codes "swaps " ++ (x ++ (codes " " ++ (y ++ (codes " over " ++ (k ++ (codes " " ++ region_word region))))))
condition_bytes (swaps_over_2 x y k l region) = codes "swaps " ++ (x ++ (codes " " ++ (y ++ (codes " over " ++ (k ++ (codes ", " ++ (l ++ (codes " " ++ region_word region))))))))

abbrev pub given_bytes : ConditionTree → List ℕ
given_bytes c = codes "given " ++ (condition_bytes c ++ codes ";\n")

abbrev pub method_bytes : MethodTree → List ℕ
method_bytes no_method = []
method_bytes simulated = codes "method simulate;\n"
method_bytes permuted = codes "method permute;\n"
method_bytes chained = codes "method chain;\n"
method_bytes tiled = codes "method tile;\n"

abbrev pub pair_bytes : ℕ × ℕ → List ℕ
pair_bytes a = decimal a.0 ++ (codes " " ++ decimal a.1)

abbrev pub cuts_bytes : CutsTree → List ℕ
cuts_bytes no_cuts = []
cuts_bytes cuts_none = codes "cuts none;\n"
cuts_bytes (cuts_at a more) = codes "cuts " ++ (pair_bytes a ++ (flat_map (λ b. codes ", " ++ pair_bytes b) more ++ codes ";\n"))

-- a side in braces, on a line of its own or on several
abbrev pub side_bytes : StmtsTree → List ℕ
side_bytes side = in_block 0 (stmts_bytes 1 side) ++ codes "\n"

abbrev pub rule_bytes : RuleTree → List ℕ
rule_bytes tree =
    flat_map declaration_bytes tree.declarations
    ++ (flat_map given_bytes tree.conditions
    ++ (method_bytes tree.method
    ++ (cuts_bytes tree.cuts
    ++ (codes "left " ++ (side_bytes tree.left
    ++ (codes "right " ++ side_bytes tree.right))))))
