-- How a rule is read: its declarations, by which all that follows is read, its conditions, method and cuts, and its two
-- sides, with nothing behind them. That what is read has a derivation tree, and that each tree is read, are theorems.
use Rattle.std.specs.Prelude.{ℕ, List, [], ◌∷◌, Option, None, Some}
use Rattle.toy_imp.specs.declared.param.Param.{Param}
use Rattle.toy_imp.specs.Block.{Block}
use Rattle.pec_text.specs.declared.token.Token.{Token}
use Rattle.pec_text.specs.declared.token.Token.TheVariants as t
use Rattle.pec_text.specs.declared.token.Word.TheVariants as w
use Rattle.program_reader.specs.Read.{ReadStmt, and_next}
use Rattle.program_reader.specs.BlockReading.{block_read, stmts_read}
use Rattle.rule_reader.specs.Front.{valued}
use Rattle.rule_reader.specs.DeclarationReading.{params_read}
use Rattle.rule_reader.specs.ConditionReading.{conditions_read}
use Rattle.rule_reader.specs.CutReading.{method_read, cuts_read, cut_line}
use Rattle.rule_reader.specs.declared.rule_parts.Head.{Head}
use Rattle.rule_reader.specs.declared.rule_parts.Sides.{Sides}
use Rattle.rule_reader.specs.declared.rule_parts.WrittenRule.{WrittenRule}

-- what stands between the declarations and the sides
unfoldable pub head_read : List Param → List Token → ReadStmt Head
head_read ps tokens =
    and_next (conditions_read ps tokens) (λ cs rest.
    and_next (method_read rest) (λ m rest.
    and_next (cuts_read rest) (λ c rest.
    Some (record { conditions = cs; method = m; line = cut_line c }, rest))))

-- a block of at most 64 levels, the block itself among them
abbrev pub side_block : List Param → List Token → ReadStmt Block
side_block ps tokens = block_read ps 64 (λ rest. stmts_read ps 64 rest) tokens

unfoldable pub left_read : List Param → List Token → ReadStmt Block
left_read ps (t.Word w.Left ∷ rest) = side_block ps rest
left_read ps _ = None

unfoldable pub right_read : List Param → List Token → ReadStmt Block
right_read ps (t.Word w.Right ∷ rest) = side_block ps rest
right_read ps _ = None

unfoldable pub sides_read : List Param → List Token → ReadStmt Sides
sides_read ps tokens = and_next (left_read ps tokens) (λ l rest. and_next (right_read ps rest) (λ r rest. Some (record { left = l; right = r }, rest)))

-- what is read behind the declarations
unfoldable pub parts_read : List Param → List Token → ReadStmt (Head × Sides)
parts_read ps tokens = and_next (head_read ps tokens) (λ head rest. and_next (sides_read ps rest) (λ sides rest. Some ((head, sides), rest)))

-- the rule of these parts, and whether a number in its cuts is too great
abbrev pub written : List ℕ → List Param → Head × Sides → WrittenRule
written title ps parts = record {
  rule = record {
    title = title;
    params = ps;
    conditions = parts.0.conditions;
    method = parts.0.method;
    cuts = parts.0.line.cuts;
    left = parts.1.left;
    right = parts.1.right;
  };
  is_beyond = parts.0.line.is_beyond;
}

-- what is read of all tokens
abbrev pub all_of : {A : Type 0} → ReadStmt A → Option A
all_of (Some (a, [])) = Some a
all_of _ = None

-- the parameters of a rule and its other parts
unfoldable pub all_parts : List Token → ReadStmt (List Param × (Head × Sides))
all_parts tokens = and_next (params_read tokens) (λ ps rest. and_next (parts_read ps rest) (λ parts rest. Some ((ps, parts), rest)))

-- the rule of these tokens, with this title
unfoldable pub rule_read : List ℕ → List Token → Option WrittenRule
rule_read title tokens = all_of (valued (λ p. written title p.0 p.1) (all_parts tokens))
