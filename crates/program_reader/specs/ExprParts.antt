-- Parts of the reading of expressions: the signs between terms, and how one index is read. In an expression an index
-- shares that one's operators, and in a written place it has its own.
use Rattle.std.specs.Prelude.{ℕ, List, ◌∷◌, Option, None, Some}
use Rattle.toy_imp.specs.declared.param.Param.{Param}
use Rattle.toy_imp.specs.Expr.{Expr, add, sub}
use Rattle.pec_text.specs.declared.token.Sign.{Sign}
use Rattle.pec_text.specs.declared.token.Sign.TheVariants as s
use Rattle.pec_text.specs.declared.token.Token.{Token}
use Rattle.pec_text.specs.declared.token.Token.TheVariants as t
use Rattle.program_reader.specs.Read.{Read}
use Rattle.program_reader.specs.ExprReading.{expr_read}
use Rattle.program_reader.specs.BlockReading.{index_apart}
use Rattle.program_reader.specs.declared.expr_reading.Operators.{Operators}
use Rattle.program_reader.specs.declared.expr_reading.Operators.TheVariants.{Shared, Apart}

-- the sign between two terms, and the tokens behind it
abbrev pub sum_sign : List Token → Option (Sign × List Token)
sum_sign (t.Sign s.Plus ∷ rest) = Some (s.Plus, rest)
sum_sign (t.Sign s.Minus ∷ rest) = Some (s.Minus, rest)
sum_sign _ = None

-- two terms with this sign between them
abbrev pub joined : Sign → Expr → Expr → Expr
joined s.Plus a b = add a b
joined _ a b = sub a b

-- one index, inside brackets with fewer than d levels
abbrev pub index_read : Operators → List Param → ℕ → ℕ → List Token → Read Expr
index_read Shared ps d = λ k rest. expr_read ps d k rest
index_read Apart ps d = λ k rest. index_apart ps d k rest
