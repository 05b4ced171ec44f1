-- What is read from the front of tokens. A part of an expression or test is read with a number of operators that may still
-- come, and leaves what is left of it; a statement is read without.
use Rattle.std.specs.Prelude.{ℕ, List, Option, None, Some, pos, negsuc, suc, zero, ◌-◌, ◌^◌, nat_lt, ℤ, if◌then◌else◌}
use Rattle.toy_imp.specs.ExprGrammar.{widest}
use Rattle.pec_text.specs.declared.token.Numeral.{Numeral}
use Rattle.pec_text.specs.declared.token.Numeral.TheVariants as n
use Rattle.pec_text.specs.declared.token.Token.{Token}

-- a value, how many operators may still come, and the tokens that are left
abbrev pub Read : Type 0 → Type 0
Read A = Option (A × ℕ × List Token)

abbrev pub and_then : {A B : Type 0} → Read A → (A → ℕ → List Token → Read B) → Read B
and_then None f = None
and_then (Some p) f = f p.0 p.1 p.2

-- a value and the tokens that are left
abbrev pub ReadStmt : Type 0 → Type 0
ReadStmt A = Option (A × List Token)

abbrev pub and_next : {A B : Type 0} → ReadStmt A → (A → List Token → ReadStmt B) → ReadStmt B
and_next None f = None
and_next (Some p) f = f p.0 p.1

-- an expression or test that is part of no other may have this many operators
abbrev pub most_operators : ℕ
most_operators = 4096

-- what is read with that many operators
abbrev pub alone : {A : Type 0} → Read A → ReadStmt A
alone None = None
alone (Some p) = Some (p.0, p.2)

-- The constant of a numeral, and of one behind its sign, of which `- 0` is none. A wide one counts as the widest constant,
-- and what is no numeral of a text is none.
abbrev pub constant_of : Numeral → Option ℤ
constant_of (n.Value m) = if nat_lt m (2 ^ 63) then Some (pos m) else None
constant_of n.Wide = Some (pos widest)

abbrev pub negative_of : Numeral → Option ℤ
negative_of (n.Value zero) = None
negative_of (n.Value (suc m)) = if nat_lt (suc m) (2 ^ 63) then Some (negsuc m) else None
negative_of n.Wide = Some (negsuc (widest - 1))
