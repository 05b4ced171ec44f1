-- The text of the parts of a rule as they are written one after another: declarations by parameter, and what a `swaps`
-- condition lists.
use Rattle.std.specs.Prelude.{ℕ, List, [], ◌∷◌, ◌++◌, codes, if◌then◌else◌}
use Rattle.toy_imp.specs.declared.param.Kind.{Kind}
use Rattle.toy_imp.specs.declared.param.Param.{Param}
use Rattle.toy_imp.specs.ExprCanonical.{declared_name}
use Rattle.toy_imp.specs.Faults.{kind_is}
use Rattle.pec_text.specs.Spelling.{word_text}
use Rattle.program_reader.specs.RuleTokens.{kind_word}

-- a parameter that begins a declaration
abbrev pub first_bytes : Param → List ℕ
first_bytes p = word_text (kind_word p.kind) ++ (codes " " ++ p.name)

-- a parameter behind one of this kind: in its declaration where it is of that kind too, else in the next one
abbrev pub next_bytes : Kind → Param → List ℕ
next_bytes k p = if kind_is k p.kind then codes " " ++ p.name else codes ";\n" ++ first_bytes p

-- the parameters behind one of this kind, up to the end of the last declaration
abbrev pub declared_after : Kind → List Param → List ℕ
declared_after k [] = codes ";\n"
declared_after k (p ∷ ps) = next_bytes k p ++ declared_after p.kind ps

-- the names that a `swaps` condition lists
abbrev pub over_bytes : List Param → List ℕ → List ℕ
over_bytes ps [] = []
over_bytes ps (k ∷ []) = declared_name ps k
over_bytes ps (k ∷ l ∷ more) = declared_name ps k ++ (codes ", " ++ declared_name ps l)
