-- How the method and the cuts of a rule are read from the front of tokens. A numeral of 2 ^ 63 or more counts as 2 ^ 63,
-- which is too great for a point as well.
use Rattle.std.specs.Prelude.{ℕ, ◌^◌, ◌||◌, Bool, true, false, nat_lt, nat_le, List, [], ◌∷◌, length, codes, bytes_eq, Option, None, Some, if◌then◌else◌}
use Rattle.std.specs.List.{list_any}
use Rattle.toy_imp.specs.declared.rule.Method.{Method}
use Rattle.toy_imp.specs.declared.rule.Method.TheVariants as method
use Rattle.toy_imp.specs.RuleGrammar.{CutsTree, no_cuts, cuts_none, cuts_at, cuts_value, cut_pairs}
use Rattle.pec_text.specs.declared.token.Numeral.{Numeral}
use Rattle.pec_text.specs.declared.token.Numeral.TheVariants as n
use Rattle.pec_text.specs.declared.token.Sign.TheVariants as s
use Rattle.pec_text.specs.declared.token.Token.{Token}
use Rattle.pec_text.specs.declared.token.Token.TheVariants as t
use Rattle.pec_text.specs.declared.token.Word.TheVariants as w
use Rattle.program_reader.specs.Read.{ReadStmt, and_next}
use Rattle.rule_reader.specs.Front.{valued, name_read, at_semicolon, items_read}
use Rattle.rule_reader.specs.ConditionReading.{where_some}
use Rattle.rule_reader.specs.declared.cut_lines.CutLine.{CutLine}

-- ---- the method
abbrev pub method_of : List ℕ → Option Method
method_of word =
    if bytes_eq word (codes "simulate") then Some method.Simulate
    else if bytes_eq word (codes "permute") then Some method.Permute
    else if bytes_eq word (codes "chain") then Some method.Chain
    else if bytes_eq word (codes "tile") then Some method.Tile
    else None

-- what follows the word `method`
unfoldable pub named_method_read : List Token → ReadStmt Method
named_method_read tokens = and_next (name_read tokens) (λ x rest. and_next (where_some (method_of x) rest) (λ m rest. at_semicolon m rest))

unfoldable pub method_read : List Token → ReadStmt Method
method_read (t.Word w.Method ∷ rest) = named_method_read rest
method_read rest = Some (method.Simulate, rest)

-- ---- the cuts
abbrev pub numeral_number : Numeral → Option ℕ
numeral_number (n.Value m) = if nat_lt m (2 ^ 63) then Some m else None
numeral_number n.Wide = Some (2 ^ 63)

abbrev pub number_read : List Token → ReadStmt ℕ
number_read (t.Number m ∷ rest) = where_some (numeral_number m) rest
number_read _ = None

unfoldable pub pair_read : List Token → ReadStmt (ℕ × ℕ)
pair_read tokens = and_next (number_read tokens) (λ a rest. and_next (number_read rest) (λ b rest. Some ((a, b), rest)))

abbrev pub is_comma : List Token → Bool
is_comma (t.Sign s.Comma ∷ rest) = true
is_comma _ = false

-- a comma and a pair
unfoldable pub next_pair_read : List Token → ReadStmt (List (ℕ × ℕ))
next_pair_read (t.Sign s.Comma ∷ rest) = valued (λ a. a ∷ []) (pair_read rest)
next_pair_read _ = None

-- the pairs behind the first one
unfoldable pub pairs_read : List Token → ReadStmt (List (ℕ × ℕ))
pairs_read tokens = items_read is_comma next_pair_read (length tokens) tokens

-- one pair or more, up to the semicolon
abbrev pub first_pair_read : List Token → ReadStmt CutsTree
first_pair_read tokens = and_next (pair_read tokens) (λ a rest. and_next (pairs_read rest) (λ more rest. at_semicolon (cuts_at a more) rest))

-- what follows the word `cuts`
unfoldable pub listed_cuts_read : List Token → ReadStmt CutsTree
listed_cuts_read (t.Word w.None ∷ rest) = at_semicolon cuts_none rest
listed_cuts_read rest = first_pair_read rest

unfoldable pub cuts_read : List Token → ReadStmt CutsTree
cuts_read (t.Word w.Cuts ∷ rest) = listed_cuts_read rest
cuts_read rest = Some (no_cuts, rest)

-- whether a number of a pair is too great
abbrev pub is_beyond : ℕ × ℕ → Bool
is_beyond a = nat_le (2 ^ 32) a.0 || nat_le (2 ^ 32) a.1

-- the cuts that a tree stands for, and whether a number in it is too great
abbrev pub cut_line : CutsTree → CutLine
cut_line c = record { cuts = cuts_value c; is_beyond = list_any is_beyond (cut_pairs c) }
