-- The own names of what a text says are names of the text: each stands in it as a token.
use Rattle.std.proofs.Common.{ℕ, Bool, true, false, cond, List, [], ◌∷◌, ◌++◌, length, Option, None, Some, nat_lt, sym, subst}
use Rattle.toy_imp.specs.declared.name.Name.TheVariants.{Own, Par}
use Rattle.toy_imp.specs.declared.param.Kind.{Kind}
use Rattle.toy_imp.specs.declared.param.Kind.TheVariants as kind
use Rattle.toy_imp.specs.declared.param.Param.{Param}
use Rattle.toy_imp.specs.Expr.{Exprs, no_exprs, expr}
use Rattle.toy_imp.specs.Parameters.{number_of, kind_of, name_value, cell_by}
use Rattle.toy_imp.specs.ExprGrammar.{ExprTree, term, plus, minus, TermTree, factor, times, FactorTree, numeral, negative, cell, group, PlaceTree, variable, index_1, index_2, index_3, place_name, expr_value, term_value, factor_value, indices_value}
use Rattle.toy_imp.specs.TestGrammar.{TestTree, both, either, BothTree, one, also, OneTree, negated, bracketed, named_test, below, at_most, same, test_tree_value, both_value, one_value}
use Rattle.toy_imp.specs.BlockGrammar.{StmtTree, skipped, written, asserted, chosen, repeated, counted, bound, named_stmt, StmtsTree, no_stmts, stmts, stmt_tree_value, stmts_value}
use Rattle.pec_text.specs.Spelling.{Spells, IsName}
use Rattle.pec_text.specs.declared.token.Sign.TheVariants as s
use Rattle.pec_text.specs.declared.token.Token.{Token}
use Rattle.pec_text.specs.declared.token.Token.TheVariants as t
use Rattle.pec_text.specs.declared.token.Word.TheVariants as w
use Rattle.program_reader.specs.TreeTokens.{expr_tokens, term_tokens, factor_tokens, place_tokens, test_tokens, both_tokens, one_tokens, in_braces, stmt_tokens, stmts_tokens}
use Rattle.program_reader.specs.OwnNames.{NameIs, ExprNamesAre, ExprsNamesAre, TestNamesAre, StmtNamesAre, BlockNamesAre}

-- ---- names among tokens
abbrev pub NamesAre : (List ℕ → Type 0) → List Token → Type 0
NamesAre P [] = Unit {0}
NamesAre P (t.Name x ∷ rest) = P x × NamesAre P rest
NamesAre P (t.Word x ∷ rest) = NamesAre P rest
NamesAre P (t.Number x ∷ rest) = NamesAre P rest
NamesAre P (t.Sign x ∷ rest) = NamesAre P rest

pub front : (P : List ℕ → Type 0) (a b : List Token) → NamesAre P (a ++ b) → NamesAre P a
front P [] b h = tt
front P (t.Name x ∷ a) b h = (h.0, front P a b h.1)
front P (t.Word x ∷ a) b h = front P a b h
front P (t.Number x ∷ a) b h = front P a b h
front P (t.Sign x ∷ a) b h = front P a b h

pub back : (P : List ℕ → Type 0) (a b : List Token) → NamesAre P (a ++ b) → NamesAre P b
back P [] b h = h
back P (t.Name x ∷ a) b h = back P a b h.1
back P (t.Word x ∷ a) b h = back P a b h
back P (t.Number x ∷ a) b h = back P a b h
back P (t.Sign x ∷ a) b h = back P a b h

-- tokens that bytes spell have names that are IDs and no reserved words
pub spelled_names : (bytes : List ℕ) (tokens : List Token) → Spells bytes tokens → NamesAre IsName tokens
spelled_names bytes [] h = tt
spelled_names bytes (t.Name x ∷ rest) (behind, begins, more) = (subst IsName (sym (begins.is_lexeme.1)) (begins.is_lexeme.0), spelled_names behind rest more)
spelled_names bytes (t.Word x ∷ rest) (behind, begins, more) = spelled_names behind rest more
spelled_names bytes (t.Number x ∷ rest) (behind, begins, more) = spelled_names behind rest more
spelled_names bytes (t.Sign x ∷ rest) (behind, begins, more) = spelled_names behind rest more

-- ---- names of values
name_by : (P : List ℕ → Type 0) (k : ℕ) (x : List ℕ) (b : Bool) → P x → NameIs P (cond b (Par k) (Own x))
name_by P k x true h = tt
name_by P k x false h = h

name_names : (P : List ℕ → Type 0) (ps : List Param) (x : List ℕ) → P x → NameIs P (name_value ps x)
name_names P ps x h = name_by P (number_of ps x) x (nat_lt (number_of ps x) (length ps)) h

cell_names : (o : Option Kind) (P : List ℕ → Type 0) (ps : List Param) (x : List ℕ) (es : Exprs) → P x → ExprsNamesAre P es → ExprNamesAre P (cell_by o ps x es)
cell_names None P ps x no_exprs h g = (name_names P ps x h, tt)
cell_names (Some kind.Name) P ps x no_exprs h g = (name_names P ps x h, tt)
cell_names (Some kind.Expr) P ps x no_exprs h g = tt
cell_names (Some kind.Test) P ps x no_exprs h g = (name_names P ps x h, tt)
cell_names (Some kind.Stmt) P ps x no_exprs h g = (name_names P ps x h, tt)
cell_names None P ps x (expr a es) h g = (name_names P ps x h, g)
cell_names (Some kind.Name) P ps x (expr a es) h g = (name_names P ps x h, g)
cell_names (Some kind.Expr) P ps x (expr a es) h g = (name_names P ps x h, g)
cell_names (Some kind.Test) P ps x (expr a es) h g = (name_names P ps x h, g)
cell_names (Some kind.Stmt) P ps x (expr a es) h g = (name_names P ps x h, g)

-- ---- names of what trees of expressions say
mutual
  pub expr_names : (P : List ℕ → Type 0) (ps : List Param) (a : ExprTree) → NamesAre P (expr_tokens a) → ExprNamesAre P (expr_value ps a)
  expr_names P ps (term a) h = term_names P ps a h
  expr_names P ps (plus a b) h = (expr_names P ps a (front P (expr_tokens a) (t.Sign s.Plus ∷ term_tokens b) h), term_names P ps b (back P (expr_tokens a) (t.Sign s.Plus ∷ term_tokens b) h))
  expr_names P ps (minus a b) h = (expr_names P ps a (front P (expr_tokens a) (t.Sign s.Minus ∷ term_tokens b) h), term_names P ps b (back P (expr_tokens a) (t.Sign s.Minus ∷ term_tokens b) h))

  term_names : (P : List ℕ → Type 0) (ps : List Param) (a : TermTree) → NamesAre P (term_tokens a) → ExprNamesAre P (term_value ps a)
  term_names P ps (factor a) h = factor_names P ps a h
  term_names P ps (times a b) h = (term_names P ps a (front P (term_tokens a) (t.Sign s.Star ∷ factor_tokens b) h), factor_names P ps b (back P (term_tokens a) (t.Sign s.Star ∷ factor_tokens b) h))

  factor_names : (P : List ℕ → Type 0) (ps : List Param) (a : FactorTree) → NamesAre P (factor_tokens a) → ExprNamesAre P (factor_value ps a)
  factor_names P ps (numeral n) h = tt
  factor_names P ps (negative n) h = tt
  factor_names P ps (cell a) h = cell_names (kind_of ps (place_name a)) P ps (place_name a) (indices_value ps a) (place_named P a h) (indices_names P ps a h)
  factor_names P ps (group a) h = expr_names P ps a (front P (expr_tokens a) (t.Sign s.CloseParen ∷ []) h)

  place_named : (P : List ℕ → Type 0) (a : PlaceTree) → NamesAre P (place_tokens a) → P (place_name a)
  place_named P (variable x) h = h.0
  place_named P (index_1 x a) h = h.0
  place_named P (index_2 x a b) h = h.0
  place_named P (index_3 x a b c) h = h.0

  indices_names : (P : List ℕ → Type 0) (ps : List Param) (a : PlaceTree) → NamesAre P (place_tokens a) → ExprsNamesAre P (indices_value ps a)
  indices_names P ps (variable x) h = tt
  indices_names P ps (index_1 x a) h = (expr_names P ps a (front P (expr_tokens a) (t.Sign s.CloseBracket ∷ []) h.1), tt)
  indices_names P ps (index_2 x a b) h =
      let behind : NamesAre P (expr_tokens b ++ (t.Sign s.CloseBracket ∷ [])) = back P (expr_tokens a) (t.Sign s.Comma ∷ (expr_tokens b ++ (t.Sign s.CloseBracket ∷ []))) h.1 in
      (expr_names P ps a (front P (expr_tokens a) (t.Sign s.Comma ∷ (expr_tokens b ++ (t.Sign s.CloseBracket ∷ []))) h.1), (expr_names P ps b (front P (expr_tokens b) (t.Sign s.CloseBracket ∷ []) behind), tt))
  indices_names P ps (index_3 x a b c) h =
      let behind : NamesAre P (expr_tokens b ++ (t.Sign s.Comma ∷ (expr_tokens c ++ (t.Sign s.CloseBracket ∷ [])))) =
      back P (expr_tokens a) (t.Sign s.Comma ∷ (expr_tokens b ++ (t.Sign s.Comma ∷ (expr_tokens c ++ (t.Sign s.CloseBracket ∷ []))))) h.1 in
      let last : NamesAre P (expr_tokens c ++ (t.Sign s.CloseBracket ∷ [])) = back P (expr_tokens b) (t.Sign s.Comma ∷ (expr_tokens c ++ (t.Sign s.CloseBracket ∷ []))) behind in (
        expr_names P ps a (front P (expr_tokens a) (t.Sign s.Comma ∷ (expr_tokens b ++ (t.Sign s.Comma ∷ (expr_tokens c ++ (t.Sign s.CloseBracket ∷ []))))) h.1),
        (
          expr_names P ps b (front P (expr_tokens b) (t.Sign s.Comma ∷ (expr_tokens c ++ (t.Sign s.CloseBracket ∷ []))) behind),
          (expr_names P ps c (front P (expr_tokens c) (t.Sign s.CloseBracket ∷ []) last), tt),
        ),
      )

-- ---- of tests
two_names : (P : List ℕ → Type 0) (ps : List Param) (a b : ExprTree) (middle : Token) → NamesAre P (expr_tokens a ++ (middle ∷ expr_tokens b)) → (NamesAre P (middle ∷ expr_tokens b) → NamesAre P (expr_tokens b))
    → ExprNamesAre P (expr_value ps a) × ExprNamesAre P (expr_value ps b)
two_names P ps a b middle h past = (expr_names P ps a (front P (expr_tokens a) (middle ∷ expr_tokens b) h), expr_names P ps b (past (back P (expr_tokens a) (middle ∷ expr_tokens b) h)))

mutual
  pub test_names : (P : List ℕ → Type 0) (ps : List Param) (a : TestTree) → NamesAre P (test_tokens a) → TestNamesAre P (test_tree_value ps a)
  test_names P ps (both a) h = both_names P ps a h
  test_names P ps (either a b) h = (test_names P ps a (front P (test_tokens a) (t.Word w.Or ∷ both_tokens b) h), both_names P ps b (back P (test_tokens a) (t.Word w.Or ∷ both_tokens b) h))

  both_names : (P : List ℕ → Type 0) (ps : List Param) (a : BothTree) → NamesAre P (both_tokens a) → TestNamesAre P (both_value ps a)
  both_names P ps (one a) h = one_names P ps a h
  both_names P ps (also a b) h = (both_names P ps a (front P (both_tokens a) (t.Word w.And ∷ one_tokens b) h), one_names P ps b (back P (both_tokens a) (t.Word w.And ∷ one_tokens b) h))

  one_names : (P : List ℕ → Type 0) (ps : List Param) (a : OneTree) → NamesAre P (one_tokens a) → TestNamesAre P (one_value ps a)
  one_names P ps (negated a) h = one_names P ps a h
  one_names P ps (bracketed a) h = test_names P ps a (front P (test_tokens a) (t.Sign s.CloseBracket ∷ []) h)
  one_names P ps (named_test x) h = tt
  one_names P ps (below a b) h = two_names P ps a b (t.Sign s.Less) h (λ g. g)
  one_names P ps (at_most a b) h = two_names P ps a b (t.Sign s.LessEq) h (λ g. g)
  one_names P ps (same a b) h = two_names P ps a b (t.Sign s.DoubleEquals) h (λ g. g)

-- ---- of statements
pub inside : (P : List ℕ → Type 0) (tokens rest : List Token) → NamesAre P (in_braces tokens ++ rest) → NamesAre P tokens
inside P tokens rest h = front P tokens (t.Sign s.CloseBrace ∷ []) (front P (tokens ++ (t.Sign s.CloseBrace ∷ [])) rest h)

pub within : (P : List ℕ → Type 0) (tokens : List Token) → NamesAre P (in_braces tokens) → NamesAre P tokens
within P tokens h = front P tokens (t.Sign s.CloseBrace ∷ []) h

mutual
  stmt_names : (P : List ℕ → Type 0) (ps : List Param) (a : StmtTree) → NamesAre P (stmt_tokens a) → StmtNamesAre P (stmt_tree_value ps a)
  stmt_names P ps skipped h = tt
  stmt_names P ps (written a e) h =
      let place : NamesAre P (place_tokens a) = front P (place_tokens a) (t.Sign s.Assign ∷ (expr_tokens e ++ (t.Sign s.Semicolon ∷ []))) h in
      let behind : NamesAre P (expr_tokens e ++ (t.Sign s.Semicolon ∷ [])) = back P (place_tokens a) (t.Sign s.Assign ∷ (expr_tokens e ++ (t.Sign s.Semicolon ∷ []))) h in
      (name_names P ps (place_name a) (place_named P a place), indices_names P ps a place, expr_names P ps e (front P (expr_tokens e) (t.Sign s.Semicolon ∷ []) behind))
  stmt_names P ps (asserted q) h = test_names P ps q (front P (test_tokens q) (t.Sign s.Semicolon ∷ []) h)
  stmt_names P ps (chosen q b c) h =
      let behind : NamesAre P (in_braces (stmts_tokens b) ++ (t.Word w.Else ∷ in_braces (stmts_tokens c))) = back P (test_tokens q) (in_braces (stmts_tokens b) ++ (t.Word w.Else ∷ in_braces (stmts_tokens c))) h in
      let last : NamesAre P (in_braces (stmts_tokens c)) = back P (in_braces (stmts_tokens b)) (t.Word w.Else ∷ in_braces (stmts_tokens c)) behind in (
        test_names P ps q (front P (test_tokens q) (in_braces (stmts_tokens b) ++ (t.Word w.Else ∷ in_braces (stmts_tokens c))) h),
        stmts_names P ps b (inside P (stmts_tokens b) (t.Word w.Else ∷ in_braces (stmts_tokens c)) behind),
        stmts_names P ps c (within P (stmts_tokens c) last),
      )
  stmt_names P ps (repeated q b) h =
      (test_names P ps q (front P (test_tokens q) (in_braces (stmts_tokens b)) h), stmts_names P ps b (within P (stmts_tokens b) (back P (test_tokens q) (in_braces (stmts_tokens b)) h)))
  stmt_names P ps (counted x lo hi b) h =
      let behind : NamesAre P (expr_tokens hi ++ in_braces (stmts_tokens b)) = back P (expr_tokens lo) (t.Word w.To ∷ (expr_tokens hi ++ in_braces (stmts_tokens b))) h.1 in (
        name_names P ps x h.0,
        expr_names P ps lo (front P (expr_tokens lo) (t.Word w.To ∷ (expr_tokens hi ++ in_braces (stmts_tokens b))) h.1),
        expr_names P ps hi (front P (expr_tokens hi) (in_braces (stmts_tokens b)) behind),
        stmts_names P ps b (within P (stmts_tokens b) (back P (expr_tokens hi) (in_braces (stmts_tokens b)) behind)),
      )
  stmt_names P ps (bound x e b) h =
      (name_names P ps x h.0, expr_names P ps e (front P (expr_tokens e) (in_braces (stmts_tokens b)) h.1), stmts_names P ps b (within P (stmts_tokens b) (back P (expr_tokens e) (in_braces (stmts_tokens b)) h.1)))
  stmt_names P ps (named_stmt x) h = tt

  pub stmts_names : (P : List ℕ → Type 0) (ps : List Param) (a : StmtsTree) → NamesAre P (stmts_tokens a) → BlockNamesAre P (stmts_value ps a)
  stmts_names P ps no_stmts h = tt
  stmts_names P ps (stmts a more) h = (stmt_names P ps a (front P (stmt_tokens a) (stmts_tokens more) h), stmts_names P ps more (back P (stmt_tokens a) (stmts_tokens more) h))
