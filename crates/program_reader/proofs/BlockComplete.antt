-- The tokens of a derivation tree of statements are read as its value where the end or a closing brace follows, and those
-- of a block wherever it stands. Each statement has a token, so the tokens' number is enough turns.
use Rattle.std.proofs.Common.{◌≡◌, ℕ, zero, suc, ◌+◌, ◌-◌, ◌<◌, ◌≤◌, max, true, false, List, [], ◌∷◌, ◌++◌, cond, length, Some, ◌∙◌, ap, refl, append_assoc, length-append, arith}
use Rattle.toy_imp.specs.declared.param.Param.{Param}
use Rattle.toy_imp.specs.Expr.{Expr}
use Rattle.toy_imp.specs.ExprView.{exprs_of}
use Rattle.toy_imp.specs.Test.{Test}
use Rattle.toy_imp.specs.Block.{put, assert_that, if_then, while_do, for_to, let_in, Block, empty, stmt}
use Rattle.toy_imp.specs.ExprGrammar.{ExprTree, PlaceTree, variable, index_1, index_2, index_3, place_name, expr_value, expr_levels, expr_operators, index_operators, place_levels}
use Rattle.toy_imp.specs.TestGrammar.{TestTree, test_tree_value, test_levels, test_operators}
use Rattle.toy_imp.specs.BlockGrammar.{StmtTree, skipped, written, asserted, chosen, repeated, counted, bound, named_stmt, StmtsTree, no_stmts, stmts, stmt_tree_value, stmts_value, stmt_levels, stmts_levels, stmt_operators, stmts_operators}
use Rattle.toy_imp.specs.Parameters.{name_value}
use Rattle.pec_text.specs.declared.token.Sign.TheVariants as s
use Rattle.pec_text.specs.declared.token.Token.{Token}
use Rattle.pec_text.specs.declared.token.Token.TheVariants as t
use Rattle.pec_text.specs.declared.token.Word.TheVariants as w
use Rattle.program_reader.specs.Read.{and_then, ReadStmt, and_next, alone, most_operators}
use Rattle.program_reader.specs.TreeTokens.{expr_tokens, place_tokens, test_tokens, in_braces, stmt_tokens, stmts_tokens}
use Rattle.program_reader.specs.BlockReading.{expr_alone, test_alone, index_apart, written_indices, brace_closed, ended, is_end, block_read, assigned_read, else_read, to_read, stmt_read, many_read, stmts_read}
use Rattle.program_reader.proofs.ExprSound.{place_counts}
use Rattle.program_reader.proofs.ExprComplete.{continues_factor, continues_expr, expr_reads, bracket_tokens, index_values, place_tokens_are, index_values_are, brackets_are_read}
use Rattle.program_reader.proofs.TestComplete.{continues_test, test_reads}
use Rattle.program_reader.proofs.BlockSound.{apart}

-- ---- expressions, tests and written places that are part of no other
expr_alone_reads : (ps : List Param) (d : ℕ) (a : ExprTree) (rest : List Token) → expr_levels a ≤ d → expr_operators a ≤ most_operators → continues_expr rest ≡ false
    → expr_alone ps d (expr_tokens a ++ rest) ≡ Some (expr_value ps a, rest)
unfolding expr_alone
expr_alone_reads ps d a rest low few ends =
    let left : ℕ = most_operators - expr_operators a in
    let all : most_operators ≡ expr_operators a + left = omega arith in
    ap alone (expr_reads ps (suc d) a most_operators left rest (omega arith) all ends)

test_alone_reads : (ps : List Param) (d : ℕ) (a : TestTree) (rest : List Token) → test_levels a ≤ d → test_operators a ≤ most_operators → continues_test rest ≡ false
    → test_alone ps d (test_tokens a ++ rest) ≡ Some (test_tree_value ps a, rest)
unfolding test_alone
test_alone_reads ps d a rest low few ends =
    let left : ℕ = most_operators - test_operators a in
    let all : most_operators ≡ test_operators a + left = omega arith in
    ap alone (test_reads ps (suc d) a most_operators left rest (omega arith) all ends)

index_reads : (ps : List Param) (d : ℕ) (a : ExprTree) (k m : ℕ) (rest : List Token) → expr_levels a < d → apart k (expr_operators a) m → continues_expr rest ≡ false
    → index_apart ps d k (expr_tokens a ++ rest) ≡ Some (expr_value ps a, m, rest)
index_reads ps d a k m rest low c ends =
    let few : expr_operators a ≤ most_operators = c.0 in
    let left : ℕ = most_operators - expr_operators a in
    let all : most_operators ≡ expr_operators a + left = omega arith in
    ap (λ r. and_then r (λ e _ rest. Some (e, k, rest))) (expr_reads ps d a most_operators left rest low all ends) ∙ ap (λ z. Some (expr_value ps a, z, rest)) c.1

few_apart : (a : PlaceTree) → index_operators a ≤ most_operators → place_counts apart a 0 0
few_apart (variable x) h = refl
few_apart (index_1 x a) h = (h, refl)
few_apart (index_2 x a b) h =
    let first : expr_operators a ≤ most_operators = omega arith in
    let second : expr_operators b ≤ most_operators = omega arith in
    (0, (first, refl), (second, refl))
few_apart (index_3 x a b c) h =
    let first : expr_operators a ≤ most_operators = omega arith in
    let second : expr_operators b ≤ most_operators = omega arith in
    let third : expr_operators c ≤ most_operators = omega arith in
    (0, (first, refl), (0, (second, refl), (third, refl)))

written_reads : (ps : List Param) (d : ℕ) (a : PlaceTree) (rest : List Token) → place_levels a ≤ d → index_operators a ≤ most_operators → continues_factor rest ≡ false
    → written_indices ps d (bracket_tokens a ++ rest) ≡ Some (index_values ps a, rest)
unfolding written_indices
written_reads ps d a rest low few ends =
    ap alone (brackets_are_read apart ps d (index_apart ps d) (index_reads ps d) a 0 0 rest (omega arith) (few_apart a few) ends)

-- ---- the tokens of a statement, and what a statement begins with
-- the tokens of a written place's statement, behind which others stand
put_tokens : (a : PlaceTree) (e : ExprTree) (rest : List Token)
    → stmt_tokens (written a e) ++ rest ≡ t.Name (place_name a) ∷ (bracket_tokens a ++ (t.Sign s.Assign ∷ (expr_tokens e ++ (t.Sign s.Semicolon ∷ rest))))
put_tokens a e rest =
    append_assoc (place_tokens a) (t.Sign s.Assign ∷ (expr_tokens e ++ (t.Sign s.Semicolon ∷ []))) rest
    ∙ ap (λ z. place_tokens a ++ (t.Sign s.Assign ∷ z)) (append_assoc (expr_tokens e) (t.Sign s.Semicolon ∷ []) rest)
    ∙ ap (λ z. z ++ (t.Sign s.Assign ∷ (expr_tokens e ++ (t.Sign s.Semicolon ∷ rest)))) (place_tokens_are a)

-- statements begin with a token that ends nothing
goes_ahead : (a : StmtTree) (rest : List Token) → is_end (stmt_tokens a ++ rest) ≡ false
goes_ahead skipped rest = refl
goes_ahead (written a e) rest = ap is_end (put_tokens a e rest)
goes_ahead (asserted q) rest = refl
goes_ahead (chosen q b c) rest = refl
goes_ahead (repeated q b) rest = refl
goes_ahead (counted x lo hi b) rest = refl
goes_ahead (bound x e b) rest = refl
goes_ahead (named_stmt x) rest = refl

some_token : (a : StmtTree) → 0 < length (stmt_tokens a)
some_token skipped = omega arith
some_token (written a e) =
    let joined = length-append (place_tokens a) (t.Sign s.Assign ∷ (expr_tokens e ++ (t.Sign s.Semicolon ∷ []))) in
    omega arith
some_token (asserted q) = omega arith
some_token (chosen q b c) = omega arith
some_token (repeated q b) = omega arith
some_token (counted x lo hi b) = omega arith
some_token (bound x e b) = omega arith
some_token (named_stmt x) = omega arith

-- ---- blocks and statements
module _ (ps : List Param) (d e : ℕ) (inner : List Token → ReadStmt Block)
    (inner_reads : (a : StmtsTree) (rest : List Token) → stmts_levels a < d → stmts_operators a ≤ most_operators → is_end rest ≡ true
    → inner (stmts_tokens a ++ rest) ≡ Some (stmts_value ps a, rest)) where
  inside_reads : (a : StmtsTree) (rest : List Token) → stmts_levels a < d → stmts_operators a ≤ most_operators
      → block_read ps e inner (in_braces (stmts_tokens a) ++ rest) ≡ Some (stmts_value ps a, rest)
  unfolding block_read
  inside_reads a rest low few =
      ap (λ z. and_next (inner z) brace_closed) (append_assoc (stmts_tokens a) (t.Sign s.CloseBrace ∷ []) rest)
      ∙ ap (λ r. and_next r brace_closed) (inner_reads a (t.Sign s.CloseBrace ∷ rest) low few refl)

module _ (ps : List Param) (d : ℕ) (inner : List Token → ReadStmt Block)
    (inner_reads : (a : StmtsTree) (rest : List Token) → stmts_levels a < d → stmts_operators a ≤ most_operators → is_end rest ≡ true
    → inner (stmts_tokens a ++ rest) ≡ Some (stmts_value ps a, rest)) where
  block_is_read : (a : StmtsTree) (rest : List Token) → stmts_levels a < d → stmts_operators a ≤ most_operators
      → block_read ps d inner (in_braces (stmts_tokens a) ++ rest) ≡ Some (stmts_value ps a, rest)
  block_is_read a rest low few = inside_reads ps d d inner inner_reads a rest low few

  -- a name that no semicolon follows begins a written place
  place_begins : (a : PlaceTree) (rest : List Token) → stmt_read ps d inner (t.Name (place_name a) ∷ (bracket_tokens a ++ (t.Sign s.Assign ∷ rest)))
      ≡ and_next (written_indices ps d (bracket_tokens a ++ (t.Sign s.Assign ∷ rest))) (assigned_read ps d inner (place_name a))
  unfolding stmt_read
  place_begins (variable x) rest = refl
  place_begins (index_1 x a) rest = refl
  place_begins (index_2 x a b) rest = refl
  place_begins (index_3 x a b c) rest = refl

  right_reads : (x : List ℕ) (indices : List Expr) (e : ExprTree) (rest : List Token) → expr_levels e ≤ d → expr_operators e ≤ most_operators
      → assigned_read ps d inner x indices (t.Sign s.Assign ∷ (expr_tokens e ++ (t.Sign s.Semicolon ∷ rest))) ≡ Some (put (name_value ps x) (exprs_of indices) (expr_value ps e), rest)
  unfolding assigned_read
  right_reads x indices e rest low few =
      ap (λ r. and_next r (ended (put (name_value ps x) (exprs_of indices)))) (expr_alone_reads ps d e (t.Sign s.Semicolon ∷ rest) low few refl)

  put_reads : (a : PlaceTree) (e : ExprTree) (rest : List Token) → stmt_levels (written a e) ≤ d → stmt_operators (written a e) ≤ most_operators
      → stmt_read ps d inner (stmt_tokens (written a e) ++ rest) ≡ Some (stmt_tree_value ps (written a e), rest)
  put_reads a e rest low few =
      let behind : List Token = expr_tokens e ++ (t.Sign s.Semicolon ∷ rest) in
      ap (stmt_read ps d inner) (put_tokens a e rest)
      ∙ place_begins a behind
      ∙ ap (λ r. and_next r (assigned_read ps d inner (place_name a))) (written_reads ps d a (t.Sign s.Assign ∷ behind) (omega arith) (omega arith) refl)
      ∙ right_reads (place_name a) (index_values ps a) e rest (omega arith) (omega arith)
      ∙ ap (λ z. Some (put (name_value ps (place_name a)) z (expr_value ps e), rest)) (index_values_are ps a)

  asserted_reads : (q : TestTree) (rest : List Token) → stmt_levels (asserted q) ≤ d → stmt_operators (asserted q) ≤ most_operators
      → stmt_read ps d inner (stmt_tokens (asserted q) ++ rest) ≡ Some (stmt_tree_value ps (asserted q), rest)
  unfolding stmt_read
  asserted_reads q rest low few =
      ap (λ z. and_next (test_alone ps d z) (ended assert_that)) (append_assoc (test_tokens q) (t.Sign s.Semicolon ∷ []) rest)
      ∙ ap (λ r. and_next r (ended assert_that)) (test_alone_reads ps d q (t.Sign s.Semicolon ∷ rest) (omega arith) (omega arith) refl)

  else_reads : (q : Test) (b : Block) (c : StmtsTree) (rest : List Token) → stmts_levels c < d → stmts_operators c ≤ most_operators
      → else_read ps d inner q b (t.Word w.Else ∷ (in_braces (stmts_tokens c) ++ rest)) ≡ Some (if_then q b (stmts_value ps c), rest)
  unfolding else_read
  else_reads q b c rest low few = ap (λ r. and_next r (λ c rest. Some (if_then q b c, rest))) (block_is_read c rest low few)

  chosen_reads : (q : TestTree) (b c : StmtsTree) (rest : List Token) → stmt_levels (chosen q b c) ≤ d → stmt_operators (chosen q b c) ≤ most_operators
      → stmt_read ps d inner (stmt_tokens (chosen q b c) ++ rest) ≡ Some (stmt_tree_value ps (chosen q b c), rest)
  unfolding stmt_read
  chosen_reads q b c rest low few =
      let last : List Token = t.Word w.Else ∷ in_braces (stmts_tokens c) in
      ap (λ z. and_next (test_alone ps d z) (λ q rest. and_next (block_read ps d inner rest) (λ b rest. else_read ps d inner q b rest)))
      (append_assoc (test_tokens q) (in_braces (stmts_tokens b) ++ last) rest ∙ ap (λ z. test_tokens q ++ z) (append_assoc (in_braces (stmts_tokens b)) last rest))
      ∙ ap (λ r. and_next r (λ q rest. and_next (block_read ps d inner rest) (λ b rest. else_read ps d inner q b rest)))
      (test_alone_reads ps d q (in_braces (stmts_tokens b) ++ (last ++ rest)) (omega arith) (omega arith) refl)
      ∙ ap (λ r. and_next r (λ b rest. else_read ps d inner (test_tree_value ps q) b rest)) (block_is_read b (last ++ rest) (omega arith) (omega arith))
      ∙ else_reads (test_tree_value ps q) (stmts_value ps b) c rest (omega arith) (omega arith)

  repeated_reads : (q : TestTree) (b : StmtsTree) (rest : List Token) → stmt_levels (repeated q b) ≤ d → stmt_operators (repeated q b) ≤ most_operators
      → stmt_read ps d inner (stmt_tokens (repeated q b) ++ rest) ≡ Some (stmt_tree_value ps (repeated q b), rest)
  unfolding stmt_read
  repeated_reads q b rest low few =
      ap (λ z. and_next (test_alone ps d z) (λ q rest. and_next (block_read ps d inner rest) (λ b rest. Some (while_do q b, rest)))) (append_assoc (test_tokens q) (in_braces (stmts_tokens b)) rest)
      ∙ ap (λ r. and_next r (λ q rest. and_next (block_read ps d inner rest) (λ b rest. Some (while_do q b, rest))))
      (test_alone_reads ps d q (in_braces (stmts_tokens b) ++ rest) (omega arith) (omega arith) refl)
      ∙ ap (λ r. and_next r (λ b rest. Some (while_do (test_tree_value ps q) b, rest))) (block_is_read b rest (omega arith) (omega arith))

  to_reads : (x : List ℕ) (lo : Expr) (hi : ExprTree) (b : StmtsTree) (rest : List Token) → max (expr_levels hi) (suc (stmts_levels b)) ≤ d
      → max (expr_operators hi) (stmts_operators b) ≤ most_operators
      → to_read ps d inner x lo (t.Word w.To ∷ ((expr_tokens hi ++ in_braces (stmts_tokens b)) ++ rest)) ≡ Some (for_to (name_value ps x) lo (expr_value ps hi) (stmts_value ps b), rest)
  unfolding to_read
  to_reads x lo hi b rest low few =
      ap (λ z. and_next (expr_alone ps d z) (λ hi rest. and_next (block_read ps d inner rest) (λ b rest. Some (for_to (name_value ps x) lo hi b, rest))))
      (append_assoc (expr_tokens hi) (in_braces (stmts_tokens b)) rest)
      ∙ ap (λ r. and_next r (λ hi rest. and_next (block_read ps d inner rest) (λ b rest. Some (for_to (name_value ps x) lo hi b, rest))))
      (expr_alone_reads ps d hi (in_braces (stmts_tokens b) ++ rest) (omega arith) (omega arith) refl)
      ∙ ap (λ r. and_next r (λ b rest. Some (for_to (name_value ps x) lo (expr_value ps hi) b, rest))) (block_is_read b rest (omega arith) (omega arith))

  counted_reads : (x : List ℕ) (lo hi : ExprTree) (b : StmtsTree) (rest : List Token) → stmt_levels (counted x lo hi b) ≤ d → stmt_operators (counted x lo hi b) ≤ most_operators
      → stmt_read ps d inner (stmt_tokens (counted x lo hi b) ++ rest) ≡ Some (stmt_tree_value ps (counted x lo hi b), rest)
  unfolding stmt_read
  counted_reads x lo hi b rest low few =
      let last : List Token = t.Word w.To ∷ (expr_tokens hi ++ in_braces (stmts_tokens b)) in
      ap (λ z. and_next (expr_alone ps d z) (to_read ps d inner x)) (append_assoc (expr_tokens lo) last rest)
      ∙ ap (λ r. and_next r (to_read ps d inner x)) (expr_alone_reads ps d lo (last ++ rest) (omega arith) (omega arith) refl)
      ∙ to_reads x (expr_value ps lo) hi b rest (omega arith) (omega arith)

  bound_reads : (x : List ℕ) (e : ExprTree) (b : StmtsTree) (rest : List Token) → stmt_levels (bound x e b) ≤ d → stmt_operators (bound x e b) ≤ most_operators
      → stmt_read ps d inner (stmt_tokens (bound x e b) ++ rest) ≡ Some (stmt_tree_value ps (bound x e b), rest)
  unfolding stmt_read
  bound_reads x e b rest low few =
      ap (λ z. and_next (expr_alone ps d z) (λ e rest. and_next (block_read ps d inner rest) (λ b rest. Some (let_in (name_value ps x) e b, rest)))) (append_assoc (expr_tokens e) (in_braces (stmts_tokens b)) rest)
      ∙ ap (λ r. and_next r (λ e rest. and_next (block_read ps d inner rest) (λ b rest. Some (let_in (name_value ps x) e b, rest))))
      (expr_alone_reads ps d e (in_braces (stmts_tokens b) ++ rest) (omega arith) (omega arith) refl)
      ∙ ap (λ r. and_next r (λ b rest. Some (let_in (name_value ps x) (expr_value ps e) b, rest))) (block_is_read b rest (omega arith) (omega arith))

  stmt_reads : (a : StmtTree) (rest : List Token) → stmt_levels a ≤ d → stmt_operators a ≤ most_operators
      → stmt_read ps d inner (stmt_tokens a ++ rest) ≡ Some (stmt_tree_value ps a, rest)
  unfolding stmt_read
  stmt_reads skipped rest low few = refl
  stmt_reads (written a e) rest low few = put_reads a e rest low few
  stmt_reads (asserted q) rest low few = asserted_reads q rest low few
  stmt_reads (chosen q b c) rest low few = chosen_reads q b c rest low few
  stmt_reads (repeated q b) rest low few = repeated_reads q b rest low few
  stmt_reads (counted x lo hi b) rest low few = counted_reads x lo hi b rest low few
  stmt_reads (bound x e b) rest low few = bound_reads x e b rest low few
  stmt_reads (named_stmt x) rest low few = refl

  many_stop : (n : ℕ) (rest : List Token) → is_end rest ≡ true → many_read ps d inner n rest ≡ Some (empty, rest)
  unfolding many_read
  many_stop zero rest ends = refl
  many_stop (suc n) rest ends =
      ap (λ b. cond b (Some (empty, rest)) (and_next (stmt_read ps d inner rest) (λ a rest. and_next (many_read ps d inner n rest) (λ b rest. Some (stmt a b, rest))))) ends

  many_reads : (a : StmtsTree) (n : ℕ) (rest : List Token) → length (stmts_tokens a) ≤ n → stmts_levels a ≤ d → stmts_operators a ≤ most_operators → is_end rest ≡ true
      → many_read ps d inner n (stmts_tokens a ++ rest) ≡ Some (stmts_value ps a, rest)
  unfolding many_read
  many_reads no_stmts n rest fits low few ends = many_stop n rest ends
  many_reads (stmts a more) zero rest fits low few ends =
      let joined = length-append (stmt_tokens a) (stmts_tokens more) in
      absurd (omega (arith, some_token a))
  many_reads (stmts a more) (suc n) rest fits low few ends =
      let joined = length-append (stmt_tokens a) (stmts_tokens more) in
      let behind : List Token = stmts_tokens more ++ rest in
      let shorter : length (stmts_tokens more) ≤ n = omega (arith, some_token a) in
      ap (many_read ps d inner (suc n)) (append_assoc (stmt_tokens a) (stmts_tokens more) rest)
      ∙ ap (λ b. cond b (Some (empty, stmt_tokens a ++ behind)) (and_next (stmt_read ps d inner (stmt_tokens a ++ behind)) (λ a rest. and_next (many_read ps d inner n rest) (λ b rest. Some (stmt a b, rest)))))
      (goes_ahead a behind)
      ∙ ap (λ r. and_next r (λ a rest. and_next (many_read ps d inner n rest) (λ b rest. Some (stmt a b, rest)))) (stmt_reads a behind (omega arith) (omega arith))
      ∙ ap (λ r. and_next r (λ b rest. Some (stmt (stmt_tree_value ps a) b, rest))) (many_reads more n rest shorter (omega arith) (omega arith) ends)

pub stmts_reads : (ps : List Param) (d : ℕ) (a : StmtsTree) (rest : List Token) → stmts_levels a < d → stmts_operators a ≤ most_operators → is_end rest ≡ true
    → stmts_read ps d (stmts_tokens a ++ rest) ≡ Some (stmts_value ps a, rest)
unfolding stmts_read
stmts_reads ps zero a rest low few ends = absurd (omega arith)
stmts_reads ps (suc d) a rest low few ends =
    let joined = length-append (stmts_tokens a) rest in
    many_reads ps d (λ rest. stmts_read ps d rest) (λ a rest. stmts_reads ps d a rest) a (length (stmts_tokens a ++ rest)) rest (omega arith) (omega arith) few ends

-- a block in braces, wherever it stands
pub block_reads : (ps : List Param) (d e : ℕ) (a : StmtsTree) (rest : List Token) → stmts_levels a < d → stmts_operators a ≤ most_operators
    → block_read ps e (λ rest. stmts_read ps d rest) (in_braces (stmts_tokens a) ++ rest) ≡ Some (stmts_value ps a, rest)
block_reads ps d e a rest low few = inside_reads ps d e (λ rest. stmts_read ps d rest) (λ a rest. stmts_reads ps d a rest) a rest low few
