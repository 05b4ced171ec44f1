-- What is read as statements or as a block has a derivation tree: of its tokens, value, levels and operators.
use Rattle.std.proofs.Common.{◌≡◌, ℕ, zero, suc, ◌<◌, ◌≤◌, Bool, true, false, List, [], ◌∷◌, ◌++◌, cond, length, Some, sym, ◌∙◌, ap, subst, refl, append_assoc, arith}
use Rattle.std.proofs.lemmas.Option.{none-some, same_Some}
use Rattle.toy_imp.specs.declared.param.Param.{Param}
use Rattle.toy_imp.specs.Expr.{Expr}
use Rattle.toy_imp.specs.ExprView.{exprs_of}
use Rattle.toy_imp.specs.Test.{Test}
use Rattle.toy_imp.specs.Block.{Stmt, put, assert_that, if_then, while_do, for_to, let_in, Block, empty, stmt}
use Rattle.toy_imp.specs.ExprGrammar.{ExprTree, PlaceTree, variable, index_1, index_2, index_3, place_name, indices_value, expr_value, expr_levels, expr_operators, index_operators, place_levels}
use Rattle.toy_imp.specs.TestGrammar.{TestTree, test_tree_value, test_levels, test_operators}
use Rattle.toy_imp.specs.BlockGrammar.{StmtTree, skipped, written, asserted, chosen, repeated, counted, bound, named_stmt, StmtsTree, no_stmts, stmts, stmt_tree_value, stmts_value, stmt_levels, stmts_levels, stmt_operators, stmts_operators}
use Rattle.toy_imp.specs.Parameters.{name_value}
use Rattle.pec_text.specs.declared.token.Sign.TheVariants as s
use Rattle.pec_text.specs.declared.token.Token.{Token}
use Rattle.pec_text.specs.declared.token.Token.TheVariants as t
use Rattle.pec_text.specs.declared.token.Word.TheVariants as w
use Rattle.program_reader.specs.Read.{ReadStmt, and_next, most_operators}
use Rattle.program_reader.specs.TreeTokens.{expr_tokens, place_tokens, test_tokens, in_braces, stmt_tokens, stmts_tokens}
use Rattle.program_reader.specs.ExprReading.{expr_read, brackets_read}
use Rattle.program_reader.specs.TestReading.{test_read}
use Rattle.program_reader.specs.BlockReading.{expr_alone, test_alone, index_apart, written_indices, brace_closed, ended, is_end, block_read, assigned_read, else_read, to_read, stmt_read, many_read, stmts_read}
use Rattle.program_reader.proofs.ReadSteps.{then_some, next_some, alone_some}
use Rattle.program_reader.proofs.ExprSound.{expr_has, HasIndex, place_counts, brackets_have}
use Rattle.program_reader.proofs.TestSound.{test_has}

-- ---- expressions, tests and written places that are part of no other, where at most d levels may be opened
pub record HasExprAlone (ps : List Param) (d : ℕ) (tokens : List Token) (p : Expr × List Token) : Type 0 where
  pub tree : ExprTree
  pub spelled : tokens ≡ expr_tokens tree ++ p.1
  pub value : expr_value ps tree ≡ p.0
  pub shallow : expr_levels tree ≤ d
  pub few : expr_operators tree ≤ most_operators

pub record HasTestAlone (ps : List Param) (d : ℕ) (tokens : List Token) (p : Test × List Token) : Type 0 where
  pub tree : TestTree
  pub spelled : tokens ≡ test_tokens tree ++ p.1
  pub value : test_tree_value ps tree ≡ p.0
  pub shallow : test_levels tree ≤ d
  pub few : test_operators tree ≤ most_operators

expr_alone_has : (ps : List Param) (d : ℕ) (tokens : List Token) (p : Expr × List Token) → expr_alone ps d tokens ≡ Some p → HasExprAlone ps d tokens p
unfolding expr_alone
expr_alone_has ps d tokens p h =
    let m = alone_some (expr_read ps (suc d) most_operators tokens) p h in
    let has = expr_has ps (suc d) most_operators tokens m.0 m.1 in
    subst (HasExprAlone ps d tokens) m.2 (record { tree = has.tree; spelled = has.spelled; value = has.value; shallow = omega (arith, has.shallow); few = omega (arith, has.counted) })

test_alone_has : (ps : List Param) (d : ℕ) (tokens : List Token) (p : Test × List Token) → test_alone ps d tokens ≡ Some p → HasTestAlone ps d tokens p
unfolding test_alone
test_alone_has ps d tokens p h =
    let m = alone_some (test_read ps (suc d) most_operators tokens) p h in
    let has = test_has ps (suc d) most_operators tokens m.0 m.1 in
    subst (HasTestAlone ps d tokens) m.2 (record { tree = has.tree; spelled = has.spelled; value = has.value; shallow = omega (arith, has.shallow); few = omega (arith, has.counted) })

-- each index of a written place has operators of its own, and the number that may come before it stays
abbrev pub apart : ℕ → ℕ → ℕ → Type 0
apart k n m = (n ≤ most_operators) × (k ≡ m)

index_has : (ps : List Param) (d k : ℕ) (tokens : List Token) (p : Expr × ℕ × List Token) → index_apart ps d k tokens ≡ Some p → HasIndex apart ps d k tokens p
index_has ps d k tokens p h =
    let m = then_some (expr_read ps d most_operators tokens) (λ e _ rest. Some (e, k, rest)) p h in
    let has = expr_has ps d most_operators tokens m.0 m.1 in
    let few : expr_operators has.tree ≤ most_operators = omega (arith, has.counted) in
    subst (HasIndex apart ps d k tokens) (same_Some _ _ m.2) (record { tree = has.tree; spelled = has.spelled; value = has.value; shallow = has.shallow; counted = (few, refl) })

place_few : (a : PlaceTree) (k m : ℕ) → place_counts apart a k m → index_operators a ≤ most_operators
place_few (variable x) k m h = omega arith
place_few (index_1 x a) k m h = h.0
place_few (index_2 x a b) k m h = omega (arith, h.1.0, h.2.0)
place_few (index_3 x a b c) k m h = omega (arith, h.1.0, h.2.1.0, h.2.2.0)

-- the written place of name x whose name stands before the tokens
pub record HasWritten (ps : List Param) (d : ℕ) (x : List ℕ) (tokens : List Token) (p : List Expr × List Token) : Type 0 where
  pub tree : PlaceTree
  pub named : place_name tree ≡ x
  pub spelled : ◌≡◌ {A = List Token} (t.Name x ∷ tokens) (place_tokens tree ++ p.1)
  pub values : indices_value ps tree ≡ exprs_of p.0
  pub shallow : place_levels tree ≤ d
  pub few : index_operators tree ≤ most_operators

written_has : (ps : List Param) (d : ℕ) (x : List ℕ) (tokens : List Token) (p : List Expr × List Token) → written_indices ps d tokens ≡ Some p → HasWritten ps d x tokens p
unfolding written_indices
written_has ps d x tokens p h =
    let m = alone_some (brackets_read (index_apart ps d) 0 tokens) p h in
    let has = brackets_have apart ps d (index_apart ps d) (index_has ps d) x 0 tokens m.0 m.1 in
    subst (HasWritten ps d x tokens) m.2 (record {
      tree = has.tree;
      named = has.named;
      spelled = has.spelled;
      values = has.values;
      shallow = omega (arith, has.shallow);
      few = place_few has.tree 0 m.0.1 has.counted;
    })

-- ---- statements
-- one part behind another
joined : (front middle last tokens rest : List Token) → tokens ≡ front ++ rest → rest ≡ middle ++ last → tokens ≡ (front ++ middle) ++ last
joined front middle last tokens rest first next = first ∙ ap (λ z. front ++ z) next ∙ sym (append_assoc front middle last)

-- a statement, of which at most d levels may be opened
pub record HasStmt (ps : List Param) (d : ℕ) (tokens : List Token) (p : Stmt × List Token) : Type 0 where
  pub tree : StmtTree
  pub spelled : tokens ≡ stmt_tokens tree ++ p.1
  pub value : stmt_tree_value ps tree ≡ p.0
  pub shallow : stmt_levels tree ≤ d
  pub few : stmt_operators tree ≤ most_operators

-- statements with fewer than d levels
pub record HasStmts (ps : List Param) (d : ℕ) (tokens : List Token) (p : Block × List Token) : Type 0 where
  pub tree : StmtsTree
  pub spelled : tokens ≡ stmts_tokens tree ++ p.1
  pub value : stmts_value ps tree ≡ p.0
  pub shallow : stmts_levels tree < d
  pub few : stmts_operators tree ≤ most_operators

-- a block, of which fewer than d levels are inside its braces
pub record HasBlock (ps : List Param) (d : ℕ) (tokens : List Token) (p : Block × List Token) : Type 0 where
  pub tree : StmtsTree
  pub spelled : tokens ≡ in_braces (stmts_tokens tree) ++ p.1
  pub value : stmts_value ps tree ≡ p.0
  pub shallow : stmts_levels tree < d
  pub few : stmts_operators tree ≤ most_operators

brace_closed_has : (b : Block) (tokens : List Token) (p : Block × List Token) → brace_closed b tokens ≡ Some p → (tokens ≡ t.Sign s.CloseBrace ∷ p.1) × (b ≡ p.0)
brace_closed_has b (t.Sign s.CloseBrace ∷ rest) p h = let same = same_Some _ _ h in (ap (λ z. t.Sign s.CloseBrace ∷ z.1) same, ap (λ z. z.0) same)
brace_closed_has b _ p h = absurd (none-some _ h)

ended_has : {A : Type 0} (made : A → Stmt) (e : A) (tokens : List Token) (p : Stmt × List Token) → ended made e tokens ≡ Some p → (tokens ≡ t.Sign s.Semicolon ∷ p.1) × (made e ≡ p.0)
ended_has made e (t.Sign s.Semicolon ∷ rest) p h = let same = same_Some _ _ h in (ap (λ z. t.Sign s.Semicolon ∷ z.1) same, ap (λ z. z.0) same)
ended_has made e _ p h = absurd (none-some _ h)

braced_has : (ps : List Param) (d : ℕ) (tokens : List Token) (q p : Block × List Token) → HasStmts ps d tokens q → brace_closed q.0 q.1 ≡ Some p
    → HasBlock ps d (t.Sign s.OpenBrace ∷ tokens) p
braced_has ps d tokens q p has h =
    let ends = brace_closed_has q.0 q.1 p h in
    record {
      tree = has.tree;
      spelled = ap (λ z. t.Sign s.OpenBrace ∷ z) (joined (stmts_tokens has.tree) (t.Sign s.CloseBrace ∷ []) p.1 tokens q.1 has.spelled ends.0);
      value = has.value ∙ ends.1;
      shallow = has.shallow;
      few = has.few;
    }

-- the parts of a statement make one
chosen_has : (ps : List Param) (d : ℕ) (front tokens rest : List Token) (q : Test) (b : Block) (c : Block × List Token) → HasTestAlone ps d front (q, tokens)
    → HasBlock ps d tokens (b, t.Word w.Else ∷ rest) → HasBlock ps d rest c → HasStmt ps d (t.Word w.If ∷ front) (if_then q b c.0, c.1)
chosen_has ps d front tokens rest q b c test first last =
    let behind : List Token = t.Word w.Else ∷ in_braces (stmts_tokens last.tree) in
    let both : tokens ≡ (in_braces (stmts_tokens first.tree) ++ behind) ++ c.1 =
    joined (in_braces (stmts_tokens first.tree)) behind c.1 tokens (t.Word w.Else ∷ rest) first.spelled (ap (λ z. t.Word w.Else ∷ z) last.spelled) in
    record {
      tree = chosen test.tree first.tree last.tree;
      spelled = ap (λ z. t.Word w.If ∷ z) (joined (test_tokens test.tree) (in_braces (stmts_tokens first.tree) ++ behind) c.1 front tokens test.spelled both);
      value = ap (λ z. if_then z (stmts_value ps first.tree) (stmts_value ps last.tree)) test.value ∙ ap (λ z. if_then q z (stmts_value ps last.tree)) first.value ∙ ap (if_then q b) last.value;
      shallow = omega (arith, test.shallow, first.shallow, last.shallow);
      few = omega (arith, test.few, first.few, last.few);
    }

asserted_has : (ps : List Param) (d : ℕ) (front rest : List Token) (q : Test) → HasTestAlone ps d front (q, t.Sign s.Semicolon ∷ rest) → HasStmt ps d (t.Word w.Assert ∷ front) (assert_that q, rest)
asserted_has ps d front rest q test = record {
  tree = asserted test.tree;
  spelled = ap (λ z. t.Word w.Assert ∷ z) (joined (test_tokens test.tree) (t.Sign s.Semicolon ∷ []) rest front (t.Sign s.Semicolon ∷ rest) test.spelled refl);
  value = ap assert_that test.value;
  shallow = omega (arith, test.shallow);
  few = omega (arith, test.few);
}

repeated_has : (ps : List Param) (d : ℕ) (front tokens : List Token) (q : Test) (b : Block × List Token) → HasTestAlone ps d front (q, tokens)
    → HasBlock ps d tokens b → HasStmt ps d (t.Word w.While ∷ front) (while_do q b.0, b.1)
repeated_has ps d front tokens q b test body = record {
  tree = repeated test.tree body.tree;
  spelled = ap (λ z. t.Word w.While ∷ z) (joined (test_tokens test.tree) (in_braces (stmts_tokens body.tree)) b.1 front tokens test.spelled body.spelled);
  value = ap (λ z. while_do z (stmts_value ps body.tree)) test.value ∙ ap (while_do q) body.value;
  shallow = omega (arith, test.shallow, body.shallow);
  few = omega (arith, test.few, body.few);
}

counted_has : (ps : List Param) (d : ℕ) (x : List ℕ) (front tokens rest : List Token) (lo hi : Expr) (b : Block × List Token)
    → HasExprAlone ps d front (lo, t.Word w.To ∷ tokens) → HasExprAlone ps d tokens (hi, rest) → HasBlock ps d rest b
    → HasStmt ps d (t.Word w.For ∷ t.Name x ∷ t.Sign s.Equals ∷ front) (for_to (name_value ps x) lo hi b.0, b.1)
counted_has ps d x front tokens rest lo hi b first last body =
    let behind : List Token = expr_tokens last.tree ++ in_braces (stmts_tokens body.tree) in
    let both : tokens ≡ behind ++ b.1 = joined (expr_tokens last.tree) (in_braces (stmts_tokens body.tree)) b.1 tokens rest last.spelled body.spelled in
    let next : t.Word w.To ∷ tokens ≡ (t.Word w.To ∷ behind) ++ b.1 = ap (λ z. t.Word w.To ∷ z) both in
    record {
      tree = counted x first.tree last.tree body.tree;
      spelled = ap (λ z. t.Word w.For ∷ t.Name x ∷ t.Sign s.Equals ∷ z) (joined (expr_tokens first.tree) (t.Word w.To ∷ behind) b.1 front (t.Word w.To ∷ tokens) first.spelled next);
      value = ap (λ z. for_to (name_value ps x) z (expr_value ps last.tree) (stmts_value ps body.tree)) first.value
          ∙ ap (λ z. for_to (name_value ps x) lo z (stmts_value ps body.tree)) last.value
          ∙ ap (for_to (name_value ps x) lo hi) body.value;
      shallow = omega (arith, first.shallow, last.shallow, body.shallow);
      few = omega (arith, first.few, last.few, body.few);
    }

bound_has : (ps : List Param) (d : ℕ) (x : List ℕ) (front tokens : List Token) (e : Expr) (b : Block × List Token) → HasExprAlone ps d front (e, tokens)
    → HasBlock ps d tokens b → HasStmt ps d (t.Word w.Let ∷ t.Name x ∷ t.Sign s.Equals ∷ front) (let_in (name_value ps x) e b.0, b.1)
bound_has ps d x front tokens e b first body = record {
  tree = bound x first.tree body.tree;
  spelled = ap (λ z. t.Word w.Let ∷ t.Name x ∷ t.Sign s.Equals ∷ z) (joined (expr_tokens first.tree) (in_braces (stmts_tokens body.tree)) b.1 front tokens first.spelled body.spelled);
  value = ap (λ z. let_in (name_value ps x) z (stmts_value ps body.tree)) first.value ∙ ap (let_in (name_value ps x) e) body.value;
  shallow = omega (arith, first.shallow, body.shallow);
  few = omega (arith, first.few, body.few);
}

put_has : (ps : List Param) (d : ℕ) (x : List ℕ) (front tokens rest : List Token) (indices : List Expr) (e : Expr) → HasWritten ps d x front (indices, t.Sign s.Assign ∷ tokens)
    → HasExprAlone ps d tokens (e, t.Sign s.Semicolon ∷ rest) → HasStmt ps d (t.Name x ∷ front) (put (name_value ps x) (exprs_of indices) e, rest)
put_has ps d x front tokens rest indices e place right =
    let last : List Token = expr_tokens right.tree ++ (t.Sign s.Semicolon ∷ []) in
    let behind : t.Sign s.Assign ∷ tokens ≡ (t.Sign s.Assign ∷ last) ++ rest =
    ap (λ z. t.Sign s.Assign ∷ z) (joined (expr_tokens right.tree) (t.Sign s.Semicolon ∷ []) rest tokens (t.Sign s.Semicolon ∷ rest) right.spelled refl) in
    record {
      tree = written place.tree right.tree;
      spelled = joined (place_tokens place.tree) (t.Sign s.Assign ∷ last) rest (t.Name x ∷ front) (t.Sign s.Assign ∷ tokens) place.spelled behind;
      value = ap (λ z. put (name_value ps z) (indices_value ps place.tree) (expr_value ps right.tree)) place.named
          ∙ ap (λ z. put (name_value ps x) z (expr_value ps right.tree)) place.values
          ∙ ap (put (name_value ps x) (exprs_of indices)) right.value;
      shallow = omega (arith, place.shallow, right.shallow);
      few = omega (arith, place.few, right.few);
    }

module _ (ps : List Param) (d e : ℕ) (inner : List Token → ReadStmt Block)
    (inner_has : (tokens : List Token) (p : Block × List Token) → inner tokens ≡ Some p → HasStmts ps d tokens p) where
  inside_has : (tokens : List Token) (p : Block × List Token) → block_read ps e inner tokens ≡ Some p → HasBlock ps d tokens p
  unfolding block_read
  inside_has (t.Sign s.OpenBrace ∷ rest) p h =
      let m = next_some (inner rest) brace_closed p h in braced_has ps d rest m.0 p (inner_has rest m.0 m.1) m.2
  inside_has _ p h = absurd (none-some _ h)

module _ (ps : List Param) (d : ℕ) (inner : List Token → ReadStmt Block)
    (inner_has : (tokens : List Token) (p : Block × List Token) → inner tokens ≡ Some p → HasStmts ps d tokens p) where
  else_has : (front tokens rest : List Token) (q : Test) (b : Block) (p : Stmt × List Token) → HasTestAlone ps d front (q, tokens) → HasBlock ps d tokens (b, rest)
      → else_read ps d inner q b rest ≡ Some p → HasStmt ps d (t.Word w.If ∷ front) p
  unfolding else_read
  else_has front tokens (t.Word w.Else ∷ rest) q b p test first h =
      let m = next_some (block_read ps d inner rest) (λ c rest. Some (if_then q b c, rest)) p h in
      subst (HasStmt ps d (t.Word w.If ∷ front)) (same_Some _ _ m.2) (chosen_has ps d front tokens rest q b m.0 test first (inside_has ps d d inner inner_has rest m.0 m.1))
  else_has front tokens _ q b p test first h = absurd (none-some _ h)

  to_has : (x : List ℕ) (front tokens : List Token) (lo : Expr) (p : Stmt × List Token) → HasExprAlone ps d front (lo, tokens)
      → to_read ps d inner x lo tokens ≡ Some p → HasStmt ps d (t.Word w.For ∷ t.Name x ∷ t.Sign s.Equals ∷ front) p
  unfolding to_read
  to_has x front (t.Word w.To ∷ rest) lo p first h =
      let m = next_some (expr_alone ps d rest) (λ hi rest. and_next (block_read ps d inner rest) (λ b rest. Some (for_to (name_value ps x) lo hi b, rest))) p h in
      let n = next_some (block_read ps d inner m.0.1) (λ b rest. Some (for_to (name_value ps x) lo m.0.0 b, rest)) p m.2 in
      subst (HasStmt ps d (t.Word w.For ∷ t.Name x ∷ t.Sign s.Equals ∷ front)) (same_Some _ _ n.2)
      (counted_has ps d x front rest m.0.1 lo m.0.0 n.0 first (expr_alone_has ps d rest m.0 m.1) (inside_has ps d d inner inner_has m.0.1 n.0 n.1))
  to_has x front _ lo p first h = absurd (none-some _ h)

  right_has : (x : List ℕ) (front tokens : List Token) (indices : List Expr) (q : Expr × List Token) (p : Stmt × List Token) → HasWritten ps d x front (indices, t.Sign s.Assign ∷ tokens)
      → HasExprAlone ps d tokens q → ended (put (name_value ps x) (exprs_of indices)) q.0 q.1 ≡ Some p → HasStmt ps d (t.Name x ∷ front) p
  right_has x front tokens indices q p place right h =
      let ends = ended_has (put (name_value ps x) (exprs_of indices)) q.0 q.1 p h in
      let whole : HasExprAlone ps d tokens (q.0, t.Sign s.Semicolon ∷ p.1) = subst (λ z. HasExprAlone ps d tokens (q.0, z)) ends.0 right in
      subst (λ z. HasStmt ps d (t.Name x ∷ front) (z, p.1)) ends.1 (put_has ps d x front tokens p.1 indices q.0 place whole)

  assigned_has : (x : List ℕ) (front tokens : List Token) (indices : List Expr) (p : Stmt × List Token) → HasWritten ps d x front (indices, tokens)
      → assigned_read ps d inner x indices tokens ≡ Some p → HasStmt ps d (t.Name x ∷ front) p
  unfolding assigned_read
  assigned_has x front (t.Sign s.Assign ∷ rest) indices p place h =
      let m = next_some (expr_alone ps d rest) (ended (put (name_value ps x) (exprs_of indices))) p h in
      right_has x front rest indices m.0 p place (expr_alone_has ps d rest m.0 m.1) m.2
  assigned_has x front _ indices p place h = absurd (none-some _ h)

  stmt_has : (tokens : List Token) (p : Stmt × List Token) → stmt_read ps d inner tokens ≡ Some p → HasStmt ps d tokens p
  unfolding stmt_read
  stmt_has (t.Word w.Skip ∷ t.Sign s.Semicolon ∷ rest) p h = subst (HasStmt ps d (t.Word w.Skip ∷ t.Sign s.Semicolon ∷ rest)) (same_Some _ _ h) (record {
    tree = skipped;
    spelled = refl;
    value = refl;
    shallow = omega arith;
    few = omega arith;
  })
  stmt_has (t.Word w.Assert ∷ rest) p h =
      let m = next_some (test_alone ps d rest) (ended assert_that) p h in
      let ends = ended_has assert_that m.0.0 m.0.1 p m.2 in
      let whole : HasTestAlone ps d rest (m.0.0, t.Sign s.Semicolon ∷ p.1) = subst (λ z. HasTestAlone ps d rest (m.0.0, z)) ends.0 (test_alone_has ps d rest m.0 m.1) in
      subst (λ z. HasStmt ps d (t.Word w.Assert ∷ rest) (z, p.1)) ends.1 (asserted_has ps d rest p.1 m.0.0 whole)
  stmt_has (t.Word w.If ∷ rest) p h =
      let m = next_some (test_alone ps d rest) (λ q rest. and_next (block_read ps d inner rest) (λ b rest. else_read ps d inner q b rest)) p h in
      let n = next_some (block_read ps d inner m.0.1) (λ b rest. else_read ps d inner m.0.0 b rest) p m.2 in
      else_has rest m.0.1 n.0.1 m.0.0 n.0.0 p (test_alone_has ps d rest m.0 m.1) (inside_has ps d d inner inner_has m.0.1 n.0 n.1) n.2
  stmt_has (t.Word w.While ∷ rest) p h =
      let m = next_some (test_alone ps d rest) (λ q rest. and_next (block_read ps d inner rest) (λ b rest. Some (while_do q b, rest))) p h in
      let n = next_some (block_read ps d inner m.0.1) (λ b rest. Some (while_do m.0.0 b, rest)) p m.2 in
      subst (HasStmt ps d (t.Word w.While ∷ rest)) (same_Some _ _ n.2)
      (repeated_has ps d rest m.0.1 m.0.0 n.0 (test_alone_has ps d rest m.0 m.1) (inside_has ps d d inner inner_has m.0.1 n.0 n.1))
  stmt_has (t.Word w.For ∷ t.Name x ∷ t.Sign s.Equals ∷ rest) p h =
      let m = next_some (expr_alone ps d rest) (to_read ps d inner x) p h in to_has x rest m.0.1 m.0.0 p (expr_alone_has ps d rest m.0 m.1) m.2
  stmt_has (t.Word w.Let ∷ t.Name x ∷ t.Sign s.Equals ∷ rest) p h =
      let m = next_some (expr_alone ps d rest) (λ e rest. and_next (block_read ps d inner rest) (λ b rest. Some (let_in (name_value ps x) e b, rest))) p h in
      let n = next_some (block_read ps d inner m.0.1) (λ b rest. Some (let_in (name_value ps x) m.0.0 b, rest)) p m.2 in
      subst (HasStmt ps d (t.Word w.Let ∷ t.Name x ∷ t.Sign s.Equals ∷ rest)) (same_Some _ _ n.2)
      (bound_has ps d x rest m.0.1 m.0.0 n.0 (expr_alone_has ps d rest m.0 m.1) (inside_has ps d d inner inner_has m.0.1 n.0 n.1))
  stmt_has (t.Name x ∷ t.Sign s.Semicolon ∷ rest) p h = subst (HasStmt ps d (t.Name x ∷ t.Sign s.Semicolon ∷ rest)) (same_Some _ _ h) (record {
    tree = named_stmt x;
    spelled = refl;
    value = refl;
    shallow = omega arith;
    few = omega arith;
  })
  stmt_has (t.Name x ∷ rest) p h =
      let m = next_some (written_indices ps d rest) (assigned_read ps d inner x) p h in assigned_has x _ m.0.1 m.0.0 p (written_has ps d x rest m.0 m.1) m.2
  stmt_has _ p h = absurd (none-some _ h)

  no_more_has : (tokens : List Token) (p : Block × List Token) → Some (empty, tokens) ≡ Some p → HasStmts ps (suc d) tokens p
  no_more_has tokens p h = subst (HasStmts ps (suc d) tokens) (same_Some _ _ h) (record {
    tree = no_stmts;
    spelled = refl;
    value = refl;
    shallow = omega arith;
    few = omega arith;
  })

  one_more_has : (tokens : List Token) (q : Stmt × List Token) (r : Block × List Token) → HasStmt ps d tokens q → HasStmts ps (suc d) q.1 r
      → HasStmts ps (suc d) tokens (stmt q.0 r.0, r.1)
  one_more_has tokens q r first others = record {
    tree = stmts first.tree others.tree;
    spelled = joined (stmt_tokens first.tree) (stmts_tokens others.tree) r.1 tokens q.1 first.spelled others.spelled;
    value = ap (λ z. stmt z (stmts_value ps others.tree)) first.value ∙ ap (stmt q.0) others.value;
    shallow = omega (arith, first.shallow, others.shallow);
    few = omega (arith, first.few, others.few);
  }

  turn_has : (n : ℕ) (tokens : List Token) (p : Block × List Token) (b : Bool)
      → ((rest : List Token) (q : Block × List Token) → many_read ps d inner n rest ≡ Some q → HasStmts ps (suc d) rest q)
      → cond b (Some (empty, tokens)) (and_next (stmt_read ps d inner tokens) (λ a rest. and_next (many_read ps d inner n rest) (λ b rest. Some (stmt a b, rest)))) ≡ Some p
      → HasStmts ps (suc d) tokens p
  turn_has n tokens p true more_has h = no_more_has tokens p h
  turn_has n tokens p false more_has h =
      let m = next_some (stmt_read ps d inner tokens) (λ a rest. and_next (many_read ps d inner n rest) (λ b rest. Some (stmt a b, rest))) p h in
      let l = next_some (many_read ps d inner n m.0.1) (λ b rest. Some (stmt m.0.0 b, rest)) p m.2 in
      subst (HasStmts ps (suc d) tokens) (same_Some _ _ l.2) (one_more_has tokens m.0 l.0 (stmt_has tokens m.0 m.1) (more_has m.0.1 l.0 l.1))

  many_has : (n : ℕ) (tokens : List Token) (p : Block × List Token) → many_read ps d inner n tokens ≡ Some p → HasStmts ps (suc d) tokens p
  unfolding many_read
  many_has zero tokens p h = no_more_has tokens p h
  many_has (suc n) tokens p h = turn_has n tokens p (is_end tokens) (λ rest q. many_has n rest q) h

pub stmts_has : (ps : List Param) (d : ℕ) (tokens : List Token) (p : Block × List Token) → stmts_read ps d tokens ≡ Some p → HasStmts ps d tokens p
unfolding stmts_read
stmts_has ps zero tokens p h = absurd (none-some _ h)
stmts_has ps (suc d) tokens p h = many_has ps d (λ rest. stmts_read ps d rest) (λ rest q. stmts_has ps d rest q) (length tokens) tokens p h

-- a block in braces, wherever it stands
pub block_has : (ps : List Param) (d e : ℕ) (tokens : List Token) (p : Block × List Token) → block_read ps e (λ rest. stmts_read ps d rest) tokens ≡ Some p → HasBlock ps d tokens p
block_has ps d e tokens p h = inside_has ps d e (λ rest. stmts_read ps d rest) (λ rest q. stmts_has ps d rest q) tokens p h
