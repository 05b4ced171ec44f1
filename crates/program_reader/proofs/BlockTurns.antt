-- How the readers of statements go: a `for` and a `let` behind their words, a statement behind a name, and the turns of
-- the loop over statements, where what was found stands in front of what is read of the rest.
use Rattle.std.proofs.Common.{◌≡◌, ℕ, suc, zero, ◌+◌, ◌-◌, ◌<◌, ◌≤◌, true, false, List, ◌∷◌, None, Some, option_map, sym, ap, ◌∙◌, refl, arith}
use Rattle.std.specs.Prelude.{if◌then◌else◌}
use Rattle.toy_imp.specs.declared.param.Param.{Param}
use Rattle.toy_imp.specs.Expr.{Expr}
use Rattle.toy_imp.specs.Test.{Test}
use Rattle.toy_imp.specs.Block.{Stmt, assert_that, if_then, while_do, for_to, let_in, Block, empty, stmt, append}
use Rattle.toy_imp.specs.Parameters.{name_value}
use Rattle.toy_imp.proofs.Alikes.{append-empty, append-assoc}
use Rattle.pec_text.specs.declared.token.Sign.TheVariants as s
use Rattle.pec_text.specs.declared.token.Token.{Token}
use Rattle.pec_text.specs.declared.token.Token.TheVariants as t
use Rattle.pec_text.specs.declared.token.Word.TheVariants as w
use Rattle.program_reader.specs.Read.{ReadStmt, and_next, alone}
use Rattle.program_reader.specs.ExprReading.{brackets_read}
use Rattle.program_reader.specs.BlockReading.{expr_alone, test_alone, index_apart, written_indices, brace_closed, ended, is_end, block_read, assigned_read, else_read, to_read, stmt_read, many_read}
use Rattle.program_reader.specs.BlockParts.{to_bound, bounds_read, name_equals, for_read, let_read}
use Rattle.program_reader.specs.declared.block_reading.Bounds.{Bounds}

-- ---- behind `for` and `let`
module _ (ps : List Param) (d : ℕ) (inner : List Token → ReadStmt Block) where
  abbrev for_body : List ℕ → Bounds → List Token → ReadStmt Stmt
  for_body x p rest = and_next (block_read ps d inner rest) (λ b rest. Some (for_to (name_value ps x) p.low p.high b, rest))

  high_bound : (x : List ℕ) (lo : Expr) (r : ReadStmt Expr)
      → and_next r (λ hi rest. and_next (block_read ps d inner rest) (λ b rest. Some (for_to (name_value ps x) lo hi b, rest)))
      ≡ and_next (and_next r (λ high rest. Some (record { low = lo; high = high }, rest))) (for_body x)
  high_bound x lo None = refl
  high_bound x lo (Some p) = refl

  to_bounds : (x : List ℕ) (lo : Expr) (rest : List Token) → to_read ps d inner x lo rest ≡ and_next (to_bound ps d lo rest) (for_body x)
  unfolding to_read
  to_bounds x lo (t.Word w.To ∷ rest) = high_bound x lo (expr_alone ps d rest)
  to_bounds x lo _ = refl

  for_bounds : (x : List ℕ) (r : ReadStmt Expr) → and_next r (to_read ps d inner x) ≡ and_next (and_next r (to_bound ps d)) (for_body x)
  for_bounds x None = refl
  for_bounds x (Some p) = to_bounds x p.0 p.1

  pub for_is : (tokens : List Token) → stmt_read ps d inner (t.Word w.For ∷ tokens) ≡ for_read ps d inner tokens
  unfolding stmt_read for_read bounds_read
  for_is (t.Name x ∷ t.Sign s.Equals ∷ more) = for_bounds x (expr_alone ps d more)
  for_is _ = refl

  pub let_is : (tokens : List Token) → stmt_read ps d inner (t.Word w.Let ∷ tokens) ≡ let_read ps d inner tokens
  unfolding stmt_read let_read
  let_is (t.Name x ∷ t.Sign s.Equals ∷ more) = refl
  let_is _ = refl

  -- ---- the parts of a statement, where the parts before them are read
  pub block_some : (tokens rest more : List Token) (b : Block) → tokens ≡ t.Sign s.OpenBrace ∷ rest → inner rest ≡ Some (b, more) → block_read ps d inner tokens ≡ brace_closed b more
  unfolding block_read
  block_some tokens rest more b is read = ap (block_read ps d inner) is ∙ ap (λ z. and_next z brace_closed) read

  pub else_some : (q : Test) (b c : Block) (tokens rest more : List Token) → tokens ≡ t.Word w.Else ∷ rest → block_read ps d inner rest ≡ Some (c, more)
      → else_read ps d inner q b tokens ≡ Some (if_then q b c, more)
  unfolding else_read
  else_some q b c tokens rest more is read = ap (else_read ps d inner q b) is ∙ ap (λ z. and_next z (λ c rest. Some (if_then q b c, rest))) read

  if_read : (q : Test) (tokens rest : List Token) → test_alone ps d tokens ≡ Some (q, rest)
      → stmt_read ps d inner (t.Word w.If ∷ tokens) ≡ and_next (block_read ps d inner rest) (λ b rest. else_read ps d inner q b rest)
  unfolding stmt_read
  if_read q tokens rest read = ap (λ z. and_next z (λ q rest. and_next (block_read ps d inner rest) (λ b rest. else_read ps d inner q b rest))) read

  pub if_some : (q : Test) (b : Block) (tokens rest more : List Token) → test_alone ps d tokens ≡ Some (q, rest) → block_read ps d inner rest ≡ Some (b, more)
      → stmt_read ps d inner (t.Word w.If ∷ tokens) ≡ else_read ps d inner q b more
  if_some q b tokens rest more read body = if_read q tokens rest read ∙ ap (λ z. and_next z (λ b rest. else_read ps d inner q b rest)) body

  pub if_none : (q : Test) (tokens rest : List Token) → test_alone ps d tokens ≡ Some (q, rest) → block_read ps d inner rest ≡ None → stmt_read ps d inner (t.Word w.If ∷ tokens) ≡ None
  if_none q tokens rest read body = if_read q tokens rest read ∙ ap (λ z. and_next z (λ b rest. else_read ps d inner q b rest)) body

  pub assert_some : (q : Test) (tokens rest : List Token) → test_alone ps d tokens ≡ Some (q, rest)
      → stmt_read ps d inner (t.Word w.Assert ∷ tokens) ≡ ended assert_that q rest
  unfolding stmt_read
  assert_some q tokens rest read = ap (λ z. and_next z (ended assert_that)) read

  while_read : (q : Test) (tokens rest : List Token) → test_alone ps d tokens ≡ Some (q, rest)
      → stmt_read ps d inner (t.Word w.While ∷ tokens) ≡ and_next (block_read ps d inner rest) (λ b rest. Some (while_do q b, rest))
  unfolding stmt_read
  while_read q tokens rest read = ap (λ z. and_next z (λ q rest. and_next (block_read ps d inner rest) (λ b rest. Some (while_do q b, rest)))) read

  pub while_some : (q : Test) (b : Block) (tokens rest more : List Token) → test_alone ps d tokens ≡ Some (q, rest) → block_read ps d inner rest ≡ Some (b, more)
      → stmt_read ps d inner (t.Word w.While ∷ tokens) ≡ Some (while_do q b, more)
  while_some q b tokens rest more read body = while_read q tokens rest read ∙ ap (λ z. and_next z (λ b rest. Some (while_do q b, rest))) body

  pub while_none : (q : Test) (tokens rest : List Token) → test_alone ps d tokens ≡ Some (q, rest) → block_read ps d inner rest ≡ None → stmt_read ps d inner (t.Word w.While ∷ tokens) ≡ None
  while_none q tokens rest read body = while_read q tokens rest read ∙ ap (λ z. and_next z (λ b rest. Some (while_do q b, rest))) body

  pub for_some : (x : List ℕ) (p : Bounds) (b : Block) (made : Stmt) (tokens rest behind more : List Token) → name_equals tokens ≡ Some (x, rest) → bounds_read ps d rest ≡ Some (p, behind)
      → block_read ps d inner behind ≡ Some (b, more) → made ≡ for_to (name_value ps x) p.low p.high b → for_read ps d inner tokens ≡ Some (made, more)
  unfolding for_read
  for_some x p b made tokens rest behind more named read body is =
      ap (λ z. and_next z (λ x rest. and_next (bounds_read ps d rest) (for_body x))) named
      ∙ ap (λ z. and_next z (for_body x)) read
      ∙ ap (λ z. and_next z (λ b rest. Some (for_to (name_value ps x) p.low p.high b, rest))) body
      ∙ ap (λ z. Some (z, more)) (sym is)

  pub let_some : (x : List ℕ) (e : Expr) (b : Block) (made : Stmt) (tokens rest behind more : List Token) → name_equals tokens ≡ Some (x, rest) → expr_alone ps d rest ≡ Some (e, behind)
      → block_read ps d inner behind ≡ Some (b, more) → made ≡ let_in (name_value ps x) e b → let_read ps d inner tokens ≡ Some (made, more)
  unfolding let_read
  let_some x e b made tokens rest behind more named read body is =
      ap (λ z. and_next z (λ x rest. and_next (expr_alone ps d rest) (λ e rest. and_next (block_read ps d inner rest) (λ b rest. Some (let_in (name_value ps x) e b, rest))))) named
      ∙ ap (λ z. and_next z (λ e rest. and_next (block_read ps d inner rest) (λ b rest. Some (let_in (name_value ps x) e b, rest)))) read
      ∙ ap (λ z. and_next z (λ b rest. Some (let_in (name_value ps x) e b, rest))) body
      ∙ ap (λ z. Some (z, more)) (sym is)

  -- ---- behind a name
  named_place : (x : List ℕ) (tokens : List Token) → ((rest : List Token) → ¬ (tokens ≡ t.Sign s.Semicolon ∷ rest))
      → stmt_read ps d inner (t.Name x ∷ tokens) ≡ and_next (written_indices ps d tokens) (assigned_read ps d inner x)
  unfolding stmt_read
  named_place x (t.Sign s.Semicolon ∷ rest) other = absurd (other rest refl)
  named_place x _ other = refl

  pub place_some : (x : List ℕ) (indices : List Expr) (k : ℕ) (tokens rest : List Token) → ((more : List Token) → ¬ (tokens ≡ t.Sign s.Semicolon ∷ more))
      → brackets_read (index_apart ps d) 0 tokens ≡ Some (indices, k, rest) → stmt_read ps d inner (t.Name x ∷ tokens) ≡ assigned_read ps d inner x indices rest
  unfolding written_indices
  place_some x indices k tokens rest other read = named_place x tokens other ∙ ap (λ z. and_next (alone z) (assigned_read ps d inner x)) read

  pub place_none : (x : List ℕ) (tokens : List Token) → ((more : List Token) → ¬ (tokens ≡ t.Sign s.Semicolon ∷ more))
      → brackets_read (index_apart ps d) 0 tokens ≡ None → stmt_read ps d inner (t.Name x ∷ tokens) ≡ None
  unfolding written_indices
  place_none x tokens other read = named_place x tokens other ∙ ap (λ z. and_next (alone z) (assigned_read ps d inner x)) read

-- ---- the loop over statements
abbrev pub with_block : Block → ReadStmt Block → ReadStmt Block
with_block found read = option_map (λ p. (append found p.0, p.1)) read

with_one : (found : Block) (a : Stmt) (read : ReadStmt Block) → with_block found (and_next read (λ b rest. Some (stmt a b, rest))) ≡ with_block (append found (stmt a empty)) read
with_one found a None = refl
with_one found a (Some p) = ap (λ z. Some (z, p.1)) (sym (append-assoc found (stmt a empty) p.0))

module _ (ps : List Param) (d : ℕ) (inner : List Token → ReadStmt Block) where
  many_turn : (found : Block) (n at : ℕ) (rest : List Token) (whole : ReadStmt Block) → at < n → is_end rest ≡ false → with_block found (many_read ps d inner (n - at) rest) ≡ whole
      → whole ≡ with_block found (and_next (stmt_read ps d inner rest) (λ a rest. and_next (many_read ps d inner (n - (at + 1)) rest) (λ b rest. Some (stmt a b, rest))))
  unfolding many_read
  many_turn found n at rest whole below more inv =
      let turns : n - at ≡ suc (n - (at + 1)) = omega (arith, below) in
      sym inv ∙ ap (λ z. with_block found (many_read ps d inner z rest)) turns
      ∙ ap (λ z. with_block found (if z then Some (empty, rest) else and_next (stmt_read ps d inner rest) (λ a rest. and_next (many_read ps d inner (n - (at + 1)) rest) (λ b rest. Some (stmt a b, rest))))) more

  pub many_more : (found all : Block) (a : Stmt) (n at : ℕ) (rest after : List Token) (whole : ReadStmt Block) → at < n → is_end rest ≡ false → with_block found (many_read ps d inner (n - at) rest) ≡ whole
      → stmt_read ps d inner rest ≡ Some (a, after) → all ≡ append found (stmt a empty) → with_block all (many_read ps d inner (n - (at + 1)) after) ≡ whole
  many_more found all a n at rest after whole below more inv read made =
      ap (λ z. with_block z (many_read ps d inner (n - (at + 1)) after)) made
      ∙ sym (many_turn found n at rest whole below more inv
      ∙ ap (λ z. with_block found (and_next z (λ a rest. and_next (many_read ps d inner (n - (at + 1)) rest) (λ b rest. Some (stmt a b, rest))))) read
      ∙ with_one found a (many_read ps d inner (n - (at + 1)) after))

  pub many_unread : (found : Block) (n at : ℕ) (rest : List Token) (whole : ReadStmt Block) → at < n → is_end rest ≡ false → with_block found (many_read ps d inner (n - at) rest) ≡ whole
      → stmt_read ps d inner rest ≡ None → whole ≡ None
  many_unread found n at rest whole below more inv read =
      many_turn found n at rest whole below more inv
      ∙ ap (λ z. with_block found (and_next z (λ a rest. and_next (many_read ps d inner (n - (at + 1)) rest) (λ b rest. Some (stmt a b, rest))))) read

  -- at the end, and after all turns
  pub many_end : (found : Block) (n : ℕ) (rest : List Token) (whole : ReadStmt Block) → is_end rest ≡ true → with_block found (many_read ps d inner n rest) ≡ whole → whole ≡ Some (found, rest)
  unfolding many_read
  many_end found zero rest whole end inv = sym inv ∙ ap (λ z. Some (z, rest)) (append-empty found)
  many_end found (suc n) rest whole end inv =
      sym inv
      ∙ ap (λ z. with_block found (if z then Some (empty, rest) else and_next (stmt_read ps d inner rest) (λ a rest. and_next (many_read ps d inner n rest) (λ b rest. Some (stmt a b, rest))))) end
      ∙ ap (λ z. Some (z, rest)) (append-empty found)

  pub many_out : (found : Block) (n at : ℕ) (rest : List Token) (whole : ReadStmt Block) → n ≤ at → with_block found (many_read ps d inner (n - at) rest) ≡ whole → whole ≡ Some (found, rest)
  unfolding many_read
  many_out found n at rest whole past inv =
      let none : n - at ≡ 0 = omega (arith, past) in
      sym inv ∙ ap (λ z. with_block found (many_read ps d inner z rest)) none ∙ ap (λ z. Some (z, rest)) (append-empty found)
