-- The tokens of a derivation tree of an expression are read as its value, whatever stands behind that does not go on with
-- it. A loop is stated with its turns still to come: where a term has been read with n turns left, n turns follow it.
use Rattle.std.proofs.Common.{◌≡◌, ℕ, zero, suc, ◌+◌, ◌-◌, ◌^◌, ◌<◌, ◌≤◌, min, Bool, true, false, List, [], ◌∷◌, ◌++◌, cond, nat_lt, length, None, Some, pos, negsuc, sym, ◌∙◌, ap, refl, append_assoc, length-append, rules, arith}
use Rattle.toy_imp.specs.declared.param.Param.{Param}
use Rattle.toy_imp.specs.Expr.{Expr, num, add, sub, mul}
use Rattle.toy_imp.specs.ExprView.{exprs_of}
use Rattle.toy_imp.specs.ExprGrammar.{ExprTree, term, plus, minus, TermTree, factor, times, FactorTree, numeral, negative, cell, group, PlaceTree, variable, index_1, index_2, index_3, widest, place_name, expr_value, term_value, factor_value, indices_value, expr_levels, term_levels, factor_levels, place_levels, expr_operators, term_operators, factor_operators, place_operators}
use Rattle.toy_imp.specs.Parameters.{cell_value}
use Rattle.pec_text.specs.declared.token.Numeral.TheVariants as n
use Rattle.pec_text.specs.declared.token.Sign.TheVariants as s
use Rattle.pec_text.specs.declared.token.Token.{Token}
use Rattle.pec_text.specs.declared.token.Token.TheVariants as t
use Rattle.program_reader.specs.Read.{Read, and_then, constant_of, negative_of}
use Rattle.program_reader.specs.TreeTokens.{expr_tokens, term_tokens, factor_tokens, place_tokens}
use Rattle.program_reader.specs.ExprReading.{behind_index, indices_read, brackets_read, constant_read, closed, factor_read, products_read, term_read, sums_read, sum_read, expr_read}
use Rattle.program_reader.proofs.ExprSound.{place_counts, threaded}

-- ---- what goes on with a factor, a term and an expression
abbrev pub continues_factor : List Token → Bool
continues_factor (t.Sign s.OpenBracket ∷ rest) = true
continues_factor _ = false

abbrev pub continues_term : List Token → Bool
continues_term (t.Sign s.OpenBracket ∷ rest) = true
continues_term (t.Sign s.Star ∷ rest) = true
continues_term _ = false

abbrev pub continues_expr : List Token → Bool
continues_expr (t.Sign s.OpenBracket ∷ rest) = true
continues_expr (t.Sign s.Star ∷ rest) = true
continues_expr (t.Sign s.Plus ∷ rest) = true
continues_expr (t.Sign s.Minus ∷ rest) = true
continues_expr _ = false

factor_ends : (rest : List Token) → continues_term rest ≡ false → continues_factor rest ≡ false
factor_ends (t.Sign s.OpenBracket ∷ rest) h = h
factor_ends _ h = refl

term_ends : (rest : List Token) → continues_expr rest ≡ false → continues_term rest ≡ false
term_ends (t.Sign s.OpenBracket ∷ rest) h = h
term_ends (t.Sign s.Star ∷ rest) h = h
term_ends _ h = refl

-- ---- numerals
below : (k n : ℕ) → nat_lt k n ≡ true → k < n
below k n h = search rules

above : (k n : ℕ) → nat_lt k n ≡ false → n ≤ k
above k n h = search rules

constant_is : (m : ℕ) (b : Bool) → nat_lt m (2 ^ 63) ≡ b → constant_of (cond b (n.Value m) n.Wide) ≡ Some (pos (min m widest))
constant_is m true e =
    let small : m < 2 ^ 63 = below m (2 ^ 63) e in
    let least : m ≡ min m widest = omega arith in
    ap (λ b. cond b (Some (pos m)) None) e ∙ ap (λ z. Some (pos z)) least
constant_is m false e =
    let wide : 2 ^ 63 ≤ m = above m (2 ^ 63) e in
    let least : widest ≡ min m widest = omega arith in
    ap (λ z. Some (pos z)) least

negative_is : (m : ℕ) (b : Bool) → nat_lt (suc m) (2 ^ 63) ≡ b → negative_of (cond b (n.Value (suc m)) n.Wide) ≡ Some (negsuc (min m (widest - 1)))
negative_is m true e =
    let small : suc m < 2 ^ 63 = below (suc m) (2 ^ 63) e in
    let least : m ≡ min m (widest - 1) = omega arith in
    ap (λ b. cond b (Some (negsuc m)) None) e ∙ ap (λ z. Some (negsuc z)) least
negative_is m false e =
    let wide : 2 ^ 63 ≤ suc m = above (suc m) (2 ^ 63) e in
    let least : widest - 1 ≡ min m (widest - 1) = omega arith in
    ap (λ z. Some (negsuc z)) least

-- ---- the indices behind a name
abbrev pub bracket_tokens : PlaceTree → List Token
bracket_tokens (variable x) = []
bracket_tokens (index_1 x a) = t.Sign s.OpenBracket ∷ (expr_tokens a ++ (t.Sign s.CloseBracket ∷ []))
bracket_tokens (index_2 x a b) = t.Sign s.OpenBracket ∷ (expr_tokens a ++ (t.Sign s.Comma ∷ (expr_tokens b ++ (t.Sign s.CloseBracket ∷ []))))
bracket_tokens (index_3 x a b c) = t.Sign s.OpenBracket ∷ (expr_tokens a ++ (t.Sign s.Comma ∷ (expr_tokens b ++ (t.Sign s.Comma ∷ (expr_tokens c ++ (t.Sign s.CloseBracket ∷ []))))))

abbrev pub index_values : List Param → PlaceTree → List Expr
index_values ps (variable x) = []
index_values ps (index_1 x a) = expr_value ps a ∷ []
index_values ps (index_2 x a b) = expr_value ps a ∷ expr_value ps b ∷ []
index_values ps (index_3 x a b c) = expr_value ps a ∷ expr_value ps b ∷ expr_value ps c ∷ []

pub place_tokens_are : (a : PlaceTree) → place_tokens a ≡ t.Name (place_name a) ∷ bracket_tokens a
place_tokens_are (variable x) = refl
place_tokens_are (index_1 x a) = refl
place_tokens_are (index_2 x a b) = refl
place_tokens_are (index_3 x a b c) = refl

pub index_values_are : (ps : List Param) (a : PlaceTree) → exprs_of (index_values ps a) ≡ indices_value ps a
index_values_are ps (variable x) = refl
index_values_are ps (index_1 x a) = refl
index_values_are ps (index_2 x a b) = refl
index_values_are ps (index_3 x a b c) = refl

no_index_read : (inner : ℕ → List Token → Read Expr) (k : ℕ) (rest : List Token) → continues_factor rest ≡ false → brackets_read inner k rest ≡ Some ([], k, rest)
unfolding brackets_read
no_index_read inner k (t.Sign s.OpenBracket ∷ rest) h = cc
no_index_read inner k _ h = refl

module _ (counts : ℕ → ℕ → ℕ → Type 0) (ps : List Param) (d : ℕ) (inner : ℕ → List Token → Read Expr)
    (inner_reads : (a : ExprTree) (k m : ℕ) (rest : List Token) → expr_levels a < d → counts k (expr_operators a) m → continues_expr rest ≡ false
    → inner k (expr_tokens a ++ rest) ≡ Some (expr_value ps a, m, rest)) where
  last_read : (n k m : ℕ) (a : ExprTree) (rest : List Token) → expr_levels a < d → counts k (expr_operators a) m
      → indices_read inner (suc n) k ((expr_tokens a ++ (t.Sign s.CloseBracket ∷ [])) ++ rest) ≡ Some (expr_value ps a ∷ [], m, rest)
  unfolding indices_read
  last_read n k m a rest low c =
      ap (λ z. and_then (inner k z) (behind_index inner (λ k rest. indices_read inner n k rest))) (append_assoc (expr_tokens a) (t.Sign s.CloseBracket ∷ []) rest)
      ∙ ap (λ z. and_then z (behind_index inner (λ k rest. indices_read inner n k rest))) (inner_reads a k m (t.Sign s.CloseBracket ∷ rest) low c refl)

  next_read : (n k m : ℕ) (a : ExprTree) (others rest : List Token) → expr_levels a < d → counts k (expr_operators a) m
      → indices_read inner (suc n) k ((expr_tokens a ++ (t.Sign s.Comma ∷ others)) ++ rest)
      ≡ and_then (indices_read inner n m (others ++ rest)) (λ es k rest. Some (expr_value ps a ∷ es, k, rest))
  unfolding indices_read
  next_read n k m a others rest low c =
      ap (λ z. and_then (inner k z) (behind_index inner (λ k rest. indices_read inner n k rest))) (append_assoc (expr_tokens a) (t.Sign s.Comma ∷ others) rest)
      ∙ ap (λ z. and_then z (behind_index inner (λ k rest. indices_read inner n k rest))) (inner_reads a k m (t.Sign s.Comma ∷ (others ++ rest)) low c refl)

  pub brackets_are_read : (a : PlaceTree) (k m : ℕ) (rest : List Token) → place_levels a < suc d → place_counts counts a k m → continues_factor rest ≡ false
      → brackets_read inner k (bracket_tokens a ++ rest) ≡ Some (index_values ps a, m, rest)
  unfolding brackets_read
  brackets_are_read (variable x) k m rest low c h = no_index_read inner k rest h ∙ ap (λ z. Some ([], z, rest)) c
  brackets_are_read (index_1 x a) k m rest low c h = last_read 2 k m a rest (omega arith) c
  brackets_are_read (index_2 x a b) k m rest low c h =
      next_read 2 k c.0 a (expr_tokens b ++ (t.Sign s.CloseBracket ∷ [])) rest (omega arith) c.1
      ∙ ap (λ r. and_then r (λ es k rest. Some (expr_value ps a ∷ es, k, rest))) (last_read 1 c.0 m b rest (omega arith) c.2)
  brackets_are_read (index_3 x a b e) k m rest low c h =
      next_read 2 k c.0 a (expr_tokens b ++ (t.Sign s.Comma ∷ (expr_tokens e ++ (t.Sign s.CloseBracket ∷ [])))) rest (omega arith) c.1
      ∙ ap (λ r. and_then r (λ es k rest. Some (expr_value ps a ∷ es, k, rest)))
      (next_read 1 c.0 c.2.0 b (expr_tokens e ++ (t.Sign s.CloseBracket ∷ [])) rest (omega arith) c.2.1
      ∙ ap (λ r. and_then r (λ es k rest. Some (expr_value ps b ∷ es, k, rest))) (last_read 0 c.2.0 m e rest (omega arith) c.2.2))

place_counts_are : (a : PlaceTree) (k m : ℕ) → k ≡ place_operators a + m → place_counts threaded a k m
place_counts_are (variable x) k m h = omega arith
place_counts_are (index_1 x a) k m h = h
place_counts_are (index_2 x a b) k m h =
    let first : k ≡ expr_operators a + (expr_operators b + m) = omega arith in (expr_operators b + m, first, refl)
place_counts_are (index_3 x a b c) k m h =
    let first : k ≡ expr_operators a + (expr_operators b + (expr_operators c + m)) = omega arith in
    (expr_operators b + (expr_operators c + m), first, (expr_operators c + m, refl, refl))

-- ---- how many turns a loop takes: the count at its begin, where n turns follow the tree
abbrev stars : TermTree → ℕ → ℕ
stars (factor a) n = n
stars (times a b) n = stars a (suc n)

abbrev signs : ExprTree → ℕ → ℕ
signs (term a) n = n
signs (plus a b) n = signs a (suc n)
signs (minus a b) n = signs a (suc n)

stars_are : (a : TermTree) (n : ℕ) → stars a n ≡ stars a 0 + n
stars_are (factor a) n = omega arith
stars_are (times a b) n = let more = stars_are a (suc n) in let first = stars_are a 1 in omega arith

signs_are : (a : ExprTree) (n : ℕ) → signs a n ≡ signs a 0 + n
signs_are (term a) n = omega arith
signs_are (plus a b) n = let more = signs_are a (suc n) in let first = signs_are a 1 in omega arith
signs_are (minus a b) n = let more = signs_are a (suc n) in let first = signs_are a 1 in omega arith

stars_fit : (a : TermTree) → stars a 0 ≤ length (term_tokens a)
stars_fit (factor a) = omega arith
stars_fit (times a b) =
    let first = stars_are a 1 in
    let fits = stars_fit a in
    let joined = length-append (term_tokens a) (t.Sign s.Star ∷ factor_tokens b) in
    omega arith

signs_fit : (a : ExprTree) → signs a 0 ≤ length (expr_tokens a)
signs_fit (term a) = omega arith
signs_fit (plus a b) =
    let first = signs_are a 1 in
    let fits = signs_fit a in
    let joined = length-append (expr_tokens a) (t.Sign s.Plus ∷ term_tokens b) in
    omega arith
signs_fit (minus a b) =
    let first = signs_are a 1 in
    let fits = signs_fit a in
    let joined = length-append (expr_tokens a) (t.Sign s.Minus ∷ term_tokens b) in
    omega arith

star_turns : (a : TermTree) (rest : List Token) → (n : ℕ) × (stars a n ≡ length (term_tokens a ++ rest))
star_turns a rest =
    let joined = length-append (term_tokens a) rest in
    let fits = stars_fit a in
    let n : ℕ = length (term_tokens a ++ rest) - stars a 0 in
    let all = stars_are a n in
    let same : stars a n ≡ length (term_tokens a ++ rest) = omega arith in
    (n, same)

sign_turns : (a : ExprTree) (rest : List Token) → (n : ℕ) × (signs a n ≡ length (expr_tokens a ++ rest))
sign_turns a rest =
    let joined = length-append (expr_tokens a) rest in
    let fits = signs_fit a in
    let n : ℕ = length (expr_tokens a ++ rest) - signs a 0 in
    let all = signs_are a n in
    let same : signs a n ≡ length (expr_tokens a ++ rest) = omega arith in
    (n, same)

-- ---- the levels of the grammar
module _ (ps : List Param) (d : ℕ) (inner : ℕ → List Token → Read Expr)
    (inner_reads : (a : ExprTree) (j k : ℕ) (rest : List Token) → expr_levels a < d → j ≡ expr_operators a + k → continues_expr rest ≡ false
    → inner j (expr_tokens a ++ rest) ≡ Some (expr_value ps a, k, rest)) where
  cell_reads : (a : PlaceTree) (j k : ℕ) (rest : List Token) → place_levels a < suc d → j ≡ place_operators a + k → continues_factor rest ≡ false
      → factor_read ps inner j (place_tokens a ++ rest) ≡ Some (factor_value ps (cell a), k, rest)
  unfolding factor_read
  cell_reads a j k rest low c h =
      ap (λ z. factor_read ps inner j (z ++ rest)) (place_tokens_are a)
      ∙ ap (λ r. and_then r (λ es k rest. Some (cell_value ps (place_name a) (exprs_of es), k, rest))) (brackets_are_read threaded ps d inner inner_reads a j k rest low (place_counts_are a j k c) h)
      ∙ ap (λ z. Some (cell_value ps (place_name a) z, k, rest)) (index_values_are ps a)

  factor_reads : (a : FactorTree) (j k : ℕ) (rest : List Token) → factor_levels a < suc d → j ≡ factor_operators a + k → continues_factor rest ≡ false
      → factor_read ps inner j (factor_tokens a ++ rest) ≡ Some (factor_value ps a, k, rest)
  unfolding factor_read
  factor_reads (numeral m) j k rest low c h =
      let same : j ≡ k = omega arith in
      ap (λ z. constant_read z j rest) (constant_is m (nat_lt m (2 ^ 63)) refl) ∙ ap (λ z. Some (num (pos (min m widest)), z, rest)) same
  factor_reads (negative m) j k rest low c h =
      let same : j ≡ k = omega arith in
      ap (λ z. constant_read z j rest) (negative_is m (nat_lt (suc m) (2 ^ 63)) refl) ∙ ap (λ z. Some (num (negsuc (min m (widest - 1))), z, rest)) same
  factor_reads (cell a) j k rest low c h = cell_reads a j k rest low c h
  factor_reads (group a) j k rest low c h =
      ap (λ z. and_then (inner j z) closed) (append_assoc (expr_tokens a) (t.Sign s.CloseParen ∷ []) rest)
      ∙ ap (λ r. and_then r closed) (inner_reads a j k (t.Sign s.CloseParen ∷ rest) (omega arith) c refl)

  products_read_of : (a : TermTree) (n j k : ℕ) (rest : List Token) → term_levels a < suc d → j ≡ term_operators a + k → continues_factor rest ≡ false
      → and_then (factor_read ps inner j (term_tokens a ++ rest)) (λ e k rest. products_read ps inner (stars a n) e k rest) ≡ products_read ps inner n (term_value ps a) k rest
  unfolding products_read
  products_read_of (factor a) n j k rest low c h = ap (λ r. and_then r (λ e k rest. products_read ps inner n e k rest)) (factor_reads a j k rest low c h)
  products_read_of (times a b) n j k rest low c h =
      let i : ℕ = factor_operators b + k in
      let first : j ≡ term_operators a + suc i = omega arith in
      ap (λ z. and_then (factor_read ps inner j z) (λ e k rest. products_read ps inner (stars a (suc n)) e k rest)) (append_assoc (term_tokens a) (t.Sign s.Star ∷ factor_tokens b) rest)
      ∙ products_read_of a (suc n) j (suc i) (t.Sign s.Star ∷ (factor_tokens b ++ rest)) (omega arith) first refl
      ∙ ap (λ r. and_then r (λ e k rest. products_read ps inner n (mul (term_value ps a) e) k rest)) (factor_reads b i k rest (omega arith) refl h)

  products_stop : (n k : ℕ) (left : Expr) (rest : List Token) → continues_term rest ≡ false → products_read ps inner n left k rest ≡ Some (left, k, rest)
  unfolding products_read
  products_stop (suc n) (suc k) left (t.Sign s.Star ∷ rest) h = cc
  products_stop (suc n) zero left (t.Sign s.Star ∷ rest) h = cc
  products_stop n k left rest h = refl

  term_reads : (a : TermTree) (j k : ℕ) (rest : List Token) → term_levels a < suc d → j ≡ term_operators a + k → continues_term rest ≡ false
      → term_read ps inner j (term_tokens a ++ rest) ≡ Some (term_value ps a, k, rest)
  unfolding term_read
  term_reads a j k rest low c h =
      let turns = star_turns a rest in
      ap (λ z. and_then (factor_read ps inner j (term_tokens a ++ rest)) (λ e k rest. products_read ps inner z e k rest)) (sym turns.1)
      ∙ products_read_of a turns.0 j k rest low c (factor_ends rest h)
      ∙ products_stop turns.0 k (term_value ps a) rest h

  sums_read_of : (a : ExprTree) (n j k : ℕ) (rest : List Token) → expr_levels a < suc d → j ≡ expr_operators a + k → continues_term rest ≡ false
      → and_then (term_read ps inner j (expr_tokens a ++ rest)) (λ e k rest. sums_read ps inner (signs a n) e k rest) ≡ sums_read ps inner n (expr_value ps a) k rest
  unfolding sums_read
  sums_read_of (term a) n j k rest low c h = ap (λ r. and_then r (λ e k rest. sums_read ps inner n e k rest)) (term_reads a j k rest low c h)
  sums_read_of (plus a b) n j k rest low c h =
      let i : ℕ = term_operators b + k in
      let first : j ≡ expr_operators a + suc i = omega arith in
      ap (λ z. and_then (term_read ps inner j z) (λ e k rest. sums_read ps inner (signs a (suc n)) e k rest)) (append_assoc (expr_tokens a) (t.Sign s.Plus ∷ term_tokens b) rest)
      ∙ sums_read_of a (suc n) j (suc i) (t.Sign s.Plus ∷ (term_tokens b ++ rest)) (omega arith) first refl
      ∙ ap (λ r. and_then r (λ e k rest. sums_read ps inner n (add (expr_value ps a) e) k rest)) (term_reads b i k rest (omega arith) refl h)
  sums_read_of (minus a b) n j k rest low c h =
      let i : ℕ = term_operators b + k in
      let first : j ≡ expr_operators a + suc i = omega arith in
      ap (λ z. and_then (term_read ps inner j z) (λ e k rest. sums_read ps inner (signs a (suc n)) e k rest)) (append_assoc (expr_tokens a) (t.Sign s.Minus ∷ term_tokens b) rest)
      ∙ sums_read_of a (suc n) j (suc i) (t.Sign s.Minus ∷ (term_tokens b ++ rest)) (omega arith) first refl
      ∙ ap (λ r. and_then r (λ e k rest. sums_read ps inner n (sub (expr_value ps a) e) k rest)) (term_reads b i k rest (omega arith) refl h)

  sums_stop : (n k : ℕ) (left : Expr) (rest : List Token) → continues_expr rest ≡ false → sums_read ps inner n left k rest ≡ Some (left, k, rest)
  unfolding sums_read
  sums_stop (suc n) (suc k) left (t.Sign s.Plus ∷ rest) h = cc
  sums_stop (suc n) (suc k) left (t.Sign s.Minus ∷ rest) h = cc
  sums_stop (suc n) zero left (t.Sign s.Plus ∷ rest) h = cc
  sums_stop (suc n) zero left (t.Sign s.Minus ∷ rest) h = cc
  sums_stop n k left rest h = refl

  sum_reads : (a : ExprTree) (j k : ℕ) (rest : List Token) → expr_levels a < suc d → j ≡ expr_operators a + k → continues_expr rest ≡ false
      → sum_read ps inner j (expr_tokens a ++ rest) ≡ Some (expr_value ps a, k, rest)
  unfolding sum_read
  sum_reads a j k rest low c h =
      let turns = sign_turns a rest in
      ap (λ z. and_then (term_read ps inner j (expr_tokens a ++ rest)) (λ e k rest. sums_read ps inner z e k rest)) (sym turns.1)
      ∙ sums_read_of a turns.0 j k rest low c (term_ends rest h)
      ∙ sums_stop turns.0 k (expr_value ps a) rest h

pub expr_reads : (ps : List Param) (d : ℕ) (a : ExprTree) (j k : ℕ) (rest : List Token) → expr_levels a < d → j ≡ expr_operators a + k → continues_expr rest ≡ false
    → expr_read ps d j (expr_tokens a ++ rest) ≡ Some (expr_value ps a, k, rest)
unfolding expr_read
expr_reads ps zero a j k rest low c h = absurd (omega arith)
expr_reads ps (suc d) a j k rest low c h = sum_reads ps d (λ k rest. expr_read ps d k rest) (λ a j k rest. expr_reads ps d a j k rest) a j k rest low c h
