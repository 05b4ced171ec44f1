-- What is read as an expression has a derivation tree: of its tokens, value, levels and operators. The same of terms,
-- factors, and the indices behind a name.
use Rattle.std.proofs.Common.{◌≡◌, ℕ, zero, suc, ◌+◌, ◌-◌, ◌^◌, ◌<◌, max, min, Bool, true, false, List, [], ◌∷◌, ◌++◌, cond, nat_lt, length, None, Some, pos, negsuc, sym, ◌∙◌, ap, subst, refl, append_assoc, rules, arith}
use Rattle.std.proofs.lemmas.Option.{none-some, same_Some}
use Rattle.toy_imp.specs.declared.param.Param.{Param}
use Rattle.toy_imp.specs.Expr.{Expr, num, add, sub, mul}
use Rattle.toy_imp.specs.ExprView.{exprs_of}
use Rattle.toy_imp.specs.ExprGrammar.{ExprTree, term, plus, minus, TermTree, factor, times, FactorTree, numeral, negative, cell, group, PlaceTree, variable, index_1, index_2, index_3, widest, place_name, expr_value, term_value, factor_value, indices_value, expr_levels, term_levels, factor_levels, place_levels, expr_operators, term_operators, factor_operators, place_operators}
use Rattle.toy_imp.specs.Parameters.{cell_value}
use Rattle.pec_text.specs.Spelling.{numeral_of}
use Rattle.pec_text.specs.declared.token.Numeral.{Numeral}
use Rattle.pec_text.specs.declared.token.Numeral.TheVariants as n
use Rattle.pec_text.specs.declared.token.Sign.TheVariants as s
use Rattle.pec_text.specs.declared.token.Token.{Token}
use Rattle.pec_text.specs.declared.token.Token.TheVariants as t
use Rattle.program_reader.specs.Read.{Read, constant_of, negative_of}
use Rattle.program_reader.specs.TreeTokens.{expr_tokens, term_tokens, factor_tokens, place_tokens}
use Rattle.program_reader.specs.ExprReading.{behind_index, indices_read, brackets_read, constant_read, closed, factor_read, products_read, term_read, sums_read, sum_read, expr_read}
use Rattle.program_reader.proofs.ReadSteps.{then_some}

-- an expression of fewer than d levels stands in front, and its operators are taken off the j that may come
pub record HasExpr (ps : List Param) (d j : ℕ) (tokens : List Token) (p : Expr × ℕ × List Token) : Type 0 where
  pub tree : ExprTree
  pub spelled : tokens ≡ expr_tokens tree ++ p.2
  pub value : expr_value ps tree ≡ p.0
  pub shallow : expr_levels tree < d
  pub counted : j ≡ expr_operators tree + p.1

pub record HasTerm (ps : List Param) (d j : ℕ) (tokens : List Token) (p : Expr × ℕ × List Token) : Type 0 where
  pub tree : TermTree
  pub spelled : tokens ≡ term_tokens tree ++ p.2
  pub value : term_value ps tree ≡ p.0
  pub shallow : term_levels tree < d
  pub counted : j ≡ term_operators tree + p.1

pub record HasFactor (ps : List Param) (d j : ℕ) (tokens : List Token) (p : Expr × ℕ × List Token) : Type 0 where
  pub tree : FactorTree
  pub spelled : tokens ≡ factor_tokens tree ++ p.2
  pub value : factor_value ps tree ≡ p.0
  pub shallow : factor_levels tree < d
  pub counted : j ≡ factor_operators tree + p.1

-- ---- indices. How an index's operators count is left open: `counts k n m` where k may come before, it has n, and m may come after.
-- the indices up to the closing bracket, of which there is a first one
abbrev list_tokens : ExprTree → List ExprTree → List Token
list_tokens a [] = expr_tokens a ++ (t.Sign s.CloseBracket ∷ [])
list_tokens a (b ∷ more) = expr_tokens a ++ (t.Sign s.Comma ∷ list_tokens b more)

abbrev list_values : List Param → ExprTree → List ExprTree → List Expr
list_values ps a [] = expr_value ps a ∷ []
list_values ps a (b ∷ more) = expr_value ps a ∷ list_values ps b more

abbrev list_levels : ExprTree → List ExprTree → ℕ
list_levels a [] = expr_levels a
list_levels a (b ∷ more) = max (expr_levels a) (list_levels b more)

abbrev list_counts : (ℕ → ℕ → ℕ → Type 0) → ExprTree → List ExprTree → ℕ → ℕ → Type 0
list_counts counts a [] k m = counts k (expr_operators a) m
list_counts counts a (b ∷ more) k m = (i : ℕ) × counts k (expr_operators a) i × list_counts counts b more i m

abbrev pub place_counts : (ℕ → ℕ → ℕ → Type 0) → PlaceTree → ℕ → ℕ → Type 0
place_counts counts (variable x) k m = k ≡ m
place_counts counts (index_1 x a) k m = counts k (expr_operators a) m
place_counts counts (index_2 x a b) k m = (i : ℕ) × counts k (expr_operators a) i × counts i (expr_operators b) m
place_counts counts (index_3 x a b c) k m = (i : ℕ) × counts k (expr_operators a) i × ((l : ℕ) × counts i (expr_operators b) l × counts l (expr_operators c) m)

pub record HasIndex (counts : ℕ → ℕ → ℕ → Type 0) (ps : List Param) (d k : ℕ) (tokens : List Token) (p : Expr × ℕ × List Token) : Type 0 where
  pub tree : ExprTree
  pub spelled : tokens ≡ expr_tokens tree ++ p.2
  pub value : expr_value ps tree ≡ p.0
  pub shallow : expr_levels tree < d
  pub counted : counts k (expr_operators tree) p.1

record HasIndices (counts : ℕ → ℕ → ℕ → Type 0) (ps : List Param) (d n k : ℕ) (tokens : List Token) (p : List Expr × ℕ × List Token) : Type 0 where
  first : ExprTree
  more : List ExprTree
  few : length more < n
  spelled : tokens ≡ list_tokens first more ++ p.2
  values : list_values ps first more ≡ p.0
  shallow : list_levels first more < d
  counted : list_counts counts first more k p.1

-- the place of name x whose name stands before the tokens
pub record HasPlace (counts : ℕ → ℕ → ℕ → Type 0) (ps : List Param) (d : ℕ) (x : List ℕ) (k : ℕ) (tokens : List Token) (p : List Expr × ℕ × List Token) : Type 0 where
  pub tree : PlaceTree
  pub named : place_name tree ≡ x
  pub spelled : ◌≡◌ {A = List Token} (t.Name x ∷ tokens) (place_tokens tree ++ p.2)
  pub values : indices_value ps tree ≡ exprs_of p.0
  pub shallow : place_levels tree < suc d
  pub counted : place_counts counts tree k p.1

module _ (counts : ℕ → ℕ → ℕ → Type 0) (ps : List Param) (d : ℕ) (inner : ℕ → List Token → Read Expr)
    (inner_has : (k : ℕ) (tokens : List Token) (p : Expr × ℕ × List Token) → inner k tokens ≡ Some p → HasIndex counts ps d k tokens p) where
  last_has : (n k : ℕ) (tokens : List Token) (q : Expr × ℕ × List Token) (rest : List Token) → HasIndex counts ps d k tokens q → q.2 ≡ t.Sign s.CloseBracket ∷ rest
      → HasIndices counts ps d (suc n) k tokens (q.0 ∷ [], q.1, rest)
  last_has n k tokens q rest has e = record {
    first = has.tree;
    more = [];
    few = omega arith;
    spelled = has.spelled ∙ ap (λ z. expr_tokens has.tree ++ z) e ∙ sym (append_assoc (expr_tokens has.tree) (t.Sign s.CloseBracket ∷ []) rest);
    values = ap (λ z. z ∷ []) has.value;
    shallow = has.shallow;
    counted = has.counted;
  }

  one_more_has : (n k : ℕ) (tokens : List Token) (q : Expr × ℕ × List Token) (rest : List Token) (r : List Expr × ℕ × List Token)
      → HasIndex counts ps d k tokens q → q.2 ≡ t.Sign s.Comma ∷ rest → HasIndices counts ps d n q.1 rest r
      → HasIndices counts ps d (suc n) k tokens (q.0 ∷ r.0, r.1, r.2)
  one_more_has n k tokens q rest r has e others =
      let following : List Token = list_tokens others.first others.more in
      record {
        first = has.tree;
        more = others.first ∷ others.more;
        few = let h : length others.more < n = others.few in omega arith;
        spelled = has.spelled ∙ ap (λ z. expr_tokens has.tree ++ z) (e ∙ ap (λ z. t.Sign s.Comma ∷ z) others.spelled)
            ∙ sym (append_assoc (expr_tokens has.tree) (t.Sign s.Comma ∷ following) r.2);
        values = ap (λ z. z ∷ list_values ps others.first others.more) has.value ∙ ap (λ z. q.0 ∷ z) others.values;
        shallow = omega (arith, has.shallow, others.shallow);
        counted = (q.1, has.counted, others.counted);
      }

  behind_has : (n k : ℕ) (tokens : List Token) (q : Expr × ℕ × List Token) (p : List Expr × ℕ × List Token) (more : ℕ → List Token → Read (List Expr)) (rest : List Token)
      → HasIndex counts ps d k tokens q → q.2 ≡ rest
      → ((k : ℕ) (tokens : List Token) (r : List Expr × ℕ × List Token) → more k tokens ≡ Some r → HasIndices counts ps d n k tokens r)
      → behind_index inner more q.0 q.1 rest ≡ Some p → HasIndices counts ps d (suc n) k tokens p
  behind_has n k tokens q p more (t.Sign s.CloseBracket ∷ rest) has e others h =
      subst (HasIndices counts ps d (suc n) k tokens) (same_Some _ _ h) (last_has n k tokens q rest has e)
  behind_has n k tokens q p more (t.Sign s.Comma ∷ rest) has e others h =
      let m = then_some (more q.1 rest) (λ es k rest. Some (q.0 ∷ es, k, rest)) p h in
      subst (HasIndices counts ps d (suc n) k tokens) (same_Some _ _ m.2) (one_more_has n k tokens q rest m.0 has e (others q.1 rest m.0 m.1))
  behind_has n k tokens q p more _ has e others h = absurd (none-some _ h)

  indices_have : (n k : ℕ) (tokens : List Token) (p : List Expr × ℕ × List Token) → indices_read inner n k tokens ≡ Some p → HasIndices counts ps d n k tokens p
  unfolding indices_read
  indices_have zero k tokens p h = absurd (none-some _ h)
  indices_have (suc n) k tokens p h =
      let m = then_some (inner k tokens) (behind_index inner (λ k rest. indices_read inner n k rest)) p h in
      behind_has n k tokens m.0 p (λ k rest. indices_read inner n k rest) m.0.2 (inner_has k tokens m.0 m.1) refl (λ k tokens r. indices_have n k tokens r) m.2

  place_of : (x : List ℕ) (a : ExprTree) (more : List ExprTree) (k : ℕ) (tokens : List Token) (p : List Expr × ℕ × List Token) → length more < 3
      → tokens ≡ list_tokens a more ++ p.2 → list_values ps a more ≡ p.0 → list_levels a more < d → list_counts counts a more k p.1
      → HasPlace counts ps d x k (t.Sign s.OpenBracket ∷ tokens) p
  place_of x a [] k tokens p few spelled values shallow counted = record {
    tree = index_1 x a;
    named = refl;
    spelled = ap (λ z. t.Name x ∷ t.Sign s.OpenBracket ∷ z) spelled;
    values = ap exprs_of values;
    shallow = omega arith;
    counted = counted;
  }
  place_of x a (b ∷ []) k tokens p few spelled values shallow counted = record {
    tree = index_2 x a b;
    named = refl;
    spelled = ap (λ z. t.Name x ∷ t.Sign s.OpenBracket ∷ z) spelled;
    values = ap exprs_of values;
    shallow = omega arith;
    counted = counted;
  }
  place_of x a (b ∷ c ∷ []) k tokens p few spelled values shallow counted = record {
    tree = index_3 x a b c;
    named = refl;
    spelled = ap (λ z. t.Name x ∷ t.Sign s.OpenBracket ∷ z) spelled;
    values = ap exprs_of values;
    shallow = omega arith;
    counted = counted;
  }
  place_of x a (b ∷ c ∷ e ∷ more) k tokens p few spelled values shallow counted = absurd (omega arith)

  no_brackets : (x : List ℕ) (k : ℕ) (tokens : List Token) (p : List Expr × ℕ × List Token) → Some ([], k, tokens) ≡ Some p → HasPlace counts ps d x k tokens p
  no_brackets x k tokens p h = subst (HasPlace counts ps d x k tokens) (same_Some _ _ h) (record {
    tree = variable x;
    named = refl;
    spelled = refl;
    values = refl;
    shallow = omega arith;
    counted = refl;
  })

  pub brackets_have : (x : List ℕ) (k : ℕ) (tokens : List Token) (p : List Expr × ℕ × List Token) → brackets_read inner k tokens ≡ Some p → HasPlace counts ps d x k tokens p
  unfolding brackets_read
  brackets_have x k (t.Sign s.OpenBracket ∷ rest) p h =
      let has = indices_have 3 k rest p h in
      place_of x has.first has.more k rest p has.few has.spelled has.values has.shallow has.counted
  brackets_have x k tokens p h = no_brackets x k _ p h

-- ---- numerals
below : (k n : ℕ) → nat_lt k n ≡ true → k < n
below k n h = search rules

constant_has : (ps : List Param) (d m j : ℕ) (rest : List Token) (p : Expr × ℕ × List Token) (b : Bool) → nat_lt m (2 ^ 63) ≡ b
    → constant_read (cond b (Some (pos m)) None) j rest ≡ Some p → HasFactor ps (suc d) j (t.Number (n.Value m) ∷ rest) p
constant_has ps d m j rest p false e h = absurd (none-some _ h)
constant_has ps d m j rest p true e h =
    let small : m < 2 ^ 63 = below m (2 ^ 63) e in
    let same : numeral_of m ≡ n.Value m = ap (λ b. cond b (n.Value m) n.Wide) e in
    let least : min m widest ≡ m = omega arith in
    subst (HasFactor ps (suc d) j (t.Number (n.Value m) ∷ rest)) (same_Some _ _ h) (record {
      tree = numeral m;
      spelled = ap (λ z. t.Number z ∷ rest) (sym same);
      value = ap (λ z. num (pos z)) least;
      shallow = omega arith;
      counted = omega arith;
    })

pub number_has : (ps : List Param) (d : ℕ) (m : Numeral) (j : ℕ) (rest : List Token) (p : Expr × ℕ × List Token) → constant_read (constant_of m) j rest ≡ Some p
    → HasFactor ps (suc d) j (t.Number m ∷ rest) p
number_has ps d (n.Value m) j rest p h = constant_has ps d m j rest p (nat_lt m (2 ^ 63)) refl h
number_has ps d n.Wide j rest p h = subst (HasFactor ps (suc d) j (t.Number n.Wide ∷ rest)) (same_Some _ _ h) (record {
  tree = numeral (2 ^ 63);
  spelled = refl;
  value = refl;
  shallow = omega arith;
  counted = omega arith;
})

minus_has : (ps : List Param) (d m j : ℕ) (rest : List Token) (p : Expr × ℕ × List Token) (b : Bool) → nat_lt (suc m) (2 ^ 63) ≡ b
    → constant_read (cond b (Some (negsuc m)) None) j rest ≡ Some p → HasFactor ps (suc d) j (t.Sign s.Minus ∷ t.Number (n.Value (suc m)) ∷ rest) p
minus_has ps d m j rest p false e h = absurd (none-some _ h)
minus_has ps d m j rest p true e h =
    let small : suc m < 2 ^ 63 = below (suc m) (2 ^ 63) e in
    let same : numeral_of (suc m) ≡ n.Value (suc m) = ap (λ b. cond b (n.Value (suc m)) n.Wide) e in
    let least : min m (widest - 1) ≡ m = omega arith in
    subst (HasFactor ps (suc d) j (t.Sign s.Minus ∷ t.Number (n.Value (suc m)) ∷ rest)) (same_Some _ _ h) (record {
      tree = negative m;
      spelled = ap (λ z. t.Sign s.Minus ∷ t.Number z ∷ rest) (sym same);
      value = ap (λ z. num (negsuc z)) least;
      shallow = omega arith;
      counted = omega arith;
    })

pub negative_has : (ps : List Param) (d : ℕ) (m : Numeral) (j : ℕ) (rest : List Token) (p : Expr × ℕ × List Token) → constant_read (negative_of m) j rest ≡ Some p
    → HasFactor ps (suc d) j (t.Sign s.Minus ∷ t.Number m ∷ rest) p
negative_has ps d (n.Value zero) j rest p h = absurd (none-some _ h)
negative_has ps d (n.Value (suc m)) j rest p h = minus_has ps d m j rest p (nat_lt (suc m) (2 ^ 63)) refl h
negative_has ps d n.Wide j rest p h = subst (HasFactor ps (suc d) j (t.Sign s.Minus ∷ t.Number n.Wide ∷ rest)) (same_Some _ _ h) (record {
  tree = negative widest;
  spelled = refl;
  value = refl;
  shallow = omega arith;
  counted = omega arith;
})

-- ---- the levels of the grammar
closed_has : (e : Expr) (k : ℕ) (tokens : List Token) (p : Expr × ℕ × List Token) → closed e k tokens ≡ Some p
    → (tokens ≡ t.Sign s.CloseParen ∷ p.2) × (e ≡ p.0) × (k ≡ p.1)
closed_has e k (t.Sign s.CloseParen ∷ rest) p h =
    let same = same_Some _ _ h in (ap (λ q. t.Sign s.CloseParen ∷ q.2) same, ap (λ q. q.0) same, ap (λ q. q.1) same)
closed_has e k _ p h = absurd (none-some _ h)

-- the operators of an index inside an expression are counted with the expression's
abbrev pub threaded : ℕ → ℕ → ℕ → Type 0
threaded k n m = k ≡ n + m

place_operators_are : (a : PlaceTree) (k m : ℕ) → place_counts threaded a k m → k ≡ place_operators a + m
place_operators_are (variable x) k m h = omega arith
place_operators_are (index_1 x a) k m h = h
place_operators_are (index_2 x a b) k m h = let first : k ≡ expr_operators a + h.0 = h.1 in let last : h.0 ≡ expr_operators b + m = h.2 in omega arith
place_operators_are (index_3 x a b c) k m h =
    let first : k ≡ expr_operators a + h.0 = h.1 in
    let second : h.0 ≡ expr_operators b + h.2.0 = h.2.1 in
    let third : h.2.0 ≡ expr_operators c + m = h.2.2 in
    omega arith

module _ (ps : List Param) (d : ℕ) (inner : ℕ → List Token → Read Expr)
    (inner_has : (k : ℕ) (tokens : List Token) (p : Expr × ℕ × List Token) → inner k tokens ≡ Some p → HasExpr ps d k tokens p) where
  index_has : (k : ℕ) (tokens : List Token) (p : Expr × ℕ × List Token) → inner k tokens ≡ Some p → HasIndex threaded ps d k tokens p
  index_has k tokens p h =
      let has = inner_has k tokens p h in
      record { tree = has.tree; spelled = has.spelled; value = has.value; shallow = has.shallow; counted = has.counted }

  cell_has : (x : List ℕ) (k : ℕ) (tokens : List Token) (q : List Expr × ℕ × List Token) → HasPlace threaded ps d x k tokens q
      → HasFactor ps (suc d) k (t.Name x ∷ tokens) (cell_value ps x (exprs_of q.0), q.1, q.2)
  cell_has x k tokens q has = record {
    tree = cell has.tree;
    spelled = has.spelled;
    value = ap (λ z. cell_value ps z (indices_value ps has.tree)) has.named ∙ ap (λ z. cell_value ps x z) has.values;
    shallow = has.shallow;
    counted = place_operators_are has.tree k q.1 has.counted;
  }

  group_has : (k : ℕ) (tokens : List Token) (q p : Expr × ℕ × List Token) → HasExpr ps d k tokens q → closed q.0 q.1 q.2 ≡ Some p
      → HasFactor ps (suc d) k (t.Sign s.OpenParen ∷ tokens) p
  group_has k tokens q p has h =
      let ends = closed_has q.0 q.1 q.2 p h in
      record {
        tree = group has.tree;
        spelled = ap (λ z. t.Sign s.OpenParen ∷ z) (has.spelled ∙ ap (λ z. expr_tokens has.tree ++ z) ends.0 ∙ sym (append_assoc (expr_tokens has.tree) (t.Sign s.CloseParen ∷ []) p.2));
        value = has.value ∙ ends.1;
        shallow = omega (arith, has.shallow);
        counted = omega (arith, has.counted, ends.2);
      }

  factor_has : (k : ℕ) (tokens : List Token) (p : Expr × ℕ × List Token) → factor_read ps inner k tokens ≡ Some p → HasFactor ps (suc d) k tokens p
  unfolding factor_read
  factor_has k (t.Number m ∷ rest) p h = number_has ps d m k rest p h
  factor_has k (t.Sign s.Minus ∷ t.Number m ∷ rest) p h = negative_has ps d m k rest p h
  factor_has k (t.Name x ∷ rest) p h =
      let m = then_some (brackets_read inner k rest) (λ es k rest. Some (cell_value ps x (exprs_of es), k, rest)) p h in
      subst (HasFactor ps (suc d) k (t.Name x ∷ rest)) (same_Some _ _ m.2) (cell_has x k rest m.0 (brackets_have threaded ps d inner index_has x k rest m.0 m.1))
  factor_has k (t.Sign s.OpenParen ∷ rest) p h =
      let m = then_some (inner k rest) closed p h in group_has k rest m.0 p (inner_has k rest m.0 m.1) m.2
  factor_has k _ p h = absurd (none-some _ h)

  -- one more factor behind the term so far
  times_has : (j k : ℕ) (front rest : List Token) (left : Expr) (q : Expr × ℕ × List Token) → HasTerm ps (suc d) j front (left, suc k, t.Sign s.Star ∷ rest)
      → HasFactor ps (suc d) k rest q → HasTerm ps (suc d) j front (mul left q.0, q.1, q.2)
  times_has j k front rest left q has next = record {
    tree = times has.tree next.tree;
    spelled = has.spelled ∙ ap (λ z. term_tokens has.tree ++ (t.Sign s.Star ∷ z)) next.spelled ∙ sym (append_assoc (term_tokens has.tree) (t.Sign s.Star ∷ factor_tokens next.tree) q.2);
    value = ap (λ z. mul z (factor_value ps next.tree)) has.value ∙ ap (mul left) next.value;
    shallow = omega (arith, has.shallow, next.shallow);
    counted = omega (arith, has.counted, next.counted);
  }

  products_have : (n j k : ℕ) (front tokens : List Token) (left : Expr) (p : Expr × ℕ × List Token) → HasTerm ps (suc d) j front (left, k, tokens)
      → products_read ps inner n left k tokens ≡ Some p → HasTerm ps (suc d) j front p
  unfolding products_read
  products_have (suc n) j (suc k) front (t.Sign s.Star ∷ rest) left p has h =
      let m = then_some (factor_read ps inner k rest) (λ e k rest. products_read ps inner n (mul left e) k rest) p h in
      products_have n j m.0.1 front m.0.2 (mul left m.0.0) p (times_has j k front rest left m.0 has (factor_has k rest m.0 m.1)) m.2
  products_have (suc n) j zero front (t.Sign s.Star ∷ rest) left p has h = absurd (none-some _ h)
  products_have n j k front tokens left p has h = subst (HasTerm ps (suc d) j front) (same_Some _ _ h) has

  term_has : (j : ℕ) (tokens : List Token) (p : Expr × ℕ × List Token) → term_read ps inner j tokens ≡ Some p → HasTerm ps (suc d) j tokens p
  unfolding term_read
  term_has j tokens p h =
      let m = then_some (factor_read ps inner j tokens) (λ e k rest. products_read ps inner (length tokens) e k rest) p h in
      let has = factor_has j tokens m.0 m.1 in
      products_have (length tokens) j m.0.1 tokens m.0.2 m.0.0 p (record { tree = factor has.tree; spelled = has.spelled; value = has.value; shallow = has.shallow; counted = has.counted }) m.2

  plus_has : (j k : ℕ) (front rest : List Token) (left : Expr) (q : Expr × ℕ × List Token) → HasExpr ps (suc d) j front (left, suc k, t.Sign s.Plus ∷ rest)
      → HasTerm ps (suc d) k rest q → HasExpr ps (suc d) j front (add left q.0, q.1, q.2)
  plus_has j k front rest left q has next = record {
    tree = plus has.tree next.tree;
    spelled = has.spelled ∙ ap (λ z. expr_tokens has.tree ++ (t.Sign s.Plus ∷ z)) next.spelled ∙ sym (append_assoc (expr_tokens has.tree) (t.Sign s.Plus ∷ term_tokens next.tree) q.2);
    value = ap (λ z. add z (term_value ps next.tree)) has.value ∙ ap (add left) next.value;
    shallow = omega (arith, has.shallow, next.shallow);
    counted = omega (arith, has.counted, next.counted);
  }

  minus_has_next : (j k : ℕ) (front rest : List Token) (left : Expr) (q : Expr × ℕ × List Token) → HasExpr ps (suc d) j front (left, suc k, t.Sign s.Minus ∷ rest)
      → HasTerm ps (suc d) k rest q → HasExpr ps (suc d) j front (sub left q.0, q.1, q.2)
  minus_has_next j k front rest left q has next = record {
    tree = minus has.tree next.tree;
    spelled = has.spelled ∙ ap (λ z. expr_tokens has.tree ++ (t.Sign s.Minus ∷ z)) next.spelled ∙ sym (append_assoc (expr_tokens has.tree) (t.Sign s.Minus ∷ term_tokens next.tree) q.2);
    value = ap (λ z. sub z (term_value ps next.tree)) has.value ∙ ap (sub left) next.value;
    shallow = omega (arith, has.shallow, next.shallow);
    counted = omega (arith, has.counted, next.counted);
  }

  sums_have : (n j k : ℕ) (front tokens : List Token) (left : Expr) (p : Expr × ℕ × List Token) → HasExpr ps (suc d) j front (left, k, tokens)
      → sums_read ps inner n left k tokens ≡ Some p → HasExpr ps (suc d) j front p
  unfolding sums_read
  sums_have (suc n) j (suc k) front (t.Sign s.Plus ∷ rest) left p has h =
      let m = then_some (term_read ps inner k rest) (λ e k rest. sums_read ps inner n (add left e) k rest) p h in
      sums_have n j m.0.1 front m.0.2 (add left m.0.0) p (plus_has j k front rest left m.0 has (term_has k rest m.0 m.1)) m.2
  sums_have (suc n) j (suc k) front (t.Sign s.Minus ∷ rest) left p has h =
      let m = then_some (term_read ps inner k rest) (λ e k rest. sums_read ps inner n (sub left e) k rest) p h in
      sums_have n j m.0.1 front m.0.2 (sub left m.0.0) p (minus_has_next j k front rest left m.0 has (term_has k rest m.0 m.1)) m.2
  sums_have (suc n) j zero front (t.Sign s.Plus ∷ rest) left p has h = absurd (none-some _ h)
  sums_have (suc n) j zero front (t.Sign s.Minus ∷ rest) left p has h = absurd (none-some _ h)
  sums_have n j k front tokens left p has h = subst (HasExpr ps (suc d) j front) (same_Some _ _ h) has

  sum_has : (j : ℕ) (tokens : List Token) (p : Expr × ℕ × List Token) → sum_read ps inner j tokens ≡ Some p → HasExpr ps (suc d) j tokens p
  unfolding sum_read
  sum_has j tokens p h =
      let m = then_some (term_read ps inner j tokens) (λ e k rest. sums_read ps inner (length tokens) e k rest) p h in
      let has = term_has j tokens m.0 m.1 in
      sums_have (length tokens) j m.0.1 tokens m.0.2 m.0.0 p (record { tree = term has.tree; spelled = has.spelled; value = has.value; shallow = has.shallow; counted = has.counted }) m.2

pub expr_has : (ps : List Param) (d j : ℕ) (tokens : List Token) (p : Expr × ℕ × List Token) → expr_read ps d j tokens ≡ Some p → HasExpr ps d j tokens p
unfolding expr_read
expr_has ps zero j tokens p h = absurd (none-some _ h)
expr_has ps (suc d) j tokens p h = sum_has ps d (λ k rest. expr_read ps d k rest) (λ k rest q. expr_has ps d k rest q) j tokens p h
