-- What is read as a test has a derivation tree: of its tokens, value, levels and operators. The same of the tests that
-- `or` and `and` join.
use Rattle.std.proofs.Common.{◌≡◌, ℕ, zero, suc, ◌+◌, ◌<◌, Bool, true, false, List, [], ◌∷◌, ◌++◌, cond, length, Some, sym, ◌∙◌, ap, subst, refl, append_assoc, arith}
use Rattle.std.proofs.lemmas.Option.{none-some, same_Some}
use Rattle.toy_imp.specs.declared.param.Param.{Param}
use Rattle.toy_imp.specs.Expr.{Expr}
use Rattle.toy_imp.specs.Test.{Test, less, less_eq, equal, not_of, and_of, or_of}
use Rattle.toy_imp.specs.ExprGrammar.{expr_value}
use Rattle.toy_imp.specs.TestGrammar.{TestTree, both, either, BothTree, one, also, OneTree, negated, bracketed, named_test, below, at_most, same, test_tree_value, both_value, one_value, test_levels, both_levels, one_levels, test_operators, both_operators, one_operators}
use Rattle.toy_imp.specs.Parameters.{test_value}
use Rattle.pec_text.specs.declared.token.Sign.TheVariants as s
use Rattle.pec_text.specs.declared.token.Token.{Token}
use Rattle.pec_text.specs.declared.token.Token.TheVariants as t
use Rattle.pec_text.specs.declared.token.Word.TheVariants as w
use Rattle.program_reader.specs.Read.{Read}
use Rattle.program_reader.specs.TreeTokens.{expr_tokens, test_tokens, both_tokens, one_tokens}
use Rattle.program_reader.specs.ExprReading.{expr_read}
use Rattle.program_reader.specs.TestReading.{ands_read, both_read, ors_read, either_read, goes_on, behind_left, comparison_read, bracket_closed, one_by, one_read, test_read}
use Rattle.program_reader.proofs.ReadSteps.{then_some}
use Rattle.program_reader.proofs.ExprSound.{HasExpr, expr_has}

-- a test of fewer than d levels stands in front, and its operators are taken off the j that may come
pub record HasTest (ps : List Param) (d j : ℕ) (tokens : List Token) (p : Test × ℕ × List Token) : Type 0 where
  pub tree : TestTree
  pub spelled : tokens ≡ test_tokens tree ++ p.2
  pub value : test_tree_value ps tree ≡ p.0
  pub shallow : test_levels tree < d
  pub counted : j ≡ test_operators tree + p.1

pub record HasBoth (ps : List Param) (d j : ℕ) (tokens : List Token) (p : Test × ℕ × List Token) : Type 0 where
  pub tree : BothTree
  pub spelled : tokens ≡ both_tokens tree ++ p.2
  pub value : both_value ps tree ≡ p.0
  pub shallow : both_levels tree < d
  pub counted : j ≡ both_operators tree + p.1

pub record HasOne (ps : List Param) (d j : ℕ) (tokens : List Token) (p : Test × ℕ × List Token) : Type 0 where
  pub tree : OneTree
  pub spelled : tokens ≡ one_tokens tree ++ p.2
  pub value : one_value ps tree ≡ p.0
  pub shallow : one_levels tree < d
  pub counted : j ≡ one_operators tree + p.1

-- ---- the tests that `and` and `or` join
module _ (ps : List Param) (d : ℕ) (inner : ℕ → List Token → Read Test)
    (inner_has : (k : ℕ) (tokens : List Token) (p : Test × ℕ × List Token) → inner k tokens ≡ Some p → HasOne ps d k tokens p) where
  also_has : (j k : ℕ) (front rest : List Token) (left : Test) (q : Test × ℕ × List Token) → HasBoth ps d j front (left, suc k, t.Word w.And ∷ rest)
      → HasOne ps d k rest q → HasBoth ps d j front (and_of left q.0, q.1, q.2)
  also_has j k front rest left q has next = record {
    tree = also has.tree next.tree;
    spelled = has.spelled ∙ ap (λ z. both_tokens has.tree ++ (t.Word w.And ∷ z)) next.spelled ∙ sym (append_assoc (both_tokens has.tree) (t.Word w.And ∷ one_tokens next.tree) q.2);
    value = ap (λ z. and_of z (one_value ps next.tree)) has.value ∙ ap (and_of left) next.value;
    shallow = omega (arith, has.shallow, next.shallow);
    counted = omega (arith, has.counted, next.counted);
  }

  ands_have : (n j k : ℕ) (front tokens : List Token) (left : Test) (p : Test × ℕ × List Token) → HasBoth ps d j front (left, k, tokens)
      → ands_read inner n left k tokens ≡ Some p → HasBoth ps d j front p
  unfolding ands_read
  ands_have (suc n) j (suc k) front (t.Word w.And ∷ rest) left p has h =
      let m = then_some (inner k rest) (λ q k rest. ands_read inner n (and_of left q) k rest) p h in
      ands_have n j m.0.1 front m.0.2 (and_of left m.0.0) p (also_has j k front rest left m.0 has (inner_has k rest m.0 m.1)) m.2
  ands_have (suc n) j zero front (t.Word w.And ∷ rest) left p has h = absurd (none-some _ h)
  ands_have n j k front tokens left p has h = subst (HasBoth ps d j front) (same_Some _ _ h) has

  both_has : (j : ℕ) (tokens : List Token) (p : Test × ℕ × List Token) → both_read inner j tokens ≡ Some p → HasBoth ps d j tokens p
  unfolding both_read
  both_has j tokens p h =
      let m = then_some (inner j tokens) (λ q k rest. ands_read inner (length tokens) q k rest) p h in
      let has = inner_has j tokens m.0 m.1 in
      ands_have (length tokens) j m.0.1 tokens m.0.2 m.0.0 p (record { tree = one has.tree; spelled = has.spelled; value = has.value; shallow = has.shallow; counted = has.counted }) m.2

  either_has : (j k : ℕ) (front rest : List Token) (left : Test) (q : Test × ℕ × List Token) → HasTest ps d j front (left, suc k, t.Word w.Or ∷ rest)
      → HasBoth ps d k rest q → HasTest ps d j front (or_of left q.0, q.1, q.2)
  either_has j k front rest left q has next = record {
    tree = either has.tree next.tree;
    spelled = has.spelled ∙ ap (λ z. test_tokens has.tree ++ (t.Word w.Or ∷ z)) next.spelled ∙ sym (append_assoc (test_tokens has.tree) (t.Word w.Or ∷ both_tokens next.tree) q.2);
    value = ap (λ z. or_of z (both_value ps next.tree)) has.value ∙ ap (or_of left) next.value;
    shallow = omega (arith, has.shallow, next.shallow);
    counted = omega (arith, has.counted, next.counted);
  }

  ors_have : (n j k : ℕ) (front tokens : List Token) (left : Test) (p : Test × ℕ × List Token) → HasTest ps d j front (left, k, tokens)
      → ors_read inner n left k tokens ≡ Some p → HasTest ps d j front p
  unfolding ors_read
  ors_have (suc n) j (suc k) front (t.Word w.Or ∷ rest) left p has h =
      let m = then_some (both_read inner k rest) (λ q k rest. ors_read inner n (or_of left q) k rest) p h in
      ors_have n j m.0.1 front m.0.2 (or_of left m.0.0) p (either_has j k front rest left m.0 has (both_has k rest m.0 m.1)) m.2
  ors_have (suc n) j zero front (t.Word w.Or ∷ rest) left p has h = absurd (none-some _ h)
  ors_have n j k front tokens left p has h = subst (HasTest ps d j front) (same_Some _ _ h) has

  joined_has : (j : ℕ) (tokens : List Token) (p : Test × ℕ × List Token) → either_read inner j tokens ≡ Some p → HasTest ps d j tokens p
  unfolding either_read
  joined_has j tokens p h =
      let m = then_some (both_read inner j tokens) (λ q k rest. ors_read inner (length tokens) q k rest) p h in
      let has = both_has j tokens m.0 m.1 in
      ors_have (length tokens) j m.0.1 tokens m.0.2 m.0.0 p (record { tree = both has.tree; spelled = has.spelled; value = has.value; shallow = has.shallow; counted = has.counted }) m.2

-- ---- comparisons
module _ (ps : List Param) (d j k : ℕ) (front rest : List Token) (a : Expr) (q : Expr × ℕ × List Token) where
  below_has : HasExpr ps d j front (a, k, t.Sign s.Less ∷ rest) → HasExpr ps d k rest q → HasOne ps d j front (less a q.0, q.1, q.2)
  below_has has next = record {
    tree = below has.tree next.tree;
    spelled = has.spelled ∙ ap (λ z. expr_tokens has.tree ++ (t.Sign s.Less ∷ z)) next.spelled ∙ sym (append_assoc (expr_tokens has.tree) (t.Sign s.Less ∷ expr_tokens next.tree) q.2);
    value = ap (λ z. less z (expr_value ps next.tree)) has.value ∙ ap (less a) next.value;
    shallow = omega (arith, has.shallow, next.shallow);
    counted = omega (arith, has.counted, next.counted);
  }

  at_most_has : HasExpr ps d j front (a, k, t.Sign s.LessEq ∷ rest) → HasExpr ps d k rest q → HasOne ps d j front (less_eq a q.0, q.1, q.2)
  at_most_has has next = record {
    tree = at_most has.tree next.tree;
    spelled = has.spelled ∙ ap (λ z. expr_tokens has.tree ++ (t.Sign s.LessEq ∷ z)) next.spelled ∙ sym (append_assoc (expr_tokens has.tree) (t.Sign s.LessEq ∷ expr_tokens next.tree) q.2);
    value = ap (λ z. less_eq z (expr_value ps next.tree)) has.value ∙ ap (less_eq a) next.value;
    shallow = omega (arith, has.shallow, next.shallow);
    counted = omega (arith, has.counted, next.counted);
  }

  same_has : HasExpr ps d j front (a, k, t.Sign s.DoubleEquals ∷ rest) → HasExpr ps d k rest q → HasOne ps d j front (equal a q.0, q.1, q.2)
  same_has has next = record {
    tree = same has.tree next.tree;
    spelled = has.spelled ∙ ap (λ z. expr_tokens has.tree ++ (t.Sign s.DoubleEquals ∷ z)) next.spelled ∙ sym (append_assoc (expr_tokens has.tree) (t.Sign s.DoubleEquals ∷ expr_tokens next.tree) q.2);
    value = ap (λ z. equal z (expr_value ps next.tree)) has.value ∙ ap (equal a) next.value;
    shallow = omega (arith, has.shallow, next.shallow);
    counted = omega (arith, has.counted, next.counted);
  }

left_has : (ps : List Param) (d j k : ℕ) (front tokens : List Token) (a : Expr) (p : Test × ℕ × List Token) → HasExpr ps d j front (a, k, tokens)
    → behind_left (expr_read ps d) a k tokens ≡ Some p → HasOne ps d j front p
left_has ps d j k front (t.Sign s.Less ∷ rest) a p has h =
    let m = then_some (expr_read ps d k rest) (λ b k rest. Some (less a b, k, rest)) p h in
    subst (HasOne ps d j front) (same_Some _ _ m.2) (below_has ps d j k front rest a m.0 has (expr_has ps d k rest m.0 m.1))
left_has ps d j k front (t.Sign s.LessEq ∷ rest) a p has h =
    let m = then_some (expr_read ps d k rest) (λ b k rest. Some (less_eq a b, k, rest)) p h in
    subst (HasOne ps d j front) (same_Some _ _ m.2) (at_most_has ps d j k front rest a m.0 has (expr_has ps d k rest m.0 m.1))
left_has ps d j k front (t.Sign s.DoubleEquals ∷ rest) a p has h =
    let m = then_some (expr_read ps d k rest) (λ b k rest. Some (equal a b, k, rest)) p h in
    subst (HasOne ps d j front) (same_Some _ _ m.2) (same_has ps d j k front rest a m.0 has (expr_has ps d k rest m.0 m.1))
left_has ps d j k front _ a p has h = absurd (none-some _ h)

comparison_has : (ps : List Param) (d j : ℕ) (tokens : List Token) (p : Test × ℕ × List Token) → comparison_read (expr_read ps d) j tokens ≡ Some p
    → HasOne ps d j tokens p
unfolding comparison_read
comparison_has ps d j tokens p h =
    let m = then_some (expr_read ps d j tokens) (behind_left (expr_read ps d)) p h in
    left_has ps d j m.0.1 tokens m.0.2 m.0.0 p (expr_has ps d j tokens m.0 m.1) m.2

-- ---- one test
bracket_closed_has : (q : Test) (k : ℕ) (tokens : List Token) (p : Test × ℕ × List Token) → bracket_closed q k tokens ≡ Some p
    → (tokens ≡ t.Sign s.CloseBracket ∷ p.2) × (q ≡ p.0) × (k ≡ p.1)
bracket_closed_has q k (t.Sign s.CloseBracket ∷ rest) p h =
    let same = same_Some _ _ h in (ap (λ z. t.Sign s.CloseBracket ∷ z.2) same, ap (λ z. z.0) same, ap (λ z. z.1) same)
bracket_closed_has q k _ p h = absurd (none-some _ h)

bracketed_has : (ps : List Param) (d j : ℕ) (tokens : List Token) (q p : Test × ℕ × List Token) → HasTest ps d j tokens q → bracket_closed q.0 q.1 q.2 ≡ Some p
    → HasOne ps (suc d) j (t.Sign s.OpenBracket ∷ tokens) p
bracketed_has ps d j tokens q p has h =
    let ends = bracket_closed_has q.0 q.1 q.2 p h in
    record {
      tree = bracketed has.tree;
      spelled = ap (λ z. t.Sign s.OpenBracket ∷ z) (has.spelled ∙ ap (λ z. test_tokens has.tree ++ z) ends.0 ∙ sym (append_assoc (test_tokens has.tree) (t.Sign s.CloseBracket ∷ []) p.2));
      value = has.value ∙ ends.1;
      shallow = omega (arith, has.shallow);
      counted = omega (arith, has.counted, ends.2);
    }

negated_has : (ps : List Param) (d j : ℕ) (tokens : List Token) (q : Test × ℕ × List Token) → HasOne ps d j tokens q
    → HasOne ps (suc d) j (t.Word w.Not ∷ tokens) (not_of q.0, q.1, q.2)
negated_has ps d j tokens q has = record {
  tree = negated has.tree;
  spelled = ap (λ z. t.Word w.Not ∷ z) has.spelled;
  value = ap not_of has.value;
  shallow = omega (arith, has.shallow);
  counted = has.counted;
}

name_has : (ps : List Param) (d : ℕ) (x : List ℕ) (j : ℕ) (rest : List Token) (p : Test × ℕ × List Token) (b : Bool)
    → cond b (comparison_read (expr_read ps (suc d)) j (t.Name x ∷ rest)) (Some (test_value ps x, j, rest)) ≡ Some p → HasOne ps (suc d) j (t.Name x ∷ rest) p
name_has ps d x j rest p true h = comparison_has ps (suc d) j (t.Name x ∷ rest) p h
name_has ps d x j rest p false h = subst (HasOne ps (suc d) j (t.Name x ∷ rest)) (same_Some _ _ h) (record {
  tree = named_test x;
  spelled = refl;
  value = refl;
  shallow = omega arith;
  counted = omega arith;
})

module _ (ps : List Param) (d : ℕ) (inner : ℕ → List Token → Read Test)
    (inner_has : (k : ℕ) (tokens : List Token) (p : Test × ℕ × List Token) → inner k tokens ≡ Some p → HasOne ps d k tokens p) where
  one_by_has : (j : ℕ) (tokens : List Token) (p : Test × ℕ × List Token) → one_by ps (expr_read ps (suc d)) inner j tokens ≡ Some p → HasOne ps (suc d) j tokens p
  unfolding one_by
  one_by_has j (t.Word w.Not ∷ rest) p h =
      let m = then_some (inner j rest) (λ q k rest. Some (not_of q, k, rest)) p h in
      subst (HasOne ps (suc d) j (t.Word w.Not ∷ rest)) (same_Some _ _ m.2) (negated_has ps d j rest m.0 (inner_has j rest m.0 m.1))
  one_by_has j (t.Sign s.OpenBracket ∷ rest) p h =
      let m = then_some (either_read inner j rest) bracket_closed p h in bracketed_has ps d j rest m.0 p (joined_has ps d inner inner_has j rest m.0 m.1) m.2
  one_by_has j (t.Name x ∷ rest) p h = name_has ps d x j rest p (goes_on rest) h
  one_by_has j tokens p h = comparison_has ps (suc d) j _ p h

pub one_has : (ps : List Param) (d j : ℕ) (tokens : List Token) (p : Test × ℕ × List Token) → one_read ps d j tokens ≡ Some p → HasOne ps d j tokens p
unfolding one_read
one_has ps zero j tokens p h = absurd (none-some _ h)
one_has ps (suc d) j tokens p h = one_by_has ps d (λ k rest. one_read ps d k rest) (λ k rest q. one_has ps d k rest q) j tokens p h

pub test_has : (ps : List Param) (d j : ℕ) (tokens : List Token) (p : Test × ℕ × List Token) → test_read ps d j tokens ≡ Some p → HasTest ps d j tokens p
unfolding test_read
test_has ps d j tokens p h = joined_has ps d (one_read ps d) (one_has ps d) j tokens p h
