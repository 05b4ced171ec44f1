-- The laws that the side conditions give, 11 to 21: which lists of literals are clauses of them.
-- A clause has the conditions of its law negated, in order, and then the conclusion. In words t is `put s x is v`.
-- A law names the kinds of its condition's parameters: `keeps` of an expression, of a name and of a test are three laws.
use Rattle.std.specs.Prelude.{ℕ, pos, Bool, false, ◌==◌, ◌&&◌, ◌||◌, List, [], ◌∷◌}
use Rattle.std.specs.Ordering.{int_eq}
use Rattle.toy_imp.specs.declared.param.Kind.TheVariants as kind
use Rattle.rule_terms.specs.Term.{StoreTerm, put, run, get, ev}
use Rattle.rule_terms.specs.Order.{store_same, value_same, place_same}
use Rattle.rule_terms.specs.declared.obligation.Atom.TheVariants.{SameName, SameStore, SameValue, AtMost, Ends, Holds}
use Rattle.rule_terms.specs.declared.obligation.Obligation.{Obligation}
use Rattle.term_meaning.specs.Indices.{count}
use Rattle.law_clauses.specs.Signed.{Signed, plus, minus}
use Rattle.law_clauses.specs.Shapes.{place, is_run, is_num, is_get, is_ev}
use Rattle.law_clauses.specs.Listed.{lists_keeps, lists_ignores, lists_commutes, lists_positive, lists_constant, lists_distinct}

-- 11, `keeps k e` of an expression: if `run k s` ends: `ev e (run k s) = ev e s`
unfoldable pub law_11 : Obligation → List Signed → Bool
law_11 ob (minus (Ends (run k s)) ∷ plus (SameValue (ev e t) w) ∷ []) = lists_keeps ob kind.Expr k e && (is_run t k s && is_ev w e s)
law_11 ob _ = false

-- 12, `keeps k x` of a name: if `run k s` ends: `get x (run k s) = get x s`, without indices
unfoldable pub law_12 : Obligation → List Signed → Bool
law_12 ob (minus (Ends (run k s)) ∷ plus (SameValue (get x is t) w) ∷ []) =
    count is == 0 && (lists_keeps ob kind.Name k x && (is_run t k s && is_get w x is s))
law_12 ob _ = false

-- the one store term is s, and the other `run k s`
abbrev pub across_run : ℕ → StoreTerm → StoreTerm → StoreTerm → Bool
across_run k s a b = (store_same a s && is_run b k s) || (is_run a k s && store_same b s)

-- 13, `keeps k q` of a test: if `run k s` ends and q holds at s: it holds at `run k s`; and with the two exchanged
unfoldable pub law_13 : Obligation → List Signed → Bool
law_13 ob (minus (Ends (run k s)) ∷ minus (Holds q a) ∷ plus (Holds r b) ∷ []) =
    lists_keeps ob kind.Test k q && (r == q && across_run k s a b)
law_13 ob _ = false

-- 14, `ignores e x` of an expression: if the name of p is x: `ev e t = ev e s`
unfoldable pub law_14 : Obligation → List Signed → Bool
law_14 ob (minus (SameName n x) ∷ plus (SameValue (ev e (put s y is v)) w) ∷ []) = lists_ignores ob kind.Expr e x && (n == y && is_ev w e s)
law_14 ob _ = false

-- the second store term is the first with a write at a place of the name
abbrev pub written_at : ℕ → StoreTerm → StoreTerm → Bool
written_at n s (put u y is v) = n == y && store_same u s
written_at n s _ = false

-- 15, `ignores q x` of a test: if the name of p is x and q holds at s: it holds at t; and with the two exchanged
unfoldable pub law_15 : Obligation → List Signed → Bool
law_15 ob (minus (SameName n x) ∷ minus (Holds q a) ∷ plus (Holds r b) ∷ []) = lists_ignores ob kind.Test q x && (r == q && (written_at n a b || written_at n b a))
law_15 ob _ = false

-- 16, `ignores k x` of a statement: if the name of p is x: `run k t = put (run k s) p v`
unfoldable pub law_16 : Obligation → List Signed → Bool
law_16 ob (minus (SameName n x) ∷ plus (SameStore (run k (put s y is v)) (put u z js w)) ∷ []) =
    lists_ignores ob kind.Stmt k x && (n == y && (is_run u k s && (place_same (place z js) (place y is) && value_same w v)))
law_16 ob _ = false

-- 17, `ignores k x` of a statement: if `run k s` ends and the name of q is x: `get q (run k s) = get q s`
unfoldable pub law_17 : Obligation → List Signed → Bool
law_17 ob (minus (Ends (run k s)) ∷ minus (SameName n x) ∷ plus (SameValue (get y js t) w) ∷ []) =
    lists_ignores ob kind.Stmt k x && (n == y && (is_run t k s && is_get w y js s))
law_17 ob _ = false

-- 18, `commutes j k` in either order: `run k (run j s) = run j (run k s)`
unfoldable pub law_18 : Obligation → List Signed → Bool
law_18 ob (plus (SameStore (run k (run j s)) (run i u)) ∷ []) = lists_commutes ob j k && (i == j && is_run u k s)
law_18 ob _ = false

-- 19, `positive e`: if s ends: 1 is at most `ev e s`
unfoldable pub law_19 : Obligation → List Signed → Bool
law_19 ob (minus (Ends s) ∷ plus (AtMost a (ev e t) c) ∷ []) = lists_positive ob e && (is_num a (pos 1) && (store_same t s && int_eq c (pos 0)))
law_19 ob _ = false

-- 20, `constant e`: if a and c end: `ev e a = ev e c`
unfoldable pub law_20 : Obligation → List Signed → Bool
law_20 ob (minus (Ends a) ∷ minus (Ends c) ∷ plus (SameValue (ev e b) w) ∷ []) = lists_constant ob e && (store_same b a && is_ev w e c)
law_20 ob _ = false

-- 21, `distinct x y` in either order: not x = y
unfoldable pub law_21 : Obligation → List Signed → Bool
law_21 ob (minus (SameName x y) ∷ []) = lists_distinct ob x y
law_21 ob _ = false
