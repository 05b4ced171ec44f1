-- Nodes only grow along a walk, and each walk that ends goes on to some path: a walk of too many nodes gives a path of too many.
use Rattle.std.specs.Prelude.{◌≡◌, ℕ, zero, suc, ◌+◌, ◌≤◌, ◌<◌, nat_lt, Bool, true, false, ◌||◌, List, [], ◌∷◌, ◌++◌, length, flat_map, Option, None, Some, refl}
use Rattle.std.specs.List.{list_any}
use Rattle.std.proofs.Common.{sym, ◌∙◌, ap, subst, arith}
use Rattle.std.proofs.lemmas.Bool.Decides.{nat_tests}
use Rattle.std.proofs.lemmas.List.Folds.{list_any-append}
use Rattle.toy_imp.specs.Block.{skip, put, assert_that, if_then, while_do, for_to, let_in, par_stmt, empty, stmt}
use Rattle.toy_imp.specs.Test.{Test}
use Rattle.toy_imp.specs.Faults.{has_scope}
use Rattle.rule_terms.specs.Term.{StoreTerm}
use Rattle.rule_terms.specs.Term as term
use Rattle.rule_terms.specs.ValueAt.{number_of, value_at, values_at}
use Rattle.rule_terms.specs.declared.obligation.Atom.TheVariants.{Ends}
use Rattle.rule_terms.specs.Counts.{store_nodes, literals_nodes}
use Rattle.rule_terms.specs.declared.obligation.Literal.{Literal}
use Rattle.rule_terms.specs.declared.path.Path.{Path}
use Rattle.rule_terms.specs.declared.path.Stop.{Stop}
use Rattle.path_pairs.specs.Rests.{Rest, stretch}
use Rattle.path_pairs.specs.Outcomes.{outcomes}
use Rattle.path_pairs.specs.Walks.{Next, goes, stops, Walk, stands, each_so, by_each, stmt_step, rest_step, step, rest_stop, stop_of, walks, goes_on}
use Rattle.path_pairs.specs.Paths.{is_large_path}
use Rattle.path_pairs.proofs.NodesAt.{literals_append}
use Rattle.path_pairs.proofs.OutcomeLengths.{as_many_outcomes, some_outcome}
use Rattle.path_pairs.proofs.Stopping.{or_neither}

-- no `for` and no `let` stands next or behind
abbrev pub rest_is_plain : Rest → Type 0
rest_is_plain [] = Unit {0}
rest_is_plain (stretch n b ∷ rest) = (has_scope b ≡ false) × rest_is_plain rest

abbrev pub is_plain : Next → Type 0
is_plain (stops stop) = Unit {0}
is_plain (goes rest) = rest_is_plain rest

abbrev pub walk_nodes : Walk → ℕ
walk_nodes w = literals_nodes w.literals + store_nodes w.store

-- a first walk of a list, of so many nodes at least
pub record Onward (n : ℕ) (ws : List Walk) : Type 0 where
  pub next : Walk
  pub others : List Walk
  pub are : ws ≡ next ∷ others
  pub grows : n ≤ walk_nodes next
  pub plain : is_plain next.next

-- a first outcome of a test
record First (found : List (List Literal)) : Type 0 where
  outcome : List Literal
  others : List (List Literal)
  are : found ≡ outcome ∷ others

first_is : (found : List (List Literal)) → 1 ≤ length found → First found
first_is [] h = absurd (omega (arith, h))
first_is (x ∷ xs) h = record { outcome = x; others = xs; are = refl }

first_outcome : (t : Test) (s : StoreTerm) → First (outcomes t true s)
first_outcome t s = first_is (outcomes t true s) (subst (λ n. 1 ≤ n) (sym (as_many_outcomes t true s)) (some_outcome t true))

by_test : (t : Test) (ls : List Literal) (s : StoreTerm) (into : Rest) (past : Next) → rest_is_plain into
    → Onward (literals_nodes ls + store_nodes s) (by_each (outcomes t true s) ls s into ++ each_so (outcomes t false s) ls s past)
by_test t ls s into past h =
    let o : First (outcomes t true s) = first_outcome t s in
    record {
      next = stands (ls ++ o.outcome) s into;
      others = by_each o.others ls s into ++ each_so (outcomes t false s) ls s past;
      are = ap (λ found. by_each found ls s into ++ each_so (outcomes t false s) ls s past) o.are;
      grows = omega (arith, literals_append ls o.outcome);
      plain = h;
    }

-- after a statement that does not stop the walk
rest_onward : (cuts : List ℕ) (exit : ℕ) (rest : Rest) (ls : List Literal) (s : StoreTerm) → rest_is_plain rest → rest_stop cuts exit rest ≡ None
    → Onward (literals_nodes ls + store_nodes s) (rest_step rest ls s)
unfolding stmt_step store_nodes
rest_onward cuts exit [] ls s h e = cc
rest_onward cuts exit (stretch n empty ∷ rest) ls s h e = rest_onward cuts exit rest ls s h.1 e
rest_onward cuts exit (stretch n (stmt skip b) ∷ rest) ls s h e = record { next = stands ls s (stretch (n + 0) b ∷ rest); others = []; are = refl; grows = omega arith; plain = h }
rest_onward cuts exit (stretch n (stmt (put x is v) b) ∷ rest) ls s h e =
    record {
      next = stands ls (term.put s (number_of x) (values_at is s) (value_at v s)) (stretch (n + 0) b ∷ rest);
      others = [];
      are = refl;
      grows = omega arith;
      plain = h;
    }
rest_onward cuts exit (stretch n (stmt (assert_that t) b) ∷ rest) ls s h e = by_test t ls s _ _ h
rest_onward cuts exit (stretch n (stmt (if_then t b c) d) ∷ rest) ls s h e =
    let parts : ((has_scope b || has_scope c) ≡ false) × (has_scope d ≡ false) = or_neither (has_scope b || has_scope c) (has_scope d) h.0 in
    let inside : (has_scope b ≡ false) × (has_scope c ≡ false) = or_neither (has_scope b) (has_scope c) parts.0 in
    by_test t ls s _ _ (inside.0, (parts.1, h.1))
rest_onward cuts exit (stretch n (stmt (while_do t b) d) ∷ rest) ls s h e =
    let parts : (has_scope b ≡ false) × (has_scope d ≡ false) = or_neither (has_scope b) (has_scope d) h.0 in
    by_test t ls s _ _ (parts.0, h)
rest_onward cuts exit (stretch n (stmt (for_to x lo hi b) d) ∷ rest) ls s h e = let f : true ≡ false = h.0 in cc
rest_onward cuts exit (stretch n (stmt (let_in x v b) d) ∷ rest) ls s h e = let f : true ≡ false = h.0 in cc
rest_onward cuts exit (stretch n (stmt (par_stmt k) b) ∷ rest) ls s h e =
    let ends : Literal = record { sign = true; atom = Ends (term.run k s) } in
    record {
      next = stands (ls ++ ends ∷ []) (term.run k s) (stretch (n + 1) b ∷ rest);
      others = _;
      are = refl;
      grows = omega (arith, literals_append ls (ends ∷ []));
      plain = h;
    }

-- any walk
abbrev pub walk : List Literal → StoreTerm → Next → Walk
walk ls s next = record { literals = ls; store = s; next = next }

walk_onward : (cuts : List ℕ) (exit : ℕ) (ls : List Literal) (s : StoreTerm) (next : Next) → is_plain next → stop_of cuts exit (walk ls s next) ≡ None
    → Onward (literals_nodes ls + store_nodes s) (step (walk ls s next))
walk_onward cuts exit ls s (stops stop) h e = cc
walk_onward cuts exit ls s (goes rest) h e = rest_onward cuts exit rest ls s h e

or_left : (x y : Bool) → x ≡ true → (x || y) ≡ true
or_left true y h = refl
or_left false y h = cc

pub large_test : (n : ℕ) → 4096 < n → nat_lt 4096 n ≡ true
large_test n h = grind (arith, nat_tests)

pub large_is : (n : ℕ) → nat_lt 4096 n ≡ true → 4096 < n
large_is n h = grind (arith, nat_tests)

large_end : (o : Option Stop) (xs : List Path) (ls : List Literal) (s : StoreTerm) → (o ≡ None → list_any is_large_path xs ≡ true) → 4096 < literals_nodes ls + store_nodes s
    → list_any is_large_path (elim o as (λ o. List Path) [ None ↦ xs | Some stop ↦ record { literals = ls; store = s; stop = stop } ∷ [] ]) ≡ true
large_end None xs ls s f h = f refl
large_end (Some stop) xs ls s f h = or_left (nat_lt 4096 (literals_nodes ls + store_nodes s)) false (large_test (literals_nodes ls + store_nodes s) h)

goes_none : (o : Option Stop) (b : Bool) → o ≡ None → elim o as (λ o. Bool) [ None ↦ b | Some stop ↦ false ] ≡ false → b ≡ false
goes_none None b e h = h
goes_none (Some stop) b e h = cc

first_ends : (k : ℕ) (cuts : List ℕ) (exit n : ℕ) (ws : List Walk) (o : Onward n ws) → list_any (goes_on k cuts exit) ws ≡ false → goes_on k cuts exit o.next ≡ false
first_ends k cuts exit n ws o h = (or_neither (goes_on k cuts exit o.next) (list_any (goes_on k cuts exit) o.others) (sym (ap (list_any (goes_on k cuts exit)) o.are) ∙ h)).0

first_large : (k : ℕ) (cuts : List ℕ) (exit n : ℕ) (ws : List Walk) (o : Onward n ws) → list_any is_large_path (walks k cuts exit o.next) ≡ true
    → list_any is_large_path (flat_map (walks k cuts exit) ws) ≡ true
first_large k cuts exit n ws o h =
    ap (λ xs. list_any is_large_path (flat_map (walks k cuts exit) xs)) o.are
    ∙ list_any-append is_large_path (walks k cuts exit o.next) (flat_map (walks k cuts exit) o.others)
    ∙ or_left (list_any is_large_path (walks k cuts exit o.next)) (list_any is_large_path (flat_map (walks k cuts exit) o.others)) h

none_goes : (cuts : List ℕ) (exit n : ℕ) (ws : List Walk) (o : Onward n ws) → list_any (goes_on zero cuts exit) ws ≡ false → ⊥
unfolding goes_on
none_goes cuts exit n ws o h = let e : true ≡ false = first_ends zero cuts exit n ws o h in cc

pub goes_large : (k : ℕ) (cuts : List ℕ) (exit : ℕ) (ls : List Literal) (s : StoreTerm) (next : Next) → is_plain next → goes_on (suc k) cuts exit (walk ls s next) ≡ false
    → 4096 < literals_nodes ls + store_nodes s → list_any is_large_path (walks k cuts exit (walk ls s next)) ≡ true
unfolding goes_on walks
goes_large zero cuts exit ls s next plain h large =
    large_end (stop_of cuts exit (walk ls s next)) [] ls s
    (λ e. absurd (none_goes cuts exit _ (step (walk ls s next)) (walk_onward cuts exit ls s next plain e) (goes_none (stop_of cuts exit (walk ls s next)) (list_any (goes_on zero cuts exit) (step (walk ls s next))) e h))) large
goes_large (suc k) cuts exit ls s next plain h large =
    large_end (stop_of cuts exit (walk ls s next)) (flat_map (walks k cuts exit) (step (walk ls s next))) ls s
    (λ e.
    let o : Onward (literals_nodes ls + store_nodes s) (step (walk ls s next)) = walk_onward cuts exit ls s next plain e in
    let ends : goes_on (suc k) cuts exit o.next ≡ false =
    first_ends (suc k) cuts exit _ (step (walk ls s next)) o (goes_none (stop_of cuts exit (walk ls s next)) (list_any (goes_on (suc k) cuts exit) (step (walk ls s next))) e h) in
    first_large k cuts exit _ (step (walk ls s next)) o (goes_large k cuts exit o.next.literals o.next.store o.next.next o.plain ends (omega (arith, large, o.grows))))
    large
