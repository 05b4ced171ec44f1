-- The lists that the code builds hold the terms of the universe, each once.
-- They are made of the different parts of the obligation, and have the members of those made of all parts.
use Rattle.std.specs.Prelude.{◌≡◌, ◌≢◌, ◌==◌, ℕ, pos, Bool, true, List, [], ◌∷◌, ◌++◌, AllPairs, refl}
use Rattle.std.proofs.Common.{sym, ap, subst, arith, get_or}
use Rattle.std.proofs.lemmas.Bool.{and_parts, eqb-true, eq-eqb, and_from}
use Rattle.std.specs.List.{flat_map}
use Rattle.std.specs.Ordering.{is_eq}
use Rattle.std.specs.declared.cmp.Ordering.{Ordering}
use Rattle.std.specs.declared.cmp.Ordering.TheVariants.{Less, Equal, Greater}
use Rattle.toy_imp.specs.declared.condition.Condition.{Condition}
use Rattle.rule_terms.specs.Term.{StoreTerm, left_store, right_store, ValueTerm, num}
use Rattle.rule_terms.specs.Parts.{Part, store_in, value_in, stores_among, values_among, obligation_parts}
use Rattle.rule_terms.specs.Order.{store_cmp, value_cmp, store_same, value_same, test_same}
use Rattle.rule_terms.specs.Added.{added_all}
use Rattle.term_universe.specs.Universe.{exchanged, reading, test_of, stores_near, values_near, tests_near, universe_stores, universe_values, universe_tests, ListsOnce, IsUniverse}
use Rattle.rule_terms.specs.declared.obligation.Obligation.{Obligation}
use Rattle.term_universe.specs.declared.term_universe.TermUniverse.{TermUniverse}
use Rattle.rule_terms.proofs.Orders.{store_decides, value_decides}
use Rattle.rule_terms.proofs.Members.{in_from, from_in}
use Rattle.term_universe.proofs.Listings.{Within, within_itself, within_append, within_cons, within_flat, Holds, holds_all, lists}

eq_equal : (o : Ordering) → is_eq o ≡ true → o ≡ Equal
eq_equal Less h = cc
eq_equal Equal h = refl
eq_equal Greater h = cc

store_is : (s t : StoreTerm) → store_same s t ≡ true → s ≡ t
store_is s t h = (store_decides s t).0 (eq_equal (store_cmp s t) h)

store_self : (s : StoreTerm) → store_same s s ≡ true
store_self s = ap is_eq ((store_decides s s).1 refl)

pub value_is : (v w : ValueTerm) → value_same v w ≡ true → v ≡ w
value_is v w h = (value_decides v w).0 (eq_equal (value_cmp v w) h)

pub value_self : (v : ValueTerm) → value_same v v ≡ true
value_self v = ap is_eq ((value_decides v v).1 refl)

test_is : (a b : ℕ × StoreTerm) → test_same a b ≡ true → a ≡ b
test_is a b h =
    let e = and_parts (b.0 == a.0) (store_same a.1 b.1) h in
    λ i. (sym (eqb-true b.0 a.0 e.0) i, store_is a.1 b.1 e.1 i)

test_self : (a : ℕ × StoreTerm) → test_same a a ≡ true
test_self a = and_from (a.0 == a.0) (store_same a.1 a.1) (eq-eqb a.0 a.0 refl) (store_self a.1)

-- the members of what is near parts are those of what is near parts with the same members
pub near_stores : (conditions : List Condition) (ps qs : List Part) → Within ps qs → Within (stores_near conditions ps) (stores_near conditions qs)
near_stores conditions ps qs w =
    let among : Within (stores_among ps) (stores_among qs) = within_flat store_in store_in ps qs w (λ p. within_itself (store_in p)) in
    within_cons left_store _ _ (within_cons right_store _ _ (within_append _ _ _ _ among
    (within_flat (exchanged conditions) (exchanged conditions) _ _ among (λ s. within_itself (exchanged conditions s)))))

pub near_values : (ss ts : List StoreTerm) (ps qs : List Part) → Within ss ts → Within ps qs → Within (values_near ss ps) (values_near ts qs)
near_values ss ts ps qs v w =
    let among : Within (values_among ps) (values_among qs) = within_flat value_in value_in ps qs w (λ p. within_itself (value_in p)) in
    within_cons (num (pos 0)) _ _ (within_cons (num (pos 1)) _ _ (within_append _ _ _ _ among
    (within_flat (λ s. flat_map (reading s) ps) (λ s. flat_map (reading s) qs) ss ts v
    (λ s. within_flat (reading s) (reading s) ps qs w (λ p. within_itself (reading s p))))))

pub near_tests : (ss ts : List StoreTerm) (ps qs : List Part) → Within ss ts → Within ps qs → Within (tests_near ss ps) (tests_near ts qs)
near_tests ss ts ps qs v w =
    within_flat (λ s. flat_map (test_of s) ps) (λ s. flat_map (test_of s) qs) ss ts v
    (λ s. within_flat (test_of s) (test_of s) ps qs w (λ p. within_itself (test_of s p)))

within_trans : {X : Type 0} (xs ys zs : List X) → Within xs ys → Within ys zs → Within xs zs
within_trans xs ys zs a b = record { each = λ x h. b.each x (a.each x h) }

two_apart : {X : Type 0} (x y : X) → x ≢ y → AllPairs (λ a b. a ≢ b) (x ∷ y ∷ [])
two_apart x y h i j d lt in_list =
    let i_is : i ≡ 0 = omega arith in
    let j_is : j ≡ 1 = omega arith in
    subst (λ n. get_or (x ∷ y ∷ []) n d ≢ get_or (x ∷ y ∷ []) j d) (sym i_is) (subst (λ n. x ≢ get_or (x ∷ y ∷ []) n d) (sym j_is) h)

sides_differ : left_store ≢ right_store
sides_differ h = cc

numbers_differ : num (pos 0) ≢ num (pos 1)
numbers_differ h = cc

-- what holds the members of `before`, each once, holds those of any list with these members
moved : {X : Type 0} (same : X → X → Bool) (equal : (x y : X) → same x y ≡ true → x ≡ y) (itself : (x : X) → same x x ≡ true) (xs before after : List X)
    → Holds same equal itself xs before → Within before after → Within after before → ListsOnce xs after
moved same equal itself xs before after h a b = lists same equal itself xs after (record {
  to = within_trans xs before after h.to a;
  back = within_trans after before xs b h.back;
  once = h.once;
})

within_once : (ps qs : List Part) → ListsOnce ps qs → Within ps qs × Within qs ps
within_once ps qs h = (
  record { each = λ x k. in_from qs x ((h.exact x).0 (from_in ps x k)) },
  record { each = λ x k. in_from ps x ((h.exact x).1 (from_in qs x k)) },
)

within_lists : (ss ts : List StoreTerm) → ListsOnce ss ts → Within ss ts × Within ts ss
within_lists ss ts h = (
  record { each = λ x k. in_from ts x ((h.exact x).0 (from_in ss x k)) },
  record { each = λ x k. in_from ss x ((h.exact x).1 (from_in ts x k)) },
)

stores_once : (ob : Obligation) (ps : List Part) (ss : List StoreTerm) → ListsOnce ps (obligation_parts ob)
    → ss ≡ added_all store_same (left_store ∷ right_store ∷ []) (stores_among ps ++ flat_map (exchanged ob.conditions) (stores_among ps))
    → ListsOnce ss (universe_stores ob)
unfolding universe_stores
stores_once ob ps ss once e =
    let w = within_once ps (obligation_parts ob) once in
    let start : Holds store_same store_is store_self (left_store ∷ right_store ∷ []) (left_store ∷ right_store ∷ []) =
    record { to = within_itself _; back = within_itself _; once = two_apart left_store right_store sides_differ } in
    moved store_same store_is store_self ss (stores_near ob.conditions ps) (stores_near ob.conditions (obligation_parts ob))
    (subst (λ xs. Holds store_same store_is store_self xs (stores_near ob.conditions ps)) (sym e) (holds_all store_same store_is store_self _ _ _ start))
    (near_stores ob.conditions ps (obligation_parts ob) w.0) (near_stores ob.conditions (obligation_parts ob) ps w.1)

-- the store terms that the code builds are all different
pub stores_apart : (found ss : List StoreTerm) → ss ≡ added_all store_same (left_store ∷ right_store ∷ []) found → AllPairs (λ a b. a ≢ b) ss
stores_apart found ss e =
    let start : Holds store_same store_is store_self (left_store ∷ right_store ∷ []) (left_store ∷ right_store ∷ []) =
    record { to = within_itself _; back = within_itself _; once = two_apart left_store right_store sides_differ } in
    subst (AllPairs (λ a b. a ≢ b)) (sym e) (holds_all store_same store_is store_self _ _ found start).once

values_once : (ob : Obligation) (ps : List Part) (ss : List StoreTerm) (vs : List ValueTerm) → ListsOnce ps (obligation_parts ob) → ListsOnce ss (universe_stores ob)
    → vs ≡ added_all value_same (num (pos 0) ∷ num (pos 1) ∷ []) (values_among ps ++ flat_map (λ s. flat_map (reading s) ps) ss)
    → ListsOnce vs (universe_values ob)
unfolding universe_values
values_once ob ps ss vs once stores e =
    let w = within_once ps (obligation_parts ob) once in
    let u = within_lists ss (universe_stores ob) stores in
    let start : Holds value_same value_is value_self (num (pos 0) ∷ num (pos 1) ∷ []) (num (pos 0) ∷ num (pos 1) ∷ []) =
    record { to = within_itself _; back = within_itself _; once = two_apart (num (pos 0)) (num (pos 1)) numbers_differ } in
    moved value_same value_is value_self vs (values_near ss ps) (values_near (universe_stores ob) (obligation_parts ob))
    (subst (λ xs. Holds value_same value_is value_self xs (values_near ss ps)) (sym e) (holds_all value_same value_is value_self _ _ _ start))
    (near_values ss (universe_stores ob) ps (obligation_parts ob) u.0 w.0) (near_values (universe_stores ob) ss (obligation_parts ob) ps u.1 w.1)

tests_once : (ob : Obligation) (ps : List Part) (ss : List StoreTerm) (ts : List (ℕ × StoreTerm)) → ListsOnce ps (obligation_parts ob) → ListsOnce ss (universe_stores ob)
    → ts ≡ added_all test_same [] (flat_map (λ s. flat_map (test_of s) ps) ss)
    → ListsOnce ts (universe_tests ob)
unfolding universe_tests
tests_once ob ps ss ts once stores e =
    let w = within_once ps (obligation_parts ob) once in
    let u = within_lists ss (universe_stores ob) stores in
    let start : Holds test_same test_is test_self [] [] = record { to = within_itself _; back = within_itself _; once = λ i j d h k. absurd (omega arith) } in
    moved test_same test_is test_self ts (tests_near ss ps) (tests_near (universe_stores ob) (obligation_parts ob))
    (subst (λ xs. Holds test_same test_is test_self xs (tests_near ss ps)) (sym e) (holds_all test_same test_is test_self _ _ _ start))
    (near_tests ss (universe_stores ob) ps (obligation_parts ob) u.0 w.0) (near_tests (universe_stores ob) ss (obligation_parts ob) ps u.1 w.1)

pub universe_lists : (ob : Obligation) (ps : List Part) (u : TermUniverse) → ListsOnce ps (obligation_parts ob)
    → u.stores ≡ added_all store_same (left_store ∷ right_store ∷ []) (stores_among ps ++ flat_map (exchanged ob.conditions) (stores_among ps))
    → u.values ≡ added_all value_same (num (pos 0) ∷ num (pos 1) ∷ []) (values_among ps ++ flat_map (λ s. flat_map (reading s) ps) u.stores)
    → u.tests ≡ added_all test_same [] (flat_map (λ s. flat_map (test_of s) ps) u.stores)
    → IsUniverse ob u
universe_lists ob ps u once a b c =
    let stores : ListsOnce u.stores (universe_stores ob) = stores_once ob ps u.stores once a in
    record { stores = stores; values = values_once ob ps u.stores u.values once stores b; tests = tests_once ob ps u.stores u.tests once stores c }
