-- One step of a walk: where it stops, what it goes on to, and what is asked of the statement.
use Rattle.std.specs.Prelude.{◌≡◌, ◌≢◌, ℕ, zero, suc, ◌+◌, ◌-◌, ◌^◌, ◌<◌, Bool, true, false, ◌&&◌, List, [], ◌∷◌, ◌++◌, flat_map, None, Some, Result, refl}
use Rattle.std.specs.List.{list_any}
use Rattle.std.proofs.Common.{sym, ◌∙◌, ap, subst, arith}
use Rattle.std.proofs.lemmas.Bool.{and_parts}
use Rattle.std.proofs.lemmas.List.{append-nil}
use Rattle.std.proofs.lemmas.List.Folds.{list_any-append}
use Rattle.std.proofs.lemmas.Grind.{flat_map-append}
use Rattle.toy_imp.specs.declared.name.Name.{Name}
use Rattle.toy_imp.specs.Expr.{Expr, Exprs}
use Rattle.toy_imp.specs.Test.{Test}
use Rattle.toy_imp.specs.Block.{Stmt, skip, put, assert_that, if_then, while_do, par_stmt, Block, empty, stmt}
use Rattle.toy_imp.specs.Points.{stmt_count, point_count}
use Rattle.toy_imp.specs.Faults.{stmt_has_scope, has_scope}
use Rattle.rule_terms.specs.Term.{StoreTerm}
use Rattle.rule_terms.specs.Term as term
use Rattle.rule_terms.specs.ValueAt.{is_open, names_are_open, all_names_are_open, number_of, value_at, values_at}
use Rattle.rule_terms.specs.declared.obligation.Atom.TheVariants.{Ends}
use Rattle.rule_terms.specs.declared.obligation.Literal.{Literal}
use Rattle.rule_terms.specs.declared.path.Path.{Path}
use Rattle.rule_terms.specs.declared.path.Stop.{Stop}
use Rattle.rule_terms.specs.declared.path.Stop.TheVariants.{Halted, Stuck}
use Rattle.path_pairs.specs.declared.refusal.PathRefusal.{PathRefusal}
use Rattle.path_pairs.specs.Open.{test_is_open, stmt_is_open, block_is_open}
use Rattle.path_pairs.specs.Outcomes.{outcomes}
use Rattle.path_pairs.specs.PathAnswers.{Adds}
use Rattle.path_pairs.specs.Paths.{is_large_path}
use Rattle.path_pairs.specs.Rests.{Rest, stretch}
use Rattle.path_pairs.specs.Walkable.{IsWalkable, AreWalkable, IsStanding}
use Rattle.path_pairs.specs.Walks.{stops, Walk, stands, each_so, by_each, stmt_step, rest_step, rest_stop, walks, goes_on, halting_paths}
use Rattle.path_pairs.proofs.Stopping.{or_neither}
use Rattle.path_pairs.proofs.FromNext.{step_some}

-- a walk that stops
stopped : (k : ℕ) (cuts : List ℕ) (exit : ℕ) (ls : List Literal) (s : StoreTerm) (rest : Rest) (stop : Stop) → rest_stop cuts exit rest ≡ Some stop
    → walks k cuts exit (stands ls s rest) ≡ record { literals = ls; store = s; stop = stop } ∷ []
unfolding walks
stopped zero cuts exit ls s rest stop e = ap (λ o. elim o as (λ o. List Path) [ None ↦ [] | Some stop ↦ record { literals = ls; store = s; stop = stop } ∷ [] ]) e
stopped (suc k) cuts exit ls s rest stop e =
    ap (λ o. elim o as (λ o. List Path) [ None ↦ flat_map (walks k cuts exit) (rest_step rest ls s) | Some stop ↦ record { literals = ls; store = s; stop = stop } ∷ [] ]) e

pub walk_stops : {A : Type 0} (k : ℕ) (cuts : List ℕ) (exit : ℕ) (ls : List Literal) (s : StoreTerm) (rest : Rest) (stop : Stop) (before after : List Path) (r : Result A PathRefusal)
    → rest_stop cuts exit rest ≡ Some stop → Adds (record { literals = ls; store = s; stop = stop } ∷ []) before after r → Adds (walks k cuts exit (stands ls s rest)) before after r
walk_stops k cuts exit ls s rest stop before after r e h = subst (λ f. Adds f before after r) (sym (stopped k cuts exit ls s rest stop e)) h

-- a walk that goes on
ended : (k : ℕ) (cuts : List ℕ) (exit : ℕ) (ls : List Literal) (s : StoreTerm) (rest : Rest) → k ≡ 0 → rest_stop cuts exit rest ≡ None → walks k cuts exit (stands ls s rest) ≡ []
unfolding walks
ended zero cuts exit ls s rest h e = ap (λ o. elim o as (λ o. List Path) [ None ↦ [] | Some stop ↦ record { literals = ls; store = s; stop = stop } ∷ [] ]) e
ended (suc k) cuts exit ls s rest h e = absurd (omega (arith, h))

nothing_added : (f all : List Path) → f ≡ [] → (all ≡ all ++ f) × (list_any is_large_path f ≡ false)
nothing_added f all e = (sym (append-nil all) ∙ ap (λ g. all ++ g) (sym e), ap (list_any is_large_path) e)

pub walk_ends : (k : ℕ) (cuts : List ℕ) (exit : ℕ) (ls : List Literal) (s : StoreTerm) (rest : Rest) (all : List Path) → k ≡ 0 → rest_stop cuts exit rest ≡ None
    → (all ≡ all ++ walks k cuts exit (stands ls s rest)) × (list_any is_large_path (walks k cuts exit (stands ls s rest)) ≡ false)
walk_ends k cuts exit ls s rest all h e = nothing_added (walks k cuts exit (stands ls s rest)) all (ended k cuts exit ls s rest h e)

on : (k : ℕ) (cuts : List ℕ) (exit : ℕ) (ls : List Literal) (s : StoreTerm) (rest : Rest) → k ≢ 0 → rest_stop cuts exit rest ≡ None
    → walks k cuts exit (stands ls s rest) ≡ flat_map (walks (k - 1) cuts exit) (rest_step rest ls s)
unfolding walks
on zero cuts exit ls s rest h e = absurd (h refl)
on (suc k) cuts exit ls s rest h e =
    let less : k ≡ suc k - 1 = omega arith in
    ap (λ o. elim o as (λ o. List Path) [ None ↦ flat_map (walks k cuts exit) (rest_step rest ls s) | Some stop ↦ record { literals = ls; store = s; stop = stop } ∷ [] ]) e
    ∙ ap (λ j. flat_map (walks j cuts exit) (rest_step rest ls s)) less

pub walk_goes_on : {A : Type 0} (k : ℕ) (cuts : List ℕ) (exit : ℕ) (ls : List Literal) (s : StoreTerm) (rest : Rest) (before after : List Path) (r : Result A PathRefusal)
    → k ≢ 0 → rest_stop cuts exit rest ≡ None → Adds (flat_map (walks (k - 1) cuts exit) (rest_step rest ls s)) before after r → Adds (walks k cuts exit (stands ls s rest)) before after r
walk_goes_on k cuts exit ls s rest before after r h e f = subst (λ g. Adds g before after r) (sym (on k cuts exit ls s rest h e)) f

pub step_ends : (k : ℕ) (cuts : List ℕ) (exit : ℕ) (ls : List Literal) (s : StoreTerm) (rest : Rest) → k ≢ 0 → rest_stop cuts exit rest ≡ None → goes_on (suc k) cuts exit (stands ls s rest) ≡ false
    → list_any (goes_on (suc (k - 1)) cuts exit) (rest_step rest ls s) ≡ false
unfolding goes_on
step_ends zero cuts exit ls s rest h e f = absurd (h refl)
step_ends (suc k) cuts exit ls s rest h e f =
    let less : suc k - 1 ≡ k = omega arith in
    ap (λ j. list_any (goes_on (suc j) cuts exit) (rest_step rest ls s)) less
    ∙ sym (ap (λ o. elim o as (λ o. Bool) [ None ↦ list_any (goes_on (suc k) cuts exit) (rest_step rest ls s) | Some stop ↦ false ]) e)
    ∙ f

-- from what stands next
pub none_stands : (k : ℕ) (cuts : List ℕ) (exit : ℕ) (ls : List Literal) (s : StoreTerm) (rest : Rest) (all : List Path) → rest_step rest ls s ≡ []
    → (all ≡ all ++ flat_map (walks k cuts exit) (rest_step rest ls s)) × (list_any is_large_path (flat_map (walks k cuts exit) (rest_step rest ls s)) ≡ false)
none_stands k cuts exit ls s rest all e = nothing_added (flat_map (walks k cuts exit) (rest_step rest ls s)) all (ap (flat_map (walks k cuts exit)) e)

step_from : (rest here behind others : Rest) (n m : ℕ) (a : Stmt) (b : Block) (ls : List Literal) (s : StoreTerm) → IsStanding rest n a m b here behind → others ≡ stretch m b ∷ behind
    → rest_step rest ls s ≡ stmt_step n a here others ls s
step_from rest here behind others n m a b ls s at e = step_some rest here behind n m a b ls s at ∙ ap (λ r. stmt_step n a here r ls s) (sym e)

pub stmt_ends : (k : ℕ) (cuts : List ℕ) (exit : ℕ) (rest here behind others : Rest) (n m : ℕ) (a : Stmt) (b : Block) (ls : List Literal) (s : StoreTerm) → IsStanding rest n a m b here behind
    → others ≡ stretch m b ∷ behind → list_any (goes_on (suc k) cuts exit) (rest_step rest ls s) ≡ false → list_any (goes_on (suc k) cuts exit) (stmt_step n a here others ls s) ≡ false
stmt_ends k cuts exit rest here behind others n m a b ls s at e h = sym (ap (list_any (goes_on (suc k) cuts exit)) (step_from rest here behind others n m a b ls s at e)) ∙ h

pub stmt_adds : {A : Type 0} (k : ℕ) (cuts : List ℕ) (exit : ℕ) (rest here behind others : Rest) (n m : ℕ) (a : Stmt) (b : Block) (ls : List Literal) (s : StoreTerm) (before after : List Path)
    (r : Result A PathRefusal) → IsStanding rest n a m b here behind → others ≡ stretch m b ∷ behind
    → Adds (flat_map (walks k cuts exit) (stmt_step n a here others ls s)) before after r → Adds (flat_map (walks k cuts exit) (rest_step rest ls s)) before after r
stmt_adds k cuts exit rest here behind others n m a b ls s before after r at e h =
    subst (λ ws. Adds (flat_map (walks k cuts exit) ws) before after r) (sym (step_from rest here behind others n m a b ls s at e)) h

pub others_are : (rest here behind others : Rest) (n m : ℕ) (a : Stmt) (b : Block) → IsStanding rest n a m b here behind → others ≡ stretch m b ∷ behind → AreWalkable others
others_are rest here behind others n m a b at e = subst AreWalkable (sym e) (at.others_walkable, at.behind_walkable)

-- what a statement is walked to
pub one_ends : (k : ℕ) (cuts : List ℕ) (exit : ℕ) (ws : List Walk) (w : Walk) → ws ≡ w ∷ [] → list_any (goes_on (suc k) cuts exit) ws ≡ false → goes_on (suc k) cuts exit w ≡ false
one_ends k cuts exit ws w e h = (or_neither (goes_on (suc k) cuts exit w) false (sym (ap (list_any (goes_on (suc k) cuts exit)) e) ∙ h)).0

pub one_adds : {A : Type 0} (k : ℕ) (cuts : List ℕ) (exit : ℕ) (ws : List Walk) (w : Walk) (before after : List Path) (r : Result A PathRefusal) → ws ≡ w ∷ []
    → Adds (walks k cuts exit w) before after r → Adds (flat_map (walks k cuts exit) ws) before after r
one_adds k cuts exit ws w before after r e h =
    subst (λ f. Adds f before after r) (sym (ap (flat_map (walks k cuts exit)) e ∙ append-nil (walks k cuts exit w))) h

pub same_ends : (k : ℕ) (cuts : List ℕ) (exit : ℕ) (ws vs : List Walk) → ws ≡ vs → list_any (goes_on (suc k) cuts exit) ws ≡ false → list_any (goes_on (suc k) cuts exit) vs ≡ false
same_ends k cuts exit ws vs e h = sym (ap (list_any (goes_on (suc k) cuts exit)) e) ∙ h

pub same_adds : {A : Type 0} (k : ℕ) (cuts : List ℕ) (exit : ℕ) (ws vs : List Walk) (before after : List Path) (r : Result A PathRefusal) → ws ≡ vs
    → Adds (flat_map (walks k cuts exit) vs) before after r → Adds (flat_map (walks k cuts exit) ws) before after r
same_adds k cuts exit ws vs before after r e h = subst (λ xs. Adds (flat_map (walks k cuts exit) xs) before after r) (sym e) h

pub skip_step : (n : ℕ) (a : Stmt) (here behind : Rest) (ls : List Literal) (s : StoreTerm) → a ≡ skip → stmt_step n a here behind ls s ≡ stands ls s behind ∷ []
unfolding stmt_step
skip_step n a here behind ls s e = ap (λ y. stmt_step n y here behind ls s) e

pub put_step : (n : ℕ) (a : Stmt) (x : Name) (es : Exprs) (v : Expr) (here behind : Rest) (ls : List Literal) (s : StoreTerm) → a ≡ put x es v
    → stmt_step n a here behind ls s ≡ stands ls (term.put s (number_of x) (values_at es s) (value_at v s)) behind ∷ []
unfolding stmt_step
put_step n a x es v here behind ls s e = ap (λ y. stmt_step n y here behind ls s) e

pub if_step : (n m : ℕ) (a : Stmt) (t : Test) (b c : Block) (here behind yes_rest no_rest : Rest) (ls : List Literal) (s : StoreTerm) → a ≡ if_then t b c → m ≡ n + point_count b
    → yes_rest ≡ stretch n b ∷ behind → no_rest ≡ stretch m c ∷ behind
    → stmt_step n a here behind ls s ≡ by_each (outcomes t true s) ls s yes_rest ++ by_each (outcomes t false s) ls s no_rest
unfolding stmt_step
if_step n m a t b c here behind yes_rest no_rest ls s e k f g =
    ap (λ y. stmt_step n y here behind ls s) e
    ∙ (λ i. by_each (outcomes t true s) ls s (sym f i) ++ by_each (outcomes t false s) ls s (stretch (sym k i) c ∷ behind))
    ∙ ap (λ r. by_each (outcomes t true s) ls s yes_rest ++ by_each (outcomes t false s) ls s r) (sym g)

pub while_step : (n m : ℕ) (a : Stmt) (t : Test) (b : Block) (here behind yes_rest : Rest) (ls : List Literal) (s : StoreTerm) → a ≡ while_do t b → m ≡ suc n → yes_rest ≡ stretch m b ∷ here
    → stmt_step n a here behind ls s ≡ by_each (outcomes t true s) ls s yes_rest ++ by_each (outcomes t false s) ls s behind
unfolding stmt_step
while_step n m a t b here behind yes_rest ls s e k f =
    ap (λ y. stmt_step n y here behind ls s) e
    ∙ ap (λ j. by_each (outcomes t true s) ls s (stretch j b ∷ here) ++ by_each (outcomes t false s) ls s behind) (sym k)
    ∙ ap (λ r. by_each (outcomes t true s) ls s r ++ by_each (outcomes t false s) ls s behind) (sym f)

pub assert_step : (n : ℕ) (a : Stmt) (t : Test) (here behind : Rest) (ls : List Literal) (s : StoreTerm) → a ≡ assert_that t
    → stmt_step n a here behind ls s ≡ by_each (outcomes t true s) ls s behind ++ each_so (outcomes t false s) ls s (stops Halted)
unfolding stmt_step
assert_step n a t here behind ls s e = ap (λ y. stmt_step n y here behind ls s) e

pub stopped_walks : (k : ℕ) (cuts : List ℕ) (exit : ℕ) (ls : List Literal) (s : StoreTerm) (stop : Stop) → walks k cuts exit (record { literals = ls; store = s; next = stops stop }) ≡ record { literals = ls; store = s; stop = stop } ∷ []
unfolding walks
stopped_walks zero cuts exit ls s stop = refl
stopped_walks (suc k) cuts exit ls s stop = refl

-- the outcomes in which an `assert` is false stop one by one
halting_walks : (k : ℕ) (cuts : List ℕ) (exit : ℕ) (found : List (List Literal)) (ls : List Literal) (s : StoreTerm) → flat_map (walks k cuts exit) (each_so found ls s (stops Halted)) ≡ halting_paths found ls s
halting_walks k cuts exit [] ls s = refl
halting_walks k cuts exit (x ∷ found) ls s = λ i. stopped_walks k cuts exit (ls ++ x) s Halted i ++ halting_walks k cuts exit found ls s i

pub assert_ends : (k : ℕ) (cuts : List ℕ) (exit n : ℕ) (a : Stmt) (t : Test) (here behind : Rest) (ls : List Literal) (s : StoreTerm) → a ≡ assert_that t
    → list_any (goes_on (suc k) cuts exit) (stmt_step n a here behind ls s) ≡ false → list_any (goes_on (suc k) cuts exit) (by_each (outcomes t true s) ls s behind) ≡ false
assert_ends k cuts exit n a t here behind ls s e h =
    (or_neither (list_any (goes_on (suc k) cuts exit) (by_each (outcomes t true s) ls s behind)) (list_any (goes_on (suc k) cuts exit) (each_so (outcomes t false s) ls s (stops Halted)))
    (sym (list_any-append (goes_on (suc k) cuts exit) (by_each (outcomes t true s) ls s behind) (each_so (outcomes t false s) ls s (stops Halted)))
    ∙ same_ends k cuts exit _ _ (assert_step n a t here behind ls s e) h)).0

pub assert_adds : {A : Type 0} (k : ℕ) (cuts : List ℕ) (exit n : ℕ) (a : Stmt) (t : Test) (here behind : Rest) (ls : List Literal) (s : StoreTerm) (before after : List Path) (r : Result A PathRefusal)
    → a ≡ assert_that t → Adds (flat_map (walks k cuts exit) (by_each (outcomes t true s) ls s behind) ++ halting_paths (outcomes t false s) ls s) before after r
    → Adds (flat_map (walks k cuts exit) (stmt_step n a here behind ls s)) before after r
assert_adds k cuts exit n a t here behind ls s before after r e h =
    same_adds k cuts exit _ _ before after r (assert_step n a t here behind ls s e)
    (subst (λ f. Adds f before after r)
    (sym (flat_map-append (walks k cuts exit) (by_each (outcomes t true s) ls s behind) (each_so (outcomes t false s) ls s (stops Halted))
    ∙ ap (λ f. flat_map (walks k cuts exit) (by_each (outcomes t true s) ls s behind) ++ f) (halting_walks k cuts exit (outcomes t false s) ls s))) h)

pub par_ends : (k : ℕ) (cuts : List ℕ) (exit n j : ℕ) (a : Stmt) (here behind : Rest) (ls : List Literal) (s : StoreTerm) → a ≡ par_stmt j
    → list_any (goes_on (suc k) cuts exit) (stmt_step n a here behind ls s) ≡ false
    → goes_on (suc k) cuts exit (stands (ls ++ record { sign = true; atom = Ends (term.run j s) } ∷ []) (term.run j s) behind) ≡ false
unfolding stmt_step
par_ends k cuts exit n j a here behind ls s e h =
    (or_neither (goes_on (suc k) cuts exit (stands (ls ++ record { sign = true; atom = Ends (term.run j s) } ∷ []) (term.run j s) behind)) _
    (sym (ap (λ y. list_any (goes_on (suc k) cuts exit) (stmt_step n y here behind ls s)) e) ∙ h)).0

pub par_adds : {A : Type 0} (k : ℕ) (cuts : List ℕ) (exit n j : ℕ) (a : Stmt) (here behind : Rest) (ls : List Literal) (s : StoreTerm) (before after : List Path) (r : Result A PathRefusal)
    → a ≡ par_stmt j
    → Adds (walks k cuts exit (stands (ls ++ record { sign = true; atom = Ends (term.run j s) } ∷ []) (term.run j s) behind)
    ++ record { literals = ls ++ record { sign = false; atom = Ends (term.run j s) } ∷ []; store = s; stop = Stuck j } ∷ []) before after r
    → Adds (flat_map (walks k cuts exit) (stmt_step n a here behind ls s)) before after r
unfolding stmt_step
par_adds k cuts exit n j a here behind ls s before after r e h =
    subst (λ f. Adds f before after r)
    (sym (ap (λ y. flat_map (walks k cuts exit) (stmt_step n y here behind ls s)) e
    ∙ ap (λ f. walks k cuts exit (stands (ls ++ record { sign = true; atom = Ends (term.run j s) } ∷ []) (term.run j s) behind) ++ (f ++ []))
    (stopped_walks k cuts exit (ls ++ record { sign = false; atom = Ends (term.run j s) } ∷ []) s (Stuck j)))) h

-- what is asked of the parts of a statement
opened : (n : ℕ) (a : Stmt) → IsWalkable n (stmt a empty) → stmt_is_open a ≡ true
opened n a h = (and_parts (stmt_is_open a) true h.opened).0

unscoped : (n : ℕ) (a : Stmt) → IsWalkable n (stmt a empty) → stmt_has_scope a ≡ false
unscoped n a h = (or_neither (stmt_has_scope a) false h.unscoped).0

pub assert_open : (n : ℕ) (a : Stmt) (t : Test) → a ≡ assert_that t → IsWalkable n (stmt a empty) → test_is_open t ≡ true
assert_open n a t e h = sym (ap stmt_is_open e) ∙ opened n a h

pub record PutOpen (x : Name) (es : Exprs) (v : Expr) : Type 0 where
  pub name : is_open x ≡ true
  pub indices : all_names_are_open es ≡ true
  pub value : names_are_open v ≡ true

pub put_open : (n : ℕ) (a : Stmt) (x : Name) (es : Exprs) (v : Expr) → a ≡ put x es v → IsWalkable n (stmt a empty) → PutOpen x es v
put_open n a x es v e h =
    let all : (is_open x && (all_names_are_open es && names_are_open v)) ≡ true = sym (ap stmt_is_open e) ∙ opened n a h in
    let parts : (is_open x ≡ true) × ((all_names_are_open es && names_are_open v) ≡ true) = and_parts (is_open x) (all_names_are_open es && names_are_open v) all in
    let inner : (all_names_are_open es ≡ true) × (names_are_open v ≡ true) = and_parts (all_names_are_open es) (names_are_open v) parts.1 in
    record { name = parts.0; indices = inner.0; value = inner.1 }

pub record IfWalkable (n : ℕ) (t : Test) (b c : Block) : Type 0 where
  pub test : test_is_open t ≡ true
  pub first : IsWalkable n b
  pub second : IsWalkable (n + point_count b) c
  pub numbered : n + (point_count b + point_count c) < 2 ^ 32

pub if_walkable : (n : ℕ) (a : Stmt) (t : Test) (b c : Block) → a ≡ if_then t b c → IsWalkable n (stmt a empty) → IfWalkable n t b c
if_walkable n a t b c e h =
    let all : (test_is_open t && (block_is_open b && block_is_open c)) ≡ true = sym (ap stmt_is_open e) ∙ opened n a h in
    let parts : (test_is_open t ≡ true) × ((block_is_open b && block_is_open c) ≡ true) = and_parts (test_is_open t) (block_is_open b && block_is_open c) all in
    let inner : (block_is_open b ≡ true) × (block_is_open c ≡ true) = and_parts (block_is_open b) (block_is_open c) parts.1 in
    let scopes : (has_scope b ≡ false) × (has_scope c ≡ false) = or_neither (has_scope b) (has_scope c) (sym (ap stmt_has_scope e) ∙ unscoped n a h) in
    let count : stmt_count a ≡ point_count b + point_count c = ap stmt_count e in
    let small : n + (stmt_count a + 0) < 2 ^ 32 = h.numbered in
    record {
      test = parts.0;
      first = record { numbered = omega (arith, count, small); opened = inner.0; unscoped = scopes.0 };
      second = record { numbered = omega (arith, count, small); opened = inner.1; unscoped = scopes.1 };
      numbered = omega (arith, count, small);
    }

pub record WhileWalkable (n : ℕ) (t : Test) (b : Block) : Type 0 where
  pub test : test_is_open t ≡ true
  pub body : IsWalkable (suc n) b

pub while_walkable : (n : ℕ) (a : Stmt) (t : Test) (b : Block) → a ≡ while_do t b → IsWalkable n (stmt a empty) → WhileWalkable n t b
while_walkable n a t b e h =
    let all : (test_is_open t && block_is_open b) ≡ true = sym (ap stmt_is_open e) ∙ opened n a h in
    let parts : (test_is_open t ≡ true) × (block_is_open b ≡ true) = and_parts (test_is_open t) (block_is_open b) all in
    let count : stmt_count a ≡ suc (point_count b) = ap stmt_count e in
    let small : n + (stmt_count a + 0) < 2 ^ 32 = h.numbered in
    record {
      test = parts.0;
      body = record { numbered = omega (arith, count, small); opened = parts.1; unscoped = sym (ap stmt_has_scope e) ∙ unscoped n a h };
    }

pub stretched : (rest behind : Rest) (n : ℕ) (b : Block) → rest ≡ stretch n b ∷ behind → IsWalkable n b → AreWalkable behind → AreWalkable rest
stretched rest behind n b e h k = subst AreWalkable (sym e) (h, k)
