-- The laws that a condition gives: what a run, a write or another store leaves as it is, and which runs may be exchanged.
-- Only the last two show an answer: what the table says may be that a run does not end which ends.
use Rattle.std.specs.Prelude.{◌≡◌, ℕ, true, ℤ, pos, ◌+ℤ◌, ◌≤ℤ◌, List, [], ◌++◌, Option, Some, None, slice_get, is_some, refl}
use Rattle.std.proofs.Common.{sym, ◌∙◌, ap, subst, true≢false, arith}
use Rattle.std.proofs.lemmas.Int.{ints}
use Rattle.toy_imp.specs.declared.name.Name.{Name}
use Rattle.toy_imp.specs.declared.condition.Condition.TheVariants as condition
use Rattle.toy_imp.specs.declared.instance.Filling.TheVariants as filling
use Rattle.toy_imp.specs.declared.instance.Instance.{Instance}
use Rattle.toy_imp.specs.Cell.{spelled, variable}
use Rattle.toy_imp.specs.Store.{Store, read, write}
use Rattle.toy_imp.specs.Value.{value}
use Rattle.toy_imp.specs.Truth.{truth}
use Rattle.toy_imp.specs.Run.{before, ended}
use Rattle.toy_imp.specs.Ends.{Reaches, Ends, EndAlike}
use Rattle.toy_imp.specs.Fill.{name_at, expr_at, test_at, block_at}
use Rattle.toy_imp.specs.Keeps.{ExprIgnores, TestIgnores, StmtIgnores, IsPositive, IsConstant}
use Rattle.toy_imp.specs.Meets.{Meets}
use Rattle.toy_imp.specs.Block.{Block, append}
use Rattle.toy_imp.specs.Expr.{Expr}
use Rattle.toy_imp.specs.Test.{Test}
use Rattle.toy_imp.proofs.Runs.{one_final_store, before-append, before-split, Through, through, reaches_through}
use Rattle.toy_imp.proofs.Stores.{write_is_read, write-read}
use Rattle.rule_terms.specs.Term.{StoreTerm, put, run, ValueTerm, num, get, ev, ValueTerms, no_terms}
use Rattle.rule_terms.specs.declared.obligation.Atom.TheVariants.{Holds}
use Rattle.term_meaning.specs.MaybeStore.{put_in, read_in, value_in, truth_in}
use Rattle.term_meaning.specs.Table.{Entry, AgreesAt, Faithful}
use Rattle.term_meaning.specs.Meaning.{cell_at, store_of, value_of, values_of, atom_truth, CoversStore}
use Rattle.term_meaning.proofs.Agreeing.{run_agrees}
use Rattle.term_meaning.proofs.Conditions.{keeps_value, keeps_truth, keeps_variable, ignores_value, ignores_truth, ignores_run, runs_commute, is_positive, is_constant}

-- ---- over stores or nothing
-- a run that has ended: from a store, in a store
pub record Ended (b : Block) (o p : Option Store) : Type 0 where
  pub from : Store
  pub to : Store
  pub was : o ≡ Some from
  pub is : p ≡ Some to
  pub ends : Ends b from to

run_ended : (A : Type 0) (i : Instance) (k : ℕ) (o p : Option Store) → AgreesAt A i k o p → is_some p ≡ true → Ended (block_at i k) o p
run_ended A i k None None said there = absurd (true≢false (sym there))
run_ended A i k None (Some t) said there = absurd (true≢false (ap is_some said))
run_ended A i k (Some s) None said there = absurd (true≢false (sym there))
run_ended A i k (Some s) (Some t) said there = record { from = s; to = t; was = refl; is = refl; ends = said }

write_ignored_by_value : (e : Expr) (x : Name) → ExprIgnores e x → (o : Option Store) (n : List ℕ) (at : List ℤ) (v : ℤ) → n ≡ spelled x → value_in (put_in o (n, at) v) e ≡ value_in o e
write_ignored_by_value e x m None n at v names = refl
write_ignored_by_value e x m (Some s) n at v names = ap (λ z. value e (write s (z, at) v)) names ∙ m.same s at v

write_ignored_by_test : (q : Test) (x : Name) → TestIgnores q x → (o : Option Store) (n : List ℕ) (at : List ℤ) (v : ℤ) → n ≡ spelled x → truth_in (put_in o (n, at) v) q ≡ truth_in o q
write_ignored_by_test q x m None n at v names = refl
write_ignored_by_test q x m (Some s) n at v names = ap (λ z. truth q (write s (z, at) v)) names ∙ m.same s at v

-- a run that ignores a name leaves each of its cells: to write there what is there changes nothing
cell_ignored : (b : Block) (x : Name) → StmtIgnores b x → (at : List ℤ) (s t : Store) → Ends b s t → read t (spelled x, at) ≡ read s (spelled x, at)
cell_ignored b x m at s t ends =
    let from_same : Ends b (write s (spelled x, at) (read s (spelled x, at))) t = subst (λ z. Ends b z t) (sym (write-read s (spelled x, at))) ends in
    let run = m.to at (read s (spelled x, at)) s t from_same in
    ap (λ z. read z (spelled x, at)) run.2 ∙ write_is_read run.0 (spelled x, at) (read s (spelled x, at))

run_past_put : (A : Type 0) (i : Instance) (k : ℕ) (x : Name) → StmtIgnores (block_at i k) x → (at : List ℤ) (v : ℤ) (o a b : Option Store) → AgreesAt A i k o a → AgreesAt A i k (put_in o (spelled x, at) v) b → (b ≡ put_in a (spelled x, at) v → A) → A
run_past_put A i k x m at v None a b ga gb ret = ret (gb ∙ ap (λ p. put_in p (spelled x, at) v) (sym ga))
run_past_put A i k x m at v (Some s) None None ga gb ret = ret refl
run_past_put A i k x m at v (Some s) None (Some u) ga gb ret = let run = m.to at v s u gb in ga run.0 run.1
run_past_put A i k x m at v (Some s) (Some t) None ga gb ret = gb (write t (spelled x, at) v) (m.back at v s t ga)
run_past_put A i k x m at v (Some s) (Some t) (Some u) ga gb ret =
    ret (ap Some (one_final_store (before (block_at i k) []) (write s (spelled x, at) v) u (write t (spelled x, at) v) gb (m.back at v s t ga)))

-- two blocks one after the other
record Both (b c : Block) (s t : Store) : Type 0 where
  between : Store
  first : Ends b s between
  second : Ends c between t

both_one : (b c : Block) (s t : Store) → Both b c s t → Ends (append b c) s t
both_one b c s t d =
    let work : before b [] ++ before c [] ≡ before (append b c) [] = sym (before-split b (before c [])) ∙ sym (before-append b c []) in
    subst (λ w. Reaches w s (ended t)) work (reaches_through (before b []) (before c []) s d.between (ended t) d.first d.second)

one_both : (b c : Block) (s t : Store) → Ends (append b c) s t → Both b c s t
one_both b c s t r =
    let work : before (append b c) [] ≡ before b [] ++ before c [] = before-append b c [] ∙ before-split b (before c []) in
    let way : Through (before b []) (before c []) s (ended t) = through (before b []) (before c []) s t (subst (λ w. Reaches w s (ended t)) work r) in
    record { between = way.between; first = way.front; second = way.rear }

-- what is said of two runs one after the other
abbrev AgreesBoth : Type 0 → Block → Block → Store → Option Store → Type 0
AgreesBoth A b c s None = (t : Store) → Both b c s t → A
AgreesBoth A b c s (Some t) = Both b c s t

both_agree : (A : Type 0) (i : Instance) (j k : ℕ) (s : Store) (a b : Option Store) → AgreesAt A i j (Some s) a → AgreesAt A i k a b → AgreesBoth A (block_at i j) (block_at i k) s b
both_agree A i j k s None None ga gb = λ t d. ga d.between d.first
both_agree A i j k s None (Some t) ga gb = absurd (true≢false (ap is_some gb))
both_agree A i j k s (Some m) None ga gb =
    λ t d. gb t (subst (λ z. Ends (block_at i k) z t) (one_final_store (before (block_at i j) []) s d.between m d.first ga) d.second)
both_agree A i j k s (Some m) (Some t) ga gb = record { between = m; first = ga; second = gb }

exchange : (A : Type 0) (b c : Block) → EndAlike (append b c) (append c b) → (s : Store) (p q : Option Store) → AgreesBoth A b c s p → AgreesBoth A c b s q → (p ≡ q → A) → A
exchange A b c same s None None gp gq ret = ret refl
exchange A b c same s None (Some t) gp gq ret = gp t (one_both b c s t (same.back s t (both_one c b s t gq)))
exchange A b c same s (Some t) None gp gq ret = gq t (one_both c b s t (same.to s t (both_one b c s t gp)))
exchange A b c same s (Some t) (Some u) gp gq ret =
    ret (ap Some (one_final_store (before (append c b) []) s t u (same.to s t (both_one b c s t gp)) (both_one c b s u gq)))

none_after : (A : Type 0) (i : Instance) (k : ℕ) (o p : Option Store) → AgreesAt A i k o p → o ≡ None → p ≡ None
none_after A i k None p said none = said
none_after A i k (Some s) p said none = absurd (true≢false (ap is_some none))

runs_exchange : (A : Type 0) (i : Instance) (j k : ℕ) → EndAlike (append (block_at i j) (block_at i k)) (append (block_at i k) (block_at i j)) → (o a b c d : Option Store) → AgreesAt A i j o a → AgreesAt A i k a b → AgreesAt A i k o c → AgreesAt A i j c d → (b ≡ d → A) → A
runs_exchange A i j k same None a b c d ga gb gc gd ret = ret (none_after A i k a b gb ga ∙ sym (none_after A i j c d gd gc))
runs_exchange A i j k same (Some s) a b c d ga gb gc gd ret =
    exchange A (block_at i j) (block_at i k) same s b d (both_agree A i j k s a b ga gb) (both_agree A i k j s c d gc gd) ret

at_least_one : (e : Expr) → IsPositive e → (o : Option Store) → is_some o ≡ true → pos 1 ≤ℤ value_in o e
at_least_one e m None there = absurd (true≢false (sym there))
at_least_one e m (Some s) there = m.positive s

the_same : (e : Expr) → IsConstant e → (o p : Option Store) → is_some o ≡ true → is_some p ≡ true → value_in o e ≡ value_in p e
the_same e m None p there there_too = absurd (true≢false (sym there))
the_same e m (Some s) None there there_too = absurd (true≢false (sym there_too))
the_same e m (Some s) (Some t) there there_too = m.same s t

and_none : (z : ℤ) → pos 1 ≤ℤ z → pos 1 ≤ℤ (z +ℤ pos 0)
and_none z h = omega (arith, ints)

-- ---- over terms, by conditions on expressions and tests alone
module _ (i : Instance) (T : List Entry) (l r : Store) where
  module _ (s : StoreTerm) (y : ℕ) (is : ValueTerms) (v : ValueTerm) where
    pub write_keeps_ignoring_value : (e x : ℕ) → Meets i (condition.Ignores e x) → spelled (name_at i y) ≡ spelled (name_at i x) → value_of i T l r (ev e (put s y is v)) ≡ value_of i T l r (ev e s)
    unfolding value_of store_of
    write_keeps_ignoring_value e x m names = write_ignored_by_value (expr_at i e) (name_at i x) (ignores_value i e x m) (store_of i T l r s) _ _ _ names

    pub write_keeps_ignoring_test : (q x : ℕ) → Meets i (condition.Ignores q x) → spelled (name_at i y) ≡ spelled (name_at i x) → atom_truth i T l r (Holds q (put s y is v)) ≡ atom_truth i T l r (Holds q s)
    unfolding atom_truth store_of
    write_keeps_ignoring_test q x m names = write_ignored_by_test (test_at i q) (name_at i x) (ignores_truth i q x m) (store_of i T l r s) _ _ _ names

  pub positive_value : (e : ℕ) (u : StoreTerm) → Meets i (condition.Positive e) → is_some (store_of i T l r u) ≡ true → value_of i T l r (num (pos 1)) ≤ℤ (value_of i T l r (ev e u) +ℤ pos 0)
  unfolding value_of
  positive_value e u m there = and_none _ (at_least_one (expr_at i e) (is_positive i e m) (store_of i T l r u) there)

  pub constant_value : (e : ℕ) (a c : StoreTerm) → Meets i (condition.Constant e) → is_some (store_of i T l r a) ≡ true → is_some (store_of i T l r c) ≡ true → value_of i T l r (ev e a) ≡ value_of i T l r (ev e c)
  unfolding value_of
  constant_value e a c m there there_too = the_same (expr_at i e) (is_constant i e m) (store_of i T l r a) (store_of i T l r c) there there_too

-- ---- over terms with runs, under a faithful table
module _ (A : Type 0) (i : Instance) (T : List Entry) (l r : Store) (f : Faithful A i T) where
  module _ (k : ℕ) (u : StoreTerm) (c : CoversStore i T l r (run k u)) (there : is_some (store_of i T l r (run k u)) ≡ true) where
    the_run : Ended (block_at i k) (store_of i T l r u) (store_of i T l r (run k u))
    the_run = run_ended A i k _ _ (run_agrees A i T l r f k u c) there

    pub run_keeps_value : (e : ℕ) → Meets i (condition.Keeps k e) → value_of i T l r (ev e (run k u)) ≡ value_of i T l r (ev e u)
    unfolding value_of
    run_keeps_value e m =
        ap (λ o. value_in o (expr_at i e)) the_run.is ∙ (keeps_value i k e m).kept the_run.from the_run.to the_run.ends ∙ sym (ap (λ o. value_in o (expr_at i e)) the_run.was)

    pub run_keeps_variable : (x : ℕ) (name : Name) → slice_get i.fillings x ≡ Some (filling.Name name) → Meets i (condition.Keeps k x) → value_of i T l r (get x no_terms (run k u)) ≡ value_of i T l r (get x no_terms u)
    unfolding value_of values_of
    run_keeps_variable x name is m =
        ap (λ o. read_in o (variable (name_at i x))) the_run.is ∙ (keeps_variable i k x name is m).kept the_run.from the_run.to the_run.ends ∙ sym (ap (λ o. read_in o (variable (name_at i x))) the_run.was)

    pub run_keeps_test : (q : ℕ) → Meets i (condition.Keeps k q) → atom_truth i T l r (Holds q (run k u)) ≡ atom_truth i T l r (Holds q u)
    unfolding atom_truth
    run_keeps_test q m =
        ap (λ o. truth_in o (test_at i q)) the_run.is ∙ (keeps_truth i k q m).kept the_run.from the_run.to the_run.ends ∙ sym (ap (λ o. truth_in o (test_at i q)) the_run.was)

    pub run_keeps_ignored_cell : (x y : ℕ) (js : ValueTerms) → Meets i (condition.Ignores k x) → spelled (name_at i y) ≡ spelled (name_at i x) → value_of i T l r (get y js (run k u)) ≡ value_of i T l r (get y js u)
    unfolding value_of
    run_keeps_ignored_cell x y js m names =
        let at : List ℤ = values_of i T l r js in
        let kept : read the_run.to (spelled (name_at i x), at) ≡ read the_run.from (spelled (name_at i x), at) = cell_ignored (block_at i k) (name_at i x) (ignores_run i k x m) at the_run.from the_run.to the_run.ends in
        ap (λ o. read_in o (cell_at i y at)) the_run.is ∙ subst (λ n. read the_run.to (n, at) ≡ read the_run.from (n, at)) (sym names) kept ∙ sym (ap (λ o. read_in o (cell_at i y at)) the_run.was)

  -- a run behind a write that it ignores is the write behind the run
  pub run_past_ignored_write : (k x : ℕ) (s : StoreTerm) (y : ℕ) (is : ValueTerms) (v : ValueTerm) → Meets i (condition.Ignores k x) → spelled (name_at i y) ≡ spelled (name_at i x) → CoversStore i T l r (run k (put s y is v)) → CoversStore i T l r (put (run k s) y is v) → (store_of i T l r (run k (put s y is v)) ≡ store_of i T l r (put (run k s) y is v) → A) → A
  unfolding store_of CoversStore
  run_past_ignored_write k x s y is v m names c d ret =
      let at : List ℤ = values_of i T l r is in
      let z : ℤ = value_of i T l r v in
      let o : Option Store = store_of i T l r s in
      let a : Option Store = store_of i T l r (run k s) in
      let b : Option Store = store_of i T l r (run k (put s y is v)) in
      let past : AgreesAt A i k (put_in o (spelled (name_at i x), at) z) b → (b ≡ put_in a (spelled (name_at i x), at) z → A) → A = run_past_put A i k (name_at i x) (ignores_run i k x m) at z o a b (run_agrees A i T l r f k s d.0) in
      subst (λ n. AgreesAt A i k (put_in o (n, at) z) b → (b ≡ put_in a (n, at) z → A) → A) (sym names) past (run_agrees A i T l r f k (put s y is v) c) ret

  -- two runs that commute, one behind the other, are the same in the other order
  pub runs_in_either_order : (j k : ℕ) (s : StoreTerm) → Meets i (condition.Commutes j k) → CoversStore i T l r (run k (run j s)) → CoversStore i T l r (run j (run k s)) → (store_of i T l r (run k (run j s)) ≡ store_of i T l r (run j (run k s)) → A) → A
  unfolding CoversStore
  runs_in_either_order j k s m c d ret =
      runs_exchange A i j k (runs_commute i j k m).alike (store_of i T l r s) _ _ _ _
      (run_agrees A i T l r f j s c.0) (run_agrees A i T l r f k (run j s) c) (run_agrees A i T l r f k s d.0) (run_agrees A i T l r f j (run k s) d) ret
