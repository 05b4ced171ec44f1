-- A step that holds behind some steps holds, its citations moved, behind any steps among which those that it cites stand.
use Rattle.std.specs.Prelude.{◌≡◌, ◌+◌, zero, suc, length, ℕ, ℤ, ◌+ℤ◌, pos, Bool, true, false, cond, List, [], ◌∷◌, ◌++◌, map, Option, Some, None, slice_get, refl}
use Rattle.std.specs.Option.{option_map}
use Rattle.std.specs.List.{list_all}
use Rattle.std.proofs.Common.{sym, ◌∙◌, ap, subst, true≢false, arith}
use Rattle.std.proofs.lemmas.Bool.{and_parts, and_from}
use Rattle.rule_terms.specs.Term.{ValueTerm}
use Rattle.rule_terms.specs.declared.obligation.Atom.{Atom}
use Rattle.rule_terms.specs.declared.obligation.Conjunct.{Conjunct}
use Rattle.rule_terms.specs.declared.obligation.Atom.TheVariants.{SameStore, SameValue, AtMost, Ends, Holds}
use Rattle.rule_terms.specs.declared.obligation.Obligation.{Obligation}
use Rattle.law_clauses.specs.Arguments.{Argument, identical, equality}
use Rattle.law_clauses.specs.Signed.{Signed, plus, minus, signed_of, all_signed}
use Rattle.law_clauses.specs.Laws.{is_clause}
use Rattle.refutations.specs.declared.refutation.By.{By}
use Rattle.refutations.specs.declared.refutation.By.TheVariants.{Given, Known, Refl, Flip, Chain, Alike, Carry, Law, Meet, Sum}
use Rattle.refutations.specs.declared.refutation.Step.{Step}
use Rattle.refutations.specs.declared.refutation.SumRow.{SumRow}
use Rattle.refutations.specs.declared.refutation.SumRow.TheVariants.{Of, Back, Num, Off, OffBack}
use Rattle.proof_steps.specs.Cited.{fact, is_that, cited}
use Rattle.proof_steps.specs.Steps.{by_known, flipped, chained, met, by_law, all_negated, without, has_rows, summed, follows, is_shallow, row_is_shallow, reason_is_shallow, step_holds}
use Rattle.proof_steps.specs.Sums.{Bound, bound_of, bound_back, row_bound, goes_on, goes_on_by, adds_up}
use Rattle.proof_steps.specs.Replaced.{says, left_by_equality, left_by_pair, left_by_pairs, all_used, replaced, alike, carried, carried_atom}
use Rattle.proof_steps.specs.Moved.{moved_row, moved_reason, moved}

-- what is stated stays stated
abbrev pub Kept : Option Signed → Option Signed → Type 0
Kept None p = Unit {0}
Kept (Some x) p = p ≡ Some x

-- a test that nothing passes
kept_test : (test : Option Signed → Bool) → test None ≡ false → (o p : Option Signed) → Kept o p → test o ≡ true → test p ≡ true
kept_test test n None p k e = absurd (true≢false (sym e ∙ n))
kept_test test n (Some x) p k e = ap test k ∙ e

chained_none : (o : Option Signed) (x : Signed) → chained o None x ≡ false
unfolding chained
chained_none None x = refl
chained_none (Some (plus a)) x = refl
chained_none (Some (minus a)) x = refl

met_none : (o : Option Signed) (x : Signed) → met o None x ≡ false
unfolding met
met_none None x = refl
met_none (Some (plus (AtMost a b c))) x = refl
met_none (Some _) x = refl

module _ (earlier later : List Step) (f : ℕ → ℕ) (kept : (k : ℕ) → Kept (fact earlier k) (fact later (f k))) where
  that_kept : (k : ℕ) (x : Signed) → is_that (fact earlier k) x ≡ true → is_that (fact later (f k)) x ≡ true
  that_kept k x = kept_test (λ o. is_that o x) refl (fact earlier k) (fact later (f k)) (kept k)

  cited_kept : (ks : List ℕ) (xs : List Signed) → cited earlier ks xs ≡ true → cited later (map f ks) xs ≡ true
  unfolding cited
  cited_kept [] [] e = refl
  cited_kept [] (x ∷ xs) e = absurd (true≢false (sym e))
  cited_kept (k ∷ ks) [] e = absurd (true≢false (sym e))
  cited_kept (k ∷ ks) (x ∷ xs) e =
      let p = and_parts (is_that (fact earlier k) x) _ e in
      and_from _ _ (that_kept k x p.0) (cited_kept ks xs p.1)

  -- ---- arguments
  abbrev moved_left : Option (List ℕ) → Option (List ℕ)
  moved_left o = option_map (map f) o

  -- where steps are left, they are left of the moved ones
  abbrev LeftKept : Option (List ℕ) → Option (List ℕ) → Type 0
  LeftKept None p = Unit {0}
  LeftKept (Some ks) p = p ≡ Some (map f ks)

  says_kept : (k : ℕ) (o : Option Atom) → says earlier k o ≡ true → says later (f k) o ≡ true
  says_kept k None e = absurd (true≢false (sym e))
  says_kept k (Some a) e = that_kept k (plus a) e

  cond_kept : (b c : Bool) (ks : List ℕ) → (b ≡ true → c ≡ true) → LeftKept (cond b (Some ks) None) (cond c (Some (map f ks)) None)
  cond_kept true c ks h = ap (λ d. cond d (Some (map f ks)) None) (h refl)
  cond_kept false c ks h = tt

  equality_kept : (ks : List ℕ) (o : Option Atom) → LeftKept (left_by_equality earlier ks o) (left_by_equality later (map f ks) o)
  equality_kept [] o = tt
  equality_kept (k ∷ ks) o = cond_kept (says earlier k o) (says later (f k) o) ks (says_kept k o)

  pair_cond : (b : Bool) (ks : List ℕ) (o p : Option (List ℕ)) → LeftKept o p → LeftKept (cond b (Some ks) o) (cond b (Some (map f ks)) p)
  pair_cond true ks o p h = refl
  pair_cond false ks o p h = h

  pair_kept : (ks : List ℕ) (a b : Argument) → LeftKept (left_by_pair earlier (Some ks) a b) (left_by_pair later (Some (map f ks)) a b)
  unfolding left_by_pair
  pair_kept ks a b = pair_cond (identical a b) ks (left_by_equality earlier ks (equality a b)) (left_by_equality later (map f ks) (equality a b)) (equality_kept ks (equality a b))

  none_left : (xs : List Argument) (ys : List Argument) → all_used (left_by_pairs earlier None xs ys) ≡ false
  unfolding left_by_pairs left_by_pair
  none_left [] [] = refl
  none_left [] (y ∷ ys) = refl
  none_left (x ∷ xs) [] = refl
  none_left (x ∷ xs) (y ∷ ys) = none_left xs ys

  used_kept : (ks : List ℕ) → all_used (Some ks) ≡ true → all_used (Some (map f ks)) ≡ true
  used_kept [] e = refl
  used_kept (k ∷ ks) e = absurd (true≢false (sym e))

  left_kept : (xs ys : List Argument) (o p : Option (List ℕ)) → LeftKept o p → all_used (left_by_pairs earlier o xs ys) ≡ true → all_used (left_by_pairs later p xs ys) ≡ true
  unfolding left_by_pairs
  left_kept xs ys None p h e = absurd (true≢false (sym e ∙ none_left xs ys))
  left_kept [] [] (Some ks) p h e = ap all_used h ∙ used_kept ks e
  left_kept [] (y ∷ ys) (Some ks) p h e = absurd (true≢false (sym e))
  left_kept (x ∷ xs) [] (Some ks) p h e = absurd (true≢false (sym e))
  left_kept (x ∷ xs) (y ∷ ys) (Some ks) p h e =
      left_kept xs ys (left_by_pair earlier (Some ks) x y) (left_by_pair later p x y) (subst (λ q. LeftKept (left_by_pair earlier (Some ks) x y) (left_by_pair later q x y)) (sym h) (pair_kept ks x y)) e

  replaced_kept : (from : List ℕ) (xs ys : List Argument) → replaced earlier from xs ys ≡ true → replaced later (map f from) xs ys ≡ true
  replaced_kept from xs ys e = left_kept xs ys (Some from) (Some (map f from)) refl e

  alike_kept : (from : List ℕ) (x : Signed) → alike earlier from x ≡ true → alike later (map f from) x ≡ true
  unfolding alike
  alike_kept from (plus (SameStore a b)) e = let p = and_parts _ _ e in and_from _ _ p.0 (replaced_kept from _ _ p.1)
  alike_kept from (plus (SameValue a b)) e = let p = and_parts _ _ e in and_from _ _ p.0 (replaced_kept from _ _ p.1)
  alike_kept from _ e = absurd (true≢false (sym e))

  carried_atom_kept : (from : List ℕ) (a b : Atom) → carried_atom earlier from a b ≡ true → carried_atom later (map f from) a b ≡ true
  carried_atom_kept from (AtMost a b c) (AtMost d e g) h = let p = and_parts _ _ h in and_from _ _ p.0 (replaced_kept from _ _ p.1)
  carried_atom_kept from (Ends s) (Ends t) h = replaced_kept from _ _ h
  carried_atom_kept from (Holds j s) (Holds k t) h = let p = and_parts _ _ h in and_from _ _ p.0 (replaced_kept from _ _ p.1)
  carried_atom_kept from _ _ h = absurd (true≢false (sym h))

  carried_by : (from : List ℕ) (o : Option Signed) (x : Signed) → carried earlier from o x ≡ true → carried later (map f from) o x ≡ true
  unfolding carried
  carried_by from (Some (plus a)) (plus b) e = carried_atom_kept from a b e
  carried_by from (Some (minus a)) (minus b) e = carried_atom_kept from a b e
  carried_by from _ _ e = absurd (true≢false (sym e))

  carried_none : (from : List ℕ) (x : Signed) → carried later from None x ≡ false
  unfolding carried
  carried_none from (plus b) = refl
  carried_none from (minus b) = refl

  -- ---- rows
  abbrev BoundKept : Option Bound → Option Bound → Type 0
  BoundKept None p = Unit {0}
  BoundKept (Some b) p = p ≡ Some b

  same_bound : (o : Option Bound) → BoundKept o o
  same_bound None = tt
  same_bound (Some b) = refl

  bound_kept : (bound : Option Signed → Option Bound) → bound None ≡ None → (o p : Option Signed) → Kept o p → BoundKept (bound o) (bound p)
  bound_kept bound n None p k = subst (λ o. BoundKept o (bound p)) (sym n) tt
  bound_kept bound n (Some x) p k = subst (λ q. BoundKept (bound (Some x)) (bound q)) (sym k) (same_bound (bound (Some x)))

  row_kept : (row : SumRow) → BoundKept (row_bound earlier row) (row_bound later (moved_row f row))
  unfolding row_bound bound_of bound_back
  row_kept (Of k) = bound_kept bound_of refl (fact earlier k) (fact later (f k)) (kept k)
  row_kept (Back k) = bound_kept bound_back refl (fact earlier k) (fact later (f k)) (kept k)
  row_kept (Num a b) = refl
  row_kept (Off v) = same_bound (row_bound earlier (Off v))
  row_kept (OffBack v) = same_bound (row_bound earlier (OffBack v))

  goes_on_kept : (o p : Option Bound) → BoundKept o p → (a : ValueTerm) (sum : ℤ) (next more : ValueTerm → ℤ → Bool) → ((v : ValueTerm) (z : ℤ) → next v z ≡ true → more v z ≡ true) → goes_on_by o a sum next ≡ true → goes_on_by p a sum more ≡ true
  goes_on_kept None p k a sum next more h e = absurd (true≢false (sym e))
  goes_on_kept (Some b) p k a sum next more h e =
      let q = and_parts (goes_on b a sum) _ e in
      ap (λ o. goes_on_by o a sum more) k ∙ and_from _ _ q.0 (h b.high (sum +ℤ b.by) q.1)

  adds_kept : (rows : List SumRow) (a : ValueTerm) (sum : ℤ) (z : ValueTerm) (c : ℤ) → adds_up earlier rows a sum z c ≡ true → adds_up later (map (moved_row f) rows) a sum z c ≡ true
  unfolding adds_up
  adds_kept [] a sum z c e = e
  adds_kept (row ∷ rows) a sum z c e =
      goes_on_kept (row_bound earlier row) (row_bound later (moved_row f row)) (row_kept row) a sum (λ b more. adds_up earlier rows b more z c) (λ b more. adds_up later (map (moved_row f) rows) b more z c)
      (λ b more h. adds_kept rows b more z c h) e

  rows_kept : (rows : List SumRow) → has_rows rows ≡ true → has_rows (map (moved_row f) rows) ≡ true
  rows_kept [] e = e
  rows_kept (row ∷ rows) e = refl

  summed_kept : (rows : List SumRow) (x : Signed) → summed earlier rows x ≡ true → summed later (map (moved_row f) rows) x ≡ true
  unfolding summed
  summed_kept rows (plus (AtMost a z c)) e =
      let p = and_parts (has_rows rows) _ e in
      and_from _ _ (rows_kept rows p.0) (adds_kept rows a (pos 0) z c p.1)
  summed_kept rows _ e = absurd (true≢false (sym e))

  -- ---- any reason
  known_kept : (c : Option Conjunct) (from : List ℕ) (x : Signed) → by_known earlier c from x ≡ true → by_known later c (map f from) x ≡ true
  unfolding by_known
  known_kept None from x e = e
  known_kept (Some c) from x e =
      let p = and_parts (cited earlier from (all_signed c.when)) _ e in
      and_from _ _ (cited_kept from (all_signed c.when) p.0) p.1

  law_kept : (ob : Obligation) (k : ℕ) (clause : List Signed) (p : ℕ) (from : List ℕ) (x : Signed) → by_law ob earlier k clause p from x ≡ true → by_law ob later k clause p (map f from) x ≡ true
  unfolding by_law
  law_kept ob k clause p from x e =
      let h = and_parts (is_clause ob k clause) _ e in
      let g = and_parts (is_that (slice_get clause p) x) _ h.1 in
      and_from _ _ h.0 (and_from _ _ g.0 (cited_kept from (all_negated (without p clause)) g.1))

  follows_kept : (ob : Obligation) (given : List Signed) (why : By) (x : Signed) → follows ob given earlier why x ≡ true → follows ob given later (moved_reason f why) x ≡ true
  unfolding flipped chained met
  follows_kept ob given Given x e = e
  follows_kept ob given (Known k from) x e = known_kept (slice_get ob.known k) from x e
  follows_kept ob given Refl x e = e
  follows_kept ob given (Flip k) x e = kept_test (λ o. flipped o x) refl (fact earlier k) (fact later (f k)) (kept k) e
  follows_kept ob given (Chain j k) x e =
      kept_test (λ o. chained (fact later (f j)) o x) (chained_none (fact later (f j)) x) (fact earlier k) (fact later (f k)) (kept k)
      (kept_test (λ o. chained o (fact earlier k) x) refl (fact earlier j) (fact later (f j)) (kept j) e)
  follows_kept ob given (Alike from) x e = alike_kept from x e
  follows_kept ob given (Carry k from) x e = kept_test (λ o. carried later (map f from) o x) (carried_none (map f from) x) (fact earlier k) (fact later (f k)) (kept k) (carried_by from (fact earlier k) x e)
  follows_kept ob given (Law k clause p from) x e = law_kept ob k (all_signed clause) p from x e
  follows_kept ob given (Meet j k) x e =
      kept_test (λ o. met (fact later (f j)) o x) (met_none (fact later (f j)) x) (fact earlier k) (fact later (f k)) (kept k)
      (kept_test (λ o. met o (fact earlier k) x) refl (fact earlier j) (fact later (f j)) (kept j) e)
  follows_kept ob given (Sum rows) x e = summed_kept rows x e

  row_shallow : (row : SumRow) → row_is_shallow row ≡ true → row_is_shallow (moved_row f row) ≡ true
  row_shallow (Of k) e = refl
  row_shallow (Back k) e = refl
  row_shallow (Num a b) e = refl
  row_shallow (Off v) e = e
  row_shallow (OffBack v) e = e

  rows_shallow : (rows : List SumRow) → list_all row_is_shallow rows ≡ true → list_all row_is_shallow (map (moved_row f) rows) ≡ true
  rows_shallow [] e = refl
  rows_shallow (row ∷ rows) e = let p = and_parts (row_is_shallow row) _ e in and_from _ _ (row_shallow row p.0) (rows_shallow rows p.1)

  reason_shallow : (why : By) → reason_is_shallow why ≡ true → reason_is_shallow (moved_reason f why) ≡ true
  reason_shallow Given e = refl
  reason_shallow (Known k from) e = refl
  reason_shallow Refl e = refl
  reason_shallow (Flip k) e = refl
  reason_shallow (Chain j k) e = refl
  reason_shallow (Alike from) e = refl
  reason_shallow (Carry k from) e = refl
  reason_shallow (Law k clause p from) e = e
  reason_shallow (Meet j k) e = refl
  reason_shallow (Sum rows) e = rows_shallow rows e

  pub step_moved : (ob : Obligation) (given : List Signed) (s : Step) → step_holds ob given earlier s ≡ true → step_holds ob given later (moved f s) ≡ true
  unfolding step_holds
  step_moved ob given s e =
      let p = and_parts (is_shallow s.gives) _ e in
      let q = and_parts (reason_is_shallow s.by) _ p.1 in
      and_from _ _ p.0 (and_from _ _ (reason_shallow s.by q.0) (follows_kept ob given s.by (signed_of s.gives) q.1))

-- ---- among more steps
fact_before : (earlier behind : List Step) (k : ℕ) → Kept (fact earlier k) (fact (earlier ++ behind) k)
fact_before [] behind k = tt
fact_before (s ∷ earlier) behind zero = refl
fact_before (s ∷ earlier) behind (suc k) = fact_before earlier behind k

fact_after : (front steps : List Step) (k : ℕ) → fact (front ++ steps) (length front + k) ≡ fact steps k
fact_after [] steps k = let e : 0 + k ≡ k = omega arith in ap (fact steps) e
fact_after (s ∷ front) steps k =
    let e : suc (length front) + k ≡ suc (length front + k) = omega arith in
    ap (fact (s ∷ (front ++ steps))) e ∙ fact_after front steps k

pub step_among_more : (ob : Obligation) (given : List Signed) (front earlier behind : List Step) (s : Step) → step_holds ob given earlier s ≡ true → step_holds ob given (front ++ (earlier ++ behind)) (moved (λ k. length front + k) s) ≡ true
step_among_more ob given front earlier behind s e =
    step_moved earlier (front ++ (earlier ++ behind)) (λ k. length front + k)
    (λ k. subst (Kept (fact earlier k)) (sym (fact_after front (earlier ++ behind) k)) (fact_before earlier behind k)) ob given s e
