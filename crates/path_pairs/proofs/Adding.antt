-- Paths that are added one list after another, and walks of too many nodes.
use Rattle.std.specs.Prelude.{◌≡◌, ℕ, suc, ◌+◌, ◌≤◌, ◌<◌, nat_lt, Bool, true, false, ◌||◌, List, [], ◌∷◌, ◌++◌, length, flat_map, Result, Ok, Err, refl}
use Rattle.std.specs.List.{list_any}
use Rattle.std.proofs.Common.{sym, ◌∙◌, ap, subst, get_or, drop, inl, inr, arith}
use Rattle.std.proofs.lemmas.List.{append_assoc, append-nil, drop_more, drop_all}
use Rattle.std.proofs.lemmas.List.Folds.{list_any-append}
use Rattle.toy_imp.specs.Test.{Test}
use Rattle.rule_terms.specs.Term.{StoreTerm}
use Rattle.rule_terms.specs.Counts.{store_nodes, literals_nodes}
use Rattle.rule_terms.specs.declared.obligation.Literal.{Literal}
use Rattle.rule_terms.specs.declared.path.Path.{Path}
use Rattle.rule_terms.specs.declared.limit.LimitKind.TheVariants.{PathNodes}
use Rattle.path_pairs.specs.declared.refusal.PathRefusal.{PathRefusal}
use Rattle.path_pairs.specs.declared.refusal.PathRefusal.TheVariants.{Limit, NoMemory}
use Rattle.path_pairs.specs.NodeCounts.{outcome_nodes}
use Rattle.path_pairs.specs.Outcomes.{outcomes}
use Rattle.path_pairs.specs.PathAnswers.{Adds, RefusesNodes}
use Rattle.path_pairs.specs.Paths.{path_nodes, is_large_path}
use Rattle.path_pairs.specs.Rests.{Rest, stretch}
use Rattle.path_pairs.specs.Walkable.{AreWalkable}
use Rattle.path_pairs.specs.Walks.{goes, stands, by_each, walks, goes_on}
use Rattle.path_pairs.proofs.LargeWalks.{rest_is_plain, goes_large, large_is}
use Rattle.path_pairs.proofs.NodesAt.{literals_append, has_nodes, le_is, some_has_nodes}
use Rattle.path_pairs.proofs.Stopping.{or_cases, or_neither}

pub or_left : (x y : Bool) → x ≡ true → (x || y) ≡ true
or_left true y h = refl
or_left false y h = cc

pub or_right : (x y : Bool) → y ≡ true → (x || y) ≡ true
or_right true y h = refl
or_right false y h = h

both_false : (x y : Bool) → x ≡ false → y ≡ false → (x || y) ≡ false
both_false true y h k = cc
both_false false y h k = k

some_first : (f g : List Path) → list_any is_large_path f ≡ true → list_any is_large_path (f ++ g) ≡ true
some_first f g h = list_any-append is_large_path f g ∙ or_left (list_any is_large_path f) (list_any is_large_path g) h

some_second : (f g : List Path) → list_any is_large_path g ≡ true → list_any is_large_path (f ++ g) ≡ true
some_second f g h = list_any-append is_large_path f g ∙ or_right (list_any is_large_path f) (list_any is_large_path g) h

pub adds_then : {A B : Type 0} (f g before mid after : List Path) (u : A) (r : Result B PathRefusal) → Adds f before mid (Ok u) → Adds g mid after r → Adds (f ++ g) before after r
adds_then f g before mid after u (Ok v) h k = (
  k.0 ∙ ap (λ xs. xs ++ g) h.0 ∙ append_assoc before f g,
  list_any-append is_large_path f g ∙ both_false (list_any is_large_path f) (list_any is_large_path g) h.1 k.1,
)
adds_then f g before mid after u (Err (Limit what)) h k = (k.0, some_second f g k.1)
adds_then f g before mid after u (Err NoMemory) h k = tt

pub adds_stop : (A B : Type 0) (f g before after : List Path) (e : PathRefusal) → Adds {A = A} f before after (Err e) → Adds {A = B} (f ++ g) before after (Err e)
adds_stop A B f g before after (Limit what) h = (h.0, some_first f g h.1)
adds_stop A B f g before after NoMemory h = tt

pub adds_alone : {A : Type 0} (f before after : List Path) (r : Result A PathRefusal) → Adds f before after r → Adds (f ++ []) before after r
adds_alone f before after r h = subst (λ g. Adds g before after r) (sym (append-nil f)) h

pub adds_large : (A : Type 0) (f before after : List Path) → list_any is_large_path f ≡ true → Adds {A = A} f before after (Err (Limit PathNodes))
adds_large A f before after h = (refl, h)

pub plain_of : (rest : Rest) → AreWalkable rest → rest_is_plain rest
plain_of [] h = tt
plain_of (stretch n b ∷ rest) h = (h.0.unscoped, plain_of rest h.1)

-- a walk of too many nodes that does not go on
pub walk_refused : (A : Type 0) (k : ℕ) (cuts : List ℕ) (exit : ℕ) (ls : List Literal) (s : StoreTerm) (rest : Rest) (before after : List Path) (e : PathRefusal) → AreWalkable rest
    → goes_on (suc k) cuts exit (stands ls s rest) ≡ false → RefusesNodes (literals_nodes ls + store_nodes s) e → Adds {A = A} (walks k cuts exit (stands ls s rest)) before after (Err e)
walk_refused A k cuts exit ls s rest before after (Limit what) h ends large =
    (large.0, goes_large k cuts exit ls s (goes rest) (plain_of rest h) ends (large_is (literals_nodes ls + store_nodes s) large.1))
walk_refused A k cuts exit ls s rest before after NoMemory h ends large = tt

-- walks by each outcome, one after another
pub record EachAdded (k : ℕ) (cuts : List ℕ) (exit : ℕ) (found : List (List Literal)) (ls : List Literal) (s : StoreTerm) (rest : Rest) (before : List Path) (i : ℕ) (all : List Path) : Type 0 where
  pub left : all ++ flat_map (walks k cuts exit) (by_each (drop i found) ls s rest) ≡ before ++ flat_map (walks k cuts exit) (by_each found ls s rest)
  pub small : list_any is_large_path (flat_map (walks k cuts exit) (by_each found ls s rest)) ≡ list_any is_large_path (flat_map (walks k cuts exit) (by_each (drop i found) ls s rest))
  pub ends : list_any (goes_on (suc k) cuts exit) (by_each (drop i found) ls s rest) ≡ false

pub each_start : (k : ℕ) (cuts : List ℕ) (exit : ℕ) (found : List (List Literal)) (ls : List Literal) (s : StoreTerm) (rest : Rest) (before : List Path)
    → list_any (goes_on (suc k) cuts exit) (by_each found ls s rest) ≡ false → EachAdded k cuts exit found ls s rest before 0 before
each_start k cuts exit found ls s rest before h = record { left = refl; small = refl; ends = h }

opened : (k : ℕ) (cuts : List ℕ) (exit : ℕ) (found : List (List Literal)) (ls : List Literal) (s : StoreTerm) (rest : Rest) (i : ℕ) (o : List Literal) → i < length found → o ≡ get_or found i o
    → drop i found ≡ o ∷ drop (i + 1) found
opened k cuts exit found ls s rest i o h e = drop_more found i o h ∙ ap (λ x. x ∷ drop (i + 1) found) (sym e)

pub each_ends : (k : ℕ) (cuts : List ℕ) (exit : ℕ) (found : List (List Literal)) (ls : List Literal) (s : StoreTerm) (rest : Rest) (before all : List Path) (i : ℕ) (o : List Literal)
    → i < length found → o ≡ get_or found i o → EachAdded k cuts exit found ls s rest before i all → goes_on (suc k) cuts exit (stands (ls ++ o) s rest) ≡ false
each_ends k cuts exit found ls s rest before all i o h e c =
    (or_neither (goes_on (suc k) cuts exit (stands (ls ++ o) s rest)) (list_any (goes_on (suc k) cuts exit) (by_each (drop (i + 1) found) ls s rest))
    (sym (ap (λ xs. list_any (goes_on (suc k) cuts exit) (by_each xs ls s rest)) (opened k cuts exit found ls s rest i o h e)) ∙ c.ends)).0

pub each_next : {A : Type 0} (k : ℕ) (cuts : List ℕ) (exit : ℕ) (found : List (List Literal)) (ls : List Literal) (s : StoreTerm) (rest : Rest) (before all more : List Path) (i : ℕ) (o : List Literal) (u : A)
    → i < length found → o ≡ get_or found i o → Adds (walks k cuts exit (stands (ls ++ o) s rest)) all more (Ok u) → EachAdded k cuts exit found ls s rest before i all
    → EachAdded k cuts exit found ls s rest before (i + 1) more
each_next k cuts exit found ls s rest before all more i o u h e added c =
    let front : List Path = walks k cuts exit (stands (ls ++ o) s rest) in
    let back : List Path = flat_map (walks k cuts exit) (by_each (drop (i + 1) found) ls s rest) in
    let place : drop i found ≡ o ∷ drop (i + 1) found = opened k cuts exit found ls s rest i o h e in
    let whole : flat_map (walks k cuts exit) (by_each (drop i found) ls s rest) ≡ front ++ back = ap (λ xs. flat_map (walks k cuts exit) (by_each xs ls s rest)) place in
    record {
      left = ap (λ xs. xs ++ back) added.0 ∙ append_assoc all front back ∙ ap (λ xs. all ++ xs) (sym whole) ∙ c.left;
      small = c.small ∙ ap (list_any is_large_path) whole ∙ list_any-append is_large_path front back ∙ ap (λ b. b || list_any is_large_path back) added.1;
      ends = (or_neither (goes_on (suc k) cuts exit (stands (ls ++ o) s rest)) (list_any (goes_on (suc k) cuts exit) (by_each (drop (i + 1) found) ls s rest))
          (sym (ap (λ xs. list_any (goes_on (suc k) cuts exit) (by_each xs ls s rest)) place) ∙ c.ends)).1;
    }

pub each_stop : (A B : Type 0) (k : ℕ) (cuts : List ℕ) (exit : ℕ) (found : List (List Literal)) (ls : List Literal) (s : StoreTerm) (rest : Rest) (before all more after : List Path) (i : ℕ) (o : List Literal)
    (r : PathRefusal) → i < length found → o ≡ get_or found i o → Adds {A = A} (walks k cuts exit (stands (ls ++ o) s rest)) all more (Err r) → EachAdded k cuts exit found ls s rest before i all
    → Adds {A = B} (flat_map (walks k cuts exit) (by_each found ls s rest)) before after (Err r)
each_stop A B k cuts exit found ls s rest before all more after i o (Limit what) h e added c =
    let front : List Path = walks k cuts exit (stands (ls ++ o) s rest) in
    let back : List Path = flat_map (walks k cuts exit) (by_each (drop (i + 1) found) ls s rest) in
    let whole : flat_map (walks k cuts exit) (by_each (drop i found) ls s rest) ≡ front ++ back =
    ap (λ xs. flat_map (walks k cuts exit) (by_each xs ls s rest)) (opened k cuts exit found ls s rest i o h e) in
    (added.0, c.small ∙ ap (list_any is_large_path) whole ∙ some_first front back added.1)
each_stop A B k cuts exit found ls s rest before all more after i o NoMemory h e added c = tt

pub each_end : {A : Type 0} (k : ℕ) (cuts : List ℕ) (exit : ℕ) (found : List (List Literal)) (ls : List Literal) (s : StoreTerm) (rest : Rest) (before all : List Path) (i : ℕ) (u : A)
    → length found ≤ i → EachAdded k cuts exit found ls s rest before i all → Adds (flat_map (walks k cuts exit) (by_each found ls s rest)) before all (Ok u)
each_end k cuts exit found ls s rest before all i u h c =
    let done : drop i found ≡ [] = drop_all i found h in (
      sym (append-nil all) ∙ ap (λ xs. all ++ flat_map (walks k cuts exit) (by_each xs ls s rest)) (sym done) ∙ c.left,
      c.small ∙ ap (λ xs. list_any is_large_path (flat_map (walks k cuts exit) (by_each xs ls s rest))) done,
    )

-- some outcome makes a walk of too many nodes
large_each : (k : ℕ) (cuts : List ℕ) (exit j : ℕ) (found : List (List Literal)) (ls : List Literal) (s : StoreTerm) (rest : Rest) → AreWalkable rest
    → list_any (goes_on (suc k) cuts exit) (by_each found ls s rest) ≡ false → 4096 < literals_nodes ls + j + store_nodes s → list_any (has_nodes j) found ≡ true
    → list_any is_large_path (flat_map (walks k cuts exit) (by_each found ls s rest)) ≡ true
large_each k cuts exit j [] ls s rest h ends large some = cc
large_each k cuts exit j (o ∷ found) ls s rest h ends large some =
    let parts : (goes_on (suc k) cuts exit (stands (ls ++ o) s rest) ≡ false) × (list_any (goes_on (suc k) cuts exit) (by_each found ls s rest) ≡ false) =
    or_neither (goes_on (suc k) cuts exit (stands (ls ++ o) s rest)) (list_any (goes_on (suc k) cuts exit) (by_each found ls s rest)) ends in
    elim (or_cases (has_nodes j o) (list_any (has_nodes j) found) some) [
      | inl d ↦ some_first (walks k cuts exit (stands (ls ++ o) s rest)) (flat_map (walks k cuts exit) (by_each found ls s rest))
          (goes_large k cuts exit (ls ++ o) s (goes rest) (plain_of rest h) parts.0 (omega (arith, literals_append ls o, le_is j (literals_nodes o) d, large)))
      | inr d ↦ some_second (walks k cuts exit (stands (ls ++ o) s rest)) (flat_map (walks k cuts exit) (by_each found ls s rest)) (large_each k cuts exit j found ls s rest h parts.1 large d)
    ]

pub large_way : (k : ℕ) (cuts : List ℕ) (exit : ℕ) (t : Test) (way : Bool) (ls : List Literal) (s : StoreTerm) (rest : Rest) → AreWalkable rest
    → list_any (goes_on (suc k) cuts exit) (by_each (outcomes t way s) ls s rest) ≡ false
    → nat_lt 4096 (literals_nodes ls + store_nodes s + outcome_nodes t way (store_nodes s)) ≡ true
    → list_any is_large_path (flat_map (walks k cuts exit) (by_each (outcomes t way s) ls s rest)) ≡ true
large_way k cuts exit t way ls s rest h ends large =
    let above : 4096 < literals_nodes ls + store_nodes s + outcome_nodes t way (store_nodes s) = large_is _ large in
    large_each k cuts exit (outcome_nodes t way (store_nodes s)) (outcomes t way s) ls s rest h ends (omega (arith, above)) (some_has_nodes t way s (outcome_nodes t way (store_nodes s)) (omega arith))

pub one_refused : (A : Type 0) (p : Path) (before after : List Path) (e : PathRefusal) → RefusesNodes (path_nodes p) e → Adds {A = A} (p ∷ []) before after (Err e)
one_refused A p before after (Limit what) h = (h.0, or_left (nat_lt 4096 (path_nodes p)) false h.1)
one_refused A p before after NoMemory h = tt
