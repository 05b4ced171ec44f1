-- Paths that halt, one for each outcome in which an `assert` is false, added one after another.
use Rattle.std.specs.Prelude.{◌≡◌, ℕ, ◌+◌, ◌≤◌, ◌<◌, nat_lt, false, true, ◌||◌, List, [], ◌∷◌, ◌++◌, length, Ok, Err, refl}
use Rattle.std.specs.List.{list_any}
use Rattle.std.proofs.Common.{sym, ◌∙◌, ap, get_or, drop, inl, inr, arith}
use Rattle.std.proofs.lemmas.List.{append_assoc, append-nil, drop_more, drop_all}
use Rattle.std.proofs.lemmas.List.Folds.{list_any-append}
use Rattle.toy_imp.specs.Test.{Test}
use Rattle.rule_terms.specs.Term.{StoreTerm}
use Rattle.rule_terms.specs.Counts.{store_nodes, literals_nodes}
use Rattle.rule_terms.specs.declared.obligation.Literal.{Literal}
use Rattle.rule_terms.specs.declared.path.Path.{Path}
use Rattle.rule_terms.specs.declared.path.Stop.TheVariants.{Halted}
use Rattle.path_pairs.specs.declared.refusal.PathRefusal.{PathRefusal}
use Rattle.path_pairs.specs.declared.refusal.PathRefusal.TheVariants.{Limit, NoMemory}
use Rattle.path_pairs.specs.NodeCounts.{outcome_nodes}
use Rattle.path_pairs.specs.Outcomes.{outcomes}
use Rattle.path_pairs.specs.PathAnswers.{Adds}
use Rattle.path_pairs.specs.Paths.{is_large_path}
use Rattle.path_pairs.specs.Walks.{halting_paths}
use Rattle.path_pairs.proofs.Adding.{or_left, or_right}
use Rattle.path_pairs.proofs.LargeWalks.{large_test, large_is}
use Rattle.path_pairs.proofs.NodesAt.{literals_append, has_nodes, le_is, some_has_nodes}
use Rattle.path_pairs.proofs.Stopping.{or_cases}

abbrev pub halted_path : List Literal → StoreTerm → Path
halted_path ls s = record { literals = ls; store = s; stop = Halted }

pub record HaltsAdded (found : List (List Literal)) (ls : List Literal) (s : StoreTerm) (before : List Path) (i : ℕ) (all : List Path) : Type 0 where
  pub left : all ++ halting_paths (drop i found) ls s ≡ before ++ halting_paths found ls s
  pub small : list_any is_large_path (halting_paths found ls s) ≡ list_any is_large_path (halting_paths (drop i found) ls s)

pub halts_start : (found : List (List Literal)) (ls : List Literal) (s : StoreTerm) (before : List Path) → HaltsAdded found ls s before 0 before
halts_start found ls s before = record { left = refl; small = refl }

-- the paths from the outcome at a place
from_place : (found : List (List Literal)) (ls : List Literal) (s : StoreTerm) (i : ℕ) (o : List Literal) → i < length found → o ≡ get_or found i o
    → halting_paths (drop i found) ls s ≡ (halted_path (ls ++ o) s ∷ []) ++ halting_paths (drop (i + 1) found) ls s
from_place found ls s i o h e = ap (λ xs. halting_paths xs ls s) (drop_more found i o h ∙ ap (λ x. x ∷ drop (i + 1) found) (sym e))

pub halts_next : {A : Type 0} (found : List (List Literal)) (ls : List Literal) (s : StoreTerm) (before all more : List Path) (i : ℕ) (o : List Literal) (u : A) → i < length found → o ≡ get_or found i o
    → Adds (halted_path (ls ++ o) s ∷ []) all more (Ok u) → HaltsAdded found ls s before i all → HaltsAdded found ls s before (i + 1) more
halts_next found ls s before all more i o u h e added c =
    let front : List Path = halted_path (ls ++ o) s ∷ [] in
    let back : List Path = halting_paths (drop (i + 1) found) ls s in
    let whole : halting_paths (drop i found) ls s ≡ front ++ back = from_place found ls s i o h e in
    record {
      left = ap (λ xs. xs ++ back) added.0 ∙ append_assoc all front back ∙ ap (λ xs. all ++ xs) (sym whole) ∙ c.left;
      small = c.small ∙ ap (list_any is_large_path) whole ∙ list_any-append is_large_path front back ∙ ap (λ b. b || list_any is_large_path back) added.1;
    }

pub halts_stop : (A B : Type 0) (found : List (List Literal)) (ls : List Literal) (s : StoreTerm) (before all more after : List Path) (i : ℕ) (o : List Literal) (r : PathRefusal) → i < length found
    → o ≡ get_or found i o → Adds {A = A} (halted_path (ls ++ o) s ∷ []) all more (Err r) → HaltsAdded found ls s before i all → Adds {A = B} (halting_paths found ls s) before after (Err r)
halts_stop A B found ls s before all more after i o (Limit what) h e added c =
    let front : List Path = halted_path (ls ++ o) s ∷ [] in
    let back : List Path = halting_paths (drop (i + 1) found) ls s in (
      added.0,
      c.small ∙ ap (list_any is_large_path) (from_place found ls s i o h e) ∙ list_any-append is_large_path front back
          ∙ or_left (list_any is_large_path front) (list_any is_large_path back) added.1,
    )
halts_stop A B found ls s before all more after i o NoMemory h e added c = tt

pub halts_end : {A : Type 0} (found : List (List Literal)) (ls : List Literal) (s : StoreTerm) (before all : List Path) (i : ℕ) (u : A) → length found ≤ i → HaltsAdded found ls s before i all
    → Adds (halting_paths found ls s) before all (Ok u)
halts_end found ls s before all i u h c =
    let done : drop i found ≡ [] = drop_all i found h in (
      sym (append-nil all) ∙ ap (λ xs. all ++ halting_paths xs ls s) (sym done) ∙ c.left,
      c.small ∙ ap (λ xs. list_any is_large_path (halting_paths xs ls s)) done,
    )

-- some outcome makes a path of too many nodes
large_halts : (j : ℕ) (found : List (List Literal)) (ls : List Literal) (s : StoreTerm) → 4096 < literals_nodes ls + j + store_nodes s → list_any (has_nodes j) found ≡ true
    → list_any is_large_path (halting_paths found ls s) ≡ true
large_halts j [] ls s large some = cc
large_halts j (o ∷ found) ls s large some =
    elim (or_cases (has_nodes j o) (list_any (has_nodes j) found) some) [
      | inl d ↦ or_left (nat_lt 4096 (literals_nodes (ls ++ o) + store_nodes s)) (list_any is_large_path (halting_paths found ls s))
          (large_test (literals_nodes (ls ++ o) + store_nodes s) (omega (arith, literals_append ls o, le_is j (literals_nodes o) d, large)))
      | inr d ↦ or_right (nat_lt 4096 (literals_nodes (ls ++ o) + store_nodes s)) (list_any is_large_path (halting_paths found ls s)) (large_halts j found ls s large d)
    ]

pub large_halting : (t : Test) (ls : List Literal) (s : StoreTerm) → nat_lt 4096 (literals_nodes ls + store_nodes s + outcome_nodes t false (store_nodes s)) ≡ true
    → list_any is_large_path (halting_paths (outcomes t false s) ls s) ≡ true
large_halting t ls s large =
    let above : 4096 < literals_nodes ls + store_nodes s + outcome_nodes t false (store_nodes s) = large_is _ large in
    large_halts (outcome_nodes t false (store_nodes s)) (outcomes t false s) ls s (omega (arith, above)) (some_has_nodes t false s (outcome_nodes t false (store_nodes s)) (omega arith))
