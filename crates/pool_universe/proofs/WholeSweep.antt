-- The sweep over an obligation: how it begins, goes on and ends.
use Rattle.std.specs.Prelude.{◌≡◌, ℕ, suc, ◌-◌, ◌<◌, ◌≤◌, Bool, true, false, List, [], map, length, replicate, Option, Some, None, slice_get, refl}
use Rattle.std.specs.List.{list_all, flat_map}
use Rattle.std.proofs.Common.{sym, ◌∙◌, ap, subst, arith, true≢false}
use Rattle.rule_terms.specs.Parts.{Part, obligation_parts}
use Rattle.rule_terms.specs.Added.{added_all}
use Rattle.term_universe.specs.Universe.{ListsOnce}
use Rattle.term_pool.specs.declared.node.Node.{Node}
use Rattle.term_pool.specs.declared.pooled.PooledObligation.{PooledObligation}
use Rattle.term_pool.specs.Numbered.{terms_of_nodes, IsPool}
use Rattle.term_pool.specs.Pooled.{obligation_in, obligation_numbered}
use Rattle.term_pool.proofs.Grown.{length_grown}
use Rattle.pool_universe.specs.declared.part.PooledPart.{PooledPart}
use Rattle.pool_universe.specs.PooledParts.{part_numbered, part_in, top_there, numbers_there, marked_all, is_set, part_same}
use Rattle.pool_universe.specs.Roots.{obligation_roots, root_numbers, root_tests}
use Rattle.pool_universe.proofs.Marks.{IsMarked}
use Rattle.pool_universe.proofs.RootParts.{obligation_alike}
use Rattle.pool_universe.proofs.Sweeps.{Sweeps, root_parts, start, next_roots, next_number, next_free, swept}

set_is : (o : Option Bool) → is_set o ≡ true → o ≡ Some true
set_is None h = absurd (true≢false (sym h))
set_is (Some b) h = ap Some h

not_set : (o : Option Bool) → is_set o ≡ false → o ≡ Some true → ⊥
not_set o h e = true≢false (sym (ap is_set e) ∙ h)

pub begins : (ns : List Node) (ob : PooledObligation) (roots parts after : List PooledPart) (marks marked : List Bool) (m n : ℕ) → obligation_in ns ob ≡ true
    → roots ≡ obligation_roots ob → parts ≡ [] → marks ≡ replicate m false → m ≡ length ns → n ≡ length ns
    → after ≡ added_all part_same parts (flat_map root_tests roots) → marked ≡ marked_all marks (flat_map root_numbers roots)
    → Sweeps (terms_of_nodes ns) (obligation_parts (obligation_numbered ns ob)) after marked n
begins ns ob roots parts after marks marked m n h r p k ml nl a b =
    let ts = terms_of_nodes ns in
    let alike = obligation_alike ns ob h in
    let long : length ts ≡ n = omega (arith, length_grown [] ns, nl) in
    let same : m ≡ length ts = omega (arith, length_grown [] ns, ml) in
    let first = next_roots ts [] [] (replicate (length ts) false) (obligation_roots ob) alike.0 (start ts) in
    let parts_are : added_all part_same [] (flat_map root_tests (obligation_roots ob)) ≡ after = sym (a ∙ (λ j. added_all part_same (p j) (flat_map root_tests (r j)))) in
    let marks_are : marked_all (replicate (length ts) false) (flat_map root_numbers (obligation_roots ob)) ≡ marked =
    sym (b ∙ (λ j. marked_all ((k ∙ ap (λ l. replicate l false) same) j) (flat_map root_numbers (r j)))) in
    subst (λ w. Sweeps ts w after marked n) alike.1
    (subst (λ ps. Sweeps ts (flat_map (root_parts ts) (obligation_roots ob)) ps marked n) parts_are
    (subst (λ ms. Sweeps ts (flat_map (root_parts ts) (obligation_roots ob)) (added_all part_same [] (flat_map root_tests (obligation_roots ob))) ms n) marks_are
    (subst (λ l. Sweeps ts (flat_map (root_parts ts) (obligation_roots ob)) (added_all part_same [] (flat_map root_tests (obligation_roots ob))) (marked_all (replicate (length ts) false) (flat_map root_numbers (obligation_roots ob))) l) long first)))

pub goes_on : (ns : List Node) (whole : List Part) (parts after : List PooledPart) (marks marked : List Bool) (at : ℕ) → IsPool ns → 0 < at → is_set (slice_get marks (at - 1)) ≡ true
    → after ≡ added_all part_same parts (top_there (at - 1) (slice_get ns (at - 1))) → marked ≡ marked_all marks (numbers_there (slice_get ns (at - 1)))
    → Sweeps (terms_of_nodes ns) whole parts marks at → Sweeps (terms_of_nodes ns) whole after marked (at - 1)
goes_on ns whole parts after marks marked at pool h m a b s =
    let e : at ≡ suc (at - 1) = omega (arith, h) in
    let next = next_number ns whole parts marks (at - 1) pool (set_is (slice_get marks (at - 1)) m) (subst (Sweeps (terms_of_nodes ns) whole parts marks) e s) in
    subst (λ ps. Sweeps (terms_of_nodes ns) whole ps marked (at - 1)) (sym a)
    (subst (λ ms. Sweeps (terms_of_nodes ns) whole (added_all part_same parts (top_there (at - 1) (slice_get ns (at - 1)))) ms (at - 1)) (sym b) next)

pub passes : (ns : List Node) (whole : List Part) (parts : List PooledPart) (marks : List Bool) (at : ℕ) → 0 < at → is_set (slice_get marks (at - 1)) ≡ false
    → Sweeps (terms_of_nodes ns) whole parts marks at → Sweeps (terms_of_nodes ns) whole parts marks (at - 1)
passes ns whole parts marks at h m s =
    let e : at ≡ suc (at - 1) = omega (arith, h) in
    next_free (terms_of_nodes ns) whole parts marks (at - 1) (not_set (slice_get marks (at - 1)) m) (subst (Sweeps (terms_of_nodes ns) whole parts marks) e s)

pub ends : (ns : List Node) (whole : List Part) (parts : List PooledPart) (marks : List Bool) (at : ℕ) → IsPool ns → at ≤ 0 → Sweeps (terms_of_nodes ns) whole parts marks at
    → (list_all (part_in (terms_of_nodes ns)) parts ≡ true) × ListsOnce (map (part_numbered (terms_of_nodes ns)) parts) whole
ends ns whole parts marks at pool h s =
    let e : at ≡ 0 = omega (arith, h) in
    swept (terms_of_nodes ns) pool.once whole parts marks (subst (Sweeps (terms_of_nodes ns) whole parts marks) e s)
