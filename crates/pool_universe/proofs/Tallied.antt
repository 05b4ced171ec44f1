-- The counts by numbers are those of the obligation for which the numbers stand.
use Rattle.std.specs.Prelude.{◌≡◌, ◌↔◌, ℕ, suc, ◌+◌, ◌^◌, Bool, true, false, cond, List, [], ◌∷◌, length, map, refl}
use Rattle.std.specs.List.{filter}
use Rattle.std.specs.Ordering.{is_eq}
use Rattle.std.specs.declared.cmp.Ordering.{Ordering}
use Rattle.std.specs.declared.cmp.Ordering.TheVariants.{Less, Equal, Greater}
use Rattle.std.proofs.Common.{sym, ◌∙◌, ap, arith}
use Rattle.std.proofs.lemmas.Cmp.{tied_itself}
use Rattle.rule_terms.specs.Parts.{Part, obligation_parts}
use Rattle.rule_terms.specs.Order.{part_cmp, part_same}
use Rattle.rule_terms.specs.Counts.{saturated, obligation_nodes, obligation_depth}
use Rattle.rule_terms.proofs.Members.{In, in_from, from_in}
use Rattle.rule_terms.proofs.Orders.{part_total, part_equal}
use Rattle.term_universe.specs.declared.tally.Tally.{Tally}
use Rattle.term_universe.specs.Tallies.{different, tally}
use Rattle.term_universe.specs.Tallies as tallies
use Rattle.term_universe.specs.Universe.{ListsOnce}
use Rattle.term_universe.proofs.Apart.{apart_from}
use Rattle.term_pool.specs.declared.node.Node.{Node}
use Rattle.term_pool.specs.declared.pooled.PooledObligation.{PooledObligation}
use Rattle.term_pool.specs.Numbered.{Term, terms_of_nodes}
use Rattle.term_pool.specs.Pooled.{obligation_in, obligation_numbered}
use Rattle.pool_universe.specs.declared.part.PooledPart.{PooledPart}
use Rattle.pool_universe.specs.declared.part.PooledPart.TheVariants.{Store, Value, Place, Expr, Test}
use Rattle.pool_universe.specs.PooledParts.{part_numbered, is_store, is_reading}
use Rattle.pool_universe.specs.Roots.{obligation_roots}
use Rattle.pool_universe.specs.RootSizes.{roots_nodes, roots_depth, obligation_literals}
use Rattle.pool_universe.proofs.Different.{filtered, to_filter, apart_filter, different_length}
use Rattle.pool_universe.proofs.RootSized.{obligation_sized}

equal_is : (o : Ordering) → is_eq o ≡ true → o ≡ Equal
equal_is Less h = cc
equal_is Equal h = refl
equal_is Greater h = cc

same_part : (p q : Part) → part_same p q ≡ true → p ≡ q
same_part p q h = part_equal p q (equal_is (part_cmp p q) h)

part_itself : (p : Part) → part_same p p ≡ true
part_itself p = ap is_eq (tied_itself part_total p)

-- items of a kind that are listed once
kind_counted : (kind : Part → Bool) (found ps : List Part) → ListsOnce found ps → different part_same (filter kind ps) ≡ length (filter kind found)
kind_counted kind found ps once =
    different_length part_same same_part part_itself (filter kind ps) (filter kind found) (apart_filter kind found (apart_from found once.once))
    (λ x h. let f = filtered kind found x h in to_filter kind ps x (in_from ps x ((once.exact x).0 (from_in found x f.0))) f.1)
    (λ x h. let f = filtered kind ps x h in to_filter kind found x (in_from found x ((once.exact x).1 (from_in ps x f.0))) f.1)

module _ (ts : List Term) where
  store_kind : (p : PooledPart) → tallies.is_store (part_numbered ts p) ≡ is_store p
  store_kind (Store n) = refl
  store_kind (Value n) = refl
  store_kind (Place p) = refl
  store_kind (Expr k) = refl
  store_kind (Test k) = refl

  reading_kind : (p : PooledPart) → tallies.is_reading (part_numbered ts p) ≡ is_reading p
  reading_kind (Store n) = refl
  reading_kind (Value n) = refl
  reading_kind (Place p) = refl
  reading_kind (Expr k) = refl
  reading_kind (Test k) = refl

  kinds : (kind : Part → Bool) (q : PooledPart → Bool) → ((p : PooledPart) → kind (part_numbered ts p) ≡ q p) → (ps : List PooledPart)
      → length (filter kind (map (part_numbered ts) ps)) ≡ length (filter q ps)
  kinds kind q e [] = refl
  kinds kind q e (p ∷ ps) = by (kind (part_numbered ts p)) (q p) (e p) (filter kind (map (part_numbered ts) ps)) (filter q ps) (kinds kind q e ps)
    where
      by : (a b : Bool) → a ≡ b → (xs : List Part) (ys : List PooledPart) → length xs ≡ length ys → length (cond a (part_numbered ts p ∷ xs) xs) ≡ length (cond b (p ∷ ys) ys)
      by true true e xs ys h = ap suc h
      by false false e xs ys h = h
      by true false e xs ys h = cc
      by false true e xs ys h = cc

pub counts_are : (ns : List Node) (ob : PooledObligation) (parts roots : List PooledPart) (nodes depth literals total stores readings : ℕ) → obligation_in ns ob ≡ true → roots ≡ obligation_roots ob
    → nodes ≡ saturated (roots_nodes (terms_of_nodes ns) roots) → depth ≡ saturated (roots_depth (terms_of_nodes ns) roots) → literals ≡ saturated (obligation_literals ob)
    → total ≡ saturated (nodes + literals) → ListsOnce (map (part_numbered (terms_of_nodes ns)) parts) (obligation_parts (obligation_numbered ns ob))
    → stores ≡ saturated (length (filter is_store parts)) → readings ≡ saturated (length (filter is_reading parts))
    → record { nodes = total; stores = stores; readings = readings; depth = depth } ≡ tally (obligation_numbered ns ob)
counts_are ns ob parts roots nodes depth literals total stores readings h r n d l t once s g =
    let ts = terms_of_nodes ns in
    let sized = obligation_sized ns ob h in
    let whole = obligation_parts (obligation_numbered ns ob) in
    let n2 : nodes ≡ saturated (roots_nodes ts (obligation_roots ob)) = n ∙ ap (λ rs. saturated (roots_nodes ts rs)) r in
    let all : total ≡ saturated (obligation_nodes (obligation_numbered ns ob)) = omega (arith, t, n2, l, sized.0) in
    let deep : depth ≡ saturated (obligation_depth (obligation_numbered ns ob)) = d ∙ ap (λ rs. saturated (roots_depth ts rs)) r ∙ ap saturated sized.1 in
    let of : (kind : Part → Bool) (q : PooledPart → Bool) → ((p : PooledPart) → kind (part_numbered ts p) ≡ q p) → length (filter q parts) ≡ different part_same (filter kind whole) =
    λ kind q e. sym (kind_counted kind (map (part_numbered ts) parts) whole once ∙ kinds ts kind q e parts) in
    λ j. record {
      nodes = all j;
      stores = (s ∙ ap saturated (of tallies.is_store is_store (store_kind ts))) j;
      readings = (g ∙ ap saturated (of tallies.is_reading is_reading (reading_kind ts))) j;
      depth = deep j;
    }
