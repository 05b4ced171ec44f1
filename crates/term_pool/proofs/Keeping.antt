-- What a pool keeps stays true where a node is put at the end and where the list is cut, and a look-up finds a node's number.
use Rattle.std.specs.Prelude.{◌≡◌, ℕ, zero, suc, ◌+◌, ◌-◌, ◌<◌, ◌^◌, Bool, true, false, ◌&&◌, cond, nat_eq, ℤ, List, [], ◌∷◌, ◌++◌, length, map, take, position, Option, Some, None, is_some, option_map, slice_get, refl}
use Rattle.std.specs.Cmp.Lexicographic.{pointwise, bytes_decides}
use Rattle.std.specs.List.{take-map}
use Rattle.std.specs.Map.{keys_of, lookup}
use Rattle.std.proofs.Common.{sym, ◌∙◌, ap, subst, arith, true≢false, get_or}
use Rattle.std.proofs.lemmas.List.{map-append, length-append, length-take}
use Rattle.std.proofs.lemmas.List.Quantifiers.{position-Some}
use Rattle.std.proofs.lemmas.Map.Entries.{place_from_lookup}
use Rattle.std.specs.Ordering.{int_eq}
use Rattle.std.proofs.lemmas.Bool.{eqb-true, eq-eqb}
use Rattle.std.proofs.lemmas.Bool.Decides.{Decides-int_eq}
use Rattle.std.proofs.lemmas.Option.{none-some, same_Some, slice_get-get_or, slice_get-map}
use Rattle.rule_terms.specs.Counts.{saturated}
use Rattle.rule_terms.specs.declared.size.Size.{Size}
use Rattle.indexmap.specs.IndexMap.{IndexMap, insert_entry}
use Rattle.indexmap.proofs.CallerLemmas.{insert_entry-new}
use Rattle.term_pool.specs.declared.node.Node.{Node}
use Rattle.term_pool.specs.declared.node.Node.TheVariants.{L, R, Put, Run, Num, Get, Ev, Add, Sub, Mul}
use Rattle.term_pool.specs.declared.node.PooledPlace.{PooledPlace}
use Rattle.term_pool.specs.contracts.node.NodePartialEq.TheImpl as node_eq
use Rattle.term_pool.specs.contracts.node.PooledPlacePartialEq.TheImpl as place_eq
use Rattle.term_pool.specs.Numbered.{Term, built, grown, terms_of_nodes, names_earlier, each_names_earlier, IsPool}
use Rattle.term_pool.specs.Kept.{nodes_there, parts_nodes, depth_there, parts_depth, size, IsKept, IsMissing}
use Rattle.term_pool.proofs.Places.{both, and_true}
use Rattle.term_pool.proofs.Counting.{parts_counted, parts_deep}
use Rattle.term_pool.proofs.Different.{terms_push, pool_push, terms_taken, pool_taken}

same_number : (a b : ℕ) → nat_eq a b ≡ true → a ≡ b
same_number a b h = eqb-true a b h

same_place : (p q : PooledPlace) → (place_eq.ghosts).eq p q ≡ true → p ≡ q
same_place p q h =
    let b = both (nat_eq p.name q.name) (pointwise nat_eq p.indices q.indices) h in
    λ j. record { name = same_number p.name q.name b.0 j; indices = (bytes_decides p.indices q.indices).0 b.1 j }

same_int : (y z : ℤ) → int_eq y z ≡ true → y ≡ z
same_int y z h = (Decides-int_eq y z).0 h

pair : (a b c d : ℕ) → (nat_eq a c && nat_eq b d) ≡ true → (a ≡ c) × (b ≡ d)
pair a b c d h = let k = both (nat_eq a c) (nat_eq b d) h in (same_number a c k.0, same_number b d k.1)

pub same_node : (m n : Node) → (node_eq.ghosts).eq m n ≡ true → m ≡ n
same_node L L h = refl
same_node R R h = refl
same_node (Put s p v) (Put t q w) h =
    let b = both (nat_eq s t) ((place_eq.ghosts).eq p q && nat_eq v w) h in
    let c = both ((place_eq.ghosts).eq p q) (nat_eq v w) b.1 in
    λ j. Put (same_number s t b.0 j) (same_place p q c.0 j) (same_number v w c.1 j)
same_node (Run j s) (Run k t) h = let e = pair j s k t h in λ i. Run (e.0 i) (e.1 i)
same_node (Num y) (Num z) h = ap Num (same_int y z h)
same_node (Get p s) (Get q t) h =
    let b = both ((place_eq.ghosts).eq p q) (nat_eq s t) h in
    λ j. Get (same_place p q b.0 j) (same_number s t b.1 j)
same_node (Ev j s) (Ev k t) h = let e = pair j s k t h in λ i. Ev (e.0 i) (e.1 i)
same_node (Add a b) (Add c d) h = let e = pair a b c d h in λ i. Add (e.0 i) (e.1 i)
same_node (Sub a b) (Sub c d) h = let e = pair a b c d h in λ i. Sub (e.0 i) (e.1 i)
same_node (Mul a b) (Mul c d) h = let e = pair a b c d h in λ i. Mul (e.0 i) (e.1 i)
same_node m n h = absurd (true≢false (sym h))

pub found_node : (m : Node) (ns : List Node) (i : ℕ) → position ((node_eq.ghosts).eq m) ns ≡ Some i → slice_get ns i ≡ Some m
found_node m ns i h =
    let p = position-Some ((node_eq.ghosts).eq m) ns i m h in
    slice_get-get_or ns i m p.0 ∙ ap Some (sym (same_node m (get_or ns i m) p.1))

number_itself : (n : ℕ) → nat_eq n n ≡ true
number_itself n = eq-eqb n n refl

place_itself : (p : PooledPlace) → (place_eq.ghosts).eq p p ≡ true
place_itself p = and_true (number_itself p.name) ((bytes_decides p.indices p.indices).1 refl)

node_itself : (m : Node) → (node_eq.ghosts).eq m m ≡ true
node_itself L = refl
node_itself R = refl
node_itself (Put s p v) = and_true (number_itself s) (and_true (place_itself p) (number_itself v))
node_itself (Run k s) = and_true (number_itself k) (number_itself s)
node_itself (Num z) = (Decides-int_eq z z).1 refl
node_itself (Get p s) = and_true (place_itself p) (number_itself s)
node_itself (Ev k s) = and_true (number_itself k) (number_itself s)
node_itself (Add a b) = and_true (number_itself a) (number_itself b)
node_itself (Sub a b) = and_true (number_itself a) (number_itself b)
node_itself (Mul a b) = and_true (number_itself a) (number_itself b)

missing_by : (m : Node) (e : Node × Size) (es : List (Node × Size)) (b : Bool) → (node_eq.ghosts).eq m e.0 ≡ b → (lookup ((node_eq.ghosts).eq m) es ≡ None → IsMissing (keys_of es) m)
    → cond ((node_eq.ghosts).eq m e.0) (Some e.1) (lookup ((node_eq.ghosts).eq m) es) ≡ None → IsMissing (keys_of (e ∷ es)) m
missing_by m e es true p rest h i k = absurd (none-some e.1 (sym h ∙ ap (λ c. cond c (Some e.1) (lookup ((node_eq.ghosts).eq m) es)) p))
missing_by m e es false p rest h zero k = absurd (true≢false (sym (node_itself m) ∙ ap ((node_eq.ghosts).eq m) (sym (same_Some e.0 m k)) ∙ p))
missing_by m e es false p rest h (suc i) k = rest (sym (ap (λ c. cond c (Some e.1) (lookup ((node_eq.ghosts).eq m) es)) p) ∙ h) i k

missing_node : (m : Node) (es : List (Node × Size)) → lookup ((node_eq.ghosts).eq m) es ≡ None → IsMissing (keys_of es) m
missing_node m [] h i k = none-some m k
missing_node m (e ∷ es) h i k = missing_by m e es ((node_eq.ghosts).eq m e.0) refl (missing_node m es) h i k

nothing : {X : Type 0} (o : Option X) → is_some o ≡ false → o ≡ None
nothing None h = refl
nothing (Some x) h = absurd (true≢false h)

pub not_found : (m : Node) (es : List (Node × Size)) (r : Option ℕ) → is_some r ≡ is_some (lookup ((node_eq.ghosts).eq m) es) → r ≡ None → IsMissing (keys_of es) m
not_found m es r h e = missing_node m es (nothing (lookup ((node_eq.ghosts).eq m) es) (sym h ∙ ap is_some e))

pub lookup_missing : (m : Node) (es : List (Node × Size)) → IsMissing (keys_of es) m → lookup ((node_eq.ghosts).eq m) es ≡ None
lookup_missing m es missing = by (lookup ((node_eq.ghosts).eq m) es) refl
  where
    by : (o : Option Size) → lookup ((node_eq.ghosts).eq m) es ≡ o → o ≡ None
    by None e = refl
    by (Some c) e =
        let p = place_from_lookup ((node_eq.ghosts).eq m) es c e in
        absurd (missing p.0 (slice_get-map (λ (x : Node × Size). x.0) es p.0 ∙ ap (option_map (λ (x : Node × Size). x.0)) p.2 ∙ ap Some (sym (same_node m p.1 p.3))))

pub kept_none : IsKept []
unfolding grown each_names_earlier
kept_none = record { pool = record { earlier = refl; once = λ i j t h k. absurd (none-some t h) }; sized = refl; small = omega arith }

taken_kept : (es : List (Node × Size)) (k : ℕ) → IsKept es → IsKept (take k es)
taken_kept es k p =
    let keys = take-map (λ (e : Node × Size). e.0) k es in
    let values = take-map (λ (e : Node × Size). e.1) k es in
    record {
      pool = subst IsPool keys (pool_taken (keys_of es) k p.pool);
      sized = sym values ∙ ap (take k) p.sized ∙ take-map size k (terms_of_nodes (keys_of es)) ∙ ap (map size) (sym (terms_taken (keys_of es) k)) ∙ ap (λ ns. map size (terms_of_nodes ns)) keys;
      small = omega (arith, p.small, length-take k es);
    }

pub kept_taken : (es cut : List (Node × Size)) (k : ℕ) → IsKept es → cut ≡ take k es → IsKept cut
kept_taken es cut k p e = subst IsKept (sym e) (taken_kept es k p)

pub view_taken : (es : List (Node × Size)) (k : ℕ) → keys_of (take k es) ≡ take k (keys_of es)
view_taken es k = sym (take-map (λ (e : Node × Size). e.0) k es)

pub view_push : (es : List (Node × Size)) (m : Node) (c : Size) → keys_of (es ++ (m, c) ∷ []) ≡ keys_of es ++ m ∷ []
view_push es m c = map-append (λ (e : Node × Size). e.0) es ((m, c) ∷ [])

push_kept : (es : List (Node × Size)) (m : Node) (c : Size) → IsKept es → names_earlier (terms_of_nodes (keys_of es)) m ≡ true → IsMissing (keys_of es) m
    → c ≡ size (built (terms_of_nodes (keys_of es)) m) → length es + 1 < 2 ^ 32 → IsKept (es ++ (m, c) ∷ [])
push_kept es m c p h missing e small =
    let ns = keys_of es in
    let keys = view_push es m c in
    record {
      pool = subst IsPool (sym keys) (pool_push ns m p.pool h missing);
      sized = map-append (λ (e : Node × Size). e.1) es ((m, c) ∷ [])
          ∙ (λ j. p.sized j ++ e j ∷ [])
          ∙ sym (map-append size (terms_of_nodes ns) (built (terms_of_nodes ns) m ∷ []))
          ∙ ap (map size) (sym (terms_push ns m))
          ∙ ap (λ l. map size (terms_of_nodes l)) (sym keys);
      small = omega (arith, small, length-append es ((m, c) ∷ []));
    }

module _ {S : Type 0} (old : IndexMap Node Size S) (m : Node) (c : Size) where
  put_last : IsMissing (keys_of old.entries) m → insert_entry ((node_eq.ghosts).eq) old.entries m c ≡ old.entries ++ (m, c) ∷ []
  put_last missing = insert_entry-new ((node_eq.ghosts).eq) old m c (lookup_missing m old.entries missing)

  pub kept_put : (new : List (Node × Size)) → IsKept old.entries → names_earlier (terms_of_nodes (keys_of old.entries)) m ≡ true → IsMissing (keys_of old.entries) m
      → c.nodes ≡ saturated (parts_nodes (terms_of_nodes (keys_of old.entries)) m) → c.depth ≡ saturated (parts_depth (terms_of_nodes (keys_of old.entries)) m) → length old.entries < 2 ^ 32 - 1 → new ≡ insert_entry ((node_eq.ghosts).eq) old.entries m c → IsKept new
  kept_put new p h missing e d small is =
      let ts = terms_of_nodes (keys_of old.entries) in
      subst IsKept (sym (is ∙ put_last missing))
      (push_kept old.entries m c p h missing (λ j. record { nodes = (e ∙ ap saturated (parts_counted ts m h)) j; depth = (d ∙ ap saturated (parts_deep ts m h)) j }) (omega (arith, small)))

  pub view_put : (new : List (Node × Size)) → IsMissing (keys_of old.entries) m → new ≡ insert_entry ((node_eq.ghosts).eq) old.entries m c → keys_of new ≡ keys_of old.entries ++ m ∷ []
  view_put new missing is = ap keys_of (is ∙ put_last missing) ∙ view_push old.entries m c

-- the size of a number, by what is kept
size_by : (o : Option Term) (c : Size) → option_map size o ≡ Some c → (c.nodes ≡ saturated (nodes_there o)) × (c.depth ≡ saturated (depth_there o))
size_by None c h = absurd (none-some c h)
size_by (Some t) c h = let e = sym (same_Some (size t) c h) in (ap (λ x. x.nodes) e, ap (λ x. x.depth) e)

kept_at : (es : List (Node × Size)) (i : ℕ) → IsKept es → option_map size (slice_get (terms_of_nodes (keys_of es)) i) ≡ option_map (λ (x : Node × Size). x.1) (slice_get es i)
kept_at es i p =
    sym (slice_get-map size (terms_of_nodes (keys_of es)) i) ∙ ap (λ l. slice_get l i) (sym p.sized) ∙ slice_get-map (λ (x : Node × Size). x.1) es i

pub size_found : (es : List (Node × Size)) (i : ℕ) (e : Node × Size) → IsKept es → slice_get es i ≡ Some e
    → (e.1.nodes ≡ saturated (nodes_there (slice_get (terms_of_nodes (keys_of es)) i))) × (e.1.depth ≡ saturated (depth_there (slice_get (terms_of_nodes (keys_of es)) i)))
size_found es i e p h = size_by (slice_get (terms_of_nodes (keys_of es)) i) e.1 (kept_at es i p ∙ ap (option_map (λ (x : Node × Size). x.1)) h)

size_of_none : (o : Option Term) → option_map size o ≡ None → (0 ≡ saturated (nodes_there o)) × (0 ≡ saturated (depth_there o))
size_of_none None h = (omega arith, omega arith)
size_of_none (Some t) h = absurd (none-some (size t) (sym h))

pub size_missing : (es : List (Node × Size)) (i : ℕ) → IsKept es → slice_get es i ≡ None
    → (0 ≡ saturated (nodes_there (slice_get (terms_of_nodes (keys_of es)) i))) × (0 ≡ saturated (depth_there (slice_get (terms_of_nodes (keys_of es)) i)))
size_missing es i p h = size_of_none (slice_get (terms_of_nodes (keys_of es)) i) (kept_at es i p ∙ ap (option_map (λ (x : Node × Size). x.1)) h)
