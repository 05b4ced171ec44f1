-- Parts that are read one by one are those of one refutation, and the distances are those at its parts.
use Rattle.std.specs.Prelude.{◌≡◌, ◌+◌, ◌-◌, ◌<◌, ◌≤◌, ℕ, suc, List, [], ◌∷◌, ◌++◌, length, reverse, get_or, Option, Some, None, refl}
use Rattle.std.specs.Option.{option_map}
use Rattle.std.specs.List.{flat_map}
use Rattle.std.proofs.Common.{sym, ◌∙◌, ap, arith, append_assoc, append-nil, length-append, drop, drop-cons, add-one}
use Rattle.std.proofs.lemmas.Option.{none-some}
use Rattle.std.proofs.lemmas.List.{reverse-append, drop_all}
use Rattle.rule_terms.specs.declared.obligation.Literal.{Literal}
use Rattle.refutations.specs.declared.refutation.Part.{Part}
use Rattle.refutations.specs.declared.refutation.Part.TheVariants.{Split, Leaf}
use Rattle.refutations.specs.declared.refutation.Step.{Step}
use Rattle.refutations.specs.Refutation.{Refutation, split, leaf, parts, distances, first_of, tree_of, IsKept}
use Rattle.refutations.specs.RefutationCode.{tree_of_parts}
use Rattle.refutations.specs.Placed.{after_leaf, after_part, with_waiting, in_front, placed}

abbrev pub behind : List ℕ → Option (List ℕ) → Option (List ℕ)
behind front o = option_map (λ back. front ++ back) o

joined_behind : (k : ℕ) (cs bs : List ℕ) (o : Option (List ℕ)) → in_front k (behind cs (behind bs o)) ≡ behind (k ∷ (cs ++ bs)) o
joined_behind k cs bs None = refl
joined_behind k cs bs (Some ds) = λ j. Some (k ∷ sym (append_assoc cs bs ds) j)

pushed : (back : List ℕ) (far : ℕ) (o : Option (List ℕ)) → behind back (in_front far o) ≡ behind (back ++ far ∷ []) o
pushed back far None = refl
pushed back far (Some cs) = λ j. Some (sym (append_assoc back (far ∷ []) cs) j)

pub nothing_behind : (o : Option (List ℕ)) → behind [] o ≡ o
nothing_behind None = refl
nothing_behind (Some cs) = refl

abbrev it_or : List ℕ → Option (List ℕ) → List ℕ
it_or d None = d
it_or d (Some x) = x

-- ---- the parts of a refutation are read
pub parts_placed : (r : Refutation) (n u : ℕ) (waiting : List ℕ) (more : List Part) →
    placed n (Some (u, waiting)) (parts r ++ more) ≡ behind (distances u r) (placed (n + length (parts r)) (after_leaf (n + length (parts r)) waiting) more)
parts_placed (leaf steps) n u waiting more =
    let e : suc n ≡ n + length (parts (leaf steps)) = omega arith in
    ap (λ m. in_front u (placed m (after_leaf m waiting) more)) e
parts_placed (split x a b) n u waiting more =
    let m : ℕ = suc n + length (parts a) in
    let far : m - n ≡ suc (length (parts a)) = omega arith in
    let all : length (parts a ++ parts b) ≡ length (parts a) + length (parts b) = length-append (parts a) (parts b) in
    let end : m + length (parts b) ≡ n + length (parts (split x a b)) = omega arith in
    ap (λ ps. in_front u (placed (suc n) (Some (1, n ∷ waiting)) ps)) (append_assoc (parts a) (parts b) more)
    ∙ ap (in_front u) (parts_placed a (suc n) 1 (n ∷ waiting) (parts b ++ more))
    ∙ ap (λ o. in_front u (behind (distances 1 a) o)) (parts_placed b m (m - n) waiting more)
    ∙ joined_behind u (distances 1 a) (distances (m - n) b) (placed (m + length (parts b)) (after_leaf (m + length (parts b)) waiting) more)
    ∙ (λ j. behind (u ∷ (distances 1 a ++ distances (far j) b)) (placed (end j) (after_leaf (end j) waiting) more))

-- ---- what is read is parts of refutations
record AreTrees (n : ℕ) (ps : List Part) : Type 0 where
  pub of : List Refutation
  pub spells : ps ≡ flat_map parts of
  pub many : length of ≡ n

record IsSome (o : Option (List ℕ)) : Type 0 where
  pub it : List ℕ
  pub is : o ≡ Some it

some_behind : (u : ℕ) (o : Option (List ℕ)) (back : List ℕ) → in_front u o ≡ Some back → IsSome o
some_behind u None back e = absurd (none-some back e)
some_behind u (Some xs) back e = record { it = xs; is = refl }

leaf_first : (steps : List Step) (ps : List Part) (n : ℕ) → AreTrees n ps → AreTrees (suc n) (Leaf steps ∷ ps)
leaf_first steps ps n t = record { of = leaf steps ∷ t.of; spells = ap (λ qs. Leaf steps ∷ qs) t.spells; many = ap suc t.many }

split_first : (x : Literal) (ps : List Part) (n : ℕ) (rs : List Refutation) → ps ≡ flat_map parts rs → length rs ≡ suc (suc n) → AreTrees (suc n) (Split x ∷ ps)
split_first x ps n [] e f = absurd (omega arith)
split_first x ps n (a ∷ []) e f = absurd (omega arith)
split_first x ps n (a ∷ b ∷ rs) e f =
    record {
      of = split x a b ∷ rs;
      spells = ap (λ qs. Split x ∷ qs) (e ∙ sym (append_assoc (parts a) (parts b) (flat_map parts rs)));
      many = omega arith;
    }

placed_trees : (ps : List Part) (n u : ℕ) (waiting : List ℕ) (back : List ℕ) → placed n (Some (u, waiting)) ps ≡ Some back → AreTrees (suc (length waiting)) ps
placed_trees [] n u waiting back e = absurd (none-some back e)
placed_trees (Split x ∷ ps) n u waiting back e =
    let more = some_behind u (placed (suc n) (Some (1, n ∷ waiting)) ps) back e in
    let t = placed_trees ps (suc n) 1 (n ∷ waiting) more.it more.is in
    split_first x ps (length waiting) t.of t.spells t.many
placed_trees (Leaf steps ∷ []) n u [] back e = record { of = leaf steps ∷ []; spells = refl; many = refl }
placed_trees (Leaf steps ∷ p ∷ ps) n u [] back e = absurd (none-some back e)
placed_trees (Leaf steps ∷ ps) n u (k ∷ waiting) back e =
    let more = some_behind u (placed (suc n) (Some (suc n - k, waiting)) ps) back e in
    leaf_first steps ps (suc (length waiting)) (placed_trees ps (suc n) (suc n - k) waiting more.it more.is)

whole : (r : Refutation) → placed 0 (Some (0, [])) (parts r) ≡ Some (distances 0 r)
whole r =
    ap (placed 0 (Some (0, []))) (sym (append-nil (parts r)))
    ∙ parts_placed r 0 0 [] []
    ∙ ap Some (append-nil (distances 0 r))

one_tree : (ps : List Part) (rs : List Refutation) → ps ≡ flat_map parts rs → length rs ≡ 1 → ps ≡ parts (first_of rs)
one_tree ps [] e f = absurd (omega arith)
one_tree ps (r ∷ []) e f = e ∙ append-nil (parts r)
one_tree ps (r ∷ s ∷ rs) e f = absurd (omega arith)

pub are_kept : (ps : List Part) (back : List ℕ) → placed 0 (Some (0, [])) ps ≡ Some back → IsKept ps back
are_kept ps back e =
    let t = placed_trees ps 0 0 [] back e in
    let spelled = one_tree ps t.of t.spells t.many in
    let same : tree_of ps ≡ first_of t.of = ap tree_of spelled ∙ tree_of_parts (first_of t.of) in
    record {
      are_parts = spelled ∙ ap parts (sym same);
      are_distances = ap (it_or []) (sym e ∙ ap (placed 0 (Some (0, []))) spelled ∙ whole (first_of t.of) ∙ ap (λ r. Some (distances 0 r)) (sym same));
    }

pub no_parts : (ps : List Part) → placed 0 (Some (0, [])) ps ≡ None → (r : Refutation) → parts r ≡ ps → ⊥
no_parts ps e r f = none-some (distances 0 r) (sym e ∙ ap (placed 0 (Some (0, []))) (sym f) ∙ whole r)

-- ---- as a loop reads
pub part_more : (ps : List Part) (i far : ℕ) (waiting back : List ℕ) (d : Part) → i < length ps →
    behind back (placed i (Some (far, waiting)) (drop i ps)) ≡ behind (back ++ far ∷ []) (placed (i + 1) (after_part i (get_or ps i d) waiting) (drop (i + 1) ps))
part_more ps i far waiting back d h =
    ap (λ qs. behind back (placed i (Some (far, waiting)) qs)) (drop-cons ps i d h)
    ∙ (λ j. behind back (in_front far (placed (sym (add-one i) j) (after_part i (get_or ps i d) waiting) (drop (sym (add-one i) j) ps))))
    ∙ pushed back far (placed (i + 1) (after_part i (get_or ps i d) waiting) (drop (i + 1) ps))

pub none_wanted : (ps : List Part) (i : ℕ) (next : Option ℕ) (waiting back : List ℕ) (d : Part) → i < length ps → next ≡ None → behind back (placed i (with_waiting next waiting) (drop i ps)) ≡ None
none_wanted ps i next waiting back d h e =
    (λ j. behind back (placed i (with_waiting (e j) waiting) (drop i ps)))
    ∙ ap (λ qs. behind back (placed i None qs)) (drop-cons ps i d h)

pub part_read : (ps : List Part) (i : ℕ) (next : Option ℕ) (far : ℕ) (waiting back : List ℕ) (p : Part) → i < length ps → next ≡ Some far → p ≡ get_or ps i p →
    behind back (placed i (with_waiting next waiting) (drop i ps)) ≡ behind (back ++ far ∷ []) (placed (i + 1) (after_part i p waiting) (drop (i + 1) ps))
part_read ps i next far waiting back p h e is =
    (λ j. behind back (placed i (with_waiting (e j) waiting) (drop i ps)))
    ∙ part_more ps i far waiting back p h
    ∙ (λ j. behind (back ++ far ∷ []) (placed (i + 1) (after_part i (sym is j) waiting) (drop (i + 1) ps)))

pub all_read : (ps : List Part) (i : ℕ) (next : Option ℕ) (waiting back : List ℕ) → length ps ≤ i → next ≡ None → behind back (placed i (with_waiting next waiting) (drop i ps)) ≡ Some back
all_read ps i next waiting back h e =
    (λ j. behind back (placed i (with_waiting (e j) waiting) (drop_all i ps h j)))
    ∙ ap Some (append-nil back)

pub more_wanted : (ps : List Part) (i far : ℕ) (next : Option ℕ) (waiting back : List ℕ) → length ps ≤ i → next ≡ Some far → behind back (placed i (with_waiting next waiting) (drop i ps)) ≡ None
more_wanted ps i far next waiting back h e = λ j. behind back (placed i (with_waiting (e j) waiting) (drop_all i ps h j))

pub latest_first : (waiting : List ℕ) (n : ℕ) → reverse (waiting ++ n ∷ []) ≡ n ∷ reverse waiting
latest_first waiting n = reverse-append waiting (n ∷ [])
