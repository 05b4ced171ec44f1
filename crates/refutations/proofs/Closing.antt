-- Two refutations behind a split: their parts, and the distances at them.
use Rattle.std.specs.Prelude.{◌≡◌, ◌+◌, ℕ, suc, List, [], ◌∷◌, ◌++◌, length, refl}
use Rattle.std.proofs.Common.{sym, ◌∙◌, ap, length-append, drop}
use Rattle.rule_terms.specs.declared.obligation.Literal.{Literal}
use Rattle.refutations.specs.declared.refutation.Part.{Part}
use Rattle.refutations.specs.declared.refutation.Part.TheVariants.{Split}
use Rattle.refutations.specs.Refutation.{Refutation, split, leaf, parts, distances, tree_of, IsKept}
use Rattle.refutations.specs.RefutationCode.{tree_of_parts}

-- where it stands is said of the first part alone
behind_first : (n : ℕ) (r : Refutation) → n ∷ drop 1 (distances 0 r) ≡ distances n r
behind_first n (split x a b) = refl
behind_first n (leaf steps) = refl

as_many : (n : ℕ) (r : Refutation) → length (distances n r) ≡ length (parts r)
as_many n (leaf steps) = refl
as_many n (split x a b) =
    ap suc (
    length-append (distances 1 a) (distances (suc (length (parts a))) b)
    ∙ (λ j. as_many 1 a j + as_many (suc (length (parts a))) b j)
    ∙ sym (length-append (parts a) (parts b))
    )

pub both_branches : (a b : Refutation) (far : ℕ) → far ≡ length ((0 ∷ []) ++ (1 ∷ drop 1 (distances 0 a))) →
    ((0 ∷ []) ++ (1 ∷ drop 1 (distances 0 a))) ++ (far ∷ drop 1 (distances 0 b)) ≡ 0 ∷ (distances 1 a ++ distances (suc (length (parts a))) b)
both_branches a b far e =
    let is : far ≡ suc (length (parts a)) = e ∙ ap (λ ds. suc (length ds)) (behind_first 1 a) ∙ ap suc (as_many 1 a) in
    (λ j. 0 ∷ (behind_first 1 a j ++ behind_first far b j))
    ∙ (λ j. 0 ∷ (distances 1 a ++ distances (is j) b))

module _ (x : Literal) (a b : Refutation) (ps : List Part) (e : ps ≡ Split x ∷ (parts a ++ parts b)) where
  pub closed_is : tree_of ps ≡ split x a b
  closed_is = ap tree_of e ∙ tree_of_parts (split x a b)

  pub closed_kept : (back : List ℕ) → back ≡ 0 ∷ (distances 1 a ++ distances (suc (length (parts a))) b) → IsKept ps back
  closed_kept back f = record { are_parts = e ∙ ap parts (sym closed_is); are_distances = f ∙ ap (distances 0) (sym closed_is) }
