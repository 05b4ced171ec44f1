-- Refutations as trees, and their parts in the order of the text: a split's literal, its first branch, its second one.
-- What makes one of them right is said in `proof_steps`.
use Rattle.std.specs.Prelude.{◌≡◌, ℕ, suc, List, [], ◌∷◌, ◌++◌, length, Option, Some, None}
use Rattle.rule_terms.specs.declared.obligation.Literal.{Literal}
use Rattle.refutations.specs.declared.refutation.Step.{Step}
use Rattle.refutations.specs.declared.refutation.Part.{Part}
use Rattle.refutations.specs.declared.refutation.Part.TheVariants.{Split, Leaf}

pub data Refutation : Type 0 where
  split : Literal → Refutation → Refutation → Refutation
  leaf : List Step → Refutation

abbrev pub parts : Refutation → List Part
parts (split x a b) = Split x ∷ (parts a ++ parts b)
parts (leaf steps) = Leaf steps ∷ []

-- how far in front of each part the split stands whose branch begins there: 1 where it is the first branch, more where it is the
-- second; of the whole this number
abbrev pub distances : ℕ → Refutation → List ℕ
distances n (split x a b) = n ∷ (distances 1 a ++ distances (suc (length (parts a))) b)
distances n (leaf steps) = n ∷ []

-- the refutations that parts stand for, one behind the other
abbrev pub joined : Literal → List Refutation → List Refutation
joined x [] = []
joined x (a ∷ []) = []
joined x (a ∷ b ∷ more) = split x a b ∷ more

abbrev pub trees : List Part → List Refutation
trees [] = []
trees (Split x ∷ more) = joined x (trees more)
trees (Leaf steps ∷ more) = leaf steps ∷ trees more

abbrev pub first_of : List Refutation → Refutation
first_of [] = leaf []
first_of (r ∷ more) = r

abbrev pub tree_of : List Part → Refutation
tree_of ps = first_of (trees ps)

-- parts of one refutation, and the distances at them
pub record IsKept (ps : List Part) (back : List ℕ) : Type 0 where
  pub are_parts : ps ≡ parts (tree_of ps)
  pub are_distances : back ≡ distances 0 (tree_of ps)

-- what is read of parts: the refutation that has them, and none only where no refutation has them
abbrev pub IsRead : List Part → Option Refutation → Type 0
IsRead ps None = (r : Refutation) → parts r ≡ ps → ⊥
IsRead ps (Some r) = parts r ≡ ps
