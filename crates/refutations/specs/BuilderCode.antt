-- Refutations are read back from their parts, one behind the other, so different lists of them have different parts.
use Rattle.std.specs.Prelude.{◌≡◌, List, [], ◌∷◌, refl}
use Rattle.std.specs.List.{flat_map}
use Rattle.std.proofs.Common.{◌∙◌, ap}
use Rattle.refutations.specs.declared.refutation.Part.{Part}
use Rattle.refutations.specs.Refutation.{Refutation, parts, trees}
use Rattle.refutations.specs.RefutationCode.{trees_parts}

abbrev pub all_parts : List Refutation → List Part
all_parts rs = flat_map parts rs

pub trees_of_all : (rs : List Refutation) → trees (all_parts rs) ≡ rs
trees_of_all [] = refl
trees_of_all (r ∷ rs) = trees_parts r (all_parts rs) ∙ ap (λ more. r ∷ more) (trees_of_all rs)
