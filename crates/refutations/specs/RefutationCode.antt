-- A refutation is read back from its parts, so different ones have different parts.
use Rattle.std.specs.Prelude.{◌≡◌, List, [], ◌∷◌, ◌++◌, refl}
use Rattle.std.proofs.Common.{sym, ◌∙◌, ap, append_assoc, append-nil}
use Rattle.refutations.specs.declared.refutation.Part.{Part}
use Rattle.refutations.specs.Refutation.{Refutation, split, leaf, parts, joined, trees, first_of, tree_of}

pub trees_parts : (r : Refutation) (more : List Part) → trees (parts r ++ more) ≡ r ∷ trees more
trees_parts (leaf steps) more = refl
trees_parts (split x a b) more =
    ap (λ ps. joined x (trees ps)) (append_assoc (parts a) (parts b) more)
    ∙ ap (joined x) (trees_parts a (parts b ++ more) ∙ ap (λ rs. a ∷ rs) (trees_parts b more))

pub tree_of_parts : (r : Refutation) → tree_of (parts r) ≡ r
tree_of_parts r = ap tree_of (sym (append-nil (parts r))) ∙ ap first_of (trees_parts r [])
