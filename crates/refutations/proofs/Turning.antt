-- Parts that are built from the end of the text: what is put in front, and that one refutation is read of them exactly where one is built.
use Rattle.std.specs.Prelude.{◌≡◌, ◌≤◌, List, [], ◌∷◌, ◌++◌, length, reverse, Option, Some, None, refl}
use Rattle.std.proofs.Common.{sym, ◌∙◌, ap, arith, append_assoc, append-nil}
use Rattle.std.proofs.lemmas.List.{reverse-append}
use Rattle.rule_terms.specs.declared.obligation.Literal.{Literal}
use Rattle.refutations.specs.declared.refutation.Part.{Part}
use Rattle.refutations.specs.declared.refutation.Part.TheVariants.{Split}
use Rattle.refutations.specs.Refutation.{Refutation, parts, joined, trees, IsRead}
use Rattle.refutations.specs.BuilderCode.{all_parts, trees_of_all}
use Rattle.refutations.specs.Building.{only}

-- the last one is the first in the opposite order
pub latest_first : (ps : List Part) (p : Part) → reverse (ps ++ p ∷ []) ≡ p ∷ reverse ps
latest_first ps p = reverse-append ps (p ∷ [])

-- .. so it goes behind those that are turned
pub one_turned : (all ps : List Part) (p : Part) → all ++ reverse (ps ++ p ∷ []) ≡ (all ++ p ∷ []) ++ reverse ps
one_turned all ps p = ap (λ qs. all ++ qs) (latest_first ps p) ∙ sym (append_assoc all (p ∷ []) (reverse ps))

-- a split in front of two refutations and more
pub joined_parts : (x : Literal) (ps : List Part) (rs : List Refutation) → 2 ≤ length rs → ps ≡ all_parts rs → Split x ∷ ps ≡ all_parts (joined x rs)
joined_parts x ps [] h e = absurd (omega arith)
joined_parts x ps (a ∷ []) h e = absurd (omega arith)
joined_parts x ps (a ∷ b ∷ more) h e = ap (λ qs. Split x ∷ qs) (e ∙ sym (append_assoc (parts a) (parts b) (all_parts more)))

-- what is read of the parts of refutations is the only one
pub read_only : (ps : List Part) (rs : List Refutation) (o : Option Refutation) → ps ≡ all_parts rs → IsRead ps o → o ≡ only rs
read_only ps [] None e h = refl
read_only ps (r ∷ []) None e h = absurd (h r (sym (append-nil (parts r)) ∙ sym e))
read_only ps (r ∷ s ∷ more) None e h = refl
read_only ps rs (Some r) e h =
    let one : r ∷ [] ≡ rs = sym (trees_of_all (r ∷ [])) ∙ ap trees (append-nil (parts r) ∙ h ∙ e) ∙ trees_of_all rs in
    ap only one
