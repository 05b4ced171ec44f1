-- Parts that are read until none is wanted are those of so many refutations.
use Rattle.std.specs.Prelude.{◌≡◌, ℕ, zero, suc, List, [], ◌∷◌, length, Option, Some, None, refl}
use Rattle.std.specs.List.{flat_map}
use Rattle.std.proofs.Common.{sym, ap, ◌∙◌, subst, arith, append_assoc, append-nil}
use Rattle.rule_terms.specs.Term.{StoreTerm, ValueTerm}
use Rattle.rule_terms.specs.declared.obligation.Literal.{Literal}
use Rattle.refutations.specs.Refutation.{Refutation, split, leaf, parts, tree_of}
use Rattle.refutations.specs.RefutationCode.{tree_of_parts}
use Rattle.refutations.specs.declared.refutation.Part.{Part}
use Rattle.refutations.specs.declared.refutation.Part.TheVariants as part
use Rattle.word_text.specs.declared.token.Token.{Token}
use Rattle.term_text.specs.TermReading.{Read, then_read}
use Rattle.refutation_text.specs.StepReading.{part_read, parts_read, wanted_behind}

-- parts of so many refutations, one behind the other
record Forest (n : ℕ) (ps : List Part) : Type 0 where
  trees : List Refutation
  many : length trees ≡ n
  whole : flat_map parts trees ≡ ps

split_whole : (n : ℕ) (x : Literal) (ps : List Part) (rs : List Refutation) → length rs ≡ suc (suc n) → flat_map parts rs ≡ ps → Forest (suc n) (part.Split x ∷ ps)
split_whole n x ps [] h w = absurd (omega (arith, h))
split_whole n x ps (a ∷ []) h w = absurd (omega (arith, h))
split_whole n x ps (a ∷ b ∷ rs) h w =
    record { trees = split x a b ∷ rs; many = omega (arith, h); whole = ap (λ qs. part.Split x ∷ qs) (append_assoc (parts a) (parts b) (flat_map parts rs) ∙ w) }

leaf_whole : (n : ℕ) (steps : _) (ps : List Part) → Forest n ps → Forest (suc n) (part.Leaf steps ∷ ps)
leaf_whole n steps ps f = record { trees = leaf steps ∷ f.trees; many = ap suc f.many; whole = ap (λ qs. part.Leaf steps ∷ qs) f.whole }

part_whole : (n : ℕ) (p : Part) (ps : List Part) → Forest (wanted_behind (suc n) p) ps → Forest (suc n) (p ∷ ps)
part_whole n (part.Split x) ps f = split_whole n x ps f.trees f.many f.whole
part_whole n (part.Leaf steps) ps f = leaf_whole n steps ps f

none_whole : (ps : List Part) → ps ≡ [] → Forest 0 ps
none_whole [] h = record { trees = []; many = refl; whole = refl }
none_whole (p ∷ ps) h = record { trees = []; many = refl; whole = sym h }

abbrev found_parts : Option (List Part × List Token) → List Part
found_parts None = []
found_parts (Some p) = p.0

abbrev is_found : Option (List Part × List Token) → ℕ
is_found None = 0
is_found (Some p) = 1

module _ (store : Read StoreTerm) (value : Read ValueTerm) where
  abbrev AreWhole : ℕ → Type 0
  AreWhole most = (n : ℕ) (ts : List Token) (ps : List Part) (rest : List Token) → parts_read store value most n ts ≡ Some (ps, rest) → Forest n ps

  behind_parts : (most : ℕ) → AreWhole most → (n : ℕ) (p : Part) (more : List Token) (o : Option (List Part × List Token)) → parts_read store value most (wanted_behind (suc n) p) more ≡ o → (ps : List Part) (rest : List Token)
      → then_read {Y = List Part × List Token} o (λ qs rest. Some (p ∷ qs, rest)) ≡ Some (ps, rest) → Forest (suc n) ps
  behind_parts most whole n p more None e ps rest h = let no : 0 ≡ 1 = ap is_found h in absurd (omega (arith, no))
  behind_parts most whole n p more (Some q) e ps rest h =
      let same : p ∷ q.0 ≡ ps = ap found_parts h in
      subst (Forest (suc n)) same (part_whole n p q.0 (whole (wanted_behind (suc n) p) more q.0 q.1 e))

  behind_part : (most : ℕ) → AreWhole most → (n : ℕ) (o : Option (Part × List Token)) (ps : List Part) (rest : List Token)
      → then_read {Y = List Part × List Token} o (λ p more. then_read {Y = List Part × List Token} (parts_read store value most (wanted_behind (suc n) p) more) (λ qs rest. Some (p ∷ qs, rest))) ≡ Some (ps, rest)
      → Forest (suc n) ps
  behind_part most whole n None ps rest h = let no : 0 ≡ 1 = ap is_found h in absurd (omega (arith, no))
  behind_part most whole n (Some p) ps rest h = behind_parts most whole n p.0 p.1 (parts_read store value most (wanted_behind (suc n) p.0) p.1) refl ps rest h

  parts_whole : (most : ℕ) → AreWhole most
  unfolding parts_read
  parts_whole zero zero ts ps rest h = let e : [] ≡ ps = ap found_parts h in none_whole ps (sym e)
  parts_whole zero (suc n) ts ps rest h = let no : 0 ≡ 1 = ap is_found h in absurd (omega (arith, no))
  parts_whole (suc most) zero ts ps rest h = let e : [] ≡ ps = ap found_parts h in none_whole ps (sym e)
  parts_whole (suc most) (suc n) ts ps rest h = behind_part most (parts_whole most) n (part_read store value ts) ps rest h

  one_tree : (ps : List Part) (rs : List Refutation) → length rs ≡ 1 → flat_map parts rs ≡ ps → parts (tree_of ps) ≡ ps
  one_tree ps [] h w = absurd (omega (arith, h))
  one_tree ps (r ∷ s ∷ rs) h w = absurd (omega (arith, h))
  one_tree ps (r ∷ []) h w =
      let so : parts r ≡ ps = sym (append-nil (parts r)) ∙ w in
      ap (λ qs. parts (tree_of qs)) (sym so) ∙ ap parts (tree_of_parts r) ∙ so

  pub read_whole : (most : ℕ) (ts : List Token) (ps : List Part) (rest : List Token) → parts_read store value most 1 ts ≡ Some (ps, rest) → parts (tree_of ps) ≡ ps
  read_whole most ts ps rest h = let f = parts_whole most 1 ts ps rest h in one_tree ps f.trees f.many f.whole
