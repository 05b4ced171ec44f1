-- Parts of a refutation that are read one after another: those that were found stand in front of what is read next.
use Rattle.std.specs.Prelude.{◌≡◌, ◌<◌, ◌≤◌, ◌-◌, ◌+◌, ℕ, zero, suc, List, [], ◌∷◌, ◌++◌, Option, Some, None, refl}
use Rattle.std.proofs.Common.{sym, ap, ◌∙◌, arith, append-nil}
use Rattle.rule_terms.specs.Term.{StoreTerm, ValueTerm}
use Rattle.refutations.specs.declared.refutation.Part.{Part}
use Rattle.refutations.specs.declared.refutation.Part.TheVariants as part
use Rattle.word_text.specs.declared.token.Token.{Token}
use Rattle.term_text.specs.TermReading.{Read, then_read}
use Rattle.refutation_text.specs.StepReading.{part_read, parts_read, wanted_behind}
use Rattle.refutation_text.proofs.Turns.{with_found, with_one, one_less}

module _ (store : Read StoreTerm) (value : Read ValueTerm) where
  abbrev rest_read : ℕ → ℕ → Part → List Token → Option (List Part × List Token)
  rest_read most wanted p more = then_read (parts_read store value most (wanted_behind wanted p) more) (λ ps rest. Some (p ∷ ps, rest))

  wanted_read : (most wanted : ℕ) (rest : List Token) → 0 < wanted → parts_read store value (suc most) wanted rest ≡ then_read (part_read store value rest) (rest_read most wanted)
  unfolding parts_read
  wanted_read most zero rest h = absurd (omega (arith, h))
  wanted_read most (suc n) rest h = refl

  -- a part more
  pub part_found : (found : List Part) (p : Part) (end turn wanted : ℕ) (rest after : List Token) (all : Option (List Part × List Token)) → turn < end → 0 < wanted
      → with_found found (parts_read store value (end - turn) wanted rest) ≡ all → part_read store value rest ≡ Some (p, after)
      → with_found (found ++ p ∷ []) (parts_read store value (end - (turn + 1)) (wanted_behind wanted p) after) ≡ all
  part_found found p end turn wanted rest after all h some so is =
      with_one found p (parts_read store value (end - (turn + 1)) (wanted_behind wanted p) after)
      ∙ ap (λ r. with_found found (then_read r (rest_read (end - (turn + 1)) wanted))) (sym is)
      ∙ ap (with_found found) (sym (wanted_read (end - (turn + 1)) wanted rest some))
      ∙ ap (λ n. with_found found (parts_read store value n wanted rest)) (sym (one_less end turn h))
      ∙ so

  -- no part
  pub part_none : (found : List Part) (end turn wanted : ℕ) (rest : List Token) (all : Option (List Part × List Token)) → turn < end → 0 < wanted
      → with_found found (parts_read store value (end - turn) wanted rest) ≡ all → part_read store value rest ≡ None → all ≡ None
  part_none found end turn wanted rest all h some so is =
      sym so
      ∙ ap (λ n. with_found found (parts_read store value n wanted rest)) (one_less end turn h)
      ∙ ap (with_found found) (wanted_read (end - (turn + 1)) wanted rest some)
      ∙ ap (λ r. with_found found (then_read r (rest_read (end - (turn + 1)) wanted))) is

  -- none is wanted
  done_read : (most : ℕ) (rest : List Token) → parts_read store value most 0 rest ≡ Some ([], rest)
  unfolding parts_read
  done_read zero rest = refl
  done_read (suc most) rest = refl

  pub parts_done : (found : List Part) (most wanted : ℕ) (rest : List Token) (all : Option (List Part × List Token)) → wanted ≡ 0
      → with_found found (parts_read store value most wanted rest) ≡ all → all ≡ Some (found, rest)
  parts_done found most wanted rest all none so =
      sym so
      ∙ ap (λ n. with_found found (parts_read store value most n rest)) none
      ∙ ap (with_found found) (done_read most rest)
      ∙ ap (λ ps. Some (ps, rest)) (append-nil found)

  -- some are wanted where nothing more may be read
  cut_read : (wanted : ℕ) (rest : List Token) → 0 < wanted → parts_read store value 0 wanted rest ≡ None
  unfolding parts_read
  cut_read zero rest h = absurd (omega (arith, h))
  cut_read (suc n) rest h = refl

  pub parts_cut : (found : List Part) (end turn wanted : ℕ) (rest : List Token) (all : Option (List Part × List Token)) → end ≤ turn → 0 < wanted
      → with_found found (parts_read store value (end - turn) wanted rest) ≡ all → all ≡ None
  parts_cut found end turn wanted rest all h some so =
      let none : end - turn ≡ 0 = omega (arith, h) in
      sym so
      ∙ ap (λ n. with_found found (parts_read store value n wanted rest)) none
      ∙ ap (with_found found) (cut_read wanted rest some)

-- one more at a split, one less at a leaf
pub wanted_bound : (n : ℕ) (p : Part) → wanted_behind n p ≤ n + 1
wanted_bound n (part.Split x) = omega arith
wanted_bound zero (part.Leaf steps) = omega arith
wanted_bound (suc n) (part.Leaf steps) = omega arith
