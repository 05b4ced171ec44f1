-- The named points of a side, one number after another, and the cut points of a list.
use Rattle.std.specs.Prelude.{◌≡◌, ℕ, suc, ◌+◌, ◌-◌, ◌<◌, Bool, true, false, cond, List, [], ◌∷◌, ◌++◌, map}
use Rattle.std.proofs.Common.{sym, ◌∙◌, ap, arith}
use Rattle.std.specs.List.{filter, range_with_len}
use Rattle.std.proofs.lemmas.List.{append_assoc}
use Rattle.toy_imp.specs.Block.{Block}
use Rattle.toy_imp.specs.declared.rule.CutList.{CutList}
use Rattle.toy_imp.specs.declared.rule.CutList.TheVariants.{Listed}
use Rattle.entry_pairs.specs.Cuts.{with_ends, listed_cuts, left_cuts, right_cuts}

-- one number more
from_next : (test : ℕ → Bool) (p exit : ℕ) → p < exit → filter test (range_with_len p (exit - p)) ≡ cond (test p) (p ∷ filter test (range_with_len (p + 1) (exit - (p + 1)))) (filter test (range_with_len (p + 1) (exit - (p + 1))))
from_next test p exit h = let e : exit - p ≡ suc (exit - (p + 1)) = omega (arith, h) in ap (λ n. filter test (range_with_len p n)) e

pub taken : (test : ℕ → Bool) (p exit : ℕ) (all more target : List ℕ) → p < exit → test p ≡ true → more ≡ all ++ p ∷ []
    → all ++ filter test (range_with_len p (exit - p)) ≡ target → more ++ filter test (range_with_len (p + 1) (exit - (p + 1))) ≡ target
taken test p exit all more target h holds m t =
    ap (λ xs. xs ++ filter test (range_with_len (p + 1) (exit - (p + 1)))) m
    ∙ append_assoc all (p ∷ []) (filter test (range_with_len (p + 1) (exit - (p + 1))))
    ∙ ap (λ b. all ++ cond b (p ∷ filter test (range_with_len (p + 1) (exit - (p + 1)))) (filter test (range_with_len (p + 1) (exit - (p + 1))))) (sym holds)
    ∙ ap (λ xs. all ++ xs) (sym (from_next test p exit h)) ∙ t

pub passed_by : (test : ℕ → Bool) (p exit : ℕ) (all more target : List ℕ) → p < exit → test p ≡ false → more ≡ all
    → all ++ filter test (range_with_len p (exit - p)) ≡ target → more ++ filter test (range_with_len (p + 1) (exit - (p + 1))) ≡ target
passed_by test p exit all more target h fails m t =
    ap (λ xs. xs ++ filter test (range_with_len (p + 1) (exit - (p + 1)))) m
    ∙ ap (λ b. all ++ cond b (p ∷ filter test (range_with_len (p + 1) (exit - (p + 1)))) (filter test (range_with_len (p + 1) (exit - (p + 1))))) (sym fails)
    ∙ ap (λ xs. all ++ xs) (sym (from_next test p exit h)) ∙ t

pub left_listed : (list : CutList) (pairs : List (ℕ × ℕ)) (side : Block) (named : List ℕ) → list ≡ Listed pairs → named ≡ map (λ a. a.0) pairs
    → with_ends side (listed_cuts side named) ≡ left_cuts list side
left_listed list pairs side named e d = ap (λ xs. with_ends side (listed_cuts side xs)) d ∙ ap (λ x. left_cuts x side) (sym e)

pub right_listed : (list : CutList) (pairs : List (ℕ × ℕ)) (side : Block) (named : List ℕ) → list ≡ Listed pairs → named ≡ map (λ a. a.1) pairs
    → with_ends side (listed_cuts side named) ≡ right_cuts list side
right_listed list pairs side named e d = ap (λ xs. with_ends side (listed_cuts side xs)) d ∙ ap (λ x. right_cuts x side) (sym e)
