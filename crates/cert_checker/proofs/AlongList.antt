-- Walking along a list whose items have numbers, one item more at a time.
use Rattle.std.specs.Prelude.{◌≡◌, ◌+◌, ◌≤◌, ◌<◌, ℕ, suc, List, length, Option, Some, None, option_and_then}
use Rattle.std.proofs.Common.{sym, ◌∙◌, ap, get_or, drop, arith}
use Rattle.std.proofs.lemmas.List.{drop_more, drop_all}
use Rattle.cert_checker.specs.Taking.{along}

module _ {X : Type 0} (take_item : ℕ → X → ℕ → Option ℕ) where
  along_more : (xs : List X) (k : ℕ) (x : X) (n : ℕ) → k < length xs → x ≡ get_or xs k x
      → along take_item k (drop k xs) n ≡ option_and_then (along take_item (k + 1) (drop (k + 1) xs)) (take_item k x n)
  unfolding along
  along_more xs k x n h e =
      ap (λ ys. along take_item k ys n) (drop_more xs k x h)
      ∙ (λ i. option_and_then (along take_item (next i) (drop (k + 1) xs)) (take_item k (sym e i) n))
    where
      next : suc k ≡ k + 1
      next = omega arith

  -- the item is taken, and the walk goes on behind it
  pub goes_on : (xs : List X) (k : ℕ) (x : X) (n m : ℕ) (target : Option ℕ) → k < length xs → x ≡ get_or xs k x → take_item k x n ≡ Some m
      → along take_item k (drop k xs) n ≡ target → along take_item (k + 1) (drop (k + 1) xs) m ≡ target
  goes_on xs k x n m target h e takes t =
      sym (ap (option_and_then (along take_item (k + 1) (drop (k + 1) xs))) takes) ∙ sym (along_more xs k x n h e) ∙ t

  -- the item is not taken
  pub stops : (xs : List X) (k : ℕ) (x : X) (n : ℕ) (target : Option ℕ) → k < length xs → x ≡ get_or xs k x → take_item k x n ≡ None
      → along take_item k (drop k xs) n ≡ target → None ≡ target
  stops xs k x n target h e takes t =
      sym (sym t ∙ along_more xs k x n h e ∙ ap (option_and_then (along take_item (k + 1) (drop (k + 1) xs))) takes)

  -- no item is left
  pub done : (xs : List X) (k n : ℕ) (target : Option ℕ) → length xs ≤ k → along take_item k (drop k xs) n ≡ target → Some n ≡ target
  unfolding along
  done xs k n target h t = sym (sym t ∙ ap (λ ys. along take_item k ys n) (drop_all k xs h))
