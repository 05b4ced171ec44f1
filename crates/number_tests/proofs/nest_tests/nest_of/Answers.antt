use Rattle.std.proofs.Common.{◌≡◌, ◌∙◌, ap, sym, subst, zero, suc, [], ◌∷◌, ◌++◌, length, arith, ℕ, ◌<◌, slice_index_or}
use Rattle.iteration_order.specs.declared.bounds.Bounds.{Bounds}
use Rattle.iteration_order.specs.Nest.{AreBounds, IsNest}
use Rattle.number_tests.proofs.nest_tests.nest_of.Goals as goal

nest_one : (b : Bounds) → AreBounds 0 1 b → IsNest 1 (b ∷ [])
nest_one b h = record { some_loop = omega arith; two_loops = omega arith; few_symbols = omega arith; bounds = bounds }
  where
    bounds : (k : ℕ) (d : Bounds) → k < length (b ∷ []) → AreBounds k 1 (slice_index_or (b ∷ []) k d)
    bounds zero d lt = h
    bounds (suc k) d lt = absurd (omega arith)

nest_two : (b inner : Bounds) → AreBounds 0 1 b → AreBounds 1 1 inner → IsNest 1 (b ∷ inner ∷ [])
nest_two b inner h g = record { some_loop = omega arith; two_loops = omega arith; few_symbols = omega arith; bounds = bounds }
  where
    bounds : (k : ℕ) (d : Bounds) → k < length (b ∷ inner ∷ []) → AreBounds k 1 (slice_index_or (b ∷ inner ∷ []) k d)
    bounds zero d lt = h
    bounds (suc zero) d lt = g
    bounds (suc (suc k)) d lt = absurd (omega arith)

pub returns-then-loops-ne2 : goal.returns-then-loops-ne2
returns-then-loops-ne2 g c =
    let is : c.push.new.self.items ≡ c.in_ok-bounds.field-0 ∷ [] = c.in_ok-push.ensures.items ∙ ap (λ l. l ++ c.in_ok-bounds.field-0 ∷ []) c.new-nest.ensures.items in
    subst (λ nest. IsNest 1 nest) (sym is) (nest_one _ c.in_ok-bounds.ensures)

pub returns : goal.returns
returns g c =
    let is : c.push.new.self.items ≡ c.in_ok-bounds.field-0 ∷ [] = c.in_ok-push.ensures.items ∙ ap (λ l. l ++ c.in_ok-bounds.field-0 ∷ []) c.new-nest.ensures.items in
    let both : c.push-2.new.self.items ≡ c.in_ok-bounds.field-0 ∷ c.in_ok-bounds-2.field-0 ∷ [] = c.in_ok-push-2.ensures.items ∙ ap (λ l. l ++ c.in_ok-bounds-2.field-0 ∷ []) is in
    subst (λ nest. IsNest 1 nest) (sym both) (nest_two _ _ c.in_ok-bounds.ensures c.in_ok-bounds-2.ensures)
