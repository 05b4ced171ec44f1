-- What is known of a block's places by one walk decides what is asked of each of them.
use Rattle.std.specs.Prelude.{◌≡◌, ℤ, Bool, true, false, not, cond, ◌&&◌, Option, Some, None, int_le, refl}
use Rattle.std.specs.Ordering.{int_eq}
use Rattle.std.proofs.Common.{sym, ◌∙◌, ap, ap₂, arith}
use Rattle.std.proofs.lemmas.Int.{ints}
use Rattle.toy_imp.specs.Expr.{Exprs}
use Rattle.toy_imp.specs.Block.{Block}
use Rattle.side_conditions.specs.Seeking.{named}
use Rattle.swap_conditions.specs.declared.spans.Span.{Span}
use Rattle.swap_conditions.specs.declared.spans.Span.TheVariants as span
use Rattle.swap_conditions.specs.declared.spans.Asked.{Asked}
use Rattle.swap_conditions.specs.Standing.{every_place}
use Rattle.swap_conditions.specs.Placing.{distance, is_just, not_above}
use Rattle.swap_conditions.specs.Folding.{block_fold}
use Rattle.swap_conditions.specs.Spanning.{lesser, greater, span_with, is_at, is_above, passed}
use Rattle.swap_conditions.specs.SwapText.{all_ordered}
use Rattle.swap_conditions.proofs.Passing.{and_true, block_passes}

-- ---- bounds
and_false : (h : Bool) → (h && false) ≡ false
and_false true = refl
and_false false = refl

below_lesser : (c a b : ℤ) → int_le c (lesser a b) ≡ (int_le c a && int_le c b)
below_lesser c a b = grind (arith, ints)

above_greater : (c a b : ℤ) → int_le (greater a b) c ≡ (int_le a c && int_le b c)
above_greater c a b = grind (arith, ints)

just_between : (c d : ℤ) → (int_le c d && int_le d c) ≡ int_eq c d
just_between c d = grind (arith, ints)

sorted : (a b d e : Bool) → ((a && b) && (d && e)) ≡ ((a && d) && (b && e))
sorted true b true e = refl
sorted true true false e = refl
sorted true false false e = refl
sorted false b d e = refl

-- ---- a test of what is known, place by place
module _ (q : Asked) (holds : Span → Bool) (good : Option ℤ → Bool) (one_more : (a : Span) (d : Option ℤ) → holds (span_with a d) ≡ (holds a && good d)) where
  far : Exprs → Option ℤ
  far es = distance q.counter.now q.count q.position es

  not_not : (h g : Bool) → (h && g) ≡ (h && not (true && not g))
  not_not true true = refl
  not_not true false = refl
  not_not false g = refl

  counted : (n : Bool) (a : Span) (d : Option ℤ) → holds (cond n (span_with a d) a) ≡ (holds a && not (n && not (good d)))
  counted true a d = one_more a d ∙ not_not (holds a) (good d)
  counted false a d = sym (and_true (holds a))

  pub each_passes : (b : Block) → holds span.Nowhere ≡ true
      → holds (block_fold (passed q) b span.Nowhere) ≡ every_place q.name.now (λ es. good (distance q.counter.now q.count q.position es)) b
  unfolding far
  each_passes b first =
      block_passes Span (passed q) holds (λ x es. named q.name.now x es && not (good (far es)))
      (λ x es a. counted (named q.name.now x es) a (far es)) b span.Nowhere
      ∙ ap (λ h. h && every_place q.name.now (λ es. good (far es)) b) first

-- ---- all of them are c
at_more : (c : ℤ) (a : Span) (d : Option ℤ) → is_at (span_with a d) c ≡ (is_at a c && is_just c d)
at_more c span.Nowhere (Some d) = just_between c d
at_more c span.Nowhere None = refl
at_more c (span.Between low high) (Some d) =
    ap₂ (λ a b. a && b) (below_lesser c low d) (above_greater c high d)
    ∙ sorted (int_le c low) (int_le c d) (int_le high c) (int_le d c)
    ∙ ap (λ b. (int_le c low && int_le high c) && b) (just_between c d)
at_more c (span.Between low high) None = sym (and_false (int_le c low && int_le high c))
at_more c span.Elsewhere d = refl

pub all_at : (q : Asked) (c : ℤ) (b : Block)
    → is_at (block_fold (passed q) b span.Nowhere) c ≡ every_place q.name.now (λ es. is_just c (distance q.counter.now q.count q.position es)) b
all_at q c b = each_passes q (λ a. is_at a c) (is_just c) (at_more c) b refl

-- .. as an answer tells it
pub told_at : (q : Asked) (c bound : ℤ) (b : Block) (a : Span) (told : Bool) → bound ≡ c → told ≡ is_at a bound → a ≡ block_fold (passed q) b span.Nowhere
    → told ≡ every_place q.name.now (λ es. is_just c (distance q.counter.now q.count q.position es)) b
told_at q c bound b a told same answer known = answer ∙ ap₂ is_at known same ∙ all_at q c b

-- ---- each of the first is at least each of the second
-- .. of one distance, and of all of the second
is_under : Option ℤ → Span → Bool
is_under d span.Nowhere = true
is_under (Some c) (span.Between low high) = int_le high c
is_under None (span.Between low high) = false
is_under d span.Elsewhere = false

under_more : (c : Option ℤ) (a : Span) (d : Option ℤ) → is_under c (span_with a d) ≡ (is_under c a && not_above d c)
unfolding is_under
under_more (Some c) span.Nowhere (Some d) = refl
under_more None span.Nowhere (Some d) = refl
under_more (Some c) span.Nowhere None = refl
under_more None span.Nowhere None = refl
under_more (Some c) (span.Between low high) (Some d) = above_greater c high d
under_more None (span.Between low high) (Some d) = refl
under_more (Some c) (span.Between low high) None = sym (and_false (int_le high c))
under_more None (span.Between low high) None = refl
under_more c span.Elsewhere d = refl

above_more : (t a : Span) (d : Option ℤ) → is_above (span_with a d) t ≡ (is_above a t && is_under d t)
unfolding is_under
above_more span.Nowhere span.Nowhere (Some c) = refl
above_more span.Nowhere span.Nowhere None = refl
above_more span.Nowhere (span.Between low high) (Some c) = refl
above_more span.Nowhere (span.Between low high) None = refl
above_more span.Nowhere span.Elsewhere d = refl
above_more (span.Between l h) span.Nowhere (Some c) = refl
above_more (span.Between l h) span.Nowhere None = refl
above_more (span.Between l h) (span.Between low high) (Some c) = below_lesser h low c
above_more (span.Between l h) (span.Between low high) None = sym (and_false (int_le h low))
above_more (span.Between l h) span.Elsewhere d = refl
above_more span.Elsewhere span.Nowhere (Some c) = refl
above_more span.Elsewhere span.Nowhere None = refl
above_more span.Elsewhere (span.Between low high) (Some c) = refl
above_more span.Elsewhere (span.Between low high) None = refl
above_more span.Elsewhere span.Elsewhere d = refl

pub all_above : (q : Asked) (s t : Block)
    → is_above (block_fold (passed q) s span.Nowhere) (block_fold (passed q) t span.Nowhere) ≡ all_ordered q.counter.now q.count q.position q.name.now s t
unfolding is_under
all_above q s t =
    let known : Span = block_fold (passed q) t span.Nowhere in
    each_passes q (λ a. is_above a known) (λ d. is_under d known) (above_more known) s refl
    ∙ (λ i. every_place q.name.now (λ es. each_passes q (is_under (distance q.counter.now q.count q.position es)) (λ d. not_above d (distance q.counter.now q.count q.position es)) (under_more (distance q.counter.now q.count q.position es)) t refl i) s)
