-- What is known of the distances of places that were passed: the least and the greatest, or that one place has none.
use Rattle.std.specs.Prelude.{ℤ, Bool, true, false, cond, ◌&&◌, Option, Some, None, int_le}
use Rattle.toy_imp.specs.declared.name.Name.{Name}
use Rattle.toy_imp.specs.Expr.{Exprs}
use Rattle.side_conditions.specs.Seeking.{named}
use Rattle.swap_conditions.specs.declared.spans.Span.{Span}
use Rattle.swap_conditions.specs.declared.spans.Span.TheVariants as span
use Rattle.swap_conditions.specs.declared.spans.Asked.{Asked}
use Rattle.swap_conditions.specs.Placing.{distance}

abbrev pub lesser : ℤ → ℤ → ℤ
lesser a b = cond (int_le a b) a b

abbrev pub greater : ℤ → ℤ → ℤ
greater a b = cond (int_le a b) b a

-- .. and of one place more
abbrev pub span_with : Span → Option ℤ → Span
span_with span.Nowhere (Some c) = span.Between c c
span_with span.Nowhere None = span.Elsewhere
span_with (span.Between low high) (Some c) = span.Between (lesser low c) (greater high c)
span_with (span.Between low high) None = span.Elsewhere
span_with span.Elsewhere d = span.Elsewhere

-- all of them are c
abbrev pub is_at : Span → ℤ → Bool
is_at span.Nowhere c = true
is_at (span.Between low high) c = int_le c low && int_le high c
is_at span.Elsewhere c = false

-- each of the first is at least each of the second
abbrev pub is_above : Span → Span → Bool
is_above span.Nowhere t = true
is_above (span.Between low high) span.Nowhere = true
is_above (span.Between low high) (span.Between least greatest) = int_le greatest low
is_above (span.Between low high) span.Elsewhere = false
is_above span.Elsewhere span.Nowhere = true
is_above span.Elsewhere (span.Between least greatest) = false
is_above span.Elsewhere span.Elsewhere = false

-- a place that is passed counts where it has the name that is asked of
abbrev pub passed : Asked → Name → Exprs → Span → Span
passed q x es before = cond (named q.name.now x es) (span_with before (distance q.counter.now q.count q.position es)) before
