-- Steps whose citations are moved: each cited number is exchanged for another.
use Rattle.std.specs.Prelude.{ℕ, map}
use Rattle.refutations.specs.declared.refutation.By.{By}
use Rattle.refutations.specs.declared.refutation.By.TheVariants.{Given, Known, Refl, Flip, Chain, Alike, Carry, Law, Meet, Sum}
use Rattle.refutations.specs.declared.refutation.Step.{Step}
use Rattle.refutations.specs.declared.refutation.SumRow.{SumRow}
use Rattle.refutations.specs.declared.refutation.SumRow.TheVariants.{Of, Back, Num, Off, OffBack}

abbrev pub moved_row : (ℕ → ℕ) → SumRow → SumRow
moved_row f (Of k) = Of (f k)
moved_row f (Back k) = Back (f k)
moved_row f (Num a b) = Num a b
moved_row f (Off v) = Off v
moved_row f (OffBack v) = OffBack v

abbrev pub moved_reason : (ℕ → ℕ) → By → By
moved_reason f Given = Given
moved_reason f (Known k from) = Known k (map f from)
moved_reason f Refl = Refl
moved_reason f (Flip k) = Flip (f k)
moved_reason f (Chain j k) = Chain (f j) (f k)
moved_reason f (Alike from) = Alike (map f from)
moved_reason f (Carry k from) = Carry (f k) (map f from)
moved_reason f (Law k clause p from) = Law k clause p (map f from)
moved_reason f (Meet j k) = Meet (f j) (f k)
moved_reason f (Sum rows) = Sum (map (moved_row f) rows)

abbrev pub moved : (ℕ → ℕ) → Step → Step
moved f s = record { gives = s.gives; by = moved_reason f s.by }
