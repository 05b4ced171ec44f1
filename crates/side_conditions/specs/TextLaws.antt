-- Fillings of which a side condition holds by text meet it, kind by kind.
use Rattle.std.specs.Prelude.{◌≡◌, true, Some}
use Rattle.toy_imp.specs.declared.instance.Filling.{Filling}
use Rattle.toy_imp.specs.Meets.{Keeps, Ignores, Commutes, Positive, Constant, Distinct, Quiet}
use Rattle.side_conditions.specs.ByText.{keeps_by_text, ignores_by_text, commutes_by_text, positive_by_text, constant_by_text, distinct_by_text, quiet_by_text}

abbrev pub KeepsSuffices : Type 0
KeepsSuffices = (f g : Filling) → keeps_by_text f g ≡ true → Keeps (Some f) (Some g)

abbrev pub IgnoresSuffices : Type 0
IgnoresSuffices = (f g : Filling) → ignores_by_text f g ≡ true → Ignores (Some f) (Some g)

abbrev pub CommutesSuffices : Type 0
CommutesSuffices = (f g : Filling) → commutes_by_text f g ≡ true → Commutes (Some f) (Some g)

abbrev pub PositiveSuffices : Type 0
PositiveSuffices = (f : Filling) → positive_by_text f ≡ true → Positive (Some f)

abbrev pub ConstantSuffices : Type 0
ConstantSuffices = (f : Filling) → constant_by_text f ≡ true → Constant (Some f)

abbrev pub DistinctSuffices : Type 0
DistinctSuffices = (f g : Filling) → distinct_by_text f g ≡ true → Distinct (Some f) (Some g)

abbrev pub QuietSuffices : Type 0
QuietSuffices = (f : Filling) → quiet_by_text f ≡ true → Quiet (Some f)
