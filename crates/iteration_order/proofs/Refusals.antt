-- A refusal for want of memory is no `Many`.
use Rattle.std.specs.Prelude.{◌≡◌, Result, Ok, Err, IsErrAnd}
use Rattle.iteration_order.specs.declared.refusal.TuplesRefusal.{TuplesRefusal}
use Rattle.iteration_order.specs.declared.refusal.TuplesRefusal.TheVariants.{Many, NoMemory}

pub not_many : {A : Type 0} (r : Result A TuplesRefusal) → IsErrAnd r (λ e. e ≡ NoMemory) → r ≡ Err Many → ⊥
not_many (Ok a) is e = cc
not_many (Err e) is many = cc
