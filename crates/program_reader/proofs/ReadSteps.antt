-- What it takes that one reading after another gives something: the first gives what the second goes on with.
use Rattle.std.proofs.Common.{◌≡◌, ℕ, List, None, Some, refl}
use Rattle.std.proofs.lemmas.Option.{none-some, same_Some}
use Rattle.pec_text.specs.declared.token.Token.{Token}
use Rattle.program_reader.specs.Read.{Read, and_then, ReadStmt, and_next, alone}

pub then_some : {A B : Type 0} (r : Read A) (f : A → ℕ → List Token → Read B) (p : B × ℕ × List Token) → and_then r f ≡ Some p
    → (q : A × ℕ × List Token) × (r ≡ Some q) × (f q.0 q.1 q.2 ≡ Some p)
then_some None f p h = absurd (none-some _ h)
then_some (Some q) f p h = (q, refl, h)

pub next_some : {A B : Type 0} (r : ReadStmt A) (f : A → List Token → ReadStmt B) (p : B × List Token) → and_next r f ≡ Some p
    → (q : A × List Token) × (r ≡ Some q) × (f q.0 q.1 ≡ Some p)
next_some None f p h = absurd (none-some _ h)
next_some (Some q) f p h = (q, refl, h)

pub alone_some : {A : Type 0} (r : Read A) (p : A × List Token) → alone r ≡ Some p → (q : A × ℕ × List Token) × (r ≡ Some q) × ((q.0, q.2) ≡ p)
alone_some None p h = absurd (none-some _ h)
alone_some (Some q) p h = (q, refl, same_Some _ _ h)
