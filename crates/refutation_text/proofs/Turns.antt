-- Things that are read one after another: those that were found stand in front of what is read next.
use Rattle.std.specs.Prelude.{◌≡◌, ◌<◌, ◌≤◌, ◌-◌, ◌+◌, ℕ, suc, List, [], ◌∷◌, ◌++◌, Option, Some, None, refl}
use Rattle.std.proofs.Common.{sym, ap, ◌∙◌, arith, append_assoc, append-nil}
use Rattle.word_text.specs.declared.token.Token.{Token}
use Rattle.term_text.specs.TermReading.{Read, then_read}
use Rattle.refutation_text.specs.NumberText.{many_read}

abbrev pub with_found : {X : Type 0} → List X → Option (List X × List Token) → Option (List X × List Token)
with_found found r = then_read r (λ xs rest. Some (found ++ xs, rest))

pub with_one : {X : Type 0} (found : List X) (x : X) (r : Option (List X × List Token)) → with_found (found ++ x ∷ []) r ≡ with_found found (then_read r (λ xs rest. Some (x ∷ xs, rest)))
with_one found x None = refl
with_one found x (Some p) = ap (λ xs. Some (xs, p.1)) (append_assoc found (x ∷ []) p.0)

pub with_none : {X : Type 0} (r : Option (List X × List Token)) → with_found [] r ≡ r
with_none None = refl
with_none (Some p) = refl

pub one_less : (end turn : ℕ) → turn < end → end - turn ≡ suc (end - (turn + 1))
one_less end turn h = omega (arith, h)

module _ {X : Type 0} (read : Read X) where
  -- a thing more
  pub turn_found : (found : List X) (x : X) (end turn : ℕ) (rest after : List Token) (all : Option (List X × List Token)) → turn < end
      → with_found found (many_read read (end - turn) rest) ≡ all → read rest ≡ Some (x, after) → with_found (found ++ x ∷ []) (many_read read (end - (turn + 1)) after) ≡ all
  unfolding many_read
  turn_found found x end turn rest after all h so is =
      with_one found x (many_read read (end - (turn + 1)) after)
      ∙ ap (λ r. with_found found (then_read r (λ y more. then_read (many_read read (end - (turn + 1)) more) (λ ys rest. Some (y ∷ ys, rest))))) (sym is)
      ∙ ap (λ n. with_found found (many_read read n rest)) (sym (one_less end turn h))
      ∙ so

  -- no thing
  pub turn_none : (found : List X) (end turn : ℕ) (rest : List Token) (all : Option (List X × List Token)) → turn < end
      → with_found found (many_read read (end - turn) rest) ≡ all → read rest ≡ None → all ≡ None
  unfolding many_read
  turn_none found end turn rest all h so is =
      sym so
      ∙ ap (λ n. with_found found (many_read read n rest)) (one_less end turn h)
      ∙ ap (λ r. with_found found (then_read r (λ y more. then_read (many_read read (end - (turn + 1)) more) (λ ys rest. Some (y ∷ ys, rest))))) is

  -- all things
  pub turn_last : (found : List X) (end turn : ℕ) (rest : List Token) (all : Option (List X × List Token)) → end ≤ turn
      → with_found found (many_read read (end - turn) rest) ≡ all → all ≡ Some (found, rest)
  unfolding many_read
  turn_last found end turn rest all h so =
      let none : end - turn ≡ 0 = omega (arith, h) in
      sym so ∙ ap (λ n. with_found found (many_read read n rest)) none ∙ ap (λ xs. Some (xs, rest)) (append-nil found)
