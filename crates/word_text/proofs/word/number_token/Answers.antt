use Rattle.std.proofs.Common.{◌≡◌, ◌∷◌, None, sym, subst, rules}
use Rattle.word_text.specs.WordLookup.{Reads, is_number}
use Rattle.word_text.proofs.WordTable.{hash_form, minus_form, nothing, no_form}
use Rattle.word_text.proofs.word.number_token.Goals as goal

pub returns-in-Some-eq35-default : goal.returns-in-Some-eq35-default
returns-in-Some-eq35-default c =
    let e : c.args.word.now ≡ 35 ∷ c.in-Some-eq35-default.digits.now = search rules in
    subst (λ w. Reads is_number w c.par_of.result) (sym e) (hash_form c.in-Some-eq35-default.digits.now c.par_of.result c.par_of.ensures)

pub returns-in-Some-eq45-default : goal.returns-in-Some-eq45-default
returns-in-Some-eq45-default c =
    let e : c.args.word.now ≡ 45 ∷ c.in-Some-eq45-default.digits.now = search rules in
    subst (λ w. Reads is_number w c.negative_of.result) (sym e) (minus_form c.in-Some-eq45-default.digits.now c.negative_of.result c.negative_of.ensures)

pub returns-in-None : goal.returns-in-None
returns-in-None c =
    subst (λ w. Reads is_number w None) (sym (nothing c.args.word.now c.in-None.ensures.cases)) no_form
