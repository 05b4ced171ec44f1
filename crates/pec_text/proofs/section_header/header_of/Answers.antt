use Rattle.std.proofs.Common.{◌≡◌, false, true, Some, None, cond, option_map, sym, ap, ◌∙◌}
use Rattle.pec_text.specs.Id.{is_id}
use Rattle.pec_text.specs.SectionHeader.{kind_of, header_of, header_of_words}
use Rattle.pec_text.proofs.SectionHeaderLemmas.{header_of_two, header_of_other}
use Rattle.pec_text.proofs.section_header.header_of.Goals as goal

pub returns-in_err-word : goal.returns-in_err-word
unfolding header_of
returns-in_err-word c = rw c.from_residual.ensures (sym (ap header_of_words c.in_err-word.ensures.none))

pub returns-in_err-title : goal.returns-in_err-title
unfolding header_of
returns-in_err-title c = rw c.from_residual-in_err-title.ensures (sym (header_of_other _ _ _ c.in_ok-word.ensures.found c.in_err-title.ensures.none))

pub returns-then-not-is_id : goal.returns-then-not-is_id
unfolding header_of
returns-then-not-is_id c =
    let title = c.in_ok-title.title.now in
    let other : is_id title ≡ false = sym c.is_id.ensures ∙ c.if-not-is_id.true in
    sym (header_of_two _ _ _ title c.in_ok-word.ensures.found c.in_ok-title.ensures.found
    ∙ ap (λ v. cond v (option_map (λ kind. (kind, title)) (kind_of c.in_ok-word.word.now)) None) other)

pub returns-in_err-kind_of : goal.returns-in_err-kind_of
unfolding header_of
returns-in_err-kind_of c =
    let title = c.in_ok-title.title.now in
    let named : is_id title ≡ true = sym c.is_id.ensures ∙ c.if-not-is_id.false in
    let none : kind_of c.in_ok-word.word.now ≡ None = sym c.kind_of.ensures ∙ c.in_err-kind_of.was in
    rw c.from_residual-in_err-kind_of.ensures
    (sym (header_of_two _ _ _ title c.in_ok-word.ensures.found c.in_ok-title.ensures.found
    ∙ ap (λ v. cond v (option_map (λ kind. (kind, title)) (kind_of c.in_ok-word.word.now)) None) named
    ∙ ap (option_map (λ kind. (kind, title))) none))

pub returns : goal.returns
unfolding header_of
returns c =
    let title = c.in_ok-title.title.now in
    let named : is_id title ≡ true = sym c.is_id.ensures ∙ c.if-not-is_id.false in
    let found : kind_of c.in_ok-word.word.now ≡ Some c.in_ok-kind_of.field-0 = sym c.kind_of.ensures ∙ c.in_ok-kind_of.was in
    sym (header_of_two _ _ _ title c.in_ok-word.ensures.found c.in_ok-title.ensures.found
    ∙ ap (λ v. cond v (option_map (λ kind. (kind, title)) (kind_of c.in_ok-word.word.now)) None) named
    ∙ ap (option_map (λ kind. (kind, title))) found)
