use Rattle.std.proofs.Common.{◌≡◌, ℕ, true, ◌&&◌, leb, List, ◌∷◌, length, sym, ap, subst, ◌∙◌, rules, tests}
use Rattle.std.specs.Char.{is_ascii_alphabetic}
use Rattle.std.specs.List.{list_all}
use Rattle.std.proofs.lemmas.Bool.{false≢true}
use Rattle.std.proofs.lemmas.Iterator.{YieldsList-from_slice}
use Rattle.std.proofs.lemmas.Iterator.Search.{all_from_yields_List}
use Rattle.pec_text.specs.Byte.{is_id_byte}
use Rattle.pec_text.specs.Id.{is_id}
use Rattle.pec_text.proofs.id.is_id.Goals as goal
use Rattle.pec_text.proofs.id.is_id.Goals.{then-is_ascii_alphabetic, else-is_ascii_alphabetic}

-- the last part of the test, where the first two hold
is_id_of_parts : (word : List ℕ) (first : ℕ) (more : List ℕ) → word ≡ first ∷ more → is_ascii_alphabetic first ≡ true → list_all is_id_byte more ≡ true → leb (length word) 32 ≡ is_id word
is_id_of_parts word first more e letter rest =
    subst (λ w. leb (length w) 32 ≡ is_id w) (sym e) (sym (ap (λ v. v && list_all is_id_byte more && leb (length (first ∷ more)) 32) letter ∙ ap (λ v. v && leb (length (first ∷ more)) 32) rest))

pub returns-then-all : goal.returns-then-all
returns-then-all c =
    let more = c.in-Some.more.now in
    elim c.if-is_ascii_alphabetic.branch [
      | then-is_ascii_alphabetic w ↦
          (let all = all_from_yields_List is_id_byte _ _ w.all.result w.all.ensures.ran (YieldsList-from_slice more w.iter.ensures.rest) (λ x b q k. search (rules, tests)) in
          is_id_of_parts c.args.word.now c.in-Some.first.now more c.in-Some.ensures.cases.0 (sym c.is_ascii_alphabetic.ensures.value ∙ w.if-is_ascii_alphabetic.true) (sym all ∙ sym w.value-is ∙ c.if-all.true))
      | else-is_ascii_alphabetic w ↦ absurd (false≢true (sym w.if-is_ascii_alphabetic.false ∙ sym w.value-is ∙ c.if-all.true))
    ]
