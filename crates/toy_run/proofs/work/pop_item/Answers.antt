use Rattle.std.proofs.Common.{◌≡◌, ℕ, ◌-◌, List, [], ◌∷◌, ◌++◌, take, Option, None, Some, MatchOption, ap, ◌∙◌}
use Rattle.std.specs.Option.{option_to_list}
use Rattle.toy_run.specs.declared.work.Item.{Item}
use Rattle.toy_run.specs.Work.{onto, onto_push, work_of, first_of, rest_of}
use Rattle.toy_run.proofs.work.pop_item.Goals as goal

cut : (n : ℕ) (is : List Item) → n ≡ 0 → take (n - 1) is ≡ []
cut n [] e = ap (λ (k : ℕ). take (k - 1) (let none : List Item = [] in none)) e
cut n (i ∷ is) e = ap (λ (k : ℕ). take (k - 1) (i ∷ is)) e

no_work : (is : List Item) → is ≡ [] → work_of is ≡ []
unfolding onto
no_work is e = ap work_of e

popped : (o : Option Item) (old new : List Item) (n : ℕ) (R : Type 0) (P : Item → Type 0) → old ≡ new ++ option_to_list o → MatchOption o ((n ≡ 0) × R) P → new ≡ take (n - 1) old
    → MatchOption o (work_of old ≡ []) (λ i. work_of old ≡ first_of i ∷ rest_of i (work_of new))
popped None old new n R P e cases rest = no_work old (e ∙ ap (λ l. l ++ []) (rest ∙ cut n old cases.0))
popped (Some i) old new n R P e cases rest = ap work_of e ∙ onto_push new i []

pub returns : goal.returns
returns c = popped c.pop.result _ _ _ _ _ c.pop.ensures.items c.pop.ensures.cases c.pop.ensures.rest
