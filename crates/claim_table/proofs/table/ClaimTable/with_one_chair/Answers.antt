use Rattle.std.proofs.Common.{◌≡◌, ℕ, ◌+◌, List, [], replicate, rules, sym, ◌∙◌, subst}
use Rattle.atomic_table.specs.Table.{opening}
use Rattle.claim_table.specs.Rule.{Kept}
use Rattle.claim_table.specs.Views.{first_view}
use Rattle.claim_table.proofs.NewTable.{opens}
use Rattle.claim_table.proofs.table.ClaimTable.with_one_chair.Goals as goal

pub of_words-requires : goal.of_words-requires
of_words-requires c =
    let words : c.in_ok-words.words.items ≡ replicate (c.args.slots + 1) 0 = search rules in
    subst (λ (words : List ℕ). Kept c.args.slots (opening {S = Unit {0}} words [] (first_view c.args.slots))) (sym (c.deref.ensures.value ∙ words)) (opens c.args.slots)
