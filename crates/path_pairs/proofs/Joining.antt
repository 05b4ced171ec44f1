-- One more of the first outcomes, with each of the second ones.
use Rattle.std.specs.Prelude.{◌≡◌, ℕ, ◌+◌, ◌<◌, List, ◌++◌, length, map}
use Rattle.std.proofs.Common.{sym, ◌∙◌, ap, get_or, drop}
use Rattle.std.proofs.lemmas.List.{drop_more, append_assoc}
use Rattle.rule_terms.specs.declared.obligation.Literal.{Literal}
use Rattle.path_pairs.specs.Outcomes.{both}

pub both_next : (all more target firsts seconds : List (List Literal)) (i : ℕ) (first item : List Literal) → i < length firsts → first ≡ get_or firsts i first
    → item ≡ first → more ≡ all ++ map (λ second. item ++ second) seconds
    → all ++ both (drop i firsts) seconds ≡ target → more ++ both (drop (i + 1) firsts) seconds ≡ target
both_next all more target firsts seconds i first item h e d m k =
    ap (λ xs. xs ++ both (drop (i + 1) firsts) seconds) (m ∙ ap (λ x. all ++ map (λ second. x ++ second) seconds) (d ∙ e))
    ∙ append_assoc all (map (λ second. get_or firsts i first ++ second) seconds) (both (drop (i + 1) firsts) seconds)
    ∙ ap (λ xs. all ++ both xs seconds) (sym (drop_more firsts i first h))
    ∙ k
