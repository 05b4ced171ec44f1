-- A worked row: `put (run #1 L) #0 (num 1)` makes the nodes L, run, num and put, as numbers 0 to 3.
use Rattle.std.specs.Prelude.{◌≡◌, pos, true, List, [], ◌∷◌, refl}
use Rattle.rule_terms.specs.Term.{left_store, put, run, num, no_terms}
use Rattle.rule_terms.specs.Added.{added_all}
use Rattle.term_pool.specs.declared.node.Node.{Node}
use Rattle.term_pool.specs.declared.node.Node.TheVariants.{L, Put, Run, Num}
use Rattle.term_pool.specs.Numbered.{a_store, a_value, built, grown, terms_of_nodes, values_numbered, has_values, names_earlier, each_names_earlier}
use Rattle.term_pool.specs.Growth.{store_terms}

row : List Node
row = L ∷ Run 1 0 ∷ Num (pos 1) ∷ Put 1 (record { name = 0; indices = [] }) 2 ∷ []

row_terms : terms_of_nodes row ≡ store_terms (put (run 1 left_store) 0 no_terms (num (pos 1)))
unfolding row grown built values_numbered store_terms
row_terms = refl

row_earlier : each_names_earlier [] row ≡ true
unfolding row each_names_earlier names_earlier has_values built
row_earlier = refl
