-- The laws of reads and writes, 1 to 10: for each a clause, and a list of literals with a single slip that is none. All by computation.
use Rattle.std.specs.Prelude.{ℕ, List, [], ◌∷◌, ◌++◌, refl}
use Rattle.rule_terms.specs.Term.{StoreTerm, left_store, right_store, run, ValueTerm}
use Rattle.rule_terms.specs.Order.{store_cmp, value_cmp, terms_cmp}
use Rattle.rule_terms.specs.Added.{added_all}
use Rattle.rule_terms.specs.declared.obligation.Atom.TheVariants.{SameName, SameStore, SameValue, Ends}
use Rattle.term_meaning.specs.Writes.{base_of, written_in}
use Rattle.law_clauses.specs.Signed.{Signed, plus, minus, atom_same, signed_same, all_same}
use Rattle.law_clauses.specs.Shapes.{is_get}
use Rattle.law_clauses.specs.WriteLaws.{unequal, read_back, law_1, law_2, index_pair, law_3, law_4, written_alike, law_5, law_6, law_7, law_8, law_9, law_10}
use Rattle.law_clauses.specs.Laws.{is_clause}
use Rattle.law_clauses.proofs.TableTerms.{five, six, variable, item, set, set_item, plain, Row}

-- two indices
abbrev first_index : ValueTerm
first_index = variable 2 left_store

abbrev second_index : ValueTerm
second_index = variable 3 left_store

abbrev written : StoreTerm
written = set 0 five left_store

abbrev item_written : StoreTerm
item_written = set_item 0 first_index five left_store

-- 1, with the equality of the names and without it
abbrev reads_back : List Signed → List Signed
reads_back names = minus (Ends written) ∷ (names ++ plus (SameValue (variable 1 written) five) ∷ [])

law_1_row : Row plain 1 (reads_back (minus (SameName 1 0) ∷ [])) (reads_back [])
unfolding is_clause law_1 read_back unequal atom_same signed_same all_same store_cmp value_cmp terms_cmp
law_1_row = (refl, refl)

-- .. with the equality of the indices and without it
abbrev reads_item_back : List Signed → List Signed
reads_item_back indices = minus (Ends item_written) ∷ minus (SameName 1 0) ∷ (indices ++ plus (SameValue (item 1 second_index item_written) five) ∷ [])

law_1_row_of_items : Row plain 1 (reads_item_back (minus (SameValue second_index first_index) ∷ [])) (reads_item_back [])
unfolding is_clause law_1 read_back unequal atom_same signed_same all_same store_cmp value_cmp terms_cmp
law_1_row_of_items = (refl, refl)

-- 2, with the store that was written into and with another one
abbrev reads_past_name : StoreTerm → List Signed
reads_past_name s = plus (SameName 1 0) ∷ plus (SameValue (variable 1 written) (variable 1 s)) ∷ []

law_2_row : Row plain 2 (reads_past_name left_store) (reads_past_name right_store)
unfolding is_clause law_2 is_get store_cmp value_cmp terms_cmp
law_2_row = (refl, refl)

-- 3, with the indices in this order and with an index beside itself
abbrev reads_past_index : ValueTerm → List Signed
reads_past_index i = plus (SameValue second_index i) ∷ plus (SameValue (item 1 second_index item_written) (item 1 second_index left_store)) ∷ []

law_3_row : Row plain 3 (reads_past_index first_index) (reads_past_index second_index)
unfolding is_clause law_3 index_pair is_get store_cmp value_cmp terms_cmp
law_3_row = (refl, refl)

-- 4, where a variable was written and where an item was
abbrev reads_past_count : StoreTerm → List Signed
reads_past_count t = plus (SameValue (item 1 second_index t) (item 1 second_index left_store)) ∷ []

law_4_row : Row plain 4 (reads_past_count written) (reads_past_count item_written)
unfolding is_clause law_4 is_get store_cmp value_cmp terms_cmp
law_4_row = (refl, refl)

-- 5, with both places that are written and with one of them
abbrev two_written : StoreTerm
two_written = set 1 six (set 0 five left_store)

abbrev one_written : StoreTerm
one_written = set 0 six left_store

abbrev unlike : ℕ → Signed
unlike x = minus (SameValue (variable x two_written) (variable x one_written))

abbrev is_written_alike : List Signed → List Signed
is_written_alike reads = minus (SameStore left_store left_store) ∷ (reads ++ plus (SameStore two_written one_written) ∷ [])

law_5_row : Row plain 5 (is_written_alike (unlike 1 ∷ unlike 0 ∷ [])) (is_written_alike (unlike 1 ∷ []))
unfolding is_clause law_5 written_alike base_of written_in added_all atom_same signed_same all_same store_cmp value_cmp terms_cmp
law_5_row = (refl, refl)

-- .. with the outer place before the inner one and behind it
law_5_row_of_order : Row plain 5 (is_written_alike (unlike 1 ∷ unlike 0 ∷ [])) (is_written_alike (unlike 0 ∷ unlike 1 ∷ []))
unfolding is_clause law_5 written_alike base_of written_in added_all atom_same signed_same all_same store_cmp value_cmp terms_cmp
law_5_row_of_order = (refl, refl)

-- .. with a place that is written twice once and twice
abbrev written_twice : StoreTerm
written_twice = set 0 six (set 0 five left_store)

abbrev unlike_twice : Signed
unlike_twice = minus (SameValue (variable 0 written_twice) (variable 0 left_store))

abbrev is_written_twice : List Signed → List Signed
is_written_twice reads = minus (SameStore left_store left_store) ∷ (reads ++ plus (SameStore written_twice left_store) ∷ [])

law_5_row_of_repeats : Row plain 5 (is_written_twice (unlike_twice ∷ [])) (is_written_twice (unlike_twice ∷ unlike_twice ∷ []))
unfolding is_clause law_5 written_alike base_of written_in added_all atom_same signed_same all_same store_cmp value_cmp terms_cmp
law_5_row_of_repeats = (refl, refl)

-- 6, of a side and of a run
law_6_row : Row plain 6 (plus (Ends right_store) ∷ []) (plus (Ends (run 0 right_store)) ∷ [])
unfolding is_clause law_6
law_6_row = (refl, refl)

-- 7 and 8, of the store that is written into and of another one
law_7_row : Row plain 7 (minus (Ends left_store) ∷ plus (Ends written) ∷ []) (minus (Ends right_store) ∷ plus (Ends written) ∷ [])
unfolding is_clause law_7 store_cmp
law_7_row = (refl, refl)

law_8_row : Row plain 8 (minus (Ends written) ∷ plus (Ends left_store) ∷ []) (minus (Ends written) ∷ plus (Ends right_store) ∷ [])
unfolding is_clause law_8 store_cmp
law_8_row = (refl, refl)

-- 9, of the store that the run starts from and of another one
law_9_row : Row plain 9 (minus (Ends (run 0 left_store)) ∷ plus (Ends left_store) ∷ []) (minus (Ends (run 0 left_store)) ∷ plus (Ends right_store) ∷ [])
unfolding is_clause law_9 store_cmp
law_9_row = (refl, refl)

-- 10, of two runs that do not end and of one of them with its sign turned
abbrev neither_ends : Signed → List Signed
neither_ends x = x ∷ plus (Ends (run 1 left_store)) ∷ plus (SameStore (run 0 left_store) (run 1 left_store)) ∷ []

law_10_row : Row plain 10 (neither_ends (plus (Ends (run 0 left_store)))) (neither_ends (minus (Ends (run 0 left_store))))
unfolding is_clause law_10 store_cmp
law_10_row = (refl, refl)
