-- The laws of reads and writes, 1 to 10: which lists of literals are clauses of them.
-- A clause has the conditions of its law negated, in order, and then the conclusion. In words t is `put s x is v`.
use Rattle.std.specs.Prelude.{Bool, true, false, not, ◌==◌, ◌&&◌, ◌||◌, List, [], ◌∷◌, ◌++◌, map, Option, Some, None}
use Rattle.rule_terms.specs.Term.{StoreTerm, left_store, right_store, put, run, ValueTerm, get, ValueTerms, term, Place}
use Rattle.rule_terms.specs.Order.{store_same, value_same, place_same}
use Rattle.rule_terms.specs.Added.{added_all}
use Rattle.rule_terms.specs.declared.obligation.Atom.TheVariants.{SameName, SameStore, SameValue, Ends}
use Rattle.term_meaning.specs.Indices.{count}
use Rattle.term_meaning.specs.Writes.{base_of, written_in}
use Rattle.law_clauses.specs.Signed.{Signed, plus, minus, all_same}
use Rattle.law_clauses.specs.Shapes.{place, get_at, is_get}

abbrev pub conclusion : List Signed → Option Signed
conclusion [] = None
conclusion (x ∷ []) = Some x
conclusion (x ∷ y ∷ zs) = conclusion (y ∷ zs)

abbrev pub negated_conditions : List Signed → List Signed
negated_conditions [] = []
negated_conditions (x ∷ []) = []
negated_conditions (x ∷ y ∷ zs) = x ∷ negated_conditions (y ∷ zs)

-- some index of the one place is not that of the other
unfoldable pub unequal : ValueTerms → ValueTerms → List Signed
unequal (term a more) (term b bs) = minus (SameValue a b) ∷ unequal more bs
unequal _ _ = []

-- t does not end, or q is not the cell p
abbrev pub not_read_back : StoreTerm → Place → Place → List Signed
not_read_back t q p = minus (Ends t) ∷ minus (SameName q.name p.name) ∷ unequal q.indices p.indices

-- q holds w in t
abbrev pub says_read : Place → StoreTerm → ValueTerm → Signed
says_read q t w = plus (SameValue (get_at q t) w)

-- 1: q has as many indices as p. If t ends, the name of q is that of p, and each index of q is that of p: `get q t = v`
unfoldable pub read_back : Option Signed → List Signed → Bool
read_back (Some (plus (SameValue (get y js (put s x is v)) w))) conditions =
    count js == count is && (value_same w v && all_same conditions (not_read_back (put s x is v) (place y js) (place x is)))
read_back _ conditions = false

unfoldable pub law_1 : List Signed → Bool
law_1 clause = read_back (conclusion clause) (negated_conditions clause)

-- 2: if the name of q is not that of p: `get q t = get q s`
unfoldable pub law_2 : List Signed → Bool
law_2 (plus (SameName y z) ∷ plus (SameValue (get q js (put s x is v)) w) ∷ []) = y == q && (z == x && is_get w q js s)
law_2 _ = false

-- one index of the one place is `a`, where that of the other is `b`
unfoldable pub index_pair : ValueTerm → ValueTerm → ValueTerms → ValueTerms → Bool
index_pair a b (term c cs) (term d ds) = (value_same a c && value_same b d) || index_pair a b cs ds
index_pair a b _ _ = false

-- 3: as many indices. If an index of q is not that of p: `get q t = get q s`
unfoldable pub law_3 : List Signed → Bool
law_3 (plus (SameValue a b) ∷ plus (SameValue (get q js (put s x is v)) w) ∷ []) = count js == count is && (index_pair a b js is && is_get w q js s)
law_3 _ = false

-- 4: another number of indices: `get q t = get q s`
unfoldable pub law_4 : List Signed → Bool
law_4 (plus (SameValue (get q js (put s x is v)) w) ∷ []) = not (count js == count is) && is_get w q js s
law_4 _ = false

-- the places at which two store terms write, each once, those of the first before others, and outer ones before inner ones
abbrev pub places_written : StoreTerm → StoreTerm → List Place
places_written a c = added_all place_same [] (written_in a ++ written_in c)

abbrev pub read_unlike : StoreTerm → StoreTerm → Place → Signed
read_unlike a c p = minus (SameValue (get p.name p.indices a) (get p.name p.indices c))

-- .. read unlike at each of them
abbrev pub all_read_unlike : StoreTerm → StoreTerm → List Signed
all_read_unlike a c = map (read_unlike a c) (places_written a c)

-- a and c are equal
abbrev pub same_stores : StoreTerm → StoreTerm → Signed
same_stores a c = plus (SameStore a c)

-- 5: if a and c without their writes are equal, and are read alike at each place that is written in them: a = c
unfoldable pub written_alike : Option Signed → List Signed → Bool
written_alike (Some (plus (SameStore a c))) conditions = all_same conditions (minus (SameStore (base_of a) (base_of c)) ∷ all_read_unlike a c)
written_alike _ conditions = false

unfoldable pub law_5 : List Signed → Bool
law_5 clause = written_alike (conclusion clause) (negated_conditions clause)

-- 6: L ends, and R ends
unfoldable pub law_6 : List Signed → Bool
law_6 (plus (Ends left_store) ∷ []) = true
law_6 (plus (Ends right_store) ∷ []) = true
law_6 _ = false

-- 7: if s ends: t ends
unfoldable pub law_7 : List Signed → Bool
law_7 (minus (Ends s) ∷ plus (Ends (put u x is v)) ∷ []) = store_same u s
law_7 _ = false

-- 8: if t ends: s ends
unfoldable pub law_8 : List Signed → Bool
law_8 (minus (Ends (put u x is v)) ∷ plus (Ends s) ∷ []) = store_same u s
law_8 _ = false

-- 9: if `run k s` ends: s ends
unfoldable pub law_9 : List Signed → Bool
law_9 (minus (Ends (run k u)) ∷ plus (Ends s) ∷ []) = store_same u s
law_9 _ = false

-- 10: if neither a nor c ends: a = c
unfoldable pub law_10 : List Signed → Bool
law_10 (plus (Ends a) ∷ plus (Ends c) ∷ plus (SameStore b d) ∷ []) = store_same b a && store_same d c
law_10 _ = false
