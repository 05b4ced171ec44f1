-- The law of two stores that are written alike, 5, as one walk over their writes and the clause's literals meets it.
-- That the walk ends well exactly where the literals are those of the places written is a lemma: `proofs/WalkedWrites.antt`.
use Rattle.std.specs.Prelude.{ℕ, suc, Bool, false, cond, ◌==◌, List, [], ◌∷◌, length, take, Option, Some, None, slice_get}
use Rattle.std.specs.List.{list_any}
use Rattle.rule_terms.specs.Term.{StoreTerm, get, Place}
use Rattle.rule_terms.specs.Order.{place_same}
use Rattle.rule_terms.specs.declared.obligation.Atom.TheVariants.{SameValue}
use Rattle.term_meaning.specs.Writes.{written_in}
use Rattle.law_clauses.specs.Signed.{Signed, minus, signed_same}
use Rattle.law_clauses.specs.Shapes.{place}
use Rattle.law_clauses.specs.WriteLaws.{read_unlike}

-- the literal denies the equality of a read of this place with something
unfoldable pub reads_at : Place → Signed → Bool
reads_at p (minus (SameValue (get y js s) w)) = place_same p (place y js)
reads_at p _ = false

-- the next literal is used where it says that the place is read unlike
abbrev pub used_for : StoreTerm → StoreTerm → ℕ → Place → Option Signed → Option ℕ
used_for a c n p None = None
used_for a c n p (Some x) = cond (signed_same x (read_unlike a c p)) (Some (suc n)) None

-- how many literals are used behind a write, after so many before it: none more where one of these speaks of its place
unfoldable pub used_at : StoreTerm → StoreTerm → List Signed → ℕ → Place → Option ℕ
used_at a c xs n p = cond (list_any (reads_at p) (take n xs)) (Some n) (used_for a c n p (slice_get xs n))

-- .. and behind several writes
unfoldable pub used_along : StoreTerm → StoreTerm → List Signed → Option ℕ → List Place → Option ℕ
used_along a c xs None ps = None
used_along a c xs (Some n) [] = Some n
used_along a c xs (Some n) (p ∷ ps) = used_along a c xs (used_at a c xs n p) ps

-- .. behind all writes of a store term, where so many are used before
abbrev pub used_behind : StoreTerm → StoreTerm → List Signed → ℕ → StoreTerm → Option ℕ
used_behind a c xs n t = used_along a c xs (Some n) (written_in t)

-- each literal is used
unfoldable pub all_are_used : List Signed → Option ℕ → Bool
all_are_used xs None = false
all_are_used xs (Some n) = n == length xs

-- .. behind the writes of the store term too
abbrev pub uses_all : StoreTerm → StoreTerm → List Signed → ℕ → Bool
uses_all a c xs n = all_are_used xs (used_behind a c xs n c)
