-- Whether a term is the one that a constructor makes of these arguments.
use Rattle.std.specs.Prelude.{ℕ, ℤ, Bool, false, ◌==◌, ◌&&◌}
use Rattle.std.specs.Ordering.{int_eq}
use Rattle.rule_terms.specs.Term.{StoreTerm, put, run, ValueTerm, num, get, ev, add, sub, mul, ValueTerms, Place}
use Rattle.rule_terms.specs.Order.{store_same, value_same, place_same}

abbrev pub place : ℕ → ValueTerms → Place
place x is = record { name = x; indices = is }

-- a write and a read at a place
abbrev pub put_at : StoreTerm → Place → ValueTerm → StoreTerm
put_at s p v = put s p.name p.indices v

abbrev pub get_at : Place → StoreTerm → ValueTerm
get_at p s = get p.name p.indices s

unfoldable pub is_run : StoreTerm → ℕ → StoreTerm → Bool
is_run (run j t) k s = j == k && store_same t s
is_run _ k s = false

unfoldable pub is_put : StoreTerm → StoreTerm → ℕ → ValueTerms → ValueTerm → Bool
is_put (put t y js w) s x is v = store_same t s && (place_same (place y js) (place x is) && value_same w v)
is_put _ s x is v = false

unfoldable pub is_num : ValueTerm → ℤ → Bool
is_num (num y) z = int_eq y z
is_num _ z = false

unfoldable pub is_get : ValueTerm → ℕ → ValueTerms → StoreTerm → Bool
is_get (get y js t) x is s = place_same (place y js) (place x is) && store_same t s
is_get _ x is s = false

unfoldable pub is_ev : ValueTerm → ℕ → StoreTerm → Bool
is_ev (ev j t) k s = j == k && store_same t s
is_ev _ k s = false

unfoldable pub is_add : ValueTerm → ValueTerm → ValueTerm → Bool
is_add (add a b) c d = value_same a c && value_same b d
is_add _ c d = false

unfoldable pub is_sub : ValueTerm → ValueTerm → ValueTerm → Bool
is_sub (sub a b) c d = value_same a c && value_same b d
is_sub _ c d = false

unfoldable pub is_mul : ValueTerm → ValueTerm → ValueTerm → Bool
is_mul (mul a b) c d = value_same a c && value_same b d
is_mul _ c d = false
