-- That work comes out so, as a coded answer: some number of steps has a test true.
use Rattle.std.specs.Prelude.{◌≡◌, ℕ, Bool, true, false, List, Option, Some, None}
use Rattle.std.proofs.Common.{sym, ap, subst}
use Rattle.toy_imp.specs.Ends.{Reaches}
use Rattle.toy_imp.specs.Run.{Item, Outcome, ended, halted, run}
use Rattle.toy_imp.specs.Store.{Store}
use Rattle.term_meaning.specs.SameStore.{same_store}
use Rattle.term_meaning.specs.Meaning.{Reached}
use Rattle.term_meaning.proofs.SameStores.{same_equal, same_self}

same_outcome : Outcome → Outcome → Bool
same_outcome (ended s) (ended t) = same_store s t
same_outcome (halted s) (halted t) = same_store s t
same_outcome (ended s) (halted t) = false
same_outcome (halted s) (ended t) = false

outcome_equal : (o p : Outcome) → same_outcome o p ≡ true → o ≡ p
unfolding same_outcome
outcome_equal (ended s) (ended t) e = ap ended (same_equal s t e)
outcome_equal (halted s) (halted t) e = ap halted (same_equal s t e)
outcome_equal (ended s) (halted t) e = cc
outcome_equal (halted s) (ended t) e = cc

outcome_self : (o : Outcome) → same_outcome o o ≡ true
unfolding same_outcome
outcome_self (ended s) = same_self s
outcome_self (halted s) = same_self s

pub is_outcome : Outcome → Option Outcome → Bool
is_outcome o None = false
is_outcome o (Some p) = same_outcome p o

outcome_is : (o : Outcome) (x : Option Outcome) → is_outcome o x ≡ true → x ≡ Some o
unfolding is_outcome
outcome_is o None e = cc
outcome_is o (Some p) e = ap Some (outcome_equal p o e)

is_itself : (o : Outcome) (x : Option Outcome) → x ≡ Some o → is_outcome o x ≡ true
unfolding is_outcome
is_itself o x e = subst (λ y. is_outcome o y ≡ true) (sym e) (outcome_self o)

-- the number of steps is the number that is reached
abbrev pub comes_out : List Item → Store → Outcome → ℕ → Bool
comes_out work s o n = is_outcome o (run n work s)

pub coded : (work : List Item) (s : Store) (o : Outcome) → Reaches work s o → Reached (comes_out work s o)
coded work s o h = (h.steps, is_itself o (run h.steps work s) h.reached)

pub told : (work : List Item) (s : Store) (o : Outcome) → Reached (comes_out work s o) → Reaches work s o
told work s o h = record { steps = h.0; reached = outcome_is o (run h.0 work s) h.1 }
