-- Tables of runs: what is said of runs of statement parameters, and when what is said is so.
-- Whether a block ends is never decided. A table says of some runs in which store they end, and of others that they do not; where it
-- says that a run does not end, an end of it gives the answer that is being shown.
use Rattle.std.specs.Prelude.{◌≡◌, ℕ, cond, ◌&&◌, ◌==◌, List, [], ◌∷◌, Option, Some, None}
use Rattle.toy_imp.specs.declared.instance.Instance.{Instance}
use Rattle.toy_imp.specs.Store.{Store}
use Rattle.toy_imp.specs.Ends.{Ends}
use Rattle.toy_imp.specs.Fill.{block_at}
use Rattle.term_meaning.specs.SameStore.{same_store}

-- what is said of the run of a statement parameter from a store: the store in which it ends, or nothing, that it does not end
pub record Entry : Type 0 where
  pub statement : ℕ
  pub from : Store
  pub to : Option Store

-- of two entries for one run the older counts; the newest stands first in a table
abbrev pub older : Option (Option Store) → Option (Option Store) → Option (Option Store)
older (Some o) new = Some o
older None new = new

unfoldable pub look : List Entry → ℕ → Store → Option (Option Store)
look [] k s = None
look (e ∷ T) k s = older (look T k s) (cond (e.statement == k && same_store e.from s) (Some e.to) None)

-- the store after a run: nothing behind nothing, where the table says nothing, and where it says that the run does not end
abbrev pub told : Option (Option Store) → Option Store
told None = None
told (Some o) = o

abbrev pub after : List Entry → ℕ → Option Store → Option Store
after T k None = None
after T k (Some s) = told (look T k s)

-- when a run is as it is said to be, for the answer A
abbrev pub Agrees : Type 0 → Instance → ℕ → Store → Option Store → Type 0
Agrees A i k s None = (t : Store) → Ends (block_at i k) s t → A
Agrees A i k s (Some t) = Ends (block_at i k) s t

abbrev pub Faithful : Type 0 → Instance → List Entry → Type 0
Faithful A i [] = Unit {0}
Faithful A i (e ∷ T) = Agrees A i e.statement e.from e.to × Faithful A i T

-- the table says something of a run, or there is no store to run from
abbrev pub Covered : List Entry → ℕ → Option Store → Type 0
Covered T k None = Unit {0}
Covered T k (Some s) = (o : Option Store) × (look T k s ≡ Some o)

-- where there is no store to run from there is none after the run
abbrev pub AgreesAt : Type 0 → Instance → ℕ → Option Store → Option Store → Type 0
AgreesAt A i k None p = p ≡ None
AgreesAt A i k (Some s) p = Agrees A i k s p

-- what the first table says, the second says too
abbrev pub Grows : List Entry → List Entry → Type 0
Grows T U = (k : ℕ) (s : Store) (o : Option Store) → look T k s ≡ Some o → look U k s ≡ Some o
