-- A stage is gathered line by line: what is taken so far, and what is left.
use Rattle.std.proofs.Common.{◌≡◌, ℕ, ◌+◌, ◌<◌, ◌≤◌, ℤ, pos, List, [], ◌∷◌, ◌++◌, map, length, All, Bool, true, false, cond, Option, Some, None, Result, Ok, Err, arith, refl, sym, ap, ◌∙◌, subst, get_or, drop}
use Rattle.std.specs.Prelude.{is_some, IfOk, unsigned_abs, int_lt, ◌<ℤ◌}
use Rattle.std.specs.List.{filter, flat_map}
use Rattle.std.specs.Ordering.{int_eq}
use Rattle.std.specs.declared.vec.Vec.{Vec}
use Rattle.std.specs.declared.alloc.Global.{Global}
use Rattle.std.proofs.lemmas.List.{drop_more, drop_all, append-nil, get_or-map, length-map}
use Rattle.std.proofs.lemmas.Bool.{false≢true, cond-true, cond-false}
use Rattle.std.proofs.lemmas.Int.{ints}
use Rattle.linear_rows.specs.declared.row.Row.{Row}
use Rattle.linear_rows.specs.declared.answer.RowKind.{RowKind}
use Rattle.linear_rows.specs.Stage.{line_of, first, without_first, lowest, taken, and_then, gathered, is_lower, is_upper, multiplier, mixed, cancelled, sums_of, sums_with, IsSmall}
use Rattle.linear_rows.specs.Lines.{items_of, Takes, Gathers}

-- one line alone
pub gathers_one : (old new : List (List ℤ)) (line : List ℤ) (what : Option RowKind) → Takes old (lowest line) new what → Gathers old (line ∷ []) new what
gathers_one old new line None is = ap (and_then (λ more. Ok more)) is
gathers_one old new line (Some kind) is = ap (and_then (λ more. Ok more)) is

pub gathers_same : {E : Type 0} (r : Result (Option RowKind) E) (old new xs ys : List (List ℤ)) → xs ≡ ys → IfOk r (Gathers old xs new) → IfOk r (Gathers old ys new)
gathers_same r old new xs ys e h = subst (λ (lines : List (List ℤ)). IfOk r (Gathers old lines new)) e h

then_gathered : (o : Result (List (List ℤ)) RowKind) (xs ys : List (List ℤ)) →
    ((s : List (List ℤ)) → gathered s (xs ++ ys) ≡ and_then (λ more. gathered more ys) (gathered s xs)) →
    and_then (λ more. gathered more (xs ++ ys)) o ≡ and_then (λ more. gathered more ys) (and_then (λ more. gathered more xs) o)
then_gathered (Ok s) xs ys same = same s
then_gathered (Err what) xs ys same = refl

-- lines after lines
pub gathered-append : (xs old ys : List (List ℤ)) → gathered old (xs ++ ys) ≡ and_then (λ more. gathered more ys) (gathered old xs)
gathered-append [] old ys = refl
gathered-append (x ∷ xs) old ys = then_gathered (taken old (lowest x)) xs ys (λ s. gathered-append xs s ys)

-- a walk along items that each give lines
module _ {X : Type 0} (lines : List X → List (List ℤ)) (each : (x : X) (rest : List X) → lines (x ∷ rest) ≡ lines (x ∷ []) ++ lines rest) where
  walk_parts : (xs : List X) (i : ℕ) (d : X) (old : List (List ℤ)) → i < length xs →
      gathered old (lines (drop i xs)) ≡ and_then (λ more. gathered more (lines (drop (i + 1) xs))) (gathered old (lines (get_or xs i d ∷ [])))
  walk_parts xs i d old lt =
      ap (λ rest. gathered old (lines rest)) (drop_more xs i d lt)
      ∙ ap (gathered old) (each (get_or xs i d) (drop (i + 1) xs))
      ∙ gathered-append (lines (get_or xs i d ∷ [])) old (lines (drop (i + 1) xs))

  -- the walk goes on from the new stage
  pub walk_goes_on : (xs : List X) (i : ℕ) (d : X) (whole : Result (List (List ℤ)) RowKind) (old new : List (List ℤ)) (what : Option RowKind) → i < length xs → is_some what ≡ false →
      whole ≡ gathered old (lines (drop i xs)) → Gathers old (lines (get_or xs i d ∷ [])) new what → whole ≡ gathered new (lines (drop (i + 1) xs))
  walk_goes_on xs i d whole old new None lt none e is = e ∙ walk_parts xs i d old lt ∙ ap (and_then (λ more. gathered more (lines (drop (i + 1) xs)))) is
  walk_goes_on xs i d whole old new (Some kind) lt none e is = absurd (false≢true (sym none))

  -- or it stops at a limit
  pub walk_stops : (xs : List X) (i : ℕ) (d : X) (start old new : List (List ℤ)) (what : Option RowKind) → i < length xs → is_some what ≡ true →
      gathered start (lines xs) ≡ gathered old (lines (drop i xs)) → Gathers old (lines (get_or xs i d ∷ [])) new what → Gathers start (lines xs) new what
  walk_stops xs i d start old new None lt some e is = absurd (false≢true some)
  walk_stops xs i d start old new (Some kind) lt some e is = e ∙ walk_parts xs i d old lt ∙ ap (and_then (λ more. gathered more (lines (drop (i + 1) xs)))) is

  -- or it comes to the end
  pub walk_ends : (xs : List X) (i : ℕ) (whole : Result (List (List ℤ)) RowKind) (old : List (List ℤ)) → length xs ≤ i → lines [] ≡ [] →
      whole ≡ gathered old (lines (drop i xs)) → whole ≡ Ok old
  walk_ends xs i whole old le none e = e ∙ ap (λ rest. gathered old (lines rest)) (drop_all i xs le) ∙ ap (gathered old) none

pub rows_each : (row : Row) (rest : List Row) → map line_of (row ∷ rest) ≡ map line_of (row ∷ []) ++ map line_of rest
rows_each row rest = refl

-- the lines that pass a test, each changed
selected_by : (f : List ℤ → List ℤ) (line : List ℤ) (rest : List (List ℤ)) (b : Bool) → map f (cond b (line ∷ rest) rest) ≡ map f (cond b (line ∷ []) []) ++ map f rest
selected_by f line rest true = refl
selected_by f line rest false = refl

abbrev pub selected : (List ℤ → List ℤ) → (List ℤ → Bool) → List (Vec ℤ Global) → List (List ℤ)
selected f test lines = map f (filter test (items_of lines))

pub selected_each : (f : List ℤ → List ℤ) (test : List ℤ → Bool) (line : Vec ℤ Global) (rest : List (Vec ℤ Global)) →
    selected f test (line ∷ rest) ≡ selected f test (line ∷ []) ++ selected f test rest
selected_each f test line rest = selected_by f line.items (filter test (items_of rest)) (test line.items)

abbrev pub is_kept : List ℤ → Bool
is_kept line = int_eq (first line) (pos 0)

-- the sums of the lower bounds with all upper bounds of a stage
sums_by : (f : List ℤ → List (List ℤ)) (line : List ℤ) (rest : List (List ℤ)) (b : Bool) → flat_map f (cond b (line ∷ rest) rest) ≡ flat_map f (cond b (line ∷ []) []) ++ flat_map f rest
sums_by f line rest true = ap (λ l. l ++ flat_map f rest) (sym (append-nil (f line)))
sums_by f line rest false = refl

pub sums_each : (stage : List (List ℤ)) (line : Vec ℤ Global) (rest : List (Vec ℤ Global)) →
    sums_with stage (items_of (line ∷ rest)) ≡ sums_with stage (items_of (line ∷ [])) ++ sums_with stage (items_of rest)
sums_each stage line rest = sums_by (λ p. sums_of p stage) line.items (filter is_lower (items_of rest)) (is_lower line.items)

-- a line that is no lower bound gives no sum, and a lower bound those with all upper bounds
pub sums_none : (stage : List (List ℤ)) (p : List ℤ) → is_lower p ≡ false → [] ≡ sums_with stage (p ∷ [])
sums_none stage p refused = sym (ap (flat_map (λ q. sums_of q stage)) (cond-false (is_lower p) (p ∷ []) [] refused))

pub sums_all : (stage : List (List ℤ)) (p : List ℤ) → is_lower p ≡ true → sums_of p stage ≡ sums_with stage (p ∷ [])
sums_all stage p passes = sym (ap (flat_map (λ q. sums_of q stage)) (cond-true (is_lower p) (p ∷ []) [] passes) ∙ append-nil (sums_of p stage))

pub sum_none : (p q : List ℤ) → is_upper q ≡ false → [] ≡ sums_of p (q ∷ [])
sum_none p q refused = sym (ap (map (cancelled p)) (cond-false (is_upper q) (q ∷ []) [] refused))

pub sum_one : (p q items : List ℤ) (by times : ℕ) → is_upper q ≡ true → by ≡ multiplier (first q) (first p) → times ≡ multiplier (first p) (first q) →
    items ≡ without_first (mixed (pos by) p (pos times) q) → items ∷ [] ≡ sums_of p (q ∷ [])
sum_one p q items by times passes by_is times_is is =
    let value : items ≡ cancelled p q = is
    ∙ ap (λ n. without_first (mixed (pos n) p (pos times) q)) by_is
    ∙ ap (λ n. without_first (mixed (pos (multiplier (first q) (first p))) p (pos n) q)) times_is in
    ap (λ line. line ∷ []) value ∙ sym (ap (map (cancelled p)) (cond-true (is_upper q) (q ∷ []) [] passes))

by_test : (a b : ℤ) → int_lt a b ≡ true → a <ℤ b
by_test a b test = grind (arith, ints)

pub upper_some : (q : List ℤ) → is_upper q ≡ true → 0 < unsigned_abs (first q)
upper_some q passes = let h = by_test (pos 0) (first q) passes in omega (arith, ints)

pub lower_some : (p : List ℤ) → is_lower p ≡ true → 0 < unsigned_abs (first p)
lower_some p passes = let h = by_test (first p) (pos 0) passes in omega (arith, ints)

-- lines after lines that were all taken, or after a limit
pub gathers_after : (start kept new xs ys : List (List ℤ)) (what : Option RowKind) → gathered start xs ≡ Ok kept → Gathers kept ys new what → Gathers start (xs ++ ys) new what
gathers_after start kept new xs ys None is rest = gathered-append xs start ys ∙ ap (and_then (λ more. gathered more ys)) is ∙ rest
gathers_after start kept new xs ys (Some kind) is rest = gathered-append xs start ys ∙ ap (and_then (λ more. gathered more ys)) is ∙ rest

pub gathers_stopped : (start new xs ys : List (List ℤ)) (what : Option RowKind) → is_some what ≡ true → Gathers start xs new what → Gathers start (xs ++ ys) new what
gathers_stopped start new xs ys None some is = absurd (false≢true some)
gathers_stopped start new xs ys (Some kind) some is = gathered-append xs start ys ∙ ap (and_then (λ more. gathered more ys)) is

pub gathers_whole : (start new xs : List (List ℤ)) (what : Option RowKind) → is_some what ≡ false → Gathers start xs new what → gathered start xs ≡ Ok new
gathers_whole start new xs None none is = is
gathers_whole start new xs (Some kind) none is = absurd (false≢true (sym none))

pub if_ok_then : {A E : Type 0} (r : Result A E) (P Q : A → Type 0) → IfOk r P → ((x : A) → P x → Q x) → IfOk r Q
if_ok_then (Ok x) P Q h f = f x h
if_ok_then (Err e) P Q h f = h

-- a line of a stage is small
pub item_small : (keys : List (Vec ℤ Global)) (i : ℕ) (d : Vec ℤ Global) → i < length keys → All IsSmall (items_of keys) → IsSmall (get_or keys i d).items
item_small keys i d lt all =
    let e : get_or (items_of keys) i [] ≡ (get_or keys i d).items = get_or-map (λ line. line.items) keys i d [] lt in
    let count : length (items_of keys) ≡ length keys = length-map keys (λ line. line.items) in
    subst IsSmall e (all i [] (omega arith))
