-- Cells in order over a store: what is read of them, what a new one or a changed one writes, and where one is found.
use Rattle.std.specs.Prelude.{◌≡◌, ◌≢◌, ℕ, zero, suc, ◌-◌, ◌+◌, ◌<◌, ◌≤◌, ℤ, pos, true, List, [], ◌∷◌, ◌++◌, length, slice_set, refl}
use Rattle.std.proofs.Common.{sym, ◌∙◌, ap, subst, inl, inr, arith, get_or, below_more}
use Rattle.std.specs.List.{All, AllByRecursion}
use Rattle.std.specs.List.Sorted.{IsStrictlySortedBy}
use Rattle.std.specs.Ordering.{ordering_reverse, is_eq, is_lt}
use Rattle.std.specs.declared.cmp.Ordering.{Ordering}
use Rattle.std.specs.declared.cmp.Ordering.TheVariants.{Less, Equal, Greater}
use Rattle.std.proofs.lemmas.Cmp.{tied_itself}
use Rattle.std.proofs.lemmas.Bool.{cases_order}
use Rattle.std.proofs.lemmas.List.Elements.{recursion_from_All, All-from_recursion}
use Rattle.toy_imp.specs.Cell as imp
use Rattle.toy_imp.specs.Store.{Store, read, write}
use Rattle.toy_imp.proofs.Stores.{cell_same, write_is_read, write_keeps_others, write-write, writes_commute}
use Rattle.toy_run.specs.declared.cell.Cell.{Cell}
use Rattle.toy_run.specs.Cells.{key_of, cell_order, has_indices, is_not_zero}
use Rattle.toy_run.specs.Place.{listed_cmp, listed_total}
use Rattle.toy_run.proofs.Stores.{ties_alike}
use Rattle.toy_run.specs.Stored.{with_cells, IsApart, IsBehind, IsCellAt}

-- ---- a cell that is none of the list
pub apart_read : (cs : List Cell) (s : Store) (k : imp.Cell) → IsApart k cs → read (with_cells cs s) k ≡ read s k
unfolding with_cells
apart_read [] s k h = refl
apart_read (c ∷ cs) s k h = write_keeps_others (with_cells cs s) (key_of c) c.value k (λ e. h.0 (sym e)) ∙ apart_read cs s k h.1

pub apart_write : (cs : List Cell) (s : Store) (k : imp.Cell) (v : ℤ) → IsApart k cs → with_cells cs (write s k v) ≡ write (with_cells cs s) k v
unfolding with_cells
apart_write [] s k v h = refl
apart_write (c ∷ cs) s k v h = ap (λ t. write t (key_of c) c.value) (apart_write cs s k v h.1) ∙ writes_commute (with_cells cs s) k (key_of c) v c.value h.0

pub variable_apart : (cs : List Cell) (x : List ℕ) → AllByRecursion has_indices cs → IsApart (x, []) cs
variable_apart [] x h = tt
variable_apart (c ∷ cs) x h = (λ e. h.0 (ap (λ p. p.1) e), variable_apart cs x h.1)

not_before_itself : {A : Type 0} (k : imp.Cell) → listed_cmp k k ≡ Less → A
not_before_itself k e = let tied : listed_cmp k k ≡ Equal = tied_itself listed_total k in cc

behind_apart : (cs : List Cell) (k : imp.Cell) → IsBehind k cs → IsApart k cs
behind_apart [] k h = tt
behind_apart (c ∷ cs) k h = (λ e. not_before_itself k (subst (λ q. listed_cmp q k ≡ Less) e h.0), behind_apart cs k h.1)

-- ---- one cell more
appended : (cs : List Cell) (c : Cell) (s : Store) → with_cells (cs ++ c ∷ []) s ≡ with_cells cs (write s (key_of c) c.value)
unfolding with_cells
appended [] c s = refl
appended (d ∷ cs) c s = ap (λ t. write t (key_of d) d.value) (appended cs c s)

pub pushed : (cs new : List Cell) (c : Cell) (s : Store) (k : imp.Cell) (v : ℤ) → new ≡ cs ++ c ∷ [] → key_of c ≡ k → c.value ≡ v → IsBehind k cs → with_cells new s ≡ write (with_cells cs s) k v
pushed cs new c s k v e key value h =
    ap (λ l. with_cells l s) e ∙ appended cs c s ∙ (λ j. with_cells cs (write s (key j) (value j))) ∙ apart_write cs s k v (behind_apart cs k h)

all_push : (P : Cell → Type 0) (cs : List Cell) (c : Cell) → AllByRecursion P cs → P c → AllByRecursion P (cs ++ c ∷ [])
all_push P [] c h here = (here, tt)
all_push P (d ∷ cs) c h here = (h.0, all_push P cs c h.1 here)

sorted_push : (cs : List Cell) (c : Cell) → IsStrictlySortedBy cell_order cs → IsBehind (key_of c) cs → IsStrictlySortedBy cell_order (cs ++ c ∷ [])
unfolding IsStrictlySortedBy
sorted_push [] c sorted h = (tt, tt)
sorted_push (d ∷ cs) c sorted h = (all_push (λ y. cell_order d y ≡ Less) cs c sorted.0 h.0, sorted_push cs c sorted.1 h.1)

pub pushed_in_order : (cs new : List Cell) (c : Cell) (k : imp.Cell) → new ≡ cs ++ c ∷ [] → key_of c ≡ k → IsStrictlySortedBy cell_order cs → IsBehind k cs → IsStrictlySortedBy cell_order new
pushed_in_order cs new c k e key sorted h = subst (IsStrictlySortedBy cell_order) (sym e) (sorted_push cs c sorted (subst (λ q. IsBehind q cs) (sym key) h))

pushed_indexed_by : (cs new : List Cell) (c : Cell) (k : imp.Cell) → new ≡ cs ++ c ∷ [] → key_of c ≡ k → AllByRecursion has_indices cs → k.1 ≢ [] → AllByRecursion has_indices new
pushed_indexed_by cs new c k e key h some = subst (AllByRecursion has_indices) (sym e) (all_push has_indices cs c h (λ none. some (sym (ap (λ q. q.1) key) ∙ none)))

-- ---- the cell at a number
pub all_at : (P : Cell → Type 0) (cs : List Cell) (i : ℕ) (d : Cell) → AllByRecursion P cs → i < length cs → P (get_or cs i d)
all_at P [] i d h below = absurd (omega arith)
all_at P (c ∷ cs) zero d h below = h.0
all_at P (c ∷ cs) (suc i) d h below = all_at P cs i d h.1 (omega arith)

first_apart : (c : Cell) (cs : List Cell) (i : ℕ) (d : Cell) → AllByRecursion (λ y. cell_order c y ≡ Less) cs → i < length cs → key_of c ≢ key_of (get_or cs i d)
first_apart c cs i d h below e =
    not_before_itself (key_of c) (subst (λ q. listed_cmp (key_of c) q ≡ Less) (sym e) (all_at (λ y. cell_order c y ≡ Less) cs i d h below))

pub held_at : (cs : List Cell) (s : Store) (i : ℕ) (d : Cell) → IsStrictlySortedBy cell_order cs → i < length cs → read (with_cells cs s) (key_of (get_or cs i d)) ≡ (get_or cs i d).value
unfolding with_cells IsStrictlySortedBy
held_at [] s i d sorted below = absurd (omega arith)
held_at (c ∷ cs) s zero d sorted below = write_is_read (with_cells cs s) (key_of c) c.value
held_at (c ∷ cs) s (suc i) d sorted below =
    write_keeps_others (with_cells cs s) (key_of c) c.value (key_of (get_or cs i d)) (λ e. first_apart c cs i d sorted.0 (omega arith) (sym e))
    ∙ held_at cs s i d sorted.1 (omega arith)

pub found_value : (cs : List Cell) (s : Store) (i : ℕ) (k : imp.Cell) (d : Cell) → IsStrictlySortedBy cell_order cs → IsCellAt cs k i → (get_or cs i d).value ≡ read (with_cells cs s) k
found_value cs s i k d sorted at = sym (held_at cs s i d sorted at.0) ∙ ap (read (with_cells cs s)) (at.1 d)

-- ---- a cell that changes
set_at : (cs : List Cell) (s : Store) (i : ℕ) (c : Cell) → IsStrictlySortedBy cell_order cs → i < length cs → key_of (get_or cs i c) ≡ key_of c
    → with_cells (slice_set cs i c) s ≡ write (with_cells cs s) (key_of c) c.value
unfolding with_cells IsStrictlySortedBy
set_at [] s i c sorted below same = absurd (omega arith)
set_at (b ∷ cs) s zero c sorted below same =
    sym (write-write (with_cells cs s) (key_of c) b.value c.value) ∙ ap (λ q. write (write (with_cells cs s) q b.value) (key_of c) c.value) (sym same)
set_at (b ∷ cs) s (suc i) c sorted below same =
    ap (λ t. write t (key_of b) b.value) (set_at cs s i c sorted.1 (omega arith) same)
    ∙ writes_commute (with_cells cs s) (key_of c) (key_of b) c.value b.value (λ e. first_apart b cs i c sorted.0 (omega arith) (e ∙ sym same))

pub changed : (cs new : List Cell) (s : Store) (i : ℕ) (c : Cell) (k : imp.Cell) (v : ℤ) → new ≡ slice_set cs i c → key_of c ≡ k → c.value ≡ v → IsStrictlySortedBy cell_order cs
    → IsCellAt cs k i → with_cells new s ≡ write (with_cells cs s) k v
changed cs new s i c k v e key value sorted at =
    ap (λ l. with_cells l s) e ∙ set_at cs s i c sorted at.0 (at.1 c ∙ sym key) ∙ (λ j. write (with_cells cs s) (key j) (value j))

all_set : (P : Cell → Type 0) (cs : List Cell) (i : ℕ) (c : Cell) → AllByRecursion P cs → P c → AllByRecursion P (slice_set cs i c)
all_set P [] i c h here = tt
all_set P (b ∷ cs) zero c h here = (here, h.1)
all_set P (b ∷ cs) (suc i) c h here = (h.0, all_set P cs i c h.1 here)

sorted_set : (cs : List Cell) (i : ℕ) (c : Cell) → IsStrictlySortedBy cell_order cs → i < length cs → key_of (get_or cs i c) ≡ key_of c → IsStrictlySortedBy cell_order (slice_set cs i c)
unfolding IsStrictlySortedBy
sorted_set [] i c sorted below same = absurd (omega arith)
sorted_set (b ∷ cs) zero c sorted below same = (subst (λ q. AllByRecursion (λ y. listed_cmp q (key_of y) ≡ Less) cs) same sorted.0, sorted.1)
sorted_set (b ∷ cs) (suc i) c sorted below same =
    let here : cell_order b c ≡ Less = subst (λ q. listed_cmp (key_of b) q ≡ Less) same (all_at (λ y. cell_order b y ≡ Less) cs i c sorted.0 (omega arith)) in
    (all_set (λ y. cell_order b y ≡ Less) cs i c sorted.0 here, sorted_set cs i c sorted.1 (omega arith) same)

pub changed_in_order : (cs new : List Cell) (i : ℕ) (c : Cell) (k : imp.Cell) → new ≡ slice_set cs i c → key_of c ≡ k → IsStrictlySortedBy cell_order cs → IsCellAt cs k i → IsStrictlySortedBy cell_order new
changed_in_order cs new i c k e key sorted at = subst (IsStrictlySortedBy cell_order) (sym e) (sorted_set cs i c sorted at.0 (at.1 c ∙ sym key))

changed_indexed_by : (cs new : List Cell) (i : ℕ) (c : Cell) (k : imp.Cell) → new ≡ slice_set cs i c → key_of c ≡ k → AllByRecursion has_indices cs → k.1 ≢ [] → AllByRecursion has_indices new
changed_indexed_by cs new i c k e key h some = subst (AllByRecursion has_indices) (sym e) (all_set has_indices cs i c h (λ none. some (sym (ap (λ q. q.1) key) ∙ none)))

-- ---- finding by halves: those before a cell that is before the place, and those behind one that is behind it
pub before_too : (cs : List Cell) (k : imp.Cell) (m j : ℕ) (d : Cell) → IsStrictlySortedBy cell_order cs → m < length cs → listed_cmp (key_of (get_or cs m d)) k ≡ Less → j ≤ m
    → listed_cmp (key_of (get_or cs j d)) k ≡ Less
unfolding IsStrictlySortedBy
before_too [] k m j d sorted below here h = absurd (omega arith)
before_too (c ∷ cs) k zero zero d sorted below here h = here
before_too (c ∷ cs) k zero (suc j) d sorted below here h = absurd (omega arith)
before_too (c ∷ cs) k (suc m) zero d sorted below here h =
    listed_total.trans (key_of c) (key_of (get_or cs m d)) k (all_at (λ y. cell_order c y ≡ Less) cs m d sorted.0 (omega arith)) here
before_too (c ∷ cs) k (suc m) (suc j) d sorted below here h = before_too cs k m j d sorted.1 (omega arith) here (omega arith)

turned : (a b : imp.Cell) → listed_cmp a b ≡ Greater → listed_cmp b a ≡ Less
turned a b e = listed_total.antisymm b a ∙ ap ordering_reverse e

turned_back : (a b : imp.Cell) → listed_cmp a b ≡ Less → listed_cmp b a ≡ Greater
turned_back a b e = listed_total.antisymm b a ∙ ap ordering_reverse e

pub behind_too : (cs : List Cell) (k : imp.Cell) (m j : ℕ) (d : Cell) → IsStrictlySortedBy cell_order cs → listed_cmp (key_of (get_or cs m d)) k ≡ Greater → m ≤ j → j < length cs
    → listed_cmp (key_of (get_or cs j d)) k ≡ Greater
unfolding IsStrictlySortedBy
behind_too [] k m j d sorted here h below = absurd (omega arith)
behind_too (c ∷ cs) k zero zero d sorted here h below = here
behind_too (c ∷ cs) k zero (suc j) d sorted here h below =
    turned_back k (key_of (get_or cs j d))
    (listed_total.trans k (key_of c) (key_of (get_or cs j d)) (turned (key_of c) k here) (all_at (λ y. cell_order c y ≡ Less) cs j d sorted.0 (omega arith)))
behind_too (c ∷ cs) k (suc m) zero d sorted here h below = absurd (omega arith)
behind_too (c ∷ cs) k (suc m) (suc j) d sorted here h below = behind_too cs k m j d sorted.1 here (omega arith) (omega arith)

pub any_default : (xs : List Cell) (i : ℕ) (d e : Cell) → i < length xs → get_or xs i d ≡ get_or xs i e
any_default [] i d e below = absurd (omega arith)
any_default (x ∷ xs) zero d e below = refl
any_default (x ∷ xs) (suc i) d e below = any_default xs i d e (omega arith)

at_any : (cs : List Cell) (k : imp.Cell) (m : ℕ) (x d : Cell) (r : Ordering) → m < length cs → x ≡ get_or cs m x → listed_cmp (key_of x) k ≡ r → listed_cmp (key_of (get_or cs m d)) k ≡ r
at_any cs k m x d r below is here = subst (λ (y : Cell). listed_cmp (key_of y) k ≡ r) (is ∙ any_default cs m x d below) here

-- the place is behind the first `low` cells and before those from `high` on
pub record IsBetween (cs : List Cell) (k : imp.Cell) (low high : ℕ) : Type 0 where
  pub inside : high ≤ length cs
  pub before : (j : ℕ) (d : Cell) → j < low → listed_cmp (key_of (get_or cs j d)) k ≡ Less
  pub behind : (j : ℕ) (d : Cell) → high ≤ j → j < length cs → listed_cmp (key_of (get_or cs j d)) k ≡ Greater

pub between_all : (cs : List Cell) (k : imp.Cell) (high : ℕ) → high ≡ length cs → IsBetween cs k 0 high
between_all cs k high e = record {
  inside = omega (arith, e);
  before = λ j d h. absurd (omega arith);
  behind = λ j d h below. absurd (omega (arith, e));
}

pub between_above : (cs : List Cell) (k : imp.Cell) (low high m : ℕ) (x : Cell) → IsStrictlySortedBy cell_order cs → IsBetween cs k low high → m < high → x ≡ get_or cs m x
    → listed_cmp (key_of x) k ≡ Less → IsBetween cs k (m + 1) high
between_above cs k low high m x sorted b h is here = record {
  inside = b.inside;
  before = λ j d below. before_too cs k m j d sorted (omega (arith, h, b.inside)) (at_any cs k m x d Less (omega (arith, h, b.inside)) is here) (omega (arith, below));
  behind = b.behind;
}

pub between_below : (cs : List Cell) (k : imp.Cell) (low high m : ℕ) (x : Cell) → IsStrictlySortedBy cell_order cs → IsBetween cs k low high → m < high → x ≡ get_or cs m x
    → listed_cmp (key_of x) k ≡ Greater → IsBetween cs k low m
between_below cs k low high m x sorted b h is here = record {
  inside = omega (arith, h, b.inside);
  before = b.before;
  behind = λ j d from below. behind_too cs k m j d sorted (at_any cs k m x d Greater (omega (arith, h, b.inside)) is here) from below;
}

tied : (r : Ordering) → is_eq r ≡ true → r ≡ Equal
tied Less e = cc
tied Equal e = refl
tied Greater e = cc

-- only equal cells tie
listed_same : (a b : imp.Cell) → listed_cmp a b ≡ Equal → a ≡ b
listed_same a b e = cell_same a b (tied (imp.cell_cmp a b) (sym (ties_alike a b) ∙ ap is_eq e))

pub between_equal : (cs : List Cell) (k : imp.Cell) (low high m : ℕ) (x : Cell) → IsBetween cs k low high → m < high → x ≡ get_or cs m x → listed_cmp (key_of x) k ≡ Equal → IsCellAt cs k m
between_equal cs k low high m x b h is here =
    let inside : m < length cs = omega (arith, h, b.inside) in
    (inside, λ d. listed_same (key_of (get_or cs m d)) k (at_any cs k m x d Equal inside is here))

pub between_none : (cs : List Cell) (k : imp.Cell) (low high : ℕ) → IsBetween cs k low high → high ≤ low → IsApart k cs
between_none cs k low high b h = recursion_from_All (λ c. key_of c ≢ k) cs apart
  where
    apart : All (λ c. key_of c ≢ k) cs
    apart j d below e = elim (cases_order j low) [
      | inl same ↦ after j d (omega (arith, same)) below e
      | inr order ↦ elim order [
        | inl less ↦ not_before_itself k (subst (λ q. listed_cmp q k ≡ Less) e (b.before j d less))
        | inr more ↦ after j d (omega arith) below e
      ]
    ]
      where
        after : (j : ℕ) (d : Cell) → high ≤ j → j < length cs → key_of (get_or cs j d) ≡ k → ⊥
        after j d from below e = not_before_itself k (turned k k (subst (λ q. listed_cmp q k ≡ Greater) e (b.behind j d from below)))

-- ---- behind the last
pub behind_none : (cs : List Cell) (k : imp.Cell) → length cs ≡ 0 → IsBehind k cs
behind_none [] k e = tt
behind_none (c ∷ cs) k e = absurd (omega (arith, e))

pub behind_last : (cs : List Cell) (k : imp.Cell) (c : Cell) → IsStrictlySortedBy cell_order cs → 0 < length cs → c ≡ get_or cs (length cs - 1) c → listed_cmp (key_of c) k ≡ Less → IsBehind k cs
behind_last cs k c sorted some last h =
    recursion_from_All (λ b. listed_cmp (key_of b) k ≡ Less) cs
    (λ j d below. before_too cs k (length cs - 1) j d sorted (omega (arith, some)) (at_any cs k (length cs - 1) c d Less (omega (arith, some)) last h) (omega (arith, below)))

-- ---- cells put among others, the last one first
pub put_last : (left before : List Cell) (c : Cell) (s t u : Store) (x : List ℕ) (is : List ℤ) (v : ℤ) → with_cells left s ≡ u → left ≡ before ++ c ∷ [] → t ≡ write s (x, is) v
    → x ≡ c.name → is ≡ c.indices → v ≡ c.value → with_cells before t ≡ u
put_last left before c s t u x is v all last made name indices value =
    ap (with_cells before) (made ∙ (λ j. write s (name j, indices j) (value j))) ∙ sym (appended before c s) ∙ ap (λ l. with_cells l s) (sym last) ∙ all

pub none_left : (left : List Cell) (s u : Store) → length left ≡ 0 → with_cells left s ≡ u → s ≡ u
unfolding with_cells
none_left [] s u e all = all
none_left (c ∷ left) s u e all = absurd (omega (arith, e))

-- ---- the same of all cells by their numbers
pub variable_is_apart : (cs : List Cell) (x : List ℕ) → All has_indices cs → IsApart (x, []) cs
variable_is_apart cs x h = variable_apart cs x (recursion_from_All has_indices cs h)

pub pushed_indexed : (cs new : List Cell) (c : Cell) (k : imp.Cell) → new ≡ cs ++ c ∷ [] → key_of c ≡ k → All has_indices cs → k.1 ≢ [] → All has_indices new
pushed_indexed cs new c k e key h some = All-from_recursion has_indices new (pushed_indexed_by cs new c k e key (recursion_from_All has_indices cs h) some)

pub changed_indexed : (cs new : List Cell) (i : ℕ) (c : Cell) (k : imp.Cell) → new ≡ slice_set cs i c → key_of c ≡ k → All has_indices cs → k.1 ≢ [] → All has_indices new
changed_indexed cs new i c k e key h some = All-from_recursion has_indices new (changed_indexed_by cs new i c k e key (recursion_from_All has_indices cs h) some)

pub nonzero_more : (cs : List Cell) (i : ℕ) (x : Cell) → i < length cs → x ≡ get_or cs i x → x.value ≢ pos 0 → ((j : ℕ) (d : Cell) → j < i → is_not_zero (get_or cs j d)) → (j : ℕ) (d : Cell) → j < i + 1
    → is_not_zero (get_or cs j d)
nonzero_more cs i x inside is nonzero before j d h =
    below_more (λ m. is_not_zero (get_or cs m d)) i (λ m less. before m d less) (subst is_not_zero (is ∙ any_default cs i x d inside) nonzero) j (omega (arith, h))

pub less_than : (r : Ordering) → is_lt r ≡ true → r ≡ Less
less_than Less e = refl
less_than Equal e = cc
less_than Greater e = cc

-- ---- the list of no cells
pub none_in_order : (cs : List Cell) → cs ≡ [] → IsStrictlySortedBy cell_order cs
unfolding IsStrictlySortedBy
none_in_order cs e = subst (IsStrictlySortedBy cell_order) (sym e) tt

pub none_indexed : (cs : List Cell) → cs ≡ [] → All has_indices cs
none_indexed cs e = subst (All has_indices) (sym e) (λ j d h. absurd (omega arith))

pub none_written : (cs : List Cell) (s : Store) → cs ≡ [] → with_cells cs s ≡ s
unfolding with_cells
none_written cs s e = ap (λ l. with_cells l s) e
