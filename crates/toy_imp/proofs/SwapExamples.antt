-- The region `earlier` of `swaps`, worked through on two different blocks, of which the second reads a cell that the first
-- writes: S is `a[i] := x;` and T is `b[i] := a[i - 1];`. They swap where T's number is before S's, whatever other names are
-- set round them. With 0 for S and 1 for T, where S's number is before T's, they do not.
use Rattle.std.specs.Prelude.{◌≡◌, ◌≢◌, ℕ, ℤ, pos, ◌-ℤ◌, ◌<ℤ◌, List, [], ◌∷◌, ◌++◌, length, slice_index_or, Some, refl}
use Rattle.std.proofs.Common.{sym, ◌∙◌, ap, subst, inl, inr, arith}
use Rattle.std.proofs.lemmas.Int.{ints}
use Rattle.toy_imp.specs.declared.name.Name.{Name}
use Rattle.toy_imp.specs.declared.name.Name.TheVariants.{Own}
use Rattle.toy_imp.specs.declared.condition.Region.TheVariants as region
use Rattle.toy_imp.specs.Cell.{Cell, spelled, variable}
use Rattle.toy_imp.specs.Store.{Store, read, write}
use Rattle.toy_imp.specs.Value.{value}
use Rattle.toy_imp.specs.Run.{act, restore, before, step, ended, run}
use Rattle.toy_imp.specs.Ends.{Reaches, Ends, EndAlike, IsQuiet}
use Rattle.toy_imp.specs.Swaps.{IsBefore, set_round, Outer, turn, SwapsOver}
use Rattle.toy_imp.specs.Expr.{num, at, sub, no_exprs, expr}
use Rattle.toy_imp.specs.Block.{Block, empty, stmt, put, let_in, append}
use Rattle.toy_imp.proofs.Stores.{write_is_read, write_keeps_others, write-read, write-write, writes_commute}
use Rattle.toy_imp.proofs.Runs.{before-split, reaches_through, reaches_next, one_final_store, never_both}
use Rattle.toy_imp.proofs.Alikes.{append_work}
use Rattle.toy_imp.proofs.Examples.{blank, blank_holds}

abbrev a : Name
a = Own (97 ∷ [])

abbrev b : Name
b = Own (98 ∷ [])

abbrev i : Name
i = Own (105 ∷ [])

abbrev x : Name
x = Own (120 ∷ [])

-- `a[i] := x;`
abbrev writes_cell : Block
writes_cell = stmt (put a (expr (at i no_exprs) no_exprs) (at x no_exprs)) empty

-- `b[i] := a[i - 1];`
abbrev reads_cell : Block
reads_cell = stmt (put b (expr (at i no_exprs) no_exprs) (at a (expr (sub (at i no_exprs) (num (pos 1))) no_exprs))) empty

-- ---- cells with one index
abbrev cell : Name → ℤ → Cell
cell n k = (spelled n, k ∷ [])

no_variable : (y n : Name) (k : ℤ) → variable y ≢ cell n k
no_variable y n k e = let q : ◌≡◌ {A = List ℤ} [] (k ∷ []) = ap (λ (c : Cell). c.1) e in cc

abbrev head_or_zero : List ℤ → ℤ
head_or_zero [] = pos 0
head_or_zero (k ∷ ks) = k

same_index : (n m : Name) (k l : ℤ) → cell n k ≡ cell m l → k ≡ l
same_index n m k l e = ap (λ (c : Cell). head_or_zero c.1) e

-- no cell of b is one of a
b_is_not_a : (k l : ℤ) → cell b k ≢ cell a l
b_is_not_a k l e = let same : ◌≡◌ {A = ℕ} 98 97 = ap (λ (c : Cell). slice_index_or c.0 0 0) e in absurd (omega arith)

-- ---- blocks that end from every store, with one cell written
record Writes (p : Block) (c : Cell) (f : Store → ℤ) : Type 0 where
  ends : (s : Store) → Ends p s (write s c (f s))

-- .. such a block with a variable set round it
set_back : (s : Store) (y : Name) (v : ℤ) (c : Cell) (w : ℤ) → variable y ≢ c → write (write (write s (variable y) v) c w) (variable y) (read s (variable y)) ≡ write s c w
set_back s y v c w apart =
    writes_commute (write s (variable y) v) c (variable y) w (read s (variable y)) apart
    ∙ ap (λ u. write u c w) (write-write s (variable y) v (read s (variable y)) ∙ write-read s (variable y))

given_back : (y : Name) (v : ℤ) (s : Store) → Reaches (restore y v ∷ []) s (ended (write s (variable y) v))
unfolding run step
given_back y v s = record { steps = 1; reached = refl }

let_ends : (s : Store) (y : Name) (v : ℤ) (p : Block) (c : Cell) (w : ℤ) → variable y ≢ c
    → Ends p (write s (variable y) v) (write (write s (variable y) v) c w) → Ends (stmt (let_in y (num v) p) empty) s (write s c w)
unfolding step value
let_ends s y v p c w apart inside =
    let set : Store = write s (variable y) v in
    let old : ℤ = read s (variable y) in
    let after : Store = write (write set c w) (variable y) old in
    let parts : Reaches (before p [] ++ restore y old ∷ []) set (ended after) = reaches_through (before p []) (restore y old ∷ []) set (write set c w) (ended after) inside (given_back y old (write set c w)) in
    let work : Reaches (before p (restore y old ∷ [])) set (ended after) = subst (λ l. Reaches l set (ended after)) (sym (before-split p (restore y old ∷ []))) parts in
    let whole : Reaches (act (let_in y (num v) p) ∷ []) s (ended after) = reaches_next (act (let_in y (num v) p)) [] s (ended after) work in
    subst (λ t. Reaches (act (let_in y (num v) p) ∷ []) s (ended t)) (set_back s y v c w apart) whole

-- .. and with several
inside : List Name → List ℤ → Store → Store
inside [] vs s = s
inside (y ∷ ys) [] s = s
inside (y ∷ ys) (v ∷ vs) s = inside ys vs (write s (variable y) v)

set_writes : (ys : List Name) (vs : List ℤ) (p : Block) (c : Cell) (f : Store → ℤ) → ((y : Name) → variable y ≢ c) → Writes p c f → Writes (set_round ys vs p) c (λ s. f (inside ys vs s))
unfolding inside
set_writes [] vs p c f apart h = h
set_writes (y ∷ ys) [] p c f apart h = h
set_writes (y ∷ ys) (v ∷ vs) p c f apart h =
    let rest : Writes (set_round ys vs p) c (λ s. f (inside ys vs s)) = set_writes ys vs p c f apart h in
    record { ends = λ s. let_ends s y v (set_round ys vs p) c (f (inside ys vs (write s (variable y) v))) (apart y) (rest.ends (write s (variable y) v)) }

inside-write : (ys : List Name) (vs : List ℤ) (s : Store) (c : Cell) (w : ℤ) → ((y : Name) → variable y ≢ c) → inside ys vs (write s c w) ≡ write (inside ys vs s) c w
unfolding inside
inside-write [] vs s c w apart = refl
inside-write (y ∷ ys) [] s c w apart = refl
inside-write (y ∷ ys) (v ∷ vs) s c w apart = ap (inside ys vs) (writes_commute s c (variable y) w v (apart y)) ∙ inside-write ys vs (write s (variable y) v) c w apart

-- ---- one block after another
one_after_other : (p q : Block) (s between t : Store) → Ends p s between → Ends q between t → Ends (append p q) s t
one_after_other p q s between t first second =
    subst (λ l. Reaches l s (ended t)) (sym (append_work p q)) (reaches_through (before p []) (before q []) s between (ended t) first second)

both_end : (p q : Block) (c d : Cell) (f g : Store → ℤ) → Writes p c f → Writes q d g → ((s : Store) (w : ℤ) → g (write s c w) ≡ g s)
    → (s : Store) → Ends (append p q) s (write (write s c (f s)) d (g s))
both_end p q c d f g first second aside s =
    one_after_other p q s (write s c (f s)) _ (first.ends s)
    (subst (λ w. Ends q (write s c (f s)) (write (write s c (f s)) d w)) (aside s (f s)) (second.ends (write s c (f s))))

-- blocks that end in one store, from each store, end alike
end_alike : (p q : Block) (f : Store → Store) → ((s : Store) → Ends p s (f s)) → ((s : Store) → Ends q s (f s)) → EndAlike p q
end_alike p q f first second = record {
  to = λ s t r. subst (λ u. Ends q s u) (one_final_store (before p []) s (f s) t (first s) r) (second s);
  back = λ s t r. subst (λ u. Ends p s u) (one_final_store (before q []) s (f s) t (second s) r) (first s);
}

-- .. so do two that write different cells, where neither writes what the other's number depends on
writers_swap : (p q : Block) (c d : Cell) (f g : Store → ℤ) → d ≢ c → Writes p c f → Writes q d g
    → ((s : Store) (w : ℤ) → f (write s d w) ≡ f s) → ((s : Store) (w : ℤ) → g (write s c w) ≡ g s) → EndAlike (append p q) (append q p)
writers_swap p q c d f g apart first second f_aside g_aside =
    end_alike (append p q) (append q p) (λ s. write (write s c (f s)) d (g s))
    (both_end p q c d f g first second g_aside)
    (λ s. subst (λ t. Ends (append q p) s t) (sym (writes_commute s c d (f s) (g s) apart)) (both_end q p d c g f second first f_aside s))

-- what ends from every store is quiet
ends_quiet : (p : Block) (f : Store → Store) → ((s : Store) → Ends p s (f s)) → IsQuiet p
ends_quiet p f ends = record { never = λ s t h. never_both (before p []) s (f s) t (ends s) h }

-- ---- the two blocks
first_ends : (n : ℤ) (s : Store) → read s (variable i) ≡ n → Ends writes_cell s (write s (cell a n) (read s (variable x)))
unfolding run step value
first_ends n s e = record { steps = 1; reached = ap (λ k. Some (ended (write s (cell a k) (read s (variable x))))) e }

second_ends : (n : ℤ) (s : Store) → read s (variable i) ≡ n → Ends reads_cell s (write s (cell b n) (read s (cell a (n -ℤ pos 1))))
unfolding run step value
second_ends n s e = record { steps = 1; reached = ap (λ k. Some (ended (write s (cell b k) (read s (cell a (k -ℤ pos 1)))))) e }

-- .. with i set to n, and other names set round that: what the cell q holds there is written
read_inside : List Name → List ℤ → ℤ → Cell → Store → ℤ
read_inside ys vs n q s = read (write (inside ys vs s) (variable i) n) q

first_turn : (o : Outer (i ∷ [])) (n : ℤ) → Writes (turn (i ∷ []) o (n ∷ []) writes_cell) (cell a n) (read_inside o.names o.numbers n (variable x))
unfolding read_inside
first_turn o n =
    set_writes o.names o.numbers (set_round (i ∷ []) (n ∷ []) writes_cell) (cell a n) (λ s. read (write s (variable i) n) (variable x)) (λ y. no_variable y a n)
    (record { ends = λ s. let_ends s i n writes_cell (cell a n) _ (no_variable i a n) (first_ends n (write s (variable i) n) (write_is_read s (variable i) n)) })

second_turn : (o : Outer (i ∷ [])) (n : ℤ) → Writes (turn (i ∷ []) o (n ∷ []) reads_cell) (cell b n) (read_inside o.names o.numbers n (cell a (n -ℤ pos 1)))
unfolding read_inside
second_turn o n =
    set_writes o.names o.numbers (set_round (i ∷ []) (n ∷ []) reads_cell) (cell b n) (λ s. read (write s (variable i) n) (cell a (n -ℤ pos 1))) (λ y. no_variable y b n)
    (record { ends = λ s. let_ends s i n reads_cell (cell b n) _ (no_variable i b n) (second_ends n (write s (variable i) n) (write_is_read s (variable i) n)) })

-- a cell with an index that is written outside is not the one that is read
read_aside : (ys : List Name) (vs : List ℤ) (n : ℤ) (q c : Cell) → ((y : Name) → variable y ≢ c) → q ≢ c
    → (s : Store) (w : ℤ) → read_inside ys vs n q (write s c w) ≡ read_inside ys vs n q s
unfolding read_inside
read_aside ys vs n q c no_name other s w =
    ap (λ t. read (write t (variable i) n) q) (inside-write ys vs s c w no_name)
    ∙ ap (λ t. read t q) (writes_commute (inside ys vs s) c (variable i) w n (no_name i))
    ∙ write_keeps_others (write (inside ys vs s) (variable i) n) c w q other

-- ---- T's number before S's: they end alike in both orders
one_less : (m n : ℤ) → n <ℤ m → cell a (n -ℤ pos 1) ≢ cell a m
one_less m n lt e = let same : n -ℤ pos 1 ≡ m = same_index a a (n -ℤ pos 1) m e in absurd (omega (arith, ints, lt, same))

turns_swap : (m n : ℤ) → n <ℤ m → (o u : Outer (i ∷ []))
    → EndAlike (append (turn (i ∷ []) o (m ∷ []) writes_cell) (turn (i ∷ []) u (n ∷ []) reads_cell)) (append (turn (i ∷ []) u (n ∷ []) reads_cell) (turn (i ∷ []) o (m ∷ []) writes_cell))
turns_swap m n lt o u =
    writers_swap (turn (i ∷ []) o (m ∷ []) writes_cell) (turn (i ∷ []) u (n ∷ []) reads_cell) (cell a m) (cell b n)
    (read_inside o.names o.numbers m (variable x)) (read_inside u.names u.numbers n (cell a (n -ℤ pos 1))) (b_is_not_a n m)
    (first_turn o m) (second_turn u n)
    (read_aside o.names o.numbers m (variable x) (cell b n) (λ y. no_variable y b n) (no_variable x b n))
    (read_aside u.names u.numbers n (cell a (n -ℤ pos 1)) (cell a m) (λ y. no_variable y a m) (one_less m n lt))

tuples_swap : (v w : List ℤ) → length v ≡ 1 → length w ≡ 1 → IsBefore w v → (o u : Outer (i ∷ []))
    → EndAlike (append (turn (i ∷ []) o v writes_cell) (turn (i ∷ []) u w reads_cell)) (append (turn (i ∷ []) u w reads_cell) (turn (i ∷ []) o v writes_cell))
tuples_swap (m ∷ []) (n ∷ []) h k (inl lt) o u = turns_swap m n lt o u
tuples_swap (m ∷ []) (n ∷ []) h k (inr e) o u = absurd e.1
tuples_swap [] w h k lt o u = cc
tuples_swap (m ∷ l ∷ v) w h k lt o u = absurd (omega (arith, h))
tuples_swap (m ∷ []) [] h k lt o u = cc
tuples_swap (m ∷ []) (n ∷ l ∷ w) h k lt o u = absurd (omega (arith, k))

they_swap_over_earlier : SwapsOver writes_cell reads_cell (i ∷ []) region.Earlier
they_swap_over_earlier = record {
  first_quiet = ends_quiet writes_cell (λ s. write s (cell a (read s (variable i))) (read s (variable x))) (λ s. first_ends (read s (variable i)) s refl);
  second_quiet = ends_quiet reads_cell (λ s. write s (cell b (read s (variable i))) (read s (cell a (read s (variable i) -ℤ pos 1)))) (λ s. second_ends (read s (variable i)) s refl);
  alike = tuples_swap;
}

-- ---- S's number before T's, 0 and 1: from the store with 1 in x, b[1] is 1 in one order and 0 in the other
abbrev none : Outer (i ∷ [])
none = record { names = []; numbers = []; as_long = refl; apart = λ k d h. absurd (omega arith) }

one_in_x : Store
one_in_x = write blank (variable x) (pos 1)

-- what b[1] holds in the end
first_then_second : Store
first_then_second = write (write one_in_x (cell a (pos 0)) (pos 1)) (cell b (pos 1)) (pos 1)

second_then_first : Store
second_then_first = write (write one_in_x (cell b (pos 1)) (pos 0)) (cell a (pos 0)) (pos 1)

abbrev first_at_0 : Block
first_at_0 = set_round (i ∷ []) (pos 0 ∷ []) writes_cell

abbrev second_at_1 : Block
second_at_1 = set_round (i ∷ []) (pos 1 ∷ []) reads_cell

-- .. the turns as they are without other names
writes_x : (s : Store) → Ends first_at_0 s (write s (cell a (pos 0)) (read (write s (variable i) (pos 0)) (variable x)))
writes_x s = let_ends s i (pos 0) writes_cell (cell a (pos 0)) _ (no_variable i a (pos 0)) (first_ends (pos 0) (write s (variable i) (pos 0)) (write_is_read s (variable i) (pos 0)))

reads_a : (s : Store) → Ends second_at_1 s (write s (cell b (pos 1)) (read (write s (variable i) (pos 1)) (cell a (pos 0))))
reads_a s = let_ends s i (pos 1) reads_cell (cell b (pos 1)) _ (no_variable i b (pos 1)) (second_ends (pos 1) (write s (variable i) (pos 1)) (write_is_read s (variable i) (pos 1)))

x_is_not_i : variable x ≢ variable i
x_is_not_i e = let same : ◌≡◌ {A = ℕ} 120 105 = ap (λ (c : Cell). slice_index_or c.0 0 0) e in absurd (omega arith)

-- .. and what they write
one_of_x : (s : Store) → read s (variable x) ≡ pos 1 → Ends first_at_0 s (write s (cell a (pos 0)) (pos 1))
one_of_x s e =
    let holds : read (write s (variable i) (pos 0)) (variable x) ≡ pos 1 = write_keeps_others s (variable i) (pos 0) (variable x) x_is_not_i ∙ e in
    subst (λ w. Ends first_at_0 s (write s (cell a (pos 0)) w)) holds (writes_x s)

number_of_a : (s : Store) (w : ℤ) → read s (cell a (pos 0)) ≡ w → Ends second_at_1 s (write s (cell b (pos 1)) w)
number_of_a s w e =
    let holds : read (write s (variable i) (pos 1)) (cell a (pos 0)) ≡ w = write_keeps_others s (variable i) (pos 1) (cell a (pos 0)) (λ h. no_variable i a (pos 0) (sym h)) ∙ e in
    subst (λ v. Ends second_at_1 s (write s (cell b (pos 1)) v)) holds (reads_a s)

x_holds_1 : read one_in_x (variable x) ≡ pos 1
unfolding one_in_x
x_holds_1 = write_is_read blank (variable x) (pos 1)

a_holds_0 : read one_in_x (cell a (pos 0)) ≡ pos 0
unfolding one_in_x
a_holds_0 = write_keeps_others blank (variable x) (pos 1) (cell a (pos 0)) (λ h. no_variable x a (pos 0) (sym h)) ∙ blank_holds (cell a (pos 0))

ends_with_1 : Ends (append first_at_0 second_at_1) one_in_x first_then_second
unfolding first_then_second
ends_with_1 = one_after_other first_at_0 second_at_1 one_in_x _ _ (one_of_x one_in_x x_holds_1)
    (number_of_a (write one_in_x (cell a (pos 0)) (pos 1)) (pos 1) (write_is_read one_in_x (cell a (pos 0)) (pos 1)))

ends_with_0 : Ends (append second_at_1 first_at_0) one_in_x second_then_first
unfolding second_then_first
ends_with_0 = one_after_other second_at_1 first_at_0 one_in_x _ _ (number_of_a one_in_x (pos 0) a_holds_0)
    (one_of_x (write one_in_x (cell b (pos 1)) (pos 0)) (write_keeps_others one_in_x (cell b (pos 1)) (pos 0) (variable x) (no_variable x b (pos 1)) ∙ x_holds_1))

b_holds_1 : read first_then_second (cell b (pos 1)) ≡ pos 1
unfolding first_then_second
b_holds_1 = write_is_read (write one_in_x (cell a (pos 0)) (pos 1)) (cell b (pos 1)) (pos 1)

b_holds_0 : read second_then_first (cell b (pos 1)) ≡ pos 0
unfolding second_then_first
b_holds_0 = write_keeps_others (write one_in_x (cell b (pos 1)) (pos 0)) (cell a (pos 0)) (pos 1) (cell b (pos 1)) (b_is_not_a (pos 1) (pos 0)) ∙ write_is_read one_in_x (cell b (pos 1)) (pos 0)

not_the_other_way_round : EndAlike (append first_at_0 second_at_1) (append second_at_1 first_at_0) → ⊥
not_the_other_way_round alike =
    let same : first_then_second ≡ second_then_first = one_final_store _ one_in_x _ _ (alike.to one_in_x first_then_second ends_with_1) ends_with_0 in
    let holds : pos 1 ≡ pos 0 = sym b_holds_1 ∙ ap (λ s. read s (cell b (pos 1))) same ∙ b_holds_0 in
    absurd (omega (arith, ints, holds))

-- so they do not swap over all tuples that differ
they_do_not_swap_over_distinct : SwapsOver writes_cell reads_cell (i ∷ []) region.Distinct → ⊥
they_do_not_swap_over_distinct swaps = not_the_other_way_round (swaps.alike (pos 0 ∷ []) (pos 1 ∷ []) refl refl differ none none)
  where
    differ : (pos 0 ∷ []) ≢ (pos 1 ∷ [])
    differ e = let holds : pos 0 ≡ pos 1 = ap head_or_zero e in absurd (omega (arith, ints, holds))
