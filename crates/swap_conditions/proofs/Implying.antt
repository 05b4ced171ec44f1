-- Two blocks that swap by text swap: their runs with the counters set to tuples of the region touch different cells of the
-- names that they share, so the turns may be exchanged, whatever names are set round either.
use Rattle.std.specs.Prelude.{◌≡◌, ◌≢◌, ℕ, ℤ, Bool, true, false, not, ◌&&◌, ◌||◌, List, [], ◌∷◌, ◌++◌, length, bytes_eq, refl}
use Rattle.std.proofs.Common.{sym, ◌∙◌, ap, subst, inl, inr, arith, true≢false}
use Rattle.std.proofs.lemmas.Slice.Eq.{bytes_eq-Decides}
use Rattle.toy_imp.specs.declared.name.Name.{Name}
use Rattle.toy_imp.specs.declared.condition.Region.{Region}
use Rattle.toy_imp.specs.Cell.{Cell, spelled, variable}
use Rattle.toy_imp.specs.Store.{Store, write}
use Rattle.toy_imp.specs.Expr.{num}
use Rattle.toy_imp.specs.Block.{Block, empty, stmt, let_in, append}
use Rattle.toy_imp.specs.Run.{before}
use Rattle.toy_imp.specs.Ends.{EndAlike}
use Rattle.toy_imp.specs.Swaps.{IsWithin, set_round, Outer, turn}
use Rattle.toy_imp.proofs.Stores.{write_is_read, write_keeps_others}
use Rattle.side_conditions.specs.Places.{block_asserts}
use Rattle.side_conditions.specs.Seeking.{named, writes_name}
use Rattle.side_conditions.specs.Frame.{Write, reads, writes}
use Rattle.side_conditions.proofs.Sufficing.{first_yes, second_yes}
use Rattle.side_conditions.proofs.Apart.{assertless_is_quiet}
use Rattle.swap_conditions.specs.Standing.{block_has}
use Rattle.swap_conditions.specs.SwapText.{is_apart, touches, shares, clashes, are_counters, leaves, swaps_by_text}
use Rattle.swap_conditions.specs.SwapLaws.{SwapSuffices}
use Rattle.swap_conditions.proofs.Members.{Stands, of_standing, at_standing, stands_right}
use Rattle.swap_conditions.proofs.Turns.{inside}
use Rattle.swap_conditions.proofs.Exchanging.{cells_of, touched, AllApart, RunsApart, exchange}
use Rattle.swap_conditions.proofs.Placed.{yes_of, no_of}
use Rattle.swap_conditions.proofs.Sharing.{HasPlace, touched_place, touched_names, written_names}
use Rattle.swap_conditions.proofs.Moving.{shared_by_both}
use Rattle.swap_conditions.proofs.Separating.{Counted, region_separates}

-- ---- what the test says, part by part
pub record SwapsText (S T : Block) (ks : List Name) (r : Region) : Type 0 where
  pub first_assertless : block_asserts S ≡ false
  pub second_assertless : block_asserts T ≡ false
  pub counters : are_counters ks ≡ true
  pub first_leaves : leaves ks S ≡ true
  pub second_leaves : leaves ks T ≡ true
  pub no_clash : block_has (clashes r ks S T) S ≡ false

pub parts_of_text : (S T : Block) (ks : List Name) (r : Region) → swaps_by_text S T ks r ≡ true → SwapsText S T ks r
parts_of_text S T ks r e =
    let quiet : (not (block_asserts S) && not (block_asserts T)) ≡ true = first_yes _ _ e in
    let rest : ((are_counters ks && (leaves ks S && leaves ks T)) && not (block_has (clashes r ks S T) S)) ≡ true =
    second_yes (not (block_asserts S) && not (block_asserts T)) _ e in
    let names : (are_counters ks && (leaves ks S && leaves ks T)) ≡ true = first_yes _ _ rest in
    let left : (leaves ks S && leaves ks T) ≡ true = second_yes (are_counters ks) _ names in
    record {
      first_assertless = no_of _ (first_yes _ _ quiet);
      second_assertless = no_of _ (second_yes (not (block_asserts S)) _ quiet);
      counters = first_yes _ _ names;
      first_leaves = first_yes _ _ left;
      second_leaves = second_yes (leaves ks S) _ left;
      no_clash = no_of _ (second_yes (are_counters ks && (leaves ks S && leaves ks T)) _ rest);
    }

-- ---- the runs are apart
stands_cell : (ws : List Write) (w : Write) → Stands ws w → Stands (cells_of ws) w.0
stands_cell [] w s = absurd s
stands_cell (u ∷ ws) w (inl e) = inl (ap (λ (q : Write). q.0) e)
stands_cell (u ∷ ws) w (inr s) = inr (stands_cell ws w s)

first_shares : (a b c : Bool) → a ≡ true → b ≡ true → ((a && b) || c) ≡ true
first_shares true true c e f = refl
first_shares true false c e f = absurd (true≢false (sym f))
first_shares false b c e f = absurd (true≢false (sym e))

second_shares : (a b c : Bool) → b ≡ true → c ≡ true → (a || (b && c)) ≡ true
second_shares true b c e f = refl
second_shares false true c e f = f
second_shares false false c e f = absurd (true≢false (sym e))

module _ (S T : Block) (ks : List Name) (r : Region) (a b : List ℤ) (text : SwapsText S T ks r) (within : IsWithin r a b) where
  module _ (i j : ℕ) (s t : Store) (h : Counted ks a s) (l : Counted ks b t) where
    -- no cell is touched by both, whose name they share
    by_name : (c : Cell) → shares S T c.0 ≡ true → Stands (touched i S s) c → Stands (touched j T t) c → ⊥
    by_name c shared first second =
        let touch = shared_by_both S T c.0 shared in
        let place : HasPlace (named c.0) (λ k. block_has k S) = touched_place S c.0 touch.0 in
        let z : List ℕ = spelled place.name in
        let same : z ≡ c.0 = (bytes_eq-Decides (spelled place.name) c.0).0 place.is in
        let demand : is_apart r ks z place.indices S T ≡ true =
        yes_of (shares S T z) (is_apart r ks z place.indices S T) (ap (shares S T) same ∙ shared) (place.stands (clashes r ks S T) text.no_clash) in
        region_separates S T z place.indices i j s t c first second (sym same) r ks a b text.first_leaves text.second_leaves h l
        (ap (touches T) same ∙ touch.1) within demand

    second_apart : AllApart (touched j T t) (writes i (before S []) s)
    second_apart =
        of_standing _ (touched j T t) (λ d stands. of_standing _ (writes i (before S []) s) (λ w stands_w e.
        let written : writes_name S w.0.0 ≡ true = at_standing (λ (q : Write). writes_name S q.0.0 ≡ true) (writes i (before S []) s) w (written_names S i s) stands_w in
        let here : Stands (touched j T t) w.0 = subst (λ q. Stands (touched j T t) q) e stands in
        let also : touches T w.0.0 ≡ true = at_standing (λ (q : Cell). touches T q.0 ≡ true) (touched j T t) w.0 (touched_names T j t) here in
        by_name w.0 (first_shares (writes_name S w.0.0) (touches T w.0.0) _ written also)
        (stands_right (reads i (before S []) s) (cells_of (writes i (before S []) s)) w.0 (stands_cell (writes i (before S []) s) w stands_w)) here))

    first_apart : AllApart (touched i S s) (writes j (before T []) t)
    first_apart =
        of_standing _ (touched i S s) (λ d stands. of_standing _ (writes j (before T []) t) (λ w stands_w e.
        let written : writes_name T w.0.0 ≡ true = at_standing (λ (q : Write). writes_name T q.0.0 ≡ true) (writes j (before T []) t) w (written_names T j t) stands_w in
        let here : Stands (touched i S s) w.0 = subst (λ q. Stands (touched i S s) q) e stands in
        let also : touches S w.0.0 ≡ true = at_standing (λ (q : Cell). touches S q.0 ≡ true) (touched i S s) w.0 (touched_names S i s) here in
        by_name w.0 (second_shares (writes_name S w.0.0 && touches T w.0.0) (writes_name T w.0.0) (touches S w.0.0) written also) here
        (stands_right (reads j (before T []) t) (cells_of (writes j (before T []) t)) w.0 (stands_cell (writes j (before T []) t) w stands_w))))

  pub runs_apart : RunsApart S T (Counted ks a) (Counted ks b)
  runs_apart = record { second_apart = λ i j s t h l. second_apart i j s t h l; first_apart = λ i j s t h l. first_apart i j s t h l }

-- ---- names set one inside the other
round_append : (xs ys : List Name) (vs us : List ℤ) (b : Block) → length vs ≡ length xs → set_round (xs ++ ys) (vs ++ us) b ≡ set_round xs vs (set_round ys us b)
round_append [] ys [] us b e = refl
round_append [] ys (v ∷ vs) us b e = absurd (omega (arith, e))
round_append (x ∷ xs) ys [] us b e = absurd (omega (arith, e))
round_append (x ∷ xs) ys (v ∷ vs) us b e = ap (λ c. stmt (let_in x (num v) c) empty) (round_append xs ys vs us b (omega (arith, e)))

inside_append : (xs ys : List Name) (vs us : List ℤ) (s : Store) → length vs ≡ length xs → inside (xs ++ ys) (vs ++ us) s ≡ inside ys us (inside xs vs s)
inside_append [] ys [] us s e = refl
inside_append [] ys (v ∷ vs) us s e = absurd (omega (arith, e))
inside_append (x ∷ xs) ys [] us s e = absurd (omega (arith, e))
inside_append (x ∷ xs) ys (v ∷ vs) us s e = inside_append xs ys vs us (write s (variable x) v) (omega (arith, e))

-- .. counters that differ have their numbers inside
other_variable : (k l : Name) → not (bytes_eq (spelled k) (spelled l)) ≡ true → variable k ≢ variable l
other_variable k l e same = true≢false (sym ((bytes_eq-Decides (spelled k) (spelled l)).1 (ap (λ (c : Cell). c.0) same)) ∙ no_of _ e)

counted_inside : (ks : List Name) (a : List ℤ) (s : Store) → are_counters ks ≡ true → length a ≡ length ks → Counted ks a (inside ks a s)
counted_inside [] a s e h = absurd (true≢false (sym e))
counted_inside (k ∷ []) [] s e h = absurd (omega (arith, h))
counted_inside (k ∷ []) (v ∷ []) s e h = (write_is_read s (variable k) v, tt)
counted_inside (k ∷ []) (v ∷ x ∷ a) s e h = absurd (omega (arith, h))
counted_inside (k ∷ l ∷ []) [] s e h = absurd (omega (arith, h))
counted_inside (k ∷ l ∷ []) (v ∷ []) s e h = absurd (omega (arith, h))
counted_inside (k ∷ l ∷ []) (v ∷ x ∷ []) s e h =
    (write_keeps_others (write s (variable k) v) (variable l) x (variable k) (other_variable k l e) ∙ write_is_read s (variable k) v, (write_is_read (write s (variable k) v) (variable l) x, tt))
counted_inside (k ∷ l ∷ []) (v ∷ x ∷ y ∷ a) s e h = absurd (omega (arith, h))
counted_inside (k ∷ l ∷ m ∷ ks) a s e h = absurd (true≢false (sym e))

counted_round : (ks : List Name) (a : List ℤ) (o : Outer ks) (s : Store) → are_counters ks ≡ true → length a ≡ length ks → Counted ks a (inside (o.names ++ ks) (o.numbers ++ a) s)
counted_round ks a o s e h = subst (λ u. Counted ks a u) (sym (inside_append o.names ks o.numbers a s o.as_long)) (counted_inside ks a (inside o.names o.numbers s) e h)

turns_alike : (S T : Block) (ks : List Name) (r : Region) → SwapsText S T ks r → (a b : List ℤ) → length a ≡ length ks → length b ≡ length ks → IsWithin r a b → (o u : Outer ks)
    → EndAlike (append (turn ks o a S) (turn ks u b T)) (append (turn ks u b T) (turn ks o a S))
turns_alike S T ks r text a b h l within o u =
    let first : set_round (o.names ++ ks) (o.numbers ++ a) S ≡ turn ks o a S = round_append o.names ks o.numbers a S o.as_long in
    let second : set_round (u.names ++ ks) (u.numbers ++ b) T ≡ turn ks u b T = round_append u.names ks u.numbers b T u.as_long in
    let alike = exchange S T (Counted ks a) (Counted ks b) (o.names ++ ks) (u.names ++ ks) (o.numbers ++ a) (u.numbers ++ b) (runs_apart S T ks r a b text within)
    (λ s. counted_round ks a o s text.counters h) (λ s. counted_round ks b u s text.counters l) in
    subst (λ q. EndAlike (append (turn ks o a S) q) (append q (turn ks o a S))) second
    (subst (λ p. EndAlike (append p (set_round (u.names ++ ks) (u.numbers ++ b) T)) (append (set_round (u.names ++ ks) (u.numbers ++ b) T) p)) first alike)

pub swap_suffices : SwapSuffices
swap_suffices S T ks r holds =
    let text : SwapsText S T ks r = parts_of_text S T ks r holds in
    record {
      first_quiet = assertless_is_quiet S text.first_assertless;
      second_quiet = assertless_is_quiet T text.second_assertless;
      alike = λ a b h l within o u. turns_alike S T ks r text a b h l within o u;
    }
