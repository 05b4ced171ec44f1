-- What stands next along the walks of a side is what stands at its points: each stretch that a walk meets stands at its place
-- in the list of the side's rests, and a walk stops at the number of what stands next.
use Rattle.std.specs.Prelude.{◌≡◌, ℕ, zero, suc, ◌+◌, ◌-◌, ◌<◌, ◌≤◌, Bool, true, false, cond, List, [], ◌∷◌, ◌++◌, length, Some, None, slice_index_or, refl}
use Rattle.std.proofs.Common.{sym, ◌∙◌, ap, subst, drop, append_assoc, true≢false, arith}
use Rattle.std.proofs.lemmas.Bool.{and_parts, or_parts}
use Rattle.std.proofs.lemmas.List.{append-nil, drop-drop, get_or-drop, get_or_past, length-append, length-drop}
use Rattle.toy_imp.specs.Block.{Stmt, skip, put, assert_that, if_then, while_do, for_to, let_in, par_stmt, Block, empty, stmt}
use Rattle.toy_imp.specs.Faults.{stmt_has_scope, has_scope}
use Rattle.toy_imp.specs.Points.{stmt_count, point_count, exit_point}
use Rattle.toy_imp.specs.Test.{Test}
use Rattle.rule_terms.specs.declared.path.Stop.{Stop}
use Rattle.rule_terms.specs.declared.path.Stop.TheVariants.{At}
use Rattle.term_meaning.proofs.Agreeing.{some_equal, none_some}
use Rattle.path_pairs.specs.Open.{stmt_is_open, block_is_open}
use Rattle.path_pairs.specs.Rests.{Rest, stretch, rest_statements, stmt_rests, block_rests, rests, rest_at}
use Rattle.path_pairs.specs.Walks.{is_cut, stmt_stop, rest_stop}

-- ---- as many rests as points, where there is no `for` and no `let`
mutual
  pub as_many_rests_inside : (n : ℕ) (a : Stmt) (here behind : Rest) → stmt_has_scope a ≡ false → length (stmt_rests n a here behind) ≡ stmt_count a
  as_many_rests_inside n skip here behind h = refl
  as_many_rests_inside n (put x is e) here behind h = refl
  as_many_rests_inside n (assert_that t) here behind h = refl
  as_many_rests_inside n (if_then t b c) here behind h =
      length-append (block_rests n b behind) (block_rests (n + point_count b) c behind)
      ∙ (λ i. as_many_rests n b behind (or_parts _ _ h).0 i + as_many_rests (n + point_count b) c behind (or_parts _ _ h).1 i)
  as_many_rests_inside n (while_do t b) here behind h = ap suc (as_many_rests (suc n) b here h)
  as_many_rests_inside n (for_to x lo hi b) here behind h = absurd (true≢false h)
  as_many_rests_inside n (let_in x e b) here behind h = absurd (true≢false h)
  as_many_rests_inside n (par_stmt k) here behind h = refl

  pub as_many_rests : (n : ℕ) (b : Block) (rest : Rest) → has_scope b ≡ false → length (block_rests n b rest) ≡ point_count b
  as_many_rests n empty rest h = refl
  as_many_rests n (stmt a b) rest h =
      length-append (stmt_rests n a (stretch n (stmt a b) ∷ rest) (stretch (n + stmt_count a) b ∷ rest)) (block_rests (n + stmt_count a) b rest)
      ∙ (λ i. as_many_rests_inside n a (stretch n (stmt a b) ∷ rest) (stretch (n + stmt_count a) b ∷ rest) (or_parts _ _ h).0 i + as_many_rests (n + stmt_count a) b rest (or_parts _ _ h).1 i)

-- ---- a part of a list, at its place
pub record From {X : Type 0} (all : List X) (n : ℕ) (part : List X) : Type 0 where
  pub behind : List X
  pub is : drop n all ≡ part ++ behind

module _ {X : Type 0} where
  drop_front : (xs ys : List X) → drop (length xs) (xs ++ ys) ≡ ys
  drop_front [] ys = refl
  drop_front (x ∷ xs) ys = drop_front xs ys

  pub front_part : (all : List X) (n : ℕ) (xs ys : List X) → From all n (xs ++ ys) → From all n xs
  front_part all n xs ys h = record { behind = ys ++ h.behind; is = h.is ∙ append_assoc xs ys h.behind }

  pub back_part : (all : List X) (n k : ℕ) (xs ys : List X) → length xs ≡ k → From all n (xs ++ ys) → From all (n + k) ys
  back_part all n k xs ys e h = record {
    behind = h.behind;
    is =
        sym (drop-drop k n all) ∙ ap (drop k) (h.is ∙ append_assoc xs ys h.behind)
        ∙ ap (λ m. drop m (xs ++ (ys ++ h.behind))) (sym e) ∙ drop_front xs (ys ++ h.behind);
  }

  pub first_at : (all : List X) (n : ℕ) (x d : X) (xs : List X) → From all n (x ∷ xs) → slice_index_or all n d ≡ x
  first_at all n x d xs h =
      let same : n ≡ n + 0 = omega arith in
      ap (λ m. slice_index_or all m d) same ∙ sym (get_or-drop n all 0 d) ∙ ap (λ ys. slice_index_or ys 0 d) h.is

  pub part_within : (all : List X) (n : ℕ) (x : X) (xs : List X) → From all n (x ∷ xs) → n < length all
  part_within all n x xs h =
      let left : length (drop n all) ≡ length all - n = length-drop n all in
      let more : length (drop n all) ≡ suc (length (xs ++ h.behind)) = ap length h.is in
      omega (arith, left, more)

-- ---- stretches that stand at their places, none of which is the start, of statements in which all names are open and which have no `for` and no `let`
pub record Placed (all : List Rest) (n : ℕ) (b : Block) (rest : Rest) : Type 0 where
  pub inside : 1 ≤ n
  pub part : From all n (block_rests n b rest)
  pub names : block_is_open b ≡ true
  pub plain : has_scope b ≡ false

pub record PlacedStmt (all : List Rest) (n : ℕ) (a : Stmt) (here behind : Rest) : Type 0 where
  pub inside : 1 ≤ n
  pub part : From all n (stmt_rests n a here behind)
  pub names : stmt_is_open a ≡ true
  pub plain : stmt_has_scope a ≡ false

abbrev pub Stands : List Rest → Rest → Type 0
Stands all [] = Unit {0}
Stands all (stretch n b ∷ rest) = Placed all n b rest × Stands all rest

-- some statement stands next
abbrev pub Moves : Rest → Type 0
Moves [] = ⊥
Moves (stretch n empty ∷ rest) = Moves rest
Moves (stretch n (stmt a b) ∷ rest) = Unit {0}

module _ (all : List Rest) (n : ℕ) where
  pub first_placed : (a : Stmt) (b : Block) (rest : Rest) → Placed all n (stmt a b) rest → PlacedStmt all n a (stretch n (stmt a b) ∷ rest) (stretch (n + stmt_count a) b ∷ rest)
  first_placed a b rest h = record {
    inside = h.inside;
    part = front_part all n (stmt_rests n a (stretch n (stmt a b) ∷ rest) (stretch (n + stmt_count a) b ∷ rest)) (block_rests (n + stmt_count a) b rest) h.part;
    names = (and_parts _ _ h.names).0;
    plain = (or_parts _ _ h.plain).0;
  }

  pub behind_placed : (a : Stmt) (b : Block) (rest : Rest) → Placed all n (stmt a b) rest → Placed all (n + stmt_count a) b rest
  behind_placed a b rest h = record {
    inside = let front : 1 ≤ n = h.inside in omega (arith, front);
    part =
        back_part all n (stmt_count a) (stmt_rests n a (stretch n (stmt a b) ∷ rest) (stretch (n + stmt_count a) b ∷ rest)) (block_rests (n + stmt_count a) b rest)
        (as_many_rests_inside n a (stretch n (stmt a b) ∷ rest) (stretch (n + stmt_count a) b ∷ rest) (or_parts _ _ h.plain).0) h.part;
    names = (and_parts _ _ h.names).1;
    plain = (or_parts _ _ h.plain).1;
  }

  module _ (t : Test) (c d : Block) (here behind : Rest) where
    pub first_block_placed : PlacedStmt all n (if_then t c d) here behind → Placed all n c behind
    first_block_placed h = record {
      inside = h.inside;
      part = front_part all n (block_rests n c behind) (block_rests (n + point_count c) d behind) h.part;
      names = (and_parts _ _ (and_parts _ _ h.names).1).0;
      plain = (or_parts _ _ h.plain).0;
    }

    pub second_block_placed : PlacedStmt all n (if_then t c d) here behind → Placed all (n + point_count c) d behind
    second_block_placed h = record {
      inside = let front : 1 ≤ n = h.inside in omega (arith, front);
      part =
          back_part all n (point_count c) (block_rests n c behind) (block_rests (n + point_count c) d behind)
          (as_many_rests n c behind (or_parts _ _ h.plain).0) h.part;
      names = (and_parts _ _ (and_parts _ _ h.names).1).1;
      plain = (or_parts _ _ h.plain).1;
    }

  pub body_placed : (t : Test) (c : Block) (here behind : Rest) → PlacedStmt all n (while_do t c) here behind → Placed all (suc n) c here
  body_placed t c here behind h =
      let next : n + 1 ≡ suc n = omega arith in
      record {
        inside = omega arith;
        part = subst (λ m. From all m (block_rests (suc n) c here)) next (back_part all n 1 (here ∷ []) (block_rests (suc n) c here) refl h.part);
        names = (and_parts _ _ h.names).1;
        plain = h.plain;
      }

-- ---- so do all rests of a side
abbrev AllOf : (Rest → Type 0) → List Rest → Type 0
AllOf P [] = Unit {0}
AllOf P (x ∷ xs) = P x × AllOf P xs

all_append : (P : Rest → Type 0) (xs ys : List Rest) → AllOf P xs → AllOf P ys → AllOf P (xs ++ ys)
all_append P [] ys h g = g
all_append P (x ∷ xs) ys h g = (h.0, all_append P xs ys h.1 g)

all_at : (P : Rest → Type 0) (xs : List Rest) (k : ℕ) (d : Rest) → AllOf P xs → k < length xs → P (slice_index_or xs k d)
all_at P [] k d h lt = absurd (omega (arith, lt))
all_at P (x ∷ xs) zero d h lt = h.0
all_at P (x ∷ xs) (suc k) d h lt = all_at P xs k d h.1 (omega (arith, lt))

abbrev pub StandsNext : List Rest → Rest → Type 0
StandsNext all rest = Stands all rest × Moves rest

mutual
  inside_stmt : (all : List Rest) (n : ℕ) (a : Stmt) (here behind : Rest) → PlacedStmt all n a here behind → StandsNext all here → Stands all behind → AllOf (StandsNext all) (stmt_rests n a here behind)
  inside_stmt all n skip here behind h g k = tt
  inside_stmt all n (put x is e) here behind h g k = tt
  inside_stmt all n (assert_that t) here behind h g k = tt
  inside_stmt all n (if_then t c d) here behind h g k =
      all_append (StandsNext all) (block_rests n c behind) (block_rests (n + point_count c) d behind)
      (inside_block all n c behind (first_block_placed all n t c d here behind h) k) (inside_block all (n + point_count c) d behind (second_block_placed all n t c d here behind h) k)
  inside_stmt all n (while_do t c) here behind h g k = (g, inside_block all (suc n) c here (body_placed all n t c here behind h) g.0)
  inside_stmt all n (for_to x lo hi c) here behind h g k = tt
  inside_stmt all n (let_in x e c) here behind h g k = tt
  inside_stmt all n (par_stmt j) here behind h g k = (g, tt)

  inside_block : (all : List Rest) (n : ℕ) (b : Block) (rest : Rest) → Placed all n b rest → Stands all rest → AllOf (StandsNext all) (block_rests n b rest)
  inside_block all n empty rest h g = tt
  inside_block all n (stmt a b) rest h g =
      all_append (StandsNext all) (stmt_rests n a (stretch n (stmt a b) ∷ rest) (stretch (n + stmt_count a) b ∷ rest)) (block_rests (n + stmt_count a) b rest)
      (inside_stmt all n a (stretch n (stmt a b) ∷ rest) (stretch (n + stmt_count a) b ∷ rest) (first_placed all n a b rest h) ((h, g), tt) (behind_placed all n a b rest h, g))
      (inside_block all (n + stmt_count a) b rest (behind_placed all n a b rest h) g)

pub side_placed : (side : Block) → block_is_open side ≡ true → has_scope side ≡ false → Placed (rests side) 1 side []
side_placed side names plain = record { inside = omega arith; part = record { behind = []; is = sym (append-nil (block_rests 1 side [])) }; names = names; plain = plain }

pub start_stands : (side : Block) → block_is_open side ≡ true → has_scope side ≡ false → Stands (rests side) (rest_at side 0)
start_stands side names plain = (side_placed side names plain, tt)

pub point_stands : (side : Block) → block_is_open side ≡ true → has_scope side ≡ false → (p : ℕ) → suc p < exit_point side → StandsNext (rests side) (rest_at side (suc p))
point_stands side names plain p lt =
    let long : length (block_rests 1 side []) ≡ point_count side = as_many_rests 1 side [] plain in
    all_at (StandsNext (rests side)) (block_rests 1 side []) p [] (inside_block (rests side) 1 side [] (side_placed side names plain) tt) (omega (arith, lt, long))

pub exit_is : (side : Block) → has_scope side ≡ false → length (rests side) ≡ exit_point side
exit_is side plain = ap suc (as_many_rests 1 side [] plain)

-- nothing stands at the exit
pub exit_is_empty : (side : Block) → has_scope side ≡ false → rest_at side (exit_point side) ≡ []
exit_is_empty side plain = let e : length (rests side) ≡ exit_point side = exit_is side plain in get_or_past (rests side) (exit_point side) [] (omega (arith, e))

-- ---- where a walk stops
pub record Stopped (all : List Rest) (rest : Rest) (stop : Stop) : Type 0 where
  pub point : ℕ
  pub inside : 1 ≤ point
  pub is : stop ≡ At point
  pub within : point ≤ length all
  pub same : rest_statements rest ≡ rest_statements (slice_index_or all point [])

cut_stops : (q : Bool) (all : List Rest) (n : ℕ) (here : Rest) (stop : Stop) → 1 ≤ n → n ≤ length all → slice_index_or all n [] ≡ here → cond q (Some (At n)) None ≡ Some stop → Stopped all here stop
cut_stops true all n here stop front le h e = record { point = n; inside = front; is = sym (some_equal (At n) stop e); within = le; same = ap rest_statements (sym h) }
cut_stops false all n here stop front le h e = none_some stop e

stmt_stops : (all : List Rest) (cuts : List ℕ) (n : ℕ) (a : Stmt) (here behind : Rest) → 1 ≤ n → From all n (stmt_rests n a here behind) → (stop : Stop) → stmt_stop cuts n a ≡ Some stop → Stopped all here stop
stmt_stops all cuts n skip here behind front h stop e = none_some stop e
stmt_stops all cuts n (put x is v) here behind front h stop e = none_some stop e
stmt_stops all cuts n (assert_that t) here behind front h stop e = none_some stop e
stmt_stops all cuts n (if_then t c d) here behind front h stop e = none_some stop e
stmt_stops all cuts n (while_do t c) here behind front h stop e =
    let lt : n < length all = part_within all n here (block_rests (suc n) c here) h in
    cut_stops (is_cut cuts n) all n here stop front (omega (arith, lt)) (first_at all n here [] (block_rests (suc n) c here) h) e
stmt_stops all cuts n (for_to x lo hi c) here behind front h stop e = none_some stop e
stmt_stops all cuts n (let_in x v c) here behind front h stop e = none_some stop e
stmt_stops all cuts n (par_stmt k) here behind front h stop e =
    let lt : n < length all = part_within all n here [] h in
    cut_stops (is_cut cuts n) all n here stop front (omega (arith, lt)) (first_at all n here [] [] h) e

pub stops_there : (all : List Rest) (cuts : List ℕ) (rest : Rest) → 1 ≤ length all → Stands all rest → (stop : Stop) → rest_stop cuts (length all) rest ≡ Some stop → Stopped all rest stop
stops_there all cuts [] some h stop e = record {
  point = length all;
  inside = some;
  is = sym (some_equal (At (length all)) stop e);
  within = omega arith;
  same = ap rest_statements (sym (get_or_past all (length all) [] (omega arith)));
}
stops_there all cuts (stretch n empty ∷ rest) some h stop e =
    let on : Stopped all rest stop = stops_there all cuts rest some h.1 stop e in
    record { point = on.point; inside = on.inside; is = on.is; within = on.within; same = on.same }
stops_there all cuts (stretch n (stmt a b) ∷ rest) some h stop e =
    stmt_stops all cuts n a (stretch n (stmt a b) ∷ rest) (stretch (n + stmt_count a) b ∷ rest) h.0.inside (first_placed all n a b rest h.0).part stop e

-- where it does not stop, a statement stands next
pub moves : (cuts : List ℕ) (exit : ℕ) (rest : Rest) → rest_stop cuts exit rest ≡ None → Moves rest
moves cuts exit [] e = none_some (At exit) (sym e)
moves cuts exit (stretch n empty ∷ rest) e = moves cuts exit rest e
moves cuts exit (stretch n (stmt a b) ∷ rest) e = tt
