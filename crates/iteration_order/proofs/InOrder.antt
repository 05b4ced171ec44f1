-- The tuples in running order are those within the bounds, in lexicographic order; by recursion on the nest.
use Rattle.std.specs.Prelude.{◌≡◌, ℤ, ◌<ℤ◌, List, [], ◌∷◌, ◌++◌, map, refl}
use Rattle.std.proofs.Common.{subst, inl, inr}
use Rattle.toy_imp.specs.Swaps.{IsBefore}
use Rattle.iteration_order.specs.declared.bounds.Bounds.{Bounds}
use Rattle.iteration_order.specs.Affine.{value_at}
use Rattle.iteration_order.specs.RunningOrder.{turns_of, tuples_within, IsTurn, TuplesAreTheTurns, TuplesAscend}
use Rattle.iteration_order.proofs.Standing.{Stands, stands, contains}
use Rattle.iteration_order.proofs.Pieces.{Image, Piece, stands_map, stands_image, stands_flat_map, stands_piece, Ascends, pairs_ascend, ascends_map, ascends_flat_map}
use Rattle.iteration_order.proofs.Ranges.{Between, turns_between_bounds, bounds_between_turns, turns_ascend}

none_inside : (t : List ℤ) (around symbols : List ℤ) → [] ≡ t → IsTurn [] around symbols t
none_inside [] around symbols e = tt
none_inside (v ∷ t) around symbols e = cc

pub turn_of_tuple : (nest : List Bounds) (around symbols t : List ℤ) → Stands (tuples_within nest around symbols) t → IsTurn nest around symbols t
unfolding tuples_within
turn_of_tuple [] around symbols t (inl e) = none_inside t around symbols e
turn_of_tuple [] around symbols t (inr s) = absurd s
turn_of_tuple (b ∷ nest) around symbols t s =
    let inside : ℤ → List (List ℤ) = λ v. tuples_within nest (around ++ v ∷ []) symbols in
    let piece : Piece (λ v. map (λ t. v ∷ t) (inside v)) (turns_of b around symbols) t = stands_piece _ _ t s in
    let image : Image (λ t. piece.item ∷ t) (inside piece.item) t = stands_image _ _ t piece.holds in
    let between : Between (value_at b.low around symbols) (value_at b.high around symbols) piece.item = turns_between_bounds _ _ _ piece.stands in
    let rest : IsTurn nest (around ++ piece.item ∷ []) symbols image.item = turn_of_tuple nest _ symbols image.item image.stands in
    subst (λ l. IsTurn (b ∷ nest) around symbols l) image.is (between.above, between.below, rest)

pub tuple_of_turn : (nest : List Bounds) (around symbols t : List ℤ) → IsTurn nest around symbols t → Stands (tuples_within nest around symbols) t
unfolding tuples_within
tuple_of_turn [] around symbols [] is = inl refl
tuple_of_turn [] around symbols (v ∷ t) is = absurd is
tuple_of_turn (b ∷ nest) around symbols [] is = absurd is
tuple_of_turn (b ∷ nest) around symbols (v ∷ t) is =
    stands_flat_map (λ v. map (λ t. v ∷ t) (tuples_within nest (around ++ v ∷ []) symbols)) (turns_of b around symbols) v (v ∷ t)
    (bounds_between_turns _ _ v is.0 is.1)
    (stands_map (λ t. v ∷ t) _ t (tuple_of_turn nest (around ++ v ∷ []) symbols t is.2))

pub tuples_are_the_turns : TuplesAreTheTurns
tuples_are_the_turns nest around symbols t =
    (λ s. turn_of_tuple nest around symbols t (stands _ t s), λ is. contains _ t (tuple_of_turn nest around symbols t is))

-- ---- the order
outer_before : (v w : ℤ) (ts us : List (List ℤ)) (t u : List ℤ) → v <ℤ w → Stands (map (λ t. v ∷ t) ts) t → Stands (map (λ t. w ∷ t) us) u → IsBefore t u
outer_before v w ts us t u lt s r =
    let first : Image (λ t. v ∷ t) ts t = stands_image _ ts t s in
    let second : Image (λ t. w ∷ t) us u = stands_image _ us u r in
    subst (λ l. IsBefore l u) first.is (subst (λ l. IsBefore (v ∷ first.item) l) second.is (inl lt))

tuples_ascending : (nest : List Bounds) (around symbols : List ℤ) → Ascends IsBefore (tuples_within nest around symbols)
unfolding tuples_within
tuples_ascending [] around symbols = (λ y s. absurd s, tt)
tuples_ascending (b ∷ nest) around symbols =
    ascends_flat_map (λ v w. v <ℤ w) IsBefore (λ v. map (λ t. v ∷ t) (tuples_within nest (around ++ v ∷ []) symbols)) (turns_of b around symbols)
    (turns_ascend _ _)
    (λ v. ascends_map IsBefore IsBefore (λ t. v ∷ t) (tuples_within nest (around ++ v ∷ []) symbols) (tuples_ascending nest (around ++ v ∷ []) symbols) (λ t u h. inr (refl, h)))
    (λ v w t u lt s r. outer_before v w _ _ t u lt s r)

pub tuples_ascend : TuplesAscend
tuples_ascend nest around symbols = pairs_ascend IsBefore _ (tuples_ascending nest around symbols)
