-- Bytes that come or go piece by piece: two pieces one after the other are one piece.
use Rattle.std.proofs.Common.{◌≡◌, ◌+◌, ◌-◌, ◌≤◌, ℕ, List, ◌++◌, length, take, drop, Option, Some, None, Ok, sym, ap, subst, ◌∙◌, append_assoc, arith, ◌<◌, min, []}
use Rattle.std.proofs.Math.ListN.{drop_of_length-le}
use Rattle.std.proofs.Math.Seq.{take-add, drop-drop, take-append_seam}
use Rattle.std.proofs.lemmas.List.{take-append-drop, take_rest}
use Rattle.std.specs.Io.KnownBytes.{Consumes, Appends}
use Rattle.pec_io.specs.Reading.{TakesFront}
use Rattle.pec_io.specs.Writing.{TakesWhole, HasRoom}

pub takes_two : (a b c : Option (List ℕ)) (xs ys : List ℕ) → Consumes a b xs → Consumes b c ys → TakesFront a c
takes_two None b c xs ys p q = record { taken = xs ++ ys; consumed = tt }
takes_two (Some s) None c xs ys p q = absurd p
takes_two (Some s) (Some t) None xs ys p q = absurd q
takes_two (Some s) (Some t) (Some u) xs ys p q =
    record { taken = xs ++ ys; consumed = p ∙ ap (λ z. xs ++ z) q ∙ sym (append_assoc xs ys u) }

appends_two : (a b c : Option (List ℕ)) (xs ys : List ℕ) → Appends a b xs → Appends b c ys → Appends a c (xs ++ ys)
appends_two None b c xs ys p q = tt
appends_two (Some s) None c xs ys p q = absurd p
appends_two (Some s) (Some t) None xs ys p q = absurd q
appends_two (Some s) (Some t) (Some u) xs ys p q = q ∙ ap (λ z. z ++ ys) p ∙ append_assoc s xs ys

-- a front part of i bytes and then n of those after it are a front part of i + n
pub appends_more : (a b c : Option (List ℕ)) (bytes : List ℕ) (i n : ℕ) → Appends a b (take i bytes)
    → Appends b c (take n (take (length bytes - i) (drop i bytes))) → Appends a c (take (i + n) bytes)
appends_more a b c bytes i n p q =
    let more : Appends b c (take n (drop i bytes)) = subst (λ z. Appends b c (take n z)) (take_rest bytes i) q in
    subst (λ z. Appends a c z) (sym (take-add i n bytes)) (appends_two a b c _ _ p more)

-- a room that holds k bytes holds the m that are left of them after a write of n
pub room_more : (E : Type 0) (old new : Option ℕ) (k n m r : ℕ) → HasRoom old k → TakesWhole {E = E} old new r (Ok n) → r ≡ k → m ≡ k - n
    → HasRoom new m
room_more E None new k n m r h whole e d = absurd h
room_more E (Some room) new k n m r h whole e d =
    let fits : r ≤ room = omega (arith, h, e) in
    let same = (whole fits).0 in
    let all : n ≡ r = cc in
    let left : m ≤ room - r = omega (arith, all, e, d, fits) in
    subst (λ z. HasRoom z m) (sym (whole fits).1) left

-- a piece that is copied to the front of a buffer is what the buffer begins with
pub piece_given : (bytes into piece : List ℕ) (at n : ℕ) → piece ≡ take n (drop at bytes) → n ≡ length piece
    → drop at bytes ≡ take n (piece ++ into) ++ drop (at + n) bytes
piece_given bytes into piece at n p fits =
    sym (take-append-drop n (drop at bytes))
    ∙ ap (λ z. z ++ drop n (drop at bytes)) (sym p ∙ sym (ap (λ k. take k (piece ++ into)) fits ∙ take-append_seam piece into))
    ∙ ap (λ z. take n (piece ++ into) ++ z) (drop-drop n at bytes)

-- where a read with room for bytes gives none, none is left
pub none_left : (bytes : List ℕ) (at n room most : ℕ) → n ≡ min (min room most) (length bytes - at) → n ≡ 0 → 0 < room → 1 ≤ most
    → drop (at + n) bytes ≡ []
none_left bytes at n room most is zero some more = drop_of_length-le bytes (omega (arith, is, zero, some, more))
