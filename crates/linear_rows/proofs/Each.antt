-- What holds of each element of a list that is put together from others, by recursion on the list.
use Rattle.std.proofs.Common.{◌≡◌, List, [], ◌∷◌, ◌++◌, map, Bool, true, false, cond, refl}
use Rattle.std.specs.List.{filter, flat_map, AllByRecursion}
use Rattle.std.proofs.lemmas.Bool.{false≢true}

pub each_weaker : {X : Type 0} (P Q : X → Type 0) → ((x : X) → P x → Q x) → (xs : List X) → AllByRecursion P xs → AllByRecursion Q xs
each_weaker P Q f [] all = tt
each_weaker P Q f (x ∷ xs) all = (f x all.0, each_weaker P Q f xs all.1)

-- what follows from two facts of each
pub each_both : {X : Type 0} (P Q R : X → Type 0) → ((x : X) → P x → Q x → R x) → (xs : List X) → AllByRecursion P xs → AllByRecursion Q xs → AllByRecursion R xs
each_both P Q R f [] all more = tt
each_both P Q R f (x ∷ xs) all more = (f x all.0 more.0, each_both P Q R f xs all.1 more.1)

pub each_first : {X : Type 0} (P : X → Type 0) (xs ys : List X) → AllByRecursion P (xs ++ ys) → AllByRecursion P xs
each_first P [] ys all = tt
each_first P (x ∷ xs) ys all = (all.0, each_first P xs ys all.1)

pub each_second : {X : Type 0} (P : X → Type 0) (xs ys : List X) → AllByRecursion P (xs ++ ys) → AllByRecursion P ys
each_second P [] ys all = all
each_second P (x ∷ xs) ys all = each_second P xs ys all.1

pub each_append : {X : Type 0} (P : X → Type 0) (xs ys : List X) → AllByRecursion P xs → AllByRecursion P ys → AllByRecursion P (xs ++ ys)
each_append P [] ys all more = more
each_append P (x ∷ xs) ys all more = (all.0, each_append P xs ys all.1 more)

pub each_from_map : {X Y : Type 0} (P : Y → Type 0) (f : X → Y) (xs : List X) → AllByRecursion P (map f xs) → AllByRecursion (λ x. P (f x)) xs
each_from_map P f [] all = tt
each_from_map P f (x ∷ xs) all = (all.0, each_from_map P f xs all.1)

pub each_map : {X Y : Type 0} (P : Y → Type 0) (f : X → Y) (xs : List X) → AllByRecursion (λ x. P (f x)) xs → AllByRecursion P (map f xs)
each_map P f [] all = tt
each_map P f (x ∷ xs) all = (all.0, each_map P f xs all.1)

-- the elements that pass a test
kept_by : {X : Type 0} (P : X → Type 0) (x : X) (xs : List X) (b : Bool) → (b ≡ true → P x) → AllByRecursion P xs → AllByRecursion P (cond b (x ∷ xs) xs)
kept_by P x xs true here rest = (here refl, rest)
kept_by P x xs false here rest = rest

pub each_filter : {X : Type 0} (P : X → Type 0) (test : X → Bool) (xs : List X) → AllByRecursion (λ x. test x ≡ true → P x) xs → AllByRecursion P (filter test xs)
each_filter P test [] all = tt
each_filter P test (x ∷ xs) all = kept_by P x (filter test xs) (test x) all.0 (each_filter P test xs all.1)

kept_head : {X : Type 0} (P : X → Type 0) (x : X) (xs : List X) (b : Bool) → AllByRecursion P (cond b (x ∷ xs) xs) → b ≡ true → P x
kept_head P x xs true all passes = all.0
kept_head P x xs false all passes = absurd (false≢true passes)

kept_tail : {X : Type 0} (P : X → Type 0) (x : X) (xs : List X) (b : Bool) → AllByRecursion P (cond b (x ∷ xs) xs) → AllByRecursion P xs
kept_tail P x xs true all = all.1
kept_tail P x xs false all = all

pub each_from_filter : {X : Type 0} (P : X → Type 0) (test : X → Bool) (xs : List X) → AllByRecursion P (filter test xs) → AllByRecursion (λ x. test x ≡ true → P x) xs
each_from_filter P test [] all = tt
each_from_filter P test (x ∷ xs) all = (kept_head P x (filter test xs) (test x) all, each_from_filter P test xs (kept_tail P x (filter test xs) (test x) all))

pub each_from_flat_map : {X Y : Type 0} (P : Y → Type 0) (f : X → List Y) (xs : List X) → AllByRecursion P (flat_map f xs) → AllByRecursion (λ x. AllByRecursion P (f x)) xs
each_from_flat_map P f [] all = tt
each_from_flat_map P f (x ∷ xs) all = (each_first P (f x) (flat_map f xs) all, each_from_flat_map P f xs (each_second P (f x) (flat_map f xs) all))

pub each_flat_map : {X Y : Type 0} (P : Y → Type 0) (f : X → List Y) (xs : List X) → AllByRecursion (λ x. AllByRecursion P (f x)) xs → AllByRecursion P (flat_map f xs)
each_flat_map P f [] all = tt
each_flat_map P f (x ∷ xs) all = each_append P (f x) (flat_map f xs) all.0 (each_flat_map P f xs all.1)
