-- What is assumed on the way to a part: at the split whose branch begins there, and on the way to that split.
use Rattle.std.specs.Prelude.{◌≡◌, ◌≤◌, ◌<◌, ℕ, zero, suc, ◌+◌, ◌-◌, Bool, false, cond, ◌==◌, ◌||◌, List, [], ◌∷◌, ◌++◌, length, get_or, refl}
use Rattle.std.specs.List.{list_any}
use Rattle.std.proofs.Common.{sym, ◌∙◌, ap, subst, inl, inr, arith, length-append}
use Rattle.std.proofs.lemmas.List.{get_or_append_left, get_or-append-add, get_or_past}
use Rattle.std.proofs.lemmas.Bool.{cases_lt}
use Rattle.rule_terms.specs.declared.obligation.Literal.{Literal}
use Rattle.law_clauses.specs.Signed.{Signed, signed_of, negated, signed_same}
use Rattle.refutations.specs.declared.refutation.Part.{Part}
use Rattle.refutations.specs.declared.refutation.Part.TheVariants.{Split}
use Rattle.refutations.specs.Refutation.{Refutation, split, leaf, parts, distances}
use Rattle.proof_steps.specs.Ways.{ways, is_turned}
use Rattle.proof_steps.proofs.Refuting.{as_many_distances, as_many_ways}

abbrev pub among : Signed → List Signed → Bool
among x xs = list_any (signed_same x) xs

pub record Turned (ps : List Part) (back : List ℕ) (ws : List (List Signed)) (n : ℕ) : Type 0 where
  pub by : ℕ
  pub there : get_or back n 0 ≡ by
  pub some : 1 ≤ by
  pub within : by ≤ n
  pub assumes : (x : Signed) (d : Part) → among x (get_or ws n []) ≡ (is_turned (get_or ps (n - by) d) by x || among x (get_or ws (n - by) []))

-- one more in front
behind_one : (p : Part) (k : ℕ) (w : List Signed) (ps : List Part) (back : List ℕ) (ws : List (List Signed)) (n : ℕ) → Turned ps back ws n → Turned (p ∷ ps) (k ∷ back) (w ∷ ws) (suc n)
behind_one p k w ps back ws n t =
    let h : t.by ≤ n = t.within in
    let e : suc n - t.by ≡ suc (n - t.by) = omega arith in
    record {
      by = t.by;
      there = t.there;
      some = t.some;
      within = omega arith;
      assumes = λ x d. t.assumes x d ∙ sym (λ j. is_turned (get_or (p ∷ ps) (e j) d) t.by x || among x (get_or (w ∷ ws) (e j) []));
    }

-- .. and more of them
behind : (qs : List Part) (bs : List ℕ) (cs : List (List Signed)) → length bs ≡ length qs → length cs ≡ length qs → (ps : List Part) (back : List ℕ) (ws : List (List Signed)) (n : ℕ) → Turned ps back ws n →
    Turned (qs ++ ps) (bs ++ back) (cs ++ ws) (length qs + n)
behind [] [] [] e f ps back ws n t = let same : n ≡ 0 + n = omega arith in subst (Turned ps back ws) same t
behind [] (b ∷ bs) cs e f ps back ws n t = absurd (omega arith)
behind [] [] (c ∷ cs) e f ps back ws n t = absurd (omega arith)
behind (a ∷ qs) [] cs e f ps back ws n t = absurd (omega arith)
behind (a ∷ qs) (b ∷ bs) [] e f ps back ws n t = absurd (omega arith)
behind (a ∷ qs) (b ∷ bs) (c ∷ cs) e f ps back ws n t =
    let g : length bs ≡ length qs = omega arith in
    let h : length cs ≡ length qs = omega arith in
    let same : suc (length qs + n) ≡ suc (length qs) + n = omega arith in
    subst (Turned (a ∷ (qs ++ ps)) (b ∷ (bs ++ back)) (c ∷ (cs ++ ws))) same (behind_one a b c (qs ++ ps) (bs ++ back) (cs ++ ws) (length qs + n) (behind qs bs cs g h ps back ws n t))

in_front : (ps more : List Part) (back far : List ℕ) (ws others : List (List Signed)) (n : ℕ) → length back ≡ length ps → length ws ≡ length ps → n < length ps → Turned ps back ws n →
    Turned (ps ++ more) (back ++ far) (ws ++ others) n
in_front ps more back far ws others n e f h t =
    let w : t.by ≤ n = t.within in
    let m : ℕ = n - t.by in
    let h1 : n < length back = omega arith in
    let h2 : n < length ws = omega arith in
    let h3 : n - t.by < length ps = omega arith in
    let h4 : n - t.by < length ws = omega arith in
    record {
      by = t.by;
      there = get_or_append_left back far 0 n h1 ∙ t.there;
      some = t.some;
      within = t.within;
      assumes = λ x d.
          ap (among x) (get_or_append_left ws others [] n h2)
          ∙ t.assumes x d
          ∙ sym (λ j. is_turned (get_or_append_left ps more d (n - t.by) h3 j) t.by x || among x (get_or_append_left ws others [] (n - t.by) h4 j));
    }

distance_first : (n : ℕ) (r : Refutation) → get_or (distances n r) 0 0 ≡ n
distance_first n (leaf steps) = refl
distance_first n (split x a b) = refl

way_first : (before : List Signed) (r : Refutation) → get_or (ways before r) 0 [] ≡ before
way_first before (leaf steps) = refl
way_first before (split x a b) = refl

some_part : (r : Refutation) → 1 ≤ length (parts r)
some_part (leaf steps) = omega arith
some_part (split x a b) = omega arith

-- the beginning of a branch, at its split
begins_first : (before : List Signed) (x : Literal) (a : Refutation) (n : ℕ) (ps : List Part) (far : List ℕ) (ws : List (List Signed)) →
    Turned (Split x ∷ (parts a ++ ps)) (n ∷ (distances 1 a ++ far)) (before ∷ (ways (signed_of x ∷ before) a ++ ws)) 1
begins_first before x a n ps far ws =
    let h = some_part a in
    let many = as_many_distances 1 a in
    let many_ways = as_many_ways (signed_of x ∷ before) a in
    let h1 : 0 < length (distances 1 a) = omega arith in
    let h2 : 0 < length (ways (signed_of x ∷ before) a) = omega arith in
    record {
      by = 1;
      there = get_or_append_left (distances 1 a) far 0 0 h1 ∙ distance_first 1 a;
      some = omega arith;
      within = omega arith;
      assumes = λ y d. ap (among y) (get_or_append_left (ways (signed_of x ∷ before) a) ws [] 0 h2 ∙ way_first (signed_of x ∷ before) a);
    }

place_behind : {X : Type 0} (xs ys : List X) (k : ℕ) (d : X) → length xs ≡ k → get_or (xs ++ ys) k d ≡ get_or ys 0 d
place_behind xs ys k d e = let f : k ≡ length xs + 0 = omega arith in ap (λ m. get_or (xs ++ ys) m d) f ∙ get_or-append-add xs ys 0 d

further : (k : ℕ) → 1 ≤ k → (suc k == 1) ≡ false
further zero h = absurd (omega arith)
further (suc k) h = grind arith

begins_second : (before : List Signed) (x : Literal) (a b : Refutation) (n : ℕ) →
    Turned (parts (split x a b)) (distances n (split x a b)) (ways before (split x a b)) (suc (length (parts a)))
begins_second before x a b n =
    let k : ℕ = length (parts a) in
    let h = some_part a in
    let nothing : suc k - suc k ≡ 0 = omega arith in
    record {
      by = suc k;
      there = place_behind (distances 1 a) (distances (suc k) b) k 0 (as_many_distances 1 a) ∙ distance_first (suc k) b;
      some = omega arith;
      within = omega arith;
      assumes = λ y d.
          ap (among y) (place_behind (ways (signed_of x ∷ before) a) (ways (negated (signed_of x) ∷ before) b) k [] (as_many_ways (signed_of x ∷ before) a) ∙ way_first (negated (signed_of x) ∷ before) b)
          ∙ sym (λ j. signed_same y (cond (further k h j) (signed_of x) (negated (signed_of x))) || among y before)
          ∙ sym (λ j. is_turned (get_or (parts (split x a b)) (nothing j) d) (suc k) y || among y (get_or (ways before (split x a b)) (nothing j) []));
    }

in_first : (before : List Signed) (x : Literal) (a b : Refutation) (k m : ℕ) → m < length (parts a) → ((n : ℕ) → n < length (parts a) → 0 < n → Turned (parts a) (distances 1 a) (ways (signed_of x ∷ before) a) n) →
    Turned (parts (split x a b)) (distances k (split x a b)) (ways before (split x a b)) (suc m)
in_first before x a b k zero h inner = begins_first before x a k (parts b) (distances (suc (length (parts a))) b) (ways (negated (signed_of x) ∷ before) b)
in_first before x a b k (suc m) h inner =
    let some : 0 < suc m = omega arith in
    behind_one (Split x) k before (parts a ++ parts b) (distances 1 a ++ distances (suc (length (parts a))) b) (ways (signed_of x ∷ before) a ++ ways (negated (signed_of x) ∷ before) b) (suc m)
    (in_front (parts a) (parts b) (distances 1 a) (distances (suc (length (parts a))) b) (ways (signed_of x ∷ before) a) (ways (negated (signed_of x) ∷ before) b) (suc m)
    (as_many_distances 1 a) (as_many_ways (signed_of x ∷ before) a) h (inner (suc m) h some))

in_second : (before : List Signed) (x : Literal) (a b : Refutation) (k m : ℕ) → m < length (parts b) → ((n : ℕ) → n < length (parts b) → 0 < n → Turned (parts b) (distances (suc (length (parts a))) b) (ways (negated (signed_of x) ∷ before) b) n) →
    Turned (parts (split x a b)) (distances k (split x a b)) (ways before (split x a b)) (suc (length (parts a) + m))
in_second before x a b k zero h inner =
    let e : length (parts a) + 0 ≡ length (parts a) = omega arith in
    subst (λ n. Turned (parts (split x a b)) (distances k (split x a b)) (ways before (split x a b)) (suc n)) (sym e) (begins_second before x a b k)
in_second before x a b k (suc m) h inner =
    let some : 0 < suc m = omega arith in
    behind_one (Split x) k before (parts a ++ parts b) (distances 1 a ++ distances (suc (length (parts a))) b) (ways (signed_of x ∷ before) a ++ ways (negated (signed_of x) ∷ before) b) (length (parts a) + suc m)
    (behind (parts a) (distances 1 a) (ways (signed_of x ∷ before) a) (as_many_distances 1 a) (as_many_ways (signed_of x ∷ before) a)
    (parts b) (distances (suc (length (parts a))) b) (ways (negated (signed_of x) ∷ before) b) (suc m) (inner (suc m) h some))

pub turned : (before : List Signed) (r : Refutation) (k n : ℕ) → n < length (parts r) → 0 < n → Turned (parts r) (distances k r) (ways before r) n
turned before (leaf steps) k n h some = absurd (omega arith)
turned before (split x a b) k zero h some = absurd (omega arith)
turned before (split x a b) k (suc m) h some =
    elim (cases_lt m (length (parts a))) as (λ _. Turned (parts (split x a b)) (distances k (split x a b)) (ways before (split x a b)) (suc m)) [
      | inl low ↦ in_first before x a b k m low (λ n g f. turned (signed_of x ∷ before) a 1 n g f)
      | inr high ↦
          let all : length (parts a ++ parts b) ≡ length (parts a) + length (parts b) = length-append (parts a) (parts b) in
          let e : length (parts a) + (m - length (parts a)) ≡ m = omega arith in
          let g : m - length (parts a) < length (parts b) = omega arith in
          subst (λ n. Turned (parts (split x a b)) (distances k (split x a b)) (ways before (split x a b)) (suc n)) e
          (in_second before x a b k (m - length (parts a)) g (λ n g f. turned (negated (signed_of x) ∷ before) b (suc (length (parts a))) n g f))
    ]

-- ---- as a loop looks back
pub back_within : (before : List Signed) (r : Refutation) (n : ℕ) → n < length (parts r) → get_or (distances 0 r) n 0 ≤ n
back_within before (leaf steps) zero h = omega arith
back_within before (leaf steps) (suc n) h = absurd (omega arith)
back_within before (split x a b) zero h = omega arith
back_within before (split x a b) (suc n) h =
    let t = turned before (split x a b) 0 (suc n) h (omega arith) in
    let e = t.there in
    let w = t.within in
    omega arith

pub back_assumes : (before : List Signed) (r : Refutation) (n k : ℕ) (x : Signed) (d : Part) → n < length (parts r) → get_or (distances 0 r) n 0 ≡ k → 1 ≤ k →
    among x (get_or (ways before r) n []) ≡ (is_turned (get_or (parts r) (n - k) d) k x || among x (get_or (ways before r) (n - k) []))
back_assumes before (leaf steps) zero k x d h e some = absurd (omega arith)
back_assumes before (leaf steps) (suc n) k x d h e some = absurd (omega arith)
back_assumes before (split y a b) zero k x d h e some = absurd (omega arith)
back_assumes before (split y a b) (suc n) k x d h e some =
    let t = turned before (split y a b) 0 (suc n) h (omega arith) in
    let same : t.by ≡ k = sym t.there ∙ e in
    t.assumes x d ∙ (λ j. is_turned (get_or (parts (split y a b)) (suc n - same j) d) (same j) x || among x (get_or (ways before (split y a b)) (suc n - same j) []))

pub back_none : (before : List Signed) (r : Refutation) (n : ℕ) → n < length (parts r) → get_or (distances 0 r) n 0 ≡ 0 → get_or (ways before r) n [] ≡ before
back_none before (leaf steps) zero h e = refl
back_none before (leaf steps) (suc n) h e = absurd (omega arith)
back_none before (split x a b) zero h e = refl
back_none before (split x a b) (suc n) h e =
    let t = turned before (split x a b) 0 (suc n) h (omega arith) in
    let f = t.there in
    let some = t.some in
    absurd (omega arith)

pub back_step : (before : List Signed) (r : Refutation) (ps : List Part) (back : List ℕ) (n : ℕ) (x : Signed) (p : Part) → ps ≡ parts r → back ≡ distances 0 r → n < length (parts r) → 0 < get_or back n 0 → p ≡ get_or ps (n - get_or back n 0) p →
    among x (get_or (ways before r) n []) ≡ (is_turned p (get_or back n 0) x || among x (get_or (ways before r) (n - get_or back n 0) []))
back_step before r ps back n x p e f h some is =
    let k : ℕ = get_or back n 0 in
    let rest : Bool = among x (get_or (ways before r) (n - k) []) in
    let far : get_or (distances 0 r) n 0 ≡ k = ap (λ ds. get_or ds n 0) (sym f) in
    back_assumes before r n k x p h far some
    ∙ (λ j. is_turned (get_or (sym e j) (n - k) p) k x || rest)
    ∙ (λ j. is_turned (sym is j) k x || rest)

-- beyond the last part
pub none_beyond : (before : List Signed) (r : Refutation) (n : ℕ) → length (parts r) ≤ n → get_or (ways before r) n [] ≡ []
none_beyond before r n h = let many = as_many_ways before r in get_or_past (ways before r) n [] (omega arith)
