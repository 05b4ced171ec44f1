-- From the statement that stands next: it is walked over as all is, and walks go as far and are as many.
use Rattle.std.specs.Prelude.{◌≡◌, ℕ, suc, ◌+◌, ◌*◌, ◌-◌, ◌^◌, ◌<◌, min, max, Bool, true, false, ◌&&◌, List, [], ◌∷◌, length, Option, Some, refl}
use Rattle.std.proofs.Common.{sym, ◌∙◌, ap, subst, get_or, take, drop, arith}
use Rattle.std.proofs.lemmas.Bool.{and_parts}
use Rattle.std.proofs.lemmas.List.{drop_more}
use Rattle.toy_imp.specs.BlockView.{block_of}
use Rattle.toy_imp.specs.Faults.{stmt_has_scope, has_scope}
use Rattle.path_pairs.specs.Open.{stmt_is_open, block_is_open}
use Rattle.path_pairs.specs.declared.stretch.Stretch as code
use Rattle.toy_imp.specs.Block.{Stmt, skip, put, assert_that, if_then, while_do, for_to, let_in, par_stmt, Block, empty, stmt}
use Rattle.toy_imp.specs.Points.{stmt_count, point_count}
use Rattle.rule_terms.specs.Counts.{saturated}
use Rattle.path_pairs.specs.Along.{most_steps, stmt_steps, rest_steps, walk_count, stmt_walks, rest_walks, stmt_onward, rest_onward, stmt_branches, rest_branches}
use Rattle.path_pairs.specs.OutcomeCounts.{outcome_count}
use Rattle.path_pairs.specs.Rests.{Rest, stretch}
use Rattle.path_pairs.specs.Stretches.{rest_of, from_next}
use Rattle.path_pairs.specs.Walkable.{IsWalkable, AreWalkable, IsStanding}
use Rattle.rule_terms.specs.Term.{StoreTerm}
use Rattle.rule_terms.specs.declared.obligation.Literal.{Literal}
use Rattle.rule_terms.specs.declared.path.Stop.{Stop}
use Rattle.rule_terms.specs.declared.path.Stop.TheVariants.{At}
use Rattle.path_pairs.specs.Walks.{stmt_stop, rest_stop, stmt_step, rest_step}
use Rattle.path_pairs.proofs.WalkSteps.{or_false}
use Rattle.path_pairs.proofs.RestsAt.{whole_rest}
use Rattle.path_pairs.proofs.Stopping.{or_neither}
use Rattle.path_pairs.proofs.Capped.{capped, capped_stmt, saturated_block, saturated_stmt, saturated_each, saturated_first}

pub walkable_next : (rest : Rest) → AreWalkable rest → AreWalkable (from_next rest)
walkable_next [] h = h
walkable_next (stretch n empty ∷ rest) h = walkable_next rest h.1
walkable_next (stretch n (stmt a b) ∷ rest) h = h

pub others_walkable : (n m : ℕ) (a : Stmt) (b : Block) → m ≡ n + stmt_count a → IsWalkable n (stmt a b) → IsWalkable m b
others_walkable n m a b e h =
    let small : n + (stmt_count a + point_count b) < 2 ^ 32 = h.numbered in
    record {
      numbered = omega (arith, e, small);
      opened = (and_parts (stmt_is_open a) (block_is_open b) h.opened).1;
      unscoped = (or_neither (stmt_has_scope a) (has_scope b) h.unscoped).1;
    }

standing_by : (rest here behind : Rest) (n m : ℕ) (a : Stmt) (b : Block) → AreWalkable rest → from_next rest ≡ stretch n (stmt a b) ∷ behind → from_next rest ≡ here → m ≡ n + stmt_count a
    → IsStanding rest n a m b here behind
standing_by rest here behind n m a b h e d k =
    let parts : IsWalkable n (stmt a b) × AreWalkable behind = subst AreWalkable e (walkable_next rest h) in
    record {
      stands = e;
      from_here = d;
      next = k;
      walkable = parts.0;
      others_walkable = others_walkable n m a b k parts.0;
      behind_walkable = parts.1;
    }

-- the stretch at a place, where all in front of it is empty
pub standing_at : (rest : List code.Stretch) (i points : ℕ) (x : code.Stretch) (s : Stmt) (others : List Stmt) → i < length rest → x ≡ get_or rest i x → AreWalkable (rest_of rest)
    → from_next (rest_of (drop i rest)) ≡ from_next (rest_of rest) → x.stmts.now ≡ s ∷ others → points ≡ saturated (stmt_count s)
    → IsStanding (rest_of rest) x.first s (x.first + points) (block_of others) (rest_of (take (length rest - i) (drop i rest))) (rest_of (take (length rest - (i + 1)) (drop (i + 1) rest)))
standing_at rest i points x s others h d walkable left e c =
    let here : rest_of (drop i rest) ≡ stretch x.first (stmt s (block_of others)) ∷ rest_of (drop (i + 1) rest) =
    ap rest_of (drop_more rest i x h ∙ ap (λ y. y ∷ drop (i + 1) rest) (sym d)) ∙ ap (λ ss. stretch x.first (block_of ss) ∷ rest_of (drop (i + 1) rest)) e in
    let stands : from_next (rest_of rest) ≡ stretch x.first (stmt s (block_of others)) ∷ rest_of (drop (i + 1) rest) = sym left ∙ ap from_next here in
    let parts : IsWalkable x.first (stmt s (block_of others)) × AreWalkable (rest_of (drop (i + 1) rest)) = subst AreWalkable stands (walkable_next (rest_of rest) walkable) in
    let small : x.first + (stmt_count s + point_count (block_of others)) < 2 ^ 32 = parts.0.numbered in
    standing_by (rest_of rest) (rest_of (take (length rest - i) (drop i rest))) (rest_of (take (length rest - (i + 1)) (drop (i + 1) rest))) x.first (x.first + points) s (block_of others) walkable
    (stands ∙ ap (λ xs. stretch x.first (stmt s (block_of others)) ∷ rest_of xs) (sym (whole_rest (i + 1) rest)))
    (stands ∙ sym here ∙ ap rest_of (sym (whole_rest i rest)))
    (omega (arith, c, small))

pub next_fits : (rest : List code.Stretch) (i points : ℕ) (x : code.Stretch) (s : Stmt) (others : List Stmt) → i < length rest → x ≡ get_or rest i x → AreWalkable (rest_of rest)
    → from_next (rest_of (drop i rest)) ≡ from_next (rest_of rest) → x.stmts.now ≡ s ∷ others → points ≡ saturated (stmt_count s)
    → x.first + points < 2 ^ 64
next_fits rest i points x s others h d walkable left e c =
    let at : IsStanding (rest_of rest) x.first s (x.first + points) (block_of others) (rest_of (take (length rest - i) (drop i rest)))
    (rest_of (take (length rest - (i + 1)) (drop (i + 1) rest))) = standing_at rest i points x s others h d walkable left e c in
    omega (arith, at.others_walkable.numbered)

pub onward_next : (cuts : List ℕ) (rest : Rest) → rest_onward cuts rest ≡ rest_onward cuts (from_next rest)
onward_next cuts [] = refl
onward_next cuts (stretch n empty ∷ rest) = onward_next cuts rest
onward_next cuts (stretch n (stmt a b) ∷ rest) = refl

pub branches_next : (cuts : List ℕ) (rest : Rest) → rest_branches cuts rest ≡ rest_branches cuts (from_next rest)
branches_next cuts [] = refl
branches_next cuts (stretch n empty ∷ rest) = branches_next cuts rest
branches_next cuts (stretch n (stmt a b) ∷ rest) = refl

-- what is counted up to a bound behind the statement
capped_same : (cuts : List ℕ) (n : ℕ) (b : Block) (x y : ℕ) → min 65 x ≡ min 65 y → min 65 (most_steps cuts n b x) ≡ min 65 (most_steps cuts n b y)
capped_same cuts n b x y e = sym (capped cuts n b x) ∙ ap (λ m. min 65 (most_steps cuts n b m)) e ∙ capped cuts n b y

capped_both : (x y x' y' : ℕ) → min 65 x ≡ min 65 x' → min 65 y ≡ min 65 y' → min 65 (max x y) ≡ min 65 (max x' y')
capped_both x y x' y' e d = omega (arith, e, d)

capped_twice : (m : ℕ) → min 65 (min 65 m) ≡ min 65 m
capped_twice m = omega arith

pub capped_onward : (cuts : List ℕ) (n : ℕ) (a : Stmt) (m : ℕ)
    → min 65 (stmt_onward cuts n a (min 65 (stmt_steps cuts n a (min 65 m))) (min 65 m)) ≡ min 65 (stmt_onward cuts n a (stmt_steps cuts n a m) m)
capped_onward cuts n skip m = capped_twice m
capped_onward cuts n (put x is e) m = capped_twice m
capped_onward cuts n (assert_that t) m = capped_twice m
capped_onward cuts n (if_then t b c) m = capped_both _ _ _ _ (capped cuts n b m) (capped cuts (n + point_count b) c m)
capped_onward cuts n (while_do t b) m =
    capped_both _ _ _ _
    (capped cuts (suc n) b (stmt_steps cuts n (while_do t b) (min 65 m))
    ∙ capped_same cuts (suc n) b (stmt_steps cuts n (while_do t b) (min 65 m)) (stmt_steps cuts n (while_do t b) m) (capped_stmt cuts n (while_do t b) m)) (capped_twice m)
capped_onward cuts n (for_to x lo hi b) m = refl
capped_onward cuts n (let_in x e b) m = refl
capped_onward cuts n (par_stmt k) m = capped_twice m

saturated_same : (cuts : List ℕ) (n : ℕ) (b : Block) (x y : ℕ) → saturated x ≡ saturated y → saturated (walk_count cuts n b x) ≡ saturated (walk_count cuts n b y)
saturated_same cuts n b x y e = sym (saturated_block cuts n b x) ∙ ap (λ m. saturated (walk_count cuts n b m)) e ∙ saturated_block cuts n b y

saturated_both : (j k x y x' y' : ℕ) → saturated x ≡ saturated x' → saturated y ≡ saturated y' → saturated (j * x + k * y) ≡ saturated (j * x' + k * y')
saturated_both j k x y x' y' e d = sym (saturated_each j k x y) ∙ (λ i. saturated (j * e i + k * d i)) ∙ saturated_each j k x' y'

saturated_twice : (m : ℕ) → saturated (saturated m) ≡ saturated m
saturated_twice m = omega arith

pub saturated_branches : (cuts : List ℕ) (n : ℕ) (a : Stmt) (m : ℕ)
    → saturated (stmt_branches cuts n a (saturated (stmt_walks cuts n a (saturated m))) (saturated m)) ≡ saturated (stmt_branches cuts n a (stmt_walks cuts n a m) m)
saturated_branches cuts n skip m = saturated_twice m
saturated_branches cuts n (put x is e) m = saturated_twice m
saturated_branches cuts n (assert_that t) m = saturated_first (outcome_count t true) (outcome_count t false) m 1
saturated_branches cuts n (if_then t b c) m =
    saturated_both (outcome_count t true) (outcome_count t false) _ _ _ _ (saturated_block cuts n b m) (saturated_block cuts (n + point_count b) c m)
saturated_branches cuts n (while_do t b) m =
    saturated_both (outcome_count t true) (outcome_count t false) _ _ _ _
    (saturated_block cuts (suc n) b (stmt_walks cuts n (while_do t b) (saturated m))
    ∙ saturated_same cuts (suc n) b (stmt_walks cuts n (while_do t b) (saturated m)) (stmt_walks cuts n (while_do t b) m) (saturated_stmt cuts n (while_do t b) m)) (saturated_twice m)
saturated_branches cuts n (for_to x lo hi b) m = refl
saturated_branches cuts n (let_in x e b) m = refl
saturated_branches cuts n (par_stmt k) m = omega arith

-- one stretch after another, as the code counts them
pub steps_next : (cuts : List ℕ) (rest : List code.Stretch) (x : code.Stretch) (behind : List code.Stretch) (after found : ℕ) → rest ≡ x ∷ behind
    → after ≡ min 65 (rest_steps cuts (rest_of behind)) → found ≡ min 65 (most_steps cuts x.first (block_of x.stmts.now) after) → found ≡ min 65 (rest_steps cuts (rest_of rest))
steps_next cuts rest x behind after found e d c =
    c ∙ ap (λ m. min 65 (most_steps cuts x.first (block_of x.stmts.now) m)) d
    ∙ capped cuts x.first (block_of x.stmts.now) (rest_steps cuts (rest_of behind))
    ∙ ap (λ xs. min 65 (rest_steps cuts (rest_of xs))) (sym e)

pub walks_next : (cuts : List ℕ) (rest : List code.Stretch) (x : code.Stretch) (behind : List code.Stretch) (after found : ℕ) → rest ≡ x ∷ behind
    → after ≡ saturated (rest_walks cuts (rest_of behind)) → found ≡ saturated (walk_count cuts x.first (block_of x.stmts.now) after) → found ≡ saturated (rest_walks cuts (rest_of rest))
walks_next cuts rest x behind after found e d c =
    c ∙ ap (λ m. saturated (walk_count cuts x.first (block_of x.stmts.now) m)) d
    ∙ saturated_block cuts x.first (block_of x.stmts.now) (rest_walks cuts (rest_of behind))
    ∙ ap (λ xs. saturated (rest_walks cuts (rest_of xs))) (sym e)

-- after a first step, as the code counts it
pub onward_none : (cuts : List ℕ) (rest : Rest) → from_next rest ≡ [] → 0 ≡ min 65 (rest_onward cuts rest)
onward_none cuts rest e = sym (ap (min 65) (onward_next cuts rest ∙ ap (rest_onward cuts) e))

pub branches_none : (cuts : List ℕ) (rest : Rest) → from_next rest ≡ [] → 0 ≡ saturated (rest_branches cuts rest)
branches_none cuts rest e = sym (ap saturated (branches_next cuts rest ∙ ap (rest_branches cuts) e))

pub onward_is : (cuts : List ℕ) (rest here behind : Rest) (n m : ℕ) (a : Stmt) (b : Block) (after from_behind from_here found : ℕ) → IsStanding rest n a m b here behind
    → after ≡ min 65 (rest_steps cuts behind) → from_behind ≡ min 65 (most_steps cuts m b after) → from_here ≡ min 65 (stmt_steps cuts n a from_behind)
    → found ≡ min 65 (stmt_onward cuts n a from_here from_behind) → found ≡ min 65 (rest_onward cuts rest)
onward_is cuts rest here behind n m a b after from_behind from_here found at c d e f =
    let last : ℕ = most_steps cuts (n + stmt_count a) b (rest_steps cuts behind) in
    let second : from_behind ≡ min 65 last =
    d ∙ ap (λ k. min 65 (most_steps cuts m b k)) c ∙ capped cuts m b (rest_steps cuts behind) ∙ ap (λ k. min 65 (most_steps cuts k b (rest_steps cuts behind))) at.next in
    let first : from_here ≡ min 65 (stmt_steps cuts n a (min 65 last)) = e ∙ ap (λ k. min 65 (stmt_steps cuts n a k)) second in
    f ∙ (λ i. min 65 (stmt_onward cuts n a (first i) (second i)))
    ∙ capped_onward cuts n a last
    ∙ ap (λ r. min 65 (rest_onward cuts r)) (sym at.stands)
    ∙ ap (min 65) (sym (onward_next cuts rest))

pub branches_are : (cuts : List ℕ) (rest here behind : Rest) (n m : ℕ) (a : Stmt) (b : Block) (after from_behind from_here found : ℕ) → IsStanding rest n a m b here behind
    → after ≡ saturated (rest_walks cuts behind) → from_behind ≡ saturated (walk_count cuts m b after) → from_here ≡ saturated (stmt_walks cuts n a from_behind)
    → found ≡ saturated (stmt_branches cuts n a from_here from_behind) → found ≡ saturated (rest_branches cuts rest)
branches_are cuts rest here behind n m a b after from_behind from_here found at c d e f =
    let last : ℕ = walk_count cuts (n + stmt_count a) b (rest_walks cuts behind) in
    let second : from_behind ≡ saturated last =
    d ∙ ap (λ k. saturated (walk_count cuts m b k)) c ∙ saturated_block cuts m b (rest_walks cuts behind) ∙ ap (λ k. saturated (walk_count cuts k b (rest_walks cuts behind))) at.next in
    let first : from_here ≡ saturated (stmt_walks cuts n a (saturated last)) = e ∙ ap (λ k. saturated (stmt_walks cuts n a k)) second in
    f ∙ (λ i. saturated (stmt_branches cuts n a (first i) (second i)))
    ∙ saturated_branches cuts n a last
    ∙ ap (λ r. saturated (rest_branches cuts r)) (sym at.stands)
    ∙ ap saturated (sym (branches_next cuts rest))

-- where a walk stops, and its next step
stop_next : (cuts : List ℕ) (exit : ℕ) (rest : Rest) → rest_stop cuts exit rest ≡ rest_stop cuts exit (from_next rest)
stop_next cuts exit [] = refl
stop_next cuts exit (stretch n empty ∷ rest) = stop_next cuts exit rest
stop_next cuts exit (stretch n (stmt a b) ∷ rest) = refl

pub stop_none : (cuts : List ℕ) (exit : ℕ) (rest : Rest) → from_next rest ≡ [] → Some (At exit) ≡ rest_stop cuts exit rest
stop_none cuts exit rest e = sym (stop_next cuts exit rest ∙ ap (rest_stop cuts exit) e)

pub stop_some : (cuts : List ℕ) (exit : ℕ) (rest here behind : Rest) (n m : ℕ) (a : Stmt) (b : Block) (o : Option Stop) → IsStanding rest n a m b here behind → o ≡ stmt_stop cuts n a → o ≡ rest_stop cuts exit rest
stop_some cuts exit rest here behind n m a b o at e = e ∙ sym (stop_next cuts exit rest ∙ ap (rest_stop cuts exit) at.stands)

step_next : (rest : Rest) (ls : List Literal) (s : StoreTerm) → rest_step rest ls s ≡ rest_step (from_next rest) ls s
step_next [] ls s = refl
step_next (stretch n empty ∷ rest) ls s = step_next rest ls s
step_next (stretch n (stmt a b) ∷ rest) ls s = refl

pub step_none : (rest : Rest) (ls : List Literal) (s : StoreTerm) → from_next rest ≡ [] → rest_step rest ls s ≡ []
step_none rest ls s e = step_next rest ls s ∙ ap (λ r. rest_step r ls s) e

pub step_some : (rest here behind : Rest) (n m : ℕ) (a : Stmt) (b : Block) (ls : List Literal) (s : StoreTerm) → IsStanding rest n a m b here behind
    → rest_step rest ls s ≡ stmt_step n a here (stretch m b ∷ behind) ls s
step_some rest here behind n m a b ls s at =
    let at_here : stretch n (stmt a b) ∷ behind ≡ here = sym at.stands ∙ at.from_here in
    let number : n + stmt_count a ≡ m = sym at.next in
    step_next rest ls s ∙ ap (λ r. rest_step r ls s) at.stands ∙ (λ i. stmt_step n a (at_here i) (stretch (number i) b ∷ behind) ls s)

and_true : (x : Bool) → (x && true) ≡ x
and_true true = refl
and_true false = refl

-- of a statement alone
pub alone_walkable : (n : ℕ) (a : Stmt) (b : Block) → IsWalkable n (stmt a b) → IsWalkable n (stmt a empty)
alone_walkable n a b h =
    let small : n + (stmt_count a + point_count b) < 2 ^ 32 = h.numbered in
    record {
      numbered = omega (arith, small);
      opened = and_true _ ∙ (and_parts (stmt_is_open a) (block_is_open b) h.opened).0;
      unscoped = or_false _ ∙ (or_neither (stmt_has_scope a) (has_scope b) h.unscoped).0;
    }

pub here_walkable : (rest here behind : Rest) (n m : ℕ) (a : Stmt) (b : Block) → IsStanding rest n a m b here behind → AreWalkable rest → AreWalkable here
here_walkable rest here behind n m a b at h = subst AreWalkable at.from_here (walkable_next rest h)
