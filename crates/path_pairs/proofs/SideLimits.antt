-- The limits of the paths from a point, by how far walks go and how many there are; what stands at a point is walked over.
use Rattle.std.specs.Prelude.{◌≡◌, ℕ, zero, suc, ◌+◌, ◌^◌, ◌≤◌, ◌<◌, min, nat_lt, cond, Bool, true, false, List, [], ◌∷◌, ◌++◌, length, Some, Result, Ok, Err, refl}
use Rattle.std.proofs.Common.{sym, ◌∙◌, ap, get_or, arith}
use Rattle.std.proofs.lemmas.Bool.Decides.{nat_tests}
use Rattle.toy_imp.specs.Block.{Stmt, skip, put, assert_that, if_then, while_do, for_to, let_in, par_stmt, Block, empty, stmt}
use Rattle.toy_imp.specs.Points.{stmt_count, point_count, exit_point}
use Rattle.toy_imp.specs.Faults.{has_scope}
use Rattle.toy_imp.specs.declared.rule.Rule.{Rule}
use Rattle.rule_terms.specs.Term.{StoreTerm}
use Rattle.rule_terms.specs.Counts.{saturated}
use Rattle.rule_terms.specs.declared.obligation.Literal.{Literal}
use Rattle.rule_terms.specs.declared.path.Path.{Path}
use Rattle.rule_terms.specs.declared.limit.LimitKind.TheVariants.{PathSteps, Paths}
use Rattle.path_pairs.specs.declared.cut_points.CutPoints.{CutPoints}
use Rattle.path_pairs.specs.declared.cut_points.Side.{Side}
use Rattle.path_pairs.specs.declared.refusal.PathRefusal.{PathRefusal}
use Rattle.path_pairs.specs.declared.refusal.PathRefusal.TheVariants.{Limit, NoMemory}
use Rattle.path_pairs.specs.Along.{steps_from, number_from}
use Rattle.path_pairs.specs.Open.{block_is_open}
use Rattle.path_pairs.specs.PathAnswers.{PathsAnswer, CountAnswer, Builds}
use Rattle.path_pairs.specs.Paths.{side_of, cuts_of, store_of, is_long, paths, path_limit, side_paths, has_long_walk, walks_from, goes_on_from}
use Rattle.path_pairs.specs.Rests.{Rest, stretch, stmt_rests, block_rests, rests, rest_at}
use Rattle.path_pairs.specs.Walkable.{IsWalkable, AreWalkable}
use Rattle.path_pairs.specs.Walks.{stands}
use Rattle.path_pairs.proofs.FromNext.{alone_walkable, others_walkable}
use Rattle.path_pairs.proofs.FromPoints.{long_exactly, as_many_paths}
use Rattle.path_pairs.proofs.WalkSteps.{reaches, within_reaches, reaches_within}
use Rattle.path_pairs.proofs.WalkedOn.{IfWalkable, if_walkable, WhileWalkable, while_walkable}

-- each of what stands at the points is walked over
AllRests : List Rest → Type 0
AllRests [] = Unit {0}
AllRests (r ∷ rs) = AreWalkable r × AllRests rs

all_append : (xs ys : List Rest) → AllRests xs → AllRests ys → AllRests (xs ++ ys)
unfolding AllRests
all_append [] ys h k = k
all_append (x ∷ xs) ys h k = (h.0, all_append xs ys h.1 k)

at_index : (rs : List Rest) (i : ℕ) → AllRests rs → AreWalkable (get_or rs i [])
unfolding AllRests
at_index [] i h = tt
at_index (r ∷ rs) zero h = h.0
at_index (r ∷ rs) (suc i) h = at_index rs i h.1

mutual
  unfolding AllRests

  stmt_rests_walkable : (n : ℕ) (a : Stmt) (here behind : Rest) → IsWalkable n (stmt a empty) → AreWalkable here → AreWalkable behind → AllRests (stmt_rests n a here behind)
  stmt_rests_walkable n skip here behind h k j = tt
  stmt_rests_walkable n (put x is e) here behind h k j = tt
  stmt_rests_walkable n (assert_that t) here behind h k j = tt
  stmt_rests_walkable n (if_then t b c) here behind h k j =
      let parts : IfWalkable n t b c = if_walkable n (if_then t b c) t b c refl h in
      all_append (block_rests n b behind) (block_rests (n + point_count b) c behind) (block_rests_walkable n b behind parts.first j) (block_rests_walkable (n + point_count b) c behind parts.second j)
  stmt_rests_walkable n (while_do t b) here behind h k j =
      let parts : WhileWalkable n t b = while_walkable n (while_do t b) t b refl h in
      (k, block_rests_walkable (suc n) b here parts.body k)
  stmt_rests_walkable n (for_to x lo hi b) here behind h k j = tt
  stmt_rests_walkable n (let_in x e b) here behind h k j = tt
  stmt_rests_walkable n (par_stmt i) here behind h k j = (k, tt)

  block_rests_walkable : (n : ℕ) (b : Block) (after : Rest) → IsWalkable n b → AreWalkable after → AllRests (block_rests n b after)
  block_rests_walkable n empty after h k = tt
  block_rests_walkable n (stmt a b) after h k =
      let behind : IsWalkable (n + stmt_count a) b = others_walkable n (n + stmt_count a) a b refl h in
      all_append (stmt_rests n a (stretch n (stmt a b) ∷ after) (stretch (n + stmt_count a) b ∷ after)) (block_rests (n + stmt_count a) b after)
      (stmt_rests_walkable n a (stretch n (stmt a b) ∷ after) (stretch (n + stmt_count a) b ∷ after) (alone_walkable n a b h) (h, k) (behind, k))
      (block_rests_walkable (n + stmt_count a) b after behind k)

pub rest_walkable : (side : Block) (p : ℕ) → exit_point side < 2 ^ 32 → block_is_open side ≡ true → has_scope side ≡ false → AreWalkable (rest_at side p)
unfolding AllRests
rest_walkable side p small is_open plain =
    let whole : IsWalkable 1 side = record { numbered = omega (arith, small); opened = is_open; unscoped = plain } in
    at_index (rests side) p ((whole, tt), block_rests_walkable 1 side [] whole tt)

-- the first limit
first_choice : {A : Type 0} (b : Bool) (p q : A) → b ≡ true → cond b p q ≡ p
first_choice true p q h = refl
first_choice false p q h = cc

second_choice : {A : Type 0} (b c : Bool) (p q r : A) → b ≡ false → c ≡ true → cond b p (cond c q r) ≡ q
second_choice true c p q r h k = cc
second_choice false true p q r h k = refl
second_choice false false p q r h k = cc

third_choice : {A : Type 0} (b c d : Bool) (p q r s : A) → b ≡ false → c ≡ false → d ≡ true → cond b p (cond c q (cond d r s)) ≡ r
third_choice true c d p q r s h k j = cc
third_choice false true d p q r s h k j = cc
third_choice false false true p q r s h k j = refl
third_choice false false false p q r s h k j = cc

last_choice : {A : Type 0} (b c d : Bool) (p q r s : A) → b ≡ false → c ≡ false → d ≡ false → cond b p (cond c q (cond d r s)) ≡ s
last_choice true c d p q r s h k j = cc
last_choice false true d p q r s h k j = cc
last_choice false false true p q r s h k j = cc
last_choice false false false p q r s h k j = refl

-- 65 steps, or not as many
far : (m found : ℕ) → found ≡ min 65 m → 64 < found → reaches 65 m ≡ true
far m found e h = within_reaches 65 m (omega (arith, e, h))

not_reached : (b : Bool) (m : ℕ) → reaches 65 m ≡ b → m ≤ 64 → b ≡ false
not_reached true m e h = absurd (omega (arith, reaches_within 65 m e, h))
not_reached false m e h = refl

near : (m found : ℕ) → found ≡ min 65 m → found ≤ 64 → m ≤ 64
near m found e h = omega (arith, e, h)

long_is : (side : Block) (cuts : List ℕ) (s : StoreTerm) (p found : ℕ) → found ≡ min 65 (steps_from p cuts (rest_at side p)) → 64 < found → has_long_walk side cuts s p ≡ true
long_is side cuts s p found e h = long_exactly side cuts s p ∙ far (steps_from p cuts (rest_at side p)) found e h

long_is_not : (side : Block) (cuts : List ℕ) (s : StoreTerm) (p found : ℕ) → found ≡ min 65 (steps_from p cuts (rest_at side p)) → found ≤ 64 → has_long_walk side cuts s p ≡ false
long_is_not side cuts s p found e h =
    long_exactly side cuts s p ∙ not_reached (reaches 65 (steps_from p cuts (rest_at side p))) (steps_from p cuts (rest_at side p)) refl (near (steps_from p cuts (rest_at side p)) found e h)

many_test : (n : ℕ) → 512 < n → nat_lt 512 n ≡ true
many_test n h = grind (arith, nat_tests)

few_test : (n : ℕ) → n ≤ 512 → nat_lt 512 n ≡ false
few_test n h = grind (arith, nat_tests)

number_is : (side : Block) (cuts : List ℕ) (s : StoreTerm) (p steps : ℕ) → steps ≡ min 65 (steps_from p cuts (rest_at side p)) → steps ≤ 64
    → length (side_paths side cuts s p) ≡ number_from p cuts (rest_at side p)
number_is side cuts s p steps e h = as_many_paths side cuts s p (near (steps_from p cuts (rest_at side p)) steps e h)

-- what is answered of their number
pub counts_steps : (rule : Rule) (cuts : CutPoints) (side : Side) (p found : ℕ) → found ≡ min 65 (steps_from p (cuts_of cuts side) (rest_at (side_of rule side) p)) → 64 < found
    → CountAnswer rule cuts side p (Err (Limit PathSteps))
counts_steps rule cuts side p found e h = (long_is (side_of rule side) (cuts_of cuts side) (store_of side) p found e h, refl)

pub counts_paths : (rule : Rule) (cuts : CutPoints) (side : Side) (p steps found : ℕ) → steps ≡ min 65 (steps_from p (cuts_of cuts side) (rest_at (side_of rule side) p)) → steps ≤ 64
    → found ≡ saturated (number_from p (cuts_of cuts side) (rest_at (side_of rule side) p)) → CountAnswer rule cuts side p (Ok found)
counts_paths rule cuts side p steps found e h d = (
  long_is_not (side_of rule side) (cuts_of cuts side) (store_of side) p steps e h,
  d ∙ ap saturated (sym (number_is (side_of rule side) (cuts_of cuts side) (store_of side) p steps e h)),
)

-- what is answered
pub count_refused : (rule : Rule) (cuts : CutPoints) (side : Side) (p : ℕ) (e : PathRefusal) → CountAnswer rule cuts side p (Err e) → PathsAnswer rule cuts side p (Err e)
count_refused rule cuts side p (Limit what) h = first_choice _ _ _ h.0 ∙ ap Some (sym h.1)
count_refused rule cuts side p NoMemory h = tt

pub answers_paths : (rule : Rule) (cuts : CutPoints) (side : Side) (p found : ℕ) → CountAnswer rule cuts side p (Ok found) → 512 < found → path_limit rule cuts side p ≡ Some Paths
answers_paths rule cuts side p found c k = second_choice _ _ _ _ _ c.0 (many_test (length (paths rule cuts side p)) (omega (arith, c.1, k)))

pub answers_built : (rule : Rule) (cuts : CutPoints) (side : Side) (p found : ℕ) (r : Result (List Path) PathRefusal) → CountAnswer rule cuts side p (Ok found) → found ≤ 512
    → Builds (paths rule cuts side p) r → PathsAnswer rule cuts side p r
answers_built rule cuts side p found (Ok all) c k b = (last_choice _ _ _ _ _ _ _ c.0 (few_test (length (paths rule cuts side p)) (omega (arith, c.1, k))) b.1, b.0)
answers_built rule cuts side p found (Err (Limit what)) c k b =
    third_choice _ _ _ _ _ _ _ c.0 (few_test (length (paths rule cuts side p)) (omega (arith, c.1, k))) b.1 ∙ ap Some (sym b.0)
answers_built rule cuts side p found (Err NoMemory) c k b = tt

-- the walks from a point, as the code has what stands there
pub ends_from : (rule : Rule) (cuts : CutPoints) (side : Side) (p exit : ℕ) (ls : List Literal) (s : StoreTerm) (rest : Rest) → is_long rule cuts side p ≡ false
    → ls ≡ [] → s ≡ store_of side → rest ≡ rest_at (side_of rule side) p → exit ≡ exit_point (side_of rule side)
    → goes_on_from p 64 (cuts_of cuts side) exit (stands ls s rest) ≡ false
unfolding has_long_walk
ends_from rule cuts side p exit ls s rest h a b c d = (λ i. goes_on_from p 64 (cuts_of cuts side) (d i) (stands (a i) (b i) (c i))) ∙ h

pub paths_from : (rule : Rule) (cuts : CutPoints) (side : Side) (p exit : ℕ) (ls : List Literal) (s : StoreTerm) (rest : Rest)
    → ls ≡ [] → s ≡ store_of side → rest ≡ rest_at (side_of rule side) p → exit ≡ exit_point (side_of rule side)
    → walks_from p 63 (cuts_of cuts side) exit (stands ls s rest) ≡ paths rule cuts side p
unfolding side_paths
paths_from rule cuts side p exit ls s rest a b c d = λ i. walks_from p 63 (cuts_of cuts side) (d i) (stands (a i) (b i) (c i))
