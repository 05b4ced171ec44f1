use Rattle.std.proofs.Common.{◌≡◌, ◌+◌, suc, ◌∷◌, refl, sym, ◌∙◌, ap, subst, arith}
use Rattle.toy_imp.specs.Block.{put, assert_that, if_then, while_do}
use Rattle.toy_imp.specs.BlockView.{stmt_of, block_of}
use Rattle.toy_imp.specs.ExprView.{exprs_of}
use Rattle.toy_imp.specs.Points.{point_count}
use Rattle.path_pairs.specs.Rests.{stretch}
use Rattle.path_pairs.specs.Walkable.{IsWalkable}
use Rattle.path_pairs.specs.Stretches.{rest_of}
use Rattle.path_pairs.proofs.Adding.{walk_refused, large_way}
use Rattle.path_pairs.proofs.FromNext.{step_none, alone_walkable, here_walkable}
use Rattle.path_pairs.proofs.WalkedOn.{walk_stops, walk_ends, walk_goes_on, step_ends, none_stands, stmt_ends, stmt_adds, others_are, one_ends, one_adds, same_ends, same_adds, skip_step, put_step, if_step, while_step, assert_open, assert_ends, assert_adds, par_ends, par_adds, PutOpen, put_open, IfWalkable, if_walkable, WhileWalkable, while_walkable, stretched}
use Rattle.path_pairs.proofs.walking.+walk.Goals as goal

pub walk-returns-in-Some : goal.walk-returns-in-Some
walk-returns-in-Some t c =
    walk_stops c.args.course.steps c.args.course.cuts.now c.args.course.exit c.args.met.literals c.args.met.store (rest_of c.args.rest.now) c.in-Some.stop c.args.all.now c.add_path.new.all c.add_path.result
    (sym c.rest_stop.ensures ∙ c.in-Some.is) c.add_path.ensures

pub walk-returns-then-course-eq0 : goal.walk-returns-then-course-eq0
walk-returns-then-course-eq0 t c =
    walk_ends c.args.course.steps c.args.course.cuts.now c.args.course.exit c.args.met.literals c.args.met.store (rest_of c.args.rest.now) c.args.all.now c.if-course-eq0.true (sym c.rest_stop.ensures ∙ c.in-None.is)

pub walk-walk_on-requires : goal.walk-walk_on-requires
walk-walk_on-requires t c = (
  grind arith,
  (
    c.requires.rest,
    step_ends c.args.course.steps c.args.course.cuts.now c.args.course.exit c.args.met.literals c.args.met.store (rest_of c.args.rest.now) c.if-course-eq0.false (sym c.rest_stop.ensures ∙ c.in-None.is) c.requires.ends,
  ),
)

pub walk-returns-else-course-eq0 : goal.walk-returns-else-course-eq0
walk-returns-else-course-eq0 t c =
    walk_goes_on c.args.course.steps c.args.course.cuts.now c.args.course.exit c.args.met.literals c.args.met.store (rest_of c.args.rest.now) c.args.all.now c.walk_on.new.all c.walk_on.result c.if-course-eq0.false
    (sym c.rest_stop.ensures ∙ c.in-None.is) c.walk_on.ensures

pub walk_on-returns-in-None : goal.walk_on-returns-in-None
walk_on-returns-in-None t c =
    none_stands c.args.course.steps c.args.course.cuts.now c.args.course.exit c.args.met.literals c.args.met.store (rest_of c.args.rest.now) c.args.all.now (step_none (rest_of c.args.rest.now) c.args.met.literals c.args.met.store c.in-None.ensures)

pub walk_on-walk_stmt-requires : goal.walk_on-walk_stmt-requires
walk_on-walk_stmt-requires t c =
    let others : rest_of c.as_slice.result.now ≡ stretch c.in-Some.at.next (block_of c.in-Some.at.others.now) ∷ rest_of c.in-Some.at.behind.now = ap rest_of c.as_slice.ensures ∙ c.in_ok-behind-in-Some.ensures in (
      grind arith,
      (
        alone_walkable _ _ _ c.in-Some.ensures.walkable,
        (
          here_walkable _ _ _ _ _ _ _ c.in-Some.ensures c.requires.rest,
          (
            others_are _ _ _ _ _ _ _ _ c.in-Some.ensures others,
            stmt_ends c.args.course.steps c.args.course.cuts.now c.args.course.exit _ _ _ _ _ _ _ _ c.args.met.literals c.args.met.store c.in-Some.ensures others c.requires.ends,
          ),
        ),
      ),
    )

pub walk_on-returns-in_ok-behind-in-Some : goal.walk_on-returns-in_ok-behind-in-Some
walk_on-returns-in_ok-behind-in-Some t c =
    let others : rest_of c.as_slice.result.now ≡ stretch c.in-Some.at.next (block_of c.in-Some.at.others.now) ∷ rest_of c.in-Some.at.behind.now = ap rest_of c.as_slice.ensures ∙ c.in_ok-behind-in-Some.ensures in
    stmt_adds c.args.course.steps c.args.course.cuts.now c.args.course.exit _ _ _ _ _ _ _ _ c.args.met.literals c.args.met.store c.args.all.now c.walk_stmt.new.all c.walk_stmt.result c.in-Some.ensures others c.walk_stmt.ensures

pub walk_stmt-walk-requires : goal.walk_stmt-walk-requires
walk_stmt-walk-requires t c = (
  grind arith,
  (
    c.requires.behind,
    one_ends c.args.course.steps c.args.course.cuts.now c.args.course.exit _ _ (skip_step c.args.n c.args.s.now (rest_of c.args.here.now) (rest_of c.args.behind.now) c.args.met.literals c.args.met.store
        (sym c.s.view_is ∙ ap stmt_of c.in-Skip.is)) c.requires.ends,
  ),
)

pub walk_stmt-returns-in-Skip : goal.walk_stmt-returns-in-Skip
walk_stmt-returns-in-Skip t c =
    one_adds c.args.course.steps c.args.course.cuts.now c.args.course.exit _ _ c.args.all.now c.walk.new.all c.walk.result
    (skip_step c.args.n c.args.s.now (rest_of c.args.here.now) (rest_of c.args.behind.now) c.args.met.literals c.args.met.store (sym c.s.view_is ∙ ap stmt_of c.in-Skip.is)) c.walk.ensures

pub walk_stmt-walk_write-requires : goal.walk_stmt-walk_write-requires
walk_stmt-walk_write-requires t c =
    let is : c.args.s.now ≡ put c.in-Put.x (exprs_of c.as_slice.result.now) c.in-Put.e =
    sym c.s.view_is ∙ ap stmt_of c.in-Put.is ∙ ap (λ es. put c.in-Put.x (exprs_of es) c.in-Put.e) (sym c.as_slice.ensures) in
    let names : PutOpen c.in-Put.x (exprs_of c.as_slice.result.now) c.in-Put.e = put_open c.args.n c.args.s.now _ _ _ is c.requires.s in (
      grind arith,
      (
        names.name,
        (
          names.indices,
          (
            names.value,
            (
              c.requires.behind,
              one_ends c.args.course.steps c.args.course.cuts.now c.args.course.exit _ _ (put_step c.args.n c.args.s.now c.in-Put.x (exprs_of c.as_slice.result.now) c.in-Put.e (rest_of c.args.here.now) (rest_of c.args.behind.now)
                  c.args.met.literals c.args.met.store is) c.requires.ends,
            ),
          ),
        ),
      ),
    )

pub walk_stmt-returns-in-Put : goal.walk_stmt-returns-in-Put
walk_stmt-returns-in-Put t c =
    let is : c.args.s.now ≡ put c.in-Put.x (exprs_of c.as_slice.result.now) c.in-Put.e =
    sym c.s.view_is ∙ ap stmt_of c.in-Put.is ∙ ap (λ es. put c.in-Put.x (exprs_of es) c.in-Put.e) (sym c.as_slice.ensures) in
    one_adds c.args.course.steps c.args.course.cuts.now c.args.course.exit _ _ c.args.all.now c.walk_write.new.all c.walk_write.result
    (put_step c.args.n c.args.s.now c.in-Put.x (exprs_of c.as_slice.result.now) c.in-Put.e (rest_of c.args.here.now) (rest_of c.args.behind.now) c.args.met.literals c.args.met.store is) c.walk_write.ensures

pub walk_stmt-walk_assert-requires : goal.walk_stmt-walk_assert-requires
walk_stmt-walk_assert-requires t c =
    let is : c.args.s.now ≡ assert_that c.in-Assert.t = sym c.s.view_is ∙ ap stmt_of c.in-Assert.is in (
      grind arith,
      (
        assert_open c.args.n c.args.s.now c.in-Assert.t is c.requires.s,
        (
          c.requires.behind,
          assert_ends c.args.course.steps c.args.course.cuts.now c.args.course.exit c.args.n c.args.s.now c.in-Assert.t (rest_of c.args.here.now) (rest_of c.args.behind.now) c.args.met.literals c.args.met.store is
              c.requires.ends,
        ),
      ),
    )

pub walk_stmt-returns-in-Assert : goal.walk_stmt-returns-in-Assert
walk_stmt-returns-in-Assert t c =
    assert_adds c.args.course.steps c.args.course.cuts.now c.args.course.exit c.args.n c.args.s.now c.in-Assert.t (rest_of c.args.here.now) (rest_of c.args.behind.now) c.args.met.literals c.args.met.store c.args.all.now
    c.walk_assert.new.all c.walk_assert.result (sym c.s.view_is ∙ ap stmt_of c.in-Assert.is) c.walk_assert.ensures

pub walk_stmt-walk_test-requires : goal.walk_stmt-walk_test-requires
walk_stmt-walk_test-requires t c =
    let is : c.args.s.now ≡ if_then c.in-If.t c.in-If.b c.in-If.c = sym c.s.view_is ∙ ap stmt_of c.in-If.is in
    let parts : IfWalkable c.args.n c.in-If.t c.in-If.b c.in-If.c = if_walkable c.args.n c.args.s.now c.in-If.t c.in-If.b c.in-If.c is c.requires.s in
    let middle : c.args.n + c.block_points.result ≡ c.args.n + point_count c.in-If.b = omega (arith, c.block_points.ensures, parts.numbered) in
    let first : rest_of c.as_slice-in-If.result.now ≡ stretch c.args.n c.in-If.b ∷ rest_of c.args.behind.now =
    ap rest_of c.as_slice-in-If.ensures ∙ c.in_ok-then-in-If.ensures ∙ ap (λ x. x ∷ rest_of c.args.behind.now) c.inside.ensures in
    let second : rest_of c.as_slice-in-If-2.result.now ≡ stretch (c.args.n + c.block_points.result) c.in-If.c ∷ rest_of c.args.behind.now =
    ap rest_of c.as_slice-in-If-2.ensures ∙ c.in_ok-or_else-in-If.ensures ∙ ap (λ x. x ∷ rest_of c.args.behind.now) c.inside-in-If.ensures in (
      grind arith,
      (
        parts.test,
        (
          stretched _ _ _ _ first parts.first c.requires.behind,
          (
            stretched _ _ _ _ second (subst (λ j. IsWalkable j c.in-If.c) (sym middle) parts.second) c.requires.behind,
            same_ends c.args.course.steps c.args.course.cuts.now c.args.course.exit _ _ (if_step c.args.n (c.args.n + c.block_points.result) c.args.s.now c.in-If.t c.in-If.b c.in-If.c (rest_of c.args.here.now) (rest_of c.args.behind.now) (rest_of c.as_slice-in-If.result.now)
                (rest_of c.as_slice-in-If-2.result.now) c.args.met.literals c.args.met.store is middle first second) c.requires.ends,
          ),
        ),
      ),
    )

pub walk_stmt-returns-in_ok-or_else-in-If : goal.walk_stmt-returns-in_ok-or_else-in-If
walk_stmt-returns-in_ok-or_else-in-If t c =
    let is : c.args.s.now ≡ if_then c.in-If.t c.in-If.b c.in-If.c = sym c.s.view_is ∙ ap stmt_of c.in-If.is in
    let parts : IfWalkable c.args.n c.in-If.t c.in-If.b c.in-If.c = if_walkable c.args.n c.args.s.now c.in-If.t c.in-If.b c.in-If.c is c.requires.s in
    let middle : c.args.n + c.block_points.result ≡ c.args.n + point_count c.in-If.b = omega (arith, c.block_points.ensures, parts.numbered) in
    let first : rest_of c.as_slice-in-If.result.now ≡ stretch c.args.n c.in-If.b ∷ rest_of c.args.behind.now =
    ap rest_of c.as_slice-in-If.ensures ∙ c.in_ok-then-in-If.ensures ∙ ap (λ x. x ∷ rest_of c.args.behind.now) c.inside.ensures in
    let second : rest_of c.as_slice-in-If-2.result.now ≡ stretch (c.args.n + c.block_points.result) c.in-If.c ∷ rest_of c.args.behind.now =
    ap rest_of c.as_slice-in-If-2.ensures ∙ c.in_ok-or_else-in-If.ensures ∙ ap (λ x. x ∷ rest_of c.args.behind.now) c.inside-in-If.ensures in
    same_adds c.args.course.steps c.args.course.cuts.now c.args.course.exit _ _ c.args.all.now c.walk_test.new.all c.walk_test.result (if_step c.args.n (c.args.n + c.block_points.result) c.args.s.now c.in-If.t c.in-If.b c.in-If.c (rest_of c.args.here.now) (rest_of c.args.behind.now) (rest_of c.as_slice-in-If.result.now)
    (rest_of c.as_slice-in-If-2.result.now) c.args.met.literals c.args.met.store is middle first second) c.walk_test.ensures

pub walk_stmt-walk_test-requires-in-While : goal.walk_stmt-walk_test-requires-in-While
walk_stmt-walk_test-requires-in-While t c =
    let is : c.args.s.now ≡ while_do c.in-While.t c.in-While.b = sym c.s.view_is ∙ ap stmt_of c.in-While.is in
    let parts : WhileWalkable c.args.n c.in-While.t c.in-While.b = while_walkable c.args.n c.args.s.now c.in-While.t c.in-While.b is c.requires.s in
    let next : c.args.n + 1 ≡ suc c.args.n = omega arith in
    let first : rest_of c.as_slice-in-While.result.now ≡ stretch (c.args.n + 1) c.in-While.b ∷ rest_of c.args.here.now =
    ap rest_of c.as_slice-in-While.ensures ∙ c.in_ok-then-in-While.ensures ∙ ap (λ x. x ∷ rest_of c.args.here.now) c.inside-in-While.ensures in (
      grind arith,
      (
        parts.test,
        (
          stretched _ _ _ _ first (subst (λ j. IsWalkable j c.in-While.b) (sym next) parts.body) c.requires.here,
          (
            c.requires.behind,
            same_ends c.args.course.steps c.args.course.cuts.now c.args.course.exit _ _ (while_step c.args.n (c.args.n + 1) c.args.s.now c.in-While.t c.in-While.b (rest_of c.args.here.now) (rest_of c.args.behind.now) (rest_of c.as_slice-in-While.result.now)
                c.args.met.literals c.args.met.store is next first) c.requires.ends,
          ),
        ),
      ),
    )

pub walk_stmt-returns-in_ok-then-in-While : goal.walk_stmt-returns-in_ok-then-in-While
walk_stmt-returns-in_ok-then-in-While t c =
    let is : c.args.s.now ≡ while_do c.in-While.t c.in-While.b = sym c.s.view_is ∙ ap stmt_of c.in-While.is in
    let parts : WhileWalkable c.args.n c.in-While.t c.in-While.b = while_walkable c.args.n c.args.s.now c.in-While.t c.in-While.b is c.requires.s in
    let next : c.args.n + 1 ≡ suc c.args.n = omega arith in
    let first : rest_of c.as_slice-in-While.result.now ≡ stretch (c.args.n + 1) c.in-While.b ∷ rest_of c.args.here.now =
    ap rest_of c.as_slice-in-While.ensures ∙ c.in_ok-then-in-While.ensures ∙ ap (λ x. x ∷ rest_of c.args.here.now) c.inside-in-While.ensures in
    same_adds c.args.course.steps c.args.course.cuts.now c.args.course.exit _ _ c.args.all.now c.walk_test-in-While.new.all c.walk_test-in-While.result (while_step c.args.n (c.args.n + 1) c.args.s.now c.in-While.t c.in-While.b (rest_of c.args.here.now) (rest_of c.args.behind.now) (rest_of c.as_slice-in-While.result.now)
    c.args.met.literals c.args.met.store is next first) c.walk_test-in-While.ensures

pub walk_stmt-walk_run-requires : goal.walk_stmt-walk_run-requires
walk_stmt-walk_run-requires t c = (
  grind arith,
  (
    c.requires.behind,
    par_ends c.args.course.steps c.args.course.cuts.now c.args.course.exit c.args.n _ c.args.s.now (rest_of c.args.here.now) (rest_of c.args.behind.now) c.args.met.literals c.args.met.store
        (sym c.s.view_is ∙ ap stmt_of c.in-Par.is) c.requires.ends,
  ),
)

pub walk_stmt-returns-in-Par : goal.walk_stmt-returns-in-Par
walk_stmt-returns-in-Par t c =
    par_adds c.args.course.steps c.args.course.cuts.now c.args.course.exit c.args.n _ c.args.s.now (rest_of c.args.here.now) (rest_of c.args.behind.now) c.args.met.literals c.args.met.store c.args.all.now c.walk_run.new.all
    c.walk_run.result (sym c.s.view_is ∙ ap stmt_of c.in-Par.is) c.walk_run.ensures

pub walk_write-returns-in-Err : goal.walk_write-returns-in-Err
walk_write-returns-in-Err t c =
    walk_refused (Unit {0}) c.args.course.steps c.args.course.cuts.now c.args.course.exit _ _ (rest_of c.args.behind.now) c.args.all.now c.args.all.now c.in-Err.e c.requires.behind c.requires.ends c.in-Err.ensures.err

pub walk_ended-returns-in-Err : goal.walk_ended-returns-in-Err
walk_ended-returns-in-Err t c =
    walk_refused (Unit {0}) c.args.course.steps c.args.course.cuts.now c.args.course.exit _ _ (rest_of c.args.behind.now) c.args.all.now c.args.all.now c.in-Err.e c.requires.behind c.requires.ends c.in-Err.ensures.err

pub walk_outcome-returns-in-Err : goal.walk_outcome-returns-in-Err
walk_outcome-returns-in-Err t c =
    walk_refused (Unit {0}) c.args.course.steps c.args.course.cuts.now c.args.course.exit _ _ (rest_of c.args.rest.now) c.args.all.now c.args.all.now c.in-Err.e c.requires.rest c.requires.ends c.in-Err.ensures.err

pub walk_way-returns-then-is_too_large : goal.walk_way-returns-then-is_too_large
walk_way-returns-then-is_too_large t c = (
  refl,
  large_way c.args.course.steps c.args.course.cuts.now c.args.course.exit c.args.t.now c.args.way c.args.met.now.literals c.args.met.now.store (rest_of c.args.rest.now) c.requires.rest c.requires.ends
      (sym c.is_too_large.ensures ∙ c.if-is_too_large.true),
)
