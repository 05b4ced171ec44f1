use Rattle.std.proofs.Common.{◌+◌, [], sym, ◌∙◌, subst, take, arith}
use Rattle.std.proofs.lemmas.List.{take_all}
use Rattle.term_pool.specs.Numbered.{terms_of_nodes, Stands}
use Rattle.term_pool.proofs.Growing.{extends_none, extends_both}
use Rattle.term_pool.proofs.Rebuilt.{number_item, put_below, run_below, get_below, ev_below, add_below, sub_below, mul_below}
use Rattle.pool_goals.specs.Replaced.{NumbersAt}
use Rattle.pool_goals.proofs.Arms.{replaced, named, grows, put_at, run_at, get_at, ev_at, add_at, sub_at, mul_at, left_at, right_at, num_at, none_at}
use Rattle.pool_goals.proofs.Memos.{known_at, past_at, made_sound, sound_added, numbers_next, numbers_none}
use Rattle.pool_goals.proofs.numbers.+put_at.Goals as goal

pub node_at-returns-in-None-clause-replaced : goal.node_at-returns-in-None-clause-replaced
node_at-returns-in-None-clause-replaced t c = none_at c.args.pool.now c.args.left c.args.right c.args.n c.args.n c.in-None.ensures.node

pub node_at-returns-in-L-clause-replaced : goal.node_at-returns-in-L-clause-replaced
node_at-returns-in-L-clause-replaced t c = left_at c.args.pool.now c.args.left c.args.right c.args.n c.len-len.ensures.pool (subst (Stands (terms_of_nodes c.args.pool.now) c.args.n) (sym c.in_ok-node-in-Some.ensures ∙ c.in-L.is) c.in-Some.ensures.stands)

pub node_at-returns-in-R-clause-replaced : goal.node_at-returns-in-R-clause-replaced
node_at-returns-in-R-clause-replaced t c = right_at c.args.pool.now c.args.left c.args.right c.args.n c.len-len.ensures.pool (subst (Stands (terms_of_nodes c.args.pool.now) c.args.n) (sym c.in_ok-node-in-Some.ensures ∙ c.in-R.is) c.in-Some.ensures.stands)

pub node_at-returns-in-Num-clause-replaced : goal.node_at-returns-in-Num-clause-replaced
node_at-returns-in-Num-clause-replaced t c = num_at c.args.pool.now c.args.left c.args.right c.args.n c.in-Num.field-0 c.len-len.ensures.pool (subst (Stands (terms_of_nodes c.args.pool.now) c.args.n) (sym c.in_ok-node-in-Some.ensures ∙ c.in-Num.is) c.in-Some.ensures.stands)

pub node_at-number_at-requires : goal.node_at-number_at-requires
node_at-number_at-requires t c = (grind (arith, (put_below c.in-Put.s c.in-Put.v c.in-Put.p (subst (Stands (terms_of_nodes c.args.pool.now) c.args.n) (sym c.in_ok-node-in-Some.ensures ∙ c.in-Put.is) c.in-Some.ensures.stands)).0), c.requires)

pub node_at-numbers_at-requires : goal.node_at-numbers_at-requires
node_at-numbers_at-requires t c = (grind (arith, (put_below c.in-Put.s c.in-Put.v c.in-Put.p (subst (Stands (terms_of_nodes c.args.pool.now) c.args.n) (sym c.in_ok-node-in-Some.ensures ∙ c.in-Put.is) c.in-Some.ensures.stands)).1, c.as_slice.ensures), c.in_ok-s-in-Put.ensures.sound)

pub node_at-number_at-requires-in-Put : goal.node_at-number_at-requires-in-Put
node_at-number_at-requires-in-Put t c = (grind (arith, (put_below c.in-Put.s c.in-Put.v c.in-Put.p (subst (Stands (terms_of_nodes c.args.pool.now) c.args.n) (sym c.in_ok-node-in-Some.ensures ∙ c.in-Put.is) c.in-Some.ensures.stands)).2), c.in_ok-indices-in-Put.ensures.sound)

pub node_at-add-requires : goal.node_at-add-requires
node_at-add-requires t c = named (put_at c.args.pool.now c.args.left c.args.right c.args.n c.in-Put.s c.in-Put.v c.in_ok-s-in-Put.s c.in_ok-v-in-Put.v c.in-Put.p c.in_ok-indices-in-Put.indices (subst (Stands (terms_of_nodes c.args.pool.now) c.args.n) (sym c.in_ok-node-in-Some.ensures ∙ c.in-Put.is) c.in-Some.ensures.stands)
    c.in_ok-s-in-Put.ensures.replaced c.in_ok-s-in-Put.ensures.kept (subst (λ l. NumbersAt c.number_at.new.pool c.numbers_at.new.pool c.args.left c.args.right l c.in_ok-indices-in-Put.indices) c.as_slice.ensures c.in_ok-indices-in-Put.ensures.replaced)
    c.in_ok-indices-in-Put.ensures.kept c.in_ok-v-in-Put.ensures.replaced) c.requires.left_is c.requires.right_is (subst (Stands (terms_of_nodes c.args.pool.now) c.args.n) (sym c.in_ok-node-in-Some.ensures ∙ c.in-Put.is) c.in-Some.ensures.stands)

pub node_at-returns-in-Put-clause-replaced : goal.node_at-returns-in-Put-clause-replaced
node_at-returns-in-Put-clause-replaced t c = replaced c.add.new.self c.add.result (put_at c.args.pool.now c.args.left c.args.right c.args.n c.in-Put.s c.in-Put.v c.in_ok-s-in-Put.s c.in_ok-v-in-Put.v c.in-Put.p c.in_ok-indices-in-Put.indices (subst (Stands (terms_of_nodes c.args.pool.now) c.args.n) (sym c.in_ok-node-in-Some.ensures ∙ c.in-Put.is) c.in-Some.ensures.stands)
    c.in_ok-s-in-Put.ensures.replaced c.in_ok-s-in-Put.ensures.kept (subst (λ l. NumbersAt c.number_at.new.pool c.numbers_at.new.pool c.args.left c.args.right l c.in_ok-indices-in-Put.indices) c.as_slice.ensures c.in_ok-indices-in-Put.ensures.replaced)
    c.in_ok-indices-in-Put.ensures.kept c.in_ok-v-in-Put.ensures.replaced) c.add.ensures.number c.add.ensures.added

pub node_at-returns-in-Put-clause-sound : goal.node_at-returns-in-Put-clause-sound
node_at-returns-in-Put-clause-sound t c = sound_added _ _ _ c.add.result c.add.ensures.added c.in_ok-v-in-Put.ensures.sound

pub node_at-returns-in-Put-clause-kept : goal.node_at-returns-in-Put-clause-kept
node_at-returns-in-Put-clause-kept t c = extends_both _ _ _ (extends_both _ _ _ (extends_both _ _ _ c.in_ok-s-in-Put.ensures.kept c.in_ok-indices-in-Put.ensures.kept) c.in_ok-v-in-Put.ensures.kept) (grows _ _ _ c.add.result c.add.ensures.added c.add.ensures.same)

pub node_at-number_at-requires-in-Run : goal.node_at-number_at-requires-in-Run
node_at-number_at-requires-in-Run t c = (grind (arith, run_below c.in-Run.k c.in-Run.s (subst (Stands (terms_of_nodes c.args.pool.now) c.args.n) (sym c.in_ok-node-in-Some.ensures ∙ c.in-Run.is) c.in-Some.ensures.stands)), c.requires)

pub node_at-add-requires-in-Run : goal.node_at-add-requires-in-Run
node_at-add-requires-in-Run t c = named (run_at c.args.pool.now c.args.left c.args.right c.args.n c.in-Run.k c.in-Run.s c.in_ok-s-in-Run.s (subst (Stands (terms_of_nodes c.args.pool.now) c.args.n) (sym c.in_ok-node-in-Some.ensures ∙ c.in-Run.is) c.in-Some.ensures.stands) c.in_ok-s-in-Run.ensures.replaced) c.requires.left_is c.requires.right_is (subst (Stands (terms_of_nodes c.args.pool.now) c.args.n) (sym c.in_ok-node-in-Some.ensures ∙ c.in-Run.is) c.in-Some.ensures.stands)

pub node_at-returns-in-Run-clause-replaced : goal.node_at-returns-in-Run-clause-replaced
node_at-returns-in-Run-clause-replaced t c = replaced c.add-in-Run.new.self c.add-in-Run.result (run_at c.args.pool.now c.args.left c.args.right c.args.n c.in-Run.k c.in-Run.s c.in_ok-s-in-Run.s (subst (Stands (terms_of_nodes c.args.pool.now) c.args.n) (sym c.in_ok-node-in-Some.ensures ∙ c.in-Run.is) c.in-Some.ensures.stands) c.in_ok-s-in-Run.ensures.replaced) c.add-in-Run.ensures.number c.add-in-Run.ensures.added

pub node_at-returns-in-Run-clause-sound : goal.node_at-returns-in-Run-clause-sound
node_at-returns-in-Run-clause-sound t c = sound_added _ _ _ c.add-in-Run.result c.add-in-Run.ensures.added c.in_ok-s-in-Run.ensures.sound

pub node_at-number_at-requires-in-Ev : goal.node_at-number_at-requires-in-Ev
node_at-number_at-requires-in-Ev t c = (grind (arith, ev_below c.in-Ev.k c.in-Ev.s (subst (Stands (terms_of_nodes c.args.pool.now) c.args.n) (sym c.in_ok-node-in-Some.ensures ∙ c.in-Ev.is) c.in-Some.ensures.stands)), c.requires)

pub node_at-add-requires-in-Ev : goal.node_at-add-requires-in-Ev
node_at-add-requires-in-Ev t c = named (ev_at c.args.pool.now c.args.left c.args.right c.args.n c.in-Ev.k c.in-Ev.s c.in_ok-s-in-Ev.s (subst (Stands (terms_of_nodes c.args.pool.now) c.args.n) (sym c.in_ok-node-in-Some.ensures ∙ c.in-Ev.is) c.in-Some.ensures.stands) c.in_ok-s-in-Ev.ensures.replaced) c.requires.left_is c.requires.right_is (subst (Stands (terms_of_nodes c.args.pool.now) c.args.n) (sym c.in_ok-node-in-Some.ensures ∙ c.in-Ev.is) c.in-Some.ensures.stands)

pub node_at-returns-in-Ev-clause-replaced : goal.node_at-returns-in-Ev-clause-replaced
node_at-returns-in-Ev-clause-replaced t c = replaced c.add-in-Ev.new.self c.add-in-Ev.result (ev_at c.args.pool.now c.args.left c.args.right c.args.n c.in-Ev.k c.in-Ev.s c.in_ok-s-in-Ev.s (subst (Stands (terms_of_nodes c.args.pool.now) c.args.n) (sym c.in_ok-node-in-Some.ensures ∙ c.in-Ev.is) c.in-Some.ensures.stands) c.in_ok-s-in-Ev.ensures.replaced) c.add-in-Ev.ensures.number c.add-in-Ev.ensures.added

pub node_at-returns-in-Ev-clause-sound : goal.node_at-returns-in-Ev-clause-sound
node_at-returns-in-Ev-clause-sound t c = sound_added _ _ _ c.add-in-Ev.result c.add-in-Ev.ensures.added c.in_ok-s-in-Ev.ensures.sound

pub node_at-numbers_at-requires-in-Get : goal.node_at-numbers_at-requires-in-Get
node_at-numbers_at-requires-in-Get t c = (grind (arith, (get_below c.in-Get.p c.in-Get.s (subst (Stands (terms_of_nodes c.args.pool.now) c.args.n) (sym c.in_ok-node-in-Some.ensures ∙ c.in-Get.is) c.in-Some.ensures.stands)).0, c.as_slice-in-Get.ensures), c.requires)

pub node_at-number_at-requires-in-Get : goal.node_at-number_at-requires-in-Get
node_at-number_at-requires-in-Get t c = (grind (arith, (get_below c.in-Get.p c.in-Get.s (subst (Stands (terms_of_nodes c.args.pool.now) c.args.n) (sym c.in_ok-node-in-Some.ensures ∙ c.in-Get.is) c.in-Some.ensures.stands)).1), c.in_ok-indices-in-Get.ensures.sound)

pub node_at-add-requires-in-Get : goal.node_at-add-requires-in-Get
node_at-add-requires-in-Get t c = named (get_at c.args.pool.now c.args.left c.args.right c.args.n c.in-Get.s c.in_ok-s-in-Get.s c.in-Get.p c.in_ok-indices-in-Get.indices (subst (Stands (terms_of_nodes c.args.pool.now) c.args.n) (sym c.in_ok-node-in-Some.ensures ∙ c.in-Get.is) c.in-Some.ensures.stands)
    (subst (λ l. NumbersAt c.args.pool.now c.numbers_at-in-Get.new.pool c.args.left c.args.right l c.in_ok-indices-in-Get.indices) c.as_slice-in-Get.ensures c.in_ok-indices-in-Get.ensures.replaced)
    c.in_ok-indices-in-Get.ensures.kept c.in_ok-s-in-Get.ensures.replaced) c.requires.left_is c.requires.right_is (subst (Stands (terms_of_nodes c.args.pool.now) c.args.n) (sym c.in_ok-node-in-Some.ensures ∙ c.in-Get.is) c.in-Some.ensures.stands)

pub node_at-returns-in-Get-clause-replaced : goal.node_at-returns-in-Get-clause-replaced
node_at-returns-in-Get-clause-replaced t c = replaced c.add-in-Get.new.self c.add-in-Get.result (get_at c.args.pool.now c.args.left c.args.right c.args.n c.in-Get.s c.in_ok-s-in-Get.s c.in-Get.p c.in_ok-indices-in-Get.indices (subst (Stands (terms_of_nodes c.args.pool.now) c.args.n) (sym c.in_ok-node-in-Some.ensures ∙ c.in-Get.is) c.in-Some.ensures.stands)
    (subst (λ l. NumbersAt c.args.pool.now c.numbers_at-in-Get.new.pool c.args.left c.args.right l c.in_ok-indices-in-Get.indices) c.as_slice-in-Get.ensures c.in_ok-indices-in-Get.ensures.replaced)
    c.in_ok-indices-in-Get.ensures.kept c.in_ok-s-in-Get.ensures.replaced) c.add-in-Get.ensures.number c.add-in-Get.ensures.added

pub node_at-returns-in-Get-clause-sound : goal.node_at-returns-in-Get-clause-sound
node_at-returns-in-Get-clause-sound t c = sound_added _ _ _ c.add-in-Get.result c.add-in-Get.ensures.added c.in_ok-s-in-Get.ensures.sound

pub node_at-returns-in-Get-clause-kept : goal.node_at-returns-in-Get-clause-kept
node_at-returns-in-Get-clause-kept t c = extends_both _ _ _ (extends_both _ _ _ c.in_ok-indices-in-Get.ensures.kept c.in_ok-s-in-Get.ensures.kept) (grows _ _ _ c.add-in-Get.result c.add-in-Get.ensures.added c.add-in-Get.ensures.same)

pub node_at-number_at-requires-in-Add : goal.node_at-number_at-requires-in-Add
node_at-number_at-requires-in-Add t c = (grind (arith, (add_below c.in-Add.a c.in-Add.b (subst (Stands (terms_of_nodes c.args.pool.now) c.args.n) (sym c.in_ok-node-in-Some.ensures ∙ c.in-Add.is) c.in-Some.ensures.stands)).0), c.requires)

pub node_at-number_at-requires-in-Add-2 : goal.node_at-number_at-requires-in-Add-2
node_at-number_at-requires-in-Add-2 t c = (grind (arith, (add_below c.in-Add.a c.in-Add.b (subst (Stands (terms_of_nodes c.args.pool.now) c.args.n) (sym c.in_ok-node-in-Some.ensures ∙ c.in-Add.is) c.in-Some.ensures.stands)).1), c.in_ok-a-in-Add.ensures.sound)

pub node_at-add-requires-in-Add : goal.node_at-add-requires-in-Add
node_at-add-requires-in-Add t c = named (add_at c.args.pool.now c.args.left c.args.right c.args.n c.in-Add.a c.in-Add.b c.in_ok-a-in-Add.a c.in_ok-b-in-Add.b (subst (Stands (terms_of_nodes c.args.pool.now) c.args.n) (sym c.in_ok-node-in-Some.ensures ∙ c.in-Add.is) c.in-Some.ensures.stands) c.in_ok-a-in-Add.ensures.replaced c.in_ok-a-in-Add.ensures.kept c.in_ok-b-in-Add.ensures.replaced) c.requires.left_is c.requires.right_is (subst (Stands (terms_of_nodes c.args.pool.now) c.args.n) (sym c.in_ok-node-in-Some.ensures ∙ c.in-Add.is) c.in-Some.ensures.stands)

pub node_at-returns-in-Add-clause-replaced : goal.node_at-returns-in-Add-clause-replaced
node_at-returns-in-Add-clause-replaced t c = replaced c.add-in-Add.new.self c.add-in-Add.result (add_at c.args.pool.now c.args.left c.args.right c.args.n c.in-Add.a c.in-Add.b c.in_ok-a-in-Add.a c.in_ok-b-in-Add.b (subst (Stands (terms_of_nodes c.args.pool.now) c.args.n) (sym c.in_ok-node-in-Some.ensures ∙ c.in-Add.is) c.in-Some.ensures.stands) c.in_ok-a-in-Add.ensures.replaced c.in_ok-a-in-Add.ensures.kept c.in_ok-b-in-Add.ensures.replaced) c.add-in-Add.ensures.number c.add-in-Add.ensures.added

pub node_at-returns-in-Add-clause-sound : goal.node_at-returns-in-Add-clause-sound
node_at-returns-in-Add-clause-sound t c = sound_added _ _ _ c.add-in-Add.result c.add-in-Add.ensures.added c.in_ok-b-in-Add.ensures.sound

pub node_at-number_at-requires-in-Sub : goal.node_at-number_at-requires-in-Sub
node_at-number_at-requires-in-Sub t c = (grind (arith, (sub_below c.in-Sub.a c.in-Sub.b (subst (Stands (terms_of_nodes c.args.pool.now) c.args.n) (sym c.in_ok-node-in-Some.ensures ∙ c.in-Sub.is) c.in-Some.ensures.stands)).0), c.requires)

pub node_at-number_at-requires-in-Sub-2 : goal.node_at-number_at-requires-in-Sub-2
node_at-number_at-requires-in-Sub-2 t c = (grind (arith, (sub_below c.in-Sub.a c.in-Sub.b (subst (Stands (terms_of_nodes c.args.pool.now) c.args.n) (sym c.in_ok-node-in-Some.ensures ∙ c.in-Sub.is) c.in-Some.ensures.stands)).1), c.in_ok-a-in-Sub.ensures.sound)

pub node_at-add-requires-in-Sub : goal.node_at-add-requires-in-Sub
node_at-add-requires-in-Sub t c = named (sub_at c.args.pool.now c.args.left c.args.right c.args.n c.in-Sub.a c.in-Sub.b c.in_ok-a-in-Sub.a c.in_ok-b-in-Sub.b (subst (Stands (terms_of_nodes c.args.pool.now) c.args.n) (sym c.in_ok-node-in-Some.ensures ∙ c.in-Sub.is) c.in-Some.ensures.stands) c.in_ok-a-in-Sub.ensures.replaced c.in_ok-a-in-Sub.ensures.kept c.in_ok-b-in-Sub.ensures.replaced) c.requires.left_is c.requires.right_is (subst (Stands (terms_of_nodes c.args.pool.now) c.args.n) (sym c.in_ok-node-in-Some.ensures ∙ c.in-Sub.is) c.in-Some.ensures.stands)

pub node_at-returns-in-Sub-clause-replaced : goal.node_at-returns-in-Sub-clause-replaced
node_at-returns-in-Sub-clause-replaced t c = replaced c.add-in-Sub.new.self c.add-in-Sub.result (sub_at c.args.pool.now c.args.left c.args.right c.args.n c.in-Sub.a c.in-Sub.b c.in_ok-a-in-Sub.a c.in_ok-b-in-Sub.b (subst (Stands (terms_of_nodes c.args.pool.now) c.args.n) (sym c.in_ok-node-in-Some.ensures ∙ c.in-Sub.is) c.in-Some.ensures.stands) c.in_ok-a-in-Sub.ensures.replaced c.in_ok-a-in-Sub.ensures.kept c.in_ok-b-in-Sub.ensures.replaced) c.add-in-Sub.ensures.number c.add-in-Sub.ensures.added

pub node_at-returns-in-Sub-clause-sound : goal.node_at-returns-in-Sub-clause-sound
node_at-returns-in-Sub-clause-sound t c = sound_added _ _ _ c.add-in-Sub.result c.add-in-Sub.ensures.added c.in_ok-b-in-Sub.ensures.sound

pub node_at-number_at-requires-in-Mul : goal.node_at-number_at-requires-in-Mul
node_at-number_at-requires-in-Mul t c = (grind (arith, (mul_below c.in-Mul.a c.in-Mul.b (subst (Stands (terms_of_nodes c.args.pool.now) c.args.n) (sym c.in_ok-node-in-Some.ensures ∙ c.in-Mul.is) c.in-Some.ensures.stands)).0), c.requires)

pub node_at-number_at-requires-in-Mul-2 : goal.node_at-number_at-requires-in-Mul-2
node_at-number_at-requires-in-Mul-2 t c = (grind (arith, (mul_below c.in-Mul.a c.in-Mul.b (subst (Stands (terms_of_nodes c.args.pool.now) c.args.n) (sym c.in_ok-node-in-Some.ensures ∙ c.in-Mul.is) c.in-Some.ensures.stands)).1), c.in_ok-a-in-Mul.ensures.sound)

pub node_at-add-requires-in-Mul : goal.node_at-add-requires-in-Mul
node_at-add-requires-in-Mul t c = named (mul_at c.args.pool.now c.args.left c.args.right c.args.n c.in-Mul.a c.in-Mul.b c.in_ok-a-in-Mul.a c.in_ok-b-in-Mul.b (subst (Stands (terms_of_nodes c.args.pool.now) c.args.n) (sym c.in_ok-node-in-Some.ensures ∙ c.in-Mul.is) c.in-Some.ensures.stands) c.in_ok-a-in-Mul.ensures.replaced c.in_ok-a-in-Mul.ensures.kept c.in_ok-b-in-Mul.ensures.replaced) c.requires.left_is c.requires.right_is (subst (Stands (terms_of_nodes c.args.pool.now) c.args.n) (sym c.in_ok-node-in-Some.ensures ∙ c.in-Mul.is) c.in-Some.ensures.stands)

pub node_at-returns-clause-replaced : goal.node_at-returns-clause-replaced
node_at-returns-clause-replaced t c = replaced c.add-in-Mul.new.self c.add-in-Mul.result (mul_at c.args.pool.now c.args.left c.args.right c.args.n c.in-Mul.a c.in-Mul.b c.in_ok-a-in-Mul.a c.in_ok-b-in-Mul.b (subst (Stands (terms_of_nodes c.args.pool.now) c.args.n) (sym c.in_ok-node-in-Some.ensures ∙ c.in-Mul.is) c.in-Some.ensures.stands) c.in_ok-a-in-Mul.ensures.replaced c.in_ok-a-in-Mul.ensures.kept c.in_ok-b-in-Mul.ensures.replaced) c.add-in-Mul.ensures.number c.add-in-Mul.ensures.added

pub node_at-returns-clause-sound : goal.node_at-returns-clause-sound
node_at-returns-clause-sound t c = sound_added _ _ _ c.add-in-Mul.result c.add-in-Mul.ensures.added c.in_ok-b-in-Mul.ensures.sound

pub number_at-returns-then-n-len-clause-replaced : goal.number_at-returns-then-n-len-clause-replaced
number_at-returns-then-n-len-clause-replaced t c = past_at c.args.n c.args.n (grind (arith, c.if-n-len.true, c.len.ensures.len))

pub number_at-returns-in-Some-clause-replaced : goal.number_at-returns-in-Some-clause-replaced
number_at-returns-in-Some-clause-replaced t c = known_at c.len.ensures.pool c.requires (sym c.get.ensures ∙ c.in-Some.is)

pub number_at-returns-clause-sound : goal.number_at-returns-clause-sound
number_at-returns-clause-sound t c = made_sound c.requires (grind (arith, c.if-n-len.false, c.len.ensures.len)) c.in_ok-m.ensures.replaced c.in_ok-m.ensures.kept c.in_ok-m.ensures.sound c.in_ok-keep.ensures

pub numbers_at-loop-n-init : goal.numbers_at-loop-n-init
numbers_at-loop-n-init t c = record {
  replaced = subst (λ l. NumbersAt c.args.pool.now c.args.pool.now c.args.left c.args.right [] l) (sym c.new-all.ensures) (numbers_none c.args.pool.now c.args.left c.args.right);
  sound = c.requires;
  kept = extends_none c.args.pool.now;
}

pub numbers_at-number_at-requires : goal.numbers_at-number_at-requires
numbers_at-number_at-requires t c = (grind (arith, number_item c.args.numbers.now c.loop-n.n-index 0 c.loop-n-test.true), c.loop-n.invariant.sound)

pub numbers_at-loop-n-preserved : goal.numbers_at-loop-n-preserved
numbers_at-loop-n-preserved t c =
    let numbers = c.args.numbers.now in
    let i = c.loop-n.n-index in
    record {
      replaced = subst (λ l. NumbersAt c.args.pool.now c.number_at.new.pool c.args.left c.args.right (take (i + 1) numbers) l) (sym c.in_ok-push.ensures.ok)
          (numbers_next numbers i 0 c.loop-n.all c.in_ok-m.m c.loop-n.invariant.replaced c.loop-n.invariant.kept c.in_ok-m.ensures.replaced c.loop-n-test.true);
      sound = c.in_ok-m.ensures.sound;
      kept = extends_both _ _ _ c.loop-n.invariant.kept c.in_ok-m.ensures.kept;
    }

pub numbers_at-returns-clause-replaced : goal.numbers_at-returns-clause-replaced
numbers_at-returns-clause-replaced t c = subst (λ l. NumbersAt c.args.pool.now c.loop-n.pool c.args.left c.args.right l c.loop-n.all) (take_all c.loop-n.n-index c.args.numbers.now (omega arith)) c.loop-n.invariant.replaced
