use Rattle.std.proofs.Common.{arith, ◌≡◌, IfOk, ◌∙◌, ap, subst}
use Rattle.rule_terms.specs.Term.{put, run, get, ev, add, sub, mul}
use Rattle.rule_terms.specs.TermView.{terms_of}
use Rattle.term_pool.specs.Numbered.{terms_of_nodes, values_numbered, Stands}
use Rattle.term_pool.proofs.Rebuilt.{put_below, run_below, get_below, ev_below, add_below, sub_below, mul_below, put_is, run_is, get_is, ev_is, add_is, sub_is, mul_is, next_index}
use Rattle.term_pool.proofs.pool.Pool.+build.Goals as goal

pub store-store-requires : goal.store-store-requires
store-store-requires t c = (grind (arith, (put_below c.in-Put.s c.in-Put.v c.in-Put.p (subst (Stands (terms_of_nodes c.args.self.now) c.args.at) c.in-Put.is c.in-Some.ensures.stands)).0), tt)

pub store-values-requires : goal.store-values-requires
store-values-requires t c = (grind (arith, (put_below c.in-Put.s c.in-Put.v c.in-Put.p (subst (Stands (terms_of_nodes c.args.self.now) c.args.at) c.in-Put.is c.in-Some.ensures.stands)).1, c.as_slice.ensures), tt)

pub store-value-requires : goal.store-value-requires
store-value-requires t c = (grind (arith, (put_below c.in-Put.s c.in-Put.v c.in-Put.p (subst (Stands (terms_of_nodes c.args.self.now) c.args.at) c.in-Put.is c.in-Some.ensures.stands)).2), tt)

pub store-store-requires-in-Run : goal.store-store-requires-in-Run
store-store-requires-in-Run t c = (grind (arith, run_below c.in-Run.k c.in-Run.s (subst (Stands (terms_of_nodes c.args.self.now) c.args.at) c.in-Run.is c.in-Some.ensures.stands)), tt)

pub value-values-requires : goal.value-values-requires
value-values-requires t c = (grind (arith, (get_below c.in-Get.p c.in-Get.s (subst (Stands (terms_of_nodes c.args.self.now) c.args.at) c.in-Get.is c.in-Some.ensures.stands)).0, c.as_slice.ensures), tt)

pub value-store-requires : goal.value-store-requires
value-store-requires t c = (grind (arith, (get_below c.in-Get.p c.in-Get.s (subst (Stands (terms_of_nodes c.args.self.now) c.args.at) c.in-Get.is c.in-Some.ensures.stands)).1), tt)

pub value-store-requires-in-Ev : goal.value-store-requires-in-Ev
value-store-requires-in-Ev t c = (grind (arith, ev_below c.in-Ev.k c.in-Ev.s (subst (Stands (terms_of_nodes c.args.self.now) c.args.at) c.in-Ev.is c.in-Some.ensures.stands)), tt)

pub value-value-requires : goal.value-value-requires
value-value-requires t c = (grind (arith, (add_below c.in-Add.a c.in-Add.b (subst (Stands (terms_of_nodes c.args.self.now) c.args.at) c.in-Add.is c.in-Some.ensures.stands)).0), tt)

pub value-value-requires-in-Add : goal.value-value-requires-in-Add
value-value-requires-in-Add t c = (grind (arith, (add_below c.in-Add.a c.in-Add.b (subst (Stands (terms_of_nodes c.args.self.now) c.args.at) c.in-Add.is c.in-Some.ensures.stands)).1), tt)

pub value-value-requires-in-Sub : goal.value-value-requires-in-Sub
value-value-requires-in-Sub t c = (grind (arith, (sub_below c.in-Sub.a c.in-Sub.b (subst (Stands (terms_of_nodes c.args.self.now) c.args.at) c.in-Sub.is c.in-Some.ensures.stands)).0), tt)

pub value-value-requires-in-Sub-2 : goal.value-value-requires-in-Sub-2
value-value-requires-in-Sub-2 t c = (grind (arith, (sub_below c.in-Sub.a c.in-Sub.b (subst (Stands (terms_of_nodes c.args.self.now) c.args.at) c.in-Sub.is c.in-Some.ensures.stands)).1), tt)

pub value-value-requires-in-Mul : goal.value-value-requires-in-Mul
value-value-requires-in-Mul t c = (grind (arith, (mul_below c.in-Mul.a c.in-Mul.b (subst (Stands (terms_of_nodes c.args.self.now) c.args.at) c.in-Mul.is c.in-Some.ensures.stands)).0), tt)

pub value-value-requires-in-Mul-2 : goal.value-value-requires-in-Mul-2
value-value-requires-in-Mul-2 t c = (grind (arith, (mul_below c.in-Mul.a c.in-Mul.b (subst (Stands (terms_of_nodes c.args.self.now) c.args.at) c.in-Mul.is c.in-Some.ensures.stands)).1), tt)

pub store-returns-in_ok-v-in-Put : goal.store-returns-in_ok-v-in-Put
store-returns-in_ok-v-in-Put t c = subst (λ u. IfOk c.put.result (λ s. s ≡ u)) ((λ j. put (c.in_ok-s-in-Put.ensures j) c.in-Put.p.name ((c.in_ok-indices-in-Put.ensures ∙ ap (values_numbered (terms_of_nodes c.args.self.now)) c.as_slice.ensures) j) (c.in_ok-v-in-Put.ensures j))
    ∙ put_is c.in-Put.s c.in-Put.v c.in-Put.p (subst (Stands (terms_of_nodes c.args.self.now) c.args.at) c.in-Put.is c.in-Some.ensures.stands)) c.put.ensures

pub store-returns-in_ok-s-in-Run : goal.store-returns-in_ok-s-in-Run
store-returns-in_ok-s-in-Run t c = subst (λ u. IfOk c.run.result (λ s. s ≡ u)) (ap (run c.in-Run.k) c.in_ok-s-in-Run.ensures ∙ run_is c.in-Run.k c.in-Run.s (subst (Stands (terms_of_nodes c.args.self.now) c.args.at) c.in-Run.is c.in-Some.ensures.stands)) c.run.ensures

pub value-returns-in_ok-s-in-Get : goal.value-returns-in_ok-s-in-Get
value-returns-in_ok-s-in-Get t c = subst (λ u. IfOk c.get.result (λ s. s ≡ u)) ((λ j. get c.in-Get.p.name ((c.in_ok-indices-in-Get.ensures ∙ ap (values_numbered (terms_of_nodes c.args.self.now)) c.as_slice.ensures) j) (c.in_ok-s-in-Get.ensures j))
    ∙ get_is c.in-Get.p c.in-Get.s (subst (Stands (terms_of_nodes c.args.self.now) c.args.at) c.in-Get.is c.in-Some.ensures.stands)) c.get.ensures

pub value-returns-in_ok-s-in-Ev : goal.value-returns-in_ok-s-in-Ev
value-returns-in_ok-s-in-Ev t c = subst (λ u. IfOk c.ev.result (λ s. s ≡ u)) (ap (ev c.in-Ev.k) c.in_ok-s-in-Ev.ensures ∙ ev_is c.in-Ev.k c.in-Ev.s (subst (Stands (terms_of_nodes c.args.self.now) c.args.at) c.in-Ev.is c.in-Some.ensures.stands)) c.ev.ensures

pub value-returns-in_ok-b-in-Add : goal.value-returns-in_ok-b-in-Add
value-returns-in_ok-b-in-Add t c = subst (λ u. IfOk c.add.result (λ s. s ≡ u)) ((λ j. add (c.in_ok-a-in-Add.ensures j) (c.in_ok-b-in-Add.ensures j)) ∙ add_is c.in-Add.a c.in-Add.b (subst (Stands (terms_of_nodes c.args.self.now) c.args.at) c.in-Add.is c.in-Some.ensures.stands)) c.add.ensures

pub value-returns-in_ok-b-in-Sub : goal.value-returns-in_ok-b-in-Sub
value-returns-in_ok-b-in-Sub t c = subst (λ u. IfOk c.sub.result (λ s. s ≡ u)) ((λ j. sub (c.in_ok-a-in-Sub.ensures j) (c.in_ok-b-in-Sub.ensures j)) ∙ sub_is c.in-Sub.a c.in-Sub.b (subst (Stands (terms_of_nodes c.args.self.now) c.args.at) c.in-Sub.is c.in-Some.ensures.stands)) c.sub.ensures

pub value-returns-in_ok-b-in-Mul : goal.value-returns-in_ok-b-in-Mul
value-returns-in_ok-b-in-Mul t c = subst (λ u. IfOk c.mul.result (λ s. s ≡ u)) ((λ j. mul (c.in_ok-a-in-Mul.ensures j) (c.in_ok-b-in-Mul.ensures j)) ∙ mul_is c.in-Mul.a c.in-Mul.b (subst (Stands (terms_of_nodes c.args.self.now) c.args.at) c.in-Mul.is c.in-Some.ensures.stands)) c.mul.ensures

pub values-loop-n-preserved : goal.values-loop-n-preserved
values-loop-n-preserved t c =
    ap terms_of c.in_ok-push.ensures.ok
    ∙ next_index (terms_of_nodes c.args.self.now) c.args.numbers.now c.loop-n.n-index 0 c.loop-n.all c.in_ok-v.v c.loop-n.invariant c.in_ok-v.ensures c.loop-n-test.true
