use Rattle.std.proofs.Common.{◌+◌, sym, ◌∙◌, ap, subst, take}
use Rattle.rule_terms.specs.Term.{put, run, get, ev, add, sub, mul}
use Rattle.rule_terms.specs.TermView.{terms_of, store_of, value_of}
use Rattle.term_pool.specs.Numbered.{AreNumbers}
use Rattle.term_pool.proofs.PutTerms.{ready_number, ready_added, left_ready, right_ready, put_ready, run_ready, get_ready, ev_ready, add_ready, sub_ready, mul_ready, next_adds, next_numbers, no_indices, no_growth}
use Rattle.term_pool.proofs.pool.Pool.+put_term.Goals as goal

pub put_store-add-requires : goal.put_store-add-requires
put_store-add-requires t c = (left_ready c.args.self.now c.args.s.now (sym c.s.view_is ∙ ap store_of c.in-L.is)).named

pub put_store-returns-in-L-clause-number : goal.put_store-returns-in-L-clause-number
put_store-returns-in-L-clause-number t c = ready_number c.add.result c.add.new.self (left_ready c.args.self.now c.args.s.now (sym c.s.view_is ∙ ap store_of c.in-L.is)) c.add.ensures.number

pub put_store-returns-in-L-clause-added : goal.put_store-returns-in-L-clause-added
put_store-returns-in-L-clause-added t c = ready_added c.add.result c.add.new.self (left_ready c.args.self.now c.args.s.now (sym c.s.view_is ∙ ap store_of c.in-L.is)) c.add.ensures.added

pub put_store-add-requires-in-R : goal.put_store-add-requires-in-R
put_store-add-requires-in-R t c = (right_ready c.args.self.now c.args.s.now (sym c.s.view_is ∙ ap store_of c.in-R.is)).named

pub put_store-returns-in-R-clause-number : goal.put_store-returns-in-R-clause-number
put_store-returns-in-R-clause-number t c = ready_number c.add-in-R.result c.add-in-R.new.self (right_ready c.args.self.now c.args.s.now (sym c.s.view_is ∙ ap store_of c.in-R.is)) c.add-in-R.ensures.number

pub put_store-returns-in-R-clause-added : goal.put_store-returns-in-R-clause-added
put_store-returns-in-R-clause-added t c = ready_added c.add-in-R.result c.add-in-R.new.self (right_ready c.args.self.now c.args.s.now (sym c.s.view_is ∙ ap store_of c.in-R.is)) c.add-in-R.ensures.added

pub put_store-add-requires-in-Put : goal.put_store-add-requires-in-Put
put_store-add-requires-in-Put t c = (put_ready c.in_ok-s-in-Put.s c.p.inside.name c.in_ok-v-in-Put.v c.in_ok-indices-in-Put.indices c.get.result.now (terms_of c.as_slice.result.now) c.get-in-Put.result.now c.args.s.now
    c.in_ok-s-in-Put.ensures.added c.in_ok-s-in-Put.ensures.number c.in_ok-indices-in-Put.ensures.added c.in_ok-indices-in-Put.ensures.numbers c.in_ok-v-in-Put.ensures.added c.in_ok-v-in-Put.ensures.number
    (sym c.s.view_is ∙ ap store_of c.in-Put.is ∙ (λ j. put (sym c.get.ensures j) (sym c.p.view_is j).name (sym c.p.view_is j).indices (sym c.get-in-Put.ensures j)) ∙ ap (λ l. put c.get.result.now c.p.inside.name (terms_of l) c.get-in-Put.result.now) (sym c.as_slice.ensures))).named

pub put_store-returns-in_ok-v-in-Put-clause-number : goal.put_store-returns-in_ok-v-in-Put-clause-number
put_store-returns-in_ok-v-in-Put-clause-number t c = ready_number c.add-in-Put.result c.add-in-Put.new.self (put_ready c.in_ok-s-in-Put.s c.p.inside.name c.in_ok-v-in-Put.v c.in_ok-indices-in-Put.indices c.get.result.now (terms_of c.as_slice.result.now) c.get-in-Put.result.now c.args.s.now
    c.in_ok-s-in-Put.ensures.added c.in_ok-s-in-Put.ensures.number c.in_ok-indices-in-Put.ensures.added c.in_ok-indices-in-Put.ensures.numbers c.in_ok-v-in-Put.ensures.added c.in_ok-v-in-Put.ensures.number
    (sym c.s.view_is ∙ ap store_of c.in-Put.is ∙ (λ j. put (sym c.get.ensures j) (sym c.p.view_is j).name (sym c.p.view_is j).indices (sym c.get-in-Put.ensures j)) ∙ ap (λ l. put c.get.result.now c.p.inside.name (terms_of l) c.get-in-Put.result.now) (sym c.as_slice.ensures))) c.add-in-Put.ensures.number

pub put_store-returns-in_ok-v-in-Put-clause-added : goal.put_store-returns-in_ok-v-in-Put-clause-added
put_store-returns-in_ok-v-in-Put-clause-added t c = ready_added c.add-in-Put.result c.add-in-Put.new.self (put_ready c.in_ok-s-in-Put.s c.p.inside.name c.in_ok-v-in-Put.v c.in_ok-indices-in-Put.indices c.get.result.now (terms_of c.as_slice.result.now) c.get-in-Put.result.now c.args.s.now
    c.in_ok-s-in-Put.ensures.added c.in_ok-s-in-Put.ensures.number c.in_ok-indices-in-Put.ensures.added c.in_ok-indices-in-Put.ensures.numbers c.in_ok-v-in-Put.ensures.added c.in_ok-v-in-Put.ensures.number
    (sym c.s.view_is ∙ ap store_of c.in-Put.is ∙ (λ j. put (sym c.get.ensures j) (sym c.p.view_is j).name (sym c.p.view_is j).indices (sym c.get-in-Put.ensures j)) ∙ ap (λ l. put c.get.result.now c.p.inside.name (terms_of l) c.get-in-Put.result.now) (sym c.as_slice.ensures))) c.add-in-Put.ensures.added

pub put_store-add-requires-in-Run : goal.put_store-add-requires-in-Run
put_store-add-requires-in-Run t c = (run_ready c.in-Run.k c.in_ok-s-in-Run.s c.get-in-Run.result.now c.args.s.now c.in_ok-s-in-Run.ensures.added c.in_ok-s-in-Run.ensures.number
    (sym c.s.view_is ∙ ap store_of c.in-Run.is ∙ ap (run c.in-Run.k) (sym c.get-in-Run.ensures))).named

pub put_store-returns-in_ok-s-in-Run-clause-number : goal.put_store-returns-in_ok-s-in-Run-clause-number
put_store-returns-in_ok-s-in-Run-clause-number t c = ready_number c.add-in-Run.result c.add-in-Run.new.self (run_ready c.in-Run.k c.in_ok-s-in-Run.s c.get-in-Run.result.now c.args.s.now c.in_ok-s-in-Run.ensures.added c.in_ok-s-in-Run.ensures.number
    (sym c.s.view_is ∙ ap store_of c.in-Run.is ∙ ap (run c.in-Run.k) (sym c.get-in-Run.ensures))) c.add-in-Run.ensures.number

pub put_store-returns-in_ok-s-in-Run-clause-added : goal.put_store-returns-in_ok-s-in-Run-clause-added
put_store-returns-in_ok-s-in-Run-clause-added t c = ready_added c.add-in-Run.result c.add-in-Run.new.self (run_ready c.in-Run.k c.in_ok-s-in-Run.s c.get-in-Run.result.now c.args.s.now c.in_ok-s-in-Run.ensures.added c.in_ok-s-in-Run.ensures.number
    (sym c.s.view_is ∙ ap store_of c.in-Run.is ∙ ap (run c.in-Run.k) (sym c.get-in-Run.ensures))) c.add-in-Run.ensures.added

pub put_value-add-requires : goal.put_value-add-requires
put_value-add-requires t c = (get_ready c.p.inside.name c.in_ok-s-in-Get.s c.in_ok-indices-in-Get.indices (terms_of c.as_slice.result.now) c.get.result.now c.args.v.now
    c.in_ok-indices-in-Get.ensures.added c.in_ok-indices-in-Get.ensures.numbers c.in_ok-s-in-Get.ensures.added c.in_ok-s-in-Get.ensures.number
    (sym c.v.view_is ∙ ap value_of c.in-Get.is ∙ (λ j. get (sym c.p.view_is j).name (sym c.p.view_is j).indices (sym c.get.ensures j)) ∙ ap (λ l. get c.p.inside.name (terms_of l) c.get.result.now) (sym c.as_slice.ensures))).named

pub put_value-returns-in_ok-s-in-Get-clause-number : goal.put_value-returns-in_ok-s-in-Get-clause-number
put_value-returns-in_ok-s-in-Get-clause-number t c = ready_number c.add.result c.add.new.self (get_ready c.p.inside.name c.in_ok-s-in-Get.s c.in_ok-indices-in-Get.indices (terms_of c.as_slice.result.now) c.get.result.now c.args.v.now
    c.in_ok-indices-in-Get.ensures.added c.in_ok-indices-in-Get.ensures.numbers c.in_ok-s-in-Get.ensures.added c.in_ok-s-in-Get.ensures.number
    (sym c.v.view_is ∙ ap value_of c.in-Get.is ∙ (λ j. get (sym c.p.view_is j).name (sym c.p.view_is j).indices (sym c.get.ensures j)) ∙ ap (λ l. get c.p.inside.name (terms_of l) c.get.result.now) (sym c.as_slice.ensures))) c.add.ensures.number

pub put_value-returns-in_ok-s-in-Get-clause-added : goal.put_value-returns-in_ok-s-in-Get-clause-added
put_value-returns-in_ok-s-in-Get-clause-added t c = ready_added c.add.result c.add.new.self (get_ready c.p.inside.name c.in_ok-s-in-Get.s c.in_ok-indices-in-Get.indices (terms_of c.as_slice.result.now) c.get.result.now c.args.v.now
    c.in_ok-indices-in-Get.ensures.added c.in_ok-indices-in-Get.ensures.numbers c.in_ok-s-in-Get.ensures.added c.in_ok-s-in-Get.ensures.number
    (sym c.v.view_is ∙ ap value_of c.in-Get.is ∙ (λ j. get (sym c.p.view_is j).name (sym c.p.view_is j).indices (sym c.get.ensures j)) ∙ ap (λ l. get c.p.inside.name (terms_of l) c.get.result.now) (sym c.as_slice.ensures))) c.add.ensures.added

pub put_value-add-requires-in-Ev : goal.put_value-add-requires-in-Ev
put_value-add-requires-in-Ev t c = (ev_ready c.in-Ev.k c.in_ok-s-in-Ev.s c.get-in-Ev.result.now c.args.v.now c.in_ok-s-in-Ev.ensures.added c.in_ok-s-in-Ev.ensures.number
    (sym c.v.view_is ∙ ap value_of c.in-Ev.is ∙ ap (ev c.in-Ev.k) (sym c.get-in-Ev.ensures))).named

pub put_value-returns-in_ok-s-in-Ev-clause-number : goal.put_value-returns-in_ok-s-in-Ev-clause-number
put_value-returns-in_ok-s-in-Ev-clause-number t c = ready_number c.add-in-Ev.result c.add-in-Ev.new.self (ev_ready c.in-Ev.k c.in_ok-s-in-Ev.s c.get-in-Ev.result.now c.args.v.now c.in_ok-s-in-Ev.ensures.added c.in_ok-s-in-Ev.ensures.number
    (sym c.v.view_is ∙ ap value_of c.in-Ev.is ∙ ap (ev c.in-Ev.k) (sym c.get-in-Ev.ensures))) c.add-in-Ev.ensures.number

pub put_value-returns-in_ok-s-in-Ev-clause-added : goal.put_value-returns-in_ok-s-in-Ev-clause-added
put_value-returns-in_ok-s-in-Ev-clause-added t c = ready_added c.add-in-Ev.result c.add-in-Ev.new.self (ev_ready c.in-Ev.k c.in_ok-s-in-Ev.s c.get-in-Ev.result.now c.args.v.now c.in_ok-s-in-Ev.ensures.added c.in_ok-s-in-Ev.ensures.number
    (sym c.v.view_is ∙ ap value_of c.in-Ev.is ∙ ap (ev c.in-Ev.k) (sym c.get-in-Ev.ensures))) c.add-in-Ev.ensures.added

pub put_value-add-requires-in-Add : goal.put_value-add-requires-in-Add
put_value-add-requires-in-Add t c = (add_ready c.in_ok-a-in-Add.a c.in_ok-b-in-Add.b c.get-in-Add.result.now c.get-in-Add-2.result.now c.args.v.now
    c.in_ok-a-in-Add.ensures.added c.in_ok-a-in-Add.ensures.number c.in_ok-b-in-Add.ensures.added c.in_ok-b-in-Add.ensures.number
    (sym c.v.view_is ∙ ap value_of c.in-Add.is ∙ (λ j. add (sym c.get-in-Add.ensures j) (sym c.get-in-Add-2.ensures j)))).named

pub put_value-returns-in_ok-b-in-Add-clause-number : goal.put_value-returns-in_ok-b-in-Add-clause-number
put_value-returns-in_ok-b-in-Add-clause-number t c = ready_number c.add-in-Add.result c.add-in-Add.new.self (add_ready c.in_ok-a-in-Add.a c.in_ok-b-in-Add.b c.get-in-Add.result.now c.get-in-Add-2.result.now c.args.v.now
    c.in_ok-a-in-Add.ensures.added c.in_ok-a-in-Add.ensures.number c.in_ok-b-in-Add.ensures.added c.in_ok-b-in-Add.ensures.number
    (sym c.v.view_is ∙ ap value_of c.in-Add.is ∙ (λ j. add (sym c.get-in-Add.ensures j) (sym c.get-in-Add-2.ensures j)))) c.add-in-Add.ensures.number

pub put_value-returns-in_ok-b-in-Add-clause-added : goal.put_value-returns-in_ok-b-in-Add-clause-added
put_value-returns-in_ok-b-in-Add-clause-added t c = ready_added c.add-in-Add.result c.add-in-Add.new.self (add_ready c.in_ok-a-in-Add.a c.in_ok-b-in-Add.b c.get-in-Add.result.now c.get-in-Add-2.result.now c.args.v.now
    c.in_ok-a-in-Add.ensures.added c.in_ok-a-in-Add.ensures.number c.in_ok-b-in-Add.ensures.added c.in_ok-b-in-Add.ensures.number
    (sym c.v.view_is ∙ ap value_of c.in-Add.is ∙ (λ j. add (sym c.get-in-Add.ensures j) (sym c.get-in-Add-2.ensures j)))) c.add-in-Add.ensures.added

pub put_value-add-requires-in-Sub : goal.put_value-add-requires-in-Sub
put_value-add-requires-in-Sub t c = (sub_ready c.in_ok-a-in-Sub.a c.in_ok-b-in-Sub.b c.get-in-Sub.result.now c.get-in-Sub-2.result.now c.args.v.now
    c.in_ok-a-in-Sub.ensures.added c.in_ok-a-in-Sub.ensures.number c.in_ok-b-in-Sub.ensures.added c.in_ok-b-in-Sub.ensures.number
    (sym c.v.view_is ∙ ap value_of c.in-Sub.is ∙ (λ j. sub (sym c.get-in-Sub.ensures j) (sym c.get-in-Sub-2.ensures j)))).named

pub put_value-returns-in_ok-b-in-Sub-clause-number : goal.put_value-returns-in_ok-b-in-Sub-clause-number
put_value-returns-in_ok-b-in-Sub-clause-number t c = ready_number c.add-in-Sub.result c.add-in-Sub.new.self (sub_ready c.in_ok-a-in-Sub.a c.in_ok-b-in-Sub.b c.get-in-Sub.result.now c.get-in-Sub-2.result.now c.args.v.now
    c.in_ok-a-in-Sub.ensures.added c.in_ok-a-in-Sub.ensures.number c.in_ok-b-in-Sub.ensures.added c.in_ok-b-in-Sub.ensures.number
    (sym c.v.view_is ∙ ap value_of c.in-Sub.is ∙ (λ j. sub (sym c.get-in-Sub.ensures j) (sym c.get-in-Sub-2.ensures j)))) c.add-in-Sub.ensures.number

pub put_value-returns-in_ok-b-in-Sub-clause-added : goal.put_value-returns-in_ok-b-in-Sub-clause-added
put_value-returns-in_ok-b-in-Sub-clause-added t c = ready_added c.add-in-Sub.result c.add-in-Sub.new.self (sub_ready c.in_ok-a-in-Sub.a c.in_ok-b-in-Sub.b c.get-in-Sub.result.now c.get-in-Sub-2.result.now c.args.v.now
    c.in_ok-a-in-Sub.ensures.added c.in_ok-a-in-Sub.ensures.number c.in_ok-b-in-Sub.ensures.added c.in_ok-b-in-Sub.ensures.number
    (sym c.v.view_is ∙ ap value_of c.in-Sub.is ∙ (λ j. sub (sym c.get-in-Sub.ensures j) (sym c.get-in-Sub-2.ensures j)))) c.add-in-Sub.ensures.added

pub put_value-add-requires-in-Mul : goal.put_value-add-requires-in-Mul
put_value-add-requires-in-Mul t c = (mul_ready c.in_ok-a-in-Mul.a c.in_ok-b-in-Mul.b c.get-in-Mul.result.now c.get-in-Mul-2.result.now c.args.v.now
    c.in_ok-a-in-Mul.ensures.added c.in_ok-a-in-Mul.ensures.number c.in_ok-b-in-Mul.ensures.added c.in_ok-b-in-Mul.ensures.number
    (sym c.v.view_is ∙ ap value_of c.in-Mul.is ∙ (λ j. mul (sym c.get-in-Mul.ensures j) (sym c.get-in-Mul-2.ensures j)))).named

pub put_value-returns-in_ok-b-in-Mul-clause-number : goal.put_value-returns-in_ok-b-in-Mul-clause-number
put_value-returns-in_ok-b-in-Mul-clause-number t c = ready_number c.add-in-Mul.result c.add-in-Mul.new.self (mul_ready c.in_ok-a-in-Mul.a c.in_ok-b-in-Mul.b c.get-in-Mul.result.now c.get-in-Mul-2.result.now c.args.v.now
    c.in_ok-a-in-Mul.ensures.added c.in_ok-a-in-Mul.ensures.number c.in_ok-b-in-Mul.ensures.added c.in_ok-b-in-Mul.ensures.number
    (sym c.v.view_is ∙ ap value_of c.in-Mul.is ∙ (λ j. mul (sym c.get-in-Mul.ensures j) (sym c.get-in-Mul-2.ensures j)))) c.add-in-Mul.ensures.number

pub put_value-returns-in_ok-b-in-Mul-clause-added : goal.put_value-returns-in_ok-b-in-Mul-clause-added
put_value-returns-in_ok-b-in-Mul-clause-added t c = ready_added c.add-in-Mul.result c.add-in-Mul.new.self (mul_ready c.in_ok-a-in-Mul.a c.in_ok-b-in-Mul.b c.get-in-Mul.result.now c.get-in-Mul-2.result.now c.args.v.now
    c.in_ok-a-in-Mul.ensures.added c.in_ok-a-in-Mul.ensures.number c.in_ok-b-in-Mul.ensures.added c.in_ok-b-in-Mul.ensures.number
    (sym c.v.view_is ∙ ap value_of c.in-Mul.is ∙ (λ j. mul (sym c.get-in-Mul.ensures j) (sym c.get-in-Mul-2.ensures j)))) c.add-in-Mul.ensures.added

pub put_values-loop-v-init : goal.put_values-loop-v-init
put_values-loop-v-init t c = record {
  numbers = subst (λ l. AreNumbers c.args.self.now l (terms_of (take 0 c.args.items.now))) (sym c.new-all.ensures) (no_indices c.args.self.now c.args.items.now);
  added = no_growth c.args.self.now c.args.items.now;
}

pub put_values-loop-v-preserved : goal.put_values-loop-v-preserved
put_values-loop-v-preserved t c =
    let items = c.args.items.now in
    let i = c.loop-v.v-index in
    record {
      numbers = subst (λ l. AreNumbers c.put_value.new.self l (terms_of (take (i + 1) items))) (sym c.in_ok-push.ensures.ok)
          (next_numbers items i c.v-item.result c.loop-v.all c.in_ok-n.n c.loop-v.invariant.numbers c.in_ok-n.ensures.added c.in_ok-n.ensures.number c.loop-v-test.true c.v-item.is);
      added = next_adds items i c.v-item.result c.loop-v.invariant.added c.in_ok-n.ensures.added c.loop-v-test.true c.v-item.is;
    }
