use Rattle.std.proofs.Common.{◌+◌, inl, None, Some, sym, subst, ◌∙◌}
use Rattle.std.proofs.lemmas.List.{append-nil}
use Rattle.pec_top.specs.Input.{IsRefusedWithin}
use Rattle.pec_top.proofs.Accepted.{one_refused, turn_accepted}
use Rattle.pec_top.proofs.input.text_input.Goals.{in-Item+in_ok-push-in-Item, in-Nothing}
use Rattle.pec_top.proofs.input.text_input.Goals as goal

pub returns-in-Refused : goal.returns-in-Refused
returns-in-Refused c =
    inl (subst (λ z. IsRefusedWithin c.args.command z (record { section = c.loop-section.number + 1; reason = c.in-Refused.reason })) c.as_slice-section-items.ensures
    (one_refused c.args.command _ _ _ _ _ c.section-item.result c.loop-section.invariant c.loop-section-test.true c.section-item.is c.in-Refused.reason
    (rw c.in-Refused.is at c.in_ok-item.ensures.found)))

pub loop-section-preserved : goal.loop-section-preserved
loop-section-preserved c =
    elim c.match-branch-2.branch [
      | in-Item+in_ok-push-in-Item w ↦
          turn_accepted c.args.command _ _ _ _ _ c.section-item.result c.loop-section.invariant c.loop-section-test.true c.section-item.is _ _ _
          (Some w.in-Item.item) c.in_ok-item.ensures.found w.in-Item.is (w.items-is ∙ w.in_ok-push-in-Item.ensures.ok) c.in_ok-item.ensures.titles
      | in-Nothing w ↦
          turn_accepted c.args.command _ _ _ _ _ c.section-item.result c.loop-section.invariant c.loop-section-test.true c.section-item.is _ _ _
          None c.in_ok-item.ensures.found w.in-Nothing.is (w.items-is ∙ sym (append-nil _)) c.in_ok-item.ensures.titles
    ]
