use Rattle.std.proofs.Common.{rules, sym, subst, refl}
use Rattle.rule_terms.specs.declared.obligation.Atom.TheVariants as tree
use Rattle.term_pool.specs.ObligationTerms.{atom_terms}
use Rattle.term_pool.specs.Pooled.{AtomOf}
use Rattle.term_pool.proofs.Growing.{adds_both, adds_nothing}
use Rattle.term_pool.proofs.PutItems.{same_name_of, same_store_of, same_value_of, at_most_of, ends_of, holds_of, shaped}
use Rattle.term_pool.proofs.pool.Pool.put_atom.Goals as goal

pub returns-in-SameName-clause-stands : goal.returns-in-SameName-clause-stands
returns-in-SameName-clause-stands c = subst (AtomOf c.args.self.now _) (sym c.in-SameName.is) (same_name_of c.args.self.now c.in-SameName.x c.in-SameName.y)

pub returns-in-SameName-clause-added : goal.returns-in-SameName-clause-added
unfolding atom_terms
returns-in-SameName-clause-added c = shaped (tree.SameName c.in-SameName.x c.in-SameName.y) c.args.a.now c.in-SameName.is refl (adds_nothing c.args.self.now)

pub returns-in_ok-b-in-SameStore-clause-stands : goal.returns-in_ok-b-in-SameStore-clause-stands
returns-in_ok-b-in-SameStore-clause-stands c = subst (AtomOf c.put_store-in-SameStore.new.self _) (sym c.in-SameStore.is) (same_store_of c.in_ok-a-in-SameStore.a c.in_ok-b-in-SameStore.b c.in-SameStore.a c.in-SameStore.b c.in_ok-a-in-SameStore.ensures.number c.in_ok-b-in-SameStore.ensures.added c.in_ok-b-in-SameStore.ensures.number)

pub returns-in_ok-b-in-SameStore-clause-added : goal.returns-in_ok-b-in-SameStore-clause-added
unfolding atom_terms
returns-in_ok-b-in-SameStore-clause-added c = shaped (tree.SameStore c.in-SameStore.a c.in-SameStore.b) c.args.a.now c.in-SameStore.is refl (adds_both c.in_ok-a-in-SameStore.ensures.added c.in_ok-b-in-SameStore.ensures.added)

pub returns-in_ok-b-in-SameValue-clause-stands : goal.returns-in_ok-b-in-SameValue-clause-stands
returns-in_ok-b-in-SameValue-clause-stands c = subst (AtomOf c.put_value-in-SameValue.new.self _) (sym c.in-SameValue.is) (same_value_of c.in_ok-a-in-SameValue.a c.in_ok-b-in-SameValue.b c.in-SameValue.a c.in-SameValue.b c.in_ok-a-in-SameValue.ensures.number c.in_ok-b-in-SameValue.ensures.added c.in_ok-b-in-SameValue.ensures.number)

pub returns-in_ok-b-in-SameValue-clause-added : goal.returns-in_ok-b-in-SameValue-clause-added
unfolding atom_terms
returns-in_ok-b-in-SameValue-clause-added c = shaped (tree.SameValue c.in-SameValue.a c.in-SameValue.b) c.args.a.now c.in-SameValue.is refl (adds_both c.in_ok-a-in-SameValue.ensures.added c.in_ok-b-in-SameValue.ensures.added)

pub returns-in_ok-b-in-AtMost-clause-stands : goal.returns-in_ok-b-in-AtMost-clause-stands
returns-in_ok-b-in-AtMost-clause-stands c = subst (AtomOf c.put_value-in-AtMost-2.new.self _) (sym c.in-AtMost.is) (at_most_of c.in_ok-a-in-AtMost.a c.in_ok-b-in-AtMost.b c.in-AtMost.a c.in-AtMost.b _ c.in-AtMost.by c.in_ok-a-in-AtMost.ensures.number c.in_ok-b-in-AtMost.ensures.added c.in_ok-b-in-AtMost.ensures.number (search rules))

pub returns-in_ok-b-in-AtMost-clause-added : goal.returns-in_ok-b-in-AtMost-clause-added
unfolding atom_terms
returns-in_ok-b-in-AtMost-clause-added c = shaped (tree.AtMost c.in-AtMost.a c.in-AtMost.b c.in-AtMost.by) c.args.a.now c.in-AtMost.is refl (adds_both c.in_ok-a-in-AtMost.ensures.added c.in_ok-b-in-AtMost.ensures.added)

pub returns-in_ok-put_store-in-Ends-clause-stands : goal.returns-in_ok-put_store-in-Ends-clause-stands
returns-in_ok-put_store-in-Ends-clause-stands c = subst (AtomOf c.put_store-in-Ends.new.self _) (sym c.in-Ends.is) (ends_of c.put_store-in-Ends.new.self c.in_ok-put_store-in-Ends.field-0 c.in-Ends.s c.in_ok-put_store-in-Ends.ensures.number)

pub returns-in_ok-put_store-in-Ends-clause-added : goal.returns-in_ok-put_store-in-Ends-clause-added
unfolding atom_terms
returns-in_ok-put_store-in-Ends-clause-added c = shaped (tree.Ends c.in-Ends.s) c.args.a.now c.in-Ends.is refl (c.in_ok-put_store-in-Ends.ensures.added)

pub returns-in_ok-put_store-in-Holds-clause-stands : goal.returns-in_ok-put_store-in-Holds-clause-stands
returns-in_ok-put_store-in-Holds-clause-stands c = subst (AtomOf c.put_store-in-Holds.new.self _) (sym c.in-Holds.is) (holds_of c.put_store-in-Holds.new.self c.in-Holds.k c.in_ok-put_store-in-Holds.field-0 c.in-Holds.s c.in_ok-put_store-in-Holds.ensures.number)

pub returns-in_ok-put_store-in-Holds-clause-added : goal.returns-in_ok-put_store-in-Holds-clause-added
unfolding atom_terms
returns-in_ok-put_store-in-Holds-clause-added c = shaped (tree.Holds c.in-Holds.k c.in-Holds.s) c.args.a.now c.in-Holds.is refl (c.in_ok-put_store-in-Holds.ensures.added)
