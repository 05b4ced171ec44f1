-- What two paths that are taken together tell of an outcome of one side, where they do not both stop at points and their stores are
-- equal: the other side has it too, or there is the answer A.
use Rattle.std.specs.Prelude.{◌≡◌, ℕ, List, Some}
use Rattle.std.proofs.Common.{sym, ◌∙◌, ap, subst, inl, inr}
use Rattle.toy_imp.specs.declared.instance.Instance.{Instance}
use Rattle.toy_imp.specs.Ends.{Reaches, Halts, IsQuiet}
use Rattle.toy_imp.specs.Fill.{block_at}
use Rattle.toy_imp.specs.Run.{Item, Outcome, ended, halted}
use Rattle.toy_imp.specs.Store.{Store}
use Rattle.toy_imp.proofs.Runs.{one_outcome}
use Rattle.rule_terms.specs.Term.{StoreTerm}
use Rattle.term_meaning.specs.Meaning.{store_of}
use Rattle.term_meaning.specs.Table.{Entry}
use Rattle.term_meaning.proofs.Agreeing.{some_equal}
use Rattle.path_pairs.specs.PathLaws.{HaltsThere, StuckThere}

module _ (A : Type 0) (i : Instance) (T : List Entry) (l r : Store) (here there : List Item) (s q : Store) (u v : StoreTerm) where
  same_stores : (m n : Store) → store_of i T l r u ≡ Some m → store_of i T l r v ≡ Some n → store_of i T l r u ≡ store_of i T l r v → m ≡ n
  same_stores m n a b e = some_equal m n (sym a ∙ e ∙ b)

  -- both halt, in equal stores: the one outcome is that of the other side too
  pub both_halted : HaltsThere i T l r here s u → HaltsThere i T l r there q v → store_of i T l r u ≡ store_of i T l r v
      → (o : Outcome) → Reaches here s o → (Reaches there q o → A) → A
  both_halted h g e o run ret =
      let same : h.store ≡ g.store = same_stores h.store g.store h.means g.means e in
      let is : halted g.store ≡ o = ap halted (sym same) ∙ one_outcome here s (halted h.store) o h.halts run in
      ret (subst (λ p. Reaches there q p) is g.halts)

  -- both are stuck before one statement parameter, in equal stores: an end gives the answer, and a halt is that of the parameter's block
  pub both_stuck : (k : ℕ) → StuckThere A i T l r here s u k → StuckThere A i T l r there q v k → store_of i T l r u ≡ store_of i T l r v
      → (o : Outcome) → Reaches here s o → (Reaches there q o → A) → A
  both_stuck k h g e (ended t) run ret = h.never_ends t run
  both_stuck k h g e (halted t) run ret =
      let same : h.store ≡ g.store = same_stores h.store g.store h.means g.means e in
      elim (h.halts_by_it t run) [
        | inl block ↦ ret (g.halts t (subst (λ m. Halts (block_at i k) m t) same block))
        | inr answer ↦ answer
      ]

-- stuck before a statement parameter that is quiet: whatever comes out gives the answer, wherever the other side is
pub quiet_stuck : (A : Type 0) (i : Instance) (T : List Entry) (l r : Store) (here : List Item) (s : Store) (u : StoreTerm) (k : ℕ) → StuckThere A i T l r here s u k → IsQuiet (block_at i k) → (o : Outcome) → Reaches here s o → A
quiet_stuck A i T l r here s u k h quiet (ended t) run = h.never_ends t run
quiet_stuck A i T l r here s u k h quiet (halted t) run =
    elim (h.halts_by_it t run) [
      | inl block ↦ absurd (quiet.never h.store t block)
      | inr answer ↦ answer
    ]
