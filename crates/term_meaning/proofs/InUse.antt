-- How an obligation that holds, and what a table says of a run, are used where an answer is shown.
use Rattle.std.specs.Prelude.{◌≡◌, ℕ, Bool, true, false, ◌&&◌, List, [], ◌∷◌, map, Some, None, refl}
use Rattle.std.specs.List.{list_all}
use Rattle.std.proofs.Common.{ap, subst}
use Rattle.toy_imp.specs.declared.instance.Filling.{Filling}
use Rattle.toy_imp.specs.declared.instance.Instance.{Instance}
use Rattle.toy_imp.specs.declared.param.Param.{Param}
use Rattle.toy_imp.specs.Store.{Store}
use Rattle.toy_imp.specs.Ends.{Ends}
use Rattle.toy_imp.specs.Fill.{block_at}
use Rattle.toy_imp.specs.Fits.{fits_kind, fits_params}
use Rattle.toy_imp.specs.Meets.{MeetsAll}
use Rattle.rule_terms.specs.Term.{StoreTerm, run}
use Rattle.rule_terms.specs.declared.obligation.Obligation.{Obligation}
use Rattle.term_meaning.specs.Table.{Entry, AgreesAt, Agrees, Faithful}
use Rattle.term_meaning.specs.Meaning.{store_of, literal_truth, conjunct_truth, CoversStore, CoversObligation, fits_kinds, Reached, ObligationHolds}
use Rattle.term_meaning.proofs.Agreeing.{run_agrees, known_end, by_end}

-- a test is true or false
pub by_truth : (A : Type 0) (b : Bool) → (b ≡ true → A) → (b ≡ false → A) → A
by_truth A true on_true on_false = on_true refl
by_truth A false on_true on_false = on_false refl

pub gives_goal : (ob : Obligation) → ObligationHolds ob → (f : ℕ → Bool) (i : Instance) → fits_kinds ob.params i.fillings ≡ true → MeetsAll i ob.conditions → (T : List Entry) (l r : Store) → Faithful (Reached f) i T → CoversObligation i T l r ob → list_all (conjunct_truth i T l r) ob.known ≡ true → list_all (literal_truth i T l r) ob.path ≡ true → (conjunct_truth i T l r ob.goal ≡ true → Reached f) → Reached f
gives_goal ob holds f i fits meets T l r faithful covers known path ret =
    by_truth (Reached f) (conjunct_truth i T l r ob.goal) ret (λ fails. holds.shows f i fits meets T l r faithful covers known path fails)

module _ (A : Type 0) (i : Instance) (T : List Entry) (l r : Store) (f : Faithful A i T) (k : ℕ) (u : StoreTerm) (c : CoversStore i T l r (run k u)) (s : Store) (is_s : store_of i T l r u ≡ Some s) where
  -- what the table says of the run from s is so
  pub told_agrees : Agrees A i k s (store_of i T l r (run k u))
  told_agrees = subst (λ o. AgreesAt A i k o (store_of i T l r (run k u))) is_s (run_agrees A i T l r f k u c)

  pub known_run : (t : Store) → Ends (block_at i k) s t → (store_of i T l r (run k u) ≡ Some t → A) → A
  known_run t ends ret = known_end A i k s t _ ends told_agrees ret

  pub run_goes_on : (store_of i T l r (run k u) ≡ None → A) → ((t : Store) → store_of i T l r (run k u) ≡ Some t → Ends (block_at i k) s t → A) → A
  run_goes_on stops goes = by_end A i k s _ told_agrees stops goes

pub kinds_fit : (params : List Param) (fillings : List Filling) → fits_kinds (map (λ p. p.kind) params) fillings ≡ fits_params params fillings
kinds_fit [] [] = refl
kinds_fit [] (f ∷ fs) = refl
kinds_fit (p ∷ ps) [] = refl
kinds_fit (p ∷ ps) (f ∷ fs) = ap (λ b. fits_kind p.kind f && b) (kinds_fit ps fs)
