-- A table is looked through from its last entry: the first that is of the run counts.
use Rattle.std.specs.Prelude.{◌≡◌, ℕ, zero, suc, ◌-◌, ◌<◌, ◌≤◌, Bool, true, false, cond, ◌&&◌, ◌==◌, List, [], ◌∷◌, drop, length, get_or, Option, Some, None, refl}
use Rattle.std.proofs.Common.{sym, ◌∙◌, ap, subst, arith, drop-cons}
use Rattle.toy_imp.specs.Store.{Store}
use Rattle.term_meaning.specs.SameStore.{same_store}
use Rattle.term_meaning.specs.Table.{older, look}
use Rattle.term_run.specs.declared.meant.Run.{Run}
use Rattle.term_run.specs.Cells.{store_by}
use Rattle.term_run.specs.Meant.{entry_of, table_of}

abbrev pub is_of : Run → ℕ → Store → Bool
is_of run k s = run.statement == k && same_store (store_by run.from) s

-- nothing is said by no entry
pub look_end : (table : List Run) (k : ℕ) (s : Store) → look (table_of (drop (length table) table)) k s ≡ None
unfolding look
look_end [] k s = refl
look_end (run ∷ table) k s = look_end table k s

-- what the entries from number suc i on do not say, the one of number i may say
look_here : (table : List Run) (i : ℕ) (d : Run) (k : ℕ) (s : Store) → i < length table → look (table_of (drop (suc i) table)) k s ≡ None → look (table_of (drop i table)) k s ≡ cond (is_of (get_or table i d) k s) (Some (entry_of (get_or table i d)).to) None
unfolding look
look_here table i d k s below none =
    ap (λ t. look (table_of t) k s) (drop-cons table i d below) ∙ ap (λ o. older o (cond (is_of (get_or table i d) k s) (Some (entry_of (get_or table i d)).to) None)) none

look_past : (table : List Run) (i : ℕ) (d : Run) (k : ℕ) (s : Store) → i < length table → is_of (get_or table i d) k s ≡ false → look (table_of (drop (suc i) table)) k s ≡ None → look (table_of (drop i table)) k s ≡ None
look_past table i d k s below other none = look_here table i d k s below none ∙ ap (λ b. cond b (Some (entry_of (get_or table i d)).to) None) other

-- what a later part of the table says, the table says
look_later : (table : List Run) (i : ℕ) (k : ℕ) (s : Store) (o : Option Store) → look (table_of (drop i table)) k s ≡ Some o → look (table_of table) k s ≡ Some o
unfolding look
look_later table zero k s o said = said
look_later [] (suc i) k s o said = said
look_later (run ∷ table) (suc i) k s o said = ap (λ p. older p (cond (is_of run k s) (Some (entry_of run).to) None)) (look_later table i k s o said)

look_found : (table : List Run) (i : ℕ) (d : Run) (k : ℕ) (s : Store) → i < length table → is_of (get_or table i d) k s ≡ true → look (table_of (drop (suc i) table)) k s ≡ None → look (table_of table) k s ≡ Some (entry_of (get_or table i d)).to
look_found table i d k s below here none = look_later table i k s _ (look_here table i d k s below none ∙ ap (λ b. cond b (Some (entry_of (get_or table i d)).to) None) here)

-- a turn of the search: entry number i - 1 is looked at
pub look_before : (table : List Run) (i : ℕ) (d : Run) (k : ℕ) (s : Store) → 0 < i → i ≤ length table → d ≡ get_or table (i - 1) d → is_of d k s ≡ false → look (table_of (drop i table)) k s ≡ None → look (table_of (drop (i - 1) table)) k s ≡ None
look_before table i d k s some within at other none =
    let e : i ≡ suc (i - 1) = omega arith in
    look_past table (i - 1) d k s (omega arith) (ap (λ r. is_of r k s) (sym at) ∙ other) (subst (λ n. look (table_of (drop n table)) k s ≡ None) e none)

pub look_hit : (table : List Run) (i : ℕ) (d : Run) (k : ℕ) (s : Store) → 0 < i → i ≤ length table → d ≡ get_or table (i - 1) d → is_of d k s ≡ true → look (table_of (drop i table)) k s ≡ None → look (table_of table) k s ≡ Some (entry_of d).to
look_hit table i d k s some within at here none =
    let e : i ≡ suc (i - 1) = omega arith in
    look_found table (i - 1) d k s (omega arith) (ap (λ r. is_of r k s) (sym at) ∙ here) (subst (λ n. look (table_of (drop n table)) k s ≡ None) e none) ∙ ap (λ r. Some (entry_of r).to) (sym at)
