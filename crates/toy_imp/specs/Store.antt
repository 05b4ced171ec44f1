-- A store is a finite map from cells to whole numbers other than 0; a cell that is absent holds 0.
-- Writing 0 removes a cell, so two stores that agree at every cell are the same store.
use Rattle.std.specs.Prelude.{◌≡◌, ◌≢◌, ℤ, pos, Bool, true, false, cond, Option, Some, None, refl}
use Rattle.std.proofs.Common.{sym, ◌∙◌, ap, true≢false}
use Rattle.std.specs.Ordering.{int_eq}
use Rattle.std.specs.Cmp.{IsTotalOrder}
use Rattle.std.proofs.lemmas.Cmp.{int_cmp_total, int_eq_equiv, nat_list_cmp_total, lists_total, then_total, on_total}
use Rattle.std.specs.FinMap as map
use Rattle.toy_imp.specs.Cell.{Cell, cell_cmp}

pub record Store : Type 0 where
  pub cells : map.FinMap cell_cmp ℤ
  pub nonzero : (c : Cell) → map.get cells c ≢ Some (pos 0)

-- what a cell holds by what the map has of it
abbrev pub held : Option ℤ → ℤ
held None = pos 0
held (Some v) = v

unfoldable pub read : Store → Cell → ℤ
read s c = held (map.get s.cells c)

pub cell_total : IsTotalOrder cell_cmp
cell_total = then_total (on_total (λ (c : Cell). c.0) nat_list_cmp_total) (on_total (λ (c : Cell). c.1) (lists_total int_cmp_total))

none_or : (b : Bool) (o : Option ℤ) → o ≢ Some (pos 0) → cond b None o ≢ Some (pos 0)
none_or true o h e = cc
none_or false o h e = h e

some_or : (b : Bool) (v : ℤ) (o : Option ℤ) → v ≢ pos 0 → o ≢ Some (pos 0) → cond b (Some v) o ≢ Some (pos 0)
some_or true v o nonzero h e = nonzero (ap held e)
some_or false v o nonzero h e = h e

not_zero : (v : ℤ) → int_eq v (pos 0) ≡ false → v ≢ pos 0
not_zero v tested e = true≢false (sym (int_eq_equiv.refl (pos 0)) ∙ ap (λ z. int_eq z (pos 0)) (sym e) ∙ tested)

pub removed_nonzero : (s : Store) (c q : Cell) → map.get (map.remove s.cells c) q ≢ Some (pos 0)
removed_nonzero s c q = rw (map.get-remove cell_total s.cells c q) (none_or _ _ (s.nonzero q))

pub inserted_nonzero : (s : Store) (c : Cell) (v : ℤ) → int_eq v (pos 0) ≡ false → (q : Cell) → map.get (map.insert s.cells c v) q ≢ Some (pos 0)
inserted_nonzero s c v tested q = rw (map.get-insert cell_total s.cells c v q) (some_or _ v _ (not_zero v tested) (s.nonzero q))

-- the store with v in c, by whether v is 0
unfoldable pub written : Store → Cell → (v : ℤ) (b : Bool) → int_eq v (pos 0) ≡ b → Store
written s c v true is_zero = record { cells = map.remove s.cells c; nonzero = removed_nonzero s c }
written s c v false is_zero = record { cells = map.insert s.cells c v; nonzero = inserted_nonzero s c v is_zero }

unfoldable pub write : Store → Cell → ℤ → Store
write s c v = written s c v (int_eq v (pos 0)) refl
