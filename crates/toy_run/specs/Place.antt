-- Cells are listed in the order of their names' bytes, then of the number of their indices, then of their indices.
-- A place is a cell as the machine holds it, and a store is what its entries, written one after another, make.
use Rattle.std.specs.Prelude.{length}
use Rattle.std.specs.Ordering.{nat_cmp, int_cmp, ordering_then}
use Rattle.std.specs.declared.cmp.Ordering.{Ordering}
use Rattle.std.specs.Cmp.{IsTotalOrder}
use Rattle.std.specs.Cmp.Lexicographic.{slice_cmp}
use Rattle.std.proofs.lemmas.Cmp.{nat_cmp_total, int_cmp_total, nat_list_cmp_total, lists_total, then_total, on_total}
use Rattle.toy_imp.specs.Cell.{Cell}
use Rattle.toy_run.specs.declared.place.Place.{Place}

abbrev pub listed_cmp : Cell → Cell → Ordering
listed_cmp a b = ordering_then (slice_cmp nat_cmp a.0 b.0) (ordering_then (nat_cmp (length a.1) (length b.1)) (slice_cmp int_cmp a.1 b.1))

pub listed_total : IsTotalOrder listed_cmp
listed_total = then_total (on_total (λ (c : Cell). c.0) nat_list_cmp_total) (then_total (on_total (λ (c : Cell). length c.1) nat_cmp_total) (on_total (λ (c : Cell). c.1) (lists_total int_cmp_total)))

abbrev pub cell_of : Place → Cell
cell_of p = (p.name.now, p.indices)

abbrev pub place_cmp : Place → Place → Ordering
place_cmp p q = listed_cmp (cell_of p) (cell_of q)

pub place_total : IsTotalOrder place_cmp
place_total = on_total cell_of listed_total
