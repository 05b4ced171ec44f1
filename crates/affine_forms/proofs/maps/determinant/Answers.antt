use Rattle.std.proofs.Common.{rules, ◌≡◌, arith, pos, length, slice_index_or}
use Rattle.affine_forms.proofs.Magnitudes.{kept_difference}
use Rattle.affine_forms.proofs.maps.determinant.Goals as goal

-- src/maps.rt:100:5
pub overflow_sub-result : goal.overflow_sub-result
overflow_sub-result c =
    let n : length c.args.first.now.counters ≡ 4 = search rules in
    let m : length c.args.second.now.counters ≡ 4 = search rules in
    (kept_difference (slice_index_or c.args.first.now.counters 0 (pos 0)) (slice_index_or c.args.second.now.counters 1 (pos 0))
    (slice_index_or c.args.first.now.counters 1 (pos 0)) (slice_index_or c.args.second.now.counters 0 (pos 0))
    (c.requires.unit 0 (pos 0) (omega (arith, n))) (c.requires.second_unit 1 (pos 0) (omega (arith, m)))
    (c.requires.unit 1 (pos 0) (omega (arith, n))) (c.requires.second_unit 0 (pos 0) (omega (arith, m)))).fits

-- src/maps.rt:95:1
pub returns : goal.returns
returns c =
    let n : length c.args.first.now.counters ≡ 4 = search rules in
    let m : length c.args.second.now.counters ≡ 4 = search rules in
    record {
      is = (kept_difference (slice_index_or c.args.first.now.counters 0 (pos 0)) (slice_index_or c.args.second.now.counters 1 (pos 0))
          (slice_index_or c.args.first.now.counters 1 (pos 0)) (slice_index_or c.args.second.now.counters 0 (pos 0))
          (c.requires.unit 0 (pos 0) (omega (arith, n))) (c.requires.second_unit 1 (pos 0) (omega (arith, m)))
          (c.requires.unit 1 (pos 0) (omega (arith, n))) (c.requires.second_unit 0 (pos 0) (omega (arith, m)))).is;
    }
