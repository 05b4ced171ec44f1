use Rattle.std.proofs.Common.{◌≡◌, take, drop, length, sym, ap, ◌∙◌, rules, arith}
use Rattle.std.proofs.lemmas.Grind.{common_steps}
use Rattle.pec_io.proofs.Pieces.{piece_given, none_left}
use Rattle.pec_io.proofs.memory_source.MemorySourceSource.read.Goals as goal

pub returns-clause-bytes : goal.returns-clause-bytes
returns-clause-bytes c =
    let bytes = c.self.inside.bytes.items in
    let at = c.self.inside.at in
    let n = c.min-count.result in
    let piece = c.copy_from_slice.new.self in
    let left = ap (λ f. f.left) (sym c.self.view_is) in
    let copied : piece ≡ take n (drop at bytes) = search rules in
    let counted : n ≡ length piece = grind (arith, common_steps) in (
      left ∙ piece_given bytes (drop n c.args.into.now) piece at n copied counted,
      λ zero some. none_left bytes at n (length c.args.into.now) c.self.inside.most (search rules) zero (grind (arith, common_steps)) c.self.invariant.0,
    )
