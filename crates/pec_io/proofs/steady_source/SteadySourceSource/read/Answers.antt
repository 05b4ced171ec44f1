use Rattle.std.proofs.Common.{◌≡◌, ◌<◌, ◌-◌, min, take, drop, length, sym, ◌∙◌, rules, arith}
use Rattle.std.proofs.lemmas.Grind.{common_steps}
use Rattle.pec_io.proofs.Pieces.{piece_given, none_left}
use Rattle.pec_io.proofs.steady_source.SteadySourceSource.read.Goals as goal

pub returns-clause-bytes : goal.returns-clause-bytes
returns-clause-bytes c =
    let bytes = c.self.inside.bytes.items in
    let at = c.self.inside.at in
    let n = c.min-count.result in
    let room = length c.args.into.now in
    let copied : c.copy_from_slice.new.self ≡ take n (drop at bytes) = search rules in
    let counted : n ≡ length c.copy_from_slice.new.self = grind (arith, common_steps) in
    let least : n ≡ min (min room room) (length bytes - at) = grind (arith, common_steps) in (
      sym c.self.view_is ∙ piece_given bytes (drop n c.args.into.now) c.copy_from_slice.new.self at n copied counted,
      λ zero some.
          let place : 0 < room = grind (arith, common_steps) in
          none_left bytes at n room room least zero place place,
    )
