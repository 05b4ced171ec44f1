use Rattle.std.proofs.Common.{length, subst}
use Rattle.refutations.specs.Refutation.{tree_of, IsRead}
use Rattle.term_text.specs.TermReading.{store_read, value_read}
use Rattle.refutation_text.proofs.WholeParts.{read_whole}
use Rattle.refutation_text.proofs.part_reading.read_refutation.Goals as goal

pub returns-in-None : goal.returns-in-None
returns-in-None c e =
    absurd (subst (IsRead c.in_ok-all.all) c.in-None.is c.in_ok-r.ensures (tree_of c.in_ok-all.all)
    (read_whole (store_read 4100) (value_read 4100) (length c.args.tokens.now) c.args.tokens.now c.in_ok-all.all c.in_ok-all.rest.now c.in_ok-all.ensures))
