use Rattle.equality_prover.proofs.Splitting.{is_split}
use Rattle.equality_prover.proofs.closing.split.Goals as goal

pub returns : goal.returns
returns c =
    is_split c.args.classes.now c.args.names c.args.stores c.in_ok-first.first c.in_ok-second.second c.in_ok-third.third
    c.requires c.in_ok-first.ensures c.in_ok-second.ensures c.in_ok-third.ensures
