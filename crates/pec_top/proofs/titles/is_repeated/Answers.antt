use Rattle.std.proofs.Common.{not, ap, ◌∙◌}
use Rattle.pec_top.specs.Seen.{titles_in}
use Rattle.pec_top.proofs.Borrowed.{not_not, title_among, seen_titles}
use Rattle.pec_top.proofs.titles.is_repeated.Goals as goal

pub returns-clause-repeated : goal.returns-clause-repeated
returns-clause-repeated c =
    ap not c.in_ok-new.ensures.added ∙ not_not _ ∙ title_among c.args.title.now c.args.seen.now.keys

pub returns-clause-seen : goal.returns-clause-seen
returns-clause-seen c = ap titles_in c.in_ok-new.ensures.keys ∙ seen_titles c.args.seen.now.keys c.args.title
