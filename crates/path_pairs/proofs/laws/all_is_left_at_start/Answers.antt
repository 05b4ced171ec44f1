use Rattle.path_pairs.proofs.OnePaths.{all_is_left_at_start}
use Rattle.path_pairs.proofs.laws.all_is_left_at_start.Goals as goal

pub returns : goal.returns
returns c = λ i side. all_is_left_at_start i side
