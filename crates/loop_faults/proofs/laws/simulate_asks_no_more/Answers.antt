use Rattle.loop_faults.proofs.Simulating.{simulate_asks_no_more}
use Rattle.loop_faults.proofs.laws.simulate_asks_no_more.Goals as goal

pub returns : goal.returns
returns c = simulate_asks_no_more
