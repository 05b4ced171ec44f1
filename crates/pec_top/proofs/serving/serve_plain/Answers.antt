use Rattle.std.proofs.Common.{subst}
use Rattle.pec_top.specs.Serving.{IsInput}
use Rattle.pec_top.proofs.Inputs.{reads_all, not_larger, neither}
use Rattle.pec_top.proofs.serving.serve_plain.Goals as goal

pub returns-in-Ok-read_input-clause-served : goal.returns-in-Ok-read_input-clause-served
returns-in-Ok-read_input-clause-served g c = λ no_usage no_fault memory.
    let read = c.in-Ok.ensures in
    let command = c.in-Some.command in
    let found = c.in-Ok-read_input.found in
    let is : IsInput command c.in-Ok.bytes.items found = subst (λ z. IsInput command z found) c.as_slice.ensures.value c.in-Ok-read_input.ensures.is in
    record {
      command = command;
      named = c.in-Some.ensures;
      found = found;
      larger = neither _ _ _ _ (λ no. cc) (not_larger command _ found is) read.large;
      read = λ _. reads_all command _ _ _ found read.all read.to_the_end.0 is;
      writes = c.deliver.ensures.delivered memory;
    }
