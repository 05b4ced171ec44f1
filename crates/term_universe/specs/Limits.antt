-- The limits of an obligation, and the first of them that its counts pass.
use Rattle.std.specs.Prelude.{ℕ, if◌then◌else◌, Option, Some, None, nat_lt}
use Rattle.rule_terms.specs.declared.limit.LimitKind.{LimitKind}
use Rattle.rule_terms.specs.declared.limit.LimitKind.TheVariants as kind
use Rattle.term_universe.specs.declared.tally.Tally.{Tally}

abbrev pub most_nodes : ℕ
most_nodes = 4096

abbrev pub most_stores : ℕ
most_stores = 48

abbrev pub most_readings : ℕ
most_readings = 32

abbrev pub most_depth : ℕ
most_depth = 512

-- nodes are looked at before store terms, these before readings, and these before the depth
abbrev pub first_passed : Tally → Option LimitKind
first_passed t =
    if nat_lt most_nodes t.nodes then Some kind.Nodes
    else if nat_lt most_stores t.stores then Some kind.Stores
    else if nat_lt most_readings t.readings then Some kind.Readings
    else if nat_lt most_depth t.depth then Some kind.Depth
    else None
