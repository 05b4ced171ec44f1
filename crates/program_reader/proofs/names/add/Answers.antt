use Rattle.std.proofs.Common.{sym, ◌∙◌}
use Rattle.std.specs.Prelude.{bytes_eq}
use Rattle.indexmap.proofs.CallerLemmas.{insert_entry-new}
use Rattle.program_reader.proofs.Indexing.{added_new, no_number}
use Rattle.program_reader.proofs.names.add.Goals as goal

pub returns : goal.returns
returns c =
    let key = c.in_ok-key.key in
    let old = c.args.numbers.now in
    let absent = no_number old.entries key c.args.name.now c.in_ok-key.ensures.items (sym c.contains_key.ensures ∙ c.if-contains_key.false) in
    added_new old.entries c.insert.new.self.entries key c.args.name.now c.args.number c.in_ok-key.ensures.items
    (c.in_ok-insert.ensures.entries ∙ insert_entry-new (λ a b. bytes_eq a.items b.items) old key c.args.number absent)
