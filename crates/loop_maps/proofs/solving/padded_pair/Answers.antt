use Rattle.std.proofs.Common.{rules, ◌≡◌, ◌∙◌, ap, sym, length, pos, [], Some}
use Rattle.affine_forms.specs.declared.form.Form.{Form}
use Rattle.loop_maps.proofs.Undoing.{pair_told}
use Rattle.loop_maps.proofs.solving.padded_pair.Goals as goal

abbrev nothing : Form
nothing = record { counters = []; symbols = []; constant = pos 0 }

pub returns-clause-is : goal.returns-clause-is
returns-clause-is c =
    let two : length c.args.pair ≡ 2 = search rules in
    pair_told c.args.pair nothing nothing two ∙ ap Some (sym c.padded.ensures.is)
