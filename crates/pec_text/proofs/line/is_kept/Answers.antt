use Rattle.std.proofs.Common.{false, not, eqb, Option, option_map, ℕ, sym, ap, ◌∙◌, rules, tests}
use Rattle.std.proofs.lemmas.Iterator.{YieldsList-from_slice}
use Rattle.std.proofs.lemmas.Iterator.Search.{find_from_yields_List}
use Rattle.std.specs.Option.{option_map_or}
use Rattle.pec_text.specs.Byte.{is_blank}
use Rattle.pec_text.proofs.line.is_kept.Goals as goal

pub returns-in-Some : goal.returns-in-Some
returns-in-Some c =
    let found = find_from_yields_List (λ b. not (is_blank b)) _ _ c.find.result c.find.ensures.ran (YieldsList-from_slice c.args.line.now c.iter.ensures.rest) (λ x b q k. search (rules, tests)) in
    ap (λ (o : Option ℕ). option_map_or (λ b. not (eqb b 35)) o false) (sym (ap (option_map (λ x. x.now)) c.in-Some.is) ∙ found)

pub returns-in-None : goal.returns-in-None
returns-in-None c =
    let found = find_from_yields_List (λ b. not (is_blank b)) _ _ c.find.result c.find.ensures.ran (YieldsList-from_slice c.args.line.now c.iter.ensures.rest) (λ x b q k. search (rules, tests)) in
    ap (λ (o : Option ℕ). option_map_or (λ b. not (eqb b 35)) o false) (sym (ap (option_map (λ x. x.now)) c.in-None.is) ∙ found)
