use Rattle.std.proofs.Common.{◌≡◌, true, false, get_or, refl}
use Rattle.law_clauses.specs.ArgumentView.{argument_of}
use Rattle.equality_prover.specs.Terms.{same_top}
use Rattle.equality_prover.specs.Places.{pairs_in_class}
use Rattle.equality_prover.proofs.Passing.{other_arguments, alike_joined}
use Rattle.equality_prover.proofs.passes.join_alike.Goals as goal

pub returns-then-not-pairs_in_class : goal.returns-then-not-pairs_in_class
returns-then-not-pairs_in_class c =
    let e : pairs_in_class c.args.classes.now (get_or c.args.table.now c.args.i c.index-table-i.result) (get_or c.args.table.now c.args.j c.index-table-j.result) ≡ false =
    cc (c.if-not-pairs_in_class.ensures, c.as_slice.ensures, c.as_slice-2.ensures, c.index-table-i.is, c.index-table-j.is) in
    (refl, other_arguments c.args.terms.now c.args.table.now c.args.classes.now c.args.i c.args.j c.index-terms-i.result c.index-table-i.result c.index-table-j.result c.requires.first c.requires.second c.requires.table e)

pub returns : goal.returns
returns c =
    let e : pairs_in_class c.args.classes.now (get_or c.args.table.now c.args.i c.index-table-i.result) (get_or c.args.table.now c.args.j c.index-table-j.result) ≡ true =
    cc (c.if-not-pairs_in_class.ensures, c.as_slice.ensures, c.as_slice-2.ensures, c.index-table-i.is, c.index-table-j.is) in
    let f : same_top (argument_of (get_or c.args.terms.now c.args.i c.index-terms-i.result)) (argument_of (get_or c.args.terms.now c.args.j c.index-terms-j.result)) ≡ true =
    cc (c.if-not-have_same_top.ensures, c.index-terms-i.is, c.index-terms-j.is) in (
      alike_joined c.args.terms.now c.args.table.now c.args.classes.now c.join.new.classes c.args.i c.args.j c.index-terms-i.result c.index-terms-j.result c.index-table-i.result c.index-table-j.result
          c.requires.count c.requires.first c.requires.second c.requires.table f e c.join.ensures,
      c.join.ensures.less,
    )
