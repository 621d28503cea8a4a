use Rattle.std.proofs.Common.{◌≡◌, ◌<◌, [], length, get_or, cond, nat_eq, sym, ap, subst, ◌∙◌, arith}
use Rattle.std.proofs.Math.ListN.{set}
use Rattle.std.proofs.lemmas.List.{length-set, get_or_default}
use Rattle.theory_spaces.specs.Tuples.{IsTuple}
use Rattle.spl_matrix.specs.Elimination.{lead_of}
use Rattle.spl_matrix.proofs.Pivots.{taken_row, pivoted_by, lead_by, lead_of-tuple}
use Rattle.theory_tables.proofs.Rows.Terms.{cond_either}
use Rattle.spl_matrix.proofs.elimination.pivot.Goals as goal

pub clear_column-requires-clause-shape : goal.clear_column-requires-clause-shape
clear_column-requires-clause-shape g c =
    let o = g.F.Field.ops c.args.f.now in
    let rows = c.args.rows.now in
    let p = c.args.p in
    let r = c.args.r in
    let swapped = c.swap.new.self in
    let taken = set swapped r c.replace-lead.new.dest in
    let taken_is : taken ≡ set swapped r [] = ap (set swapped r) (c.replace-lead.ensures.after ∙ c.new.ensures) in
    λ i i_in d.
    let i_low : i < length rows = omega (arith, length-set swapped r c.replace-lead.new.dest, c.swap.ensures.len) in
    let source = cond (nat_eq i p) r i in
    let source_in : source < length rows =
    cond_either (λ k. k < length rows) (nat_eq i p) r i c.requires.to_row i_low in
    subst (IsTuple o c.args.n) (sym (taken_row o rows swapped taken p r i c.swap.ensures.by_index taken_is d))
    (c.requires.shape source [] source_in)

pub clear_column-requires-clause-lead : goal.clear_column-requires-clause-lead
clear_column-requires-clause-lead g c =
    let o = g.F.Field.ops c.args.f.now in
    let L = g.met.F.Field.laws c.args.f.now in
    let n = c.args.n in
    let rows = c.args.rows.now in
    let p = c.args.p in
    let r = c.args.r in
    let swapped = c.swap.new.self in
    let r_in : r < length swapped = omega (arith, c.swap.ensures.len) in
    let row_is : c.replace-lead.result ≡ get_or rows p [] = c.replace-lead.ensures.value
    ∙ get_or_default swapped r _ [] r_in ∙ c.swap.ensures.by_index.1 [] in
    let lead_is : c.as_slice.result.now ≡ lead_of o n rows p c.args.col =
    c.as_slice.ensures ∙ lead_by o n rows p c.args.col c.replace-lead.result c.divide.new.row row_is
    (c.requires.shape p [] c.requires.from_row).right_length c.in_ok-divide.ensures in
    subst (IsTuple o n) (sym lead_is) (lead_of-tuple o L n rows p c.args.col c.requires.shape)

pub returns : goal.returns
returns g c =
    let o = g.F.Field.ops c.args.f.now in
    let n = c.args.n in
    let rows = c.args.rows.now in
    let p = c.args.p in
    let r = c.args.r in
    let col = c.args.col in
    let swapped = c.swap.new.self in
    let taken = set swapped r c.replace-lead.new.dest in
    let taken_is : taken ≡ set swapped r [] = ap (set swapped r) (c.replace-lead.ensures.after ∙ c.new.ensures) in
    let r_in : r < length swapped = omega (arith, c.swap.ensures.len) in
    let row_is : c.replace-lead.result ≡ get_or rows p [] = c.replace-lead.ensures.value
    ∙ get_or_default swapped r _ [] r_in ∙ c.swap.ensures.by_index.1 [] in
    let lead_is : c.divide.new.row ≡ lead_of o n rows p col =
    lead_by o n rows p col c.replace-lead.result c.divide.new.row row_is
    (c.requires.shape p [] c.requires.from_row).right_length c.in_ok-divide.ensures in
    let lead = c.as_slice.result.now in
    let cleared = c.clear_column.new.rows in
    pivoted_by o n rows swapped taken cleared
    (set cleared r c.swap-2.new.x) p r col lead c.requires.to_row c.swap.ensures.len c.swap.ensures.by_index taken_is
    (c.as_slice.ensures ∙ lead_is) c.in_ok-clear_column.ensures
    (ap (set cleared r) (c.swap-2.ensures.x_after ∙ sym c.as_slice.ensures))
