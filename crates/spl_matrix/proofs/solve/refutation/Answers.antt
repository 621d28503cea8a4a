use Rattle.std.proofs.Common.{◌≡◌, ℕ, ◌<◌, List, [], length, get_or, ap, subst, ◌∙◌, arith}
use Rattle.theory_rings.specs.Sum.{at}
use Rattle.theory_spaces.specs.Tuples.{IsTuple}
use Rattle.theory_tables.proofs.Rows.Sums.{read_at, row_at}
use Rattle.theory_rings.proofs.Rings.Elements.{at-elem}
use Rattle.theory_rings.proofs.Sums.Lists.{get_or-table}
use Rattle.theory_tables.proofs.Rows.Solves.{refuted}
use Rattle.spl_matrix.proofs.solve.refutation.Goals as goal

pub returns : goal.returns
returns g c =
    let o = g.F.Field.ops c.args.f.now in
    let L = g.met.F.Field.laws c.args.f.now in
    let a = c.args.a.now in
    let h = length a in
    let i = c.args.i in
    let need = c.requires in
    let cs = c.args.c.now in
    let transform = c.args.e.now.transform in
    let in_c : i < length cs = omega (arith, need.c_elems.right_length) in
    let read = read_at o cs i c.index-c-i.result in_c c.index-c-i.is in
    let factor = c.in-Some.factor in
    let found = rw c.in-Some.is at c.in_ok-factor.ensures.value in
    let factor_is : factor ≡ o.inv (at o cs i) = found.1 ∙ ap o.inv read in
    let i_in : i < length c.as_slice-rows.result.now =
    omega (arith, ap length c.as_slice-rows.ensures, need.echelon.transform_height) in
    let row = c.as_slice.result.now in
    let i_in' : i < length transform = omega (arith, need.echelon.transform_height) in
    let row_is : row ≡ get_or transform i [] =
    row_at c.as_slice-rows.result.now i c.index-rows-i.result row i_in c.index-rows-i.is c.as_slice.ensures
    ∙ ap (λ (m : List (List g.row.F-Elem.Denot)). get_or m i []) c.as_slice-rows.ensures in
    let long : length row ≡ h = ap length row_is ∙ (need.echelon.transform_shape i [] i_in').right_length in
    let m = c.in_ok-scaled.field-0 in
    let T : ℕ → Type 0 = λ n. IsTuple o n m in
    refuted o L h c.args.w a c.args.right.now need.shape need.right c.args.e.now.rows c.args.e.now.pivots transform
    need.echelon i factor cs m need.past need.within need.c_is need.nonzero factor_is
    (subst T long c.in_ok-scaled.ensures.elem) (at-elem o L cs need.c_elems.of_elements i) (λ k k_in.
    let k_in' : k < length row = omega (arith, long) in
    ap (λ (v : List g.row.F-Elem.Denot). at o v k) c.in_ok-scaled.ensures.value
    ∙ get_or-table (length row) (λ j. o.mul factor (at o row j)) k o.zero k_in'
    ∙ ap (λ (v : List g.row.F-Elem.Denot). o.mul factor (at o v k)) row_is)
