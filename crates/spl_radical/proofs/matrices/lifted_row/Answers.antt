use Rattle.std.proofs.Common.{◌≡◌, ◌++◌, length, ◌∙◌, ap, subst, arith}
use Rattle.theory_tables.proofs.Rows.Sums.{read_at}
use Rattle.spl_residue.specs.Residue.{residue_ops}
use Rattle.spl_radical.specs.LiftNumbers.{residues_of, level_of}
use Rattle.spl_radical.specs.LiftRing.{lifted}
use Rattle.spl_radical.specs.LiftMatrices.{IsLiftedRow}
use Rattle.spl_radical.proofs.LiftMatrices.{no_elements, next_element}
use Rattle.spl_radical.proofs.matrices.lifted_row.Goals as goal

pub loop-j-init : goal.loop-j-init
loop-j-init c = no_elements (residues_of c.args.ring.now) (level_of c.args.ring.now) c.args.row.now c.new-out.result
    c.new-out.ensures

pub loop-j-preserved : goal.loop-j-preserved
loop-j-preserved c =
    let R = c.args.ring.now in
    let k = residues_of R in
    let l = level_of R in
    let row = c.args.row.now in
    let j = c.loop-j.j in
    next_element k l row j c.loop-j.out c.append.new.out c.in_ok-element.element c.loop-j.invariant
    c.in_ok-element.ensures.elem
    (c.in_ok-element.ensures.digits
    ∙ ap (λ a. (lifted k l a).0)
    (read_at (residue_ops k) row j c.index-row-j.result c.loop-j-test.true c.index-row-j.is))
    (c.in_ok-append.ensures ∙ ap (λ x. c.loop-j.out ++ x) c.numbers.ensures)

pub returns : goal.returns
returns c =
    let R = c.args.ring.now in
    let n = length c.args.row.now in
    let a = c.loop-j.auto.j-end in
    let b = c.loop-j-test.false in
    let e : c.loop-j.j ≡ n = omega arith in
    subst (λ n. IsLiftedRow (residues_of R) (level_of R) c.args.row.now n c.loop-j.out) e c.loop-j.invariant
