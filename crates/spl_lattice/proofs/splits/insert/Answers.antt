use Rattle.std.proofs.Common.{sym, subst, [], ◌∷◌, ◌++◌, length}
use Rattle.spl_field.specs.SmallField.{small_ops}
use Rattle.theory_rows.specs.Rows.{IsPolynomialRow}
use Rattle.spl_lattice.proofs.RowReduction.{IsInserting, inserting_step, inserting_end}
use Rattle.spl_lattice.proofs.RowReduction.{found_step, none_leads}
use Rattle.spl_lattice.proofs.splits.insert.Goals as goal

pub steps-smaller : goal.steps-smaller
steps-smaller c =
    let o = small_ops c.args.f.now in
    let s = c.steps.split in
    let e = c.in-Some.ensures in
    let r = c.in_ok-rest in
    let t = found_step o c.know_laws.ensures c.args.w (length c.args.row)
    ((c.args.split.now.basis.items ++ c.args.split.now.zeros.items) ++ c.args.row ∷ []) s.basis.items s.places.items
    s.zeros.items c.steps.rest c.steps.invariant c.as_slice.result.now c.as_slice-in-steps.result.now
    c.as_slice.ensures.value c.as_slice-in-steps.ensures c.in-Some.i e.0 e.1 c.lower.new.split.basis.items r.rest
    r.ensures.row r.ensures.value in
    t.less

pub steps-preserved : goal.steps-preserved
steps-preserved c =
    let o = small_ops c.args.f.now in
    let w = c.args.w in
    let v = length c.args.row in
    let s = c.steps.split in
    let e = c.in-Some.ensures in
    let r = c.in_ok-rest in
    let new = c.lower.new.split in
    let start = (c.args.split.now.basis.items ++ c.args.split.now.zeros.items) ++ c.args.row ∷ [] in
    subst (λ ps. IsInserting o w v start new.basis.items ps new.zeros.items r.rest) (sym r.ensures.places)
    (subst (λ zs. IsInserting o w v start new.basis.items s.places.items zs r.rest) (sym r.ensures.zeros)
    (inserting_step o c.know_laws.ensures w v start s.basis.items s.places.items s.zeros.items c.steps.rest
    c.steps.invariant new.basis.items r.rest
    (let x = c.steps.invariant in let y = x.polynomials in
    subst (λ n. IsPolynomialRow o n r.rest) y.width r.ensures.row)
    (found_step o c.know_laws.ensures w v start s.basis.items s.places.items s.zeros.items c.steps.rest
    c.steps.invariant c.as_slice.result.now c.as_slice-in-steps.result.now
    c.as_slice.ensures.value c.as_slice-in-steps.ensures c.in-Some.i e.0 e.1 new.basis.items r.rest
    r.ensures.row r.ensures.value)))

pub returns : goal.returns
returns c =
    let o = small_ops c.args.f.now in
    let s = c.steps.split in
    let start = (c.args.split.now.basis.items ++ c.args.split.now.zeros.items) ++ c.args.row ∷ [] in
    let new = c.settle.new.split in
    inserting_end o c.know_laws.ensures c.args.w (length c.args.row) start s.basis.items s.places.items s.zeros.items
    c.steps.rest c.steps.invariant new.basis.items new.places.items new.zeros.items
    (none_leads c.args.w s.places.items c.steps.rest c.as_slice.result.now c.as_slice-in-steps.result.now
    c.as_slice.ensures.value c.as_slice-in-steps.ensures c.in_default.ensures)
    c.in_ok-settle.ensures
