use Rattle.std.proofs.Common.{◌≡◌, ◌≤◌, ◌^◌, length, get_or, [], sym, ◌∙◌, ap, subst, arith}
use Rattle.theory_tables.specs.Structure.{IsOver, IsElement}
use Rattle.spl_field.specs.SmallField.{characteristic}
use Rattle.spl_residue.specs.Residue.{field_of, residue_ops}
use Rattle.spl_radical.specs.LiftNumbers.{residues_of, level_of}
use Rattle.spl_radical.specs.LiftRing.{prime_of}
use Rattle.spl_radical.proofs.LiftMatrices.{shape_read}
use Rattle.spl_radical.proofs.TraceSteps.{left_read, lifted_shape, numbers_in_row, exponent_fits, exponent_positive}
use Rattle.spl_radical.proofs.TraceSteps.{trace_value, trace_elem}
use Rattle.spl_radical.proofs.trace_power.trace_power.Goals as goal

pub left_matrix-requires : goal.left_matrix-requires
left_matrix-requires c =
    let e = sym c.residues.ensures in
    record {
      over = subst (λ k. IsOver (residue_ops k) c.args.b.now) e c.requires.over;
      element = subst (λ k. IsElement (residue_ops k) c.args.b.now c.args.a.now) e c.requires.element;
    }

pub lifted_rows-requires : goal.lifted_rows-requires
lifted_rows-requires c = (left_read (residues_of c.args.ring.now) (level_of c.args.ring.now) c.args.b.now c.args.a.now
    c.residues.result.now c.in_ok-left.left c.as_slice.result.now c.residues.ensures c.in_ok-left.ensures.shape
    c.in_ok-left.ensures.value c.as_slice.ensures).0

pub exponent_of-requires : goal.exponent_of-requires
exponent_of-requires c =
    let R = c.args.ring.now in
    let k = residues_of R in
    let l = level_of R in
    let f = field_of k in
    let t = f.least in
    let e : c.from-p.result ≡ prime_of k = c.from-p.ensures ∙ c.p.ensures.p
    ∙ ap characteristic (c.field.ensures ∙ ap field_of c.residues-2.ensures) in
    record {
      base = omega arith;
      most = exponent_fits k l c.from-p.result c.args.i e c.requires.exponent
          (subst (λ q. q ≤ 2 ^ 40) R.size R.small);
    }

pub power-requires : goal.power-requires
power-requires c =
    let R = c.args.ring.now in
    let k = residues_of R in
    let l = level_of R in
    let f = field_of k in
    let left = left_read k l c.args.b.now c.args.a.now c.residues.result.now c.in_ok-left.left c.as_slice.result.now
    c.residues.ensures c.in_ok-left.ensures.shape c.in_ok-left.ensures.value c.as_slice.ensures in
    let e : c.from-p.result ≡ prime_of k = c.from-p.ensures ∙ c.p.ensures.p
    ∙ ap characteristic (c.field.ensures ∙ ap field_of c.residues-2.ensures) in
    record {
      matrix = lifted_shape k l c.as_slice.result.now c.in_ok-rows.rows c.as_slice-3.result.now left.0
          c.in_ok-rows.ensures c.as_slice-3.ensures;
      count = numbers_in_row k l c.numbers_in_row-n.result c.as_slice-3.result.now
          (lifted_shape k l c.as_slice.result.now c.in_ok-rows.rows c.as_slice-3.result.now left.0
          c.in_ok-rows.ensures c.as_slice-3.ensures)
          (c.numbers_in_row-n.ensures
          ∙ ap (λ rows. length (get_or rows 0 [])) (c.as_slice-2.ensures ∙ sym c.as_slice-3.ensures));
      positive = exponent_positive k l c.from-p.result c.args.i c.exponent_of.result e c.exponent_of.ensures;
    }

pub trace-requires : goal.trace-requires
trace-requires c =
    let R = c.args.ring.now in
    shape_read (residues_of R) (level_of R) (length c.as_slice-3.result.now) c.in_ok-raised.raised
    c.as_slice-4.result.now c.as_slice-4.result.now c.in_ok-raised.ensures.shape c.as_slice-4.ensures
    c.as_slice-4.ensures

pub returns : goal.returns
returns c =
    let R = c.args.ring.now in
    let k = residues_of R in
    let l = level_of R in
    let T = c.args.b.now in
    let a = c.args.a.now in
    let i = c.args.i in
    let r = c.in_ok-trace.field-0 in
    let left = left_read k l T a c.residues.result.now c.in_ok-left.left c.as_slice.result.now
    c.residues.ensures c.in_ok-left.ensures.shape c.in_ok-left.ensures.value c.as_slice.ensures in
    let e : c.from-p.result ≡ prime_of k = c.from-p.ensures ∙ c.p.ensures.p
    ∙ ap characteristic (c.field.ensures ∙ ap field_of c.residues-2.ensures) in
    let v = trace_value k l T a c.as_slice.result.now c.in_ok-rows.rows c.as_slice-3.result.now c.in_ok-raised.raised
    c.as_slice-4.result.now r c.exponent_of.result i left.1 c.in_ok-rows.ensures c.as_slice-3.ensures
    c.as_slice-4.ensures c.in_ok-raised.ensures.shape c.in_ok-raised.ensures.value
    (c.exponent_of.ensures ∙ ap (λ p. p ^ i) e) c.in_ok-trace.ensures in
    record { elem = trace_elem k l T a r i v; value = v }
