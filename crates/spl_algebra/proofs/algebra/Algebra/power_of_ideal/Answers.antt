use Rattle.std.proofs.Common.{◌≡◌, ◌-◌, ℕ, List, sym, ◌∙◌, ap, subst, arith}
use Rattle.theory_tables.specs.Matrix.{IsMatrix}
use Rattle.theory_tables.specs.Subspace.{Rows, IsReducedBasis}
use Rattle.theory_tables.specs.Powers.{SpansPower}
use Rattle.spl_algebra.proofs.PowerSpans.{power_starts, power_next, power_stays}
use Rattle.spl_algebra.proofs.algebra.Algebra.power_of_ideal.Goals as goal

pub loop-e-init : goal.loop-e-init
loop-e-init g c =
    let o = g.F.Field.ops c.args.f.now in
    let by = c.args.ideal.now in
    let power = c.in_ok-power in
    let wide : by.width ≡ c.dim-m.result = c.requires.width ∙ sym c.dim-m.ensures.dim in
    let W : ℕ → Type 0 = λ w. IsReducedBasis o w by.rows in
    let B : Rows g.row.F-Elem.Denot → Type 0 = λ s. IsReducedBasis o c.dim-m.result s.rows in
    record {
      basis = subst B (sym power.ensures) (subst W wide c.requires.basis);
      wide = ap (λ (s : Rows g.row.F-Elem.Denot). s.width) power.ensures ∙ wide;
      spans = power_starts o (record { dim = c.dim-m.result; constants = c.constants-constants.result.now }) by.rows
          power.power.rows (ap (λ (s : Rows g.row.F-Elem.Denot). s.rows) power.ensures);
    }

pub product_of_subspaces-requires-clause-left : goal.product_of_subspaces-requires-clause-left
product_of_subspaces-requires-clause-left g c = c.loop-e.invariant.basis

pub product_of_subspaces-requires-clause-right : goal.product_of_subspaces-requires-clause-right
product_of_subspaces-requires-clause-right g c =
    let o = g.F.Field.ops c.args.f.now in
    let W : ℕ → Type 0 = λ w. IsReducedBasis o w c.args.ideal.now.rows in
    subst W (c.requires.width ∙ sym c.dim-m.ensures.dim) c.requires.basis

pub same_rows-requires-clause-left : goal.same_rows-requires-clause-left
same_rows-requires-clause-left g c =
    let o = g.F.Field.ops c.args.f.now in
    let M : List (List g.row.F-Elem.Denot) → Type 0 = IsMatrix o c.dim-m.result in
    subst M (sym (c.as_slice.ensures ∙ c.rows.ensures)) c.loop-e.invariant.basis.shape

pub loop-e-preserved : goal.loop-e-preserved
loop-e-preserved g c =
    let o = g.F.Field.ops c.args.f.now in
    let l = c.loop-e in
    let next = c.in_ok-next in
    record {
      basis = next.ensures.basis;
      wide = next.ensures.width;
      spans = power_next o (record { dim = c.dim-m.result; constants = c.constants-constants.result.now })
          c.args.ideal.now.rows l._e l.power.rows next.next.rows (omega arith) l.invariant.spans next.ensures.members;
    }

pub returns-then-same_rows : goal.returns-then-same_rows
returns-then-same_rows g c =
    let o = g.F.Field.ops c.args.f.now in
    let A = c.args.self.now in
    let by = c.args.ideal.now.rows in
    let l = c.loop-e in
    let rows = l.power.rows in
    let next = c.in_ok-next in
    let cs = c.constants-constants.result.now in
    let k = c.args.exponent - 1 in
    let same : rows ≡ next.next.rows = sym (c.as_slice.ensures ∙ c.rows.ensures) ∙ c.same_rows.ensures
    c.if-same_rows.true ∙ (c.as_slice-in-loop-e.ensures ∙ c.rows-in-loop-e.ensures) in
    let W : ℕ → Type 0 = λ w. IsReducedBasis o w rows in
    let M : ℕ → Type 0 = λ d. SpansPower o (record { dim = d; constants = cs }) by k rows in
    let C : List g.row.F-Elem.Denot → Type 0 = λ xs. SpansPower o (record { dim = A.dim; constants = xs }) by k rows in
    record {
      basis = subst W (sym l.invariant.wide) l.invariant.basis;
      width = l.invariant.wide ∙ c.dim-m.ensures.dim;
      members = subst C c.constants-constants.ensures.value (subst M c.dim-m.ensures.dim
          (power_stays o (record { dim = c.dim-m.result; constants = cs }) by l._e c.args.exponent rows next.next.rows
          (omega arith) c.loop-e-test.true l.invariant.spans next.ensures.members same));
    }

pub returns : goal.returns
returns g c =
    let o = g.F.Field.ops c.args.f.now in
    let A = c.args.self.now in
    let by = c.args.ideal.now.rows in
    let l = c.loop-e in
    let rows = l.power.rows in
    let cs = c.constants-constants.result.now in
    let k = c.args.exponent - 1 in
    let is : l._e - 1 ≡ k = omega arith in
    let E : ℕ → Type 0 = λ e. SpansPower o (record { dim = c.dim-m.result; constants = cs }) by e rows in
    let W : ℕ → Type 0 = λ w. IsReducedBasis o w rows in
    let M : ℕ → Type 0 = λ d. SpansPower o (record { dim = d; constants = cs }) by k rows in
    let C : List g.row.F-Elem.Denot → Type 0 = λ xs. SpansPower o (record { dim = A.dim; constants = xs }) by k rows in
    record {
      basis = subst W (sym l.invariant.wide) l.invariant.basis;
      width = l.invariant.wide ∙ c.dim-m.ensures.dim;
      members =
          subst C c.constants-constants.ensures.value (subst M c.dim-m.ensures.dim (subst E is l.invariant.spans));
    }
