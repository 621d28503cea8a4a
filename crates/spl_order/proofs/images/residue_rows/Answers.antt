use Rattle.std.proofs.Common.{◌<◌, ℕ, List, [], get_or, length, sym, subst, ◌∙◌, arith}
use Rattle.spl_field.specs.SmallField.{small_ops, small_laws}
use Rattle.spl_fraction.specs.Fractions.{field_of}
use Rattle.spl_residue.specs.Residue.{polynomial_of, residue_ops}
use Rattle.theory_fractions.specs.PolynomialLists.{IsPolynomialList}
use Rattle.theory_places.specs.Places.{Finite}
use Rattle.theory_places.specs.FractionPlaces.{IsIntegralAt}
use Rattle.theory_tables.proofs.Rows.Spans.{grow_at}
use Rattle.theory_bases.specs.Bases.{fraction_over}
use Rattle.spl_order.specs.Residues.{AreResiduesOver}
use Rattle.spl_order.proofs.Values.{read_is, longer}
use Rattle.spl_order.proofs.images.residue_rows.Goals as goal

pub residues_over-requires : goal.residues_over-requires
residues_over-requires c =
    let o = small_ops (field_of c.args.f.now) in
    let L = small_laws (field_of c.args.f.now) in
    let i = c.loop-i.i in
    let t = c.loop-i-test.true in
    let e = c.as_slice.ensures ∙ read_is c.args.rows.now i c.index-rows-i.result t c.index-rows-i.is in
    let h = c.requires.rows i [] t in
    record {
      field = c.requires.field;
      place = c.requires.place;
      d = c.requires.d;
      nonzero = c.requires.nonzero;
      items = subst (λ (z : List (List ℕ)). (p : ℕ) → p < length z → IsPolynomialList o (get_or z p [])) (sym e)
          (λ p l. record { over = h.over p [] l; trimmed = h.trimmed p [] l });
      integral = subst (λ (z : List (List ℕ)). (p : ℕ) → p < length z
          → IsIntegralAt o (Finite (polynomial_of c.args.k.now)) (fraction_over o L c.args.d.now (get_or z p [])))
          (sym e) (λ p l. c.requires.integral i p t (omega (arith, l, h.width)));
    }

pub loop-i-preserved : goal.loop-i-preserved
loop-i-preserved c =
    let o = small_ops (field_of c.args.f.now) in
    let L = small_laws (field_of c.args.f.now) in
    let i = c.loop-i.i in
    let t = c.loop-i-test.true in
    let rows = c.args.rows.now in
    let e = c.as_slice.ensures ∙ read_is rows i c.index-rows-i.result t c.index-rows-i.is in
    let h = c.requires.rows i [] t in
    let v = c.loop-i.invariant in
    let x = c.in_ok-residues_over.field-0 in
    let A = AreResiduesOver o L (polynomial_of c.args.k.now) (residue_ops c.args.k.now) c.args.d.now in
    record {
      count = longer i c.loop-i.residues.items c.push.new.self.items x v.count c.in_ok-push.ensures.items;
      each = grow_at (λ i. A (get_or rows i []) c.args.n) [] i c.loop-i.residues.items c.push.new.self.items x v.count
          v.each (subst (λ w. A (get_or rows i []) w x) h.width
          (subst (λ (z : List (List ℕ)). A z (length z) x) e c.in_ok-residues_over.ensures)) c.in_ok-push.ensures.items;
    }

pub returns : goal.returns
returns c =
    let v = c.loop-i.invariant in
    record {
      count = omega (arith, v.count);
      each = λ i l. v.each i (omega (arith, l));
    }
