use Rattle.std.proofs.Common.{[], ◌∷◌, ◌++◌, subst, sym, ◌∙◌, All}
use Rattle.theory_rings.specs.Ops.{IsElem}
use Rattle.spl_field.specs.SmallField.{small_ops, small_laws}
use Rattle.spl_fraction.specs.Fractions.{field_of}
use Rattle.spl_fraction.specs.FractionsOver.{fractions_over}
use Rattle.theory_fractions.specs.PolynomialLists.{IsPolynomialList}
use Rattle.std.proofs.lemmas.List.Elements.{All-from_get_or}
use Rattle.theory_rings.specs.Sum.{table}
use Rattle.theory_fractions.specs.FractionOps.{fraction_ops}
use Rattle.theory_fractions.specs.CommonDenominator.{as_fraction, Clears, IsCommonDenominator}
use Rattle.theory_fractions.proofs.CommonDenominators.{nonzero_of_monic}
use Rattle.theory_spaces.specs.Tuples.{IsTuple, tuple_scale}
use Rattle.theory_spaces.specs.Tuples.{basis as basis_tuple}
use Rattle.theory_bases.specs.TupleLattices.{SameTupleLattice}
use Rattle.theory_bases.specs.Bases.{IsBasis, IsPolynomialFraction, tuples_of}
use Rattle.theory_bases.specs.StartOrders.{SpansStart}
use Rattle.theory_bases.proofs.StartOrders.{start_orders}
use Rattle.spl_order.proofs.start.start_order.Goals as goal

pub common_denominator-requires : goal.common_denominator-requires
common_denominator-requires c =
    let h = c.requires.over in
    subst (All (IsElem (fractions_over (field_of c.args.f.now)))) (sym c.constants.ensures.value) h.of_elements

pub start_basis-requires-clause-c : goal.start_basis-requires-clause-c
start_basis-requires-clause-c c =
    let p = c.in_ok-c.ensures in
    subst (λ q. IsPolynomialList (small_ops q) c.in_ok-c.c) (sym c.field.ensures)
    record { over = p.over; trimmed = p.trimmed }

pub start_basis-requires-clause-c_nonzero : goal.start_basis-requires-clause-c_nonzero
start_basis-requires-clause-c_nonzero c =
    let F = field_of c.args.f.now in
    let v = c.in_ok-c.ensures.value in
    nonzero_of_monic (small_ops F) (small_laws F) c.in_ok-c.c v.monic

pub start_basis-requires-clause-d : goal.start_basis-requires-clause-d
start_basis-requires-clause-d c =
    let p = c.in_ok-d.ensures in
    subst (λ q. IsPolynomialList (small_ops q) c.in_ok-d.d) (sym c.field.ensures)
    record { over = p.over; trimmed = p.trimmed }

pub start_basis-requires-clause-d_nonzero : goal.start_basis-requires-clause-d_nonzero
start_basis-requires-clause-d_nonzero c =
    let F = field_of c.args.f.now in
    let v = c.in_ok-d.ensures.value in
    nonzero_of_monic (small_ops F) (small_laws F) c.in_ok-d.d v.monic

pub start_basis-requires-clause-one : goal.start_basis-requires-clause-one
start_basis-requires-clause-one c =
    let h = c.requires.one in
    subst (λ q. IsTuple (fractions_over q) c.dim.result c.as_slice-2.result.now) (sym c.field.ensures)
    (subst (λ m. IsTuple (fractions_over (field_of c.args.f.now)) m c.as_slice-2.result.now) (sym c.dim.ensures.dim)
    (subst (IsTuple (fractions_over (field_of c.args.f.now)) c.args.a.now.dim) (sym c.as_slice-2.ensures) h.tuple))

pub start_basis-requires-clause-clears : goal.start_basis-requires-clause-clears
start_basis-requires-clause-clears c =
    let F = field_of c.args.f.now in
    let v = c.in_ok-d.ensures.value in
    subst (λ q. All (Clears (small_ops q) c.in_ok-d.d) c.as_slice-2.result.now) (sym c.field.ensures)
    (subst (All (Clears (small_ops F) c.in_ok-d.d)) (c.as_slice.ensures ∙ sym c.as_slice-2.ensures)
    (All-from_get_or (Clears (small_ops F) c.in_ok-d.d) c.as_slice.result.now ([], []) v.clears))

pub returns : goal.returns
returns c =
    let F = field_of c.args.f.now in
    let o = small_ops F in
    let L = small_laws F in
    let K = fraction_ops o L in
    let A = c.args.a.now in
    let b = c.in_ok-found.found in
    let p = c.in_ok-found.ensures in
    let t = c.in_ok-c.c in
    let basis : IsBasis o L A.dim b = subst (λ m. IsBasis o L m b) c.dim.ensures.dim
    (subst (λ q. IsBasis (small_ops q) (small_laws q) c.dim.result b) c.field.ensures p.basis) in
    let S : SpansStart o L A c.args.one.now (tuples_of o L b) = record {
      c = t;
      polynomial = record { over = c.in_ok-c.ensures.over; trimmed = c.in_ok-c.ensures.trimmed };
      common = subst (λ l. IsCommonDenominator o l t) c.constants.ensures.value c.in_ok-c.ensures.value;
      same = subst (λ x. SameTupleLattice K (IsPolynomialFraction o) A.dim
          (table A.dim (λ i. tuple_scale K A.dim (as_fraction o t) (basis_tuple K A.dim i)) ++ x ∷ [])
          (tuples_of o L b)) c.as_slice-2.ensures
          (subst (λ m. SameTupleLattice K (IsPolynomialFraction o) m
          (table m (λ i. tuple_scale K m (as_fraction o t) (basis_tuple K m i)) ++ c.as_slice-2.result.now ∷ [])
          (tuples_of o L b)) c.dim.ensures.dim
          (subst (λ q. let k = fractions_over q in SameTupleLattice k (IsPolynomialFraction (small_ops q)) c.dim.result
          (table c.dim.result (λ i. tuple_scale k c.dim.result (as_fraction (small_ops q) t)
          (basis_tuple k c.dim.result i)) ++ c.as_slice-2.result.now ∷ [])
          (tuples_of (small_ops q) (small_laws q) b)) c.field.ensures p.lattice));
    } in
    record {
      basis = basis;
      start = S;
      order = start_orders o L A c.requires.over c.requires.associative c.args.one.now c.requires.one (tuples_of o L b)
          basis.independent S;
    }
