-- An order that grows stays an overorder of the first, with the same lattice elsewhere.
use Rattle.std.specs.Prelude.{ℕ, List}
use Rattle.theory_tables.specs.Structure.{Structure, IsOver, IsAssociative}
use Rattle.theory_places.specs.FractionPlaces.{IsMonicIrreducible}
use Rattle.theory_bases.specs.TupleLattices.{SpanOrder}
use Rattle.theory_bases.specs.Bases.{BasisForm, IsBasis, IsPolynomialFraction}
use Rattle.theory_fractions.specs.Fraction.{Pair}
use Rattle.theory_growth.proofs.Elsewhere.{same_at}
use Rattle.spl_field.specs.declared.small.SmallField.{SmallField}
use Rattle.spl_field.specs.SmallField.{small_ops, small_laws}
use Rattle.spl_fraction.specs.FractionsOver.{fractions_over}
use Rattle.spl_local.specs.Growth.{small_tuples, IsOverorder, IsGrown}

module _ (f : SmallField) (A : Structure (Pair ℕ)) (m : List ℕ) (first : BasisForm ℕ) where
  -- an order holds itself
  pub own_overorder : IsBasis (small_ops f) (small_laws f) A.dim first
      → SpanOrder (fractions_over f) A (IsPolynomialFraction (small_ops f)) (small_tuples f first)
      → IsOverorder f A m first first
  own_overorder B O = record {
    basis = B;
    order = O;
    within = λ x h. h;
    elsewhere = λ l sl other. ((λ x h. h), (λ x h. h));
  }

  -- an order that holds the first grows to one that does
  pub next_overorder : IsOver (fractions_over f) A → IsAssociative (fractions_over f) A
      → IsMonicIrreducible (small_ops f) m → (larger next : BasisForm ℕ) → IsOverorder f A m first larger
      → IsGrown f A m larger next → IsOverorder f A m first next
  next_overorder over assoc s larger next h g =
      let step = g.growth.step in
      record {
        basis = g.basis;
        order = step.order;
        within = λ x w. step.within x (h.within x w);
        elsewhere = λ l sl other.
            let before = h.elsewhere l sl other in
            let last = same_at (small_ops f) (small_laws f) A over assoc m s (small_tuples f larger)
            (small_tuples f next) h.order step l sl other in
            ((λ x w. last.0 x (before.0 x w)), (λ x w. before.1 x (last.1 x w)));
      }
