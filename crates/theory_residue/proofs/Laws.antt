-- The laws of the residue algebra.
use Rattle.std.specs.Prelude.{ℕ, ◌+◌, ◌↔◌, Bool}
use Rattle.std.proofs.Common.{subst, sym}
use Rattle.theory_rings.specs.Ring.{FieldOn}
use Rattle.theory_spaces.specs.Module.{ModuleOn, AlgebraOn, module_of}
use Rattle.theory_spaces.specs.Linear.{InSpan, Basis}
use Rattle.theory_spaces.specs.Subspaces.{Whole}
use Rattle.theory_spaces.specs.Algebra.{IdealSpan}
use Rattle.theory_spaces.specs.Valuation.{ValuationOn}
use Rattle.theory_spaces.proofs.Linear.Spaces.{coords_of, basis_of}
use Rattle.theory_orders.specs.Uniformizer.{UniformizerOn}
use Rattle.theory_orders.specs.Orders.{IsIdeal, Multiple, Radical, SimpleQuotient, IsMaximalIdeal, Within, Same, Test}
use Rattle.theory_orders.specs.Lattices.{Lattice, IsOrderAt}
use Rattle.theory_spaces.specs.Sets.{ring_ops}
use Rattle.theory_spaces.proofs.Algebras.SetLemmas as lemmas
use Rattle.theory_orders.proofs.Ideals.Ideals.{ideal_same}
use Rattle.theory_orders.proofs.Lattices.Multiples.{Multiple-zero}
use Rattle.theory_spaces.proofs.Linear.LatticeTests.{lattice_test, lattice_test-in, in-lattice_test}
use Rattle.theory_orders.proofs.Splitting.Ramified.{spanning}
use Rattle.theory_radical.specs.Ideal.{IsLargestNilpotentIdeal}
use Rattle.theory_blocks.specs.MaximalIdeals.{IsMaximalIdeal as IsMaximalRingIdeal}
use Rattle.theory_residue.specs.Residue.{ResidueOn, ReductionOn, Reduced, Lifted, ResidueReduction}
use Rattle.theory_residue.specs.ResidueLaws.{ResidueAlgebraExists, OrderReduces, LatticeReduces, SpanLifts}
use Rattle.theory_residue.specs.ResidueLaws.{IdealsCorrespondAlways}
use Rattle.theory_residue.proofs.Correspondence.{reduced_within, lifted_within, reduced_is, lifted_is, lifted_ideal}
use Rattle.theory_residue.proofs.Correspondence.{lifted_over, ends_correspond}
use Rattle.theory_residue.proofs.Radicals.{maximal_of_simple, simple_of_maximal, largest_of_radical, radical_of_largest}
use Rattle.theory_residue.proofs.Reductions.{residue_reduction, residue_algebra}
use Rattle.theory_residue.proofs.ReducedLattices.{reduced_lattice, lifted_vec, lifted_lattice}
use Rattle.theory_spaces.proofs.Linear.LatticeSpans.{lattice-member}

-- sets with the same members
module _ {K V : Type 0} (F : FieldOn K) (A : AlgebraOn F.ring V) (I J : V → Type 0) (e : Same I J) where
  pub largest_same : IsLargestNilpotentIdeal A I → IsLargestNilpotentIdeal A J
  largest_same h = record {
    nilpotent = record {
      ideal = ideal_same A Whole I J e h.nilpotent.ideal;
      exponent = h.nilpotent.exponent;
      vanishes = λ a g. h.nilpotent.vanishes a (λ i. e.1 (a i) (g i));
    };
    largest = λ n g nil x s. e.0 x (h.largest n g nil x s);
  }

  pub maximal_same : IsMaximalRingIdeal A I → IsMaximalRingIdeal A J
  maximal_same = lemmas.maximal_same (ring_ops A.ring) Whole I J e

abbrev pub other : {V : Type 0} (I J : V → Type 0) → Same I J → Same J I
other I J e = (e.1, e.0)

module _ {K E V : Type 0} (F : FieldOn K) (Z : ValuationOn F) (p q : K) (U : UniformizerOn F Z p q) (k : FieldOn E)
    (D : ResidueOn F Z q k)
    (A : AlgebraOn F.ring V) (n : ℕ) (b : Basis (module_of A) n) where
  abbrev MA : ModuleOn F.ring V
  MA = module_of A

  -- the vectors of an order as a basis
  abbrev order_basis : (v : ℕ → V) → IsOrderAt F Z A n v → Basis MA n
  order_basis v o = basis_of MA n v o.independent (spanning F A n b v o.independent)

  pub residue_algebra_exists : (W : Type 0) → ResidueAlgebraExists F Z p k D A n W
  residue_algebra_exists W = λ v o M S. residue_algebra F Z p q U k D A n (order_basis v o) o.order M S

  pub order_reduces : (W : Type 0) → OrderReduces F Z p k D A n W
  order_reduces W = λ v o B w h. residue_reduction F Z p q U k D A n (order_basis v o) o.order B w h

  module _ {W : Type 0} (v : ℕ → V) (o : IsOrderAt F Z A n v) (B : AlgebraOn k.ring W) (w : Basis (module_of B) n)
      (r : ResidueReduction F Z p k D A B n v w.vec) where
    abbrev MB : ModuleOn k.ring W
    MB = module_of B

    abbrev L : V → Type 0
    L = Lattice F Z A n v

    abbrev N : V → Type 0
    N = Multiple A p L

    abbrev R : ReductionOn A L N B
    R = r.reduction

    abbrev Red : (V → Type 0) → W → Type 0
    Red = Reduced A L N B R

    pub t : V → Bool
    t = lattice_test F Z MA n (coords_of MA n b) n v

    pub decides : Same (Test t) L
    unfolding t
    decides = (lattice_test-in F Z MA n (coords_of MA n b) n v, in-lattice_test F Z MA n (coords_of MA n b) n v)

    -- an ideal over p·Λ whose image is a span
    module _ (J : V → Type 0) (I : IsIdeal A L J) (over : Within N J) (m : ℕ) (g : ℕ → W)
        (same : Same (Red J) (InSpan MB m g)) where
      radical_law : Radical A p L J ↔ IsLargestNilpotentIdeal B (InSpan MB m g)
      radical_law = (
        λ h. largest_same k B (Red J) (InSpan MB m g) same
            (largest_of_radical k A p L o.order B R n w t decides J I over h),
        λ h. radical_of_largest k A p L o.order B R n w t decides J I over
            (largest_same k B (InSpan MB m g) (Red J) (other (Red J) (InSpan MB m g) same) h),
      )

      simple_law : SimpleQuotient A L J ↔ IsMaximalRingIdeal B (InSpan MB m g)
      simple_law = (
        λ h. maximal_same k B (Red J) (InSpan MB m g) same
            (maximal_of_simple A L N o.order B R t decides J I over h),
        λ h. simple_of_maximal A L N o.order B R t decides J I over
            (maximal_same k B (InSpan MB m g) (Red J) (other (Red J) (InSpan MB m g) same) h),
      )

      maximal_law : IsMaximalIdeal A p L J ↔ IsMaximalRingIdeal B (InSpan MB m g)
      maximal_law = (
        λ h. simple_law.0 h.simple,
        λ h.
            record { maximal = record { ideal = I; simple = simple_law.1 h }; over = over },
      )

    pub lattice_law : (m : ℕ) (u : ℕ → V) → IsIdeal A L (Lattice F Z A m u) → Within N (Lattice F Z A m u)
        → LatticeReduces F Z p k D A n B v R m u
    lattice_law m u I over =
        let J : V → Type 0 = Lattice F Z A m u in
        let g : ℕ → W = λ i. R.red (u i) in
        let s = reduced_lattice F Z p q U k D A B n v o.order R r.map-scale m u
        (λ i l. I.inside (u i) (lattice-member F Z MA m i u l)) in
        record {
          ideal = reduced_is A L N o.order B R J I over;
          span = s;
          radical = radical_law J I over m g s;
          simple = simple_law J I over m g s;
          maximal = maximal_law J I over m g s;
        }

    span_law : (m : ℕ) (g : ℕ → W) → IdealSpan B m g → SpanLifts F Z p k D A n B v R m g
    span_law m g ideal =
        let S : W → Type 0 = InSpan MB m g in
        let u = lifted_vec F Z p q U k D A B n v o.order R r.map-scale m g in
        let e = lifted_lattice F Z p q U k D A B n v o.order R r.map-scale m g in
        let J : V → Type 0 = Lattice F Z A (m + n) u in
        let I = ideal_same A L (Lifted A L N B R S) J e (lifted_ideal A L N o.order B R S ideal) in
        let over : Within N J = λ x h. e.0 x (lifted_over A L N o.order B R S ideal x h) in
        let s : Same (Red J) S = (
          λ y h. subst S h.2 (e.1 h.0 h.1).1,
          λ y h.
              (R.lift y, e.0 (R.lift y) (R.lift_in y, subst S (sym (R.red-lift y)) h), R.red-lift y),
        ) in
        let radical = radical_law J I over m g s in
        let maximal = maximal_law J I over m g s in
        record {
          ideal = lifted_is A L N o.order B R S ideal;
          size = m + n;
          vec = u;
          lattice = e;
          radical = (radical.1, radical.0);
          maximal = (maximal.1, maximal.0);
        }

  pub ideals_correspond : (W : Type 0) → IdealsCorrespondAlways F Z p k D A n W
  ideals_correspond W = λ v o B w r. record {
    lattices = lattice_law v o B w r;
    spans = span_law v o B w r;
    lattices_within = λ a x m u hI hJ over. reduced_within A (L v o B w r) (N v o B w r) o.order B r.reduction
        (Lattice F Z A a x) (Lattice F Z A m u) hI hJ over;
    spans_within = λ a g m h. lifted_within A (L v o B w r) (N v o B w r) o.order B r.reduction
        (InSpan (module_of B) a g) (InSpan (module_of B) m h);
    ends = ends_correspond A (L v o B w r) (N v o B w r) o.order B r.reduction
        (Multiple-zero A p (L v o B w r) o.order);
  }
