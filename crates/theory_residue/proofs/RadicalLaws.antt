-- The law of an order modulo its radical.
use Rattle.std.specs.Prelude.{ℕ, ◌+◌, ◌↔◌}
use Rattle.std.proofs.Common.{refl, ◌∙◌, ap}
use Rattle.theory_rings.specs.Ring.{FieldOn}
use Rattle.theory_spaces.specs.Module.{ModuleOn, AlgebraOn, module_of}
use Rattle.theory_spaces.specs.Linear.{InSpan, Basis}
use Rattle.theory_spaces.specs.Space.{SpaceOn}
use Rattle.theory_spaces.specs.Algebra.{IdealSpan}
use Rattle.theory_spaces.specs.Valuation.{ValuationOn}
use Rattle.theory_spaces.proofs.Linear.Spaces.{coords_of}
use Rattle.theory_orders.specs.Uniformizer.{UniformizerOn}
use Rattle.theory_orders.specs.Orders.{IsIdeal, Multiple, Radical, IsMaximalIdeal, Within, Same}
use Rattle.theory_orders.specs.Lattices.{Lattice, IsOrderAt}
use Rattle.theory_orders.proofs.Ideals.SimpleQuotients.{simple_by_elements}
use Rattle.theory_radical.specs.Ideal.{IsLargestNilpotentIdeal}
use Rattle.theory_blocks.specs.MaximalIdeals.{IsMaximalIdeal as IsMaximalRingIdeal}
use Rattle.theory_residue.specs.Residue.{ResidueOn, ReductionOn, Reduced, Lifted, ResidueReduction}
use Rattle.theory_residue.specs.ResidueLaws.{LatticeReduces}
use Rattle.theory_residue.specs.Semisimple.{QuotientAlgebra, RadicalQuotient, RadicalQuotientExists}
use Rattle.theory_residue.proofs.Correspondence.{of_reduced}
use Rattle.theory_residue.proofs.Radicals.{maximal_of_simple, simple_of_maximal}
use Rattle.theory_residue.proofs.ReducedLattices.{reduced_lattice, lifted_vec, lifted_lattice}
use Rattle.theory_residue.proofs.QuotientAlgebras.{quotient_exists}
use Rattle.theory_residue.proofs.RadicalQuotients.{composed, none_nilpotent, reduced_span, from_vec, lifted_span}
use Rattle.theory_residue.proofs.RadicalQuotients.{nilpotent_in_maximal}
use Rattle.theory_residue.proofs.Laws.{other, maximal_same, lattice_law, t, decides}
use Rattle.theory_spaces.proofs.Linear.LatticeSpans.{lattice-member}

module _ {K E V : Type 0} (F : FieldOn K) (Z : ValuationOn F) (p q : K) (U : UniformizerOn F Z p q) (k : FieldOn E)
    (D : ResidueOn F Z q k)
    (A : AlgebraOn F.ring V) (n : ℕ) (b : Basis (module_of A) n) where
  module _ {Y : Type 0} (v : ℕ → V) (o : IsOrderAt F Z A n v) (B : AlgebraOn k.ring Y) (w : Basis (module_of B) n)
      (r : ResidueReduction F Z p k D A B n v w.vec)
      (m : ℕ) (u : ℕ → V) (R : Radical A p (Lattice F Z A n v) (Lattice F Z A m u)) (W : ℕ → Type 0)
      (M : (s : ℕ) → ModuleOn k.ring (W s)) (S : (s : ℕ) → SpaceOn (M s) s) where
    abbrev L : V → Type 0
    L = Lattice F Z A n v

    abbrev N : V → Type 0
    N = Multiple A p L

    abbrev J : V → Type 0
    J = Lattice F Z A m u

    abbrev f : ReductionOn A L N B
    f = r.reduction

    abbrev g : ℕ → Y
    g i = f.red (u i)

    abbrev MB : ModuleOn k.ring Y
    MB = module_of B

    reduces : LatticeReduces F Z p k D A n B v f m u
    reduces = lattice_law F Z p q U k D A n b v o B w r m u R.ideal R.over

    largest : IsLargestNilpotentIdeal B (InSpan MB m g)
    largest = reduces.radical.0 R

    span_ideal : IdealSpan B m g
    span_ideal = largest.nilpotent.ideal

    Q : QuotientAlgebra B (InSpan MB m g) W
    Q = quotient_exists k B n w W M S m g span_ideal

    comes_from : Same (Lifted A L N B f (InSpan MB m g)) J
    comes_from = (
      λ x h. of_reduced A L N o.order B f J R.ideal R.over x h.0 (reduces.span.1 (f.red x) h.1),
      λ x j. (R.ideal.inside x j, reduces.span.0 (f.red x) (x, j, refl)),
    )

    module _ (T : QuotientAlgebra B (InSpan MB m g) W) where
      abbrev C : AlgebraOn k.ring (W T.size)
      C = T.algebra

      abbrev down : Y → W T.size
      down y = T.reduction.red y

      abbrev both : ReductionOn A L J C
      both = composed A L N B f (InSpan MB m g) C T.reduction J comes_from

      -- a maximal ideal over p·Λ holds the radical
      holds_radical : (a : ℕ) (x : ℕ → V) → IsMaximalIdeal A p L (Lattice F Z A a x) → Within J (Lattice F Z A a x)
      holds_radical a x h = nilpotent_in_maximal A L o.order (Lattice F Z A a x) h.ideal
          (simple_by_elements F Z A n (coords_of (module_of A) n b) n v a x o.order h.ideal h.simple) J R.ideal
          R.exponent (λ y s. h.over y (R.falls y s))

      module _ (a : ℕ) (x : ℕ → V) (I : IsIdeal A L (Lattice F Z A a x)) (over : Within J (Lattice F Z A a x)) where
        abbrev Lat : V → Type 0
        Lat = Lattice F Z A a x

        abbrev image : W T.size → Type 0
        image = InSpan (module_of C) a (λ i. down (f.red (x i)))

        first : Same (Reduced A L N B f Lat) (InSpan MB a (λ i. f.red (x i)))
        first = reduced_lattice F Z p q U k D A B n v o.order f r.map-scale a x
            (λ i l. I.inside (x i) (lattice-member F Z (module_of A) a i x l))

        second : Same (Reduced B (λ y. Unit {0}) (InSpan MB m g) C T.reduction (InSpan MB a (λ i. f.red (x i)))) image
        second = reduced_span k B n w (InSpan MB m g) C T.reduction T.map-scale a (λ i. f.red (x i))

        image_is : Same (Reduced A L J C both Lat) image
        image_is = (
          λ z h. second.0 z (f.red h.0, first.0 (f.red h.0) (h.0, h.1, refl), h.2),
          λ z h. let s = second.1 z h in let y = first.1 s.0 s.1 in (y.0, y.1, ap down y.2 ∙ s.2),
        )

        maximal_in_quotient : IsMaximalIdeal A p L Lat ↔ IsMaximalRingIdeal C image
        maximal_in_quotient = (
          λ h. maximal_same k C (Reduced A L J C both Lat) image image_is
              (maximal_of_simple A L J o.order C both (t F Z p q U k D A n b v o B w r)
              (decides F Z p q U k D A n b v o B w r) Lat I over h.simple),
          λ h. record {
            maximal = record {
              ideal = I;
              simple = simple_of_maximal A L J o.order C both (t F Z p q U k D A n b v o B w r)
                  (decides F Z p q U k D A n b v o B w r) Lat I over
                  (maximal_same k C image (Reduced A L J C both Lat)
                  (other (Reduced A L J C both Lat) image image_is) h);
            };
            over = λ y s. over y (R.over y s);
          },
        )

      -- what an ideal of the quotient comes from is a lattice
      from_quotient : (a : ℕ) (h : ℕ → W T.size) → (s : ℕ) × (x : ℕ → V)
          × Same (Lifted A L J C both (InSpan (module_of C) a h)) (Lattice F Z A s x)
      from_quotient a h =
          let y = from_vec k B n w (InSpan MB m g) C T.reduction T.map-scale m g ((λ z s. s), (λ z s. s)) a h in
          let e = lifted_span k B n w (InSpan MB m g) C T.reduction T.map-scale m g ((λ z s. s), (λ z s. s)) a h in
          let l = lifted_lattice F Z p q U k D A B n v o.order f r.map-scale (a + m) y in (
            a + m + n,
            lifted_vec F Z p q U k D A B n v o.order f r.map-scale (a + m) y,
            (λ x s. l.0 x (s.0, e.0 (f.red x) s.1), λ x s. let z = l.1 x s in (z.0, e.1 (f.red x) z.1)),
          )

      quotient_of_radical : RadicalQuotient F Z p k D A n v m u W
      quotient_of_radical = record {
        size = T.size;
        algebra = C;
        basis = T.basis;
        none = none_nilpotent k B n w (InSpan MB m g) C T.reduction T.map-scale largest;
        reduction = both;
        holds = holds_radical;
        maximal = maximal_in_quotient;
        span = image_is;
        lattice = from_quotient;
      }

  pub radical_quotient_exists : (Y : Type 0) (W : ℕ → Type 0) → RadicalQuotientExists F Z p k D A n Y W
  radical_quotient_exists Y W = λ v o B w r m u R M S. quotient_of_radical v o B w r m u R W M S
      (Q v o B w r m u R W M S)
