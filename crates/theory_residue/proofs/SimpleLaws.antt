-- The quotient of an order by an ideal is simple where the algebra onto which it is mapped with this kernel is.
use Rattle.std.specs.Prelude.{◌≡◌, ℕ, ◌↔◌, Bool}
use Rattle.std.proofs.Common.{refl, sym, ◌∙◌}
use Rattle.theory_rings.specs.Ring.{RingOn, FieldOn}
use Rattle.theory_spaces.specs.Module.{AlgebraOn, module_of}
use Rattle.theory_spaces.specs.Linear.{InSpan, Basis}
use Rattle.theory_spaces.specs.AlgebraMap.{IsSimple}
use Rattle.theory_spaces.specs.Valuation.{ValuationOn}
use Rattle.theory_spaces.specs.Sets.{Whole, Zero, ring_ops}
use Rattle.theory_spaces.proofs.Algebras.SetLemmas.{simple_same}
use Rattle.theory_spaces.proofs.Algebras.SimpleTests.{simple_to_tests, simple_of_tests}
use Rattle.theory_orders.specs.Uniformizer.{UniformizerOn}
use Rattle.theory_orders.specs.Orders.{IsOrder, IsIdeal, Multiple, SimpleQuotient, Within, Same, Test}
use Rattle.theory_orders.specs.Lattices.{Lattice, IsOrderAt}
use Rattle.theory_residue.specs.Residue.{ResidueOn, ReductionOn, Reduced, Lifted, ResidueReduction}
use Rattle.theory_residue.specs.ResidueLaws.{LatticeReduces}
use Rattle.theory_residue.specs.Semisimple.{QuotientAlgebra, SimpleByQuotient, QuotientAlgebraExists}
use Rattle.theory_residue.proofs.Correspondence.{red-zero, red_of_kernel, reduced_ideal, of_reduced}
use Rattle.theory_residue.proofs.Radicals.{maximal_of_simple, simple_of_maximal}
use Rattle.theory_residue.proofs.QuotientAlgebras.{quotient_exists}
use Rattle.theory_residue.proofs.RadicalQuotients.{composed}
use Rattle.theory_residue.proofs.Laws.{lattice_law, t, decides}

module _ {K E V W : Type 0} {R : RingOn K} (k : FieldOn E) (A : AlgebraOn R V) (L N : V → Type 0) (O : IsOrder A L)
    (B : AlgebraOn k.ring W) (r : ReductionOn A L N B)
    (d : ℕ) (D : Basis (module_of B) d) (l : V → Bool) (decides : Same (Test l) L) (I : IsIdeal A L N) where
  abbrev Red : W → Type 0
  Red = Reduced A L N B r N

  -- the kernel becomes 0 alone
  zeros : Same Red (Zero (ring_ops B.ring))
  zeros = (
    λ w h. sym h.2 ∙ red_of_kernel A L N O B r h.0 h.1,
    λ w e. (A.zero, I.zero_in, red-zero A L N O B r ∙ sym e),
  )

  simple_of_quotient : IsSimple B × (B.one ≡ B.zero → ⊥) → SimpleQuotient A L N
  simple_of_quotient h = simple_of_maximal A L N O B r l decides N I (λ x j. j) (record {
    ideal = reduced_ideal A L N O B r N I;
    simple = simple_same (ring_ops B.ring) Whole (Zero (ring_ops B.ring)) Red (zeros.1, zeros.0)
        (simple_to_tests k B d D h);
  })

  quotient_of_simple : SimpleQuotient A L N → IsSimple B × (B.one ≡ B.zero → ⊥)
  quotient_of_simple S = simple_of_tests k B d D (simple_same (ring_ops B.ring) Whole Red (Zero (ring_ops B.ring)) zeros
      (maximal_of_simple A L N O B r l decides N I (λ x j. j) S).simple)

  pub simple_by_kernel : SimpleQuotient A L N ↔ (IsSimple B × (B.one ≡ B.zero → ⊥))
  simple_by_kernel = (quotient_of_simple, simple_of_quotient)

module _ {K E V : Type 0} (F : FieldOn K) (Z : ValuationOn F) (p q : K) (U : UniformizerOn F Z p q) (k : FieldOn E)
    (D : ResidueOn F Z q k)
    (A : AlgebraOn F.ring V) (n : ℕ) (b : Basis (module_of A) n) where
  module _ {Y : Type 0} (v : ℕ → V) (o : IsOrderAt F Z A n v) (B : AlgebraOn k.ring Y) (w : Basis (module_of B) n)
      (r : ResidueReduction F Z p k D A B n v w.vec)
      (m : ℕ) (u : ℕ → V) (I : IsIdeal A (Lattice F Z A n v) (Lattice F Z A m u))
      (over : Within (Multiple A p (Lattice F Z A n v)) (Lattice F Z A m u))
      (W : ℕ → Type 0) (T : QuotientAlgebra B (InSpan (module_of B) m (λ i. r.reduction.red (u i))) W) where
    abbrev L : V → Type 0
    L = Lattice F Z A n v

    abbrev J : V → Type 0
    J = Lattice F Z A m u

    abbrev f : ReductionOn A L (Multiple A p L) B
    f = r.reduction

    abbrev S : Y → Type 0
    S = InSpan (module_of B) m (λ i. f.red (u i))

    reduces : LatticeReduces F Z p k D A n B v f m u
    reduces = lattice_law F Z p q U k D A n b v o B w r m u I over

    comes_from : Same (Lifted A L (Multiple A p L) B f S) J
    comes_from = (
      λ x h. of_reduced A L (Multiple A p L) o.order B f J I over x h.0 (reduces.span.1 (f.red x) h.1),
      λ x j. (I.inside x j, reduces.span.0 (f.red x) (x, j, refl)),
    )

    simple_law : SimpleQuotient A L J ↔ (IsSimple T.algebra × (T.algebra.one ≡ T.algebra.zero → ⊥))
    simple_law = simple_by_kernel k A L J o.order T.algebra
        (composed A L (Multiple A p L) B f S T.algebra T.reduction J comes_from)
        T.size T.basis (t F Z p q U k D A n b v o B w r) (decides F Z p q U k D A n b v o B w r) I

  pub simple_by_quotient : (Y : Type 0) (W : ℕ → Type 0) → SimpleByQuotient F Z p k D A n Y W
  simple_by_quotient Y W = λ v o B w r m u I over T. simple_law v o B w r m u I over W T

  pub quotient_algebra_exists : (Y : Type 0) (W : ℕ → Type 0) → QuotientAlgebraExists F Z p k D A n Y W
  quotient_algebra_exists Y W = λ B w M S m g ideal. quotient_exists k B n w W M S m g ideal
