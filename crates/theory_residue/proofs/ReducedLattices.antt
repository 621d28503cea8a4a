-- What a lattice becomes is a span, and what a span comes from is a lattice.
use Rattle.std.specs.Prelude.{◌≡◌, ℕ, zero, suc, ◌+◌, ◌<◌}
use Rattle.std.proofs.Common.{refl, sym, ◌∙◌, ap, ap₂, subst, arith}
use Rattle.theory_rings.specs.Ring.{FieldOn}
use Rattle.theory_rings.proofs.Rings.RingLaws.{add-zero}
use Rattle.theory_rings.proofs.Sums.Sums.{sum_congr}
use Rattle.theory_spaces.specs.Module.{ModuleOn, AlgebraOn, module_of}
use Rattle.theory_spaces.specs.Linear.{comb, InSpan, IsSubmodule}
use Rattle.theory_spaces.specs.Valuation.{ValuationOn, integers, restrict}
use Rattle.theory_spaces.proofs.Linear.Families.{join, each_join}
use Rattle.theory_spaces.proofs.Linear.Modules.{comb_congr, scale-sum, InSpan-zero, InSpan-add, InSpan-scale}
use Rattle.theory_spaces.proofs.Linear.Modules.{InSpan-member}
use Rattle.theory_orders.specs.Uniformizer.{IsIntegral, UniformizerOn}
use Rattle.theory_orders.specs.Orders.{IsOrder, Multiple, Within, Same}
use Rattle.theory_orders.specs.Lattices.{Lattice}
use Rattle.theory_residue.specs.Residue.{ResidueOn, ReductionOn, Reduced, Lifted}
use Rattle.theory_residue.proofs.Correspondence.{red-zero, red_of_kernel, difference}
use Rattle.theory_spaces.proofs.Linear.LatticeSpans.{lattice-add, lattice-scale, lattice-member, lattice-comb}
use Rattle.theory_spaces.proofs.Linear.LatticeSpans.{lattice_trans, lattice-join_left, lattice-join_right, lattice_in}

module _ {K E V W : Type 0} (F : FieldOn K) (Z : ValuationOn F) (p q : K) (U : UniformizerOn F Z p q) (k : FieldOn E)
    (D : ResidueOn F Z q k)
    (A : AlgebraOn F.ring V) (B : AlgebraOn k.ring W) (n : ℕ) (v : ℕ → V) (O : IsOrder A (Lattice F Z A n v))
    (r : ReductionOn A (Lattice F Z A n v) (Multiple A p (Lattice F Z A n v)) B)
    (map-scale : (a : K) (x : V) → IsIntegral F Z a → Lattice F Z A n v x
    → r.red (A.◌•◌ a x) ≡ B.◌•◌ (D.res a) (r.red x)) where
  infixl 65 ◌⊕◌
  infixl 70 ◌•◌
  open A use {◌⊕◌, ◌•◌, neg}
  open r use {red, lift, lift_in, red-lift}

  abbrev MA : ModuleOn F.ring V
  MA = module_of A

  abbrev RA : ModuleOn (integers F Z) V
  RA = restrict F Z MA

  abbrev MB : ModuleOn k.ring W
  MB = module_of B

  abbrev L : V → Type 0
  L = Lattice F Z A n v

  abbrev N : V → Type 0
  N = Multiple A p L

  comb_inside : (m : ℕ) (c : ℕ → K) (u : ℕ → V) → ((i : ℕ) → i < m → IsIntegral F Z (c i))
      → ((i : ℕ) → i < m → L (u i)) → L (comb MA m c u)
  comb_inside m c u int h = lattice-comb F Z MA m n c u v int h

  red-combination : (m : ℕ) (c : ℕ → K) (u : ℕ → V) → ((i : ℕ) → i < m → IsIntegral F Z (c i))
      → ((i : ℕ) → i < m → L (u i))
      → red (comb MA m c u) ≡ comb MB m (λ i. D.res (c i)) (λ i. red (u i))
  red-combination zero c u int h = red-zero A L N O B r
  red-combination (suc m) c u int h =
      let before : (i : ℕ) → i < m → L (u i) = λ i l. h i (omega arith) in
      let small : (i : ℕ) → i < m → IsIntegral F Z (c i) = λ i l. int i (omega arith) in
      let last : L (u m) = h m (omega arith) in
      let c_in = int m (omega arith) in
      r.map-add (comb MA m c u) (c m • u m) (comb_inside m c u small before)
      (lattice-scale F Z MA n v (c m, c_in) (u m) last)
      ∙ ap₂ B.◌⊕◌ (red-combination m c u small before) (map-scale (c m) (u m) c_in last)

  module _ (m : ℕ) (u : ℕ → V) (inside : (i : ℕ) → i < m → L (u i)) where
    pub reduced_lattice : Same (Reduced A L N B r (Lattice F Z A m u)) (InSpan MB m (λ i. red (u i)))
    reduced_lattice = (
      λ w h. record {
        weights = λ i. D.res (h.1.weights i);
        combines = sym h.2 ∙ ap red h.1.combines ∙ red-combination m h.1.weights u h.1.passes inside;
      },
      λ w s.
          let c : ℕ → K = λ i. D.lift (s.weights i) in
          let int : (i : ℕ) → i < m → IsIntegral F Z (c i) = λ i _. D.lift_in (s.weights i) in (
            comb MA m c u,
            record { weights = c; passes = int; combines = refl },
            red-combination m c u int inside ∙ comb_congr MB m (λ i. D.res (D.lift (s.weights i))) s.weights
                (λ i. red (u i)) (λ i _. D.res-lift (s.weights i)) ∙ sym s.combines,
          ),
    )

  p_multiple : (y : V) → L y → Lattice F Z A n (λ i. p • v i) (p • y)
  p_multiple y s = record {
    weights = s.weights;
    passes = s.passes;
    combines = ap (λ z. p • z) s.combines ∙ scale-sum MA n p (λ i. s.weights i • v i)
        ∙ sum_congr A.monoid n (λ i. p • (s.weights i • v i)) (λ i. s.weights i • (p • v i))
        (λ i _. sym (A.mul-scale p (s.weights i) (v i)) ∙ ap (λ a. a • v i) (F.mul_comm p (s.weights i))
        ∙ A.mul-scale (s.weights i) p (v i));
  }

  module _ (m : ℕ) (g : ℕ → W) where
    abbrev Span : W → Type 0
    Span = InSpan MB m g

    abbrev From : V → Type 0
    From = Lifted A L N B r Span

    -- representatives of the vectors of the span, and p times the vectors of the order
    abbrev pub lifted_vec : ℕ → V
    lifted_vec = join m (λ i. lift (g i)) (λ i. p • v i)

    abbrev Lat : V → Type 0
    Lat = Lattice F Z A (m + n) lifted_vec

    from_submodule : IsSubmodule RA From
    from_submodule = record {
      zero-in = (O.zero_in, subst Span (sym (red-zero A L N O B r)) (InSpan-zero MB m g));
      add-in = λ x y h s. (
        O.add_in x y h.0 s.0,
        subst Span (sym (r.map-add x y h.0 s.0))
            (InSpan-add MB m g (red x) (red y) h.1 s.1),
      );
      scale-in = λ a x h. (
        lattice-scale F Z MA n v a x h.0,
        subst Span (sym (map-scale a.0 x a.1 h.0)) (InSpan-scale MB m g (D.res a.0) (red x) h.1),
      );
    }

    multiple_from : (x : V) → N x → From x
    multiple_from x h = (r.kernel_in x h, subst Span (sym (red_of_kernel A L N O B r x h)) (InSpan-zero MB m g))

    lattice_from : Within Lat From
    lattice_from = lattice_in F Z MA From from_submodule (m + n) lifted_vec
        (each_join m n (λ i. lift (g i)) (λ i. p • v i) From
        (λ i l. (lift_in (g i), subst Span (sym (red-lift (g i))) (InSpan-member MB m i g l)))
        (λ i l. multiple_from (p • v i) (v i, lattice-member F Z MA n i v l, refl)))

    from_lattice : Within From Lat
    from_lattice x h =
        let s = h.1 in
        let c : ℕ → K = λ i. D.lift (s.weights i) in
        let int : (i : ℕ) → i < m → IsIntegral F Z (c i) = λ i _. D.lift_in (s.weights i) in
        let u : ℕ → V = λ i. lift (g i) in
        let y = comb MA m c u in
        let ly : L y = comb_inside m c u int (λ i _. lift_in (g i)) in
        let e : red x ≡ red y = s.combines
        ∙ sym (red-combination m c u int (λ i _. lift_in (g i))
        ∙ sum_congr MB.monoid m (λ i. MB.◌•◌ (D.res (D.lift (s.weights i))) (red (lift (g i))))
        (λ i. MB.◌•◌ (s.weights i) (g i))
        (λ i _. ap₂ MB.◌•◌ (D.res-lift (s.weights i)) (red-lift (g i)))) in
        let z = difference A L N O B r x y h.0 ly e in
        let in_y : Lat y = lattice_trans F Z MA m (m + n) u lifted_vec y (lattice-join_left F Z MA m n u (λ i. p • v i))
        (record { weights = c; passes = int; combines = refl }) in
        let in_z : Lat (x ⊕ neg y) = subst Lat (sym z.2)
        (lattice_trans F Z MA n (m + n) (λ i. p • v i) lifted_vec (p • z.0)
        (lattice-join_right F Z MA m n u (λ i. p • v i))
        (p_multiple z.0 z.1)) in
        subst Lat (A.add_assoc x (neg y) y ∙ ap (λ t. x ⊕ t) (A.neg-add y) ∙ add-zero A.monoid x)
        (lattice-add F Z MA (m + n) lifted_vec (x ⊕ neg y) y in_z in_y)

    pub lifted_lattice : Same (Lifted A L N B r Span) (Lattice F Z A (m + n) lifted_vec)
    lifted_lattice = (from_lattice, lattice_from)
