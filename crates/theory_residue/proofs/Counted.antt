-- The maximal ideals of an order, one for each idempotent of the centre of the order modulo its radical.
use Rattle.std.specs.Prelude.{◌≡◌, ℕ, ◌<◌}
use Rattle.std.proofs.Common.{refl, sym, subst}
use Rattle.theory_rings.specs.Ring.{FieldOn}
use Rattle.theory_rings.specs.Enumerated.{Enumerated}
use Rattle.theory_spaces.specs.Module.{ModuleOn, AlgebraOn, module_of}
use Rattle.theory_spaces.specs.Linear.{InSpan, Basis, BasisOf}
use Rattle.theory_spaces.specs.Subspaces.{Whole, Kernel}
use Rattle.theory_spaces.specs.Valuation.{ValuationOn}
use Rattle.theory_spaces.proofs.Linear.Modules.{left_linear}
use Rattle.theory_spaces.proofs.Linear.Spaces.{coords_of}
use Rattle.theory_spaces.proofs.Linear.Kernels.{rank_nullity}
use Rattle.theory_spaces.proofs.Linear.Subspaces.{whole_submodule, whole_basis}
use Rattle.theory_orders.specs.Orders.{IsIdeal, Radical, IsMaximalIdeal, Within, Same}
use Rattle.theory_orders.specs.Lattices.{Lattice, IsOrderAt}
use Rattle.theory_orders.proofs.Ideals.Ideals.{ideal_same}
use Rattle.theory_blocks.specs.MaximalIdeals.{Annihilated, MaximalIdealsBySolutions}
use Rattle.theory_blocks.proofs.Families.Spans.{linear_eq_zero}
use Rattle.theory_blocks.proofs.Ideals.MaximalIdealsFinite.{maximal_ideals_are_finitely_many}
use Rattle.theory_residue.specs.Residue.{ResidueOn, ReductionOn, Reduced, Lifted}
use Rattle.theory_residue.specs.Semisimple.{RadicalQuotient, MaximalIdealsCounted, MaximalIdealsAreCounted}
use Rattle.theory_residue.proofs.Correspondence.{of_reduced, lifted_ideal, lifted_over}
use Rattle.theory_residue.proofs.Laws.{maximal_same}

-- what an element sends to 0 is a span
module _ {K V : Type 0} (F : FieldOn K) (A : AlgebraOn F.ring V) (d : ℕ) (D : Basis (module_of A) d) (e : V) where
  abbrev MA : ModuleOn F.ring V
  MA = module_of A

  pub annihilated_basis : (r : ℕ) × BasisOf MA r (Kernel MA MA (λ x. A.◌⊗◌ e x) Whole)
  annihilated_basis =
      let h = rank_nullity F MA MA d (coords_of MA d D) (λ x. A.◌⊗◌ e x) (left_linear A e) Whole (whole_submodule MA) d
      (whole_basis MA d D) in
      (h.nullity, h.kernel)

  pub annihilated_span : Same (Annihilated A e) (InSpan MA annihilated_basis.0 annihilated_basis.1.vec)
  annihilated_span = (
    λ x h. annihilated_basis.1.spans x (tt, h),
    λ x s. linear_eq_zero MA MA (λ x. A.◌⊗◌ e x) (left_linear A e) annihilated_basis.0 annihilated_basis.1.vec
        (λ i l. (annihilated_basis.1.inside i l).1) x s,
  )

module _ {K E V : Type 0} (F : FieldOn K) (Z : ValuationOn F) (p q : K) (k : FieldOn E) (D : ResidueOn F Z q k)
    (A : AlgebraOn F.ring V) (n : ℕ) where
  module _ (N : Enumerated E) (v : ℕ → V) (o : IsOrderAt F Z A n v) (m : ℕ) (u : ℕ → V)
      (R : Radical A p (Lattice F Z A n v) (Lattice F Z A m u))
      (W : ℕ → Type 0) (Q : RadicalQuotient F Z p k D A n v m u W) (M : MaximalIdealsBySolutions k N Q.algebra) where
    abbrev L : V → Type 0
    L = Lattice F Z A n v

    abbrev J : V → Type 0
    J = Lattice F Z A m u

    abbrev C : AlgebraOn k.ring (W Q.size)
    C = Q.algebra

    abbrev MC : ModuleOn k.ring (W Q.size)
    MC = module_of C

    abbrev f : ReductionOn A L J C
    f = Q.reduction

    abbrev count : ℕ
    count = M.factors.count

    abbrev Ann : ℕ → W Q.size → Type 0
    Ann i = Annihilated C (M.factors.idempotent i)

    abbrev Red : (V → Type 0) → W Q.size → Type 0
    Red = Reduced A L J C f

    base : (i : ℕ) → (r : ℕ) × BasisOf MC r (Kernel MC MC (λ x. C.◌⊗◌ (M.factors.idempotent i) x) Whole)
    base i = annihilated_basis k C Q.size Q.basis (M.factors.idempotent i)

    abbrev Sp : ℕ → W Q.size → Type 0
    Sp i = InSpan MC (base i).0 (base i).1.vec

    ann_span : (i : ℕ) → Same (Ann i) (Sp i)
    unfolding base
    ann_span i = annihilated_span k C Q.size Q.basis (M.factors.idempotent i)

    found : (i : ℕ) → (s : ℕ) × (x : ℕ → V) × Same (Lifted A L J C f (Sp i)) (Lattice F Z A s x)
    found i = Q.lattice (base i).0 (base i).1.vec

    abbrev Lat : ℕ → V → Type 0
    Lat i = Lattice F Z A (found i).0 (found i).1

    -- the lattice is what comes from the annihilated elements
    lat_ann : (i : ℕ) → Same (Lifted A L J C f (Ann i)) (Lat i)
    lat_ann i = (
      λ x h. (found i).2.0 x (h.0, (ann_span i).0 (f.red x) h.1),
      λ x h. let g = (found i).2.1 x h in (g.0, (ann_span i).1 (f.red x) g.1),
    )

    lat_ideal : (i : ℕ) → i < count → IsIdeal A L (Lat i)
    lat_ideal i l = ideal_same A L (Lifted A L J C f (Ann i)) (Lat i) (lat_ann i)
        (lifted_ideal A L J o.order C f (Ann i) (M.ideals.maximal i l).ideal)

    lat_over : (i : ℕ) → i < count → Within J (Lat i)
    lat_over i l x h = (lat_ann i).0 x (lifted_over A L J o.order C f (Ann i) (M.ideals.maximal i l).ideal x h)

    -- and becomes them
    red_lat : (i : ℕ) → Same (Red (Lat i)) (Ann i)
    red_lat i = (
      λ w h. subst (Ann i) h.2 ((lat_ann i).1 h.0 h.1).1,
      λ w h. (f.lift w, (lat_ann i).0 (f.lift w) (f.lift_in w, subst (Ann i) (sym (f.red-lift w)) h), f.red-lift w),
    )

    lat_maximal : (i : ℕ) → i < count → IsMaximalIdeal A p L (Lat i)
    lat_maximal i l =
        let I = lat_ideal i l in
        let over = lat_over i l in
        let S : W Q.size → Type 0 = InSpan MC (found i).0 (λ j. f.red ((found i).1 j)) in
        let s = Q.span (found i).0 (found i).1 I over in
        let e : Same (Ann i) S = (λ w h. s.0 w ((red_lat i).1 w h), λ w h. (red_lat i).0 w (s.1 w h)) in
        (Q.maximal (found i).0 (found i).1 I over).1 (maximal_same k C (Ann i) S e (M.ideals.maximal i l))

    lat_distinct : (i j : ℕ) → i < count → j < count → Within (Lat i) (Lat j) → i ≡ j
    lat_distinct i j a b h = M.ideals.distinct i j a b
        (λ w g. let y = (red_lat i).1 w g in (red_lat j).0 w (y.0, h y.0 y.1, y.2))

    lat_complete : (a : ℕ) (x : ℕ → V) → IsMaximalIdeal A p L (Lattice F Z A a x) → (i : ℕ) × (i < count)
        × Same (Lattice F Z A a x) (Lat i)
    lat_complete a x X =
        let T : V → Type 0 = Lattice F Z A a x in
        let over = Q.holds a x X in
        let g : ℕ → W Q.size = λ i. f.red (x i) in
        let H = (Q.maximal a x X.ideal over).0 X in
        let r = M.ideals.complete a g H.ideal H in
        let s = Q.span a x X.ideal over in (
          r.0,
          r.1,
          (
            λ y h. (lat_ann r.0).0 y (X.ideal.inside y h, (r.2 (f.red y)).0 (s.0 (f.red y) (y, h, refl))),
            λ y h. let z = (lat_ann r.0).1 y h in
                of_reduced A L J o.order C f T X.ideal over y z.0 (s.1 (f.red y) ((r.2 (f.red y)).1 z.1)),
          ),
        )

    counted : MaximalIdealsCounted F Z p k D A n N v C
    counted = record {
      count = count;
      size = λ i. (found i).0;
      vec = λ i. (found i).1;
      maximal = lat_maximal;
      distinct = lat_distinct;
      complete = lat_complete;
      solutions = M.dimension;
    }

  pub maximal_ideals_are_counted : (W : ℕ → Type 0) → MaximalIdealsAreCounted F Z p k D A n W
  maximal_ideals_are_counted W = λ N c i prime char size v o m u R Q.
      counted N v o m u R W Q (maximal_ideals_are_finitely_many k N Q.algebra Q.size Q.basis c i prime char size Q.none)
