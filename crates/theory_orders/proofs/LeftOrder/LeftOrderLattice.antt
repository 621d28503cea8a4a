-- Where the trace form is nondegenerate, the left order of a lattice of full rank is a lattice of full rank: the dual
-- of the products of the lattice with its dual.
use Rattle.std.specs.Prelude.{◌≡◌, ℕ, ◌+◌, ◌*◌, ◌/◌, ◌%◌, ◌<◌}
use Rattle.std.proofs.Common.{refl, sym, ◌∙◌, ap, subst}
use Rattle.theory_rings.specs.Ring.{FieldOn}
use Rattle.theory_spaces.specs.Module.{ModuleOn, AlgebraOn, module_of}
use Rattle.theory_spaces.specs.Linear.{Independent, Basis, InSpan}
use Rattle.theory_spaces.specs.Algebra.{trace, Nondegenerate}
use Rattle.theory_spaces.specs.Form.{trace_form}
use Rattle.theory_spaces.specs.Valuation.{ValuationOn, integers, restrict, LatticeBasis}
use Rattle.theory_spaces.proofs.Linear.Modules.{left_linear, right_linear, map-comb, InSpan-comb, InSpan-member}
use Rattle.theory_spaces.proofs.Linear.Modules.{InSpan_trans}
use Rattle.theory_spaces.proofs.Linear.Spaces.{basis_of, coords_of}
use Rattle.theory_spaces.proofs.Linear.Dimension.{dimension_unique}
use Rattle.theory_spaces.proofs.Linear.Lattices.{lattice_basis}
use Rattle.theory_spaces.proofs.Matrices.PairIndex.{pair-lt, row-lt, column-lt}
use Rattle.theory_orders.specs.Uniformizer.{IsIntegral}
use Rattle.theory_orders.specs.Orders.{IsOrder, IsIdeal, LeftOrder, Same}
use Rattle.theory_orders.specs.Lattices.{Lattice, IsOrderAt}
use Rattle.theory_orders.specs.Dual.{Dual}
use Rattle.theory_spaces.proofs.Linear.LatticeTests.{pairs_of, pairs_of-at}
use Rattle.theory_orders.proofs.Ideals.SimpleQuotients.{lattice_mul}
use Rattle.theory_orders.proofs.Splitting.Ramified.{spanning}
use Rattle.theory_orders.proofs.LeftOrder.LeftOrders.{left_order_is_order}
use Rattle.theory_orders.proofs.Lattices.DualLattices.{Star_sub, swap, dual_vec, dual_vec-independent, dual_vec-in}
use Rattle.theory_orders.proofs.Lattices.DualLattices.{in_lattice_of, dual_lattice}
use Rattle.theory_spaces.proofs.Linear.LatticeSpans.{lattice_span, lattice-member, lattice_trans, lattice_in}

pub order_same : {K V : Type 0} (F : FieldOn K) (A : AlgebraOn F.ring V) (I J : V → Type 0) → Same I J → IsOrder A I
    → IsOrder A J
order_same F A I J e O = record {
  one_in = e.0 A.one O.one_in;
  zero_in = e.0 A.zero O.zero_in;
  add_in = λ x y h g. e.0 (A.◌⊕◌ x y) (O.add_in x y (e.1 x h) (e.1 y g));
  neg_in = λ x h. e.0 (A.neg x) (O.neg_in x (e.1 x h));
  mul_in = λ x y h g. e.0 (A.◌⊗◌ x y) (O.mul_in x y (e.1 x h) (e.1 y g));
}

module _ {K V : Type 0} (F : FieldOn K) (Z : ValuationOn F) (A : AlgebraOn F.ring V) (n : ℕ)
    (B : Basis (module_of A) n) (non : Nondegenerate A n B)
    (js : ℕ → V) (ind : Independent (module_of A) n js) where
  infixl 70 ◌⊗◌
  open A use {◌⊗◌}

  abbrev M : ModuleOn F.ring V
  M = module_of A

  abbrev RA : ModuleOn (integers F Z) V
  RA = restrict F Z M

  abbrev In : K → Type 0
  In = IsIntegral F Z

  abbrev J : V → Type 0
  J = Lattice F Z A n js

  abbrev f : V → V → K
  f = trace_form A n B

  abbrev d : ℕ → V
  d = dual_vec F Z A n B non js ind

  -- the products of the lattice and its dual
  abbrev W : ℕ → V
  W = pairs_of A.◌⊗◌ n js d

  abbrev JD : V → Type 0
  JD = Lattice F Z A (n * n) W

  moved : (a x y : V) → f (a ⊗ x) y ≡ f a (x ⊗ y)
  moved a x y = ap (trace A n B) (A.mul_assoc a x y)

  product_in : (x : V) → J x → (j : ℕ) → j < n → JD (x ⊗ d j)
  product_in x h j l = lattice_mul F Z A n (coords_of M n B) n js n js (d j) x (n * n) W
      (λ i g. subst JD (pairs_of-at A.◌⊗◌ n js d i j l)
      (lattice-member F Z M (n * n) (i * n + j) W (pair-lt n n i j g l))) h

  left_order_dual : Same (LeftOrder A J) (Dual F Z A n B JD)
  left_order_dual = (
    λ a h x s. subst In (swap F Z A n B non a x)
        (lattice_in F Z M (Dual F Z A n B (λ y. y ≡ a)) (Star_sub F Z A n B non (λ y. y ≡ a)) (n * n) W
        (λ t l y e.
        let i = t / n in
        let j = t % n in
        let aj = h (js i) (lattice-member F Z M n i js (row-lt n n t l)) in
        subst (λ y. In (f y (W t))) (sym e) (subst In (moved a (js i) (d j))
        (dual_vec-in F Z A n B non js ind j (column-lt n n t l) (a ⊗ js i) aj))) x s a refl),
    λ a h x s. in_lattice_of F Z A n B non js ind (a ⊗ x)
        (λ j l. subst In (swap F Z A n B non (x ⊗ d j) a ∙ sym (moved a x (d j)))
        (h (x ⊗ d j) (product_in x s j l))),
  )

  -- the products span everything over the field
  whole : (x : V) → InSpan M (n * n) W x
  whole x =
      let S : V → Type 0 = InSpan M (n * n) W in
      let one = spanning F A n B d (dual_vec-independent F Z A n B non js ind) A.one in
      let e = spanning F A n B js ind x in
      subst S (A.mul-one x)
      (subst S (sym (ap (λ z. x ⊗ z) one.combines ∙ map-comb M M (λ z. x ⊗ z) (left_linear A x) n one.weights d))
      (InSpan-comb M n (n * n) one.weights (λ j. x ⊗ d j) W (λ j l.
      subst S (sym (ap (λ z. z ⊗ d j) e.combines ∙ map-comb M M (λ z. z ⊗ d j) (right_linear A (d j)) n e.weights js))
      (InSpan-comb M n (n * n) e.weights (λ i. js i ⊗ d j) W (λ i g.
      subst S (pairs_of-at A.◌⊗◌ n js d i j l) (InSpan-member M (n * n) (i * n + j) W (pair-lt n n i j g l)))))))

  abbrev LB : LatticeBasis F Z M (n * n) W
  LB = lattice_basis F Z M n (coords_of M n B) (n * n) W

  rank-is : LB.rank ≡ n
  rank-is = dimension_unique F M LB.rank n
      (basis_of M LB.rank LB.vec LB.independent (λ x. InSpan_trans M (n * n) LB.rank W LB.vec x
      (λ i l. lattice_span F Z M LB.rank LB.vec (W i) (LB.spans i l)) (whole x))) B

  independent_vec : Independent M n LB.vec
  independent_vec = subst (λ r. Independent M r LB.vec) rank-is LB.independent

  basis_same : Same JD (Lattice F Z A n LB.vec)
  basis_same = subst (λ r. Same JD (Lattice F Z A r LB.vec)) rank-is (
    λ x. lattice_trans F Z M (n * n) LB.rank W LB.vec x LB.spans,
    λ x. lattice_trans F Z M LB.rank (n * n) LB.vec W x LB.within,
  )

  pub left_vec : ℕ → V
  left_vec = dual_vec F Z A n B non LB.vec independent_vec

  pub left_order_lattice : Same (LeftOrder A J) (Lattice F Z A n left_vec)
  unfolding left_vec
  left_order_lattice =
      let e = dual_lattice F Z A n B non LB.vec independent_vec in (
        λ a h. e.0 a (λ y s. left_order_dual.0 a h y (basis_same.1 y s)),
        λ a h. left_order_dual.1 a (λ y s. e.1 a h y (basis_same.0 y s)),
      )

  pub left_order_at : (L : V → Type 0) → IsOrder A L → IsIdeal A L J → (w : ℕ → V) × IsOrderAt F Z A n w
      × Same (LeftOrder A J) (Lattice F Z A n w)
  unfolding left_vec
  left_order_at L O I = (
    left_vec,
    record {
      independent = dual_vec-independent F Z A n B non LB.vec independent_vec;
      order = order_same F A (LeftOrder A J) (Lattice F Z A n left_vec) left_order_lattice
          (left_order_is_order A L O J I);
    },
    left_order_lattice,
  )
