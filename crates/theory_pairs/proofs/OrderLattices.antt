-- A first order at a place, by as many vectors as the dimension.
use Rattle.std.specs.Prelude.{◌≡◌, ℕ, suc, ◌<◌}
use Rattle.std.proofs.Common.{sym, ◌∙◌, subst, arith}
use Rattle.theory_rings.specs.Ring.{FieldOn}
use Rattle.theory_rings.proofs.Rings.Fields.{mul_left_cancel}
use Rattle.theory_rings.proofs.Rings.RingLaws.{mul-zero}
use Rattle.theory_rings.proofs.Sums.Sums.{sum_congr}
use Rattle.theory_spaces.specs.Module.{ModuleOn, AlgebraOn, module_of}
use Rattle.theory_spaces.specs.Linear.{InSpan, Independent, Basis}
use Rattle.theory_spaces.specs.Valuation.{ValuationOn, LatticeBasis}
use Rattle.theory_spaces.proofs.Linear.Families.{push, push-below}
use Rattle.theory_spaces.proofs.Linear.Dimension.{exchange}
use Rattle.theory_spaces.proofs.Linear.IndependentVectors.{Independent-at_most}
use Rattle.theory_spaces.proofs.Linear.Spaces.{coords_of}
use Rattle.theory_spaces.proofs.Linear.Lattices.{lattice_basis}
use Rattle.theory_orders.specs.Uniformizer.{IsIntegral}
use Rattle.theory_orders.specs.Orders.{IsOrder, Same}
use Rattle.theory_orders.specs.Lattices.{Lattice, IsOrderAt}
use Rattle.theory_orders.proofs.LeftOrder.LeftOrderLattice.{order_same}
use Rattle.theory_spaces.specs.Lattice.{LatticeOver}
use Rattle.theory_pairs.specs.PlaceLaws.{OrderOnLattice}
use Rattle.theory_pairs.proofs.FirstOrders as orders
use Rattle.theory_spaces.proofs.Linear.LatticeSpans.{lattice_span, lattice_trans, integral_subring}

-- multiples of independent vectors by an element other than 0 are independent
scaled_independent : {K V : Type 0} (F : FieldOn K) (M : ModuleOn F.ring V) (n : ℕ) (b : ℕ → V) (c : K)
    → (c ≡ F.zero → ⊥)
    → Independent M n b → Independent M n (λ i. M.◌•◌ c (b i))
scaled_independent F M n b c nz h = record {
  only_zero = λ g e i l.
      let z : F.◌⊗◌ c (g i) ≡ F.zero = F.mul_comm c (g i) ∙ h.only_zero (λ j. F.◌⊗◌ (g j) c)
      (sum_congr M.monoid n (λ j. M.◌•◌ (F.◌⊗◌ (g j) c) (b j)) (λ j. M.◌•◌ (g j) (M.◌•◌ c (b j)))
      (λ j _. M.mul-scale (g j) c (b j)) ∙ e) i l in
      mul_left_cancel F c (g i) F.zero nz (z ∙ sym (mul-zero F.ring c));
}

module _ {K V : Type 0} (F : FieldOn K) (Z : ValuationOn F) (A : AlgebraOn F.ring V) (n : ℕ) (B : Basis (module_of A) n)
    (c : K) (nz : c ≡ F.zero → ⊥)
    (integral : (i j k : ℕ) → i < n → j < n → k < n
    → IsIntegral F Z (F.◌⊗◌ c (B.coord (A.◌⊗◌ (B.vec i) (B.vec j)) k))) where
  infixl 70 ◌⊗◌
  infixl 70 ◌•◌
  open A use {◌⊗◌, ◌•◌}

  abbrev M : ModuleOn F.ring V
  M = module_of A

  abbrev w : ℕ → V
  w = push n A.one (λ i. c • B.vec i)

  abbrev Q : K → Type 0
  Q = IsIntegral F Z

  abbrev In : V → Type 0
  In = LatticeOver M Q (suc n) w

  order : IsOrder A In
  order = orders.first_order F A n B.vec (λ i j. B.coord (B.vec i ⊗ B.vec j)) (λ i j _ _. B.expand (B.vec i ⊗ B.vec j))
      Q (integral_subring F Z) c integral

  found : LatticeBasis F Z M (suc n) w
  found = lattice_basis F Z M n (coords_of M n B) (suc n) w

  abbrev r : ℕ
  r = let f = found in f.rank

  abbrev u : ℕ → V
  u = let f = found in f.vec

  same : Same (Lattice F Z A r u) (Lattice F Z A (suc n) w)
  same =
      let f = found in (
        λ x s. lattice_trans F Z M r (suc n) u w x f.within s,
        λ x s. lattice_trans F Z M (suc n) r w u x f.spans s,
      )

  rank-is : r ≡ n
  rank-is =
      let f = found in
      let above = Independent-at_most F M n B r u f.independent in
      let free = scaled_independent F M n B.vec c nz B.independent in
      let within : (i : ℕ) → i < n → InSpan M r u (c • B.vec i) = λ i l.
      subst (InSpan M r u) (push-below n A.one (λ i. c • B.vec i) i l)
      (lattice_span F Z M r u (w i) (f.spans i (omega arith))) in
      let below = exchange F M n r (λ i. c • B.vec i) u free within in
      omega arith

  order_here : IsOrderAt F Z A r u
  order_here =
      let f = found in
      record { independent = f.independent; order = order_same F A In (Lattice F Z A r u) (same.1, same.0) order }

  pub first_order_at : OrderOnLattice F Z A n (suc n) w
  first_order_at =
      subst (λ (m : ℕ). OrderOnLattice F Z A m (suc n) w) rank-is
      (record { vec = u; is_order = order_here; same = same })
