-- Where p is not a unit and the algebra is not 0, one is no multiple of p in an order; so where nothing grows it is
-- absurd that there is no maximal ideal over p times the order, and the radical is one. Nothing grows where the
-- ideals of a list don't which has all the maximal ones.
use Rattle.std.specs.Prelude.{◌≡◌, ℕ, zero, suc, ◌<◌}
use Rattle.std.proofs.Common.{refl, sym, ◌∙◌, ap, subst, inl, inr, ⊎_elim}
use Rattle.theory_rings.specs.Ring.{FieldOn}
use Rattle.theory_rings.specs.Power.{power}
use Rattle.theory_rings.proofs.Powers.Powers.{power-mul, power-one}
use Rattle.theory_rings.proofs.Rings.Solver.{◌⊠◌, ring5}
use Rattle.theory_rings.proofs.Rings.ZeroTests.{eq_zero_or}
use Rattle.theory_spaces.specs.Module.{ModuleOn, AlgebraOn, module_of}
use Rattle.theory_spaces.specs.Linear.{comb, Basis}
use Rattle.theory_spaces.specs.Algebra.{Central}
use Rattle.theory_spaces.specs.Valuation.{ValuationOn}
use Rattle.theory_spaces.proofs.Linear.SpanTests.{some_or_all}
use Rattle.theory_spaces.proofs.Linear.Modules.{comb_zero, comb-scale}
use Rattle.theory_orders.specs.Uniformizer.{IsIntegral, UniformizerOn}
use Rattle.theory_orders.specs.Orders.{Multiple}
use Rattle.theory_orders.specs.Lattices.{Lattice, IsOrderAt}
use Rattle.theory_orders.specs.MaximalIdealLaws.{SomeIsOnly, RadicalIsTheOnly, NothingGrowsByList}
use Rattle.theory_orders.proofs.Lattices.Multiples.{of-Multiple}
use Rattle.theory_spaces.proofs.Linear.LatticeTests.{integral_weights}
use Rattle.theory_orders.proofs.LeftOrder.LeftOrders.{Power_one}
use Rattle.theory_orders.proofs.Ideals.OnlyMaximal.{some_power, only_of, radical_is_one}

module _ {K V : Type 0} (F : FieldOn K) (Z : ValuationOn F) (p q : K) (U : UniformizerOn F Z p q)
    (A : AlgebraOn F.ring V) (N : ℕ) (os : ℕ → V) (D : IsOrderAt F Z A N os) where
  infixl 70 ◌⊗◌
  infixl 70 ◌•◌
  open A use {◌⊗◌, ◌•◌}

  abbrev M : ModuleOn F.ring V
  M = module_of A

  abbrev L : V → Type 0
  L = Lattice F Z A N os

  qp : F.◌⊗◌ q p ≡ F.one
  qp = F.mul_comm q p ∙ U.pq

  -- the powers of q, where q times one is in the order
  power_in : L (q • A.one) → (k : ℕ) → L (power F.ring q k • A.one)
  power_in h zero = subst L (sym (A.one-scale A.one)) D.order.one_in
  power_in h (suc k) =
      let c = power F.ring q k in
      subst L (A.scale-left q A.one (c • A.one) ∙ ap (λ x. q • x) (A.one-mul (c • A.one)) ∙ sym (A.mul-scale q c A.one))
      (D.order.mul_in (q • A.one) (c • A.one) h (power_in h k))

  abbrev c : ℕ → K
  c i = D.order.one_in.weights i

  one_is : A.one ≡ comb M N c os
  one_is = D.order.one_in.combines

  -- all powers of q times the weights of one are integral then, and so is q
  integral_of : L (q • A.one) → (i : ℕ) → i < N → (c i ≡ F.zero → ⊥) → IsIntegral F Z q
  integral_of h i l d =
      let r = U.reach (F.inv (c i)) in
      let s = r.0 in
      let Q = power F.ring q s in
      let P = power F.ring p s in
      let w = power F.ring q (suc s) in
      let int : IsIntegral F Z (F.◌⊗◌ w (c i)) =
      integral_weights F Z M N os D.independent (w • A.one) (power_in h (suc s)) (λ j. F.◌⊗◌ w (c j))
      (ap (λ x. w • x) one_is ∙ sym (comb-scale M N w c os)) i l in
      let e : F.◌⊗◌ (F.◌⊗◌ w (c i)) (F.◌⊗◌ P (F.inv (c i))) ≡ q =
      ring5 F.cring (λ q Q P c d. ((q ⊠ Q ⊠ c) ⊠ (P ⊠ d), (P ⊠ Q) ⊠ (d ⊠ c) ⊠ q)) refl q Q P (c i) (F.inv (c i))
      ∙ ap (λ x. F.◌⊗◌ (F.◌⊗◌ x (F.◌⊗◌ (F.inv (c i)) (c i))) q)
      (sym (power-mul F.ring p q (F.mul_comm p q) s) ∙ ap (λ x. power F.ring x s) U.pq ∙ power-one F.ring s)
      ∙ ap (λ x. F.◌⊗◌ (F.◌⊗◌ F.one x) q) (F.inv-mul (c i) d)
      ∙ ap (λ x. F.◌⊗◌ x q) (F.one-mul F.one) ∙ F.one-mul q in
      subst (IsIntegral F Z) e (Z.mul_in (F.◌⊗◌ w (c i)) (F.◌⊗◌ P (F.inv (c i))) int r.1)

  -- one is no multiple of p
  pub one_not_multiple : (IsIntegral F Z q → ⊥) → (A.one ≡ A.zero → ⊥) → Multiple A p L A.one → ⊥
  one_not_multiple strict nonzero h =
      let w = of-Multiple A p q U.pq qp L A.one h in
      ⊎_elim
      (λ (s : (i : ℕ) × (i < N) × (c i ≡ F.zero → ⊥)). strict (integral_of w s.0 s.1 s.2))
      (λ (z : (i : ℕ) → i < N → c i ≡ F.zero). nonzero (one_is ∙ comb_zero M N c os z))
      (some_or_all N (λ i. c i ≡ F.zero → ⊥) (λ i. c i ≡ F.zero) (λ i _. ⊎_elim inr inl (eq_zero_or F.zero_test (c i))))

module _ {K V : Type 0} (F : FieldOn K) (Z : ValuationOn F) (p q : K) (U : UniformizerOn F Z p q)
    (A : AlgebraOn F.ring V) (N : ℕ) (B : Basis (module_of A) N) where
  module _ (strict : IsIntegral F Z q → ⊥) (nonzero : A.one ≡ A.zero → ⊥) (ct : Central A) where
    pub some_is_only : SomeIsOnly F Z p A N
    some_is_only os D ng none = some_power F Z p q U A N B os D ct ng
        (one_not_multiple F Z p q U A N os D strict nonzero)
        (λ i e l pw. none i.0 i.1 (only_of F Z p q U A N B os D i.0 i.1 i.2 (ng i.0 i.1 i.2) (λ stop. stop e l pw)))

    pub radical_is_the_only : RadicalIsTheOnly F Z p A N
    radical_is_the_only os D ng m w R = radical_is_one F Z p q U A N B os D ct ng m w R (λ h.
        one_not_multiple F Z p q U A N os D strict nonzero
        (R.falls A.one (Power_one A (Lattice F Z A N os) D.order (Lattice F Z A m w) R.exponent h)))

  pub nothing_grows_by_list : NothingGrowsByList F Z p A N
  nothing_grows_by_list os count size vec complete left n g m a h =
      let f = complete n g m in
      let e = f.2 in
      left f.0 f.1 a (λ x s. e.0 (A.◌⊗◌ a x) (h x (e.1 x s)))
