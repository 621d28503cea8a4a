-- Where nothing grows, an order whose dimension is a unit is its dual by the trace form, or the place is ramified.
use Rattle.std.specs.Prelude.{◌≡◌, ℕ, ◌%◌, ◌*◌, ◌⊎◌}
use Rattle.std.specs.Int.{◌∣◌}
use Rattle.std.proofs.Common.{sym, ◌∙◌, ap, subst, arith, inl, inr, ⊎_elim}
use Rattle.std.proofs.Math.Nat.{mod-lt, emod_pos_of_not-dvd}
use Rattle.theory_rings.specs.Ring.{FieldOn}
use Rattle.theory_rings.specs.Power.{times}
use Rattle.theory_rings.specs.Prime.{IsPrime}
use Rattle.theory_rings.proofs.Rings.RingLaws.{zero-mul}
use Rattle.theory_rings.proofs.Powers.Times.{one-times, mul-times, times-eq-mul, times_char-mod}
use Rattle.theory_rings.proofs.Numbers.Fermat.{inverses_of_prime}
use Rattle.theory_spaces.specs.Module.{AlgebraOn, module_of}
use Rattle.theory_spaces.specs.Linear.{Basis, Independent}
use Rattle.theory_spaces.specs.Algebra.{Central}
use Rattle.theory_spaces.specs.Valuation.{ValuationOn}
use Rattle.theory_spaces.proofs.Linear.Spaces.{coords_of}
use Rattle.theory_orders.specs.Uniformizer.{IsIntegral, IsUnit, UniformizerOn}
use Rattle.theory_orders.specs.Orders.{Multiple, Radical, SimpleQuotient, SimpleByElements, Within, Same}
use Rattle.theory_orders.specs.Lattices.{Lattice, IsOrderAt, NothingGrows}
use Rattle.theory_orders.specs.Dual.{IsSelfDual}
use Rattle.theory_orders.specs.Ramified.{IsRamified}
use Rattle.theory_orders.proofs.Ideals.Ideals.{ideal_same, simple_same, elements_same}
use Rattle.theory_spaces.proofs.Linear.LatticeTests.{lattice_within}
use Rattle.theory_orders.proofs.Ideals.SimpleQuotients.{simple_by_elements}
use Rattle.theory_orders.proofs.Splitting.Composition.{P_ideal, multiple_same}
use Rattle.theory_orders.proofs.Lattices.Dual.{integral_times, self_dual_of_simple}
use Rattle.theory_orders.proofs.Ideals.OnlyMaximal.{maximal_of_radical}

-- a number that the characteristic does not divide is a unit of the valuation ring
pub unit_of_characteristic : {K : Type 0} (F : FieldOn K) (Z : ValuationOn F) (c : ℕ) → IsPrime c
    → times F.monoid c F.one ≡ F.zero
    → (n : ℕ) → (c ∣ n → ⊥) → IsUnit F Z (times F.monoid n F.one)
unit_of_characteristic F Z c prime char n out =
    let w = inverses_of_prime c prime (n % c) (emod_pos_of_not-dvd c out)
    (mod-lt n (let h = prime.two_le in omega arith)) in
    let b = w.0 in
    let x = times F.monoid n F.one in
    let y = times F.monoid b F.one in
    let xy : F.◌⊗◌ x y ≡ F.one =
    ap (λ z. F.◌⊗◌ z y) (sym (times_char-mod F.ring c char n F.one)) ∙ sym (times-eq-mul F.ring (n % c) y)
    ∙ sym (mul-times F.monoid (n % c) b F.one)
    ∙ sym (times_char-mod F.ring c char (n % c * b) F.one) ∙ ap (λ k. times F.monoid k F.one) w.2
    ∙ one-times F.monoid F.one in
    let nonzero : x ≡ F.zero → ⊥ = λ e. F.one-nonzero (sym xy ∙ ap (λ z. F.◌⊗◌ z y) e ∙ zero-mul F.ring y) in
    let inv : y ≡ F.inv x =
    sym (F.one-mul y) ∙ ap (λ z. F.◌⊗◌ z y) (sym (F.inv-mul x nonzero)) ∙ F.mul_assoc (F.inv x) x y
    ∙ ap (F.◌⊗◌ (F.inv x)) xy ∙ F.mul-one (F.inv x) in
    (nonzero, subst (IsIntegral F Z) inv (integral_times F Z b))

module _ {K V : Type 0} (F : FieldOn K) (Z : ValuationOn F) (p q : K) (U : UniformizerOn F Z p q)
    (A : AlgebraOn F.ring V) (n : ℕ) (B : Basis (module_of A) n) (os : ℕ → V) (D : IsOrderAt F Z A n os) where
  infixl 70 ◌•◌
  open A use {◌•◌}

  abbrev L : V → Type 0
  L = Lattice F Z A n os

  abbrev P : V → Type 0
  P = Multiple A p L

  -- a simple quotient by p, by tests or by elements
  P_elements : SimpleQuotient A L P → SimpleByElements A L P
  P_elements S =
      let G : V → Type 0 = Lattice F Z A n (λ i. p • os i) in
      let e : Same P G = multiple_same F Z p q U A n B os D.order in
      elements_same A L G P (e.1, e.0)
      (simple_by_elements F Z A n (coords_of (module_of A) n B) n os n (λ i. p • os i) D.order
      (ideal_same A L P G e (P_ideal F Z p q U A n B os D.order)) (simple_same A L P G e S))

  pub self_dual : SimpleQuotient A L P → IsUnit F Z (times F.monoid n F.one) → IsSelfDual F Z A n B L
  self_dual S unit = self_dual_of_simple F Z A n B os D p q U (P_elements S) unit

  pub self_dual_or_ramified : Central A → NothingGrows F Z A p L → IsUnit F Z (times F.monoid n F.one)
      → (js : ℕ → V) → Independent (module_of A) n js → Radical A p L (Lattice F Z A n js)
      → (Lattice F Z A n js A.one → ⊥)
      → IsSelfDual F Z A n B L ⊎ IsRamified F Z p A n os js
  self_dual_or_ramified ct ng unit js free R proper =
      let J : V → Type 0 = Lattice F Z A n js in
      let G : V → Type 0 = Lattice F Z A n (λ i. p • os i) in
      let e : Same P G = multiple_same F Z p q U A n B os D.order in
      let m = maximal_of_radical F Z p q U A n B os D ct ng n js R proper in
      ⊎_elim
      (λ (h : Within J G).
      let s : Same J P = (λ x j. e.1 x (h x j), R.over) in
      inl (self_dual (simple_same A L J P s m.simple) unit))
      (λ (out : Within J G → ⊥). inr (record {
        order = D;
        independent = free;
        radical = R;
        simple = m.simple;
        left_order = (ng n js m, λ a l x h. R.ideal.left a x l h);
        not_multiple = λ h. out (λ x j. e.0 x (h x j));
      }))
      (lattice_within F Z (module_of A) n (coords_of (module_of A) n B) n js n (λ i. p • os i))
