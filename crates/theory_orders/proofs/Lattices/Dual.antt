-- An order lies in its dual by the trace form, and is its dual where the form is unimodular, or where the quotient by p
-- is simple and the dimension is a unit.
use Rattle.std.specs.Prelude.{◌≡◌, ℕ, zero, suc, ◌<◌, ◌⊎◌}
use Rattle.std.proofs.Common.{refl, sym, ◌∙◌, ap, subst, arith, ⊎_elim}
use Rattle.theory_rings.specs.Ring.{FieldOn}
use Rattle.theory_rings.specs.Sum.{sum}
use Rattle.theory_rings.specs.Power.{times}
use Rattle.theory_rings.proofs.Rings.RingLaws.{zero-mul, mul-zero}
use Rattle.theory_rings.proofs.Rings.Fields.{mul-inv}
use Rattle.theory_rings.proofs.Sums.Sums.{sum_congr}
use Rattle.theory_spaces.specs.Module.{ModuleOn, AlgebraOn, module_of}
use Rattle.theory_spaces.specs.Linear.{InSpan, Basis}
use Rattle.theory_spaces.specs.Matrix.{Matrix, delta, mat_mul}
use Rattle.theory_spaces.specs.Algebra.{trace}
use Rattle.theory_spaces.specs.Form.{gram, trace_form}
use Rattle.theory_spaces.specs.Valuation.{ValuationOn}
use Rattle.theory_spaces.proofs.Linear.Spaces.{basis_of, Basis-coord}
use Rattle.theory_spaces.proofs.Linear.IndependentVectors.{comb-delta}
use Rattle.theory_spaces.proofs.Matrices.Matrices.{delta-same, mat_mul_assoc, mat_mul_congr, mat_mul-delta}
use Rattle.theory_spaces.proofs.Forms.Traces.{trace_comm, trace-add, trace-scale, trace-zero}
use Rattle.theory_spaces.proofs.Forms.TraceForms.{trace_form_bilinear}
use Rattle.theory_spaces.proofs.Forms.Forms.{form-comb_left}
use Rattle.theory_spaces.proofs.Linear.BasisChange.{trace_basis}
use Rattle.theory_orders.specs.Uniformizer.{IsIntegral, IsUnit, UniformizerOn}
use Rattle.theory_orders.specs.Orders.{IsOrder, Around, Generated, Multiple, SimpleByElements, Within}
use Rattle.theory_orders.specs.Lattices.{Lattice, IsOrderAt}
use Rattle.theory_orders.specs.Dual.{Dual, IsSelfDual, IsUnimodular}
use Rattle.theory_orders.proofs.Lattices.SumsOf.{SumOf_in}
use Rattle.theory_orders.proofs.Lattices.Multiples.{up, up-left, up-right, cancel_scale, Multiple-of, of-Multiple}
use Rattle.theory_spaces.proofs.Linear.LatticeTests.{integral_weights}
use Rattle.theory_orders.proofs.Lattices.Scaling.{Lam_scale, Lam_up, lowered}
use Rattle.theory_orders.proofs.Splitting.Ramified.{spanning}
use Rattle.theory_spaces.proofs.Linear.LatticeSpans.{lattice-member}

module _ {K : Type 0} (F : FieldOn K) (Z : ValuationOn F) where
  integral_sum : (m : ℕ) (f : ℕ → K) → ((i : ℕ) → i < m → IsIntegral F Z (f i)) → IsIntegral F Z (sum F.monoid m f)
  integral_sum zero f h = Z.zero_in
  integral_sum (suc m) f h =
      Z.add_in (sum F.monoid m f) (f m) (integral_sum m f (λ i l. h i (omega arith))) (h m (omega arith))

  pub integral_times : (m : ℕ) → IsIntegral F Z (times F.monoid m F.one)
  integral_times m = integral_sum m (λ _. F.one) (λ i l. Z.one_in)

module _ {K V : Type 0} (F : FieldOn K) (Z : ValuationOn F) (A : AlgebraOn F.ring V) (n : ℕ) (B : Basis (module_of A) n)
    (os : ℕ → V) (D : IsOrderAt F Z A n os) where
  infixl 65 ◌⊕◌
  infixl 70 ◌⊗◌
  infixl 70 ◌•◌
  open A use {◌⊕◌, ◌⊗◌, ◌•◌}

  abbrev L : V → Type 0
  L = Lattice F Z A n os

  abbrev O : IsOrder A L
  O = D.order

  abbrev M : ModuleOn F.ring V
  M = module_of A

  abbrev In : K → Type 0
  In = IsIntegral F Z

  abbrev t : V → K
  t = trace A n B

  abbrev span : (x : V) → InSpan M n os x
  span = spanning F A n B os D.independent

  -- the basis of the order
  abbrev E : Basis M n
  E = basis_of M n os D.independent span

  os-in : (i : ℕ) → i < n → L (os i)
  os-in i l = lattice-member F Z M n i os l

  -- traces of the order are integral
  pub trace_integral : (a : V) → L a → In (t a)
  trace_integral a l = subst In (sym (trace_basis F.cring A n n B E a))
      (integral_sum F Z n (λ j. E.coord (a ⊗ os j) j) (λ j k.
      integral_weights F Z M n os D.independent (a ⊗ os j) (O.mul_in a (os j) l (os-in j k)) (E.coord (a ⊗ os j))
      (E.expand (a ⊗ os j)) j k))

  pub in_dual : Within L (Dual F Z A n B L)
  in_dual x l y ly = trace_integral (y ⊗ x) (O.mul_in y x ly l)

  pub dual_of_unimodular : IsUnimodular F Z A n B os → Within (Dual F Z A n B L) L
  dual_of_unimodular G x h =
      let c = E.coord x in
      let C : Matrix K = λ _ i. c i in
      let g : Matrix K = gram M (trace_form A n B) os in
      let value : (j : ℕ) → j < n → mat_mul F.ring n C g 0 j ≡ t (os j ⊗ x) = λ j l.
      sym (ap (λ y. t (y ⊗ os j)) (E.expand x)
      ∙ form-comb_left F.cring M (trace_form A n B) (trace_form_bilinear F.cring A n B) n c os (os j))
      ∙ trace_comm F.cring A n B x (os j) in
      let weight : (k : ℕ) → k < n → mat_mul F.ring n (mat_mul F.ring n C g) G.inverse 0 k ≡ c k = λ k l.
      ap (λ (m : Matrix K). m 0 k) (mat_mul_assoc F.ring n n C g G.inverse)
      ∙ mat_mul_congr F.ring n C C (mat_mul F.ring n g G.inverse) (delta F.ring) 0 k (λ i _. refl)
      (λ i j. G.inverts i k j l)
      ∙ mat_mul-delta F.ring n C 0 k l in
      record {
        weights = c;
        passes = λ k l. subst In (weight k l)
            (integral_sum F Z n (λ j. F.◌⊗◌ (mat_mul F.ring n C g 0 j) (G.inverse j k)) (λ j i.
            Z.mul_in (mat_mul F.ring n C g 0 j) (G.inverse j k) (subst In (sym (value j i)) (h (os j) (os-in j i)))
            (G.integral j k i l)));
        combines = E.expand x;
      }

  pub self_dual_of_unimodular : IsUnimodular F Z A n B os → IsSelfDual F Z A n B L
  self_dual_of_unimodular G = (dual_of_unimodular G, in_dual)

  -- the trace of one is the dimension
  pub trace-one : t A.one ≡ times F.monoid n F.one
  trace-one = sum_congr F.monoid n (λ j. B.coord (A.one ⊗ B.vec j) j) (λ _. F.one) (λ j l.
      ap (λ x. B.coord x j) (A.one-mul (B.vec j) ∙ sym (comb-delta M n j B.vec l))
      ∙ Basis-coord M n B (delta F.ring j) j l ∙ delta-same F.ring j)

  module _ (p q : K) (U : UniformizerOn F Z p q) (S : SimpleByElements A L (Multiple A p L))
      (unit : IsUnit F Z (times F.monoid n F.one)) where
    abbrev qp : F.◌⊗◌ q p ≡ F.one
    qp = F.mul_comm q p ∙ U.pq

    -- members whose traces with the order are multiples of p
    abbrev Small : V → Type 0
    Small a = (y : V) → L y → In (F.◌⊗◌ q (t (a ⊗ y)))

    Small_zero : Small A.zero
    Small_zero y l = subst In
        (sym (ap (λ x. F.◌⊗◌ q (t x)) (zero-mul A.ring y) ∙ ap (F.◌⊗◌ q) (trace-zero F.cring A n B)
        ∙ mul-zero F.ring q)) Z.zero_in

    Small_add : (a b : V) → Small a → Small b → Small (a ⊕ b)
    Small_add a b h g y l =
        subst In (sym (ap (λ x. F.◌⊗◌ q (t x)) (A.add-mul a b y)
        ∙ ap (F.◌⊗◌ q) (trace-add F.cring A n B (a ⊗ y) (b ⊗ y)) ∙ F.mul-add q (t (a ⊗ y)) (t (b ⊗ y))))
        (Z.add_in (F.◌⊗◌ q (t (a ⊗ y))) (F.◌⊗◌ q (t (b ⊗ y))) (h y l) (g y l))

    q_t_p : (a : V) → F.◌⊗◌ q (t (p • a)) ≡ t a
    q_t_p a = ap (F.◌⊗◌ q) (trace-scale F.cring A n B p a) ∙ sym (F.mul_assoc q p (t a)) ∙ ap (λ x. F.◌⊗◌ x (t a)) qp
        ∙ F.one-mul (t a)

    Small_multiple : (a : V) → Multiple A p L a → Small a
    Small_multiple a m y l =
        subst In (sym (ap (λ x. F.◌⊗◌ q (t (x ⊗ y))) m.2 ∙ ap (λ x. F.◌⊗◌ q (t x)) (A.scale-left p m.0 y)
        ∙ q_t_p (m.0 ⊗ y)))
        (trace_integral (m.0 ⊗ y) (O.mul_in m.0 y m.1 l))

    Small_around : (a x : V) → Small a → Around A L a x → Small x
    Small_around a x h w y l = subst In (ap (F.◌⊗◌ q) (
        ap t (sym (A.mul_assoc a (w.1 ⊗ y) w.0)) ∙ trace_comm F.cring A n B (a ⊗ (w.1 ⊗ y)) w.0
        ∙ ap t (sym (A.mul_assoc w.0 a (w.1 ⊗ y)) ∙ sym (A.mul_assoc (w.0 ⊗ a) w.1 y) ∙ ap (λ z. z ⊗ y) (sym w.4))))
        (h ((w.1 ⊗ y) ⊗ w.0) (O.mul_in (w.1 ⊗ y) w.0 (O.mul_in w.1 y w.3 l) w.2))

    not_small_one : Small A.one → ⊥
    not_small_one h =
        let d = times F.monoid n F.one in
        let iq : In q = subst In (F.mul_assoc q d (F.inv d) ∙ ap (F.◌⊗◌ q) (mul-inv F d unit.0) ∙ F.mul-one q)
        (Z.mul_in (F.◌⊗◌ q d) (F.inv d)
        (subst (λ x. In (F.◌⊗◌ q x)) trace-one
        (subst (λ x. In (F.◌⊗◌ q (t x))) (A.one-mul A.one) (h A.one O.one_in))) unit.1) in
        S.proper (Multiple-of A p q U.pq qp L A.one (Lam_scale F Z p q U A n os q A.one iq O.one_in))

    Small_Multiple : (a : V) → L a → Small a → Multiple A p L a
    Small_Multiple a l h = ⊎_elim (λ m. m)
        (λ (r : Generated A L (Multiple A p L) a A.one).
        absurd (not_small_one
        (SumOf_in A (λ x. Around A L a x ⊎ Multiple A p L x) Small Small_zero Small_add
        (λ x. ⊎_elim (Small_around a x h) (Small_multiple x)) A.one r)))
        (S.generates a l)

    -- what has integral traces with the order is in the order
    descend : (s : ℕ) (x : V) → Dual F Z A n B L x → L (up A p s x) → L x
    descend zero x h l = l
    descend (suc s) x h l = descend s x h (
        let m = Small_Multiple (up A p (suc s) x) l
        (λ y ly. subst In (sym (ap (λ z. F.◌⊗◌ q (t z)) (A.scale-left p (up A p s x) y) ∙ q_t_p (up A p s x ⊗ y)))
        (shifted s y ly)) in
        subst L (cancel_scale A p q U.pq qp (up A p s x)) (of-Multiple A p q U.pq qp L (up A p (suc s) x) m))
      where
        shifted : (s : ℕ) (y : V) → L y → In (t (up A p s x ⊗ y))
        shifted s y ly = subst (λ z. In (t z)) (up-right A p s x y ∙ sym (up-left A p s x y))
            (subst In (trace_comm F.cring A n B (up A p s y) x) (h (up A p s y) (Lam_up F Z p q U A n os s y ly)))

    pub self_dual_of_simple : IsSelfDual F Z A n B L
    self_dual_of_simple = (λ x h. let s = lowered F Z p q U A n os span x in descend s.0 x h s.1, in_dual)
