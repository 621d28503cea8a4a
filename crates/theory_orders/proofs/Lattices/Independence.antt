-- Vectors independent modulo a sublattice that holds p times a lattice: there are no more than the dimension.
use Rattle.std.specs.Prelude.{◌≡◌, ℕ, zero, suc, ◌<◌, ◌≤◌}
use Rattle.std.proofs.Common.{sym, ◌∙◌, ap, subst, arith, ⊎_elim}
use Rattle.theory_rings.specs.Ring.{FieldOn}
use Rattle.theory_rings.proofs.Rings.RingLaws.{add-neg, add-zero}
use Rattle.theory_rings.proofs.Rings.Fields.{mul-inv}
use Rattle.theory_spaces.specs.Module.{ModuleOn, AlgebraOn, module_of}
use Rattle.theory_spaces.specs.Linear.{comb, Independent, Basis, IsSubmodule}
use Rattle.theory_spaces.specs.Valuation.{ValuationOn, restrict}
use Rattle.theory_spaces.proofs.Linear.Families.{push, below_suc}
use Rattle.theory_spaces.proofs.Linear.Modules.{scale-zero, neg_one-scale, comb_congr, comb-scale, comb-push}
use Rattle.theory_spaces.proofs.Linear.IndependentVectors.{Independent-at_most}
use Rattle.theory_spaces.proofs.Linear.Lattices.{Divides, least}
use Rattle.theory_orders.specs.Uniformizer.{IsIntegral, IsUnit, UniformizerOn}
use Rattle.theory_orders.specs.Orders.{IsOrder, IsIdeal, Multiple, Within}
use Rattle.theory_orders.specs.Lattices.{Lattice}
use Rattle.theory_orders.proofs.Lattices.Multiples.{Multiple-of}
use Rattle.theory_orders.proofs.Lattices.Scaling.{Lam_scale}

module _ {K V : Type 0} (F : FieldOn K) (Z : ValuationOn F) (p q : K) (U : UniformizerOn F Z p q)
    (A : AlgebraOn F.ring V) (N : ℕ) (os : ℕ → V) where
  infixl 65 ◌⊕◌
  infixl 70 ◌⊗◌
  infixl 70 ◌•◌
  open A use {◌⊕◌, ◌⊗◌, ◌•◌}

  abbrev M : ModuleOn F.ring V
  M = module_of A

  -- closed under sums and integral multiples
  abbrev pub IsSublattice : (V → Type 0) → Type 0
  IsSublattice = IsSubmodule (restrict F Z M)

  abbrev L : V → Type 0
  L = Lattice F Z A N os

  abbrev P : V → Type 0
  P = Multiple A p L

  abbrev In : K → Type 0
  In = IsIntegral F Z

  -- a combination with integral weights lies in S only where no weight is a unit
  pub record IndependentMod (S : V → Type 0) (k : ℕ) (x : ℕ → V) : Type 0 where
    pub no_unit : (c : ℕ → K) → ((i : ℕ) → i < k → In (c i)) → S (comb M k c x) → (i : ℕ) → i < k → IsUnit F Z (c i) → ⊥

  -- sets closed under products with the order from the right, or from the left
  pub right_sublattice : IsOrder A L → (S : V → Type 0) → S A.zero → ((x y : V) → S x → S y → S (x ⊕ y))
      → ((x l : V) → S x → L l → S (x ⊗ l)) → IsSublattice S
  right_sublattice O S z a r = record {
    zero-in = z;
    add-in = a;
    scale-in = λ c x h. subst S (A.scale-right c.0 x A.one ∙ ap (λ y. c.0 • y) (A.mul-one x))
        (r x (c.0 • A.one) h (Lam_scale F Z p q U A N os c.0 A.one c.1 O.one_in));
  }

  pub ideal_sublattice : IsOrder A L → (S : V → Type 0) → IsIdeal A L S → IsSublattice S
  ideal_sublattice O S I = right_sublattice O S I.zero_in I.add_in (λ x l h hl. I.right l x hl h)

  module _ (S : V → Type 0) (C : IsSublattice S) where
    pub sub_scale : (c : K) (x : V) → In c → S x → S (c • x)
    sub_scale c x h s = C.scale-in (c, h) x s

    pub sub_neg : (x : V) → S x → S (A.neg x)
    sub_neg x s = subst S (neg_one-scale M x) (sub_scale (F.neg F.one) x (Z.neg_in F.one Z.one_in) s)

    -- one of two terms is in S where the sum and the other are
    pub sub_cancel : (x y : V) → S (x ⊕ y) → S y → S x
    sub_cancel x y s t = subst S
        (A.add_assoc x y (A.neg y) ∙ ap (λ z. x ⊕ z) (add-neg A.additive y) ∙ add-zero A.monoid x)
        (C.add-in (x ⊕ y) (A.neg y) s (sub_neg y t))

    pub sub_comb : (k : ℕ) (c : ℕ → K) (x : ℕ → V) → ((i : ℕ) → i < k → In (c i)) → ((i : ℕ) → i < k → S (x i))
        → S (comb M k c x)
    sub_comb zero c x h s = C.zero-in
    sub_comb (suc k) c x h s =
        C.add-in (comb M k c x) (c k • x k) (sub_comb k c x (λ i l. h i (omega arith)) (λ i l. s i (omega arith)))
        (sub_scale (c k) (x k) (h k (omega arith)) (s k (omega arith)))

    -- where a multiple by a unit is in S, so is the vector
    pub sub_unit : (c : K) (x : V) → IsUnit F Z c → S (c • x) → S x
    sub_unit c x u s = subst S (sym (A.mul-scale (F.inv c) c x) ∙ ap (λ a. a • x) (F.inv-mul c u.0) ∙ A.one-scale x)
        (sub_scale (F.inv c) (c • x) u.1 s)

  -- a multiple by an integral scalar that is no unit is in p·L
  pub nonunit_multiple : (c : K) (x : V) → In c → (IsUnit F Z c → ⊥) → L x → P (c • x)
  nonunit_multiple c x h n l = ⊎_elim
      (λ (i : In (F.◌⊗◌ q c)). Multiple-of A p q U.pq (F.mul_comm q p ∙ U.pq) L (c • x)
      (subst L (A.mul-scale q c x) (Lam_scale F Z p q U A N os (F.◌⊗◌ q c) x i l)))
      (λ (u : IsUnit F Z c). absurd (n u)) (U.multiple_or_unit c h)

  module _ (SP : IsSublattice P) where
    nonunit_comb : (k : ℕ) (c : ℕ → K) (x : ℕ → V) → ((i : ℕ) → i < k → In (c i))
        → ((i : ℕ) → i < k → IsUnit F Z (c i) → ⊥) → ((i : ℕ) → i < k → L (x i)) → P (comb M k c x)
    nonunit_comb zero c x h n l = SP.zero-in
    nonunit_comb (suc k) c x h n l = SP.add-in (comb M k c x) (c k • x k)
        (nonunit_comb k c x (λ i g. h i (omega arith)) (λ i g. n i (omega arith)) (λ i g. l i (omega arith)))
        (nonunit_multiple (c k) (x k) (h k (omega arith)) (n k (omega arith)) (l k (omega arith)))

    push_comb : (k : ℕ) (c : ℕ → K) (b : V) (x : ℕ → V) (S : V → Type 0) → S (comb M (suc k) c (push k b x))
        → S (comb M k c x ⊕ c k • b)
    push_comb k c b x S = subst S (comb-push M k c b x)

    -- a vector outside of a sublattice that holds independent ones makes them one more
    pub grow_up : (k : ℕ) (x : ℕ → V) → IndependentMod P k x → (C : V → Type 0) → IsSublattice C → Within P C
        → ((i : ℕ) → i < k → C (x i))
        → (b : V) → L b → (C b → ⊥) → IndependentMod P (suc k) (push k b x)
    grow_up k x h C SC over inside b lb out = record {
      no_unit = λ c int s.
          let total = push_comb k c b x P s in
          let low : (i : ℕ) → i < k → In (c i) = λ i l. int i (omega arith) in
          let last : IsUnit F Z (c k) → ⊥ = λ u. out (sub_unit C SC (c k) b u
          (sub_cancel C SC (c k • b) (comb M k c x)
          (subst C (A.add_comm (comb M k c x) (c k • b)) (over (comb M k c x ⊕ c k • b) total))
          (sub_comb C SC k c x low inside))) in
          let rest : P (comb M k c x) =
          sub_cancel P SP (comb M k c x) (c k • b) total (nonunit_multiple (c k) b (int k (omega arith)) last lb) in
          below_suc k (λ i. IsUnit F Z (c i) → ⊥) (h.no_unit c low rest) last;
    }

    -- a vector outside of a smaller sublattice makes vectors that are independent modulo a larger one one more
    pub grow_down : (k : ℕ) (x : ℕ → V) (S T : V → Type 0) → IndependentMod T k x → ((i : ℕ) → i < k → L (x i))
        → IsSublattice S → IsSublattice T → Within P S → Within S T
        → (b : V) → L b → T b → (S b → ⊥) → IndependentMod S (suc k) (push k b x)
    grow_down k x S T h lx SS ST over inside b lb tb out = record {
      no_unit = λ c int s.
          let total = push_comb k c b x S s in
          let low : (i : ℕ) → i < k → In (c i) = λ i l. int i (omega arith) in
          let front : (i : ℕ) → i < k → IsUnit F Z (c i) → ⊥ = h.no_unit c low
          (sub_cancel T ST (comb M k c x) (c k • b) (inside (comb M k c x ⊕ c k • b) total)
          (sub_scale T ST (c k) b (int k (omega arith)) tb)) in
          let rest : S (comb M k c x) = over (comb M k c x) (nonunit_comb k c x low front lx) in
          let last : IsUnit F Z (c k) → ⊥ = λ u. out (sub_unit S SS (c k) b u
          (sub_cancel S SS (c k • b) (comb M k c x) (subst S (A.add_comm (comb M k c x) (c k • b)) total) rest)) in
          below_suc k (λ i. IsUnit F Z (c i) → ⊥) front last;
    }

  -- vectors independent modulo a sublattice are independent over the field
  pub independent_of_mod : (S : V → Type 0) → S A.zero → (k : ℕ) (x : ℕ → V) → IndependentMod S k x → Independent M k x
  independent_of_mod S z k x h = record {
    only_zero = λ c e. ⊎_elim
        (λ (d : Divides F Z k c).
        let r = F.inv (c d.place) in
        let w : ℕ → K = λ i. F.◌⊗◌ (c i) r in
        let flat : comb M k w x ≡ A.zero =
        comb_congr M k w (λ i. F.◌⊗◌ r (c i)) x (λ i l. F.mul_comm (c i) r) ∙ comb-scale M k r c x ∙ ap (λ y. r • y) e
        ∙ scale-zero M r in
        let one : w d.place ≡ F.one = mul-inv F (c d.place) d.nonzero in
        let inv_one : F.inv F.one ≡ F.one = sym (F.mul-one (F.inv F.one)) ∙ F.inv-mul F.one F.one-nonzero in
        absurd (h.no_unit w d.divides (subst S (sym flat) z) d.place d.within
        (λ v. F.one-nonzero (sym one ∙ v), subst In (sym (ap F.inv one ∙ inv_one)) Z.one_in)))
        (λ z. z)
        (least F Z k c);
  }

  pub at_most : (B : Basis M N) (S : V → Type 0) → S A.zero → (k : ℕ) (x : ℕ → V) → IndependentMod S k x → k ≤ N
  at_most B S z k x h = Independent-at_most F M N B k x (independent_of_mod S z k x h)
