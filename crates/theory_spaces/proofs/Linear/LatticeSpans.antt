-- Combinations with weights in a subring: closed under sums, weights and combinations, and an order where the products
-- of the vectors are such combinations; and lattices over a valuation ring as a case of it.
use Rattle.std.specs.Prelude.{◌≡◌, ℕ, zero, suc, ◌+◌, ◌<◌}
use Rattle.std.proofs.Common.{refl, sym, ◌∙◌, ap, ap₂, subst, arith, ⊎_elim}
use Rattle.std.proofs.lemmas.Bool.{cases_eq}
use Rattle.theory_rings.specs.Ring.{FieldOn}
use Rattle.theory_rings.specs.Sum.{sum}
use Rattle.theory_spaces.specs.Module.{ModuleOn, AlgebraOn, module_of}
use Rattle.theory_spaces.specs.Linear.{comb, InSpan, IsSubmodule}
use Rattle.theory_spaces.specs.Matrix.{delta}
use Rattle.theory_spaces.specs.Sets.{ring_ops, IsOrder}
use Rattle.theory_spaces.specs.Lattice.{IsSubring, LatticeOver}
use Rattle.theory_spaces.specs.Valuation.{ValuationOn, IsIntegral, Integer, restrict}
use Rattle.theory_spaces.specs.ModuleLaws.{neg_one-scale}
use Rattle.theory_spaces.proofs.Linear.Families.{push, push-below, push-at, join, join-below, join-above}
use Rattle.theory_spaces.proofs.Linear.Modules.{comb_zero, comb-add, comb-scale, map-comb, left_linear, right_linear}
use Rattle.theory_spaces.proofs.Linear.IndependentVectors.{comb-delta}
use Rattle.theory_spaces.proofs.Matrices.Matrices.{delta-same, delta-other}

-- a combination of members of a set that is closed under sums and under multiples by the weights
pub comb_in_closed : {K V : Type 0} (F : FieldOn K) (P : K → Type 0) (M : ModuleOn F.ring V) (S : V → Type 0)
    → S M.zero
    → ((x y : V) → S x → S y → S (M.◌⊕◌ x y)) → ((a : K) (x : V) → P a → S x → S (M.◌•◌ a x))
    → (m : ℕ) (c : ℕ → K) (w : ℕ → V) → ((i : ℕ) → i < m → P (c i)) → ((i : ℕ) → i < m → S (w i)) → S (comb M m c w)
comb_in_closed F P M S nought add scale zero c w p s = nought
comb_in_closed F P M S nought add scale (suc m) c w p s = add (comb M m c w) (M.◌•◌ (c m) (w m))
    (comb_in_closed F P M S nought add scale m c w (λ i l. p i (omega arith)) (λ i l. s i (omega arith)))
    (scale (c m) (w m) (p m (omega arith)) (s m (omega arith)))

module _ {K : Type 0} (F : FieldOn K) (P : K → Type 0) (closed : IsSubring F.ring P) where
  pub sum_in : (m : ℕ) (f : ℕ → K) → ((i : ℕ) → i < m → P (f i)) → P (sum F.monoid m f)
  sum_in zero f h = closed.zero_in
  sum_in (suc m) f h = closed.add_in (sum F.monoid m f) (f m) (sum_in m f (λ i l. h i (omega arith)))
      (h m (omega arith))

  pub delta_in : (i j : ℕ) → P (delta F.ring i j)
  delta_in i j = ⊎_elim
      (λ (e : i ≡ j). let Q : ℕ → Type 0 = λ t. P (delta F.ring i t) in
      subst Q e (subst P (sym (delta-same F.ring i)) closed.one_in))
      (λ (d : i ≡ j → ⊥). subst P (sym (delta-other F.ring i j d)) closed.zero_in)
      (cases_eq i j)

  module _ {V : Type 0} (M : ModuleOn F.ring V) (n : ℕ) (v : ℕ → V) where
    abbrev pub Span : V → Type 0
    Span = LatticeOver M P n v

    pub span-zero : Span M.zero
    span-zero = record {
      weights = λ _. F.zero;
      passes = λ _ _. closed.zero_in;
      combines = sym (comb_zero M n (λ _. F.zero) v (λ _ _. refl));
    }

    pub span-add : (x y : V) → Span x → Span y → Span (M.◌⊕◌ x y)
    span-add x y s t = record {
      weights = λ i. F.◌⊕◌ (s.weights i) (t.weights i);
      passes = λ i l. closed.add_in (s.weights i) (t.weights i) (s.passes i l) (t.passes i l);
      combines = ap₂ M.◌⊕◌ s.combines t.combines ∙ sym (comb-add M n s.weights t.weights v);
    }

    pub span-scale : (a : K) (x : V) → P a → Span x → Span (M.◌•◌ a x)
    span-scale a x p s = record {
      weights = λ i. F.◌⊗◌ a (s.weights i);
      passes = λ i l. closed.mul_in a (s.weights i) p (s.passes i l);
      combines = ap (M.◌•◌ a) s.combines ∙ sym (comb-scale M n a s.weights v);
    }

    pub span-comb : (m : ℕ) (c : ℕ → K) (w : ℕ → V) → ((i : ℕ) → i < m → P (c i)) → ((i : ℕ) → i < m → Span (w i))
        → Span (comb M m c w)
    span-comb = comb_in_closed F P M Span span-zero span-add span-scale

    -- opposites
    pub span-neg : (x : V) → Span x → Span (M.neg x)
    span-neg x s = subst Span (neg_one-scale M x) (span-scale (F.neg F.one) x (closed.neg_in F.one closed.one_in) s)

    pub span-member : (i : ℕ) → i < n → Span (v i)
    span-member i l = record {
      weights = delta F.ring i;
      passes = λ j _. delta_in i j;
      combines = sym (comb-delta M n i v l);
    }

    -- what lies in a span is spanned by what spans it
    pub span_trans : (m : ℕ) (w : ℕ → V) → ((i : ℕ) → i < m → Span (w i)) → (x : V) → LatticeOver M P m w x → Span x
    span_trans m w h x s = subst Span (sym s.combines) (span-comb m s.weights w s.passes h)

  module _ {V : Type 0} (A : AlgebraOn F.ring V) (n : ℕ) (v : ℕ → V) where
    infixl 70 ◌⊗◌
    open A use {◌⊗◌}

    abbrev M : ModuleOn F.ring V
    M = module_of A

    abbrev In : V → Type 0
    In = Span M n v

    module _ (h : (i j : ℕ) → i < n → j < n → In (v i ⊗ v j)) where
      pub span_mul : (x y : V) → In x → In y → In (x ⊗ y)
      span_mul x y s t =
          subst In (sym (ap (λ z. z ⊗ y) s.combines ∙ map-comb M M (λ z. z ⊗ y) (right_linear A y) n s.weights v))
          (span-comb M n v n s.weights (λ i. v i ⊗ y) s.passes (λ i l.
          subst In (sym (ap (λ z. v i ⊗ z) t.combines
          ∙ map-comb M M (λ z. v i ⊗ z) (left_linear A (v i)) n t.weights v))
          (span-comb M n v n t.weights (λ j. v i ⊗ v j) t.passes (λ j g. h i j l g))))

      pub span_order : In A.one → IsOrder (ring_ops A.ring) A.one In
      span_order one = record {
        one_in = one;
        zero_in = span-zero M n v;
        add_in = span-add M n v;
        neg_in = span-neg M n v;
        mul_in = span_mul;
      }

-- a valuation ring is a subring
pub integral_subring : {K : Type 0} (F : FieldOn K) (Z : ValuationOn F) → IsSubring F.ring (IsIntegral F Z)
integral_subring F Z = record {
  zero_in = Z.zero_in;
  one_in = Z.one_in;
  add_in = Z.add_in;
  neg_in = Z.neg_in;
  mul_in = Z.mul_in;
}

-- lattices over it
module _ {K V : Type 0} (F : FieldOn K) (Z : ValuationOn F) (M : ModuleOn F.ring V) where
  infixl 65 ◌⊕◌
  infixl 70 ◌•◌
  open M use {◌⊕◌, ◌•◌, neg}

  abbrev Integral : K → Type 0
  Integral = IsIntegral F Z

  abbrev L : ℕ → (ℕ → V) → V → Type 0
  L = LatticeOver M Integral

  -- the combinations over the field
  pub lattice_span : (n : ℕ) (v : ℕ → V) (x : V) → L n v x → InSpan M n v x
  lattice_span n v x s = record { weights = s.weights; combines = s.combines }

  pub lattice-zero : (n : ℕ) (v : ℕ → V) → L n v M.zero
  lattice-zero = span-zero F Integral (integral_subring F Z) M

  pub lattice-add : (n : ℕ) (v : ℕ → V) (x y : V) → L n v x → L n v y → L n v (x ⊕ y)
  lattice-add = span-add F Integral (integral_subring F Z) M

  pub lattice-scale : (n : ℕ) (v : ℕ → V) (a : Integer F Z) (x : V) → L n v x → L n v (a.0 • x)
  lattice-scale n v a x = span-scale F Integral (integral_subring F Z) M n v a.0 x a.1

  pub lattice-neg : (n : ℕ) (v : ℕ → V) (x : V) → L n v x → L n v (neg x)
  lattice-neg = span-neg F Integral (integral_subring F Z) M

  pub lattice-member : (n i : ℕ) (v : ℕ → V) → i < n → L n v (v i)
  lattice-member n i v = span-member F Integral (integral_subring F Z) M n v i

  pub lattice-comb : (n m : ℕ) (c : ℕ → K) (v w : ℕ → V) → ((i : ℕ) → i < n → Integral (c i))
      → ((i : ℕ) → i < n → L m w (v i))
      → L m w (comb M n c v)
  lattice-comb n m c v w = span-comb F Integral (integral_subring F Z) M m w n c v

  pub lattice_trans : (n m : ℕ) (v w : ℕ → V) (x : V) → ((i : ℕ) → i < n → L m w (v i)) → L n v x → L m w x
  lattice_trans n m v w x h = span_trans F Integral (integral_subring F Z) M m w n v h x

  -- a further vector
  pub lattice-push : (n : ℕ) (y : V) (w : ℕ → V) (x : V) → L n w x → L (suc n) (push n y w) x
  lattice-push n y w x h = lattice_trans n (suc n) w (push n y w) x
      (λ i l. let T : V → Type 0 = L (suc n) (push n y w) in
      subst T (push-below n y w i l) (lattice-member (suc n) i (push n y w) (omega arith))) h

  pub lattice-push_at : (n : ℕ) (y : V) (w : ℕ → V) → L (suc n) (push n y w) y
  lattice-push_at n y w = let T : V → Type 0 = L (suc n) (push n y w) in
      subst T (push-at n y w) (lattice-member (suc n) n (push n y w) (omega arith))

  -- the members of two families span what both span
  pub lattice-join_left : (n m : ℕ) (v w : ℕ → V) (i : ℕ) → i < n → L (n + m) (join n v w) (v i)
  lattice-join_left n m v w i l = let T : V → Type 0 = L (n + m) (join n v w) in
      subst T (join-below n v w i l) (lattice-member (n + m) i (join n v w) (omega arith))

  pub lattice-join_right : (n m : ℕ) (v w : ℕ → V) (j : ℕ) → j < m → L (n + m) (join n v w) (w j)
  lattice-join_right n m v w j l = let T : V → Type 0 = L (n + m) (join n v w) in
      subst T (join-above n v w j) (lattice-member (n + m) (n + j) (join n v w) (omega arith))

  -- a module over the valuation ring holds the lattice of its members
  pub lattice_in : (S : V → Type 0) → IsSubmodule (restrict F Z M) S → (n : ℕ) (v : ℕ → V)
      → ((i : ℕ) → i < n → S (v i)) → (x : V) → L n v x → S x
  lattice_in S h n v g x s = subst S (sym s.combines) (comb_in_closed F Integral M S h.zero-in h.add-in
      (λ a y p. h.scale-in (a, p) y) n s.weights v s.passes g)
