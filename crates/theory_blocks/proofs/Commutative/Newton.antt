-- Polynomials in Newton's form: combinations of the products N j = (z − c 0) .. (z − c (j − 1)), taken with the same
-- weights at a family of points z of algebras.
use Rattle.std.specs.Prelude.{◌≡◌, ℕ, zero, suc, ◌<◌, ◌≤◌}
use Rattle.std.proofs.Common.{refl, sym, ◌∙◌, ap, ap₂, arith, ⊎_elim}
use Rattle.std.proofs.lemmas.Bool.{cases_lt}
use Rattle.theory_rings.specs.Ring.{RingOn}
use Rattle.theory_rings.specs.Power.{power}
use Rattle.theory_rings.proofs.Rings.RingLaws.{add-zero, mul-zero, neg-mul}
use Rattle.theory_spaces.specs.Module.{AlgebraOn, ModuleOn, module_of}
use Rattle.theory_spaces.specs.Linear.{comb}
use Rattle.theory_spaces.proofs.Linear.Families.{push, push-below, push-at}
use Rattle.theory_spaces.proofs.Linear.Modules.{comb_congr, comb_zero, comb-add, comb-scale, comb-push_zero}
use Rattle.theory_radical.specs.Ideal.{product}
use Rattle.theory_blocks.specs.Splitting.{less_scalar}

module _ {K V : Type 0} {R : RingOn K} (A : AlgebraOn R V) where
  infixl 65 ◌⊕◌
  infixl 70 ◌⊗◌
  infixl 70 ◌•◌
  open A use {ring, one, ◌⊕◌, ◌⊗◌, ◌•◌, neg}

  pub less_scalar-mul : (z : V) (a : K) (y : V) → less_scalar A z a ⊗ y ≡ z ⊗ y ⊕ neg (a • y)
  less_scalar-mul z a y = A.add-mul z (neg (a • one)) y
      ∙ ap (λ t. z ⊗ y ⊕ t) (neg-mul ring (a • one) y ∙ ap neg (A.scale-left a one y ∙ ap (λ t. a • t) (A.one-mul y)))

  module _ (c : ℕ → K) (z : V) where
    abbrev pub newton : ℕ → V
    newton j = product ring (λ i. less_scalar A z (c i)) j

    -- z·N j = N (j + 1) + c j·N j
    pub mul-newton : (j : ℕ) → z ⊗ newton j ≡ newton (suc j) ⊕ c j • newton j
    mul-newton j =
        let x = z ⊗ newton j in
        let y = c j • newton j in
        sym (ap (λ t. t ⊕ y) (less_scalar-mul z (c j) (newton j)) ∙ A.add_assoc x (neg y) y
        ∙ ap (λ t. x ⊕ t) (A.neg-add y) ∙ add-zero A.monoid x)

    -- from the first that is 0 on all are
    pub newton_vanishes : (k n : ℕ) → k ≤ n → newton k ≡ A.zero → newton n ≡ A.zero
    newton_vanishes k zero l e = let q : k ≡ 0 = omega arith in ap newton (sym q) ∙ e
    newton_vanishes k (suc n) l e = ⊎_elim
        (λ (h : k < suc n). ap (λ t. less_scalar A z (c n) ⊗ t) (newton_vanishes k n (omega arith) e)
        ∙ mul-zero ring (less_scalar A z (c n)))
        (λ (h : suc n ≤ k). let q : k ≡ suc n = omega arith in ap newton (sym q) ∙ e)
        (cases_lt k (suc n))

module _ {K : Type 0} {R : RingOn K} {I : Type 0} (V : I → Type 0) (A : (i : I) → AlgebraOn R (V i))
    (z : (i : I) → V i) (c : ℕ → K) where
  abbrev M : (i : I) → ModuleOn R (V i)
  M i = module_of (A i)

  abbrev N : (i : I) → ℕ → V i
  N i = newton (A i) c (z i)

  -- f is a combination of the first n
  pub record Newton (n : ℕ) (f : (i : I) → V i) : Type 0 where
    pub weights : ℕ → K
    pub combines : (i : I) → f i ≡ comb (M i) n weights (N i)

  pub Newton_congr : (n : ℕ) (f g : (i : I) → V i) → ((i : I) → g i ≡ f i) → Newton n f → Newton n g
  Newton_congr n f g h p = record { weights = p.weights; combines = λ i. h i ∙ p.combines i }

  pub Newton-zero : (n : ℕ) → Newton n (λ i. (A i).zero)
  Newton-zero n = record {
    weights = λ _. R.zero;
    combines = λ i.
        sym (comb_zero (M i) n (λ _. R.zero) (N i) (λ _ _. refl));
  }

  pub Newton-one : Newton 1 (λ i. (A i).one)
  Newton-one = record {
    weights = λ _. R.one;
    combines = λ i. sym ((A i).zero-add ((A i).◌•◌ R.one (A i).one) ∙ (A i).one-scale (A i).one);
  }

  pub Newton-widen : (n m : ℕ) (f : (i : I) → V i) → n ≤ m → Newton n f → Newton m f
  Newton-widen n m f l p = record {
    weights = push n R.zero p.weights;
    combines = λ i. p.combines i ∙ sym (comb-push_zero (M i) n m p.weights (N i) l);
  }

  pub Newton-add : (n : ℕ) (f g : (i : I) → V i) → Newton n f → Newton n g → Newton n (λ i. (A i).◌⊕◌ (f i) (g i))
  Newton-add n f g p q = record {
    weights = λ j. R.◌⊕◌ (p.weights j) (q.weights j);
    combines = λ i. ap₂ (λ x y. (A i).◌⊕◌ x y) (p.combines i) (q.combines i)
        ∙ sym (comb-add (M i) n p.weights q.weights (N i));
  }

  pub Newton-scale : (n : ℕ) (a : K) (f : (i : I) → V i) → Newton n f → Newton n (λ i. (A i).◌•◌ a (f i))
  Newton-scale n a f p = record {
    weights = λ j. R.◌⊗◌ a (p.weights j);
    combines = λ i. ap (λ x. (A i).◌•◌ a x) (p.combines i) ∙ sym (comb-scale (M i) n a p.weights (N i));
  }

  -- a further term
  pub Newton-push : (n : ℕ) (a : K) (f : (i : I) → V i) → Newton n f
      → Newton (suc n) (λ i. (A i).◌⊕◌ (f i) ((A i).◌•◌ a (N i n)))
  Newton-push n a f p = record {
    weights = push n a p.weights;
    combines = λ i. ap₂ (λ x y. (A i).◌⊕◌ x y)
        (p.combines i ∙ sym (comb_congr (M i) n (push n a p.weights) p.weights (N i) (push-below n a p.weights)))
        (ap (λ b. (A i).◌•◌ b (N i n)) (sym (push-at n a p.weights)));
  }

  pub Newton-term : (n : ℕ) (a : K) → Newton (suc n) (λ i. (A i).◌•◌ a (N i n))
  Newton-term n a = Newton_congr (suc n) (λ i. (A i).◌⊕◌ (A i).zero ((A i).◌•◌ a (N i n))) (λ i. (A i).◌•◌ a (N i n))
      (λ i. sym ((A i).zero-add ((A i).◌•◌ a (N i n)))) (Newton-push n a (λ i. (A i).zero) (Newton-zero n))

  mul-comb : (n : ℕ) (d : ℕ → K) → Newton (suc n) (λ i. (A i).◌⊗◌ (z i) (comb (M i) n d (N i)))
  mul-comb zero d = Newton_congr 1 (λ i. (A i).zero) (λ i. (A i).◌⊗◌ (z i) (A i).zero)
      (λ i. mul-zero (A i).ring (z i)) (Newton-zero 1)
  mul-comb (suc n) d =
      let f = λ (i : I). (A i).◌⊗◌ (z i) (comb (M i) n d (N i)) in
      let t = λ (i : I). (A i).◌•◌ (R.◌⊗◌ (d n) (c n)) (N i n) in
      let u = λ (i : I). (A i).◌⊕◌ (f i) (t i) in
      Newton_congr (suc (suc n)) (λ i. (A i).◌⊕◌ (u i) ((A i).◌•◌ (d n) (N i (suc n))))
      (λ i. (A i).◌⊗◌ (z i) (comb (M i) (suc n) d (N i)))
      (λ i. (A i).mul-add (z i) (comb (M i) n d (N i)) ((A i).◌•◌ (d n) (N i n))
      ∙ ap (λ x. (A i).◌⊕◌ (f i) x)
      ((A i).scale-right (d n) (z i) (N i n) ∙ ap (λ x. (A i).◌•◌ (d n) x) (mul-newton (A i) c (z i) n)
      ∙ (A i).scale-add (d n) (N i (suc n)) ((A i).◌•◌ (c n) (N i n))
      ∙ (A i).add_comm ((A i).◌•◌ (d n) (N i (suc n))) ((A i).◌•◌ (d n) ((A i).◌•◌ (c n) (N i n)))
      ∙ ap (λ x. (A i).◌⊕◌ x ((A i).◌•◌ (d n) (N i (suc n)))) (sym ((A i).mul-scale (d n) (c n) (N i n))))
      ∙ sym ((A i).add_assoc (f i) (t i) ((A i).◌•◌ (d n) (N i (suc n)))))
      (Newton-push (suc n) (d n) u (Newton-add (suc n) f t (mul-comb n d) (Newton-term n (R.◌⊗◌ (d n) (c n)))))

  -- the product by z
  pub Newton-mul : (n : ℕ) (f : (i : I) → V i) → Newton n f → Newton (suc n) (λ i. (A i).◌⊗◌ (z i) (f i))
  Newton-mul n f p = Newton_congr (suc n) (λ i. (A i).◌⊗◌ (z i) (comb (M i) n p.weights (N i)))
      (λ i. (A i).◌⊗◌ (z i) (f i))
      (λ i. ap (λ x. (A i).◌⊗◌ (z i) x) (p.combines i)) (mul-comb n p.weights)

  -- z^n is N n and a combination of those before
  pub record PowerForm (n : ℕ) : Type 0 where
    pub lower : (i : I) → V i
    pub form : Newton n lower
    pub splits : (i : I) → power (A i).ring (z i) n ≡ (A i).◌⊕◌ (N i n) (lower i)

  pub power_form : (n : ℕ) → PowerForm n
  power_form zero = record {
    lower = λ i. (A i).zero;
    form = Newton-zero 0;
    splits = λ i.
        sym (add-zero (A i).monoid (A i).one);
  }
  power_form (suc n) =
      let p = power_form n in
      let t = λ (i : I). (A i).◌•◌ (c n) (N i n) in
      let w = λ (i : I). (A i).◌⊗◌ (z i) (p.lower i) in
      record {
        lower = λ i. (A i).◌⊕◌ (t i) (w i);
        form = Newton-add (suc n) t w (Newton-term n (c n)) (Newton-mul n p.lower p.form);
        splits = λ i. ap (λ x. (A i).◌⊗◌ (z i) x) (p.splits i) ∙ (A i).mul-add (z i) (N i n) (p.lower i)
            ∙ ap (λ x. (A i).◌⊕◌ x (w i)) (mul-newton (A i) c (z i) n) ∙ (A i).add_assoc (N i (suc n)) (t i) (w i);
      }
