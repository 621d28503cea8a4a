-- Where c times each structure constant is in a subring, one and the c times basis vectors span an order over it.
use Rattle.std.specs.Prelude.{◌≡◌, ℕ, suc, ◌<◌, ◌≤◌}
use Rattle.std.proofs.Common.{sym, ◌∙◌, ap, ap₂, subst, arith, ⊎_elim}
use Rattle.std.proofs.lemmas.Bool.{cases_lt}
use Rattle.theory_rings.specs.Ring.{FieldOn}
use Rattle.theory_rings.proofs.Sums.Sums.{sum_congr}
use Rattle.theory_spaces.specs.Module.{ModuleOn, AlgebraOn, module_of}
use Rattle.theory_spaces.specs.Linear.{comb}
use Rattle.theory_spaces.proofs.Linear.Families.{push, push-below, push-at}
use Rattle.theory_spaces.proofs.Linear.Modules.{comb-scale}
use Rattle.theory_orders.specs.Orders.{IsOrder}
use Rattle.theory_spaces.specs.Lattice.{IsSubring, LatticeOver}
use Rattle.theory_spaces.proofs.Linear.LatticeSpans.{span-comb, span-member, span_order}

module _ {K V : Type 0} (F : FieldOn K) (A : AlgebraOn F.ring V) (n : ℕ) (b : ℕ → V) (γ : ℕ → ℕ → ℕ → K)
    (products : (i j : ℕ) → i < n → j < n → A.◌⊗◌ (b i) (b j) ≡ comb (module_of A) n (γ i j) b)
    (P : K → Type 0) (closed : IsSubring F.ring P) (c : K)
    (integral : (i j k : ℕ) → i < n → j < n → k < n → P (F.◌⊗◌ c (γ i j k))) where
  infixl 70 ◌⊗◌
  infixl 70 ◌•◌
  open A use {◌⊗◌, ◌•◌}

  abbrev M : ModuleOn F.ring V
  M = module_of A

  abbrev w : ℕ → V
  w = push n A.one (λ i. c • b i)

  abbrev In : V → Type 0
  In = LatticeOver M P (suc n) w

  w-below : (i : ℕ) → i < n → w i ≡ c • b i
  w-below i l = push-below n A.one (λ i. c • b i) i l

  w-at : w n ≡ A.one
  w-at = push-at n A.one (λ i. c • b i)

  member : (i : ℕ) → i < suc n → In (w i)
  member i l = span-member F P closed M (suc n) w i l

  scaled : (g : ℕ → K) → comb M n g (λ k. c • b k) ≡ c • comb M n g b
  scaled g = sum_congr M.monoid n (λ k. g k • (c • b k)) (λ k. F.◌⊗◌ c (g k) • b k)
      (λ k _. sym (A.mul-scale (g k) c (b k)) ∙ ap (λ a. a • b k) (F.mul_comm (g k) c))
      ∙ comb-scale M n c g b

  product : (i j : ℕ) → i < n → j < n → (c • b i) ⊗ (c • b j) ≡ comb M n (λ k. F.◌⊗◌ c (γ i j k)) (λ k. c • b k)
  product i j l g =
      A.scale-left c (b i) (c • b j) ∙ ap (A.◌•◌ c)
      (A.scale-right c (b i) (b j) ∙ ap (A.◌•◌ c) (products i j l g) ∙ sym (comb-scale M n c (γ i j) b))
      ∙ sym (scaled (λ k. F.◌⊗◌ c (γ i j k)))

  both : (i j : ℕ) → i < suc n → j < suc n → In (w i ⊗ w j)
  both i j l g = ⊎_elim
      (λ (a : i < n). ⊎_elim
      (λ (d : j < n). subst In (sym (ap₂ (λ x y. x ⊗ y) (w-below i a) (w-below j d) ∙ product i j a d))
      (span-comb F P closed M (suc n) w n (λ k. F.◌⊗◌ c (γ i j k)) (λ k. c • b k) (λ k h. integral i j k a d h)
      (λ k h. subst In (w-below k h) (member k (omega arith)))))
      (λ (d : n ≤ j). let e : n ≡ j = omega arith in
      subst In (sym (ap (λ t. w i ⊗ w t) (sym e) ∙ ap (λ y. w i ⊗ y) w-at ∙ A.mul-one (w i))) (member i l))
      (cases_lt j n))
      (λ (a : n ≤ i). let e : n ≡ i = omega arith in
      subst In (sym (ap (λ t. w t ⊗ w j) (sym e) ∙ ap (λ y. y ⊗ w j) w-at ∙ A.one-mul (w j))) (member j g))
      (cases_lt i n)

  pub first_order : IsOrder A In
  first_order = span_order F P closed A (suc n) w both (subst In w-at (member n (omega arith)))

  pub first_order-member : (i : ℕ) → i < n → In (c • b i)
  first_order-member i l = subst In (w-below i l) (member i (omega arith))
