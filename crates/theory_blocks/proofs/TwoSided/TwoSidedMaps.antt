-- In a simple algebra, where a 0, .., a (n − 1) are independent over the centre, the map y → a 0·y·x 0 + .. is 0 only
-- where all the x are.
use Rattle.std.specs.Prelude.{◌≡◌, ℕ, zero, suc, ◌<◌}
use Rattle.std.proofs.Common.{sym, ◌∙◌, ap, ap₂, arith, ⊎_elim}
use Rattle.theory_rings.specs.Ring.{FieldOn}
use Rattle.theory_rings.specs.Sum.{sum}
use Rattle.theory_rings.proofs.Rings.RingLaws.{add-zero, mul-zero, zero-mul, mul-neg, neg_zero}
use Rattle.theory_rings.proofs.Rings.ZeroTests.{eq_of_sub_eq_zero, sub_eq_zero_of_eq}
use Rattle.theory_rings.proofs.Sums.Sums.{sum_congr, sum_eq_zero, sum-add, sum-neg, sum-mul}
use Rattle.theory_spaces.specs.Module.{AlgebraOn, module_of}
use Rattle.theory_spaces.specs.Linear.{Basis}
use Rattle.theory_spaces.specs.AlgebraMap.{IsSimple}
use Rattle.theory_spaces.proofs.Linear.Families.{push, push-below, push-at, below_suc}
use Rattle.theory_spaces.proofs.Algebras.MinimalIdempotents.{one_through}
use Rattle.theory_blocks.specs.Centre.{Centre}
use Rattle.theory_blocks.specs.TwoSidedRank.{IndependentOverCentre, TwoSidedMapsVanish}
use Rattle.theory_blocks.proofs.Families.Decisions.{vector_eq_zero_or}
use Rattle.theory_blocks.proofs.Ideals.Centres.{centre_submodule}

module _ {K V : Type 0} (F : FieldOn K) (A : AlgebraOn F.ring V) where
  infixl 65 ◌⊕◌
  infixl 70 ◌⊗◌
  open A use {ring, monoid, additive, one, neg, ◌⊕◌, ◌⊗◌}

  module _ (n : ℕ) (a : ℕ → V) where
    -- a 0·y·x 0 + .. is 0 for all y
    abbrev Vanishes : (ℕ → V) → Type 0
    Vanishes x = (y : V) → sum monoid n (λ i. (a i ⊗ y) ⊗ x i) ≡ A.zero

    vanishes-left : (p : V) (x : ℕ → V) → Vanishes x → Vanishes (λ i. p ⊗ x i)
    vanishes-left p x h y =
        sum_congr monoid n (λ i. (a i ⊗ y) ⊗ (p ⊗ x i)) (λ i. (a i ⊗ (y ⊗ p)) ⊗ x i) (λ i _. simp A.mul_assoc)
        ∙ h (y ⊗ p)

    vanishes-right : (q : V) (x : ℕ → V) → Vanishes x → Vanishes (λ i. x i ⊗ q)
    vanishes-right q x h y =
        sum_congr monoid n (λ i. (a i ⊗ y) ⊗ (x i ⊗ q)) (λ i. (a i ⊗ y) ⊗ x i ⊗ q)
        (λ i _. sym (A.mul_assoc (a i ⊗ y) (x i) q))
        ∙ sym (sum-mul ring n q (λ i. (a i ⊗ y) ⊗ x i)) ∙ ap (λ s. s ⊗ q) (h y) ∙ zero-mul ring q

    vanishes-add : (x w : ℕ → V) → Vanishes x → Vanishes w → Vanishes (λ i. x i ⊕ w i)
    vanishes-add x w h g y =
        sum_congr monoid n (λ i. (a i ⊗ y) ⊗ (x i ⊕ w i)) (λ i. (a i ⊗ y) ⊗ x i ⊕ (a i ⊗ y) ⊗ w i)
        (λ i _. A.mul-add (a i ⊗ y) (x i) (w i))
        ∙ sum-add monoid n (λ i. (a i ⊗ y) ⊗ x i) (λ i. (a i ⊗ y) ⊗ w i) ∙ ap₂ (λ s t. s ⊕ t) (h y) (g y)
        ∙ A.zero-add A.zero

    vanishes-neg : (x : ℕ → V) → Vanishes x → Vanishes (λ i. neg (x i))
    vanishes-neg x h y =
        sum_congr monoid n (λ i. (a i ⊗ y) ⊗ neg (x i)) (λ i. neg ((a i ⊗ y) ⊗ x i))
        (λ i _. mul-neg ring (a i ⊗ y) (x i))
        ∙ sum-neg additive n (λ i. (a i ⊗ y) ⊗ x i) ∙ ap neg (h y) ∙ neg_zero additive

    vanishes-sum : (s : ℕ) (u : ℕ → ℕ → V) → ((t : ℕ) → Vanishes (u t)) → Vanishes (λ i. sum monoid s (λ t. u t i))
    vanishes-sum zero u h = λ y. sum_eq_zero monoid n (λ i. (a i ⊗ y) ⊗ A.zero) (λ i _. mul-zero ring (a i ⊗ y))
    vanishes-sum (suc s) u h = vanishes-add (λ i. sum monoid s (λ t. u t i)) (u s) (vanishes-sum s u h) (h s)

    -- so it does for the commutators with b
    vanishes-commutator : (b : V) (x : ℕ → V) → Vanishes x → Vanishes (λ i. b ⊗ x i ⊕ neg (x i ⊗ b))
    vanishes-commutator b x h =
        vanishes-add (λ i. b ⊗ x i) (λ i. neg (x i ⊗ b)) (vanishes-left b x h)
        (vanishes-neg (λ i. x i ⊗ b) (vanishes-right b x h))

  -- a last x that is 0 can go
  drop_last : (n : ℕ) (a x : ℕ → V) → x n ≡ A.zero → Vanishes (suc n) a x → Vanishes n a x
  drop_last n a x e h y =
      let S = sum monoid n (λ i. (a i ⊗ y) ⊗ x i) in
      let none : (a n ⊗ y) ⊗ x n ≡ A.zero = ap (λ t. (a n ⊗ y) ⊗ t) e ∙ mul-zero ring (a n ⊗ y) in
      sym (ap (λ t. S ⊕ t) none ∙ add-zero monoid S) ∙ h y

  -- the first n of vectors that are independent over the centre
  independent-front : (n : ℕ) (a : ℕ → V) → IndependentOverCentre A (suc n) a → IndependentOverCentre A n a
  independent-front n a h = record {
    only_zero = λ c p e i l.
        let d = push n A.zero c in
        sym (push-below n A.zero c i l)
        ∙ h.only_zero d
        (below_suc n (λ j. Centre A (d j)) (λ j g. rw (push-below n A.zero c j g) (p j g))
        (rw (push-at n A.zero c) (centre_submodule A).zero-in))
        (ap₂ (λ s t. s ⊕ t) (sum_congr monoid n (λ j. d j ⊗ a j) (λ j. c j ⊗ a j)
        (λ j g. ap (λ t. t ⊗ a j) (push-below n A.zero c j g)))
        (ap (λ t. t ⊗ a n) (push-at n A.zero c) ∙ zero-mul ring (a n))
        ∙ add-zero monoid (sum monoid n (λ j. c j ⊗ a j)) ∙ e)
        i (omega arith);
  }

  module _ (n : ℕ) (a : ℕ → V) (free : IndependentOverCentre A (suc n) a)
      (fewer : (u : ℕ → V) → Vanishes n a u → (i : ℕ) → i < n → u i ≡ A.zero) where
    -- where the last x is one the x are central, against independence
    normalized : (x : ℕ → V) → x n ≡ one → Vanishes (suc n) a x → x n ≡ A.zero
    normalized x e h = free.only_zero x central
        (sum_congr monoid (suc n) (λ i. x i ⊗ a i) (λ i. (a i ⊗ one) ⊗ x i)
        (λ i l. central i l (a i) ∙ ap (λ t. t ⊗ x i) (sym (A.mul-one (a i)))) ∙ h one)
        n (omega arith)
      where
        last : (b : V) → b ⊗ x n ≡ x n ⊗ b
        last b = ap (λ t. b ⊗ t) e ∙ A.mul-one b ∙ sym (ap (λ t. t ⊗ b) e ∙ A.one-mul b)

        -- the commutators with b but the last one, which is 0
        earlier : (b : V) (i : ℕ) → i < n → b ⊗ x i ⊕ neg (x i ⊗ b) ≡ A.zero
        earlier b = fewer (λ i. b ⊗ x i ⊕ neg (x i ⊗ b)) (drop_last n a (λ i. b ⊗ x i ⊕ neg (x i ⊗ b))
            (sub_eq_zero_of_eq additive (b ⊗ x n) (x n ⊗ b) (last b)) (vanishes-commutator (suc n) a b x h))

        central : (i : ℕ) → i < suc n → Centre A (x i)
        central i l b = sym (below_suc n (λ i. b ⊗ x i ≡ x i ⊗ b)
            (λ i g. eq_of_sub_eq_zero additive (b ⊗ x i) (x i ⊗ b) (earlier b i g)) (last b) i l)

  module _ (m : ℕ) (B : Basis (module_of A) m) (simple : IsSimple A) where
    one_more : (n : ℕ) (a : ℕ → V) → IndependentOverCentre A (suc n) a
        → ((u : ℕ → V) → Vanishes n a u → (i : ℕ) → i < n → u i ≡ A.zero)
        → (x : ℕ → V) → Vanishes (suc n) a x → (i : ℕ) → i < suc n → x i ≡ A.zero
    one_more n a free fewer x h = ⊎_elim
        (λ (e : x n ≡ A.zero). below_suc n (λ i. x i ≡ A.zero) (fewer x (drop_last n a x e h)) e)
        (λ (d : x n ≡ A.zero → ⊥). absurd (d (zero_of d)))
        (vector_eq_zero_or F (module_of A) m B (x n))
      where
        zero_of : (x n ≡ A.zero → ⊥) → x n ≡ A.zero
        zero_of d =
            let o = one_through A m B (x n) simple d in
            let w : ℕ → V = λ i. sum monoid o.size (λ t. (o.left t ⊗ x i) ⊗ o.right t) in
            let e : w n ≡ A.zero = normalized n a free fewer w (sym o.sums)
            (vanishes-sum (suc n) a o.size (λ t i. (o.left t ⊗ x i) ⊗ o.right t)
            (λ t. vanishes-right (suc n) a (o.right t) (λ i. o.left t ⊗ x i)
            (vanishes-left (suc n) a (o.left t) x h))) in
            sym (A.one-mul (x n)) ∙ ap (λ t. t ⊗ x n) (o.sums ∙ e) ∙ zero-mul ring (x n)

    pub two_sided_maps_vanish : TwoSidedMapsVanish A
    two_sided_maps_vanish zero a x free h = λ i l. absurd (omega arith)
    two_sided_maps_vanish (suc n) a x free h =
        one_more n a free (λ u g. two_sided_maps_vanish n a u (independent-front n a free) g) x h
