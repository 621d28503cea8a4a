-- The powers of an element of degree 1, also to negative exponents.
use Rattle.std.specs.Prelude.{◌≡◌, ℕ, zero, suc, ℤ, pos, negsuc, ◌+ℤ◌, neg_ℤ}
use Rattle.std.proofs.Common.{refl, sym, ◌∙◌, ap, subst, arith}
use Rattle.std.proofs.lemmas.Int.{ints}
use Rattle.theory_rings.specs.Ring.{FieldOn}
use Rattle.theory_rings.proofs.Rings.RingLaws.{zero-mul}
use Rattle.theory_lattices.specs.Degree.{DegreeOn, HasDegree}
use Rattle.theory_lattices.specs.SelfDual.{PowersOf}
use Rattle.theory_lattices.proofs.Degree.Degrees.{has_degree-mul}

module _ {K : Type 0} (F : FieldOn K) (W : DegreeOn F.ring) where
  infixl 70 ◌⊗◌
  open F use {◌⊗◌}

  pub has_degree-one : HasDegree W (pos 0) F.one
  has_degree-one = record {
    nonzero = W.one-ne-zero;
    degree =
        (let e = W.deg-mul F.one F.one W.one-ne-zero W.one-ne-zero in let g = ap W.deg (F.one-mul F.one) in
        omega (arith, ints));
  }

  pub has_degree-inv : (n : ℤ) (a : K) → HasDegree W n a → HasDegree W (neg_ℤ n) (F.inv a)
  has_degree-inv n a h =
      let q = F.inv-mul a h.nonzero in
      let d : F.inv a ≡ F.zero → ⊥ = λ e. W.one-ne-zero (sym q ∙ ap (λ t. t ⊗ a) e ∙ zero_times a) in
      record {
        nonzero = d;
        degree =
            (let e = W.deg-mul (F.inv a) a d h.nonzero in let g = ap W.deg q in let o = has_degree-one in let od =
            o.degree in let hd = h.degree in omega (arith, ints));
      }
    where
      zero_times : (a : K) → F.zero ⊗ a ≡ F.zero
      zero_times a = zero-mul F.ring a

  module _ (t : K) (one : HasDegree W (pos 1) t) where
    abbrev u : K
    u = F.inv t

    abbrev up : ℕ → K
    up zero = F.one
    up (suc n) = up n ⊗ t

    abbrev down : ℕ → K
    down zero = F.one
    down (suc n) = down n ⊗ u

    abbrev pub at : ℤ → K
    at (pos n) = up n
    at (negsuc n) = down (suc n)

    ut : u ⊗ t ≡ F.one
    ut = F.inv-mul t one.nonzero

    drop : (x : K) → (x ⊗ u) ⊗ t ≡ x
    drop x = F.mul_assoc x u t ∙ ap (λ y. x ⊗ y) ut ∙ F.mul-one x

    drop_back : (x : K) → (x ⊗ t) ⊗ u ≡ x
    drop_back x = F.mul_assoc x t u ∙ ap (λ y. x ⊗ y) (F.mul_comm t u ∙ ut) ∙ F.mul-one x

    at-up : (m : ℤ) → at (m +ℤ pos 1) ≡ at m ⊗ t
    at-up (pos n) = let e : pos n +ℤ pos 1 ≡ pos (suc n) = omega (arith, ints) in ap at e
    at-up (negsuc zero) = let e : negsuc zero +ℤ pos 1 ≡ pos 0 = omega (arith, ints) in ap at e ∙ sym (drop F.one)
    at-up (negsuc (suc n)) = let e : negsuc (suc n) +ℤ pos 1 ≡ negsuc n = omega (arith, ints) in ap at e
        ∙ sym (drop (down (suc n)))

    at-down : (m : ℤ) → at (m +ℤ negsuc zero) ≡ at m ⊗ u
    at-down m = let e : (m +ℤ negsuc zero) +ℤ pos 1 ≡ m = omega (arith, ints) in
        sym (drop_back (at (m +ℤ negsuc zero))) ∙ ap (λ x. x ⊗ u) (sym (at-up (m +ℤ negsuc zero)) ∙ ap at e)

    joined_up : (m : ℤ) (n : ℕ) → at m ⊗ up n ≡ at (m +ℤ pos n)
    joined_up m zero = let e : m ≡ m +ℤ pos 0 = omega (arith, ints) in F.mul-one (at m) ∙ ap at e
    joined_up m (suc n) =
        let e : (m +ℤ pos n) +ℤ pos 1 ≡ m +ℤ pos (suc n) = omega (arith, ints) in
        sym (F.mul_assoc (at m) (up n) t) ∙ ap (λ x. x ⊗ t) (joined_up m n) ∙ sym (at-up (m +ℤ pos n)) ∙ ap at e

    joined_down : (m : ℤ) (n : ℕ) → at m ⊗ down (suc n) ≡ at (m +ℤ negsuc n)
    joined_down m zero = ap (λ x. at m ⊗ x) (F.one-mul u) ∙ sym (at-down m)
    joined_down m (suc n) =
        let e : (m +ℤ negsuc n) +ℤ negsuc zero ≡ m +ℤ negsuc (suc n) = omega (arith, ints) in
        sym (F.mul_assoc (at m) (down (suc n)) u) ∙ ap (λ x. x ⊗ u) (joined_down m n) ∙ sym (at-down (m +ℤ negsuc n))
        ∙ ap at e

    has_degree-up : (n : ℕ) → HasDegree W (pos n) (up n)
    has_degree-up zero = has_degree-one
    has_degree-up (suc n) = let e : pos n +ℤ pos 1 ≡ pos (suc n) = omega (arith, ints) in let Q : ℤ
        → Type 0 = λ d. HasDegree W d (up n ⊗ t) in
        subst Q e (has_degree-mul W (pos n) (pos 1) (up n) t (has_degree-up n) one)

    has_degree-down : (n : ℕ) → HasDegree W (neg_ℤ (pos n)) (down n)
    has_degree-down zero = let e : pos 0 ≡ neg_ℤ (pos 0) = omega (arith, ints) in let Q : ℤ
        → Type 0 = λ d. HasDegree W d F.one in subst Q e has_degree-one
    has_degree-down (suc n) = let e : neg_ℤ (pos n) +ℤ neg_ℤ (pos 1) ≡ neg_ℤ (pos (suc n)) = omega (arith, ints) in
        let Q : ℤ → Type 0 = λ d. HasDegree W d (down n ⊗ u) in
        subst Q e (has_degree-mul W (neg_ℤ (pos n)) (neg_ℤ (pos 1)) (down n) u (has_degree-down n)
        (has_degree-inv (pos 1) t one))

    has_degree-at : (m : ℤ) → HasDegree W m (at m)
    has_degree-at (pos n) = has_degree-up n
    has_degree-at (negsuc n) = let e : neg_ℤ (pos (suc n)) ≡ negsuc n = omega (arith, ints) in let Q : ℤ
        → Type 0 = λ d. HasDegree W d (down (suc n)) in subst Q e (has_degree-down (suc n))

    pub powers : PowersOf F W at
    powers = record { degree = has_degree-at; joined = joined; none = refl }
      where
        joined : (m k : ℤ) → at m ⊗ at k ≡ at (m +ℤ k)
        joined m (pos k) = joined_up m k
        joined m (negsuc k) = joined_down m k
