-- The polynomial multiples of a common basis that lie in the intersection are a basis of it over the constants.
use Rattle.std.specs.Prelude.{◌≡◌, ℕ, zero, suc, ◌<◌, ◌≤◌, ℤ, pos, negsuc, ◌+ℤ◌, ◌≤ℤ◌}
use Rattle.std.proofs.Common.{refl, sym, ◌∙◌, ap, arith, ⊎_elim, inl}
use Rattle.std.proofs.lemmas.Int.{ints}
use Rattle.std.proofs.lemmas.Bool.{cases_lt}
use Rattle.theory_rings.specs.Ring.{RingOn, FieldOn}
use Rattle.theory_rings.specs.Sum.{sum}
use Rattle.theory_rings.proofs.Rings.RingLaws.{zero-mul, add-zero}
use Rattle.theory_rings.proofs.Sums.Sums.{sum_congr}
use Rattle.theory_spaces.specs.Module.{ModuleOn}
use Rattle.theory_spaces.specs.Linear.{comb}
use Rattle.theory_spaces.proofs.Linear.Families.{choose_each}
use Rattle.theory_spaces.proofs.Linear.Modules.{sum-scale}
use Rattle.theory_lattices.specs.Degree.{DegreeOn, DegreeBelow, HasDegree}
use Rattle.theory_lattices.specs.CommonBasis.{CommonBasis}
use Rattle.theory_lattices.specs.Members.{power_count, polynomial_of, PolynomialsOf, members_sum, IntersectionBasis}
use Rattle.theory_lattices.proofs.Degree.Degrees.{below_of_degree, has_degree-mul, has_degree-add, below-mono}
use Rattle.theory_lattices.proofs.Degree.Degrees.{below-sum}
use Rattle.theory_lattices.proofs.Common.CommonBases.{in_both, both_in}

power_count_le : (a : ℤ) → (a +ℤ pos 1) ≤ℤ pos (power_count a)
power_count_le (pos a) = omega (arith, ints)
power_count_le (negsuc a) = omega (arith, ints)

module _ {K k : Type 0} (F : FieldOn K) (W : DegreeOn F.ring) (P : K → Type 0) (κ : RingOn k) (ι : k → K)
    (T : ℕ → K) where
  module _ (X : PolynomialsOf F W P κ ι T) where
    term_below : (c : k) (j m : ℕ) → j < m → DegreeBelow W (pos m) (F.◌⊗◌ (ι c) (T j))
    term_below c j m l = ⊎_elim
        (λ (e : ι c ≡ F.zero). inl (ap (λ t. F.◌⊗◌ t (T j)) e ∙ zero-mul F.ring (T j)))
        (λ (h : HasDegree W (pos 0) (ι c)). below_of_degree W (pos 0 +ℤ pos j) (pos m) (F.◌⊗◌ (ι c) (T j))
        (omega (arith, ints)) (has_degree-mul W (pos 0) (pos j) (ι c) (T j) h (X.T-degree j)))
        (X.ι-degree c)

    polynomial_below : (m : ℕ) (s : ℕ → k) → DegreeBelow W (pos m) (polynomial_of F ι T m s)
    polynomial_below m s = below-sum W (pos m) m (λ j. F.◌⊗◌ (ι (s j)) (T j)) (λ j l. term_below (s j) j m l)

    -- the powers are independent over the constants
    pub coefficients_zero : (m : ℕ) (s : ℕ → k) → polynomial_of F ι T m s ≡ F.zero → (j : ℕ) → j < m → s j ≡ κ.zero
    coefficients_zero zero s e j l = absurd (omega arith)
    coefficients_zero (suc m) s e j l =
        let last : ι (s m) ≡ F.zero = ⊎_elim (λ (z : ι (s m) ≡ F.zero). z)
        (λ (h : HasDegree W (pos 0) (ι (s m))).
        let u = has_degree-add W (pos 0 +ℤ pos m) (F.◌⊗◌ (ι (s m)) (T m)) (polynomial_of F ι T m s)
        (has_degree-mul W (pos 0) (pos m) (ι (s m)) (T m) h (X.T-degree m))
        (below-mono W (pos m) (pos 0 +ℤ pos m) (polynomial_of F ι T m s) (omega (arith, ints))
        (polynomial_below m s)) in
        absurd (u.nonzero (F.add_comm (F.◌⊗◌ (ι (s m)) (T m)) (polynomial_of F ι T m s) ∙ e)))
        (X.ι-degree (s m)) in
        let front : polynomial_of F ι T m s ≡ F.zero = sym (add-zero F.monoid (polynomial_of F ι T m s))
        ∙ ap (F.◌⊕◌ (polynomial_of F ι T m s)) (sym (ap (λ t. F.◌⊗◌ t (T m)) last ∙ zero-mul F.ring (T m))) ∙ e in
        ⊎_elim (λ (h : j < m). coefficients_zero m s front j h)
        (λ (h : m ≤ j). let q : j ≡ m = omega arith in ap s q ∙ X.ι-injective (s m) last) (cases_lt j m)

    power_count_below : (a : ℤ) (s : ℕ → k) → DegreeBelow W (a +ℤ pos 1) (polynomial_of F ι T (power_count a) s)
    power_count_below (pos a) s =
        below-mono W (pos (suc a)) (pos a +ℤ pos 1) (polynomial_of F ι T (suc a) s) (omega (arith, ints))
        (polynomial_below (suc a) s)
    power_count_below (negsuc a) s = inl refl

    module _ {V : Type 0} (M : ModuleOn F.ring V) (n : ℕ) (finite infinite : V → Type 0) (b : ℕ → V) (a : ℕ → ℤ)
        (B : CommonBasis F W M P n finite infinite b a) where
      as_comb : (s : ℕ → ℕ → k)
          → members_sum F ι T M n b a s ≡ comb M n (λ i. polynomial_of F ι T (power_count (a i)) (s i)) b
      as_comb s = sum_congr M.monoid n
          (λ i. sum M.monoid (power_count (a i)) (λ j. M.◌•◌ (ι (s i j)) (M.◌•◌ (T j) (b i))))
          (λ i. M.◌•◌ (polynomial_of F ι T (power_count (a i)) (s i)) (b i))
          (λ i _. sum_congr M.monoid (power_count (a i)) (λ j. M.◌•◌ (ι (s i j)) (M.◌•◌ (T j) (b i)))
          (λ j. M.◌•◌ (F.◌⊗◌ (ι (s i j)) (T j)) (b i)) (λ j _. sym (M.mul-scale (ι (s i j)) (T j) (b i)))
          ∙ sym (sum-scale M (power_count (a i)) (λ j. F.◌⊗◌ (ι (s i j)) (T j)) (b i)))

      pub members_span : (x : V) → finite x → infinite x → (s : ℕ → ℕ → k) × (x ≡ members_sum F ι T M n b a s)
      members_span x f g =
          let w = in_both F W M P n finite infinite b a B x f g in
          let r = choose_each n (λ i t. w.weights i ≡ polynomial_of F ι T (power_count (a i)) t) (λ _. κ.zero)
          (λ i l. let p = w.passes i l in
          X.expand (w.weights i) p.0 (power_count (a i))
          (below-mono W (a i +ℤ pos 1) (pos (power_count (a i))) (w.weights i) (power_count_le (a i)) p.1)) in (
            r.0,
            w.combines ∙ sum_congr M.monoid n (λ i. M.◌•◌ (w.weights i) (b i))
                (λ i. M.◌•◌ (polynomial_of F ι T (power_count (a i)) (r.0 i)) (b i))
                (λ i l. ap (λ c. M.◌•◌ c (b i)) (r.1 i l)) ∙ sym (as_comb r.0),
          )

      pub members_back : (s : ℕ → ℕ → k) → finite (members_sum F ι T M n b a s) × infinite (members_sum F ι T M n b a s)
      members_back s = both_in F W M P n finite infinite b a B (members_sum F ι T M n b a s) (record {
        weights = λ i. polynomial_of F ι T (power_count (a i)) (s i);
        passes = λ i l. (X.back (power_count (a i)) (s i), power_count_below (a i) (s i));
        combines = as_comb s;
      })

      pub members_free : (s : ℕ → ℕ → k) → members_sum F ι T M n b a s ≡ M.zero → (i j : ℕ) → i < n
          → j < power_count (a i) → s i j ≡ κ.zero
      members_free s e i j l g =
          coefficients_zero (power_count (a i)) (s i)
          (B.free.only_zero (λ i. polynomial_of F ι T (power_count (a i)) (s i)) (sym (as_comb s) ∙ e) i l) j g

      -- the products of powers and basis vectors are a basis of the intersection
      pub intersection_basis : IntersectionBasis F W P κ ι T M n b a finite infinite
      intersection_basis = record { spans = members_span; inside = members_back; free = members_free }
