-- The test of a polynomial for irreducibility, step by step: after i steps the i-th iterate of the q-th power of x is
-- known modulo the polynomial, and it is coprime to x^(q^j) − x for each j up to i.
use Rattle.std.specs.Prelude.{◌≡◌, ℕ, zero, suc, ◌*◌, ◌^◌, ◌<◌, ◌≤◌, List, [], ◌∷◌, length}
use Rattle.std.proofs.Common.{refl, sym, ◌∙◌, ap, subst, arith, ⊎_elim}
use Rattle.std.proofs.lemmas.Bool.{cases_lt}
use Rattle.std.proofs.lemmas.List.Elements.{All-nil, All-cons}
use Rattle.std.proofs.Math.Nat.{pow-zero, pow-suc}
use Rattle.theory_rings.specs.Ring.{FieldOn, CommRingOn}
use Rattle.theory_rings.specs.Ops.{Ops, IsElem, FieldLaws}
use Rattle.theory_rings.specs.Elements.{Elem, elements}
use Rattle.theory_rings.specs.Sum.{at}
use Rattle.theory_rings.specs.Power.{power}
use Rattle.theory_rings.specs.Enumerated.{Enumerated}
use Rattle.theory_rings.specs.Polynomial.{Poly, degree, constant_coefficients}
use Rattle.theory_rings.specs.Division.{Congruent, IsCoprime as IsCoprimeIn}
use Rattle.theory_rings.proofs.Rings.RingLaws.{neg_zero}
use Rattle.theory_rings.proofs.Rings.Congruences.{congruent_of_eq, congruent_trans, congruent-mul}
use Rattle.theory_rings.proofs.Rings.Solver.{◌⊞◌, ◌⊠◌, minus, ring4}
use Rattle.theory_rings.proofs.Powers.Powers.{power_first, power-power}
use Rattle.theory_rings.proofs.Polynomials.PolynomialRing.{series_prepend}
use Rattle.theory_rings.proofs.Polynomials.Constants.{variable, coefficient-variable}
use Rattle.theory_rings.proofs.Polynomials.Bezout.{field_polynomials}
use Rattle.theory_fractions.specs.PolynomialLists.{IsOver, IsSum, IsPolynomialList}
use Rattle.theory_fractions.specs.Fraction.{IsCoprime}
use Rattle.theory_fractions.specs.FractionOps.{polynomial_of}
use Rattle.theory_fractions.proofs.Lifting.{HasCoefficients, eq_of_coefficients, has-add}
use Rattle.theory_fractions.proofs.ListPolynomials.{has_polynomial_of, has_neg, degree-polynomial_of}
use Rattle.theory_fractions.proofs.LowestTerms.{coprime_lists, coprime_polynomials}
use Rattle.theory_factors.specs.FactorLaws.{power_less}
use Rattle.theory_factors.proofs.Irreducible.{irreducible_of_coprime, coprime_of_irreducible}
use Rattle.theory_remainders.specs.Irreducible.{IsIrreducible}
use Rattle.theory_remainders.specs.RemainderLaws.{IsRemainderOf}
use Rattle.theory_remainders.proofs.Divisions.{congruent_of_remainder_of, power_coefficients, has-power}
use Rattle.theory_remainders.proofs.IrreducibleLists.{irreducible_polynomial, irreducible_list}
use Rattle.theory_remainders.proofs.CoprimeLists.{coprime_of_sum, coprime_sum}

-- a list of d + 1 coefficients is of degree d
pub degree_of_length : {X : Type 0} (xs : List X) (d : ℕ) → suc d ≡ length xs → degree xs ≡ d
degree_of_length [] d e = absurd (omega arith)
degree_of_length (x ∷ xs) d e = omega arith

module _ {E : Type 0} (o : Ops E) (L : FieldLaws o) where
  abbrev F : FieldOn (Elem o)
  F = elements o L

  abbrev P : CommRingOn (Poly F.cring)
  P = field_polynomials F

  abbrev poly : List E → Poly F.cring
  poly = polynomial_of o L

  abbrev t : Poly F.cring
  t = variable F.cring F.zero_test

  -- the variable
  has-variable : (x : List E) → ((k : ℕ) → at o x k ≡ at o (o.zero ∷ o.one ∷ []) k) → HasCoefficients o L t (at o x)
  has-variable x h k = h k ∙ each k ∙ ap (λ (c : Elem o). c.0) (sym (coefficient-variable F.cring F.zero_test k))
    where
      each : (k : ℕ) → at o (o.zero ∷ o.one ∷ []) k ≡ (series_prepend F.zero (constant_coefficients F.zero F.one) k).0
      each zero = refl
      each (suc zero) = refl
      each (suc (suc k)) = refl

  pub poly-variable : (x : List E) → IsOver o x → ((k : ℕ) → at o x k ≡ at o (o.zero ∷ o.one ∷ []) k) → poly x ≡ t
  poly-variable x hx h = eq_of_coefficients o L (poly x) t (at o x) (at o x) (has_polynomial_of o L x hx)
      (has-variable x h) (λ k. refl)

  -- and its opposite
  pub poly-neg_variable : (y : List E) → IsOver o y → ((k : ℕ) → at o y k ≡ at o (o.zero ∷ o.neg o.one ∷ []) k)
      → poly y ≡ P.neg t
  poly-neg_variable y hy h = eq_of_coefficients o L (poly y) (P.neg t) (at o y)
      (λ k. o.neg (at o (o.zero ∷ o.one ∷ []) k)) (has_polynomial_of o L y hy)
      (has_neg o L t (at o (o.zero ∷ o.one ∷ [])) (has-variable (o.zero ∷ o.one ∷ []) (λ k. refl)))
      (λ k. h k ∙ each k)
    where
      nought : o.zero ≡ o.neg o.zero
      nought = ap (λ (c : Elem o). c.0) (sym (neg_zero F.additive))

      each : (k : ℕ) → at o (o.zero ∷ o.neg o.one ∷ []) k ≡ o.neg (at o (o.zero ∷ o.one ∷ []) k)
      each zero = nought
      each (suc zero) = refl
      each (suc (suc k)) = nought

  module _ (N : Enumerated (Elem o)) (a : List E) where
    abbrev A : Poly F.cring
    A = poly a

    -- i steps are done
    pub record AreStepsDone (i : ℕ) (w : List E) : Type 0 where
      pub polynomial : IsPolynomialList o w
      pub congruent : Congruent P A (power P.ring t (N.size ^ i)) (poly w)
      pub coprime : (j : ℕ) → 1 ≤ j → j ≤ i → IsCoprimeIn F.cring P A (power_less F P t (N.size ^ j))

    pub no_steps : (x : List E) → IsPolynomialList o x → ((k : ℕ) → at o x k ≡ at o (o.zero ∷ o.one ∷ []) k)
        → AreStepsDone 0 x
    no_steps x hx h = record {
      polynomial = hx;
      congruent = congruent_of_eq P A (power P.ring t (N.size ^ 0)) (poly x)
          (ap (power P.ring t) (pow-zero N.size) ∙ power_first P.ring t ∙ sym (poly-variable x hx.over h));
      coprime = λ j l m. absurd (omega arith);
    }

    pub no_steps_variable : (x : List E) → x ≡ o.zero ∷ o.one ∷ [] → AreStepsDone 0 x
    no_steps_variable x e = subst (AreStepsDone 0) (sym e) (no_steps (o.zero ∷ o.one ∷ []) (record {
      over = All-cons (IsElem o) o.zero (o.one ∷ []) L.zero-elem
          (All-cons (IsElem o) o.one [] L.one-elem (All-nil (IsElem o)));
      trimmed = L.one-nonzero;
    }) (λ k. refl))

    congruent-power : (p r : Poly F.cring) (n : ℕ) → Congruent P A p r
        → Congruent P A (power P.ring p n) (power P.ring r n)
    congruent-power p r zero c = congruent_of_eq P A P.one P.one refl
    congruent-power p r (suc n) c =
        congruent-mul P A p r (power P.ring p n) (power P.ring r n) c (congruent-power p r n c)

    module _ (ha : IsPolynomialList o a) (i : ℕ) (w v y d : List E) (hv : IsPolynomialList o v) (hy : IsOver o y)
        (hd : IsPolynomialList o d)
        (done : AreStepsDone i w) (s : IsRemainderOf o (power_coefficients o L w N.size) a v)
        (ey : (k : ℕ) → at o y k ≡ at o (o.zero ∷ o.neg o.one ∷ []) k) (ed : IsSum o v y d) where
      abbrev n : ℕ
      n = N.size ^ suc i

      -- the next power
      next : Congruent P A (power P.ring t n) (poly v)
      next =
          let W : Poly F.cring = poly w in
          let q : ℕ = N.size in
          congruent_trans P A (power P.ring t n) (power P.ring (power P.ring t (q ^ i)) q) (poly v)
          (congruent_of_eq P A (power P.ring t n) (power P.ring (power P.ring t (q ^ i)) q)
          (ap (power P.ring t) (pow-suc q i) ∙ sym (power-power P.ring t (q ^ i) q)))
          (congruent_trans P A (power P.ring (power P.ring t (q ^ i)) q) (power P.ring W q) (poly v)
          (congruent-power (power P.ring t (q ^ i)) W q done.congruent)
          (congruent_of_remainder_of o L (power P.ring W q) (power_coefficients o L w q)
          (has-power o L W w q (has_polynomial_of o L w done.polynomial.over)) a v ha.over hv.over s))

      -- and its difference with x
      difference : power_less F P t n ≡ P.◌⊕◌ (poly d) (P.◌⊗◌ next.0 A)
      difference =
          ap (λ x. P.◌⊕◌ x (P.neg t)) next.1
          ∙ ring4 P (λ v c a t. ((v ⊞ c ⊠ a) ⊞ minus t, (v ⊞ minus t) ⊞ c ⊠ a)) refl (poly v) next.0 A t
          ∙ ap (λ x. P.◌⊕◌ x (P.◌⊗◌ next.0 A)) (sym sum)
        where
          sum : poly d ≡ P.◌⊕◌ (poly v) (P.neg t)
          sum = eq_of_coefficients o L (poly d) (P.◌⊕◌ (poly v) (poly y)) (at o d) (λ k. o.add (at o v k) (at o y k))
              (has_polynomial_of o L d hd.over)
              (has-add o L (poly v) (poly y) (at o v) (at o y) (has_polynomial_of o L v hv.over)
              (has_polynomial_of o L y hy)) ed
              ∙ ap (P.◌⊕◌ (poly v)) (poly-neg_variable y hy ey)

      pub one_more : IsCoprime o a d → AreStepsDone (suc i) v
      one_more h = record {
        polynomial = hv;
        congruent = next;
        coprime = λ j l b. ⊎_elim
            (λ (k : j < suc i). done.coprime j l (omega arith))
            (λ (k : suc i ≤ j).
            let e : suc i ≡ j = omega arith in
            subst (λ x. IsCoprimeIn F.cring P A (power_less F P t (N.size ^ x))) e
            (coprime_of_sum F A (power_less F P t n) (poly d) next.0 difference
            (coprime_polynomials o L a d ha hd h)))
            (cases_lt j (suc i));
      }

      pub reducible : (IsCoprime o a d → ⊥) → 2 * suc i ≤ degree a → IsIrreducible o a → ⊥
      reducible h l irreducible = h (coprime_lists o L a d ha hd
          (coprime_sum F A (power_less F P t n) (poly d) next.0 difference
          (coprime_of_irreducible F N A (irreducible_polynomial o L a ha irreducible) (suc i) (omega arith)
          (omega (arith, l, degree-polynomial_of o L a ha)))))

    -- as many steps as half the degree
    pub irreducible_of_steps : (w : List E) (h : ℕ) → IsPolynomialList o a → 1 ≤ degree a → degree a ≤ suc (2 * h)
        → AreStepsDone h w
        → IsIrreducible o a
    irreducible_of_steps w h ha pos half done =
        let d = degree-polynomial_of o L a ha in
        irreducible_list o L a ha (irreducible_of_coprime F N A (omega arith)
        (λ j l b. done.coprime j l (omega arith)))
