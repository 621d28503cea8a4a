-- The factors of a part, one after the other, and of one degree after the other.
use Rattle.std.specs.Prelude.{◌≡◌, ℕ, zero, suc, ◌*◌, ◌/◌, ◌^◌, ◌<◌, ◌≤◌, List, [], ◌∷◌, length}
use Rattle.std.proofs.Common.{refl, sym, ◌∙◌, ap, ap₂, subst, arith, ⊎_elim}
use Rattle.std.proofs.lemmas.Bool.{cases_lt}
use Rattle.theory_rings.specs.Ring.{FieldOn, CommRingOn}
use Rattle.theory_rings.specs.Ops.{Ops, FieldLaws}
use Rattle.theory_rings.specs.Elements.{Elem}
use Rattle.theory_rings.specs.Enumerated.{Enumerated}
use Rattle.theory_rings.specs.Polynomial.{Poly, degree, coefficient}
use Rattle.theory_rings.proofs.Rings.Solver.{◌⊞◌, ◌⊠◌, minus, ring4}
use Rattle.theory_rings.proofs.Polynomials.PolynomialRing.{constant}
use Rattle.theory_rings.proofs.Polynomials.Constants.{constant-one}
use Rattle.theory_rings.proofs.Polynomials.Degrees.{eq_constant}
use Rattle.theory_rings.proofs.Polynomials.Irreducible.{degree_le_of_divides}
use Rattle.theory_rings.proofs.Polynomials.Monic.{divides_trans, divides_self, degrees_of_product}
use Rattle.theory_fractions.specs.PolynomialLists.{IsOver, IsDivision, IsPolynomialList}
use Rattle.theory_factors.specs.FactorLaws.{power_less}
use Rattle.theory_factors.specs.Parts.{HasDivisorsFrom}
use Rattle.theory_factors.proofs.Parts.{divisors_from_one, divisors_of_divisor, small_irreducible, coprime_of_gcd}
use Rattle.theory_factors.proofs.Parts.{divisors_from_next}
use Rattle.theory_remainders.specs.Irreducible.{IsIrreducible}
use Rattle.theory_remainders.proofs.CoprimeLists.{coprime_of_sum}
use Rattle.theory_remainders.proofs.IrreducibleLists.{irreducible_list, irreducible_polynomial}
use Rattle.spl_field.specs.SmallField.{small_ops, small_laws, size_of}
use Rattle.spl_field.specs.declared.small.SmallField.{SmallField}
use Rattle.spl_residue.proofs.Numbers.{small_numbers}
use Rattle.spl_factor.specs.Factorisation.{Powers}
use Rattle.spl_factor.specs.Steps.{field, ring, poly, x, IsMonicList, IsMonicGcd, IsPartList, IsVariablePower}
use Rattle.spl_factor.specs.Steps.{IsPowerModulo, DividesList, product_of_powers, IsWork, IsNext}
use Rattle.spl_factor.proofs.Values.{quotient_value, not_divides}
use Rattle.spl_factor.proofs.Traces.{next_power, no_power}
use Rattle.spl_factor.proofs.Splits.{variable_list, variable_value}
use Rattle.spl_factor.proofs.Quotients.{monic_nonzero, degree_poly, length_monic, monic_part, monic_quotient}
use Rattle.spl_factor.proofs.Quotients.{length_quotient}

module _ (f : SmallField) where
  abbrev o : Ops ℕ
  o = small_ops f

  abbrev L : FieldLaws (small_ops f)
  L = small_laws f

  abbrev F : FieldOn (Elem (small_ops f))
  F = field f

  abbrev P : CommRingOn (Poly (field f).cring)
  P = ring f

  abbrev N : Enumerated (Elem (small_ops f))
  N = small_numbers f

  abbrev Is : List ℕ → Type 0
  Is = IsPolynomialList (small_ops f)

  abbrev From : ℕ → List ℕ → Type 0
  From d a = HasDivisorsFrom (field f) (ring f) d (poly f a)

  -- ---- irreducible polynomials

  pub irreducible_of_divisors : (d : ℕ) (a : List ℕ) → IsMonicList f a → From d a → 1 ≤ degree a → degree a / 2 < d
      → IsIrreducible o a
  irreducible_of_divisors d a h k p l =
      let e = degree_poly f a h.polynomial in
      let half : degree a < 2 * d = omega arith in
      irreducible_list o L a h.polynomial
      (small_irreducible F d (poly f a) k (omega (arith, e, p)) (omega (arith, e, half)))

  pub part_irreducible : (d : ℕ) (g : List ℕ) → IsPartList f d g → 1 < length g → degree g / 2 < d → IsIrreducible o g
  part_irreducible d g h p l =
      let m = monic_part f d g h in
      let k = h.part in
      irreducible_of_divisors d g m k.divisors (omega (arith, length_monic f g m, p)) l

  -- ---- divisors

  pub length_divisor : (a b : List ℕ) → IsMonicList f a → IsMonicList f b → DividesList f b a → length b ≤ length a
  length_divisor a b ha hb d = omega (
    arith,
    degree_le_of_divides F (poly f b) (poly f a) d (monic_nonzero f a ha),
    degree_poly f a ha.polynomial,
    degree_poly f b hb.polynomial,
    length_monic f a ha,
    length_monic f b hb,
  )

  pub exact_division : (a b q r : List ℕ) → IsOver o a → Is b → IsOver o q → Is r → IsDivision o a b q r
      → DividesList f b a → poly f a ≡ P.◌⊗◌ (poly f q) (poly f b)
  exact_division a b q [] ha hb hq hr d w = quotient_value f a b q [] ha hb.over hq hr.over d refl
  exact_division a b q (y ∷ ys) ha hb hq hr d w =
      absurd (not_divides f a b q (y ∷ ys) ha hb hq hr d (λ e. let z = ap length e in omega arith) w)

  pub part_of_divisor : (d : ℕ) (g h : List ℕ) → IsPartList f d g → IsMonicList f h → DividesList f h g
      → IsPartList f d h
  part_of_divisor d g h p m w = let k = p.part in record {
    polynomial = m.polynomial;
    part = record {
      monic = m.monic;
      divisors = divisors_of_divisor F d (poly f g) (poly f h) k.divisors w;
      divides = divides_trans F (poly f h) (poly f g) (power_less F P (x f) (N.size ^ d)) w k.divides;
    };
  }

  -- a part and a proper factor of it
  module _ (d : ℕ) (g h q r : List ℕ) (part : IsPartList f d g) (mh : IsMonicList f h) (w : DividesList f h g)
      (s : length h < length g) (hq : Is q) (hr : Is r) (e : IsDivision o g h q r) where
    whole : poly f g ≡ P.◌⊗◌ (poly f q) (poly f h)
    whole = exact_division g h q r part.polynomial.over mh.polynomial hq.over hr e w

    mg : IsMonicList f g
    mg = monic_part f d g part

    mq : IsMonicList f q
    mq = monic_quotient f g h q mg mh hq whole

    pub quotient_part : IsPartList f d q
    quotient_part = part_of_divisor d g q part mq (poly f h, whole ∙ P.mul_comm (poly f q) (poly f h))

    pub quotient_not_constant : 1 < length q
    quotient_not_constant =
        omega (arith, length_quotient f g h q mg mh hq whole, length_monic f h mh, length_monic f g mg, s)

    pub quotient_shorter : 1 < length h → length q < length g
    quotient_shorter l =
        omega (arith, length_quotient f g h q mg mh hq whole, length_monic f h mh, length_monic f g mg, l)

  -- ---- steps one after the other

  pub next_trans : (a b c : List ℕ) (xs ys zs : Powers) → IsNext f a xs b ys → IsNext f b ys c zs → IsNext f a xs c zs
  next_trans a b c xs ys zs h k = record {
    work = k.work;
    whole = k.whole ∙ h.whole;
    divides = divides_trans F (poly f c) (poly f b) (poly f a) k.divides h.divides;
  }

  pub next_self : (a : List ℕ) (xs : Powers) → IsWork f a xs → IsNext f a xs a xs
  next_self a xs h = record { work = h; whole = refl; divides = divides_self F (poly f a) }

  pub next_shorter : (a b : List ℕ) (xs ys : Powers) → IsWork f a xs → IsNext f a xs b ys → length b ≤ length a
  next_shorter a b xs ys h k =
      let w = k.work in length_divisor a b h.monic w.monic k.divides

  -- ---- the factors of one degree

  -- what holds at a polynomial holds at its divisors
  pub power_of_divisor : (a b : List ℕ) (d : ℕ) (p : List ℕ) → DividesList f b a → IsVariablePower f a d p
      → IsVariablePower f b d p
  power_of_divisor a b d p w h = (
    P.◌⊗◌ h.0 w.0,
    h.1 ∙ ap (λ y. P.◌⊕◌ (poly f p) (P.◌⊗◌ h.0 y)) w.1
        ∙ ring4 P (λ p k c b. (p ⊞ k ⊠ (c ⊠ b), p ⊞ k ⊠ c ⊠ b)) refl (poly f p) h.0 w.0 (poly f b),
  )

  -- x^(q^d) − x, by the power modulo a
  difference : (a : List ℕ) (d : ℕ) (p b : List ℕ) (h : IsVariablePower f a d p)
      → poly f b ≡ P.◌⊕◌ (poly f p) (P.neg (x f))
      → power_less F P (x f) (N.size ^ d) ≡ P.◌⊕◌ (poly f b) (P.◌⊗◌ h.0 (poly f a))
  difference a d p b h e =
      ap (λ y. P.◌⊕◌ y (P.neg (x f))) h.1
      ∙ ring4 P (λ p k a t. ((p ⊞ k ⊠ a) ⊞ minus t, (p ⊞ minus t) ⊞ k ⊠ a)) refl (poly f p) h.0 (poly f a) (x f)
      ∙ ap (λ y. P.◌⊕◌ y (P.◌⊗◌ h.0 (poly f a))) (sym e)

  -- the greatest common divisor with the difference is a part
  pub gcd_part : (a : List ℕ) (d : ℕ) (p b g : List ℕ) → From d a → IsVariablePower f a d p
      → poly f b ≡ P.◌⊕◌ (poly f p) (P.neg (x f)) → IsMonicGcd f a b g → IsPartList f d g
  gcd_part a d p b g k h e c = let l = c.list in let m = c.gcd in record {
    polynomial = l.polynomial;
    part = record {
      monic = l.monic;
      divisors = divisors_of_divisor F d (poly f a) (poly f g) k m.left;
      divides = (
        P.◌⊕◌ m.right.0 (P.◌⊗◌ h.0 m.left.0),
        difference a d p b h e ∙ ap₂ (λ y z. P.◌⊕◌ y (P.◌⊗◌ h.0 z)) m.right.1 m.left.1
            ∙ ring4 P (λ r k l g. (r ⊠ g ⊞ k ⊠ (l ⊠ g), (r ⊞ k ⊠ l) ⊠ g)) refl m.right.0 h.0 m.left.0 (poly f g),
      );
    };
  }

  -- where it is a constant, there are no factors of this degree
  pub no_more_divisors : (a : List ℕ) (d : ℕ) (p b g : List ℕ) → 1 ≤ d → From d a → IsVariablePower f a d p
      → poly f b ≡ P.◌⊕◌ (poly f p) (P.neg (x f)) → IsMonicGcd f a b g → length g ≤ 1 → From (suc d) a
  no_more_divisors a d p b g one k h e c s =
      let l = c.list in
      divisors_from_next F N d (poly f a) one k
      (coprime_of_sum F (poly f a) (power_less F P (x f) (N.size ^ d)) (poly f b) h.0 (difference a d p b h e)
      (coprime_of_gcd F (poly f a) (poly f b) (poly f g) c.gcd (monic_nonzero f g l)
      (omega (arith, degree_poly f g l.polynomial, length_monic f g l, s))))

  -- ---- one degree after the other

  -- before the factors of degree d are taken
  pub record IsAtDegree (a : List ℕ) (d : ℕ) (rest : List ℕ) (list : Powers) (p : List ℕ) : Type 0 where
    pub next : IsNext f a [] rest list
    pub divisors : From d rest
    pub term : Is p
    pub power : (n : ℕ) → d ≡ suc n → IsVariablePower f rest n p
    pub positive : 1 ≤ d

  pub at_degree_one : (a p : List ℕ) (list : Powers) → IsMonicList f a → p ≡ 0 ∷ 1 ∷ [] → list ≡ []
      → IsAtDegree a 1 a list p
  at_degree_one a p list h e z = subst (λ l. IsAtDegree a 1 a l p) (sym z) record {
    next = next_self a [] record { monic = h; factors = tt; apart = tt };
    divisors = divisors_from_one F (poly f a);
    term = subst Is (sym e) (variable_list f);
    power = λ n s. let zero_is : 0 ≡ n = omega arith in subst (λ k. IsVariablePower f a k p) zero_is
        (no_power f a p (x f) (ap (poly f) e ∙ variable_value f));
    positive = omega arith;
  }

  pub power_at_degree : (a : List ℕ) (d : ℕ) (rest : List ℕ) (list : Powers) (p v : List ℕ)
      → IsAtDegree a d rest list p → IsPowerModulo f rest p (size_of f) v → IsVariablePower f rest d v
  power_at_degree a zero rest list p v h k = let l = h.positive in absurd (omega arith)
  power_at_degree a (suc n) rest list p v h k = next_power f rest p v (x f) n (h.power n refl) k

  pub at_next_degree : (a : List ℕ) (d m : ℕ) (rest : List ℕ) (list : Powers) (p v rest' : List ℕ) (list' : Powers)
      → IsAtDegree a d rest list p → IsPowerModulo f rest p (size_of f) v → Is v → IsNext f rest list rest' list'
      → From (suc d) rest' → m ≡ suc d → IsAtDegree a m rest' list' v
  at_next_degree a d m rest list p v rest' list' h k hv n t e =
      subst (λ i. IsAtDegree a i rest' list' v) (sym e) record {
        next = next_trans a rest rest' [] list list' h.next n;
        divisors = t;
        term = hv;
        power = λ i s. let same : d ≡ i = omega arith in subst (λ j. IsVariablePower f rest' j v) same
            (power_of_divisor rest rest' d v n.divides (power_at_degree a d rest list p v h k));
        positive = omega arith;
      }

  -- ---- the end

  -- a monic constant is 1
  pub one_of_short : (a : List ℕ) → IsMonicList f a → length a ≤ 1 → poly f a ≡ P.one
  one_of_short a h l =
      let m = h.monic in
      let flat : degree (poly f a).0 ≡ 0 = omega (arith, degree_poly f a h.polynomial, length_monic f a h, l) in
      eq_constant F.cring F.zero_test (poly f a) flat
      ∙ ap (constant F.cring F.zero_test)
      (ap (coefficient F.cring (poly f a)) (sym flat) ∙ m.leading)
      ∙ constant-one F.cring F.zero_test

  pub product_at_end : (a rest : List ℕ) (list : Powers) → IsNext f a [] rest list → length rest ≤ 1
      → product_of_powers f list ≡ poly f a
  product_at_end a rest list h l =
      let w = h.work in
      sym (P.mul-one (product_of_powers f list))
      ∙ ap (P.◌⊗◌ (product_of_powers f list)) (sym (one_of_short rest w.monic l))
      ∙ h.whole ∙ P.one-mul (poly f a)

  -- after the last, irreducible factor nothing is left
  pub nothing_left : (a b : List ℕ) → IsMonicList f a → IsMonicList f b → IsIrreducible o a → DividesList f b a
      → length b < length a → length b ≤ 1
  nothing_left a b ha hb i w l = ⊎_elim
      (λ (k : 1 < length b).
      let irreducible = irreducible_polynomial o L a ha.polynomial i in
      let s = degrees_of_product F (poly f a) w.0 (poly f b) (monic_nonzero f a ha) w.1 in
      let da = degree_poly f a ha.polynomial in
      let db = degree_poly f b hb.polynomial in
      let la = length_monic f a ha in
      let lb = length_monic f b hb in
      absurd (irreducible.no_factors w.0 (poly f b) (omega (arith, s, da, db, la, lb, k))
      (omega (arith, da, db, la, lb, l))
      w.1))
      (λ (k : length b ≤ 1). k)
      (cases_lt 1 (length b))
