-- The steps of a trace modulo a polynomial.
use Rattle.std.specs.Prelude.{◌≡◌, ℕ, zero, suc, ◌^◌, ◌<◌, ◌≤◌, List, length}
use Rattle.std.proofs.Common.{refl, sym, ◌∙◌, ap, subst, arith}
use Rattle.std.proofs.Math.Nat.{pow-zero, pow-suc}
use Rattle.theory_rings.specs.Ring.{FieldOn, CommRingOn}
use Rattle.theory_rings.specs.Elements.{Elem}
use Rattle.theory_rings.specs.Enumerated.{Enumerated}
use Rattle.theory_rings.specs.Power.{power}
use Rattle.theory_rings.specs.Polynomial.{Poly}
use Rattle.theory_rings.specs.Division.{Congruent}
use Rattle.theory_rings.proofs.Powers.Powers.{power_first, power-power}
use Rattle.theory_rings.proofs.Rings.Congruences.{congruent_of_eq, congruent_trans, congruent-add}
use Rattle.theory_fractions.specs.PolynomialLists.{IsSum, IsPolynomialList}
use Rattle.theory_factors.specs.Parts.{frobenius_trace}
use Rattle.theory_factors.proofs.Traces.{power_congruent}
use Rattle.theory_remainders.proofs.Divisions.{poly-sum}
use Rattle.spl_field.specs.SmallField.{small_ops, small_laws, size_of}
use Rattle.spl_field.specs.declared.small.SmallField.{SmallField}
use Rattle.spl_residue.proofs.Numbers.{small_numbers, size-small_numbers}
use Rattle.spl_factor.specs.Steps.{field, ring, poly, IsPowerModulo, IsTraceModulo}
use Rattle.spl_factor.proofs.Values.{sum_shorter}

module _ (f : SmallField) where
  abbrev F : FieldOn (Elem (small_ops f))
  F = field f

  abbrev P : CommRingOn (Poly (field f).cring)
  P = ring f

  abbrev N : Enumerated (Elem (small_ops f))
  N = small_numbers f

  abbrev Is : List ℕ → Type 0
  Is = IsPolynomialList (small_ops f)

  -- the q-th power of the power with exponent q^i
  pub next_power : (m w v : List ℕ) (Y : Poly F.cring) (i : ℕ)
      → Congruent P (poly f m) (power P.ring Y (N.size ^ i)) (poly f w) → IsPowerModulo f m w (size_of f) v
      → Congruent P (poly f m) (power P.ring Y (N.size ^ suc i)) (poly f v)
  next_power m w v Y i h k =
      let M : Poly F.cring = poly f m in
      congruent_trans P M (power P.ring Y (N.size ^ suc i)) (power P.ring (poly f w) N.size) (poly f v)
      (subst (λ z. Congruent P M z (power P.ring (poly f w) N.size))
      (power-power P.ring Y (N.size ^ i) N.size ∙ ap (power P.ring Y) (sym (pow-suc N.size i)))
      (power_congruent F N M (power P.ring Y (N.size ^ i)) (poly f w) h N.size))
      (subst (λ n. Congruent P M (power P.ring (poly f w) n) (poly f v)) (sym (size-small_numbers f)) k)

  pub no_power : (m w : List ℕ) (Y : Poly F.cring) → poly f w ≡ Y
      → Congruent P (poly f m) (power P.ring Y (N.size ^ 0)) (poly f w)
  no_power m w Y e = congruent_of_eq P (poly f m) (power P.ring Y (N.size ^ 0)) (poly f w)
      (ap (power P.ring Y) (pow-zero N.size) ∙ power_first P.ring Y ∙ sym e)

  module _ (m z : List ℕ) where
    -- w is the last term and t the sum of the first i terms
    pub record AreTerms (i : ℕ) (w t : List ℕ) : Type 0 where
      pub term : Is w
      pub total : Is t
      pub smaller : length t < length m
      pub power : (n : ℕ) → i ≡ suc n → IsPowerModulo f m z (N.size ^ n) w
      pub trace : IsTraceModulo f m i z t

    pub first_term : (w t : List ℕ) → Is w → Is t → w ≡ z → t ≡ z → length z < length m → AreTerms 1 w t
    first_term w t hw ht ew et l = record {
      term = hw;
      total = ht;
      smaller = subst (λ y. length y < length m) (sym et) l;
      power = λ n e. let zero_is : 0 ≡ n = omega arith in subst (λ k. IsPowerModulo f m z (N.size ^ k) w) zero_is
          (no_power m w (poly f z) (ap (poly f) ew));
      trace = congruent_of_eq P (poly f m) (frobenius_trace F N P (poly f z) 1) (poly f t)
          (P.zero-add (power P.ring (poly f z) (N.size ^ 0)) ∙ ap (power P.ring (poly f z)) (pow-zero N.size)
          ∙ power_first P.ring (poly f z) ∙ ap (poly f) (sym et));
    }

    pub next_term : (i : ℕ) (w t v s : List ℕ) → 1 ≤ i → AreTerms i w t → Is v → length v < length m
        → IsPowerModulo f m w (size_of f) v → Is s → IsSum (small_ops f) t v s → AreTerms (suc i) v s
    next_term zero w t v s one h hv lv p hs e = absurd (omega arith)
    next_term (suc n) w t v s one h hv lv p hs e = record {
      term = hv;
      total = hs;
      smaller = sum_shorter f t v s (length m) h.total hv hs e h.smaller lv;
      power = λ k q. let same : suc n ≡ k = omega arith in subst (λ j. IsPowerModulo f m z (N.size ^ j) v) same last;
      trace = subst (Congruent P (poly f m) (frobenius_trace F N P (poly f z) (suc (suc n))))
          (sym (poly-sum (small_ops f) (small_laws f) t v s h.total.over hv.over hs.over e))
          (congruent-add P (poly f m) (frobenius_trace F N P (poly f z) (suc n)) (poly f t)
          (power P.ring (poly f z) (N.size ^ suc n)) (poly f v) h.trace last);
    }
      where
        last : IsPowerModulo f m z (N.size ^ suc n) v
        last = next_power m w v (poly f z) n (h.power n refl) p
