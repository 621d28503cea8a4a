-- The integers modulo p^n are a lift ring of those modulo p.
use Rattle.std.specs.Prelude.{◌≡◌, ℕ, zero, suc, ◌+◌, ◌-◌, ◌*◌, ◌/◌, ◌%◌, ◌^◌, ◌<◌, ◌≤◌}
use Rattle.std.specs.Int.{◌∣◌}
use Rattle.std.proofs.Common.{sym, ◌∙◌, ap, subst, arith, mul_assoc}
use Rattle.std.proofs.lemmas.Nat.{pow-add}
use Rattle.std.proofs.lemmas.Nat.Gcd.{dvd_of_mod-eq-zero}
use Rattle.std.proofs.Math.Nat.{mod-mod_of_dvd, mod-eq_of_lt, mul-mod_right, mod_self, dvd-mul_right, mul-div_cancel'}
use Rattle.std.proofs.Math.Nat.{eq_of_mul-eq-mul_left, pow-suc, pow-zero, one-le-pow, pow-le-pow_right}
use Rattle.theory_rings.specs.Ring.{CommRingOn}
use Rattle.theory_rings.specs.Power.{times}
use Rattle.theory_rings.specs.Naturals.{nat_monoid}
use Rattle.theory_rings.specs.IntegersMod.{Fin, Fin-path, value-lt, residue, integers_mod}
use Rattle.theory_rings.proofs.Sums.NaturalSums.{sum_const}
use Rattle.theory_rings.proofs.Powers.Times.{map-times}
use Rattle.theory_rings.proofs.Numbers.IntegersMod.{residue_eq, residue-value, residue-zero, residue-one, residue-add}
use Rattle.theory_rings.proofs.Numbers.IntegersMod.{residue-mul}
use Rattle.theory_radical.specs.Congruence.{MultipleOf}
use Rattle.theory_radical.specs.LiftRing.{IsLiftRing}

-- the residue of a multiple
pub times-residue : (n : ℕ) (two_le : 2 ≤ n) (k a : ℕ)
    → times (integers_mod n two_le).monoid k (residue n two_le a) ≡ residue n two_le (k * a)
times-residue n two_le k a =
    sym (map-times nat_monoid (integers_mod n two_le).monoid (residue n two_le) (residue-zero n two_le)
    (residue-add n two_le) k a)
    ∙ ap (residue n two_le) (sum_const k a)

module _ (p n : ℕ) (two_le : 2 ≤ p) (two_le_pow : 2 ≤ p ^ n) where
  abbrev S : CommRingOn (Fin p)
  S = integers_mod p two_le

  abbrev R : CommRingOn (Fin (p ^ n))
  R = integers_mod (p ^ n) two_le_pow

  exponent-pos : 1 ≤ n
  exponent-pos = go n two_le_pow
    where
      go : (k : ℕ) → 2 ≤ p ^ k → 1 ≤ k
      go zero h = let e = pow-zero p in absurd (omega arith)
      go (suc k) h = omega arith

  pow_dvd : (i : ℕ) → i ≤ n → p ^ i ∣ p ^ n
  pow_dvd i l = let e : i + (n - i) ≡ n = omega arith in
      subst (λ k. p ^ i ∣ k) (sym (pow-add p i (n - i)) ∙ ap (λ k. p ^ k) e) (dvd-mul_right (p ^ i) (p ^ (n - i)))

  p_dvd : p ∣ p ^ n
  p_dvd = let e : 1 + (n - 1) ≡ n = (let h = exponent-pos in omega arith) in
      subst (λ k. k ∣ p ^ n) (pow-suc p 0 ∙ ap (λ k. k * p) (pow-zero p) ∙ (let f : 1 * p ≡ p = omega arith in f))
      (pow_dvd 1 exponent-pos)

  -- the residue of a residue
  abbrev pub reduce : Fin (p ^ n) → Fin p
  reduce y = residue p two_le y.0

  pub reduce-residue : (a : ℕ) → reduce (residue (p ^ n) two_le_pow a) ≡ residue p two_le a
  reduce-residue a = residue_eq p two_le (a % p ^ n) a (mod-mod_of_dvd p a p_dvd)

  -- the number itself, as a residue modulo p^n
  abbrev pub raise_residue : Fin p → Fin (p ^ n)
  raise_residue x = residue (p ^ n) two_le_pow x.0

  pub reduce-raise : (x : Fin p) → reduce (raise_residue x) ≡ x
  reduce-raise x = reduce-residue x.0 ∙ residue-value p two_le x

  pub value-raise : (x : Fin p) → (raise_residue x).0 ≡ x.0
  value-raise x =
      let l = value-lt p x in
      let h : p ^ 1 ≤ p ^ n = pow-le-pow_right (omega arith) exponent-pos in
      let e : p ^ 1 ≡ p = pow-suc p 0 ∙ ap (λ k. k * p) (pow-zero p) ∙ (let f : 1 * p ≡ p = omega arith in f) in
      mod-eq_of_lt (omega arith)

  multiple_of_dvd : (y : Fin (p ^ n)) → p ∣ y.0 → MultipleOf R.monoid p y
  multiple_of_dvd y d = record {
    part = residue (p ^ n) two_le_pow (y.0 / p);
    is = sym (times-residue (p ^ n) two_le_pow p (y.0 / p) ∙ ap (residue (p ^ n) two_le_pow) (mul-div_cancel' p d)
        ∙ residue-value (p ^ n) two_le_pow y);
  }

  value-times : (k : ℕ) (y : Fin (p ^ n)) → (times R.monoid k y).0 ≡ (k * y.0) % p ^ n
  value-times k y = ap (λ (z : Fin (p ^ n)). (times R.monoid k z).0) (sym (residue-value (p ^ n) two_le_pow y))
      ∙ ap (λ (z : Fin (p ^ n)). z.0) (times-residue (p ^ n) two_le_pow k y.0)

  -- p^i·y is a multiple of p^(i + 1) only where y is one of p
  cancelled : (i : ℕ) → i < n → (y z : Fin (p ^ n)) → times R.monoid (p ^ i) y ≡ times R.monoid (p ^ suc i) z → p ∣ y.0
  cancelled i l y z e =
      let q = p ^ suc i in
      let h : q ∣ p ^ n = pow_dvd (suc i) l in
      let m : (p ^ i * y.0) % p ^ n ≡ (q * z.0) % p ^ n = sym (value-times (p ^ i) y)
      ∙ ap (λ (w : Fin (p ^ n)). w.0) e ∙ value-times q z in
      let zero_mod : (p ^ i * y.0) % q ≡ 0 = sym (mod-mod_of_dvd q (p ^ i * y.0) h) ∙ ap (λ k. k % q) m
      ∙ mod-mod_of_dvd q (q * z.0) h ∙ mul-mod_right q z.0 in
      let d : q ∣ p ^ i * y.0 = dvd_of_mod-eq-zero q zero_mod in
      let k = p ^ i * y.0 / q in
      let whole : p ^ i * (p * k) ≡ p ^ i * y.0 = sym (mul_assoc (p ^ i) p k) ∙ ap (λ j. j * k) (sym (pow-suc p i))
      ∙ mul-div_cancel' q d in
      let pos : 0 < p ^ i = (let o = one-le-pow i p (omega arith) in omega arith) in
      subst (λ j. p ∣ j) (eq_of_mul-eq-mul_left (p ^ i) pos (p * k) y.0 whole) (dvd-mul_right p k)

  pub integers_lift : IsLiftRing S R p n reduce
  integers_lift = record {
    homomorphism = record {
      map-one = residue-one p two_le;
      map-add = λ a b. reduce-residue (a.0 + b.0) ∙ residue-add p two_le a.0 b.0;
      map-mul = λ a b. reduce-residue (a.0 * b.0) ∙ residue-mul p two_le a.0 b.0;
    };
    onto = λ x. (raise_residue x, reduce-raise x);
    kernel = λ y e. multiple_of_dvd y (dvd_of_mod-eq-zero p (ap (λ (z : Fin p). z.0) e));
    characteristic = ap (times S.monoid p) (sym (residue-one p two_le)) ∙ times-residue p two_le p 1
        ∙ (let f : p * 1 ≡ p = omega arith in ap (residue p two_le) f)
        ∙ Fin-path p (residue p two_le p) S.zero (mod_self p);
    cancels = λ i l y h. multiple_of_dvd y (cancelled i l y h.part h.is);
  }

  -- p^n is 0
  pub times-modulus : (y : Fin (p ^ n)) → times R.monoid (p ^ n) y ≡ R.zero
  times-modulus y = Fin-path (p ^ n) (times R.monoid (p ^ n) y) R.zero
      (value-times (p ^ n) y ∙ mul-mod_right (p ^ n) y.0)
