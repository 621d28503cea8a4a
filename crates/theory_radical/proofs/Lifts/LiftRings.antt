-- What follows for a lift ring: elements agree modulo p where their residues do, and of the multiples of 1 by numbers
-- below p^n only 0 is a multiple of p^n.
use Rattle.std.specs.Prelude.{◌≡◌, ◌≢◌, ℕ, zero, suc, ◌*◌, ◌/◌, ◌^◌, ◌<◌, ◌≤◌}
use Rattle.std.specs.Int.{◌∣◌}
use Rattle.std.proofs.Common.{sym, ◌∙◌, ap, ap₂, subst, arith, ⊎_elim}
use Rattle.std.proofs.lemmas.Bool.{cases_lt}
use Rattle.std.proofs.lemmas.Nat.Gcd.{le_of_dvd}
use Rattle.std.proofs.Math.Nat.{one-dvd, pow-zero, pow-suc, mul-div_cancel', mul-dvd-mul_left}
use Rattle.theory_rings.specs.Ring.{CommRingOn}
use Rattle.theory_rings.specs.Power.{times}
use Rattle.theory_rings.specs.Prime.{IsPrime}
use Rattle.theory_rings.proofs.Rings.RingLaws.{add-zero, add-neg}
use Rattle.theory_rings.specs.Homomorphism.{IsRingHom}
use Rattle.theory_rings.proofs.Rings.Homomorphisms.{map-zero, map-neg, comp_hom}
use Rattle.theory_rings.proofs.Powers.Times.{one-times, add-times, mul-times, map-times, times_char}
use Rattle.theory_rings.proofs.Numbers.ClosedSets.{IsClosed}
use Rattle.theory_rings.proofs.Numbers.Divisibility.{dvd_or_not}
use Rattle.theory_rings.proofs.Numbers.Primes.{IsPrime-one_mem}
use Rattle.theory_radical.specs.Congruence.{MultipleOf, CongruentMod}
use Rattle.theory_radical.specs.LiftRing.{IsLiftRing}
use Rattle.theory_radical.specs.LiftLaws.{IsBijective, IsomorphicLiftRings}
use Rattle.theory_radical.proofs.Words.Multiples.{multiple_of_pow_le}

module _ {K W : Type 0} (S : CommRingOn K) (R : CommRingOn W) (p n : ℕ) (down : W → K)
    (L : IsLiftRing S R p n down) where
  -- a representative of a residue
  abbrev pub up : K → W
  up x = (L.onto x).0

  pub down-up : (x : K) → down (up x) ≡ x
  down-up x = (L.onto x).1

  pub down-zero : down R.zero ≡ S.zero
  down-zero = map-zero R.ring S.ring down L.homomorphism

  pub down-times : (k : ℕ) (y : W) → down (times R.monoid k y) ≡ times S.monoid k (down y)
  down-times k y = map-times R.monoid S.monoid down down-zero L.homomorphism.map-add k y

  pub down_multiple : (y : W) → MultipleOf R.monoid p y → down y ≡ S.zero
  down_multiple y h = ap down h.is ∙ down-times p h.part ∙ times_char S.ring p L.characteristic (down h.part)

  -- elements with one residue agree modulo p
  pub congruent_of_down : (x y : W) → down x ≡ down y → CongruentMod R.monoid p x y
  congruent_of_down x y e =
      let k = L.kernel (R.◌⊕◌ x (R.neg y))
      (L.homomorphism.map-add x (R.neg y) ∙ ap₂ S.◌⊕◌ e (map-neg R.ring S.ring down L.homomorphism y)
      ∙ add-neg S.additive (down y)) in
      record {
        part = k.part;
        is = sym (ap (R.◌⊕◌ y) (sym k.is) ∙ R.add_comm y (R.◌⊕◌ x (R.neg y)) ∙ R.add_assoc x (R.neg y) y
            ∙ ap (R.◌⊕◌ x) (R.neg-add y) ∙ add-zero R.monoid x);
      }

  module _ (prime : IsPrime p) (one-nonzero : S.one ≢ S.zero) where
    killing_closed : IsClosed (λ k. times S.monoid k S.one ≡ S.zero)
    killing_closed = record {
      sums = λ a b x y. add-times S.monoid a b S.one ∙ ap₂ S.◌⊕◌ x y ∙ S.zero-add S.zero;
      differences = λ a b x y. sym (S.zero-add (times S.monoid b S.one))
          ∙ ap (λ z. S.◌⊕◌ z (times S.monoid b S.one)) (sym x) ∙ sym (add-times S.monoid a b S.one) ∙ y;
    }

    -- p divides the numbers that are 0 in S
    dvd_of_times-one : (k : ℕ) → times S.monoid k S.one ≡ S.zero → p ∣ k
    dvd_of_times-one k e = ⊎_elim (λ (d : p ∣ k). d)
        (λ (d : p ∣ k → ⊥). absurd (one-nonzero (sym (one-times S.monoid S.one)
        ∙ IsPrime-one_mem p prime (λ k. times S.monoid k S.one ≡ S.zero) killing_closed L.characteristic k e d)))
        (dvd_or_not p k)

    pow_dvd : (r : ℕ) → MultipleOf R.monoid (p ^ n) (times R.monoid r R.one) → (i : ℕ) → i ≤ n → p ^ i ∣ r
    pow_dvd r h zero l = subst (λ k. k ∣ r) (sym (pow-zero p)) (one-dvd r)
    pow_dvd r h (suc i) l =
        let d = pow_dvd r h i (omega arith) in
        let u = r / p ^ i in
        let e : p ^ i * u ≡ r = mul-div_cancel' (p ^ i) d in
        let y = times R.monoid u R.one in
        let same : times R.monoid r R.one ≡ times R.monoid (p ^ i) y = ap (λ k. times R.monoid k R.one) (sym e)
        ∙ mul-times R.monoid (p ^ i) u R.one in
        let m : MultipleOf R.monoid (p ^ suc i) (times R.monoid (p ^ i) y) =
        subst (MultipleOf R.monoid (p ^ suc i)) same
        (multiple_of_pow_le R.monoid p (suc i) n (times R.monoid r R.one) l h) in
        let z : times S.monoid u S.one ≡ S.zero = ap (times S.monoid u) (sym L.homomorphism.map-one)
        ∙ sym (down-times u R.one)
        ∙ down_multiple y (L.cancels i (omega arith) y m) in
        subst (λ k. k ∣ r) (sym (pow-suc p i))
        (subst (λ k. p ^ i * p ∣ k) e (mul-dvd-mul_left p (p ^ i) (dvd_of_times-one u z)))

    -- of the multiples of 1 by numbers below p^n only 0 is a multiple of p^n
    pub times-one_exact : (r : ℕ) → r < p ^ n → MultipleOf R.monoid (p ^ n) (times R.monoid r R.one) → r ≡ 0
    times-one_exact r l h = ⊎_elim
        (λ (g : 0 < r). let d = le_of_dvd g (pow_dvd r h n (omega arith)) in absurd (omega arith))
        (λ (g : r ≤ 0). omega arith) (cases_lt 0 r)

-- lift rings by isomorphisms
module _ {K W K' W' : Type 0} (S : CommRingOn K) (R : CommRingOn W) (S' : CommRingOn K') (R' : CommRingOn W') where
  -- a multiple in an isomorphic ring
  multiple_of_iso : (g : W' → W) → IsRingHom R'.ring R.ring g → IsBijective g → (q : ℕ) (y : W')
      → MultipleOf R.monoid q (g y) → MultipleOf R'.monoid q y
  multiple_of_iso g G bi q y h =
      let z = bi.surjective h.part in
      record {
        part = z.0;
        is = bi.injective y (times R'.monoid q z.0) (h.is ∙ ap (times R.monoid q) (sym z.1)
            ∙ sym (map-times R'.monoid R.monoid g (map-zero R'.ring R.ring g G) G.map-add q z.0));
      }

  map_multiple : (g : W' → W) → IsRingHom R'.ring R.ring g → (q : ℕ) (y : W') → MultipleOf R'.monoid q y
      → MultipleOf R.monoid q (g y)
  map_multiple g G q y h =
      record {
        part = g h.part;
        is = ap g h.is
            ∙ map-times R'.monoid R.monoid g (map-zero R'.ring R.ring g G) G.map-add q h.part;
      }

  pub isomorphic_lift_rings : IsomorphicLiftRings S R S' R'
  isomorphic_lift_rings p n down L h H bh g G bg = record {
    homomorphism = comp_hom R'.ring R.ring S'.ring g (λ y. h (down y)) G
        (comp_hom R.ring S.ring S'.ring down h L.homomorphism H);
    onto = λ x.
        let a = bh.surjective x in
        let b = L.onto a.0 in
        let c = bg.surjective b.0 in
        (c.0, ap (λ y. h (down y)) c.1 ∙ ap h b.1 ∙ a.1);
    kernel = λ y e. multiple_of_iso g G bg p y
        (L.kernel (g y) (bh.injective (down (g y)) S.zero (e ∙ sym (map-zero S.ring S'.ring h H))));
    characteristic = ap (times S'.monoid p) (sym H.map-one)
        ∙ sym (map-times S.monoid S'.monoid h (map-zero S.ring S'.ring h H) H.map-add p S.one)
        ∙ ap h L.characteristic ∙ map-zero S.ring S'.ring h H;
    cancels = λ i l y m. multiple_of_iso g G bg p y (L.cancels i l (g y)
        (subst (MultipleOf R.monoid (p ^ suc i))
        (map-times R'.monoid R.monoid g (map-zero R'.ring R.ring g G) G.map-add (p ^ i) y)
        (map_multiple g G (p ^ suc i) (times R'.monoid (p ^ i) y) m)));
  }
