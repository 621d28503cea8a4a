-- The residue field F_q[x]/(π) is a field where π is irreducible; it is finite, and each element has a p-th root.
use Rattle.std.specs.Prelude.{◌≡◌, ℕ, ◌+◌, ◌*◌, zero, suc, ◌/◌, ◌^◌, ◌≤◌, List, length}
use Rattle.std.specs.Int.{◌∣◌}
use Rattle.std.proofs.Common.{sym, ◌∙◌, ap, subst, arith}
use Rattle.std.proofs.Math.Nat.{pow-zero, pow-suc}
use Rattle.std.proofs.lemmas.Nat.{pow-add}
use Rattle.std.proofs.lemmas.Nat.Gcd.{dvd_trans}
use Rattle.theory_rings.specs.Ring.{CommRingOn, FieldOn}
use Rattle.theory_rings.specs.Ops.{Ops, FieldLaws}
use Rattle.theory_rings.specs.Elements.{Elem, elements}
use Rattle.theory_rings.specs.Power.{power}
use Rattle.theory_rings.specs.Enumerated.{Enumerated}
use Rattle.theory_rings.specs.FieldByDigits.{IsFieldByDigits}
use Rattle.theory_rings.specs.Polynomial.{Poly, degree, IsMonic, IsPolynomialRing}
use Rattle.theory_rings.specs.Division.{IsIrreducible}
use Rattle.theory_rings.specs.Remainder.{Remainder, IsRemainderRing}
use Rattle.theory_rings.proofs.Polynomials.Uniqueness.{for_polynomials}
use Rattle.theory_rings.proofs.Polynomials.Remainders.{is_remainder_ring}
use Rattle.theory_rings.proofs.Polynomials.Irreducible.{remainder_field}
use Rattle.theory_rings.proofs.FiniteFields.FiniteFields.{root_by_power}
use Rattle.theory_rings.proofs.FiniteFields.ElementsByDigits.{enumerated_by_digits, size-by_digits}
use Rattle.theory_radical.specs.LiftRing.{HasRoots}
use Rattle.theory_radical.proofs.Lifts.TowerFields.{remainder_numbers, size-remainder_numbers, dvd-pow}
use Rattle.theory_radical.proofs.Lifts.RemainderLifts.{degree-pos_of_nontrivial}

-- a power of a power
pub pow_of_pow : (a d e : ℕ) → (a ^ d) ^ e ≡ a ^ (d * e)
pow_of_pow a d zero = pow-zero (a ^ d) ∙ sym (let h : d * 0 ≡ 0 = omega arith in ap (λ k. a ^ k) h ∙ pow-zero a)
pow_of_pow a d (suc e) = pow-suc (a ^ d) e ∙ ap (λ x. x * a ^ d) (pow_of_pow a d e) ∙ sym (pow-add a (d * e) d)
    ∙ (let h : d * e + d ≡ d * suc e = omega arith in ap (λ k. a ^ k) h)

-- a field with the ring of the remainders, where the polynomial is irreducible
pub residue_field : {K : Type 0} (F : FieldOn K) (π : Poly F.cring) → IsMonic F.cring π
    → (P : CommRingOn (Poly F.cring)) → IsPolynomialRing F.cring P
    → IsIrreducible F.cring P π → (E : FieldOn (Remainder F.cring π)) × IsRemainderRing F.cring π P E.cring
residue_field F π monic = for_polynomials F.cring F.zero_test
    (λ P. IsIrreducible F.cring P π → (E : FieldOn (Remainder F.cring π)) × IsRemainderRing F.cring π P E.cring)
    (λ i. (remainder_field F π monic i, is_remainder_ring F.cring F.zero_test π monic))

module _ (p : ℕ) (two_le : 2 ≤ p) (m : List ℕ) (d : 1 ≤ length m) (o : Ops ℕ) (D : IsFieldByDigits p m o)
    (L : FieldLaws o)
    (π : Poly (elements o L).cring) (monic : IsMonic (elements o L).cring π)
    (F : FieldOn (Remainder (elements o L).cring π)) where
  abbrev E : FieldOn (Elem o)
  E = elements o L

  abbrev X : Enumerated (Elem o)
  X = enumerated_by_digits p two_le m d o D

  pub residues : Enumerated (Remainder E.cring π)
  residues = remainder_numbers E.cring E.zero_test π monic X

  pub size-residues : residues.size ≡ (p ^ length m) ^ degree π.0
  unfolding residues
  size-residues = size-remainder_numbers E.cring E.zero_test π monic X
      ∙ ap (λ j. j ^ degree π.0) (size-by_digits p two_le m d o D)

  dvd_size : p ∣ residues.size
  dvd_size =
      let q = p ^ length m in
      let a : p ∣ q = dvd-pow p (length m) d in
      let b : q ∣ q ^ degree π.0 = dvd-pow q (degree π.0)
      (degree-pos_of_nontrivial E.cring E.zero_test π monic F.cring F.one-nonzero) in
      subst (λ j. p ∣ j) (sym size-residues) (dvd_trans p a b)

  pub residue_roots : HasRoots F.ring p
  residue_roots = record {
    root = λ a. power F.ring a (residues.size / p);
    power-root = λ a. root_by_power F residues p a dvd_size;
  }
