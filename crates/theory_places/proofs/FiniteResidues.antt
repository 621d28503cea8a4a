-- The residue field of the place of a monic irreducible polynomial: the remainders.
use Rattle.std.specs.Prelude.{◌≡◌, IsTrue}
use Rattle.std.proofs.Common.{refl, sym, ◌∙◌, ap, ap₂, ⊎_elim}
use Rattle.theory_rings.specs.Ring.{FieldOn, CommRingOn}
use Rattle.theory_rings.specs.Polynomial.{Poly, IsMonic}
use Rattle.theory_rings.specs.Division.{Divides, IsIrreducible, Congruent}
use Rattle.theory_rings.specs.Homomorphism.{IsRingHom}
use Rattle.theory_rings.specs.Remainder.{Remainder, IsRemainderRing}
use Rattle.theory_rings.specs.Fraction.{IsFractionField, IsLowest, IsValue}
use Rattle.theory_rings.proofs.Rings.RingLaws.{zero-mul}
use Rattle.theory_rings.proofs.Rings.Fields.{eq-zero_of_mul-eq-zero, inv-ne-zero}
use Rattle.theory_rings.proofs.Rings.Solver.{◌⊠◌, ring3}
use Rattle.theory_rings.proofs.Polynomials.Bezout.{field_polynomials}
use Rattle.theory_rings.proofs.Polynomials.Remainders.{remainder, remainder-small, remainder_eq, congruent_of_remainder}
use Rattle.theory_rings.proofs.Polynomials.Remainders.{Remainder-path, remainder_congruent}
use Rattle.theory_rings.proofs.Polynomials.Irreducible.{irreducible_prime}
use Rattle.theory_rings.proofs.Rings.Congruences.{congruent_of_eq, congruent_sym, congruent_trans, congruent-add}
use Rattle.theory_rings.proofs.Rings.Congruences.{congruent-mul}
use Rattle.theory_rings.proofs.Rings.Homomorphisms.{map-zero}
use Rattle.theory_rings.proofs.Fractions.Fractions.{fraction_of, fraction_of_value}
use Rattle.theory_rings.proofs.Fractions.Lowest.{polynomial_reduction}
use Rattle.theory_lattices.specs.RationalFunctions.{Rational, of_polynomial}
use Rattle.theory_residue.specs.Residue.{ResidueOn}
use Rattle.theory_places.proofs.Quotients.{quotient_same, quotient_add, quotient_mul}
use Rattle.theory_places.proofs.FinitePlaces.{place, in_off, integral_of, off_mul, off_one, multiple, q_value, q}

module _ {k : Type 0} (F : FieldOn k) (Q : FieldOn (Rational F))
    (H : IsFractionField (field_polynomials F) (IsLowest F.cring (field_polynomials F)) Q)
    (m : Poly F.cring) (monic : IsMonic F.cring m) (i : IsIrreducible F.cring (field_polynomials F) m)
    (RF : FieldOn (Remainder F.cring m)) (M : IsRemainderRing F.cring m (field_polynomials F) RF.cring) where
  infixl 70 ◌⊗◌
  abbrev P : CommRingOn (Poly F.cring)
  P = field_polynomials F

  open P use {◌⊗◌}

  abbrev D : Type 0
  D = Poly F.cring

  abbrev rem : D → Remainder F.cring m
  rem = remainder F.cring F.zero_test m monic

  abbrev Is : Rational F → D → D → Type 0
  Is = IsValue P (IsLowest F.cring P)

  abbrev Off : D → Type 0
  Off v = Divides P m v → ⊥

  -- remainders that are congruent are the same
  same : (a b : Remainder F.cring m) → Congruent P m a.0 b.0 → a ≡ b
  same = Remainder-path F.cring F.zero_test m monic

  con : (u : D) → Congruent P m (rem u).0 u
  con = remainder_congruent F.cring F.zero_test m monic

  trans : (a b c : D) → Congruent P m a b → Congruent P m b c → Congruent P m a c
  trans a b c s t = congruent_trans P m a b c s t

  -- a polynomial goes to its remainder: a homomorphism, whichever ring of remainders it is
  hom : IsRingHom P.ring RF.ring rem
  hom = record {
    map-one = same (rem P.one) RF.one
        (trans (rem P.one).0 P.one RF.one.0 (con P.one) (congruent_sym P m RF.one.0 P.one M.one_mod));
    map-add = λ u v.
        let a = rem u in
        let b = rem v in
        let s = P.◌⊕◌ u v in
        let t = P.◌⊕◌ a.0 b.0 in
        let e = RF.◌⊕◌ a b in
        same (rem s) e (trans (rem s).0 s e.0 (con s) (congruent_sym P m e.0 s
        (trans e.0 t s (M.add_mod a b) (congruent-add P m a.0 u b.0 v (con u) (con v)))));
    map-mul = λ u v.
        let a = rem u in
        let b = rem v in
        let s = u ⊗ v in
        let t = a.0 ⊗ b.0 in
        let e = RF.◌⊗◌ a b in
        same (rem s) e (trans (rem s).0 s e.0 (con s) (congruent_sym P m e.0 s
        (trans e.0 t s (M.mul_mod a b) (congruent-mul P m a.0 u b.0 v (con u) (con v)))));
  }

  rem_zero : (v : D) → Divides P m v → rem v ≡ RF.zero
  rem_zero v d = remainder_eq F.cring F.zero_test m monic v P.zero (d.0, d.1 ∙ sym (P.zero-add (d.0 ⊗ m)))
      ∙ map-zero P.ring RF.ring rem hom

  zero_rem : (v : D) → rem v ≡ RF.zero → Divides P m v
  zero_rem v e =
      let c = congruent_of_remainder F.cring F.zero_test m monic v P.zero (e ∙ sym (map-zero P.ring RF.ring rem hom)) in
      (c.0, c.1 ∙ P.zero-add (c.0 ⊗ m))

  off_rem : (v : D) → Off v → rem v ≡ RF.zero → ⊥
  off_rem v o e = o (zero_rem v e)

  abbrev ratio : D → D → Remainder F.cring m
  ratio u v = RF.◌⊗◌ (rem u) (RF.inv (rem v))

  pub res : Rational F → Remainder F.cring m
  res x = ratio x.0.0 x.0.1

  abbrev In : Rational F → Type 0
  In x = IsTrue ((place F Q H m i).integral x)

  off : (x : Rational F) → In x → Off x.0.1
  unfolding place
  off x = in_off F Q H m i x

  within : (x : Rational F) (u v : D) → Is x u v → Off v → In x
  unfolding place
  within x = integral_of F Q H m i x

  res_value : (x : Rational F) (u v : D) → Is x u v → In x → Off v → res x ≡ ratio u v
  unfolding res
  res_value x u v h g o =
      quotient_same RF (rem x.0.0) (rem x.0.1) (rem u) (rem v) (off_rem x.0.1 (off x g)) (off_rem v o)
      (sym (hom.map-mul x.0.0 v) ∙ ap rem h ∙ hom.map-mul u x.0.1)

  abbrev lift : Remainder F.cring m → Rational F
  lift a = fraction_of P (IsLowest F.cring P) (polynomial_reduction F) a.0

  lift_value : (a : Remainder F.cring m) → Is (lift a) a.0 P.one
  lift_value a = fraction_of_value P (IsLowest F.cring P) (polynomial_reduction F) a.0

  o1 : Off P.one
  o1 = off_one F Q H m i

  over_one : (u : D) → ratio u P.one ≡ rem u
  over_one u = ap (λ t. RF.◌⊗◌ (rem u) (RF.inv t)) hom.map-one
      ∙ ap (RF.◌⊗◌ (rem u)) (sym (RF.mul-one (RF.inv RF.one)) ∙ RF.inv-mul RF.one RF.one-nonzero) ∙ RF.mul-one (rem u)

  to_multiple : (a : Rational F) → In a → res a ≡ RF.zero → In (Q.◌⊗◌ (q F Q H m i) a)
  unfolding res place
  to_multiple a h e = multiple F Q H m i a (off a h) (⊎_elim
      (λ (z : rem a.0.0 ≡ RF.zero). zero_rem a.0.0 z)
      (λ (z : RF.inv (rem a.0.1) ≡ RF.zero). absurd (inv-ne-zero RF (rem a.0.1) (off_rem a.0.1 (off a h)) z))
      (eq-zero_of_mul-eq-zero RF (rem a.0.0) (RF.inv (rem a.0.1)) e))

  of_multiple : (a : Rational F) → In a → In (Q.◌⊗◌ (q F Q H m i) a) → res a ≡ RF.zero
  unfolding res
  of_multiple a h g =
      let y = Q.◌⊗◌ (q F Q H m i) a in
      let e : y.0.0 ⊗ (m ⊗ a.0.1) ≡ (P.one ⊗ a.0.0) ⊗ y.0.1 =
      H.mul_value (q F Q H m i) a P.one m a.0.0 a.0.1 (q_value F Q H m i) refl in
      let d : Divides P m (a.0.0 ⊗ y.0.1) = (
        y.0.0 ⊗ a.0.1,
        ap (λ t. t ⊗ y.0.1) (sym (P.one-mul a.0.0)) ∙ sym e
            ∙ ring3 P (λ y m a. (y ⊠ (m ⊠ a), (y ⊠ a) ⊠ m)) refl y.0.0 m a.0.1,
      ) in
      let z : rem a.0.0 ≡ RF.zero =
      ⊎_elim (λ (l : Divides P m a.0.0). rem_zero a.0.0 l) (λ (l : Divides P m y.0.1). absurd (off y g l))
      (irreducible_prime F m i a.0.0 y.0.1 d) in
      ap (λ t. RF.◌⊗◌ t (RF.inv (rem a.0.1))) z ∙ zero-mul RF.ring (RF.inv (rem a.0.1))

  value_add : (a b : Rational F) → In a → In b
      → res (Q.◌⊕◌ a b) ≡ ratio (P.◌⊕◌ (a.0.0 ⊗ b.0.1) (b.0.0 ⊗ a.0.1)) (a.0.1 ⊗ b.0.1)
      → res (Q.◌⊕◌ a b) ≡ RF.◌⊕◌ (res a) (res b)
  unfolding res
  value_add a b h g e = e
      ∙ ap₂ (λ s t. RF.◌⊗◌ s (RF.inv t))
      (hom.map-add (a.0.0 ⊗ b.0.1) (b.0.0 ⊗ a.0.1)
      ∙ ap₂ RF.◌⊕◌ (hom.map-mul a.0.0 b.0.1) (hom.map-mul b.0.0 a.0.1)) (hom.map-mul a.0.1 b.0.1)
      ∙ quotient_add RF (rem a.0.0) (rem a.0.1) (rem b.0.0) (rem b.0.1) (off_rem a.0.1 (off a h))
      (off_rem b.0.1 (off b g))

  value_mul : (a b : Rational F) → In a → In b → res (Q.◌⊗◌ a b) ≡ ratio (a.0.0 ⊗ b.0.0) (a.0.1 ⊗ b.0.1)
      → res (Q.◌⊗◌ a b) ≡ RF.◌⊗◌ (res a) (res b)
  unfolding res
  value_mul a b h g e = e
      ∙ ap₂ (λ s t. RF.◌⊗◌ s (RF.inv t)) (hom.map-mul a.0.0 b.0.0) (hom.map-mul a.0.1 b.0.1)
      ∙ quotient_mul RF (rem a.0.0) (rem a.0.1) (rem b.0.0) (rem b.0.1) (off_rem a.0.1 (off a h))
      (off_rem b.0.1 (off b g))

  pub finite_residue : ResidueOn Q (place F Q H m i) (q F Q H m i) RF
  finite_residue = record {
    res = res;
    lift = lift;
    lift_in = λ a. within (lift a) a.0 P.one (lift_value a) o1;
    res-lift = λ a. res_value (lift a) a.0 P.one (lift_value a) (within (lift a) a.0 P.one (lift_value a) o1) o1
        ∙ over_one a.0 ∙ remainder-small F.cring F.zero_test m monic a;
    map-one = res_value Q.one P.one P.one H.one_value (within Q.one P.one P.one H.one_value o1) o1 ∙ over_one P.one
        ∙ hom.map-one;
    map-add = λ a b h g.
        let u = P.◌⊕◌ (a.0.0 ⊗ b.0.1) (b.0.0 ⊗ a.0.1) in
        let v = a.0.1 ⊗ b.0.1 in
        let o = off_mul F Q H m i a.0.1 b.0.1 (off a h) (off b g) in
        let e = H.add_value a b a.0.0 a.0.1 b.0.0 b.0.1 refl refl in
        value_add a b h g (res_value (Q.◌⊕◌ a b) u v e (within (Q.◌⊕◌ a b) u v e o) o);
    map-mul = λ a b h g.
        let u = a.0.0 ⊗ b.0.0 in
        let v = a.0.1 ⊗ b.0.1 in
        let o = off_mul F Q H m i a.0.1 b.0.1 (off a h) (off b g) in
        let e = H.mul_value a b a.0.0 a.0.1 b.0.0 b.0.1 refl refl in
        value_mul a b h g (res_value (Q.◌⊗◌ a b) u v e (within (Q.◌⊗◌ a b) u v e o) o);
    kernel = λ a h. (to_multiple a h, of_multiple a h);
  }

  -- a polynomial goes to its remainder
  pub finite_residue-of : (u : D) → Congruent P m (finite_residue.res (of_polynomial F u)).0 u
  unfolding finite_residue
  finite_residue-of u =
      let x = of_polynomial F u in
      let e : Is x u P.one = fraction_of_value P (IsLowest F.cring P) (polynomial_reduction F) u in
      let r : res x ≡ rem u = res_value x u P.one e (within x u P.one e o1) o1 ∙ over_one u in
      trans (res x).0 (rem u).0 u (congruent_of_eq P m (res x).0 (rem u).0 (ap (λ (t : Remainder F.cring m). t.0) r))
      (con u)
