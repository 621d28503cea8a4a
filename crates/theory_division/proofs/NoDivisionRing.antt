-- No division ring of dimension 2 to 36 has a finite field as its centre: the value of a cyclotomic polynomial divides
-- the number of its elements but 0, and the size of each class outside the centre, so it divides what is left, and is
-- greater.
use Rattle.std.specs.Prelude.{◌≡◌, ℕ, zero, suc, pred, ◌+◌, ◌*◌, ◌^◌, ◌<◌, ◌≤◌, Bool, true, false, ◌&&◌, not, eqb}
use Rattle.std.specs.Int.{◌∣◌}
use Rattle.std.proofs.Common.{refl, sym, ◌∙◌, ap, ap₂, subst, subst₂, arith, ⊎_elim, mul_comm, one-mul}
use Rattle.std.proofs.Common.{zero-mul as nat_zero-mul}
use Rattle.std.proofs.Math.Nat.{dvd-add, dvd-add_iff_right, dvd-mul_left, dvd-mul_right, dvd-mul_right_of_dvd}
use Rattle.std.proofs.Math.Nat.{dvd_of_mul-dvd-mul_right, one-dvd, add_comm}
use Rattle.std.proofs.lemmas.Nat.Gcd.{dvd-zero, le_of_dvd}
use Rattle.std.proofs.Math.Bool.{true≢false}
use Rattle.std.proofs.lemmas.Bool.{cases_lt, eq-eqb, eqb-true}
use Rattle.theory_rings.specs.Ring.{FieldOn}
use Rattle.theory_rings.specs.Sum.{sum}
use Rattle.theory_rings.specs.Naturals.{nat_monoid}
use Rattle.theory_rings.specs.Enumerated.{Enumerated}
use Rattle.theory_rings.proofs.Rings.RingLaws.{mul-zero, zero-mul}
use Rattle.theory_rings.proofs.Rings.ZeroTests.{eq_zero_or}
use Rattle.theory_spaces.specs.Module.{ModuleOn, AlgebraOn, module_of}
use Rattle.theory_spaces.specs.Linear.{comb, InSpan, Independent, IsSubmodule, Basis}
use Rattle.theory_spaces.specs.Algebra.{Central}
use Rattle.theory_spaces.proofs.Linear.Modules.{scale-zero, comb_in, independent_none}
use Rattle.theory_spaces.proofs.Linear.Spaces.{coords_of, Grown, grow}
use Rattle.theory_spaces.proofs.Linear.IndependentVectors.{Independent-at_most}
use Rattle.theory_division.specs.Cyclotomic.{cyclotomic, value}
use Rattle.theory_division.specs.Counting.{one_if, count}
use Rattle.theory_division.specs.Group.{GroupOn, centralizer_order, class_order, is_central, is_first}
use Rattle.theory_division.specs.DivisionRing.{HasLeftInverses}
use Rattle.theory_division.proofs.PowersLessOne.{less, power-less, less_lt_less, less-zero, less-one, dvd_of_less-mul}
use Rattle.theory_division.proofs.CyclotomicValues.{cyclotomic-large, less-parts}
use Rattle.theory_division.proofs.Counts.{bool_iff, same-eq, eq-same, count_congr, count_all, all_of_count}
use Rattle.theory_division.proofs.Groups.{orbit_stabilizer}
use Rattle.theory_division.proofs.ClassEquation.{class_equation}
use Rattle.theory_division.proofs.Members.{count_of_span, numbered}
use Rattle.theory_division.proofs.Units.{Unit_of, units, unit_members, units-size, count_units, commutes}
use Rattle.theory_division.proofs.Units.{count_centralizer}

-- what divides each term divides the sum
dvd-sum : (p n : ℕ) (f : ℕ → ℕ) → ((i : ℕ) → i < n → p ∣ f i) → p ∣ sum nat_monoid n f
dvd-sum p zero f h = dvd-zero p
dvd-sum p (suc n) f h = dvd-add p (dvd-sum p n f (λ i l. h i (omega arith))) (h n (omega arith))

-- where N is c times l, and l times p times k, p divides c
dvd_of_parts : (p l k c N : ℕ) → 0 < l → c * l ≡ N → N ≡ l * p * k → p ∣ c
dvd_of_parts p l k c N pos o e =
    dvd_of_mul-dvd-mul_right p pos (subst₂ (λ a b. a ∣ b) (mul_comm l p) (sym e ∙ sym o) (dvd-mul_right (l * p) k))

suc_pred : (n i : ℕ) → i < n → n ≡ suc (pred n)
suc_pred n i l = omega arith

module _ {K D : Type 0} (F : FieldOn K) (EK : Enumerated K) (A : AlgebraOn F.ring D) (m : ℕ) (B : Basis (module_of A) m)
    (central : Central A) (enough : 2 ≤ m) (bounded : m ≤ 36) (inverse : HasLeftInverses A.ring) where
  infixl 70 ◌⊗◌
  open A use {◌⊗◌}

  abbrev M : ModuleOn F.ring D
  M = module_of A

  abbrev E : Enumerated D
  E = numbered F M EK m B

  -- one less than the number q of scalars
  abbrev z : ℕ
  z = pred EK.size

  size_suc : EK.size ≡ suc z
  size_suc = suc_pred EK.size (EK.number F.zero) (EK.number-lt F.zero)

  z_pos : 0 < z
  z_pos = ⊎_elim (λ (h : 0 < z). h)
      (λ (h : z ≤ 0).
      let a = EK.number-lt F.zero in
      let b = EK.number-lt F.one in
      let s = size_suc in
      let e : EK.number F.one ≡ EK.number F.zero = omega arith in
      absurd (F.one-nonzero (sym (EK.member-number F.one) ∙ ap EK.member e ∙ EK.member-number F.zero))) (cases_lt 0 z)

  power_less : (d : ℕ) → EK.size ^ d ≡ suc (less d z)
  power_less d = ap (λ q. q ^ d) size_suc ∙ power-less d z

  proper : A.one ≡ A.zero → ⊥
  proper e =
      let gone : (x : D) → x ≡ A.zero = λ x. sym (A.one-mul x) ∙ ap (λ t. t ⊗ x) e ∙ zero-mul A.ring x in
      F.one-nonzero (B.independent.only_zero (λ _. F.one) (gone (comb M m (λ _. F.one) B.vec)) 0 (omega arith))

  abbrev U : Type 0
  U = Unit_of A.ring E proper inverse

  abbrev G : GroupOn U
  G = units A.ring E proper inverse

  abbrev S : Enumerated U
  S = unit_members A.ring E proper inverse

  S_size : S.size ≡ less m z
  S_size = let a = units-size A.ring E proper inverse in let b = power_less m in omega arith

  S_pos : 0 < less m z
  S_pos = let b = less_lt_less 0 m z z_pos (omega arith) in omega arith

  -- what commutes with x is a subspace
  abbrev Commutes : D → D → Type 0
  Commutes x y = y ⊗ x ≡ x ⊗ y

  commutant : (x : D) → IsSubmodule M (Commutes x)
  commutant x = record {
    zero-in = zero-mul A.ring x ∙ sym (mul-zero A.ring x);
    add-in = λ y w h g. A.add-mul y w x ∙ ap₂ A.◌⊕◌ h g ∙ sym (A.mul-add x y w);
    scale-in = λ a y h. A.scale-left a y x ∙ ap (A.◌•◌ a) h ∙ sym (A.scale-right a x y);
  }

  abbrev swaps : D → D → Bool
  swaps y x = commutes A.ring E proper inverse y x

  -- how many commute with x
  abbrev commuting : D → ℕ
  commuting x = count E (λ y. swaps y x)

  pick : D → Bool → D
  pick y true = y
  pick y false = A.zero

  -- it has a dimension
  abbrev space : (x : D) → Grown F M m (coords_of M m B) 0 B.vec E.size (λ i. pick (E.member i) (swaps (E.member i) x))
  space x = grow F M m (coords_of M m B) 0 B.vec (independent_none M B.vec) E.size
      (λ i. pick (E.member i) (swaps (E.member i) x))

  pick_commutes : (x y : D) (b : Bool) → swaps y x ≡ b → Commutes x (pick y b)
  unfolding pick
  pick_commutes x y true e = same-eq E (y ⊗ x) (x ⊗ y) e
  pick_commutes x y false e = zero-mul A.ring x ∙ sym (mul-zero A.ring x)

  pick_true : (y : D) (b : Bool) → b ≡ true → pick y b ≡ y
  unfolding pick
  pick_true y true e = refl
  pick_true y false e = cc

  commuting_power : (x : D) → commuting x ≡ EK.size ^ (space x).size
  commuting_power x = count_of_span F M EK E (space x).size (space x).vec (λ y. swaps y x) (space x).independent
      (λ y e.
      let i = E.number y in
      let P : D → Type 0 = λ y. InSpan M (space x).size (space x).vec y in
      subst P (pick_true (E.member i) (swaps (E.member i) x) (ap (λ y. swaps y x) (E.member-number y) ∙ e)
      ∙ E.member-number y) ((space x).spans i (E.number-lt y)))
      (λ c. let y = comb M (space x).size c (space x).vec in
      eq-same E (y ⊗ x) (x ⊗ y) (comb_in M (Commutes x) (commutant x) (space x).size c (space x).vec
      (λ j l. let t = (space x).taken j (omega arith) l in
      subst (Commutes x) (sym t.2) (pick_commutes x (E.member t.0) (swaps (E.member t.0) x) refl))))

  dimension_le : (x : D) → (space x).size ≤ m
  dimension_le x = Independent-at_most F M m B (space x).size (space x).vec (space x).independent

  -- the centre
  abbrev central_test : D → Bool
  central_test x = eqb (commuting x) E.size

  central_of : (x : D) → ((y : D) → Commutes x y) → central_test x ≡ true
  central_of x h = eq-eqb (commuting x) E.size (count_all E (λ y. swaps y x) (λ y. eq-same E (y ⊗ x) (x ⊗ y) (h y)))

  central_span : (x : D) → central_test x ≡ true → InSpan M 1 (λ _. A.one) x
  central_span x e =
      let full = all_of_count E (λ y. swaps y x) (eqb-true (commuting x) E.size e) in
      let a = central.multiple x (λ y. sym (same-eq E (y ⊗ x) (x ⊗ y) (full y))) in
      record { weights = λ _. a.0; combines = a.1 ∙ sym (A.zero-add (A.◌•◌ a.0 A.one)) }

  one_free : Independent M 1 (λ _. A.one)
  one_free = record {
    only_zero = λ c e i l. let w : i ≡ 0 = omega arith in ap c w ∙ ⊎_elim (λ (h : c 0 ≡ F.zero). h)
        (λ (h : c 0 ≡ F.zero → ⊥). absurd (proper (
        sym (A.one-scale A.one) ∙ ap (λ t. A.◌•◌ t A.one) (sym (F.inv-mul (c 0) h))
        ∙ A.mul-scale (F.inv (c 0)) (c 0) A.one
        ∙ ap (A.◌•◌ (F.inv (c 0))) (sym (A.zero-add (A.◌•◌ (c 0) A.one)) ∙ e) ∙ scale-zero M (F.inv (c 0)))))
        (eq_zero_or F.zero_test (c 0));
  }

  one_multiple : (c : ℕ → K) → central_test (comb M 1 c (λ _. A.one)) ≡ true
  one_multiple c = central_of (comb M 1 c (λ _. A.one))
      (λ y. sym (comb_in M (Commutes y) (commutant y) 1 c (λ _. A.one) (λ i l. A.one-mul y ∙ sym (A.mul-one y))))

  centralizer_is : (u : U) → commuting u.0 ≡ suc (centralizer_order G S u)
  centralizer_is u = count_centralizer A.ring E proper inverse u

  is_central-is : (u : U) → is_central G S u ≡ central_test u.0
  is_central-is u =
      let c = centralizer_is u in
      let s = units-size A.ring E proper inverse in
      bool_iff (is_central G S u) (central_test u.0)
      (λ h. let e = eqb-true (centralizer_order G S u) S.size h in eq-eqb (commuting u.0) E.size (omega arith))
      (λ h. let e = eqb-true (commuting u.0) E.size h in eq-eqb (centralizer_order G S u) S.size (omega arith))

  count_central : count S (is_central G S) ≡ z
  count_central =
      let e = count_congr S (is_central G S) (λ u. central_test u.0) is_central-is in
      let a = count_units A.ring E proper inverse central_test in
      let b = count_of_span F M EK E 1 (λ _. A.one) central_test one_free central_span one_multiple in
      let t = ap one_if (central_of A.zero (λ w. mul-zero A.ring w ∙ sym (zero-mul A.ring w))) in
      let p = power_less 1 in
      let q = less-one z in
      omega arith

  -- the value of the cyclotomic polynomial
  abbrev Φ : ℕ
  Φ = value (cyclotomic m) z

  class_mul_less : (u : U) (d : ℕ) → centralizer_order G S u ≡ less d z → class_order G S u * less d z ≡ less m z
  class_mul_less u d cent = ap (λ t. class_order G S u * t) (sym cent) ∙ orbit_stabilizer G S u ∙ S_size

  class_dvd : (u : U) → (is_central G S u ≡ true → ⊥) → Φ ∣ class_order G S u
  class_dvd u h =
      let d = (space u.0).size in
      let c = centralizer_is u in
      let p = commuting_power u.0 in
      let w = power_less d in
      let cent : centralizer_order G S u ≡ less d z = omega arith in
      let o : class_order G S u * less d z ≡ less m z = class_mul_less u d cent in
      let le = dimension_le u.0 in
      let pos : 0 < d = positive d o in
      let lt : d < m = below d le cent in
      let k = less-parts z m d pos lt bounded (dvd_of_less-mul m d z (class_order G S u) z_pos pos (sym o)) in
      dvd_of_parts Φ (less d z) k.0 (class_order G S u) (less m z)
      (let e = less_lt_less 0 d z z_pos pos in omega arith) o k.1
    where
      positive : (d : ℕ) → class_order G S u * less d z ≡ less m z → 0 < d
      positive zero e = let a = ap (λ t. class_order G S u * t) (less-zero z) in let b = S_pos in absurd (omega arith)
      positive (suc d) e = omega arith

      below : (d : ℕ) → d ≤ m → centralizer_order G S u ≡ less d z → d < m
      below d le e = ⊎_elim (λ (a : d < m). a)
          (λ (a : m ≤ d). let w : d ≡ m = omega arith in
          absurd (h (eq-eqb (centralizer_order G S u) S.size (e ∙ ap (λ t. less t z) w ∙ sym S_size))))
          (cases_lt d m)

  -- the classes outside the centre together
  abbrev outside : ℕ
  outside = sum nat_monoid S.size
      (λ i. one_if (is_first G S (S.member i) && not (is_central G S (S.member i))) * class_order G S (S.member i))

  outside_dvd : Φ ∣ outside
  outside_dvd = dvd-sum Φ S.size
      (λ i. one_if (is_first G S (S.member i) && not (is_central G S (S.member i))) * class_order G S (S.member i))
      (λ i l. let u = S.member i in part (is_first G S u) (is_central G S u) (class_order G S u) (class_dvd u))
    where
      part : (f b : Bool) (n : ℕ) → ((b ≡ true → ⊥) → Φ ∣ n) → Φ ∣ one_if (f && not b) * n
      part false b n h = subst (λ t. Φ ∣ t) (sym (nat_zero-mul n)) (dvd-zero Φ)
      part true true n h = subst (λ t. Φ ∣ t) (sym (nat_zero-mul n)) (dvd-zero Φ)
      part true false n h = subst (λ t. Φ ∣ t) (sym (one-mul n)) (h (λ e. true≢false (sym e)))

  whole_dvd : Φ ∣ less m z
  whole_dvd =
      let k = less-parts z m 1 (omega arith) (omega arith) bounded (one-dvd m) in
      subst (λ t. Φ ∣ t) (sym k.1) (dvd-mul_right_of_dvd Φ (dvd-mul_left Φ (less 1 z)) k.0)

  pub no_division_ring : ⊥
  no_division_ring =
      let total : less m z ≡ outside + z = sym S_size ∙ class_equation G S ∙ ap (λ t. t + outside) count_central
      ∙ add_comm z outside in
      let d : Φ ∣ z = (dvd-add_iff_right Φ outside_dvd).1 (subst (λ t. Φ ∣ t) total whole_dvd) in
      let a = le_of_dvd z_pos d in
      let b = cyclotomic-large m z enough bounded in
      omega arith
