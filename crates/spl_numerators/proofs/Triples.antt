-- A triple of basis elements associates exactly where it does by polynomials, c times the constants.
use Rattle.std.specs.Prelude.{◌≡◌, ◌≢◌, ◌↔◌, ℕ, ◌+◌, ◌*◌, ◌<◌, List, [], length, get_or, All}
use Rattle.std.proofs.Common.{refl, sym, ◌∙◌, ap, ap₂, subst, arith}
use Rattle.std.proofs.lemmas.List.{ext_get_or}
use Rattle.std.proofs.Math.Nat as nat
use Rattle.theory_rings.specs.Ops.{Ops, IsElem, FieldLaws}
use Rattle.theory_rings.specs.Sum.{at, sum_of, table}
use Rattle.theory_rings.proofs.Sums.Lists.{All-table, length-table, get_or-table}
use Rattle.theory_rings.proofs.Rings.Elements.{at-elem, sum_of_congr}
use Rattle.theory_spaces.specs.Tuples.{product, basis, constant}
use Rattle.theory_spaces.proofs.Tuples.TupleProducts.{product_basis}
use Rattle.theory_tables.specs.Structure.{Structure, IsOver, AssociatesAt}
use Rattle.theory_fractions.specs.PolynomialLists.{IsPolynomialList}
use Rattle.theory_fractions.specs.Fraction.{Pair}
use Rattle.theory_fractions.specs.FractionOps.{fraction_ops}
use Rattle.theory_fractions.specs.CommonDenominator.{as_fraction}
use Rattle.theory_fractions.proofs.CommonDenominators.{nonzero_of_monic}
use Rattle.theory_fractions.proofs.FractionField.{fraction_laws}
use Rattle.theory_fractions.proofs.ElementClauses.{ne_zero}
use Rattle.theory_fractions.proofs.PolynomialFractions.{as_fraction-elem}
use Rattle.theory_constants.specs.Scaled.{scaled}
use Rattle.theory_constants.specs.ScalingLaws.{KeepsByScaling}
use Rattle.theory_constants.proofs.Scaling.{scaling_law}
use Rattle.spl_algebra.proofs.Contractions.{at-product_basis, at-basis_product, constant_within}
use Rattle.spl_numerators.specs.Numerators.{HasMultiples, AreNumerators}
use Rattle.spl_numerators.specs.Sums.{fraction_at, left_item, right_item}

pub left_place : (l k t m : ℕ) → (l * m + k) * m + t ≡ k * m + t + l * (m * m)
left_place l k t m = omega (arith, nat.add-mul (l * m) k m, nat.mul_assoc l m m)

pub right_place : (i l t m : ℕ) → (i * m + l) * m + t ≡ i * m * m + t + l * m
right_place i l t m = omega (arith, nat.add-mul (i * m) l m)

module _ {E : Type 0} (o : Ops E) (L : FieldLaws o) where
  abbrev K : Ops (Pair E)
  K = fraction_ops o L

  abbrev laws : FieldLaws K
  laws = fraction_laws o L

  module _ (A : Structure (Pair E)) (over : IsOver K A) (c : List E) (hc : IsPolynomialList o c) (nonzero : c ≢ [])
      (entries : List (List E)) (multiples : HasMultiples o L c A.constants (A.dim * A.dim * A.dim) entries) where
    abbrev m : ℕ
    m = A.dim

    abbrev S : Structure (Pair E)
    S = scaled K (as_fraction o c) A

    keeps : KeepsByScaling K A (as_fraction o c)
    keeps = scaling_law K laws A over (as_fraction o c) (as_fraction-elem o L c hc)
        (ne_zero o L (as_fraction o c) nonzero)

    abbrev elems : All (IsElem K) S.constants
    elems = let h = keeps.over in h.of_elements

    -- the constants of the algebra with multiplied constants
    constant_is : (i j k : ℕ) → i < m → j < m → k < m
        → constant K m S.constants i j k ≡ fraction_at o L entries ((i * m + j) * m + k)
    constant_is i j k i_in j_in k_in =
        let p : ℕ = (i * m + j) * m + k in
        let within : p < m * m * m = constant_within i j k m (m * m * m) i_in j_in k_in refl in
        get_or-table (m * m * m) (λ q. K.mul (as_fraction o c) (at K A.constants q)) p K.zero within
        ∙ sym (multiples.multiple p within)

    abbrev row : ℕ → ℕ → List (Pair E)
    row i j = product K m S.constants (basis K m i) (basis K m j)

    row_is : (i j : ℕ) → i < m → j < m → row i j ≡ table m (λ l. constant K m S.constants i j l)
    row_is i j i_in j_in = product_basis K laws m S.constants elems i j i_in j_in

    row-elem : (i j : ℕ) → i < m → j < m → All (IsElem K) (row i j)
    row-elem i j i_in j_in = subst (All (IsElem K)) (sym (row_is i j i_in j_in))
        (All-table (IsElem K) m (λ l. constant K m S.constants i j l)
        (λ l l_in. at-elem K laws S.constants elems ((i * m + j) * m + l)))

    at-row : (i j l : ℕ) → i < m → j < m → l < m → at K (row i j) l ≡ fraction_at o L entries ((i * m + j) * m + l)
    at-row i j l i_in j_in l_in =
        ap (λ xs. at K xs l) (row_is i j i_in j_in)
        ∙ get_or-table m (λ l. constant K m S.constants i j l) l K.zero l_in
        ∙ constant_is i j l i_in j_in l_in

    abbrev left : ℕ → ℕ → ℕ → List (Pair E)
    left i j k = product K m S.constants (row i j) (basis K m k)

    abbrev right : ℕ → ℕ → ℕ → List (Pair E)
    right i j k = product K m S.constants (basis K m i) (row j k)

    at-left : (i j k t : ℕ) → i < m → j < m → k < m → t < m → at K (left i j k) t ≡ left_item o L entries m i j k t
    at-left i j k t i_in j_in k_in t_in =
        at-product_basis K laws m S.constants elems (row i j) k t (row-elem i j i_in j_in) k_in t_in
        ∙ sum_of_congr K m (λ l. K.mul (at K (row i j) l) (constant K m S.constants l k t))
        (λ l. K.mul (fraction_at o L entries ((i * m + j) * m + l)) (fraction_at o L entries (k * m + t + l * (m * m))))
        (λ l l_in. ap₂ K.mul (at-row i j l i_in j_in l_in)
        (constant_is l k t l_in k_in t_in ∙ ap (fraction_at o L entries) (left_place l k t m)))

    at-right : (i j k t : ℕ) → i < m → j < m → k < m → t < m → at K (right i j k) t ≡ right_item o L entries m i j k t
    at-right i j k t i_in j_in k_in t_in =
        at-basis_product K laws m S.constants elems (row j k) i t (row-elem j k j_in k_in) i_in t_in
        ∙ sum_of_congr K m (λ l. K.mul (at K (row j k) l) (constant K m S.constants i l t))
        (λ l. K.mul (fraction_at o L entries ((j * m + k) * m + l)) (fraction_at o L entries (i * m * m + t + l * m)))
        (λ l l_in. ap₂ K.mul (at-row j k l j_in k_in l_in)
        (constant_is i l t i_in l_in t_in ∙ ap (fraction_at o L entries) (right_place i l t m)))

    long : (a b : List (Pair E)) → length (product K m S.constants a b) ≡ m
    long a b = length-table m
        (λ k. sum_of K m (λ i. sum_of K m (λ j. K.mul (K.mul (at K a i) (at K b j)) (constant K m S.constants i j k))))

    pub associates_iff : (i j k : ℕ) → i < m → j < m → k < m
        → ((t : ℕ) → t < m → left_item o L entries m i j k t ≡ right_item o L entries m i j k t)
        ↔ AssociatesAt K A i j k
    associates_iff i j k i_in j_in k_in =
        let same = keeps.triple i j k in (
          λ h. same.1 (ext_get_or K.zero (left i j k) (right i j k)
              (long (row i j) (basis K m k) ∙ sym (long (basis K m i) (row j k)))
              (λ t l.
              let t_in : t < m = omega (arith, l, long (row i j) (basis K m k)) in
              at-left i j k t i_in j_in k_in t_in ∙ h t t_in ∙ sym (at-right i j k t i_in j_in k_in t_in))),
          λ e t t_in. sym (at-left i j k t i_in j_in k_in t_in) ∙ ap (λ xs. at K xs t) (same.0 e)
              ∙ at-right i j k t i_in j_in k_in t_in,
        )

  -- the polynomials of a list that was read
  pub has_polynomials : (c : List E) (list : List (Pair E)) (n : ℕ) (entries : List (List E))
      → HasMultiples o L c list n entries → (read : List (List E)) → read ≡ entries
      → (p : ℕ) → p < length read → IsPolynomialList o (get_or read p [])
  has_polynomials c list n entries h read e p l =
      subst (λ xs. IsPolynomialList o (get_or xs p [])) (sym e)
      (h.polynomials p (omega (arith, l, ap length e, h.count)))

  pub nonzero_denominator : (A : Structure (Pair E)) (c : List E) (entries : List (List E))
      → AreNumerators o L c A entries → c ≢ []
  nonzero_denominator A c entries h = let d = h.common in nonzero_of_monic o L c d.monic
