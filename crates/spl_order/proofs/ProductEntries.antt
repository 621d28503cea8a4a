-- The entries of tuples, and the constants of an algebra, by flat lists of their numerators.
use Rattle.std.specs.Prelude.{◌≡◌, ◌≢◌, ◌<◌, ◌+◌, ◌*◌, ◌/◌, ◌%◌, ℕ, List, [], length, get_or}
use Rattle.std.proofs.Common.{sym, ◌∙◌, ap, ap₂, subst, arith, ⊎_elim}
use Rattle.std.proofs.lemmas.Bool.{cases_lt}
use Rattle.std.proofs.lemmas.List.{get_or_past}
use Rattle.std.proofs.lemmas.List.Elements.{All-nil}
use Rattle.std.proofs.lemmas.Nat.{div-mul-add, mod-mul-add}
use Rattle.theory_rings.specs.Ops.{Ops, IsElem, FieldLaws}
use Rattle.theory_rings.specs.Sum.{at}
use Rattle.theory_rings.proofs.Rings.Elements.{at-elem}
use Rattle.theory_spaces.specs.Tuples.{constant}
use Rattle.theory_spaces.proofs.Matrices.PairIndex.{pair-lt}
use Rattle.theory_tables.specs.Matrix.{entry}
use Rattle.theory_tables.specs.Structure.{Structure, IsOver}
use Rattle.theory_fractions.specs.PolynomialLists.{IsPolynomialList}
use Rattle.theory_fractions.specs.Fraction.{Pair}
use Rattle.theory_fractions.specs.FractionOps.{fraction_ops}
use Rattle.theory_fractions.specs.CommonDenominator.{as_fraction}
use Rattle.theory_fractions.proofs.CommonDenominators.{nonzero_of_monic}
use Rattle.theory_fractions.proofs.PolynomialFractions.{as_fraction-elem}
use Rattle.theory_bases.specs.Bases.{BasisForm, IsBasis, tuples_of}
use Rattle.theory_bases.proofs.FractionsOver.{M, entry-tuples, count-tuples, mul-divided}
use Rattle.spl_numerators.specs.Numerators.{AreNumerators}
use Rattle.spl_numerators.specs.Sums.{fraction_at}
use Rattle.spl_order.specs.Values.{HasRow, fraction_entry}

module _ {E : Type 0} (o : Ops E) (L : FieldLaws o) where
  -- an item of a list of polynomials, or 0
  pub polynomial_at : (xs : List (List E)) → ((p : ℕ) → p < length xs → IsPolynomialList o (get_or xs p []))
      → (p : ℕ) → IsPolynomialList o (get_or xs p [])
  polynomial_at xs h p = ⊎_elim
      (λ (l : p < length xs). h p l)
      (λ l. subst (IsPolynomialList o) (sym (get_or_past xs p [] (omega (arith, l))))
      (record { over = All-nil (IsElem o); trimmed = tt }))
      (cases_lt p (length xs))

  pub fraction_at-elem : (xs : List (List E)) → ((p : ℕ) → p < length xs → IsPolynomialList o (get_or xs p []))
      → (p : ℕ) → IsElem (fraction_ops o L) (fraction_at o L xs p)
  fraction_at-elem xs h p = as_fraction-elem o L (get_or xs p []) (polynomial_at xs h p)

-- a matrix with n columns, its rows one after the other
module _ {E : Type 0} (o : Ops E) (L : FieldLaws o) (n : ℕ) (matrix : List (List (List E))) (rows : List (List E))
    (R : HasRow o (λ p. fraction_entry o matrix (p / n) (p % n)) (n * n) rows) where
  pub flat-elem : (i a : ℕ) → IsElem (fraction_ops o L) (fraction_at o L rows (i * n + a))
  flat-elem i a = fraction_at-elem o L rows (λ p l. R.polynomials p (omega (arith, l, R.count))) (i * n + a)

  pub flat_entry : (i a : ℕ) → i < n → a < n → fraction_at o L rows (i * n + a) ≡ fraction_entry o matrix i a
  flat_entry i a i_in a_in = R.values (i * n + a) (pair-lt n n i a i_in a_in)
      ∙ ap₂ (fraction_entry o matrix) (div-mul-add i n a a_in) (mod-mul-add i n a a_in)

module _ {E : Type 0} (o : Ops E) (L : FieldLaws o) (n : ℕ) (b : BasisForm E) (B : IsBasis o L n b) where
  -- a basis has as many rows as columns
  pub square_count : length b.numerators ≡ n
  square_count = sym (count-tuples o L b) ∙ (let i = B.independent in i.count)

-- an entry of the tuples of a basis
module _ {E : Type 0} (o : Ops E) (L : FieldLaws o) (n : ℕ) (b : BasisForm E) (B : IsBasis o L n b)
    (rows : List (List E))
    (R : HasRow o (λ p. fraction_entry o b.numerators (p / n) (p % n)) (n * n) rows) where
  pub tuple_entry : (i a : ℕ) → i < n → a < n → (let k : Ops (Pair E) = fraction_ops o L in
      entry k (tuples_of o L b) i a ≡ k.mul (fraction_at o L rows (i * n + a)) (k.inv (as_fraction o b.denominator)))
  tuple_entry i a i_in a_in = let k : Ops (Pair E) = fraction_ops o L in
      entry-tuples o L n b B.rows i a (omega (arith, i_in, square_count o L n b B)) a_in
      ∙ ap (λ z. k.mul z (k.inv (as_fraction o b.denominator)))
      (sym (flat_entry o L n b.numerators rows R i a i_in a_in))

-- a constant of an algebra
module _ {E : Type 0} (o : Ops E) (L : FieldLaws o) (A : Structure (Pair E)) (over : IsOver (fraction_ops o L) A)
    (g : List E) (entries : List (List E)) (G : AreNumerators o L g A entries) where
  abbrev k : Ops (Pair E)
  k = fraction_ops o L

  pub numerator-elem : (p : ℕ) → IsElem k (fraction_at o L entries p)
  numerator-elem = let h = G.multiples in
      fraction_at-elem o L entries (λ p l. h.polynomials p (omega (arith, l, h.count)))

  pub denominator_nonzero : g ≢ []
  denominator_nonzero = nonzero_of_monic o L g (let h = G.common in h.monic)

  pub constant_entry : (a b t : ℕ) → a < A.dim → b < A.dim → t < A.dim
      → constant k A.dim A.constants a b t
      ≡ k.mul (fraction_at o L entries ((a * A.dim + b) * A.dim + t)) (k.inv (as_fraction o g))
  constant_entry a b t a_in b_in t_in =
      let n = A.dim in
      let p = (a * n + b) * n + t in
      let z = at k A.constants p in
      let laws = M o L in
      let hz : IsElem k z = at-elem k laws A.constants over.of_elements p in
      let h = G.multiples in
      sym (mul-divided o L g G.over denominator_nonzero z hz)
      ∙ ap (λ u. k.mul u (k.inv (as_fraction o g))) (laws.mul_comm z (as_fraction o g) hz (as_fraction-elem o L g G.over)
      ∙ sym (h.multiple p (pair-lt (n * n) n (a * n + b) t (pair-lt n n a b a_in b_in) t_in)))
