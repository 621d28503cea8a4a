-- The coordinates of the products of a basis of tuples, from the numerators of the constants and of the basis and an
-- inverse of the latter.
use Rattle.std.specs.Prelude.{◌≡◌, ◌≢◌, ◌<◌, ◌+◌, ◌*◌, ◌/◌, ◌%◌, ℕ, Bool, true, false, List, [], get_or}
use Rattle.std.specs.Prelude.{cond, nat_eq}
use Rattle.std.proofs.Common.{refl, sym, ◌∙◌, ap, ap₂, arith}
use Rattle.theory_rings.specs.Ops.{Ops, IsElem, FieldLaws}
use Rattle.theory_rings.specs.Sum.{at, sum_of}
use Rattle.theory_rings.proofs.Rings.Elements.{sum_of_congr}
use Rattle.theory_spaces.specs.Tuples.{constant}
use Rattle.theory_spaces.proofs.Tuples.Tuples.{at-table}
use Rattle.theory_tables.specs.Matrix.{entry}
use Rattle.theory_tables.specs.Structure.{Structure, IsOver, product_of}
use Rattle.theory_fractions.specs.PolynomialLists.{IsPolynomialList}
use Rattle.theory_fractions.specs.Fraction.{Pair}
use Rattle.theory_fractions.specs.FractionOps.{fraction_ops}
use Rattle.theory_fractions.specs.CommonDenominator.{as_fraction}
use Rattle.theory_fractions.proofs.CommonDenominators.{nonzero_of_monic}
use Rattle.theory_fractions.proofs.ElementClauses.{zero_is, ne_zero}
use Rattle.theory_fractions.proofs.PolynomialFractions.{as_fraction-elem}
use Rattle.theory_bases.specs.Bases.{BasisForm, IsBasis, fraction_over, tuples_of}
use Rattle.theory_bases.proofs.FractionsOver.{M, over-elem}
use Rattle.theory_bases.proofs.IndependentRows.{rows_independent}
use Rattle.theory_rows.specs.Rows.{RowsAreIndependent}
use Rattle.spl_numerators.specs.Numerators.{AreNumerators}
use Rattle.spl_numerators.specs.Sums.{fraction_at}
use Rattle.spl_order.specs.Values.{HasRow, fraction_entry, IsScaledInverse}
use Rattle.spl_order.specs.Coordinates.{scaled_coordinate, AreScaledCoordinates, AreCoordinatesOver}
use Rattle.spl_order.proofs.ProductEntries.{polynomial_at, flat-elem, flat_entry, tuple_entry}
use Rattle.spl_order.proofs.ProductEntries.{numerator-elem, denominator_nonzero, constant_entry}
use Rattle.spl_order.proofs.CoordinateSums as sums

module _ {E : Type 0} (o : Ops E) (L : FieldLaws o) where
  unit_or_zero : (b : Bool) (s : List E)
      → as_fraction o (cond b s []) ≡ cond b (as_fraction o s) (let k : Ops (Pair E) = fraction_ops o L in k.zero)
  unit_or_zero true s = refl
  unit_or_zero false s = sym (zero_is o L)

module _ {E : Type 0} (o : Ops E) (L : FieldLaws o) (n : ℕ) (b : BasisForm E) (B : IsBasis o L n b) where
  -- the rows of a basis are independent over the polynomials
  pub numerators_free : RowsAreIndependent o b.numerators
  numerators_free = rows_independent o L n b B.polynomial
      (nonzero_of_monic o L b.denominator (let l = B.least in l.monic)) B.rows
      (let i = B.independent in i.independent)

module _ {E : Type 0} (o : Ops E) (L : FieldLaws o) (A : Structure (Pair E)) (over : IsOver (fraction_ops o L) A)
    (g : List E) (entries : List (List E)) (G : AreNumerators o L g A entries) (b : BasisForm E)
    (B : IsBasis o L A.dim b) (inverse : List (List (List E))) (s : List E)
    (I : IsScaledInverse o L A.dim b.numerators inverse s) (rows columns : List (List E))
    (R : HasRow o (λ p. fraction_entry o b.numerators (p / A.dim) (p % A.dim)) (A.dim * A.dim) rows)
    (C : HasRow o (λ p. fraction_entry o inverse (p / A.dim) (p % A.dim)) (A.dim * A.dim) columns) where
  abbrev k : Ops (Pair E)
  k = fraction_ops o L

  abbrev laws : FieldLaws k
  laws = M o L

  abbrev n : ℕ
  n = A.dim

  abbrev d : List E
  d = b.denominator

  abbrev T : List (List (Pair E))
  T = tuples_of o L b

  abbrev x : ℕ → ℕ → Pair E
  x i a = fraction_at o L rows (i * n + a)

  abbrev y : ℕ → ℕ → Pair E
  y t l = fraction_at o L columns (t * n + l)

  abbrev c : ℕ → ℕ → ℕ → Pair E
  c a b t = fraction_at o L entries ((a * n + b) * n + t)

  abbrev fg : Pair E
  fg = as_fraction o g

  abbrev fd : Pair E
  fd = as_fraction o d

  abbrev fs : Pair E
  fs = as_fraction o s

  hx : (i a : ℕ) → IsElem k (x i a)
  hx = flat-elem o L n b.numerators rows R

  hy : (i a : ℕ) → IsElem k (y i a)
  hy = flat-elem o L n inverse columns C

  hc : (a b t : ℕ) → IsElem k (c a b t)
  hc a b t = numerator-elem o L A over g entries G ((a * n + b) * n + t)

  g-list : IsPolynomialList o g
  g-list = G.over

  g-ne : g ≢ []
  g-ne = denominator_nonzero o L A over g entries G

  d-ne : d ≢ []
  d-ne = nonzero_of_monic o L d (let l = B.least in l.monic)

  left : (i j : ℕ) → i < n → j < n → sum_of k n (λ l. k.mul (y i l) (x l j)) ≡ cond (nat_eq j i) fs k.zero
  left i j i_in j_in = sum_of_congr k n (λ l. k.mul (y i l) (x l j))
      (λ l. k.mul (fraction_entry o inverse i l) (fraction_entry o b.numerators l j))
      (λ l l_in. ap₂ k.mul (flat_entry o L n inverse columns C i l i_in l_in)
      (flat_entry o L n b.numerators rows R l j l_in j_in))
      ∙ I.left i j i_in j_in ∙ unit_or_zero o L (nat_eq j i) s

  hg : IsElem k fg
  hg = as_fraction-elem o L g g-list

  hd : IsElem k fd
  hd = as_fraction-elem o L d B.polynomial

  hs : IsElem k fs
  hs = as_fraction-elem o L s I.polynomial

  ng : fg ≢ k.zero
  ng = ne_zero o L fg g-ne

  nd : fd ≢ k.zero
  nd = ne_zero o L fd d-ne

  ns : fs ≢ k.zero
  ns = ne_zero o L fs I.nonzero

  tuple-is : (i a : ℕ) → i < n → a < n → entry k T i a ≡ k.mul (x i a) (k.inv fd)
  tuple-is = tuple_entry o L n b B rows R

  constant-is : (a b t : ℕ) → a < n → b < n → t < n
      → constant k n A.constants a b t ≡ k.mul (c a b t) (k.inv fg)
  constant-is = constant_entry o L A over g entries G

  module _ (scale : List E) (h-scale : IsPolynomialList o scale)
      (scale-is : as_fraction o scale ≡ k.mul (k.mul fg fd) fs) (items : List (List E))
      (S : AreScaledCoordinates o L n rows columns entries items) where
    abbrev coordinate : ℕ → ℕ → ℕ → Pair E
    coordinate i j l = fraction_over o L scale (get_or items ((i * n + j) * n + l) [])

    scale-ne : scale ≢ []
    scale-ne e = sums.scale_nonzero k laws n x y c fg fd fs hx hy hc hg hd hs ng nd ns left
        (sym scale-is ∙ ap (as_fraction o) e ∙ sym (zero_is o L))

    coordinate-is : (i j l : ℕ) → i < n → j < n → l < n
        → k.mul (scaled_coordinate k n x y c i j l) (k.inv (k.mul (k.mul fg fd) fs)) ≡ coordinate i j l
    coordinate-is i j l i_in j_in l_in =
        ap₂ (λ u v. k.mul u (k.inv v)) (sym (S.values i j l i_in j_in l_in)) (sym scale-is)

    product_at : (i j t : ℕ) → i < n → j < n → t < n
        → at k (product_of k A (get_or T i []) (get_or T j [])) t
        ≡ sum_of k n (λ l. k.mul (coordinate i j l) (entry k T l t))
    product_at i j t i_in j_in t_in =
        at-table k n (λ t. sum_of k n (λ a. sum_of k n (λ b. k.mul (k.mul (entry k T i a) (entry k T j b))
        (constant k n A.constants a b t)))) t t_in
        ∙ sum_of_congr k n
        (λ a. sum_of k n (λ b. k.mul (k.mul (entry k T i a) (entry k T j b)) (constant k n A.constants a b t)))
        (λ a. sum_of k n (λ b. k.mul (k.mul (k.mul (x i a) (k.inv fd)) (k.mul (x j b) (k.inv fd)))
        (k.mul (c a b t) (k.inv fg))))
        (λ a a_in. sum_of_congr k n
        (λ b. k.mul (k.mul (entry k T i a) (entry k T j b)) (constant k n A.constants a b t))
        (λ b. k.mul (k.mul (k.mul (x i a) (k.inv fd)) (k.mul (x j b) (k.inv fd))) (k.mul (c a b t) (k.inv fg)))
        (λ b b_in. ap₂ k.mul (ap₂ k.mul (tuple-is i a i_in a_in) (tuple-is j b j_in b_in))
        (constant-is a b t a_in b_in t_in)))
        ∙ sums.coordinates_combine k laws n x y c fg fd fs hx hy hc hg hd hs ng nd ns left i j t t_in
        ∙ sum_of_congr k n
        (λ l. k.mul (k.mul (scaled_coordinate k n x y c i j l) (k.inv (k.mul (k.mul fg fd) fs)))
        (k.mul (x l t) (k.inv fd)))
        (λ l. k.mul (coordinate i j l) (entry k T l t))
        (λ l l_in. ap₂ k.mul (coordinate-is i j l i_in j_in l_in) (sym (tuple-is l t l_in t_in)))

    pub coordinates_over : AreCoordinatesOver o L A T scale items
    coordinates_over = record {
      polynomial = h-scale;
      nonzero = scale-ne;
      count = S.count;
      polynomials = S.polynomials;
      coordinates = record {
        elements_of = λ i j l. over-elem o L scale h-scale scale-ne (get_or items ((i * n + j) * n + l) [])
            (polynomial_at o L items (λ p l. S.polynomials p (omega (arith, l, S.count))) ((i * n + j) * n + l));
        products = product_at;
      };
    }
