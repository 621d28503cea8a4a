-- The products of the tuples of two bases, by the products of the rows of their numerators over one polynomial.
use Rattle.std.specs.Prelude.{◌≡◌, ◌≢◌, ◌<◌, ◌+◌, ◌*◌, ◌/◌, ◌%◌, ◌≤◌, ◌-◌, ℕ, List, [], ◌∷◌, length, get_or, drop}
use Rattle.std.proofs.Common.{refl, sym, ◌∙◌, ap, ap₂, arith, ext_get_or}
use Rattle.std.proofs.lemmas.List.{length-map, length-take-le, length-drop, get_or-drop, get_or-take, get_or-map}
use Rattle.theory_rings.specs.Ring.{FieldOn}
use Rattle.theory_rings.specs.Ops.{Ops, FieldLaws}
use Rattle.theory_rings.specs.Elements.{Elem, Elem-path, elements}
use Rattle.theory_rings.specs.Sum.{at, sum_of}
use Rattle.theory_rings.proofs.Rings.Elements.{sum_of_congr}
use Rattle.theory_rings.proofs.Rings.Fields.{mul-inv, mul_left_cancel, field_mul-ne-zero}
use Rattle.theory_rings.proofs.Rings.Solver.{◌⊠◌, by_sorted, v0, v1, v2, v3, v4, var}
use Rattle.theory_rings.proofs.Sums.Lists.{length-table}
use Rattle.theory_spaces.specs.Tuples.{constant}
use Rattle.theory_spaces.proofs.Matrices.PairIndex.{pair-lt}
use Rattle.theory_spaces.proofs.Tuples.Tuples.{at-table}
use Rattle.theory_tables.specs.Matrix.{entry}
use Rattle.theory_tables.specs.Structure.{Structure, IsOver, product_of}
use Rattle.theory_fractions.specs.PolynomialLists.{IsPolynomialList}
use Rattle.theory_fractions.specs.Fraction.{Pair}
use Rattle.theory_fractions.specs.FractionOps.{fraction_ops}
use Rattle.theory_fractions.specs.CommonDenominator.{as_fraction}
use Rattle.theory_fractions.proofs.PolynomialFractions.{as_fraction-elem}
use Rattle.theory_bases.specs.Bases.{BasisForm, IsBasis, fraction_over, tuples_of}
use Rattle.theory_bases.proofs.FractionsOver.{M}
use Rattle.theory_fractions.proofs.CommonDenominators.{nonzero_of_monic}
use Rattle.theory_fractions.proofs.ElementClauses.{zero_is, ne_zero}
use Rattle.spl_numerators.specs.Numerators.{AreNumerators}
use Rattle.spl_numerators.specs.Sums.{fraction_at}
use Rattle.spl_order.specs.Values.{HasRow, fraction_entry}
use Rattle.spl_order.specs.Coordinates.{AreRowProducts, AreProductsOver, row_at, tuple_at}
use Rattle.spl_order.proofs.ProductEntries.{flat-elem, tuple_entry, numerator-elem, denominator_nonzero}
use Rattle.spl_order.proofs.ProductEntries.{constant_entry}
use Rattle.spl_order.proofs.CoordinateSums.{tuple_products}

-- an inverse of a product of three
module _ {K : Type 0} (F : FieldOn K) where
  pub inv-mul3 : (a b c : K) → F.◌⊗◌ (F.◌⊗◌ a b) c ≢ F.zero → a ≢ F.zero → b ≢ F.zero → c ≢ F.zero
      → F.◌⊗◌ (F.◌⊗◌ (F.inv a) (F.inv b)) (F.inv c) ≡ F.inv (F.◌⊗◌ (F.◌⊗◌ a b) c)
  inv-mul3 a b c ne na nb nc =
      let D = F.◌⊗◌ (F.◌⊗◌ a b) c in
      mul_left_cancel F D (F.◌⊗◌ (F.◌⊗◌ (F.inv a) (F.inv b)) (F.inv c)) (F.inv D) ne
      (by_sorted F.cring (a ∷ b ∷ c ∷ F.inv a ∷ F.inv b ∷ F.inv c ∷ [])
      (((v0 ⊠ v1) ⊠ v2) ⊠ ((v3 ⊠ v4) ⊠ var 5)) ((v0 ⊠ v3) ⊠ ((v1 ⊠ v4) ⊠ (v2 ⊠ var 5))) refl
      ∙ ap₂ (λ u v. F.◌⊗◌ u (F.◌⊗◌ v (F.◌⊗◌ c (F.inv c)))) (mul-inv F a na) (mul-inv F b nb)
      ∙ F.one-mul (F.◌⊗◌ F.one (F.◌⊗◌ c (F.inv c))) ∙ F.one-mul (F.◌⊗◌ c (F.inv c)) ∙ mul-inv F c nc
      ∙ sym (mul-inv F D ne))

-- an entry of the tuple of a row over a polynomial
module _ {E : Type 0} (o : Ops E) (L : FieldLaws o) (scale : List E) (n : ℕ) (items : List (List E)) (i : ℕ)
    (within : i * n + n ≤ length items) where
  pub row_at-length : length (row_at n items i) ≡ n
  row_at-length = length-take-le n (drop (i * n) items) (omega (arith, within, length-drop (i * n) items))

  pub at-tuple_at : (t : ℕ) → t < n
      → at (fraction_ops o L) (tuple_at o L scale n items i) t ≡ fraction_over o L scale (get_or items (i * n + t) [])
  at-tuple_at t t_in = let k : Ops (Pair E) = fraction_ops o L in
      get_or-map (fraction_over o L scale) (row_at n items i) t [] k.zero (omega (arith, t_in, row_at-length))
      ∙ ap (fraction_over o L scale) (get_or-take n (drop (i * n) items) t [] t_in ∙ get_or-drop (i * n) items t [])

module _ {E : Type 0} (o : Ops E) (L : FieldLaws o) (A : Structure (Pair E)) (over : IsOver (fraction_ops o L) A)
    (g : List E) (entries : List (List E)) (G : AreNumerators o L g A entries) (a b : BasisForm E)
    (HA : IsBasis o L A.dim a) (HB : IsBasis o L A.dim b) (lefts rights : List (List E))
    (S : HasRow o (λ p. fraction_entry o a.numerators (p / A.dim) (p % A.dim)) (A.dim * A.dim) lefts)
    (T : HasRow o (λ p. fraction_entry o b.numerators (p / A.dim) (p % A.dim)) (A.dim * A.dim) rights) where
  abbrev k : Ops (Pair E)
  k = fraction_ops o L

  abbrev F : FieldOn (Elem k)
  F = elements k (M o L)

  abbrev n : ℕ
  n = A.dim

  abbrev x : ℕ → ℕ → Pair E
  x i u = fraction_at o L lefts (i * n + u)

  abbrev z : ℕ → ℕ → Pair E
  z j u = fraction_at o L rights (j * n + u)

  abbrev c : ℕ → ℕ → ℕ → Pair E
  c u v t = fraction_at o L entries ((u * n + v) * n + t)

  abbrev polynomial_element : (p : List E) → IsPolynomialList o p → Elem k
  polynomial_element p h = (as_fraction o p, as_fraction-elem o L p h)

  nonzero_element : (p : List E) (h : IsPolynomialList o p) → p ≢ [] → polynomial_element p h ≢ F.zero
  nonzero_element p h ne e = ne_zero o L (as_fraction o p) ne (ap (λ (u : Elem k). u.0) e)

  abbrev fa : Elem k
  fa = polynomial_element a.denominator HA.polynomial

  abbrev fb : Elem k
  fb = polynomial_element b.denominator HB.polynomial

  abbrev fg : Elem k
  fg = polynomial_element g G.over

  a-ne : fa ≢ F.zero
  a-ne = nonzero_element a.denominator HA.polynomial
      (nonzero_of_monic o L a.denominator (let l = HA.least in l.monic))

  b-ne : fb ≢ F.zero
  b-ne = nonzero_element b.denominator HB.polynomial
      (nonzero_of_monic o L b.denominator (let l = HB.least in l.monic))

  g-ne : fg ≢ F.zero
  g-ne = nonzero_element g G.over (denominator_nonzero o L A over g entries G)

  module _ (scale : List E) (h-scale : IsPolynomialList o scale)
      (scale-is : as_fraction o scale
      ≡ k.mul (k.mul (as_fraction o a.denominator) (as_fraction o b.denominator)) (as_fraction o g))
      (items : List (List E)) (R : AreRowProducts o L n lefts rights entries items) where
    abbrev fs : Elem k
    fs = polynomial_element scale h-scale

    same : F.◌⊗◌ (F.◌⊗◌ fa fb) fg ≡ fs
    same = Elem-path k (F.◌⊗◌ (F.◌⊗◌ fa fb) fg) fs (sym scale-is)

    product-ne : F.◌⊗◌ (F.◌⊗◌ fa fb) fg ≢ F.zero
    product-ne = field_mul-ne-zero F (F.◌⊗◌ fa fb) fg (field_mul-ne-zero F fa fb a-ne b-ne) g-ne

    ne-scale : scale ≢ []
    ne-scale e = product-ne (same ∙ Elem-path k fs F.zero (ap (as_fraction o) e ∙ sym (zero_is o L)))

    factor-is : k.mul (k.mul (k.inv (as_fraction o a.denominator)) (k.inv (as_fraction o b.denominator)))
        (k.inv (as_fraction o g)) ≡ k.inv (as_fraction o scale)
    factor-is = ap (λ (u : Elem k). u.0) (inv-mul3 F fa fb fg
        product-ne a-ne b-ne g-ne ∙ ap F.inv same)

    row-within : (i j : ℕ) → i < n → j < n → 1 ≤ n → (i * n + j) * n + n ≤ length items
    row-within i j i_in j_in pos =
        omega (arith, pos, R.count, pair-lt (n * n) n (i * n + j) (n - 1) (pair-lt n n i j i_in j_in) (omega (arith, pos)))

    entry-is : (i j t : ℕ) → i < n → j < n → t < n
        → at k (product_of k A (get_or (tuples_of o L a) i []) (get_or (tuples_of o L b) j [])) t
        ≡ at k (tuple_at o L scale n items (i * n + j)) t
    entry-is i j t i_in j_in t_in =
        let u = tuples_of o L a in
        let v = tuples_of o L b in
        let w = F.inv fa in
        let y = F.inv fb in
        let r = F.inv fg in
        at-table k n (λ t. sum_of k n (λ p. sum_of k n (λ q. k.mul (k.mul (entry k u i p) (entry k v j q))
        (constant k n A.constants p q t)))) t t_in
        ∙ sum_of_congr k n
        (λ p. sum_of k n (λ q. k.mul (k.mul (entry k u i p) (entry k v j q)) (constant k n A.constants p q t)))
        (λ p. sum_of k n (λ q. k.mul (k.mul (k.mul (x i p) w.0) (k.mul (z j q) y.0)) (k.mul (c p q t) r.0)))
        (λ p p_in. sum_of_congr k n
        (λ q. k.mul (k.mul (entry k u i p) (entry k v j q)) (constant k n A.constants p q t))
        (λ q. k.mul (k.mul (k.mul (x i p) w.0) (k.mul (z j q) y.0)) (k.mul (c p q t) r.0))
        (λ q q_in. ap₂ k.mul (ap₂ k.mul (tuple_entry o L n a HA lefts S i p i_in p_in)
        (tuple_entry o L n b HB rights T j q j_in q_in)) (constant_entry o L A over g entries G p q t p_in q_in t_in)))
        ∙ tuple_products k (M o L) n x z c (flat-elem o L n a.numerators lefts S) (flat-elem o L n b.numerators rights T)
        (λ p q t. numerator-elem o L A over g entries G ((p * n + q) * n + t)) w y r i j t
        ∙ ap₂ k.mul (sym (R.values i j t i_in j_in t_in)) factor-is
        ∙ sym (at-tuple_at o L scale n items (i * n + j) (row-within i j i_in j_in (omega (arith, t_in))) t t_in)

    product-is : (i j : ℕ) → i < n → j < n
        → product_of k A (get_or (tuples_of o L a) i []) (get_or (tuples_of o L b) j [])
        ≡ tuple_at o L scale n items (i * n + j)
    product-is i j i_in j_in =
        let u = product_of k A (get_or (tuples_of o L a) i []) (get_or (tuples_of o L b) j []) in
        let v = tuple_at o L scale n items (i * n + j) in
        let lu : length u ≡ n = length-table n (λ t. sum_of k n (λ p. sum_of k n (λ q.
        k.mul (k.mul (entry k (tuples_of o L a) i p) (entry k (tuples_of o L b) j q))
        (constant k n A.constants p q t)))) in
        let lv : length v ≡ n = length-map (row_at n items (i * n + j)) (fraction_over o L scale)
        ∙ row_at-length o L scale n items (i * n + j) (row-within i j i_in j_in (omega (arith, i_in))) in
        ext_get_or k.zero u v (lu ∙ sym lv) (λ t l. entry-is i j t i_in j_in (omega (arith, l, lu)))

    pub products_over : AreProductsOver o L A (tuples_of o L a) (tuples_of o L b) scale items
    products_over = record {
      polynomial = h-scale;
      nonzero = ne-scale;
      count = R.count;
      polynomials = R.polynomials;
      products = product-is;
    }
