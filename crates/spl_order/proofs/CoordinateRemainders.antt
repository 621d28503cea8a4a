-- The scaled coordinates of products by remainders of rows, columns and constants: over the scale they are congruent to
-- the coordinates.
use Rattle.std.specs.Prelude.{◌≡◌, ◌≢◌, ◌<◌, ◌≤◌, ◌+◌, ◌*◌, ◌/◌, ◌%◌, ℕ, List, [], length, get_or}
use Rattle.std.proofs.Common.{refl, sym, ◌∙◌, ap, ap₂, subst, arith, ⊎_elim}
use Rattle.std.proofs.lemmas.Bool.{cases_lt}
use Rattle.std.proofs.lemmas.List.{get_or_past}
use Rattle.std.proofs.lemmas.Nat.{div-mul-add, mod-mul-add}
use Rattle.theory_rings.specs.Ring.{FieldOn}
use Rattle.theory_rings.specs.Ops.{Ops, IsElem, FieldLaws}
use Rattle.theory_rings.specs.Elements.{Elem, elements}
use Rattle.theory_rings.specs.Sum.{at, table}
use Rattle.theory_rings.proofs.Rings.Solver.{◌⊞◌, ◌⊠◌, ring5}
use Rattle.theory_rings.proofs.Sums.Lists.{length-table, get_or-table}
use Rattle.theory_spaces.specs.Lattice.{IsSubring}
use Rattle.theory_spaces.proofs.Matrices.PairIndex.{pair-lt}
use Rattle.theory_fractions.specs.PolynomialLists.{IsPolynomialList, IsProduct}
use Rattle.theory_fractions.specs.Fraction.{Pair}
use Rattle.theory_fractions.specs.FractionOps.{fraction_ops}
use Rattle.theory_fractions.specs.CommonDenominator.{as_fraction}
use Rattle.theory_fractions.proofs.Coefficients.{convolution_of_congr}
use Rattle.theory_fractions.proofs.ElementClauses.{lowest_of_elem, zero_is}
use Rattle.theory_fractions.proofs.FractionField.{fraction_laws}
use Rattle.theory_fractions.proofs.PolynomialFractions.{as_fraction-elem, as_fraction-add, as_fraction-mul}
use Rattle.theory_remainders.proofs.RemainderField.{monic, remainder_laws}
use Rattle.theory_remainders.specs.RemainderOps.{remainder_ops}
use Rattle.theory_places.specs.Places.{Finite}
use Rattle.theory_places.specs.FractionPlaces.{IsIntegralAt, IsMonicIrreducible}
use Rattle.theory_bases.specs.Bases.{IsPolynomialFraction, fraction_over}
use Rattle.theory_bases.proofs.FractionsOver.{over-elem}
use Rattle.theory_bases.proofs.PolynomialDivisors.{trimmed, trimmed_is, at-trimmed, fraction_product}
use Rattle.theory_bases.proofs.PolynomialDivisors.{product_of_fractions}
use Rattle.theory_left_orders.specs.FractionResidues.{ResidueRingsBy}
use Rattle.theory_left_orders.proofs.FractionResidues.{residue_rings, poly_loc}
use Rattle.spl_numerators.specs.Sums.{fraction_at}
use Rattle.spl_order.specs.Coordinates.{scaled_coordinate, AreScaledCoordinates, AreRemainders, AreCongruentOver}
use Rattle.spl_order.proofs.Shifts.{IsShifted, shifted-zero, shifted-elem, shifted-member, shifted-coordinates}
use Rattle.spl_order.proofs.ResidueTables.{first_digit, second_digit, third_digit, first_in, second_in, third_in}
use Rattle.spl_order.proofs.ResidueTables.{by_digits}

module _ {E : Type 0} (o : Ops E) (L : FieldLaws o) (m : List E) (s : IsMonicIrreducible o m) (part modulus : List E)
    (hp : IsPolynomialList o part) (hm : IsPolynomialList o modulus) (product : IsProduct o part m modulus) where
  abbrev k : Ops (Pair E)
  k = fraction_ops o L

  abbrev laws : FieldLaws k
  laws = fraction_laws o L

  abbrev F : FieldOn (Elem k)
  F = elements k laws

  abbrev N : FieldLaws (remainder_ops o L m (monic o L m s.irreducible))
  N = remainder_laws o L m s.irreducible

  abbrev R : ResidueRingsBy o L laws m (remainder_ops o L m (monic o L m s.irreducible)) N
  R = residue_rings o L laws m s N

  abbrev IsPoly : Pair E → Type 0
  IsPoly = IsPolynomialFraction o

  abbrev S : IsSubring F.ring (λ w. IsPoly w.0)
  S = let P = R.polynomials in P.subring

  abbrev up : (u : List E) → IsPolynomialList o u → Elem k
  up u hu = (as_fraction o u, as_fraction-elem o L u hu)

  abbrev g : Elem k
  g = up modulus hm

  abbrev Shifted : Pair E → Pair E → Type 0
  Shifted = IsShifted k IsPoly g

  -- ---- remainders

  module _ (items rest : List (List E)) (n : ℕ) (h : AreRemainders o modulus items n rest) (count : length items ≡ n)
      (are : (p : ℕ) → p < length items → IsPolynomialList o (get_or items p [])) where
    inside : (p : ℕ) → p < n → Shifted (fraction_at o L rest p) (fraction_at o L items p)
    inside p l =
        let small = h.small p l in
        let x = get_or rest p [] in
        let u = get_or items p [] in
        let hx : IsPolynomialList o x = small.polynomial in
        let hu : IsPolynomialList o u = are p (omega (arith, l, count)) in
        let d = h.values p l in
        let q = trimmed o L d.0 in
        let hq = trimmed_is o L d.0 in
        let t = fraction_product o L q modulus hq hm in
        let product = product_of_fractions o L q modulus t.0 hq hm t.1 t.2 in
        record {
          elem = as_fraction-elem o L x hx;
          member = refl;
          quotient = up q hq;
          quotient_in = refl;
          shift = as_fraction-add o L t.0 x u t.1 hx hu (λ i. d.2.whole i ∙ ap (λ z. o.add z (at o x i))
              (convolution_of_congr o L (at o d.0) (at o modulus) (at o q) (at o modulus)
              (λ j. sym (at-trimmed o L d.0 d.1 j)) (λ j. refl) i ∙ sym (product i)))
              ∙ ap (λ z. k.add z (as_fraction o x)) t.2
              ∙ ap (λ (z : Elem k). z.0) (F.add_comm (F.◌⊗◌ (up q hq) g) (up x hx));
        }

    pub shifted_at : (p : ℕ) → Shifted (fraction_at o L rest p) (fraction_at o L items p)
    shifted_at p = ⊎_elim (inside p)
        (λ (l : n ≤ p).
        subst (λ z. Shifted (as_fraction o z) (fraction_at o L items p)) (sym (get_or_past rest p [] (omega (arith, l, h.count))))
        (subst (λ z. Shifted (as_fraction o []) (as_fraction o z)) (sym (get_or_past items p [] (omega (arith, l, count))))
        (subst (λ z. Shifted z z) (zero_is o L) (shifted-zero k laws IsPoly S g refl))))
        (cases_lt p n)

  -- ---- coordinates

  module _ (n : ℕ) (rows columns constants rows' columns' constants' : List (List E))
      (hr : (p : ℕ) → Shifted (fraction_at o L rows' p) (fraction_at o L rows p))
      (hc : (p : ℕ) → Shifted (fraction_at o L columns' p) (fraction_at o L columns p))
      (hk : (p : ℕ) → Shifted (fraction_at o L constants' p) (fraction_at o L constants p)) where
    abbrev scaled : List (List E) → List (List E) → List (List E) → ℕ → ℕ → ℕ → Pair E
    scaled rows columns constants = scaled_coordinate k n (λ i a. fraction_at o L rows (i * n + a))
        (λ t l. fraction_at o L columns (t * n + l)) (λ a b t. fraction_at o L constants ((a * n + b) * n + t))

    shifted : (i j l : ℕ) → Shifted (scaled rows' columns' constants' i j l) (scaled rows columns constants i j l)
    shifted = shifted-coordinates k laws IsPoly S g refl n
        (λ i a. fraction_at o L rows' (i * n + a)) (λ i a. fraction_at o L rows (i * n + a))
        (λ t l. fraction_at o L columns' (t * n + l)) (λ t l. fraction_at o L columns (t * n + l))
        (λ a b t. fraction_at o L constants' ((a * n + b) * n + t))
        (λ a b t. fraction_at o L constants ((a * n + b) * n + t))
        (λ i a. hr (i * n + a)) (λ t l. hc (t * n + l)) (λ a b t. hk ((a * n + b) * n + t))

    abbrev value : ℕ → ℕ → ℕ → Pair E
    value = scaled rows columns constants

    value-elem : (i j l : ℕ) → IsElem k (value i j l)
    value-elem i j l = shifted-elem k laws IsPoly S g refl (scaled rows' columns' constants' i j l) (value i j l)
        (shifted i j l)

    value-poly : (i j l : ℕ) → IsPoly (value i j l)
    value-poly i j l = shifted-member k laws IsPoly S g refl (scaled rows' columns' constants' i j l) (value i j l)
        (shifted i j l)

    -- the scaled coordinates, as polynomials
    abbrev item : ℕ → List E
    item p = (value (p / n / n) (p / n % n) (p % n)).0

    abbrev pub exact : List (List E)
    exact = table (n * n * n) item

    exact-at : (p : ℕ) → p < n * n * n → get_or exact p [] ≡ item p
    exact-at p l = get_or-table (n * n * n) item p [] l

    item-is : (p : ℕ) → as_fraction o (item p) ≡ value (p / n / n) (p / n % n) (p % n)
    item-is p = ap (λ v. (item p, v)) (sym (value-poly (p / n / n) (p / n % n) (p % n)))

    item-polynomial : (p : ℕ) → IsPolynomialList o (item p)
    item-polynomial p =
        let l = lowest_of_elem o L (value (p / n / n) (p / n % n) (p % n))
        (value-elem (p / n / n) (p / n % n) (p % n)) in
        record { over = l.numerator_over; trimmed = l.numerator_trimmed }

    exact-value : (i j l : ℕ) → i < n → j < n → l < n
        → as_fraction o (get_or exact ((i * n + j) * n + l) []) ≡ value i j l
    exact-value i j l i_in j_in l_in =
        let p = (i * n + j) * n + l in
        let row : p / n ≡ i * n + j = div-mul-add (i * n + j) n l l_in in
        ap (as_fraction o) (exact-at p (pair-lt (n * n) n (i * n + j) l (pair-lt n n i j i_in j_in) l_in))
        ∙ item-is p
        ∙ ap (λ z. value (z / n) (z % n) (p % n)) row
        ∙ ap₂ (λ a b. value a b (p % n)) (div-mul-add i n j j_in) (mod-mul-add i n j j_in)
        ∙ ap (value i j) (mod-mul-add (i * n + j) n l l_in)

    pub exact-coordinates : AreScaledCoordinates o L n rows columns constants exact
    exact-coordinates = record {
      count = length-table (n * n * n) item;
      polynomials = λ p l. subst (IsPolynomialList o) (sym (exact-at p l)) (item-polynomial p);
      values = exact-value;
    }

    -- those by the remainders are congruent to them
    module _ (scale : List E) (hs : IsPolynomialList o scale) (ns : scale ≢ [])
        (integral : IsIntegralAt o (Finite m) (fraction_over o L scale part)) (items : List (List E))
        (I : AreScaledCoordinates o L n rows' columns' constants' items) where
      pub exact-congruent : (p : ℕ) → p < n * n * n
          → AreCongruentOver o L m scale (get_or items p []) (get_or exact p [])
      exact-congruent p l =
          let i = first_digit n p l in
          let j = second_digit n p l in
          let t = third_digit n p l in
          let h = shifted i j t in
          let a : Elem k = (scaled rows' columns' constants' i j t, h.elem) in
          let over : Elem k = (fraction_over o L scale part, over-elem o L scale hs ns part hp) in
          let inverse : Elem k = F.inv (up scale hs) in
          let P = R.at_place in
          let T = P.subring in
          let q = h.quotient in
          let item-value : as_fraction o (get_or items p []) ≡ a.0 =
          ap (λ z. as_fraction o (get_or items z [])) (sym (by_digits n p l))
          ∙ I.values i j t (first_in n p l) (second_in n p l) (third_in n p l) in
          record {
            quotient = (F.◌⊗◌ q over).0;
            elem = (F.◌⊗◌ q over).1;
            integral = T.mul_in q over (poly_loc o L laws m s q h.quotient_in) integral;
            value = ap (λ z. fraction_over o L scale (get_or exact z [])) (sym (by_digits n p l))
                ∙ ap (λ z. k.mul z inverse.0) (exact-value i j t (first_in n p l) (second_in n p l) (third_in n p l)
                ∙ h.shift ∙ ap (λ z. k.add a.0 (k.mul q.0 z)) (as_fraction-mul o L part m modulus hp s.polynomial hm product))
                ∙ ap (λ (z : Elem k). z.0) (ring5 F.cring
                (λ a q p m i. ((a ⊞ (q ⊠ (p ⊠ m))) ⊠ i, (a ⊠ i) ⊞ (m ⊠ (q ⊠ (p ⊠ i))))) refl
                a q (up part hp) (up m s.polynomial) inverse)
                ∙ ap (λ z. k.add (k.mul z inverse.0) (k.mul (as_fraction o m) (F.◌⊗◌ q over).0)) (sym item-value);
          }
