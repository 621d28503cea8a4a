-- A residue field is a field of q^d elements, where the small field has q and the modulus has degree d; and its
-- characteristic is that of the small field. Its constants and the class of the variable, by their remainders.
use Rattle.std.specs.Prelude.{◌≡◌, ◌⊎◌, ◌<◌, ◌≤◌, ◌*◌, ◌^◌, ℕ, zero, suc, List, [], ◌∷◌, length, get_or}
use Rattle.std.proofs.Common.{refl, sym, ◌∙◌, ap, inl, inr, ⊎_elim, arith}
use Rattle.std.proofs.lemmas.Bool.{ltb-true, lt-ltb, cases_lt}
use Rattle.theory_rings.specs.Ring.{FieldOn}
use Rattle.theory_rings.specs.Ops.{IsElem, FieldLaws}
use Rattle.theory_rings.specs.Elements.{Elem, Elem-path, elements}
use Rattle.theory_rings.specs.Prime.{IsPrime}
use Rattle.theory_rings.specs.Power.{times, times_of}
use Rattle.theory_rings.specs.Enumerated.{Enumerated}
use Rattle.theory_rings.specs.FieldByDigits.{IsFieldByDigits}
use Rattle.theory_rings.specs.Sum.{at}
use Rattle.theory_rings.specs.Polynomial.{Poly, coefficient, degree, constant_coefficients, variable_coefficients}
use Rattle.theory_rings.proofs.Polynomials.PolynomialRing.{constant, coefficient-constant, get_or-trim}
use Rattle.theory_rings.proofs.Polynomials.Constants.{variable, variable_unique}
use Rattle.theory_fractions.proofs.Lifting.{HasCoefficients}
use Rattle.theory_fractions.proofs.ListPolynomials.{has_polynomial_of}
use Rattle.theory_fractions.specs.FractionOps.{polynomial_of as polynomial}
use Rattle.std.proofs.lemmas.List.Elements.{All-nil, All-cons}
use Rattle.theory_remainders.proofs.RemainderValues.{of_elem, of_remainder}
use Rattle.theory_rings.proofs.FiniteFields.ElementsByDigits.{prime_by_digits, characteristic_by_digits}
use Rattle.theory_lifts.proofs.ResidueRoots.{pow_of_pow}
use Rattle.theory_remainders.proofs.RemainderField.{remainder_laws, to_list, to_list-of_list}
use Rattle.spl_field.specs.SmallField.{small_ops, small_laws, characteristic, size_of}
use Rattle.spl_field.specs.TableField.{is_field_by_digits}
use Rattle.spl_field.specs.declared.small.SmallField.{SmallField}
use Rattle.spl_residue.specs.declared.field.ResidueField.{ResidueField}
use Rattle.spl_residue.specs.Residue.{residue_ops, field_of, polynomial_of}
use Rattle.spl_blocks.proofs.Remainders.{D, numbers, size-numbers, times_one, of_poly, of_constant}
use Rattle.spl_blocks.specs.Classes.{IsClassOf, AreConstants}
use Rattle.spl_poly.specs.Operations.{without_zeros}
use Rattle.spl_poly.proofs.Trimming.{number_test}

module _ (f : SmallField) where
  by_digits : IsFieldByDigits (characteristic f) f.modulus.items (small_ops f)
  by_digits = is_field_by_digits f.p f.least f.modulus.items f.some_number f.size f.power f.sums.items f.negatives.items
      f.products.items f.inverses.items f.sums_are f.negatives_below f.negatives_are f.products_are f.inverses_below
      f.inverses_are

  pub small_prime : IsPrime (characteristic f)
  small_prime = prime_by_digits f.p f.least f.modulus.items f.some_number (small_ops f) by_digits

  pub small_char : times_of (small_ops f) (characteristic f) (let o = small_ops f in o.one)
      ≡ (let o = small_ops f in o.zero)
  small_char = characteristic_by_digits f.p f.least f.modulus.items f.some_number (small_ops f) by_digits

module _ (f : SmallField) where
  abbrev pub chosen : (i : ℕ) → (i < size_of f) ⊎ (size_of f ≤ i) → Elem (small_ops f)
  chosen i c = ⊎_elim (λ (l : i < size_of f). (i, lt-ltb i (size_of f) l))
      (λ (l : size_of f ≤ i). let L = small_laws f in let o = small_ops f in (o.zero, L.zero-elem)) c

  pub chosen-is : (i : ℕ) (c : (i < size_of f) ⊎ (size_of f ≤ i)) → i < size_of f → (chosen i c).0 ≡ i
  chosen-is i (inl l) g = refl
  chosen-is i (inr l) g = absurd (omega (arith, l, g))

  -- the elements of a small field are numbered by themselves
  abbrev pub members : Enumerated (Elem (small_ops f))
  members = record {
    size = size_of f;
    member = λ i. chosen i (cases_lt i (size_of f));
    number = λ x. x.0;
    number-lt = λ x. ltb-true x.0 (size_of f) x.1;
    member-number = λ x. Elem-path (small_ops f) (chosen x.0 (cases_lt x.0 (size_of f))) x
        (chosen-is x.0 (cases_lt x.0 (size_of f)) (ltb-true x.0 (size_of f) x.1));
    number-member = λ i l. chosen-is i (cases_lt i (size_of f)) l;
  }

module _ (k : ResidueField) where
  -- the laws of the field of the remainders
  abbrev pub residue_field_laws : FieldLaws (residue_ops k)
  residue_field_laws = remainder_laws (small_ops k.field) (small_laws k.field) k.modulus k.irreducible

  abbrev pub G : FieldOn (Elem (residue_ops k))
  G = D (small_ops k.field) (small_laws k.field) k.modulus k.irreducible

  -- the elements of the residue field are numbered
  abbrev pub residue_numbers : Enumerated (Elem (residue_ops k))
  residue_numbers = numbers (small_ops k.field) (small_laws k.field) k.modulus k.irreducible (members k.field)

  pub size-residues : residue_numbers.size ≡ size_of (field_of k) ^ degree (polynomial_of k)
  size-residues = size-numbers (small_ops k.field) (small_laws k.field) k.modulus k.irreducible (members k.field)

  -- a power of the characteristic
  pub power-residues : residue_numbers.size
      ≡ characteristic (field_of k) ^ (length k.field.modulus.items * degree k.modulus)
  power-residues = size-residues
      ∙ (let f = k.field in ap (λ n. n ^ degree k.modulus) f.power
      ∙ pow_of_pow f.p (length f.modulus.items) (degree k.modulus))

  pub residue_char : times G.monoid (characteristic (field_of k)) G.one ≡ G.zero
  residue_char = times_one (small_ops k.field) (small_laws k.field) k.modulus k.irreducible (characteristic k.field)
      (small_char k.field)

  -- ---- classes of polynomials

  abbrev C : FieldOn (Elem (small_ops k.field))
  C = elements (small_ops k.field) (small_laws k.field)

  class-is : (P : Poly C.cring) (p r : List ℕ) → HasCoefficients (small_ops k.field) (small_laws k.field) P
      (at (small_ops k.field) p)
      → IsClassOf k p r → r ≡ (of_poly (small_ops k.field) (small_laws k.field) k.modulus k.irreducible P).0
  class-is P p r h c =
      let o = small_ops k.field in
      let L = small_laws k.field in
      let is = of_elem o L k.modulus k.irreducible r c.elem in
      sym (to_list-of_list o L k.modulus k.irreducible r is)
      ∙ ap (to_list o L k.modulus k.irreducible)
      (of_remainder o L k.modulus k.irreducible P (at o p) h r is.polynomial c.remainder)

  constant-at : (c j : ℕ) → c < size_of k.field → at (small_ops k.field) (without_zeros (c ∷ [])) j
      ≡ (coefficient C.cring (constant C.cring C.zero_test (let N = members k.field in N.member c)) j).0
  constant-at c j l =
      let N = members k.field in
      get_or-trim number_test (c ∷ []) j ∙ go j
      ∙ sym (ap (λ (x : Elem (small_ops k.field)). x.0) (coefficient-constant C.cring C.zero_test (N.member c) j))
    where
      go : (j : ℕ) → get_or (c ∷ []) j 0
          ≡ (constant_coefficients C.zero (let N = members k.field in N.member c) j).0
      go zero = let N = members k.field in sym (N.number-member c l)
      go (suc j) = refl

  pub constant-is : (list : List (List ℕ)) → AreConstants k list → (c : ℕ) → c < size_of k.field
      → at (residue_ops k) list c
      ≡ (of_constant (small_ops k.field) (small_laws k.field) k.modulus k.irreducible
      (let N = members k.field in N.member c)).0
  constant-is list h c l =
      let N = members k.field in
      class-is (constant C.cring C.zero_test (N.member c)) (without_zeros (c ∷ [])) (at (residue_ops k) list c)
      (λ j. constant-at c j l) (h.each c l)

  pub variable-is : (r : List ℕ) → IsClassOf k (0 ∷ 1 ∷ []) r
      → r ≡ (of_poly (small_ops k.field) (small_laws k.field) k.modulus k.irreducible (variable C.cring C.zero_test)).0
  variable-is r h =
      let o = small_ops k.field in
      let L = small_laws k.field in
      let p : Poly C.cring = polynomial o L (0 ∷ 1 ∷ []) in
      let has = has_polynomial_of o L (0 ∷ 1 ∷ []) (All-cons (IsElem o) 0 (1 ∷ []) L.zero-elem
      (All-cons (IsElem o) 1 [] L.one-elem (All-nil (IsElem o)))) in
      class-is p (0 ∷ 1 ∷ []) r has h
      ∙ ap (λ (y : Poly C.cring). (of_poly o L k.modulus k.irreducible y).0) (variable_unique C.cring C.zero_test p
      (λ j. Elem-path o (coefficient C.cring p j) (variable_coefficients C.zero C.one j) (sym (has j) ∙ go j)))
    where
      go : (j : ℕ) → get_or (0 ∷ 1 ∷ []) j 0 ≡ (variable_coefficients C.zero C.one j).0
      go zero = refl
      go (suc zero) = refl
      go (suc (suc j)) = refl
