-- The lift ring of a residue field: the lists of e·d numbers below p^(l + 1), number u·d + v being the coefficient at
-- x^u·t^v in (Z/p^(l + 1))[t]/(f)[x]/(g), where the field is F_q[x]/(π) with q = p^d and π of degree e, f has the
-- numbers of the modulus of F_q, and the numbers of g are the digits of the coefficients of π, made monic. (Rónyai,
-- Computing the structure of finite algebras.)
use Rattle.std.specs.Prelude.{◌≡◌, ℕ, suc, ◌-◌, ◌*◌, ◌%◌, ◌^◌, ◌<◌, List, [], length, get_or}
use Rattle.theory_rings.specs.Ring.{FieldOn, CommRingOn}
use Rattle.theory_rings.specs.Elements.{Elem, elements}
use Rattle.theory_rings.specs.Naturals.{nat_monoid}
use Rattle.theory_rings.specs.Sum.{sum, table}
use Rattle.theory_rings.specs.Polynomial.{coefficient, degree}
use Rattle.theory_rings.specs.FieldByDigits.{IsFieldByDigits}
use Rattle.theory_radical.specs.LiftRing.{LiftRingOn}
use Rattle.theory_remainders.specs.RemainderOps.{modulus_of as monic_modulus}
use Rattle.theory_lifts.proofs.ElementLifts.{residue_elements, elem_lift}
use Rattle.theory_lifts.proofs.ElementLists.{Lists, HasNumbers, digit_list, two_le_power, lift_numbers, degree-eq}
use Rattle.theory_lifts.proofs.ElementLists.{digits-eq}
use Rattle.theory_lifts.proofs.ListProducts.{top}
use Rattle.theory_chains.specs.NumberRows.{AreNumbers, AreRows}
use Rattle.theory_chains.proofs.NumberRows.{block}
use Rattle.spl_field.specs.SmallField.{small_ops, small_laws, characteristic, modulus_of}
use Rattle.spl_field.specs.TableField.{is_field_by_digits}
use Rattle.spl_field.specs.declared.small.SmallField.{SmallField}
use Rattle.spl_residue.specs.Residue.{field_of, polynomial_of, residue_ops}
use Rattle.spl_residue.specs.declared.field.ResidueField.{ResidueField}
use Rattle.spl_radical.specs.Multiples.{AreSteps}

pub small_by_digits : (f : SmallField) → IsFieldByDigits (characteristic f) (modulus_of f) (small_ops f)
small_by_digits f =
    is_field_by_digits f.p f.least f.modulus.items f.some_number f.size f.power f.sums.items f.negatives.items
    f.products.items f.inverses.items f.sums_are f.negatives_below f.negatives_are f.products_are f.inverses_below
    f.inverses_are

module _ (k : ResidueField) where
  abbrev f : SmallField
  f = field_of k

  -- the characteristic, the degree of the polynomial, and the number of digits
  abbrev pub prime_of : ℕ
  prime_of = characteristic f

  abbrev pub degree_of : ℕ
  degree_of = degree (monic_modulus (small_ops f) (small_laws f) (polynomial_of k)).0

  abbrev pub digits_of : ℕ
  digits_of = length (modulus_of f)

  -- how many numbers an element has
  abbrev pub width_of : ℕ
  width_of = degree_of * digits_of

  -- they are not 0
  abbrev pub degree_positive : degree_of ≡ suc (degree_of - 1)
  degree_positive = degree-eq (small_ops f) (small_laws f) (polynomial_of k) k.irreducible prime_of f.least
      (modulus_of f) f.some_number (small_by_digits f)

  abbrev pub digits_positive : digits_of ≡ suc (digits_of - 1)
  digits_positive = digits-eq (small_ops f) (small_laws f) (polynomial_of k) k.irreducible prime_of f.least
      (modulus_of f) f.some_number (small_by_digits f)

  -- coefficient u of the polynomial, made monic
  abbrev pub coefficient_of : ℕ → ℕ
  coefficient_of u = (coefficient (elements (small_ops f) (small_laws f)).cring
      (monic_modulus (small_ops f) (small_laws f) (polynomial_of k)) u).0

  -- the residue field on its elements
  abbrev pub residue_field : FieldOn (Elem (residue_ops k))
  residue_field = residue_elements (small_ops f) (small_laws f) (polynomial_of k) k.irreducible

  module _ (l : ℕ) where
    -- p^(l + 1)
    abbrev pub size_of : ℕ
    size_of = prime_of ^ suc l

    abbrev pub LiftNumbers : Type 0
    LiftNumbers = Lists (small_ops f) (small_laws f) (polynomial_of k) k.irreducible prime_of f.least (modulus_of f)
        f.some_number (small_by_digits f) (suc l) (two_le_power prime_of l f.least)

    abbrev pub lift_ring : LiftRingOn residue_field prime_of (suc l) LiftNumbers
    lift_ring = elem_lift (small_ops f) (small_laws f) (polynomial_of k) k.irreducible prime_of f.least (modulus_of f)
        f.some_number (small_by_digits f) (suc l) (two_le_power prime_of l f.least)

    -- the list of the digits of the coefficients of an element of the field
    abbrev pub lifted : List ℕ → LiftNumbers
    lifted = digit_list (small_ops f) (small_laws f) (polynomial_of k) k.irreducible prime_of f.least (modulus_of f)
        f.some_number (small_by_digits f) (suc l) (two_le_power prime_of l f.least)

    -- the ring of these lists
    abbrev pub ring_of : CommRingOn LiftNumbers
    ring_of = let L = lift_ring in L.ring

    -- the ring by its numbers
    abbrev pub by_numbers : HasNumbers (small_ops f) (small_laws f) (polynomial_of k) k.irreducible prime_of f.least
        (modulus_of f) f.some_number (small_by_digits f) (suc l) (two_le_power prime_of l f.least) ring_of
    by_numbers = lift_numbers (small_ops f) (small_laws f) (polynomial_of k) k.irreducible prime_of f.least
        (modulus_of f) f.some_number (small_by_digits f) (suc l) (two_le_power prime_of l f.least)

    -- element j of elements that are one after the other in a row of numbers
    abbrev pub element_of : List ℕ → ℕ → LiftNumbers
    element_of = block size_of degree_of digits_of (two_le_power prime_of l f.least) (degree_of - 1) (digits_of - 1)
        degree_positive digits_positive ring_of by_numbers.0

    -- the products of x^e by the powers of t
    abbrev pub top_of : ℕ → LiftNumbers
    top_of = top size_of degree_of digits_of (two_le_power prime_of l f.least) (degree_of - 1) (digits_of - 1)
        degree_positive digits_positive ring_of by_numbers.0

    -- the numbers of t^d, and rows of the numbers of the products of x^e by the powers of t
    pub record AreStepsOf (back : List ℕ) (turns : List (List ℕ)) : Type 0 where
      pub steps : AreSteps size_of width_of back turns
      pub digits : length back ≡ digits_of
      pub back_numbers : (v : ℕ) → v < digits_of → get_or back v 0 ≡ by_numbers.0.back v
      pub turn_numbers : (v : ℕ) → v < digits_of → get_or turns v [] ≡ (top_of v).0

    -- as many numbers as an element has, each below p^(l + 1)
    abbrev pub IsLiftElem : List ℕ → Type 0
    IsLiftElem = AreNumbers size_of width_of

    -- the list is the sum of two elements
    abbrev pub IsLiftSum : List ℕ → List ℕ → List ℕ → Type 0
    IsLiftSum a b r = (x y : LiftNumbers) → x.0 ≡ a → y.0 ≡ b → r ≡ (ring_of.◌⊕◌ x y).0

    -- the list is the product of two elements
    abbrev pub IsLiftProduct : List ℕ → List ℕ → List ℕ → Type 0
    IsLiftProduct a b r = (x y : LiftNumbers) → x.0 ≡ a → y.0 ≡ b → r ≡ (ring_of.◌⊗◌ x y).0

    -- columns by which rows are multiplied by a matrix: the sums of the products of the numbers of a row and of each
    -- column are the numbers of the sums over k of element k of the row times the elements of row k of the matrix
    pub record AreColumns (rows columns : List (List ℕ)) : Type 0 where
      pub count : length columns ≡ length rows * width_of
      pub numbers : AreRows size_of (length rows * width_of) columns
      pub product : (a : List ℕ) → AreNumbers size_of (length rows * width_of) a → (j : ℕ) → j < length rows
          → element_of (table (length rows * width_of) (λ t. sum nat_monoid (length rows * width_of)
          (λ r. get_or a r 0 * get_or (get_or columns t []) r 0) % size_of)) j
          ≡ sum ring_of.monoid (length rows) (λ k. ring_of.◌⊗◌ (element_of a k) (element_of (get_or rows k []) j))

    -- the list is an element whose residue is a
    abbrev pub IsLiftOf : List ℕ → List ℕ → Type 0
    IsLiftOf a r = (x : LiftNumbers) × (x.0 ≡ r) × ((lift_ring.down x).0 ≡ a)
