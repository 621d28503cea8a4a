-- An order of tuples modulo a monic irreducible polynomial, and the preimages of its ideals, by what a program computes.
-- (Reiner, Maximal Orders, sections 6 and 39.)
use Rattle.std.specs.Prelude.{◌≡◌, ◌<◌, ◌*◌, ℕ, List, [], length, get_or}
use Rattle.theory_rings.specs.Ops.{Ops, IsElem, FieldLaws}
use Rattle.theory_spaces.specs.Tuples.{IsTuple, constant}
use Rattle.theory_tables.specs.Structure.{Structure, IsOver, IsAssociative}
use Rattle.theory_fractions.specs.Fraction.{Pair}
use Rattle.theory_fractions.specs.FractionOps.{fraction_ops}
use Rattle.theory_remainders.specs.RemainderOps.{remainder_ops}
use Rattle.theory_remainders.proofs.RemainderField.{monic}
use Rattle.theory_places.specs.Places.{Finite}
use Rattle.theory_places.specs.FractionPlaces.{IsIntegralAt, IsMonicIrreducible, fractions}
use Rattle.theory_reductions.specs.Reductions.{IsResidueOf}
use Rattle.theory_bases.specs.TupleLattices.{SpanOrder}
use Rattle.theory_bases.specs.Bases.{BasisForm, IsPolynomialFraction, fraction_over, tuples_of}
use Rattle.theory_left_orders.specs.FractionResidues.{ResidueRingsBy}
use Rattle.theory_left_orders.specs.TupleResidues.{AreProductCoordinates}
use Rattle.theory_left_orders.specs.TupleIdeals.{IsPreimage}
use Rattle.spl_field.specs.declared.small.SmallField.{SmallField}
use Rattle.spl_field.specs.SmallField.{small_ops, small_laws}
use Rattle.spl_residue.specs.declared.field.ResidueField.{ResidueField}
use Rattle.spl_residue.specs.Residue.{field_of, polynomial_of, residue_ops}

module _ {E : Type 0} (o : Ops E) (L : FieldLaws o) (m : List E) where
  -- the constants are the residues at m, by the operations r on remainders, of the coordinates of the products of the
  -- tuples
  pub record AreProductResidues (r : Ops (List E)) (A : Structure (Pair E)) (tuples : List (List (Pair E)))
      (constants : List (List E)) : Type 0 where
    pub shape : IsTuple r (A.dim * A.dim * A.dim) constants
    pub coordinate : ℕ → ℕ → ℕ → Pair E
    pub coordinates : AreProductCoordinates (fraction_ops o L) A tuples coordinate
    pub residues : (i j l : ℕ) → i < A.dim → j < A.dim → l < A.dim
        → IsResidueOf o m r (coordinate i j l) (constant r A.dim constants i j l)

  -- the tuples out span the preimage of what the rows span, at m where the tuples span an order there, and over the
  -- polynomials where they span an order over these
  pub record ArePreimages (s : IsMonicIrreducible o m) (A : Structure (Pair E)) (tuples : List (List (Pair E)))
      (constants : List (List E)) (rows : List (List (List E))) (out : List (List (Pair E))) : Type 0 where
    pub at_place : (let r = remainder_ops o L m (monic o L m s.irreducible) in
        (M : FieldLaws (fraction_ops o L)) (N : FieldLaws r) (R : ResidueRingsBy o L M m r N)
        → SpanOrder (fraction_ops o L) A (IsIntegralAt o (Finite m)) tuples
        → IsPreimage (fraction_ops o L) M (IsIntegralAt o (Finite m)) R.p (let K = fractions o L M in K.inv R.p) r N
        R.at_place A tuples constants rows out)
    pub polynomials : (let r = remainder_ops o L m (monic o L m s.irreducible) in
        (M : FieldLaws (fraction_ops o L)) (N : FieldLaws r) (R : ResidueRingsBy o L M m r N)
        → SpanOrder (fraction_ops o L) A (IsPolynomialFraction o) tuples
        → IsPreimage (fraction_ops o L) M (IsPolynomialFraction o) R.p (let K = fractions o L M in K.inv R.p) r N
        R.polynomials A tuples constants rows out)

module _ {E : Type 0} (o : Ops E) (L : FieldLaws o) where
  -- n residues at m, by the operations r on remainders: those of the first n polynomials over d
  pub record AreResiduesOver (m : List E) (r : Ops (List E)) (d : List E) (items : List (List E)) (n : ℕ)
      (residues : List (List E)) : Type 0 where
    pub count : length residues ≡ n
    pub elements : (p : ℕ) → p < n → IsElem r (get_or residues p [])
    pub values : (p : ℕ) → p < n → IsResidueOf o m r (fraction_over o L d (get_or items p [])) (get_or residues p [])

-- k is the field of the remainders by m over a field with the operations of f
pub record IsResidueField (f : SmallField) (m : List ℕ) (k : ResidueField) : Type 0 where
  pub operations : small_ops (field_of k) ≡ small_ops f
  pub polynomial : polynomial_of k ≡ m

-- B is the order that the tuples span modulo m, on the images of the tuples, over the residue field k
pub record IsResidueAlgebra (f : SmallField) (A : Structure (Pair ℕ)) (tuples : List (List (Pair ℕ))) (m : List ℕ)
    (k : ResidueField) (B : Structure (List ℕ)) : Type 0 where
  pub field : IsResidueField f m k
  pub dim : B.dim ≡ A.dim
  pub products : AreProductResidues (small_ops f) (small_laws f) m (residue_ops k) A tuples B.constants

-- where B is the order of the tuples modulo the polynomial of k, out spans the preimage of what the rows span
abbrev pub LiftsIdeal : SmallField → BasisForm ℕ → ResidueField → Structure (List ℕ) → List (List (List ℕ))
    → BasisForm ℕ → Type 0
LiftsIdeal f order k B rows out =
    let o = small_ops f in
    let L = small_laws f in
    (A : Structure (Pair ℕ)) → IsOver (fraction_ops o L) A → IsAssociative (fraction_ops o L) A
    → IsResidueAlgebra f A (tuples_of o L order) (polynomial_of k) k B → (s : IsMonicIrreducible o (polynomial_of k))
    → ArePreimages o L (polynomial_of k) s A (tuples_of o L order) B.constants rows (tuples_of o L out)
