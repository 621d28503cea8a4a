-- Images of lattices of tuples, inside that of an order, modulo a monic irreducible polynomial. (Reiner, Maximal
-- Orders, sections 6 and 39.)
use Rattle.std.specs.Prelude.{◌≡◌, ◌<◌, ℕ, List, length}
use Rattle.theory_rings.specs.Ops.{Ops, IsElem, FieldLaws}
use Rattle.theory_rings.specs.Sum.{sum_of}
use Rattle.theory_tables.specs.Matrix.{entry, IsMatrix}
use Rattle.theory_tables.specs.Subspace.{SameSpan}
use Rattle.theory_fractions.specs.Fraction.{Pair}
use Rattle.theory_fractions.specs.FractionOps.{fraction_ops}
use Rattle.theory_reductions.specs.Reductions.{IsResidueOf}

module _ {E : Type 0} (o : Ops E) (L : FieldLaws o) (m : List E) (r : Ops (List E)) (n : ℕ)
    (order inside : List (List (Pair E))) where
  -- the n rows are the residues at m, by the operations r on remainders, of weights that combine the n tuples of the
  -- order to the n tuples inside
  pub record AreCoordinateResidues (rows : List (List (List E))) : Type 0 where
    pub count : length rows ≡ n
    pub shape : IsMatrix r n rows
    pub coordinate : ℕ → ℕ → Pair E
    pub elements_of : (i l : ℕ) → IsElem (fraction_ops o L) (coordinate i l)
    pub combines : (i c : ℕ) → i < n → c < n → (let K : Ops (Pair E) = fraction_ops o L in
        entry K inside i c ≡ sum_of K n (λ l. K.mul (coordinate i l) (entry K order l c)))
    pub residues : (i l : ℕ) → i < n → l < n → IsResidueOf o m r (coordinate i l) (entry r rows i l)

  -- the rows of the image span what such residues span
  pub record IsImageOf (image : List (List (List E))) : Type 0 where
    pub rows : List (List (List E))
    pub residues : AreCoordinateResidues rows
    pub spans : SameSpan r n image rows
