-- Matrices over a field and over the residue field of a valuation ring of it.
use Rattle.std.specs.Prelude.{◌≡◌, ◌≢◌, ◌<◌, ℕ, List}
use Rattle.theory_rings.specs.Ops.{Ops, IsElem, FieldLaws}
use Rattle.theory_rings.specs.Elements.{Elem, elements}
use Rattle.theory_spaces.specs.Valuation.{ValuationOn, IsIntegral}
use Rattle.theory_spaces.specs.Tuples.{IsTuple, tuple_zero, tuple_scale}
use Rattle.theory_tables.specs.Matrix.{entry, IsMatrix}
use Rattle.theory_tables.specs.Subspace.{IsKilled}
use Rattle.theory_residue.specs.Residue.{ResidueOn}

module _ {E : Type 0} (o : Ops E) (h w : ℕ) (a : List (List E)) where
  -- the matrix with h rows and w columns sends 0 alone to 0
  abbrev pub KernelIsZero : Type 0
  KernelIsZero = (v : List E) → IsTuple o w v → IsKilled o h w a v → v ≡ tuple_zero o w

  -- what it sends to 0 are multiples of e
  abbrev pub KernelIsOnLine : List E → Type 0
  KernelIsOnLine e = (v : List E) → IsTuple o w v → IsKilled o h w a v
      → (c : E) × IsElem o c × (v ≡ tuple_scale o w c e)

module _ {E R : Type 0} (o : Ops E) (L : FieldLaws o) (r : Ops R) (N : FieldLaws r)
    (Z : ValuationOn (elements o L)) (q : Elem o) (D : ResidueOn (elements o L) Z q (elements r N)) where
  -- the entries of a, with h rows and w columns, are integral, and those of b are their residues
  pub record IsResidueMatrix (h w : ℕ) (a : List (List E)) (b : List (List R)) : Type 0 where
    pub shape : IsMatrix o w a
    pub integral : (i j : ℕ) → i < h → j < w → (x : Elem o) → x.0 ≡ entry o a i j → IsIntegral (elements o L) Z x
    pub residue : (i j : ℕ) → i < h → j < w → (x : Elem o) → x.0 ≡ entry o a i j → (D.res x).0 ≡ entry r b i j

  -- where the matrix of the residues sends 0 alone to 0, so does the matrix; where it sends to 0 multiples of one
  -- vector alone, the matrix sends to 0 multiples of each vector, not 0, that it sends to 0
  pub record KernelByResidues (h w : ℕ) (a : List (List E)) (b : List (List R)) : Type 0 where
    pub zero : KernelIsZero r h w b → KernelIsZero o h w a
    pub line : (g : List R) → IsTuple r w g → KernelIsOnLine r h w b g
        → (u : List E) → IsTuple o w u → IsKilled o h w a u → u ≢ tuple_zero o w → KernelIsOnLine o h w a u

  abbrev pub KernelsByResidues : Type 0
  KernelsByResidues = (h w : ℕ) (a : List (List E)) (b : List (List R)) → IsResidueMatrix h w a b
      → KernelByResidues h w a b
