-- The rows of a lattice of tuples are in it; a lattice whose rows are in another is within that.
use Rattle.std.specs.Prelude.{◌<◌, ℕ, List, [], length, get_or}
use Rattle.std.proofs.Common.{sym, subst}
use Rattle.theory_rings.specs.Ring.{FieldOn}
use Rattle.theory_rings.specs.Ops.{Ops, FieldLaws}
use Rattle.theory_rings.specs.Elements.{Elem, elements}
use Rattle.theory_spaces.specs.Lattice.{IsSubring}
use Rattle.theory_spaces.specs.Sets.{Within}
use Rattle.theory_spaces.proofs.Linear.LatticeSpans.{span-member, span_trans}
use Rattle.theory_spaces.proofs.Tuples.Tuples.{tuples}
use Rattle.theory_tables.specs.Matrix.{IsMatrix}
use Rattle.theory_tables.proofs.Algebras.Bridge.{row, row-is, as_tuple}
use Rattle.theory_bases.specs.TupleLattices.{TupleLattice}
use Rattle.theory_bases.proofs.LatticeBridge.{to_lattice, from_lattice}

module _ {E : Type 0} (o : Ops E) (L : FieldLaws o) (P : E → Type 0)
    (sub : IsSubring (let K = elements o L in K.ring) (λ (c : Elem o). P c.0)) (n : ℕ) where
  abbrev K : FieldOn (Elem o)
  K = elements o L

  abbrev Q : Elem o → Type 0
  Q c = P c.0

  pub lattice_member : (rows : List (List E)) → IsMatrix o n rows → (i : ℕ) → i < length rows
      → TupleLattice o P n rows (get_or rows i [])
  lattice_member rows shape i l = subst (TupleLattice o P n rows) (row-is o L n rows shape i l)
      (from_lattice o L P n rows (row o L n rows shape) (row-is o L n rows shape) (row o L n rows shape i)
      (span-member K Q sub (tuples o L n) (length rows) (row o L n rows shape) i l))

  pub lattice_within : (a b : List (List E)) → IsMatrix o n a → IsMatrix o n b
      → ((i : ℕ) → i < length a → TupleLattice o P n b (get_or a i []))
      → Within (TupleLattice o P n a) (TupleLattice o P n b)
  lattice_within a b ha hb h x hx =
      let v = row o L n a ha in
      let w = row o L n b hb in
      let y = as_tuple o L n x hx.0 in
      from_lattice o L P n b w (row-is o L n b hb) y
      (span_trans K Q sub (tuples o L n) (length b) w (length a) v
      (λ i l. to_lattice o L P n b w (row-is o L n b hb) (v i)
      (subst (TupleLattice o P n b) (sym (row-is o L n a ha i l)) (h i l)))
      y (to_lattice o L P n a v (row-is o L n a ha) y hx))
