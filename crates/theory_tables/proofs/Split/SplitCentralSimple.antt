-- An algebra that n by n matrices split is central simple.
use Rattle.theory_rings.specs.Ops.{Ops, FieldLaws}
use Rattle.theory_rings.specs.Elements.{elements}
use Rattle.theory_rings.proofs.Rings.Fields.{field_set}
use Rattle.theory_spaces.proofs.Matrices.MatrixAlgebra.{matrix_algebra_is, matrices_central_simple}
use Rattle.theory_spaces.proofs.Algebras.Isomorphisms.{iso_central_simple}
use Rattle.theory_tables.specs.Structure.{Structure}
use Rattle.theory_tables.specs.Laws.{SplitIsCentralSimple}
use Rattle.theory_tables.proofs.Algebras.Bridge.{from_central_simple}
use Rattle.theory_tables.proofs.Split.Splittings.{split_one, split_one_is, split_associative, rep, split_algebra}
use Rattle.theory_tables.proofs.Split.Splittings.{split_isomorphism, B}

module _ {E : Type 0} (o : Ops E) (L : FieldLaws o) (T : Structure E) where
  pub split_is_central_simple : SplitIsCentralSimple o T
  split_is_central_simple table n positive S =
      let h = table.of_elements in
      let K = elements o L in
      let N = B o L T h n S.maps S.by in
      let A = split_algebra o L T h n S.maps S.by in
      from_central_simple o L T h (split_associative o L T h n S.maps S.by)
      (split_one o L T h n S.maps S.by).0 (split_one_is o L T h n S.maps S.by)
      (iso_central_simple A N (rep o L T h n S.maps S.by) (split_isomorphism o L T h n S.maps S.by)
      (matrices_central_simple K n N (matrix_algebra_is K.cring (field_set K) n)))
