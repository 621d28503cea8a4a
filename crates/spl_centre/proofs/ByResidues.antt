-- Centre and trace form of an algebra by those of the algebra with the residues of its multiplied constants.
use Rattle.std.specs.Prelude.{◌≢◌, ◌<◌, ◌≤◌, ◌*◌, ◌/◌, ◌%◌, ℕ, List}
use Rattle.std.proofs.Common.{◌∙◌, ap}
use Rattle.theory_rings.specs.Ops.{Ops, IsElem, FieldLaws}
use Rattle.theory_rings.specs.Elements.{Elem, elements}
use Rattle.theory_rings.specs.Sum.{at}
use Rattle.theory_rings.proofs.Rings.Elements.{at-elem, sum_of-elem}
use Rattle.theory_spaces.specs.Valuation.{ValuationOn}
use Rattle.theory_spaces.specs.Tuples.{tuple_zero, tuple_scale, basis, product, constant}
use Rattle.theory_spaces.proofs.Tuples.Tuples.{at-table}
use Rattle.theory_spaces.proofs.Tuples.TupleProducts.{IsTuple-basis, IsTuple-product}
use Rattle.theory_spaces.proofs.Matrices.PairIndex.{row-lt, column-lt}
use Rattle.theory_tables.specs.Matrix.{entry, IsMatrix}
use Rattle.theory_tables.specs.Subspace.{IsKilled}
use Rattle.theory_tables.specs.Structure.{Structure, IsOver, IsAssociative}
use Rattle.theory_tables.specs.Algebras.{IsIdentity, IsCentral, HasSmallCentre}
use Rattle.theory_tables.specs.Traces.{trace, trace_matrix, IsNondegenerate}
use Rattle.theory_tables.proofs.Rows.Sums.{entry_table, table_matrix}
use Rattle.theory_tables.proofs.Algebras.TraceRadical.{trace_radical}
use Rattle.theory_residue.specs.Residue.{ResidueOn}
use Rattle.theory_constants.specs.Scaled.{scaled}
use Rattle.theory_constants.specs.ScalingLaws.{KeepsByScaling}
use Rattle.theory_constants.proofs.Scaling.{scaling_law}
use Rattle.theory_constants.specs.Residues.{KernelIsZero, KernelIsOnLine, KernelByResidues}
use Rattle.theory_constants.proofs.Residues.{kernels_by_residues}
use Rattle.spl_centre.proofs.HasResidues.{HasResidue, carried, has-add, has-neg, has-constant, has-form}
use Rattle.spl_centre.proofs.HasResidues.{residue_matrix}
use Rattle.spl_algebra.specs.Contractions.{commutator_item, commutator_rows}
use Rattle.spl_algebra.proofs.Contractions.{constant-elem}
use Rattle.spl_algebra.proofs.Commutators.{kernel-central}
use Rattle.spl_centre.specs.Line.{CentreIsOnLine}
use Rattle.spl_centre.proofs.Multiples.{one_central, one_nonzero}

module _ {E : Type 0} (o : Ops E) (L : FieldLaws o) (A : Structure E) (over : IsOver o A) where
  abbrev m : ℕ
  m = A.dim

  form_shape : IsMatrix o m (trace_matrix o A)
  form_shape =
      let P = IsTuple-product o L m A.constants over.of_elements in
      let e = IsTuple-basis o L m A.constants over.of_elements in
      table_matrix o L m m (λ i j. trace o A (product o m A.constants (basis o m i) (basis o m j))) (λ i j.
      let x = product o m A.constants (basis o m i) (basis o m j) in
      sum_of-elem o L m (λ l. at o (product o m A.constants x (basis o m l)) l) (λ l _.
      let t = P x (basis o m l) (P (basis o m i) (basis o m j) (e i) (e j)) (e l) in
      at-elem o L (product o m A.constants x (basis o m l)) t.of_elements l))

  commutator_shape : IsMatrix o m (commutator_rows o m A.constants)
  commutator_shape = table_matrix o L (m * m) m (λ r. commutator_item o m A.constants (r / m) (r % m)) (λ r j.
      let c = constant-elem o L m A.constants over.of_elements in
      L.add-elem (constant o m A.constants j (r / m) (r % m)) (o.neg (constant o m A.constants (r / m) j (r % m)))
      (c j (r / m) (r % m)) (L.neg-elem (constant o m A.constants (r / m) j (r % m)) (c (r / m) j (r % m))))

module _ {E R : Type 0} (o : Ops E) (L : FieldLaws o) (r : Ops R) (N : FieldLaws r)
    (Z : ValuationOn (elements o L)) (q : Elem o) (D : ResidueOn (elements o L) Z q (elements r N))
    (A : Structure E) (over : IsOver o A) (assoc : IsAssociative o A) (c : E) (hc : IsElem o c) (c-ne : c ≢ o.zero)
    (ds : List R)
    (has : (p : ℕ) → p < A.dim * A.dim * A.dim
    → HasResidue o L r N Z q D (at o (tuple_scale o (A.dim * A.dim * A.dim) c A.constants) p) (at r ds p)) where
  abbrev n : ℕ
  n = A.dim

  -- the algebra with multiplied constants, and that with their residues
  abbrev S : Structure E
  S = scaled o c A

  abbrev B : Structure R
  B = record { dim = A.dim; constants = ds }

  abbrev cs : List E
  cs = S.constants

  keeps : KeepsByScaling o A c
  keeps = scaling_law o L A over c hc c-ne

  -- ---- the trace form

  form : KernelByResidues o L r N Z q D n n (trace_matrix o S) (trace_matrix r B)
  form = kernels_by_residues o L r N Z q D n n (trace_matrix o S) (trace_matrix r B)
      (residue_matrix o L r N Z q D n n (trace_matrix o S) (trace_matrix r B) (form_shape o L S keeps.over)
      (has-form o L r N Z q D n cs ds has))

  pub nondegenerate_by_residues : KernelIsZero r n n (trace_matrix r B) → IsNondegenerate o A
  nondegenerate_by_residues none = keeps.nondegenerate.1 (λ a h. form.zero none a h.tuple
      (((trace_radical o L S keeps.over scaled_assoc).kernel a h.tuple).0 h))
    where
      scaled_assoc : IsAssociative o S
      scaled_assoc i j k hi hj hk = (keeps.triple i j k).0 (assoc i j k hi hj hk)

  -- ---- the centre

  abbrev a : List (List E)
  a = commutator_rows o n cs

  abbrev b : List (List R)
  b = commutator_rows r n ds

  item : (i j k : ℕ) → i < n → j < n → k < n
      → HasResidue o L r N Z q D (commutator_item o n cs i k j) (commutator_item r n ds i k j)
  item i j k hi hj hk =
      let x = has-constant o L r N Z q D n cs ds has j i k hj hi hk in
      let y = has-constant o L r N Z q D n cs ds has i j k hi hj hk in
      has-add o L r N Z q D (constant o n cs j i k) (o.neg (constant o n cs i j k)) (constant r n ds j i k)
      (r.neg (constant r n ds i j k)) x (has-neg o L r N Z q D (constant o n cs i j k) (constant r n ds i j k) y)

  commutators : KernelByResidues o L r N Z q D (n * n) n a b
  commutators = kernels_by_residues o L r N Z q D (n * n) n a b
      (residue_matrix o L r N Z q D (n * n) n a b (commutator_shape o L S keeps.over) (λ i j hi hj.
      carried o L r N Z q D (commutator_item o n cs (i / n) (i % n) j) (entry o a i j)
      (commutator_item r n ds (i / n) (i % n) j) (entry r b i j)
      (entry_table o L (n * n) n (λ i. commutator_item o n cs (i / n) (i % n)) i j hi hj)
      (entry_table r N (n * n) n (λ i. commutator_item r n ds (i / n) (i % n)) i j hi hj)
      (item (i / n) j (i % n) (row-lt n n i hi) hj (column-lt n n i hi))))

  -- the central elements of A are what the commutators of S send to 0
  killed : (v : List E) → IsCentral o A v → IsKilled o (n * n) n a v
  killed v h = (kernel-central o L n cs keeps.over.of_elements v h.tuple).1 (keeps.central.0 v h)

  pub small_centre_by_residues : 1 ≤ n → IsOver r B → (one : List E) → IsIdentity o A one → CentreIsOnLine r B
      → HasSmallCentre o A
  small_centre_by_residues some residues_over one is_one s = record {
    one = one;
    is_one = is_one;
    multiple = λ v h.
        let x = commutators.line s.along s.tuple line one is_one.tuple (killed one (one_central o L A over.of_elements
        assoc one is_one)) nonzero v h.tuple (killed v h) in
        record { factor = x.0; of_field = x.1; is_multiple = x.2 };
  }
    where
      line : KernelIsOnLine r (n * n) n b s.along
      line v hv e =
          let x = s.multiple v ((kernel-central r N n ds residues_over.of_elements v hv).0 e) in
          (x.factor, x.of_field, x.is_multiple)

      nonzero : one ≢ tuple_zero o n
      nonzero e = one_nonzero o L A over.of_elements assoc one is_one some
          (λ j j_in. ap (λ xs. at o xs j) e ∙ at-table o n (λ _. o.zero) j j_in)
