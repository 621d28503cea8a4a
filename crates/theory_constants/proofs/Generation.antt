-- What lies in the subalgebra that basis elements generate, over the residues, is the residue of an integral element of
-- the middle nucleus; so an algebra is associative where this subalgebra is everything.
use Rattle.std.specs.Prelude.{◌≡◌, ◌<◌, ◌*◌, ◌+◌, ℕ, Bool, true, false, cond, eqb, List, length, get_or}
use Rattle.std.proofs.Common.{refl, sym, ◌∙◌, ap, ap₂, subst}
use Rattle.theory_rings.specs.Ring.{FieldOn}
use Rattle.theory_rings.specs.Ops.{Ops, IsElem, FieldLaws}
use Rattle.theory_rings.specs.Elements.{Elem, Elem-path, elements}
use Rattle.theory_rings.specs.Sum.{sum, sum_of, at}
use Rattle.theory_rings.proofs.Rings.Elements.{at-elem, sum_of-elements, sum_of_congr}
use Rattle.theory_rings.proofs.Sums.Sums.{sum_congr}
use Rattle.theory_spaces.specs.Module.{ModuleOn}
use Rattle.theory_spaces.specs.Matrix.{delta}
use Rattle.theory_spaces.specs.Linear.{comb, Independent, IsSubmodule}
use Rattle.theory_spaces.specs.Space.{SpaceOn, sum2}
use Rattle.theory_spaces.specs.Valuation.{ValuationOn, IsIntegral}
use Rattle.theory_spaces.specs.Tuples.{IsTuple, Tuple, tuple_zero, tuple_add, tuple_scale, basis, constant, product}
use Rattle.theory_spaces.proofs.Linear.Families.{choose_each}
use Rattle.theory_spaces.proofs.Linear.Modules.{span_in}
use Rattle.theory_spaces.proofs.Linear.Spaces.{coords_of, full_span}
use Rattle.theory_spaces.proofs.Matrices.Matrices.{sum-delta_mul}
use Rattle.theory_spaces.proofs.Matrices.PairIndex.{pair-lt}
use Rattle.theory_spaces.proofs.Tuples.Tables.{unit, in_units, space_basis}
use Rattle.theory_spaces.proofs.Tuples.Tuples.{at-table, tuples, tuple_space, tuples-zero, tuples-add, tuples-scale}
use Rattle.theory_spaces.proofs.Tuples.TupleProducts.{IsTuple-basis}
use Rattle.theory_tables.specs.Structure.{Structure, IsOver, IsAssociative}
use Rattle.theory_tables.proofs.Algebras.Bridge.{as_tuple, IsTuple-of, comb-at, zero-at, basis-at, sum2_of-elements}
use Rattle.theory_residue.specs.Residue.{ResidueOn}
use Rattle.theory_residue.proofs.ResidueAlgebra.{res-zero, res-delta, integral-sum, res-sum2}
use Rattle.theory_constants.specs.Nucleus.{IsMiddleNuclear, NucleusFacts}
use Rattle.theory_constants.specs.Generated.{InSubalgebra, MiddlesAssociate, AreResidues}
use Rattle.theory_constants.specs.Generated.{AssociativeByResidues}
use Rattle.theory_constants.specs.Generated.{generator_in, zero_in, add_in, scale_in, mul_in}
use Rattle.theory_constants.proofs.Nucleus.{nucleus_law}
use Rattle.theory_constants.proofs.Residues.{ResiduesKill, Kills, no_kernel}

module _ {E R : Type 0} (o : Ops E) (L : FieldLaws o) (r : Ops R) (N : FieldLaws r)
    (Z : ValuationOn (elements o L)) (q : Elem o) (D : ResidueOn (elements o L) Z q (elements r N))
    (A : Structure E) (over : IsOver o A) (ds : List R)
    (residues : AreResidues o L r N Z q D (A.dim * A.dim * A.dim) A.constants ds) (by : List ℕ)
    (middles : MiddlesAssociate o A by) where
  abbrev F : FieldOn (Elem o)
  F = elements o L

  abbrev k : FieldOn (Elem r)
  k = elements r N

  abbrev n : ℕ
  n = A.dim

  abbrev cs : List E
  cs = A.constants

  abbrev B : Structure R
  B = record { dim = A.dim; constants = ds }

  abbrev In : Elem o → Type 0
  In x = IsIntegral F Z x

  facts : NucleusFacts o A
  facts = nucleus_law o L A over

  abbrev item : (a : List E) → IsTuple o n a → ℕ → Elem o
  item a ha j = (at o a j, at-elem o L a ha.of_elements j)

  -- an integral element of the middle nucleus with these residues
  record Lifts (v : List R) : Type 0 where
    pub lifted : List E
    pub nuclear : IsMiddleNuclear o A lifted
    pub integral : (j : ℕ) → j < n → (x : Elem o) → x.0 ≡ at o lifted j → In x
    pub residue : (j : ℕ) → j < n → (x : Elem o) → x.0 ≡ at o lifted j → (D.res x).0 ≡ at r v j

  -- by the items of a tuple
  lifts : (v : List R) (a : List E) → IsMiddleNuclear o A a → (f : ℕ → Elem o)
      → ((j : ℕ) → j < n → at o a j ≡ (f j).0) → ((j : ℕ) → j < n → In (f j))
      → ((j : ℕ) → j < n → (D.res (f j)).0 ≡ at r v j) → Lifts v
  lifts v a h f e i s = record {
    lifted = a;
    nuclear = h;
    integral = λ j l x p. let P : Elem o → Type 0 = In in
        subst P (sym (Elem-path o x (f j) (p ∙ e j l))) (i j l);
    residue = λ j l x p. ap (λ y. (D.res y).0) (Elem-path o x (f j) (p ∙ e j l)) ∙ s j l;
  }

  lifts-zero : Lifts (tuple_zero r n)
  lifts-zero = lifts (tuple_zero r n) (tuple_zero o n) facts.zero_in (λ _. F.zero)
      (λ j l. at-table o n (λ _. o.zero) j l) (λ j l. Z.zero_in)
      (λ j l. ap (λ (y : Elem r). y.0) (res-zero F Z q k D) ∙ sym (at-table r n (λ _. r.zero) j l))

  delta_in : (i j : ℕ) → In (delta F.ring i j)
  delta_in i j = go (eqb i j)
    where
      go : (b : Bool) → In (cond b F.one F.zero)
      go true = Z.one_in
      go false = Z.zero_in

  lifts-basis : (i : ℕ) → IsMiddleNuclear o A (basis o n i) → Lifts (basis r n i)
  lifts-basis i h = lifts (basis r n i) (basis o n i) h (λ j. delta F.ring j i)
      (λ j l. basis-at o L n i j l) (λ j l. delta_in j i)
      (λ j l. ap (λ (y : Elem r). y.0) (res-delta F Z q k D j i) ∙ sym (basis-at r N n i j l))

  lifts-add : (v w : List R) → Lifts v → Lifts w → Lifts (tuple_add r n v w)
  lifts-add v w a b =
      let ha = a.nuclear in
      let hb = b.nuclear in
      let x : ℕ → Elem o = item a.lifted ha.tuple in
      let y : ℕ → Elem o = item b.lifted hb.tuple in
      lifts (tuple_add r n v w) (tuple_add o n a.lifted b.lifted) (facts.add_in a.lifted b.lifted ha hb)
      (λ j. F.◌⊕◌ (x j) (y j))
      (λ j l. at-table o n (λ j. o.add (at o a.lifted j) (at o b.lifted j)) j l)
      (λ j l. Z.add_in (x j) (y j) (a.integral j l (x j) refl) (b.integral j l (y j) refl))
      (λ j l. ap (λ (z : Elem r). z.0)
      (D.map-add (x j) (y j) (a.integral j l (x j) refl) (b.integral j l (y j) refl))
      ∙ ap₂ r.add (a.residue j l (x j) refl) (b.residue j l (y j) refl)
      ∙ sym (at-table r n (λ j. r.add (at r v j) (at r w j)) j l))

  lifts-scale : (c : R) (v : List R) → IsElem r c → Lifts v → Lifts (tuple_scale r n c v)
  lifts-scale c v hc a =
      let ha = a.nuclear in
      let x : ℕ → Elem o = item a.lifted ha.tuple in
      let d : Elem o = D.lift (c, hc) in
      lifts (tuple_scale r n c v) (tuple_scale o n d.0 a.lifted) (facts.scale_in d.0 a.lifted d.1 ha)
      (λ j. F.◌⊗◌ d (x j))
      (λ j l. at-table o n (λ j. o.mul d.0 (at o a.lifted j)) j l)
      (λ j l. Z.mul_in d (x j) (D.lift_in (c, hc)) (a.integral j l (x j) refl))
      (λ j l. ap (λ (z : Elem r). z.0) (D.map-mul d (x j) (D.lift_in (c, hc)) (a.integral j l (x j) refl))
      ∙ ap₂ r.mul (ap (λ (z : Elem r). z.0) (D.res-lift (c, hc))) (a.residue j l (x j) refl)
      ∙ sym (at-table r n (λ j. r.mul c (at r v j)) j l))

  -- a constant as an element
  abbrev gamma : ℕ → ℕ → ℕ → Elem o
  gamma i j l = (constant o n cs i j l, at-elem o L cs over.of_elements ((i * n + j) * n + l))

  within : (i j l : ℕ) → i < n → j < n → l < n → (i * n + j) * n + l < n * n * n
  within i j l hi hj hl = pair-lt (n * n) n (i * n + j) l (pair-lt n n i j hi hj) hl

  module _ (v w : List R) (a : Lifts v) (b : Lifts w) where
    abbrev x : ℕ → Elem o
    x = let h = a.nuclear in item a.lifted h.tuple

    abbrev y : ℕ → Elem o
    y = let h = b.nuclear in item b.lifted h.tuple

    abbrev term : ℕ → ℕ → ℕ → Elem o
    term l i j = F.◌⊗◌ (F.◌⊗◌ (x i) (y j)) (gamma i j l)

    abbrev value : ℕ → Elem o
    value l = sum2 F.ring n (term l)

    xy_in : (i j : ℕ) → i < n → j < n → In (F.◌⊗◌ (x i) (y j))
    xy_in i j hi hj = Z.mul_in (x i) (y j) (a.integral i hi (x i) refl) (b.integral j hj (y j) refl)

    gamma_in : (i j l : ℕ) → i < n → j < n → l < n → In (gamma i j l)
    gamma_in i j l hi hj hl =
        residues.integral ((i * n + j) * n + l) (within i j l hi hj hl) (gamma i j l) refl

    term_in : (l i j : ℕ) → l < n → i < n → j < n → In (term l i j)
    term_in l i j hl hi hj =
        Z.mul_in (F.◌⊗◌ (x i) (y j)) (gamma i j l) (xy_in i j hi hj) (gamma_in i j l hi hj hl)

    term_res : (l i j : ℕ) → l < n → i < n → j < n
        → (D.res (term l i j)).0 ≡ r.mul (r.mul (at r v i) (at r w j)) (constant r n ds i j l)
    term_res l i j hl hi hj =
        ap (λ (z : Elem r). z.0)
        (D.map-mul (F.◌⊗◌ (x i) (y j)) (gamma i j l) (xy_in i j hi hj) (gamma_in i j l hi hj hl))
        ∙ ap₂ r.mul (ap (λ (z : Elem r). z.0)
        (D.map-mul (x i) (y j) (a.integral i hi (x i) refl) (b.integral j hj (y j) refl))
        ∙ ap₂ r.mul (a.residue i hi (x i) refl) (b.residue j hj (y j) refl))
        (residues.residue ((i * n + j) * n + l) (within i j l hi hj hl) (gamma i j l) refl)

    value_res : (l : ℕ) → l < n → (D.res (value l)).0 ≡ at r (product r n ds v w) l
    value_res l hl =
        ap (λ (z : Elem r). z.0) (res-sum2 F Z q k D n (term l) (λ i j hi hj. term_in l i j hl hi hj))
        ∙ sym (sum2_of-elements r N n (λ i j. D.res (term l i j)))
        ∙ sum_of_congr r n (λ i. sum_of r n (λ j. (D.res (term l i j)).0))
        (λ i. sum_of r n (λ j. r.mul (r.mul (at r v i) (at r w j)) (constant r n ds i j l)))
        (λ i hi. sum_of_congr r n (λ j. (D.res (term l i j)).0)
        (λ j. r.mul (r.mul (at r v i) (at r w j)) (constant r n ds i j l)) (λ j hj. term_res l i j hl hi hj))
        ∙ sym (at-table r n (λ l. sum_of r n
        (λ i. sum_of r n (λ j. r.mul (r.mul (at r v i) (at r w j)) (constant r n ds i j l)))) l hl)

    value_is : (l : ℕ) → l < n → at o (product o n cs a.lifted b.lifted) l ≡ (value l).0
    value_is l hl =
        at-table o n (λ l. sum_of o n (λ i. sum_of o n
        (λ j. o.mul (o.mul (at o a.lifted i) (at o b.lifted j)) (constant o n cs i j l)))) l hl
        ∙ sum2_of-elements o L n (term l)

    value_in : (l : ℕ) → l < n → In (value l)
    value_in l hl = integral-sum F Z q k D n (λ i. sum F.monoid n (term l i))
        (λ i hi. integral-sum F Z q k D n (term l i) (λ j hj. term_in l i j hl hi hj))

    lifts-mul : Lifts (product r n ds v w)
    lifts-mul = lifts (product r n ds v w) (product o n cs a.lifted b.lifted)
        (facts.product_in a.lifted b.lifted a.nuclear b.nuclear) value value_is value_in value_res

  -- the generators lift to themselves
  lifts-generator : ((s : ℕ) → s < length by → get_or by s 0 < n) → (s : ℕ) → s < length by
      → Lifts (basis r n (get_or by s 0))
  lifts-generator places s l = lifts-basis (get_or by s 0)
      (facts.of_basis (get_or by s 0) (places s l) (λ i k hi hk. middles s i k l hi hk))

  lifts-all : ((s : ℕ) → s < length by → get_or by s 0 < n) → (v : List R) → InSubalgebra r B by v → Lifts v
  lifts-all places _ (generator_in s l) = lifts-generator places s l
  lifts-all places _ zero_in = lifts-zero
  lifts-all places _ (add_in a b ha hb) = lifts-add a b (lifts-all places a ha) (lifts-all places b hb)
  lifts-all places _ (scale_in c a hc ha) = lifts-scale c a hc (lifts-all places a ha)
  lifts-all places _ (mul_in a b ha hb) = lifts-mul a b (lifts-all places a ha) (lifts-all places b hb)

  abbrev M : ModuleOn F.ring (Tuple o n)
  M = tuples o L n

  abbrev Nuclear : Tuple o n → Type 0
  Nuclear x = IsMiddleNuclear o A x.0

  nuclear_submodule : IsSubmodule M Nuclear
  nuclear_submodule =
      let S : List E → Type 0 = IsMiddleNuclear o A in
      record {
        zero-in = subst S (sym (tuples-zero o L n)) facts.zero_in;
        add-in = λ x y hx hy. subst S (sym (tuples-add o L n x y)) (facts.add_in x.0 y.0 hx hy);
        scale-in = λ c x hx. subst S (sym (tuples-scale o L n c x)) (facts.scale_in c.0 x.0 c.1 hx);
      }

  -- a vector of the middle nucleus with the residues of the basis element j
  record LiftsBasis (j : ℕ) (x : Tuple o n) : Type 0 where
    pub nuclear : Nuclear x
    pub integral : (i : ℕ) → i < n → (y : Elem o) → y.0 ≡ at o x.0 i → In y
    pub residue : (i : ℕ) → i < n → (y : Elem o) → y.0 ≡ at o x.0 i → (D.res y).0 ≡ at r (basis r n j) i

  -- such vectors span the algebra
  module _ (v : ℕ → Tuple o n) (good : (j : ℕ) → j < n → LiftsBasis j (v j)) where
    abbrev f : ℕ → ℕ → Elem o
    f i j = let h = IsTuple-of o L n (v j) in (at o (v j).0 i, at-elem o L (v j).0 h.of_elements i)

    f_in : (i j : ℕ) → i < n → j < n → In (f i j)
    f_in i j hi hj = let g = good j hj in g.integral i hi (f i j) refl

    f_res : (i j : ℕ) → i < n → j < n → D.res (f i j) ≡ delta k.ring i j
    f_res i j hi hj = let g = good j hj in
        Elem-path r (D.res (f i j)) (delta k.ring i j) (g.residue i hi (f i j) refl ∙ basis-at r N n j i hi)

    only_zero : (y : ℕ → Elem r) → ResiduesKill F Z q k D n n f f_in y → (j : ℕ) → j < n → y j ≡ k.zero
    only_zero y e i hi =
        sym (sum-delta_mul k.ring n y i hi)
        ∙ sum_congr k.monoid n (λ j. k.◌⊗◌ (delta k.ring i j) (y j)) (λ j. k.◌⊗◌ (D.res (f i j)) (y j))
        (λ j hj. ap (λ a. k.◌⊗◌ a (y j)) (sym (f_res i j hi hj)))
        ∙ e i hi

    kills : (c : ℕ → Elem o) → comb M n c v ≡ M.zero → Kills F Z q k D n n f f_in c
    kills c e i hi = Elem-path o (sum F.monoid n (λ j. F.◌⊗◌ (f i j) (c j))) F.zero
        (sym (sum_of-elements o L n (λ j. F.◌⊗◌ (f i j) (c j)))
        ∙ sum_of_congr o n (λ j. o.mul (f i j).0 (c j).0) (λ j. o.mul (c j).0 (at o (v j).0 i))
        (λ j _. L.mul_comm (f i j).0 (c j).0 (f i j).1 (c j).1)
        ∙ sym (comb-at o L n n c v i hi) ∙ ap (λ (y : Tuple o n). at o y.0 i) e ∙ zero-at o L n i hi)

    independent : Independent M n v
    independent = record { only_zero = λ c e. no_kernel F Z q k D n n f f_in only_zero c (kills c e) }

    associative : IsAssociative o A
    associative i j l hi hj hl =
        let J : Tuple o n = as_tuple o L n (basis o n j) (IsTuple-basis o L n cs over.of_elements j) in
        let S : SpaceOn M n = tuple_space o L n in
        facts.at_basis j (span_in M Nuclear nuclear_submodule n v (λ t ht. let g = good t ht in g.nuclear) J
        (full_span F M n (coords_of M n (space_basis M n S)) n (unit M n S) v (in_units M n S) independent J)) i l

  associative_by_lifts : ((j : ℕ) → j < n → Lifts (basis r n j)) → IsAssociative o A
  associative_by_lifts each =
      let chosen = choose_each n LiftsBasis M.zero (λ j hj.
      let a = each j hj in
      let h = a.nuclear in (
        as_tuple o L n a.lifted h.tuple,
        record { nuclear = a.nuclear; integral = a.integral; residue = a.residue },
      )) in
      associative chosen.0 chosen.1

module _ {E R : Type 0} (o : Ops E) (L : FieldLaws o) (r : Ops R) (N : FieldLaws r)
    (Z : ValuationOn (elements o L)) (q : Elem o) (D : ResidueOn (elements o L) Z q (elements r N)) where
  pub associative_by_residues : AssociativeByResidues o L r N Z q D
  associative_by_residues A over ds residues by g middles =
      associative_by_lifts o L r N Z q D A over ds residues by middles
      (λ j l. lifts-all o L r N Z q D A over ds residues by middles g.within (basis r A.dim j) (g.all j l))
