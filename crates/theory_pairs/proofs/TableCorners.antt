-- The corner of an algebra by structure constants over a program's field is one.
use Rattle.std.specs.Prelude.{◌≡◌, ℕ, ◌+◌, ◌*◌, ◌/◌, ◌%◌, ◌<◌, List}
use Rattle.std.proofs.Common.{sym, ◌∙◌, ap}
use Rattle.std.proofs.lemmas.Nat.{div-mul-add, mod-mul-add}
use Rattle.theory_rings.specs.Ring.{FieldOn}
use Rattle.theory_rings.specs.Ops.{Ops, FieldLaws}
use Rattle.theory_rings.specs.Elements.{Elem, Elem-path, elements}
use Rattle.theory_rings.specs.Sum.{table}
use Rattle.theory_spaces.specs.Module.{ModuleOn, AlgebraOn, module_of}
use Rattle.theory_spaces.specs.Linear.{BasisOf, comb}
use Rattle.theory_spaces.specs.Space.{SpaceOn}
use Rattle.theory_spaces.specs.Algebra.{InCorner}
use Rattle.theory_spaces.specs.Tuples.{IsTuple, Tuple, constant}
use Rattle.theory_spaces.proofs.Linear.Modules.{comb_congr}
use Rattle.theory_spaces.proofs.Matrices.PairIndex.{pair-lt}
use Rattle.theory_spaces.proofs.Tuples.Tables.{space_basis, table_mul, coord-table_mul}
use Rattle.theory_spaces.proofs.Tuples.Tuples.{at-table, IsTuple-table, tuples, tuple_space}
use Rattle.theory_spaces.proofs.Tuples.Tuples.{tuples-zero, tuples-add, tuples-neg, tuples-scale}
use Rattle.theory_spaces.proofs.Tuples.TupleProducts.{element_constant, tuple_product-list}
use Rattle.theory_orders.proofs.Splitting.TableClaims.{table_space}
use Rattle.theory_pairs.specs.Corner.{CornerConstants, CornerTable}
use Rattle.theory_pairs.specs.TableCorner.{TableOfCorner, TablesHaveCorners}
use Rattle.theory_pairs.proofs.CornerTables.{corner_basis_of, corner_constants, corner_table}

module _ {E : Type 0} (o : Ops E) (L : FieldLaws o) where
  abbrev K : FieldOn (Elem o)
  K = elements o L

  -- constants as a list
  module _ (k : ℕ) (g : ℕ → ℕ → ℕ → Elem o) where
    abbrev item : ℕ → Elem o
    item q = g (q / k / k) (q / k % k) (q % k)

    abbrev list : List E
    list = table (k * k * k) (λ q. (item q).0)

    list_over : IsTuple o (k * k * k) list
    list_over = IsTuple-table o (k * k * k) (λ q. (item q).0) (λ q _. (item q).1)

    item-at : (i j t : ℕ) → j < k → t < k → item ((i * k + j) * k + t) ≡ g i j t
    item-at i j t lj lt =
        ap (λ r. g (r / k) (r % k) (((i * k + j) * k + t) % k)) (div-mul-add (i * k + j) k t lt)
        ∙ ap (g ((i * k + j) / k) ((i * k + j) % k)) (mod-mul-add (i * k + j) k t lt)
        ∙ ap (λ r. g r ((i * k + j) % k) t) (div-mul-add i k j lj)
        ∙ ap (λ r. g i r t) (mod-mul-add i k j lj)

    list-at : (i j t : ℕ) → i < k → j < k → t < k → constant o k list i j t ≡ (g i j t).0
    list-at i j t li lj lt =
        at-table o (k * k * k) (λ q. (item q).0) ((i * k + j) * k + t)
        (pair-lt (k * k) k (i * k + j) t (pair-lt k k i j li lj) lt)
        ∙ ap (λ (a : Elem o). a.0) (item-at i j t lj lt)

  module _ (n : ℕ) (A : AlgebraOn K.ring (Tuple o n)) (e : Tuple o n) (idem : A.◌⊗◌ e e ≡ e) (k : ℕ)
      (U : BasisOf (module_of A) k (InCorner A e)) where
    D : CornerConstants A e k U.vec
    D = corner_constants K A e idem k U

    abbrev cs : List E
    cs = list k D.constant

    cs_over : IsTuple o (k * k * k) cs
    cs_over = list_over k D.constant

    abbrev g : ℕ → ℕ → ℕ → Elem o
    g = element_constant o L k cs cs_over.of_elements

    g-is : (i j t : ℕ) → i < k → j < k → t < k → g i j t ≡ D.constant i j t
    g-is i j t li lj lt = Elem-path o (g i j t) (D.constant i j t) (list-at k D.constant i j t li lj lt)

    abbrev G : CornerConstants A e k U.vec
    G = record {
      constant = g;
      products = λ i j li lj. D.products i j li lj
          ∙ comb_congr (module_of A) k (D.constant i j) (g i j) U.vec (λ t lt. sym (g-is i j t li lj lt));
      one = D.one;
      one-is = D.one-is;
    }

    abbrev N : ModuleOn K.ring (Tuple o k)
    N = tuples o L k

    abbrev S : SpaceOn N k
    S = tuple_space o L k

    C : CornerTable K A e k U.vec G N S
    C = corner_table K A e idem k U G N S

    abbrev B : AlgebraOn K.ring (Tuple o k)
    B = C.algebra

    mul-is : (a b : Tuple o k) → B.◌⊗◌ a b ≡ table_mul K.cring N k S g a b
    mul-is a b = S.ext (B.◌⊗◌ a b) (table_mul K.cring N k S g a b)
        (λ t lt. C.product-is a b t lt ∙ sym (coord-table_mul K.cring N k S g a b t lt))

    table_of_corner : TableOfCorner o L n A e
    table_of_corner =
        let c = C in
        let p = c.module-is in
        record {
          structure = record { dim = k; constants = cs };
          over = cs_over;
          algebra = c.algebra;
          is_table = record {
            zero-is = ap (λ (m : ModuleOn K.ring (Tuple o k)). m.zero.0) p ∙ tuples-zero o L k;
            add-is = λ a b. ap (λ (m : ModuleOn K.ring (Tuple o k)). (m.◌⊕◌ a b).0) p ∙ tuples-add o L k a b;
            neg-is = λ a. ap (λ (m : ModuleOn K.ring (Tuple o k)). (m.neg a).0) p ∙ tuples-neg o L k a;
            scale-is = λ s a. ap (λ (m : ModuleOn K.ring (Tuple o k)). (m.◌•◌ s a).0) p ∙ tuples-scale o L k s a;
            product-is = λ a b. ap (λ (x : Tuple o k). x.0) (mul-is a b)
                ∙ tuple_product-list o L k cs cs_over.of_elements a b;
          };
          inclusion = λ x. comb (module_of A) k (S.coord x) U.vec;
          corner = c.corner;
        }

  pub tables_have_corners : TablesHaveCorners o L
  tables_have_corners T A h e idem =
      let n = T.dim in
      let b = corner_basis_of K A e idem n (space_basis (module_of A) n (table_space o L n T.constants A h)) in
      table_of_corner n A e idem b.0 b.1
