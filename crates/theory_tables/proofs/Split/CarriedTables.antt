-- An algebra whose elements are, by a bijection that keeps its operations, the tuples with the product of a table: the
-- table is that of an algebra, and has a ramified place where the first one has. By univalence.
use Rattle.std.specs.Prelude.{◌≡◌, ℕ, List}
use Rattle.std.specs.List.{All}
use Rattle.std.proofs.Common.{refl}
use mathlib.Core.Equiv.{◌≃◌, Iso, iso_to_equiv}
use Rattle.theory_rings.specs.Ring.{FieldOn}
use Rattle.theory_rings.specs.Ops.{Ops, IsElem, FieldLaws}
use Rattle.theory_rings.specs.Elements.{Elem, elements}
use Rattle.theory_spaces.specs.Module.{ModuleOn, AlgebraOn}
use Rattle.theory_spaces.specs.Valuation.{ValuationOn}
use Rattle.theory_spaces.specs.Tuples.{Tuple, product}
use Rattle.theory_spaces.proofs.Tuples.Tuples.{IsTuple-is_tuple, is_tuple-IsTuple, Tuple-path, tuples}
use Rattle.theory_spaces.proofs.Tuples.Tuples.{tuples-zero, tuples-add, tuples-neg, tuples-scale}
use Rattle.theory_spaces.proofs.Tuples.TupleProducts.{IsTuple-product}
use Rattle.theory_spaces.proofs.Algebras.Carry.{KeptBy, carried, carry}
use Rattle.theory_orders.specs.Ramified.{IsRamified}
use Rattle.theory_tables.specs.Structure.{Structure}
use Rattle.theory_tables.specs.Ramified.{AreTuples, RamifiedTable}

module _ {E X : Type 0} (o : Ops E) (L : FieldLaws o) (Y : Structure E) (constants : All (IsElem o) Y.constants)
    (A : AlgebraOn (elements o L).ring X) (b : Iso X (Tuple o Y.dim)) where
  abbrev K : FieldOn (Elem o)
  K = elements o L

  abbrev M : ModuleOn K.ring (Tuple o Y.dim)
  M = tuples o L Y.dim

  -- the product of the table
  abbrev mul : Tuple o Y.dim → Tuple o Y.dim → Tuple o Y.dim
  mul v w = let P = product o Y.dim Y.constants v.0 w.0 in (
    P,
    IsTuple-is_tuple o Y.dim P
        (IsTuple-product o L Y.dim Y.constants constants v.0 w.0 (is_tuple-IsTuple o Y.dim v.0 v.1)
        (is_tuple-IsTuple o Y.dim w.0 w.1)),
  )

  pub record KeepsTable : Type 0 where
    pub zero-is : b.fun A.zero ≡ M.zero
    pub add-is : (x y : X) → b.fun (A.◌⊕◌ x y) ≡ M.◌⊕◌ (b.fun x) (b.fun y)
    pub neg-is : (x : X) → b.fun (A.neg x) ≡ M.neg (b.fun x)
    pub scale-is : (c : Elem o) (x : X) → b.fun (A.◌•◌ c x) ≡ M.◌•◌ c (b.fun x)
    pub product-is : (x y : X) → (b.fun (A.◌⊗◌ x y)).0 ≡ product o Y.dim Y.constants (b.fun x).0 (b.fun y).0

  module _ (k : KeepsTable) where
    kept : KeptBy A b.fun
    kept = record {
      zero = M.zero;
      one = b.fun A.one;
      add = M.◌⊕◌;
      neg = M.neg;
      scale = M.◌•◌;
      mul = mul;
      zero-is = k.zero-is;
      one-is = refl;
      add-is = k.add-is;
      neg-is = k.neg-is;
      scale-is = k.scale-is;
      mul-is = λ x y. Tuple-path o L Y.dim (b.fun (A.◌⊗◌ x y)) (mul (b.fun x) (b.fun y)) (k.product-is x y);
    }

    abbrev e : X ≃ Tuple o Y.dim
    e = iso_to_equiv b

    pub carried_ramified : (Z : ValuationOn K) (p : Elem o) (v w : ℕ → X) (os js : List (List E))
        → AreTuples o L Y os (λ i. b.fun (v i)) → AreTuples o L Y js (λ i. b.fun (w i))
        → IsRamified K Z p A Y.dim v w → RamifiedTable o L Y Z p os js
    unfolding carried kept
    carried_ramified Z p v w os js ov jw r = record {
      algebra = carried A e kept;
      is_table = record {
        zero-is = tuples-zero o L Y.dim;
        add-is = tuples-add o L Y.dim;
        neg-is = tuples-neg o L Y.dim;
        scale-is = tuples-scale o L Y.dim;
        product-is = λ a b. refl;
      };
      order = λ i. b.fun (v i);
      is_order = ov;
      radical = λ i. b.fun (w i);
      is_radical = jw;
      ramified = carry A e kept (λ Y' C v w. IsRamified K Z p C Y.dim v w) v w (λ i. b.fun (v i)) (λ i. b.fun (w i))
          (λ i. refl) (λ i. refl) r;
    }
