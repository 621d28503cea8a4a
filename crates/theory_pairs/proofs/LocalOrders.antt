-- Where a subring is the intersection of valuation rings, the lattice of a basis over it is the intersection of the
-- lattices there, and it is an order exactly where each of these is one.
use Rattle.std.specs.Prelude.{ℕ, ◌<◌}
use Rattle.theory_rings.specs.Ring.{FieldOn}
use Rattle.theory_spaces.specs.Module.{ModuleOn, AlgebraOn, module_of}
use Rattle.theory_spaces.specs.Linear.{Basis}
use Rattle.theory_spaces.specs.Valuation.{ValuationOn}
use Rattle.theory_orders.specs.Uniformizer.{IsIntegral}
use Rattle.theory_orders.specs.Orders.{IsOrder, Same}
use Rattle.theory_orders.specs.Lattices.{Lattice, IsOrderAt}
use Rattle.theory_spaces.proofs.Linear.LatticeTests.{integral_weights}
use Rattle.theory_spaces.specs.Lattice.{IsSubring, LatticeOver}
use Rattle.theory_pairs.specs.Subring.{IsIntersection}
use Rattle.theory_spaces.proofs.Linear.LatticeSpans.{span-member, span_order}
use Rattle.theory_spaces.proofs.Linear.LatticeSpans.{integral_subring}

module _ {K V Place : Type 0} (F : FieldOn K) (P : K → Type 0) (Z : Place → ValuationOn F) (I : IsIntersection F P Z)
    (A : AlgebraOn F.ring V) (n : ℕ) (B : Basis (module_of A) n) where
  infixl 70 ◌⊗◌
  open A use {◌⊗◌}

  abbrev M : ModuleOn F.ring V
  M = module_of A

  abbrev In : V → Type 0
  In = LatticeOver M P n B.vec

  abbrev At : Place → V → Type 0
  At π = Lattice F (Z π) A n B.vec

  pub intersection_subring : IsSubring F.ring P
  intersection_subring = record {
    one_in = (I F.one).1 (λ π. let z = Z π in z.one_in);
    zero_in = (I F.zero).1 (λ π. let z = Z π in z.zero_in);
    add_in = λ a b g h. (I (F.◌⊕◌ a b)).1 (λ π. let z = Z π in z.add_in a b ((I a).0 g π) ((I b).0 h π));
    neg_in = λ a g. (I (F.neg a)).1 (λ π. let z = Z π in z.neg_in a ((I a).0 g π));
    mul_in = λ a b g h. (I (F.◌⊗◌ a b)).1 (λ π. let z = Z π in z.mul_in a b ((I a).0 g π) ((I b).0 h π));
  }

  pub local_members : Same In (λ x. (π : Place) → At π x)
  local_members = (
    λ x s π. record {
      weights = s.weights;
      passes = λ i l. (I (s.weights i)).0 (s.passes i l) π;
      combines = s.combines;
    },
    λ x h. record {
      weights = B.coord x;
      passes = λ i l. (I (B.coord x i)).1
          (λ π. integral_weights F (Z π) M n B.vec B.independent x (h π) (B.coord x) (B.expand x) i l);
      combines = B.expand x;
    },
  )

  member : (i : ℕ) → i < n → In (B.vec i)
  member i l = span-member F P intersection_subring M n B.vec i l

  pub order_at : IsOrder A In → (π : Place) → IsOrderAt F (Z π) A n B.vec
  order_at O π =
      let into : (x : V) → In x → At π x = λ x s. local_members.0 x s π in
      record {
        independent = B.independent;
        order = span_order F (IsIntegral F (Z π)) (integral_subring F (Z π)) A n B.vec
            (λ i j l g. into (B.vec i ⊗ B.vec j) (O.mul_in (B.vec i) (B.vec j) (member i l) (member j g)))
            (into A.one O.one_in);
      }

  pub order_everywhere : ((π : Place) → IsOrderAt F (Z π) A n B.vec) → IsOrder A In
  order_everywhere O = record {
    one_in = local_members.1 A.one (λ π. let o = O π in o.order.one_in);
    zero_in = local_members.1 A.zero (λ π. let o = O π in o.order.zero_in);
    add_in = λ x y s t. local_members.1 (A.◌⊕◌ x y)
        (λ π. let o = O π in o.order.add_in x y (local_members.0 x s π) (local_members.0 y t π));
    neg_in = λ x s. local_members.1 (A.neg x) (λ π. let o = O π in o.order.neg_in x (local_members.0 x s π));
    mul_in = λ x y s t. local_members.1 (x ⊗ y)
        (λ π. let o = O π in o.order.mul_in x y (local_members.0 x s π) (local_members.0 y t π));
  }
