-- The elements of degree at most 0 as weights; two lattices with integral Gram matrices and inverses as a self-dual
-- pair.
use Rattle.std.specs.Prelude.{ℕ, ◌<◌, pos}
use Rattle.std.proofs.Common.{refl, ◌∙◌, ap, subst, arith, inl}
use Rattle.std.proofs.lemmas.Int.{ints}
use Rattle.theory_rings.specs.Ring.{FieldOn}
use Rattle.theory_spaces.specs.Module.{ModuleOn, AlgebraOn, module_of}
use Rattle.theory_spaces.specs.Linear.{Basis}
use Rattle.theory_spaces.specs.Form.{IsBilinear}
use Rattle.theory_lattices.specs.Degree.{DegreeOn, DegreeBelow}
use Rattle.theory_spaces.specs.Lattice.{IsSubring, LatticeOver, IsOwnDual}
use Rattle.theory_lattices.specs.CommonBasis.{InInfinite}
use Rattle.theory_lattices.specs.SelfDual.{SelfDualPair, IntegralTrace}
use Rattle.theory_lattices.proofs.Degree.Degrees.{below-mul, below-neg, below_of_degree}
use Rattle.theory_lattices.proofs.Degree.PowersOfDegreeOne.{has_degree-one}
use Rattle.theory_pairs.specs.OwnDual.{UnimodularGram, IsTraceMap}
use Rattle.theory_spaces.proofs.Linear.LatticeSpans.{span_mul}
use Rattle.theory_pairs.proofs.DualSpans.{own_dual_of_entries}

module _ {K : Type 0} (F : FieldOn K) (W : DegreeOn F.ring) where
  pub below_subring : IsSubring F.ring (λ c. DegreeBelow W (pos 1) c)
  below_subring = record {
    zero_in = inl refl;
    one_in = below_of_degree W (pos 0) (pos 1) F.one (omega (arith, ints)) (has_degree-one F W);
    neg_in = λ a h. below-neg W (pos 1) a h;
    add_in = λ a b h g. W.add-below (pos 1) a b h g;
    mul_in = λ a b h g. below-mul W (pos 1) (pos 1) (pos 1) a b (omega (arith, ints)) h g;
  }

module _ {K V : Type 0} (F : FieldOn K) (A : AlgebraOn F.ring V) (tr : V → K) (T : IsTraceMap A tr) where
  infixl 70 ◌⊗◌
  open A use {◌⊗◌}

  abbrev M : ModuleOn F.ring V
  M = module_of A

  abbrev form : V → V → K
  form x y = tr (x ⊗ y)

  trace_bilinear : IsBilinear M form
  trace_bilinear = record {
    add-left = λ x y z. ap tr (A.add-mul x y z) ∙ T.tr-add (x ⊗ z) (y ⊗ z);
    add-right = λ x y z. ap tr (A.mul-add x y z) ∙ T.tr-add (x ⊗ y) (x ⊗ z);
    scale-left = λ c x y. ap tr (A.scale-left c x y) ∙ T.tr-scale c (x ⊗ y);
    scale-right = λ c x y. ap tr (A.scale-right c x y) ∙ T.tr-scale c (x ⊗ y);
  }

  module _ (n : ℕ) where
    own_dual : (P : K → Type 0) → IsSubring F.ring P → (B : Basis M n) → UnimodularGram M form P n B.vec
        → IsOwnDual form P (LatticeOver M P n B.vec)
    own_dual P closed B u =
        own_dual_of_entries F M form trace_bilinear n B P closed u.inverse u.inverts u.gram-in u.inverse-in

    pub pair_by_gram : (W : DegreeOn F.ring) (P : K → Type 0) → IsSubring F.ring P → (f e : Basis M n)
        → UnimodularGram M form P n f.vec → UnimodularGram M form (λ c. DegreeBelow W (pos 1) c) n e.vec
        → ((i j : ℕ) → i < n → j < n → LatticeOver M P n f.vec (f.vec i ⊗ f.vec j))
        → ((i j : ℕ) → i < n → j < n → InInfinite F W M P n e.vec (e.vec i ⊗ e.vec j))
        → SelfDualPair F W A P (LatticeOver M P n f.vec) (InInfinite F W M P n e.vec) tr
    pair_by_gram W P closed f e u v p q =
        let Q : K → Type 0 = λ c. DegreeBelow W (pos 1) c in
        let a : IsOwnDual form P (LatticeOver M P n f.vec) = own_dual P closed f u in
        let b : IsOwnDual form Q (InInfinite F W M P n e.vec) = own_dual Q (below_subring F W) e v in
        record {
          finite-mul = span_mul F P closed A n f.vec p;
          infinite-mul = span_mul F Q (below_subring F W) A n e.vec q;
          finite_dual = a.0;
          infinite_dual = b.0;
          tr-add = T.tr-add;
          tr-scale = T.tr-scale;
          tr_comm = T.tr_comm;
          tr_nilpotent = T.tr_nilpotent;
        }

    pub trace_by_gram : (W : DegreeOn F.ring) (P : K → Type 0) → IsSubring F.ring P → (f e : Basis M n)
        → UnimodularGram M form P n f.vec → UnimodularGram M form (λ c. DegreeBelow W (pos 1) c) n e.vec
        → LatticeOver M P n f.vec A.one → InInfinite F W M P n e.vec A.one
        → IntegralTrace F W A P (LatticeOver M P n f.vec) (InInfinite F W M P n e.vec) tr
    trace_by_gram W P closed f e u v p q =
        let Q : K → Type 0 = λ c. DegreeBelow W (pos 1) c in
        let a : IsOwnDual form P (LatticeOver M P n f.vec) = own_dual P closed f u in
        let b : IsOwnDual form Q (InInfinite F W M P n e.vec) = own_dual Q (below_subring F W) e v in
        record {
          finite_trace = λ x h. subst P (ap tr (A.one-mul x)) (a.1 x h A.one p);
          infinite_trace = λ x h. subst Q (ap tr (A.one-mul x)) (b.1 x h A.one q);
        }
