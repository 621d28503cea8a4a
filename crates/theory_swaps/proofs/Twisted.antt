-- An algebra whose scalars act by their images under an automorphism of the field that is its own inverse: the sets of
-- vectors are the same, and a ramified place goes to one.
use Rattle.std.specs.Prelude.{◌≡◌, ◌↔◌, ℕ}
use Rattle.std.proofs.Common.{refl, sym, ◌∙◌, ap, subst}
use Rattle.theory_rings.specs.Ring.{FieldOn}
use Rattle.theory_rings.specs.Homomorphism.{IsRingHom}
use Rattle.theory_rings.proofs.Rings.Homomorphisms.{map-zero}
use Rattle.theory_spaces.specs.Module.{AlgebraOn, module_of}
use Rattle.theory_spaces.specs.Linear.{Independent}
use Rattle.theory_spaces.specs.Sets.{RingOps, ring_ops, Within, Whole}
use Rattle.theory_spaces.specs.Valuation.{ValuationOn, IsIntegral}
use Rattle.theory_spaces.proofs.Linear.Modules.{comb_congr}
use Rattle.theory_orders.specs.Lattices.{Lattice}
use Rattle.theory_orders.specs.Ramified.{IsRamified}
use Rattle.theory_swaps.proofs.MappedSets.{Keeps, Goes, goes_back, order_to, left_order_to, multiple_to, radical_to}
use Rattle.theory_swaps.proofs.MappedSets.{simple_to}

module _ {K V : Type 0} (F : FieldOn K) (s : K → K) (hom : IsRingHom F.ring F.ring s) (twice : (a : K) → s (s a) ≡ a)
    (A : AlgebraOn F.ring V) where
  abbrev pub twisted : AlgebraOn F.ring V
  twisted = record {
    ring = A.ring;
    scalars = record {
      ◌•◌ = λ c x. A.◌•◌ (s c) x;
      scale-add = λ c x y. A.scale-add (s c) x y;
      add-scale = λ a b x. ap (λ c. A.◌•◌ c x) (hom.map-add a b) ∙ A.add-scale (s a) (s b) x;
      mul-scale = λ a b x. ap (λ c. A.◌•◌ c x) (hom.map-mul a b) ∙ A.mul-scale (s a) (s b) x;
      one-scale = λ x. ap (λ c. A.◌•◌ c x) hom.map-one ∙ A.one-scale x;
    };
    scale-left = λ c x y. A.scale-left (s c) x y;
    scale-right = λ c x y. A.scale-right (s c) x y;
  }

  abbrev same : V → V
  same x = x

  abbrev fixed : (x : V) → x ≡ x
  fixed x = refl

  abbrev U : V → Type 0
  U = Whole

  abbrev S : RingOps V
  S = ring_ops A.ring

  keeps : Keeps same fixed U S S
  keeps = record {
    zero_in = tt;
    add_in = λ x y _ _. tt;
    mul_in = λ x y _ _. tt;
    zero = refl;
    add = λ x y _ _. refl;
    neg = λ x _. refl;
    mul = λ x y _ _. refl;
  }

  all : (I : V → Type 0) → Within I U
  all I x i = tt

  twisted_independent : (n : ℕ) (v : ℕ → V) → Independent (module_of A) n v → Independent (module_of twisted) n v
  twisted_independent n v d = record {
    only_zero = λ c e i l. sym (twice (c i)) ∙ ap s (d.only_zero (λ i. s (c i)) e i l)
        ∙ map-zero F.ring F.ring s hom;
  }

  module _ (Z Z' : ValuationOn F) (h : (a : K) → IsIntegral F Z a ↔ IsIntegral F Z' (s a)) (p q : K) (e : q ≡ s p)
      (n : ℕ) where
    abbrev L : (ℕ → V) → V → Type 0
    L v = Lattice F Z A n v

    abbrev L' : (ℕ → V) → V → Type 0
    L' v = Lattice F Z' twisted n v

    lattice_goes : (v : ℕ → V) → Goes same fixed U (L v) (L' v)
    lattice_goes v = record {
      into = λ x m. record {
        weights = λ i. s (m.weights i);
        passes = λ i l. (h (m.weights i)).0 (m.passes i l);
        combines = m.combines ∙ comb_congr (module_of A) n m.weights (λ i. s (s (m.weights i))) v
            (λ i l. sym (twice (m.weights i)));
      };
      back = λ x m. record {
        weights = λ i. s (m.weights i);
        passes = λ i l. (h (s (m.weights i))).1 (subst (IsIntegral F Z') (sym (twice (m.weights i))) (m.passes i l));
        combines = m.combines;
      };
    }

    -- p and q act alike
    there : (x : V) → U x → A.◌•◌ p x ≡ twisted.◌•◌ q x
    there x _ = ap (λ c. A.◌•◌ c x) (sym (twice p) ∙ ap s (sym e))

    pub ramified_twisted : (os js : ℕ → V) → IsRamified F Z p A n os js → IsRamified F Z' q twisted n os js
    ramified_twisted os js r =
        let u : (x : V) → U x → U x = λ x _. tt in
        let gO = lattice_goes os in
        let gJ = lattice_goes js in
        let bO = goes_back same fixed U gO in
        let bJ = goes_back same fixed U gJ in
        let back : (x : V) → U x → twisted.◌•◌ q x ≡ A.◌•◌ p x = λ x i. sym (there x i) in
        let d = r.order in
        record {
          order = record {
            independent = twisted_independent n os d.independent;
            order = order_to same fixed U u S S keeps keeps A.one (L os) (L' os) (all (L os)) gO d.order;
          };
          independent = twisted_independent n js r.independent;
          radical = radical_to same fixed U u A.◌•◌ twisted.◌•◌ p q there back S S keeps keeps (L os) (L' os) (L js)
              (L' js) (all (L os)) (all (L' os)) gO gJ r.radical;
          simple = simple_to same fixed U u A.◌•◌ twisted.◌•◌ p q there back S S keeps keeps (L os) (L' os) (L js)
              (L' js) (all (L os)) (all (L' os)) gO gJ (all (L js)) r.simple;
          left_order = (
            λ x l. gO.into x (r.left_order.0 x
                (left_order_to same fixed U u S S keeps keeps (L' js) (L js) (all (L' js)) bJ x tt l)),
            λ x l. left_order_to same fixed U u S S keeps keeps (L js) (L' js) (all (L js)) gJ x tt
                (r.left_order.1 x (gO.back x l)),
          );
          not_multiple = λ w. r.not_multiple (λ x j.
              multiple_to same fixed U u twisted.◌•◌ A.◌•◌ q p back S S (L' os) (L os) (all (L' os)) bO x
              (w x (gJ.into x j)));
        }
