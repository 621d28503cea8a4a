-- Powers of a uniformizer bring each element into a lattice that spans the algebra.
use Rattle.std.specs.Prelude.{◌≡◌, ℕ, zero, suc, ◌+◌, ◌<◌}
use Rattle.std.proofs.Common.{sym, ◌∙◌, ap, subst}
use Rattle.theory_rings.specs.Ring.{FieldOn}
use Rattle.theory_rings.specs.Sum.{sum}
use Rattle.theory_rings.specs.Power.{power}
use Rattle.theory_spaces.specs.Module.{ModuleOn, AlgebraOn, module_of}
use Rattle.theory_spaces.specs.Linear.{InSpan, IsSubmodule}
use Rattle.theory_spaces.specs.Valuation.{ValuationOn, integers, restrict}
use Rattle.theory_orders.specs.Uniformizer.{IsIntegral, UniformizerOn}
use Rattle.theory_orders.specs.Lattices.{Lattice}
use Rattle.theory_orders.proofs.Lattices.SumsOf.{sum_in}
use Rattle.theory_orders.proofs.Lattices.Multiples.{uniform, up, up-plus, up-add, up-zero, up-scale, up-power}
use Rattle.theory_spaces.proofs.Linear.LatticeSpans.{lattice-zero, lattice-add, lattice-scale, lattice-member}

module _ {K V : Type 0} (F : FieldOn K) (Z : ValuationOn F) (p q : K) (U : UniformizerOn F Z p q)
    (A : AlgebraOn F.ring V) (N : ℕ) (b : ℕ → V) where
  infixl 70 ◌•◌
  open A use {◌•◌}

  abbrev RA : ModuleOn (integers F Z) V
  RA = restrict F Z (module_of A)

  abbrev Lam : V → Type 0
  Lam = Lattice F Z A N b

  pub Lam_scale : (c : K) (x : V) → IsIntegral F Z c → Lam x → Lam (c • x)
  Lam_scale c x h l = lattice-scale F Z (module_of A) N b (c, h) x l

  pub Lam_up : (s : ℕ) (x : V) → Lam x → Lam (up A p s x)
  Lam_up zero x l = l
  Lam_up (suc s) x l = Lam_scale p (up A p s x) U.p_in (Lam_up s x l)

  -- p to the s times x is in the lattice
  abbrev pub Low : ℕ → V → Type 0
  Low s x = Lam (up A p s x)

  pub Low_more : (s t : ℕ) (x : V) → Low s x → Low (t + s) x
  Low_more s t x h = subst Lam (sym (up-plus A p t s x)) (Lam_up t (up A p s x) h)

  pub Low_add : (s : ℕ) (x y : V) → Low s x → Low s y → Low s (A.◌⊕◌ x y)
  Low_add s x y g k = subst Lam (sym (up-add A p s x y))
      (lattice-add F Z (module_of A) N b (up A p s x) (up A p s y) g k)

  pub Low_sum : (s m : ℕ) (f : ℕ → V) → ((i : ℕ) → i < m → Low s (f i)) → Low s (sum A.monoid m f)
  Low_sum s m f h = sum_in A (Low s) (subst Lam (sym (up-zero A p s)) (lattice-zero F Z (module_of A) N b))
      (Low_add s) m f h

  -- a scalar goes past a power of p
  up_swap : (s : ℕ) (c : K) (x : V) → up A p s (c • x) ≡ c • up A p s x
  up_swap s c x = up-scale A p s c x ∙ ap (λ a. a • x) (F.mul_comm (power F.ring p s) c)
      ∙ A.mul-scale c (power F.ring p s) x ∙ ap (λ z. c • z) (sym (up-power A p s x))

  pub Low_sub : (s : ℕ) → IsSubmodule RA (Low s)
  Low_sub s = record {
    zero-in = subst Lam (sym (up-zero A p s)) (lattice-zero F Z (module_of A) N b);
    add-in = Low_add s;
    scale-in = λ c x h. subst Lam (sym (up_swap s c.0 x)) (Lam_scale c.0 (up A p s x) c.1 h);
  }

  -- each element is brought into the lattice
  pub lowered : ((a : V) → InSpan (module_of A) N b a) → (a : V) → (s : ℕ) × Low s a
  lowered whole a =
      let d = whole a in
      let u = uniform (λ s i. Low s (d.weights i • b i)) (λ s t i. Low_more s t (d.weights i • b i)) N
      (λ i l. let t = U.reach (d.weights i) in (
        t.0,
        subst Lam (sym (up-scale A p t.0 (d.weights i) (b i)))
            (Lam_scale (F.◌⊗◌ (power F.ring p t.0) (d.weights i)) (b i) t.1 (lattice-member F Z (module_of A) N i b l)),
      )) in
      (u.0, subst (Low u.0) (sym d.combines) (Low_sum u.0 N (λ i. d.weights i • b i) u.1))
