-- What the definitions ask of the ideals that tests tell holds of each set: the ideal that one member of it generates
-- is a lattice, and so it is told by a test.
use Rattle.std.specs.Prelude.{ℕ, Bool}
use Rattle.std.proofs.Common.{sym, ◌∙◌, ap, subst, inl, inr, ⊎_elim}
use Rattle.theory_rings.specs.Ring.{FieldOn}
use Rattle.theory_spaces.specs.Module.{ModuleOn, AlgebraOn, module_of}
use Rattle.theory_spaces.specs.Linear.{Basis, Coords, IsSubmodule}
use Rattle.theory_spaces.specs.Valuation.{ValuationOn, integers, restrict}
use Rattle.theory_spaces.proofs.Linear.Spaces.{coords_of}
use Rattle.theory_orders.specs.Uniformizer.{UniformizerOn}
use Rattle.theory_orders.specs.Orders.{IsOrder, IsIdeal, Around, Generated, Multiple, Power, Radical}
use Rattle.theory_orders.specs.Orders.{Within, Same, Test}
use Rattle.theory_orders.specs.Lattices.{Lattice, IsOrderAt}
use Rattle.theory_orders.specs.MaximalIdealLaws.{RadicalHolds, SimpleHolds, OnlyHolds}
use Rattle.theory_orders.proofs.Ideals.Ideals.{ideal_same, whole, generated_in}
use Rattle.theory_orders.proofs.LeftOrder.LeftOrders.{Power_map}
use Rattle.theory_orders.proofs.Lattices.Multiples.{Multiple-ideal}
use Rattle.theory_orders.proofs.Lattices.Scaling.{Lam_scale}
use Rattle.theory_spaces.proofs.Linear.LatticeTests.{lattice_test, lattice_test-in, in-lattice_test}
use Rattle.theory_orders.proofs.Ideals.SimpleQuotients.{simple_by_elements, one_or_within, size, vec, each, J_Gen}
use Rattle.theory_orders.proofs.Ideals.SimpleQuotients.{T_Gen}
use Rattle.theory_orders.proofs.Ideals.SimpleQuotients.{Gen_ideal}
use Rattle.theory_orders.proofs.Splitting.Composition.{multiple_same}
use Rattle.theory_orders.proofs.Ideals.OnlyMaximal.{not_one, within_maximal}
use Rattle.theory_spaces.proofs.Linear.LatticeSpans.{lattice-scale, lattice_in}

module _ {K V : Type 0} (F : FieldOn K) (Z : ValuationOn F) (p q : K) (U : UniformizerOn F Z p q)
    (A : AlgebraOn F.ring V) (N : ℕ) (B : Basis (module_of A) N) where
  infixl 70 ◌⊗◌
  infixl 70 ◌•◌
  open A use {◌⊗◌, ◌•◌}

  abbrev M : ModuleOn F.ring V
  M = module_of A

  abbrev RA : ModuleOn (integers F Z) V
  RA = restrict F Z M

  abbrev C : Coords M N
  C = coords_of M N B

  module _ (os : ℕ → V) (D : IsOrderAt F Z A N os) where
    abbrev L : V → Type 0
    L = Lattice F Z A N os

    abbrev O : IsOrder A L
    O = D.order

    abbrev P : V → Type 0
    P = Multiple A p L

    -- p times the order as a lattice
    abbrev ps : ℕ → V
    ps i = p • os i

    P_same : Same P (Lattice F Z A N ps)
    P_same = multiple_same F Z p q U A N B os O

    P_ideal : IsIdeal A L (Lattice F Z A N ps)
    P_ideal = ideal_same A L P (Lattice F Z A N ps) P_same
        (Multiple-ideal A p L O (λ x l. Lam_scale F Z p q U A N os p x U.p_in l))

    module _ (T : V → Type 0) (I : IsIdeal A L T) (over : Within P T) where
      T_submodule : IsSubmodule RA T
      T_submodule = record {
        zero-in = I.zero_in;
        add-in = I.add_in;
        scale-in = λ c x h. subst T (A.scale-left c.0 A.one x ∙ ap (λ y. c.0 • y) (A.one-mul x))
            (I.left (c.0 • A.one) x (lattice-scale F Z M N os c A.one O.one_in) h);
      }

      -- what a member and p times the order generate
      module _ (x : V) (h : T x) where
        abbrev k : ℕ
        k = size F Z A N C N os N ps O P_ideal x (I.inside x h)

        abbrev g : ℕ → V
        g = vec F Z A N C N os N ps O P_ideal x (I.inside x h)

        abbrev Gen : V → Type 0
        Gen = Lattice F Z A k g

        Gen_in : Within Gen T
        Gen_in = lattice_in F Z M T T_submodule k g (λ i l. ⊎_elim
            (λ (w : Around A L x (g i)). subst T (sym w.4) (I.right w.1 (w.0 ⊗ x) w.3 (I.left w.0 x w.2 h)))
            (λ (j : Lattice F Z A N ps (g i)). over (g i) (P_same.1 (g i) j))
            (each F Z A N C N os N ps O P_ideal x (I.inside x h) i l))

        abbrev t : V → Bool
        t = lattice_test F Z M N C k g

        t_same : Same Gen (Test t)
        t_same = (in-lattice_test F Z M N C k g, lattice_test-in F Z M N C k g)

        x_in : Gen x
        x_in = T_Gen F Z A N C N os N ps O P_ideal x (I.inside x h) x
            (inl (A.one, A.one, O.one_in, O.one_in, sym (A.mul-one (A.one ⊗ x) ∙ A.one-mul x)))

        in_radical : (m : ℕ) (w : ℕ → V) → Radical A p L (Lattice F Z A m w) → (e : ℕ) → Within (Power A T e) P
            → Lattice F Z A m w x
        in_radical m w R e falls = R.largest t e
            (ideal_same A L Gen (Test t) t_same (Gen_ideal F Z A N C N os N ps O P_ideal x (I.inside x h)))
            (λ y s. t_same.0 y (J_Gen F Z A N C N os N ps O P_ideal x (I.inside x h) y (P_same.0 y s)))
            (λ y s. falls y (Power_map A L O (Test t) T (λ z s. Gen_in z (t_same.1 z s)) e y s)) x (t_same.0 x x_in)

  pub radical_holds : {X : Type 0} (T : X → V → Type 0) → RadicalHolds F Z p A N T
  radical_holds T = λ v D m w R i e I over falls x h. in_radical v D (T i) I over x h m w R e falls

  pub simple_holds : {X : Type 0} (T : X → V → Type 0) → SimpleHolds F Z p A N T
  simple_holds T = λ v D m w I S i IT over x h.
      let L = Lattice F Z A N v in
      let J = Lattice F Z A m w in
      ⊎_elim inl
      (λ (r : Generated A L J x A.one). inr (whole A L J D.order (T i) IT
      (generated_in A L J D.order (T i) IT over x h A.one r)))
      ((simple_by_elements F Z A N C N v m w D.order I S).generates x (IT.inside x h))

  pub only_holds : {X : Type 0} (T : X → V → Type 0) → OnlyHolds F Z p A N T
  only_holds T = λ v D m w H i t.
      let L = Lattice F Z A N v in
      let J = Lattice F Z A m w in
      let S = simple_by_elements F Z A N C N v m w D.order H.maximal.ideal H.maximal.simple in
      let inside : Within (T i) J = λ x h. ⊎_elim (λ j. j)
      (λ (one : T i A.one). absurd (not_one F Z p q U A N B v D (T i) t one))
      (one_or_within A L J D.order S p H.maximal.ideal H.maximal.over H.exponent H.power.0
      (T i) t.ideal t.over x h) in (
        inside,
        within_maximal F Z p q U A N B v D (T i) t m w H.maximal.ideal
            (not_one F Z p q U A N B v D J H.maximal) inside,
      )
