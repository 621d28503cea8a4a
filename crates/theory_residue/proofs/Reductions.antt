-- Each algebra with the residues of the constants of an order is one onto which the order is mapped; and there is one,
-- on each space of coordinates.
use Rattle.std.specs.Prelude.{◌≡◌, ℕ, ◌<◌}
use Rattle.std.proofs.Common.{sym, ◌∙◌, ap}
use Rattle.theory_rings.specs.Ring.{FieldOn}
use Rattle.theory_spaces.specs.Module.{ModuleOn, AlgebraOn, module_of}
use Rattle.theory_spaces.specs.Linear.{comb, Basis}
use Rattle.theory_spaces.specs.Space.{SpaceOn, ProductOn, product_on}
use Rattle.theory_spaces.specs.Valuation.{ValuationOn}
use Rattle.theory_spaces.proofs.Linear.Spaces.{Basis-coord}
use Rattle.theory_spaces.proofs.Tuples.Tables.{space_basis, space_basis-coord, table_on, coord-unit_mul, algebra_of}
use Rattle.theory_orders.specs.Uniformizer.{UniformizerOn}
use Rattle.theory_orders.specs.Orders.{IsOrder}
use Rattle.theory_orders.specs.Lattices.{Lattice}
use Rattle.theory_residue.specs.Residue.{ResidueOn, ResidueConstants, ResidueReduction, ResidueAlgebra}
use Rattle.theory_residue.proofs.ResidueAlgebra.{basis_ext, red, lift, lift_in, red-lift, red-comb, red-add}
use Rattle.theory_residue.proofs.ResidueAlgebra.{red-scale, red-mul, kernel_to, kernel_from, multiple_in, residue_assoc}
use Rattle.theory_residue.proofs.ResidueAlgebra.{residue_one-mul, residue_mul-one}

module _ {K E V : Type 0} (F : FieldOn K) (Z : ValuationOn F) (p q : K) (U : UniformizerOn F Z p q) (k : FieldOn E)
    (D : ResidueOn F Z q k)
    (A : AlgebraOn F.ring V) (n : ℕ) (b : Basis (module_of A) n) (O : IsOrder A (Lattice F Z A n b.vec)) where
  infixl 70 ◌⊗◌
  open A use {◌⊗◌}
  open D use {res}

  abbrev MA : ModuleOn F.ring V
  MA = module_of A

  abbrev v : ℕ → V
  v = b.vec

  abbrev L : V → Type 0
  L = Lattice F Z A n v

  module _ {W : Type 0} (B : AlgebraOn k.ring W) (w : Basis (module_of B) n)
      (h : ResidueConstants F Z k D A B n v w.vec) where
    abbrev MB : ModuleOn k.ring W
    MB = module_of B

    constants : (i j l : ℕ) → i < n → j < n → l < n
        → w.coord (B.◌⊗◌ (w.vec i) (w.vec j)) l ≡ res (b.coord (v i ⊗ v j) l)
    constants i j l a c d = ap (λ y. w.coord y l) (h i j a c (b.coord (v i ⊗ v j)) (b.expand (v i ⊗ v j)))
        ∙ Basis-coord MB n w (λ l. res (b.coord (v i ⊗ v j) l)) l d

    abbrev r : V → W
    r = red F Z p q U k D A n b O MB w

    pub residue_reduction : ResidueReduction F Z p k D A B n v w.vec
    residue_reduction = record {
      reduction = record {
        red = r;
        lift = lift F Z p q U k D A n b O MB w;
        lift_in = lift_in F Z p q U k D A n b O MB w;
        red-lift = red-lift F Z p q U k D A n b O MB w;
        map-one = sym (B.mul-one (r A.one)) ∙ residue_one-mul F Z p q U k D A n b O MB w (product_on B) constants B.one;
        map-add = red-add F Z p q U k D A n b O MB w;
        map-mul = red-mul F Z p q U k D A n b O MB w (product_on B) constants;
        kernel = λ x l. (kernel_to F Z p q U k D A n b O MB w x l, kernel_from F Z p q U k D A n b O MB w x);
        kernel_in = multiple_in F Z p q U k D A n b O MB w;
      };
      values = λ c _. red-comb F Z p q U k D A n b O MB w c;
      map-scale = red-scale F Z p q U k D A n b O MB w;
    }

  module _ {W : Type 0} (M : ModuleOn k.ring W) (S : SpaceOn M n) where
    abbrev w : Basis M n
    w = space_basis M n S

    abbrev g : ℕ → ℕ → ℕ → E
    g i j l = res (b.coord (v i ⊗ v j) l)

    abbrev P : ProductOn M
    P = table_on k.cring M n S g

    pub table_constants : (i j l : ℕ) → i < n → j < n → l < n → w.coord (P.◌⊗◌ (w.vec i) (w.vec j)) l ≡ g i j l
    table_constants i j l a c d = space_basis-coord M n S (P.◌⊗◌ (w.vec i) (w.vec j)) l d
        ∙ coord-unit_mul k.cring M n S g i j l a c d

    -- the algebra by the residues of the structure constants
    abbrev pub residue_table : AlgebraOn k.ring W
    residue_table = algebra_of M P (residue_assoc F Z p q U k D A n b O M w P table_constants)
        (red F Z p q U k D A n b O M w A.one)
        (residue_one-mul F Z p q U k D A n b O M w P table_constants)
        (residue_mul-one F Z p q U k D A n b O M w P table_constants)

    pub residue_constants : ResidueConstants F Z k D A residue_table n v w.vec
    residue_constants i j a c f e = basis_ext M n w (P.◌⊗◌ (w.vec i) (w.vec j)) (comb M n (λ l. res (f l)) w.vec)
        (λ l d.
        table_constants i j l a c d ∙ ap res (ap (λ x. b.coord x l) e ∙ Basis-coord MA n b f l d)
        ∙ sym (Basis-coord M n w (λ l. res (f l)) l d))

    pub residue_algebra : ResidueAlgebra F Z p k D A n v W
    residue_algebra = record {
      algebra = residue_table;
      basis = w;
      constants = residue_constants;
      reduction = residue_reduction residue_table w residue_constants;
    }
