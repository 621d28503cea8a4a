-- Examples of algebras by their structure constants: that of the 2 by 2 matrices, which is split, and a field with a
-- square root of p, which is ramified at p.
use Rattle.std.specs.Prelude.{List, [], ◌∷◌, ◌++◌}
use Rattle.theory_rings.specs.Ops.{Ops}
use Rattle.theory_tables.specs.Structure.{Structure}

-- the 2 by 2 matrices with the basis b_1 = E_11, b_2 = E_12, b_3 = E_21 and b_4 = E_22, where E_rs has one at row r and
-- column s, and else zero
module _ {E : Type 0} (o : Ops E) where
  -- the tuples of 0, b_1, .., b_4, the second with c in place of one
  abbrev pub row_zero : List E
  row_zero = o.zero ∷ (o.zero ∷ (o.zero ∷ (o.zero ∷ [])))

  abbrev pub row_11 : List E
  row_11 = o.one ∷ (o.zero ∷ (o.zero ∷ (o.zero ∷ [])))

  abbrev pub row_12 : E → List E
  row_12 c = o.zero ∷ (c ∷ (o.zero ∷ (o.zero ∷ [])))

  abbrev pub row_21 : List E
  row_21 = o.zero ∷ (o.zero ∷ (o.one ∷ (o.zero ∷ [])))

  abbrev pub row_22 : List E
  row_22 = o.zero ∷ (o.zero ∷ (o.zero ∷ (o.one ∷ [])))

  -- the 64 constants, with c·b_2 for b_1·b_2: the products of b_1 with b_1, b_2, b_3 and b_4, then those of b_2, b_3
  -- and b_4
  abbrev pub matrix_table_with : E → List E
  matrix_table_with c =
      row_11 ++ (row_12 c ++ (row_zero ++ (row_zero
      ++ (row_zero ++ (row_zero ++ (row_11 ++ (row_12 o.one
      ++ (row_21 ++ (row_22 ++ (row_zero ++ (row_zero
      ++ (row_zero ++ (row_zero ++ (row_21 ++ row_22))))))))))))))

  abbrev pub matrix_structure_with : E → Structure E
  matrix_structure_with c = record { dim = 4; constants = matrix_table_with c }

  -- the algebra of the 2 by 2 matrices
  abbrev pub matrix_structure : Structure E
  matrix_structure = matrix_structure_with o.one

  -- the tuples of the basis
  abbrev pub matrix_basis : List (List E)
  matrix_basis = row_11 ∷ (row_12 o.one ∷ (row_21 ∷ (row_22 ∷ [])))

  -- the matrix with the rows a, b and c, d
  abbrev pub square : E → E → E → E → List (List E)
  square a b c d = (a ∷ (b ∷ [])) ∷ ((c ∷ (d ∷ [])) ∷ [])

  -- E_11, E_12, E_21 and E_22
  abbrev pub unit_maps : List (List (List E))
  unit_maps =
      square o.one o.zero o.zero o.zero ∷ (square o.zero o.one o.zero o.zero
      ∷ (square o.zero o.zero o.one o.zero ∷ (square o.zero o.zero o.zero o.one ∷ [])))

-- the field with a square root of p: the basis 1 and w with w·w = p. The integral combinations of 1 and w are an order,
-- and those of p and w its radical
abbrev pub pair : {E : Type 0} → E → E → List E
pair a b = a ∷ (b ∷ [])

module _ {E : Type 0} (o : Ops E) (p : E) where
  abbrev pub root_structure : Structure E
  root_structure = record {
    dim = 2;
    constants = pair o.one o.zero ++ (pair o.zero o.one ++ (pair o.zero o.one ++ pair p o.zero));
  }

  abbrev pub root_order : List (List E)
  root_order = pair o.one o.zero ∷ (pair o.zero o.one ∷ [])

  abbrev pub root_radical : List (List E)
  root_radical = pair p o.zero ∷ (pair o.zero o.one ∷ [])
