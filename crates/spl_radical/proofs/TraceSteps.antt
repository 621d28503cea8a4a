-- The trace of a power of the lift of a multiplication, by rows of numbers.
use Rattle.std.specs.Prelude.{◌≡◌, ℕ, suc, ◌*◌, ◌^◌, ◌<◌, ◌≤◌, List, [], length, get_or}
use Rattle.std.proofs.Common.{sym, ◌∙◌, ap, ap₂, subst, arith, ⊎_elim}
use Rattle.std.proofs.Math.Nat.{pow-zero, pow-le-pow_right}
use Rattle.std.proofs.lemmas.Bool.{cases_lt}
use Rattle.std.proofs.lemmas.List.{get_or_past}
use Rattle.theory_rings.specs.Sum.{at, table}
use Rattle.theory_rings.proofs.Sums.Sums.{sum_congr}
use Rattle.theory_rings.proofs.Sums.Lists.{length-table, get_or-table}
use Rattle.theory_spaces.specs.Matrix.{mat_trace}
use Rattle.theory_radical.specs.Chain.{mat_power}
use Rattle.theory_tables.specs.Matrix.{IsMatrix}
use Rattle.theory_tables.specs.Structure.{Structure, product_of, basis_of}
use Rattle.theory_tables.specs.Traces.{left_matrix}
use Rattle.theory_chains.specs.NumberRows.{AreNumbers}
use Rattle.spl_residue.specs.Residue.{field_of, residue_ops}
use Rattle.spl_residue.specs.declared.field.ResidueField.{ResidueField}
use Rattle.spl_radical.specs.LiftRing.{LiftNumbers, prime_of, width_of, size_of, ring_of, lifted, IsLiftElem}
use Rattle.spl_radical.specs.LiftMatrices.{IsLiftMatrix, matrix_of, HasEntries, AreLiftedRows}
use Rattle.spl_radical.specs.TracePower.{lifted_matrix, lifted_trace}
use Rattle.spl_radical.proofs.Elements.{of_element}
use Rattle.spl_radical.proofs.PowerEntries.{power_entries}

module _ (k : ResidueField) (l : ℕ) where
  abbrev Rows : Type 0
  Rows = List (List ℕ)

  -- the lifted rows are a matrix
  pub lifted_shape : (left : List Rows) (rows rows' : Rows) → IsMatrix (residue_ops k) (length left) left
      → AreLiftedRows k l left (length left) rows → rows' ≡ rows → IsLiftMatrix k l (length rows') rows'
  lifted_shape left rows rows' hl h e =
      let s : IsLiftMatrix k l (length left) rows = record {
        count = h.count;
        numbers = λ i il.
            let il' : i < length left = (let c = h.count in omega arith) in
            subst (λ n. AreNumbers (size_of k l) (n * width_of k) (get_or rows i [])) (hl i [] il').right_length
            (h.each i il').are_numbers;
      } in
      subst (λ n. IsLiftMatrix k l n rows') (sym (ap length e ∙ h.count))
      (subst (IsLiftMatrix k l (length left)) (sym e) s)

  -- how many numbers a row has
  pub numbers_in_row : (n : ℕ) (rows : Rows) → IsLiftMatrix k l (length rows) rows → n ≡ length (get_or rows 0 [])
      → n ≡ length rows * width_of k
  numbers_in_row n rows h e = ⊎_elim
      (λ (a : 0 < length rows). e ∙ (h.numbers 0 a).count)
      (λ (a : length rows ≤ 0).
      let z : 0 ≡ length rows * width_of k = (let c : length rows ≡ 0 = omega arith in
      sym (ap (λ n. n * width_of k) c ∙ (let y : 0 * width_of k ≡ 0 = omega arith in y))) in
      e ∙ ap length (get_or_past rows 0 [] a) ∙ z)
      (cases_lt 0 (length rows))

  -- the exponent fits
  pub exponent_fits : (p i : ℕ) → p ≡ prime_of k → i ≤ l → size_of k l ≤ 2 ^ 40 → p ^ i ≤ 2 ^ 40
  exponent_fits p i e h s = let f = field_of k in
      let g : prime_of k ^ i ≤ prime_of k ^ suc l = pow-le-pow_right (let t = f.least in omega arith) (omega arith) in
      subst (λ p. p ^ i ≤ 2 ^ 40) (sym e) (omega arith)

  pub exponent_positive : (p i e : ℕ) → p ≡ prime_of k → e ≡ p ^ i → 1 ≤ e
  exponent_positive p i e ep ee = let f = field_of k in
      let g : prime_of k ^ 0 ≤ prime_of k ^ i = pow-le-pow_right (let t = f.least in omega arith) (omega arith) in
      let z = pow-zero (prime_of k) in
      let h : e ≡ prime_of k ^ i = ee ∙ ap (λ p. p ^ i) ep in
      omega arith

  module _ (T : Structure (List ℕ)) (a : Rows) where
    abbrev L : List Rows
    L = left_matrix (residue_ops k) T a

    left_entry : (i j : ℕ) → i < T.dim → j < T.dim → at (residue_ops k) (get_or L i []) j
        ≡ at (residue_ops k) (product_of (residue_ops k) T a (basis_of (residue_ops k) T j)) i
    left_entry i j il jl = let o = residue_ops k in
        ap (λ r. at o r j) (get_or-table T.dim
        (λ i. table T.dim (λ j. at o (product_of o T a (basis_of o T j)) i)) i [] il)
        ∙ get_or-table T.dim (λ j. at o (product_of o T a (basis_of o T j)) i) j o.zero jl

    left_count : length L ≡ T.dim
    left_count = let o = residue_ops k in
        length-table T.dim (λ i. table T.dim (λ j. at o (product_of o T a (basis_of o T j)) i))

    left_width : (i : ℕ) → i < T.dim → length (get_or L i []) ≡ T.dim
    left_width i il = let o = residue_ops k in
        ap length (get_or-table T.dim (λ i. table T.dim (λ j. at o (product_of o T a (basis_of o T j)) i)) i [] il)
        ∙ length-table T.dim (λ j. at o (product_of o T a (basis_of o T j)) i)

    lifted_entries : (rows : Rows) → AreLiftedRows k l L (length L) rows
        → HasEntries k l T.dim (lifted_matrix k l T a) rows
    lifted_entries rows h i j il jl =
        (h.each i (let c = left_count in omega arith)).elements j (let c = left_width i il in omega arith)
        ∙ ap (lifted k l) (left_entry i j il jl)

    -- the trace
    pub trace_value : (left : List Rows) (rows rows' raised raised' : Rows) (r : List ℕ) (e i : ℕ) → left ≡ L
        → AreLiftedRows k l left (length left) rows → rows' ≡ rows → raised' ≡ raised
        → IsLiftMatrix k l (length rows') raised
        → HasEntries k l (length rows')
        (mat_power (ring_of k l).ring (length rows') (matrix_of k l rows') e) raised
        → e ≡ prime_of k ^ i
        → r ≡ (mat_trace (ring_of k l).ring (length raised') (matrix_of k l raised')).0
        → r ≡ (lifted_trace k l T a i).0
    trace_value left rows rows' raised raised' r e i el h er et hs hv ee eq =
        let R = (ring_of k l).ring in
        let m = T.dim in
        let g : AreLiftedRows k l L (length L) rows = subst (λ left. AreLiftedRows k l left (length left) rows) el h in
        let c : length rows' ≡ m = ap length er ∙ g.count ∙ left_count in
        let v : HasEntries k l m (mat_power R m (matrix_of k l rows) e) raised =
        subst (λ n. HasEntries k l n (mat_power R n (matrix_of k l rows) e) raised) c
        (subst (λ x. HasEntries k l (length rows') (mat_power R (length rows') (matrix_of k l x) e) raised) er hv) in
        eq ∙ ap (λ (x : LiftNumbers k l). x.0)
        (ap₂ (λ n x. mat_trace R n (matrix_of k l x)) (ap length et ∙ hs.count ∙ c) et
        ∙ sum_congr (ring_of k l).monoid m (λ j. matrix_of k l raised j j)
        (λ j. mat_power R m (lifted_matrix k l T a) e j j)
        (λ j jl. v j j jl jl
        ∙ power_entries R m (matrix_of k l rows) (lifted_matrix k l T a) (lifted_entries rows g) e j j jl jl)
        ∙ ap (λ e. mat_trace R m (mat_power R m (lifted_matrix k l T a) e)) ee)

    pub trace_elem : (r : List ℕ) (i : ℕ) → r ≡ (lifted_trace k l T a i).0 → IsLiftElem k l r
    trace_elem r i e = subst (IsLiftElem k l) (sym e) (of_element k l (lifted_trace k l T a i))

    -- the matrix of the multiplication, where a program read it
    pub left_read : (k' : ResidueField) (left left' : List Rows) → k' ≡ k → IsMatrix (residue_ops k') T.dim left
        → left ≡ left_matrix (residue_ops k') T a → left' ≡ left
        → IsMatrix (residue_ops k) (length left') left' × (left' ≡ L)
    left_read k' left left' ek shape value e =
        let v : left' ≡ L = e ∙ value ∙ ap (λ k. left_matrix (residue_ops k) T a) ek in (
          subst (λ n. IsMatrix (residue_ops k) n left') (sym (ap length v ∙ left_count))
              (subst (λ k. IsMatrix (residue_ops k) T.dim left') ek
              (subst (IsMatrix (residue_ops k') T.dim) (sym e) shape)),
          v,
        )
