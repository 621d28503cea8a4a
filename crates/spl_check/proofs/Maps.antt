-- Products and combinations of maps: by lists that were read, and by the numbers of places.
use Rattle.std.specs.Prelude.{◌≡◌, ◌↔◌, ◌+◌, ◌*◌, ◌/◌, ◌%◌, ◌<◌, ◌==◌, ◌&&◌, ℕ, List, [], length, get_or, cond}
use Rattle.std.proofs.Common.{sym, ◌∙◌, ap, ap₂, arith}
use Rattle.std.proofs.lemmas.Nat.{div-add-mod'}
use Rattle.theory_rings.specs.Ops.{Ops, FieldLaws}
use Rattle.theory_rings.specs.Sum.{at, sum_of}
use Rattle.theory_rings.proofs.Rings.Elements.{sum_of_congr}
use Rattle.theory_spaces.specs.Tuples.{constant}
use Rattle.theory_tables.specs.Matrix.{entry}
use Rattle.theory_tables.specs.Structure.{Structure, IsOver, basis_of, product_of}
use Rattle.theory_tables.proofs.Rows.Sums.{row_at}
use Rattle.theory_tables.specs.Conditions.{map_entry, GiveMatrixUnits}
use Rattle.spl_check.proofs.BasisProducts.{at-basis_product}
use Rattle.spl_check.proofs.Places.{at_places, same_place, place-row, place-column}

module _ {E : Type 0} (o : Ops E) (n : ℕ) (maps : List (List (List E))) where
  -- the product of a and b is the combination of the maps, at one place
  abbrev pub CombinesAt : List (List E) → List (List E) → List E → ℕ → ℕ → Type 0
  CombinesAt a b weights r s = sum_of o n (λ t. o.mul (entry o a r t) (entry o b t s))
      ≡ sum_of o (length maps) (λ k. o.mul (at o weights k) (map_entry o maps k r s))

  -- at number q the combination of the maps is the unit matrix of number p
  abbrev pub UnitAt : List E → ℕ → ℕ → Type 0
  UnitAt weights p q = sum_of o (length maps) (λ k. o.mul (at o weights k) (map_entry o maps k (q / n) (q % n)))
      ≡ cond (q == p) o.one o.zero

module _ {E : Type 0} (o : Ops E) (L : FieldLaws o) (A : Structure E) (over : IsOver o A) (n : ℕ)
    (maps : List (List (List E))) (count : length maps ≡ A.dim) where
  -- maps i and j multiply as the basis elements do, at one place
  abbrev pub MultiplyAt : ℕ → ℕ → ℕ → ℕ → Type 0
  MultiplyAt i j r s = sum_of o n (λ t. o.mul (map_entry o maps i r t) (map_entry o maps j t s))
      ≡ sum_of o A.dim (λ k. o.mul (constant o A.dim A.constants i j k) (map_entry o maps k r s))

  combination-is : (i j : ℕ) → i < A.dim → j < A.dim → (weights : List E)
      → weights ≡ product_of o A (basis_of o A i) (basis_of o A j) → (r s : ℕ)
      → sum_of o (length maps) (λ k. o.mul (at o weights k) (map_entry o maps k r s)) ≡ sum_of o A.dim
      (λ k. o.mul (constant o A.dim A.constants i j k) (map_entry o maps k r s))
  combination-is i j i_in j_in weights w r s =
      ap (λ (d : ℕ). sum_of o d (λ k. o.mul (at o weights k) (map_entry o maps k r s))) count
      ∙ sum_of_congr o A.dim (λ k. o.mul (at o weights k) (map_entry o maps k r s))
      (λ k. o.mul (constant o A.dim A.constants i j k) (map_entry o maps k r s)) (λ k k_in.
      ap (λ (x : E). o.mul x (map_entry o maps k r s))
      (ap (λ (xs : List E). at o xs k) w ∙ at-basis_product o L A over i j k i_in j_in k_in))

  -- the maps x and y that were read in the list, by their rows a and b
  pub combines_iff : (i j : ℕ) → i < A.dim → j < A.dim → (x y a b : List (List E)) (weights : List E)
      → x ≡ get_or maps i x → a ≡ x → y ≡ get_or maps j y → b ≡ y
      → weights ≡ product_of o A (basis_of o A i) (basis_of o A j) → (r s : ℕ)
      → CombinesAt o n maps a b weights r s ↔ MultiplyAt i j r s
  combines_iff i j i_in j_in x y a b weights x_is a_is y_is b_is w r s =
      let products = ap₂ (λ (x y : List (List E)). sum_of o n (λ t. o.mul (entry o x r t) (entry o y t s)))
      (row_at maps i x a (omega (arith, i_in, count)) x_is a_is)
      (row_at maps j y b (omega (arith, j_in, count)) y_is b_is) in
      let combined = combination-is i j i_in j_in weights w r s in
      ((λ h. sym products ∙ h ∙ combined), (λ h. products ∙ h ∙ sym combined))

module _ {E : Type 0} (o : Ops E) (A : Structure E) (n : ℕ) (maps : List (List (List E))) (units : List (List E))
    (count : length maps ≡ A.dim) where
  abbrev combined : List E → ℕ → ℕ → E
  combined weights r s = sum_of o A.dim (λ k. o.mul (at o weights k) (map_entry o maps k r s))

  combined-is : (weights : List E) (r s : ℕ)
      → sum_of o (length maps) (λ k. o.mul (at o weights k) (map_entry o maps k r s)) ≡ combined weights r s
  combined-is weights r s = ap (λ (d : ℕ). sum_of o d (λ k. o.mul (at o weights k) (map_entry o maps k r s))) count

  unit-is : (p q : ℕ) → combined (get_or units (p / n * n + p % n) []) (q / n) (q % n)
      ≡ sum_of o (length maps) (λ k. o.mul (at o (get_or units p []) k) (map_entry o maps k (q / n) (q % n)))
  unit-is p q = ap (λ (x : ℕ). combined (get_or units x []) (q / n) (q % n)) (div-add-mod' p n)
      ∙ sym (combined-is (get_or units p []) (q / n) (q % n))

  test-is : (p q : ℕ) → cond (q == p) o.one o.zero ≡ cond ((q / n == p / n) && (q % n == p % n)) o.one o.zero
  test-is p q = ap (λ b. cond b o.one o.zero) (sym (same_place n p q))

  -- by the numbers of the places
  pub units_of_numbers : ((p : ℕ) → p < n * n → (q : ℕ) → q < n * n → UnitAt o n maps (get_or units p []) p q)
      → GiveMatrixUnits o A n maps units
  units_of_numbers h r s r' s' r_in s_in r'_in s'_in =
      at_places n
      (λ r s. (r' s' : ℕ) → r' < n → s' < n
      → combined (get_or units (r * n + s) []) r' s' ≡ cond ((r' == r) && (s' == s)) o.one o.zero)
      (λ p p_in. at_places n
      (λ r' s'. combined (get_or units (p / n * n + p % n) []) r' s'
      ≡ cond ((r' == p / n) && (s' == p % n)) o.one o.zero)
      (λ q q_in. unit-is p q ∙ h p p_in q q_in ∙ test-is p q))
      r s r_in s_in r' s' r'_in s'_in

  pub numbers_of_units : GiveMatrixUnits o A n maps units → (p : ℕ) → p < n * n → (q : ℕ) → q < n * n
      → UnitAt o n maps (get_or units p []) p q
  numbers_of_units h p p_in q q_in = sym (unit-is p q)
      ∙ h (p / n) (p % n) (q / n) (q % n) (place-row n p p_in) (place-column n p p_in) (place-row n q q_in)
      (place-column n q q_in)
      ∙ sym (test-is p q)
