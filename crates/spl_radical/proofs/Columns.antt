-- Products of rows by a matrix, by its columns, in the lift ring of a residue field.
use Rattle.std.specs.Prelude.{◌≡◌, ℕ, suc, ◌-◌, ◌*◌, ◌%◌, ◌<◌, ◌≤◌, List, [], ◌∷◌, ◌++◌, length, get_or}
use Rattle.std.proofs.Common.{sym, ◌∙◌, ap, ap₂, subst, arith}
use Rattle.std.proofs.Math.Nat.{mod-lt}
use Rattle.theory_rings.specs.Sum.{sum, table}
use Rattle.theory_rings.specs.Naturals.{nat_monoid}
use Rattle.theory_rings.proofs.Sums.Lists.{length-table, All-table}
use Rattle.theory_lifts.proofs.ElementLists.{two_le_power}
use Rattle.theory_chains.specs.NumberRows.{AreNumbers, AreRows}
use Rattle.spl_residue.specs.Residue.{field_of}
use Rattle.spl_residue.specs.declared.field.ResidueField.{ResidueField}
use Rattle.spl_radical.specs.LiftRing.{degree_positive, digits_positive, prime_of, degree_of, digits_of, width_of}
use Rattle.spl_radical.specs.LiftRing.{size_of, LiftNumbers, ring_of, by_numbers, element_of, IsLiftElem, IsLiftProduct}
use Rattle.spl_radical.specs.LiftRing.{AreStepsOf, AreColumns}
use Rattle.spl_radical.specs.Multiples.{AreSteps, AreMultiples}
use Rattle.spl_radical.proofs.Elements.{two_le_size}
use Rattle.spl_radical.proofs.Products.{row_value, element_value, product_is, columns_below}

module _ (k : ResidueField) (l : ℕ) where
  -- what a program read
  pub steps_read : (q w : ℕ) (back back' : List ℕ) (turns turns' : List (List ℕ)) → q ≡ size_of k l → w ≡ width_of k
      → back' ≡ back → turns' ≡ turns → AreSteps (size_of k l) (width_of k) back turns → AreSteps q w back' turns'
  steps_read q w back back' turns turns' eq ew eb et h =
      subst (λ q. AreSteps q w back' turns') (sym eq)
      (subst (λ w. AreSteps (size_of k l) w back' turns') (sym ew)
      (subst (λ b. AreSteps (size_of k l) (width_of k) b turns') (sym eb)
      (subst (AreSteps (size_of k l) (width_of k) back) (sym et) h)))

  pub rows_read : (q w m : ℕ) (rows : List (List ℕ)) → q ≡ size_of k l → w ≡ width_of k
      → AreRows (size_of k l) (m * width_of k) rows → AreRows q (m * w) rows
  rows_read q w m rows eq ew h = subst (λ q. AreRows q (m * w) rows) (sym eq)
      (subst (λ w. AreRows (size_of k l) (m * w) rows) (sym ew) h)

  pub long_rows : (q w n : ℕ) (back : List ℕ) (turns rows all all' : List (List ℕ)) → all' ≡ all
      → AreMultiples q w back turns rows all n → n ≡ length rows * w
      → (r : ℕ) → r < length all' → n ≤ length (get_or all' r [])
  long_rows q w n back turns rows all all' e h en r lr =
      let c = h.count in
      let lr' : r < n = omega (arith, ap length e) in
      let a = (h.each r lr').numbers.count in
      let b : length (get_or all' r []) ≡ length (get_or all r []) = ap (λ x. length (get_or x r [])) e in
      omega arith

  -- these columns
  pub columns_are : (q w n : ℕ) (back back' : List ℕ) (turns turns' rows all all' c : List (List ℕ)) → q ≡ size_of k l
      → w ≡ width_of k → n ≡ length rows * width_of k → back' ≡ back → turns' ≡ turns → AreStepsOf k l back turns
      → AreMultiples q w back' turns' rows all n → all' ≡ all
      → c ≡ table n (λ t. table (length all') (λ r. get_or (get_or all' r []) t 0)) → AreColumns k l rows c
  columns_are q w n back back' turns turns' rows all all' c eq ew en eb et S h ea ec = let f = field_of k in
      let s = size_of k l in
      let m = length rows in
      let two = two_le_power (prime_of k) l f.least in
      let H = (by_numbers k l).0 in
      let M : AreMultiples s (width_of k) back turns rows all (m * width_of k) =
      subst (λ q. AreMultiples q (width_of k) back turns rows all (m * width_of k)) eq
      (subst (λ w. AreMultiples q w back turns rows all (m * width_of k)) ew
      (subst (λ b. AreMultiples q w b turns rows all (m * width_of k)) eb
      (subst (λ t. AreMultiples q w back' t rows all (m * width_of k)) et
      (subst (AreMultiples q w back' turns' rows all) en h)))) in
      let e : c ≡ table (m * width_of k) (λ t. table (length all) (λ r. get_or (get_or all r []) t 0)) =
      ec ∙ ap₂ (λ n all. table n (λ t. table (length all) (λ r. get_or (get_or all r []) t 0))) en ea in
      subst (AreColumns k l rows) (sym e) (record {
        count = length-table (m * width_of k) (λ t. table (length all) (λ r. get_or (get_or all r []) t 0));
        numbers = columns_below s (degree_of k) (digits_of k) two (degree_of k - 1) (digits_of k - 1)
            (degree_positive k) (digits_positive k) (ring_of k l) H back turns rows all S.digits S.back_numbers
            S.turn_numbers M;
        product = product_is s (degree_of k) (digits_of k) two (degree_of k - 1) (digits_of k - 1)
            (degree_positive k) (digits_positive k) (ring_of k l) H back turns rows all S.digits S.back_numbers
            S.turn_numbers M;
      })

  -- ---- a row times these columns

  pub columns_read : (q : ℕ) (a : List ℕ) (rows c c' : List (List ℕ)) → q ≡ size_of k l → c' ≡ c → AreColumns k l rows c
      → length a ≡ length rows * width_of k → AreRows q (length a) c'
  columns_read q a rows c c' eq ec h ea = subst (λ q. AreRows q (length a) c') (sym eq)
      (subst (AreRows (size_of k l) (length a)) (sym ec)
      (subst (λ n. AreRows (size_of k l) n c) (sym ea) h.numbers))

  -- what a program's combination is, where it read these numbers
  pub combination_read : (q : ℕ) (a a' r : List ℕ) (rows c c' : List (List ℕ)) → q ≡ size_of k l → a' ≡ a → c' ≡ c
      → AreColumns k l rows c → length a ≡ length rows * width_of k
      → r ≡ table (length c') (λ t. sum nat_monoid (length a') (λ r. get_or a' r 0 * get_or (get_or c' t []) r 0) % q)
      → r ≡ table (length rows * width_of k) (λ t. sum nat_monoid (length rows * width_of k)
      (λ r. get_or a r 0 * get_or (get_or c t []) r 0) % size_of k l)
  combination_read q a a' r rows c c' eq ea ec h n e = e
      ∙ ap₂ (λ a c. table (length c)
      (λ t. sum nat_monoid (length a) (λ r. get_or a r 0 * get_or (get_or c t []) r 0) % q)) ea ec
      ∙ ap₂ (λ m n. table m (λ t. sum nat_monoid n (λ r. get_or a r 0 * get_or (get_or c t []) r 0) % q)) h.count n
      ∙ ap (λ q. table (length rows * width_of k) (λ t. sum nat_monoid (length rows * width_of k)
      (λ r. get_or a r 0 * get_or (get_or c t []) r 0) % q)) eq

  pub combination_numbers : (a r : List ℕ) (rows c : List (List ℕ))
      → r ≡ table (length rows * width_of k) (λ t. sum nat_monoid (length rows * width_of k)
      (λ r. get_or a r 0 * get_or (get_or c t []) r 0) % size_of k l)
      → AreNumbers (size_of k l) (length rows * width_of k) r
  combination_numbers a r rows c e = subst (AreNumbers (size_of k l) (length rows * width_of k)) (sym e) (record {
    count = length-table (length rows * width_of k) (λ t. sum nat_monoid (length rows * width_of k)
        (λ r. get_or a r 0 * get_or (get_or c t []) r 0) % size_of k l);
    below = All-table (λ x. x < size_of k l) (length rows * width_of k) (λ t. sum nat_monoid (length rows * width_of k)
        (λ r. get_or a r 0 * get_or (get_or c t []) r 0) % size_of k l) (λ t _. mod-lt
        (sum nat_monoid (length rows * width_of k) (λ r. get_or a r 0 * get_or (get_or c t []) r 0))
        (let h = two_le_size k l in omega arith));
  })

  -- ---- one element as a row

  pub one_row : (x : List ℕ) (new rows rows' : List (List ℕ)) → new ≡ [] → rows ≡ new ++ x ∷ [] → rows' ≡ rows
      → rows' ≡ x ∷ []
  one_row x new rows rows' z e e' = e' ∙ e ∙ ap (λ n. n ++ x ∷ []) z

  pub one_row_numbers : (x y : List ℕ) (rows : List (List ℕ)) → rows ≡ x ∷ [] → x ≡ y → IsLiftElem k l y
      → AreRows (size_of k l) (length rows * width_of k) rows
  one_row_numbers x y rows e f h =
      subst (λ rows. AreRows (size_of k l) (length rows * width_of k) rows) (sym (e ∙ ap (λ x. x ∷ []) f))
      (λ i il. let u : width_of k ≡ suc 0 * width_of k = omega arith in
      subst (λ i. AreNumbers (size_of k l) (suc 0 * width_of k) (get_or (y ∷ []) i []))
      (let z : 0 ≡ i = omega arith in z) (subst (λ n. AreNumbers (size_of k l) n y) u h))

  pub one_row_count : (w : ℕ) (x : List ℕ) (rows : List (List ℕ)) → rows ≡ x ∷ [] → w ≡ width_of k
      → w ≡ length rows * width_of k
  one_row_count w x rows e ew =
      let u : width_of k ≡ suc 0 * width_of k = omega arith in
      ew ∙ u ∙ ap (λ rows. length rows * width_of k) (sym e)

  -- the product of two elements
  pub one_product : (a b x r : List ℕ) (rows c : List (List ℕ)) → IsLiftElem k l a → rows ≡ x ∷ [] → x ≡ b
      → AreColumns k l rows c
      → r ≡ table (length rows * width_of k) (λ t. sum nat_monoid (length rows * width_of k)
      (λ r. get_or a r 0 * get_or (get_or c t []) r 0) % size_of k l)
      → IsLiftElem k l r × IsLiftProduct k l a b r
  one_product a b x r rows c ha er ex h e = let f = field_of k in
      let S = ring_of k l in
      let one : length rows * width_of k ≡ width_of k = ap (λ rows. length rows * width_of k) er
      ∙ (let u : suc 0 * width_of k ≡ width_of k = omega arith in u) in
      let hr : IsLiftElem k l r = subst (λ n. AreNumbers (size_of k l) n r) one (combination_numbers a r rows c e) in
      let value : (element_of k l r 0).0 ≡ r = row_value (size_of k l) (degree_of k) (digits_of k)
      (two_le_power (prime_of k) l f.least) (degree_of k - 1) (digits_of k - 1) (degree_positive k)
      (digits_positive k) S (by_numbers k l).0 r hr in
      let alone : (y : LiftNumbers k l) → element_of k l y.0 0 ≡ y = element_value (size_of k l) (degree_of k)
      (digits_of k) (two_le_power (prime_of k) l f.least) (degree_of k - 1) (digits_of k - 1) (degree_positive k)
      (digits_positive k) S (by_numbers k l).0 in
      let product : element_of k l r 0 ≡ S.◌⊗◌ (element_of k l a 0) (element_of k l b 0) =
      ap (λ y. element_of k l y 0) e
      ∙ h.product a (subst (λ n. AreNumbers (size_of k l) n a) (sym one) ha) 0 (omega (arith, ap length er))
      ∙ ap (λ rows. sum S.monoid (length rows) (λ i. S.◌⊗◌ (element_of k l a i) (element_of k l (get_or rows i []) 0)))
      (er ∙ ap (λ x. x ∷ []) ex)
      ∙ S.zero-add (S.◌⊗◌ (element_of k l a 0) (element_of k l b 0)) in (
        hr,
        λ x y ea eb. sym value ∙ ap (λ (z : LiftNumbers k l). z.0) (product
            ∙ ap₂ (λ u v. S.◌⊗◌ (element_of k l u 0) (element_of k l v 0)) (sym ea) (sym eb)
            ∙ ap₂ S.◌⊗◌ (alone x) (alone y)),
      )
