-- The constants of a quotient as rows one after the other, and the quotient by the annihilator of an ideal.
use Rattle.std.specs.Prelude.{◌≡◌, ◌+◌, ◌*◌, ◌/◌, ◌%◌, ◌<◌, ◌≤◌, ℕ, List, [], ◌∷◌, ◌++◌, length, get_or}
use Rattle.std.proofs.Common.{refl, sym, ◌∙◌, ap, ap₂, subst, arith, ⊎_elim, append_assoc, length-append}
use Rattle.std.proofs.lemmas.Bool.{cases_lt}
use Rattle.std.proofs.lemmas.Nat.{div-mul-add, mod-mul-add}
use Rattle.std.proofs.lemmas.List.{get_or_append_left, get_or-append-add}
use Rattle.std.proofs.lemmas.List.Elements.{All-nil, All-append}
use Rattle.theory_rings.specs.Ops.{Ops, IsElem, FieldLaws}
use Rattle.theory_rings.specs.Sum.{sum_of, table, at}
use Rattle.theory_rings.proofs.Rings.Elements.{sum_of_congr}
use Rattle.theory_rings.proofs.Sums.Lists.{length-table, get_or-table, table_congr, All-table}
use Rattle.theory_spaces.specs.Tuples.{IsTuple, basis, constant, product}
use Rattle.theory_spaces.proofs.Tuples.Tuples.{at-table}
use Rattle.theory_spaces.proofs.Tuples.TupleProducts.{product_basis, IsTuple-basis}
use Rattle.theory_spaces.proofs.Matrices.PairIndex.{pair-lt}
use Rattle.theory_tables.specs.Matrix.{entry, IsMatrix, image}
use Rattle.theory_tables.specs.Echelon.{IsReducedEchelon}
use Rattle.theory_tables.specs.Subspace.{IsReducedBasis, SpansKernel}
use Rattle.theory_tables.specs.Structure.{Structure, IsOver}
use Rattle.theory_tables.specs.Algebras.{SpansIdeal, SpansAll}
use Rattle.theory_tables.specs.Quotient.{IsQuotient}
use Rattle.theory_tables.proofs.Rows.Sums.{table-next}
use Rattle.theory_tables.proofs.Algebras.Quotients.{image_product}
use Rattle.spl_algebra.specs.Contractions.{contracted}
use Rattle.spl_algebra.specs.Quotients.{JoinsRows, image_row}
use Rattle.spl_algebra.proofs.Annihilators.{double_annihilator, image-pivot}

module _ {E : Type 0} (o : Ops E) (n : ℕ) (row : ℕ → List E) where
  pub JoinsRows-none : JoinsRows o n 0 row []
  JoinsRows-none = record {
    long = omega arith;
    of_elements = All-nil (IsElem o);
    item = λ r k r_in _. absurd (omega arith);
  }

  -- one more row
  pub JoinsRows-step : (r : ℕ) (before after new : List E) → JoinsRows o n r row before → new ≡ row r → IsTuple o n new
      → after ≡ before ++ new → JoinsRows o n (r + 1) row after
  JoinsRows-step r before after new h e tuple grown =
      let long = h.long in
      let width = tuple.right_length in
      let sum : length after ≡ length before + length new = ap length grown ∙ length-append before new in
      record {
        long = sum ∙ (let s : length before + length new ≡ (r + 1) * n = omega arith in s);
        of_elements = rw grown (All-append (IsElem o) before new h.of_elements tuple.of_elements);
        item = λ s k s_in k_in. ⊎_elim
            (λ (low : s < r).
            let place = pair-lt r n s k low k_in in
            let place' : s * n + k < length before = omega arith in
            ap (λ xs. at o xs (s * n + k)) grown ∙ get_or_append_left before new o.zero (s * n + k) place'
            ∙ h.item s k low k_in)
            (λ (high : r ≤ s).
            let is : s ≡ r = omega arith in
            let place : s * n + k ≡ length before + k = ap (λ x. x * n + k) is ∙ ap (λ x. x + k) (sym long) in
            ap (λ xs. at o xs (s * n + k)) grown ∙ ap (at o (before ++ new)) place
            ∙ get_or-append-add before new k o.zero ∙ ap (λ xs. at o xs k) (e ∙ ap row (sym is)))
            (cases_lt s r);
      }

-- one more item after others
pub appended_step : {X : Type 0} (old : List X) (n : ℕ) (f : ℕ → X) (before after : List X) (item : X)
    → before ≡ old ++ table n f → item ≡ f n → after ≡ before ++ item ∷ [] → after ≡ old ++ table (n + 1) f
appended_step old n f before after item b t a =
    a ∙ ap₂ (λ xs x. xs ++ x ∷ []) b t ∙ append_assoc old (table n f) (f n ∷ [])
    ∙ ap (λ xs. old ++ xs) (sym (table-next n f))

-- a row times a column
pub contracted-dot : {E : Type 0} (o : Ops E) (n : ℕ) (a v : List E)
    → contracted o n a v 0 1 ≡ sum_of o n (λ k. o.mul (at o a k) (at o v k))
contracted-dot o n a v = sum_of_congr o n (λ k. o.mul (at o a k) (at o v (0 + k * 1)))
    (λ k. o.mul (at o a k) (at o v k))
    (λ k _. let e : 0 + k * 1 ≡ k = omega arith in ap (λ x. o.mul (at o a k) (at o v x)) e)

module _ {E : Type 0} (o : Ops E) (L : FieldLaws o) where
  -- where the annihilator of a proper ideal has no row, the ideal is everything
  pub annihilator-some : (A : Structure E) (ideal project : List (List E)) → IsReducedBasis o A.dim ideal
      → IsReducedBasis o A.dim project → SpansKernel o (length ideal) A.dim ideal project
      → (SpansAll o A ideal → ⊥) → 1 ≤ length project
  annihilator-some A ideal project x y kernel proper = ⊎_elim
      (λ (none : length project < 1). absurd (proper (λ v tuple.
      (double_annihilator o L A.dim ideal x project y.shape kernel v tuple).1 (λ i i_in. absurd (omega arith)))))
      (λ h. h)
      (cases_lt (length project) 1)

  -- the image of a product of two basis elements
  pub constant-is : (m n : ℕ) (cs : List E) (places : List ℕ) (project : List (List E)) (items : List E)
      → length project ≡ n → length places ≡ n
      → JoinsRows o n (n * n) (image_row o m cs places project) items
      → (i j k : ℕ) → i < n → j < n → k < n
      → constant o n items i j k ≡ at o
      (image o n m project (product o m cs (basis o m (get_or places i 0)) (basis o m (get_or places j 0)))) k
  constant-is m n cs places project items high long h i j k i_in j_in k_in =
      let at_pair : ℕ → ℕ → ℕ → E = λ w a b. at o
      (image o w m project (product o m cs (basis o m (get_or places a 0)) (basis o m (get_or places b 0)))) k in
      let r = i * n + j in
      h.item r k (pair-lt n n i j i_in j_in) k_in
      ∙ ap₂ (λ w l. at_pair w (r / l) (r % l)) high long
      ∙ ap₂ (λ a b. at_pair n a b) (div-mul-add i n j j_in) (mod-mul-add i n j j_in)

  module _ (A : Structure E) (over : IsOver o A) (ideal project : List (List E))
      (ideal_basis : IsReducedBasis o A.dim ideal)
      (is_ideal : SpansIdeal o A ideal) (project_basis : IsReducedBasis o A.dim project)
      (kernel : SpansKernel o (length ideal) A.dim ideal project) (places : List ℕ)
      (each : length places ≡ length project)
      (reduced : IsReducedEchelon o (length project) project places A.dim) (items : List E)
      (joins : JoinsRows o (length project) (length places * length places)
      (image_row o A.dim A.constants places project) items) (lifts : List (List E))
      (lifts_are : lifts ≡ table (length places) (λ i. basis o A.dim (get_or places i 0))) where
    abbrev n : ℕ
    n = length project

    abbrev m : ℕ
    m = A.dim

    abbrev B : Structure E
    B = record { dim = n; constants = items }

    abbrev with_places : IsReducedBasis o m project
    with_places = record { shape = project_basis.shape; pivots = places; each = each; reduced = reduced }

    pub constants_over : IsOver o B
    constants_over = record {
      right_length = let long = joins.long in rw each at long;
      of_elements = joins.of_elements;
    }

    lift-is : (i : ℕ) → i < n → get_or lifts i [] ≡ basis o m (get_or places i 0)
    lift-is i i_in = ap (λ xs. get_or xs i []) lifts_are
        ∙ get_or-table (length places) (λ i. basis o m (get_or places i 0)) i [] (omega arith)

    lifted : (i : ℕ) → i < n → image o n m project (get_or lifts i []) ≡ basis o n i
    lifted i i_in = ap (image o n m project) (lift-is i i_in) ∙ image-pivot o L m project with_places i i_in

    agrees : (i j : ℕ) → i < n → j < n
        → image o n m project (product o m A.constants (get_or lifts i []) (get_or lifts j [])) ≡ product o n items
        (basis o n i) (basis o n j)
    agrees i j i_in j_in =
        let x = product o m A.constants (basis o m (get_or places i 0)) (basis o m (get_or places j 0)) in
        let f : ℕ → E = λ s. sum_of o m (λ k. o.mul (entry o project s k) (at o x k)) in
        ap₂ (λ a b. image o n m project (product o m A.constants a b)) (lift-is i i_in) (lift-is j j_in)
        ∙ table_congr n f (λ k. constant o n items i j k) (λ k k_in. sym (
        constant-is m n A.constants places project items refl each
        (let P : ℕ → Type 0 = λ c. JoinsRows o n (c * c) (image_row o m A.constants places project) items in
        subst P each joins) i j k i_in j_in k_in
        ∙ at-table o n f k k_in))
        ∙ sym (product_basis o L n items joins.of_elements i j i_in j_in)

    lifts_shape : IsMatrix o m lifts
    lifts_shape = rw lifts_are (All-table (IsTuple o m) (length places) (λ i. basis o m (get_or places i 0))
        (λ i _. IsTuple-basis o L m A.constants over.of_elements (get_or places i 0)))

    lifts_height : length lifts ≡ n
    lifts_height = ap length lifts_are ∙ length-table (length places) (λ i. basis o m (get_or places i 0)) ∙ each

    back : SpansKernel o n m project ideal
    back = double_annihilator o L m ideal ideal_basis project project_basis.shape kernel

    quotient_is : IsQuotient o A ideal B project lifts
    quotient_is = record {
      over = constants_over;
      project_shape = project_basis.shape;
      project_height = refl;
      lifts_shape = lifts_shape;
      lifts_height = lifts_height;
      products = image_product o L m n project lifts project_basis.shape lifts_shape lifts_height lifted A.constants
          items over.of_elements joins.of_elements ideal is_ideal back agrees;
      kernel = back;
      lifted = lifted;
    }

    pub is_quotient : (Q : Structure E) → Q.dim ≡ length places → Q.constants ≡ items
        → IsQuotient o A ideal Q project lifts
    is_quotient Q d e =
        let P : List E → Type 0 = λ xs. IsQuotient o A ideal (record { dim = n; constants = xs }) project lifts in
        let R : ℕ → Type 0 = λ k. IsQuotient o A ideal (record { dim = k; constants = Q.constants }) project lifts in
        subst R (sym (d ∙ each)) (subst P (sym e) quotient_is)

  -- the same, of the values that the calls answer
  pub made_quotient : (A : Structure E) → IsOver o A → (ideal : List (List E)) (w : ℕ) → w ≡ A.dim
      → SpansIdeal o A ideal → IsReducedBasis o w ideal → (project : List (List E)) (v : ℕ) → v ≡ w
      → IsReducedBasis o v project → SpansKernel o (length ideal) w ideal project → (pivots : List ℕ)
      → length pivots ≡ length project
      → IsReducedEchelon o (length project) project pivots v → (m : ℕ) → m ≡ A.dim → (cs : List E) → cs ≡ A.constants
      → (places : List ℕ) → places ≡ pivots → (rows : List (List E)) → rows ≡ project → (items : List E)
      → JoinsRows o (length rows) (length places * length places) (image_row o m cs places rows) items
      → (Q : Structure E) → Q.dim ≡ length places → Q.constants ≡ items → (lifts : List (List E))
      → lifts ≡ table (length places) (λ i. basis o m (get_or places i 0)) → (kept : List (List E)) → kept ≡ project
      → IsQuotient o A ideal Q kept lifts
  made_quotient A over ideal w wide is_ideal ideal_basis project v v_is project_basis kernel pivots each reduced m m_is
      cs cs_is places places_are rows rows_are items joins Q Q_dim Q_constants lifts lifts_are kept kept_is =
      let d = v_is ∙ wide in
      let I : ℕ → Type 0 = λ k. IsReducedBasis o k ideal in
      let J : ℕ → Type 0 = λ k. IsReducedBasis o k project in
      let S : ℕ → Type 0 = λ k. SpansKernel o (length ideal) k ideal project in
      let R : ℕ → Type 0 = λ k. IsReducedEchelon o (length project) project pivots k in
      let T : ℕ → List E → List ℕ → List (List E) → Type 0 = λ m cs p r. JoinsRows o (length r) (length p * length p)
      (image_row o m cs p r) items in
      let t0 = subst (λ k. T k cs places rows) m_is joins in
      let t1 = subst (λ k. T A.dim k places rows) cs_is t0 in
      let t2 = subst (λ k. T A.dim A.constants k rows) places_are t1 in
      let t3 = subst (λ k. T A.dim A.constants pivots k) rows_are t2 in
      let F : List (List E) → Type 0 = λ p. IsQuotient o A ideal Q p lifts in
      subst F (sym kept_is) (is_quotient A over ideal project (subst I wide ideal_basis) is_ideal
      (subst J d project_basis) (subst S wide kernel) pivots each (subst R d reduced) items t3 lifts
      (lifts_are ∙ ap₂ (λ (p : List ℕ) (m : ℕ). table (length p) (λ i. basis o m (get_or p i 0))) places_are m_is) Q
      (Q_dim ∙ ap length places_are) Q_constants)
