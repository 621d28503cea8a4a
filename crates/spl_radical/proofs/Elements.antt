-- Elements of the lift ring as lists of numbers.
use Rattle.std.specs.Prelude.{◌≡◌, ◌≢◌, ℕ, suc, ◌+◌, ◌-◌, ◌*◌, ◌/◌, ◌%◌, ◌^◌, ◌<◌, ◌≤◌, List, [], ◌∷◌}
use Rattle.std.specs.Prelude.{length, get_or, All}
use Rattle.std.proofs.Common.{sym, ◌∙◌, ap, ap₂, subst, arith}
use Rattle.std.proofs.Math.ListN.{get_or-append}
use Rattle.std.proofs.Math.Nat.{mod-lt, mul-div_cancel}
use Rattle.std.proofs.lemmas.List.{ext_get_or}
use Rattle.std.proofs.lemmas.Bool.{ltb-true}
use Rattle.theory_rings.specs.Ops.{IsElem}
use Rattle.theory_rings.specs.Digits.{digit}
use Rattle.theory_rings.specs.Sum.{table}
use Rattle.theory_rings.specs.IntegersMod.{mod_ops}
use Rattle.theory_rings.proofs.Numbers.Digits.{digit_lt}
use Rattle.theory_rings.specs.Polynomial.{IsTrimmed}
use Rattle.theory_rings.proofs.Sums.Lists.{length-table, get_or-table, table_congr, All-table}
use Rattle.theory_spaces.proofs.Tuples.Tuples.{is_tuple-IsTuple}
use Rattle.theory_lifts.proofs.ElementLists as lists
use Rattle.theory_lifts.proofs.ElementLists.{two_le_power, lift_numbers}
use Rattle.theory_lifts.proofs.ListProducts as products
use Rattle.spl_field.specs.SmallField.{small_ops, small_laws, modulus_of}
use Rattle.spl_field.specs.declared.small.SmallField.{SmallField}
use Rattle.spl_poly.specs.Operations.{IsOver, IsMonicOf}
use Rattle.spl_residue.specs.Residue.{field_of, polynomial_of, residue_ops}
use Rattle.spl_residue.specs.declared.field.ResidueField.{ResidueField}
use Rattle.spl_radical.proofs.MonicModulus.{not_empty, monic_coefficient}
use Rattle.spl_radical.specs.LiftRing.{degree_positive, digits_positive, coefficient_of, small_by_digits, prime_of}
use Rattle.spl_radical.specs.LiftRing.{degree_of, digits_of, width_of, size_of, LiftNumbers}
use Rattle.spl_radical.specs.LiftRing.{lifted, ring_of, by_numbers, top_of, IsLiftElem, IsLiftSum, IsLiftOf, AreStepsOf}
use Rattle.spl_radical.specs.Multiples.{AreTurns}
use Rattle.spl_radical.proofs.RowSteps.{whole_part, opposites_below}
use Rattle.spl_radical.proofs.Products.{turns_are}
use Rattle.theory_chains.specs.NumberRows.{AreNumbers}

module _ (k : ResidueField) where
  pub degree_is : suc (degree_of k) ≡ length (polynomial_of k)
  degree_is = let f = field_of k in lists.suc_degree (small_ops f) (small_laws f) (polynomial_of k) k.irreducible
      (prime_of k) f.least (modulus_of f) f.some_number (small_by_digits f)

  pub width_by_length : (length (polynomial_of k) - 1) * digits_of k ≡ width_of k
  width_by_length =
      let g = degree_is in
      let h : length (polynomial_of k) - 1 ≡ degree_of k = omega arith in
      ap (λ x. x * digits_of k) h

  -- ---- the polynomial, where a program read it

  pub modulus_over : (f : SmallField) (m : List ℕ) → f ≡ field_of k → m ≡ polynomial_of k → IsOver (small_ops f) m
  modulus_over f m ef em = subst (λ f. IsOver (small_ops f) m) (sym ef)
      (subst (IsOver (small_ops (field_of k))) (sym em) k.irreducible.polynomial.over)

  pub modulus_not_empty : (m : List ℕ) → m ≡ polynomial_of k → m ≢ []
  modulus_not_empty m em e = not_empty (small_ops (field_of k)) (small_laws (field_of k)) (polynomial_of k)
      k.irreducible (sym em ∙ e)

  pub some_digits : (f : SmallField) (m : List ℕ) → f ≡ field_of k → m ≡ modulus_of f → 1 ≤ length m
  some_digits f m ef em = subst (λ m. 1 ≤ length m) (sym (em ∙ ap modulus_of ef)) (let f = field_of k in f.some_number)

  pub first_turn_is : (f : SmallField) (m monic s r : List ℕ) (p d q w : ℕ) → f ≡ field_of k → m ≡ polynomial_of k
      → IsMonicOf (small_ops f) m monic → IsOver (small_ops f) monic → IsTrimmed 0 monic → p ≡ prime_of k
      → d ≡ digits_of k → s ≡ monic
      → r ≡ table w (λ t. (q - digit p (get_or s (t / d) 0) (t % d) % q) % q)
      → r ≡ table w (λ t. (q - digit (prime_of k) (coefficient_of k (t / digits_of k)) (t % digits_of k) % q) % q)
  first_turn_is f m monic s r p d q w ef em h over trimmed ep ed es e =
      let o = small_ops (field_of k) in
      let g : IsMonicOf o (polynomial_of k) monic = subst (λ m. IsMonicOf o m monic) em
      (subst (λ f. IsMonicOf (small_ops f) m monic) ef h) in
      let v : IsOver o monic = subst (λ f. IsOver (small_ops f) monic) ef over in
      e ∙ ap (λ s. table w (λ t. (q - digit p (get_or s (t / d) 0) (t % d) % q) % q)) es
      ∙ ap₂ (λ p d. table w (λ t. (q - digit p (get_or monic (t / d) 0) (t % d) % q) % q)) ep ed
      ∙ table_congr w (λ t. (q - digit (prime_of k) (get_or monic (t / digits_of k) 0) (t % digits_of k) % q) % q)
      (λ t. (q - digit (prime_of k) (coefficient_of k (t / digits_of k)) (t % digits_of k) % q) % q)
      (λ t _. ap (λ x. (q - digit (prime_of k) x (t % digits_of k) % q) % q)
      (sym (monic_coefficient o (small_laws (field_of k)) (polynomial_of k) k.irreducible monic
      (record { over = v; trimmed = trimmed }) g (t / digits_of k))))

  module _ (l : ℕ) where
    pub two_le_size : 2 ≤ size_of k l
    two_le_size = let f = field_of k in two_le_power (prime_of k) l f.least

    -- the list of an element
    pub of_element : (x : LiftNumbers k l) → IsLiftElem k l x.0
    of_element x =
        let h = is_tuple-IsTuple (mod_ops (size_of k l) []) (width_of k) x.0 x.1 in
        record {
          count = h.right_length;
          below = λ i d s. ltb-true (get_or x.0 i d) (size_of k l) (h.of_elements i d s);
        }

    -- lists with the same numbers
    pub table_is : (x : LiftNumbers k l) (f : ℕ → ℕ) → ((t : ℕ) → t < width_of k → f t ≡ get_or x.0 t 0)
        → table (width_of k) f ≡ x.0
    table_is x f h =
        let c = (of_element x).count in
        let n = length-table (width_of k) f in
        ext_get_or 0 (table (width_of k) f) x.0 (n ∙ sym c)
        (λ i s. let t : i < width_of k = omega arith in get_or-table (width_of k) f i 0 t ∙ h i t)

    -- the sum, number by number
    pub sum_is : (a b : List ℕ) → IsLiftSum k l a b
        (table (width_of k) (λ t. (get_or a t 0 + get_or b t 0) % size_of k l))
    sum_is a b x y ea eb = let f = field_of k in
        let N = lift_numbers (small_ops f) (small_laws f) (polynomial_of k) k.irreducible (prime_of k) f.least
        (modulus_of f) f.some_number (small_by_digits f) (suc l) (two_le_power (prime_of k) l f.least) in
        table_is ((ring_of k l).◌⊕◌ x y) (λ t. (get_or a t 0 + get_or b t 0) % size_of k l) (λ t h.
        sym (products.ent-add (size_of k l) (degree_of k) (digits_of k) (two_le_power (prime_of k) l f.least)
        (degree_of k - 1) (digits_of k - 1) (degree_positive k) (digits_positive k) (ring_of k l) N.0 x y t h
        ∙ ap₂ (λ u v. (get_or u t 0 + get_or v t 0) % size_of k l) ea eb))

    pub sum_below : (a b : List ℕ)
        → IsLiftElem k l (table (width_of k) (λ t. (get_or a t 0 + get_or b t 0) % size_of k l))
    sum_below a b = record {
      count = length-table (width_of k) (λ t. (get_or a t 0 + get_or b t 0) % size_of k l);
      below = All-table (λ x. x < size_of k l) (width_of k) (λ t. (get_or a t 0 + get_or b t 0) % size_of k l)
          (λ t _. mod-lt (get_or a t 0 + get_or b t 0) (let h = two_le_size in omega arith));
    }

    -- the list of the digits of an element
    digits_are : (a : List ℕ) → (lifted k l a).0
        ≡ table (width_of k) (λ t. digit (prime_of k) (get_or a (t / digits_of k) 0) (t % digits_of k))
    digits_are a = let f = field_of k in sym (table_is (lifted k l a)
        (λ t. digit (prime_of k) (get_or a (t / digits_of k) 0) (t % digits_of k)) (λ t h.
        sym (lists.digit_list-at (small_ops f) (small_laws f) (polynomial_of k) k.irreducible (prime_of k) f.least
        (modulus_of f) f.some_number (small_by_digits f) (suc l) (two_le_power (prime_of k) l f.least) a t h)))

    pub lift_is : (a r : List ℕ) → IsElem (residue_ops k) a
        → r ≡ table (width_of k) (λ t. digit (prime_of k) (get_or a (t / digits_of k) 0) (t % digits_of k))
        → IsLiftOf k l a r
    lift_is a r h e = let f = field_of k in (
      lifted k l a,
      digits_are a ∙ sym e,
      ap (λ x. x.0) (lists.digit_list-down (small_ops f) (small_laws f) (polynomial_of k) k.irreducible (prime_of k)
          f.least (modulus_of f) f.some_number (small_by_digits f) (suc l) (two_le_power (prime_of k) l f.least)
          (a, h)),
    )

    pub lift_below : (a r : List ℕ)
        → r ≡ table (width_of k) (λ t. digit (prime_of k) (get_or a (t / digits_of k) 0) (t % digits_of k))
        → IsLiftElem k l r
    lift_below a r e = subst (IsLiftElem k l) (digits_are a ∙ sym e) (of_element (lifted k l a))

    pub lift_digits : (a r : List ℕ)
        → r ≡ table (width_of k) (λ t. digit (prime_of k) (get_or a (t / digits_of k) 0) (t % digits_of k))
        → r ≡ (lifted k l a).0
    lift_digits a r e = e ∙ sym (digits_are a)

    pub lift_small : (a r : List ℕ)
        → r ≡ table (width_of k) (λ t. digit (prime_of k) (get_or a (t / digits_of k) 0) (t % digits_of k))
        → All (λ x. x < prime_of k) r
    lift_small a r e = subst (All (λ x. x < prime_of k)) (sym e) (All-table (λ x. x < prime_of k) (width_of k)
        (λ t. digit (prime_of k) (get_or a (t / digits_of k) 0) (t % digits_of k)) (λ t _.
        digit_lt (prime_of k) (let f = field_of k in let h = f.least in omega arith)
        (get_or a (t / digits_of k) 0) (t % digits_of k)))

    -- what a program's sum is, where it read these numbers
    pub sums_are : (q : ℕ) (a b a' b' r : List ℕ) → q ≡ size_of k l → length a ≡ width_of k → a' ≡ a → b' ≡ b
        → r ≡ table (length a') (λ t. (get_or a' t 0 + get_or b' t 0) % q)
        → r ≡ table (width_of k) (λ t. (get_or a t 0 + get_or b t 0) % size_of k l)
    sums_are q a b a' b' r eq n ea eb e = e
        ∙ ap₂ (λ x y. table (length x) (λ t. (get_or x t 0 + get_or y t 0) % q)) ea eb
        ∙ ap₂ (λ m q. table m (λ t. (get_or a t 0 + get_or b t 0) % q)) n eq

    -- what a program's digits are, where it read these numbers
    pub digits_read : (p d w : ℕ) (a a' r : List ℕ) → p ≡ prime_of k → d ≡ digits_of k → w ≡ width_of k → a' ≡ a
        → r ≡ table w (λ t. digit p (get_or a' (t / d) 0) (t % d))
        → r ≡ table (width_of k) (λ t. digit (prime_of k) (get_or a (t / digits_of k) 0) (t % digits_of k))
    digits_read p d w a a' r ep ed ew ea e = e
        ∙ ap₂ (λ x p. table w (λ t. digit p (get_or x (t / d) 0) (t % d))) ea ep
        ∙ ap₂ (λ w d. table w (λ t. digit (prime_of k) (get_or a (t / d) 0) (t % d))) ew ed

    -- its numbers are small, where a program read them
    pub below_read : (q : ℕ) (a a' : List ℕ) → q ≡ size_of k l → a' ≡ a → IsLiftElem k l a → All (λ x. x < q) a'
    below_read q a a' eq ea h = λ i d s. subst (λ x. get_or x i d < q) (sym ea)
        (subst (λ q. get_or a i d < q) (sym eq) (h.below i d (subst (λ x. i < length x) ea s)))

    -- ---- the numbers of t^d, and of the products of x^e by the powers of t

    pub positive_size : (q : ℕ) → q ≡ size_of k l → 1 ≤ q
    positive_size q e = let t = two_le_size in omega arith

    pub whole_width : (d w : ℕ) (first : List ℕ) → d ≡ digits_of k → w ≡ width_of k → length first ≡ w → (t : ℕ)
        → t < length first → t - t % d + (d - 1) < length first
    whole_width d w first ed ew e t h = whole_part (degree_of k) d (length first) t
        (e ∙ ew ∙ ap (λ d. degree_of k * d) (sym ed)) (let f = field_of k in let s = f.some_number in omega arith) h

    pub steps_are : (q w : ℕ) (n back first : List ℕ) (turns : List (List ℕ)) → q ≡ size_of k l → w ≡ width_of k
        → size_of k l ≤ 2 ^ 40 → n ≡ modulus_of (field_of k)
        → back ≡ table (length n) (λ v. (q - get_or n v 0 % q) % q)
        → first ≡ table w
        (λ t. (q - digit (prime_of k) (coefficient_of k (t / digits_of k)) (t % digits_of k) % q) % q)
        → AreTurns q back first turns (length back) → AreStepsOf k l back turns
    steps_are q w n back first turns eq ew small en eb ef T = let f = field_of k in
        let s = size_of k l in
        let H = by_numbers k l in
        let two = two_le_power (prime_of k) l f.least in
        let quotient : width_of k / digits_of k ≡ degree_of k = mul-div_cancel (degree_of k)
        (let p = digits_positive k in omega arith) in
        let db : length back ≡ digits_of k = ap length eb
        ∙ length-table (length n) (λ v. (q - get_or n v 0 % q) % q) ∙ ap length en in
        let lf : length first ≡ width_of k = ap length ef ∙ length-table w
        (λ t. (q - digit (prime_of k) (coefficient_of k (t / digits_of k)) (t % digits_of k) % q) % q) ∙ ew in
        let first_is : first ≡ table (width_of k)
        (λ t. (s - digit (prime_of k) (coefficient_of k (t / digits_of k)) (t % digits_of k) % s) % s) =
        ef ∙ ap₂ (λ q w. table w
        (λ t. (q - digit (prime_of k) (coefficient_of k (t / digits_of k)) (t % digits_of k) % q) % q)) eq ew in
        let back_is : back ≡ table (digits_of k) (λ v. (s - get_or (modulus_of f) v 0 % s) % s) =
        eb ∙ ap₂ (λ q n. table (length n) (λ v. (q - get_or n v 0 % q) % q)) eq en in
        let turn : AreTurns s back first turns (length back) =
        subst (λ q. AreTurns q back first turns (length back)) eq T in
        let hb : (v : ℕ) → v < digits_of k → get_or back v 0 ≡ H.0.back v = λ v lv.
        ap (λ r. get_or r v 0) back_is
        ∙ get_or-table (digits_of k) (λ v. (s - get_or (modulus_of f) v 0 % s) % s) v 0 lv
        ∙ ap (λ x. (s - x % s) % s) (sym (get_or-append (modulus_of f) (1 ∷ []) 0 v lv))
        ∙ sym (H.1 v) in
        let ht : (v : ℕ) → v < digits_of k → get_or turns v [] ≡ (top_of k l v).0 =
        turns_are s (degree_of k) (digits_of k) two (degree_of k - 1) (digits_of k - 1) (degree_positive k)
        (digits_positive k) (ring_of k l) H.0 back first turns db hb lf (λ t lt. ap (λ r. get_or r t 0) first_is
        ∙ get_or-table (width_of k)
        (λ t. (s - digit (prime_of k) (coefficient_of k (t / digits_of k)) (t % digits_of k) % s) % s) t 0 lt
        ∙ sym (H.2 (t / digits_of k) (t % digits_of k))) turn in
        record {
          steps = record {
            positive = omega arith;
            small = small;
            digits = omega (arith, f.some_number);
            height = subst (λ d. 1 ≤ width_of k / d) (sym db) (omega (arith, quotient, degree_positive k));
            width = subst (λ d. width_of k ≡ width_of k / d * d) (sym db) (ap (λ u. u * digits_of k) (sym quotient));
            back_numbers = opposites_below s (length back) (λ v. get_or (modulus_of f) v 0) back (omega arith)
                (back_is ∙ ap (λ n. table n (λ v. (s - get_or (modulus_of f) v 0 % s) % s)) (sym db));
            count = turn.count;
            turn_numbers = λ v lv. subst (λ n. AreNumbers s n (get_or turns v [])) lf (turn.numbers v lv);
          };
          digits = db;
          back_numbers = hb;
          turn_numbers = ht;
        }
