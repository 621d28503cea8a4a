-- Squares of ideals: where a power of the square is 0, so is one of the ideal; an ideal that is its own square, and lies
-- in one of which a power is 0, is 0. (Pierce, Associative Algebras, chapter 4.)
use Rattle.std.specs.Prelude.{◌≡◌, ℕ, zero, suc, ◌+◌, ◌<◌, ◌≤◌, List, [], length, get_or}
use Rattle.std.specs.Prelude.{◌↔◌, true, false, IsTrue}
use Rattle.std.specs.List.{All}
use Rattle.std.proofs.Common.{refl, sym, ◌∙◌, ap, ap₂, subst, arith}
use Rattle.std.proofs.lemmas.Bool.{both_ways}
use Rattle.theory_rings.specs.Ops.{Ops, IsElem, FieldLaws}
use Rattle.theory_spaces.specs.Sets.{RingOps, Within, Zero, Products, Power, total}
use Rattle.theory_spaces.specs.Tuples.{IsTuple, Tuple, product, tuple_add, tuple_zero}
use Rattle.theory_spaces.specs.Module.{ModuleOn}
use Rattle.theory_spaces.specs.Space.{ProductOn}
use Rattle.theory_spaces.proofs.Linear.Modules.{map-zero}
use Rattle.theory_spaces.proofs.Tuples.Tables.{product_right}
use Rattle.theory_spaces.proofs.Tuples.Tuples.{tuples, tuples-zero, tuples-add}
use Rattle.theory_spaces.proofs.Tuples.TupleProducts.{tuple_product, tuple_product-list, IsTuple-product, add-product}
use Rattle.theory_spaces.proofs.Tuples.TupleProducts.{product_assoc}
use Rattle.theory_rings.specs.Elements.{elements}
use Rattle.theory_rings.specs.Sum.{at, sum_of}
use Rattle.theory_tables.specs.Subspace.{Combinations, IsReducedBasis}
use Rattle.theory_tables.specs.Structure.{Structure, IsAssociative, tuple_ops}
use Rattle.theory_tables.specs.Algebras.{SpansIdeal}
use Rattle.theory_tables.specs.Powers.{SpansProducts}
use Rattle.theory_tables.specs.Traces.{PowerVanishes}
use Rattle.theory_tables.proofs.Algebras.Bridge.{as_tuple, IsTuple-of}
use Rattle.theory_tables.proofs.Algebras.SetPowers.{products_mono, power_stable}
use Rattle.theory_tables.proofs.Rows.Spans.{InSpan-member}
use Rattle.theory_tables.proofs.Rows.Terms.{cond_yes}
use Rattle.theory_spaces.proofs.Tuples.Tuples.{at-table, IsTuple-ext}
use Rattle.theory_tables.specs.Matrix.{entry}
use Rattle.spl_algebra.specs.Multiples.{RowsIn}
use Rattle.spl_algebra.proofs.Inclusions.{dimension_mono, same_of_dimension}

-- what an answer says of a fact
pub yes : {P : Type 0} → P → IsTrue true ↔ P
yes p = (λ _. p, λ _. refl)

pub no : {P : Type 0} → (P → ⊥) → IsTrue false ↔ P
no n = (λ t. absurd (both_ways false refl t), λ p. absurd (n p))

-- on L the operations obey the laws of a ring that are used here
record ProductLawsOn {V : Type 0} (S : RingOps V) (L : V → Type 0) : Type 0 where
  pub zero_in : L S.zero
  pub add_in : (x y : V) → L x → L y → L (S.add x y)
  pub mul_in : (x y : V) → L x → L y → L (S.mul x y)
  pub zero-add : (x : V) → L x → S.add S.zero x ≡ x
  pub add-mul : (x y z : V) → L x → L y → L z → S.mul (S.add x y) z ≡ S.add (S.mul x z) (S.mul y z)
  pub zero-mul : (x : V) → L x → S.mul S.zero x ≡ S.zero
  pub mul_assoc : (x y z : V) → L x → L y → L z → S.mul (S.mul x y) z ≡ S.mul x (S.mul y z)

-- a power of a larger set is larger
power_mono : {V : Type 0} (S : RingOps V) (I J : V → Type 0) → Within I J → (e : ℕ)
    → Within (Power S I e) (Power S J e)
power_mono S I J h zero = h
power_mono S I J h (suc e) = products_mono S (Power S I e) (Power S J e) I J (power_mono S I J h e) h

-- 2·e + 1
abbrev odd : ℕ → ℕ
odd zero = 1
odd (suc e) = suc (suc (odd e))

module _ {V : Type 0} (S : RingOps V) (L : V → Type 0) (laws : ProductLawsOn S L) where
  infixl 70 ◌⊗◌
  abbrev ◌⊗◌ : V → V → V
  ◌⊗◌ = S.mul

  total_in : (n : ℕ) (f : ℕ → V) → ((i : ℕ) → i < n → L (f i)) → L (total S n f)
  total_in zero f h = laws.zero_in
  total_in (suc n) f h = laws.add_in (total S n f) (f n) (total_in n f (λ i l. h i (omega arith))) (h n (omega arith))

  total-zero : (n : ℕ) (f : ℕ → V) → ((i : ℕ) → i < n → f i ≡ S.zero) → total S n f ≡ S.zero
  total-zero zero f e = refl
  total-zero (suc n) f e = ap₂ S.add (total-zero n f (λ i l. e i (omega arith))) (e n (omega arith))
      ∙ laws.zero-add S.zero laws.zero_in

  total-mul_zero : (n : ℕ) (f : ℕ → V) (z : V) → L z → ((i : ℕ) → i < n → L (f i))
      → ((i : ℕ) → i < n → f i ⊗ z ≡ S.zero) → total S n f ⊗ z ≡ S.zero
  total-mul_zero zero f z z_in h e = laws.zero-mul z z_in
  total-mul_zero (suc n) f z z_in h e =
      laws.add-mul (total S n f) (f n) z (total_in n f (λ i l. h i (omega arith))) (h n (omega arith)) z_in
      ∙ ap₂ S.add (total-mul_zero n f z z_in (λ i l. h i (omega arith)) (λ i l. e i (omega arith))) (e n (omega arith))
      ∙ laws.zero-add S.zero laws.zero_in

  one_product : (I J : V → Type 0) (x y : V) → L x → L y → I x → J y → Products S I J (x ⊗ y)
  one_product I J x y lx ly i j = record {
    size = 1;
    term = λ _. x ⊗ y;
    each = λ _ _. (x, y, i, j, refl);
    gives = sym (laws.zero-add (x ⊗ y) (laws.mul_in x y lx ly));
  }

  module _ (J N : V → Type 0) (inside : Within J L) (inside' : Within N L) (square : Within (Products S J J) N) where
    power_in : (I : V → Type 0) → Within I L → (e : ℕ) → Within (Power S I e) L
    power_in I w zero = w
    power_in I w (suc e) = λ x h. subst L (sym h.gives) (total_in h.size h.term (λ i l.
        let k = h.each i l in
        subst L (sym k.4) (laws.mul_in k.0 k.1 (power_in I w e k.0 k.2) (w k.1 k.3))))

    -- what a power of the square annihilates from the left, the power of J with twice the exponent does
    annihilates : (e : ℕ) (t : V) → L t → ((y : V) → Power S N e y → y ⊗ t ≡ S.zero) → (x : V)
        → Power S J (odd e) x → x ⊗ t ≡ S.zero
    annihilates zero t t_in h x s = h x (square x s)
    annihilates (suc e) t t_in h x s =
        ap (λ y. y ⊗ t) s.gives
        ∙ total-mul_zero s.size s.term t t_in
        (λ i l. let w = s.each i l in
        subst L (sym w.4) (laws.mul_in w.0 w.1 (power_in J inside (suc (odd e)) w.0 w.2) (inside w.1 w.3)))
        (λ i l.
        let w = s.each i l in
        let c = w.1 in
        let c_in = inside c w.3 in
        let ct = c ⊗ t in
        let ct_in = laws.mul_in c t c_in t_in in
        let u = w.2 in
        ap (λ y. y ⊗ t) w.4 ∙ laws.mul_assoc w.0 c t (power_in J inside (suc (odd e)) w.0 w.2) c_in t_in
        ∙ ap (λ y. y ⊗ ct) u.gives
        ∙ total-mul_zero u.size u.term ct ct_in
        (λ j m. let v = u.each j m in
        subst L (sym v.4) (laws.mul_in v.0 v.1 (power_in J inside (odd e) v.0 v.2) (inside v.1 v.3)))
        (λ j m.
        let v = u.each j m in
        let a_in = power_in J inside (odd e) v.0 v.2 in
        let b = v.1 in
        let b_in = inside b v.3 in
        let bc = b ⊗ c in
        let bc_in = laws.mul_in b c b_in c_in in
        let bc_square = square bc (one_product J J b c b_in c_in v.3 w.3) in
        ap (λ y. y ⊗ ct) v.4 ∙ laws.mul_assoc v.0 b ct a_in b_in ct_in
        ∙ ap (λ y. v.0 ⊗ y) (sym (laws.mul_assoc b c t b_in c_in t_in))
        ∙ annihilates e (bc ⊗ t) (laws.mul_in bc t bc_in t_in)
        (λ y p.
        let y_in = power_in N inside' e y p in
        sym (laws.mul_assoc y bc t y_in bc_in t_in)
        ∙ h (y ⊗ bc) (one_product (Power S N e) N y bc y_in bc_in p bc_square)) v.0 v.2))

    power_of_square : (e : ℕ) → Within (Power S N e) (Zero S) → Within (Power S J (suc (odd e))) (Zero S)
    power_of_square e h x s = s.gives ∙ total-zero s.size s.term (λ i l.
        let w = s.each i l in
        w.4 ∙ annihilates e w.1 (inside w.1 w.3)
        (λ y p. ap (λ z. z ⊗ w.1) (h y p) ∙ laws.zero-mul w.1 (inside w.1 w.3)) w.0 w.2)

module _ {E : Type 0} (o : Ops E) (A : Structure E) where
  -- made by squares from the ideal that `by` spans: it lies in it, holds its own products, and has a power that is 0
  -- only where the ideal has one
  pub record IsIteratedSquare (by power : List (List E)) : Type 0 where
    pub within : Within (Combinations o A.dim power) (Combinations o A.dim by)
    pub closed : Within (Products (tuple_ops o A) (Combinations o A.dim power) (Combinations o A.dim power))
        (Combinations o A.dim power)
    pub vanishes : PowerVanishes o A power → PowerVanishes o A by

module _ {E : Type 0} (o : Ops E) (L : FieldLaws o) (A : Structure E) (constants : All (IsElem o) A.constants)
    (assoc : IsAssociative o A) where
  abbrev m : ℕ
  m = A.dim

  abbrev S : RingOps (List E)
  S = tuple_ops o A

  abbrev Com : List (List E) → List E → Type 0
  Com = Combinations o A.dim

  laws : ProductLawsOn S (IsTuple o m)
  laws =
      let cs = A.constants in
      let M : ModuleOn (elements o L).ring (Tuple o m) = tuples o L m in
      let P : ProductOn M = tuple_product o L m cs constants in
      let tuple = as_tuple o L m in
      record {
        zero_in = rw (← (tuples-zero o L m)) (IsTuple-of o L m M.zero);
        add_in = λ x y hx hy. rw (← (tuples-add o L m (tuple x hx) (tuple y hy)))
            (IsTuple-of o L m (M.◌⊕◌ (tuple x hx) (tuple y hy)));
        mul_in = λ x y hx hy. IsTuple-product o L m cs constants x y hx hy;
        zero-add = λ x hx. ap (λ z. tuple_add o m z x) (sym (tuples-zero o L m))
            ∙ sym (tuples-add o L m M.zero (tuple x hx)) ∙ ap (λ (z : Tuple o m). z.0) (M.zero-add (tuple x hx));
        add-mul = λ x y z hx hy hz. add-product o L m cs constants x y z hx hy hz;
        zero-mul = λ x hx. ap (λ z. product o m cs z x) (sym (tuples-zero o L m))
            ∙ sym (tuple_product-list o L m cs constants M.zero (tuple x hx))
            ∙ ap (λ (z : Tuple o m). z.0) (map-zero M M (λ z. P.◌⊗◌ z (tuple x hx))
            (product_right M P (tuple x hx)))
            ∙ tuples-zero o L m;
        mul_assoc = λ x y z hx hy hz. product_assoc o L m cs constants assoc x y z hx hy hz;
      }

  sums_in : (J : List E → Type 0) → J S.zero → ((x y : List E) → J x → J y → J (S.add x y)) → (n : ℕ)
      (f : ℕ → List E) → ((i : ℕ) → i < n → J (f i)) → J (total S n f)
  sums_in J z a zero f h = z
  sums_in J z a (suc n) f h = a (total S n f) (f n) (sums_in J z a n f (λ i l. h i (omega arith))) (h n (omega arith))

  pub ideal_starts : (by power : List (List E)) → power ≡ by → SpansIdeal o A by → IsIteratedSquare o A by power
  ideal_starts by power e ideal =
      let I = ideal.ideal in
      subst (IsIteratedSquare o A by) (sym e) record {
        within = λ x h. h;
        closed = λ x h. subst (Com by) (sym h.gives) (sums_in (Com by) I.zero_in I.add_in h.size h.term (λ i l.
            let w = h.each i l in
            subst (Com by) (sym w.4) (I.left w.0 w.1 (I.inside w.0 w.2) w.3)));
        vanishes = λ v. v;
      }

  pub squared : (by power square : List (List E)) → IsIteratedSquare o A by power → SpansProducts o A power power square
      → IsIteratedSquare o A by square
  squared by power square h made =
      let into : Within (Com square) (Com power) = λ x c. h.closed x (made.0 x c) in
      record {
        within = λ x c. h.within x (into x c);
        closed = λ x c. made.1 x (products_mono S (Com square) (Com power) (Com square) (Com power) into into x c);
        vanishes = λ v. h.vanishes record {
          exponent = suc (odd v.exponent);
          vanishes = power_of_square S (IsTuple o m) laws (Com power) (Com square) (λ x c. c.0) (λ x c. c.0)
              (λ x c. made.1 x c) v.exponent v.vanishes;
        };
      }

  -- one that is its own square, in an ideal with a power that is 0, is 0
  pub zero_of_idempotent : (by power : List (List E)) → IsIteratedSquare o A by power → SpansProducts o A power power power
      → PowerVanishes o A by → Within (Com power) (Zero S)
  zero_of_idempotent by power h made v x c =
      let stable = power_stable S (Com power) (Com power) zero (λ x c. c, λ x c. c) made v.exponent in
      let q : zero + v.exponent ≡ v.exponent = omega arith in
      v.vanishes x (power_mono S (Com power) (Com by) h.within v.exponent x
      (subst (λ e. Power S (Com power) e x) q (stable.0 x c)))

  -- where its square has no smaller dimension, it is its own square
  pub own_square : (by power square : List (List E)) → IsIteratedSquare o A by power → SpansProducts o A power power square
      → IsReducedBasis o m power → IsReducedBasis o m square → length power ≤ length square
      → SpansProducts o A power power power
  own_square by power square h made x y low =
      let inside : RowsIn o m square power = λ r l. (h.closed (get_or square r []) (made.0 (get_or square r [])
      (y.shape r [] l, InSpan-member o L m square y.shape r l))).1 in
      let high = dimension_mono o L m square power y x inside in
      let P : List (List E) → Type 0 = SpansProducts o A power power in
      subst P (same_of_dimension o L m square power y x inside (omega arith)) made

  -- a subspace of dimension 1 or more is not 0
  pub not_zero : (rows : List (List E)) → IsReducedBasis o m rows → 0 < length rows → Within (Com rows) (Zero S) → ⊥
  not_zero rows x l z =
      let each = x.each in
      let piv : 0 < length x.pivots = omega arith in
      let p = get_or x.pivots 0 0 in
      let is = z (get_or rows 0 []) (x.shape 0 [] l, InSpan-member o L m rows x.shape 0 l) in
      L.one-nonzero (sym (x.reduced.unit 0 0 piv l ∙ cond_yes 0 0 o.one o.zero refl)
      ∙ ap (λ xs. at o xs p) is ∙ at-table o m (λ _. o.zero) p (x.reduced.below 0 piv))

  -- the answer: no power is 0 where one that is not 0 is its own square
  pub no_power_vanishes : (by power square : List (List E)) → IsIteratedSquare o A by power
      → SpansProducts o A power power square → IsReducedBasis o m power → IsReducedBasis o m square → 0 < length power
      → length power ≤ length square → PowerVanishes o A by → ⊥
  no_power_vanishes by power square h made x y some low v =
      not_zero power x some (zero_of_idempotent by power h (own_square by power square h made x y low) v)

  -- and the first is where there are no rows
  pub nothing_vanishes : (by power : List (List E)) → IsIteratedSquare o A by power → length power ≡ 0
      → PowerVanishes o A by
  nothing_vanishes by power h e = h.vanishes record {
    exponent = 0;
    vanishes = λ x c. IsTuple-ext o m x (tuple_zero o m) c.0 laws.zero_in (λ j l.
        c.1.2 j l ∙ (ap (λ n. sum_of o n (λ i. o.mul (at o c.1.0 i) (entry o power i j))) e)
        ∙ sym (at-table o m (λ _. o.zero) j l));
  }
