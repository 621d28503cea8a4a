-- Constants as fractions: they are contained in the fractions as a field, and an algebra whose constants are of this
-- kind associates where that over the smaller field does.
use Rattle.std.specs.Prelude.{◌≡◌, ◌<◌, ◌≤◌, ◌*◌, ◌-◌, ◌+◌, ◌++◌, ℕ, zero, suc, Bool, true, false, List, [], ◌∷◌, length, get_or, cond, MatchOption}
use Rattle.std.specs.Prelude.{Option, Some, None}
use Rattle.std.specs.List.{All}
use Rattle.std.proofs.Common.{refl, sym, ◌∙◌, ap, ap₂, subst, arith, below_more, length-append, true≢false}
use Rattle.std.proofs.lemmas.List.{ext_get_or, get_or_push}
use Rattle.std.proofs.lemmas.List.Elements.{All-nil, All-cons, All-push}
use Rattle.std.proofs.Math.ListN.{get_or-append}
use Rattle.theory_rings.specs.Ops.{Ops, IsElem, FieldLaws}
use Rattle.theory_rings.specs.Sum.{at}
use Rattle.theory_rings.specs.Polynomial.{constant_coefficients}
use Rattle.theory_rings.proofs.Sums.Lists.{length-table, get_or-table}
use Rattle.theory_rings.proofs.Rings.Elements.{at-elem}
use Rattle.theory_fractions.specs.PolynomialLists.{IsPolynomialList}
use Rattle.theory_fractions.specs.Fraction.{Pair}
use Rattle.theory_fractions.specs.FractionOps.{fraction_ops}
use Rattle.theory_fractions.specs.CommonDenominator.{as_fraction}
use Rattle.theory_fractions.proofs.FractionField.{fraction_laws}
use Rattle.theory_fractions.proofs.ElementClauses.{lowest_of_elem, zero_is, one_is}
use Rattle.theory_fractions.proofs.PairEquations.{one_of_constant}
use Rattle.theory_fractions.proofs.PolynomialFractions.{as_fraction-elem, as_fraction-add, as_fraction-mul}
use Rattle.theory_fractions.proofs.Coefficients.{convolution_of_sum, mul-zero_elem}
use Rattle.theory_tables.specs.Structure.{Structure, IsOver, IsAssociative}
use Rattle.theory_constants.specs.Subfield.{IsFieldMap, KeepsByExtension, extended, images}
use Rattle.theory_constants.proofs.Subfield.{extension_law}
use Rattle.spl_algebra.specs.Triple.{IsFirstFailed}
use Rattle.spl_algebra.specs.declared.triple.Triple.{Triple}
use Rattle.spl_numerators.specs.Constants.{constant_list, constant_fraction, IsShort, AreConstantFractions, IsExtensionOf}

module _ {E : Type 0} (o : Ops E) (L : FieldLaws o) where
  abbrev K : Ops (Pair E)
  K = fraction_ops o L

  abbrev of : E → Pair E
  of = constant_fraction o

  at-constant : (c : E) → IsElem o c → (k : ℕ) → at o (constant_list o c) k ≡ constant_coefficients o.zero c k
  at-constant c hc k = go (o.is_zero c) refl k
    where
      go : (b : Bool) → o.is_zero c ≡ b → (k : ℕ) → at o (cond b [] (c ∷ [])) k ≡ constant_coefficients o.zero c k
      go true e zero = sym (L.is_zero-sound c hc e)
      go true e (suc k) = refl
      go false e zero = refl
      go false e (suc k) = refl

  short : (c : E) → length (constant_list o c) ≤ 1
  short c = go (o.is_zero c)
    where
      go : (b : Bool) → length (cond b [] (c ∷ [])) ≤ 1
      go true = omega arith
      go false = omega arith

  polynomial : (c : E) → IsElem o c → IsPolynomialList o (constant_list o c)
  polynomial c hc = go (o.is_zero c) refl
    where
      go : (b : Bool) → o.is_zero c ≡ b → IsPolynomialList o (cond b [] (c ∷ []))
      go true e = record { over = All-nil (IsElem o); trimmed = tt }
      go false e = record {
        over = All-cons (IsElem o) c [] hc (All-nil (IsElem o));
        trimmed = λ z. true≢false (sym (ap o.is_zero z ∙ L.is_zero-zero) ∙ e);
      }

  sums : (a b : E) → (k : ℕ)
      → constant_coefficients o.zero (o.add a b) k
      ≡ o.add (constant_coefficients o.zero a k) (constant_coefficients o.zero b k)
  sums a b zero = refl
  sums a b (suc k) = sym (L.zero-add o.zero L.zero-elem)

  of-add : (a b : E) → IsElem o a → IsElem o b → of (o.add a b) ≡ K.add (of a) (of b)
  of-add a b ha hb =
      let hc = L.add-elem a b ha hb in
      as_fraction-add o L (constant_list o a) (constant_list o b) (constant_list o (o.add a b)) (polynomial a ha)
      (polynomial b hb) (polynomial (o.add a b) hc)
      (λ k. at-constant (o.add a b) hc k ∙ sums a b k
      ∙ sym (ap₂ o.add (at-constant a ha k) (at-constant b hb k)))

  products : (a b : E) → IsElem o a → IsElem o b → (k : ℕ)
      → constant_coefficients o.zero (o.mul a b) k ≡ o.mul a (constant_coefficients o.zero b k)
  products a b ha hb zero = refl
  products a b ha hb (suc k) = sym (mul-zero_elem o L a ha)

  of-mul : (a b : E) → IsElem o a → IsElem o b → of (o.mul a b) ≡ K.mul (of a) (of b)
  of-mul a b ha hb =
      let hc = L.mul-elem a b ha hb in
      let pa = polynomial a ha in
      let pb = polynomial b hb in
      as_fraction-mul o L (constant_list o a) (constant_list o b) (constant_list o (o.mul a b)) pa pb
      (polynomial (o.mul a b) hc)
      (λ k. at-constant (o.mul a b) hc k ∙ products a b ha hb k
      ∙ sym (ap₂ o.mul (at-constant a ha 0) (at-constant b hb k))
      ∙ sym (L.zero-add (o.mul (at o (constant_list o a) 0) (at o (constant_list o b) k))
      (L.mul-elem (at o (constant_list o a) 0) (at o (constant_list o b) k) (at-elem o L (constant_list o a) pa.over 0)
      (at-elem o L (constant_list o b) pb.over k)))
      ∙ ap (λ j. o.add o.zero (o.mul (at o (constant_list o a) 0) (at o (constant_list o b) j)))
      (let same : k ≡ k - 0 = omega arith in same)
      ∙ convolution_of_sum o L (constant_list o a) (constant_list o b) pa.over pb.over k 1 (omega arith)
      (λ _. short a))

  of-zero : of o.zero ≡ K.zero
  of-zero = ap (λ b. as_fraction o (cond b [] (o.zero ∷ []))) L.is_zero-zero ∙ sym (zero_is o L)

  list_of_nonzero : (c : E) → IsElem o c → (c ≡ o.zero → ⊥) → constant_list o c ≡ c ∷ []
  list_of_nonzero c hc n = go (o.is_zero c) refl
    where
      go : (b : Bool) → o.is_zero c ≡ b → cond b [] (c ∷ []) ≡ c ∷ []
      go true e = absurd (n (L.is_zero-sound c hc e))
      go false e = refl

  of-one : of o.one ≡ K.one
  of-one = ap (as_fraction o) (list_of_nonzero o.one L.one-elem L.one-nonzero) ∙ sym (one_is o L)

  field_map : IsFieldMap o K of
  field_map = record {
    map-elem = λ a ha. as_fraction-elem o L (constant_list o a) (polynomial a ha);
    map-zero = of-zero;
    map-one = of-one;
    map-add = of-add;
    map-mul = of-mul;
  }

  -- ---- a fraction with one coefficient at most is a constant

  abbrev value : Pair E → E
  value w = get_or w.0 0 o.zero

  list_is : (u : List E) → IsPolynomialList o u → length u ≤ 1 → u ≡ constant_list o (get_or u 0 o.zero)
  list_is [] h l = sym (ap (λ b. cond b [] (o.zero ∷ [])) L.is_zero-zero)
  list_is (c ∷ []) h l = sym (list_of_nonzero c (h.over 0 o.zero (omega arith)) h.trimmed)
  list_is (c ∷ d ∷ u) h l = absurd (omega arith)

  pub value-elem : (w : Pair E) → IsElem K w → IsElem o (value w)
  value-elem w hw = let h = lowest_of_elem o L w hw in at-elem o L w.0 h.numerator_over 0

  pub value_is : (w : Pair E) → IsElem K w → IsShort w → w ≡ of (value w)
  value_is w hw s =
      let h = lowest_of_elem o L w hw in
      let u : w.0 ≡ constant_list o (value w) =
      list_is w.0 (record { over = h.numerator_over; trimmed = h.numerator_trimmed }) s.numerator in
      let v : w.1 ≡ o.one ∷ [] = one_of_constant o L w.1 (omega (arith, s.denominator, h.denominator_nonzero)) h.monic in
      ap₂ (λ (x y : List E). (x, y)) u v

  -- ---- lists of constants

  pub no_constants : (list : List (Pair E)) (items : List E) → items ≡ [] → AreConstantFractions o list 0 items
  no_constants list items e = record {
    tuple = record { right_length = ap length e; of_elements = subst (All (IsElem o)) (sym e) (All-nil (IsElem o)) };
    each = λ p l. absurd (omega (arith, l));
  }

  -- one more
  pub more_constants : (list : List (Pair E)) (n : ℕ) (before after : List E) (x : E)
      → AreConstantFractions o list n before → after ≡ before ++ x ∷ [] → IsElem o x
      → get_or list n ([], []) ≡ of x → AreConstantFractions o list (n + 1) after
  more_constants list n before after x h e hx v =
      let t = h.tuple in
      let old : (q : ℕ) → q < n → get_or after q o.zero ≡ get_or before q o.zero =
      λ q l. ap (λ xs. get_or xs q o.zero) e ∙ get_or-append before (x ∷ []) o.zero q (omega (arith, l, t.right_length)) in
      let last : get_or after n o.zero ≡ x =
      ap (λ xs. get_or xs n o.zero) e ∙ get_or_push before x o.zero n (omega (arith, t.right_length)) in
      record {
        tuple = record {
          right_length = ap length e ∙ length-append before (x ∷ []) ∙ omega (arith, t.right_length);
          of_elements = subst (All (IsElem o)) (sym e) (All-push (IsElem o) before x t.of_elements hx);
        };
        each = below_more (λ q. get_or list q ([], []) ≡ of (get_or after q o.zero)) n
            (λ q l. h.each q l ∙ ap of (sym (old q l)))
            (v ∙ ap of (sym last));
      }

  -- ---- the algebra with these constants

  module _ (A : Structure (Pair E)) (over : IsOver K A) (items : List E) (n : ℕ) (n_is : n ≡ length A.constants)
      (h : AreConstantFractions o A.constants n items) where
    long : length A.constants ≡ A.dim * A.dim * A.dim
    long = over.right_length

    abbrev B : Structure E
    B = record { dim = A.dim; constants = items }

    pub small_over : IsOver o B
    small_over = record { right_length = let t = h.tuple in t.right_length ∙ n_is ∙ long; of_elements = let t = h.tuple in t.of_elements }

    pub is_extension : IsExtensionOf o L A B
    is_extension = record {
      over = small_over;
      extension = ap (λ (cs : List (Pair E)). record { dim = A.dim; constants = cs })
          (ext_get_or ([], []) A.constants (images o K of (A.dim * A.dim * A.dim) items)
          (long ∙ sym (length-table (A.dim * A.dim * A.dim) (λ k. of (at o items k))))
          (λ p l. h.each p (omega (arith, l, n_is))
          ∙ sym (get_or-table (A.dim * A.dim * A.dim) (λ k. of (at o items k)) p ([], []) (omega (arith, l, long)))));
    }

  pub extension_of : (A : Structure (Pair E)) → IsOver K A → (items : List E) (n : ℕ) → n ≡ length A.constants
      → AreConstantFractions o A.constants n items → (B : Structure E) → B.dim ≡ A.dim → B.constants ≡ items
      → IsExtensionOf o L A B
  extension_of A over items n n_is h B d c =
      subst (IsExtensionOf o L A) (ap₂ (λ (k : ℕ) (cs : List E). record { dim = k; constants = cs }) (sym d) (sym c))
      (is_extension A over items n n_is h)

  -- ---- what associates

  module _ (B : Structure E) (over : IsOver o B) where
    keeps : KeepsByExtension o K of B
    keeps = extension_law o L K (fraction_laws o L) of B field_map over

    associative : IsAssociative o B → IsAssociative K (extended o K of B)
    associative h i j k i_in j_in k_in = let t = keeps.triple i j k in t.0 (h i j k i_in j_in k_in)

    first : (t : Triple) → IsFirstFailed o B t → IsFirstFailed K (extended o K of B) t
    first t h = record {
      i_low = h.i_low;
      i_high = h.i_high;
      j_low = h.j_low;
      j_high = h.j_high;
      k_low = h.k_low;
      k_high = h.k_high;
      fails = λ e. let s = keeps.triple (t.i - 1) (t.j - 1) (t.k - 1) in h.fails (s.1 e);
      first = λ i j k i_in j_in k_in before. let s = keeps.triple i j k in s.0 (h.first i j k i_in j_in k_in before);
    }

    carried : (r : Option Triple) → MatchOption r (IsAssociative o B) (IsFirstFailed o B)
        → MatchOption r (IsAssociative K (extended o K of B)) (IsFirstFailed K (extended o K of B))
    carried None h = associative h
    carried (Some t) h = first t h

  pub first_by_extension : (A : Structure (Pair E)) (B : Structure E) → IsExtensionOf o L A B → (r : Option Triple)
      → MatchOption r (IsAssociative o B) (IsFirstFailed o B)
      → MatchOption r (IsAssociative K A) (IsFirstFailed K A)
  first_by_extension A B x r h =
      subst (λ S. MatchOption r (IsAssociative K S) (IsFirstFailed K S)) (sym x.extension) (carried B x.over r h)
