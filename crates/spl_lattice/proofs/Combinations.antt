-- Combinations of the polynomials of a list.
use Rattle.std.specs.Prelude.{◌≡◌, ◌≢◌, ℕ, suc, ◌+◌, ◌<◌, ◌≤◌, List, [], ◌∷◌, ◌++◌, length, get_or}
use Rattle.std.specs.List.{All}
use Rattle.std.proofs.Common.{refl, sym, ◌∙◌, ap, ap₂, subst, arith, inl, ⊎_elim}
use Rattle.std.proofs.lemmas.Bool.{cases_lt}
use Rattle.std.proofs.lemmas.List.{get_or_past, get_or_append_left, length-append}
use Rattle.std.proofs.Math.Seq.{get_or-append_seam}
use Rattle.std.proofs.lemmas.List.Elements.{All-nil, All-get_or, All-push}
use Rattle.theory_rings.specs.Ring.{FieldOn, CommRingOn}
use Rattle.theory_rings.specs.Ops.{Ops, IsElem, FieldLaws}
use Rattle.theory_rings.specs.Elements.{Elem, Elem-path, elements}
use Rattle.theory_rings.specs.Sum.{at, sum, sum_of}
use Rattle.theory_rings.specs.Polynomial.{Poly, coefficient, convolution_of, degree}
use Rattle.theory_rings.proofs.Sums.Sums.{sum_congr, mul-sum}
use Rattle.theory_rings.proofs.Rings.RingLaws.{mul-zero, zero-mul, add-zero}
use Rattle.theory_rings.proofs.Rings.Elements.{at-elem}
use Rattle.theory_rings.proofs.Polynomials.PolynomialRing.{constant}
use Rattle.theory_rings.proofs.Polynomials.Constants.{coefficient-constant_mul}
use Rattle.theory_rings.proofs.Polynomials.Bezout.{constant_inverse}
use Rattle.spl_poly.specs.Operations.{IsOver, IsProduct, Divides, IsMonicOf, IsZeroOrMonic}
use Rattle.spl_lattice.specs.Ideal.{IsCombination, IsGenerator}
use Rattle.spl_lattice.specs.Steps.{IsConstant, IsGreatestDivisor, AreMultiples, IsExtension, IsMultiple}
use Rattle.theory_fractions.proofs.Lifting.{P, Has, lift, has-lift, eq_of_coefficients, coefficients_of_eq, has-mul}
use Rattle.theory_fractions.proofs.Lifting.{has-sum, has-one, lift_nil, lift-mul, product_of_lift, lower, lower-over}
use Rattle.theory_fractions.proofs.Lifting.{has-lower, lift-divides, divides_of_lift}
use Rattle.spl_lattice.proofs.GreatestDivisors.{lift_one, lift-constant, lift-combination, combination_of_lift}
use Rattle.spl_lattice.proofs.GreatestDivisors.{divides_refl, divides_nil}

module _ {E : Type 0} (o : Ops E) where
  -- a common divisor that is a combination, which is not yet monic
  pub record IsFound (list ms : List (List E)) (v : List E) : Type 0 where
    pub list_over : All (IsOver o) list
    pub multipliers_over : All (IsOver o) ms
    pub value_over : IsOver o v
    pub divides : (i : ℕ) → i < length list → Divides o v (get_or list i [])
    pub count : length ms ≡ length list
    pub combination : IsCombination o list ms v

module _ {E : Type 0} (o : Ops E) (L : FieldLaws o) where
  abbrev G : FieldOn (Elem o)
  G = elements o L

  abbrev Q : CommRingOn (Poly G.cring)
  Q = P o L

  abbrev up : List E → Poly G.cring
  up = lift o L

  pub row-over : (rows : List (List E)) → All (IsOver o) rows → (i : ℕ) → IsOver o (get_or rows i [])
  row-over rows h i = ⊎_elim
      (λ (l : i < length rows). All-get_or (IsOver o) rows i [] l h)
      (λ (l : length rows ≤ i). subst (IsOver o) (sym (get_or_past rows i [] l)) (All-nil (IsElem o)))
      (cases_lt i (length rows))

  -- item i times its multiplier
  abbrev term : List (List E) → List (List E) → ℕ → Poly G.cring
  term list ms i = Q.◌⊗◌ (up (get_or ms i [])) (up (get_or list i []))

  abbrev term_coefficient : List (List E) → List (List E) → ℕ → ℕ → E
  term_coefficient list ms i k = convolution_of o (at o (get_or ms i [])) (at o (get_or list i [])) k

  module _ (list ms : List (List E)) (hl : All (IsOver o) list) (hm : All (IsOver o) ms) (v : List E)
      (hv : IsOver o v) where
    has-terms : Has o L (sum Q.monoid (length list) (term list ms))
        (λ k. sum_of o (length list) (λ i. term_coefficient list ms i k))
    has-terms = has-sum o L (length list) (term list ms) (term_coefficient list ms) (λ i l.
        has-mul o L (up (get_or ms i [])) (up (get_or list i [])) (at o (get_or ms i [])) (at o (get_or list i []))
        (has-lift o L (get_or ms i []) (row-over ms hm i)) (has-lift o L (get_or list i []) (row-over list hl i)))

    lift-terms : IsCombination o list ms v → up v ≡ sum Q.monoid (length list) (term list ms)
    lift-terms e = eq_of_coefficients o L (up v) (sum Q.monoid (length list) (term list ms)) (at o v)
        (λ k. sum_of o (length list) (λ i. term_coefficient list ms i k)) (has-lift o L v hv) has-terms e

    combination_of_terms : up v ≡ sum Q.monoid (length list) (term list ms) → IsCombination o list ms v
    combination_of_terms e = coefficients_of_eq o L (up v) (sum Q.monoid (length list) (term list ms)) (at o v)
        (λ k. sum_of o (length list) (λ i. term_coefficient list ms i k)) (has-lift o L v hv) has-terms e

  -- multiplied by u
  multiple_terms : (u : List E) (list ms ms' : List (List E)) → IsOver o u → All (IsOver o) ms → All (IsOver o) ms'
      → ((i : ℕ) → i < length list → IsProduct o u (get_or ms i []) (get_or ms' i []))
      → sum Q.monoid (length list) (term list ms') ≡ Q.◌⊗◌ (up u) (sum Q.monoid (length list) (term list ms))
  multiple_terms u list ms ms' hu hm hm' e =
      sum_congr Q.monoid (length list) (term list ms') (λ i. Q.◌⊗◌ (up u) (term list ms i)) (λ i l.
      ap (λ x. Q.◌⊗◌ x (up (get_or list i [])))
      (lift-mul o L u (get_or ms i []) (get_or ms' i []) hu (row-over ms hm i) (row-over ms' hm' i) (e i l))
      ∙ Q.mul_assoc (up u) (up (get_or ms i [])) (up (get_or list i [])))
      ∙ sym (mul-sum Q.ring (length list) (up u) (term list ms))

  divides_through : (a b c : List E) → IsOver o a → IsOver o b → IsOver o c → Divides o a b → Divides o b c
      → Divides o a c
  divides_through a b c ha hb hc d e =
      let p = lift-divides o L a b ha hb d in
      let q = lift-divides o L b c hb hc e in
      divides_of_lift o L a c ha hc (Q.◌⊗◌ q.0 p.0, q.1 ∙ ap (Q.◌⊗◌ q.0) p.1 ∙ sym (Q.mul_assoc q.0 p.0 (up a)))

  pub found_none : IsFound o [] [] []
  found_none = record {
    list_over = All-nil (IsOver o);
    multipliers_over = All-nil (IsOver o);
    value_over = All-nil (IsElem o);
    divides = λ i l. absurd (omega arith);
    count = refl;
    combination = λ k. refl;
  }

  -- with one more polynomial
  module _ (list ms : List (List E)) (v b v' : List E) (ms' : List (List E)) (f : IsFound o list ms v) (hb : IsOver o b)
      (hv' : IsOver o v') (hm' : All (IsOver o) ms') (x : IsExtension o v ms b v' ms') where
    long : length (list ++ b ∷ []) ≡ suc (length list)
    long = let e : suc (length list) ≡ length list + 1 = omega arith in length-append list (b ∷ []) ∙ sym e

    early : (i : ℕ) → i < length list → get_or (list ++ b ∷ []) i [] ≡ get_or list i []
    early i l = get_or_append_left list (b ∷ []) [] i l

    products_count : length x.products ≡ length list
    products_count = (let e = x.multiples in e.count) ∙ f.count

    early_multiplier : (i : ℕ) → i < length list → get_or ms' i [] ≡ get_or x.products i []
    early_multiplier i l = ap (λ r. get_or r i []) x.pushed
        ∙ get_or_append_left x.products (x.right ∷ []) [] i (omega (arith, products_count))

    last_multiplier : get_or ms' (length list) [] ≡ x.right
    last_multiplier = ap (λ r. get_or r (length list) []) x.pushed
        ∙ ap (λ n. get_or (x.products ++ x.right ∷ []) n []) (sym products_count)
        ∙ get_or-append_seam x.products x.right [] []

    abbrev g : IsGreatestDivisor o v b x.left x.right v'
    g = x.greatest

    earlier : sum Q.monoid (length list) (term (list ++ b ∷ []) ms') ≡ Q.◌⊗◌ (up x.left) (up v)
    earlier =
        sum_congr Q.monoid (length list) (term (list ++ b ∷ []) ms') (term list ms')
        (λ i l. ap (λ y. Q.◌⊗◌ (up (get_or ms' i [])) (up y)) (early i l))
        ∙ multiple_terms x.left list ms ms' x.left_over f.multipliers_over hm'
        (λ i l. subst (IsProduct o x.left (get_or ms i [])) (sym (early_multiplier i l))
        (let e = x.multiples in e.product i (omega (arith, l, f.count))))
        ∙ ap (Q.◌⊗◌ (up x.left)) (sym (lift-terms list ms f.list_over f.multipliers_over v f.value_over f.combination))

    latest : term (list ++ b ∷ []) ms' (length list) ≡ Q.◌⊗◌ (up x.right) (up b)
    latest = ap₂ (λ p q. Q.◌⊗◌ (up p) (up q)) last_multiplier (get_or-append_seam list b [] [])

    list_over : All (IsOver o) (list ++ b ∷ [])
    list_over = All-push (IsOver o) list b f.list_over hb

    each : (i : ℕ) → i < length (list ++ b ∷ []) → Divides o v' (get_or (list ++ b ∷ []) i [])
    each i l = ⊎_elim
        (λ (below : i < length list). subst (Divides o v') (sym (early i below))
        (divides_through v' v (get_or list i []) hv' f.value_over (row-over list f.list_over i) g.divides-left
        (f.divides i below)))
        (λ (above : length list ≤ i). let e : length list ≡ i = omega (arith, l, long) in
        subst (Divides o v') (sym
        (ap (λ n. get_or (list ++ b ∷ []) n []) (sym e) ∙ get_or-append_seam list b [] [])) g.divides-right)
        (cases_lt i (length list))

    pub found_more : IsFound o (list ++ b ∷ []) ms' v'
    found_more = record {
      list_over = list_over;
      multipliers_over = hm';
      value_over = hv';
      divides = each;
      count = ap length x.pushed ∙ length-append x.products (x.right ∷ []) ∙ ap (λ n. n + 1) products_count
          ∙ sym (length-append list (b ∷ []));
      combination = combination_of_terms (list ++ b ∷ []) ms' list_over hm' v' hv'
          (lift-combination o L v b f.value_over hb x.left x.right v' x.left_over x.right_over hv' g.combination
          ∙ sym (ap (λ n. sum Q.monoid n (term (list ++ b ∷ []) ms')) long ∙ ap₂ Q.◌⊕◌ earlier latest));
    }

  -- the value 0, or all multiplied by the inverse of the leading coefficient
  pub generator_of_zero : (list ms : List (List E)) → IsFound o list ms [] → IsGenerator o list ms []
  generator_of_zero list ms f = record {
    monic = inl refl;
    divides = f.divides;
    count = f.count;
    combination = f.combination;
  }

  pub generator_of_multiple : (list ms ms' : List (List E)) (v v' : List E) → IsFound o list ms v → IsOver o v'
      → All (IsOver o) ms' → IsMultiple o v ms v' ms'
      → IsZeroOrMonic o v' → IsGenerator o list ms' v'
  generator_of_multiple list ms ms' v v' f hv' hm' m monic =
      let e = m.multiples in
      record {
        monic = monic;
        divides = λ i l. divides_through v' v (get_or list i []) hv' f.value_over
            (row-over list f.list_over i) m.divides (f.divides i l);
        count = e.count ∙ f.count;
        combination = combination_of_terms list ms' f.list_over hm' v' hv'
            (lift-mul o L m.unit v v' m.over f.value_over hv' m.product
            ∙ ap (Q.◌⊗◌ (up m.unit)) (lift-terms list ms f.list_over f.multipliers_over v f.value_over f.combination)
            ∙ sym (multiple_terms m.unit list ms ms' m.over f.multipliers_over hm'
            (λ i l. e.product i (omega (arith, l, f.count)))));
      }

  -- nothing is multiplied
  one_multiples : (one : List E) (ms : List (List E)) → IsOver o one → IsConstant o o.one one → All (IsOver o) ms
      → AreMultiples o one ms ms
  one_multiples one ms ho eo hm = record {
    count = refl;
    product = λ i l. product_of_lift o L one (get_or ms i []) (get_or ms i []) ho (row-over ms hm i) (row-over ms hm i)
        (sym (ap (λ x. Q.◌⊗◌ x (up (get_or ms i []))) (lift_one o L one ho eo) ∙ Q.one-mul (up (get_or ms i []))));
  }

  -- the list of 1
  unit_list : List E
  unit_list = lower o L Q.one

  unit_list-over : IsOver o unit_list
  unfolding unit_list
  unit_list-over = lower-over o L Q.one

  unit_list-constant : IsConstant o o.one unit_list
  unfolding unit_list
  unit_list-constant k = has-lower o L Q.one k ∙ sym (has-one o L k)

  -- after the value 0, b is the value
  pub extension_first : (v : List E) (ms : List (List E)) (b b' one : List E) (ms' : List (List E)) → IsOver o v
      → All (IsOver o) ms → IsOver o b → IsOver o one
      → IsConstant o o.one one → v ≡ [] → b' ≡ b → ms' ≡ ms ++ one ∷ [] → IsExtension o v ms b b' ms'
  extension_first v ms b b' one ms' hv hm hb ho eo z e p =
      let hb' : IsOver o b' = subst (IsOver o) (sym e) hb in
      record {
        left = one;
        right = one;
        left_over = ho;
        right_over = ho;
        greatest = record {
          combination = combination_of_lift o L v b hv hb one one b' ho ho hb'
              (ap up e ∙ sym (ap₂ Q.◌⊕◌ (ap (Q.◌⊗◌ (up one)) (ap up z ∙ lift_nil o L) ∙ mul-zero Q.ring (up one))
              (ap (λ x. Q.◌⊗◌ x (up b)) (lift_one o L one ho eo) ∙ Q.one-mul (up b)) ∙ Q.zero-add (up b)));
          divides-left = subst (Divides o b') (sym z) (divides_nil o L v b hv hb b' hb');
          divides-right = subst (Divides o b') e (divides_refl o L v b hv hb one b' ho eo hb');
        };
        products = ms;
        multiples = one_multiples one ms ho eo hm;
        pushed = p;
      }

  -- where the value divides b, it stays
  pub extension_same : (v : List E) (ms : List (List E)) (b zeros : List E) (ms' : List (List E)) → IsOver o v
      → All (IsOver o) ms → IsOver o b
      → Divides o v b → zeros ≡ [] → ms' ≡ ms ++ zeros ∷ [] → IsExtension o v ms b v ms'
  extension_same v ms b zeros ms' hv hm hb d z p =
      let hz : IsOver o zeros = subst (IsOver o) (sym z) (All-nil (IsElem o)) in
      record {
        left = unit_list;
        right = zeros;
        left_over = unit_list-over;
        right_over = hz;
        greatest = record {
          combination = combination_of_lift o L v b hv hb unit_list zeros v unit_list-over hz hv
              (sym (ap₂ Q.◌⊕◌ (ap (λ x. Q.◌⊗◌ x (up v)) (lift_one o L unit_list unit_list-over unit_list-constant)
              ∙ Q.one-mul (up v))
              (ap (λ x. Q.◌⊗◌ x (up b)) (ap up z ∙ lift_nil o L) ∙ zero-mul Q.ring (up b)) ∙ add-zero Q.monoid (up v)));
          divides-left = divides_refl o L v b hv hb unit_list v unit_list-over unit_list-constant hv;
          divides-right = d;
        };
        products = ms;
        multiples = one_multiples unit_list ms unit_list-over unit_list-constant hm;
        pushed = p;
      }

  -- all divided by the leading coefficient
  pub multiple_of_lead : (v : List E) (ms : List (List E)) (v' : List E) (ms' : List (List E)) (unit : List E) (u : E)
      → IsOver o v → IsOver o v' → IsElem o u → at o v (degree v) ≢ o.zero → u ≡ o.inv (at o v (degree v))
      → IsOver o unit → IsConstant o u unit → IsMonicOf o v v' → AreMultiples o unit ms ms' → IsMultiple o v ms v' ms'
  multiple_of_lead v ms v' ms' unit u hv hv' hu nonzero eu ho eo m e = record {
    unit = unit;
    over = ho;
    product = product_of_lift o L unit v v' ho hv hv' scaled;
    multiples = e;
    divides = divides_of_lift o L v' v hv' hv (constant G.cring G.zero_test c, back);
  }
    where
      c : Elem o
      c = (at o v (degree v), at-elem o L v hv (degree v))

      inverse : up unit ≡ constant G.cring G.zero_test (G.inv c)
      inverse = lift-constant o L u hu unit ho eo ∙ ap (constant G.cring G.zero_test) (Elem-path o (u, hu) (G.inv c) eu)

      scaled : up v' ≡ Q.◌⊗◌ (up unit) (up v)
      scaled = eq_of_coefficients o L (up v') (Q.◌⊗◌ (up unit) (up v)) (at o v')
          (λ k. o.mul (o.inv (at o v (degree v))) (at o v k)) (has-lift o L v' hv')
          (λ k. ap (o.mul (o.inv (at o v (degree v)))) (has-lift o L v hv k)
          ∙ ap (λ x. x.0) (sym (ap (λ x. coefficient G.cring (Q.◌⊗◌ x (up v)) k) inverse
          ∙ coefficient-constant_mul G.cring G.zero_test (G.inv c) (up v) k)))
          m.scaled

      back : up v ≡ Q.◌⊗◌ (constant G.cring G.zero_test c) (up v')
      back = sym (ap (Q.◌⊗◌ (constant G.cring G.zero_test c)) (scaled ∙ ap (λ x. Q.◌⊗◌ x (up v)) inverse)
          ∙ sym (Q.mul_assoc (constant G.cring G.zero_test c) (constant G.cring G.zero_test (G.inv c)) (up v))
          ∙ ap (λ x. Q.◌⊗◌ x (up v))
          (Q.mul_comm (constant G.cring G.zero_test c) (constant G.cring G.zero_test (G.inv c))
          ∙ constant_inverse G c (λ z. nonzero (ap (λ x. x.0) z)))
          ∙ Q.one-mul (up v))

-- products that are pushed
pub AreMultiples-nil : {E : Type 0} (o : Ops E) (u : List E) → AreMultiples o u [] []
AreMultiples-nil o u = record { count = refl; product = λ i l. absurd (omega arith) }

pub AreMultiples-push : {E : Type 0} (o : Ops E) (u : List E) (xs ms : List (List E)) (x m : List E)
    → AreMultiples o u xs ms → IsProduct o u x m
    → AreMultiples o u (xs ++ x ∷ []) (ms ++ m ∷ [])
AreMultiples-push o u xs ms x m e p = record {
  count = length-append ms (m ∷ []) ∙ ap (λ n. n + 1) e.count ∙ sym (length-append xs (x ∷ []));
  product = λ i l. ⊎_elim
      (λ (below : i < length xs).
      subst (λ y. IsProduct o u y (get_or (ms ++ m ∷ []) i [])) (sym (get_or_append_left xs (x ∷ []) [] i below))
      (subst (IsProduct o u (get_or xs i []))
      (sym (get_or_append_left ms (m ∷ []) [] i (omega (arith, below, e.count)))) (e.product i below)))
      (λ (above : length xs ≤ i). let k : length xs ≡ i = omega (arith, l, length-append xs (x ∷ [])) in
      subst (λ y. IsProduct o u y (get_or (ms ++ m ∷ []) i []))
      (sym (ap (λ n. get_or (xs ++ x ∷ []) n []) (sym k) ∙ get_or-append_seam xs x [] []))
      (subst (IsProduct o u x)
      (sym (ap (λ n. get_or (ms ++ m ∷ []) n []) (sym (e.count ∙ k)) ∙ get_or-append_seam ms m [] [])) p))
      (cases_lt i (length xs));
}
