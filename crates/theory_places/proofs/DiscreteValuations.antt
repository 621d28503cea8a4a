-- Each element of a discrete valuation ring but 0 is a power of the uniformizer times a unit.
use Rattle.std.specs.Prelude.{◌≡◌, ◌≢◌, ℕ, zero, suc, ◌+◌, ◌-◌, ◌<◌, ◌≤◌, ◌⊎◌, ◌↔◌, ℤ, pos, ◌+ℤ◌, ◌-ℤ◌, ◌≤ℤ◌, ◌<ℤ◌}
use Rattle.std.proofs.Common.{refl, sym, ◌∙◌, ap, ap₂, subst, arith, inl, inr, ⊎_elim}
use Rattle.std.proofs.lemmas.Bool.{cases_lt}
use Rattle.std.proofs.lemmas.Int.{ints}
use Rattle.theory_rings.specs.Ring.{FieldOn}
use Rattle.theory_rings.specs.Power.{power}
use Rattle.theory_rings.proofs.Rings.RingLaws.{zero-mul, mul-zero}
use Rattle.theory_rings.proofs.Rings.Fields.{mul-inv, field_mul-ne-zero, mul_left_cancel}
use Rattle.theory_rings.proofs.Rings.Solver.{◌⊠◌, ring3, ring4}
use Rattle.theory_rings.proofs.Powers.Powers.{power-add, power-mul, power-one, power_only_zero}
use Rattle.theory_spaces.specs.Valuation.{ValuationOn}
use Rattle.theory_orders.specs.Uniformizer.{IsIntegral, IsUnit, UniformizerOn}
use Rattle.theory_lattices.proofs.Degree.Degrees.{cases_int}
use Rattle.theory_places.specs.Valuations.{HasValuation, AreValuations}

module _ {K : Type 0} (F : FieldOn K) (Z : ValuationOn F) (p q : K) (U : UniformizerOn F Z p q)
    (strict : IsIntegral F Z q → ⊥) where
  infixl 65 ◌⊕◌
  infixl 70 ◌⊗◌
  open F use {◌⊕◌, ◌⊗◌, inv}

  abbrev In : K → Type 0
  In = IsIntegral F Z

  abbrev pw : ℕ → K
  pw n = power F.ring p n

  qp : (a : K) → q ⊗ (p ⊗ a) ≡ a
  qp a = sym (F.mul_assoc q p a) ∙ ap (λ x. x ⊗ a) (F.mul_comm q p ∙ U.pq) ∙ F.one-mul a

  pq : (a : K) → p ⊗ (q ⊗ a) ≡ a
  pq a = sym (F.mul_assoc p q a) ∙ ap (λ x. x ⊗ a) U.pq ∙ F.one-mul a

  p_ne : p ≢ F.zero
  p_ne e = F.one-nonzero (sym U.pq ∙ ap (λ x. x ⊗ q) e ∙ zero-mul F.ring q)

  q_ne : q ≢ F.zero
  q_ne e = F.one-nonzero (sym U.pq ∙ ap (λ x. p ⊗ x) e ∙ mul-zero F.ring p)

  pw_ne : (n : ℕ) → pw n ≢ F.zero
  pw_ne n e = p_ne (power_only_zero F p n e)

  pw_in : (n : ℕ) → In (pw n)
  pw_in zero = Z.one_in
  pw_in (suc n) = Z.mul_in p (pw n) U.p_in (pw_in n)

  -- an integral element is a power of p times a unit
  record Split (c : K) : Type 0 where
    count : ℕ
    unit : K
    integral : In unit
    is_unit : IsUnit F Z unit
    gives : c ≡ pw count ⊗ unit

  inv_q : (c : K) → c ≢ F.zero → inv (q ⊗ c) ≡ p ⊗ inv c
  inv_q c n =
      let h = field_mul-ne-zero F q c q_ne n in
      mul_left_cancel F (q ⊗ c) (inv (q ⊗ c)) (p ⊗ inv c) h
      (mul-inv F (q ⊗ c) h
      ∙ sym (ring4 F.cring (λ q c p i. ((q ⊠ c) ⊠ (p ⊠ i), (p ⊠ q) ⊠ (c ⊠ i))) refl q c p (inv c)
      ∙ ap₂ (λ x y. x ⊗ y) U.pq (mul-inv F c n) ∙ F.one-mul F.one))

  one_split : (c : K) → In c → IsUnit F Z c → Split c
  one_split c h u = record { count = 0; unit = c; integral = h; is_unit = u; gives = sym (F.one-mul c) }

  climb : (t : ℕ) (c : K) → c ≢ F.zero → In c → In (pw t ⊗ inv c) → Split c
  climb zero c n h b = ⊎_elim
      (λ (m : In (q ⊗ c)). absurd
      (strict (subst In (F.mul_assoc q c (inv c) ∙ ap (λ x. q ⊗ x) (mul-inv F c n) ∙ F.mul-one q)
      (Z.mul_in (q ⊗ c) (inv c) m (subst In (F.one-mul (inv c)) b)))))
      (λ (u : IsUnit F Z c). one_split c h u)
      (U.multiple_or_unit c h)
  climb (suc t) c n h b = ⊎_elim
      (λ (m : In (q ⊗ c)).
      let e : (p ⊗ pw t) ⊗ inv c ≡ pw t ⊗ inv (q ⊗ c) =
      ring3 F.cring (λ p t i. ((p ⊠ t) ⊠ i, t ⊠ (p ⊠ i))) refl p (pw t) (inv c)
      ∙ ap (λ x. pw t ⊗ x) (sym (inv_q c n)) in
      let r : Split (q ⊗ c) = climb t (q ⊗ c) (field_mul-ne-zero F q c q_ne n) m (subst In e b) in
      record {
        count = suc r.count;
        unit = r.unit;
        integral = r.integral;
        is_unit = r.is_unit;
        gives = sym (pq c) ∙ ap (λ x. p ⊗ x) r.gives ∙ sym (F.mul_assoc p (pw r.count) r.unit);
      })
      (λ (u : IsUnit F Z c). one_split c h u)
      (U.multiple_or_unit c h)

  abbrev Has : ℤ → K → Type 0
  Has = HasValuation F Z p

  exists : (x : K) → (x ≡ F.zero → ⊥) → (n : ℤ) × Has n x
  exists x n =
      let r = U.reach x in
      let c = pw r.0 ⊗ x in
      let ne : c ≢ F.zero = field_mul-ne-zero F (pw r.0) x (pw_ne r.0) n in
      let s = U.reach (inv c) in
      let w : Split c = climb s.0 c ne r.1 s.1 in (
        pos w.count -ℤ pos r.0,
        record {
          above = w.count;
          below = r.0;
          number = refl;
          unit = w.unit;
          integral = w.integral;
          is_unit = w.is_unit;
          gives = w.gives;
        },
      )

  nonzero : (n : ℤ) (x : K) → Has n x → x ≡ F.zero → ⊥
  nonzero n x h e = field_mul-ne-zero F (pw h.above) h.unit (pw_ne h.above) h.is_unit.0
      (sym h.gives ∙ ap (λ y. pw h.below ⊗ y) e ∙ mul-zero F.ring (pw h.below))

  -- powers of p times an integral element and a unit
  compare : (a b : ℕ) (u v : K) → In u → IsUnit F Z v → pw a ⊗ u ≡ pw b ⊗ v → a ≤ b
  compare a b u v h w e = ⊎_elim
      (λ (l : b < a). absurd (go (a - suc b) (omega arith)))
      (λ (l : a ≤ b). l)
      (cases_lt b a)
    where
      go : (d : ℕ) → a ≡ b + suc d → ⊥
      go d s =
          let f : pw a ⊗ u ≡ pw b ⊗ (p ⊗ (pw d ⊗ u)) =
          ap (λ n. pw n ⊗ u) s ∙ ap (λ y. y ⊗ u) (power-add F.ring p b (suc d))
          ∙ F.mul_assoc (pw b) (p ⊗ pw d) u ∙ ap (λ y. pw b ⊗ y) (F.mul_assoc p (pw d) u) in
          let g : p ⊗ (pw d ⊗ u) ≡ v = mul_left_cancel F (pw b) (p ⊗ (pw d ⊗ u)) v (pw_ne b) (sym f ∙ e) in
          let i : In (q ⊗ v) = subst In (sym (qp (pw d ⊗ u)) ∙ ap (λ y. q ⊗ y) g) (Z.mul_in (pw d) u (pw_in d) h) in
          strict (subst In (F.mul_assoc q v (inv v) ∙ ap (λ y. q ⊗ y) (mul-inv F v w.0) ∙ F.mul-one q)
          (Z.mul_in (q ⊗ v) (inv v) i w.1))

  swapped : (s t s' t' : ℕ) (x u u' : K) → pw t ⊗ x ≡ pw s ⊗ u → pw t' ⊗ x ≡ pw s' ⊗ u'
      → pw (t' + s) ⊗ u ≡ pw (t + s') ⊗ u'
  swapped s t s' t' x u u' e f =
      ap (λ y. y ⊗ u) (power-add F.ring p t' s) ∙ F.mul_assoc (pw t') (pw s) u ∙ ap (λ y. pw t' ⊗ y) (sym e)
      ∙ ring3 F.cring (λ a b x. (a ⊠ (b ⊠ x), b ⊠ (a ⊠ x))) refl (pw t') (pw t) x
      ∙ ap (λ y. pw t ⊗ y) f ∙ sym (F.mul_assoc (pw t) (pw s') u') ∙ ap (λ y. y ⊗ u') (sym (power-add F.ring p t s'))

  only : (m n : ℤ) (x : K) → Has m x → Has n x → m ≡ n
  only m n x h g =
      let e = swapped h.above h.below g.above g.below x h.unit g.unit h.gives g.gives in
      let a = compare (g.below + h.above) (h.below + g.above) h.unit g.unit h.integral g.is_unit e in
      let b = compare (h.below + g.above) (g.below + h.above) g.unit h.unit g.integral h.is_unit (sym e) in
      let c = h.number in
      let d = g.number in
      omega (arith, ints)

  integral : (n : ℤ) (x : K) → Has n x → In x ↔ (pos 0 ≤ℤ n)
  integral n x h = (
    λ i. let a = compare h.below h.above x h.unit i h.is_unit h.gives in let c = h.number in omega (arith, ints),
    λ l. let c = h.number in go (h.above - h.below) (omega (arith, ints)),
  )
    where
      go : (d : ℕ) → h.above ≡ h.below + d → In x
      go d s =
          let e : pw h.below ⊗ x ≡ pw h.below ⊗ (pw d ⊗ h.unit) =
          h.gives ∙ ap (λ n. pw n ⊗ h.unit) s ∙ ap (λ y. y ⊗ h.unit) (power-add F.ring p h.below d)
          ∙ F.mul_assoc (pw h.below) (pw d) h.unit in
          subst In (sym (mul_left_cancel F (pw h.below) x (pw d ⊗ h.unit) (pw_ne h.below) e))
          (Z.mul_in (pw d) h.unit (pw_in d) h.integral)

  inv_product : (a b : K) → a ≢ F.zero → b ≢ F.zero → inv (a ⊗ b) ≡ inv a ⊗ inv b
  inv_product a b ha hb =
      let h = field_mul-ne-zero F a b ha hb in
      mul_left_cancel F (a ⊗ b) (inv (a ⊗ b)) (inv a ⊗ inv b) h
      (mul-inv F (a ⊗ b) h
      ∙ sym (ring4 F.cring (λ a b i j. ((a ⊠ b) ⊠ (i ⊠ j), (a ⊠ i) ⊠ (b ⊠ j))) refl a b (inv a) (inv b)
      ∙ ap₂ (λ x y. x ⊗ y) (mul-inv F a ha) (mul-inv F b hb) ∙ F.one-mul F.one))

  unit_mul : (a b : K) → IsUnit F Z a → IsUnit F Z b → IsUnit F Z (a ⊗ b)
  unit_mul a b h g = (
    field_mul-ne-zero F a b h.0 g.0,
    subst In (sym (inv_product a b h.0 g.0)) (Z.mul_in (inv a) (inv b) h.1 g.1),
  )

  product : (m n : ℤ) (x y : K) → Has m x → Has n y → Has (m +ℤ n) (x ⊗ y)
  product m n x y h g = record {
    above = h.above + g.above;
    below = h.below + g.below;
    number = let c = h.number in let d = g.number in omega (arith, ints);
    unit = h.unit ⊗ g.unit;
    integral = Z.mul_in h.unit g.unit h.integral g.integral;
    is_unit = unit_mul h.unit g.unit h.is_unit g.is_unit;
    gives = ap (λ z. z ⊗ (x ⊗ y)) (power-add F.ring p h.below g.below)
        ∙ ring4 F.cring (λ a b x y. ((a ⊠ b) ⊠ (x ⊠ y), (a ⊠ x) ⊠ (b ⊠ y))) refl (pw h.below) (pw g.below) x y
        ∙ ap₂ (λ a b. a ⊗ b) h.gives g.gives
        ∙ ring4 F.cring (λ a x b y. ((a ⊠ x) ⊠ (b ⊠ y), (a ⊠ b) ⊠ (x ⊠ y))) refl (pw h.above) h.unit (pw g.above) g.unit
        ∙ ap (λ z. z ⊗ (h.unit ⊗ g.unit)) (sym (power-add F.ring p h.above g.above));
  }

  one_unit : IsUnit F Z F.one
  one_unit = (F.one-nonzero, subst In (sym (F.inv-mul F.one F.one-nonzero) ∙ F.mul-one (inv F.one)) Z.one_in)

  -- an element of each valuation
  power_has : (a b : ℕ) → Has (pos a -ℤ pos b) (pw a ⊗ power F.ring q b)
  power_has a b = record {
    above = a;
    below = b;
    number = refl;
    unit = F.one;
    integral = Z.one_in;
    is_unit = one_unit;
    gives = ring3 F.cring (λ b a c. (b ⊠ (a ⊠ c), a ⊠ (b ⊠ c))) refl (pw b) (pw a) (power F.ring q b)
        ∙ ap (λ z. pw a ⊗ z) (sym (power-mul F.ring p q (F.mul_comm p q) b) ∙ ap (λ z. power F.ring z b) U.pq
        ∙ power-one F.ring b);
  }

  -- no sum has a smaller valuation than both parts
  not_below : (m n l : ℤ) (x y w : K) (a b : ℕ) → Has m x → Has n y → Has l (x ⊕ y) → Has (pos b -ℤ pos (suc a)) w
      → l ≡ pos a -ℤ pos b → l <ℤ m → l <ℤ n → ⊥
  not_below m n l x y w a b h g s v e lm ln =
      let d : ℤ = pos b -ℤ pos (suc a) in
      let one = integral (m +ℤ d) (x ⊗ w) (product m d x w h v) in
      let two = integral (n +ℤ d) (y ⊗ w) (product n d y w g v) in
      let all = integral (l +ℤ d) ((x ⊕ y) ⊗ w) (product l d (x ⊕ y) w s v) in
      let i : In (x ⊗ w) = one.1 (omega (arith, ints)) in
      let j : In (y ⊗ w) = two.1 (omega (arith, ints)) in
      let z : pos 0 ≤ℤ (l +ℤ d) = all.0 (subst In (sym (F.add-mul x y w)) (Z.add_in (x ⊗ w) (y ⊗ w) i j)) in
      omega (arith, ints)

  sum : (m n l : ℤ) (x y : K) → Has m x → Has n y → Has l (x ⊕ y) → (m ≤ℤ l) ⊎ (n ≤ℤ l)
  sum m n l x y h g s = ⊎_elim
      (λ (a : l <ℤ m). ⊎_elim
      (λ (b : l <ℤ n). absurd (not_below m n l x y (pw s.below ⊗ power F.ring q (suc s.above)) s.above s.below h g s
      (power_has s.below (suc s.above)) s.number a b))
      (λ (b : n ≤ℤ l). inr b)
      (cases_int l n))
      (λ (a : m ≤ℤ l). inl a)
      (cases_int l m)

  pub are_valuations : AreValuations F Z p
  are_valuations = record {
    exists = exists;
    nonzero = nonzero;
    only = only;
    integral = integral;
    product = product;
    sum = sum;
  }
