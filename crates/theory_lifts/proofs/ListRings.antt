-- The ring (Z/q)[t]/(f)[x]/(g) on the lists of its numbers, by numbers: sums go number by number, a product by t moves
-- the numbers of each coefficient, and x takes each unit list to the next.
use Rattle.std.specs.Prelude.{◌≡◌, ℕ, zero, suc, ◌+◌, ◌-◌, ◌*◌, ◌%◌, ◌<◌, ◌≤◌, [], get_or}
use Rattle.std.proofs.Common.{refl, sym, ◌∙◌, ap, ap₂, subst, arith, ⊎_elim}
use Rattle.std.proofs.lemmas.Bool.{cases_lt}
use Rattle.std.proofs.Math.Nat as nat
use Rattle.theory_rings.specs.Ring.{CommRingOn, ZeroTest}
use Rattle.theory_rings.specs.Ops.{Ops}
use Rattle.theory_rings.specs.IntegersMod.{Fin, Fin-path, integers_mod, residue_is_zero, mod_ops}
use Rattle.theory_rings.specs.Polynomial.{coefficient, degree, constant_coefficients}
use Rattle.theory_rings.specs.Remainder.{Remainder}
use Rattle.theory_rings.proofs.Rings.RingLaws.{mul-neg}
use Rattle.theory_rings.proofs.Rings.Solver.{◌⊞◌, ◌⊠◌, minus, nil, unit, ring1, ring2}
use Rattle.theory_rings.proofs.Numbers.IntegersMod.{residue_zero_test}
use Rattle.theory_rings.proofs.Polynomials.PolynomialRing.{series_prepend, coefficient-one, coefficient-neg}
use Rattle.theory_rings.proofs.Polynomials.Remainders.{is_zero_remainder, remainders-one_poly, remainders-neg_poly}
use Rattle.theory_rings.proofs.Polynomials.RemainderRings.{remainders_zero_test, for_remainders, Remainder-ext}
use Rattle.theory_rings.proofs.Polynomials.RemainderRings.{remainder-past}
use Rattle.theory_rings.proofs.Polynomials.RemainderRings.{remainder-coefficient-zero, remainder-coefficient-add}
use Rattle.theory_spaces.specs.Tuples.{Tuple}
use Rattle.theory_radical.specs.Tower.{TowerElement, TowerMod, double_coefficient}
use Rattle.theory_lifts.proofs.ListProducts.{ListRing, same}
use Rattle.theory_lifts.proofs.RemainderShifts.{variable_class, constant_class, constant_class-mul, variable_class-mul}
use Rattle.theory_lifts.proofs.TowerLists.{value, coefficient-value, list_of, number-list_of}
use Rattle.theory_lifts.proofs.TowerLists.{value-list_of, ring_of_lists, lists-zero, lists-one, lists-add, lists-mul}

module _ (q : ℕ) (two_le : 2 ≤ q) (T : TowerMod q two_le) (e c : ℕ) (height : degree T.second_modulus.0 ≡ suc e)
    (width : degree T.first_modulus.0 ≡ suc c) where
  abbrev R : CommRingOn (Fin q)
  R = integers_mod q two_le

  abbrev Z : ZeroTest R.zero (residue_is_zero q two_le)
  Z = residue_zero_test q two_le

  abbrev Z1 : ZeroTest T.first.zero (is_zero_remainder R Z T.first_modulus T.first_monic)
  Z1 = remainders_zero_test R Z T.first_modulus T.first_monic T.first_polynomials T.first_polynomials_is T.first
      T.first_is

  abbrev N : Ops ℕ
  N = mod_ops q []

  abbrev W : Type 0
  W = Tuple N (suc e * suc c)

  abbrev S : CommRingOn W
  S = ring_of_lists q two_le T (suc e) (suc c) height width

  abbrev val : W → TowerElement T
  val = value q two_le T (suc e) (suc c) height width

  abbrev lst : TowerElement T → W
  lst = list_of q two_le T (suc e) (suc c) height width

  -- the number at x^u·t^v
  abbrev number : W → ℕ → ℕ → ℕ
  number w u v = get_or w.0 (u * suc c + v) 0

  abbrev C1 : Remainder R T.first_modulus → ℕ → Fin q
  C1 y v = coefficient R y.0 v

  abbrev C2 : TowerElement T → ℕ → Remainder R T.first_modulus
  C2 y u = coefficient T.first y.0 u

  -- ---- the operations of the two rings, by coefficients

  first-add : (a b : Remainder R T.first_modulus) (v : ℕ) → C1 (T.first.◌⊕◌ a b) v ≡ R.◌⊕◌ (C1 a v) (C1 b v)
  first-add = for_remainders R Z T.first_modulus T.first_monic
      (λ E. (a b : Remainder R T.first_modulus) (v : ℕ) → C1 (E.◌⊕◌ a b) v ≡ R.◌⊕◌ (C1 a v) (C1 b v))
      (remainder-coefficient-add R Z T.first_modulus T.first_monic)
      T.first_polynomials T.first_polynomials_is T.first T.first_is

  first-zero : (v : ℕ) → C1 T.first.zero v ≡ R.zero
  first-zero = for_remainders R Z T.first_modulus T.first_monic
      (λ E. (v : ℕ) → C1 E.zero v ≡ R.zero)
      (remainder-coefficient-zero R Z T.first_modulus T.first_monic)
      T.first_polynomials T.first_polynomials_is T.first T.first_is

  first-one : (v : ℕ) → C1 T.first.one v ≡ constant_coefficients R.zero R.one v
  first-one = for_remainders R Z T.first_modulus T.first_monic
      (λ E. (v : ℕ) → C1 E.one v ≡ constant_coefficients R.zero R.one v)
      (λ v. ap (λ a. coefficient R a v)
      (remainders-one_poly R Z T.first_modulus T.first_monic (let h = width in omega arith)) ∙ coefficient-one R Z v)
      T.first_polynomials T.first_polynomials_is T.first T.first_is

  first-neg : (a : Remainder R T.first_modulus) (v : ℕ) → C1 (T.first.neg a) v ≡ R.neg (C1 a v)
  first-neg = for_remainders R Z T.first_modulus T.first_monic
      (λ E. (a : Remainder R T.first_modulus) (v : ℕ) → C1 (E.neg a) v ≡ R.neg (C1 a v))
      (λ a v. ap (λ x. coefficient R x v) (remainders-neg_poly R Z T.first_modulus T.first_monic a)
      ∙ coefficient-neg R Z a.0 v)
      T.first_polynomials T.first_polynomials_is T.first T.first_is

  -- t
  abbrev t1 : Remainder R T.first_modulus
  t1 = variable_class R Z T.first_modulus T.first_monic

  first-shift : (y : Remainder R T.first_modulus) (v : ℕ) → v ≤ c
      → C1 (T.first.◌⊗◌ t1 y) v
      ≡ R.◌⊕◌ (series_prepend R.zero (C1 y) v) (R.neg (R.◌⊗◌ (C1 y c) (coefficient R T.first_modulus v)))
  first-shift = for_remainders R Z T.first_modulus T.first_monic
      (λ E. (y : Remainder R T.first_modulus) (v : ℕ) → v ≤ c → C1 (E.◌⊗◌ t1 y) v
      ≡ R.◌⊕◌ (series_prepend R.zero (C1 y) v) (R.neg (R.◌⊗◌ (C1 y c) (coefficient R T.first_modulus v))))
      (variable_class-mul R Z T.first_modulus T.first_monic c width)
      T.first_polynomials T.first_polynomials_is T.first T.first_is

  second-add : (a b : TowerElement T) (u : ℕ) → C2 (T.second.◌⊕◌ a b) u ≡ T.first.◌⊕◌ (C2 a u) (C2 b u)
  second-add = for_remainders T.first Z1 T.second_modulus T.second_monic
      (λ E. (a b : TowerElement T) (u : ℕ) → C2 (E.◌⊕◌ a b) u ≡ T.first.◌⊕◌ (C2 a u) (C2 b u))
      (remainder-coefficient-add T.first Z1 T.second_modulus T.second_monic)
      T.second_polynomials T.second_polynomials_is T.second T.second_is

  second-zero : (u : ℕ) → C2 T.second.zero u ≡ T.first.zero
  second-zero = for_remainders T.first Z1 T.second_modulus T.second_monic
      (λ E. (u : ℕ) → C2 E.zero u ≡ T.first.zero)
      (remainder-coefficient-zero T.first Z1 T.second_modulus T.second_monic)
      T.second_polynomials T.second_polynomials_is T.second T.second_is

  second-one : (u : ℕ) → C2 T.second.one u ≡ constant_coefficients T.first.zero T.first.one u
  second-one = for_remainders T.first Z1 T.second_modulus T.second_monic
      (λ E. (u : ℕ) → C2 E.one u ≡ constant_coefficients T.first.zero T.first.one u)
      (λ u. ap (λ a. coefficient T.first a u)
      (remainders-one_poly T.first Z1 T.second_modulus T.second_monic (let h = height in omega arith))
      ∙ coefficient-one T.first Z1 u)
      T.second_polynomials T.second_polynomials_is T.second T.second_is

  -- x, and t
  abbrev x2 : TowerElement T
  x2 = variable_class T.first Z1 T.second_modulus T.second_monic

  abbrev t2 : TowerElement T
  t2 = constant_class T.first Z1 T.second_modulus T.second_monic t1

  second-shift : (y : TowerElement T) (u : ℕ) → u ≤ e
      → C2 (T.second.◌⊗◌ x2 y) u ≡ T.first.◌⊕◌ (series_prepend T.first.zero (C2 y) u)
      (T.first.neg (T.first.◌⊗◌ (C2 y e) (coefficient T.first T.second_modulus u)))
  second-shift = for_remainders T.first Z1 T.second_modulus T.second_monic
      (λ E. (y : TowerElement T) (u : ℕ) → u ≤ e
      → C2 (E.◌⊗◌ x2 y) u ≡ T.first.◌⊕◌ (series_prepend T.first.zero (C2 y) u)
      (T.first.neg (T.first.◌⊗◌ (C2 y e) (coefficient T.first T.second_modulus u))))
      (variable_class-mul T.first Z1 T.second_modulus T.second_monic e height)
      T.second_polynomials T.second_polynomials_is T.second T.second_is

  second-constant : (y : TowerElement T) (u : ℕ) → C2 (T.second.◌⊗◌ t2 y) u ≡ T.first.◌⊗◌ t1 (C2 y u)
  second-constant = for_remainders T.first Z1 T.second_modulus T.second_monic
      (λ E. (y : TowerElement T) (u : ℕ) → C2 (E.◌⊗◌ t2 y) u ≡ T.first.◌⊗◌ t1 (C2 y u))
      (constant_class-mul T.first Z1 T.second_modulus T.second_monic t1)
      T.second_polynomials T.second_polynomials_is T.second T.second_is

  -- ---- the operations on lists, by numbers

  number-val : (w : W) (u v : ℕ) → u ≤ e → v ≤ c → (double_coefficient T (val w).0 u v).0 ≡ number w u v
  number-val w u v lu lv = coefficient-value q two_le T (suc e) (suc c) height width w u v (omega arith) (omega arith)

  number-lst : (y : TowerElement T) (u v : ℕ) → u ≤ e → v ≤ c → number (lst y) u v ≡ (double_coefficient T y.0 u v).0
  number-lst y u v lu lv = number-list_of q two_le T (suc e) (suc c) height width y u v (omega arith) (omega arith)

  pub number-add : (a b : W) (u v : ℕ) → u ≤ e → v ≤ c → number (S.◌⊕◌ a b) u v ≡ (number a u v + number b u v) % q
  number-add a b u v lu lv = ap (λ w. number w u v) (lists-add q two_le T (suc e) (suc c) height width a b)
      ∙ number-lst (T.second.◌⊕◌ (val a) (val b)) u v lu lv
      ∙ ap (λ (y : Remainder R T.first_modulus). (C1 y v).0) (second-add (val a) (val b) u)
      ∙ ap (λ (y : Fin q). y.0) (first-add (C2 (val a) u) (C2 (val b) u) v)
      ∙ ap₂ (λ i j. (i + j) % q) (number-val a u v lu lv) (number-val b u v lu lv)

  pub number-zero : (u v : ℕ) → u ≤ e → v ≤ c → number S.zero u v ≡ 0
  number-zero u v lu lv = ap (λ w. number w u v) (lists-zero q two_le T (suc e) (suc c) height width)
      ∙ number-lst T.second.zero u v lu lv
      ∙ ap (λ (y : Remainder R T.first_modulus). (C1 y v).0) (second-zero u)
      ∙ ap (λ (y : Fin q). y.0) (first-zero v)

  abbrev pub one_at : ℕ → ℕ → ℕ
  one_at zero zero = 1
  one_at zero (suc v) = 0
  one_at (suc u) v = 0

  pub number-one : (u v : ℕ) → u ≤ e → v ≤ c → number S.one u v ≡ one_at u v
  number-one u v lu lv = ap (λ w. number w u v) (lists-one q two_le T (suc e) (suc c) height width)
      ∙ number-lst T.second.one u v lu lv
      ∙ ap (λ (y : Remainder R T.first_modulus). (C1 y v).0) (second-one u) ∙ go u v
    where
      go : (u v : ℕ) → (C1 (constant_coefficients T.first.zero T.first.one u) v).0 ≡ one_at u v
      go zero zero = ap (λ (y : Fin q). y.0) (first-one zero)
      go zero (suc v) = ap (λ (y : Fin q). y.0) (first-one (suc v))
      go (suc u) v = ap (λ (y : Fin q). y.0) (first-zero v)

  -- the elements t and x
  pub tau : W
  tau = lst t2

  pub xi : W
  xi = lst x2

  -- what t^(c + 1) has at t^v, from the numbers of f
  abbrev pub back : ℕ → ℕ
  back v = (q - (coefficient R T.first_modulus v).0) % q

  plus_neg : (a b f : Fin q) → (R.◌⊕◌ a (R.neg (R.◌⊗◌ b f))).0 ≡ (a.0 + b.0 * ((q - f.0) % q)) % q
  plus_neg a b f = ap (λ y. (R.◌⊕◌ a y).0) (sym (mul-neg R.ring b f))
      ∙ nat.add-mod-mod a.0 (b.0 * ((q - f.0) % q)) q

  tau-value : (w : W) (u v : ℕ) → u ≤ e → v ≤ c → number (S.◌⊗◌ tau w) u v
      ≡ (R.◌⊕◌ (series_prepend R.zero (C1 (C2 (val w) u)) v)
      (R.neg (R.◌⊗◌ (C1 (C2 (val w) u) c) (coefficient R T.first_modulus v)))).0
  unfolding tau
  tau-value w u v lu lv = ap (λ w. number w u v) (lists-mul q two_le T (suc e) (suc c) height width (lst t2) w)
      ∙ number-lst (T.second.◌⊗◌ (val (lst t2)) (val w)) u v lu lv
      ∙ ap (λ y. (C1 (C2 (T.second.◌⊗◌ y (val w)) u) v).0) (value-list_of q two_le T (suc e) (suc c) height width t2)
      ∙ ap (λ (y : Remainder R T.first_modulus). (C1 y v).0) (second-constant (val w) u)
      ∙ ap (λ (y : Fin q). y.0) (first-shift (C2 (val w) u) v lv)

  pub tau-zero : (w : W) (u : ℕ) → u ≤ e → number (S.◌⊗◌ tau w) u zero ≡ (0 + number w u c * back zero) % q
  tau-zero w u lu = tau-value w u zero lu (omega arith)
      ∙ plus_neg R.zero (C1 (C2 (val w) u) c) (coefficient R T.first_modulus zero)
      ∙ ap (λ i. (0 + i * back zero) % q) (number-val w u c lu (omega arith))

  pub tau-suc : (w : W) (u v : ℕ) → u ≤ e → suc v ≤ c
      → number (S.◌⊗◌ tau w) u (suc v) ≡ (number w u v + number w u c * back (suc v)) % q
  tau-suc w u v lu lv = tau-value w u (suc v) lu lv
      ∙ plus_neg (C1 (C2 (val w) u) v) (C1 (C2 (val w) u) c) (coefficient R T.first_modulus (suc v))
      ∙ ap₂ (λ i j. (i + j * back (suc v)) % q) (number-val w u v lu (omega arith))
      (number-val w u c lu (omega arith))

  xi-value : (w : W) (u v : ℕ) → u ≤ e → v ≤ c → number (S.◌⊗◌ xi w) u v
      ≡ (C1 (T.first.◌⊕◌ (series_prepend T.first.zero (C2 (val w)) u)
      (T.first.neg (T.first.◌⊗◌ (C2 (val w) e) (coefficient T.first T.second_modulus u)))) v).0
  unfolding xi
  xi-value w u v lu lv = ap (λ w. number w u v) (lists-mul q two_le T (suc e) (suc c) height width (lst x2) w)
      ∙ number-lst (T.second.◌⊗◌ (val (lst x2)) (val w)) u v lu lv
      ∙ ap (λ y. (C1 (C2 (T.second.◌⊗◌ y (val w)) u) v).0) (value-list_of q two_le T (suc e) (suc c) height width x2)
      ∙ ap (λ (y : Remainder R T.first_modulus). (C1 y v).0) (second-shift (val w) u lu)

  -- a coefficient by its numbers
  first-eq : (a b : Remainder R T.first_modulus) → ((v : ℕ) → v ≤ c → (C1 a v).0 ≡ (C1 b v).0) → a ≡ b
  first-eq a b h = Remainder-ext R Z T.first_modulus T.first_monic a b (λ v. ⊎_elim
      (λ (l : v < suc c). Fin-path q (C1 a v) (C1 b v) (h v (omega arith)))
      (λ (l : suc c ≤ v). remainder-past R T.first_modulus T.first_monic a v (let e = width in omega arith)
      ∙ sym (remainder-past R T.first_modulus T.first_monic b v (let e = width in omega arith)))
      (cases_lt v (suc c)))

  -- x moves the coefficients up where the top one is 0
  pub xi-suc : (w : W) → ((v : ℕ) → v ≤ c → number w e v ≡ 0) → (u v : ℕ) → suc u ≤ e → v ≤ c
      → number (S.◌⊗◌ xi w) (suc u) v ≡ number w u v
  xi-suc w top u v lu lv =
      let g = coefficient T.first T.second_modulus (suc u) in
      xi-value w (suc u) v lu lv
      ∙ ap (λ y. (C1 (T.first.◌⊕◌ (C2 (val w) u) (T.first.neg (T.first.◌⊗◌ y g))) v).0) (top_zero w top)
      ∙ ap (λ y. (C1 y v).0) (ring2 T.first (λ a b. (a ⊞ minus (nil ⊠ b), a)) refl (C2 (val w) u) g)
      ∙ number-val w u v (omega arith) lv
    where
      top_zero : (w : W) → ((v : ℕ) → v ≤ c → number w e v ≡ 0) → C2 (val w) e ≡ T.first.zero
      top_zero w top = first-eq (C2 (val w) e) T.first.zero
          (λ v l. number-val w e v (omega arith) l ∙ top v l ∙ sym (ap (λ (y : Fin q). y.0) (first-zero v)))

  pub xi-zero : (w : W) → ((v : ℕ) → v ≤ c → number w e v ≡ 0) → (v : ℕ) → v ≤ c
      → number (S.◌⊗◌ xi w) zero v ≡ 0
  xi-zero w top v lv =
      let g = coefficient T.first T.second_modulus zero in
      xi-value w zero v (omega arith) lv
      ∙ ap (λ y. (C1 (T.first.◌⊕◌ T.first.zero (T.first.neg (T.first.◌⊗◌ y g))) v).0) (top_zero w top)
      ∙ ap (λ y. (C1 y v).0) (ring1 T.first (λ b. (nil ⊞ minus (nil ⊠ b), nil)) refl g)
      ∙ ap (λ (y : Fin q). y.0) (first-zero v)
    where
      top_zero : (w : W) → ((v : ℕ) → v ≤ c → number w e v ≡ 0) → C2 (val w) e ≡ T.first.zero
      top_zero w top = first-eq (C2 (val w) e) T.first.zero
          (λ v l. number-val w e v (omega arith) l ∙ top v l ∙ sym (ap (λ (y : Fin q). y.0) (first-zero v)))

  -- what x^(e + 1) has at x^u·t^v, from the numbers of g
  abbrev pub turn : ℕ → ℕ → ℕ
  turn u v = (q - (double_coefficient T T.second_modulus u v).0) % q

  -- x takes x^e to the negatives of the numbers of g
  pub xi-top : (w : W) → ((u v : ℕ) → u < e → v ≤ c → number w u v ≡ 0)
      → ((v : ℕ) → v ≤ c → number w e v ≡ one_at zero v)
      → (u v : ℕ) → u ≤ e → v ≤ c → number (S.◌⊗◌ xi w) u v ≡ turn u v
  xi-top w low one u v lu lv =
      let g = coefficient T.first T.second_modulus u in
      xi-value w u v lu lv
      ∙ ap₂ (λ x y. (C1 (T.first.◌⊕◌ x (T.first.neg (T.first.◌⊗◌ y g))) v).0) (below u lu) top
      ∙ ap (λ y. (C1 y v).0) (ring1 T.first (λ b. (nil ⊞ minus (unit ⊠ b), minus b)) refl g)
      ∙ ap (λ (y : Fin q). y.0) (first-neg g v)
    where
      zero_at : (u : ℕ) → u < e → C2 (val w) u ≡ T.first.zero
      zero_at u l = first-eq (C2 (val w) u) T.first.zero
          (λ v lv. number-val w u v (omega arith) lv ∙ low u v l lv
          ∙ sym (ap (λ (y : Fin q). y.0) (first-zero v)))

      below : (u : ℕ) → u ≤ e → series_prepend T.first.zero (C2 (val w)) u ≡ T.first.zero
      below zero l = refl
      below (suc u) l = zero_at u (omega arith)

      constant_at : (v : ℕ) → (constant_coefficients R.zero R.one v).0 ≡ one_at zero v
      constant_at zero = refl
      constant_at (suc v) = refl

      top : C2 (val w) e ≡ T.first.one
      top = first-eq (C2 (val w) e) T.first.one
          (λ v lv. number-val w e v (omega arith) lv ∙ one v lv
          ∙ sym (ap (λ (y : Fin q). y.0) (first-one v) ∙ constant_at v))

  -- the ring of lists as a record of these facts
  at_sames : (u v : ℕ) → one_at u v ≡ same 0 u * same 0 v
  at_sames zero zero = refl
  at_sames zero (suc v) = refl
  at_sames (suc u) v = sym (nat.zero-mul (same 0 v))

  at_zero : (v : ℕ) → same 0 v ≡ one_at zero v
  at_zero zero = refl
  at_zero (suc v) = refl

  pub list_ring : ListRing q (suc e) (suc c) e c S
  list_ring = record {
    number-add = number-add;
    number-zero = number-zero;
    number-one = λ u v lu lv. number-one u v lu lv ∙ at_sames u v;
    tau = tau;
    back = back;
    tau-zero = tau-zero;
    tau-suc = tau-suc;
    xi = xi;
    turn = turn;
    xi-zero = xi-zero;
    xi-suc = xi-suc;
    xi-top = λ w low one. xi-top w low (λ v l. one v l ∙ at_zero v);
  }

-- the same where the numbers of coefficients are known by equations
module _ (q : ℕ) (two_le : 2 ≤ q) (T : TowerMod q two_le) (e c : ℕ) where
  -- what t^(c + 1) has at t^v, and what x^(e + 1) has at x^u·t^v
  abbrev pub back_of : ℕ → ℕ
  back_of v = (q - (coefficient (integers_mod q two_le) T.first_modulus v).0) % q

  abbrev pub turn_of : ℕ → ℕ → ℕ
  turn_of u v = (q - (double_coefficient T T.second_modulus u v).0) % q

  abbrev pub ListRingOf : (E C : ℕ) → degree T.second_modulus.0 ≡ E → degree T.first_modulus.0 ≡ C → Type 0
  ListRingOf E C height width = (H : ListRing q E C e c (ring_of_lists q two_le T E C height width))
      × ((v : ℕ) → H.back v ≡ back_of v) × ((u v : ℕ) → H.turn u v ≡ turn_of u v)

  exact : (height : degree T.second_modulus.0 ≡ suc e) (width : degree T.first_modulus.0 ≡ suc c)
      → ListRingOf (suc e) (suc c) height width
  unfolding list_ring
  exact height width = (list_ring q two_le T e c height width, λ v. refl, λ u v. refl)

  pub list_ring_of : (E C : ℕ) → E ≡ suc e → C ≡ suc c → (height : degree T.second_modulus.0 ≡ E)
      (width : degree T.first_modulus.0 ≡ C) → ListRingOf E C height width
  list_ring_of E C hE hC = subst
      (λ E. (height : degree T.second_modulus.0 ≡ E) (width : degree T.first_modulus.0 ≡ C)
      → ListRingOf E C height width) (sym hE)
      (subst (λ C. (height : degree T.second_modulus.0 ≡ suc e) (width : degree T.first_modulus.0 ≡ C)
      → ListRingOf (suc e) C height width) (sym hC) exact)
