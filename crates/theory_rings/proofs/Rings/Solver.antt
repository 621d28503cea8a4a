-- A decision procedure for equations in a ring: an expression, its normal form, and that both have one value.
use Rattle.std.specs.Prelude.{◌≡◌, ℕ, zero, suc, List, [], ◌∷◌, ◌++◌, Bool, true, false, cond, eqb, ltb, ◌&&◌}
use Rattle.std.proofs.Common.{T, refl, subst, sym, ◌∙◌, ap, ap₂, eqb→eq}
use Rattle.theory_rings.specs.Ring.{RingOn, CommRingOn}
use Rattle.theory_rings.proofs.Rings.RingLaws.{add-zero, add-neg, add_left_comm, mul-zero, zero-mul, mul-neg, neg-mul}
use Rattle.theory_rings.proofs.Rings.RingLaws.{neg_neg, neg_add, neg_zero}
use Rattle.theory_rings.proofs.Rings.Semirings.{semiring, mul_left_comm}

infixl 65 ◌⊞◌
infixl 70 ◌⊠◌
pub data Ex : Type 0 where
  var : ℕ → Ex
  nil : Ex
  unit : Ex
  ◌⊞◌ : Ex → Ex → Ex
  ◌⊠◌ : Ex → Ex → Ex
  minus : Ex → Ex

-- a product of variables with a sign
pub data Mono : Type 0 where
  mono : Bool → List ℕ → Mono

abbrev pub same : List ℕ → List ℕ → Bool
same [] [] = true
same [] (_ ∷ _) = false
same (_ ∷ _) [] = false
same (i ∷ w) (j ∷ u) = eqb i j && same w u

abbrev pub below : List ℕ → List ℕ → Bool
below [] _ = true
below (_ ∷ _) [] = false
below (i ∷ w) (j ∷ u) = cond (ltb i j) true (cond (eqb i j) (below w u) false)

abbrev pub flip : Bool → Bool
flip true = false
flip false = true

abbrev pub agree : Bool → Bool → Bool
agree true b = b
agree false b = flip b

abbrev pub opposite : Mono → Mono → Bool
opposite (mono s w) (mono t u) = agree s (flip t) && same w u

abbrev pub below_mono : Mono → Mono → Bool
below_mono (mono s w) (mono t u) = below w u

abbrev pub choose : Bool → Bool → Mono → Mono → List Mono → List Mono → List Mono
choose true _ m n p r = p
choose false true m n p r = m ∷ (n ∷ p)
choose false false m n p r = n ∷ r

abbrev pub put : Mono → List Mono → List Mono
put m [] = m ∷ []
put m (n ∷ p) = choose (opposite m n) (below_mono m n) m n p (put m p)

abbrev pub plus : List Mono → List Mono → List Mono
plus [] q = q
plus (m ∷ p) q = put m (plus p q)

abbrev pub times_mono : (List ℕ → List ℕ) → Mono → Mono → Mono
times_mono srt (mono s w) (mono t u) = mono (agree s t) (srt (w ++ u))

abbrev pub times_one : (List ℕ → List ℕ) → Mono → List Mono → List Mono
times_one srt m [] = []
times_one srt m (n ∷ q) = put (times_mono srt m n) (times_one srt m q)

abbrev pub times : (List ℕ → List ℕ) → List Mono → List Mono → List Mono
times srt [] q = []
times srt (m ∷ p) q = plus (times_one srt m q) (times srt p q)

abbrev pub opp_mono : Mono → Mono
opp_mono (mono s w) = mono (flip s) w

abbrev pub opp : List Mono → List Mono
opp [] = []
opp (m ∷ p) = opp_mono m ∷ opp p

abbrev pub norm : (List ℕ → List ℕ) → Ex → List Mono
norm srt (var i) = mono true (i ∷ []) ∷ []
norm srt nil = []
norm srt unit = mono true [] ∷ []
norm srt (a ⊞ b) = plus (norm srt a) (norm srt b)
norm srt (a ⊠ b) = times srt (norm srt a) (norm srt b)
norm srt (minus a) = opp (norm srt a)

abbrev pub as_is : List ℕ → List ℕ
as_is w = w

abbrev pub put_var : ℕ → List ℕ → List ℕ
put_var i [] = i ∷ []
put_var i (j ∷ w) = cond (ltb j i) (j ∷ put_var i w) (i ∷ (j ∷ w))

abbrev pub sorted : List ℕ → List ℕ
sorted [] = []
sorted (i ∷ w) = put_var i (sorted w)

same-eq : (w u : List ℕ) → same w u ≡ true → w ≡ u
same-eq [] [] h = refl
same-eq [] (j ∷ u) h = cc
same-eq (i ∷ w) [] h = cc
same-eq (i ∷ w) (j ∷ u) h = go (eqb i j) refl h (same-eq w u)
  where
    go : (b : Bool) → eqb i j ≡ b → b && same w u ≡ true → (same w u ≡ true → w ≡ u) → i ∷ w ≡ j ∷ u
    go true e g ih = ap₂ (λ x y. x ∷ y) (eqb→eq i j (subst (λ b. T b) (sym e) tt)) (ih g)
    go false e g ih = cc

abbrev pub at_env : {K : Type 0} → RingOn K → List K → ℕ → K
at_env R [] _ = R.zero
at_env R (a ∷ e) zero = a
at_env R (a ∷ e) (suc i) = at_env R e i

module _ {K : Type 0} (R : RingOn K) (env : List K) where
  infixl 65 ◌⊕◌
  infixl 70 ◌⊗◌
  open R use {◌⊕◌, ◌⊗◌, neg}

  abbrev pub value : Ex → K
  value (var i) = at_env R env i
  value nil = R.zero
  value unit = R.one
  value (a ⊞ b) = value a ⊕ value b
  value (a ⊠ b) = value a ⊗ value b
  value (minus a) = neg (value a)

  abbrev pub word : List ℕ → K
  word [] = R.one
  word (i ∷ w) = at_env R env i ⊗ word w

  abbrev pub signed : Mono → K
  signed (mono true w) = word w
  signed (mono false w) = neg (word w)

  abbrev pub total : List Mono → K
  total [] = R.zero
  total (m ∷ p) = signed m ⊕ total p

  word-append : (w u : List ℕ) → word (w ++ u) ≡ word w ⊗ word u
  word-append [] u = sym (R.one-mul (word u))
  word-append (i ∷ w) u = ap (λ x. at_env R env i ⊗ x) (word-append w u)
      ∙ sym (R.mul_assoc (at_env R env i) (word w) (word u))

  signed-opposite : (m n : Mono) → opposite m n ≡ true → signed m ⊕ signed n ≡ R.zero
  signed-opposite (mono true w) (mono true u) h = cc
  signed-opposite (mono true w) (mono false u) h =
      rw (same-eq w u h) (add-neg R.additive (word u))
  signed-opposite (mono false w) (mono true u) h =
      rw (same-eq w u h) (R.neg-add (word u))
  signed-opposite (mono false w) (mono false u) h = cc

  total-choose : (o l : Bool) (m n : Mono) (p r : List Mono) → opposite m n ≡ o
      → total r ≡ signed m ⊕ total p → total (choose o l m n p r) ≡ signed m ⊕ (signed n ⊕ total p)
  total-choose true _ m n p r h e =
      sym (sym (R.add_assoc (signed m) (signed n) (total p)) ∙ ap (λ x. x ⊕ total p) (signed-opposite m n h)
      ∙ R.zero-add (total p))
  total-choose false true m n p r h e = refl
  total-choose false false m n p r h e =
      ap (λ x. signed n ⊕ x) e ∙ add_left_comm R.monoid (signed n) (signed m) (total p)

  total-put : (m : Mono) (p : List Mono) → total (put m p) ≡ signed m ⊕ total p
  total-put m [] = refl
  total-put m (n ∷ p) = total-choose (opposite m n) (below_mono m n) m n p (put m p) refl (total-put m p)

  total-plus : (p q : List Mono) → total (plus p q) ≡ total p ⊕ total q
  total-plus [] q = sym (R.zero-add (total q))
  total-plus (m ∷ p) q =
      total-put m (plus p q) ∙ ap (λ x. signed m ⊕ x) (total-plus p q)
      ∙ sym (R.add_assoc (signed m) (total p) (total q))

  total-opp : (p : List Mono) → total (opp p) ≡ neg (total p)
  total-opp [] = sym (neg_zero R.additive)
  total-opp (mono true w ∷ p) = ap (λ x. neg (word w) ⊕ x) (total-opp p) ∙ sym (neg_add R.additive (word w) (total p))
  total-opp (mono false w ∷ p) =
      ap₂ (λ x y. x ⊕ y) (sym (neg_neg R.additive (word w))) (total-opp p)
      ∙ sym (neg_add R.additive (neg (word w)) (total p))

  module _ (srt : List ℕ → List ℕ) (fair : (w : List ℕ) → word (srt w) ≡ word w) where
    signed-times : (m n : Mono) → signed (times_mono srt m n) ≡ signed m ⊗ signed n
    signed-times (mono true w) (mono true u) = fair (w ++ u) ∙ word-append w u
    signed-times (mono true w) (mono false u) = ap neg (fair (w ++ u) ∙ word-append w u)
        ∙ sym (mul-neg R (word w) (word u))
    signed-times (mono false w) (mono true u) = ap neg (fair (w ++ u) ∙ word-append w u)
        ∙ sym (neg-mul R (word w) (word u))
    signed-times (mono false w) (mono false u) =
        fair (w ++ u) ∙ word-append w u
        ∙ sym (neg-mul R (word w) (neg (word u)) ∙ ap neg (mul-neg R (word w) (word u))
        ∙ neg_neg R.additive (word w ⊗ word u))

    total-times_one : (m : Mono) (q : List Mono) → total (times_one srt m q) ≡ signed m ⊗ total q
    total-times_one m [] = sym (mul-zero R (signed m))
    total-times_one m (n ∷ q) =
        total-put (times_mono srt m n) (times_one srt m q)
        ∙ ap₂ (λ x y. x ⊕ y) (signed-times m n) (total-times_one m q) ∙ sym (R.mul-add (signed m) (signed n) (total q))

    total-times : (p q : List Mono) → total (times srt p q) ≡ total p ⊗ total q
    total-times [] q = sym (zero-mul R (total q))
    total-times (m ∷ p) q =
        total-plus (times_one srt m q) (times srt p q)
        ∙ ap₂ (λ x y. x ⊕ y) (total-times_one m q) (total-times p q) ∙ sym (R.add-mul (signed m) (total p) (total q))

    pub total-norm : (a : Ex) → total (norm srt a) ≡ value a
    total-norm (var i) = add-zero R.monoid (word (i ∷ [])) ∙ R.mul-one (at_env R env i)
    total-norm nil = refl
    total-norm unit = add-zero R.monoid R.one
    total-norm (a ⊞ b) = total-plus (norm srt a) (norm srt b) ∙ ap₂ (λ x y. x ⊕ y) (total-norm a) (total-norm b)
    total-norm (a ⊠ b) = total-times (norm srt a) (norm srt b) ∙ ap₂ (λ x y. x ⊗ y) (total-norm a) (total-norm b)
    total-norm (minus a) = total-opp (norm srt a) ∙ ap neg (total-norm a)

  -- in any ring
  pub by_words : (a b : Ex) → norm as_is a ≡ norm as_is b → value a ≡ value b
  by_words a b e =
      let fair : (w : List ℕ) → word w ≡ word w = λ w. refl in
      sym (total-norm as_is fair a) ∙ ap total e ∙ total-norm as_is fair b

module _ {K : Type 0} (C : CommRingOn K) (env : List K) where
  word-put_var : (i : ℕ) (w : List ℕ) → word C.ring env (put_var i w) ≡ C.◌⊗◌ (at_env C.ring env i) (word C.ring env w)
  word-put_var i [] = refl
  word-put_var i (j ∷ w) = go (ltb j i) (word-put_var i w)
    where
      go : (b : Bool) → word C.ring env (put_var i w) ≡ C.◌⊗◌ (at_env C.ring env i) (word C.ring env w)
          → word C.ring env (cond b (j ∷ put_var i w) (i ∷ (j ∷ w)))
          ≡ C.◌⊗◌ (at_env C.ring env i) (C.◌⊗◌ (at_env C.ring env j) (word C.ring env w))
      go true ih =
          ap (λ x. C.◌⊗◌ (at_env C.ring env j) x) ih
          ∙ mul_left_comm (semiring C) (at_env C.ring env j) (at_env C.ring env i) (word C.ring env w)
      go false ih = refl

  pub word-sorted : (w : List ℕ) → word C.ring env (sorted w) ≡ word C.ring env w
  word-sorted [] = refl
  word-sorted (i ∷ w) = word-put_var i (sorted w) ∙ ap (λ x. C.◌⊗◌ (at_env C.ring env i) x) (word-sorted w)

  -- in a commutative ring
  pub by_sorted : (a b : Ex) → norm sorted a ≡ norm sorted b → value C.ring env a ≡ value C.ring env b
  by_sorted a b e =
      sym (total-norm C.ring env sorted word-sorted a) ∙ ap (total C.ring env) e
      ∙ total-norm C.ring env sorted word-sorted b

-- two sides of an equation in the first variables
abbrev pub Sides : Type 0
Sides = Ex × Ex

abbrev pub v0 : Ex
v0 = var 0

abbrev pub v1 : Ex
v1 = var 1

abbrev pub v2 : Ex
v2 = var 2

abbrev pub v3 : Ex
v3 = var 3

abbrev pub v4 : Ex
v4 = var 4

abbrev pub Agrees : (List ℕ → List ℕ) → Sides → Type 0
Agrees srt s = norm srt s.0 ≡ norm srt s.1

module _ {K : Type 0} (C : CommRingOn K) where
  pub ring1 : (f : Ex → Sides) → Agrees sorted (f v0) → (a : K)
      → value C.ring (a ∷ []) (f v0).0 ≡ value C.ring (a ∷ []) (f v0).1
  ring1 f e a = by_sorted C (a ∷ []) (f v0).0 (f v0).1 e

  pub ring2 : (f : Ex → Ex → Sides) → Agrees sorted (f v0 v1) → (a b : K)
      → value C.ring (a ∷ (b ∷ [])) (f v0 v1).0 ≡ value C.ring (a ∷ (b ∷ [])) (f v0 v1).1
  ring2 f e a b = by_sorted C (a ∷ (b ∷ [])) (f v0 v1).0 (f v0 v1).1 e

  pub ring3 : (f : Ex → Ex → Ex → Sides) → Agrees sorted (f v0 v1 v2) → (a b c : K)
      → value C.ring (a ∷ (b ∷ (c ∷ []))) (f v0 v1 v2).0 ≡ value C.ring (a ∷ (b ∷ (c ∷ []))) (f v0 v1 v2).1
  ring3 f e a b c = by_sorted C (a ∷ (b ∷ (c ∷ []))) (f v0 v1 v2).0 (f v0 v1 v2).1 e

  pub ring4 : (f : Ex → Ex → Ex → Ex → Sides) → Agrees sorted (f v0 v1 v2 v3) → (a b c d : K)
      → value C.ring (a ∷ (b ∷ (c ∷ (d ∷ [])))) (f v0 v1 v2 v3).0 ≡ value C.ring (a ∷ (b ∷ (c ∷ (d ∷ []))))
      (f v0 v1 v2 v3).1
  ring4 f e a b c d = by_sorted C (a ∷ (b ∷ (c ∷ (d ∷ [])))) (f v0 v1 v2 v3).0 (f v0 v1 v2 v3).1 e

  pub ring5 : (f : Ex → Ex → Ex → Ex → Ex → Sides) → Agrees sorted (f v0 v1 v2 v3 v4) → (a b c d e : K)
      → value C.ring (a ∷ (b ∷ (c ∷ (d ∷ (e ∷ []))))) (f v0 v1 v2 v3 v4).0 ≡ value C.ring
      (a ∷ (b ∷ (c ∷ (d ∷ (e ∷ []))))) (f v0 v1 v2 v3 v4).1
  ring5 f h a b c d e = by_sorted C (a ∷ (b ∷ (c ∷ (d ∷ (e ∷ []))))) (f v0 v1 v2 v3 v4).0 (f v0 v1 v2 v3 v4).1 h

module _ {K : Type 0} (R : RingOn K) where
  pub words3 : (f : Ex → Ex → Ex → Sides) → Agrees as_is (f v0 v1 v2) → (a b c : K)
      → value R (a ∷ (b ∷ (c ∷ []))) (f v0 v1 v2).0 ≡ value R (a ∷ (b ∷ (c ∷ []))) (f v0 v1 v2).1
  words3 f e a b c = by_words R (a ∷ (b ∷ (c ∷ []))) (f v0 v1 v2).0 (f v0 v1 v2).1 e
