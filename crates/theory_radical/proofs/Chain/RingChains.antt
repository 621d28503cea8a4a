-- The chain of ideals over any ring that is lifted modulo p into a ring with a trace: its members are two-sided ideals,
-- on each of which the next trace is additive and a multiple of p^i.
use Rattle.std.specs.Prelude.{◌≡◌, ℕ, zero, suc, ◌+◌, ◌-◌, ◌^◌, ◌<◌, ◌≤◌, Bool, true, false, List, [], ◌∷◌, length}
use Rattle.std.proofs.Common.{sym, ◌∙◌, ap, subst, arith, ⊎_elim}
use Rattle.std.proofs.lemmas.Bool.{cases_lt}
use Rattle.std.proofs.Math.Nat.{pow-zero, pow-succ'}
use Rattle.theory_rings.specs.Ring.{AddCommGroupOn, RingOn}
use Rattle.theory_rings.specs.Power.{power, times}
use Rattle.theory_rings.specs.Prime.{IsPrime}
use Rattle.theory_rings.proofs.Powers.Powers.{power-power}
use Rattle.theory_rings.proofs.Powers.Times.{one-times}
use Rattle.theory_radical.specs.Congruence.{MultipleOf, CongruentMod}
use Rattle.theory_radical.specs.Trace.{IsTrace}
use Rattle.theory_radical.proofs.Words.Words.{is_fixed}
use Rattle.theory_radical.proofs.Words.WordSums.{letters}
use Rattle.theory_radical.proofs.Words.Orbits.{pow_pos}
use Rattle.theory_radical.proofs.Words.Multiples.{multiple-add, multiple-pow_times, congruent_refl, congruent_of_eq}
use Rattle.theory_radical.proofs.Words.Multiples.{congruent_sym, congruent_trans, multiple_of_congruent, congruent-mul}
use Rattle.theory_radical.proofs.Words.PowersOfSums.{trace-power_comm, trace-power_add, trace-power_congr}

-- y comes from x by taking b·a for a product a·b, again and again
pub data Turned {K : Type 0} (R : RingOn K) (y : K) : K → Type 0 where
  done : Turned R y y
  step : {x : K} → (a b : K) → x ≡ R.◌⊗◌ a b → Turned R y (R.◌⊗◌ b a) → Turned R y x

-- a map that keeps sums, products and 1 modulo p
pub record IsLiftMap {B K : Type 0} (A : RingOn B) (R : RingOn K) (p : ℕ) (lift : B → K) : Type 0 where
  pub lift-add : (x y : B) → CongruentMod R.monoid p (lift (A.◌⊕◌ x y)) (R.◌⊕◌ (lift x) (lift y))
  pub lift-mul : (x y : B) → CongruentMod R.monoid p (lift (A.◌⊗◌ x y)) (R.◌⊗◌ (lift x) (lift y))
  pub lift-one : CongruentMod R.monoid p (lift A.one) R.one

module _ {B K V : Type 0} (A : RingOn B) (R : RingOn K) (G : AddCommGroupOn V) (t : K → V) (p : ℕ) (lift : B → K) where
  infixl 65 ◌⊕◌
  infixl 70 ◌⊗◌
  open A use {◌⊕◌, ◌⊗◌}
  open G use {monoid}

  -- the trace of the p^i-th power of the lift
  abbrev pub value : ℕ → B → V
  value i x = t (power R (lift x) (p ^ i))

  abbrev pub ValueVanishes : ℕ → B → Type 0
  ValueVanishes i x = MultipleOf monoid (p ^ suc i) (value i x)

  abbrev pub Member : ℕ → B → Type 0
  Member zero x = Unit {0}
  Member (suc i) x = Member i x × ((c : B) → ValueVanishes i (x ⊗ c))

  module _ (prime : IsPrime p) (trace : IsTrace R G t) (is_lift : IsLiftMap A R p lift) where
    pub value_congr : (i : ℕ) (x : B) (y : K) → CongruentMod R.monoid p y (lift x)
        → CongruentMod monoid (p ^ suc i) (t (power R y (p ^ i))) (value i x)
    value_congr i x y h = trace-power_congr R G t trace p prime i y (lift x) h

    vanishes_of_eq : (i : ℕ) (x y : B) → x ≡ y → ValueVanishes i x → ValueVanishes i y
    vanishes_of_eq i x y e h = subst (ValueVanishes i) e h

    pub value_comm : (i : ℕ) (x y : B) → CongruentMod monoid (p ^ suc i) (value i (x ⊗ y)) (value i (y ⊗ x))
    value_comm i x y =
        let n = p ^ suc i in
        let u = t (power R (R.◌⊗◌ (lift x) (lift y)) (p ^ i)) in
        let v = t (power R (R.◌⊗◌ (lift y) (lift x)) (p ^ i)) in
        congruent_trans monoid n (value i (x ⊗ y)) u (value i (y ⊗ x))
        (trace-power_congr R G t trace p prime i (lift (x ⊗ y)) (R.◌⊗◌ (lift x) (lift y)) (is_lift.lift-mul x y))
        (congruent_trans monoid n u v (value i (y ⊗ x))
        (congruent_of_eq monoid n u v (trace-power_comm R G t trace (lift x) (lift y) (p ^ i)))
        (congruent_sym G n (value i (y ⊗ x)) v
        (trace-power_congr R G t trace p prime i (lift (y ⊗ x)) (R.◌⊗◌ (lift y) (lift x)) (is_lift.lift-mul y x))))

    -- the value stays the same modulo p^(i + 1) where products are turned round
    pub value_turned : (i : ℕ) (y x : B) → Turned A y x → CongruentMod monoid (p ^ suc i) (value i x) (value i y)
    value_turned i y x done = congruent_refl monoid (p ^ suc i) (value i y)
    value_turned i y x (step a b e h) =
        let n = p ^ suc i in
        congruent_trans monoid n (value i x) (value i (b ⊗ a)) (value i y)
        (congruent_trans monoid n (value i x) (value i (a ⊗ b)) (value i (b ⊗ a))
        (congruent_of_eq monoid n (value i x) (value i (a ⊗ b)) (ap (value i) e)) (value_comm i a b))
        (value_turned i y (b ⊗ a) h)

    pub Member-right : (i : ℕ) (x c : B) → Member i x → Member i (x ⊗ c)
    Member-right zero x c h = tt
    Member-right (suc i) x c h = (
      Member-right i x c h.0,
      λ d.
          vanishes_of_eq i (x ⊗ (c ⊗ d)) (x ⊗ c ⊗ d) (sym (A.mul_assoc x c d)) (h.1 (c ⊗ d)),
    )

    pub Member-left : (i : ℕ) (c x : B) → Member i x → Member i (c ⊗ x)
    Member-left zero c x h = tt
    Member-left (suc i) c x h = (
      Member-left i c x h.0,
      λ d. vanishes_of_eq i (c ⊗ (x ⊗ d)) (c ⊗ x ⊗ d) (sym (A.mul_assoc c x d))
          (multiple_of_congruent monoid (p ^ suc i) (value i (c ⊗ (x ⊗ d))) (value i (x ⊗ d ⊗ c))
          (value_comm i c (x ⊗ d))
          (vanishes_of_eq i (x ⊗ (d ⊗ c)) (x ⊗ d ⊗ c) (sym (A.mul_assoc x d c)) (h.1 (d ⊗ c)))),
    )

    lift-letters : (a b : B) (w : List Bool)
        → CongruentMod R.monoid p (lift (letters A a b w)) (letters R (lift a) (lift b) w)
    lift-letters a b [] = is_lift.lift-one
    lift-letters a b (true ∷ w) =
        congruent_trans R.monoid p (lift (a ⊗ letters A a b w)) (R.◌⊗◌ (lift a) (lift (letters A a b w)))
        (letters R (lift a) (lift b) (true ∷ w))
        (is_lift.lift-mul a (letters A a b w))
        (congruent-mul R p (lift a) (lift a) (lift (letters A a b w)) (letters R (lift a) (lift b) w)
        (congruent_refl R.monoid p (lift a)) (lift-letters a b w))
    lift-letters a b (false ∷ w) =
        congruent_trans R.monoid p (lift (b ⊗ letters A a b w)) (R.◌⊗◌ (lift b) (lift (letters A a b w)))
        (letters R (lift a) (lift b) (false ∷ w))
        (is_lift.lift-mul b (letters A a b w))
        (congruent-mul R p (lift b) (lift b) (lift (letters A a b w)) (letters R (lift a) (lift b) w)
        (congruent_refl R.monoid p (lift b)) (lift-letters a b w))

    Member-letters : (i : ℕ) (a b : B) → Member i a → Member i b → (w : List Bool) → 0 < length w
        → Member i (letters A a b w)
    Member-letters i a b h g [] l = absurd (omega arith)
    Member-letters i a b h g (true ∷ w) l = Member-right i a (letters A a b w) h
    Member-letters i a b h g (false ∷ w) l = Member-right i b (letters A a b w) g

    -- the traces before vanish on a member
    pub Member-vanishes : (i s : ℕ) (x : B) → s < i → Member i x → ValueVanishes s x
    Member-vanishes zero s x l h = absurd (omega arith)
    Member-vanishes (suc i) s x l h = ⊎_elim (λ (g : s < i). Member-vanishes i s x g h.0)
        (λ (g : i ≤ s). let e : i ≡ s = omega arith in
        subst (λ k. ValueVanishes k x) e (vanishes_of_eq i (x ⊗ A.one) x (A.mul-one x) (h.1 A.one))) (cases_lt s i)

    module _ (i : ℕ) (a b : B) (ha : Member i a) (hb : Member i b) where
      mixed_small : (k s : ℕ) → suc (k + s) ≡ i → (w : List Bool) → length w ≡ p ^ suc k → is_fixed (p ^ k) w ≡ false
          → MultipleOf monoid (p ^ suc i)
          (times monoid (p ^ suc k) (t (power R (letters R (lift a) (lift b) w) (p ^ s))))
      mixed_small k s e w l _ =
          let x = letters A a b w in
          let pos : 0 < p ^ suc k = pow_pos p prime (suc k) in
          let v : ValueVanishes s x =
          Member-vanishes i s x (omega arith) (Member-letters i a b ha hb w (omega arith)) in
          let y = t (power R (letters R (lift a) (lift b) w) (p ^ s)) in
          let m : MultipleOf monoid (p ^ suc s) y = multiple_of_congruent monoid (p ^ suc s) y (value s x)
          (congruent_sym G (p ^ suc s) (value s x) y
          (trace-power_congr R G t trace p prime s (lift x) (letters R (lift a) (lift b) w)
          (lift-letters a b w))) v in
          let q : suc k + suc s ≡ suc i = omega arith in
          subst (λ j. MultipleOf monoid (p ^ j) (times monoid (p ^ suc k) y)) q
          (multiple-pow_times monoid p (suc k) (suc s) y m)

      -- on a member of the chain the next trace is additive
      pub value-add : CongruentMod monoid (p ^ suc i) (value i (a ⊕ b)) (G.◌⊕◌ (value i a) (value i b))
      value-add = congruent_trans monoid (p ^ suc i) (value i (a ⊕ b)) (t (power R (R.◌⊕◌ (lift a) (lift b)) (p ^ i)))
          (G.◌⊕◌ (value i a) (value i b))
          (trace-power_congr R G t trace p prime i (lift (a ⊕ b)) (R.◌⊕◌ (lift a) (lift b)) (is_lift.lift-add a b))
          (trace-power_add R G t trace p prime (lift a) (lift b) (p ^ suc i) i mixed_small)

    pub Member-add : (i : ℕ) (a b : B) → Member i a → Member i b → Member i (a ⊕ b)
    Member-add zero a b h g = tt
    Member-add (suc i) a b h g = (
      Member-add i a b h.0 g.0,
      λ c. vanishes_of_eq i (a ⊗ c ⊕ b ⊗ c) ((a ⊕ b) ⊗ c) (sym (A.add-mul a b c))
          (multiple_of_congruent monoid (p ^ suc i) (value i (a ⊗ c ⊕ b ⊗ c))
          (G.◌⊕◌ (value i (a ⊗ c)) (value i (b ⊗ c)))
          (value-add i (a ⊗ c) (b ⊗ c) (Member-right i a c h.0) (Member-right i b c g.0))
          (multiple-add monoid (p ^ suc i) (value i (a ⊗ c)) (value i (b ⊗ c)) (h.1 c) (g.1 c))),
    )

    lift-power : (x : B) (k : ℕ) → CongruentMod R.monoid p (power R (lift x) k) (lift (power A x k))
    lift-power x zero = congruent_sym R.additive p (lift A.one) R.one is_lift.lift-one
    lift-power x (suc k) =
        congruent_trans R.monoid p (power R (lift x) (suc k)) (R.◌⊗◌ (lift x) (lift (power A x k)))
        (lift (power A x (suc k)))
        (congruent-mul R p (lift x) (lift x) (power R (lift x) k) (lift (power A x k))
        (congruent_refl R.monoid p (lift x)) (lift-power x k))
        (congruent_sym R.additive p (lift (x ⊗ power A x k)) (R.◌⊗◌ (lift x) (lift (power A x k)))
        (is_lift.lift-mul x (power A x k)))

    -- on a member of the chain the next trace is a multiple of p^i
    pub value_multiple : (i : ℕ) (x : B) → Member i x → MultipleOf monoid (p ^ i) (value i x)
    value_multiple zero x h =
        record {
          part = value zero x;
          is =
              sym (ap (λ k. times monoid k (value zero x)) (pow-zero p) ∙ one-times monoid (value zero x));
        }
    value_multiple (suc i) x h =
        let two = prime.two_le in
        let e : suc (p - 1) ≡ p = omega arith in
        let v : ValueVanishes i (power A x p) =
        vanishes_of_eq i (x ⊗ power A x (p - 1)) (power A x p) (ap (power A x) e) (h.1 (power A x (p - 1))) in
        let u = t (power R (power R (lift x) p) (p ^ i)) in
        let q : value (suc i) x ≡ u =
        ap t (ap (power R (lift x)) (pow-succ' p i) ∙ sym (power-power R (lift x) p (p ^ i))) in
        multiple_of_congruent monoid (p ^ suc i) (value (suc i) x) (value i (power A x p))
        (congruent_trans monoid (p ^ suc i) (value (suc i) x) u (value i (power A x p))
        (congruent_of_eq monoid (p ^ suc i) (value (suc i) x) u q)
        (value_congr i (power A x p) (power R (lift x) p) (lift-power x p))) v
