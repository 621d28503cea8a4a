-- The chain of an algebra by all lifts is that by one lift, so that its members are two-sided ideals and its traces do
-- not depend on the lift. On each member the next trace is additive.
use Rattle.std.specs.Prelude.{◌≡◌, ℕ, zero, suc, ◌^◌}
use Rattle.std.proofs.Common.{sym, ◌∙◌, ap, ap₂, subst}
use Rattle.theory_rings.specs.Ring.{RingOn, FieldOn}
use Rattle.theory_rings.specs.Power.{power}
use Rattle.theory_rings.specs.Prime.{IsPrime}
use Rattle.theory_rings.proofs.Rings.RingLaws.{zero-mul, additive-zero}
use Rattle.theory_rings.proofs.Rings.Fields.{field_set}
use Rattle.theory_rings.proofs.Sums.Sums.{mul-sum}
use Rattle.theory_rings.proofs.Powers.Powers.{power-zero}
use Rattle.theory_spaces.specs.Module.{AlgebraOn, module_of}
use Rattle.theory_spaces.specs.Linear.{Basis}
use Rattle.theory_spaces.specs.Matrix.{Matrix, Mat}
use Rattle.theory_spaces.proofs.Matrices.Matrices.{Mat-ext, mat, mat-entry}
use Rattle.theory_spaces.proofs.Matrices.MatrixAlgebra.{matrix_algebra}
use Rattle.theory_radical.specs.Congruence.{MultipleOf, CongruentMod}
use Rattle.theory_radical.specs.Trace.{IsTrace}
use Rattle.theory_radical.specs.Ideal.{IsIdeal}
use Rattle.theory_radical.specs.LiftRing.{LiftRingOn}
use Rattle.theory_radical.specs.Chain.{IsLift, trace_power, Vanishes, Chain}
use Rattle.theory_radical.proofs.Words.Orbits.{pow_pos}
use Rattle.theory_radical.proofs.Words.Multiples.{multiple_of_congruent, multiple-zero, congruent_sym, congruent_trans}
use Rattle.theory_radical.proofs.Words.Multiples.{congruent-add}
use Rattle.theory_radical.proofs.Words.PowersOfSums.{trace-power_congr}
use Rattle.theory_radical.proofs.Chain.RingChains.{IsLiftMap, value, ValueVanishes, Member, value_congr, value-add}
use Rattle.theory_radical.proofs.Chain.RingChains.{value_multiple, Member-add, Member-left, Member-right}
use Rattle.theory_radical.proofs.Lifts.LiftedMatrices.{MW, MF, tr, mat_trace_is, trace-power, congruent_of_residues}
use Rattle.theory_radical.proofs.Lifts.LiftedMatrices.{raise, down-raise, raise_is_lift}
use Rattle.theory_radical.proofs.Chain.RegularMatrices.{regular, regular-entry, regular-add, regular-mul, regular-one}
use Rattle.theory_radical.proofs.Chain.RegularMatrices.{regular-zero}

-- powers of multiples in an algebra
pub scale-power : {K V : Type 0} {R : RingOn K} (A : AlgebraOn R V) (c : K) (x : V) (k : ℕ)
    → power A.ring (A.◌•◌ c x) k ≡ A.◌•◌ (power R c k) (power A.ring x k)
scale-power A c x zero = sym (A.one-scale A.one)
scale-power {R} A c x (suc k) =
    ap (A.◌⊗◌ (A.◌•◌ c x)) (scale-power A c x k) ∙ A.scale-left c x (A.◌•◌ (power R c k) (power A.ring x k))
    ∙ ap (A.◌•◌ c) (A.scale-right (power R c k) x (power A.ring x k))
    ∙ sym (A.mul-scale c (power R c k) (A.◌⊗◌ x (power A.ring x k)))

module _ {K W V : Type 0} {F : FieldOn K} {p n : ℕ} (prime : IsPrime p) (L : LiftRingOn F p n W)
    (A : AlgebraOn F.ring V) (m : ℕ) (B : Basis (module_of A) m) where
  infixl 65 ◌⊕◌
  infixl 70 ◌⊗◌
  infixl 70 ◌•◌
  open A use {◌⊕◌, ◌⊗◌, ◌•◌}

  abbrev S : RingOn (Mat L.ring.ring m)
  S = MW L m

  -- the multiplication by x, lifted entry by entry
  abbrev pub lift : V → Mat L.ring.ring m
  lift x = raise L m (regular F.cring (field_set F) A m B x)

  pub lift_is : IsLiftMap A.ring S p lift
  lift_is =
      let r = raise_is_lift L m in
      let reg = regular F.cring (field_set F) A m B in
      record {
        lift-add = λ x y. subst (λ z. CongruentMod S.monoid p (raise L m z) (S.◌⊕◌ (lift x) (lift y)))
            (sym (regular-add F.cring (field_set F) A m B x y)) (r.lift-add (reg x) (reg y));
        lift-mul = λ x y. subst (λ z. CongruentMod S.monoid p (raise L m z) (S.◌⊗◌ (lift x) (lift y)))
            (sym (regular-mul F.cring (field_set F) A m B x y)) (r.lift-mul (reg x) (reg y));
        lift-one = subst (λ z. CongruentMod S.monoid p (raise L m z) S.one)
            (sym (regular-one F.cring (field_set F) A m B)) r.lift-one;
      }

  pub tr_is : IsTrace S L.ring.additive (tr L m)
  tr_is = mat_trace_is L.ring L.set m

  -- the trace of the p^i-th power of this lift, and the chain by it
  abbrev pub val : ℕ → V → W
  val = value A.ring S L.ring.additive (tr L m) p lift

  abbrev pub ValVanishes : ℕ → V → Type 0
  ValVanishes = ValueVanishes A.ring S L.ring.additive (tr L m) p lift

  abbrev pub In : ℕ → V → Type 0
  In = Member A.ring S L.ring.additive (tr L m) p lift

  pub lift_is_lift : (x : V) → IsLift L A m B x (lift x).0
  lift_is_lift x i j a b = down-raise L m (regular F.cring (field_set F) A m B x) i j a b
      ∙ regular-entry F.cring (field_set F) A m B x i j a b

  pub lift_congruent : (x : V) (N : Matrix W) → IsLift L A m B x N
      → CongruentMod S.monoid p (mat L.ring.ring L.set m N) (lift x)
  lift_congruent x N h = congruent_of_residues L m (mat L.ring.ring L.set m N) (lift x)
      (λ i j a b. ap L.down (mat-entry L.ring.ring L.set m N i j a b) ∙ h i j a b ∙ sym (lift_is_lift x i j a b))

  -- the trace of each lift is that of this one
  pub trace_power_congr : (i : ℕ) (x : V) (N : Matrix W) → IsLift L A m B x N
      → CongruentMod L.ring.monoid (p ^ suc i) (trace_power L A m B i N) (val i x)
  trace_power_congr i x N h =
      subst (λ z. CongruentMod L.ring.monoid (p ^ suc i) z (val i x)) (trace-power L.ring L.set m N (p ^ i))
      (value_congr A.ring S L.ring.additive (tr L m) p lift prime tr_is lift_is i x (mat L.ring.ring L.set m N)
      (lift_congruent x N h))

  pub trace_power_congr_sym : (i : ℕ) (x : V) (N : Matrix W) → IsLift L A m B x N
      → CongruentMod L.ring.monoid (p ^ suc i) (val i x) (trace_power L A m B i N)
  trace_power_congr_sym i x N h =
      congruent_sym L.ring.additive (p ^ suc i) (trace_power L A m B i N) (val i x) (trace_power_congr i x N h)

  -- the trace of this one is the value
  pub trace_power_lift : (i : ℕ) (x : V) → trace_power L A m B i (lift x).0 ≡ val i x
  trace_power_lift i x = sym (trace-power L.ring L.set m (lift x).0 (p ^ i))
      ∙ ap (λ N. tr L m (power S N (p ^ i)))
      (Mat-ext L.ring.ring L.set m (mat L.ring.ring L.set m (lift x).0) (lift x)
      (mat-entry L.ring.ring L.set m (lift x).0))

  -- two lifts of an element
  pub trace_power_of_lifts : (i : ℕ) (x : V) (M N : Matrix W) → IsLift L A m B x M → IsLift L A m B x N
      → CongruentMod L.ring.monoid (p ^ suc i) (trace_power L A m B i M) (trace_power L A m B i N)
  trace_power_of_lifts i x M N h g =
      congruent_trans L.ring.monoid (p ^ suc i) (trace_power L A m B i M) (val i x) (trace_power L A m B i N)
      (trace_power_congr i x M h) (trace_power_congr_sym i x N g)

  pub val_vanishes : (i : ℕ) (x : V) → Vanishes L A m B i x → ValVanishes i x
  val_vanishes i x h = multiple_of_congruent L.ring.monoid (p ^ suc i) (val i x) (trace_power L A m B i (lift x).0)
      (trace_power_congr_sym i x (lift x).0 (lift_is_lift x)) (h (lift x).0 (lift_is_lift x))

  pub vanishes_val : (i : ℕ) (x : V) → ValVanishes i x → Vanishes L A m B i x
  vanishes_val i x h N l =
      multiple_of_congruent L.ring.monoid (p ^ suc i) (trace_power L A m B i N) (val i x) (trace_power_congr i x N l) h

  pub in_chain : (i : ℕ) (x : V) → Chain L A m B i x → In i x
  in_chain zero x h = tt
  in_chain (suc i) x h = (in_chain i x h.0, λ c. val_vanishes i (x ⊗ c) (h.1 c))

  pub chain_in : (i : ℕ) (x : V) → In i x → Chain L A m B i x
  chain_in zero x h = tt
  chain_in (suc i) x h = (chain_in i x h.0, λ c. vanishes_val i (x ⊗ c) (h.1 c))

  -- modulo p the lift of 0 is 0
  pub raise_zero : CongruentMod S.monoid p (raise L m (MF L m).zero) S.zero
  raise_zero = congruent_of_residues L m (raise L m (MF L m).zero) S.zero
      (λ i j a b. down-raise L m (MF L m).zero i j a b
      ∙ sym (additive-zero L.ring.additive F.additive L.down L.is_lift.homomorphism.map-add))

  pub value_of_zero : (i : ℕ)
      → MultipleOf L.ring.monoid (p ^ suc i) (tr L m (power S (raise L m (MF L m).zero) (p ^ i)))
  value_of_zero i = multiple_of_congruent L.ring.monoid (p ^ suc i)
      (tr L m (power S (raise L m (MF L m).zero) (p ^ i))) (tr L m (power S S.zero (p ^ i)))
      (trace-power_congr S L.ring.additive (tr L m) tr_is p prime i (raise L m (MF L m).zero) S.zero raise_zero)
      (subst (MultipleOf L.ring.monoid (p ^ suc i))
      (sym (ap (tr L m) (power-zero S (p ^ i) (pow_pos p prime i))
      ∙ additive-zero S.additive L.ring.additive (tr L m) tr_is.map-add)) (multiple-zero L.ring.monoid (p ^ suc i)))

  pub val-zero : (i : ℕ) → ValVanishes i A.zero
  val-zero i = subst (λ z. MultipleOf L.ring.monoid (p ^ suc i) (tr L m (power S (raise L m z) (p ^ i))))
      (sym (regular-zero F.cring (field_set F) A m B)) (value_of_zero i)

  pub in-zero : (i : ℕ) → In i A.zero
  in-zero zero = tt
  in-zero (suc i) = (in-zero i, λ c. subst (ValVanishes i) (sym (zero-mul A.ring c)) (val-zero i))

  pub in_ideal : (i : ℕ) → IsIdeal A.ring (In i)
  in_ideal i = record {
    inside = λ x _. tt;
    zero_in = in-zero i;
    add_in = Member-add A.ring S L.ring.additive (tr L m) p lift prime tr_is lift_is i;
    left = λ a x _. Member-left A.ring S L.ring.additive (tr L m) p lift prime tr_is lift_is i a x;
    right = λ a x _. Member-right A.ring S L.ring.additive (tr L m) p lift prime tr_is lift_is i x a;
  }

  pub in-scale : (i : ℕ) (c : K) (x : V) → In i x → In i (c • x)
  in-scale i c x h = subst (In i) (A.scale-left c A.one x ∙ ap (λ z. c • z) (A.one-mul x))
      (Member-left A.ring S L.ring.additive (tr L m) p lift prime tr_is lift_is i (c • A.one) x h)

  -- each member of the chain is a two-sided ideal
  pub chain_ideal : (i : ℕ) → IsIdeal A.ring (Chain L A m B i)
  chain_ideal i =
      let I = in_ideal i in
      record {
        inside = λ x _. tt;
        zero_in = chain_in i A.zero I.zero_in;
        add_in = λ x y h g. chain_in i (x ⊕ y) (I.add_in x y (in_chain i x h) (in_chain i y g));
        left = λ c x _ h. chain_in i (c ⊗ x) (I.left c x tt (in_chain i x h));
        right = λ c x _ h. chain_in i (x ⊗ c) (I.right c x tt (in_chain i x h));
      }

  pub val-add : (i : ℕ) (x y : V) → In i x → In i y
      → CongruentMod L.ring.monoid (p ^ suc i) (val i (x ⊕ y)) (L.ring.◌⊕◌ (val i x) (val i y))
  val-add i x y h g = value-add A.ring S L.ring.additive (tr L m) p lift prime tr_is lift_is i x y h g

  pub val_multiple : (i : ℕ) (x : V) → In i x → MultipleOf L.ring.monoid (p ^ i) (val i x)
  val_multiple i x h = value_multiple A.ring S L.ring.additive (tr L m) p lift prime tr_is lift_is i x h

  -- on a member of the chain the next trace is additive
  pub trace_power-add : (i : ℕ) (x y : V) → Chain L A m B i x → Chain L A m B i y → (X Y Z : Matrix W)
      → IsLift L A m B x X → IsLift L A m B y Y → IsLift L A m B (x ⊕ y) Z
      → CongruentMod L.ring.monoid (p ^ suc i) (trace_power L A m B i Z)
      (L.ring.◌⊕◌ (trace_power L A m B i X) (trace_power L A m B i Y))
  trace_power-add i x y h g X Y Z lx ly lz =
      let q = p ^ suc i in
      let T = trace_power L A m B i in
      congruent_trans L.ring.monoid q (T Z) (val i (x ⊕ y)) (L.ring.◌⊕◌ (T X) (T Y)) (trace_power_congr i (x ⊕ y) Z lz)
      (congruent_trans L.ring.monoid q (val i (x ⊕ y)) (L.ring.◌⊕◌ (val i x) (val i y)) (L.ring.◌⊕◌ (T X) (T Y))
      (val-add i x y (in_chain i x h) (in_chain i y g))
      (congruent-add L.ring.monoid q (val i x) (T X) (val i y) (T Y) (trace_power_congr_sym i x X lx)
      (trace_power_congr_sym i y Y ly)))

  -- and a multiple of p^i, where i is below n
  pub trace_power_multiple : (i : ℕ) (x : V) → Chain L A m B i x → MultipleOf L.ring.monoid (p ^ i) (val i x)
  trace_power_multiple i x h = val_multiple i x (in_chain i x h)

  -- the trace of a multiple
  pub val-scale : (i : ℕ) (c : K) (y : W) → L.down y ≡ c → (x : V)
      → CongruentMod L.ring.monoid (p ^ suc i) (val i (c • x)) (L.ring.◌⊗◌ (power L.ring.ring y (p ^ i)) (val i x))
  val-scale i c y e x =
      let D = matrix_algebra L.ring L.set m in
      let N = D.◌•◌ y (lift x) in
      let same : tr L m (power S N (p ^ i)) ≡ L.ring.◌⊗◌ (power L.ring.ring y (p ^ i)) (val i x) =
      ap (tr L m) (scale-power D y (lift x) (p ^ i))
      ∙ sym (mul-sum L.ring.ring m (power L.ring.ring y (p ^ i)) (λ k. (power S (lift x) (p ^ i)).0 k k)) in
      let near : CongruentMod S.monoid p (lift (c • x)) N = congruent_of_residues L m (lift (c • x)) N (λ i j a b.
      lift_is_lift (c • x) i j a b ∙ ap (λ z. B.coord z i) (A.scale-left c x (B.vec j))
      ∙ B.coord-scale c (x ⊗ B.vec j) i
      ∙ sym (L.is_lift.homomorphism.map-mul y ((lift x).0 i j) ∙ ap₂ F.◌⊗◌ e (lift_is_lift x i j a b))) in
      subst (CongruentMod L.ring.monoid (p ^ suc i) (val i (c • x))) same
      (trace-power_congr S L.ring.additive (tr L m) tr_is p prime i (lift (c • x)) N near)
