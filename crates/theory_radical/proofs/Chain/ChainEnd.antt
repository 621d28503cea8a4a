-- The chain of an algebra of dimension m holds each nilpotent ideal, and where m is below p^n its member n is one.
use Rattle.std.specs.Prelude.{◌≡◌, ℕ, zero, suc, ◌-◌, ◌^◌, ◌<◌, ◌≤◌}
use Rattle.std.proofs.Common.{sym, ◌∙◌, ap, subst, arith, inl, inr, ⊎_elim}
use Rattle.std.proofs.lemmas.Bool.{cases_lt}
use Rattle.std.proofs.Math.Nat.{pow-zero}
use Rattle.theory_rings.specs.Ring.{RingOn, FieldOn}
use Rattle.theory_rings.specs.Power.{power, times}
use Rattle.theory_rings.specs.Prime.{IsPrime}
use Rattle.theory_rings.proofs.Rings.RingLaws.{mul-zero}
use Rattle.theory_rings.proofs.Rings.Fields.{field_set}
use Rattle.theory_spaces.specs.Module.{AlgebraOn, module_of}
use Rattle.theory_spaces.specs.Linear.{comb, InSpan, Basis}
use Rattle.theory_spaces.specs.Matrix.{delta, Mat}
use Rattle.theory_spaces.specs.Algebra.{IsNilpotent}
use Rattle.theory_spaces.proofs.Matrices.Matrices.{clip-in, clip_within}
use Rattle.theory_spaces.proofs.Linear.Spaces.{coords_of}
use Rattle.theory_radical.specs.Congruence.{MultipleOf, CongruentMod}
use Rattle.theory_radical.specs.Ideal.{ProductsVanish, IsNilpotentIdeal, IsLargestNilpotentIdeal}
use Rattle.theory_radical.specs.LiftRing.{LiftRingOn}
use Rattle.theory_radical.specs.Chain.{trace_power, Chain}
use Rattle.theory_radical.specs.ChainLaws.{IdempotentRank, TracesOfNilpotentsAndIdempotents}
use Rattle.theory_radical.proofs.Words.Orbits.{pow_pos}
use Rattle.theory_radical.proofs.Words.Multiples.{multiple_of_congruent, congruent_sym, congruent_trans}
use Rattle.theory_radical.proofs.Words.PowersOfSums.{trace-power_congr}
use Rattle.theory_radical.proofs.Chain.RingChains.{value, value_turned, Member-vanishes}
use Rattle.theory_radical.proofs.Nilpotent.MatrixCorners.{corner, corner-mul, corner-trace}
use Rattle.theory_radical.proofs.Nilpotent.Cores.{power-idempotent, nilpotent_turned, idempotent_turned}
use Rattle.theory_radical.proofs.Nilpotent.Fitting.{fitting}
use Rattle.theory_radical.proofs.Nilpotent.NilIdeals.{nil_ideal_products_vanish, nilpotent_of_ideal}
use Rattle.theory_radical.proofs.Lifts.LiftRings.{times-one_exact, down-zero}
use Rattle.theory_radical.proofs.Lifts.LiftedMatrices.{MW, MF, tr, mat_trace_is, congruent_of_residues, raise}
use Rattle.theory_radical.proofs.Lifts.LiftedMatrices.{down-raise, raise_is_lift, down-delta}
use Rattle.theory_radical.proofs.Chain.RegularMatrices.{regular, regular-mul, regular-zero, regular-power}
use Rattle.theory_radical.proofs.Chain.RegularMatrices.{regular_faithful}
use Rattle.theory_radical.proofs.Chain.AlgebraChain.{lift, lift_is, lift_is_lift, tr_is, ValVanishes, vanishes_val}
use Rattle.theory_radical.proofs.Chain.AlgebraChain.{trace_power_congr, In, in_chain, chain_in, in_ideal, chain_ideal}
use Rattle.theory_radical.proofs.Chain.AlgebraChain.{value_of_zero}

-- the value of the unit of a corner
module _ {K W : Type 0} {F : FieldOn K} {p n : ℕ} (prime : IsPrime p) (L : LiftRingOn F p n W) (m r : ℕ)
    (l : r ≤ m) where
  abbrev S : RingOn (Mat L.ring.ring m)
  S = MW L m

  abbrev E : Mat F.ring m
  E = corner F.ring (field_set F) m r l

  abbrev D : Mat L.ring.ring m
  D = corner L.ring.ring L.set m r l

  raise_corner : CongruentMod S.monoid p (raise L m E) D
  raise_corner = congruent_of_residues L m (raise L m E) D (λ i j a b. down-raise L m E i j a b ∙ each i j)
    where
      outside : (i j : ℕ) → E.0 i j ≡ F.zero → D.0 i j ≡ L.ring.zero → E.0 i j ≡ L.down (D.0 i j)
      outside i j e d = e ∙ sym (ap L.down d ∙ down-zero F.cring L.ring p n L.down L.is_lift)

      each : (i j : ℕ) → E.0 i j ≡ L.down (D.0 i j)
      each i j = ⊎_elim
          (λ (a : i < r). ⊎_elim
          (λ (b : j < r). clip-in F.ring (field_set F) r (delta F.ring) i j a b
          ∙ sym (ap L.down (clip-in L.ring.ring L.set r (delta L.ring.ring) i j a b) ∙ down-delta L m i j))
          (λ (b : r ≤ j). outside i j (clip_within F.ring (field_set F) r (delta F.ring) i j (inr b))
          (clip_within L.ring.ring L.set r (delta L.ring.ring) i j (inr b)))
          (cases_lt j r))
          (λ (a : r ≤ i). outside i j (clip_within F.ring (field_set F) r (delta F.ring) i j (inl a))
          (clip_within L.ring.ring L.set r (delta L.ring.ring) i j (inl a)))
          (cases_lt i r)

  power_corner : (k : ℕ) → 0 < k → power S D k ≡ D
  power_corner zero g = absurd (omega arith)
  power_corner (suc k) g =
      power-idempotent S D (corner-mul L.ring.ring L.set m r l D
      (clip_within L.ring.ring L.set r (delta L.ring.ring))) k

  pub value_corner : (i : ℕ)
      → CongruentMod L.ring.monoid (p ^ suc i) (value (MF L m) S L.ring.additive (tr L m) p (raise L m) i E)
      (times L.ring.monoid r L.ring.one)
  value_corner i = subst
      (CongruentMod L.ring.monoid (p ^ suc i) (value (MF L m) S L.ring.additive (tr L m) p (raise L m) i E))
      (ap (tr L m) (power_corner (p ^ i) (pow_pos p prime i)) ∙ corner-trace L.ring.ring L.set m r l)
      (trace-power_congr S L.ring.additive (tr L m) (mat_trace_is L.ring L.set m) p prime i
      (raise L m E) D raise_corner)

module _ {K W V : Type 0} {F : FieldOn K} {p n : ℕ} (prime : IsPrime p) (L : LiftRingOn F p n W)
    (A : AlgebraOn F.ring V) (m : ℕ) (B : Basis (module_of A) m) where
  infixl 65 ◌⊕◌
  infixl 70 ◌⊗◌
  open A use {◌⊕◌, ◌⊗◌}

  abbrev reg : V → Mat F.ring m
  reg = regular F.cring (field_set F) A m B

  abbrev T : RingOn (Mat L.ring.ring m)
  T = MW L m

  abbrev raised : ℕ → Mat F.ring m → W
  raised = value (MF L m) T L.ring.additive (tr L m) p (raise L m)

  -- a nilpotent element has traces 0
  nilpotent_vanishes : (i : ℕ) (x : V) → IsNilpotent A.ring x → ValVanishes prime L A m B i x
  nilpotent_vanishes i x h =
      let t = nilpotent_turned F m (reg x) h.exponent
      (sym (regular-power F.cring (field_set F) A m B x h.exponent) ∙ ap reg h.vanishes
      ∙ regular-zero F.cring (field_set F) A m B) in
      multiple_of_congruent L.ring.monoid (p ^ suc i) (raised i (reg x)) (raised i (MF L m).zero)
      (value_turned (MF L m) T L.ring.additive (tr L m) p (raise L m) prime (tr_is prime L A m B)
      (raise_is_lift L m) i (MF L m).zero (reg x) t)
      (value_of_zero prime L A m B i)

  -- the trace of an idempotent is its rank
  pub idempotent_rank : (e : V) → e ⊗ e ≡ e → IdempotentRank L A m B e
  idempotent_rank e idem =
      let r = idempotent_turned F m (reg e) (sym (regular-mul F.cring (field_set F) A m B e e) ∙ ap reg idem) in
      record {
        rank = r.rank;
        rank_le = r.fits;
        none = λ z. regular_faithful F.cring (field_set F) A m B e (r.none z);
        trace = λ i N l.
            let E = corner F.ring (field_set F) m r.rank r.fits in
            let one = times L.ring.monoid r.rank L.ring.one in
            let k = p ^ suc i in
            congruent_trans L.ring.monoid k (trace_power L A m B i N) (raised i (reg e)) one
            (trace_power_congr prime L A m B i e N l)
            (congruent_trans L.ring.monoid k (raised i (reg e)) (raised i E) one
            (value_turned (MF L m) T L.ring.additive (tr L m) p (raise L m) prime (tr_is prime L A m B)
            (raise_is_lift L m) i E (reg e) r.turned)
            (value_corner prime L m r.rank r.fits i));
      }

  pub special_traces : TracesOfNilpotentsAndIdempotents L A m B
  special_traces = record {
    nilpotent = λ i x h. vanishes_val prime L A m B i x (nilpotent_vanishes i x h);
    idempotent = idempotent_rank;
  }

  -- what has only nilpotent multiples lies in each member of the chain
  in_of_nilpotent : (i : ℕ) (x : V) → ((c : V) → IsNilpotent A.ring (x ⊗ c)) → In prime L A m B i x
  in_of_nilpotent zero x h = tt
  in_of_nilpotent (suc i) x h = (in_of_nilpotent i x h, λ c. nilpotent_vanishes i (x ⊗ c) (h c))

  -- each member of the chain holds each nilpotent ideal
  pub chain_holds : (J : V → Type 0) → IsNilpotentIdeal A.ring J → (i : ℕ) (x : V) → J x → Chain L A m B i x
  chain_holds J h i x j =
      chain_in prime L A m B i x
      (in_of_nilpotent i x (λ c. nilpotent_of_ideal A.ring J h (x ⊗ c) (h.ideal.right c x tt j)))

  -- a member that is nilpotent is the largest nilpotent ideal
  pub chain_stops : (i : ℕ) → IsNilpotentIdeal A.ring (Chain L A m B i) → IsLargestNilpotentIdeal A (Chain L A m B i)
  chain_stops i h = record { nilpotent = h; largest = λ k g I x s. chain_holds (InSpan (module_of A) k g) I i x s }

  module _ (enough : m < p ^ n) where
    -- an idempotent of the last member is 0
    idempotent_zero : (i : ℕ) → suc i ≡ n → (e : V) → e ⊗ e ≡ e → ValVanishes prime L A m B i e → e ≡ A.zero
    idempotent_zero i q e idem v =
        let r = idempotent_rank e idem in
        let small = r.rank_le in
        let one = times L.ring.monoid r.rank L.ring.one in
        let k = p ^ suc i in
        let N = (lift prime L A m B e).0 in
        let h = lift_is_lift prime L A m B e in
        let near : CongruentMod L.ring.monoid k one (trace_power L A m B i N) =
        congruent_sym L.ring.additive k (trace_power L A m B i N) one (r.trace i N h) in
        let w : MultipleOf L.ring.monoid (p ^ n) one = subst (λ j. MultipleOf L.ring.monoid (p ^ j) one) q
        (multiple_of_congruent L.ring.monoid k one (trace_power L A m B i N) near
        (vanishes_val prime L A m B i e v N h)) in
        r.none (times-one_exact F.cring L.ring p n L.down L.is_lift prime F.one-nonzero r.rank (omega arith) w)

    idempotent_in_zero : (e : V) → e ⊗ e ≡ e → In prime L A m B n e → e ≡ A.zero
    idempotent_in_zero e idem h = ⊎_elim
        (λ (l : 0 < n). idempotent_zero (n - 1) (omega arith) e idem
        (Member-vanishes A.ring T L.ring.additive (tr L m) p (lift prime L A m B) prime (tr_is prime L A m B)
        (lift_is prime L A m B) n (n - 1) e (omega arith) h))
        (λ (l : n ≤ 0).
        let z : n ≡ 0 = omega arith in
        let s : m < 1 = subst (λ k. m < k) (ap (λ j. p ^ j) z ∙ pow-zero p) enough in
        let q : m ≡ 0 = omega arith in
        B.expand e ∙ ap (λ k. comb (module_of A) k (B.coord e) B.vec) q)
        (cases_lt 0 n)

    in_nilpotent : (a : V) → In prime L A m B n a → IsNilpotent A.ring a
    in_nilpotent a h =
        let d = fitting F A m (coords_of (module_of A) m B) a in
        let I = in_ideal prime L A m B n in
        let z : a ⊗ d.cofactor ≡ A.zero =
        idempotent_in_zero (a ⊗ d.cofactor) d.idempotent (I.right d.cofactor a tt h) in
        record {
          exponent = d.exponent;
          vanishes = sym d.keeps ∙ ap (λ x. power A.ring a d.exponent ⊗ x) z
              ∙ mul-zero A.ring (power A.ring a d.exponent);
        }

    -- products of m elements of the last member are 0
    pub chain_end_products : ProductsVanish A.ring (Chain L A m B n) m
    chain_end_products = nil_ideal_products_vanish F A m (coords_of (module_of A) m B) (Chain L A m B n)
        (chain_ideal prime L A m B n)
        (λ x h. in_nilpotent x (in_chain prime L A m B n x h))

    -- it is the largest nilpotent ideal
    pub chain_end : IsLargestNilpotentIdeal A (Chain L A m B n)
    chain_end = chain_stops n
        (record { ideal = chain_ideal prime L A m B n; exponent = m; vanishes = chain_end_products })
