-- What the traces of powers of lifts and the chain do, together; and the same over a ring (Z/p^n)[t]/(f)[x]/(g).
use Rattle.std.specs.Prelude.{◌≡◌, ℕ, suc, ◌^◌, ◌≤◌}
use Rattle.std.proofs.Common.{refl, sym, ◌∙◌, ap, subst, arith}
use Rattle.theory_rings.specs.Ring.{CommRingOn, FieldOn}
use Rattle.theory_rings.specs.Power.{power, times}
use Rattle.theory_rings.specs.Prime.{IsPrime}
use Rattle.theory_spaces.specs.Module.{AlgebraOn, module_of}
use Rattle.theory_spaces.specs.Linear.{Basis}
use Rattle.theory_spaces.specs.Matrix.{Matrix, mat_trace}
use Rattle.theory_spaces.proofs.Matrices.Matrices.{mat, mat-entry, matrices}
use Rattle.theory_radical.specs.Congruence.{MultipleOf, CongruentMod}
use Rattle.theory_radical.specs.LiftRing.{IsLiftRing, LiftRingOn}
use Rattle.theory_radical.specs.Chain.{IsLift, trace_power, Chain}
use Rattle.theory_radical.specs.ChainLaws.{TracesOfMatrixPowers, IndependentOfLift, AdditiveOnChain, MayStop}
use Rattle.theory_radical.specs.ChainLaws.{EndsInRadical, NextIsKernel, IsRadicalChain}
use Rattle.theory_radical.specs.Tower.{TowerElement, TowerMod, Reduces, IsTowerLift}
use Rattle.theory_radical.proofs.Words.Multiples.{multiple-add, multiple_of_pow_le, congruent_trans, congruent-mul}
use Rattle.theory_radical.proofs.Words.Multiples.{congruent_refl}
use Rattle.theory_radical.proofs.Words.PowersOfSums.{trace-power_congr}
use Rattle.theory_radical.proofs.Lifts.LiftedMatrices.{mat_trace_is, trace-power, congruent_matrices}
use Rattle.theory_radical.proofs.Chain.AlgebraChain.{lift, lift_is_lift, val, in_chain, chain_ideal, val_multiple}
use Rattle.theory_radical.proofs.Chain.AlgebraChain.{val-scale, trace_power_congr, trace_power_congr_sym}
use Rattle.theory_radical.proofs.Chain.AlgebraChain.{trace_power_of_lifts, trace_power-add}
use Rattle.theory_radical.proofs.Chain.ChainEnd.{special_traces, chain_holds, chain_stops, chain_end}
use Rattle.theory_radical.proofs.Chain.ChainEnd.{chain_end_products}
use Rattle.theory_radical.proofs.Chain.TraceResidues.{residue_equations, residue_on_chain}
use Rattle.theory_radical.proofs.Chain.NextIdeal.{linear_equations, next_functional}
use Rattle.theory_radical.proofs.Lifts.Towers.{tower_down, tower_down_coefficientwise, tower_lift, tower_set}

-- powers of matrices that agree modulo p
pub traces_of_matrix_powers : {W : Type 0} (C : CommRingOn W) → IsSet W → TracesOfMatrixPowers C
traces_of_matrix_powers {W} C set p prime m i M N h =
    let S = matrices C.ring set m in
    let x = mat C.ring set m M in
    let y = mat C.ring set m N in
    let near : CongruentMod S.monoid p x y = congruent_matrices C set m p x y (λ a b la lb.
    let g = h a b la lb in
    record {
      part = g.part;
      is = mat-entry C.ring set m M a b la lb ∙ g.is
          ∙ ap (λ z. C.◌⊕◌ z (times C.monoid p g.part)) (sym (mat-entry C.ring set m N a b la lb));
    }) in
    let v = trace-power_congr S C.additive (λ z. mat_trace C.ring m z.0) (mat_trace_is C set m) p prime i x y near in
    record {
      part = v.part;
      is = sym (trace-power C set m M (p ^ i)) ∙ v.is
          ∙ ap (λ z. C.◌⊕◌ z (times C.monoid (p ^ suc i) v.part)) (trace-power C set m N (p ^ i));
    }

module _ {K W V : Type 0} {F : FieldOn K} {p n : ℕ} (prime : IsPrime p) (L : LiftRingOn F p n W)
    (A : AlgebraOn F.ring V) (m : ℕ) (B : Basis (module_of A) m) where
  abbrev T : ℕ → Matrix W → W
  T i N = trace_power L A m B i N

  pub independent_of_lift : IndependentOfLift L A m B
  independent_of_lift = record {
    lifts = λ x. ((lift prime L A m B x).0, lift_is_lift prime L A m B x);
    same = λ i x M N h g. trace_power_of_lifts prime L A m B i x M N h g;
  }

  -- the trace of a lift differs from that of the chosen one by a multiple of p^(i + 1)
  multiple_at_lift : (i : ℕ) (x : V) → Chain L A m B i x → (N : Matrix W) → IsLift L A m B x N
      → MultipleOf L.ring.monoid (p ^ i) (T i N)
  multiple_at_lift i x h N l =
      let c = trace_power_congr prime L A m B i x N l in
      let z = times L.ring.monoid (p ^ suc i) c.part in
      subst (MultipleOf L.ring.monoid (p ^ i)) (sym c.is)
      (multiple-add L.ring.monoid (p ^ i) (val prime L A m B i x) z
      (val_multiple prime L A m B i x (in_chain prime L A m B i x h))
      (multiple_of_pow_le L.ring.monoid p i (suc i) z (omega arith) (record { part = c.part; is = refl })))

  scale_at_lifts : (i : ℕ) (x : V) (c : W) (X Z : Matrix W) → IsLift L A m B x X → IsLift L A m B (A.◌•◌ (L.down c) x) Z
      → CongruentMod L.ring.monoid (p ^ suc i) (T i Z) (L.ring.◌⊗◌ (power L.ring.ring c (p ^ i)) (T i X))
  scale_at_lifts i x c X Z hx hz =
      let q = p ^ suc i in
      let y = A.◌•◌ (L.down c) x in
      let k = power L.ring.ring c (p ^ i) in
      let v = val prime L A m B i in
      congruent_trans L.ring.monoid q (T i Z) (v y) (L.ring.◌⊗◌ k (T i X)) (trace_power_congr prime L A m B i y Z hz)
      (congruent_trans L.ring.monoid q (v y) (L.ring.◌⊗◌ k (v x)) (L.ring.◌⊗◌ k (T i X))
      (val-scale prime L A m B i (L.down c) c refl x)
      (congruent-mul L.ring.ring q k k (v x) (T i X) (congruent_refl L.ring.monoid q k)
      (trace_power_congr_sym prime L A m B i x X hx)))

  pub additive_on_chain : AdditiveOnChain L A m B
  additive_on_chain = record {
    multiple = multiple_at_lift;
    additive = trace_power-add prime L A m B;
    scale =
        scale_at_lifts;
  }

  pub may_stop : MayStop L A m B
  may_stop = record {
    largest = chain_stops prime L A m B;
    stays = λ i h j x c. chain_holds prime L A m B (Chain L A m B i) h j x c;
  }

  pub ends_in_radical : EndsInRadical L A m B
  ends_in_radical = record { largest = chain_end prime L A m B; products = chain_end_products prime L A m B }

  pub next_is_kernel : NextIsKernel L A m B
  next_is_kernel = record {
    functional = λ R i l. next_functional prime L A m B i l R;
    linear = linear_equations prime L A m B;
    equations = residue_equations prime L A m B;
    residue = residue_on_chain prime L A m B;
  }

  pub is_radical_chain : (J : V → Type 0) → IsRadicalChain L A m B J
  is_radical_chain J = record {
    independent = independent_of_lift;
    additive = additive_on_chain;
    traces = special_traces prime L A m B;
    ideals = chain_ideal prime L A m B;
    holds = chain_holds prime L A m B J;
    stop = may_stop;
    ends = ends_in_radical;
    next = next_is_kernel;
  }

-- the lift ring of a tower, of a field with the ring of the other
module _ (p n : ℕ) (two_le : 2 ≤ p) (two_le_pow : 2 ≤ p ^ n) (T : TowerMod (p ^ n) two_le_pow) (k : TowerMod p two_le)
    (reduces : Reduces p n two_le two_le_pow T k) (F : FieldOn (TowerElement k)) (same : F.cring ≡ k.second) where
  pub tower_lift_ring : LiftRingOn F p n (TowerElement T)
  tower_lift_ring = record {
    ring = T.second;
    set = tower_set p n two_le two_le_pow T;
    down = tower_down p n two_le two_le_pow T k reduces;
    is_lift = subst (λ C. IsLiftRing C T.second p n (tower_down p n two_le two_le_pow T k reduces)) (sym same)
        (tower_lift p n two_le two_le_pow T k reduces);
  }

  pub is_tower_lift : IsTowerLift p n two_le two_le_pow T k F tower_lift_ring
  unfolding tower_lift_ring
  is_tower_lift = record { ring = refl; down = tower_down_coefficientwise p n two_le two_le_pow T k reduces }
