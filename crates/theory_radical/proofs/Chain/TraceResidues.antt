-- On member i of the chain, i below n, the residue of the trace of the p^i-th power over p^i: additive, of degree p^i
-- in multiples, and 0 just where the trace is 0 modulo p^(i + 1). So the next member is given by equations.
use Rattle.std.specs.Prelude.{◌≡◌, ℕ, zero, suc, ◌^◌, ◌<◌}
use Rattle.std.proofs.Common.{refl, sym, ◌∙◌, ap, ap₂, subst, arith}
use Rattle.std.proofs.Math.Nat.{pow-suc}
use Rattle.theory_rings.specs.Ring.{FieldOn}
use Rattle.theory_rings.specs.Sum.{sum}
use Rattle.theory_rings.specs.Power.{power, times}
use Rattle.theory_rings.specs.Prime.{IsPrime}
use Rattle.theory_rings.proofs.Rings.RingLaws.{add-zero, add-neg, mul-zero}
use Rattle.theory_rings.proofs.Rings.ZeroTests.{eq_of_sub_eq_zero}
use Rattle.theory_rings.proofs.Rings.Homomorphisms.{map-neg}
use Rattle.theory_rings.proofs.Sums.Sums.{sum_eq_zero}
use Rattle.theory_rings.proofs.Powers.Powers.{map-power}
use Rattle.theory_rings.proofs.Powers.Times.{times-add, times-neg, mul-times_comm}
use Rattle.theory_spaces.specs.Module.{AlgebraOn, module_of}
use Rattle.theory_spaces.specs.Linear.{comb, Basis}
use Rattle.theory_spaces.proofs.Linear.Modules.{left_linear, right_linear, map-comb, comb_in}
use Rattle.theory_radical.specs.Congruence.{MultipleOf, CongruentMod}
use Rattle.theory_radical.specs.LiftRing.{LiftRingOn}
use Rattle.theory_radical.specs.Functional.{TraceResidue, ResidueOnChain, ResidueEquations}
use Rattle.theory_radical.proofs.Words.Multiples.{multiple-times}
use Rattle.theory_radical.proofs.Lifts.LiftRings.{down_multiple, down-up, up}
use Rattle.theory_radical.proofs.Chain.AlgebraChain.{lift, lift_is_lift, trace_power_lift, val, ValVanishes, In}
use Rattle.theory_radical.proofs.Chain.AlgebraChain.{in_chain, chain_in, in_ideal, in-zero, in-scale, val-zero, val-add}
use Rattle.theory_radical.proofs.Chain.AlgebraChain.{val-scale, val_multiple, val_vanishes, vanishes_val}
use Rattle.theory_radical.proofs.Chain.AlgebraChain.{trace_power_congr_sym}

module _ {K W V : Type 0} {F : FieldOn K} {p n : ℕ} (prime : IsPrime p) (L : LiftRingOn F p n W)
    (A : AlgebraOn F.ring V) (m : ℕ) (B : Basis (module_of A) m)
    (i : ℕ) (within : i < n) where
  infixl 65 ◌⊕◌
  infixl 70 ◌⊗◌
  infixl 70 ◌•◌
  open A use {◌⊕◌, ◌⊗◌, ◌•◌}

  abbrev T : V → W
  T = val prime L A m B i

  abbrev I : V → Type 0
  I = In prime L A m B i

  abbrev q : ℕ
  q = p ^ i

  -- the residue of a quotient by p^i is one
  residue_unique : (y z : W)
      → CongruentMod L.ring.monoid (p ^ suc i) (times L.ring.monoid q y) (times L.ring.monoid q z) → L.down y ≡ L.down z
  residue_unique y z h =
      let d = L.ring.◌⊕◌ y (L.ring.neg z) in
      let ty = times L.ring.monoid q y in
      let tz = times L.ring.monoid q z in
      let u = times L.ring.monoid (p ^ suc i) h.part in
      let e : times L.ring.monoid q d ≡ u =
      times-add L.ring.monoid q y (L.ring.neg z) ∙ ap₂ L.ring.◌⊕◌ h.is (times-neg L.ring.additive q z)
      ∙ ap (λ w. L.ring.◌⊕◌ w (L.ring.neg tz)) (L.ring.add_comm tz u) ∙ L.ring.add_assoc u tz (L.ring.neg tz)
      ∙ ap (L.ring.◌⊕◌ u) (add-neg L.ring.additive tz) ∙ add-zero L.ring.monoid u in
      let H = L.is_lift.homomorphism in
      eq_of_sub_eq_zero F.additive (L.down y) (L.down z)
      (sym (H.map-add y (L.ring.neg z) ∙ ap (F.◌⊕◌ (L.down y)) (map-neg L.ring.ring F.ring L.down H z))
      ∙ down_multiple F.cring L.ring p n L.down L.is_lift d
      (L.is_lift.cancels i within d (record { part = h.part; is = e })))

  -- the residue at a member
  pub residue : (x : V) → I x → K
  residue x h = L.down (val_multiple prime L A m B i x h).part

  residue_eq : (x : V) (h : I x) (z : W) → CongruentMod L.ring.monoid (p ^ suc i) (T x) (times L.ring.monoid q z)
      → residue x h ≡ L.down z
  unfolding residue
  residue_eq x h z c =
      let d = val_multiple prime L A m B i x h in
      residue_unique d.part z (subst (λ w. CongruentMod L.ring.monoid (p ^ suc i) w (times L.ring.monoid q z)) d.is c)

  value_quotient : (x : V) (h : I x) → (z : W) × (T x ≡ times L.ring.monoid q z) × (L.down z ≡ residue x h)
  unfolding residue
  value_quotient x h = let d = val_multiple prime L A m B i x h in (d.part, d.is, refl)

  -- it is what the definition says
  pub residue_is : (x : V) (h : I x) (r : K) → TraceResidue L A m B i x r → residue x h ≡ r
  residue_is x h r t = residue_eq x h t.quotient
      (subst (CongruentMod L.ring.monoid (p ^ suc i) (T x)) t.divides
      (trace_power_congr_sym prime L A m B i x t.lift t.is_lift)) ∙ t.residue

  pub residue-add : (x y : V) (h : I x) (g : I y) (s : I (x ⊕ y))
      → residue (x ⊕ y) s ≡ F.◌⊕◌ (residue x h) (residue y g)
  residue-add x y h g s =
      let u = value_quotient x h in
      let v = value_quotient y g in
      residue_eq (x ⊕ y) s (L.ring.◌⊕◌ u.0 v.0)
      (subst (CongruentMod L.ring.monoid (p ^ suc i) (T (x ⊕ y)))
      (ap₂ L.ring.◌⊕◌ u.1 v.1 ∙ sym (times-add L.ring.monoid q u.0 v.0)) (val-add prime L A m B i x y h g))
      ∙ L.is_lift.homomorphism.map-add u.0 v.0 ∙ ap₂ F.◌⊕◌ u.2 v.2

  pub residue-scale : (c : K) (x : V) (h : I x) (s : I (c • x))
      → residue (c • x) s ≡ F.◌⊗◌ (power F.ring c q) (residue x h)
  residue-scale c x h s =
      let u = value_quotient x h in
      let y = up F.cring L.ring p n L.down L.is_lift c in
      let k = power L.ring.ring y q in
      let H = L.is_lift.homomorphism in
      residue_eq (c • x) s (L.ring.◌⊗◌ k u.0)
      (subst (CongruentMod L.ring.monoid (p ^ suc i) (T (c • x)))
      (ap (L.ring.◌⊗◌ k) u.1 ∙ mul-times_comm L.ring.ring q k u.0)
      (val-scale prime L A m B i c y (down-up F.cring L.ring p n L.down L.is_lift c) x))
      ∙ H.map-mul k u.0
      ∙ ap₂ F.◌⊗◌ (map-power L.ring.ring F.ring L.down H.map-one H.map-mul y q
      ∙ ap (λ z. power F.ring z q) (down-up F.cring L.ring p n L.down L.is_lift c)) u.2

  -- it is 0 just where the trace vanishes
  pub vanishes_of_residue : (x : V) (h : I x) → residue x h ≡ F.zero → ValVanishes prime L A m B i x
  vanishes_of_residue x h e =
      let u = value_quotient x h in
      let k : MultipleOf L.ring.monoid p u.0 = L.is_lift.kernel u.0 (u.2 ∙ e) in
      subst (MultipleOf L.ring.monoid (p ^ suc i)) (sym u.1)
      (subst (λ j. MultipleOf L.ring.monoid j (times L.ring.monoid q u.0)) (sym (pow-suc p i))
      (multiple-times L.ring.monoid p q u.0 k))

  pub residue_of_vanishes : (x : V) (h : I x) → ValVanishes prime L A m B i x → residue x h ≡ F.zero
  residue_of_vanishes x h v =
      let u = value_quotient x h in
      sym u.2 ∙ down_multiple F.cring L.ring p n L.down L.is_lift u.0
      (L.is_lift.cancels i within u.0 (subst (MultipleOf L.ring.monoid (p ^ suc i)) u.1 v))

  -- at a combination of members, of which r are the residues
  residue-comb : (k : ℕ) (c : ℕ → K) (v : ℕ → V) (r : ℕ → K)
      → ((s : ℕ) → s < k → (h : I (v s)) × (residue (v s) h ≡ r s))
      → I (comb (module_of A) k c v)
      × ((g : I (comb (module_of A) k c v))
      → residue (comb (module_of A) k c v) g ≡ sum F.monoid k (λ s. F.◌⊗◌ (power F.ring (c s) q) (r s)))
  residue-comb zero c v r h = (in-zero prime L A m B i, λ g. residue_of_vanishes A.zero g (val-zero prime L A m B i))
  residue-comb (suc k) c v r h =
      let f = residue-comb k c v r (λ s l. h s (omega arith)) in
      let last = h k (omega arith) in
      let x = comb (module_of A) k c v in
      let y = c k • v k in
      let iy : I y = in-scale prime L A m B i (c k) (v k) last.0 in
      let J = in_ideal prime L A m B i in (
        J.add_in x y f.0 iy,
        λ g. residue-add x y f.0 iy g
            ∙ ap₂ F.◌⊕◌ (f.1 f.0) (residue-scale (c k) (v k) last.0 iy ∙ ap (F.◌⊗◌ (power F.ring (c k) q)) last.1),
      )

  -- x lies in the next member just where the residues at its products with the vectors of a basis are 0
  pub next_of_residues : (x : V) → I x → ((j : ℕ) → j < m → (g : I (x ⊗ B.vec j)) → residue (x ⊗ B.vec j) g ≡ F.zero)
      → In prime L A m B (suc i) x
  next_of_residues x h z = (
    h,
    λ y.
        let J = in_ideal prime L A m B i in
        let w = λ (j : ℕ). x ⊗ B.vec j in
        let e : x ⊗ y ≡ comb (module_of A) m (B.coord y) w = ap (λ t. x ⊗ t) (B.expand y)
        ∙ map-comb (module_of A) (module_of A) (λ t. x ⊗ t) (left_linear A x) m (B.coord y) B.vec in
        let f = residue-comb m (B.coord y) w (λ _. F.zero)
        (λ j l. (J.right (B.vec j) x tt h, z j l (J.right (B.vec j) x tt h))) in
        subst (ValVanishes prime L A m B i) (sym e) (vanishes_of_residue (comb (module_of A) m (B.coord y) w) f.0
        (f.1 f.0 ∙ sum_eq_zero F.monoid m (λ j. F.◌⊗◌ (power F.ring (B.coord y j) q) F.zero)
        (λ j _. mul-zero F.ring (power F.ring (B.coord y j) q)))),
  )

  pub residues_of_next : (x : V) → In prime L A m B (suc i) x → (j : ℕ) (g : I (x ⊗ B.vec j))
      → residue (x ⊗ B.vec j) g ≡ F.zero
  residues_of_next x h j g = residue_of_vanishes (x ⊗ B.vec j) g (h.1 (B.vec j))

  in_comb : (k : ℕ) (c : ℕ → K) (v : ℕ → V) → ((s : ℕ) → s < k → I (v s)) → I (comb (module_of A) k c v)
  in_comb k c v h =
      let J = in_ideal prime L A m B i in
      comb_in (module_of A) I
      (record { zero-in = J.zero_in; add-in = J.add_in; scale-in = in-scale prime L A m B i }) k c v h

  -- the next member by equations
  pub residue_equations : ResidueEquations L A m B i
  residue_equations k v members r given c = (
    λ h j l.
        let f = at_basis j l in
        sym (f.1 f.0) ∙ residue_of_vanishes (combined j) f.0
        (subst (ValVanishes prime L A m B i) (same j) ((in_chain prime L A m B (suc i) x h).1 (B.vec j))),
    λ e. chain_in prime L A m B (suc i) x (next_of_residues x (in_comb k c v each) (λ j l g.
        let f = at_basis j l in
        residue_of_vanishes (x ⊗ B.vec j) g
        (subst (ValVanishes prime L A m B i) (sym (same j))
        (vanishes_of_residue (combined j) f.0 (f.1 f.0 ∙ e j l))))),
  )
    where
      x : V
      x = comb (module_of A) k c v

      combined : ℕ → V
      combined j = comb (module_of A) k c (λ s. v s ⊗ B.vec j)

      each : (s : ℕ) → s < k → I (v s)
      each s l = in_chain prime L A m B i (v s) (members s l)

      same : (j : ℕ) → x ⊗ B.vec j ≡ combined j
      same j = map-comb (module_of A) (module_of A) (λ t. t ⊗ B.vec j) (right_linear A (B.vec j)) k c v

      at_basis : (j : ℕ) → j < m → I (combined j)
          × ((g : I (combined j)) → residue (combined j) g ≡ sum F.monoid k (λ s. F.◌⊗◌ (power F.ring (c s) q) (r s j)))
      at_basis j l = residue-comb k c (λ s. v s ⊗ B.vec j) (λ s. r s j) (λ s ls.
          let J = in_ideal prime L A m B i in
          let g = J.right (B.vec j) (v s) tt (each s ls) in
          (g, residue_is (v s ⊗ B.vec j) g (r s j) (given s j ls l)))

  is_trace_residue : (x : V) (h : I x) → TraceResidue L A m B i x (residue x h)
  is_trace_residue x h =
      let u = value_quotient x h in
      record {
        lift = (lift prime L A m B x).0;
        is_lift = lift_is_lift prime L A m B x;
        quotient = u.0;
        divides = trace_power_lift prime L A m B i x ∙ u.1;
        residue = u.2;
      }

  pub residue_on_chain : ResidueOnChain L A m B i
  residue_on_chain = record {
    residue = λ x h. residue x (in_chain prime L A m B i x h);
    is_residue = λ x h. is_trace_residue x (in_chain prime L A m B i x h);
    unique = λ x h r t. residue_is x (in_chain prime L A m B i x h) r t;
    map-add = λ x y h g s.
        residue-add x y (in_chain prime L A m B i x h) (in_chain prime L A m B i y g)
        (in_chain prime L A m B i (x ⊕ y) s);
    map-scale = λ c x h s. residue-scale c x (in_chain prime L A m B i x h) (in_chain prime L A m B i (c • x) s);
    kernel = λ x h. (
      λ e. vanishes_val prime L A m B i x (vanishes_of_residue x (in_chain prime L A m B i x h) e),
      λ v. residue_of_vanishes x (in_chain prime L A m B i x h) (val_vanishes prime L A m B i x v),
    );
  }
