-- Roots of traces, from what a program has read.
use Rattle.std.specs.Prelude.{◌≡◌, ℕ, suc, ◌^◌, ◌≤◌, List, length}
use Rattle.std.proofs.Common.{sym, ◌∙◌, ap, subst, arith}
use Rattle.std.proofs.Math.Nat.{pow-le-pow_right}
use Rattle.theory_rings.specs.Power.{power_of}
use Rattle.theory_tables.specs.Structure.{Structure}
use Rattle.spl_residue.specs.Residue.{field_of, residue_ops}
use Rattle.spl_residue.specs.declared.field.ResidueField.{ResidueField}
use Rattle.spl_radical.specs.LiftRing.{prime_of, width_of, size_of, IsLiftElem}
use Rattle.spl_radical.specs.TracePower.{lifted_trace}
use Rattle.spl_radical.specs.Radical.{IsQuotientResidue, IsTraceRoot}

-- the power by which a trace is divided fits
pub quotient_fits : (k' k : ResidueField) → k' ≡ k → (l i q : ℕ) → q ≡ size_of k' l → q ≤ 2 ^ 40 → i ≤ l
    → prime_of k ^ i ≤ 2 ^ 40
quotient_fits k' k e l i q eq small le =
    let two = (let f = field_of k in f.least) in
    let s : q ≡ size_of k l = eq ∙ ap (λ k. size_of k l) e in
    let g : prime_of k ^ i ≤ prime_of k ^ suc l = pow-le-pow_right (omega (arith, two)) (omega (arith, le)) in
    omega arith

pub numbers_count : (k' k : ResidueField) → k' ≡ k → (l : ℕ) (a n : List ℕ) → IsLiftElem k' l a → n ≡ a
    → length n ≡ width_of k
numbers_count k' k e l a n h en = ap length en ∙ h.count ∙ ap width_of e

pub trace_root : (k' k : ResidueField) → k' ≡ k → (l i : ℕ) (T : Structure (List ℕ)) (a : List (List ℕ))
    (t n r y : List ℕ) → t ≡ (lifted_trace k' l T a i).0 → n ≡ t → IsQuotientResidue k l i n r
    → power_of (residue_ops k) y (prime_of k ^ i) ≡ r → IsTraceRoot k l T i a y
trace_root k' k e l i T a t n r y et en h ey =
    let is : n ≡ (lifted_trace k l T a i).0 = en ∙ et ∙ ap (λ k. (lifted_trace k l T a i).0) e in
    subst (λ x. IsQuotientResidue k l i x (power_of (residue_ops k) y (prime_of k ^ i))) is
    (subst (IsQuotientResidue k l i n) (sym ey) h)
