use Rattle.std.proofs.Common.{◌≢◌, ℕ, zero, suc, ◌<◌, ◌≤◌, List, [], ◌∷◌, ◌++◌, length, get_or, arith, sym, ap, subst}
use Rattle.std.proofs.Common.{◌∙◌}
use Rattle.theory_rings.specs.Ops.{Ops, IsElem, FieldLaws}
use Rattle.theory_fractions.specs.Fraction.{Pair}
use Rattle.spl_fraction.specs.FractionsOver.{fractions_over, fractions_laws}
use Rattle.theory_tables.specs.Claims.{AreMultipliers}
use Rattle.spl_calls.proofs.evidences.multiplier.Goals as goal

-- what holds of the one item
of_one : {X : Type 0} (P : X → Type 0) (x d : X) → P x → (s : ℕ) → s < length (x ∷ []) → P (get_or (x ∷ []) s d)
of_one P x d h zero below = h
of_one P x d h (suc s) below = absurd (omega arith)

-- a list of one multiplier
one_multiplier : {E : Type 0} (o : Ops E) (m j k : ℕ) (x : E) → 1 ≤ j → j ≤ m → 1 ≤ k → k ≤ m
    → IsElem o x → x ≢ o.zero → AreMultipliers o m ((j, k, x) ∷ [])
one_multiplier {E} o m j k x j_low j_high k_low k_high elem nonzero =
    let d : ℕ × ℕ × E = (0, 0, o.zero) in
    record {
      first_low = of_one (λ (w : ℕ × ℕ × E). 1 ≤ w.0) (j, k, x) d j_low;
      first_high = of_one (λ (w : ℕ × ℕ × E). w.0 ≤ m) (j, k, x) d j_high;
      second_low = of_one (λ (w : ℕ × ℕ × E). 1 ≤ w.1) (j, k, x) d k_low;
      second_high = of_one (λ (w : ℕ × ℕ × E). w.1 ≤ m) (j, k, x) d k_high;
      of_field = of_one (λ (w : ℕ × ℕ × E). IsElem o w.2) (j, k, x) d elem;
      nonzero = of_one (λ (w : ℕ × ℕ × E). w.2 ≢ o.zero) (j, k, x) d nonzero;
      order = λ s t before below. absurd (omega arith);
    }

pub returns : goal.returns
returns c =
    let o : Ops (Pair ℕ) = fractions_over c.args.k.now.field in
    let L : FieldLaws o = fractions_laws c.args.k.now.field in
    let x : Pair ℕ = c.in_ok-one.field-0 in
    let one = c.in_ok-one.ensures in
    let first = c.in_ok-first.ensures in
    let second = c.in_ok-second.ensures in
    let j = c.in_ok-first.first in
    let k = c.in_ok-second.second in
    subst (AreMultipliers o c.args.m)
    (sym (c.in_ok-push.ensures.ok ∙ ap (λ (l : List (ℕ × ℕ × Pair ℕ)). l ++ (j, k, x) ∷ []) c.new-list.ensures))
    (one_multiplier o c.args.m j k x first.least first.most second.least second.most one.elem
    (λ e. L.one-nonzero (sym one.value ∙ e)))
