use Rattle.std.proofs.Common.{ℕ, List, ◌≡◌, ◌+◌, ◌-◌, arith, refl, sym, ◌∙◌, ap, subst, get_or, set}
use Rattle.std.proofs.lemmas.List.{get_or_past, get_or-set_other}
use Rattle.std.proofs.lemmas.List.Elements.{All-set, All-from_get_or}
use Rattle.theory_rings.specs.Ops.{IsElem}
use Rattle.theory_rings.proofs.Rings.Elements.{at-elem}
use Rattle.spl_field.specs.SmallField.{small_ops}
use Rattle.spl_poly.specs.Operations.{IsOver}
use Rattle.theory_fractions.proofs.Coefficients.{convolution_of-zeros}
use Rattle.spl_poly.proofs.LongSteps.{step_whole, step_small}
use Rattle.spl_poly.proofs.rows.divide_row.Goals as goal

pub loop-s-init : goal.loop-s-init
loop-s-init c =
    let o = small_ops c.args.f.now in
    let L = c.know_laws.ensures in
    record {
      q_over = All-from_get_or (IsElem o) c.args.q.now 0
          (λ i l. subst (IsElem o) (sym (c.requires.empty i)) L.zero-elem);
      r_over = c.requires.r_over;
      q_low = λ k l. c.requires.empty k;
      r_high = λ k l. get_or_past c.args.r.now k 0 (omega (arith, c.requires.nonzero, c.requires.room));
      whole = λ k. ap (λ x. o.add x (get_or c.args.r.now k 0))
          (convolution_of-zeros o L c.args.q.now c.args.by.now c.requires.by_over c.requires.empty k)
          ∙ L.zero-add (get_or c.args.r.now k 0) (at-elem o L c.args.r.now c.requires.r_over k);
    }

pub loop-s-preserved : goal.loop-s-preserved
loop-s-preserved c =
    let o = small_ops c.args.f.now in
    let L = c.know_laws.ensures in
    let q : List ℕ = c.loop-s.q in
    let r : List ℕ = c.loop-s.r in
    let r' : List ℕ = c.add_scaled_row.new.r in
    let by : List ℕ = c.args.by.now in
    let s : ℕ = c.loop-s.s - 1 in
    let x : ℕ = c.product-c.result in
    let q' : List ℕ = set q s x in
    let added : (j : ℕ) → get_or r' (s + j) 0 ≡ o.add (get_or r (s + j) 0) (o.mul (o.neg x) (get_or by j 0)) =
    λ j. c.add_scaled_row.ensures.added j
    ∙ ap (λ n. o.add (get_or r (s + j) 0) (o.mul n (get_or by j 0))) c.negative.ensures.value in
    let q_over : IsOver o q' = All-set (IsElem o) q s x c.product-c.ensures.elem c.loop-s.invariant.q_over in
    record {
      q_over = q_over;
      r_over = c.add_scaled_row.ensures.over;
      q_low = λ k l. get_or-set_other q s k x 0 (λ e. absurd (omega arith)) ∙ c.loop-s.invariant.q_low k (omega arith);
      r_high = step_small o L r r' by s c.args.unit c.loop-s.invariant.r_over c.requires.by_over c.requires.unit_elem
          c.requires.nonzero c.requires.is_unit
          (λ j. added j ∙ ap (λ y.
          o.add (get_or r (s + j) 0) (o.mul (o.neg y) (get_or by j 0))) c.product-c.ensures.value)
          (λ k l. c.loop-s.invariant.r_high k (omega arith));
      whole = λ k. step_whole o L q q' r r' by c.loop-s.invariant.q_over q_over c.loop-s.invariant.r_over
          c.add_scaled_row.ensures.over c.requires.by_over
          s x c.product-c.ensures.elem refl (omega arith)
          (c.loop-s.invariant.q_low s (omega arith)) c.add_scaled_row.ensures.kept added k
          ∙ c.loop-s.invariant.whole k;
    }
