use Rattle.std.proofs.Common.{◌≡◌, ◌≤◌, ◌<◌, ◌-◌, ℕ, List, All, length, sym, ◌∙◌, ap, subst, arith}
use Rattle.theory_rings.specs.Ops.{IsElem}
use Rattle.theory_tables.specs.Matrix.{IsMatrix}
use Rattle.theory_tables.specs.Subspace.{IsReducedBasis}
use Rattle.spl_algebra.specs.Subspaces.{GeneratesIdeal}
use Rattle.spl_algebra.proofs.Inclusions.{dimension-le}
use Rattle.spl_algebra.proofs.Multiples.{IsBetween-self, IsBetween-more, generates}
use Rattle.spl_algebra.proofs.algebra.Algebra.ideal_generated.Goals as goal

pub loop-constants-init : goal.loop-constants-init
loop-constants-init g c =
    let o = g.F.Field.ops c.args.f.now in
    let L = g.met.F.Field.laws c.args.f.now in
    let by = c.args.by.now in
    let ideal = c.in_ok-ideal in
    let W : ℕ → Type 0 = λ w. IsReducedBasis o w by.rows in
    let wide : by.width ≡ c.dim-m.result = c.requires.width ∙ sym c.dim-m.ensures.dim in
    let cs_elems = subst (λ xs. All (IsElem o) xs)
    (sym c.constants-constants.ensures.value) c.requires.over.of_elements in
    record {
      between = IsBetween-self o L c.dim-m.result c.constants-constants.result.now cs_elems by.rows ideal.ideal.rows
          (subst W wide c.requires.by) (ap (λ s. s.rows) ideal.ensures);
      wide = ap (λ s. s.width) ideal.ensures ∙ wide;
      next_basis = c.in_ok-next.ensures.basis;
      next_wide = c.in_ok-next.ensures.width;
      multiples = c.in_ok-next.ensures.multiples;
    }

pub loop-constants-smaller : goal.loop-constants-smaller
loop-constants-smaller g c =
    let o = g.F.Field.ops c.args.f.now in
    let L = g.met.F.Field.laws c.args.f.now in
    let l = c.loop-constants in
    let few = dimension-le o L c.dim-m.result l.next.rows l.invariant.next_basis in
    let more : length l.ideal.rows < length l.next.rows = omega arith in
    let less : c.dim-m.result - length l.next.rows < c.dim-m.result - length l.ideal.rows = omega arith in
    less

pub loop-constants-preserved : goal.loop-constants-preserved
loop-constants-preserved g c =
    let o = g.F.Field.ops c.args.f.now in
    let L = g.met.F.Field.laws c.args.f.now in
    let l = c.loop-constants in
    let next = c.in_ok-next-2 in
    let cs_elems = subst (λ xs. All (IsElem o) xs)
    (sym c.constants-constants.ensures.value) c.requires.over.of_elements in
    record {
      between = IsBetween-more o L c.dim-m.result c.constants-constants.result.now cs_elems c.args.by.now.rows
          l.ideal.rows l.next.rows l.invariant.between l.invariant.next_basis l.invariant.multiples;
      wide = l.invariant.next_wide;
      next_basis = next.ensures.basis;
      next_wide = next.ensures.width;
      multiples = next.ensures.multiples;
    }

pub returns-clause-members : goal.returns-clause-members
returns-clause-members g c =
    let o = g.F.Field.ops c.args.f.now in
    let L = g.met.F.Field.laws c.args.f.now in
    let A = c.args.self.now in
    let by = c.args.by.now in
    let l = c.loop-constants in
    let m = c.dim-m.result in
    let cs = c.constants-constants.result.now in
    let cs_elems = subst (λ xs. All (IsElem o) xs)
    (sym c.constants-constants.ensures.value) c.requires.over.of_elements in
    let wide : by.width ≡ m = c.requires.width ∙ sym c.dim-m.ensures.dim in
    let W : ℕ → Type 0 = λ w. IsMatrix o w by.rows in
    let short : length l.next.rows ≤ length l.ideal.rows = omega arith in
    let M : ℕ → Type 0 = λ d. GeneratesIdeal o (record { dim = d; constants = cs }) by.rows l.ideal.rows in
    let C : List g.row.F-Elem.Denot
    → Type 0 = λ xs. GeneratesIdeal o (record { dim = A.dim; constants = xs }) by.rows l.ideal.rows in
    subst C c.constants-constants.ensures.value (subst M c.dim-m.ensures.dim
    (generates o L m cs cs_elems by.rows l.ideal.rows l.next.rows
    (subst W wide c.requires.by.shape) l.invariant.between l.invariant.next_basis l.invariant.multiples short))
