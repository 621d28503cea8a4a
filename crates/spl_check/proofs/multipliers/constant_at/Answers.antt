use Rattle.std.proofs.Common.{◌-◌, ◌<◌, cond, ap, sym, subst, ◌∙◌, arith}
use Rattle.theory_rings.specs.Ops.{IsElem}
use Rattle.theory_spaces.specs.Tuples.{constant}
use Rattle.spl_check.proofs.BasisProducts.{read_constant}
use Rattle.spl_check.proofs.MultiplierLists.{constant-elem}
use Rattle.spl_check.proofs.multipliers.constant_at.Goals as goal

pub returns-then-is_left : goal.returns-then-is_left
returns-then-is_left g c =
    let o = g.F.Field.ops c.args.f.now in
    let L = g.met.F.Field.laws c.args.f.now in
    let A = c.args.algebra.now in
    let i = c.args.i in
    let j = c.args.j - 1 in
    let k = c.args.k - 1 in
    let j_in : j < A.dim = omega (arith, c.requires.j_low, c.requires.j_high) in
    let k_in : k < A.dim = omega (arith, c.requires.k_low, c.requires.k_high) in
    let row = c.basis_product in
    let is = read_constant o L A c.requires.over i j k c.requires.i j_in k_in row.result.now
    c.index-basis_product-k.result row.ensures.elem.right_length row.ensures.value c.index-basis_product-k.is in
    record {
      elem = subst (IsElem o) (sym is) (constant-elem o L A c.requires.over i j k);
      value = is ∙ sym (ap (λ b. cond b (constant o A.dim A.constants i j k) (constant o A.dim A.constants j i k))
          c.if-is_left.true);
    }

pub returns : goal.returns
returns g c =
    let o = g.F.Field.ops c.args.f.now in
    let L = g.met.F.Field.laws c.args.f.now in
    let A = c.args.algebra.now in
    let i = c.args.i in
    let j = c.args.j - 1 in
    let k = c.args.k - 1 in
    let j_in : j < A.dim = omega (arith, c.requires.j_low, c.requires.j_high) in
    let k_in : k < A.dim = omega (arith, c.requires.k_low, c.requires.k_high) in
    let row = c.basis_product-2 in
    let is = read_constant o L A c.requires.over j i k j_in c.requires.i k_in row.result.now
    c.index-basis_product-k-2.result row.ensures.elem.right_length row.ensures.value c.index-basis_product-k-2.is in
    record {
      elem = subst (IsElem o) (sym is) (constant-elem o L A c.requires.over j i k);
      value = is ∙ sym (ap (λ b. cond b (constant o A.dim A.constants i j k) (constant o A.dim A.constants j i k))
          c.if-is_left.false);
    }
