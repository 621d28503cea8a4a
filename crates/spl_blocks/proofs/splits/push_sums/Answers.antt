use Rattle.std.proofs.Common.{◌≡◌, ◌+◌, ◌*◌, ℕ, length, subst, arith, sym, ◌∙◌}
use Rattle.spl_blocks.specs.Splits.{AreKept, IsSumOf}
use Rattle.spl_blocks.proofs.KeptSteps.{kept_step_by, sum_candidate, item_at, proper_subspace, proper_width}
use Rattle.spl_blocks.proofs.splits.push_sums.Goals as goal

pub sum-requires : goal.sum-requires
sum-requires g c =
    let o = g.F.Field.ops c.args.f.now in
    let A = c.args.a.now in
    let i = c.args.i in
    let j = c.loop-j.j in
    let left = c.args.left.now in
    let right = c.args.right.now in
    let x = item_at o A left i c.index-left-i.result c.requires.index c.index-left-i.is in
    let y = item_at o A right j c.index-right-j.result c.loop-j-test.true c.index-right-j.is in
    let hx = c.requires.left.each i c.requires.index in
    let hy = c.requires.right.each j c.loop-j-test.true in
    record {
      left = proper_subspace o A left i c.index-left-i.result x hx;
      right = proper_subspace o A right j c.index-right-j.result y hy;
      same_width = proper_width o A right j c.index-right-j.result y hy
          ∙ sym (proper_width o A left i c.index-left-i.result x hx);
    }

pub loop-j-init : goal.loop-j-init
loop-j-init g c =
    let o = g.F.Field.ops c.args.f.now in
    let A = c.args.a.now in
    let n = c.args.i * length c.args.right.now in
    let q : n ≡ n + 0 = omega arith in
    let P : ℕ → Type 0 = λ k. AreKept o A k (IsSumOf o A c.args.left.now c.args.right.now) c.args.out.now in
    subst P q c.requires.out

pub loop-j-preserved : goal.loop-j-preserved
loop-j-preserved g c =
    let o = g.F.Field.ops c.args.f.now in
    let A = c.args.a.now in
    let i = c.args.i in
    let j = c.loop-j.j in
    let left = c.args.left.now in
    let right = c.args.right.now in
    let n = i * length right in
    let x = item_at o A left i c.index-left-i.result c.requires.index c.index-left-i.is in
    let y = item_at o A right j c.index-right-j.result c.loop-j-test.true c.index-right-j.is in
    let hx = c.requires.left.each i c.requires.index in
    let s = c.in_ok-sum in
    let new = c.push_smaller.new.out in
    let is = sum_candidate o A left right i j c.loop-j-test.true c.index-left-i.result c.index-right-j.result s.sum x y
    (proper_width o A left i c.index-left-i.result x hx) s.ensures.basis s.ensures.width s.ensures.members in
    let q : n + j + 1 ≡ n + (j + 1) = omega arith in
    let P : ℕ → Type 0 = λ k. AreKept o A k (IsSumOf o A left right) new in
    subst P q (kept_step_by o A (IsSumOf o A left right)
    (n + j) c.dim-m.result c.dim-m.ensures.dim c.loop-j.out new s.sum
    c.loop-j.invariant is c.in_ok-push_smaller.ensures)

pub returns : goal.returns
returns g c =
    let o = g.F.Field.ops c.args.f.now in
    let A = c.args.a.now in
    let right = c.args.right.now in
    let ended : c.loop-j.j ≡ length right = omega arith in
    let P : ℕ → Type 0 = λ k. AreKept o A (c.args.i * length right + k)
    (IsSumOf o A c.args.left.now right) c.loop-j.out in
    subst P ended c.loop-j.invariant
