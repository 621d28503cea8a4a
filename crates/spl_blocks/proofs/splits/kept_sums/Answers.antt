use Rattle.std.proofs.Common.{◌≡◌, ◌+◌, ◌*◌, ℕ, length, subst, arith}
use Rattle.spl_blocks.specs.Splits.{AreKept, IsSumOf}
use Rattle.spl_blocks.proofs.KeptSteps.{kept_none}
use Rattle.spl_blocks.proofs.splits.kept_sums.Goals as goal

pub loop-i-init : goal.loop-i-init
loop-i-init g c =
    let o = g.F.Field.ops c.args.f.now in
    let A = c.args.a.now in
    let z : 0 * length c.args.right.now ≡ 0 = omega arith in
    kept_none o A (IsSumOf o A c.args.left.now c.args.right.now) (0 * length c.args.right.now) z c.new-out.result
    c.new-out.ensures

pub loop-i-preserved : goal.loop-i-preserved
loop-i-preserved g c =
    let o = g.F.Field.ops c.args.f.now in
    let A = c.args.a.now in
    let i = c.loop-i.i in
    let n = length c.args.right.now in
    let q : i * n + n ≡ (i + 1) * n = omega arith in
    let P : ℕ → Type 0 = λ k. AreKept o A k (IsSumOf o A c.args.left.now c.args.right.now) c.push_sums.new.out in
    subst P q c.in_ok-push_sums.ensures

pub returns : goal.returns
returns g c =
    let o = g.F.Field.ops c.args.f.now in
    let A = c.args.a.now in
    let ended : c.loop-i.i ≡ length c.args.left.now = omega arith in
    let P : ℕ → Type 0 = λ k. AreKept o A (k * length c.args.right.now)
    (IsSumOf o A c.args.left.now c.args.right.now) c.loop-i.out in
    subst P ended c.loop-i.invariant
