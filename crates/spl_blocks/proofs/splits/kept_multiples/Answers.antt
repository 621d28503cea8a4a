use Rattle.std.proofs.Common.{◌≡◌, ℕ, length, subst, arith, refl}
use Rattle.theory_tables.proofs.Rows.Sums.{read_at}
use Rattle.spl_blocks.specs.Splits.{AreKept, IsMultiples, SpansMultiples, less_multiple}
use Rattle.spl_blocks.proofs.KeptSteps.{kept_none, kept_step_by}
use Rattle.spl_blocks.proofs.splits.kept_multiples.Goals as goal

pub loop-r-init : goal.loop-r-init
loop-r-init g c =
    let o = g.F.Field.ops c.args.f.now in
    let A = c.args.a.now in
    kept_none o A (IsMultiples o A c.args.one.now c.args.t.now c.args.constants.now) 0 refl c.new-out.result
    c.new-out.ensures

pub loop-r-preserved : goal.loop-r-preserved
loop-r-preserved g c =
    let o = g.F.Field.ops c.args.f.now in
    let A = c.args.a.now in
    let one = c.args.one.now in
    let t = c.args.t.now in
    let cs = c.args.constants.now in
    let r = c.loop-r.r in
    let s = c.in_ok-multiples in
    let item = read_at o cs r c.index-constants-r.result c.loop-r-test.true c.index-constants-r.is in
    let P : g.row.F-Elem.Denot → Type 0 = λ x. SpansMultiples o A (less_multiple o A one t x) s.multiples.rows in
    kept_step_by o A (IsMultiples o A one t cs) r c.dim-m.result c.dim-m.ensures.dim c.loop-r.out c.push_smaller.new.out
    s.multiples c.loop-r.invariant
    (record { basis = s.ensures.basis; width = s.ensures.width; members = subst P item s.ensures.members })
    c.in_ok-push_smaller.ensures

pub returns : goal.returns
returns g c =
    let o = g.F.Field.ops c.args.f.now in
    let A = c.args.a.now in
    let ended : c.loop-r.r ≡ length c.args.constants.now = omega arith in
    let P : ℕ → Type 0 = λ n. AreKept o A n (IsMultiples o A c.args.one.now c.args.t.now c.args.constants.now)
    c.loop-r.out in
    subst P ended c.loop-r.invariant
