use Rattle.std.proofs.Common.{◌==◌, length, ap, sym, ◌∙◌, arith, below_more, cond}
use Rattle.std.proofs.lemmas.Bool.{both_ways}
use Rattle.theory_tables.proofs.Rows.Sums.{read_at}
use Rattle.spl_matrix.proofs.Changes.{read-elem}
use Rattle.spl_check.proofs.BasisProducts.{at-multiple, is_multiple, multiple-at}
use Rattle.spl_check.proofs.Tests.{yes, no}
use Rattle.spl_check.proofs.central.is_multiple_of_basis.Goals as goal

pub is_chosen-requires : goal.is_chosen-requires
is_chosen-requires g c = record {
  item = read-elem (g.F.Field.ops c.args.f.now) c.args.v.now c.loop-k.k c.index-v-k.result c.requires.tuple
      c.loop-k-test.true c.index-v-k.is;
  first = c.requires.factor;
  second = c.requires.zero_elem;
}

pub loop-k-preserved : goal.loop-k-preserved
loop-k-preserved g c =
    let o = g.F.Field.ops c.args.f.now in
    let L = g.met.F.Field.laws c.args.f.now in
    let v = c.args.v.now in
    let k = c.loop-k.k in
    let i = c.args.i in
    let x = c.args.c.now in
    below_more _ _ c.loop-k.invariant
    (sym (read_at o v k c.index-v-k.result c.loop-k-test.true c.index-v-k.is)
    ∙ c.is_chosen.ensures.0 c.if-not-is_chosen.false
    ∙ ap (λ z. cond (k == i) x z) c.requires.zero
    ∙ at-multiple o L (length v) i k x c.requires.factor c.loop-k-test.true)

pub returns : goal.returns
returns g c =
    yes (is_multiple (g.F.Field.ops c.args.f.now) (g.met.F.Field.laws c.args.f.now) c.args.i c.args.c.now c.args.v.now
    (λ k k_in. c.loop-k.invariant k (omega (arith, k_in, c.loop-k-test.false))))

pub returns-then-not-is_chosen : goal.returns-then-not-is_chosen
returns-then-not-is_chosen g c =
    let o = g.F.Field.ops c.args.f.now in
    let L = g.met.F.Field.laws c.args.f.now in
    let v = c.args.v.now in
    let k = c.loop-k.k in
    let i = c.args.i in
    let x = c.args.c.now in
    no (λ e. both_ways c.is_chosen.result c.if-not-is_chosen.true (c.is_chosen.ensures.1
    (read_at o v k c.index-v-k.result c.loop-k-test.true c.index-v-k.is
    ∙ multiple-at o L i k x v c.loop-k-test.true e
    ∙ sym (at-multiple o L (length v) i k x c.requires.factor c.loop-k-test.true)
    ∙ sym (ap (λ z. cond (k == i) x z) c.requires.zero))))
