use Rattle.std.proofs.Common.{◌∙◌, sym, arith, refl, below_more}
use Rattle.theory_tables.proofs.Rows.Sums.{read_at}
use Rattle.spl_matrix.proofs.Changes.{read-elem}
use Rattle.spl_matrix.proofs.basis.is_combination.Goals as goal

pub combined_item-requires : goal.combined_item-requires
combined_item-requires g c = record {
  shape = c.requires.shape;
  weights = c.requires.weights;
  zero_elem = c.in_ok-zero.ensures.elem;
  zero = c.in_ok-zero.ensures.value;
  column = c.loop-j-test.true;
}

pub eq-requires : goal.eq-requires
eq-requires g c = record {
  left = read-elem (g.F.Field.ops c.args.f.now) c.args.v.now c.loop-j.j c.index-v-j.result c.requires.vector
      c.loop-j-test.true c.index-v-j.is;
  right = c.in_ok-item.ensures.elem;
}

pub loop-j-preserved : goal.loop-j-preserved
loop-j-preserved g c =
    let o = g.F.Field.ops c.args.f.now in
    below_more _ _ c.loop-j.invariant
    (sym (read_at o c.args.v.now c.loop-j.j c.index-v-j.result c.loop-j-test.true c.index-v-j.is)
    ∙ c.eq.ensures.0 c.if-not-eq.false ∙ c.in_ok-item.ensures.value)

pub returns : goal.returns
returns g c = ((λ _ j j_in. c.loop-j.invariant j (omega arith)), (λ _. refl))
