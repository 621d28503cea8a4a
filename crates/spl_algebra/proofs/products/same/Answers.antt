use Rattle.std.proofs.Common.{refl, sym, arith}
use Rattle.std.proofs.lemmas.List.{ext_get_or}
use Rattle.spl_algebra.proofs.products.same.Goals as goal

pub returns : goal.returns
returns g c =
    let o = g.F.Field.ops c.args.f.now in (
      λ _. ext_get_or o.zero c.args.a.now c.args.b.now (sym c.requires.right.right_length)
          (λ k l. c.loop-k.invariant k (omega arith)),
      λ _. refl,
    )
