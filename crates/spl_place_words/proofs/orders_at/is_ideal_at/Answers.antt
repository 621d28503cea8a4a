use Rattle.spl_field.specs.SmallField.{small_ops, small_laws}
use Rattle.spl_fraction.specs.Fractions.{field_of}
use Rattle.theory_bases.specs.Bases.{tuples_of}
use Rattle.spl_place_words.proofs.PlaceIdeals.{ideal_tells}
use Rattle.spl_place_words.proofs.orders_at.is_ideal_at.Goals as goal

pub returns : goal.returns
returns c =
    let F = field_of c.args.k.now in
    let o = small_ops F in
    let L = small_laws F in
    let A = c.args.a.now in
    let order = c.args.at.now.order in
    let ideal = c.args.ideal.now in
    let i = c.requires.ideal.independent in
    let tells = ideal_tells o L c.args.at.now.place c.requires.place A (tuples_of o L order) (tuples_of o L ideal) i.shape
    c.requires.order in
    let inside = c.in_ok-inside.ensures A.dim c.requires.ideal c.requires.basis in
    let over = c.in_ok-over.ensures A c.requires.basis c.requires.ideal in (
      λ t. let all = c.all_of.ensures.0 t in tells.0 (
        inside.0 all.0,
        over.0 all.1,
        c.in_ok-left.ensures.0 all.2,
        c.in_ok-right.ensures.0 all.3,
      ),
      λ s. let all = tells.1 s in c.all_of.ensures.1 (
        inside.1 all.0,
        over.1 all.1,
        c.in_ok-left.ensures.1 all.2,
        c.in_ok-right.ensures.1 all.3,
      ),
    )
