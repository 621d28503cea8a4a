use Rattle.std.proofs.Common.{◌≡◌, ℕ, length, sym, ◌∙◌, subst}
use Rattle.theory_tables.specs.Matrix.{IsMatrix}
use Rattle.theory_tables.specs.Subspace.{SameSpan}
use Rattle.spl_blocks.proofs.ListSteps.{spans_multiples, left_columns, left_columns-wide}
use Rattle.spl_blocks.proofs.splits.multiples_of.Goals as goal

pub span-requires : goal.span-requires
span-requires g c =
    let o = g.F.Field.ops c.args.f.now in
    let A = c.args.a.now in
    let wide : length c.as_slice.result.now ≡ c.dim-m.result = left_columns-wide o A c.args.y.now c.in_ok-matrix.matrix
    c.as_slice.result.now c.as_slice.ensures c.in_ok-matrix.ensures.value ∙ sym c.dim-m.ensures.dim in
    let P : ℕ → Type 0 = λ n. IsMatrix o n c.in_ok-rows.rows in
    record { shape = subst P wide c.in_ok-rows.ensures.shape }

pub returns-clause-members : goal.returns-clause-members
returns-clause-members g c =
    let o = g.F.Field.ops c.args.f.now in
    let A = c.args.a.now in
    let y = c.args.y.now in
    let rows = c.in_ok-rows in
    let s = c.in_ok-multiples in
    let slice = c.as_slice.result.now in
    let wide = left_columns-wide o A y c.in_ok-matrix.matrix slice c.as_slice.ensures c.in_ok-matrix.ensures.value in
    let P : ℕ → Type 0 = λ n. IsMatrix o n rows.rows in
    let Q : ℕ → Type 0 = λ n. SameSpan o n s.multiples.rows rows.rows in
    spans_multiples o (g.met.F.Field.laws c.args.f.now) A c.requires.unital y c.requires.element rows.rows
    (subst P wide rows.ensures.shape)
    (left_columns o A y c.in_ok-matrix.matrix slice c.as_slice.ensures c.in_ok-matrix.ensures.value rows.rows
    c.dim-m.result c.dim-m.ensures.dim rows.ensures.value) s.multiples.rows
    (subst Q c.dim-m.ensures.dim s.ensures.members)
