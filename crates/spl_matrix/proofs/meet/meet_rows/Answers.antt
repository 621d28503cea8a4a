use Rattle.std.proofs.Common.{◌≡◌, ◌+◌, ◌<◌, ℕ, List, length, sym, ap, subst, ◌∙◌, arith}
use Rattle.std.proofs.lemmas.Result.{IfOk-weaker}
use Rattle.theory_tables.specs.Matrix.{IsMatrix}
use Rattle.theory_tables.specs.Subspace.{IsReducedBasis, SameSpan, SpansMeet}
use Rattle.spl_matrix.specs.Spanning.{IsRightPart}
use Rattle.spl_matrix.proofs.Meets.{twice, twice_shape, meet_of, meet_none}
use Rattle.spl_matrix.proofs.meet.meet_rows.Goals as goal

pub returns-then-h-eq0 : goal.returns-then-h-eq0
returns-then-h-eq0 g c =
    let o = g.F.Field.ops c.args.f.now in
    let L = g.met.F.Field.laws c.args.f.now in
    let w = c.args.w in
    let a = c.args.a.now in
    let b = c.args.b.now in
    let sa = c.requires.left in
    let sb = c.requires.right in
    let made = c.in_ok-twice.twice.items in
    let made_is : made ≡ twice o L w a b sa sb = c.in_ok-twice.ensures in
    let none : length made ≡ 0 = omega (arith, c.in_ok-twice.twice.ok) in
    let both = meet_none o L w a b sa sb c.new.result c.new.ensures (sym (ap length made_is) ∙ none) in
    record { basis = both.0; members = both.1 }

pub basis_of-requires : goal.basis_of-requires
basis_of-requires g c =
    let o = g.F.Field.ops c.args.f.now in
    let L = g.met.F.Field.laws c.args.f.now in
    let w = c.args.w in
    let a = c.args.a.now in
    let b = c.args.b.now in
    let sa = c.requires.left in
    let sb = c.requires.right in
    let made = c.in_ok-twice.twice.items in
    let made_is : made ≡ twice o L w a b sa sb = c.in_ok-twice.ensures in
    let M : List (List g.row.F-Elem.Denot) → Type 0 = λ m. IsMatrix o (w + w) m in
    let shape : IsMatrix o (w + w) made = subst M (sym made_is) (twice_shape o L w a b sa sb) in
    let some : 0 < length made = omega (arith, c.in_ok-twice.twice.ok) in
    let n_is : c.len-n.result ≡ w + w = c.len-n.ensures ∙ ap length c.index.ensures
    ∙ (shape 0 c.index.result.now some).right_length in
    let N : ℕ → Type 0 = λ n. IsMatrix o n made in
    subst N (sym n_is) shape

pub right_part-requires : goal.right_part-requires
right_part-requires g c =
    let o = g.F.Field.ops c.args.f.now in
    let L = g.met.F.Field.laws c.args.f.now in
    let w = c.args.w in
    let a = c.args.a.now in
    let b = c.args.b.now in
    let sa = c.requires.left in
    let sb = c.requires.right in
    let made = c.in_ok-twice.twice.items in
    let made_is : made ≡ twice o L w a b sa sb = c.in_ok-twice.ensures in
    let M : List (List g.row.F-Elem.Denot) → Type 0 = λ m. IsMatrix o (w + w) m in
    let shape : IsMatrix o (w + w) made = subst M (sym made_is) (twice_shape o L w a b sa sb) in
    let some : 0 < length made = omega (arith, c.in_ok-twice.twice.ok) in
    let n_is : c.len-n.result ≡ w + w = c.len-n.ensures ∙ ap length c.index.ensures
    ∙ (shape 0 c.index.result.now some).right_length in
    let B : List (List g.row.F-Elem.Denot) → Type 0 = λ m. IsReducedBasis o c.len-n.result m in
    record { basis = subst B (sym c.as_slice.ensures) c.in_ok-rows.ensures.basis; width = n_is }

pub returns : goal.returns
returns g c =
    let o = g.F.Field.ops c.args.f.now in
    let L = g.met.F.Field.laws c.args.f.now in
    let w = c.args.w in
    let a = c.args.a.now in
    let b = c.args.b.now in
    let sa = c.requires.left in
    let sb = c.requires.right in
    let made = c.in_ok-twice.twice.items in
    let made_is : made ≡ twice o L w a b sa sb = c.in_ok-twice.ensures in
    let M : List (List g.row.F-Elem.Denot) → Type 0 = λ m. IsMatrix o (w + w) m in
    let shape : IsMatrix o (w + w) made = subst M (sym made_is) (twice_shape o L w a b sa sb) in
    let some : 0 < length made = omega (arith, c.in_ok-twice.twice.ok) in
    let n_is : c.len-n.result ≡ w + w = c.len-n.ensures ∙ ap length c.index.ensures
    ∙ (shape 0 c.index.result.now some).right_length in
    let rows = c.in_ok-rows.rows in
    let N : ℕ → Type 0 = λ n. IsMatrix o n rows in
    let S : ℕ → Type 0 = λ n. SameSpan o n made rows in
    let T : List (List g.row.F-Elem.Denot) → Type 0 = λ m. SameSpan o (w + w) m rows in
    let rows_shape = subst N n_is c.in_ok-rows.ensures.basis.shape in
    let same = subst T made_is (subst S n_is c.in_ok-rows.ensures.same) in
    let P : List (List g.row.F-Elem.Denot) → Type 0 = λ m. IsRightPart o w c.as_slice.result.now m in
    let B : List (List g.row.F-Elem.Denot) → Type 0 = λ m. IsReducedBasis o w m in
    let V : List (List g.row.F-Elem.Denot) → Type 0 = λ m. SpansMeet o w m a b in
    let both = λ (m : List (List g.row.F-Elem.Denot)) (p : IsRightPart o w c.as_slice.result.now m).
    meet_of o L w a b sa sb rows m rows_shape same
    (subst (λ (r : List (List g.row.F-Elem.Denot)). IsRightPart o w r m) c.as_slice.ensures p) in
    record {
      basis = IfOk-weaker c.right_part.result P B (λ m p. (both m p).0) c.right_part.ensures;
      members = IfOk-weaker c.right_part.result P V (λ m p. (both m p).1) c.right_part.ensures;
    }
