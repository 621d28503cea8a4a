use Rattle.std.proofs.Common.{◌≡◌, ◌∷◌, ◌++◌, [], length, List, All, sym, ◌∙◌, ap, subst}
use Rattle.spl_generators.proofs.Subalgebras.{one_more}
use Rattle.spl_generators.proofs.generators.with_row.Goals as goal

pub copy-requires : goal.copy-requires
copy-requires g c = λ i d l. let t = c.requires.rows.shape i d l in t.of_elements

pub push-requires : goal.push-requires
push-requires g c =
    let P : List (List g.row.F-Elem.Denot) → Type 0 = All (λ row. length row ≡ length c.args.row) in
    subst P (sym c.in_ok-more.ensures)
    (λ k d k_in. let t = c.requires.rows.shape k d k_in in t.right_length ∙ sym c.requires.row.right_length)

pub returns : goal.returns
returns g c =
    let o = g.F.Field.ops c.args.f.now in
    let L = g.met.F.Field.laws c.args.f.now in
    one_more o L c.args.a.now c.args.by.now c.args.rows.now c.push.new.self c.args.row c.requires.rows c.requires.row
    c.requires.generated (c.in_ok-push.ensures.ok ∙ ap (λ xs. xs ++ c.args.row ∷ []) c.in_ok-more.ensures)
