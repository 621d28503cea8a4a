use Rattle.std.proofs.Common.{◌≡◌, ℕ, List, length, sym, ◌∙◌, ap, subst}
use Rattle.std.proofs.lemmas.Result.{IfOk-weaker}
use Rattle.theory_spaces.specs.Tuples.{IsTuple}
use Rattle.theory_tables.specs.Subspace.{Rows}
use Rattle.spl_blocks.specs.Splits.{SpansMultiples, less_multiple}
use Rattle.spl_blocks.proofs.ListSteps.{less_multiple-by}
use Rattle.spl_blocks.proofs.splits.multiples_less.Goals as goal

pub difference-requires-clause-right : goal.difference-requires-clause-right
difference-requires-clause-right g c =
    let o = g.F.Field.ops c.args.f.now in
    let m = c.in_ok-multiple in
    let long : length c.as_slice.result.now ≡ length c.as_slice-2.result.now = ap length c.as_slice.ensures
    ∙ c.requires.one.right_length ∙ sym (ap length c.as_slice-2.ensures ∙ c.requires.element.right_length) in
    let P : ℕ → Type 0 = λ n. IsTuple o n m.multiple in
    let Q : List g.row.F-Elem.Denot → Type 0 = IsTuple o (length c.as_slice-2.result.now) in
    subst Q (sym c.as_slice-3.ensures) (subst P long m.ensures.elem)

pub multiples_of-requires-clause-element : goal.multiples_of-requires-clause-element
multiples_of-requires-clause-element g c =
    let o = g.F.Field.ops c.args.f.now in
    let l = c.in_ok-less in
    let P : ℕ → Type 0 = λ n. IsTuple o n l.less in
    subst P (ap length c.as_slice-2.ensures ∙ c.requires.element.right_length) l.ensures.elem

pub returns-clause-members : goal.returns-clause-members
returns-clause-members g c =
    let o = g.F.Field.ops c.args.f.now in
    let A = c.args.a.now in
    let l = c.in_ok-less in
    let is : l.less ≡ less_multiple o A c.args.one.now c.args.t.now c.args.c.now =
    less_multiple-by o A c.args.one.now c.args.t.now c.args.c.now c.in_ok-multiple.multiple l.less
    c.as_slice.result.now c.as_slice-2.result.now c.as_slice-3.result.now c.as_slice.ensures c.as_slice-2.ensures
    c.as_slice-3.ensures c.requires.one.right_length c.requires.element.right_length c.in_ok-multiple.ensures.value
    l.ensures.value in
    let P : Rows g.row.F-Elem.Denot → Type 0 = λ s. SpansMultiples o A l.less s.rows in
    let Q : Rows g.row.F-Elem.Denot → Type 0 = λ s.
    SpansMultiples o A (less_multiple o A c.args.one.now c.args.t.now c.args.c.now) s.rows in
    IfOk-weaker c.multiples_of.result P Q
    (λ s h. subst (λ (y : List g.row.F-Elem.Denot). SpansMultiples o A y s.rows) is h) c.multiples_of.ensures.members
