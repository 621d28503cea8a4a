use Rattle.std.proofs.Common.{◌≡◌, ◌<◌, ◌≤◌, [], length, get_or, refl, sym, ◌∙◌, ap, subst, arith}
use Rattle.std.proofs.lemmas.Bool.{both_ways}
use Rattle.std.proofs.lemmas.Result.{IfOk-weaker}
use Rattle.theory_tables.specs.Subspace.{InSpan}
use Rattle.theory_tables.proofs.Rows.Sums.{row_at}
use Rattle.theory_tables.specs.Claims.{CentralClaim}
use Rattle.spl_centre.proofs.Multiples.{first_row_claim, second_row_claim}
use Rattle.spl_centre.proofs.identity.outside.Goals as goal

pub returns-then-branch : goal.returns-then-branch
returns-then-branch g c =
    let o = g.F.Field.ops c.args.f.now in
    let a = c.args.a.now in
    let rows = c.args.centre.now.rows in
    let multiples = c.in_ok-multiples.multiples.rows in
    let slice : c.as_slice-rows.result.now ≡ rows = c.as_slice-rows.ensures ∙ c.rows.ensures in
    let long : 2 ≤ length c.as_slice-rows.result.now = omega (arith, ap length slice, c.requires.large) in
    let low : 0 < length c.as_slice-rows.result.now = omega arith in
    let high : 1 < length c.as_slice-rows.result.now = omega arith in
    let first : c.as_slice.result.now ≡ get_or rows 0 [] =
    row_at c.as_slice-rows.result.now 0 c.index-rows-0.result c.as_slice.result.now low c.index-rows-0.is
    c.as_slice.ensures ∙ ap (λ r. get_or r 0 []) slice in
    let second : c.index-rows-1.result ≡ get_or rows 1 [] =
    row_at c.as_slice-rows.result.now 1 c.index-rows-1.result c.index-rows-1.result high c.index-rows-1.is refl
    ∙ ap (λ r. get_or r 1 []) slice in
    let inside = subst (λ v. InSpan o a.dim multiples v) first
    (subst (λ w. InSpan o w multiples c.as_slice.result.now) c.in_ok-multiples.ensures.width
    (c.in_ok-contains.ensures.0 c.if-branch.true)) in
    let basis = rw c.requires.width at c.requires.basis in
    let claim = second_row_claim o
    (g.met.F.Field.laws c.args.f.now) a c.requires.over.of_elements c.requires.associative
    c.args.one.now c.requires.one rows multiples basis c.requires.large c.requires.members
    c.in_ok-multiples.ensures.members inside in
    IfOk-weaker c.copy.result (λ v. v ≡ c.index-rows-1.result) (λ v. CentralClaim o a v)
    (λ v e. subst (λ x. CentralClaim o a x) (sym (e ∙ second)) claim) c.copy.ensures

pub returns : goal.returns
returns g c =
    let o = g.F.Field.ops c.args.f.now in
    let a = c.args.a.now in
    let rows = c.args.centre.now.rows in
    let multiples = c.in_ok-multiples.multiples.rows in
    let slice : c.as_slice-rows.result.now ≡ rows = c.as_slice-rows.ensures ∙ c.rows.ensures in
    let low : 0 < length c.as_slice-rows.result.now = omega (arith, ap length slice, c.requires.large) in
    let tested : c.as_slice.result.now ≡ get_or rows 0 [] =
    row_at c.as_slice-rows.result.now 0 c.index-rows-0.result c.as_slice.result.now low c.index-rows-0.is
    c.as_slice.ensures ∙ ap (λ r. get_or r 0 []) slice in
    let first : c.index-rows-0-else-branch.result ≡ get_or rows 0 [] =
    row_at c.as_slice-rows.result.now 0 c.index-rows-0-else-branch.result c.index-rows-0-else-branch.result low
    c.index-rows-0-else-branch.is refl ∙ ap (λ r. get_or r 0 []) slice in
    let basis = rw c.requires.width at c.requires.basis in
    let claim = first_row_claim o
    (g.met.F.Field.laws c.args.f.now) a c.requires.over.of_elements c.requires.associative
    c.args.one.now c.requires.one rows multiples basis c.requires.large c.requires.members
    c.in_ok-multiples.ensures.members
    (λ s. both_ways c.in_ok-contains.field-0 c.if-branch.false (c.in_ok-contains.ensures.1
    (subst (λ w. InSpan o w multiples c.as_slice.result.now) (sym c.in_ok-multiples.ensures.width)
    (subst (λ v. InSpan o a.dim multiples v) (sym tested) s)))) in
    IfOk-weaker c.copy-else-branch.result (λ v. v ≡ c.index-rows-0-else-branch.result)
    (λ v. CentralClaim o a v)
    (λ v e. subst (λ x. CentralClaim o a x) (sym (e ∙ first)) claim) c.copy-else-branch.ensures
