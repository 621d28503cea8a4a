use Rattle.std.proofs.Common.{◌≡◌, ℕ, inl, inr, refl, sym, subst, ◌∙◌}
use Rattle.std.proofs.lemmas.Bool.{both_ways}
use Rattle.theory_tables.specs.Subspace.{AreIndependent}
use Rattle.spl_check.proofs.SideSpans.{SameSpan-read}
use Rattle.spl_check.proofs.kinds.check_ideal.Goals as goal

pub are_independent-requires-clause-span : goal.are_independent-requires-clause-span
are_independent-requires-clause-span g c =
    let s = c.in_ok-space.space in
    SameSpan-read (g.F.Field.ops c.args.f.now) c.dim.result s.width s.rows c.in_ok-copied.field-0.items
    c.args.tuples.now (sym c.in_ok-space.ensures.width) c.in_ok-copied.ensures c.in_ok-space.ensures.members

pub is_closed-requires-clause-span : goal.is_closed-requires-clause-span
is_closed-requires-clause-span g c =
    SameSpan-read (g.F.Field.ops c.args.f.now) c.dim.result c.args.algebra.now.dim c.in_ok-space.space.rows
    c.in_ok-copied.field-0.items c.args.tuples.now c.dim.ensures.dim c.in_ok-copied.ensures
    c.in_ok-space.ensures.members

pub is_closed-requires-2-clause-span : goal.is_closed-requires-2-clause-span
is_closed-requires-2-clause-span g c =
    SameSpan-read (g.F.Field.ops c.args.f.now) c.dim.result c.args.algebra.now.dim c.in_ok-space.space.rows
    c.in_ok-copied.field-0.items c.args.tuples.now c.dim.ensures.dim c.in_ok-copied.ensures
    c.in_ok-space.ensures.members

pub returns-then-not-are_independent : goal.returns-then-not-are_independent
returns-then-not-are_independent g c =
    let o = g.F.Field.ops c.args.f.now in
    let wide : c.in_ok-space.space.width ≡ c.args.algebra.now.dim = c.in_ok-space.ensures.width ∙ c.dim.ensures.dim in
    inl (
      (λ h. both_ways c.are_independent.result c.if-not-are_independent.true
          (c.are_independent.ensures.1 (subst (λ (w : ℕ). AreIndependent o w c.args.tuples.now) (sym wide) h))),
      refl,
    )

pub returns-then-not-branch-2 : goal.returns-then-not-branch-2
returns-then-not-branch-2 g c =
    let o = g.F.Field.ops c.args.f.now in
    let wide : c.in_ok-space.space.width ≡ c.args.algebra.now.dim = c.in_ok-space.ensures.width ∙ c.dim.ensures.dim in
    inr (
      subst (λ (w : ℕ). AreIndependent o w c.args.tuples.now) wide
          (c.are_independent.ensures.0 c.if-not-are_independent.false),
      inr (
        c.in_ok-is_closed.ensures.0 c.if-not-branch.false,
        inl (
          (λ h. both_ways c.in_ok-is_closed-2.field-0 c.if-not-branch-2.true
              (c.in_ok-is_closed-2.ensures.1 h)),
          refl,
        ),
      ),
    )
