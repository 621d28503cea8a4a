use Rattle.std.proofs.Common.{ℕ, List, subst₂}
use Rattle.spl_algebra.specs.Identity.{IsOne}
use Rattle.spl_algebra.proofs.Identities.{here_exactly, refuted_exactly}
use Rattle.spl_algebra.proofs.algebra.Algebra.identity.Goals as goal

pub returns-clause-value : goal.returns-clause-value
returns-clause-value g c =
    subst₂ (λ (m : ℕ) (cs : List g.row.F-Elem.Denot).
    IsOne (g.F.Field.ops c.args.f.now) (record { dim = m; constants = cs }) c.in_ok-one.one)
    c.dim.ensures.dim c.constants.ensures.value c.in_ok-one.ensures

pub returns-clause-here : goal.returns-clause-here
returns-clause-here g c =
    here_exactly (g.F.Field.ops c.args.f.now) (g.met.F.Field.laws c.args.f.now) c.args.self.now c.requires
    c.in_ok-one.one
    (subst₂ (λ (m : ℕ) (cs : List g.row.F-Elem.Denot).
    IsOne (g.F.Field.ops c.args.f.now) (record { dim = m; constants = cs }) c.in_ok-one.one)
    c.dim.ensures.dim c.constants.ensures.value c.in_ok-one.ensures)

pub returns-clause-refuted : goal.returns-clause-refuted
returns-clause-refuted g c =
    refuted_exactly (g.F.Field.ops c.args.f.now) (g.met.F.Field.laws c.args.f.now) c.args.self.now c.requires
    c.in_ok-one.one
    (subst₂ (λ (m : ℕ) (cs : List g.row.F-Elem.Denot).
    IsOne (g.F.Field.ops c.args.f.now) (record { dim = m; constants = cs }) c.in_ok-one.one)
    c.dim.ensures.dim c.constants.ensures.value c.in_ok-one.ensures)
