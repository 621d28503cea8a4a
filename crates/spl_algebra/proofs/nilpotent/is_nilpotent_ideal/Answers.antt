use Rattle.std.proofs.Common.{◌≡◌, ◌≤◌, ◌<◌, ℕ, List, length, sym, ◌∙◌, ap, subst, arith}
use Rattle.theory_tables.specs.Subspace.{Rows, IsReducedBasis}
use Rattle.spl_algebra.proofs.SquareIdeals.{ideal_starts, squared, no_power_vanishes, nothing_vanishes, yes, no}
use Rattle.spl_algebra.proofs.nilpotent.is_nilpotent_ideal.Goals as goal

pub squares-init : goal.squares-init
squares-init g c =
    let o = g.F.Field.ops c.args.f.now in
    let L = g.met.F.Field.laws c.args.f.now in
    let A = c.args.a.now in
    let by = c.args.ideal.now in
    let power = c.in_ok-power in
    let e : power.power.rows ≡ by.rows = ap (λ (s : Rows g.row.F-Elem.Denot). s.rows) power.ensures in
    let W : ℕ → Type 0 = λ w. IsReducedBasis o w by.rows in
    let B : List (List g.row.F-Elem.Denot) → Type 0 = IsReducedBasis o A.dim in
    record {
      basis = subst B (sym e) (subst W c.requires.width c.requires.basis);
      wide = ap (λ (s : Rows g.row.F-Elem.Denot). s.width) power.ensures ∙ c.requires.width;
      square = ideal_starts o L A c.requires.over.of_elements c.requires.associative by.rows power.power.rows e
          c.requires.ideal;
    }

pub power_of_ideal-requires-clause-basis : goal.power_of_ideal-requires-clause-basis
power_of_ideal-requires-clause-basis g c =
    let o = g.F.Field.ops c.args.f.now in
    let l = c.squares in
    let W : ℕ → Type 0 = λ w. IsReducedBasis o w l.power.rows in
    subst W (sym l.invariant.wide) l.invariant.basis

pub power_of_ideal-requires-clause-width : goal.power_of_ideal-requires-clause-width
power_of_ideal-requires-clause-width g c = c.squares.invariant.wide

pub squares-preserved : goal.squares-preserved
squares-preserved g c =
    let o = g.F.Field.ops c.args.f.now in
    let L = g.met.F.Field.laws c.args.f.now in
    let A = c.args.a.now in
    let l = c.squares in
    let next = c.in_ok-square in
    let W : ℕ → Type 0 = λ w. IsReducedBasis o w next.square.rows in
    record {
      basis = subst W next.ensures.width next.ensures.basis;
      wide = next.ensures.width;
      square = squared o L A c.requires.over.of_elements c.requires.associative c.args.ideal.now.rows l.power.rows
          next.square.rows l.invariant.square next.ensures.members;
    }

pub returns-then-dim : goal.returns-then-dim
returns-then-dim g c =
    let o = g.F.Field.ops c.args.f.now in
    let L = g.met.F.Field.laws c.args.f.now in
    let A = c.args.a.now in
    let l = c.squares in
    let next = c.in_ok-square in
    let W : ℕ → Type 0 = λ w. IsReducedBasis o w next.square.rows in
    let some : 0 < length l.power.rows = omega (arith, c.squares-test.true, c.dim.ensures) in
    let low : length l.power.rows ≤ length next.square.rows =
    omega (arith, c.if-dim.true, c.dim-in-squares.ensures, c.dim-in-squares-2.ensures) in
    no (no_power_vanishes o L A c.requires.over.of_elements c.requires.associative c.args.ideal.now.rows l.power.rows
    next.square.rows l.invariant.square next.ensures.members l.invariant.basis
    (subst W next.ensures.width next.ensures.basis) some low)

pub returns : goal.returns
returns g c =
    let o = g.F.Field.ops c.args.f.now in
    let L = g.met.F.Field.laws c.args.f.now in
    let A = c.args.a.now in
    let l = c.squares in
    let none : length l.power.rows ≡ 0 = omega (arith, c.squares-test.false, c.dim.ensures) in
    yes (nothing_vanishes o L A c.requires.over.of_elements c.requires.associative c.args.ideal.now.rows l.power.rows
    l.invariant.square none)
