use Rattle.std.proofs.Common.{◌≡◌, ◌<◌, ◌+◌, ◌-◌, ◌*◌, ℕ, get_or, length, ◌∙◌, ap, subst, arith}
use Rattle.theory_spaces.proofs.Matrices.PairIndex.{pair-lt}
use Rattle.theory_tables.specs.Claims.{IsBasisNumber}
use Rattle.spl_algebra.specs.Entries.{AreEntries}
use Rattle.spl_algebra.proofs.EntryLists.{entries_at, place_fits}
use Rattle.spl_algebra.proofs.algebra.Algebra.entries.Goals as goal

-- the number of a basis element, counted from 0
before : (m n i : ℕ) → m ≡ n → IsBasisNumber n i → i - 1 < m
before m n i e h = omega (arith, e, h.0, h.1)

-- (a list takes 24 bytes of a slice)
pub offset_bounds-as_slice-row : goal.offset_bounds-as_slice-row
offset_bounds-as_slice-row g c =
    let s = c.self.inside in
    let width = ap (λ A. A.dim) c.self.view_is in
    let first = before s.dim c.args.self.now.dim c.args.i width c.requires.left in
    let second = before s.dim c.args.self.now.dim c.args.j width c.requires.right in
    let r = (c.args.i - 1) * s.dim + (c.args.j - 1) in
    record {
      fits = place_fits 24 s.dim r (omega arith) (pair-lt s.dim s.dim (c.args.i - 1) (c.args.j - 1) first second)
          c.self.invariant.2;
    }

pub bounds-as_slice-row : goal.bounds-as_slice-row
bounds-as_slice-row g c =
    let s = c.self.inside in
    let width = ap (λ A. A.dim) c.self.view_is in
    let first = before s.dim c.args.self.now.dim c.args.i width c.requires.left in
    let second = before s.dim c.args.self.now.dim c.args.j width c.requires.right in
    let long = ap length c.as_slice.ensures in
    omega (arith, long, c.self.invariant.3, pair-lt s.dim s.dim (c.args.i - 1) (c.args.j - 1) first second)

pub returns : goal.returns
returns g c = λ f.
    let o = g.F.Field.ops f in
    let s = c.self.inside in
    let i = c.args.i in
    let j = c.args.j in
    let x = c.index-as_slice-row in
    let width = ap (λ A. A.dim) c.self.view_is in
    let first = before s.dim c.args.self.now.dim i width c.requires.left in
    let second = before s.dim c.args.self.now.dim j width c.requires.right in
    subst (λ A. AreEntries o A i j x.result) c.self.view_is
    (entries_at o s.dim s.constants s.entries (i - 1) (j - 1) x.result (c.self.invariant.4 f) first second
    (x.is ∙ ap (λ xs. get_or xs ((i - 1) * s.dim + (j - 1)) x.result) c.as_slice.ensures))
