use Rattle.std.proofs.Common.{◌≡◌, ℕ, List, length, drop, take, sym, ap, ap₂, ◌∙◌, subst}
use Rattle.std.proofs.lemmas.List.{take_at}
use Rattle.theory_tables.specs.Matrix.{IsRectangular}
use Rattle.theory_tables.specs.Subspace.{IsReducedBasis, SameSpan}
use Rattle.spl_matrix.specs.Elimination.{IsEliminated}
use Rattle.spl_matrix.proofs.Steps.{basis_after}
use Rattle.spl_matrix.proofs.Beside.{IsMatrix-rectangular}
use Rattle.spl_matrix.proofs.basis.basis_of.Goals as goal

pub from_rows-requires : goal.from_rows-requires
from_rows-requires g c =
    let o = g.F.Field.ops c.args.f.now in
    let L = g.met.F.Field.laws c.args.f.now in
    let w = c.args.w in
    let rows = c.args.rows.items in
    let new = c.eliminate.new.rows in
    let pivots = c.in_ok-pivots.pivots in
    let before_is : c.deref_mut.result.now ≡ rows = c.deref_mut.ensures.value in
    let P : List (List g.row.F-Elem.Denot) → Type 0 = λ m. IsEliminated o (length m) w w m new pivots in
    let e = subst P before_is c.in_ok-pivots.ensures in
    let kept = take_at new (drop (length new) rows) c.args.rows.len
    (e.height ∙ sym (ap length before_is) ∙ c.deref_mut.ensures.len) in
    let is : c.truncate.new.self.items ≡ take (length pivots) new = c.truncate.ensures.items
    ∙ ap₂ (λ (n : ℕ) (m : List (List g.row.F-Elem.Denot)). take n m) c.len.ensures kept in
    let R : List (List g.row.F-Elem.Denot) → Type 0 = λ m. IsRectangular m in
    subst R (sym is) (IsMatrix-rectangular o w (take (length pivots) new)
    (basis_after o L w rows new pivots c.requires e).0.shape)

pub returns : goal.returns
returns g c =
    let o = g.F.Field.ops c.args.f.now in
    let L = g.met.F.Field.laws c.args.f.now in
    let w = c.args.w in
    let rows = c.args.rows.items in
    let new = c.eliminate.new.rows in
    let pivots = c.in_ok-pivots.pivots in
    let before_is : c.deref_mut.result.now ≡ rows = c.deref_mut.ensures.value in
    let P : List (List g.row.F-Elem.Denot) → Type 0 = λ m. IsEliminated o (length m) w w m new pivots in
    let e = subst P before_is c.in_ok-pivots.ensures in
    let kept = take_at new (drop (length new) rows) c.args.rows.len
    (e.height ∙ sym (ap length before_is) ∙ c.deref_mut.ensures.len) in
    let is : c.from_rows.result ≡ take (length pivots) new = c.from_rows.ensures ∙ c.truncate.ensures.items
    ∙ ap₂ (λ (n : ℕ) (m : List (List g.row.F-Elem.Denot)). take n m) c.len.ensures kept in
    let both = basis_after o L w rows new pivots c.requires e in
    let B : List (List g.row.F-Elem.Denot) → Type 0 = λ m. IsReducedBasis o w m in
    let S : List (List g.row.F-Elem.Denot) → Type 0 = λ m. SameSpan o w rows m in
    record { basis = subst B (sym is) both.0; same = subst S (sym is) both.1 }
