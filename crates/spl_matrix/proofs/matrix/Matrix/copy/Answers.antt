use Rattle.std.proofs.Common.{List, sym, subst, ◌∙◌}
use Rattle.theory_tables.specs.Matrix.{IsRectangular}
use Rattle.spl_matrix.proofs.matrix.Matrix.copy.Goals as goal

pub from_rows-requires : goal.from_rows-requires
from_rows-requires g c =
    let R : List (List g.row.F-Elem.Denot) → Type 0 = λ m. IsRectangular m in
    subst R (sym (c.in_ok-rows.ensures ∙ c.as_slice.ensures.value)) c.self.invariant
