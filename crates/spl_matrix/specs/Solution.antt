-- What a solution shows.
use Rattle.std.specs.Prelude.{ℕ, List}
use Rattle.theory_rings.specs.Ops.{Ops}
use Rattle.spl_matrix.specs.declared.solve.Solution.{Solution}
use Rattle.spl_matrix.specs.declared.solve.Solution.TheVariants.{Solved, Refuted}
use Rattle.theory_tables.specs.Solve.{IsSolved, IsRefuted}

-- it solves the system, or refutes it
abbrev pub IsSolution : {F E : Type 0} → Ops E → ℕ → ℕ → List (List E) → List E → Solution F E → Type 0
IsSolution o h w a right (Solved v) = IsSolved o h w a right v
IsSolution o h w a right (Refuted m) = IsRefuted o h w a right m
