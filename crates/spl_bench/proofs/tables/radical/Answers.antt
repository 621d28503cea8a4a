use Rattle.std.proofs.Common.{◌≡◌, ℕ, ◌%◌, sym, subst₂}
use Rattle.spl_field.specs.SmallField.{characteristic}
use Rattle.spl_fraction.specs.Fractions.{field_of}
use Rattle.spl_fraction.specs.declared.field.Fractions.{Fractions}
use Rattle.spl_engine.proofs.Degrees.{square_apart}
use Rattle.spl_bench.proofs.tables.radical.Goals as goal

pub trace_ideal-requires-clause-apart : goal.trace_ideal-requires-clause-apart
trace_ideal-requires-clause-apart c =
    let t = c.args.table.now in
    subst₂ (λ (f : Fractions) (m : ℕ). m % characteristic (field_of f) ≡ 0 → ⊥) (sym c.fractions.ensures)
    (sym c.algebra.ensures.dim)
    (square_apart (field_of t.fractions) t.degree t.apart)
