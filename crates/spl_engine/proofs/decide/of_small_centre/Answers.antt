use Rattle.std.proofs.Common.{◌≡◌, ℕ, ◌%◌, sym, subst₂}
use Rattle.spl_field.specs.SmallField.{characteristic}
use Rattle.theory_fractions.specs.Fraction.{Pair}
use Rattle.spl_fraction.specs.Fractions.{field_of}
use Rattle.spl_fraction.specs.FractionsOver.{fractions_over}
use Rattle.spl_fraction.specs.declared.field.Fractions.{Fractions}
use Rattle.theory_tables.specs.Structure.{Structure}
use Rattle.theory_tables.specs.Traces.{IsNondegenerate}
use Rattle.spl_centre.specs.TraceIdeal.{IsTraceIdeal}
use Rattle.spl_engine.proofs.Degrees.{square_apart}
use Rattle.spl_engine.proofs.Findings.{of_ideal, of_none}
use Rattle.spl_engine.proofs.decide.of_small_centre.Goals as goal

pub trace_ideal-requires-clause-apart : goal.trace_ideal-requires-clause-apart
trace_ideal-requires-clause-apart c =
    let t = c.args.table.now in
    subst₂ (λ (f : Fractions) (m : ℕ). m % characteristic (field_of f) ≡ 0 → ⊥) (sym c.fractions.ensures)
    (sym c.algebra.ensures.dim)
    (square_apart (field_of t.fractions) t.degree t.apart)

pub returns-in-Some : goal.returns-in-Some
returns-in-Some c =
    of_ideal c.args.table.now c.in-Some.tuples c.requires.associative c.requires.centre
    (subst₂ (λ (f : Fractions) (A : Structure (Pair ℕ)). IsTraceIdeal (fractions_over (field_of f)) A c.in-Some.tuples)
    c.fractions.ensures c.algebra.ensures.algebra (rw c.in-Some.is at c.in_ok-tuples.ensures))

pub of_no_fault-requires-clause-no_fault : goal.of_no_fault-requires-clause-no_fault
of_no_fault-requires-clause-no_fault c =
    of_none c.args.table.now c.requires.associative c.requires.centre
    (subst₂ (λ (f : Fractions) (A : Structure (Pair ℕ)). IsNondegenerate
    (fractions_over (field_of f)) A)
    c.fractions.ensures c.algebra.ensures.algebra (rw c.in-None.is at c.in_ok-tuples.ensures))
