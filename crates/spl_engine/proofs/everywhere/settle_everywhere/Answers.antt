use Rattle.std.specs.Prelude.{ℕ, List, Result, Ok, Err, IfOk}
use Rattle.std.proofs.Common.{subst₂}
use Rattle.spl_field.specs.declared.field.NoMemory.{NoMemory}
use Rattle.theory_fractions.specs.Fraction.{Pair}
use Rattle.spl_fraction.specs.Fractions.{field_of as base_of}
use Rattle.spl_fraction.specs.FractionsOver.{fractions_over}
use Rattle.spl_fraction.specs.declared.field.Fractions.{Fractions}
use Rattle.theory_tables.specs.Structure.{Structure}
use Rattle.theory_tables.specs.Algebras.{IsIdentity}
use Rattle.spl_table.specs.Table.{field_of, algebra_of, ops_of}
use Rattle.spl_table.specs.declared.table.Table.{Table}
use Rattle.spl_engine.specs.Everywhere.{HoldFirstOrders}
use Rattle.spl_engine.specs.declared.everywhere.Everywhere.{Everywhere}
use Rattle.spl_engine.proofs.everywhere.settle_everywhere.Goals as goal

-- with the identity
with_one : (t : Table) (one : List (Pair ℕ)) → IsIdentity (ops_of t) (algebra_of t) one
    → (r : Result Everywhere NoMemory) → IfOk r (HoldFirstOrders (field_of t) (algebra_of t) one)
    → IfOk r (λ e. (u : List (Pair ℕ)) × IsIdentity (ops_of t) (algebra_of t) u
    × HoldFirstOrders (field_of t) (algebra_of t) u e)
with_one t one is (Ok e) h = (one, is, h)
with_one t one is (Err e) h = h

pub returns-clause-first : goal.returns-clause-first
returns-clause-first c =
    with_one c.args.table.now c.in-Here.tuple
    (subst₂ (λ (f : Fractions) (A : Structure (Pair ℕ)). IsIdentity (fractions_over (base_of f)) A c.in-Here.tuple)
    c.fractions.ensures c.algebra.ensures.algebra (rw c.in-Here.is at c.in_ok-tuple.ensures.value))
    c.settle_with.result c.settle_with.ensures.first
