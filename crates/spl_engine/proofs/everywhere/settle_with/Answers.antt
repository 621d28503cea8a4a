use Rattle.std.proofs.Common.{◌≡◌, ℕ, ◌%◌, sym, subst, subst₂}
use Rattle.spl_field.specs.SmallField.{characteristic}
use Rattle.theory_fractions.specs.Fraction.{Pair}
use Rattle.spl_fraction.specs.Fractions.{field_of as base_of}
use Rattle.spl_fraction.specs.FractionsOver.{fractions_over}
use Rattle.spl_fraction.specs.declared.field.Fractions.{Fractions}
use Rattle.spl_fraction.specs.declared.place.Place.TheVariants.{Infinity}
use Rattle.theory_tables.specs.Structure.{Structure}
use Rattle.theory_tables.specs.Traces.{IsNondegenerate}
use Rattle.spl_table.specs.Table.{field_of, algebra_of}
use Rattle.spl_local.specs.Growth.{small_tuples}
use Rattle.spl_local.specs.Everywhere.{IsRamifiedFirst, HoldsStarts, HoldsStartsAt}
use Rattle.spl_engine.proofs.Degrees.{square_apart}
use Rattle.spl_engine.proofs.RamifiedPlaces.{claim_first}
use Rattle.spl_engine.proofs.everywhere.settle_with.Goals as goal

pub settle_everywhere-requires-clause-form : goal.settle_everywhere-requires-clause-form
settle_everywhere-requires-clause-form c =
    subst₂ (λ (f : Fractions) (A : Structure (Pair ℕ)). IsNondegenerate (fractions_over (base_of f)) A)
    (sym c.fractions-f.ensures) (sym c.algebra.ensures.algebra) c.requires.no_fault.nondegenerate

pub settle_everywhere-requires-clause-apart : goal.settle_everywhere-requires-clause-apart
settle_everywhere-requires-clause-apart c =
    let t = c.args.table.now in
    subst₂ (λ (f : Fractions) (m : ℕ). m % characteristic (base_of f) ≡ 0 → ⊥) (sym c.fractions-f.ensures)
    (sym c.algebra.ensures.dim) (square_apart (base_of t.fractions) t.degree t.apart)

pub returns-in_ok-radical-in-Ramified-clause-everywhere : goal.returns-in_ok-radical-in-Ramified-clause-everywhere
returns-in_ok-radical-in-Ramified-clause-everywhere c =
    let t = c.args.table.now in
    let r = c.in-Ramified in
    let os = c.in_ok-order-in-Ramified in
    let js = c.in_ok-radical-in-Ramified in
    claim_first (field_of t) (algebra_of t) r.place r.order r.radical
    (subst₂ (λ (f : Fractions) (A : Structure (Pair ℕ)). IsRamifiedFirst (base_of f) A r.place r.order r.radical)
    c.fractions-f.ensures c.algebra.ensures.algebra (rw r.is at c.in_ok-place.ensures.everywhere)) os.order js.radical
    (subst (λ (f : Fractions). os.order ≡ small_tuples (base_of f) r.order) c.fractions-f.ensures os.ensures)
    (subst (λ (f : Fractions). js.radical ≡ small_tuples (base_of f) r.radical) c.fractions-f.ensures js.ensures)

pub returns-in_ok-radical-in-Ramified-clause-first : goal.returns-in_ok-radical-in-Ramified-clause-first
returns-in_ok-radical-in-Ramified-clause-first c =
    let r = c.in-Ramified in
    let os = c.in_ok-order-in-Ramified in
    record {
      basis = r.order;
      tuples = sym (subst (λ (f : Fractions). os.order ≡ small_tuples (base_of f) r.order) c.fractions-f.ensures
          os.ensures);
      holds = subst₂ (λ (f : Fractions) (A : Structure (Pair ℕ)).
          HoldsStartsAt (base_of f) A c.args.one.now r.place r.order)
          c.fractions-f.ensures c.algebra.ensures.algebra (rw r.is at c.in_ok-place.ensures.first);
    }

pub returns-in-Unimodular-clause-first : goal.returns-in-Unimodular-clause-first
returns-in-Unimodular-clause-first c =
    let u = c.in-Unimodular in
    subst₂ (λ (f : Fractions) (A : Structure (Pair ℕ)).
    HoldsStarts (base_of f) A c.args.one.now u.finite × HoldsStartsAt (base_of f) A c.args.one.now Infinity u.infinite)
    c.fractions-f.ensures c.algebra.ensures.algebra (rw u.is at c.in_ok-place.ensures.first)
