use Rattle.std.proofs.Common.{◌∷◌, refl, inl, inr}
use Rattle.std.proofs.lemmas.Bool.{both_ways}
use Rattle.theory_places.specs.Places.{Finite}
use Rattle.theory_bases.specs.Bases.{tuples_of}
use Rattle.theory_ramified.specs.Conditions.{IsInside, AbsorbsProducts, HoldsMultiple}
use Rattle.spl_field.specs.SmallField.{small_ops, small_laws}
use Rattle.spl_fraction.specs.Fractions.{field_of}
use Rattle.spl_ramified.specs.Faults.{ideal_conditions}
use Rattle.spl_ramified.specs.declared.fault.RamifiedFault.TheVariants as faults
use Rattle.spl_ramified.proofs.FirstFaults.{first_holds}
use Rattle.spl_ramified.proofs.radical_fault.lattice_fault.Goals as goal

pub is_within_at-requires-clause-bases : goal.is_within_at-requires-clause-bases
is_within_at-requires-clause-bases c = (c.args.a.now.dim, c.requires.radical_basis, c.requires.basis)

pub returns-then-not-branch : goal.returns-then-not-branch
returns-then-not-branch c =
    let w = c.in_ok-is_within_at in
    let e = w.ensures c.args.a.now.dim c.requires.radical_basis c.requires.basis in
    inl ((λ h. both_ways w.field-0 c.if-not-branch.true (e.1 h)), refl)

pub returns-then-not-branch-2 : goal.returns-then-not-branch-2
returns-then-not-branch-2 c =
    let w = c.in_ok-is_within_at in
    let v = c.in_ok-absorbs_products in
    let e = w.ensures c.args.a.now.dim c.requires.radical_basis c.requires.basis in
    inr (
      e.0 c.if-not-branch.false,
      inl ((λ h. both_ways v.field-0 c.if-not-branch-2.true (v.ensures.1 h)), refl),
    )

pub is_multiple_within_at-requires : goal.is_multiple_within_at-requires
is_multiple_within_at-requires c = record {
  bases = (c.args.a.now.dim, c.requires.basis, c.requires.radical_basis);
  multiplier = c.requires.place.polynomial;
  place = c.requires.place;
}

pub returns-then-not-branch-3 : goal.returns-then-not-branch-3
returns-then-not-branch-3 c =
    let w = c.in_ok-is_within_at in
    let v = c.in_ok-absorbs_products in
    let u = c.in_ok-is_multiple_within_at in
    let e = w.ensures c.args.a.now.dim c.requires.radical_basis c.requires.basis in
    let g = u.ensures c.args.a.now c.requires.basis c.requires.radical_basis in
    inr (
      e.0 c.if-not-branch.false,
      inr (
        v.ensures.0 c.if-not-branch-2.false,
        inl ((λ h. both_ways u.field-0 c.if-not-branch-3.true (g.1 h)), refl),
      ),
    )

pub ideal_fault-requires-clause-inside : goal.ideal_fault-requires-clause-inside
ideal_fault-requires-clause-inside c =
    let w = c.in_ok-is_within_at in
    let e = w.ensures c.args.a.now.dim c.requires.radical_basis c.requires.basis in
    e.0 c.if-not-branch.false

pub ideal_fault-requires-clause-absorbs : goal.ideal_fault-requires-clause-absorbs
ideal_fault-requires-clause-absorbs c = c.in_ok-absorbs_products.ensures.0 c.if-not-branch-2.false

pub ideal_fault-requires-clause-over_multiple : goal.ideal_fault-requires-clause-over_multiple
ideal_fault-requires-clause-over_multiple c =
    let u = c.in_ok-is_multiple_within_at in
    let g = u.ensures c.args.a.now c.requires.basis c.requires.radical_basis in
    g.0 c.if-not-branch-3.false

pub returns : goal.returns
returns c =
    let o = small_ops (field_of c.args.f.now) in
    let L = small_laws (field_of c.args.f.now) in
    let A = c.args.a.now in
    let place = Finite c.args.place.now in
    let os = tuples_of o L c.args.order.now in
    let js = tuples_of o L c.args.radical.now in
    let w = c.in_ok-is_within_at in
    let e = w.ensures A.dim c.requires.radical_basis c.requires.basis in
    let u = c.in_ok-is_multiple_within_at in
    let g = u.ensures A c.requires.basis c.requires.radical_basis in
    let rest = ideal_conditions o L A place os js in
    let third = record { fault = faults.RadicalWithoutMultiple; says = HoldsMultiple o L A place os js } ∷ rest in
    let second = record { fault = faults.NoIdeal; says = AbsorbsProducts o L A place os js } ∷ third in
    first_holds faults.RadicalOutside (IsInside o L A place os js) second c.in_ok-fault.fault
    (e.0 c.if-not-branch.false)
    (first_holds faults.NoIdeal (AbsorbsProducts o L A place os js) third c.in_ok-fault.fault
    (c.in_ok-absorbs_products.ensures.0 c.if-not-branch-2.false)
    (first_holds faults.RadicalWithoutMultiple (HoldsMultiple o L A place os js) rest c.in_ok-fault.fault
    (g.0 c.if-not-branch-3.false) c.in_ok-fault.ensures))
