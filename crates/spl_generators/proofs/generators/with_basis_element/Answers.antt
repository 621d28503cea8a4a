use Rattle.std.proofs.Common.{ℕ, List, sym, ◌∙◌, subst, below_more}
use Rattle.theory_spaces.specs.Tuples.{IsTuple}
use Rattle.theory_tables.specs.Subspace.{IsReducedBasis, InSpan}
use Rattle.theory_tables.specs.Structure.{basis_of}
use Rattle.theory_constants.specs.Generated.{InSubalgebra}
use Rattle.spl_generators.specs.Generated.{AreGenerated, Lies}
use Rattle.spl_generators.proofs.Subalgebras.{combination_in, new_in, still_in, still_generated, still_within}
use Rattle.spl_generators.proofs.generators.with_basis_element.Goals as goal

pub contains-requires-clause-basis : goal.contains-requires-clause-basis
contains-requires-clause-basis g c =
    let l = c.requires.found.lies in
    let B : ℕ → Type 0 = λ w. IsReducedBasis (g.F.Field.ops c.args.f.now) w c.args.found.space.rows in
    subst B (sym l.width) l.basis

pub contains-requires-clause-vector : goal.contains-requires-clause-vector
contains-requires-clause-vector g c =
    let o = g.F.Field.ops c.args.f.now in
    let l = c.requires.found.lies in
    let P : ℕ → Type 0 = λ w. IsTuple o w c.in_ok-element.element in
    let Q : List g.row.F-Elem.Denot → Type 0 = IsTuple o c.args.found.space.width in
    subst Q (sym c.as_slice.ensures) (subst P (sym l.width) c.in_ok-element.ensures.elem)

pub returns-then-branch : goal.returns-then-branch
returns-then-branch g c =
    let o = g.F.Field.ops c.args.f.now in
    let L = g.met.F.Field.laws c.args.f.now in
    let A = c.args.a.now in
    let h = c.requires.found in
    let l = h.lies in
    let by = c.args.found.by in
    let rows = c.args.found.space.rows in
    let element = c.in_ok-element in
    let S : List g.row.F-Elem.Denot → Type 0 = InSubalgebra o A by in
    let W : ℕ → Type 0 = λ w. InSpan o w rows c.as_slice.result.now in
    let V : List g.row.F-Elem.Denot → Type 0 = InSpan o A.dim rows in
    let spanned : InSpan o A.dim rows element.element = subst V c.as_slice.ensures
    (subst W l.width (c.in_ok-contains.ensures.0 c.if-branch.true)) in
    record {
      within = h.within;
      lies = l;
      before = below_more (λ i. InSubalgebra o A by (basis_of o A i)) c.args.j h.before
          (subst S element.ensures.value
          (combination_in o L A by rows l.generated element.element element.ensures.elem spanned));
    }

pub with_row-requires-clause-rows : goal.with_row-requires-clause-rows
with_row-requires-clause-rows g c =
    let o = g.F.Field.ops c.args.f.now in
    let L = g.met.F.Field.laws c.args.f.now in
    let A = c.args.a.now in
    let h = c.requires.found in
    let l = h.lies in
    let P : List (List g.row.F-Elem.Denot) → Type 0 = AreGenerated o A c.as_slice-2.result.now in
    subst P (sym c.rows.ensures)
    (still_generated o L A c.args.found.by c.as_slice-2.result.now c.args.j
    (c.as_slice-2.ensures ∙ c.in_ok-push.ensures.ok) c.args.found.space.rows l.generated)

pub with_row-requires-clause-generated : goal.with_row-requires-clause-generated
with_row-requires-clause-generated g c =
    let o = g.F.Field.ops c.args.f.now in
    let L = g.met.F.Field.laws c.args.f.now in
    let A = c.args.a.now in
    let by = c.as_slice-2.result.now in
    let S : List g.row.F-Elem.Denot → Type 0 = InSubalgebra o A by in
    subst S (sym c.in_ok-element.ensures.value)
    (new_in o L A c.args.found.by by c.args.j (c.as_slice-2.ensures ∙ c.in_ok-push.ensures.ok))

pub closed-requires-clause-within : goal.closed-requires-clause-within
closed-requires-clause-within g c =
    let o = g.F.Field.ops c.args.f.now in
    let L = g.met.F.Field.laws c.args.f.now in
    let h = c.requires.found in
    still_within o L c.args.a.now c.args.found.by c.as_slice-3.result.now c.args.j
    (c.as_slice-3.ensures ∙ c.in_ok-push.ensures.ok) h.within c.requires.index

pub closed-requires-clause-rows : goal.closed-requires-clause-rows
closed-requires-clause-rows g c =
    let o = g.F.Field.ops c.args.f.now in
    let P : List ℕ → Type 0 = λ by. AreGenerated o c.args.a.now by c.in_ok-rows.rows in
    subst P (c.as_slice-2.ensures ∙ sym c.as_slice-3.ensures) c.in_ok-rows.ensures

pub returns : goal.returns
returns g c =
    let o = g.F.Field.ops c.args.f.now in
    let L = g.met.F.Field.laws c.args.f.now in
    let A = c.args.a.now in
    let h = c.requires.found in
    let by = c.args.found.by in
    let more = c.push.new.self in
    let e = c.in_ok-push.ensures.ok in
    let P : List ℕ → Type 0 = λ by. Lies o A by c.in_ok-space.space in
    record {
      within = still_within o L A by more c.args.j e h.within c.requires.index;
      lies = subst P c.as_slice-3.ensures c.in_ok-space.ensures;
      before = below_more (λ i. InSubalgebra o A more (basis_of o A i)) c.args.j
          (λ i l. still_in o L A by more c.args.j e (basis_of o A i) (h.before i l))
          (new_in o L A by more c.args.j e);
    }
