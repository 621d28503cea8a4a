use Rattle.std.proofs.Common.{◌+◌, ◌*◌, ◌-◌, ℕ, List, All, sym, subst}
use Rattle.std.proofs.lemmas.List.Elements.{All-from_get_or}
use Rattle.theory_rings.specs.Ops.{Ops, IsElem, FieldLaws}
use Rattle.theory_rings.proofs.Rings.Elements.{at-elem}
use Rattle.theory_tables.specs.Structure.{Structure, IsOver}
use Rattle.spl_algebra.specs.Entries.{AreEntries}
use Rattle.spl_words.proofs.algebras.entries.Goals as goal

-- the constants that are listed are elements
elements_of : {E : Type 0} (o : Ops E) (L : FieldLaws o) (A : Structure E) → IsOver o A → (i j : ℕ)
    (list : List (ℕ × E)) → AreEntries o A i j list → All (λ (pair : ℕ × E). IsElem o pair.1) list
elements_of {E} o L A over i j list h =
    All-from_get_or (λ (pair : ℕ × E). IsElem o pair.1) list (0, o.zero) (λ s l.
    let e = h.of_row s l in
    subst (λ (pair : ℕ × E). IsElem o pair.1) (sym e.3)
    (at-elem o L A.constants over.of_elements (((i - 1) * A.dim + (j - 1)) * A.dim + e.0)))

pub pairs-requires : goal.pairs-requires
pairs-requires g c =
    let o = g.F.Field.ops c.args.f.now in
    subst (All (λ pair. IsElem o pair.1)) (sym c.as_slice.ensures)
    (elements_of o (g.met.F.Field.laws c.args.f.now) c.args.algebra.now c.requires c.in_ok-i.i c.in_ok-j.j
    c.entries.result.now (c.entries.ensures c.args.f.now))
