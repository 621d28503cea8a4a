use Rattle.std.proofs.Common.{◌≡◌, ℕ, ◌<◌, length, refl, subst, ◌∙◌, sym, ap, ap₂, arith}
use Rattle.std.proofs.Math.ListN.{set}
use Rattle.std.proofs.lemmas.List.Elements.{All-set}
use Rattle.theory_rings.specs.Ops.{IsElem}
use Rattle.theory_rings.specs.Sum.{at}
use Rattle.theory_rings.proofs.Rings.Elements.{at-elem}
use Rattle.spl_matrix.proofs.Changes.{ChangedBelow, ChangedBelow-set, ChangedBelow-skip, ChangedBelow-all}
use Rattle.spl_matrix.proofs.Changes.{read_slice, read-elem, slice-elem}
use Rattle.theory_tables.proofs.Rows.Sums.{read_at}
use Rattle.theory_tables.proofs.Rows.Terms.{add-zero, mul-zero}
use Rattle.spl_matrix.proofs.rows.add_multiple.Goals as goal
use Rattle.spl_matrix.proofs.rows.add_multiple.Goals.{then-not-eq+in_ok-term+in_ok-sum, else-not-eq}

pub loop-j-preserved : goal.loop-j-preserved
loop-j-preserved g c =
    let o = g.F.Field.ops c.args.f.now in
    let L = g.met.F.Field.laws c.args.f.now in
    let factor = c.args.c.now in
    let other = c.args.other.now in
    let old = c.args.row.now in
    let row = c.loop-j.row in
    let j = c.loop-j.j in
    let inv = c.loop-j.invariant in
    let f = λ (j : ℕ). o.add (at o old j) (o.mul factor (at o other j)) in
    let j_in : j < length row = omega arith in
    let j_other : j < length other = omega (arith, c.requires.other.right_length) in
    let here : at o row j ≡ at o old j = inv.changed.rest j (omega arith) in
    elim c.if-not-eq.branch [
      | then-not-eq+in_ok-term+in_ok-sum w ↦
          let y = w.in_ok-sum.sum in
          let x = w.index-as_slice-j.result in
          let read : x ≡ at o row j =
          read_slice o row w.as_slice.result.now j x w.as_slice.ensures j_in w.index-as_slice-j.is in
          let term : w.in_ok-term.term ≡ o.mul factor (at o other j) =
          w.in_ok-term.ensures.value
          ∙ ap (o.mul factor)
          (read_at o other j w.index-other-j-then-not-eq.result j_other w.index-other-j-then-not-eq.is) in
          let value : y ≡ f j = w.in_ok-sum.ensures.value ∙ ap₂ o.add (read ∙ here) term in
          let is : c.if-not-eq.row ≡ set row j y = w.row-is ∙ w.set.ensures in
          rw is record {
            elems = All-set (IsElem o) row j y w.in_ok-sum.ensures.elem inv.elems;
            changed = ChangedBelow-set o.zero j old row f y j_in inv.changed value;
          }
      | else-not-eq w ↦
          let is_zero : c.index-other-j.result ≡ o.zero = c.eq.ensures.0 w.if-not-eq.false ∙ c.requires.zero in
          let other_zero : at o other j ≡ o.zero =
          sym (read_at o other j c.index-other-j.result j_other c.index-other-j.is) ∙ is_zero in
          rw w.row-is record {
            elems = inv.elems;
            changed = ChangedBelow-skip o.zero j old row f inv.changed (sym (
                ap (o.add (at o old j)) (ap (o.mul factor) other_zero ∙ mul-zero o L factor c.requires.factor)
                ∙ add-zero o L (at o old j) (at-elem o L old c.requires.row j)));
          }
    ]

pub returns : goal.returns
returns g c =
    let o = g.F.Field.ops c.args.f.now in
    let old = c.args.row.now in
    let f = λ (j : ℕ). o.add (at o old j) (o.mul c.args.c.now (at o c.args.other.now j)) in
    ChangedBelow-all o.zero (length old) old c.loop-j.row f refl
    (subst (λ (k : ℕ). ChangedBelow o.zero k old c.loop-j.row f) (omega arith) c.loop-j.invariant.changed)

pub eq-requires : goal.eq-requires
eq-requires g c =
    let o = g.F.Field.ops c.args.f.now in
    let L = g.met.F.Field.laws c.args.f.now in
    let other = c.args.other.now in
    let j = c.loop-j.j in
    let j_other : j < length other = omega (arith, c.requires.other.right_length) in
    record {
      left = read-elem o other j c.index-other-j.result c.requires.other.of_elements j_other c.index-other-j.is;
      right = subst (IsElem o) (sym c.requires.zero) L.zero-elem;
    }

pub mul-requires : goal.mul-requires
mul-requires g c =
    let o = g.F.Field.ops c.args.f.now in
    let other = c.args.other.now in
    let j = c.loop-j.j in
    let j_other : j < length other = omega (arith, c.requires.other.right_length) in
    record {
      left = c.requires.factor;
      right = read-elem o other j c.index-other-j-then-not-eq.result c.requires.other.of_elements j_other
          c.index-other-j-then-not-eq.is;
    }

pub add-requires : goal.add-requires
add-requires g c =
    let o = g.F.Field.ops c.args.f.now in
    let row = c.loop-j.row in
    let j = c.loop-j.j in
    let j_in : j < length row = omega arith in
    record {
      left = slice-elem o row c.as_slice.result.now j c.index-as_slice-j.result c.loop-j.invariant.elems
          c.as_slice.ensures j_in c.index-as_slice-j.is;
      right = c.in_ok-term.ensures.elem;
    }
