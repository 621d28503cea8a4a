use Rattle.std.proofs.Common.{◌≡◌, ℕ, ◌<◌, length, refl, subst, ◌∙◌, sym, ap, arith}
use Rattle.std.proofs.Math.ListN.{set}
use Rattle.std.proofs.lemmas.List.Elements.{All-set}
use Rattle.theory_rings.specs.Ops.{IsElem}
use Rattle.theory_rings.specs.Sum.{at}
use Rattle.spl_matrix.proofs.Changes.{ChangedBelow, ChangedBelow-set, ChangedBelow-skip, ChangedBelow-all}
use Rattle.spl_matrix.proofs.Changes.{read_slice, slice-elem}
use Rattle.theory_tables.proofs.Rows.Terms.{mul-zero}
use Rattle.spl_matrix.proofs.rows.scale.Goals as goal
use Rattle.spl_matrix.proofs.rows.scale.Goals.{then-not-eq+in_ok-product, else-not-eq}

pub loop-j-preserved : goal.loop-j-preserved
loop-j-preserved g c =
    let o = g.F.Field.ops c.args.f.now in
    let L = g.met.F.Field.laws c.args.f.now in
    let factor = c.args.c.now in
    let old = c.args.row.now in
    let row = c.loop-j.row in
    let j = c.loop-j.j in
    let inv = c.loop-j.invariant in
    let f = λ (j : ℕ). o.mul factor (at o old j) in
    let j_in : j < length row = omega arith in
    let x = c.index-as_slice-j.result in
    let read : x ≡ at o row j =
    read_slice o row c.as_slice.result.now j x c.as_slice.ensures j_in c.index-as_slice-j.is in
    let here : at o row j ≡ at o old j = inv.changed.rest j (omega arith) in
    elim c.if-not-eq.branch [
      | then-not-eq+in_ok-product w ↦
          let y = w.in_ok-product.product in
          let value : y ≡ f j = w.in_ok-product.ensures.value ∙ ap (o.mul factor) (read ∙ here) in
          let is : c.if-not-eq.row ≡ set row j y = w.row-is ∙ w.set.ensures in
          rw is record {
            elems = All-set (IsElem o) row j y w.in_ok-product.ensures.elem inv.elems;
            changed = ChangedBelow-set o.zero j old row f y j_in inv.changed value;
          }
      | else-not-eq w ↦
          let old_zero : at o old j ≡ o.zero = sym here ∙ sym read ∙ c.eq.ensures.0 w.if-not-eq.false
          ∙ c.requires.zero in
          rw w.row-is record {
            elems = inv.elems;
            changed = ChangedBelow-skip o.zero j old row f inv.changed
                (old_zero ∙ sym (ap (o.mul factor) old_zero ∙ mul-zero o L factor c.requires.factor));
          }
    ]

pub returns : goal.returns
returns g c =
    let o = g.F.Field.ops c.args.f.now in
    let old = c.args.row.now in
    let f = λ (j : ℕ). o.mul c.args.c.now (at o old j) in
    ChangedBelow-all o.zero (length old) old c.loop-j.row f refl
    (subst (λ (k : ℕ). ChangedBelow o.zero k old c.loop-j.row f) (omega arith) c.loop-j.invariant.changed)

pub eq-requires : goal.eq-requires
eq-requires g c =
    let o = g.F.Field.ops c.args.f.now in
    let L = g.met.F.Field.laws c.args.f.now in
    let row = c.loop-j.row in
    let j = c.loop-j.j in
    let j_in : j < length row = omega arith in
    record {
      left = slice-elem o row c.as_slice.result.now j c.index-as_slice-j.result c.loop-j.invariant.elems
          c.as_slice.ensures j_in c.index-as_slice-j.is;
      right = subst (IsElem o) (sym c.requires.zero) L.zero-elem;
    }

pub mul-requires : goal.mul-requires
mul-requires g c =
    let o = g.F.Field.ops c.args.f.now in
    let row = c.loop-j.row in
    let j = c.loop-j.j in
    let j_in : j < length row = omega arith in
    record {
      left = c.requires.factor;
      right = slice-elem o row c.as_slice.result.now j c.index-as_slice-j.result c.loop-j.invariant.elems
          c.as_slice.ensures j_in c.index-as_slice-j.is;
    }
