use Rattle.std.proofs.Common.{◌≡◌, ◌<◌, ◌+◌, ◌∷◌, [], ℕ, List, length, ◌∙◌, ap, subst, arith, length-append}
use Rattle.std.proofs.lemmas.Bool.{lt-ltb}
use Rattle.std.proofs.lemmas.List.Elements.{All-nil, All-cons}
use Rattle.theory_rings.specs.Ops.{IsElem}
use Rattle.theory_rings.specs.Sum.{at}
use Rattle.theory_remainders.specs.RemainderLaws.{IsRemainderOf}
use Rattle.theory_tables.proofs.Rows.Sums.{All_step}
use Rattle.theory_tables.proofs.Rows.Spans.{grow_at}
use Rattle.spl_field.specs.SmallField.{small_ops, size_of}
use Rattle.spl_poly.specs.Operations.{without_zeros}
use Rattle.spl_residue.specs.Residue.{residue_ops, field_of, polynomial_of}
use Rattle.spl_blocks.specs.Classes.{IsClassOf}
use Rattle.spl_blocks.proofs.ideals.constants_of.Goals as goal

pub reduce_poly-requires : goal.reduce_poly-requires
reduce_poly-requires c =
    let f = field_of c.args.k.now in
    let n = c.loop-c.c in
    let e : c.size-c-end.result ≡ size_of f = c.size-c-end.ensures.size ∙ ap size_of c.field.ensures in
    let l : n < size_of f = omega arith in
    c.in_ok-poly.ensures.over (small_ops f) (All-cons (IsElem (small_ops f)) n [] (lt-ltb n (size_of f) l)
    (All-nil (IsElem (small_ops f))))

pub loop-c-preserved : goal.loop-c-preserved
loop-c-preserved c =
    let k = c.args.k.now in
    let o = residue_ops k in
    let n = c.loop-c.c in
    let i = c.loop-c.invariant in
    let r = c.in_ok-reduce_poly in
    let e = c.in_ok-push.ensures.ok in
    let P : List ℕ → Type 0 = λ p. IsRemainderOf (small_ops (field_of k)) (at (small_ops (field_of k)) p)
    (polynomial_of k) r.field-0 in
    record {
      elems = All_step (IsElem o) c.loop-c.constants c.push.new.self r.field-0 i.elems r.ensures.elem e;
      long = ap length e ∙ length-append c.loop-c.constants (r.field-0 ∷ []) ∙ ap (λ (j : ℕ). j + 1) i.long;
      each = grow_at (λ a x. IsClassOf k (without_zeros (a ∷ [])) x) o.zero n c.loop-c.constants c.push.new.self
          r.field-0
          i.long i.each
          (record { elem = r.ensures.elem; remainder = subst P c.in_ok-poly.ensures.value r.ensures.value }) e;
    }

pub returns-clause-value : goal.returns-clause-value
returns-clause-value c =
    let k = c.args.k.now in
    let i = c.loop-c.invariant in
    let e : c.size-c-end.result ≡ size_of (field_of k) = c.size-c-end.ensures.size ∙ ap size_of c.field.ensures in
    let ended : c.loop-c.c ≡ size_of (field_of k) = omega arith in
    record { long = i.long ∙ ended; each = λ a l. i.each a (omega (arith, l, ended)) }
