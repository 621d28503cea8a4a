use Rattle.std.proofs.Common.{◌≡◌, ◌++◌, ◌∷◌, ap, sym, ◌∙◌, refl, nat_eq, arith}
use Rattle.std.specs.Prelude.{codes}
use Rattle.std.specs.Cmp.Lexicographic.{pointwise, same_text}
use Rattle.std.proofs.lemmas.Result.{err_from_is_err_and}
use Rattle.spl_field.specs.SmallField.{small_ops}
use Rattle.spl_fraction.specs.Fractions.{field_of}
use Rattle.spl_table.specs.Reading.{head_of}
use Rattle.spl_table.proofs.Filling.{SoFar-cut, SoFar-end, few_lines}
use Rattle.spl_table.proofs.reader.entries.read_entries.Goals as goal

pub returns-then-eq-clause-entries : goal.returns-then-eq-clause-entries
returns-then-eq-clause-entries c =
    let l = c.loop-text in
    let k = field_of c.args.k.now in
    let last = ap (pointwise nat_eq c.in-Some.text.now) (sym c.as_slice.ensures) ∙ sym c.if-eq.ensures in
    let word : c.in-Some.text.now ≡ codes "end" = same_text c.in-Some.text.now (codes "end") (sym last) in
    let cut : l.rest.now ≡ codes "end" ++ 10 ∷ c.in-Some.after.now = c.in-Some.ensures.1
    ∙ ap (λ t. t ++ 10 ∷ c.in-Some.after.now) word in
    rw c.in_ok-push_zeros.ensures.items
    (SoFar-end (small_ops k)
    (head_of k c.args.n) c.args.bytes.now l.rest.now l.number l.constants l.invariant.so_far c.in-Some.after.now cut)

pub returns-in_err-read_line-clause-fault : goal.returns-in_err-read_line-clause-fault
returns-in_err-read_line-clause-fault c =
    let l = c.loop-text in
    let k = field_of c.args.k.now in
    let p = err_from_is_err_and c.from_residual-in_err-read_line.result c.from_residual-in_err-read_line.ensures.1 in
    rw (p.1, p.2)
    (c.in_err-read_line.ensures.fault c.args.bytes.now c.in-Some.after.now
    (SoFar-cut (small_ops k) (head_of k c.args.n) c.args.bytes.now l.rest.now l.number l.constants l.invariant.so_far
    c.in-Some.text.now c.in-Some.after.now c.in-Some.ensures.1))

pub read_line-requires-clause-so_far : goal.read_line-requires-clause-so_far
read_line-requires-clause-so_far c =
    (c.args.bytes.now, c.loop-text.rest.now, c.loop-text.invariant.so_far)

pub loop-text-preserved : goal.loop-text-preserved
loop-text-preserved c =
    let l = c.loop-text in
    let k = field_of c.args.k.now in
    record {
      so_far = c.in_ok-read_line.ensures.read c.args.bytes.now c.in-Some.after.now
          (SoFar-cut (small_ops k) (head_of k c.args.n) c.args.bytes.now l.rest.now l.number l.constants
          l.invariant.so_far c.in-Some.text.now c.in-Some.after.now c.in-Some.ensures.1);
      over = c.in_ok-read_line.ensures.over l.invariant.over;
    }

pub returns-then-eq-clause-few : goal.returns-then-eq-clause-few
returns-then-eq-clause-few c =
    let l = c.loop-text in
    let k = field_of c.args.k.now in
    few_lines (small_ops k)
    (head_of k c.args.n) c.args.bytes.now l.rest.now l.number l.constants l.invariant.so_far c.args.n c.requires refl

pub overflow_add-number : goal.overflow_add-number
overflow_add-number c =
    let l = c.loop-text in
    let k = field_of c.args.k.now in
    omega (
      arith,
      few_lines (small_ops k)
          (head_of k c.args.n) c.args.bytes.now l.rest.now l.number l.constants l.invariant.so_far c.args.n
          c.requires refl,
    )
