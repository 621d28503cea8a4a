use Rattle.std.proofs.Common.{sym, ◌∙◌, ap, subst, arith, ◌++◌, ◌+◌, ◌≡◌, length}
use Rattle.theory_rows.specs.Rows.{IsPolynomialMatrix}
use Rattle.theory_rows.specs.Augmented.{extended_by}
use Rattle.theory_rows.proofs.Splits.{extended_by_nothing}
use Rattle.spl_field.specs.SmallField.{small_ops}
use Rattle.spl_lattice.specs.Reduction.{IsSplit, IsSplitOf}
use Rattle.spl_lattice.proofs.RowLattices.{zero_rows-matrix, zeros-length}
use Rattle.spl_lattice.proofs.lattices.insert_rows.Goals as goal

pub insert_extended-requires : goal.insert_extended-requires
insert_extended-requires c =
    let o = small_ops c.args.f.now in
    let L = c.know_laws.ensures in
    let n = length c.args.rows.now in
    let w = c.args.w in
    let s = c.args.split.now in
    let e = c.as_slice.ensures ∙ c.in_ok-nothing.ensures in
    let more : w ≡ w + 0 = omega arith in
    record {
      rows = c.requires.rows;
      tails = subst (IsPolynomialMatrix o 0) (sym e) (zero_rows-matrix o L n 0);
      count = ap length e ∙ zeros-length o L n 0;
      split = subst (λ m. IsSplit o w m s.basis.items s.places.items s.zeros.items) more c.requires.split;
    }

pub returns : goal.returns
returns c =
    let o = small_ops c.args.f.now in
    let w = c.args.w in
    let rows = c.args.rows.now in
    let s = c.args.split.now in
    let new = c.insert_extended.new.split in
    let start = s.basis.items ++ s.zeros.items in
    let less : w + 0 ≡ w = omega arith in
    subst (λ x. IsSplitOf o w w (start ++ x) new.basis.items new.places.items new.zeros.items)
    (extended_by_nothing rows)
    (subst (λ x. IsSplitOf o w w (start ++ extended_by rows x) new.basis.items new.places.items new.zeros.items)
    (c.as_slice.ensures ∙ c.in_ok-nothing.ensures)
    (subst (λ m. IsSplitOf o w m (start ++ extended_by rows c.as_slice.result.now) new.basis.items new.places.items
    new.zeros.items) less c.in_ok-insert_extended.ensures))
