use Rattle.std.proofs.Common.{sym, ◌∙◌, ap, subst, ◌++◌, ◌+◌, length}
use Rattle.std.proofs.Common.{refl}
use Rattle.theory_rows.specs.Rows.{IsPolynomialMatrix}
use Rattle.theory_rows.specs.Augmented.{extended_by, zero_rows}
use Rattle.spl_field.specs.SmallField.{small_ops}
use Rattle.spl_lattice.specs.Reduction.{IsSplitOf}
use Rattle.spl_lattice.proofs.RowLattices.{zero_rows-matrix, zeros-length, split_read, split_append, extended-matrix}
use Rattle.spl_lattice.proofs.RowLattices.{from_nothing}
use Rattle.spl_lattice.proofs.lattices.split_for_meet.Goals as goal

pub insert_extended-requires : goal.insert_extended-requires
insert_extended-requires c =
    let s = c.new-split in
    record {
      rows = c.requires.left;
      tails = c.requires.left;
      count = refl;
      split = split_read (small_ops c.args.f.now) c.know_laws.ensures c.args.w (c.args.w + c.args.w)
          s.result.basis.items
          s.result.places.items s.result.zeros.items s.ensures.basis s.ensures.places s.ensures.zeros;
    }

pub insert_extended-requires-2 : goal.insert_extended-requires-2
insert_extended-requires-2 c =
    let o = small_ops c.args.f.now in
    let L = c.know_laws.ensures in
    let n = length c.args.b.now in
    let e = c.as_slice.ensures ∙ c.in_ok-nothing.ensures in
    let g = c.in_ok-insert_extended.ensures in
    record {
      rows = c.requires.right;
      tails = subst (IsPolynomialMatrix o c.args.w) (sym e) (zero_rows-matrix o L n c.args.w);
      count = ap length e ∙ zeros-length o L n c.args.w;
      split = g.split;
    }

pub returns : goal.returns
returns c =
    let o = small_ops c.args.f.now in
    let L = c.know_laws.ensures in
    let w = c.args.w in
    let a = c.args.a.now in
    let b = c.args.b.now in
    let n = length b in
    let s = c.new-split in
    let m = c.insert_extended.new.split in
    let new = c.insert_extended-2.new.split in
    let e = c.as_slice.ensures ∙ c.in_ok-nothing.ensures in
    split_append o L w (w + w) (extended_by a a) (extended_by b (zero_rows n w)) m.basis.items m.places.items
    m.zeros.items new.basis.items new.places.items new.zeros.items
    (extended-matrix o L w w a a c.requires.left c.requires.left refl)
    (extended-matrix o L w w b (zero_rows n w) c.requires.right (zero_rows-matrix o L n w) (zeros-length o L n w))
    (from_nothing o L w (w + w) s.result.basis.items s.result.zeros.items (extended_by a a) m.basis.items m.places.items
    m.zeros.items s.ensures.basis s.ensures.zeros c.in_ok-insert_extended.ensures)
    (subst (λ x. IsSplitOf o w (w + w) ((m.basis.items ++ m.zeros.items) ++ extended_by b x) new.basis.items
    new.places.items new.zeros.items) e c.in_ok-insert_extended-2.ensures)
