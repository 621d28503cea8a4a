use Rattle.std.proofs.Common.{subst, arith, ◌++◌, ◌+◌, ◌≡◌, length}
use Rattle.std.proofs.lemmas.List.Elements.{All-append}
use Rattle.theory_rings.specs.Sum.{table}
use Rattle.theory_rows.specs.Rows.{IsPolynomialRow}
use Rattle.spl_field.specs.SmallField.{small_ops}
use Rattle.spl_lattice.specs.Reduction.{IsSplitOf}
use Rattle.spl_lattice.proofs.ExtendedRows.{joined, both_rows, both_polynomials, split_start, split_pushed, split_ready}
use Rattle.spl_lattice.proofs.augmented.insert_extended.Goals as goal

pub loop-i-init : goal.loop-i-init
loop-i-init c =
    let s = c.args.split.now in
    split_start (small_ops c.args.f.now) c.know_laws.ensures c.args.w (c.args.w + c.args.t) s.basis.items s.places.items
    s.zeros.items c.requires.split

pub loop-i-preserved : goal.loop-i-preserved
loop-i-preserved c =
    let o = small_ops c.args.f.now in
    let L = c.know_laws.ensures in
    let rows = c.args.rows.now in
    let tails = c.args.tails.now in
    let s = c.args.split.now in
    let h = c.requires.split in
    let i = c.loop-i.i in
    let now = c.loop-i.split in
    let new = c.insert.new.split in
    let l = c.loop-i-test.true in
    split_pushed o L c.args.w (c.args.w + c.args.t) (s.basis.items ++ s.zeros.items) (length rows)
    (both_rows o L rows tails)
    (All-append (IsPolynomialRow o (c.args.w + c.args.t)) s.basis.items s.zeros.items h.basis_rows h.zero_rows)
    (both_polynomials o L c.args.w c.args.t rows tails c.requires.rows c.requires.tails c.requires.count)
    i l now.basis.items now.places.items now.zeros.items c.loop-i.invariant c.in_ok-row-2.row
    (joined rows tails i c.index-rows-i.result c.as_slice.result.now c.index-tails-i.result
    c.as_slice-in-loop-i.result.now c.in_ok-row.row c.in_ok-row-2.row l (omega (arith, l, c.requires.count))
    c.index-rows-i.is c.as_slice.ensures c.in_ok-row.ensures c.index-tails-i.is c.as_slice-in-loop-i.ensures
    c.in_ok-row-2.ensures)
    new.basis.items new.places.items new.zeros.items c.in_ok-insert.ensures

pub insert-requires : goal.insert-requires
insert-requires c =
    let o = small_ops c.args.f.now in
    let L = c.know_laws.ensures in
    let rows = c.args.rows.now in
    let tails = c.args.tails.now in
    let s = c.args.split.now in
    let h = c.requires.split in
    let i = c.loop-i.i in
    let now = c.loop-i.split in
    let l = c.loop-i-test.true in
    let r = split_ready o L c.args.w (c.args.w + c.args.t) (s.basis.items ++ s.zeros.items) (length rows)
    (both_rows o L rows tails)
    (All-append (IsPolynomialRow o (c.args.w + c.args.t)) s.basis.items s.zeros.items h.basis_rows h.zero_rows)
    (both_polynomials o L c.args.w c.args.t rows tails c.requires.rows c.requires.tails c.requires.count)
    i l (omega arith) now.basis.items now.places.items now.zeros.items c.loop-i.invariant c.in_ok-row-2.row
    (joined rows tails i c.index-rows-i.result c.as_slice.result.now c.index-tails-i.result
    c.as_slice-in-loop-i.result.now c.in_ok-row.row c.in_ok-row-2.row l (omega (arith, l, c.requires.count))
    c.index-rows-i.is c.as_slice.ensures c.in_ok-row.ensures c.index-tails-i.is c.as_slice-in-loop-i.ensures
    c.in_ok-row-2.ensures) in
    record { width = r.0; row = r.1; split = r.2 }

pub returns : goal.returns
returns c =
    let o = small_ops c.args.f.now in
    let s = c.args.split.now in
    let now = c.loop-i.split in
    let e : c.loop-i.i ≡ length c.args.rows.now = omega (arith, c.loop-i-test.false, c.loop-i.auto.i-end) in
    subst (λ k. IsSplitOf o c.args.w (c.args.w + c.args.t) ((s.basis.items ++ s.zeros.items)
    ++ table k (both_rows o c.know_laws.ensures c.args.rows.now c.args.tails.now))
    now.basis.items now.places.items now.zeros.items) e c.loop-i.invariant
