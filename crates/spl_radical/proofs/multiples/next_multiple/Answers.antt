use Rattle.std.proofs.Common.{◌-◌, ◌/◌, length}
use Rattle.theory_spaces.proofs.Matrices.PairIndex.{row-lt}
use Rattle.theory_tables.proofs.Rows.Sums.{row_at}
use Rattle.spl_radical.proofs.MultipleSteps.{known_row, known_numbers, whole_coefficients, whole_elements}
use Rattle.spl_radical.proofs.MultipleSteps.{not_first, behind_digits, of_first, of_shifted, of_turned}
use Rattle.spl_radical.proofs.multiples.next_multiple.Goals as goal

pub returns-then-s-eq0 : goal.returns-then-s-eq0
returns-then-s-eq0 c =
    let rows = c.args.rows.now in
    let w = c.args.w in
    let r = c.args.r in
    let y = c.as_slice.result.now in
    of_first c.args.q w c.args.back.now c.args.turns.now rows c.args.out.now c.requires.steps r
    c.in_ok-from_slice.field-0 y c.requires.rows c.requires.place c.if-s-eq0.true
    (row_at rows (r / w) c.index-rows-r.result y (row-lt (length rows) w r c.requires.place) c.index-rows-r.is
    c.as_slice.ensures) c.in_ok-from_slice.ensures

pub shifted-requires-clause-numbers : goal.shifted-requires-clause-numbers
shifted-requires-clause-numbers c =
    let S = c.requires.steps in
    let q = c.args.q in
    let w = c.args.w in
    let b = c.args.back.now in
    let t = c.args.turns.now in
    let m = c.args.rows.now in
    let o = c.args.out.now in
    let r = c.args.r in
    let y = c.as_slice-then-s-d.result.now in
    let l = not_first q w b t m o S r c.if-s-eq0.false in
    (known_numbers q w b t m o S r (r - 1) y c.requires.known l
    (known_row q w b t m o S r (r - 1) c.index-out-r.result y c.requires.known l c.index-out-r.is
    c.as_slice-then-s-d.ensures)).below

pub shifted-requires-clause-whole : goal.shifted-requires-clause-whole
shifted-requires-clause-whole c =
    let S = c.requires.steps in
    let q = c.args.q in
    let w = c.args.w in
    let b = c.args.back.now in
    let t = c.args.turns.now in
    let m = c.args.rows.now in
    let o = c.args.out.now in
    let r = c.args.r in
    let y = c.as_slice-then-s-d.result.now in
    let l = not_first q w b t m o S r c.if-s-eq0.false in
    whole_coefficients q w b t m o S y (known_numbers q w b t m o S r (r - 1) y c.requires.known l
    (known_row q w b t m o S r (r - 1) c.index-out-r.result y c.requires.known l c.index-out-r.is
    c.as_slice-then-s-d.ensures))

pub turned-requires-clause-numbers : goal.turned-requires-clause-numbers
turned-requires-clause-numbers c =
    let S = c.requires.steps in
    let q = c.args.q in
    let w = c.args.w in
    let b = c.args.back.now in
    let t = c.args.turns.now in
    let m = c.args.rows.now in
    let o = c.args.out.now in
    let r = c.args.r in
    let d = length b in
    let y = c.as_slice-2.result.now in
    let l = behind_digits q w b t m o S r c.if-s-eq0.false c.if-s-d.false in
    (known_numbers q w b t m o S r (r - d) y c.requires.known l
    (known_row q w b t m o S r (r - d) c.index-out-r-2.result y c.requires.known l c.index-out-r-2.is
    c.as_slice-2.ensures)).below

pub turned-requires-clause-whole : goal.turned-requires-clause-whole
turned-requires-clause-whole c =
    let S = c.requires.steps in
    let q = c.args.q in
    let w = c.args.w in
    let b = c.args.back.now in
    let t = c.args.turns.now in
    let m = c.args.rows.now in
    let o = c.args.out.now in
    let r = c.args.r in
    let d = length b in
    let y = c.as_slice-2.result.now in
    let l = behind_digits q w b t m o S r c.if-s-eq0.false c.if-s-d.false in
    whole_elements q w b t m o S y (known_numbers q w b t m o S r (r - d) y c.requires.known l
    (known_row q w b t m o S r (r - d) c.index-out-r-2.result y c.requires.known l c.index-out-r-2.is
    c.as_slice-2.ensures))

pub returns-then-s-d : goal.returns-then-s-d
returns-then-s-d c =
    let S = c.requires.steps in
    let q = c.args.q in
    let w = c.args.w in
    let b = c.args.back.now in
    let t = c.args.turns.now in
    let m = c.args.rows.now in
    let o = c.args.out.now in
    let r = c.args.r in
    let y = c.as_slice-then-s-d.result.now in
    let l = not_first q w b t m o S r c.if-s-eq0.false in
    let e = known_row q w b t m o S r (r - 1) c.index-out-r.result y c.requires.known l c.index-out-r.is
    c.as_slice-then-s-d.ensures in
    of_shifted q w b t m o S r c.in_ok-shifted.field-0 y (known_numbers q w b t m o S r (r - 1) y c.requires.known l e)
    c.if-s-eq0.false c.if-s-d.true e c.in_ok-shifted.ensures

pub returns : goal.returns
returns c =
    let S = c.requires.steps in
    let q = c.args.q in
    let w = c.args.w in
    let b = c.args.back.now in
    let t = c.args.turns.now in
    let m = c.args.rows.now in
    let o = c.args.out.now in
    let r = c.args.r in
    let d = length b in
    let y = c.as_slice-2.result.now in
    let l = behind_digits q w b t m o S r c.if-s-eq0.false c.if-s-d.false in
    let e = known_row q w b t m o S r (r - d) c.index-out-r-2.result y c.requires.known l c.index-out-r-2.is
    c.as_slice-2.ensures in
    of_turned q w b t m o S r c.in_ok-turned.field-0 y (known_numbers q w b t m o S r (r - d) y c.requires.known l e)
    c.if-s-d.false e c.in_ok-turned.ensures
