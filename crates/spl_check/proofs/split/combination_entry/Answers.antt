use Rattle.std.proofs.Common.{◌≡◌, ◌<◌, ℕ, [], List, length, get_or, ap, ap₂, sym, subst, ◌∙◌, arith}
use Rattle.std.proofs.lemmas.List.{get_or_default}
use Rattle.theory_rings.specs.Sum.{sum_of, at}
use Rattle.theory_tables.specs.Matrix.{entry}
use Rattle.theory_tables.specs.Split.{IsSquare}
use Rattle.theory_tables.specs.Conditions.{map_entry}
use Rattle.theory_tables.proofs.Rows.Sums.{sum_step, read_at, row_at}
use Rattle.spl_matrix.proofs.Changes.{read-elem, slice-elem}
use Rattle.spl_check.proofs.split.combination_entry.Goals as goal

pub add_product-requires : goal.add_product-requires
add_product-requires g c =
    let o = g.F.Field.ops c.args.f.now in
    let maps = c.args.maps.now in
    let k = c.loop-k.k in
    let k_in = c.loop-k-test.true in
    let map = c.as_slice-map.result.now in
    let map_is : map ≡ get_or maps k [] =
    c.as_slice-map.ensures ∙ c.index-maps-k.is ∙ get_or_default maps k c.index-maps-k.result [] k_in in
    let square = subst (IsSquare o c.args.n) (sym map_is) (c.requires.maps k k_in) in
    let r_in : c.args.r < length map = omega (arith, square.height, c.requires.row) in
    let here = square.shape c.args.r [] r_in in
    let row = row_at map c.args.r c.index-map-r.result c.as_slice-row.result.now r_in c.index-map-r.is
    c.as_slice-row.ensures in
    record {
      zero_elem = c.requires.zero_elem;
      zero = c.requires.zero;
      sum = c.loop-k.invariant.elem;
      left = read-elem o c.args.weights.now k c.index-weights-k.result c.requires.weights.of_elements
          (omega (arith, c.requires.weights.right_length, k_in)) c.index-weights-k.is;
      right = slice-elem o (get_or map c.args.r []) c.as_slice-row.result.now c.args.s c.index-row-s.result
          here.of_elements row (omega (arith, here.right_length, c.requires.column)) c.index-row-s.is;
    }

pub loop-k-preserved : goal.loop-k-preserved
loop-k-preserved g c =
    let o = g.F.Field.ops c.args.f.now in
    let maps = c.args.maps.now in
    let weights = c.args.weights.now in
    let r = c.args.r in
    let s = c.args.s in
    let k = c.loop-k.k in
    let k_in = c.loop-k-test.true in
    let map = c.as_slice-map.result.now in
    let map_is : map ≡ get_or maps k [] =
    c.as_slice-map.ensures ∙ c.index-maps-k.is ∙ get_or_default maps k c.index-maps-k.result [] k_in in
    let square = subst (IsSquare o c.args.n) (sym map_is) (c.requires.maps k k_in) in
    let r_in : r < length map = omega (arith, square.height, c.requires.row) in
    let items = c.as_slice-row.result.now in
    let row = row_at map r c.index-map-r.result items r_in c.index-map-r.is c.as_slice-row.ensures in
    let s_row : s < length items =
    omega (arith, ap length row, (square.shape r [] r_in).right_length, c.requires.column) in
    let k_weights : k < length weights = omega (arith, c.requires.weights.right_length, k_in) in
    let x = c.index-weights-k.result in
    let y = c.index-row-s.result in
    record {
      elem = c.in_ok-total-2.ensures.elem;
      value = sum_step o k (λ (k : ℕ). o.mul (at o weights k) (map_entry o maps k r s)) c.loop-k.total
          c.in_ok-total-2.total (o.mul x y) c.loop-k.invariant.value
          (ap₂ o.mul (read_at o weights k x k_weights c.index-weights-k.is)
          (read_at o items s y s_row c.index-row-s.is ∙ ap (λ (xs : List g.row.F-Elem.Denot). at o xs s) row
          ∙ ap (λ (m : List (List g.row.F-Elem.Denot)). entry o m r s) map_is))
          c.in_ok-total-2.ensures.value;
    }

pub returns : goal.returns
returns g c =
    let o = g.F.Field.ops c.args.f.now in
    let ended : c.loop-k.k ≡ length c.args.maps.now = omega arith in
    record {
      elem = c.loop-k.invariant.elem;
      value = c.loop-k.invariant.value
          ∙ ap (λ (n : ℕ). sum_of o n
          (λ k. o.mul (at o c.args.weights.now k) (map_entry o c.args.maps.now k c.args.r c.args.s))) ended;
    }
