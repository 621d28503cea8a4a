use Rattle.std.proofs.Common.{◌≡◌, ◌-◌, ◌<◌, ◌≤◌, ℕ, List, length, get_or, take, drop, ap, subst, ◌∙◌, arith}
use Rattle.std.proofs.Common.{length-drop}
use Rattle.std.proofs.lemmas.List.Elements.{All-drop, All-take}
use Rattle.std.proofs.lemmas.Result.{IfOk-weaker}
use Rattle.theory_spaces.specs.Tuples.{IsTuple}
use Rattle.theory_tables.specs.Echelon.{IsReducedEchelon}
use Rattle.spl_matrix.specs.Elimination.{columns}
use Rattle.spl_matrix.specs.Spanning.{IsRightPart}
use Rattle.spl_matrix.proofs.Beside.{columns_drop}
use Rattle.std.proofs.lemmas.List.{take_all}
use Rattle.spl_matrix.proofs.meet.right_part.Goals as goal

pub columns_of-requires : goal.columns_of-requires
columns_of-requires g c =
    let o = g.F.Field.ops c.args.f.now in
    let rows = c.args.rows.now in
    let k = c.count_below-k.result in
    record {
      shape = All-take (IsTuple o c.args.n) (length rows - k) (drop k rows)
          (All-drop (IsTuple o c.args.n) k rows c.requires.basis.shape);
      within = omega (arith, c.requires.width);
    }

pub returns : goal.returns
returns g c =
    let o = g.F.Field.ops c.args.f.now in
    let w = c.args.w in
    let rows = c.args.rows.now in
    let k = c.count_below-k.result in
    let pivots = c.in_ok-pivots.pivots in
    let p = c.in_ok-pivots.ensures in
    let R : ℕ → Type 0 = λ n. IsReducedEchelon o (length rows) rows pivots n in
    let within : List ℕ → Type 0 = λ ps. k ≤ length ps in
    let below : List ℕ → Type 0 = λ ps. (s : ℕ) → s < k → get_or ps s 0 < w in
    let above : List ℕ → Type 0 = λ ps. k < length ps → w ≤ get_or ps k 0 in
    let cut : take (length rows - k) (drop k rows) ≡ drop k rows =
    take_all (length rows - k) (drop k rows) (omega (arith, length-drop k rows)) in
    let part = λ (xs : List (List g.row.F-Elem.Denot)). columns o (length xs) w w xs in
    let P : List (List g.row.F-Elem.Denot) → Type 0 = λ m. m ≡ part (take (length rows - k) (drop k rows)) in
    let Q : List (List g.row.F-Elem.Denot) → Type 0 = λ m. IsRightPart o w rows m in
    IfOk-weaker c.columns_of.result P Q (λ m m_is. record {
      pivots = pivots;
      k = k;
      each = p.each;
      reduced = subst R c.requires.width p.reduced;
      within = subst within c.as_slice.ensures c.count_below-k.ensures.within;
      below = subst below c.as_slice.ensures c.count_below-k.ensures.below;
      above = subst above c.as_slice.ensures c.count_below-k.ensures.above;
      part_is = m_is ∙ ap part cut ∙ columns_drop o w k rows;
    }) c.columns_of.ensures
