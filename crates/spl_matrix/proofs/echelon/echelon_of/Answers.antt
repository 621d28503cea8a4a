use Rattle.std.proofs.Common.{◌≡◌, ℕ, ◌+◌, List, length, drop, sym, refl, ap, ap₂, subst, ◌∙◌, arith}
use Rattle.std.specs.List.{All}
use Rattle.std.proofs.lemmas.List.{take_at}
use Rattle.theory_tables.specs.Matrix.{IsMatrix}
use Rattle.theory_rings.proofs.Sums.Lists.{length-table}
use Rattle.spl_matrix.specs.Elimination.{augmented, columns, IsEliminated}
use Rattle.spl_matrix.proofs.Beside.{augmented-shape}
use Rattle.spl_matrix.proofs.Steps.{finish}
use Rattle.spl_matrix.proofs.echelon.echelon_of.Goals as goal

pub augmented_width-n-requires : goal.augmented_width-n-requires
augmented_width-n-requires g c =
    let o = g.F.Field.ops c.args.f.now in
    let L = g.met.F.Field.laws c.args.f.now in
    let a = c.args.a.now in
    let h = length a in
    let w = c.args.w in
    let tall : length (augmented o h a) ≡ h = length-table h _ in
    let shape = augmented-shape o L h w a refl c.requires.shape in
    let rows_is : c.as_slice.result.now ≡ augmented o h a = c.as_slice.ensures.value ∙ c.in_ok-rows.ensures in
    let P : List (List g.row.F-Elem.Denot) → Type 0 = λ m. All (λ row. length row ≡ w + length m) m in
    subst P (sym rows_is) (λ k d k_in. (shape k d k_in).right_length ∙ ap (λ (k : ℕ). w + k) (sym tall))

pub eliminate-requires : goal.eliminate-requires
eliminate-requires g c =
    let o = g.F.Field.ops c.args.f.now in
    let L = g.met.F.Field.laws c.args.f.now in
    let a = c.args.a.now in
    let h = length a in
    let w = c.args.w in
    let tall : length (augmented o h a) ≡ h = length-table h _ in
    let shape = augmented-shape o L h w a refl c.requires.shape in
    let rows_is : c.as_slice.result.now ≡ augmented o h a = c.as_slice.ensures.value ∙ c.in_ok-rows.ensures in
    let n_is : c.augmented_width-n.result ≡ w + h = c.augmented_width-n.ensures
    ∙ ap (λ (m : List (List g.row.F-Elem.Denot)). w + length m) rows_is ∙ ap (λ (k : ℕ). w + k) tall in
    let before_is : c.deref_mut.result.now ≡ augmented o h a = c.deref_mut.ensures.value ∙ c.in_ok-rows.ensures in
    let M : List (List g.row.F-Elem.Denot) → Type 0 = λ m. IsMatrix o c.augmented_width-n.result m in
    let N : ℕ → Type 0 = λ n. IsMatrix o n (augmented o h a) in
    record { shape = subst M (sym before_is) (subst N (sym n_is) shape); columns = omega arith }

pub columns_of-requires : goal.columns_of-requires
columns_of-requires g c =
    let o = g.F.Field.ops c.args.f.now in
    let L = g.met.F.Field.laws c.args.f.now in
    let a = c.args.a.now in
    let h = length a in
    let w = c.args.w in
    let tall : length (augmented o h a) ≡ h = length-table h _ in
    let shape = augmented-shape o L h w a refl c.requires.shape in
    let rows_is : c.as_slice.result.now ≡ augmented o h a = c.as_slice.ensures.value ∙ c.in_ok-rows.ensures in
    let n_is : c.augmented_width-n.result ≡ w + h = c.augmented_width-n.ensures
    ∙ ap (λ (m : List (List g.row.F-Elem.Denot)). w + length m) rows_is ∙ ap (λ (k : ℕ). w + k) tall in
    let before = c.deref_mut.result.now in
    let new = c.eliminate.new.rows in
    let pivots = c.in_ok-pivots.pivots in
    let before_is : before ≡ augmented o h a = c.deref_mut.ensures.value ∙ c.in_ok-rows.ensures in
    let P : ℕ → ℕ → Type 0 = λ k n. IsEliminated o k n w before new pivots in
    let Q : List (List g.row.F-Elem.Denot) → Type 0 = λ m. IsEliminated o h (w + h) w m new pivots in
    let long : length before ≡ h = ap length before_is ∙ tall in
    let e = subst Q before_is (subst (P h) n_is (subst (λ (k : ℕ). P k c.augmented_width-n.result) long
    c.in_ok-pivots.ensures)) in
    let kept = take_at new (drop (length new) c.in_ok-rows.rows.items) c.in_ok-rows.rows.len
    (e.height ∙ sym long ∙ c.deref_mut.ensures.len) in
    let M : List (List g.row.F-Elem.Denot) → Type 0 = λ m. IsMatrix o c.augmented_width-n.result m in
    let N : ℕ → Type 0 = λ n. IsMatrix o n new in
    record {
      shape = subst M (sym (c.as_slice-2.ensures.value ∙ kept)) (subst N (sym n_is) e.shape);
      within = omega arith;
    }

pub columns_of-requires-2 : goal.columns_of-requires-2
columns_of-requires-2 g c =
    let o = g.F.Field.ops c.args.f.now in
    let L = g.met.F.Field.laws c.args.f.now in
    let a = c.args.a.now in
    let h = length a in
    let w = c.args.w in
    let tall : length (augmented o h a) ≡ h = length-table h _ in
    let shape = augmented-shape o L h w a refl c.requires.shape in
    let rows_is : c.as_slice.result.now ≡ augmented o h a = c.as_slice.ensures.value ∙ c.in_ok-rows.ensures in
    let n_is : c.augmented_width-n.result ≡ w + h = c.augmented_width-n.ensures
    ∙ ap (λ (m : List (List g.row.F-Elem.Denot)). w + length m) rows_is ∙ ap (λ (k : ℕ). w + k) tall in
    let before = c.deref_mut.result.now in
    let new = c.eliminate.new.rows in
    let pivots = c.in_ok-pivots.pivots in
    let before_is : before ≡ augmented o h a = c.deref_mut.ensures.value ∙ c.in_ok-rows.ensures in
    let P : ℕ → ℕ → Type 0 = λ k n. IsEliminated o k n w before new pivots in
    let Q : List (List g.row.F-Elem.Denot) → Type 0 = λ m. IsEliminated o h (w + h) w m new pivots in
    let long : length before ≡ h = ap length before_is ∙ tall in
    let e = subst Q before_is (subst (P h) n_is (subst (λ (k : ℕ). P k c.augmented_width-n.result) long
    c.in_ok-pivots.ensures)) in
    let kept = take_at new (drop (length new) c.in_ok-rows.rows.items) c.in_ok-rows.rows.len
    (e.height ∙ sym long ∙ c.deref_mut.ensures.len) in
    let M : List (List g.row.F-Elem.Denot) → Type 0 = λ m. IsMatrix o c.augmented_width-n.result m in
    let N : ℕ → Type 0 = λ n. IsMatrix o n new in
    record {
      shape = subst M (sym (c.as_slice-3.ensures.value ∙ kept)) (subst N (sym n_is) e.shape);
      within = omega arith;
    }

pub returns : goal.returns
returns g c =
    let o = g.F.Field.ops c.args.f.now in
    let L = g.met.F.Field.laws c.args.f.now in
    let a = c.args.a.now in
    let h = length a in
    let w = c.args.w in
    let tall : length (augmented o h a) ≡ h = length-table h _ in
    let rows_is : c.as_slice.result.now ≡ augmented o h a = c.as_slice.ensures.value ∙ c.in_ok-rows.ensures in
    let n_is : c.augmented_width-n.result ≡ w + h = c.augmented_width-n.ensures
    ∙ ap (λ (m : List (List g.row.F-Elem.Denot)). w + length m) rows_is ∙ ap (λ (k : ℕ). w + k) tall in
    let before = c.deref_mut.result.now in
    let new = c.eliminate.new.rows in
    let pivots = c.in_ok-pivots.pivots in
    let before_is : before ≡ augmented o h a = c.deref_mut.ensures.value ∙ c.in_ok-rows.ensures in
    let P : ℕ → ℕ → Type 0 = λ k n. IsEliminated o k n w before new pivots in
    let Q : List (List g.row.F-Elem.Denot) → Type 0 = λ m. IsEliminated o h (w + h) w m new pivots in
    let long : length before ≡ h = ap length before_is ∙ tall in
    let e = subst Q before_is (subst (P h) n_is (subst (λ (k : ℕ). P k c.augmented_width-n.result) long
    c.in_ok-pivots.ensures)) in
    let kept = take_at new (drop (length new) c.in_ok-rows.rows.items) c.in_ok-rows.rows.len
    (e.height ∙ sym long ∙ c.deref_mut.ensures.len) in
    let shown = λ (k n : ℕ) (m : List (List g.row.F-Elem.Denot)) (e' : m ≡ new). ap₂
    (λ (h : ℕ) (m : List (List g.row.F-Elem.Denot)). columns o h k n m) (ap length e' ∙ e.height) e' in
    finish o L h w a new c.in_ok-left.left pivots c.in_ok-transform.transform refl c.requires.shape e
    (c.in_ok-left.ensures ∙ shown 0 w c.as_slice-2.result.now (c.as_slice-2.ensures.value ∙ kept))
    (c.in_ok-transform.ensures ∙ shown w h c.as_slice-3.result.now (c.as_slice-3.ensures.value ∙ kept))
