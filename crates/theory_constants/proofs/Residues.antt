-- Kernels of matrices with entries in a valuation ring, by their residues.
use Rattle.std.specs.Prelude.{◌≡◌, ◌≢◌, ◌<◌, ℕ, List}
use Rattle.std.proofs.Common.{refl, sym, ◌∙◌, ap, ap₂, ⊎_elim}
use Rattle.theory_rings.specs.Ring.{FieldOn}
use Rattle.theory_rings.specs.Ops.{Ops, FieldLaws}
use Rattle.theory_rings.specs.Elements.{Elem, Elem-path, elements}
use Rattle.theory_rings.specs.Sum.{sum, table, at}
use Rattle.theory_rings.proofs.Rings.RingLaws.{mul-zero, zero-mul}
use Rattle.theory_rings.proofs.Rings.Fields.{mul-inv}
use Rattle.theory_rings.proofs.Rings.Solver.{◌⊞◌, ◌⊠◌, minus, nil, ring1, ring2, ring3, ring4}
use Rattle.theory_rings.proofs.Rings.Elements.{at-elem, sum_of-elements, sum_of_congr}
use Rattle.theory_rings.proofs.Sums.Sums.{sum_congr, sum-add, mul-sum, sum-mul}
use Rattle.theory_spaces.specs.Valuation.{ValuationOn, IsIntegral}
use Rattle.theory_spaces.specs.Tuples.{IsTuple, tuple_zero, tuple_scale}
use Rattle.theory_spaces.proofs.Linear.Lattices.{Divides, least}
use Rattle.theory_spaces.proofs.Tuples.Tuples.{at-table, IsTuple-table, IsTuple-ext}
use Rattle.theory_tables.specs.Matrix.{entry}
use Rattle.theory_tables.specs.Subspace.{IsKilled}
use Rattle.theory_tables.proofs.Rows.Sums.{entry-elem}
use Rattle.theory_residue.specs.Residue.{ResidueOn}
use Rattle.theory_residue.proofs.ResidueAlgebra.{res-zero, res-sum}
use Rattle.theory_constants.specs.Residues.{KernelIsZero, KernelIsOnLine, IsResidueMatrix, KernelsByResidues}

module _ {K Q : Type 0} (F : FieldOn K) (Z : ValuationOn F) (q : K) (k : FieldOn Q) (D : ResidueOn F Z q k) (h w : ℕ)
    (f : ℕ → ℕ → K) (f_in : (i j : ℕ) → i < h → j < w → IsIntegral F Z (f i j)) where
  infixl 65 ◌⊕◌
  infixl 70 ◌⊗◌
  open F use {◌⊕◌, ◌⊗◌, neg}

  abbrev In : K → Type 0
  In x = IsIntegral F Z x

  -- the rows of f send x to 0
  abbrev pub Kills : (ℕ → K) → Type 0
  Kills x = (i : ℕ) → i < h → sum F.monoid w (λ j. f i j ⊗ x j) ≡ F.zero

  -- those of the residues send y to 0
  abbrev pub ResiduesKill : (ℕ → Q) → Type 0
  ResiduesKill y = (i : ℕ) → i < h → sum k.monoid w (λ j. k.◌⊗◌ (D.res (f i j)) (y j)) ≡ k.zero

  -- over the entry that divides all others
  module _ (x : ℕ → K) (p : Divides F Z w x) where
    abbrev t : K
    t = F.inv (x p.place)

    abbrev y : ℕ → K
    y j = x j ⊗ t

    abbrev reduced : ℕ → Q
    reduced j = D.res (y j)

    normal-one : y p.place ≡ F.one
    normal-one = mul-inv F (x p.place) p.nonzero

    reduced-one : reduced p.place ≡ k.one
    reduced-one = ap D.res normal-one ∙ D.map-one

    normal-kills : Kills x → Kills y
    normal-kills e i l =
        sum_congr F.monoid w (λ j. f i j ⊗ (x j ⊗ t)) (λ j. f i j ⊗ x j ⊗ t) (λ j _. sym (F.mul_assoc (f i j) (x j) t))
        ∙ sym (sum-mul F.ring w t (λ j. f i j ⊗ x j)) ∙ ap (λ z. z ⊗ t) (e i l) ∙ zero-mul F.ring t

    reduced-kills : Kills x → ResiduesKill reduced
    reduced-kills e i l =
        sym (res-sum F Z q k D w (λ j. f i j ⊗ y j) (λ j g. Z.mul_in (f i j) (y j) (f_in i j l g) (p.divides j g))
        ∙ sum_congr k.monoid w (λ j. D.res (f i j ⊗ y j)) (λ j. k.◌⊗◌ (D.res (f i j)) (reduced j))
        (λ j g. D.map-mul (f i j) (y j) (f_in i j l g) (p.divides j g)))
        ∙ ap D.res (normal-kills e i l) ∙ res-zero F Z q k D

  pub no_kernel : ((y : ℕ → Q) → ResiduesKill y → (j : ℕ) → j < w → y j ≡ k.zero)
      → (x : ℕ → K) → Kills x → (j : ℕ) → j < w → x j ≡ F.zero
  no_kernel only x e = ⊎_elim
      (λ (p : Divides F Z w x). absurd (k.one-nonzero
      (sym (reduced-one x p) ∙ only (reduced x p) (reduced-kills x p e) p.place p.within)))
      (λ z. z) (least F Z w x)

  -- the vector less its multiple by which an entry becomes 0
  module _ (u : ℕ → K) (p : Divides F Z w u) (x : ℕ → K) where
    abbrev s : K
    s = x p.place

    abbrev rest : ℕ → K
    rest j = x j ⊕ neg (s ⊗ y u p j)

    rest-zero : rest p.place ≡ F.zero
    rest-zero = ap (λ z. s ⊕ neg (s ⊗ z)) (normal-one u p)
        ∙ ap (λ z. s ⊕ neg z) (F.mul-one s) ∙ ring1 F.cring (λ a. (a ⊞ minus a, nil)) refl s

    rest-kills : Kills u → Kills x → Kills rest
    rest-kills eu ex i l =
        let g : ℕ → K = λ j. f i j ⊗ x j in
        let d : ℕ → K = λ j. f i j ⊗ y u p j in
        sum_congr F.monoid w (λ j. f i j ⊗ rest j) (λ j. g j ⊕ neg s ⊗ d j)
        (λ j _. ring4 F.cring (λ a b c e. (a ⊠ (b ⊞ minus (c ⊠ e)), a ⊠ b ⊞ minus c ⊠ (a ⊠ e))) refl
        (f i j) (x j) s (y u p j))
        ∙ sum-add F.monoid w g (λ j. neg s ⊗ d j)
        ∙ ap₂ (λ a b. a ⊕ b) (ex i l)
        (sym (mul-sum F.ring w (neg s) d) ∙ ap (λ z. neg s ⊗ z) (normal-kills u p eu i l) ∙ mul-zero F.ring (neg s))
        ∙ F.zero-add F.zero

    -- where the rest is 0, the vector is a multiple
    on_multiple : ((j : ℕ) → j < w → rest j ≡ F.zero) → (j : ℕ) → j < w → x j ≡ s ⊗ t u p ⊗ u j
    on_multiple z j l =
        ring2 F.cring (λ a b. (a, a ⊞ minus b ⊞ b)) refl (x j) (s ⊗ y u p j)
        ∙ ap (λ a. a ⊕ s ⊗ y u p j) (z j l) ∙ F.zero-add (s ⊗ y u p j)
        ∙ ring3 F.cring (λ a b c. (a ⊠ (b ⊠ c), a ⊠ c ⊠ b)) refl s (u j) (t u p)

  pub on_line : (g : ℕ → Q)
      → ((y : ℕ → Q) → ResiduesKill y → (c : Q) × ((j : ℕ) → j < w → y j ≡ k.◌⊗◌ c (g j)))
      → (u : ℕ → K) → Divides F Z w u → Kills u → (x : ℕ → K) → Kills x
      → (c : K) × ((j : ℕ) → j < w → x j ≡ c ⊗ u j)
  on_line g line u p eu x ex = (
    s u p x ⊗ t u p,
    on_multiple u p x (⊎_elim
        (λ (d : Divides F Z w (rest u p x)). absurd (apart d))
        (λ z. z) (least F Z w (rest u p x))),
  )
    where
      apart : Divides F Z w (rest u p x) → ⊥
      apart d =
          let x' = rest u p x in
          let ux = line (reduced u p) (reduced-kills u p eu) in
          let rx = line (reduced x' d) (reduced-kills x' d (rest-kills u p x eu ex)) in
          let a = ux.0 in
          let b = rx.0 in
          let gp = g p.place in
          let unit : k.◌⊗◌ a gp ≡ k.one = sym (ux.1 p.place p.within) ∙ reduced-one u p in
          let none : k.◌⊗◌ b gp ≡ k.zero =
          sym (rx.1 p.place p.within) ∙ ap D.res (ap (λ z. z ⊗ t x' d) (rest-zero u p x) ∙ zero-mul F.ring (t x' d))
          ∙ res-zero F Z q k D in
          let gone : b ≡ k.zero =
          sym (k.mul-one b) ∙ ap (k.◌⊗◌ b) (sym unit)
          ∙ ring3 k.cring (λ a b c. (b ⊠ (a ⊠ c), a ⊠ (b ⊠ c))) refl a b gp
          ∙ ap (k.◌⊗◌ a) none ∙ mul-zero k.ring a in
          k.one-nonzero (sym (reduced-one x' d) ∙ rx.1 d.place d.within
          ∙ ap (λ z. k.◌⊗◌ z (g d.place)) gone ∙ zero-mul k.ring (g d.place))

module _ {E R : Type 0} (o : Ops E) (L : FieldLaws o) (r : Ops R) (N : FieldLaws r)
    (Z : ValuationOn (elements o L)) (q : Elem o) (D : ResidueOn (elements o L) Z q (elements r N)) (h w : ℕ)
    (a : List (List E)) (b : List (List R)) (m : IsResidueMatrix o L r N Z q D h w a b) where
  abbrev F : FieldOn (Elem o)
  F = elements o L

  abbrev k : FieldOn (Elem r)
  k = elements r N

  abbrev f : ℕ → ℕ → Elem o
  f i j = (entry o a i j, entry-elem o L w a m.shape i j)

  f_in : (i j : ℕ) → i < h → j < w → IsIntegral F Z (f i j)
  f_in i j hi hj = m.integral i j hi hj (f i j) refl

  abbrev item : (v : List E) → IsTuple o w v → ℕ → Elem o
  item v hv j = (at o v j, at-elem o L v hv.of_elements j)

  kills : (v : List E) (hv : IsTuple o w v) → IsKilled o h w a v → Kills F Z q k D h w f f_in (item v hv)
  kills v hv e i l = Elem-path o (sum F.monoid w (λ j. F.◌⊗◌ (f i j) (item v hv j))) F.zero
      (sym (sum_of-elements o L w (λ j. F.◌⊗◌ (f i j) (item v hv j))) ∙ e i l)

  abbrev list : (ℕ → Elem r) → List R
  list y = table w (λ j. (y j).0)

  list-tuple : (y : ℕ → Elem r) → IsTuple r w (list y)
  list-tuple y = IsTuple-table r w (λ j. (y j).0) (λ j _. (y j).1)

  killed : (y : ℕ → Elem r) → ResiduesKill F Z q k D h w f f_in y → IsKilled r h w b (list y)
  killed y e i l =
      sum_of_congr r w (λ j. r.mul (entry r b i j) (at r (list y) j)) (λ j. (k.◌⊗◌ (D.res (f i j)) (y j)).0)
      (λ j g. ap₂ r.mul (sym (m.residue i j l g (f i j) refl)) (at-table r w (λ j. (y j).0) j g))
      ∙ sum_of-elements r N w (λ j. k.◌⊗◌ (D.res (f i j)) (y j)) ∙ ap (λ (z : Elem r). z.0) (e i l)

  zero-tuple : IsTuple o w (tuple_zero o w)
  zero-tuple = IsTuple-table o w (λ _. o.zero) (λ _ _. L.zero-elem)

  is_zero : (v : List E) (hv : IsTuple o w v) → ((j : ℕ) → j < w → item v hv j ≡ F.zero) → v ≡ tuple_zero o w
  is_zero v hv z = IsTuple-ext o w v (tuple_zero o w) hv zero-tuple
      (λ j l. ap (λ (x : Elem o). x.0) (z j l) ∙ sym (at-table o w (λ _. o.zero) j l))

  zero_kernel : KernelIsZero r h w b → KernelIsZero o h w a
  zero_kernel only v hv e = is_zero v hv (no_kernel F Z q k D h w f f_in
      (λ y g j l. Elem-path r (y j) k.zero (sym (at-table r w (λ j. (y j).0) j l)
      ∙ ap (λ z. at r z j) (only (list y) (list-tuple y) (killed y g)) ∙ at-table r w (λ _. r.zero) j l))
      (item v hv) (kills v hv e))

  line_kernel : (g : List R) → IsTuple r w g → KernelIsOnLine r h w b g
      → (u : List E) → IsTuple o w u → IsKilled o h w a u → u ≢ tuple_zero o w → KernelIsOnLine o h w a u
  line_kernel g hg line u hu eu nonzero v hv ev =
      let residues : ℕ → Elem r = λ j. (at r g j, at-elem r N g hg.of_elements j) in
      let p : Divides F Z w (item u hu) = ⊎_elim (λ (d : Divides F Z w (item u hu)). d)
      (λ z. absurd (nonzero (is_zero u hu z))) (least F Z w (item u hu)) in
      let c = on_line F Z q k D h w f f_in residues (λ y e.
      let t = line (list y) (list-tuple y) (killed y e) in (
        (t.0, t.1),
        λ j l. Elem-path r (y j) (k.◌⊗◌ (t.0, t.1) (residues j)) (sym (at-table r w (λ j. (y j).0) j l)
            ∙ ap (λ z. at r z j) t.2 ∙ at-table r w (λ j. r.mul t.0 (at r g j)) j l),
      )) (item u hu) p (kills u hu eu) (item v hv) (kills v hv ev) in (
        c.0.0,
        c.0.1,
        IsTuple-ext o w v (tuple_scale o w c.0.0 u) hv
            (IsTuple-table o w (λ j. o.mul c.0.0 (at o u j))
            (λ j _. L.mul-elem c.0.0 (at o u j) c.0.1 (at-elem o L u hu.of_elements j)))
            (λ j l. ap (λ (x : Elem o). x.0) (c.1 j l) ∙ sym (at-table o w (λ j. o.mul c.0.0 (at o u j)) j l)),
      )

module _ {E R : Type 0} (o : Ops E) (L : FieldLaws o) (r : Ops R) (N : FieldLaws r)
    (Z : ValuationOn (elements o L)) (q : Elem o) (D : ResidueOn (elements o L) Z q (elements r N)) where
  pub kernels_by_residues : KernelsByResidues o L r N Z q D
  kernels_by_residues h w a b m = record {
    zero = zero_kernel o L r N Z q D h w a b m;
    line = line_kernel o L r N Z q D h w a b m;
  }
