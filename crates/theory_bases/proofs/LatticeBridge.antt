-- From lattices of lists to those of theory_spaces: the combinations of rows and of vectors with weights in a set, and
-- orders.
use Rattle.std.specs.Prelude.{◌≡◌, ◌<◌, ℕ, List, [], length, get_or}
use Rattle.std.proofs.Common.{sym, ◌∙◌, ap, arith}
use Rattle.std.proofs.lemmas.List.Elements.{All-get_or}
use Rattle.theory_rings.specs.Ring.{FieldOn}
use Rattle.theory_rings.specs.Ops.{Ops, FieldLaws}
use Rattle.theory_rings.specs.Elements.{Elem, elements}
use Rattle.theory_rings.specs.Sum.{at, sum_of, table}
use Rattle.theory_rings.proofs.Sums.Lists.{All-table}
use Rattle.theory_rings.proofs.Rings.Elements.{at-elem, sum_of_congr}
use Rattle.theory_spaces.specs.Module.{ModuleOn}
use Rattle.theory_spaces.specs.Linear.{comb}
use Rattle.theory_spaces.specs.Lattice.{LatticeOver}
use Rattle.theory_spaces.specs.Tuples.{Tuple}
use Rattle.theory_spaces.proofs.Tuples.Tuples.{tuples, Tuple-path, IsTuple-ext, IsTuple-table, at-table}
use Rattle.theory_tables.specs.Matrix.{entry}
use Rattle.theory_tables.proofs.Algebras.Bridge.{IsTuple-of, comb-at}
use Rattle.theory_bases.specs.TupleLattices.{TupleLattice}

module _ {E : Type 0} (o : Ops E) (L : FieldLaws o) (P : E → Type 0) (m : ℕ) (rows : List (List E))
    (v : ℕ → Tuple o m) (is : (i : ℕ) → i < length rows → (v i).0 ≡ get_or rows i []) where
  abbrev F : FieldOn (Elem o)
  F = elements o L

  abbrev N : ModuleOn F.ring (Tuple o m)
  N = tuples o L m

  abbrev n : ℕ
  n = length rows

  abbrev Lat : Tuple o m → Type 0
  Lat = LatticeOver N (λ c. P c.0) n v

  items : (c : ℕ → Elem o) (j : ℕ) → j < m
      → at o (comb N n c v).0 j ≡ sum_of o n (λ i. o.mul (c i).0 (entry o rows i j))
  items c j j_in = comb-at o L m n c v j j_in
      ∙ sum_of_congr o n (λ i. o.mul (c i).0 (at o (v i).0 j)) (λ i. o.mul (c i).0 (entry o rows i j))
      (λ i l. ap (λ r. o.mul (c i).0 (at o r j)) (is i l))

  pub to_lattice : (x : Tuple o m) → TupleLattice o P m rows x.0 → Lat x
  to_lattice x h =
      let s = h.1 in
      let c : ℕ → Elem o = λ i. (at o s.weights i, at-elem o L s.weights s.tuple.of_elements i) in
      let y = comb N n c v in
      record {
        weights = c;
        passes = λ i l. All-get_or P s.weights i o.zero (let e = s.tuple.right_length in omega (arith, l)) s.allowed;
        combines = Tuple-path o L m x y
            (IsTuple-ext o m x.0 y.0 h.0 (IsTuple-of o L m y) (λ j j_in. s.combines j j_in ∙ sym (items c j j_in)));
      }

  pub from_lattice : (x : Tuple o m) → Lat x → TupleLattice o P m rows x.0
  from_lattice x h =
      let w : ℕ → E = λ i. (h.weights i).0 in (
        IsTuple-of o L m x,
        record {
          weights = table n w;
          tuple = IsTuple-table o n w (λ i _. (h.weights i).1);
          allowed = All-table P n w (λ i l. h.passes i l);
          combines = λ j j_in. ap (λ (y : Tuple o m). at o y.0 j) h.combines ∙ items h.weights j j_in
              ∙ sum_of_congr o n (λ i. o.mul (w i) (entry o rows i j))
              (λ i. o.mul (at o (table n w) i) (entry o rows i j))
              (λ i l. ap (λ x. o.mul x (entry o rows i j)) (sym (at-table o n w i l)));
        },
      )
