-- Columns of n entries: a space of n coordinates over any field.
use Rattle.std.specs.Prelude.{◌≡◌, ℕ, ◌≤◌, cond, ltb}
use Rattle.std.proofs.Common.{refl, sym, ◌∙◌, ap, ap₂, ⊎_elim}
use Rattle.std.proofs.Math.Path.{fun_ext}
use Rattle.std.proofs.lemmas.Bool.{cases_lt, lt-ltb, le-ltb}
use mathlib.Core.HLevel.{Σ_prop_path, Π_prop}
use Rattle.theory_rings.specs.Ring.{AddCommGroupOn, FieldOn}
use Rattle.theory_rings.proofs.Rings.RingLaws.{mul-zero, neg_zero}
use Rattle.theory_rings.proofs.Rings.Fields.{field_set}
use Rattle.theory_spaces.specs.Module.{ModuleOn}
use Rattle.theory_spaces.specs.Space.{SpaceOn}

module _ {K : Type 0} (F : FieldOn K) (n : ℕ) where
  -- entries that are 0 from n on
  abbrev pub Column : Type 0
  Column = (f : ℕ → K) × ((i : ℕ) → n ≤ i → f i ≡ F.zero)

  pub Column-path : (x y : Column) → ((i : ℕ) → x.0 i ≡ y.0 i) → x ≡ y
  Column-path x y h = Σ_prop_path (λ f. Π_prop (λ i. Π_prop (λ l. field_set F (f i) F.zero))) {u = x} {v = y}
      (fun_ext h)

  abbrev pub columns_add : AddCommGroupOn Column
  columns_add = record {
    monoid = record {
      zero = (λ i. F.zero, λ i l. refl);
      ◌⊕◌ = λ x y. (λ i. F.◌⊕◌ (x.0 i) (y.0 i), λ i l. ap₂ F.◌⊕◌ (x.1 i l) (y.1 i l) ∙ F.zero-add F.zero);
      add_assoc = λ x y z. Column-path _ _ (λ i. F.add_assoc (x.0 i) (y.0 i) (z.0 i));
      add_comm = λ x y. Column-path _ _ (λ i. F.add_comm (x.0 i) (y.0 i));
      zero-add = λ x. Column-path _ _ (λ i. F.zero-add (x.0 i));
    };
    neg = λ x. (λ i. F.neg (x.0 i), λ i l. ap F.neg (x.1 i l) ∙ neg_zero F.additive);
    neg-add = λ x. Column-path _ _ (λ i. F.neg-add (x.0 i));
  }

  abbrev pub columns : ModuleOn F.ring Column
  columns = record {
    additive = columns_add;
    scalars = record {
      ◌•◌ = λ a x. (λ i. F.◌⊗◌ a (x.0 i), λ i l. ap (F.◌⊗◌ a) (x.1 i l) ∙ mul-zero F.ring a);
      scale-add = λ a x y. Column-path _ _ (λ i. F.mul-add a (x.0 i) (y.0 i));
      add-scale = λ a b x. Column-path _ _ (λ i. F.add-mul a b (x.0 i));
      mul-scale = λ a b x. Column-path _ _ (λ i. F.mul_assoc a b (x.0 i));
      one-scale = λ x. Column-path _ _ (λ i. F.one-mul (x.0 i));
    };
  }

  abbrev pub column_space : SpaceOn columns n
  column_space = record {
    coord = λ x i. x.0 i;
    make = λ f. (λ i. cond (ltb i n) (f i) F.zero, λ i l. ap (λ b. cond b (f i) F.zero) (le-ltb i n l));
    coord-make = λ f i l. ap (λ b. cond b (f i) F.zero) (lt-ltb i n l);
    ext = λ x y h. Column-path x y (λ i. ⊎_elim (h i) (λ (l : n ≤ i). x.1 i l ∙ sym (y.1 i l)) (cases_lt i n));
    coord-zero = λ i l. refl;
    coord-add = λ x y i l. refl;
    coord-scale = λ a x i l. refl;
  }
