-- The members of a space over a finite field, numbered by the digits of their coordinates, and how many a span has.
use Rattle.std.specs.Prelude.{◌≡◌, ℕ, ◌^◌, ◌<◌, Bool, true}
use Rattle.std.proofs.Common.{sym, ◌∙◌, arith}
use Rattle.theory_rings.specs.Ring.{FieldOn}
use Rattle.theory_rings.specs.Enumerated.{Enumerated}
use Rattle.theory_rings.proofs.FiniteFields.EnumeratedTuples.{tuple, tuple_injective, number_of_tuple}
use Rattle.theory_rings.proofs.FiniteFields.EnumeratedTuples.{number_of_tuple_lt, tuple-number_of_tuple}
use Rattle.theory_spaces.specs.Module.{ModuleOn}
use Rattle.theory_spaces.specs.Linear.{comb, InSpan, Independent, Basis}
use Rattle.theory_spaces.proofs.Linear.Modules.{comb_congr, comb_injective}
use Rattle.theory_spaces.proofs.Linear.Spaces.{Basis-coord}
use Rattle.theory_division.specs.Counting.{count}
use Rattle.theory_division.proofs.Counts.{count_of_list}

module _ {K V : Type 0} (F : FieldOn K) (M : ModuleOn F.ring V) (E : Enumerated K) where
  pub size_pos : 0 < E.size
  size_pos = let l = E.number-lt F.zero in omega arith

  -- a span of k independent vectors has q^k members
  pub count_of_span : (S : Enumerated V) (k : ℕ) (v : ℕ → V) (P : V → Bool) → Independent M k v
      → ((x : V) → P x ≡ true → InSpan M k v x) → ((c : ℕ → K) → P (comb M k c v) ≡ true) → count S P ≡ E.size ^ k
  count_of_span S k v P h into back = count_of_list S P (E.size ^ k) (λ t. comb M k (tuple E t) v) (record {
    apart = λ t u l g e. tuple_injective E size_pos k t u l g (comb_injective M k v h (tuple E t) (tuple E u) e);
    passes = λ t l. back (tuple E t);
    whole = λ x e.
        let s = into x e in
        let t = number_of_tuple E k s.weights in (
          t,
          number_of_tuple_lt E size_pos k s.weights,
          comb_congr M k (tuple E t) s.weights v (tuple-number_of_tuple E size_pos k s.weights) ∙ sym s.combines,
        );
  })

  -- a space with a basis of m vectors has q^m members
  abbrev pub numbered : (m : ℕ) → Basis M m → Enumerated V
  numbered m B = record {
    size = E.size ^ m;
    member = λ t. comb M m (tuple E t) B.vec;
    number = λ x. number_of_tuple E m (B.coord x);
    number-lt = λ x. number_of_tuple_lt E size_pos m (B.coord x);
    member-number = λ x.
        comb_congr M m (tuple E (number_of_tuple E m (B.coord x))) (B.coord x) B.vec
        (tuple-number_of_tuple E size_pos m (B.coord x)) ∙ sym (B.expand x);
    number-member = λ t l.
        let x = comb M m (tuple E t) B.vec in
        tuple_injective E size_pos m (number_of_tuple E m (B.coord x)) t (number_of_tuple_lt E size_pos m (B.coord x)) l
        (λ i j. tuple-number_of_tuple E size_pos m (B.coord x) i j ∙ Basis-coord M m B (tuple E t) i j);
  }
