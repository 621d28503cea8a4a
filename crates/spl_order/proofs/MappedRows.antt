-- Tables of tables as mapped lists, and an option whose case of None cannot be.
use Rattle.std.specs.Prelude.{◌≡◌, ℕ, ◌<◌, List, [], length, get_or, map, Option, None, Some, MatchOption}
use Rattle.std.specs.Option.{IsSome}
use Rattle.std.proofs.Common.{refl, sym, ◌∙◌, arith, ext_get_or}
use Rattle.std.proofs.lemmas.List.{length-map, get_or-map}
use Rattle.theory_rings.specs.Sum.{table}
use Rattle.theory_rings.proofs.Sums.Lists.{length-table, get_or-table}
use Rattle.theory_bases.proofs.FractionsOver.{map-table}

pub tables-map : {X Y : Type 0} (f : List X → Y) (rows : List (List (List X)))
    → table (length rows) (λ i. table (length (get_or rows i [])) (λ j. f (get_or (get_or rows i []) j [])))
    ≡ map (map f) rows
tables-map {X} {Y} f rows =
    let n = length rows in
    ext_get_or [] (table n row) (map (map f) rows) (length-table n row ∙ sym (length-map rows (map f)))
    (λ i l. let below : i < length rows = omega (arith, l, length-table n row) in
    get_or-table n row i [] below ∙ sym (map-table f (get_or rows i []) [])
    ∙ sym (get_or-map (map f) rows i [] [] below))
  where
    row : ℕ → List Y
    row i = table (length (get_or rows i [])) (λ j. f (get_or (get_or rows i []) j []))

-- there is a value where the case of None cannot be
pub some_of_not_none : {A : Type 0} (P : Type 0) (Q : A → Type 0) (r : Option A) → MatchOption r P Q → (P → ⊥)
    → IsSome r
some_of_not_none P Q None h n = absurd (n h)
some_of_not_none P Q (Some x) h n = refl

pub some_of_no_none : {A : Type 0} (r : Option A) → (r ≡ None → ⊥) → IsSome r
some_of_no_none None n = absurd (n refl)
some_of_no_none (Some x) n = refl
