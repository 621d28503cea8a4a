-- The lines of the canonical text of a table, written one after the other.
use Rattle.std.proofs.Common.{◌≡◌, ℕ, suc, ◌+◌, ◌*◌, ◌<◌, true, nat_lt, List, [], ◌∷◌, ◌++◌, length, get_or}
use Rattle.std.proofs.Common.{refl, sym, ap, ap₂, ◌∙◌, subst, append_assoc, append-nil, arith}
use Rattle.std.specs.Prelude.{Bool, codes, decimal, map}
use Rattle.std.specs.List.{flat_map, filter}
use Rattle.std.proofs.lemmas.List.{map-append}
use Rattle.std.proofs.lemmas.List.Concat.{flat_map-append}
use Rattle.std.proofs.lemmas.List.Elements.{filter-append}
use Rattle.std.proofs.lemmas.Bool.{lt-ltb}
use Rattle.std.proofs.lemmas.List.{get_or_default}
use Rattle.theory_rings.specs.Ops.{Ops}
use Rattle.theory_rings.specs.Sum.{table}
use Rattle.theory_rings.proofs.Sums.Lists.{get_or-table, length-table}
use Rattle.theory_spaces.specs.Tuples.{constant}
use Rattle.theory_spaces.proofs.Tuples.TupleProducts.{product_basis}
use Rattle.theory_fractions.specs.Fraction.{Pair}
use Rattle.theory_tables.specs.Structure.{Structure, product_of, basis_of}
use Rattle.spl_text.specs.Text.{numbers_text, coefficients_text}
use Rattle.spl_fraction.specs.CanonicalText.{canonical_text}
use Rattle.spl_fraction.specs.Fractions.{field_of as base_of}
use Rattle.spl_fraction.specs.FractionsOver.{fractions_over, fractions_laws}
use Rattle.spl_fraction.specs.declared.field.Fractions.{Fractions}
use Rattle.spl_fraction.proofs.CanonicalTexts.{text_words}
use Rattle.spl_table.specs.TableText.{Entry, first_line, field_line, degree_line, entry_line}
use Rattle.spl_table.specs.Table.{fractions_of, field_of, algebra_of, ops_of}
use Rattle.spl_table.specs.CanonicalTable.{first_numbers, constant_of, is_nonzero, canonical_entry, nonzero_entries}
use Rattle.spl_table.specs.declared.table.Table.{Table}
use Rattle.spl_table.proofs.Places.{place-lt}
use Rattle.spl_table.proofs.CanonicalTriples.{flat_map_first}

-- ---- the first three lines

numbers_of_some : (m : List ℕ) → 0 < length m → coefficients_text m ≡ numbers_text m
numbers_of_some [] some = absurd (omega arith)
numbers_of_some (c ∷ cs) some = refl

-- (words and separators are variables, since literals compute to single bytes)
head_words : (old name newline field p space m degree n : List ℕ)
    → old ++ (name ++ newline ++ field) ++ p ++ space ++ m ++ (newline ++ degree) ++ n ++ newline
    ≡ old ++ (name ++ newline ++ (field ++ p ++ space ++ m ++ newline) ++ (degree ++ n ++ newline))
head_words old name newline field p space m degree n = simp append_assoc

pub head_written : (old a b c d e f new : List ℕ) (p n : ℕ) (m : List ℕ) → 0 < length m
    → a ≡ old ++ codes "spl-table 1\nfield " → b ≡ a ++ decimal p → c ≡ b ++ codes " " → d ≡ c ++ coefficients_text m
    → e ≡ d ++ codes "\ndegree " → f ≡ e ++ decimal n → new ≡ f ++ codes "\n"
    → new ≡ old ++ (first_line ++ field_line p m ++ degree_line n)
head_written old a b c d e f new p n m some ea eb ec ed ee ef enew =
    enew ∙ ap (λ t. t ++ codes "\n") (ef ∙ ap (λ t. t ++ decimal n) (ee ∙ ap (λ t. t ++ codes "\ndegree ")
    (ed ∙ ap₂ (λ t u. t ++ u) (ec ∙ ap (λ t. t ++ codes " ") (eb ∙ ap (λ t. t ++ decimal p) ea))
    (numbers_of_some m some))))
    ∙ head_words old (codes "spl-table 1") (10 ∷ []) (codes "field ") (decimal p) (codes " ") (numbers_text m)
    (codes "degree ") (decimal n)

-- ---- the line of an entry

pub entry_written : (old a b c d new : List ℕ) (A : Structure (Pair ℕ)) (i j k : ℕ) (x : Pair ℕ)
    → x ≡ constant_of A i j k
    → a ≡ old ++ (decimal (i + 1) ++ codes " ") → b ≡ a ++ (decimal (j + 1) ++ codes " ")
    → c ≡ b ++ (decimal (k + 1) ++ codes " ") → d ≡ c ++ canonical_text x → new ≡ d ++ codes "\n"
    → new ≡ old ++ entry_line (canonical_entry A i j k)
entry_written old a b c d new A i j k x is ea eb ec ed enew =
    enew ∙ ap (λ t. t ++ codes "\n") (ed ∙ ap₂ (λ t u. t ++ u)
    (ec ∙ ap (λ t. t ++ (decimal (k + 1) ++ codes " ")) (eb ∙ ap (λ t. t ++ (decimal (j + 1) ++ codes " ")) ea))
    (ap canonical_text is ∙ text_words (constant_of A i j k)))
    ∙ simp append_assoc

-- ---- the lines of triples

module _ (A : Structure (Pair ℕ)) where
  abbrev pub lines : List (ℕ × ℕ × ℕ) → List ℕ
  lines ts = flat_map entry_line (nonzero_entries A ts)

  pub one_written : (old new : List ℕ) (i j k : ℕ) (x : Pair ℕ) → x ≡ constant_of A i j k → (x.0 ≡ [] → ⊥)
      → new ≡ old ++ entry_line (canonical_entry A i j k) → new ≡ old ++ lines ((i, j, k) ∷ [])
  one_written old new i j k x is some written = go x.0 refl
    where
      go : (u : List ℕ) → x.0 ≡ u → new ≡ old ++ lines ((i, j, k) ∷ [])
      go [] e = absurd (some e)
      go (c ∷ cs) e =
          let here : is_nonzero (constant_of A i j k) ≡ true =
          ap (λ (w : Pair ℕ). nat_lt 0 (length w.0)) (sym is) ∙ ap (λ u. nat_lt 0 (length u)) e
          ∙ lt-ltb 0 (length (c ∷ cs)) (omega arith) in
          written ∙ ap (λ t. old ++ t) (sym (append-nil (entry_line (canonical_entry A i j k)))) ∙ rw here refl

  lines-append : (xs ys : List (ℕ × ℕ × ℕ)) → lines (xs ++ ys) ≡ lines xs ++ lines ys
  lines-append xs ys =
      let is : ℕ × ℕ × ℕ → Bool = λ t. is_nonzero (constant_of A t.0 t.1 t.2) in
      let entry : ℕ × ℕ × ℕ → Entry = λ t. canonical_entry A t.0 t.1 t.2 in
      ap (λ ts. flat_map entry_line (map entry ts)) (filter-append is xs ys)
      ∙ ap (flat_map entry_line) (map-append entry (filter is xs) (filter is ys))
      ∙ flat_map-append entry_line (map entry (filter is xs)) (map entry (filter is ys))

  -- the lines of the triples of one number more
  pub lines_more : (old mid new : List ℕ) (f : ℕ → List (ℕ × ℕ × ℕ)) (n : ℕ)
      → mid ≡ old ++ lines (flat_map f (first_numbers n)) → new ≡ mid ++ lines (f n)
      → new ≡ old ++ lines (flat_map f (first_numbers (n + 1)))
  lines_more old mid new f n before last =
      let next : suc n ≡ n + 1 = omega arith in
      subst (λ k. new ≡ old ++ lines (flat_map f (first_numbers k))) next
      (last ∙ ap (λ t. t ++ lines (f n)) before ∙ append_assoc old (lines (flat_map f (first_numbers n))) (lines (f n))
      ∙ ap (λ t. old ++ t) (sym (lines-append (flat_map f (first_numbers n)) (f n))
      ∙ ap lines (flat_map_first f n)))

-- ---- the row of a product

pub row_item : (T : Table) (f : Fractions) (A : Structure (Pair ℕ)) (row : List (Pair ℕ)) (i j k : ℕ) (r : Pair ℕ)
    → f ≡ fractions_of T → A ≡ algebra_of T → i < (algebra_of T).dim → j < (algebra_of T).dim → k < length row
    → row ≡ product_of (fractions_over (base_of f)) A (basis_of (fractions_over (base_of f)) A i)
    (basis_of (fractions_over (base_of f)) A j)
    → r ≡ get_or row k r → r ≡ constant_of (algebra_of T) i j k
row_item T f A row i j k r is_f is_A il jl kl value item =
    let o : Ops (Pair ℕ) = ops_of T in
    let B : Structure (Pair ℕ) = algebra_of T in
    let same : row ≡ product_of o B (basis_of o B i) (basis_of o B j) = value
    ∙ ap₂ (λ (g : Fractions) (D : Structure (Pair ℕ)). product_of (fractions_over (base_of g)) D
    (basis_of (fractions_over (base_of g)) D i) (basis_of (fractions_over (base_of g)) D j)) is_f is_A in
    let constants : row ≡ table B.dim (λ t. constant o B.dim B.constants i j t) = same
    ∙ product_basis o (fractions_laws (field_of T)) B.dim B.constants T.over i j il jl in
    let below : k < B.dim =
    omega (arith, kl, ap length constants, length-table B.dim (λ t. constant o B.dim B.constants i j t)) in
    let inside : (i * B.dim + j) * B.dim + k < length B.constants =
    omega (arith, place-lt B.dim i j k il jl below, T.count) in
    item ∙ ap (λ xs. get_or xs k r) constants ∙ get_or-table B.dim (λ t. constant o B.dim B.constants i j t) k r below
    ∙ get_or_default B.constants ((i * B.dim + j) * B.dim + k) o.zero ([], []) inside
