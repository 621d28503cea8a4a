-- Sums over the elements of a program's field, and tables of them.
use Rattle.std.specs.Prelude.{◌≡◌, ℕ, zero, suc, ◌+◌, ◌<◌, ◌≤◌, List, [], ◌∷◌, ◌++◌, length, get_or, cond, nat_eq}
use Rattle.std.specs.List.{All}
use Rattle.std.proofs.Common.{refl, sym, ◌∙◌, ap, ap₂, subst, add-one, ⊎_elim}
use Rattle.std.proofs.lemmas.Bool.{cases_lt}
use Rattle.std.proofs.lemmas.List.{get_or_past, get_or_default}
use Rattle.std.proofs.lemmas.List.Elements.{All-push}
use Rattle.theory_rings.specs.Ops.{Ops, IsElem, FieldLaws}
use Rattle.theory_rings.specs.Elements.{Elem, Elem-path, elements}
use Rattle.theory_rings.specs.Sum.{sum, sum_of, table, at}
use Rattle.theory_rings.proofs.Rings.Elements.{at-elem, sum_of-elements, sum_of_congr}
use Rattle.theory_rings.proofs.Rings.Solver.{◌⊞◌, ◌⊠◌, minus, ring3}
use Rattle.theory_rings.proofs.Sums.Sums as sums
use Rattle.theory_rings.proofs.Sums.Lists.{length-table, get_or-table, All-table}
use Rattle.theory_spaces.specs.Tuples.{IsTuple}
use Rattle.theory_tables.specs.Matrix.{entry, IsMatrix}
use Rattle.theory_tables.proofs.Rows.Terms.{zero-mul, cond_yes, cond_no, cond_either}

pub sum_of-next : {E : Type 0} (o : Ops E) (n : ℕ) (f : ℕ → E) → sum_of o (n + 1) f ≡ o.add (sum_of o n f) (f n)
sum_of-next o n f = rw add-one refl

pub table-next : {X : Type 0} (n : ℕ) (f : ℕ → X) → table (n + 1) f ≡ table n f ++ f n ∷ []
table-next n f = rw add-one refl

-- one more term
pub sum_step : {E : Type 0} (o : Ops E) (n : ℕ) (f : ℕ → E) (before after term : E) → before ≡ sum_of o n f
    → term ≡ f n → after ≡ o.add before term → after ≡ sum_of o (n + 1) f
sum_step o n f before after term b t a = a ∙ ap₂ o.add b t ∙ sym (sum_of-next o n f)

-- one more item
pub table_step : {X : Type 0} (n : ℕ) (f : ℕ → X) (before after : List X) (item : X) → before ≡ table n f → item ≡ f n
    → after ≡ before ++ item ∷ [] → after ≡ table (n + 1) f
table_step n f before after item b t a = a ∙ ap₂ (λ xs x. xs ++ x ∷ []) b t ∙ sym (table-next n f)

pub All_step : {X : Type 0} (P : X → Type 0) (before after : List X) (item : X) → All P before → P item
    → after ≡ before ++ item ∷ [] → All P after
All_step P before after item h p e = rw e (All-push P before item h p)

-- a row that was read
pub row_at : {E : Type 0} (rows : List (List E)) (i : ℕ) (x y : List E) → i < length rows → x ≡ get_or rows i x
    → y ≡ x → y ≡ get_or rows i []
row_at rows i x y h e f = f ∙ e ∙ get_or_default rows i x [] h

-- an element that was read, whatever stands past the end
pub read_at : {E : Type 0} (o : Ops E) (xs : List E) (i : ℕ) (x : E) → i < length xs → x ≡ get_or xs i x → x ≡ at o xs i
read_at o xs i x h e = e ∙ get_or_default xs i x o.zero h

module _ {E : Type 0} (o : Ops E) (L : FieldLaws o) where
  -- a function to elements, through the carrier
  abbrev elems : (f : ℕ → E) → ((k : ℕ) → IsElem o (f k)) → ℕ → Elem o
  elems f h k = (f k, h k)

  pub sum_of-add : (n : ℕ) (f g : ℕ → E) → ((k : ℕ) → IsElem o (f k)) → ((k : ℕ) → IsElem o (g k))
      → sum_of o n (λ k. o.add (f k) (g k)) ≡ o.add (sum_of o n f) (sum_of o n g)
  sum_of-add n f g hf hg =
      let M = (elements o L).monoid in
      let F = elems f hf in
      let G = elems g hg in
      sum_of-elements o L n (λ k. M.◌⊕◌ (F k) (G k)) ∙ ap (λ x. x.0) (sums.sum-add M n F G)
      ∙ ap₂ o.add (sym (sum_of-elements o L n F)) (sym (sum_of-elements o L n G))

  pub mul-sum_of : (n : ℕ) (c : E) (f : ℕ → E) → IsElem o c → ((k : ℕ) → IsElem o (f k))
      → o.mul c (sum_of o n f) ≡ sum_of o n (λ k. o.mul c (f k))
  mul-sum_of n c f hc hf =
      let R = (elements o L).ring in
      let F = elems f hf in
      ap (o.mul c) (sum_of-elements o L n F) ∙ ap (λ x. x.0) (sums.mul-sum R n (c, hc) F)
      ∙ sym (sum_of-elements o L n (λ k. R.◌⊗◌ (c, hc) (F k)))

  pub sum_of-mul : (n : ℕ) (c : E) (f : ℕ → E) → IsElem o c → ((k : ℕ) → IsElem o (f k))
      → o.mul (sum_of o n f) c ≡ sum_of o n (λ k. o.mul (f k) c)
  sum_of-mul n c f hc hf =
      let R = (elements o L).ring in
      let F = elems f hf in
      ap (λ x. o.mul x c) (sum_of-elements o L n F) ∙ ap (λ x. x.0) (sums.sum-mul R n (c, hc) F)
      ∙ sym (sum_of-elements o L n (λ k. R.◌⊗◌ (F k) (c, hc)))

  pub sum_of_zeros : (n : ℕ) → sum_of o n (λ _. o.zero) ≡ o.zero
  sum_of_zeros zero = refl
  sum_of_zeros (suc n) = ap (λ x. o.add x o.zero) (sum_of_zeros n) ∙ L.zero-add o.zero L.zero-elem

  pub sum_of_comm : (n m : ℕ) (f : ℕ → ℕ → E) → ((i j : ℕ) → IsElem o (f i j))
      → sum_of o n (λ i. sum_of o m (λ j. f i j)) ≡ sum_of o m (λ j. sum_of o n (λ i. f i j))
  sum_of_comm n m f h =
      let M = (elements o L).monoid in
      let F : ℕ → ℕ → Elem o = λ i j. (f i j, h i j) in
      sum_of_congr o n (λ i. sum_of o m (λ j. f i j)) (λ i. (sum M m (λ j. F i j)).0)
      (λ i _. sum_of-elements o L m (F i))
      ∙ sum_of-elements o L n (λ i. sum M m (λ j. F i j))
      ∙ ap (λ x. x.0) (sums.sum_comm M n m F)
      ∙ sym (sum_of-elements o L m (λ j. sum M n (λ i. F i j)))
      ∙ sum_of_congr o m (λ j. (sum M n (λ i. F i j)).0) (λ j. sum_of o n (λ i. f i j))
      (λ j _. sym (sum_of-elements o L n (λ i. F i j)))

  -- a row of the identity takes one term of a sum
  pub sum_of-delta_mul : (n i : ℕ) (g : ℕ → E) → ((k : ℕ) → IsElem o (g k)) → i < n
      → sum_of o n (λ k. o.mul (cond (nat_eq k i) o.one o.zero) (g k)) ≡ g i
  sum_of-delta_mul n i g hg l =
      let M = (elements o L).monoid in
      let hd : (k : ℕ) → IsElem o (cond (nat_eq k i) o.one o.zero) = λ k.
      cond_either (IsElem o) (nat_eq k i) o.one o.zero L.one-elem L.zero-elem in
      let F : ℕ → Elem o = λ k. (
        o.mul (cond (nat_eq k i) o.one o.zero) (g k),
        L.mul-elem (cond (nat_eq k i) o.one o.zero) (g k) (hd k) (hg k),
      ) in
      sum_of-elements o L n F
      ∙ ap (λ x. x.0) (sums.sum_eq_single M n i F l (λ k _ d. Elem-path o (F k) M.zero
      (ap (λ c. o.mul c (g k)) (cond_no k i o.one o.zero d) ∙ zero-mul o L (g k) (hg k))))
      ∙ ap (λ c. o.mul c (g i)) (cond_yes i i o.one o.zero refl) ∙ L.one-mul (g i) (hg i)

  -- (u·b)·z = u·(b·z), for a row u, a matrix b and a column z
  pub sums_assoc : (n m : ℕ) (u : ℕ → E) (b : ℕ → ℕ → E) (z : ℕ → E) → ((i : ℕ) → IsElem o (u i))
      → ((i j : ℕ) → IsElem o (b i j)) → ((j : ℕ) → IsElem o (z j))
      → sum_of o m (λ j. o.mul (sum_of o n (λ i. o.mul (u i) (b i j))) (z j)) ≡ sum_of o n
      (λ i. o.mul (u i) (sum_of o m (λ j. o.mul (b i j) (z j))))
  sums_assoc n m u b z hu hb hz =
      sum_of_congr o m _ _ (λ j _.
      sum_of-mul n (z j) (λ i. o.mul (u i) (b i j)) (hz j) (λ i. L.mul-elem _ _ (hu i) (hb i j)))
      ∙ sum_of_comm m n (λ j i. o.mul (o.mul (u i) (b i j)) (z j))
      (λ j i. L.mul-elem _ _ (L.mul-elem _ _ (hu i) (hb i j)) (hz j))
      ∙ sum_of_congr o n _ _ (λ i _.
      sum_of_congr o m _ _ (λ j _. L.mul_assoc (u i) (b i j) (z j) (hu i) (hb i j) (hz j))
      ∙ sym (mul-sum_of m (u i) (λ j. o.mul (b i j) (z j)) (hu i) (λ j. L.mul-elem _ _ (hb i j) (hz j))))

  -- a·y + (e + (−a)·y) = e
  pub cancel : (a y e : E) → IsElem o a → IsElem o y → IsElem o e → o.add (o.mul a y) (o.add e (o.mul (o.neg a) y)) ≡ e
  cancel a y e ha hy he = ap (λ x. x.0)
      (ring3 (elements o L).cring (λ a y e. (a ⊠ y ⊞ (e ⊞ minus a ⊠ y), e)) refl (a, ha) (y, hy) (e, he))

  -- entries of a matrix are elements, past its end too
  pub entry-elem : (n : ℕ) (rows : List (List E)) → IsMatrix o n rows → (i j : ℕ) → IsElem o (entry o rows i j)
  entry-elem n rows shape i j = ⊎_elim
      (λ (low : i < length rows). at-elem o L (get_or rows i []) (shape i [] low).of_elements j)
      (λ (high : length rows ≤ i).
      subst (λ (row : List E). IsElem o (at o row j)) (sym (get_or_past rows i [] high)) L.zero-elem)
      (cases_lt i (length rows))

  pub table_matrix : (h w : ℕ) (f : ℕ → ℕ → E) → ((i j : ℕ) → IsElem o (f i j))
      → IsMatrix o w (table h (λ i. table w (f i)))
  table_matrix h w f f_in =
      All-table (IsTuple o w) h (λ i. table w (f i))
      (λ i _. record {
        right_length = length-table w (f i);
        of_elements =
            All-table (IsElem o) w (f i) (λ j _. f_in i j);
      })

  pub entry_table : (h w : ℕ) (f : ℕ → ℕ → E) (i j : ℕ) → i < h → j < w
      → entry o (table h (λ i. table w (f i))) i j ≡ f i j
  entry_table h w f i j i_in j_in = ap (λ row. at o row j) (get_or-table h (λ i. table w (f i)) i [] i_in)
      ∙ get_or-table w (f i) j o.zero j_in
