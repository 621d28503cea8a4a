-- The steps of the loops that add rows to a list of sums.
use Rattle.std.specs.Prelude.{◌≡◌, ℕ, ◌+◌, ◌-◌, ◌*◌, ◌<◌, List, [], ◌∷◌, ◌++◌, length, take, drop, All}
use Rattle.std.proofs.Common.{refl, sym, ◌∙◌, ap, ap₂, arith, length-append}
use Rattle.std.proofs.lemmas.List.{ext_get_or, get_or-take, get_or-drop}
use Rattle.theory_rings.specs.Ops.{Ops, IsElem, FieldLaws}
use Rattle.theory_rings.specs.Sum.{at, table}
use Rattle.theory_rings.proofs.Sums.Lists.{length-table, get_or-table, All-table}
use Rattle.theory_spaces.specs.Tuples.{IsTuple}
use Rattle.theory_tables.proofs.Rows.Sums.{All_step}
use Rattle.spl_algebra.specs.Products.{AddsEach, scaled_rows}
use Rattle.spl_algebra.proofs.Terms.{add-zero, zero-mul, sum_of-next, sum_of_eq_zero}
use Rattle.theory_rings.proofs.Rings.Elements.{at-elem, sum_of-elem}

-- a list is the table of its items
pub table-at : {E : Type 0} (o : Ops E) (n : ℕ) (xs : List E) (f : ℕ → E) → length xs ≡ n
    → ((k : ℕ) → k < n → at o xs k ≡ f k) → xs ≡ table n f
table-at o n xs f long h =
    ext_get_or o.zero xs (table n f) (long ∙ sym (length-table n f)) (λ k l.
    let m : k < n = omega arith in h k m ∙ sym (get_or-table n f k o.zero m))

-- the items of a part of a list
pub at-part : {E : Type 0} (o : Ops E) (xs : List E) (start m k : ℕ) → k < m
    → at o (take (start + m - start) (drop start xs)) k ≡ at o xs (start + k)
at-part o xs start m k l = get_or-take (start + m - start) (drop start xs) k o.zero (omega arith)
    ∙ get_or-drop start xs k o.zero

-- a tuple with one more item
pub IsTuple-push : {E : Type 0} (o : Ops E) (n : ℕ) (before after : List E) (item : E) → IsTuple o n before
    → IsElem o item → after ≡ before ++ item ∷ [] → IsTuple o (n + 1) after
IsTuple-push o n before after item t h e = record {
  right_length = omega (arith, ap length e, length-append before (item ∷ []), t.right_length);
  of_elements = All_step (IsElem o) before after item t.of_elements h e;
}

module _ {E : Type 0} (o : Ops E) (L : FieldLaws o) where
  -- nothing is added yet
  pub AddsEach-zero : (old : List E) (f : ℕ → E) → All (IsElem o) old → ((k : ℕ) → f k ≡ o.zero) → AddsEach o old old f
  AddsEach-zero old f h z = record {
    same_length = refl;
    of_elements = h;
    item = λ k l. sym (add-zero o L (at o old k) (at-elem o L old h k)) ∙ ap (o.add (at o old k)) (sym (z k));
  }

  -- the sums as a table
  pub AddsEach-table : (old new : List E) (f : ℕ → E) → All (IsElem o) old
      → ((k : ℕ) → k < length old → IsElem o (f k)) → new ≡ table (length old) (λ k. o.add (at o old k) (f k))
      → AddsEach o old new f
  AddsEach-table old new f h fe e =
      let sum : ℕ → E = λ k. o.add (at o old k) (f k) in
      record {
        same_length = ap length e ∙ length-table (length old) sum;
        of_elements = rw e (All-table (IsElem o) (length old) sum
            (λ k l. L.add-elem (at o old k) (f k) (at-elem o L old h k) (fe k l)));
        item = λ k l. ap (λ xs. at o xs k) e ∙ get_or-table (length old) sum k o.zero l;
      }

  -- one list after the other
  pub AddsEach-then : (old mid new : List E) (f g h : ℕ → E) → All (IsElem o) old → AddsEach o old mid f
      → AddsEach o mid new g
      → ((k : ℕ) → k < length old → IsElem o (f k)) → ((k : ℕ) → k < length old → IsElem o (g k))
      → ((k : ℕ) → k < length old → h k ≡ o.add (f k) (g k)) → AddsEach o old new h
  AddsEach-then old mid new f g h elems a b fe ge e = record {
    same_length = b.same_length ∙ a.same_length;
    of_elements = b.of_elements;
    item = λ k l.
        b.item k (omega (arith, a.same_length)) ∙ ap (λ x. o.add x (g k)) (a.item k l)
        ∙ L.add_assoc (at o old k) (f k) (g k) (at-elem o L old elems k) (fe k l) (ge k l)
        ∙ ap (o.add (at o old k)) (sym (e k l));
  }

  -- the same is added
  pub AddsEach-congr : (old new : List E) (f g : ℕ → E) → ((k : ℕ) → k < length old → f k ≡ g k)
      → AddsEach o old new f → AddsEach o old new g
  AddsEach-congr old new f g e a = record {
    same_length = a.same_length;
    of_elements = a.of_elements;
    item = λ k l. a.item k l ∙ ap (o.add (at o old k)) (e k l);
  }

  pub term-elem : (x : E) (b rows : List E) (l k : ℕ) → IsElem o x → All (IsElem o) b → All (IsElem o) rows
      → IsElem o (o.mul (o.mul x (at o b l)) (at o rows k))
  term-elem x b rows l k h hb hr =
      L.mul-elem (o.mul x (at o b l)) (at o rows k) (L.mul-elem x (at o b l) h (at-elem o L b hb l))
      (at-elem o L rows hr k)

  pub scaled_rows-elem : (n : ℕ) (x : E) (b rows : List E) (stride k : ℕ) → IsElem o x → All (IsElem o) b
      → All (IsElem o) rows
      → IsElem o (scaled_rows o n x b rows stride k)
  scaled_rows-elem n x b rows stride k h hb hr =
      sum_of-elem o L n (λ l. o.mul (o.mul x (at o b l)) (at o rows (l * stride + k)))
      (λ l m. term-elem x b rows l (l * stride + k) h hb hr)

  -- one more row is added
  pub scaled_rows-more : (old mid new : List E) (n : ℕ) (x : E) (b rows : List E) (stride : ℕ) (c : E) (row : List E)
      → All (IsElem o) old → IsElem o x → All (IsElem o) b → All (IsElem o) rows
      → AddsEach o old mid (scaled_rows o n x b rows stride) → AddsEach o mid new (λ k. o.mul c (at o row k))
      → c ≡ o.mul x (at o b n) → ((k : ℕ) → k < length old → at o row k ≡ at o rows (n * stride + k))
      → AddsEach o old new (scaled_rows o (n + 1) x b rows stride)
  scaled_rows-more old mid new n x b rows stride c row ho h hb hr a a' e r =
      let term : ℕ → E = λ k. o.mul (o.mul x (at o b n)) (at o rows (n * stride + k)) in
      AddsEach-then old mid new (scaled_rows o n x b rows stride) term (scaled_rows o (n + 1) x b rows stride) ho a
      (AddsEach-congr mid new (λ k. o.mul c (at o row k)) term
      (λ k l. ap₂ o.mul e (r k (omega (arith, a.same_length)))) a')
      (λ k l. scaled_rows-elem n x b rows stride k h hb hr)
      (λ k l. term-elem x b rows n (n * stride + k) h hb hr)
      (λ k l. sum_of-next o n (λ j. o.mul (o.mul x (at o b j)) (at o rows (j * stride + k))))

  -- nothing times the rows
  pub scaled_rows-none : (old : List E) (m : ℕ) (x : E) (b rows : List E) (stride : ℕ) → All (IsElem o) old
      → All (IsElem o) b → All (IsElem o) rows → x ≡ o.zero → AddsEach o old old (scaled_rows o m x b rows stride)
  scaled_rows-none old m x b rows stride h hb hr z =
      AddsEach-zero old (scaled_rows o m x b rows stride) h (λ k.
      sum_of_eq_zero o L m (λ l. o.mul (o.mul x (at o b l)) (at o rows (l * stride + k))) (λ l _.
      ap (λ y. o.mul y (at o rows (l * stride + k)))
      (ap (λ y. o.mul y (at o b l)) z ∙ zero-mul o L (at o b l) (at-elem o L b hb l))
      ∙ zero-mul o L (at o rows (l * stride + k)) (at-elem o L rows hr (l * stride + k))))

  -- what is added to zeros
  pub AddsEach-zeros : (m : ℕ) (old new : List E) (f : ℕ → E) → old ≡ table m (λ _. o.zero) → AddsEach o old new f
      → ((k : ℕ) → k < m → IsElem o (f k)) → new ≡ table m f
  AddsEach-zeros m old new f z a h =
      let long : length old ≡ m = ap length z ∙ length-table m (λ _. o.zero) in
      table-at o m new f (a.same_length ∙ long) (λ k l.
      a.item k (omega arith)
      ∙ ap (λ x. o.add x (f k)) (ap (λ xs. at o xs k) z ∙ get_or-table m (λ _. o.zero) k o.zero l)
      ∙ L.zero-add (f k) (h k l))
