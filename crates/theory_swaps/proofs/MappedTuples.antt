-- Sums and products of tuples go to those of the images, under an automorphism of the field.
use Rattle.std.specs.Prelude.{◌≡◌, ℕ, zero, suc, ◌+◌, ◌*◌, ◌<◌, List, [], ◌∷◌, ◌++◌, map, get_or}
use Rattle.std.specs.Prelude.{Bool, true, false, ◌==◌, if◌then◌else◌}
use Rattle.std.specs.List.{All}
use Rattle.std.proofs.Common.{refl, sym, ◌∙◌, ap, ap₂, arith}
use Rattle.std.proofs.Math.ListN.{get_or-map}
use Rattle.std.proofs.lemmas.List.{length-map}
use Rattle.std.proofs.lemmas.List.Elements.{All-map}
use Rattle.theory_rings.specs.Ring.{FieldOn}
use Rattle.theory_rings.specs.Ops.{Ops, IsElem, FieldLaws}
use Rattle.theory_rings.specs.Elements.{Elem, Elem-path, elements}
use Rattle.theory_rings.specs.Sum.{sum_of, table, at}
use Rattle.theory_rings.specs.Homomorphism.{IsRingHom}
use Rattle.theory_rings.proofs.Sums.Lists.{table_congr}
use Rattle.theory_rings.proofs.Rings.Elements.{at-elem, sum_of-elem, sum_of_congr}
use Rattle.theory_rings.proofs.Rings.Homomorphisms.{map-zero, map-neg}
use Rattle.theory_spaces.specs.Tuples.{IsTuple, tuple_zero, tuple_add, tuple_neg, tuple_scale, basis, constant, product}
use Rattle.theory_tables.specs.Structure.{Structure}
use Rattle.theory_swaps.specs.Involutions.{IsInvolution, image, image_structure}

map-append : {X Y : Type 0} (f : X → Y) (a b : List X) → map f (a ++ b) ≡ map f a ++ map f b
map-append f [] b = refl
map-append f (x ∷ a) b = ap (λ r. f x ∷ r) (map-append f a b)

pub map-tables : {X Y : Type 0} (f : X → Y) (n : ℕ) (g : ℕ → X) → map f (table n g) ≡ table n (λ k. f (g k))
map-tables f zero g = refl
map-tables f (suc n) g = map-append f (table n g) (g n ∷ []) ∙ ap (λ r. r ++ f (g n) ∷ []) (map-tables f n g)

pub map_twice : {X : Type 0} (f : X → X) → ((x : X) → f (f x) ≡ x) → (xs : List X) → map f (map f xs) ≡ xs
map_twice f h [] = refl
map_twice f h (x ∷ xs) = ap₂ (λ y r. y ∷ r) (h x) (map_twice f h xs)

module _ {E : Type 0} (o : Ops E) (L : FieldLaws o) (s : E → E) (I : IsInvolution o s) where
  abbrev K : FieldOn (Elem o)
  K = elements o L

  -- the map of the elements
  abbrev pub h : Elem o → Elem o
  h a = (s a.0, I.elem a.0 a.1)

  pub hom : IsRingHom K.ring K.ring h
  hom = record {
    map-one = Elem-path o (h K.one) K.one I.one;
    map-add = λ a b. Elem-path o (h (K.◌⊕◌ a b)) (K.◌⊕◌ (h a) (h b)) (I.add a.0 b.0 a.1 b.1);
    map-mul = λ a b. Elem-path o (h (K.◌⊗◌ a b)) (K.◌⊗◌ (h a) (h b)) (I.mul a.0 b.0 a.1 b.1);
  }

  pub s-zero : s o.zero ≡ o.zero
  s-zero = ap (λ (x : Elem o). x.0) (map-zero K.ring K.ring h hom)

  pub s-neg : (a : E) → IsElem o a → s (o.neg a) ≡ o.neg (s a)
  s-neg a e = ap (λ (x : Elem o). x.0) (map-neg K.ring K.ring h hom (a, e))

  pub image_twice : (xs : List E) → image s (image s xs) ≡ xs
  image_twice = map_twice s I.twice

  pub images_twice : (rows : List (List E)) → map (image s) (map (image s) rows) ≡ rows
  images_twice = map_twice (image s) image_twice

  pub structure_twice : (A : Structure E) → image_structure s (image_structure s A) ≡ A
  structure_twice A = ap (λ cs. let A' : Structure E = record { dim = A.dim; constants = cs } in A')
      (image_twice A.constants)

  pub at-image : (xs : List E) (k : ℕ) → at o (image s xs) k ≡ s (at o xs k)
  at-image xs k = ap (λ z. at_with z xs k) (sym s-zero) ∙ get_or-map s xs k o.zero
    where
      at_with : E → List E → ℕ → E
      at_with z xs k = get_or (image s xs) k z

  pub over-image : (xs : List E) → All (IsElem o) xs → All (IsElem o) (image s xs)
  over-image xs a = All-map (IsElem o) s xs (λ k d l. I.elem (get_or xs k d) (a k d l))

  pub tuple-image : (n : ℕ) (xs : List E) → IsTuple o n xs → IsTuple o n (image s xs)
  tuple-image n xs t = record {
    right_length = length-map xs s ∙ t.right_length;
    of_elements = over-image xs t.of_elements;
  }

  pub s-sum : (n : ℕ) (f : ℕ → E) → ((i : ℕ) → i < n → IsElem o (f i)) → s (sum_of o n f) ≡ sum_of o n (λ i. s (f i))
  s-sum zero f e = s-zero
  s-sum (suc n) f e =
      let below : (i : ℕ) → i < n → IsElem o (f i) = λ i l. e i (omega arith) in
      I.add (sum_of o n f) (f n) (sum_of-elem o L n f below) (e n (omega arith))
      ∙ ap (λ x. o.add x (s (f n))) (s-sum n f below)

  pub image-zero : (n : ℕ) → image s (tuple_zero o n) ≡ tuple_zero o n
  image-zero n = map-tables s n (λ _. o.zero) ∙ table_congr n (λ _. s o.zero) (λ _. o.zero) (λ k l. s-zero)

  pub image-add : (n : ℕ) (a b : List E) → All (IsElem o) a → All (IsElem o) b
      → image s (tuple_add o n a b) ≡ tuple_add o n (image s a) (image s b)
  image-add n a b ha hb = map-tables s n (λ k. o.add (at o a k) (at o b k))
      ∙ table_congr n (λ k. s (o.add (at o a k) (at o b k))) (λ k. o.add (at o (image s a) k) (at o (image s b) k))
      (λ k l. I.add (at o a k) (at o b k) (at-elem o L a ha k) (at-elem o L b hb k)
      ∙ ap₂ o.add (sym (at-image a k)) (sym (at-image b k)))

  pub image-neg : (n : ℕ) (a : List E) → All (IsElem o) a → image s (tuple_neg o n a) ≡ tuple_neg o n (image s a)
  image-neg n a ha = map-tables s n (λ k. o.neg (at o a k))
      ∙ table_congr n (λ k. s (o.neg (at o a k))) (λ k. o.neg (at o (image s a) k))
      (λ k l. s-neg (at o a k) (at-elem o L a ha k) ∙ ap o.neg (sym (at-image a k)))

  pub image-scale : (n : ℕ) (c : E) (a : List E) → IsElem o c → All (IsElem o) a
      → image s (tuple_scale o n c a) ≡ tuple_scale o n (s c) (image s a)
  image-scale n c a hc ha = map-tables s n (λ k. o.mul c (at o a k))
      ∙ table_congr n (λ k. s (o.mul c (at o a k))) (λ k. o.mul (s c) (at o (image s a) k))
      (λ k l. I.mul c (at o a k) hc (at-elem o L a ha k) ∙ ap (o.mul (s c)) (sym (at-image a k)))

  pub image-basis : (n i : ℕ) → image s (basis o n i) ≡ basis o n i
  image-basis n i = map-tables s n (λ k. if k == i then o.one else o.zero)
      ∙ table_congr n (λ k. s (if k == i then o.one else o.zero)) (λ k. if k == i then o.one else o.zero)
      (λ k l. go (k == i))
    where
      go : (b : Bool) → s (if b then o.one else o.zero) ≡ (if b then o.one else o.zero)
      go true = I.one
      go false = s-zero

  pub image-product : (n : ℕ) (cs a b : List E) → All (IsElem o) cs → All (IsElem o) a → All (IsElem o) b
      → image s (product o n cs a b) ≡ product o n (image s cs) (image s a) (image s b)
  image-product n cs a b hc ha hb =
      let x : ℕ → ℕ → E = λ i j. o.mul (at o a i) (at o b j) in
      let hx : (i j : ℕ) → IsElem o (x i j) = λ i j.
      L.mul-elem (at o a i) (at o b j) (at-elem o L a ha i) (at-elem o L b hb j) in
      let c : ℕ → ℕ → ℕ → E = constant o n cs in
      let hk : (i j k : ℕ) → IsElem o (c i j k) = λ i j k. at-elem o L cs hc ((i * n + j) * n + k) in
      let t : ℕ → ℕ → ℕ → E = λ k i j. o.mul (x i j) (c i j k) in
      let ht : (k i j : ℕ) → IsElem o (t k i j) = λ k i j. L.mul-elem (x i j) (c i j k) (hx i j) (hk i j k) in
      let y : ℕ → ℕ → E = λ i j. o.mul (at o (image s a) i) (at o (image s b) j) in
      let d : ℕ → ℕ → ℕ → E = constant o n (image s cs) in
      map-tables s n (λ k. sum_of o n (λ i. sum_of o n (t k i)))
      ∙ table_congr n (λ k. s (sum_of o n (λ i. sum_of o n (t k i))))
      (λ k. sum_of o n (λ i. sum_of o n (λ j. o.mul (y i j) (d i j k)))) (λ k l.
      s-sum n (λ i. sum_of o n (t k i)) (λ i _. sum_of-elem o L n (t k i) (λ j _. ht k i j))
      ∙ sum_of_congr o n (λ i. s (sum_of o n (t k i))) (λ i. sum_of o n (λ j. o.mul (y i j) (d i j k))) (λ i _.
      s-sum n (t k i) (λ j _. ht k i j)
      ∙ sum_of_congr o n (λ j. s (t k i j)) (λ j. o.mul (y i j) (d i j k)) (λ j _.
      I.mul (x i j) (c i j k) (hx i j) (hk i j k)
      ∙ ap₂ o.mul
      (I.mul (at o a i) (at o b j) (at-elem o L a ha i) (at-elem o L b hb j)
      ∙ ap₂ o.mul (sym (at-image a i)) (sym (at-image b j)))
      (sym (at-image cs ((i * n + j) * n + k))))))
