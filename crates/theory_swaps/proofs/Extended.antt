-- An automorphism of the elements as a map of all values, which leaves what is no element as it is.
use Rattle.std.specs.Prelude.{◌≡◌, Bool, true, false}
use Rattle.std.proofs.Common.{refl, sym, ◌∙◌, ap, ap₂, subst}
use Rattle.std.proofs.lemmas.Bool.{both_ways}
use Rattle.theory_rings.specs.Ops.{Ops, IsElem, FieldLaws}
use Rattle.theory_rings.specs.Elements.{Elem, Elem-path, elements}
use Rattle.theory_rings.specs.Homomorphism.{IsRingHom}
use Rattle.theory_swaps.specs.Involutions.{IsInvolution}

module _ {E : Type 0} (o : Ops E) (t : Elem o → Elem o) where
  extend_if : (a : E) (b : Bool) → o.is_elem a ≡ b → E
  extend_if a true e = (t (a, e)).0
  extend_if a false e = a

  pub extend : E → E
  extend a = extend_if a (o.is_elem a) refl

  pub extend-elem : (a : E) (h : IsElem o a) → extend a ≡ (t (a, h)).0
  unfolding extend extend_if
  extend-elem a h = go (o.is_elem a) refl
    where
      go : (b : Bool) (e : o.is_elem a ≡ b) → extend_if a b e ≡ (t (a, h)).0
      go true e = ap (λ x. (t x).0) (Elem-path o (a, e) (a, h) refl)
      go false e = absurd (both_ways (o.is_elem a) e h)

  extend-other : (a : E) → o.is_elem a ≡ false → extend a ≡ a
  unfolding extend extend_if
  extend-other a n = go (o.is_elem a) refl
    where
      go : (b : Bool) (e : o.is_elem a ≡ b) → extend_if a b e ≡ a
      go true e = absurd (both_ways (o.is_elem a) n e)
      go false e = refl

  extend-twice : ((x : Elem o) → t (t x) ≡ x) → (a : E) → extend (extend a) ≡ a
  extend-twice h a = go (o.is_elem a) refl
    where
      go : (b : Bool) → o.is_elem a ≡ b → extend (extend a) ≡ a
      go true e = ap extend (extend-elem a e) ∙ extend-elem (t (a, e)).0 (t (a, e)).1
          ∙ ap (λ (x : Elem o). x.0) (h (a, e))
      go false e = ap extend (extend-other a e) ∙ extend-other a e

  pub extend_is : (L : FieldLaws o) → IsRingHom (elements o L).ring (elements o L).ring t
      → ((x : Elem o) → t (t x) ≡ x) → IsInvolution o extend
  extend_is L H h = record {
    twice = extend-twice h;
    elem = λ a e. subst (IsElem o) (sym (extend-elem a e)) (t (a, e)).1;
    one = extend-elem o.one L.one-elem ∙ ap (λ (x : Elem o). x.0) H.map-one;
    add = λ a b ha hb.
        extend-elem (o.add a b) (L.add-elem a b ha hb) ∙ ap (λ (x : Elem o). x.0) (H.map-add (a, ha) (b, hb))
        ∙ ap₂ o.add (sym (extend-elem a ha)) (sym (extend-elem b hb));
    mul = λ a b ha hb.
        extend-elem (o.mul a b) (L.mul-elem a b ha hb) ∙ ap (λ (x : Elem o). x.0) (H.map-mul (a, ha) (b, hb))
        ∙ ap₂ o.mul (sym (extend-elem a ha)) (sym (extend-elem b hb));
  }
