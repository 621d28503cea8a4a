-- Elements of a subring of a field that differ by multiples of a member.
use Rattle.std.specs.Prelude.{◌≡◌, ℕ, zero, suc, ◌<◌, [], ◌∷◌}
use Rattle.std.proofs.Common.{refl, sym, ◌∙◌, ap, ap₂, subst, arith}
use Rattle.theory_rings.specs.Ring.{FieldOn}
use Rattle.theory_rings.specs.Ops.{Ops, IsElem, FieldLaws}
use Rattle.theory_rings.specs.Elements.{Elem, elements}
use Rattle.theory_rings.specs.Sum.{sum_of}
use Rattle.theory_rings.proofs.Rings.Solver.{◌⊞◌, ◌⊠◌, by_sorted, nil, v0, v1, v2, v3, v4, ring1}
use Rattle.theory_spaces.specs.Lattice.{IsSubring}
use Rattle.spl_order.specs.Coordinates.{row_products, scaled_coordinate}

module _ {E : Type 0} (o : Ops E) (P : E → Type 0) (g : Elem o) where
  -- b is a and a multiple of g
  pub record IsShifted (a b : E) : Type 0 where
    pub elem : IsElem o a
    pub member : P a
    pub quotient : Elem o
    pub quotient_in : P quotient.0
    pub shift : b ≡ o.add a (o.mul quotient.0 g.0)

module _ {E : Type 0} (o : Ops E) (L : FieldLaws o) (P : E → Type 0)
    (S : IsSubring (let F : FieldOn (Elem o) = elements o L in F.ring) (λ x. P x.0)) (g : Elem o) (g_in : P g.0) where
  abbrev F : FieldOn (Elem o)
  F = elements o L

  abbrev Is : E → E → Type 0
  Is = IsShifted o P g

  module _ (a b : E) (h : Is a b) where
    abbrev right : Elem o
    right = F.◌⊕◌ (a, h.elem) (F.◌⊗◌ h.quotient g)

    pub shifted-elem : IsElem o b
    shifted-elem = subst (IsElem o) (sym h.shift) right.1

    pub shifted-member : P b
    shifted-member = subst P (sym h.shift) (S.add_in (a, h.elem) (F.◌⊗◌ h.quotient g) h.member
        (S.mul_in h.quotient g h.quotient_in g_in))

  pub shifted-zero : Is o.zero o.zero
  shifted-zero = record {
    elem = L.zero-elem;
    member = S.zero_in;
    quotient = F.zero;
    quotient_in = S.zero_in;
    shift = ap (λ (z : Elem o). z.0) (ring1 F.cring (λ g. (nil, nil ⊞ (nil ⊠ g))) refl g);
  }

  module _ (a b c d : E) (h : Is a b) (k : Is c d) where
    pub shifted-add : Is (o.add a c) (o.add b d)
    shifted-add = record {
      elem = L.add-elem a c h.elem k.elem;
      member = S.add_in (a, h.elem) (c, k.elem) h.member k.member;
      quotient = F.◌⊕◌ h.quotient k.quotient;
      quotient_in = S.add_in h.quotient k.quotient h.quotient_in k.quotient_in;
      shift = ap₂ o.add h.shift k.shift ∙ ap (λ (z : Elem o). z.0)
          (by_sorted F.cring ((a, h.elem) ∷ h.quotient ∷ (c, k.elem) ∷ k.quotient ∷ g ∷ [])
          ((v0 ⊞ (v1 ⊠ v4)) ⊞ (v2 ⊞ (v3 ⊠ v4))) ((v0 ⊞ v2) ⊞ ((v1 ⊞ v3) ⊠ v4)) refl);
    }

    pub shifted-mul : Is (o.mul a c) (o.mul b d)
    shifted-mul =
        let x : Elem o = (a, h.elem) in
        let y : Elem o = (c, k.elem) in
        record {
          elem = L.mul-elem a c h.elem k.elem;
          member = S.mul_in x y h.member k.member;
          quotient = F.◌⊕◌ (F.◌⊕◌ (F.◌⊗◌ h.quotient y) (F.◌⊗◌ x k.quotient))
              (F.◌⊗◌ (F.◌⊗◌ h.quotient k.quotient) g);
          quotient_in = S.add_in (F.◌⊕◌ (F.◌⊗◌ h.quotient y) (F.◌⊗◌ x k.quotient))
              (F.◌⊗◌ (F.◌⊗◌ h.quotient k.quotient) g)
              (S.add_in (F.◌⊗◌ h.quotient y) (F.◌⊗◌ x k.quotient) (S.mul_in h.quotient y h.quotient_in k.member)
              (S.mul_in x k.quotient h.member k.quotient_in))
              (S.mul_in (F.◌⊗◌ h.quotient k.quotient) g
              (S.mul_in h.quotient k.quotient h.quotient_in k.quotient_in) g_in);
          shift = ap₂ o.mul h.shift k.shift ∙ ap (λ (z : Elem o). z.0)
              (by_sorted F.cring (x ∷ h.quotient ∷ y ∷ k.quotient ∷ g ∷ [])
              ((v0 ⊞ (v1 ⊠ v4)) ⊠ (v2 ⊞ (v3 ⊠ v4)))
              ((v0 ⊠ v2) ⊞ ((((v1 ⊠ v2) ⊞ (v0 ⊠ v3)) ⊞ ((v1 ⊠ v3) ⊠ v4)) ⊠ v4)) refl);
        }

  pub shifted-sum : (n : ℕ) (u v : ℕ → E) → ((i : ℕ) → i < n → Is (u i) (v i))
      → Is (sum_of o n u) (sum_of o n v)
  shifted-sum zero u v h = shifted-zero
  shifted-sum (suc n) u v h = shifted-add (sum_of o n u) (sum_of o n v) (u n) (v n)
      (shifted-sum n u v (λ i l. h i (omega arith))) (h n (omega arith))

  -- the coordinates of products, by shifted rows, columns and constants
  module _ (n : ℕ) (x x' y y' : ℕ → ℕ → E) (c c' : ℕ → ℕ → ℕ → E) (hx : (i j : ℕ) → Is (x i j) (x' i j))
      (hy : (i j : ℕ) → Is (y i j) (y' i j)) (hc : (i j l : ℕ) → Is (c i j l) (c' i j l)) where
    inner : (i b t : ℕ) → Is (sum_of o n (λ a. o.mul (x i a) (c a b t)))
        (sum_of o n (λ a. o.mul (x' i a) (c' a b t)))
    inner i b t = shifted-sum n (λ a. o.mul (x i a) (c a b t)) (λ a. o.mul (x' i a) (c' a b t))
        (λ a _. shifted-mul (x i a) (x' i a) (c a b t) (c' a b t) (hx i a) (hc a b t))

    products : (i j t : ℕ) → Is (row_products o n x x c i j t) (row_products o n x' x' c' i j t)
    products i j t = shifted-sum n (λ b. o.mul (x j b) (sum_of o n (λ a. o.mul (x i a) (c a b t))))
        (λ b. o.mul (x' j b) (sum_of o n (λ a. o.mul (x' i a) (c' a b t))))
        (λ b _. shifted-mul (x j b) (x' j b) (sum_of o n (λ a. o.mul (x i a) (c a b t)))
        (sum_of o n (λ a. o.mul (x' i a) (c' a b t))) (hx j b) (inner i b t))

    pub shifted-coordinates : (i j l : ℕ)
        → Is (scaled_coordinate o n x y c i j l) (scaled_coordinate o n x' y' c' i j l)
    shifted-coordinates i j l = shifted-sum n (λ t. o.mul (row_products o n x x c i j t) (y t l))
        (λ t. o.mul (row_products o n x' x' c' i j t) (y' t l))
        (λ t _. shifted-mul (row_products o n x x c i j t) (row_products o n x' x' c' i j t) (y t l) (y' t l)
        (products i j t) (hy t l))
