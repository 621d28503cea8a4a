-- Where each class modulo m has exactly one small element, these are a commutative ring, and taking the small element
-- of the class is a homomorphism.
use Rattle.std.specs.Prelude.{◌≡◌}
use Rattle.std.proofs.Common.{refl, sym, ◌∙◌, ap, ap₂}
use mathlib.Core.HLevel.{Σ_prop_path}
use Rattle.theory_rings.specs.Ring.{CommRingOn}
use Rattle.theory_rings.specs.Division.{Congruent}
use Rattle.theory_rings.specs.Homomorphism.{IsRingHom}
use Rattle.theory_rings.proofs.Rings.Congruences.{congruent_of_eq, congruent_sym, congruent_trans, congruent-add}
use Rattle.theory_rings.proofs.Rings.Congruences.{congruent-mul}

-- rem gives the one small element of each class modulo m
pub record IsRepresentativeSystem {D : Type 0} (C : CommRingOn D) (m : D) (Small : D → Type 0)
    (rem : D → D) : Type 0 where
  pub small_prop : (a : D) → IsProp (Small a)
  pub rem-small : (a : D) → Small (rem a)
  pub rem-congruent : (a : D) → Congruent C m a (rem a)
  pub unique : (a b : D) → Small a → Small b → Congruent C m a b → a ≡ b

module _ {D : Type 0} (C : CommRingOn D) (m : D) (Small : D → Type 0) (rem : D → D)
    (S : IsRepresentativeSystem C m Small rem) where
  infixl 65 ◌⊕◌
  infixl 70 ◌⊗◌
  open C use {zero, one, ◌⊕◌, ◌⊗◌, neg}

  abbrev pub Representative : Type 0
  Representative = (a : D) × Small a

  -- the small element of the class of a
  abbrev pub representative : D → Representative
  representative a = (rem a, S.rem-small a)

  -- congruent representatives are one
  pub Representative-path : (a b : Representative) → Congruent C m a.0 b.0 → a ≡ b
  Representative-path a b s = Σ_prop_path S.small_prop {u = a} {v = b} (S.unique a.0 b.0 a.1 b.1 s)

  pub representative-small : (a : Representative) → representative a.0 ≡ a
  representative-small a =
      Representative-path (representative a.0) a (congruent_sym C m a.0 (rem a.0) (S.rem-congruent a.0))

  pub representative_eq : (a b : D) → Congruent C m a b → representative a ≡ representative b
  representative_eq a b s = Representative-path (representative a) (representative b)
      (congruent_trans C m (rem a) a (rem b) (congruent_sym C m a (rem a) (S.rem-congruent a))
      (congruent_trans C m a b (rem b) s (S.rem-congruent b)))

  pub congruent_of_representative : (a b : D) → representative a ≡ representative b → Congruent C m a b
  congruent_of_representative a b e =
      congruent_trans C m a (rem a) b (S.rem-congruent a)
      (congruent_trans C m (rem a) (rem b) b (congruent_of_eq C m (rem a) (rem b) (ap (λ x. x.0) e))
      (congruent_sym C m b (rem b) (S.rem-congruent b)))

  abbrev plus : Representative → Representative → Representative
  plus a b = representative (a.0 ⊕ b.0)

  abbrev times : Representative → Representative → Representative
  times a b = representative (a.0 ⊗ b.0)

  representative-add : (a b : D) → representative (a ⊕ b) ≡ plus (representative a) (representative b)
  representative-add a b = representative_eq (a ⊕ b) (rem a ⊕ rem b)
      (congruent-add C m a (rem a) b (rem b) (S.rem-congruent a) (S.rem-congruent b))

  representative-mul : (a b : D) → representative (a ⊗ b) ≡ times (representative a) (representative b)
  representative-mul a b = representative_eq (a ⊗ b) (rem a ⊗ rem b)
      (congruent-mul C m a (rem a) b (rem b) (S.rem-congruent a) (S.rem-congruent b))

  -- a sum or a product of a representative with the representative of an element
  representative-add_left : (a : D) (b : Representative) → plus (representative a) b ≡ representative (a ⊕ b.0)
  representative-add_left a b = ap (plus (representative a)) (sym (representative-small b))
      ∙ sym (representative-add a b.0)

  representative-add_right : (a : Representative) (b : D) → plus a (representative b) ≡ representative (a.0 ⊕ b)
  representative-add_right a b = ap (λ x. plus x (representative b)) (sym (representative-small a))
      ∙ sym (representative-add a.0 b)

  representative-mul_left : (a : D) (b : Representative) → times (representative a) b ≡ representative (a ⊗ b.0)
  representative-mul_left a b = ap (times (representative a)) (sym (representative-small b))
      ∙ sym (representative-mul a b.0)

  representative-mul_right : (a : Representative) (b : D) → times a (representative b) ≡ representative (a.0 ⊗ b)
  representative-mul_right a b = ap (λ x. times x (representative b)) (sym (representative-small a))
      ∙ sym (representative-mul a.0 b)

  -- the representatives are a commutative ring
  pub representatives : CommRingOn Representative
  representatives =
      let swap : (a b : Representative) → times a b ≡ times b a = λ a b. ap representative (C.mul_comm a.0 b.0) in
      let left : (a : Representative) → times (representative one) a ≡ a =
      λ a. representative-mul_left one a ∙ ap representative (C.one-mul a.0) ∙ representative-small a in
      let over : (a b c : Representative) → times a (plus b c) ≡ plus (times a b) (times a c) =
      λ a b c. representative-mul_right a (b.0 ⊕ c.0) ∙ ap representative (C.mul-add a.0 b.0 c.0)
      ∙ representative-add (a.0 ⊗ b.0) (a.0 ⊗ c.0) in
      record {
        ring = record {
          additive = record {
            monoid = record {
              zero = representative zero;
              ◌⊕◌ = plus;
              add_assoc = λ a b c. representative-add_left (a.0 ⊕ b.0) c ∙ ap representative (C.add_assoc a.0 b.0 c.0)
                  ∙ sym (representative-add_right a (b.0 ⊕ c.0));
              add_comm = λ a b. ap representative (C.add_comm a.0 b.0);
              zero-add = λ a. representative-add_left zero a ∙ ap representative (C.zero-add a.0)
                  ∙ representative-small a;
            };
            neg = λ a. representative (neg a.0);
            neg-add = λ a. representative-add_left (neg a.0) a ∙ ap representative (C.neg-add a.0);
          };
          one = representative one;
          ◌⊗◌ = times;
          mul_assoc = λ a b c. representative-mul_left (a.0 ⊗ b.0) c ∙ ap representative (C.mul_assoc a.0 b.0 c.0)
              ∙ sym (representative-mul_right a (b.0 ⊗ c.0));
          one-mul = left;
          mul-one = λ a. swap a (representative one) ∙ left a;
          mul-add = over;
          add-mul = λ a b c. swap (plus a b) c ∙ over c a b ∙ ap₂ plus (swap c a) (swap c b);
        };
        mul_comm = swap;
      }

  pub representatives-zero : representatives.zero ≡ representative zero
  unfolding representatives
  representatives-zero = refl

  pub representatives-one : representatives.one ≡ representative one
  unfolding representatives
  representatives-one = refl

  pub representatives-add : (a b : Representative) → representatives.◌⊕◌ a b ≡ representative (a.0 ⊕ b.0)
  unfolding representatives
  representatives-add a b = refl

  pub representatives-neg : (a : Representative) → representatives.neg a ≡ representative (neg a.0)
  unfolding representatives
  representatives-neg a = refl

  pub representatives-mul : (a b : Representative) → representatives.◌⊗◌ a b ≡ representative (a.0 ⊗ b.0)
  unfolding representatives
  representatives-mul a b = refl

  pub representative_hom : IsRingHom C.ring representatives.ring representative
  unfolding representatives
  representative_hom = record { map-one = refl; map-add = representative-add; map-mul = representative-mul }
