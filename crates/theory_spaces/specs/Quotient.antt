-- The quotient of an abelian group by a tested subgroup, and of a module by a tested submodule: the classes of elements
-- that differ by a member.
use Rattle.std.specs.Prelude.{◌≡◌, Bool, IsTrue}
use Rattle.std.proofs.Common.{sym, ◌∙◌, ap, ap₂, subst}
use Rattle.std.proofs.Math.Path.{fun_ext}
use mathlib.Core.HLevel.{Π_set, Π_prop}
use mathlib.Core.Quot.{Quot, mk, sound, ind, lift, Quot-set}
use Rattle.theory_rings.specs.Ring.{AddCommGroupOn, RingOn}
use Rattle.theory_rings.proofs.Rings.RingLaws.{add-neg, neg_add, add_add_add_comm}
use Rattle.theory_spaces.specs.Module.{ModuleOn}
use Rattle.theory_spaces.specs.Linear.{IsSubmodule}
use Rattle.theory_spaces.specs.ModuleLaws.{scale-neg, neg_one-scale}

-- a subgroup, by a test
pub record SubgroupOn {V : Type 0} (G : AddCommGroupOn V) : Type 0 where
  pub test : V → Bool
  pub test-zero : IsTrue (test G.zero)
  pub test-add : (a b : V) → IsTrue (test a) → IsTrue (test b) → IsTrue (test (G.◌⊕◌ a b))
  pub test-neg : (a : V) → IsTrue (test a) → IsTrue (test (G.neg a))

module _ {V : Type 0} (G : AddCommGroupOn V) (S : SubgroupOn G) where
  infixl 65 ◌⊕◌
  open G use {◌⊕◌, neg}

  -- a and b differ by a member
  abbrev pub Near : V → V → Type 0
  Near a b = IsTrue (S.test (a ⊕ neg b))

  abbrev pub Classes : Type 0
  Classes = Quot Near

  -- the class of a
  abbrev pub cls : V → Classes
  cls a = mk a

  pub to_test : (a b : V) → a ≡ b → IsTrue (S.test a) → IsTrue (S.test b)
  to_test a b e h = let P : V → Type 0 = λ x. IsTrue (S.test x) in subst P e h

  pub near-add_left : (a b c : V) → Near b c → Near (a ⊕ b) (a ⊕ c)
  near-add_left a b c h = to_test (b ⊕ neg c) ((a ⊕ b) ⊕ neg (a ⊕ c))
      (sym (ap (λ x. (a ⊕ b) ⊕ x) (neg_add G a c) ∙ add_add_add_comm G.monoid a b (neg a) (neg c)
      ∙ ap (λ x. x ⊕ (b ⊕ neg c)) (add-neg G a) ∙ G.zero-add (b ⊕ neg c))) h

  pub near-add_right : (a b c : V) → Near b c → Near (b ⊕ a) (c ⊕ a)
  near-add_right a b c h =
      to_test ((a ⊕ b) ⊕ neg (a ⊕ c)) ((b ⊕ a) ⊕ neg (c ⊕ a))
      (ap₂ (λ x y. x ⊕ neg y) (G.add_comm a b) (G.add_comm a c)) (near-add_left a b c h)

  pub near-neg : (b c : V) → Near b c → Near (neg b) (neg c)
  near-neg b c h = to_test (neg (b ⊕ neg c)) (neg b ⊕ neg (neg c)) (neg_add G b (neg c)) (S.test-neg (b ⊕ neg c) h)

  pub near-cls : (a b : V) → Near a b → cls a ≡ cls b
  near-cls a b h = sound {r = Near} h

  abbrev pub classes_set : IsSet Classes
  classes_set = Quot-set {r = Near}

  abbrev pub plus : Classes → Classes → Classes
  plus = lift (Π_set (λ _. classes_set))
      (λ a. lift classes_set (λ b. cls (a ⊕ b)) (λ b c h. near-cls (a ⊕ b) (a ⊕ c) (near-add_left a b c h)))
      (λ b c h. fun_ext (ind (λ q. classes_set _ _) (λ a. near-cls (b ⊕ a) (c ⊕ a) (near-add_right a b c h))))

  abbrev pub minus : Classes → Classes
  minus = lift classes_set (λ a. cls (neg a)) (λ b c h. near-cls (neg b) (neg c) (near-neg b c h))

  -- the group of the classes
  abbrev pub quotient : AddCommGroupOn Classes
  quotient = record {
    monoid = record {
      zero = cls G.zero;
      ◌⊕◌ = plus;
      add_assoc = ind (λ p. Π_prop (λ q. Π_prop (λ r. classes_set _ _)))
          (λ a. ind (λ q. Π_prop (λ r. classes_set _ _))
          (λ b. ind (λ r. classes_set _ _) (λ c. ap cls (G.add_assoc a b c))));
      add_comm = ind (λ p. Π_prop (λ q. classes_set _ _))
          (λ a. ind (λ q. classes_set _ _) (λ b. ap cls (G.add_comm a b)));
      zero-add = ind (λ q. classes_set _ _) (λ a. ap cls (G.zero-add a));
    };
    neg = minus;
    neg-add = ind (λ q. classes_set _ _) (λ a. ap cls (G.neg-add a));
  }

-- a submodule, by a test
pub record SubmoduleOn {K V : Type 0} {R : RingOn K} (M : ModuleOn R V) : Type 0 where
  pub test : V → Bool
  pub closed : IsSubmodule M (λ x. IsTrue (test x))

module _ {K V : Type 0} {R : RingOn K} (M : ModuleOn R V) (S : SubmoduleOn M) where
  infixl 65 ◌⊕◌
  infixl 70 ◌•◌
  open M use {◌⊕◌, neg, ◌•◌}

  -- a submodule as a subgroup
  abbrev pub subgroup_of : SubgroupOn M.additive
  subgroup_of = record {
    test = S.test;
    test-zero = S.closed.zero-in;
    test-add = S.closed.add-in;
    test-neg = λ a h. let P : V
        → Type 0 = λ x. IsTrue (S.test x) in subst P (neg_one-scale M a) (S.closed.scale-in (R.neg R.one) a h);
  }

  abbrev pub ModuleClasses : Type 0
  ModuleClasses = Classes M.additive subgroup_of

  abbrev pub module_cls : V → ModuleClasses
  module_cls x = cls M.additive subgroup_of x

  pub near-scale : (a : K) (b c : V) → Near M.additive subgroup_of b c → Near M.additive subgroup_of (a • b) (a • c)
  near-scale a b c h = to_test M.additive subgroup_of (a • (b ⊕ neg c)) (a • b ⊕ neg (a • c))
      (M.scale-add a b (neg c) ∙ ap (λ x. a • b ⊕ x) (scale-neg M a c)) (S.closed.scale-in a (b ⊕ neg c) h)

  abbrev pub scaled : K → ModuleClasses → ModuleClasses
  scaled a = lift (classes_set M.additive subgroup_of) (λ x. module_cls (a • x))
      (λ b c h. near-cls M.additive subgroup_of (a • b) (a • c) (near-scale a b c h))

  -- the module of the classes
  abbrev pub quotient_module : ModuleOn R ModuleClasses
  quotient_module = record {
    additive = quotient M.additive subgroup_of;
    scalars = record {
      ◌•◌ = scaled;
      scale-add = λ a. ind (λ p. Π_prop (λ q. classes_set M.additive subgroup_of _ _))
          (λ x. ind (λ q. classes_set M.additive subgroup_of _ _) (λ y. ap module_cls (M.scale-add a x y)));
      add-scale = λ a b. ind (λ q. classes_set M.additive subgroup_of _ _) (λ x. ap module_cls (M.add-scale a b x));
      mul-scale = λ a b. ind (λ q. classes_set M.additive subgroup_of _ _) (λ x. ap module_cls (M.mul-scale a b x));
      one-scale = ind (λ q. classes_set M.additive subgroup_of _ _) (λ x. ap module_cls (M.one-scale x));
    };
  }
