-- Lists that a loop changes item by item.
use Rattle.std.specs.Prelude.{◌≡◌, ℕ, ◌+◌, ◌<◌, ◌≤◌, List, length, get_or}
use Rattle.std.proofs.Common.{refl, sym, ap, subst, ◌∙◌, arith, below_more, get_or-set_same, get_or-set_other}
use Rattle.std.proofs.lemmas.List.{length-set, ext_get_or, get_or_default}
use Rattle.std.proofs.Math.ListN.{set}
use Rattle.std.specs.List.{All}
use Rattle.theory_rings.specs.Ops.{Ops, IsElem}
use Rattle.theory_rings.specs.Sum.{table, at}
use Rattle.theory_rings.proofs.Sums.Lists.{length-table, get_or-table}

-- the items below k are those of f, and the others are as they were
pub record ChangedBelow {X : Type 0} (d : X) (k : ℕ) (old new : List X) (f : ℕ → X) : Type 0 where
  pub same_length : length new ≡ length old
  pub done : (j : ℕ) → j < k → get_or new j d ≡ f j
  pub rest : (j : ℕ) → k ≤ j → get_or new j d ≡ get_or old j d

pub ChangedBelow-none : {X : Type 0} (d : X) (old : List X) (f : ℕ → X) → ChangedBelow d 0 old old f
ChangedBelow-none d old f = record { same_length = refl; done = λ j l. absurd (omega arith); rest = λ j _. refl }

-- the item at k is written
pub ChangedBelow-set : {X : Type 0} (d : X) (k : ℕ) (old new : List X) (f : ℕ → X) (y : X) → k < length new
    → ChangedBelow d k old new f
    → y ≡ f k → ChangedBelow d (k + 1) old (set new k y) f
ChangedBelow-set d k old new f y l a e = record {
  same_length = length-set new k y ∙ a.same_length;
  done = below_more _ _
      (λ j m. get_or-set_other new k j y d (λ e. omega arith) ∙ a.done j m)
      (get_or-set_same new k y d l ∙ e);
  rest = λ j m. get_or-set_other new k j y d (λ e. omega arith) ∙ a.rest j (omega arith);
}

-- the item at k is right as it was
pub ChangedBelow-skip : {X : Type 0} (d : X) (k : ℕ) (old new : List X) (f : ℕ → X) → ChangedBelow d k old new f
    → get_or old k d ≡ f k → ChangedBelow d (k + 1) old new f
ChangedBelow-skip d k old new f a e = record {
  same_length = a.same_length;
  done = below_more _ _ a.done (a.rest k (omega arith) ∙ e);
  rest = λ j m. a.rest j (omega arith);
}

-- each item is changed
pub ChangedBelow-all : {X : Type 0} (d : X) (n : ℕ) (old new : List X) (f : ℕ → X) → length old ≡ n
    → ChangedBelow d n old new f → new ≡ table n f
ChangedBelow-all d n old new f long a =
    ext_get_or d new (table n f) (a.same_length ∙ long ∙ sym (length-table n f)) (λ k l.
    let m : k < n = omega (arith, a.same_length) in a.done k m ∙ sym (get_or-table n f k d m))

-- an item that was read through a slice of the list
pub read_slice : {E : Type 0} (o : Ops E) (xs ys : List E) (i : ℕ) (x : E) → ys ≡ xs → i < length xs
    → x ≡ get_or ys i x → x ≡ at o xs i
read_slice o xs ys i x e h r = r ∙ ap (λ zs. get_or zs i x) e ∙ get_or_default xs i x o.zero h

-- it is one of the elements
pub read-elem : {E : Type 0} (o : Ops E) (xs : List E) (i : ℕ) (x : E) → All (IsElem o) xs → i < length xs
    → x ≡ get_or xs i x → IsElem o x
read-elem o xs i x elems h r = subst (IsElem o) (sym r) (elems i x h)

pub slice-elem : {E : Type 0} (o : Ops E) (xs ys : List E) (i : ℕ) (x : E) → All (IsElem o) xs → ys ≡ xs
    → i < length xs → x ≡ get_or ys i x → IsElem o x
slice-elem o xs ys i x elems e h r = read-elem o xs i x elems h (r ∙ ap (λ zs. get_or zs i x) e)
