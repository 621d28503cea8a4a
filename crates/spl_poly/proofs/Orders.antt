-- Comparing lists of numbers from their ends down.
use Rattle.std.specs.Prelude.{◌≡◌, ℕ, ◌+◌, ◌<◌, List, [], ◌∷◌, length, reverse, get_or, take}
use Rattle.std.specs.Ordering.{nat_cmp, ordering_then, is_eq}
use Rattle.std.specs.declared.cmp.Ordering.{Ordering}
use Rattle.std.specs.declared.cmp.Ordering.TheVariants.{Less, Equal, Greater}
use Rattle.std.specs.Cmp.{nat_cmp_is}
use Rattle.std.specs.Cmp.Lexicographic.{slice_cmp}
use Rattle.std.proofs.Common.{refl, sym, ◌∙◌, ap, ap₂}
use Rattle.std.proofs.lemmas.List.{reverse-append, take_more}
use Rattle.std.proofs.lemmas.Map.Text.{is_eq-slice_cmp}
use Rattle.std.proofs.lemmas.Slice.Eq.{bytes_eq-Decides}

pub slice_cmp-equal : (xs ys : List ℕ) → slice_cmp nat_cmp xs ys ≡ Equal → xs ≡ ys
slice_cmp-equal xs ys e = (bytes_eq-Decides xs ys).0 (sym (is_eq-slice_cmp xs ys) ∙ ap is_eq e)

nat_cmp-equal : (a b : ℕ) → nat_cmp a b ≡ Equal → a ≡ b
nat_cmp-equal a b e = ap (λ l. get_or l 0 0) (slice_cmp-equal (a ∷ []) (b ∷ []) (ap (λ o. ordering_then o Equal) e))

pub nat_cmp_same : (a b : ℕ) → a ≡ b → nat_cmp a b ≡ Equal
nat_cmp_same a b e = sym (nat_cmp_is a b Equal e)

then-first : (o p : Ordering) → (o ≡ Equal → ⊥) → ordering_then o p ≡ o
then-first Less p h = refl
then-first Equal p h = absurd (h refl)
then-first Greater p h = refl

-- where the first numbers differ, the rest does not count
pub then-differ : (a b : ℕ) (p : Ordering) → (a ≡ b → ⊥) → ordering_then (nat_cmp a b) p ≡ nat_cmp a b
then-differ a b p h = then-first (nat_cmp a b) p (λ e. h (nat_cmp-equal a b e))

pub then-same : (a b : ℕ) (p : Ordering) → a ≡ b → ordering_then (nat_cmp a b) p ≡ p
then-same a b p e = ap (λ o. ordering_then o p) (nat_cmp_same a b e)

reverse-take : (xs : List ℕ) (i : ℕ) → i < length xs → reverse (take (i + 1) xs) ≡ get_or xs i 0 ∷ reverse (take i xs)
reverse-take xs i l = ap reverse (take_more xs i 0 l) ∙ reverse-append (take i xs) (get_or xs i 0 ∷ [])

-- the item at i counts before those below it
pub cmp_from_top : (xs ys : List ℕ) (i : ℕ) → i < length xs → i < length ys
    → slice_cmp nat_cmp (reverse (take (i + 1) xs)) (reverse (take (i + 1) ys))
    ≡ ordering_then (nat_cmp (get_or xs i 0) (get_or ys i 0))
    (slice_cmp nat_cmp (reverse (take i xs)) (reverse (take i ys)))
cmp_from_top xs ys i lx ly = ap₂ (slice_cmp nat_cmp) (reverse-take xs i lx) (reverse-take ys i ly)
