-- What reads take of known bytes.
use Rattle.std.specs.Prelude.{ℕ, ◌+◌, ◌≤◌, List, [], ◌++◌, length, Option, None, Some}
use Rattle.std.proofs.Common.{sym, ◌∙◌, ap, arith, append_assoc, length-append}
use Rattle.std.specs.Io.KnownBytes.{Keeps, Consumes}
use Rattle.spl_outside.specs.Prefix.{ConsumesAtMost}

Consumes-none : (old new : Option (List ℕ)) → Keeps old new → Consumes old new []
Consumes-none None new k = tt
Consumes-none (Some xs) None k = absurd k
Consumes-none (Some xs) (Some ys) k = sym k

Consumes-append : (old between new : Option (List ℕ)) (xs ys : List ℕ) → Consumes old between xs
    → Consumes between new ys
    → Consumes old new (xs ++ ys)
Consumes-append None between new xs ys first second = tt
Consumes-append (Some a) None new xs ys first second = absurd first
Consumes-append (Some a) (Some b) None xs ys first second = absurd second
Consumes-append (Some a) (Some b) (Some c) xs ys first second =
    first ∙ ap (λ p. xs ++ p) second ∙ sym (append_assoc xs ys c)

-- nothing is taken
pub none_taken : (most : ℕ) (old new : Option (List ℕ)) → Keeps old new → ConsumesAtMost most old new
none_taken most old new k = ([], omega arith, Consumes-none old new k)

-- a text is taken, and then a few bytes more
pub more_taken : (few most : ℕ) (old between new : Option (List ℕ)) (text : List ℕ) → length text + few ≤ most
    → Consumes old between text → ConsumesAtMost few between new → ConsumesAtMost most old new
more_taken few most old between new text h first t =
    (text ++ t.0, omega (arith, length-append text t.0, t.1, h), Consumes-append old between new text t.0 first t.2)
