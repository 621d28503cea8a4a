-- Texts that are read or written piece by piece.
use Rattle.std.proofs.Common.{◌≡◌, ℕ, ◌+◌, ◌-◌, List, ◌++◌, length, take, drop, Option, None, Some, sym, ◌∙◌, ap}
use Rattle.std.proofs.Common.{append_assoc}
use Rattle.std.proofs.lemmas.List.{take-append-drop, drop-drop, take_at, take_rest}
use Rattle.std.proofs.Math.Seq.{take-add}
use Rattle.std.specs.Io.KnownBytes.{Appends}

-- known bytes that grew by two texts, one after the other, grew by both
pub Appends-append : (old between new : Option (List ℕ)) (xs ys : List ℕ) → Appends old between xs
    → Appends between new ys → Appends old new (xs ++ ys)
Appends-append None between new xs ys first second = tt
Appends-append (Some a) None new xs ys first second = absurd first
Appends-append (Some a) (Some b) None xs ys first second = absurd second
Appends-append (Some a) (Some b) (Some c) xs ys first second = second ∙ ap (λ p. p ++ ys) first ∙ append_assoc a xs ys

-- a text was written as far as i, and then n bytes of its rest: it is written as far as i + n
pub Appends-take : (old between new : Option (List ℕ)) (text : List ℕ) (i n : ℕ) → Appends old between (take i text)
    → Appends between new (take n (take (length text - i) (drop i text))) → Appends old new (take (i + n) text)
Appends-take old between new text i n first second =
    let both : Appends old new (take i text ++ take n (drop i text)) =
    Appends-append old between new (take i text) (take n (drop i text)) first (rw take_rest at second) in
    rw (take-add i n text) both

-- what is left from `start` on is a piece of it that was copied to the front of a buffer, and then the rest
pub left-take : (start n : ℕ) (all piece rest : List ℕ) → piece ≡ take n (drop start all) → length piece ≡ n
    → drop start all ≡ take n (piece ++ rest) ++ drop (start + n) all
left-take start n all piece rest copied len =
    sym (take-append-drop n (drop start all))
    ∙ ap (λ p. p ++ drop n (drop start all)) (sym copied ∙ sym (take_at piece rest n len))
    ∙ ap (λ p. take n (piece ++ rest) ++ p) (drop-drop n start all)
