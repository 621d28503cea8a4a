-- Whether a list of failing calls is empty, and the room where it is.
use Rattle.std.specs.Prelude.{◌≡◌, ℕ, ◌<◌, ◌≤◌, Bool, true, false, IsTrue, List, [], ◌∷◌, length, take, Option, None}
use Rattle.std.specs.Prelude.{Some, refl}
use Rattle.std.proofs.Common.{sym, subst}
use Rattle.std.proofs.lemmas.Bool.{false≢true}
use Rattle.std.proofs.lemmas.List.{length-take-le}
use Rattle.spl_outside.specs.Room.{HasRoom}

abbrev pub is_empty : List ℕ → Bool
is_empty [] = true
is_empty (_ ∷ _) = false

-- the room, where no call is listed
abbrev pub room_told : List ℕ → ℕ → Option ℕ
room_told [] room = Some room
room_told (_ ∷ _) room = None

pub is_empty-sound : (calls : List ℕ) → IsTrue (is_empty calls) → calls ≡ []
is_empty-sound [] h = refl
is_empty-sound (call ∷ calls) h = absurd (false≢true h)

-- where the first `end` bytes of a buffer are fewer than the room that is told, no call is listed, and room is left
pub room_told-sound : (calls buffer : List ℕ) (end room : ℕ) → length buffer ≡ room → end ≤ room
    → HasRoom (Some (take end buffer)) (room_told calls room) → (calls ≡ []) × (end < room)
room_told-sound [] buffer end room full within h =
    (refl, subst (λ (n : ℕ). n < room) (length-take-le end buffer (subst (λ (n : ℕ). end ≤ n) (sym full) within)) h)
room_told-sound (call ∷ calls) buffer end room full within h = absurd h
