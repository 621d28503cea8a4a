-- The rows of the products of elements, one after the other in rows, by all x^u·t^v.
use Rattle.std.specs.Prelude.{◌≡◌, ℕ, suc, ◌-◌, ◌*◌, ◌/◌, ◌%◌, ◌^◌, ◌<◌, ◌≤◌, List, [], length, get_or}
use Rattle.theory_rings.specs.Sum.{table}
use Rattle.theory_chains.specs.NumberRows.{shifted_number, turned_number, AreNumbers, AreRows}

-- modulo q there are d numbers of t^d, and for v below d a row of w numbers of x^e·t^v, where w is e·d
pub record AreSteps (q w : ℕ) (back : List ℕ) (turns : List (List ℕ)) : Type 0 where
  pub positive : 1 ≤ q
  pub small : q ≤ 2 ^ 40
  pub digits : 1 ≤ length back
  pub height : 1 ≤ w / length back
  pub width : w ≡ w / length back * length back
  pub back_numbers : AreNumbers q (length back) back
  pub count : length turns ≡ length back
  pub turn_numbers : AreRows q w turns

module _ (q w : ℕ) (back : List ℕ) (turns rows out : List (List ℕ)) where
  abbrev d : ℕ
  d = length back

  abbrev n : ℕ
  n = length rows * w

  -- row r is row r / w where r is a multiple of w; else it has the products by t of the row before it, in the first
  -- d of each w, and the products by x of the row d places before it, behind these
  pub record IsMultiple (r : ℕ) (row : List ℕ) : Type 0 where
    pub numbers : AreNumbers q n row
    pub first : r % w ≡ 0 → row ≡ get_or rows (r / w) []
    pub shifted : 1 ≤ r % w → r % w < d → row ≡ table n (shifted_number q d back (get_or out (r - 1) []))
    pub turned : d ≤ r % w → row ≡ table n (turned_number q w d turns (get_or out (r - d) []))

  -- so are the first t rows
  pub record AreMultiples (t : ℕ) : Type 0 where
    pub count : length out ≡ t
    pub each : (r : ℕ) → r < t → IsMultiple r (get_or out r [])

-- modulo q the first row, and after each row the products by t of it, as many rows as there are digits
module _ (q : ℕ) (back first : List ℕ) (turns : List (List ℕ)) where
  pub record AreTurns (t : ℕ) : Type 0 where
    pub count : length turns ≡ t
    pub numbers : AreRows q (length first) turns
    pub begins : get_or turns 0 [] ≡ first
    pub next : (v : ℕ) → suc v < t
        → get_or turns (suc v) [] ≡ table (length first) (shifted_number q (length back) back (get_or turns v []))
