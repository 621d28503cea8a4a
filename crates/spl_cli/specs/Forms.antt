-- The forms of words, and what each of them reads.
use Rattle.std.specs.Prelude.{ℕ, List, [], ◌∷◌, codes, if◌then◌else◌, bytes_eq, Option, Some, None}
use Rattle.std.specs.Prelude.{option_and_then}
use Rattle.spl_table.specs.Refusal.{table_limit, front_limit}
use Rattle.spl_cli.specs.declared.words.Form.{Form}
use Rattle.spl_cli.specs.declared.words.Form.TheVariants.{Decide, Check}

-- the form of the words; None where they are of no form that is built
abbrev pub form_of : List (List ℕ) → Option Form
form_of [] = None
form_of (word ∷ []) =
    if bytes_eq word (codes "decide") then Some Decide else if bytes_eq word (codes "check") then Some Check else None
form_of (word ∷ next ∷ words) = None

-- the most bytes of an input of the form; None for a form that reads nothing
abbrev pub limit_of_form : Form → Option ℕ
limit_of_form Decide = Some table_limit
limit_of_form Check = Some front_limit

-- the most bytes of an input that words read; None for words that read nothing
abbrev pub limit_of : List (List ℕ) → Option ℕ
limit_of words = option_and_then limit_of_form (form_of words)

-- the built forms, one a line
abbrev pub usage_text : List ℕ
usage_text = codes "usage: spl decide\n       spl check\n"
