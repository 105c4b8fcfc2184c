-- What a token says of the field that it borrows, and the letter of each kind of line. Assumes nothing.
use Rattle.std.specs.Prelude.{◌≡◌, ℕ, List, [], ◌∷◌, ◌≢◌}
use Rattle.jobtext.specs.declared.token.Token.{Token}
use Rattle.jobtext.specs.declared.token.Token.TheVariants.{Number, Dash, Other}
use Rattle.jobtext.specs.declared.kind.LineKind.{LineKind}
use Rattle.jobtext.specs.declared.kind.LineKind.TheVariants.{Job, Own, Gain, TakeBack, Plan, Fewest}
use Rattle.jobtext.specs.Numbers.{Writes, NoNumber}

-- the one byte `-`
abbrev pub dash : List ℕ
dash = 45 ∷ []

-- the token borrows the field, and its case is the field's
abbrev pub TokenOf : List ℕ → Token → Type 0
TokenOf field (Number text n) = (text.now ≡ field) × Writes field n
TokenOf field (Dash text) = (text.now ≡ field) × (field ≡ dash)
TokenOf field (Other text) = (text.now ≡ field) × NoNumber field × (field ≢ dash)

-- J, O, G, U, B and D
abbrev pub kind_letter : LineKind → ℕ
kind_letter Job = 74
kind_letter Own = 79
kind_letter Gain = 71
kind_letter TakeBack = 85
kind_letter Plan = 66
kind_letter Fewest = 68
