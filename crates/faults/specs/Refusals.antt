-- Refusals by number: a call's row of cases, and which of them it answers. Assumes nothing.
use Rattle.std.specs.Prelude.{ℕ, Bool, cond, List, [], ◌∷◌, Some, None, Ok, Err, Option, Result}

-- a row of cases in the order in which they are looked at, each with its number
abbrev pub Row : Type 0
Row = List (Bool × ℕ)

-- the number of the first case that holds, none where no case does
abbrev pub first : Row → Option ℕ
first [] = None
first (entry ∷ row) = cond entry.0 (Some entry.1) (first row)

-- the number of the refusal that a call answers, none where it does not refuse
abbrev pub refusal : {T F : Type 0} → (F → ℕ) → Result T F → Option ℕ
refusal number (Ok _) = None
refusal number (Err fault) = Some (number fault)
