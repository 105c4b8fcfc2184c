-- What bytes write a number. Assumes nothing.
use Rattle.std.specs.Prelude.{◌≡◌, ℕ, ◌^◌, ◌<◌, ◌≤◌, ◌↔◌, List, length, decimal, ◌≢◌, slice_index_or}
use Rattle.std.specs.Str.Parse.{AllDigits, digits_value}

-- the bytes are the decimal digits of a number that 32 bits hold
abbrev pub Writes : List ℕ → ℕ → Type 0
Writes bytes n = (n < 2 ^ 32) × (bytes ≡ decimal n)

-- the bytes write no such number
abbrev pub NoNumber : List ℕ → Type 0
NoNumber bytes = (n : ℕ) → n < 2 ^ 32 → bytes ≢ decimal n

-- the form of a number: one to ten digits, with no 0 in front unless that is all; and its value
pub record Form (bytes : List ℕ) (n : ℕ) : Type 0 where
  pub some : 1 ≤ length bytes
  pub few : length bytes ≤ 10
  pub digits : AllDigits 10 bytes
  pub lead : slice_index_or bytes 0 0 ≡ 48 → length bytes ≡ 1
  pub is : digits_value 10 bytes ≡ n
  pub most : n ≤ 4294967295

-- to write a number and to have its form are the same
abbrev pub WritesForm : Type 0
WritesForm = (bytes : List ℕ) (n : ℕ) → Writes bytes n ↔ Form bytes n
