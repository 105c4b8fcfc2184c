-- Bytes in parts between the bytes that separate them. Assumes nothing.
use Rattle.std.specs.Prelude.{◌≡◌, ℕ, ◌<◌, List, length, ◌==◌}
use Rattle.std.specs.List.{join_with_byte, slice_split, AllByRecursion}
use Rattle.std.specs.Str.Iter.{LacksByte}

-- the parts between the separators: one more than there are separators
abbrev pub parts : ℕ → List ℕ → List (List ℕ)
parts separator = slice_split (λ byte. byte == separator)

-- what a splitting is: joined by the separator its parts are the bytes, and no part holds the separator
pub record Splitting (separator : ℕ) (bytes : List ℕ) (split : List (List ℕ)) : Type 0 where
  pub some : 0 < length split
  pub whole : join_with_byte separator split ≡ bytes
  pub clear : AllByRecursion (LacksByte separator) split

-- `parts` is a splitting, and no other list is one
abbrev pub PartsOnly : Type 0
PartsOnly = (separator : ℕ) (bytes : List ℕ) → Splitting separator bytes (parts separator bytes) × ((split : List (List ℕ)) → Splitting separator bytes split → split ≡ parts separator bytes)

-- a line feed ends a line; what stands after the last one is a line too, often of no bytes
abbrev pub text_lines : List ℕ → List (List ℕ)
text_lines = parts 10

-- commas part the fields of a line
abbrev pub line_fields : List ℕ → List (List ℕ)
line_fields = parts 44
