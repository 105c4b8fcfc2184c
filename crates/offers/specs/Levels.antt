-- The levels of a grade, and the bits and the distortion that so many levels stand for. Assumes nothing.
use Rattle.std.specs.Prelude.{◌≡◌, ℕ, zero, suc, ◌+◌, ◌-◌, ◌*◌, ◌/◌, ◌^◌, ◌≤◌, List, [], ◌∷◌, length, if◌then◌else◌, nat_le, slice_index}

abbrev pub level_counts : List ℕ
level_counts = 1 ∷ 2 ∷ 3 ∷ 4 ∷ 6 ∷ 8 ∷ 12 ∷ 16 ∷ 24 ∷ 32 ∷ 48 ∷ 64 ∷ 96 ∷ 128 ∷ 192 ∷ 255 ∷ []

-- how many levels a grade stands for
abbrev pub levels : ℕ → ℕ
levels grade = slice_index level_counts grade

-- the power of 2 that q names reaches the eighth power of n, and no smaller number names one that does
abbrev pub Least : ℕ → ℕ → Type 0
Least n q = (n ^ 8 ≤ 2 ^ q) × ((p : ℕ) → n ^ 8 ≤ 2 ^ p → q ≤ p)

-- the first number from q on, among the next so many, whose power of 2 is at least x
unfoldable pub first_from : ℕ → ℕ → ℕ → ℕ
first_from zero q x = q
first_from (suc count) q x = if nat_le x (2 ^ q) then q else first_from count (suc q) x

-- the eighths of n levels; that it is the smallest such number is part of the table's rule
abbrev pub eighths : ℕ → ℕ
eighths n = first_from 64 0 (n ^ 8)

-- a table of the eighths of 1 to 255 levels
pub record EighthsTable (table : List ℕ) : Type 0 where
  pub whole : length table ≡ 255
  pub least : (n : ℕ) → 1 ≤ n → n ≤ 255 → Least n (slice_index table (n - 1))
  pub entries : (n : ℕ) → 1 ≤ n → n ≤ 255 → slice_index table (n - 1) ≡ eighths n

abbrev pub profile : ℕ → ℕ
profile n = 65536 / (n * n)

-- the bits of so many samples, rounded up once
abbrev pub rate_of : ℕ → ℕ → ℕ
rate_of samples n = (samples * eighths n + 7) / 8
