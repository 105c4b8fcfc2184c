-- What terms mean: the rules that choices are counted by, and what each call changes of them. Assumes nothing.
use Rattle.std.specs.Prelude.{◌≡◌, ℕ, ◌<◌, if◌then◌else◌, ◌&&◌, [], Some, None, Option, ◌==◌, nat_lt, slice_index, slice_index_or}
use Rattle.terms.specs.declared.terms.Terms.{Terms}

-- the number of grades, and the charge in bits from the grade of one block to the grade of the next
pub record Rules : Type 0 where
  pub grades : ℕ
  pub charge : ℕ → ℕ → ℕ

-- the charge into a block's grade after the grade before it; the first block has none before it and pays nothing
abbrev pub charge_into : Rules → Option ℕ → ℕ → ℕ
charge_into rules None grade = 0
charge_into rules (Some before) grade = rules.charge before grade

abbrev pub charge_at : Terms → ℕ → ℕ → ℕ
charge_at terms from to = if nat_lt from 16 && nat_lt to 16 then slice_index (slice_index_or terms.charges from []) to else 0

abbrev pub rules_of : Terms → Rules
rules_of terms = record { grades = terms.grades; charge = charge_at terms }

-- so many grades, that ceiling, and no charge
pub record Fresh (grades ceiling : ℕ) (terms : Terms) : Type 0 where
  pub grades_is : terms.grades ≡ grades
  pub ceiling_is : terms.ceiling ≡ ceiling
  pub free : (from to : ℕ) → charge_at terms from to ≡ 0

-- one charge for every change of grade, and staying costs nothing
pub record Flat (before : Terms) (charge : ℕ) (after : Terms) : Type 0 where
  pub grades_is : after.grades ≡ before.grades
  pub ceiling_is : after.ceiling ≡ before.ceiling
  pub charged : (from to : ℕ) → from < 16 → to < 16 → charge_at after from to ≡ (if from == to then 0 else charge)

-- so many grades, that ceiling, and one charge for every change of grade
pub record FlatTerms (grades ceiling charge : ℕ) (terms : Terms) : Type 0 where
  pub grades_is : terms.grades ≡ grades
  pub ceiling_is : terms.ceiling ≡ ceiling
  pub charged : (from to : ℕ) → from < 16 → to < 16 → charge_at terms from to ≡ (if from == to then 0 else charge)

-- the charge of one change, and every other as it was
pub record PairSet (before : Terms) (from to charge : ℕ) (after : Terms) : Type 0 where
  pub grades_is : after.grades ≡ before.grades
  pub ceiling_is : after.ceiling ≡ before.ceiling
  pub charged : (a b : ℕ) → charge_at after a b ≡ (if a == from && b == to then charge else charge_at before a b)
