-- Where the places of each block lie, and what they hold. Assumes nothing.
use Rattle.std.specs.Prelude.{◌≡◌, ℕ, ◌+◌, ◌*◌, ◌<◌, ◌≤◌, List, [], ◌∷◌, length, drop, slice_index_or}
use Rattle.costs.specs.Model.{Model}
use Rattle.terms.specs.declared.terms.Terms.{Terms}
use Rattle.terms.specs.Rules.{rules_of}
use Rattle.terms.specs.Choice.{Block}
use Rattle.trellis.specs.declared.place.Place.{Place}
use Rattle.trellis.specs.Places.{Best, Costs, unreached}

-- the places of one grade: one for each number of bits through the ceiling
abbrev pub width_of : Terms → ℕ
width_of terms = terms.ceiling + 1

-- the places of a block, by grade and then by bits
abbrev pub size_of : Terms → ℕ
size_of terms = terms.grades * width_of terms

-- the place of a grade and a number of bits, of the block that lies first
abbrev pub place_in : {V : Type 0} → Model V → Terms → List (Place V) → ℕ → ℕ → Place V
place_in m terms places grade bits = slice_index_or places (grade * width_of terms + bits) (unreached m)

-- only the places from `at` on, `width` of them, may differ
pub record Outside {V : Type 0} (m : Model V) (at width : ℕ) (old new : List (Place V)) : Type 0 where
  pub before : (k : ℕ) → k < at → slice_index_or new k (unreached m) ≡ slice_index_or old k (unreached m)
  pub after : (k : ℕ) → at + width ≤ k → slice_index_or new k (unreached m) ≡ slice_index_or old k (unreached m)

-- the row of a grade of the newest block holds what it should
abbrev pub PlaceRow : {V : Type 0} → Model V → Terms → List Block → ℕ → List (Place V) → Type 0
PlaceRow m terms blocks grade row = (bits : ℕ) → bits < width_of terms → Best m (Costs m (rules_of terms) blocks grade bits) (slice_index_or row bits (unreached m))

-- the column of the newest block, which lies first among the places
abbrev pub Column : {V : Type 0} → Model V → Terms → List Block → List (Place V) → Type 0
Column m terms blocks places = (grade : ℕ) → grade < terms.grades → (bits : ℕ) → bits < width_of terms → Best m (Costs m (rules_of terms) blocks grade bits) (place_in m terms places grade bits)

-- the places of every block hold what they should; blocks follow one another from the first place on, the newest last
abbrev pub Columns : {V : Type 0} → Model V → Terms → List Block → List (Place V) → Type 0
Columns m terms [] places = Unit {0}
Columns m terms (block ∷ blocks) places = Column m terms (block ∷ blocks) (drop (length blocks * size_of terms) places) × Columns m terms blocks places
