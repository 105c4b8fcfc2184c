-- Choices of one grade for each block, with their bits and their cost. Assumes nothing.
use Rattle.std.specs.Prelude.{◌≡◌, ℕ, ◌+◌, ◌<◌, ◌≤◌, ◌↔◌, List, [], ◌∷◌, reverse, length, Some, None, Option, if◌then◌else◌, nat_lt, slice_index_or}
use Rattle.offers.specs.declared.offer.Offer.{Offer}
use Rattle.costs.specs.Model.{Model}
use Rattle.terms.specs.Rules.{Rules, charge_into}

-- what a block offers, by grade
abbrev pub Block : Type 0
Block = List (Option Offer)

abbrev pub offer_at : Block → ℕ → Option Offer
offer_at block grade = slice_index_or block grade None

-- what a block offers at a grade below the number of grades
abbrev pub offered : Rules → Block → ℕ → Option Offer
offered rules block grade = if nat_lt grade rules.grades then offer_at block grade else None

-- the grade of the newest block, where there is one
abbrev pub newest : List ℕ → Option ℕ
newest [] = None
newest (grade ∷ _) = Some grade

-- `Choice m rules blocks grades bits cost`: the grades are a choice for the blocks, of so many bits and that cost. Blocks and
-- grades stand newest first. One more block adds the charge into its grade and its rate, and joins its distortion.
pub data Choice {V : Type 0} (m : Model V) (rules : Rules) : List Block → List ℕ → ℕ → V → Type 0 where
  empty : Choice m rules [] [] 0 m.start
  next : {blocks : List Block} {grades : List ℕ} {bits : ℕ} {cost : V} {block : Block} {grade : ℕ} {offer : Offer} → Choice m rules blocks grades bits cost → grade < rules.grades → offer_at block grade ≡ Some offer → Choice m rules (block ∷ blocks) (grade ∷ grades) (bits + charge_into rules (newest grades) grade + offer.rate) (m.joined cost offer.distortion)

-- a choice has one number of bits and one cost
abbrev pub CountsOnce : {V : Type 0} → Model V → Type 0
CountsOnce {V} m = (rules : Rules) (blocks : List Block) (grades : List ℕ) (b c : ℕ) (v w : V) → Choice m rules blocks grades b v → Choice m rules blocks grades c w → (b ≡ c) × (v ≡ w)

-- the answer of counting grades for blocks, both from the first on: bits and cost exactly where there are at most 64 blocks and
-- the grades are a choice of those bits and that cost
abbrev pub Counted : {V : Type 0} → Model V → Rules → List Block → List ℕ → Option (ℕ × V) → Type 0
Counted {V} m rules blocks grades answer = (bits : ℕ) (cost : V) → (answer ≡ Some (bits, cost)) ↔ ((length blocks ≤ 64) × Choice m rules (reverse blocks) (reverse grades) bits cost)
