-- Worked values, as one list. Assumes nothing.
use Rattle.std.specs.Prelude.{◌≡◌, ℕ, ◌≤◌, if◌then◌else◌, List, [], ◌∷◌, reverse, Some, None, Option, ◌==◌}
use Rattle.std.proofs.Common.{lit≤}
use Rattle.std.specs.Option.{option_map}
use Rattle.std.specs.List.{AllByRecursion}
use Rattle.offers.specs.declared.offer.Offer.{Offer}
use Rattle.offers.specs.declared.gain.GainBlock.{GainBlock}
use Rattle.offers.specs.Offers.{offer_of, weighted}
use Rattle.offers.specs.Levels.{eighths, profile}
use Rattle.offers.specs.Gain.{gain_means}
use Rattle.costs.specs.Kinds.{total_model, total_of}
use Rattle.terms.specs.Rules.{Rules}
use Rattle.terms.specs.Choice.{Block, Choice}

-- the rate, and the distortion, that a source means somewhere
abbrev rate_in : Option Offer → Option ℕ
rate_in = option_map (λ offer. offer.rate)

abbrev distortion_in : Option Offer → Option ℕ
distortion_in = option_map (λ offer. offer.distortion)

abbrev gain_block : (samples gain : ℕ) → 1 ≤ samples → samples ≤ 256 → 1 ≤ gain → gain ≤ 255 → GainBlock
gain_block samples gain some few heard soft = record { samples = samples; gain = gain; some = some; few = few; heard = heard; soft = soft }

-- a photograph of two blocks, newest first: 1 bit for 9 or 4 bits for 1, then 1 bit for 5 or 3 bits for 2
abbrev pub photograph : List Block
photograph = (offer_of 1 5 ∷ offer_of 3 2 ∷ []) ∷ (offer_of 1 9 ∷ offer_of 4 1 ∷ []) ∷ []

-- two grades, and 2 bits for each change
abbrev pub two_grades : Rules
two_grades = record { grades = 2; charge = λ from to. if from == to then 0 else 2 }

pub data Worked : Type 0 where
  -- what a definition gives, and what it should
  gives : Option ℕ → Option ℕ → Worked
  -- grades for the photograph from its first block on, with the bits and the total that they should have
  counts : List ℕ → ℕ → ℕ → Worked

abbrev pub Holds : Worked → Type 0
Holds (gives is should) = is ≡ should
Holds (counts grades bits total) = Choice total_model two_grades photograph (reverse grades) bits (total_of total)

abbrev pub worked : List Worked
worked =
    gives (Some (eighths 1)) (Some 0)
    ∷ gives (Some (eighths 3)) (Some 13)
    ∷ gives (Some (eighths 255)) (Some 64)
    ∷ gives (Some (profile 3)) (Some 7281)
    ∷ gives (rate_in (gain_means (gain_block 8 1 (lit≤ tt) (lit≤ tt) (lit≤ tt) (lit≤ tt)) 2)) (Some 13)
    ∷ gives (rate_in (gain_means (gain_block 3 1 (lit≤ tt) (lit≤ tt) (lit≤ tt) (lit≤ tt)) 2)) (Some 5)
    ∷ gives (distortion_in (weighted 2 (gain_means (gain_block 8 128 (lit≤ tt) (lit≤ tt) (lit≤ tt) (lit≤ tt)) 0))) None
    ∷ gives (distortion_in (weighted 2 (gain_means (gain_block 8 127 (lit≤ tt) (lit≤ tt) (lit≤ tt) (lit≤ tt)) 0))) (Some 16646144)
    ∷ gives (distortion_in (weighted 255 (offer_of 1 65793))) (Some 16777215)
    ∷ gives (distortion_in (weighted 255 (offer_of 1 65794))) None
    ∷ counts (0 ∷ 0 ∷ []) 2 14
    ∷ counts (0 ∷ 1 ∷ []) 6 11
    ∷ counts (1 ∷ 0 ∷ []) 7 6
    ∷ counts (1 ∷ 1 ∷ []) 7 3
    ∷ []

-- each of them holds
abbrev pub AsWorked : Type 0
AsWorked = AllByRecursion Holds worked
