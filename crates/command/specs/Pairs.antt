-- What is known of an own block while its pairs of fields are read. Assumes nothing.
use Rattle.std.specs.Prelude.{◌≡◌, ℕ, ◌+◌, List, [], ◌∷◌, length, get_or, None, Option, slice_index_or}
use Rattle.std.specs.List.{AllByRecursion}
use Rattle.offers.specs.Faults.{distortion_row}
use Rattle.offers.specs.Offers.{offer_of}
use Rattle.offers.specs.Own.{own_means, OnlyAt}
use Rattle.offers.specs.declared.offer.Offer.{Offer}
use Rattle.offers.specs.declared.own.OwnBlock.{OwnBlock}
use Rattle.command.specs.Demands.{NumberIn}
use Rattle.command.specs.Instructions.{rate_field, distortion_field, pair_fields, GoodOffer}

-- the field writes a distortion, which with the rate is the grade's offer now
abbrev pub OfferRead : List ℕ → (rate : ℕ) → (before after : OwnBlock) → (grade : ℕ) → Type 0
OfferRead field rate before after grade = (distortion : ℕ) × NumberIn distortion_row field distortion × OnlyAt before after grade (offer_of rate distortion)

-- the fields at k and after it write an offer or none, which is the grade's now
pub record PairRead (fields : List (List ℕ)) (k : ℕ) (before after : OwnBlock) (grade : ℕ) : Type 0 where
  pub offer : Option Offer
  pub rate_is : get_or fields k [] ≡ rate_field offer
  pub distortion_is : get_or fields (k + 1) [] ≡ distortion_field offer
  pub good : GoodOffer offer
  pub only : OnlyAt before after grade offer

-- from the index k on the fields are these
abbrev pub StandAt : List (List ℕ) → ℕ → List (List ℕ) → Type 0
StandAt fields k [] = Unit {0}
StandAt fields k (one ∷ others) = (slice_index_or fields k [] ≡ one) × StandAt fields (k + 1) others

-- the first so many grades were read: the block offers what their pairs write, and nothing else
pub record OwnRead (fields : List (List ℕ)) (grades : ℕ) (block : OwnBlock) : Type 0 where
  pub offers : List (Option Offer)
  pub long : length offers ≡ grades
  pub written : StandAt fields 3 (pair_fields offers)
  pub good : AllByRecursion GoodOffer offers
  pub means : (grade : ℕ) → own_means block grade ≡ slice_index_or offers grade None
