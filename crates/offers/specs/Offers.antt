-- Offers, and what layers make of them. Assumes nothing.
use Rattle.std.specs.Prelude.{◌≡◌, ℕ, ◌+◌, ◌*◌, ◌≤◌, ◌&&◌, List, map, Some, None, Option, if◌then◌else◌, nat_le, nat_lt, slice_index_or}
use Rattle.std.specs.List.{range_with_len}
use Rattle.offers.specs.declared.offer.Offer.{Offer}

-- the offer of a rate and a distortion, none where either is out of range
abbrev pub offer_of : ℕ → ℕ → Option Offer
offer_of rate distortion = if nat_le rate 65535 && nat_le distortion 16777215 then Some (record { rate = rate; distortion = distortion }) else None

-- the numbers of an offer are in range
abbrev pub InRange : Offer → Type 0
InRange offer = (offer.rate ≤ 65535) × (offer.distortion ≤ 16777215)

-- every offer of a list by grade is in range
abbrev pub Ranged : List (Option Offer) → Type 0
Ranged offers = (grade : ℕ) (offer : Offer) → slice_index_or offers grade None ≡ Some offer → InRange offer

-- an offer under a weight
abbrev pub weighted : ℕ → Option Offer → Option Offer
weighted times None = None
weighted times (Some offer) = offer_of offer.rate (times * offer.distortion)

-- an offer under extra bits
abbrev pub extended : ℕ → Option Offer → Option Offer
extended bits None = None
extended bits (Some offer) = offer_of (offer.rate + bits) offer.distortion

-- sixteen offers by grade: what a source means below the number of grades, and none from there on
abbrev pub offers_below : (ℕ → Option Offer) → ℕ → List (Option Offer)
offers_below means grades = map (λ grade. if nat_lt grade grades then means grade else None) (range_with_len 0 16)
