-- What the blocks of the photographs offer. Assumes nothing.
use Rattle.std.specs.Prelude.{ℕ, None, Option, if◌then◌else◌, ◌==◌}
use Rattle.offers.specs.declared.offer.Offer.{Offer}
use Rattle.offers.specs.declared.gain.GainBlock.{GainBlock}
use Rattle.offers.specs.declared.layers.Extra.{Extra}
use Rattle.offers.specs.declared.layers.Weight.{Weight}
use Rattle.offers.specs.Offers.{offer_of, weighted, extended}
use Rattle.offers.specs.Gain.{gain_means}

-- an own block's offers of grades 0 and 1, by rate and distortion
abbrev pub two_offers : ℕ × ℕ → ℕ × ℕ → ℕ → Option Offer
two_offers coarse fine grade = if grade == 1 then offer_of fine.0 fine.1 else (if grade == 0 then offer_of coarse.0 coarse.1 else None)

-- a gain block through extra bits and then a weight
abbrev pub layered_offers : Weight → Extra → GainBlock → ℕ → Option Offer
layered_offers weight extra gain grade = weighted weight.times (extended extra.bits (gain_means gain grade))
