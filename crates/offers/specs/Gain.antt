-- What a gain block means. Assumes nothing.
use Rattle.std.specs.Prelude.{ℕ, ◌*◌, Some, None, Option, if◌then◌else◌, nat_lt}
use Rattle.offers.specs.declared.offer.Offer.{Offer}
use Rattle.offers.specs.declared.gain.GainBlock.{GainBlock}
use Rattle.offers.specs.Levels.{levels, profile, rate_of}

-- the offer of a grade of so many levels
abbrev pub gain_offer : GainBlock → ℕ → Offer
gain_offer block n = record { rate = rate_of block.samples n; distortion = block.gain * profile n }

-- every grade is offered
abbrev pub gain_means : GainBlock → ℕ → Option Offer
gain_means block grade = if nat_lt grade 16 then Some (gain_offer block (levels grade)) else None
