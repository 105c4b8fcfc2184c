-- What is refused of a block: the number of each case, and each call's row of cases. Assumes nothing.
use Rattle.std.specs.Prelude.{ℕ, ◌||◌, [], ◌∷◌, ◌++◌, nat_lt}
use Rattle.faults.specs.Refusals.{Row}
use Rattle.faults.specs.declared.layer.Layer.{Layer}
use Rattle.faults.specs.declared.layer.Layer.TheVariants.{Block}
use Rattle.offers.specs.declared.fault.BlockFault.{BlockFault}
use Rattle.offers.specs.declared.fault.BlockFault.TheVariants.{RateRange, DistortionRange, SamplesRange, GainRange, WeightRange, ExtraRange, GradeRange}

abbrev pub block_number : BlockFault → ℕ
block_number RateRange = 20
block_number DistortionRange = 21
block_number SamplesRange = 22
block_number GainRange = 23
block_number WeightRange = 24
block_number ExtraRange = 25
block_number GradeRange = 26

abbrev pub block_layer : BlockFault → Layer
block_layer _ = Block

abbrev pub grade_row : ℕ → Row
grade_row grade = (nat_lt 15 grade, 26) ∷ []

abbrev pub rate_row : ℕ → Row
rate_row rate = (nat_lt 65535 rate, 20) ∷ []

abbrev pub distortion_row : ℕ → Row
distortion_row distortion = (nat_lt 16777215 distortion, 21) ∷ []

abbrev pub samples_row : ℕ → Row
samples_row samples = (nat_lt samples 1 || nat_lt 256 samples, 22) ∷ []

abbrev pub gain_row : ℕ → Row
gain_row gain = (nat_lt gain 1 || nat_lt 255 gain, 23) ∷ []

abbrev pub weight_row : ℕ → Row
weight_row times = (nat_lt times 1 || nat_lt 255 times, 24) ∷ []

abbrev pub extra_row : ℕ → Row
extra_row bits = (nat_lt 1023 bits, 25) ∷ []

-- setting the offer of a grade
abbrev pub set_row : ℕ → ℕ → ℕ → Row
set_row grade rate distortion = grade_row grade ++ rate_row rate ++ distortion_row distortion

-- making a gain block
abbrev pub gain_block_row : ℕ → ℕ → Row
gain_block_row samples gain = samples_row samples ++ gain_row gain
