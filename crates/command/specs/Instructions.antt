-- What a line can ask for, by the numbers that it writes. Assumes nothing.
use Rattle.std.specs.Prelude.{◌≡◌, ℕ, ◌*◌, ◌<◌, cond, List, [], ◌∷◌, Some, None, decimal, Option, ◌==◌, nat_lt, slice_index_or}
use Rattle.std.specs.List.{AllByRecursion}
use Rattle.jobtext.specs.Tokens.{dash, kind_letter}
use Rattle.jobtext.specs.declared.kind.LineKind.{LineKind}
use Rattle.jobtext.specs.declared.kind.LineKind.TheVariants.{Job, Own, Gain, TakeBack, Plan, Fewest}
use Rattle.offers.specs.Faults.{weight_row, extra_row, samples_row, gain_row, rate_row, distortion_row}
use Rattle.offers.specs.Gain.{gain_means}
use Rattle.offers.specs.Levels.{levels, profile, rate_of}
use Rattle.offers.specs.Own.{own_means}
use Rattle.either.specs.declared.Either.{Either}
use Rattle.either.specs.declared.Either.TheVariants.{Left, Right}
use Rattle.offers.specs.declared.gain.GainBlock.{GainBlock}
use Rattle.offers.specs.declared.offer.Offer.{Offer}
use Rattle.offers.specs.declared.own.OwnBlock.{OwnBlock}
use Rattle.terms.specs.Faults.{grades_row, ceiling_row, charge_row}
use Rattle.terms.specs.Rules.{charge_at}
use Rattle.terms.specs.declared.terms.Terms.{Terms}
use Rattle.command.specs.declared.commands.CostKind.{CostKind}
use Rattle.command.specs.declared.commands.Command as commands
use Rattle.command.specs.declared.commands.Command.{Command}
use Rattle.command.specs.Demands.{cost_letter, any_row, InRow}

-- a block: the offers of its grades from 0 on, or samples and a gain
pub data WrittenBlock : Type 0 where
  own : List (Option Offer) → WrittenBlock
  gain : (samples loudness : ℕ) → WrittenBlock

pub data Instruction : Type 0 where
  open_job : CostKind → (grades ceiling charge : ℕ) → Instruction
  add : (weight extra : ℕ) → WrittenBlock → Instruction
  take_back : Instruction
  plan : (budget : ℕ) → Instruction
  fewest : (bound : ℕ) → Instruction

-- the kind of line that asks for it
abbrev pub block_kind : WrittenBlock → LineKind
block_kind (own offers) = Own
block_kind (gain samples loudness) = Gain

abbrev pub kind_of : Instruction → LineKind
kind_of (open_job kind grades ceiling charge) = Job
kind_of (add weight extra block) = block_kind block
kind_of take_back = TakeBack
kind_of (plan budget) = Plan
kind_of (fewest bound) = Fewest

-- the two fields of a grade: an offer's numbers, or two dashes for none
abbrev pub rate_field : Option Offer → List ℕ
rate_field None = dash
rate_field (Some offer) = decimal offer.rate

abbrev pub distortion_field : Option Offer → List ℕ
distortion_field None = dash
distortion_field (Some offer) = decimal offer.distortion

abbrev pub pair_fields : List (Option Offer) → List (List ℕ)
pair_fields [] = []
pair_fields (offer ∷ offers) = rate_field offer ∷ distortion_field offer ∷ pair_fields offers

abbrev pub block_fields : WrittenBlock → List (List ℕ)
block_fields (own offers) = pair_fields offers
block_fields (gain samples loudness) = decimal samples ∷ decimal loudness ∷ []

-- the fields of its line: the letter, and what stands after it
abbrev pub fields_after : Instruction → List (List ℕ)
fields_after (open_job kind grades ceiling charge) = (cost_letter kind ∷ []) ∷ decimal grades ∷ decimal ceiling ∷ decimal charge ∷ []
fields_after (add weight extra block) = decimal weight ∷ decimal extra ∷ block_fields block
fields_after take_back = []
fields_after (plan budget) = decimal budget ∷ []
fields_after (fewest bound) = decimal bound ∷ []

abbrev pub fields_of : Instruction → List (List ℕ)
fields_of instruction = (kind_letter (kind_of instruction) ∷ []) ∷ fields_after instruction

-- its numbers are in range
abbrev pub GoodOffer : Option Offer → Type 0
GoodOffer None = Unit {0}
GoodOffer (Some offer) = InRow rate_row offer.rate × InRow distortion_row offer.distortion

abbrev pub GoodBlock : WrittenBlock → Type 0
GoodBlock (own offers) = AllByRecursion GoodOffer offers
GoodBlock (gain samples loudness) = InRow samples_row samples × InRow gain_row loudness

abbrev pub Good : Instruction → Type 0
Good (open_job kind grades ceiling charge) = InRow grades_row grades × InRow ceiling_row ceiling × InRow charge_row charge
Good (add weight extra block) = InRow weight_row weight × InRow extra_row extra × GoodBlock block
Good take_back = Unit {0}
Good (plan budget) = InRow any_row budget
Good (fewest bound) = InRow any_row bound

-- what the block offers, by grade, with no layer on it
abbrev pub block_means : WrittenBlock → ℕ → Option Offer
block_means (own offers) grade = slice_index_or offers grade None
block_means (gain samples loudness) grade = cond (nat_lt grade 16) (Some (record { rate = rate_of samples (levels grade); distortion = loudness * profile (levels grade) })) None

abbrev pub source_means : Either OwnBlock GainBlock → ℕ → Option Offer
source_means (Left block) = own_means block
source_means (Right block) = gain_means block

-- one charge for every change of grade
abbrev pub FlatCharge : ℕ → Terms → Type 0
FlatCharge charge terms = (from to : ℕ) → from < 16 → to < 16 → charge_at terms from to ≡ cond (from == to) 0 charge

-- the command asks for exactly that
abbrev pub Holds : Command → Instruction → Type 0
Holds (commands.TheVariants.Open kind terms) instruction = (charge : ℕ) × (instruction ≡ open_job kind terms.grades terms.ceiling charge) × FlatCharge charge terms
Holds (commands.TheVariants.Add weight extra block) instruction = (written : WrittenBlock) × (instruction ≡ add weight.times extra.bits written) × ((grade : ℕ) → source_means block grade ≡ block_means written grade)
Holds commands.TheVariants.TakeBack instruction = instruction ≡ take_back
Holds (commands.TheVariants.Plan budget) instruction = instruction ≡ plan budget
Holds (commands.TheVariants.Fewest bound) instruction = instruction ≡ fewest bound
