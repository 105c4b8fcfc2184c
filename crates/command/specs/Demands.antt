-- What is asked of a field, and the first field of a line that is not so. Assumes nothing.
use Rattle.std.specs.Prelude.{◌≡◌, ℕ, zero, suc, ◌+◌, ◌^◌, ◌<◌, ◌⊎◌, List, [], ◌∷◌, Some, None, ◌≢◌, slice_index_or}
use Rattle.faults.specs.Refusals.{Row, first}
use Rattle.faults.specs.declared.layer.Layer.{Layer}
use Rattle.faults.specs.declared.layer.Layer.TheVariants.{Text, Terms, Block}
use Rattle.jobtext.specs.Faults.{text_number, text_layer}
use Rattle.jobtext.specs.Numbers.{Writes, NoNumber}
use Rattle.jobtext.specs.Tokens.{dash}
use Rattle.jobtext.specs.declared.fault.TextFault.{TextFault}
use Rattle.jobtext.specs.declared.fault.TextFault.TheVariants.{WrongForm}
use Rattle.offers.specs.Faults.{weight_row, extra_row, samples_row, gain_row, rate_row, distortion_row}
use Rattle.terms.specs.Faults.{grades_row, ceiling_row, charge_row}
use Rattle.command.specs.declared.commands.CostKind.{CostKind}
use Rattle.command.specs.declared.commands.CostKind.TheVariants.{Total, Worst}

-- T and W
abbrev pub cost_letter : CostKind → ℕ
cost_letter Total = 84
cost_letter Worst = 87

-- every number is in range
abbrev pub any_row : ℕ → Row
any_row n = []

-- a number that is written can be in range
abbrev pub InRow : (ℕ → Row) → ℕ → Type 0
InRow row n = (n < 2 ^ 32) × (first (row n) ≡ None)

-- the field writes the number, which is in range
abbrev pub NumberIn : (ℕ → Row) → List ℕ → ℕ → Type 0
NumberIn row field n = Writes field n × (first (row n) ≡ None)

pub data Demand : Type 0 where
  -- the letter of a kind of cost
  a_cost_kind : Demand
  -- a number in range; out of range, the row has the number of the fault, and this is its layer
  a_number : Layer → (ℕ → Row) → Demand
  -- a rate, or a dash for no offer
  a_rate : Demand
  -- after a dash a dash, after a rate a distortion
  a_distortion : Demand

abbrev pub a_number_of_grades : Demand
a_number_of_grades = a_number Terms grades_row

abbrev pub a_ceiling : Demand
a_ceiling = a_number Terms ceiling_row

abbrev pub a_charge : Demand
a_charge = a_number Terms charge_row

abbrev pub a_weight : Demand
a_weight = a_number Block weight_row

abbrev pub an_extra : Demand
an_extra = a_number Block extra_row

abbrev pub a_number_of_samples : Demand
a_number_of_samples = a_number Block samples_row

abbrev pub a_gain : Demand
a_gain = a_number Block gain_row

-- a budget or a bound: what is too much of it is for the planner to say
abbrev pub any_number : Demand
any_number = a_number Text any_row

-- the refusal is this fault of the text
abbrev pub By : TextFault → Layer → ℕ → Type 0
By fault layer number = (layer ≡ text_layer fault) × (number ≡ text_number fault)

-- a field, with the one before it, is as asked
abbrev pub Meets : Demand → (before field : List ℕ) → Type 0
Meets a_cost_kind before field = (kind : CostKind) × (field ≡ cost_letter kind ∷ [])
Meets (a_number layer row) before field = (n : ℕ) × NumberIn row field n
Meets a_rate before field = (field ≡ dash) ⊎ ((n : ℕ) × NumberIn rate_row field n)
Meets a_distortion before field = ((before ≡ dash) × (field ≡ dash)) ⊎ ((before ≢ dash) × ((n : ℕ) × NumberIn distortion_row field n))

-- a field that is to be a number is refused: of wrong form, or out of range
abbrev pub NotNumberIn : Layer → (ℕ → Row) → List ℕ → Layer → ℕ → Type 0
NotNumberIn own row field layer number = (By WrongForm layer number × NoNumber field) ⊎ ((layer ≡ own) × ((n : ℕ) × Writes field n × (first (row n) ≡ Some number)))

abbrev pub NoDistortion : List ℕ → Layer → ℕ → Type 0
NoDistortion = NotNumberIn Block distortion_row

-- a field, with the one before it, is refused by the layer with the number
abbrev pub Fails : Demand → (before field : List ℕ) → Layer → ℕ → Type 0
Fails a_cost_kind before field layer number = By WrongForm layer number × (Meets a_cost_kind before field → ⊥)
Fails (a_number own row) before field layer number = NotNumberIn own row field layer number
Fails a_rate before field layer number = (field ≢ dash) × NotNumberIn Block rate_row field layer number
Fails a_distortion before field layer number = ((before ≡ dash) × (field ≢ dash) × By WrongForm layer number) ⊎ ((before ≢ dash) × NoDistortion field layer number)

-- of the fields from the index k on, each with its demand, the first that is refused; fields are numbered from 1
abbrev pub FirstFails : List Demand → (before : List ℕ) → List (List ℕ) → ℕ → (field : ℕ) → Layer → (number : ℕ) → Type 0
FirstFails [] before fields k field layer number = ⊥
FirstFails (demand ∷ demands) before fields k field layer number = ((field ≡ k + 1) × Fails demand before (slice_index_or fields k []) layer number) ⊎ (Meets demand before (slice_index_or fields k []) × FirstFails demands (slice_index_or fields k []) fields (k + 1) field layer number)

-- a rate and a distortion for each grade
abbrev pub pairs : ℕ → List Demand
pairs zero = []
pairs (suc grades) = a_rate ∷ a_distortion ∷ pairs grades
