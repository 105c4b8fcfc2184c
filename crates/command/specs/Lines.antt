-- When a line is accepted, as which instruction, and when it is refused. Assumes nothing.
use Rattle.std.specs.Prelude.{◌≡◌, ℕ, ◌+◌, ◌*◌, Bool, true, false, not, List, [], ◌∷◌, length, is_some, Some, None, Option, Result, MatchResult, ◌==◌, slice_index_or}
use Rattle.std.specs.Borrow.{Bor}
use Rattle.faults.specs.declared.layer.Layer.{Layer}
use Rattle.jobtext.specs.Tokens.{kind_letter}
use Rattle.jobtext.specs.declared.fault.TextFault.TheVariants.{WrongCount, UnknownFirst, OutOfPlace}
use Rattle.jobtext.specs.declared.kind.LineKind.{LineKind}
use Rattle.jobtext.specs.declared.kind.LineKind.TheVariants.{Job, Own, Gain, TakeBack, Plan, Fewest}
use Rattle.terms.specs.declared.terms.Terms.{Terms}
use Rattle.command.specs.declared.commands.Command.{Command}
use Rattle.command.specs.declared.fault.FieldFault.{FieldFault}
use Rattle.command.specs.Faults.{fault_number, fault_layer}
use Rattle.command.specs.Demands.{Demand, a_cost_kind, a_number_of_grades, a_ceiling, a_charge, a_weight, an_extra, a_number_of_samples, a_gain, any_number, pairs, By, FirstFails}
use Rattle.command.specs.Instructions.{Instruction, kind_of, fields_of, Good, Holds}

-- the number of grades of the open job, none while no job is open
abbrev pub grades_of : Option (Bor Terms) → Option ℕ
grades_of None = None
grades_of (Some terms) = Some terms.now.grades

abbrev pub grades_in : Option ℕ → ℕ
grades_in None = 0
grades_in (Some grades) = grades

-- a job is opened while none is open, and all else is asked of an open one
abbrev pub in_place : LineKind → Bool → Bool
in_place Job is_open = not is_open
in_place Own is_open = is_open
in_place Gain is_open = is_open
in_place TakeBack is_open = is_open
in_place Plan is_open = is_open
in_place Fewest is_open = is_open

-- how many fields the line that opens a job may have
abbrev pub job_count : ℕ → Bool
job_count count = count == 5

-- how many fields a line of each kind may have, in a job of so many grades
abbrev pub right_count : LineKind → ℕ → ℕ → Bool
right_count Job grades count = job_count count
right_count Own grades count = count == 3 + 2 * grades
right_count Gain grades count = count == 5
right_count TakeBack grades count = count == 1
right_count Plan grades count = count == 2
right_count Fewest grades count = count == 2

-- what is asked of the fields after the letter
abbrev pub demands : LineKind → ℕ → List Demand
demands Job grades = a_cost_kind ∷ a_number_of_grades ∷ a_ceiling ∷ a_charge ∷ []
demands Own grades = a_weight ∷ an_extra ∷ pairs grades
demands Gain grades = a_weight ∷ an_extra ∷ a_number_of_samples ∷ a_gain ∷ []
demands TakeBack grades = []
demands Plan grades = any_number ∷ []
demands Fewest grades = any_number ∷ []

-- the first field is the letter of the kind
abbrev pub Begins : List (List ℕ) → LineKind → Type 0
Begins fields kind = slice_index_or fields 0 [] ≡ kind_letter kind ∷ []

-- a line passes every check before its fields are looked at
pub record Framed (job : Option ℕ) (fields : List (List ℕ)) (kind : LineKind) : Type 0 where
  pub begins : Begins fields kind
  pub placed : in_place kind (is_some job) ≡ true
  pub counted : right_count kind (grades_in job) (length fields) ≡ true

-- a line is refused in a field (0 for the line as a whole), by a layer, with a number. The checks stand in their order, and
-- each case says that those before it passed.
pub data Refused (job : Option ℕ) (fields : List (List ℕ)) (field : ℕ) (layer : Layer) (number : ℕ) : Type 0 where
  unknown_first : field ≡ 1 → By UnknownFirst layer number → ((kind : LineKind) → Begins fields kind → ⊥) → Refused job fields field layer number
  out_of_place : field ≡ 1 → By OutOfPlace layer number → (kind : LineKind) → Begins fields kind → in_place kind (is_some job) ≡ false → Refused job fields field layer number
  wrong_count : field ≡ 0 → By WrongCount layer number → (kind : LineKind) → Begins fields kind → in_place kind (is_some job) ≡ true → right_count kind (grades_in job) (length fields) ≡ false → Refused job fields field layer number
  wrong_field : (kind : LineKind) → Framed job fields kind → FirstFails (demands kind (grades_in job)) (slice_index_or fields 0 []) fields 1 field layer number → Refused job fields field layer number

-- a line is accepted as an instruction: its fields write it, in its place, in their number, and with numbers in range
pub record Accepted (job : Option ℕ) (fields : List (List ℕ)) (instruction : Instruction) : Type 0 where
  pub written : fields ≡ fields_of instruction
  pub placed : in_place (kind_of instruction) (is_some job) ≡ true
  pub counted : right_count (kind_of instruction) (grades_in job) (length fields) ≡ true
  pub good : Good instruction

-- a line is accepted, and the command is what it asks for
abbrev pub Commands : Option ℕ → List (List ℕ) → Command → Type 0
Commands job fields command = (instruction : Instruction) × Accepted job fields instruction × Holds command instruction

-- a line has one reading: one instruction, or one refusal, and never both
pub record ReadOnce : Type 0 where
  pub one_instruction : (job : Option ℕ) (fields : List (List ℕ)) (a b : Instruction) → Accepted job fields a → Accepted job fields b → a ≡ b
  pub one_refusal : (job : Option ℕ) (fields : List (List ℕ)) (field : ℕ) (layer : Layer) (number : ℕ) (field' : ℕ) (layer' : Layer) (number' : ℕ) → Refused job fields field layer number → Refused job fields field' layer' number' → (field ≡ field') × (layer ≡ layer') × (number ≡ number')
  pub not_both : (job : Option ℕ) (fields : List (List ℕ)) (instruction : Instruction) (field : ℕ) (layer : Layer) (number : ℕ) → Accepted job fields instruction → Refused job fields field layer number → ⊥

-- a line of the kind, of so many fields
pub record Shaped (fields : List (List ℕ)) (kind : LineKind) (count : ℕ) : Type 0 where
  pub begins : Begins fields kind
  pub long : length fields ≡ count

-- the fields write an instruction that a line of the kind asks for, with numbers in range, and the command is that
pub record Spelt (fields : List (List ℕ)) (kind : LineKind) (command : Command) : Type 0 where
  pub instruction : Instruction
  pub kind_is : kind_of instruction ≡ kind
  pub written : fields ≡ fields_of instruction
  pub good : Good instruction
  pub held : Holds command instruction

-- what is answered once the kind of a line and its count of fields are settled
abbrev pub ReadAfter : List (List ℕ) → LineKind → ℕ → Result Command FieldFault → Type 0
ReadAfter fields kind grades r = MatchResult r (Spelt fields kind) (λ found. FirstFails (demands kind grades) (slice_index_or fields 0 []) fields 1 found.field (fault_layer found.fault) (fault_number found.fault))

-- what is answered to a line: a command that it is accepted as, or a refusal
abbrev pub Read : Option ℕ → List (List ℕ) → Result Command FieldFault → Type 0
Read job fields r = MatchResult r (Commands job fields) (λ found. Refused job fields found.field (fault_layer found.fault) (fault_number found.fault))
