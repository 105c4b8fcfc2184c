-- A whole job text and the answer lines to it. Assumes nothing.
use Rattle.std.specs.Prelude.{◌≡◌, ℕ, ◌+◌, ◌<◌, ◌≤◌, if◌then◌else◌, ◌&&◌, List, [], ◌∷◌, ◌++◌, reverse, length, Some, None, Option, ◌==◌, ◌≢◌, nat_lt}
use Rattle.faults.specs.Refusals.{first}
use Rattle.faults.specs.declared.layer.Layer.TheVariants.{Planner}
use Rattle.offers.specs.Offers.{weighted, extended, offers_below}
use Rattle.costs.specs.Model.{Model}
use Rattle.costs.specs.Kinds.{total_model, total_of, worst_model, worst_of}
use Rattle.costs.specs.declared.total.Total.{Total}
use Rattle.costs.specs.declared.worst.Worst.{Worst}
use Rattle.terms.specs.Rules.{Rules}
use Rattle.terms.specs.Choice.{Block}
use Rattle.trellis.specs.Named.{BestPlan, NothingFits}
use Rattle.planner.specs.Faults.{add_cases, take_back_row}
use Rattle.planner.specs.Runs.{without_newest}
use Rattle.planner.specs.Answers.{Fewest, NoneWithin}
use Rattle.jobtext.specs.Faults.{text_number, text_layer}
use Rattle.jobtext.specs.Parts.{text_lines, line_fields}
use Rattle.jobtext.specs.declared.fault.TextFault.TheVariants.{TooLong}
use Rattle.command.specs.declared.commands.CostKind.{CostKind}
use Rattle.command.specs.declared.commands.CostKind.TheVariants as kind
use Rattle.command.specs.Instructions.{WrittenBlock, block_means, Instruction, open_job, add, take_back, plan, fewest}
use Rattle.command.specs.Lines.{Accepted, Refused}
use Rattle.job.specs.Replies.{Said, nothing_said, plan_said, bits_said, fault_said, said_text}

-- how a kind's values stand in a text: the value that a bound names, and the number shown for a cost
pub record Pricing (V : Type 0) : Type 0 where
  pub model : Model V
  pub bound : ℕ → V
  pub shown : V → ℕ

-- so many grades, and one charge for every change; no grade is over 15
abbrev pub flat_rules : (grades charge : ℕ) → Rules
flat_rules grades charge = record { grades = grades; charge = λ from to. if nat_lt from 16 && nat_lt to 16 then (if from == to then 0 else charge) else 0 }

-- what the block of a line offers below the number of grades, under its extra bits and the weight above those
abbrev pub offers_of : (weight extra : ℕ) → WrittenBlock → (grades : ℕ) → Block
offers_of weight extra written grades = offers_below (λ grade. weighted weight (extended extra (block_means written grade))) grades

-- a refusal of the planner's, which belongs to no field
abbrev pub planner_fault : ℕ → Said
planner_fault number = fault_said 0 Planner number

-- what an instruction does to the standing blocks, newest first, where so many places are lent, and what is said to it
module _ {V : Type 0} (p : Pricing V) (rules : Rules) (ceiling lent : ℕ) (blocks : List Block) where
  pub data Does : Instruction → List Block → Said → Type 0 where
    added : {weight extra : ℕ} {written : WrittenBlock} → first (add_cases rules.grades ceiling lent (length blocks) (offers_of weight extra written rules.grades)) ≡ None → Does (add weight extra written) (offers_of weight extra written rules.grades ∷ blocks) nothing_said
    not_added : {weight extra number : ℕ} {written : WrittenBlock} → first (add_cases rules.grades ceiling lent (length blocks) (offers_of weight extra written rules.grades)) ≡ Some number → Does (add weight extra written) blocks (planner_fault number)
    taken_back : first (take_back_row (length blocks)) ≡ None → Does take_back (without_newest blocks) nothing_said
    not_taken_back : {number : ℕ} → first (take_back_row (length blocks)) ≡ Some number → Does take_back blocks (planner_fault number)
    -- the grades are the named plan, a choice of the bits and the cost; within the budget no choice is cheaper
    planned : {budget bits : ℕ} {grades : List ℕ} {cost : V} → budget ≤ ceiling → BestPlan p.model rules blocks budget grades bits cost → Does (plan budget) blocks (plan_said budget bits (p.shown cost) (reverse grades))
    over_ceiling : {budget : ℕ} → ceiling < budget → Does (plan budget) blocks (planner_fault 33)
    nothing_fits : {budget : ℕ} → budget ≤ ceiling → NothingFits p.model rules blocks budget → Does (plan budget) blocks (planner_fault 35)
    fewest_found : {bound bits : ℕ} → Fewest p.model rules ceiling blocks (p.bound bound) bits → Does (fewest bound) blocks (bits_said bound bits)
    none_within : {bound : ℕ} → NoneWithin p.model rules ceiling blocks (p.bound bound) → Does (fewest bound) blocks (planner_fault 36)

abbrev pub by_total : Pricing Total
by_total = record { model = total_model; bound = total_of; shown = λ cost. cost.0 }

abbrev pub by_worst : Pricing Worst
by_worst = record { model = worst_model; bound = worst_of; shown = λ cost. cost.0 }

abbrev pub DoesBy : CostKind → Rules → (ceiling lent : ℕ) → List Block → Instruction → List Block → Said → Type 0
DoesBy kind.Total = Does by_total
DoesBy kind.Worst = Does by_worst

-- no job is open; or one is, of a kind, with so many grades, that ceiling and that flat charge, and its standing blocks
pub data State : Type 0 where
  idle : State
  busy : CostKind → (grades ceiling charge : ℕ) → List Block → State

-- the number of grades of the open job
abbrev pub grades_now : State → Option ℕ
grades_now idle = None
grades_now (busy kind grades ceiling charge blocks) = Some grades

-- a line: the state before it, its bytes, the state after it, and what is said to it
pub data Step (lent : ℕ) : State → List ℕ → State → Said → Type 0 where
  blank : {s : State} → Step lent s [] s nothing_said
  refused : {s : State} {line : List ℕ} {field number : ℕ} {layer : _} → (line ≢ []) → Refused (grades_now s) (line_fields line) field layer number → Step lent s line s (fault_said field layer number)
  opened : {line : List ℕ} {kind : CostKind} {grades ceiling charge : ℕ} → Accepted None (line_fields line) (open_job kind grades ceiling charge) → Step lent idle line (busy kind grades ceiling charge []) nothing_said
  obeyed : {line : List ℕ} {kind : CostKind} {grades ceiling charge : ℕ} {blocks after : List Block} {instruction : Instruction} {said : Said} → Accepted (Some grades) (line_fields line) instruction → DoesBy kind (flat_rules grades charge) ceiling lent blocks instruction after said → Step lent (busy kind grades ceiling charge blocks) line (busy kind grades ceiling charge after) said

-- the lines from line `number` on, and all answer lines to them
pub data Transcript (lent : ℕ) : State → ℕ → List (List ℕ) → List ℕ → Type 0 where
  ended : {s : State} {number : ℕ} → Transcript lent s number [] []
  next : {s t : State} {number : ℕ} {line rest : List ℕ} {said : Said} {lines : List (List ℕ)} → Step lent s line t said → Transcript lent t (number + 1) lines rest → Transcript lent s number (line ∷ lines) (said_text number said ++ rest)

-- the output for a text, where a planner is lent so many places; more than 32,768 bytes are not read
pub data Output (lent : ℕ) (text output : List ℕ) : Type 0 where
  too_long : 32768 < length text → output ≡ said_text 0 (fault_said 0 (text_layer TooLong) (text_number TooLong)) → Output lent text output
  answered : length text ≤ 32768 → Transcript lent idle 1 (text_lines text) output → Output lent text output

-- a text has at most one output
abbrev pub OneOutput : Type 0
OneOutput = (lent : ℕ) (text a b : List ℕ) → Output lent text a → Output lent text b → a ≡ b
