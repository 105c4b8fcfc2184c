-- What one command, and one line, do to an open job. Assumes nothing.
use Rattle.std.specs.Prelude.{◌≡◌, ℕ, ◌+◌, List, ◌++◌}
use Rattle.costs.specs.Model.{Model}
use Rattle.terms.specs.declared.terms.Terms.{Terms}
use Rattle.terms.specs.Rules.{Rules, rules_of}
use Rattle.terms.specs.Choice.{Block}
use Rattle.command.specs.declared.commands.Command.{Command}
use Rattle.command.specs.declared.commands.Command.TheVariants as command
use Rattle.command.specs.declared.commands.CostKind.{CostKind}
use Rattle.command.specs.Instructions.{Instruction, FlatCharge, Holds}
use Rattle.jobtext.specs.Lines.{unread}
use Rattle.job.specs.declared.numbered.NumberedLines.{NumberedLines}
use Rattle.job.specs.Replies.{Said}
use Rattle.job.specs.Transcript.{Pricing, Does, DoesBy, State, busy, Step, Transcript}

abbrev pub pricing : {V : Type 0} → Model V → (ℕ → V) → (V → ℕ) → Pricing V
pricing model bound shown = record { model = model; bound = bound; shown = shown }

-- a kind of job whose instructions do what the pricing says
abbrev pub Means : {V : Type 0} → CostKind → Pricing V → Type 0
Means kind p = (rules : Rules) (ceiling lent : ℕ) (blocks : List Block) (instruction : Instruction) (after : List Block) (said : Said) → Does p rules ceiling lent blocks instruction after said → DoesBy kind rules ceiling lent blocks instruction after said

-- an open job: its terms, how many places it is lent, and its standing blocks, newest first
pub record Job : Type 0 where
  pub terms : Terms
  pub lent : ℕ
  pub blocks : List Block

-- at most the standing blocks changed
pub record Kept (old new : Job) : Type 0 where
  pub terms : new.terms ≡ old.terms
  pub lent : new.lent ≡ old.lent

-- a command to an open job
abbrev pub Asks : Command → Type 0
Asks (command.Open kind terms) = ⊥
Asks (command.Add weight extra block) = Unit {0}
Asks command.TakeBack = Unit {0}
Asks (command.Plan budget) = Unit {0}
Asks (command.Fewest bound) = Unit {0}

-- a command was carried out
pub record Done (kind : CostKind) (old new : Job) (asked : Command) (said : Said) : Type 0 where
  pub kept : Kept old new
  pub does : (instruction : Instruction) → Holds asked instruction → DoesBy kind (rules_of old.terms) old.terms.ceiling old.lent old.blocks instruction new.blocks said

-- the state of a job of this kind and flat charge
abbrev pub state_of : CostKind → (charge : ℕ) → Job → State
state_of kind charge job = busy kind job.terms.grades job.terms.ceiling charge job.blocks

-- a line of an open job was answered
pub record Stepped (kind : CostKind) (old new : Job) (line : List ℕ) (said : Said) : Type 0 where
  pub kept : Kept old new
  pub step : (charge : ℕ) → FlatCharge charge old.terms → Step old.lent (state_of kind charge old) line (state_of kind charge new) said

-- the answer lines to the lines that are left
abbrev pub AnswersTo : (lent : ℕ) → State → NumberedLines → List ℕ → Type 0
AnswersTo lent state lines = Transcript lent state (lines.read + 1) (unread lines.lines)

-- the output grew by a text that S holds of
pub record Grown (before after : List ℕ) (S : List ℕ → Type 0) : Type 0 where
  pub said : List ℕ
  pub whole : after ≡ before ++ said
  pub right : S said
