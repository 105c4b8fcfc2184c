-- The planner's calls as the instructions of a job. Assumes nothing.
use Rattle.std.proofs.Common.{◌≡◌, ℕ, ◌<◌, ◌≤◌, List, [], ◌∷◌, ◌++◌, reverse, length, take, drop, slice_index_or, IsErrAnd, Some, None, Ok, Err, Option, Result, sym, refl, ap, ◌∙◌, subst, ⊎_elim, arith}
use mathlib.Core.Logic.{∥∥₁_elim}
use mathlib.Core.HLevel.{⊥_prop}
use Rattle.std.specs.List.{All}
use Rattle.std.proofs.lemmas.List.{reverse-reverse, reverse-append, length-reverse, take-append-le}
use Rattle.std.proofs.lemmas.List.Elements.{All-nil, All-push, All-same}
use Rattle.std.proofs.lemmas.Bool.{cases_lt, lt-ltb, le-ltb}
use Rattle.std.proofs.lemmas.Option.{none-some}
use Rattle.faults.specs.Refusals.{first}
use Rattle.either.specs.Either.{either}
use Rattle.either.specs.declared.Either.{Either}
use Rattle.either.specs.declared.Either.TheVariants.{Left, Right}
use Rattle.offers.specs.declared.gain.GainBlock.{GainBlock}
use Rattle.offers.specs.declared.layers.Extra.{Extra}
use Rattle.offers.specs.declared.layers.Weight.{Weight}
use Rattle.offers.specs.declared.own.OwnBlock.{OwnBlock}
use Rattle.offers.specs.declared.offer.Offer.{Offer}
use Rattle.offers.specs.Own.{own_means}
use Rattle.offers.specs.Gain.{gain_means}
use Rattle.offers.specs.Offers.{weighted, extended, offers_below}
use Rattle.costs.specs.Model.{Model}
use Rattle.terms.specs.declared.terms.Terms.{Terms}
use Rattle.terms.specs.Rules.{Rules, rules_of}
use Rattle.terms.specs.Choice.{Block, Choice}
use Rattle.terms.specs.Choice.Choice.{empty, next}
use Rattle.trellis.specs.Named.{BestPlan}
use Rattle.planner.specs.declared.fault.PlannerFault.{PlannerFault}
use Rattle.planner.specs.declared.tables.Tables.{Tables}
use Rattle.planner.specs.Standing.{standing_blocks, block_count}
use Rattle.planner.specs.Answers.{PlanFrame}
use Rattle.planner.specs.Faults.{planner_number, add_row, plan_row}
use Rattle.command.specs.declared.commands.Command.{Command}
use Rattle.command.specs.declared.commands.CostKind.{CostKind}
use Rattle.command.specs.declared.commands.Command.TheVariants as command
use Rattle.command.specs.Instructions.{source_means, Instruction, Holds, add}
use Rattle.job.specs.declared.fault.JobFault.{JobFault}
use Rattle.job.specs.declared.fault.JobFault.TheVariants.{Planner}
use Rattle.job.specs.declared.reply.Reply.{Reply}
use Rattle.job.specs.Faults.{said_by}
use Rattle.job.specs.Replies.{Said, nothing_said}
use Rattle.job.specs.Transcript.{Pricing, offers_of, planner_fault, Does}
use Rattle.job.specs.Transcript.Does.{added, not_added}
use Rattle.job.specs.Steps.{Means, Job, Kept, Done}

-- nothing changed
pub kept_all : (job : Job) → Kept job job
kept_all job = record { terms = refl; lent = refl }

-- an open job with these tables, lent so many places
abbrev pub job_of : Tables → ℕ → Job
job_of tables lent = record { terms = tables.terms; lent = lent; blocks = standing_blocks tables }

-- a command carried out by a job of the kind: the jobs of these tables and places are `before` and `after`
module _ {V : Type 0} (kind : CostKind) (p : Pricing V) (means : Means kind p) (before after old new : Job) (was : old ≡ before) (is : new ≡ after) (kept : Kept old new) where
  abbrev D : Instruction → Said → Type 0
  D instruction = Does p (rules_of old.terms) old.terms.ceiling old.lent old.blocks instruction new.blocks

  pub done : (asked : Command) (said : Said) → ((i : Instruction) → Holds asked i → D i said) → Done kind before after asked said
  done asked said does =
      let d : Done kind old new asked said = record { kept = kept; does = λ i h. means (rules_of old.terms) old.terms.ceiling old.lent old.blocks i new.blocks said (does i h) } in
      subst (λ a. Done kind before a asked said) is (subst (λ b. Done kind b new asked said) was d)

  -- the planner's refusal was carried up
  pub up : (asked : Command) (r : Result Reply JobFault) (found : PlannerFault) → IsErrAnd r (λ fault. fault ≡ Planner found) → ((i : Instruction) → Holds asked i → D i (planner_fault (planner_number found))) → Done kind before after asked (said_by r)
  up asked (Ok _) found e does = absurd e
  up asked (Err fault) found e does = subst (λ f. Done kind before after asked (said_by (Err f))) (sym e) (done asked (planner_fault (planner_number found)) does)

-- the grades of a choice are below the number of grades
choice_low : {V : Type 0} {m : Model V} {rules : Rules} {blocks : List Block} {grades : List ℕ} {bits : ℕ} {cost : V} → Choice m rules blocks grades bits cost → All (λ grade. grade < rules.grades) (reverse grades)
choice_low {rules = rules} empty = All-nil (λ grade. grade < rules.grades)
choice_low {rules = rules} (next {grades = grades} {grade = grade} choice low offer) =
    let P = λ (g : ℕ). g < rules.grades in
    All-same P _ _ (reverse-append (grade ∷ []) grades) (All-push P (reverse grades) grade (choice_low choice) low)

-- the grades that a plan wrote have at most two digits
pub plan_low : {V : Type 0} {m : Model V} {blocks : List Block} {budget bits : ℕ} {cost : V} (terms : Terms) (grades : List ℕ) → BestPlan m (rules_of terms) blocks budget (reverse grades) bits cost → All (λ grade. grade < 100) grades
plan_low terms grades best k d h = ⊎_elim (λ low. low) (λ high. absurd (∥∥₁_elim best.choice ⊥_prop (λ choice.
    let low = choice_low choice k d (rw (reverse-reverse grades) h) in
    let same = ap (λ gs. slice_index_or gs k d) (reverse-reverse grades) in
    omega (arith, low, same, terms.few)))) (cases_lt (slice_index_or grades k d) 100)

over_row : (terms : Terms) (standing budget entries : ℕ) → terms.ceiling < budget → first (plan_row terms standing budget entries) ≡ Some 33
over_row terms standing budget entries h = simp (lt-ltb terms.ceiling budget h) refl

module _ {T : Type 0} (terms : Terms) (standing budget entries : ℕ) (before after : List ℕ) where
  abbrev Frame : Result T PlannerFault → Type 0
  Frame = PlanFrame (plan_row terms standing budget entries) standing before after

  -- a plan was given only within the ceiling
  pub within_ceiling : (answer : T) → Frame (Ok answer) → budget ≤ terms.ceiling
  within_ceiling answer frame = ⊎_elim (λ h. absurd (none-some 33 (frame.refused_first 33 (over_row terms standing budget entries h)))) (λ low. low) (cases_lt terms.ceiling budget)

  -- a refusal with room for all grades: over the ceiling, or nothing fits
  pub refused_by : {A : Type 0} (found : PlannerFault) → standing ≤ entries → Frame (Err found) → (terms.ceiling < budget → planner_number found ≡ 33 → A) → (budget ≤ terms.ceiling → planner_number found ≡ 35 → A) → A
  refused_by found long frame high fits = ⊎_elim
      (λ h. let e = frame.refused_first 33 (over_row terms standing budget entries h) in high h (cc))
      (λ low. fits low (⊎_elim (λ e. absurd (none-some _ (sym e))) (λ e. cc) (frame.else_nothing_fits (simp (le-ltb terms.ceiling budget low, le-ltb entries standing long) refl))))
      (cases_lt terms.ceiling budget)

-- what the source of a line's block means
pub either_means : (block : Either OwnBlock GainBlock) → either own_means gain_means block ≡ source_means block
either_means (Left own) = refl
either_means (Right gain) = refl

-- adding the block of a line to these tables, lent so many places; no case of a refusal looks at the offers
module _ {V : Type 0} (p : Pricing V) (tables : Tables) (lent : ℕ) (weight : Weight) (extra : Extra) (block : Either OwnBlock GainBlock) where
  abbrev Adds : Instruction → List Block → Said → Type 0
  Adds = Does p (rules_of tables.terms) tables.terms.ceiling lent (standing_blocks tables)

  row_is : (answer : Option ℕ) → answer ≡ first (add_row tables.terms lent (block_count tables) []) → first (add_row tables.terms lent (length (standing_blocks tables)) []) ≡ answer
  row_is answer case = ap (λ n. first (add_row tables.terms lent n [])) (length-reverse tables.blocks.items) ∙ sym case

  pub adds : (offers : Block) → offers ≡ offers_below (λ grade. weighted weight.times (extended extra.bits (source_means block grade))) tables.terms.grades → None ≡ first (add_row tables.terms lent (block_count tables) []) → (i : Instruction) → Holds (command.Add weight extra block) i → Adds i (offers ∷ standing_blocks tables) nothing_said
  adds offers is case i h =
      let rest = standing_blocks tables in
      let made = λ (f : ℕ → Option Offer). offers_below (λ grade. weighted weight.times (extended extra.bits (f grade))) tables.terms.grades in
      let same : offers_of weight.times extra.bits h.0 tables.terms.grades ≡ offers = ap made (λ at grade. sym (h.2 grade) at) ∙ sym is in
      rw h.1 (subst (λ new. Adds (add weight.times extra.bits h.0) (new ∷ rest) nothing_said) same (added (row_is None case)))

  pub adds_not : (number : ℕ) → Some number ≡ first (add_row tables.terms lent (block_count tables) []) → (i : Instruction) → Holds (command.Add weight extra block) i → Adds i (standing_blocks tables) (planner_fault number)
  adds_not number case i h = rw h.1 (not_added (row_is (Some number) case))

-- a list of the standing blocks' grades after it was written through a slice
pub list_written : (n long : ℕ) (old new : List ℕ) → long ≡ n → length new ≡ n → take long (new ++ drop (length new) old) ≡ take n new
list_written n long old new e f = ap (λ k. take k (new ++ drop (length new) old)) e ∙ take-append-le n new (drop (length new) old) (omega arith)
