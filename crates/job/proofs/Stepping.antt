-- One line of an open job. Assumes nothing.
use Rattle.std.proofs.Common.{◌≡◌, ◌≢◌, ◌==◌, ℕ, true, false, List, [], length, IsErrAnd, Some, Ok, Err, Result, sym, ap, subst, arith}
use borrow.Author.Tests.{eqb-false}
use Rattle.std.proofs.lemmas.Bool.Decides.{nat_tests}
use Rattle.terms.specs.declared.terms.Terms.{Terms}
use Rattle.terms.specs.Rules.{charge_at, rules_of}
use Rattle.jobtext.specs.Parts.{line_fields}
use Rattle.command.specs.declared.commands.Command.{Command}
use Rattle.command.specs.declared.commands.Command.TheVariants as command
use Rattle.command.specs.declared.commands.CostKind.{CostKind}
use Rattle.command.specs.Instructions.{kind_of, FlatCharge}
use Rattle.command.specs.Lines.{in_place, Commands, Read}
use Rattle.command.specs.declared.fault.FieldFault.{FieldFault}
use Rattle.job.specs.declared.fault.JobFault.{JobFault}
use Rattle.job.specs.declared.fault.JobFault.TheVariants.{Line}
use Rattle.job.specs.declared.reply.Reply.{Reply}
use Rattle.job.specs.Faults.{said_by}
use Rattle.job.specs.Replies.{Said}
use Rattle.job.specs.Transcript.{flat_rules, DoesBy, State, grades_now, Step}
use Rattle.job.specs.Transcript.Step.{refused, obeyed}
use Rattle.job.specs.Steps.{Asks, Job, Done, Stepped}

charge_is : (terms : Terms) (charge : ℕ) → FlatCharge charge terms → (from to : ℕ) → charge_at terms from to ≡ (flat_rules terms.grades charge).charge from to
charge_is terms charge flat from to = grind (arith, nat_tests, flat from to)

-- under a flat charge the rules are those of the transcript
flat_is : (terms : Terms) (charge : ℕ) → FlatCharge charge terms → rules_of terms ≡ flat_rules terms.grades charge
flat_is terms charge flat = λ i. record { grades = terms.grades; charge = λ from to. charge_is terms charge flat from to i }

-- a command that is accepted while a job is open asks something of it
pub asks : (grades : ℕ) (fields : List (List ℕ)) (asked : Command) → Commands (Some grades) fields asked → Asks asked
asks grades fields (command.Open kind terms) c = let opens = ap (λ i. in_place (kind_of i) true) c.2.1 in let placed = c.1.placed in cc
asks grades fields (command.Add weight extra block) c = tt
asks grades fields command.TakeBack c = tt
asks grades fields (command.Plan budget) c = tt
asks grades fields (command.Fewest bound) c = tt

pub some_bytes : (line : List ℕ) → (length line == 0) ≡ false → line ≢ []
some_bytes line some none = eqb-false (length line) 0 some (ap length none)

-- a line was refused, and its fault carried up
pub refused_up : (lent : ℕ) (s : State) (line : List ℕ) (r : Result Reply JobFault) (found : FieldFault) → IsErrAnd r (λ fault. fault ≡ Line found) → (length line == 0) ≡ false → Read (grades_now s) (line_fields line) (Err found) → Step lent s line s (said_by r)
refused_up lent s line (Ok _) found e some read = absurd e
refused_up lent s line (Err fault) found e some read = subst (λ f. Step lent s line s (said_by (Err f))) (sym e) (refused (some_bytes line some) read)

pub stepped : (kind : CostKind) (old new : Job) (line : List ℕ) (asked : Command) (said : Said) → Commands (Some old.terms.grades) (line_fields line) asked → Done kind old new asked said → Stepped kind old new line said
stepped kind old new line asked said c done = record {
  kept = done.kept;
  step = λ charge flat.
      let does = subst (λ r. DoesBy kind r old.terms.ceiling old.lent old.blocks c.0 new.blocks said) (flat_is old.terms charge flat) (done.does c.0 c.2) in
      rw done.kept.terms (obeyed c.1 does);
}
