-- From one line to the next. Assumes nothing.
use Rattle.std.proofs.Common.{◌≡◌, ℕ, ◌+◌, List, [], ◌∷◌, ◌++◌, None, Result, sym, ap, ◌∙◌, subst, append_assoc, append-nil}
use Rattle.std.specs.Result.{OnOk}
use Rattle.std.proofs.lemmas.Result.{on_ok_weaker}
use Rattle.terms.specs.declared.terms.Terms.{Terms}
use Rattle.jobtext.specs.Parts.{line_fields}
use Rattle.command.specs.declared.commands.Command.{Command}
use Rattle.command.specs.declared.commands.Command.TheVariants.{Open}
use Rattle.command.specs.Lines.{Accepted, Commands}
use Rattle.jobtext.specs.Lines.{unread}
use Rattle.command.specs.declared.commands.CostKind.{CostKind}
use Rattle.command.specs.Instructions.{FlatCharge}
use Rattle.job.specs.declared.numbered.NumberedLines.{NumberedLines}
use Rattle.job.specs.Replies.{Said, nothing_said, said_text}
use Rattle.job.specs.Transcript.{State, idle, busy, Step}
use Rattle.job.specs.Transcript.Step.{opened}
use Rattle.job.specs.Transcript.Transcript.{ended, next}
use Rattle.job.specs.Steps.{Job, Kept, state_of, Stepped, AnswersTo, Grown}

-- the first of the lines, and the others
abbrev pub Starts : NumberedLines → (number : ℕ) (line : List ℕ) → NumberedLines → Type 0
Starts lines number line rest = (number ≡ lines.read + 1) × (rest.read ≡ lines.read + 1) × (unread lines.lines ≡ line ∷ unread rest.lines)

-- no line is left
pub no_more : (lent : ℕ) (s : State) (lines : NumberedLines) (out : List ℕ) → unread lines.lines ≡ [] → Grown out out (AnswersTo lent s lines)
no_more lent s lines out none = record { said = []; whole = sym (append-nil out); right = rw none ended }

-- one line was answered, and then the others
pub one_more : (lent : ℕ) (s t : State) (lines rest : NumberedLines) (number : ℕ) (line : List ℕ) (said : Said) (out more end : List ℕ) → Starts lines number line rest → Step lent s line t said → more ≡ out ++ said_text number said → Grown more end (AnswersTo lent t rest) → Grown out end (AnswersTo lent s lines)
one_more lent s t lines rest number line said out more end starts step grown g = record {
  said = said_text (lines.read + 1) said ++ g.said;
  whole = g.whole ∙ ap (λ l. l ++ g.said) grown ∙ append_assoc out (said_text number said) g.said ∙ ap (λ n. out ++ (said_text n said ++ g.said)) starts.0;
  right = rw starts.2 (next step (rw starts.1 at g.right));
}

-- the line opened a job, and the others were answered under it
pub opens : {E : Type 0} (r : Result (Unit {0}) E) (lent : ℕ) (lines rest : NumberedLines) (number : ℕ) (line : List ℕ) (kind : CostKind) (terms : Terms) (command : Command) (out end : List ℕ) → Starts lines number line rest → command ≡ Open kind terms → Commands None (line_fields line) command → ((charge : ℕ) → FlatCharge charge terms → OnOk r (Grown out end (AnswersTo lent (busy kind terms.grades terms.ceiling charge []) rest))) → OnOk r (Grown out end (AnswersTo lent idle lines))
opens r lent lines rest number line kind terms command out end starts is read answered =
    let c = subst (Commands None (line_fields line)) is read in
    let accepted = subst (Accepted None (line_fields line)) c.2.1 c.1 in
    on_ok_weaker r (one_more lent idle _ lines rest number line nothing_said out out end starts (opened accepted) (sym (append-nil out))) (answered c.2.0 c.2.2)

module _ (kind : CostKind) (first : Job) (lines : NumberedLines) (before : List ℕ) where
  -- the job after some lines, the lines that are left and the output so far: whatever answers them, answers all
  pub record Going (job : Job) (left : NumberedLines) (out : List ℕ) : Type 0 where
    pub kept : Kept first job
    pub all : (charge : ℕ) (end : List ℕ) → FlatCharge charge first.terms → Grown out end (AnswersTo first.lent (state_of kind charge job) left) → Grown before end (AnswersTo first.lent (state_of kind charge first) lines)

  pub going_on : (old new : Job) (left rest : NumberedLines) (number : ℕ) (line : List ℕ) (said : Said) (out more : List ℕ) → Starts left number line rest → Stepped kind old new line said → more ≡ out ++ said_text number said → Going old left out → Going new rest more
  going_on old new left rest number line said out more starts stepped grown g = record {
    kept = record { terms = stepped.kept.terms ∙ g.kept.terms; lent = stepped.kept.lent ∙ g.kept.lent };
    all = λ charge end flat h.
        let step = rw g.kept.lent at (stepped.step charge (rw g.kept.terms flat)) in
        g.all charge end flat (one_more first.lent (state_of kind charge old) (state_of kind charge new) left rest number line said out more end starts step grown h);
  }
