-- A fault beside its field, and lists of fields told one by one. Assumes nothing.
use Rattle.std.proofs.Common.{◌≡◌, ℕ, ◌+◌, true, List, [], ◌∷◌, length, drop, is_some, Option, Result, sym, ap, ◌∙◌, subst, arith}
use Rattle.std.proofs.lemmas.List.{drop_all, drop_more}
use Rattle.std.proofs.lemmas.Result.{MatchResult-weaker}
use Rattle.jobtext.specs.declared.kind.LineKind.{LineKind}
use Rattle.command.specs.declared.commands.Command.{Command}
use Rattle.command.specs.declared.fault.FieldFault.{FieldFault}
use Rattle.command.specs.Lines.{grades_in, in_place, right_count, Framed, wrong_field, Spelt, Commands, ReadAfter, Read}
use Rattle.command.specs.Pairs.{StandAt}

module _ (fields : List (List ℕ)) where
  stand_drop : (k : ℕ) (ys : List (List ℕ)) → length fields ≡ k + length ys → StandAt fields k ys → drop k fields ≡ ys
  stand_drop k [] e h = drop_all k fields (omega arith)
  stand_drop k (y ∷ ys) e h =
      drop_more fields k [] (omega arith) ∙ ap (λ x. x ∷ drop (k + 1) fields) h.0 ∙ ap (λ l. y ∷ l) (stand_drop (k + 1) ys (omega arith) h.1)

  -- fields that are told one by one, all of them
  pub stand : (ys : List (List ℕ)) → length fields ≡ length ys → StandAt fields 0 ys → fields ≡ ys
  stand ys e h = stand_drop 0 ys (omega arith) h

-- what is answered after the first checks is the answer to the line
spelt_accepted : (job : Option ℕ) (fields : List (List ℕ)) (kind : LineKind) (command : Command) → Framed job fields kind → Spelt fields kind command → Commands job fields command
spelt_accepted job fields kind command framed spelt = (
  spelt.instruction,
  record {
    written = spelt.written;
    placed = subst (λ k. in_place k (is_some job) ≡ true) (sym spelt.kind_is) framed.placed;
    counted = subst (λ k. right_count k (grades_in job) (length fields) ≡ true) (sym spelt.kind_is) framed.counted;
    good = spelt.good;
  },
  spelt.held,
)

pub read_on : (job : Option ℕ) (fields : List (List ℕ)) (kind : LineKind) (r : Result Command FieldFault) → Framed job fields kind → ReadAfter fields kind (grades_in job) r → Read job fields r
read_on job fields kind r framed after = MatchResult-weaker r after (λ command spelt. spelt_accepted job fields kind command framed spelt) (λ found fails. wrong_field kind framed fails)
