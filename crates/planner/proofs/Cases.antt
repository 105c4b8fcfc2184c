-- Which case of a row of refusals holds, and what that says of a plan. Assumes nothing.
use Rattle.std.proofs.Common.{◌≡◌, ℕ, ◌≤◌, List, None, Ok, Err, Result, refl, sym, ◌∙◌, inl, arith, slice_index}
use Rattle.std.proofs.lemmas.Bool.{le-ltb}
use Rattle.std.proofs.lemmas.Option.{none-some}
use Rattle.faults.specs.Refusals.{Row, first}
use Rattle.terms.specs.declared.terms.Terms.{Terms}
use Rattle.planner.specs.declared.fault.PlannerFault.{PlannerFault}
use Rattle.planner.specs.Answers.{PlanFrame}
use Rattle.planner.specs.Faults.{plan_row}

pub not_refused : {T A : Type 0} (x : T) (fault : PlannerFault) → ◌≡◌ {A = Result T PlannerFault} (Ok x) (Err fault) → A
not_refused x fault e = absurd (let z : ◌≡◌ {A = ℕ} 0 1 = cc in omega arith)

-- no case of the row holds where the budget is through the ceiling and the list is long enough
pub asked : (terms : Terms) (standing budget entries : ℕ) → budget ≤ terms.ceiling → standing ≤ entries → first (plan_row terms standing budget entries) ≡ None
asked terms standing budget entries low long = simp (le-ltb terms.ceiling budget low, le-ltb entries standing long) refl

-- a plan was given
pub given : {T : Type 0} (row : Row) (standing : ℕ) (before after : List ℕ) (answer : T) → first row ≡ None → ((k : ℕ) → standing ≤ k → slice_index after k ≡ slice_index before k) → PlanFrame row standing before after (Ok answer)
given row standing before after answer none later = record {
  refused_first = λ number e. absurd (none-some number (sym none ∙ e));
  else_nothing_fits = λ _. inl refl;
  later_entries = later;
  list_kept = λ fault e. not_refused answer fault e;
}
