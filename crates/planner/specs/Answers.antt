-- What fewest and plan answer, by the choices for the standing blocks. Assumes nothing.
use Rattle.std.specs.Prelude.{◌≡◌, ℕ, ◌≤◌, ◌⊎◌, List, Some, None, Ok, Err, Result, slice_index}
use Rattle.faults.specs.Refusals.{Row, first, refusal}
use Rattle.costs.specs.Model.{Model, NoDearer}
use Rattle.terms.specs.Rules.{Rules}
use Rattle.terms.specs.Choice.{Block, Choice}
use Rattle.trellis.specs.Named.{Named, NothingFits}
use Rattle.planner.specs.declared.fault.PlannerFault.{PlannerFault}
use Rattle.planner.specs.Faults.{planner_number}

module _ {V : Type 0} (m : Model V) (rules : Rules) (ceiling : ℕ) (blocks : List Block) (bound : V) where
  -- the fewest bits of a choice that is within the bound
  pub record Fewest (bits : ℕ) : Type 0 where
    pub through : bits ≤ ceiling
    pub some : ∥ ((grades : List ℕ) × (cost : V) × Choice m rules blocks grades bits cost × NoDearer m cost bound) ∥₁
    pub fewest : (grades : List ℕ) (b : ℕ) (cost : V) → Choice m rules blocks grades b cost → NoDearer m cost bound → bits ≤ b

  -- no choice through the ceiling is within the bound
  abbrev pub NoneWithin : Type 0
  NoneWithin = (grades : List ℕ) (bits : ℕ) (cost : V) → Choice m rules blocks grades bits cost → bits ≤ ceiling → NoDearer m cost bound → ⊥

  -- what fewest answers
  abbrev pub FewestOf : Result ℕ PlannerFault → Type 0
  FewestOf (Ok bits) = Fewest bits
  FewestOf (Err _) = NoneWithin

-- what plan answers, with these grades in the list, newest block first
abbrev pub Planned : {V : Type 0} → Model V → Rules → List Block → ℕ → List ℕ → Result (ℕ × V) PlannerFault → Type 0
Planned m rules blocks budget grades (Ok answer) = Named m rules budget blocks grades answer.0 answer.1
Planned m rules blocks budget grades (Err fault) = planner_number fault ≡ 35 → NothingFits m rules blocks budget

-- a call whose only refusal has this number
abbrev pub OnlyRefuses : {T : Type 0} → ℕ → Result T PlannerFault → Type 0
OnlyRefuses number (Ok _) = Unit {0}
OnlyRefuses number (Err fault) = planner_number fault ≡ number

-- plan's refusals, by its row of cases, and what the grade list holds after it
pub record PlanFrame {T : Type 0} (row : Row) (standing : ℕ) (before after : List ℕ) (answer : Result T PlannerFault) : Type 0 where
  -- each case of the row has its number
  pub refused_first : (number : ℕ) → first row ≡ Some number → refusal planner_number answer ≡ Some number
  -- else a plan is given, or nothing fits
  pub else_nothing_fits : first row ≡ None → (refusal planner_number answer ≡ None) ⊎ (refusal planner_number answer ≡ Some 35)
  -- entries past the standing blocks keep what they had
  pub later_entries : (k : ℕ) → standing ≤ k → slice_index after k ≡ slice_index before k
  -- a refusal leaves the list as it was
  pub list_kept : (fault : PlannerFault) → answer ≡ Err fault → after ≡ before
