-- A text has at most one output. Assumes nothing.
use Rattle.std.proofs.Common.{◌≡◌, ℕ, ◌+◌, ◌≤◌, List, [], reverse, length, slice_index_or, Option, sym, refl, ap, ◌∙◌, subst, ⊎_elim, arith, rules}
use mathlib.Core.Logic.{∥∥₁_elim}
use mathlib.Core.HLevel.{⊥_prop}
use Rattle.std.proofs.lemmas.Bool.{cases_lt}
use Rattle.terms.specs.Rules.{Rules}
use Rattle.terms.specs.Choice.{Block}
use Rattle.trellis.specs.Named.{NamesOne, BestPlan, NothingFits}
use Rattle.trellis.proofs.Names.{one_plan}
use Rattle.planner.specs.Answers.{Fewest, NoneWithin}
use Rattle.jobtext.specs.Parts.{text_lines, line_fields}
use Rattle.command.specs.declared.commands.CostKind.{CostKind}
use Rattle.command.specs.declared.commands.CostKind.TheVariants as kind
use Rattle.command.specs.Instructions.{Instruction}
use Rattle.command.specs.Lines.{Accepted}
use Rattle.command.proofs.Once.{read_once}
use Rattle.job.specs.Replies.{Said, plan_said, bits_said}
use Rattle.job.specs.Transcript.{Pricing, flat_rules, Does, by_total, by_worst, DoesBy, State, idle, busy, grades_now, Step, Transcript, OneOutput}
use Rattle.job.specs.Transcript.Does.{added, not_added, taken_back, not_taken_back, planned, over_ceiling, nothing_fits, fewest_found, none_within}
use Rattle.job.specs.Transcript.Step.{blank, refused, opened, obeyed}
use Rattle.job.specs.Transcript.Transcript.{ended, next}
use Rattle.job.specs.Transcript.Output.{too_long, answered}
use Rattle.costs.specs.Kinds.{total_model, worst_model}

module _ {V : Type 0} (p : Pricing V) (one : NamesOne p.model) (rules : Rules) (ceiling lent : ℕ) (blocks : List Block) where
  -- a plan within the budget, and nothing that fits
  not_both : {A : Type 0} (budget bits : ℕ) (grades : List ℕ) (cost : V) → BestPlan p.model rules blocks budget grades bits cost → NothingFits p.model rules blocks budget → A
  not_both budget bits grades cost best none = absurd (∥∥₁_elim best.choice ⊥_prop (λ choice. none grades bits cost choice best.within))

  same_plan : (budget b c : ℕ) (gs hs : List ℕ) (v w : V) → BestPlan p.model rules blocks budget gs b v → BestPlan p.model rules blocks budget hs c w → plan_said budget b (p.shown v) (reverse gs) ≡ plan_said budget c (p.shown w) (reverse hs)
  same_plan budget b c gs hs v w x y =
      let q = one rules blocks budget gs hs b c v w x.named y.named in
      cc (q.0, q.1, q.2)

  no_more : (bound b c : ℕ) → Fewest p.model rules ceiling blocks (p.bound bound) b → Fewest p.model rules ceiling blocks (p.bound bound) c → c ≤ b
  no_more bound b c x y = ⊎_elim (λ less. absurd (∥∥₁_elim x.some ⊥_prop (λ s. (let most = y.fewest s.0 b s.1 s.2 s.3 in omega arith)))) (λ most. most) (cases_lt b c)

  same_bits : (bound b c : ℕ) → Fewest p.model rules ceiling blocks (p.bound bound) b → Fewest p.model rules ceiling blocks (p.bound bound) c → b ≡ c
  same_bits bound b c x y = omega (arith, no_more bound b c x y, no_more bound c b y x)

  within_none : {A : Type 0} (bound b : ℕ) → Fewest p.model rules ceiling blocks (p.bound bound) b → NoneWithin p.model rules ceiling blocks (p.bound bound) → A
  within_none bound b x none = absurd (∥∥₁_elim x.some ⊥_prop (λ s. none s.0 b s.1 s.2 x.through s.3))

  abbrev D : Instruction → List Block → Said → Type 0
  D = Does p rules ceiling lent blocks

  does_one : (i : Instruction) (x y : List Block) (a b : Said) → D i x a → D i y b → (x ≡ y) × (a ≡ b)
  does_one i x y a b (added e) (added f) = (refl, refl)
  does_one i x y a b (added e) (not_added f) = absurd (cc)
  does_one i x y a b (not_added e) (added f) = absurd (cc)
  does_one i x y a b (not_added e) (not_added f) = (refl, cc)
  does_one i x y a b (taken_back e) (taken_back f) = (refl, refl)
  does_one i x y a b (taken_back e) (not_taken_back f) = absurd (cc)
  does_one i x y a b (not_taken_back e) (taken_back f) = absurd (cc)
  does_one i x y a b (not_taken_back e) (not_taken_back f) = (refl, cc)
  does_one i x y a b (planned low e) (planned _ f) = (refl, same_plan _ _ _ _ _ _ _ e f)
  does_one i x y a b (planned low e) (over_ceiling f) = absurd (omega arith)
  does_one i x y a b (planned low e) (nothing_fits _ f) = not_both _ _ _ _ e f
  does_one i x y a b (over_ceiling e) (planned low f) = absurd (omega arith)
  does_one i x y a b (over_ceiling e) (over_ceiling f) = (refl, refl)
  does_one i x y a b (over_ceiling e) (nothing_fits low f) = absurd (omega arith)
  does_one i x y a b (nothing_fits low e) (planned _ f) = not_both _ _ _ _ f e
  does_one i x y a b (nothing_fits low e) (over_ceiling f) = absurd (omega arith)
  does_one i x y a b (nothing_fits low e) (nothing_fits _ f) = (refl, refl)
  does_one i x y a b (fewest_found {bound = bound} e) (fewest_found f) = (refl, ap (bits_said bound) (same_bits _ _ _ e f))
  does_one i x y a b (fewest_found e) (none_within f) = within_none _ _ e f
  does_one i x y a b (none_within e) (fewest_found f) = within_none _ _ f e
  does_one i x y a b (none_within e) (none_within f) = (refl, refl)

does_by_one : (k : CostKind) (by : Rules) (ceiling lent : ℕ) (blocks : List Block) (i : Instruction) (x y : List Block) (a b : Said) → DoesBy k by ceiling lent blocks i x a → DoesBy k by ceiling lent blocks i y b → (x ≡ y) × (a ≡ b)
does_by_one kind.Total = does_one by_total (one_plan {m = total_model} (search rules) (search rules))
does_by_one kind.Worst = does_one by_worst (one_plan {m = worst_model} (search rules) (search rules))

-- a line of no bytes is no instruction
not_blank : {A : Type 0} (job : Option ℕ) (i : Instruction) → Accepted job (line_fields []) i → A
not_blank job i a = absurd (let z = ap (λ fields. length (slice_index_or fields 0 [])) a.written in omega arith)

step_one : (lent : ℕ) (s t u : State) (line : List ℕ) (a b : Said) → Step lent s line t a → Step lent s line u b → (t ≡ u) × (a ≡ b)
step_one lent s t u line a b blank blank = (refl, refl)
step_one lent s t u line a b blank (refused some x) = absurd (some refl)
step_one lent s t u line a b blank (opened x) = not_blank _ _ x
step_one lent s t u line a b blank (obeyed x d) = not_blank _ _ x
step_one lent s t u line a b (refused some x) blank = absurd (some refl)
step_one lent s t u line a b (refused {field = f} {number = n} {layer = l} some x) (refused {field = g} {number = m} {layer = k} more y) =
    let q = read_once.one_refusal (grades_now s) (line_fields line) f l n g k m x y in
    (refl, cc (q.0, q.1, q.2))
step_one lent s t u line a b (refused some x) (opened y) = absurd (read_once.not_both _ _ _ _ _ _ y x)
step_one lent s t u line a b (refused some x) (obeyed y d) = absurd (read_once.not_both _ _ _ _ _ _ y x)
step_one lent s t u line a b (opened x) blank = not_blank _ _ x
step_one lent s t u line a b (opened x) (refused some y) = absurd (read_once.not_both _ _ _ _ _ _ x y)
step_one lent s t u line a b (opened x) (opened y) = (let same = read_once.one_instruction _ _ _ _ x y in cc, refl)
step_one lent s t u line a b (obeyed x d) blank = not_blank _ _ x
step_one lent s t u line a b (obeyed x d) (refused some y) = absurd (read_once.not_both _ _ _ _ _ _ x y)
step_one lent s t u line a b (obeyed {kind = k} {grades = g} {ceiling = c} {charge = h} {blocks = bs} {after = after} {instruction = i} x d) (obeyed {after = other} {instruction = j} y e) =
    let q = does_by_one k (flat_rules g h) c lent bs i after other a b d (subst (λ v. DoesBy k (flat_rules g h) c lent bs v other b) (read_once.one_instruction _ _ j i y x) e) in
    (ap (busy k g c h) q.0, q.1)

same : (lent : ℕ) (s : State) (number : ℕ) (lines : List (List ℕ)) (a b : List ℕ) → Transcript lent s number lines a → Transcript lent s number lines b → a ≡ b
same lent s number lines a b ended ended = refl
same lent s number lines a b (next {t = t} {line = line} {rest = rest} {said = said} {lines = more} x y) (next {t = u} {rest = rest'} {said = said'} z w) =
    let q = step_one lent s t u line said said' x z in
    let r = same lent t (number + 1) more rest rest' y (subst (λ v. Transcript lent v (number + 1) more rest') (sym q.0) w) in
    cc (q.1, r)

pub one_output : OneOutput
one_output lent text a b (too_long h e) (too_long i f) = e ∙ sym f
one_output lent text a b (too_long h e) (answered i f) = absurd (omega arith)
one_output lent text a b (answered h e) (too_long i f) = absurd (omega arith)
one_output lent text a b (answered h e) (answered i f) = same lent idle 1 (text_lines text) a b e f
