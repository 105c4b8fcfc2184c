use Rattle.std.proofs.Common.{◌≡◌, ℕ, ◌<◌, cond, ltb, [], get_or, set, replicate}
use Rattle.terms.proofs.terms.Terms.set_flat.Given as goal

-- the rows before this one are cleared where a grade stays, and the others are not
abbrev pub invariant-loop-grade : goal.invariant-loop-grade
invariant-loop-grade l =
    (a : ℕ) → a < 16 → get_or l.row-items a [] ≡ cond (ltb a l.grade) (set (replicate 16 l.charge) a 0) (replicate 16 l.charge)
