-- How long an answer line can be. Assumes nothing.
use Rattle.std.specs.Prelude.{ℕ, ◌^◌, ◌<◌, ◌≤◌, List, length}
use Rattle.std.specs.List.{AllByRecursion}
use Rattle.faults.specs.declared.layer.Layer.{Layer}
use Rattle.answers.specs.Texts.{plan_text, bits_text, fault_text}

abbrev pub longest : ℕ
longest = 241

-- numbers of at most ten digits, and at most 64 grades of at most two, make no line that is longer than the room
pub record EveryLineFits (room : ℕ) : Type 0 where
  pub plan : (line budget bits cost : ℕ) (grades : List ℕ) → line < 2 ^ 32 → budget < 2 ^ 32 → bits < 2 ^ 32 → cost < 2 ^ 32 → length grades ≤ 64 → AllByRecursion (λ grade. grade < 100) grades → length (plan_text line budget bits cost grades) ≤ room
  pub bits : (line bound bits : ℕ) → line < 2 ^ 32 → bound < 2 ^ 32 → bits < 2 ^ 32 → length (bits_text line bound bits) ≤ room
  pub fault : (line field : ℕ) (layer : Layer) (number : ℕ) → line < 2 ^ 32 → field < 2 ^ 32 → number < 2 ^ 32 → length (fault_text line field layer number) ≤ room
