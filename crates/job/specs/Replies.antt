-- What is said to a line of a job text. Assumes nothing.
use Rattle.std.specs.Prelude.{ℕ, List, []}
use Rattle.faults.specs.declared.layer.Layer.{Layer}
use Rattle.answers.specs.Texts.{plan_text, bits_text, fault_text}

pub data Said : Type 0 where
  nothing_said : Said
  -- a plan, its grades with the first block first
  plan_said : (budget bits cost : ℕ) → (grades : List ℕ) → Said
  -- the fewest bits within a bound
  bits_said : (bound bits : ℕ) → Said
  -- a refusal: the field, 0 for none, the layer and the number
  fault_said : (field : ℕ) → Layer → (number : ℕ) → Said

-- the answer line, no bytes where nothing is said
abbrev pub said_text : (line : ℕ) → Said → List ℕ
said_text line nothing_said = []
said_text line (plan_said budget bits cost grades) = plan_text line budget bits cost grades
said_text line (bits_said bound bits) = bits_text line bound bits
said_text line (fault_said field layer number) = fault_text line field layer number
