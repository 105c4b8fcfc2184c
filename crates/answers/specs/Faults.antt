-- What is refused of an answer line: the number and the layer of the one case, and when it is met. Assumes nothing.
use Rattle.std.specs.Prelude.{ℕ, List, [], ◌∷◌, length, nat_lt}
use Rattle.faults.specs.Refusals.{Row}
use Rattle.faults.specs.declared.layer.Layer.{Layer}
use Rattle.faults.specs.declared.layer.Layer.TheVariants.{Answer}
use Rattle.answers.specs.declared.fault.AnswerFault.{AnswerFault}
use Rattle.answers.specs.declared.fault.AnswerFault.TheVariants.{RoomShort}

abbrev pub answer_number : AnswerFault → ℕ
answer_number RoomShort = 40

abbrev pub answer_layer : AnswerFault → Layer
answer_layer _ = Answer

-- writing a text into a room: the room has fewer bytes than the text
abbrev pub line_row : List ℕ → List ℕ → Row
line_row text room = (nat_lt (length room) (length text), 40) ∷ []
