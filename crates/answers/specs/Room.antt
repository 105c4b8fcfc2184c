-- Lent bytes before and after a text was written into them. Assumes nothing.
use Rattle.std.specs.Prelude.{◌≡◌, ℕ, ◌<◌, ◌≤◌, List, ◌++◌, length, drop, Ok, Err, Result}
use Rattle.answers.specs.declared.fault.AnswerFault.{AnswerFault}

-- the text stands at the front, and the bytes after it are as they were
pub record LineIn (text before after : List ℕ) (count : ℕ) : Type 0 where
  pub long : count ≡ length text
  pub within : count ≤ length before
  pub bytes : after ≡ text ++ drop count before

-- what a call that writes a text answers, and what the room then holds: the line, or just what it held where the text is longer
abbrev pub Answered : List ℕ → List ℕ → List ℕ → Result ℕ AnswerFault → Type 0
Answered text before after (Ok count) = LineIn text before after count
Answered text before after (Err _) = (length before < length text) × (after ≡ before)
