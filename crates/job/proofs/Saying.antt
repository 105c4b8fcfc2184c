-- Answer lines in a room that holds the longest one. Assumes nothing.
use Rattle.std.proofs.Common.{ℕ, ◌≤◌, List, length, Ok, Err, Result, refl, arith}
use Rattle.std.specs.Result.{IsOk}
use Rattle.answers.specs.declared.fault.AnswerFault.{AnswerFault}
use Rattle.answers.specs.Longest.{longest}
use Rattle.answers.specs.Room.{Answered}

pub never_short : (text before after : List ℕ) (r : Result ℕ AnswerFault) → length text ≤ longest → longest ≤ length before → Answered text before after r → IsOk r
never_short text before after (Ok count) small large answered = refl
never_short text before after (Err _) small large answered = absurd (omega (arith, answered.0))
