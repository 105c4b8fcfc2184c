-- What a reader of lines has still to give. Assumes nothing.
use Rattle.std.specs.Prelude.{ℕ, List, [], Some, None, Option}
use Rattle.std.specs.Borrow.{Bor}
use Rattle.jobtext.specs.declared.lines.Lines.{Lines}
use Rattle.jobtext.specs.Parts.{text_lines}

abbrev pub lines_in : Option (Bor (List ℕ)) → List (List ℕ)
lines_in None = []
lines_in (Some rest) = text_lines rest.now

abbrev pub unread : Lines → List (List ℕ)
unread lines = lines_in lines.rest
