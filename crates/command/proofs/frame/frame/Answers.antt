use Rattle.std.proofs.Common.{◌≡◌, true, false, length, is_some, rules}
use Rattle.jobtext.specs.Parts.{line_fields}
use Rattle.command.specs.Lines.{grades_in, in_place, right_count, Begins, out_of_place, wrong_count}
use Rattle.command.proofs.frame.frame.Goals as goal

pub returns-then-not-is_in_place : goal.returns-then-not-is_in_place
returns-then-not-is_in_place c =
    let kind = c.in_ok-kind.kind in
    let begins : Begins (line_fields c.args.line.now) kind = c.in_ok-kind.ensures in
    let out : in_place kind (is_some c.args.job) ≡ false = search rules in
    search (rules, out_of_place)

pub returns-then-not-is_right_count : goal.returns-then-not-is_right_count
returns-then-not-is_right_count c =
    let kind = c.in_ok-kind.kind in
    let begins : Begins (line_fields c.args.line.now) kind = c.in_ok-kind.ensures in
    let placed : in_place kind (is_some c.args.job) ≡ true = search rules in
    let wrong : right_count kind (grades_in c.args.job) (length (line_fields c.args.line.now)) ≡ false = search rules in
    search (rules, wrong_count)
