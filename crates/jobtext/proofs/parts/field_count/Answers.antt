use Rattle.std.proofs.Common.{◌≡◌, ℕ, ◌+◌, ◌<◌, List, cond, eqb, eq-eqb, ne_eqb, length, get_or, drop, ap, arith}
use Rattle.std.specs.List.{count_by}
use Rattle.std.proofs.lemmas.List.{drop_all}
use Rattle.std.proofs.lemmas.List.Sums.{sum_by-drop_more}
use Rattle.std.proofs.lemmas.List.Splits.{length-slice_split}
use Rattle.jobtext.proofs.parts.field_count.Goals as goal
use Rattle.jobtext.proofs.parts.field_count.Goals.{then-byte-eq44, else-byte-eq44}

-- the commas from a byte on, by whether it is one
commas_at : (line : List ℕ) (i : ℕ) → i < length line → count_by (λ b. eqb b 44) (drop i line) ≡ cond (eqb (get_or line i 0) 44) 1 0 + count_by (λ b. eqb b 44) (drop (i + 1) line)
commas_at line i h = sum_by-drop_more (λ b. cond (eqb b 44) 1 0) line i 0 h

pub loop-byte-preserved : goal.loop-byte-preserved
loop-byte-preserved c =
    let line = c.args.line.now in
    let i = c.loop-byte.byte-index in
    let rest = count_by (λ b. eqb b 44) (drop (i + 1) line) in
    let here = commas_at line i (omega arith) in
    elim c.if-byte-eq44.branch [
      | then-byte-eq44 w ↦ (omega (arith, w.commas-is), omega (arith, w.commas-is, here, ap (λ t. cond t 1 0 + rest) (eq-eqb (get_or line i 0) 44 w.if-byte-eq44.true)))
      | else-byte-eq44 w ↦ (omega (arith, w.commas-is), omega (arith, w.commas-is, here, ap (λ t. cond t 1 0 + rest) (ne_eqb (get_or line i 0) 44 w.if-byte-eq44.false)))
    ]

pub returns : goal.returns
returns c = omega (arith, length-slice_split (λ b. eqb b 44) c.args.line.now, ap (count_by (λ b. eqb b 44)) (drop_all c.loop-byte.byte-index c.args.line.now (omega arith)))
