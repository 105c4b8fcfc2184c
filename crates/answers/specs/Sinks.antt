-- What a text does to the bytes that are left, and to those that are written; and that two texts in a row do what they do as one.
-- Assumes nothing.
use Rattle.std.specs.Prelude.{◌≡◌, ℕ, ◌-◌, ◌≤◌, List, ◌++◌, length, Some, None, Option, if◌then◌else◌, nat_lt}
use Rattle.std.proofs.Common.{refl, sym, subst, append_assoc, arith, rules}
use Rattle.std.proofs.lemmas.List.{length-append}
use Rattle.answers.specs.Room.{LineIn}

-- what is left of some room after a text, none where the text is longer
abbrev pub left_after : List ℕ → Option ℕ → Option ℕ
left_after text None = None
left_after text (Some left) = if nat_lt left (length text) then None else Some (left - length text)

-- where a line stood at the front, the line and the text stand there now, if the room has bytes for both
abbrev pub Continues : List ℕ → List ℕ → List ℕ → ℕ → ℕ → Type 0
Continues text before after at next = (line room : List ℕ) → LineIn line room before at → length (line ++ text) ≤ length room → LineIn (line ++ text) room after next

pub left_after_both : (a b : List ℕ) (left : Option ℕ) → left_after b (left_after a left) ≡ left_after (a ++ b) left
left_after_both a b None = refl
left_after_both a b (Some left) = let long = length-append a b in search rules

pub continues_both : (a b first middle last : List ℕ) (at next end : ℕ) → Continues a first middle at next → Continues b middle last next end → Continues (a ++ b) first last at end
continues_both a b first middle last at next end p q line room start fits =
    let same = append_assoc line a b in
    let both : length ((line ++ a) ++ b) ≤ length room = subst (λ text. length text ≤ length room) (sym same) fits in
    let front = p line room start (omega (arith, both, length-append (line ++ a) b)) in
    subst (λ text. LineIn text room last end) same (q (line ++ a) room front both)
