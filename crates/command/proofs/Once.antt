-- A line has one reading. Assumes nothing.
use Rattle.std.proofs.Common.{◌≡◌, ℕ, ◌+◌, true, false, List, [], ◌∷◌, ◌++◌, length, get_or, is_some, decimal, Option, sym, refl, ap, ◌∙◌, subst, inl, inr, append_assoc, arith, length-append, eqb-true}
use lib.Seq.{get_or-append_seam}
use borrow.Author.Tests.{both_ways}
use Rattle.std.specs.List.{AllByRecursion}
use Rattle.std.proofs.lemmas.Fmt.{decimal_injective}
use Rattle.faults.specs.Refusals.{Row, first}
use Rattle.faults.specs.declared.layer.Layer.{Layer}
use Rattle.faults.specs.declared.layer.Layer.TheVariants.{Block}
use Rattle.jobtext.specs.Numbers.{Writes}
use Rattle.jobtext.specs.declared.fault.TextFault.{TextFault}
use Rattle.jobtext.specs.declared.fault.TextFault.TheVariants.{UnknownFirst, OutOfPlace, WrongCount}
use Rattle.jobtext.specs.declared.kind.LineKind.{LineKind}
use Rattle.offers.specs.Faults.{weight_row, extra_row, samples_row, gain_row, rate_row, distortion_row}
use Rattle.offers.specs.declared.offer.Offer.{Offer}
use Rattle.terms.specs.Faults.{grades_row, ceiling_row, charge_row}
use Rattle.command.specs.Demands.{any_row, InRow, NumberIn, NotNumberIn, Demand, a_cost_kind, a_number, a_rate, a_distortion, By, Meets, Fails, FirstFails, pairs}
use Rattle.command.specs.Instructions.{Instruction, open_job, add, take_back, plan, fewest, own, gain, pair_fields, kind_of, fields_of, GoodOffer, Good}
use Rattle.command.specs.Pairs.{StandAt}
use Rattle.command.specs.Lines.{grades_in, in_place, right_count, demands, Begins, Refused, unknown_first, out_of_place, wrong_count, wrong_field, Accepted, ReadOnce}
use Rattle.command.proofs.Decoded.{kind_once, asked_once}
use Rattle.command.proofs.PairLaws.{offer_meets, length_pairs}

-- one field
number_once : (field : List ℕ) (m n : ℕ) → Writes field m → Writes field n → m ≡ n
number_once field m n w v = decimal_injective m n (omega (arith, w.0)) (omega (arith, v.0)) (sym w.1 ∙ v.1)

module _ (own-layer : Layer) (row : ℕ → Row) (field : List ℕ) where
  in_row : (n : ℕ) (l : Layer) (a : ℕ) → NumberIn row field n → NotNumberIn own-layer row field l a → ⊥
  in_row n l a number (inl h) = h.1 n number.0.0 number.0.1
  in_row n l a number (inr h) =
      let same = ap (λ k. first (row k)) (number_once field n h.1.0 number.0 h.1.1) in
      let none = number.1 in
      let some = h.1.2 in
      cc

  out_once : (l m : Layer) (a b : ℕ) → NotNumberIn own-layer row field l a → NotNumberIn own-layer row field m b → (l ≡ m) × (a ≡ b)
  out_once l m a b (inl p) (inl q) = (p.0.0 ∙ sym q.0.0, p.0.1 ∙ sym q.0.1)
  out_once l m a b (inl p) (inr q) = absurd (p.1 q.1.0 q.1.1.0 q.1.1.1)
  out_once l m a b (inr p) (inl q) = absurd (q.1 p.1.0 p.1.1.0 p.1.1.1)
  out_once l m a b (inr p) (inr q) =
      let same = ap (λ k. first (row k)) (number_once field p.1.0 q.1.0 p.1.1 q.1.1) in
      let this = p.1.2 in
      let that = q.1.2 in
      (p.0 ∙ sym q.0, (cc))

meets_not : (demand : Demand) (before field : List ℕ) (l : Layer) (a : ℕ) → Meets demand before field → Fails demand before field l a → ⊥
meets_not a_cost_kind before field l a m f = f.1 m
meets_not (a_number layer row) before field l a m f = in_row layer row field m.0 l a m.1 f
meets_not a_rate before field l a (inl m) f = f.0 m
meets_not a_rate before field l a (inr m) f = in_row Block rate_row field m.0 l a m.1 f.1
meets_not a_distortion before field l a (inl m) (inl f) = f.1 m.1
meets_not a_distortion before field l a (inl m) (inr f) = f.0 m.0
meets_not a_distortion before field l a (inr m) (inl f) = m.0 f.0
meets_not a_distortion before field l a (inr m) (inr f) = in_row Block distortion_row field m.1.0 l a m.1.1 f.1

fails_once : (demand : Demand) (before field : List ℕ) (l m : Layer) (a b : ℕ) → Fails demand before field l a → Fails demand before field m b → (l ≡ m) × (a ≡ b)
fails_once a_cost_kind before field l m a b p q = (p.0.0 ∙ sym q.0.0, p.0.1 ∙ sym q.0.1)
fails_once (a_number layer row) before field l m a b p q = out_once layer row field l m a b p q
fails_once a_rate before field l m a b p q = out_once Block rate_row field l m a b p.1 q.1
fails_once a_distortion before field l m a b (inl p) (inl q) = (p.2.0 ∙ sym q.2.0, p.2.1 ∙ sym q.2.1)
fails_once a_distortion before field l m a b (inl p) (inr q) = absurd (q.0 p.0)
fails_once a_distortion before field l m a b (inr p) (inl q) = absurd (p.0 q.0)
fails_once a_distortion before field l m a b (inr p) (inr q) = out_once Block distortion_row field l m a b p.1 q.1

-- all fields
first_once : (wanted : List Demand) (before : List ℕ) (fields : List (List ℕ)) (k f g : ℕ) (l m : Layer) (a b : ℕ) → FirstFails wanted before fields k f l a → FirstFails wanted before fields k g m b → (f ≡ g) × (l ≡ m) × (a ≡ b)
first_once [] before fields k f g l m a b p q = absurd p
first_once (d ∷ ds) before fields k f g l m a b (inl p) (inl q) = let same = fails_once d before (get_or fields k []) l m a b p.1 q.1 in (p.0 ∙ sym q.0, same.0, same.1)
first_once (d ∷ ds) before fields k f g l m a b (inl p) (inr q) = absurd (meets_not d before (get_or fields k []) l a q.0 p.1)
first_once (d ∷ ds) before fields k f g l m a b (inr p) (inl q) = absurd (meets_not d before (get_or fields k []) m b p.0 q.1)
first_once (d ∷ ds) before fields k f g l m a b (inr p) (inr q) = first_once ds (get_or fields k []) fields (k + 1) f g l m a b p.1 q.1

-- each field from k on is as asked
abbrev AllMeet : List Demand → List ℕ → List (List ℕ) → ℕ → Type 0
AllMeet [] before fields k = Unit {0}
AllMeet (d ∷ ds) before fields k = Meets d before (get_or fields k []) × AllMeet ds (get_or fields k []) fields (k + 1)

none_fails : (wanted : List Demand) (before : List ℕ) (fields : List (List ℕ)) (k f : ℕ) (l : Layer) (a : ℕ) → AllMeet wanted before fields k → FirstFails wanted before fields k f l a → ⊥
none_fails [] before fields k f l a m x = x
none_fails (d ∷ ds) before fields k f l a m (inl x) = meets_not d before (get_or fields k []) l a m.0 x.1
none_fails (d ∷ ds) before fields k f l a m (inr x) = none_fails ds (get_or fields k []) fields (k + 1) f l a m.1 x.1

-- the fields of a good instruction are as asked
stands : (xs ys : List (List ℕ)) → StandAt (xs ++ ys) (length xs) ys
stands xs [] = tt
stands xs (y ∷ ys) =
    let whole : (xs ++ y ∷ []) ++ ys ≡ xs ++ y ∷ ys = append_assoc xs (y ∷ []) ys in
    let long : length (xs ++ y ∷ []) ≡ length xs + 1 = length-append xs (y ∷ []) in
    (get_or-append_seam xs y ys [], subst (λ k. StandAt (xs ++ y ∷ ys) k ys) long (subst (λ fields. StandAt fields (length (xs ++ y ∷ [])) ys) whole (stands (xs ++ y ∷ []) ys)))

pairs_meet : (offers : List (Option Offer)) (before : List ℕ) (fields : List (List ℕ)) (k : ℕ) → StandAt fields k (pair_fields offers) → AllByRecursion GoodOffer offers → AllMeet (pairs (length offers)) before fields k
pairs_meet [] before fields k h good = tt
pairs_meet (offer ∷ offers) before fields k h good =
    let meets = offer_meets fields k offer good.0 h.0 h.1.0 in
    (meets.0, (meets.1, pairs_meet offers (get_or fields (k + 1) []) fields (k + 1 + 1) h.1.1 good.1))

written_in : (row : ℕ → Row) (n : ℕ) → InRow row n → NumberIn row (decimal n) n
written_in row n h = ((h.0, refl), h.1)

good_meets : (instruction : Instruction) (grades : ℕ) → Good instruction → right_count (kind_of instruction) grades (length (fields_of instruction)) ≡ true → AllMeet (demands (kind_of instruction) grades) (get_or (fields_of instruction) 0 []) (fields_of instruction) 1
good_meets (open_job kind n ceiling charge) grades good count = ((kind, refl), ((n, written_in grades_row n good.0), ((ceiling, written_in ceiling_row ceiling good.1), ((charge, written_in charge_row charge good.2), tt))))
good_meets (add weight extra (own offers)) grades good count =
    let fields = fields_of (add weight extra (own offers)) in
    let long : length offers ≡ grades = omega (arith, length_pairs offers, eqb-true _ _ count) in
    let others = pairs_meet offers (decimal extra) fields 3 (stands (get_or fields 0 [] ∷ decimal weight ∷ decimal extra ∷ []) (pair_fields offers)) good.2 in
    ((weight, written_in weight_row weight good.0), ((extra, written_in extra_row extra good.1), subst (λ n. AllMeet (pairs n) (decimal extra) fields 3) long others))
good_meets (add weight extra (gain samples loudness)) grades good count = ((weight, written_in weight_row weight good.0), ((extra, written_in extra_row extra good.1), ((samples, written_in samples_row samples good.2.0), ((loudness, written_in gain_row loudness good.2.1), tt))))
good_meets take_back grades good count = tt
good_meets (plan budget) grades good count = ((budget, written_in any_row budget good), tt)
good_meets (fewest bound) grades good count = ((bound, written_in any_row bound good), tt)

module _ (job : Option ℕ) (fields : List (List ℕ)) where
  begins_once : (a b : LineKind) → Begins fields a → Begins fields b → a ≡ b
  begins_once a b p q = kind_once a b (ap (λ l. get_or l 0 0) (sym p ∙ q))

  one_instruction : (a b : Instruction) → Accepted job fields a → Accepted job fields b → a ≡ b
  one_instruction a b p q = asked_once a b p.good q.good (sym p.written ∙ q.written)

  module _ (asked : Instruction) (p : Accepted job fields asked) where
    begins_is : Begins fields (kind_of asked)
    begins_is = ap (λ l. get_or l 0 []) p.written

    not_both : (field : ℕ) (layer : Layer) (number : ℕ) → Refused job fields field layer number → ⊥
    not_both field layer number (unknown_first f n none) = none (kind_of asked) begins_is
    not_both field layer number (out_of_place f n kind begins out) = both_ways (in_place kind (is_some job)) out (subst (λ k. in_place k (is_some job) ≡ true) (begins_once (kind_of asked) kind begins_is begins) p.placed)
    not_both field layer number (wrong_count f n kind begins placed wrong) = both_ways (right_count kind (grades_in job) (length fields)) wrong (subst (λ k. right_count k (grades_in job) (length fields) ≡ true) (begins_once (kind_of asked) kind begins_is begins) p.counted)
    not_both field layer number (wrong_field kind framed fails) =
        let fails-here = subst (λ k. FirstFails (demands k (grades_in job)) (get_or fields 0 []) fields 1 field layer number) (begins_once kind (kind_of asked) framed.begins begins_is) fails in
        let meets = good_meets asked (grades_in job) p.good (subst (λ l. right_count (kind_of asked) (grades_in job) (length l) ≡ true) p.written p.counted) in
        none_fails (demands (kind_of asked) (grades_in job)) (get_or fields 0 []) fields 1 field layer number (subst (λ l. AllMeet (demands (kind_of asked) (grades_in job)) (get_or l 0 []) l 1) (sym p.written) meets) fails-here

  module _ (f g : ℕ) (l m : Layer) (a b : ℕ) where
    placed_not : (j k : LineKind) → Begins fields j → Begins fields k → in_place j (is_some job) ≡ true → in_place k (is_some job) ≡ false → ⊥
    placed_not j k p q yes-here not-here = both_ways (in_place k (is_some job)) not-here (subst (λ i. in_place i (is_some job) ≡ true) (begins_once j k p q) yes-here)

    counted_not : (j k : LineKind) → Begins fields j → Begins fields k → right_count j (grades_in job) (length fields) ≡ true → right_count k (grades_in job) (length fields) ≡ false → ⊥
    counted_not j k p q yes-here not-here = both_ways (right_count k (grades_in job) (length fields)) not-here (subst (λ i. right_count i (grades_in job) (length fields) ≡ true) (begins_once j k p q) yes-here)

    alike : (fault : TextFault) (at : ℕ) → f ≡ at → By fault l a → g ≡ at → By fault m b → (f ≡ g) × (l ≡ m) × (a ≡ b)
    alike fault at p x q y = (p ∙ sym q, x.0 ∙ sym y.0, x.1 ∙ sym y.1)

    one_refusal : Refused job fields f l a → Refused job fields g m b → (f ≡ g) × (l ≡ m) × (a ≡ b)
    one_refusal (unknown_first p x none) (unknown_first q y nil) = alike UnknownFirst 1 p x q y
    one_refusal (unknown_first p x none) (out_of_place q y k e out) = absurd (none k e)
    one_refusal (unknown_first p x none) (wrong_count q y k e placed wrong) = absurd (none k e)
    one_refusal (unknown_first p x none) (wrong_field k framed fails) = absurd (none k framed.begins)
    one_refusal (out_of_place p x j d out) (unknown_first q y none) = absurd (none j d)
    one_refusal (out_of_place p x j d out) (out_of_place q y k e late) = alike OutOfPlace 1 p x q y
    one_refusal (out_of_place p x j d out) (wrong_count q y k e placed wrong) = absurd (placed_not k j e d placed out)
    one_refusal (out_of_place p x j d out) (wrong_field k framed fails) = absurd (placed_not k j framed.begins d framed.placed out)
    one_refusal (wrong_count p x j d placed wrong) (unknown_first q y none) = absurd (none j d)
    one_refusal (wrong_count p x j d placed wrong) (out_of_place q y k e out) = absurd (placed_not j k d e placed out)
    one_refusal (wrong_count p x j d placed wrong) (wrong_count q y k e here off) = alike WrongCount 0 p x q y
    one_refusal (wrong_count p x j d placed wrong) (wrong_field k framed fails) = absurd (counted_not k j framed.begins d framed.counted wrong)
    one_refusal (wrong_field j framed fails) (unknown_first q y none) = absurd (none j framed.begins)
    one_refusal (wrong_field j framed fails) (out_of_place q y k e out) = absurd (placed_not j k framed.begins e framed.placed out)
    one_refusal (wrong_field j framed fails) (wrong_count q y k e placed wrong) = absurd (counted_not j k framed.begins e framed.counted wrong)
    one_refusal (wrong_field j framed fails) (wrong_field k other fails-too) =
        first_once (demands j (grades_in job)) (get_or fields 0 []) fields 1 f g l m a b fails (subst (λ i. FirstFails (demands i (grades_in job)) (get_or fields 0 []) fields 1 g m b) (begins_once k j other.begins framed.begins) fails-too)

pub read_once : ReadOnce
read_once = record {
  one_instruction = λ job fields a b p q. one_instruction job fields a b p q;
  one_refusal = λ job fields f l a g m b p q. one_refusal job fields f g l m a b p q;
  not_both = λ job fields asked f l a p r. not_both job fields asked p f l a r;
}
