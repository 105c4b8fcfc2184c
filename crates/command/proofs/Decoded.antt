-- An instruction back from the fields that write it, so that fields write at most one. Assumes nothing.
use Rattle.std.proofs.Common.{◌≡◌, ℕ, ◌^◌, ◌<◌, false, cond, eqb, List, [], ◌∷◌, get_or, drop, Some, None, decimal, Option, sym, refl, ap, ◌∙◌, arith, ne_eqb}
use Rattle.std.specs.Str.Parse.{digits_value}
use Rattle.std.specs.List.{AllByRecursion}
use Rattle.std.proofs.lemmas.Fmt.{decimal_is_IsNumeral, decimal_nonempty}
use Rattle.std.proofs.lemmas.Str.Parse.{digit_at}
use Rattle.jobtext.specs.Tokens.{kind_letter}
use Rattle.jobtext.specs.declared.kind.LineKind.{LineKind}
use Rattle.jobtext.specs.declared.kind.LineKind.TheVariants.{Job, Own, Gain, TakeBack, Plan, Fewest}
use Rattle.offers.specs.declared.offer.Offer.{Offer}
use Rattle.command.specs.declared.commands.CostKind.{CostKind}
use Rattle.command.specs.declared.commands.CostKind.TheVariants.{Total, Worst}
use Rattle.command.specs.Demands.{cost_letter}
use Rattle.command.specs.Instructions.{Instruction, open_job, add, take_back, plan, fewest, own, gain, rate_field, distortion_field, pair_fields, fields_of, GoodOffer, Good}

-- letters
kind_at : ℕ → LineKind
kind_at n = cond (eqb n 74) Job (cond (eqb n 79) Own (cond (eqb n 71) Gain (cond (eqb n 85) TakeBack (cond (eqb n 66) Plan Fewest))))

kind_back : (kind : LineKind) → kind_at (kind_letter kind) ≡ kind
unfolding kind_at
kind_back Job = refl
kind_back Own = refl
kind_back Gain = refl
kind_back TakeBack = refl
kind_back Plan = refl
kind_back Fewest = refl

pub kind_once : (a b : LineKind) → kind_letter a ≡ kind_letter b → a ≡ b
kind_once a b e = sym (kind_back a) ∙ ap kind_at e ∙ kind_back b

cost_at : ℕ → CostKind
cost_at n = cond (eqb n 84) Total Worst

cost_back : (kind : CostKind) → cost_at (cost_letter kind) ≡ kind
unfolding cost_at
cost_back Total = refl
cost_back Worst = refl

-- numbers
number_back : (n : ℕ) → n < 2 ^ 32 → digits_value 10 (decimal n) ≡ n
number_back n small = (decimal_is_IsNumeral n (omega arith)).1

number_first : (n : ℕ) → n < 2 ^ 32 → eqb (get_or (decimal n) 0 0) 45 ≡ false
number_first n small =
    let digit = digit_at (decimal n) 0 (decimal_is_IsNumeral n (omega arith)).0.1 (decimal_nonempty n (omega arith)) in
    ne_eqb (get_or (decimal n) 0 0) 45 (λ e. omega (arith, e, digit.0))

-- pairs
offer_from : List ℕ → List ℕ → Option Offer
offer_from rate distortion = cond (eqb (get_or rate 0 0) 45) None (Some (record { rate = digits_value 10 rate; distortion = digits_value 10 distortion }))

offer_back : (offer : Option Offer) → GoodOffer offer → offer_from (rate_field offer) (distortion_field offer) ≡ offer
unfolding offer_from
offer_back None good = refl
offer_back (Some offer) good =
    let rate = number_back offer.rate good.0.0 in
    let distortion = number_back offer.distortion good.1.0 in
    rw (number_first offer.rate good.0.0, rate, distortion)

offers_from : List (List ℕ) → List (Option Offer)
offers_from [] = []
offers_from (rate ∷ []) = []
offers_from (rate ∷ distortion ∷ others) = offer_from rate distortion ∷ offers_from others

offers_back : (offers : List (Option Offer)) → AllByRecursion GoodOffer offers → offers_from (pair_fields offers) ≡ offers
unfolding offers_from
offers_back [] good = refl
offers_back (offer ∷ offers) good =
    let one = offer_back offer good.0 in
    let others = offers_back offers good.1 in
    cc

-- instructions
asked_by : LineKind → List (List ℕ) → Instruction
asked_by Job fields = open_job (cost_at (get_or (get_or fields 1 []) 0 0)) (digits_value 10 (get_or fields 2 [])) (digits_value 10 (get_or fields 3 [])) (digits_value 10 (get_or fields 4 []))
asked_by Own fields = add (digits_value 10 (get_or fields 1 [])) (digits_value 10 (get_or fields 2 [])) (own (offers_from (drop 3 fields)))
asked_by Gain fields = add (digits_value 10 (get_or fields 1 [])) (digits_value 10 (get_or fields 2 [])) (gain (digits_value 10 (get_or fields 3 [])) (digits_value 10 (get_or fields 4 [])))
asked_by TakeBack fields = take_back
asked_by Plan fields = plan (digits_value 10 (get_or fields 1 []))
asked_by Fewest fields = fewest (digits_value 10 (get_or fields 1 []))

asked : List (List ℕ) → Instruction
asked fields = asked_by (kind_at (get_or (get_or fields 0 []) 0 0)) fields

asked_back : (instruction : Instruction) → Good instruction → asked (fields_of instruction) ≡ instruction
unfolding asked asked_by kind_at
asked_back (open_job kind grades ceiling charge) good =
    let k = cost_back kind in
    let g = number_back grades good.0.0 in
    let c = number_back ceiling good.1.0 in
    let h = number_back charge good.2.0 in
    cc
asked_back (add weight extra (own offers)) good =
    let w = number_back weight good.0.0 in
    let e = number_back extra good.1.0 in
    let o = offers_back offers good.2 in
    cc
asked_back (add weight extra (gain samples loudness)) good =
    let w = number_back weight good.0.0 in
    let e = number_back extra good.1.0 in
    let s = number_back samples good.2.0.0 in
    let g = number_back loudness good.2.1.0 in
    cc
asked_back take_back good = refl
asked_back (plan budget) good = ap plan (number_back budget good.0)
asked_back (fewest bound) good = ap fewest (number_back bound good.0)

-- two instructions with the same fields are one
pub asked_once : (a b : Instruction) → Good a → Good b → fields_of a ≡ fields_of b → a ≡ b
asked_once a b good fine e = sym (asked_back a good) ∙ ap asked e ∙ asked_back b fine
