-- Offers that are in range. Assumes nothing.
use Rattle.std.specs.Prelude.{◌≡◌, ℕ, ◌*◌, ◌<◌, ◌≤◌, Bool, true, false, cond, ◌&&◌, ltb, List, length, Some, None, Option, nat_le, nat_lt, slice_index_or, slice_set, refl}
use Rattle.std.proofs.Common.{sym, subst, ◌∙◌, ⊎_elim, rules, mul-le-mul, div-le_self, arith}
use Rattle.std.proofs.lemmas.List.{get_or-set_same, get_or-set_other, set_past}
use Rattle.std.proofs.lemmas.Bool.{and_parts, leb-true, cases_Bool, cases_lt, cases_eq}
use Rattle.std.proofs.lemmas.Grind.{common_steps}
use Rattle.offers.specs.declared.offer.Offer.{Offer}
use Rattle.offers.specs.declared.gain.GainBlock.{GainBlock}
use Rattle.offers.specs.Offers.{offer_of, InRange, Ranged}
use Rattle.offers.specs.Levels.{levels, eighths, profile}
use Rattle.offers.specs.Gain.{gain_means}
use Rattle.offers.specs.Eighths.{eighths_few}

pub none_is : {P : Type 0} (offer : Offer) → None ≡ Some offer → P
none_is offer e = let z : ◌≡◌ {A = ℕ} 0 1 = cc in absurd (omega arith)

-- what a test lets through
passed : (t : Bool) (x offer : Offer) → cond t (Some x) None ≡ Some offer → (t ≡ true) × (x ≡ offer)
passed true x offer e = (refl, cc)
passed false x offer e = none_is offer e

-- what is made of a rate and a distortion is in range
pub made_ranged : (rate distortion : ℕ) (offer : Offer) → offer_of rate distortion ≡ Some offer → InRange offer
made_ranged rate distortion offer e =
    let p = passed (nat_le rate 65535 && nat_le distortion 16777215) (record { rate = rate; distortion = distortion }) offer e in
    let both = and_parts (nat_le rate 65535) (nat_le distortion 16777215) p.0 in
    subst InRange p.1 (leb-true rate 65535 both.0, leb-true distortion 16777215 both.1)

-- a write keeps every offer in range
pub set_ranged : (offers : List (Option Offer)) (at : ℕ) (new : Option Offer) → Ranged offers → ((offer : Offer) → new ≡ Some offer → InRange offer) → Ranged (slice_set offers at new)
set_ranged offers at new old fresh grade offer e =
    ⊎_elim
    (λ (same : grade ≡ at).
    ⊎_elim
    (λ (l : at < length offers). let put = get_or-set_same offers at new None l in fresh offer (cc))
    (λ (past : length offers ≤ at). old grade offer (subst (λ xs. slice_index_or xs grade None ≡ Some offer) (set_past offers at new past) e))
    (cases_lt at (length offers)))
    (λ (other : grade ≡ at → ⊥). old grade offer (sym (get_or-set_other offers at grade new None other) ∙ e))
    (cases_eq grade at)

levels_few : (grade : ℕ) → levels grade ≤ 255
levels_few grade = grind (arith, common_steps)

pub gain_ranged : (block : GainBlock) (grade : ℕ) (offer : Offer) → gain_means block grade ≡ Some offer → InRange offer
gain_ranged block grade offer e =
    let n = levels grade in
    let bits : block.samples * eighths n ≤ 256 * 64 = mul-le-mul block.few (eighths_few n (omega (arith, levels_few grade))) in
    let much : block.gain * profile n ≤ 255 * 65536 = mul-le-mul block.soft (div-le_self 65536 (n * n)) in
    search rules

-- what a test lets through of a list by grade
pub below_ranged : (offers : List (Option Offer)) → Ranged offers → (grade : ℕ) (offer : Offer) → cond (nat_lt grade 16) (slice_index_or offers grade None) None ≡ Some offer → InRange offer
below_ranged offers ranged grade offer e =
    ⊎_elim
    (λ (t : ltb grade 16 ≡ true). ranged grade offer (subst (λ t. cond t (slice_index_or offers grade None) None ≡ Some offer) t e))
    (λ (f : ltb grade 16 ≡ false). none_is offer (subst (λ t. cond t (slice_index_or offers grade None) None ≡ Some offer) f e))
    (cases_Bool (nat_lt grade 16))
