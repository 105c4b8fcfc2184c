-- What is a number's text, and what is none. Assumes nothing.
use Rattle.std.proofs.Common.{◌≡◌, ℕ, ◌+◌, ◌-◌, ◌*◌, ◌^◌, ◌<◌, ◌≤◌, List, length, get_or, take, Ok, Err, Result, decimal, sym, refl, ap, ◌∙◌, subst, ⊎_elim, arith, le-ltb, lt-ltb, MatchOption}
use native.Mathlib.Nat.{pow-le-pow_right}
use Rattle.std.specs.Char.{digit_value}
use Rattle.std.specs.Int.{IsInRange}
use Rattle.std.specs.Result.{OkIff, result_ok}
use Rattle.std.specs.Str.Parse.{AllDigits, digits_value}
use Rattle.std.proofs.lemmas.List.{take_all, length-take}
use Rattle.std.proofs.lemmas.Int.Digits.{digits_value-lt, digits_value_more, digits_more}
use Rattle.std.proofs.lemmas.Str.Parse.{IsNumeralModel, numerals_by_value, tells_digits, digit_at}
use Rattle.std.proofs.lemmas.Fmt.{decimal_is_IsNumeral, decimal_nonempty, length-decimal-le, first_decimal, decimal-digits_value, decimal_digit}
use Rattle.std.proofs.str.Laws.{order}
use Rattle.jobtext.specs.Numbers.{Writes, NoNumber, Form, WritesForm}

own : IsNumeralModel (AllDigits 10) (digits_value 10)
own = numerals_by_value (AllDigits 10) tells_digits

-- what writes a number has its form, and what has the form writes it
form : (f : List ℕ) (n : ℕ) → Writes f n → Form f n
form f n w =
    let small : n < 2 ^ 32 = w.0 in
    let reads = decimal_is_IsNumeral n (omega arith) in
    let long : length f ≡ length (decimal n) = ap length w.1 in
    record {
      some = omega (arith, decimal_nonempty n (omega arith));
      few = omega (arith, length-decimal-le 10 n (omega arith) (omega arith) (omega arith));
      digits = subst (AllDigits 10) (sym w.1) reads.0.1;
      lead = λ e. ⊎_elim (λ pos. absurd (omega (arith, e, ap (λ l. get_or l 0 0) w.1, first_decimal n pos (omega arith)))) (λ nought. omega (arith, ap length (decimal_digit n (omega arith)))) (order 0 n);
      is = ap (digits_value 10) w.1 ∙ reads.1;
      most = omega arith;
    }

written : (f : List ℕ) (n : ℕ) → AllDigits 10 f → 1 ≤ length f → (get_or f 0 0 ≡ 48 → length f ≡ 1) → digits_value 10 f ≡ n → n < 2 ^ 32 → Writes f n
written f n digits some lead is small = (small, sym (decimal-digits_value own f digits some lead (omega (arith, is))) ∙ ap decimal is)

pub writes_form : WritesForm
writes_form f n = (form f n, λ h. let most : n ≤ 4294967295 = h.most in written f n h.digits h.some h.lead h.is (omega arith))

digit_is : (b : ℕ) → 48 ≤ b → b ≤ 57 → digit_value b ≡ b - 48
digit_is b low high = rw (le-ltb b 48 low) (rw (lt-ltb b 58 (omega arith)) refl)

-- the first i bytes of f are digits, and write v
pub record Sofar (f : List ℕ) (i v : ℕ) : Type 0 where
  pub digits : AllDigits 10 (take i f)
  pub is : v ≡ digits_value 10 (take i f)

pub sofar_none : (f : List ℕ) → Sofar f 0 0
sofar_none f = record { digits = tt; is = refl }

pub sofar_more : (f : List ℕ) (i v : ℕ) → Sofar f i v → i < length f → 48 ≤ get_or f i 0 → get_or f i 0 ≤ 57 → Sofar f (i + 1) (v * 10 + (get_or f i 0 - 48))
sofar_more f i v h lt low high =
    let d = digit_is (get_or f i 0) low high in
    record {
      digits = digits_more 10 f i lt h.digits (omega (arith, d));
      is = ap (λ n. n * 10 + (get_or f i 0 - 48)) h.is ∙ ap (λ n. digits_value 10 (take i f) * 10 + n) (sym d) ∙ sym (digits_value_more 10 f i lt);
    }

pub sofar_small : (f : List ℕ) (i v : ℕ) → Sofar f i v → length f ≤ 10 → v < 10 ^ 10
sofar_small f i v h short =
    let most : 10 ^ length (take i f) ≤ 10 ^ 10 = pow-le-pow_right (omega arith) {i = length (take i f)} {j = 10} (omega (arith, length-take i f)) in
    omega (arith, h.is, digits_value-lt 10 (take i f) h.digits, most)

pub sofar_all : (f : List ℕ) (i v : ℕ) → Sofar f i v → length f ≤ i → AllDigits 10 f × (v ≡ digits_value 10 f)
sofar_all f i v h all = let e = take_all i f all in (subst (AllDigits 10) e h.digits, h.is ∙ ap (digits_value 10) e)

module _ (f : List ℕ) where
  -- no number has such a text
  unlike : ((n : ℕ) → Form f n → ⊥) → NoNumber f
  unlike never n lt is = never n (form f n (lt, is))

  pub none_digit : (i : ℕ) → i < length f → (IsInRange 48 57 (get_or f i 0) → ⊥) → NoNumber f
  none_digit i at out = unlike (λ n h. out (digit_at f i h.digits at))

  pub none_long : 10 < length f → NoNumber f
  none_long long = unlike (λ n h. omega (arith, long, h.few))

  pub none_lead : (get_or f 0 0 ≡ 48) × (1 < length f) → NoNumber f
  none_lead lead = unlike (λ n h. omega (arith, h.lead lead.0))

  pub none_empty : length f ≡ 0 → NoNumber f
  none_empty e = unlike (λ n h. omega (arith, e, h.some))

  -- what is made of the value of all bytes
  pub told : {E : Type 0} (i v : ℕ) (r : Result ℕ E) → Sofar f i v → length f ≤ i → 0 < length f → (get_or f 0 0 ≡ 48 → length f ≤ 1) → OkIff r (v < 2 ^ 32) v → MatchOption (result_ok r) (NoNumber f) (Writes f)
  told i v (Ok n) so all some lead h = let done = sofar_all f i v so all in written f n done.0 some (λ e. omega (arith, some, lead e)) (sym done.1 ∙ sym h.1) (omega (arith, h.0, h.1))
  told i v (Err e) so all some lead h = let done = sofar_all f i v so all in unlike (λ n g. h (omega (arith, done.1, g.is, g.most)))
