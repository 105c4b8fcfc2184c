-- A dash is no number, and a rate out of range is no dash. Assumes nothing.
use Rattle.std.proofs.Common.{◌≡◌, ℕ, List, [], length, get_or, Some, sym, refl, ap, inr, arith}
use Rattle.jobtext.specs.Numbers.{Writes, NoNumber}
use Rattle.std.specs.Borrow.{Bor}
use Rattle.jobtext.specs.Tokens.{dash, TokenOf}
use Rattle.jobtext.specs.declared.token.Token.{Token}
use Rattle.jobtext.specs.declared.token.Token.TheVariants.{Number, Dash, Other}
use Rattle.jobtext.proofs.NumberLaws.{none_digit}
use Rattle.faults.specs.Refusals.{first}
use Rattle.faults.specs.declared.layer.Layer.TheVariants.{Block}
use Rattle.offers.specs.Faults.{rate_row}
use Rattle.command.specs.Demands.{a_rate, Fails}

pub dash_none : (field : List ℕ) → field ≡ dash → NoNumber field
dash_none field e = none_digit field 0 (omega (arith, ap length e)) (λ h. omega (arith, h.0, ap (λ l. get_or l 0 0) e))

pub not_dash : (field : List ℕ) (n : ℕ) → Writes field n → field ≡ dash → ⊥
not_dash field n w e = dash_none field e n w.0 w.1

pub rate_out : (field : List ℕ) (rate number : ℕ) → Writes field rate → Some number ≡ first (rate_row rate) → Fails a_rate [] field Block number
rate_out field rate number w e = (not_dash field rate w, inr (refl, (rate, w, sym e)))

-- a token of another case than a number or a dash
pub no_number : (field : List ℕ) (token : Token) → TokenOf field token → ((text : Bor (List ℕ)) (n : ℕ) → token ≡ Number text n → ⊥) → NoNumber field
no_number field (Number text n) told other = absurd (other text n refl)
no_number field (Dash text) told other = dash_none field told.1
no_number field (Other text) told other = told.1

pub no_dash : (field : List ℕ) (token : Token) → TokenOf field token → ((text : Bor (List ℕ)) → token ≡ Dash text → ⊥) → field ≡ dash → ⊥
no_dash field (Number text n) told other = not_dash field n told.1
no_dash field (Dash text) told other = absurd (other text refl)
no_dash field (Other text) told other = told.2
