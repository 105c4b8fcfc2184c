-- The eighths of a number of levels: the smallest power, by its definition and by the table. Assumes nothing.
use Rattle.std.specs.Prelude.{◌≡◌, ℕ, zero, suc, ◌+◌, ◌-◌, ◌^◌, ◌<◌, ◌≤◌, Bool, true, ◌&&◌, List, length, nat_le, nat_lt, slice_index}
use Rattle.std.proofs.Common.{subst, ⊎_elim, arith, pow_mono}
use Rattle.std.proofs.Math.Nat.{pow-le-pow_left}
use Rattle.std.proofs.lemmas.Bool.{and_parts, leb-true, leb-false, ltb-true, cases_lt, cond_both}
use Rattle.offers.specs.Levels.{Least, EighthsTable, first_from, eighths}
use Rattle.offers.specs.Table.{every, at}

-- the larger power of 2 has the larger exponent
larger : (q p x : ℕ) → 2 ^ q < x → x ≤ 2 ^ p → q < p
larger q p x a b = ⊎_elim (λ (l : q < p). l) (λ (l : p ≤ q). absurd (let m : 2 ^ p ≤ 2 ^ q = pow_mono l in omega arith)) (cases_lt q p)

-- the rule as a test of the entry q for n levels: 2 to the power q is at least n to the power 8, and no smaller power is
abbrev none_less : ℕ → ℕ → Bool
none_less n zero = true
none_less n (suc p) = nat_lt (2 ^ p) (n ^ 8)

abbrev least_test : ℕ → ℕ → Bool
least_test n q = nat_le (n ^ 8) (2 ^ q) && none_less n q

-- the same test of the entry at the index k, which is that of k + 1 levels
abbrev pub right : ℕ → ℕ → Bool
right k q = least_test (suc k) q

no_less : (n q : ℕ) → none_less n q ≡ true → (p : ℕ) → n ^ 8 ≤ 2 ^ p → q ≤ p
no_less n zero passed p h = omega arith
no_less n (suc q) passed p h = larger q p (n ^ 8) (ltb-true (2 ^ q) (n ^ 8) passed) h

least_from : (n q : ℕ) → least_test n q ≡ true → Least n q
least_from n q passed =
    let both = and_parts (nat_le (n ^ 8) (2 ^ q)) (none_less n q) passed in
    (leb-true (n ^ 8) (2 ^ q) both.0, no_less n q both.1)

-- a table whose entries all pass the test has the smallest power at each number of levels
table_least : (table : List ℕ) → every right 0 table ≡ true → (n : ℕ) → 1 ≤ n → n ≤ length table → Least n (slice_index table (n - 1))
table_least table passed n some few =
    let e : suc (n - 1) ≡ n = omega arith in
    subst (λ (m : ℕ). Least m (slice_index table (n - 1))) e (least_from (suc (n - 1)) (slice_index table (n - 1)) (at right table passed (n - 1) (omega arith)))

-- at most one number is the smallest
one_least : (n p q : ℕ) → Least n p → Least n q → p ≡ q
one_least n p q a b = omega (arith, a.1 q b.0, b.1 p a.0)

-- the definition finds it
found : (k q x : ℕ) → x ≤ 2 ^ (q + k) → ((p : ℕ) → x ≤ 2 ^ p → q ≤ p) → (x ≤ 2 ^ first_from k q x) × ((p : ℕ) → x ≤ 2 ^ p → first_from k q x ≤ p)
unfolding first_from
found zero q x h low = let e : q + 0 ≡ q = omega arith in (subst (λ (m : ℕ). x ≤ 2 ^ m) e h, low)
found (suc k) q x h low =
    cond_both (nat_le x (2 ^ q)) q (first_from k (suc q) x)
    (λ r. (x ≤ 2 ^ r) × ((p : ℕ) → x ≤ 2 ^ p → r ≤ p))
    (λ e. (leb-true x (2 ^ q) e, low))
    (λ e. let s : q + suc k ≡ suc q + k = omega arith in found k (suc q) x (subst (λ (m : ℕ). x ≤ 2 ^ m) s h) (λ p l. larger q p x (leb-false x (2 ^ q) e) l))

eighths_least : (n : ℕ) → n ≤ 256 → Least n (eighths n)
eighths_least n h = found 64 0 (n ^ 8) (pow-le-pow_left h 8) (λ p l. omega arith)

pub eighths_few : (n : ℕ) → n ≤ 256 → eighths n ≤ 64
eighths_few n h = (eighths_least n h).1 64 (pow-le-pow_left h 8)

-- a table of 255 entries that pass the test is the table of eighths
pub table_right : (table : List ℕ) → length table ≡ 255 → every right 0 table ≡ true → EighthsTable table
table_right table whole passed =
    let least : (n : ℕ) → 1 ≤ n → n ≤ 255 → Least n (slice_index table (n - 1)) = λ n some few. table_least table passed n some (omega arith) in
    record {
      whole = whole;
      least = least;
      entries = λ n some few. one_least n (slice_index table (n - 1)) (eighths n) (least n some few) (eighths_least n (omega arith));
    }
