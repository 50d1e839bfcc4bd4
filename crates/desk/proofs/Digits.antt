-- What `{:03}` writes of a message is its three digits.
use Rattle.std.proofs.Common.{◌≡◌, ℕ, ◌+◌, ◌/◌, ◌%◌, ◌^◌, ◌-◌, ◌≤◌, ◌<◌, false, [], ◌∷◌, arith, ⊎_elim}
use Rattle.std.proofs.lemmas.Bool.{cases_lt}
use Rattle.std.proofs.lemmas.Fmt.{decimal_digit, decimal_step}
use Rattle.std.specs.Fmt.{decimal, padded_integral, format_spec, char_count}
use Rattle.entry.specs.Report.{most_message}
use Rattle.desk.specs.Printed.{message_digits}

two : (n : ℕ) → 10 ≤ n → n < 100 → decimal n ≡ (48 + n / 10) ∷ (48 + n % 10) ∷ []
two n h k = rw (decimal_step n h (omega arith), decimal_digit (n / 10) (omega arith))

three : (n : ℕ) → 100 ≤ n → n < 1000 → decimal n ≡ (48 + n / 100) ∷ (48 + n / 10 % 10) ∷ (48 + n % 10) ∷ []
three n h k =
    let e : n / 10 / 10 ≡ n / 100 = omega arith in
    rw (decimal_step n (omega arith) (omega arith), two (n / 10) (omega arith) (omega arith), e)

pub three_digits : (n : ℕ) → n ≤ most_message → padded_integral (format_spec 32 0 4 3 (2 ^ 64 - 1)) false [] (decimal n) ≡ message_digits n
unfolding padded_integral char_count message_digits
three_digits n h =
    ⊎_elim
    (λ one.
    let a : n / 100 ≡ 0 = omega arith in
    let b : n / 10 % 10 ≡ 0 = omega arith in
    let d : n % 10 ≡ n = omega arith in
    rw (decimal_digit n one, a, b, d))
    (λ more.
    ⊎_elim
    (λ small.
    let a : n / 100 ≡ 0 = omega arith in
    let b : n / 10 % 10 ≡ n / 10 = omega arith in
    rw (two n more small, a, b))
    (λ large. rw (three n large (omega arith)))
    (cases_lt n 100))
    (cases_lt n 10)
