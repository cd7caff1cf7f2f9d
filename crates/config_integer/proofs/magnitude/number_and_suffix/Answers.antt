use Rattle.std.proofs.Common.{◌≡◌, refl, sym, ap, ◌∙◌, arith, ℕ, ◌+◌, ◌*◌, ◌<◌, ◌≤◌}
use Rattle.std.specs.Char.{digit_value}
use Rattle.std.specs.List.{slice_index}
use Rattle.config_integer.proofs.Counting.{one_digit, ended, first_digit}
use Rattle.config_integer.proofs.magnitude.number_and_suffix.Goals as goal

-- the value of a byte in the base, from the result of `digit_of`
is_digit : (base v d e : ℕ) → base ≤ 16 → (d < 16 → v ≡ d) → e ≡ d → e < base → v ≡ e
is_digit base v d e h same is low = omega arith

not_digit : (base v d e : ℕ) → base ≤ 16 → (d < 16 → v ≡ d) → (¬ (d < 16) → ¬ (v < 16)) → e ≡ d → base ≤ e
    → base ≤ v
not_digit base v d e h same other is high = grind arith

pub returns-in_err-suffix-clause-answer : goal.returns-in_err-suffix-clause-answer
returns-in_err-suffix-clause-answer c =
    c.from_residual.ensures
    ∙ ended c.args.base c.args.limit c.loop-at.number c.loop-at.at _ c.args.text.now _ _ c.in_err-suffix.was
    (omega arith) (omega arith) (c.loop-at.invariant.1 (omega arith)) refl
    (not_digit _ _ _ _ c.requires.high c.digit_of.ensures.digit c.digit_of.ensures.other c.from-digit.ensures
    c.if-digit-base.true)
    c.loop-at.invariant.0 c.suffix_of.ensures

pub returns-then-digit-base-clause-answer : goal.returns-then-digit-base-clause-answer
returns-then-digit-base-clause-answer c =
    ended c.args.base c.args.limit c.loop-at.number c.loop-at.at _ c.args.text.now _ _ c.in_ok-suffix.was
    (omega arith) (omega arith) (c.loop-at.invariant.1 (omega arith)) refl
    (not_digit _ _ _ _ c.requires.high c.digit_of.ensures.digit c.digit_of.ensures.other c.from-digit.ensures
    c.if-digit-base.true)
    c.loop-at.invariant.0 c.suffix_of.ensures

pub loop-at-preserved : goal.loop-at-preserved
loop-at-preserved c =
    let is : digit_value (slice_index c.args.text.now c.loop-at.at) ≡ c.from-digit.result =
    is_digit _ _ _ _ c.requires.high c.digit_of.ensures.digit c.from-digit.ensures c.if-digit-base.false in
    let low : digit_value (slice_index c.args.text.now c.loop-at.at) < c.args.base = omega arith in
    let sum = c.in_ok-number.ensures.1 in
    let small = rw (sym sum) at c.in_ok-number.ensures.0 in (
      c.loop-at.invariant.0
          ∙ one_digit c.args.base c.args.limit _ _ _ _ c.args.text.now (omega arith) refl low
          (sum ∙ ap (λ d. c.loop-at.number * c.args.base + d) (sym is)) small,
      λ h. first_digit c.args.base c.loop-at.at _ c.args.text.now c.loop-at.invariant.1 refl low,
      small,
    )
