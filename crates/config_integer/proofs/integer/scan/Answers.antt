use Rattle.std.proofs.Common.{◌≡◌, refl, sym, ap, ◌∙◌, arith, ℕ, ◌≤◌, ℤ, to_z, of_z, w64, Bool, List, Option}
use Rattle.std.proofs.Common.{Some}
use Rattle.std.proofs.lemmas.Int.{ints, to_z-of_z}
use Rattle.std.specs.Option.{option_map}
use Rattle.config_integer.specs.declared.suffix.Suffix.{Suffix}
use Rattle.config_integer.specs.Reading.Integer.{sign_and_rest, magnitude_of, largest, with_sign}
use Rattle.config_integer.specs.Reading.Integer.{signed_integer, integer_after, integer_of}
use Rattle.config_integer.specs.Laws.Integer.{integer_of_is, in_range_of}
use Rattle.config_text.specs.Laws.Value.{reads_by}
use Rattle.config_integer.proofs.integer.scan.Goals as goal

-- the sign and what is read after it give the integer of the whole text
after_sign : (t rest : List ℕ) (b : Bool) (limit : ℕ) (r : Option (ℕ × Option Suffix))
    → (b, rest) ≡ sign_and_rest t
    → limit ≡ largest b → r ≡ magnitude_of limit rest → option_map (signed_integer b) r ≡ integer_of t
after_sign t rest b limit r split is read =
    ap (option_map (signed_integer b)) (read ∙ ap (λ n. magnitude_of n rest) is) ∙ ap integer_after split

-- the bits of a number in range represent the number
same_number : (z : ℤ) (o : Option Suffix) (b : Bool) (n : ℕ) → n ≤ largest b → z ≡ with_sign b n
    → signed_integer b (n, o) ≡ record { value = to_z w64 (of_z w64 z); suffix = o }
same_number z o b n small is =
    let r = in_range_of b n small in
    rw is (rw (to_z-of_z w64 (with_sign b n) (omega (arith, ints, r.low, r.high))) refl)

pub returns-in_err-magnitude : goal.returns-in_err-magnitude
returns-in_err-magnitude c =
    let read = after_sign c.args.input.now _ _ _ _
    c.sign_and_rest-is_negative.ensures c.largest.ensures c.magnitude_and_suffix.ensures.answer in
    reads_by integer_of_is _ _ (c.from_residual.ensures ∙ rw c.in_err-magnitude.was at read)

pub returns : goal.returns
returns c =
    let read = after_sign c.args.input.now _ _ _ _
    c.sign_and_rest-is_negative.ensures c.largest.ensures c.magnitude_and_suffix.ensures.answer in
    let value = c.in_ok-value.ensures in
    integer_of_is.derived c.args.input.now _
    (sym (rw c.in_ok-magnitude.was at read) ∙ ap Some (same_number _ _ _ _ value.0 value.1))
